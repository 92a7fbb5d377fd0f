-- What changes of a text make of it, and what is known of commands.
use Rattle.std.proofs.Common.{◌≡◌, ℕ, Bool, true, false, cond, List, [], ◌∷◌, ◌++◌, map, sym, ap, ◌∙◌, arith, Option, Some, None}
use Rattle.std.specs.Prelude.{◌≢◌, codes, All, IfSome, MatchOption}
use Rattle.std.proofs.lemmas.List.Elements.{All-nil, All-cons, All-head, All-tail, All-map}
use Rattle.std.specs.Borrow.{Bor}
use Rattle.port_echo.specs.Echo.{IsMessage, Prints}
use Rattle.port_edits.specs.declared.edit.Edit.{Edit}
use Rattle.port_edits.specs.Edits.{Change, change_of, fits, kept, with_changes}
use Rattle.port_edits.proofs.Steps.{kept_apart}
use Rattle.port_breaks.specs.Breaks.{IsBreak, IsBroken, IsMade, IsTold}
use Rattle.port_breaks.specs.Breaks as specs

-- What holds of each change holds of those that are made.
kept_by : (P : Change → Type 0) (change : Change) (made left : List Change) (b : Bool) → P change → All P made → All P left → All P (cond b (change ∷ made) left)
kept_by P change made left true holds each other = All-cons P change made holds each
kept_by P change made left false holds each other = other

kept_each : (P : Change → Type 0) (text : List ℕ) (at : ℕ) (changes : List Change) → All P changes → All P (kept text at changes)
unfolding kept
kept_each P text at [] all = All-nil P
kept_each P text at (change ∷ changes) all =
    let rest = All-tail P change changes all in
    kept_by P change (kept text change.end changes) (kept text at changes) (fits text at change) (All-head P change changes all) (kept_each P text change.end changes rest) (kept_each P text at changes rest)

-- A text with the edits that can be made.
pub made_from : (P : Change → Type 0) (text : List ℕ) (given edits : List Edit) (out : List ℕ) → given ≡ edits → All (λ e. P (change_of e)) edits
    → out ≡ with_changes text 0 (kept text 0 (map change_of given)) → IsMade P text out
made_from P text given edits out same each is =
    record {
      changes = kept text 0 (map change_of edits);
      apart = kept_apart text 0 (map change_of edits) (omega arith);
      each = kept_each P text 0 (map change_of edits) (All-map P change_of edits each);
      is = is ∙ ap (λ g. with_changes text 0 (kept text 0 (map change_of g))) same;
    }

-- An `echo` of what prints a message.
pub prints_told : (command given message : List ℕ) → command ≡ codes "echo " ++ given → Prints given message × IsMessage message → IsTold command
prints_told command given message is (prints, shown) = specs.IsTold.prints given message is prints shown

-- What is after a front that was taken off.
pub stripped : (text name : List ℕ) (r : Option (Bor (List ℕ))) → MatchOption r ((rest : List ℕ) → text ≢ name ++ rest) (λ x. text ≡ name ++ x.now)
    → IfSome r (λ rest. text ≡ name ++ rest.now)
stripped text name None h = tt
stripped text name (Some x) h = h
