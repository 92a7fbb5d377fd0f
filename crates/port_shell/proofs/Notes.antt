-- What is written right before a call.
use Rattle.std.proofs.Common.{◌≡◌, ℕ, List, true, Option, Some, None, Result, Ok, Err, sym, subst}
use Rattle.std.specs.Prelude.{IfOk, IfSome}
use Rattle.std.specs.List.{list_all}
use Rattle.port_parts.specs.Places.{is_space_or_return}
use Rattle.port_idioms.specs.declared.idioms.Idioms.{Idioms}
use Rattle.port_idioms.specs.declared.idioms.Idioms.TheVariants.{All}
use Rattle.port_shell.specs.Formed.{IsNote, noted}
use Rattle.port_shell.specs.Formed as specs

-- A comment with blanks after it is a note, if all idioms are wanted.
pub commented : (indent items : List ℕ) → list_all is_space_or_return indent ≡ true → items ≡ noted indent → IsNote All items
commented indent items blank is = subst (IsNote All) (sym is) (specs.IsNote.comment indent blank)

-- What is a note if all idioms are wanted is one for these idioms, which are all.
pub for_all : {E V : Type 0} (items : V → List ℕ) (idioms : Idioms) (r : Result (Option V) E) → idioms ≡ All
    → IfOk r (λ o. IfSome o (λ v. IsNote All (items v))) → IfOk r (λ o. IfSome o (λ v. IsNote idioms (items v)))
for_all items idioms (Ok (Some v)) all note = subst (λ i. IsNote i (items v)) (sym all) note
for_all items idioms (Ok None) all note = tt
for_all items idioms (Err e) all note = tt
