-- A call is a statement exactly if it is apart.
use Rattle.std.proofs.Common.{◌≡◌, true, ℕ, ◌+◌, ◌≤◌, List, [], ◌∷◌, ◌++◌, take, reverse, refl, sym, ap, subst, ◌∙◌, arith}
use Rattle.std.proofs.lemmas.List.{append-nil}
use Rattle.m4quote.specs.ItemValue.{Span, ItemValue, call}
use Rattle.m4quote.specs.Spelling.{Spells, nothing, bare_text, dropped_line, bare_name, with_arguments}
use Rattle.m4quote.proofs.Insides.{front_fits}
use Rattle.ac_statement.specs.Stand.{no_line_start, line_start_of, is_statement}
use Rattle.ac_statement.specs.declared.placement.LineStart.{LineStart}
use Rattle.ac_tree.specs.declared.declarations.Declarations as declarations
use Rattle.ac_tree.specs.Lists.{after_all}
use Rattle.ac_tree.specs.Script.{Script}
use Rattle.ac_macros.specs.ListKind.{ListKind}
use Rattle.acparse.specs.Statements.{Within, IsBody, IsItem, plain_call, choice, question, check, AreStatements, one}
use Rattle.ac_laws.specs.Signs.{Sign, call_sign, byte_sign, bytes, signs_of}
use Rattle.ac_laws.specs.Position.{line_start_after, StatementsAreApart, ReadAreApart}
use Rattle.ac_laws.proofs.Opens.{ends_before, ends_after, signs_open, both_true}
use Rattle.ac_laws.proofs.Founds.{find, Pending}
use Rattle.ac_laws.proofs.Clear.{clear_after-opens, opens-clear_after, clear_before-opens, opens-clear_before}

-- ---- each call is one sign

-- The calls are at these offsets or later ones, each later than the one before it.
abbrev Rises : ℕ → List Sign → Type 0
Rises at [] = Unit {0}
Rises at (call_sign to ∷ signs) = (at ≤ to) × Rises (to + 1) signs
Rises at (byte_sign b ∷ signs) = Rises at signs

Rises-earlier : (a b : ℕ) (signs : List Sign) → a ≤ b → Rises b signs → Rises a signs
Rises-earlier a b [] le h = tt
Rises-earlier a b (call_sign to ∷ signs) le h = (omega (arith, le, h.0), h.1)
Rises-earlier a b (byte_sign x ∷ signs) le h = Rises-earlier a b signs le h

Rises-bytes : (at : ℕ) (text : List ℕ) (signs : List Sign) → Rises at signs
    → Rises at (bytes text ++ signs)
Rises-bytes at [] signs h = h
Rises-bytes at (b ∷ bs) signs h = Rises-bytes at bs signs h

rises : {at : ℕ} {text : List ℕ} {items : List ItemValue} → (s : Spells at text items)
    → Rises at (signs_of s)
rises nothing = tt
rises (bare_text {at} {n} {kind} {text} {items} front is_bare rest) =
    Rises-bytes at (take n text) (signs_of rest)
    (Rises-earlier at (at + n) (signs_of rest) (omega arith) (rises rest))
rises (dropped_line {at} {n} {text} {items} front rest) =
    Rises-earlier at (at + n) (signs_of rest) (omega arith) (rises rest)
rises (bare_name {at} {n} {text} {items} front alone rest) = (
  omega arith,
  Rises-earlier (at + 1) (at + n) (signs_of rest)
      (omega (arith, (front_fits front).0)) (rises rest),
)
rises (with_arguments {at} {n} {m} {text} {inside} {args} {items} front paren given rest) = (
  omega arith,
  Rises-earlier (at + 1) (at + n + 1 + m) (signs_of rest) (omega arith)
      (rises rest),
)

later_place : (at to : ℕ) (front back : List Sign) → Rises at (front ++ call_sign to ∷ back)
    → at ≤ to
later_place at to [] back h = h.0
later_place at to (call_sign c ∷ front) back h =
    let le = later_place (c + 1) to front back h.1 in omega (arith, h.0, le)
later_place at to (byte_sign b ∷ front) back h = later_place at to front back h

one_place : (at to : ℕ) (a b x y : List Sign) → Rises at (a ++ call_sign to ∷ x)
    → a ++ call_sign to ∷ x ≡ b ++ call_sign to ∷ y → (a ≡ b) × (x ≡ y)
one_place at to [] [] x y h e = (refl, cc)
one_place at to [] (s ∷ b) x y h e =
    let rest : x ≡ b ++ call_sign to ∷ y = cc in
    let le = later_place (to + 1) to b y (subst (Rises (to + 1)) rest h.1) in
    absurd (omega (arith, le))
one_place at to (call_sign c ∷ a) [] x y h e =
    let same : c ≡ to = cc in
    let le = later_place (c + 1) to a x h.1 in
    absurd (omega (arith, le, same))
one_place at to (byte_sign b ∷ a) [] x y h e = absurd cc
one_place at to (call_sign c ∷ a) (t ∷ b) x y h e =
    let rest = one_place (c + 1) to a b x y h.1 cc in
    let first : call_sign c ≡ t = cc in
    (rw (first, rest.0) refl, rest.1)
one_place at to (byte_sign c ∷ a) (t ∷ b) x y h e =
    let rest = one_place at to a b x y h cc in
    let first : byte_sign c ≡ t = cc in
    (rw (first, rest.0) refl, rest.1)

-- ---- the law

pub statements_are_apart : StatementsAreApart
unfolding is_statement
statements_are_apart base text before after name args at spelling =
    let s = spelling.spells in
    let alone : Pending [] base base no_line_start [] =
    record { touches = omega arith; leaves = refl; past = λ e to le. refl } in
    let f = find s [] base no_line_start [] alone before name args at after refl in
    let left = f.left ∙ ap (signs_open ends_before) (append-nil (reverse f.front)) in (
      (λ is.
          let both = both_true _ _ is in
          record {
            before = f.front;
            after = f.back;
            parts = f.parts;
            clear_before = opens-clear_before f.front (sym left ∙ both.0);
            clear_after = opens-clear_after f.back (sym f.right ∙ both.1);
          }),
      (λ a.
          let same =
          one_place base at f.front a.before f.back a.after (subst (Rises base) f.parts (rises s))
          (sym f.parts ∙ a.parts) in
          let l =
          left ∙ ap (λ x. signs_open ends_before (reverse x)) same.0
          ∙ clear_before-opens a.before a.clear_before in
          let r =
          f.right ∙ ap (signs_open ends_after) same.1 ∙ clear_after-opens a.after a.clear_after in
          rw (l, r) refl),
    )

-- ---- calls of a list that is read

item_parted : (list_kind : ListKind) (Inside : ListKind → Within) (c : declarations.Declarations)
    (line_start : LineStart) (name : List ℕ) (args : List Span) (at : ℕ) (after : List ItemValue) (s : Script)
    → IsItem list_kind Inside c line_start (call name args at) after s
    → is_statement line_start name args at after ≡ true
item_parted list_kind Inside c line_start name args at after s (plain_call may is) = may.parted
item_parted list_kind Inside c line_start name args at after s (choice may is cases) = may.parted
item_parted list_kind Inside c line_start name args at after s (question may is first other whole) =
    may.parted
item_parted list_kind Inside c line_start name args at after s (check may message variable commands) =
    may.parted

list_parted : (list_kind : ListKind) (Inside : ListKind → Within) (before : List ItemValue) (name : List ℕ)
    (args : List Span) (at : ℕ) (after : List ItemValue) (c : declarations.Declarations) (line_start : LineStart)
    (s : Script)
    → AreStatements list_kind Inside c line_start (before ++ call name args at ∷ after) s
    → is_statement (line_start_after line_start before) name args at after ≡ true
list_parted list_kind Inside [] name args at after c line_start s (one {first} {rest = more} item rest) =
    item_parted list_kind Inside c line_start name args at after first item
list_parted list_kind Inside (x ∷ before) name args at after c line_start s
    (one {first} {rest = more} item rest) =
    list_parted list_kind Inside before name args at after (after_all c first) (line_start_of x) more rest

pub read_are_apart : ReadAreApart
read_are_apart list_kind room c base text before after name args at s spelling are =
    (statements_are_apart base text before after name args at spelling).0
    (list_parted list_kind (IsBody room) before name args at after c no_line_start s are)
