-- What an entry that is added changes of what an index says.
use Rattle.std.proofs.Common.{◌≡◌, ℕ, Bool, true, false, List, [], ◌∷◌, Option}
use Rattle.std.proofs.Common.{Some, None, option_map, cond, is_some, refl, sym, subst, ap, ◌∙◌}
use Rattle.std.specs.Prelude.{bytes_eq}
use Rattle.std.proofs.lemmas.Slice.Eq.{bytes_eq-Decides}
use Rattle.std.specs.Cmp.Lexicographic.{nat_list_eq_equiv}
use Rattle.std.specs.Map.{lookup}
use Rattle.std.specs.Global.{Vec}
use Rattle.indexmap.specs.IndexMap.{insert_entry}
use Rattle.lint_macros.specs.declared.entry.MacroEntry.{MacroEntry}
use Rattle.lint_macros.specs.Entries.{Said, said, Read, or_later, first_about, entry_of}
use Rattle.deftable.proofs.Tables.{same_text, over_first, swapped, two_names}
use Rattle.text_cut.specs.Cuts.{parts}
use Rattle.lint_macros.specs.Index.{said_by, said_first, said_exactly}

or_later-none : (o : Option Said) → or_later o None ≡ o
or_later-none (Some e) = refl
or_later-none None = refl

abbrev same_key : Vec ℕ → Vec ℕ → Bool
same_key a b = bytes_eq a.items b.items

abbrev found : List (Vec ℕ × MacroEntry) → List ℕ → Option MacroEntry
found es q = lookup (λ k. bytes_eq q k.items) es

-- what is found after an entry is inserted
lookup-insert_entry : (es : List (Vec ℕ × MacroEntry)) (k : Vec ℕ) (v : MacroEntry) (q : List ℕ)
    → found (insert_entry same_key es k v) q ≡ cond (bytes_eq q k.items) (Some v) (found es q)
lookup-insert_entry [] k v q = refl
lookup-insert_entry (e ∷ es) k v q =
    elim (bytes_eq k.items e.0.items) as (λ b. bytes_eq k.items e.0.items ≡ b
    → found (cond b ((e.0, v) ∷ es) (e ∷ insert_entry same_key es k v)) q
    ≡ cond (bytes_eq q k.items) (Some v) (cond (bytes_eq q e.0.items) (Some e.1) (found es q))) [
      | true ↦ λ is. over_first (bytes_eq q k.items) (bytes_eq q e.0.items) (Some v) (Some e.1) (found es q)
          (ap (bytes_eq q) (sym (same_text k.items e.0.items is)))
      | false ↦ λ apart.
          ap (cond (bytes_eq q e.0.items) (Some e.1)) (lookup-insert_entry es k v q)
          ∙ swapped (bytes_eq q k.items) (bytes_eq q e.0.items) (Some v) (Some e.1) (found es q)
          (two_names q k.items e.0.items apart)
    ] refl

map-cond : (b : Bool) (e : MacroEntry) (o : Option MacroEntry)
    → option_map said (cond b (Some e) o) ≡ cond b (Some (said e)) (option_map said o)
map-cond true e o = refl
map-cond false e o = refl

-- what is said of a name after an entry is inserted
pub said_by-insert_entry : (es : List (Vec ℕ × MacroEntry)) (k : Vec ℕ) (v : MacroEntry) (q : List ℕ)
    → said_by (insert_entry (λ a b. bytes_eq a.items b.items) es k v) q
    ≡ cond (bytes_eq q k.items) (Some (said v)) (said_by es q)
said_by-insert_entry es k v q =
    ap (option_map said) (lookup-insert_entry es k v q)
    ∙ map-cond (bytes_eq q k.items) v (lookup (λ k. bytes_eq q k.items) es)

-- ---- an entry that is added only if there is none

-- A name that has an entry keeps it.
pub kept : (es : List (Vec ℕ × MacroEntry)) (r : Read) (known : List ℕ) (b : Bool)
    → b ≡ is_some (said_by es known) → b ≡ true
    → (n : List ℕ) → said_by es n ≡ or_later (said_by es n) (said_exactly r known n)
kept es r known b has there n = by (bytes_eq known n) refl
  where
    keeps : (o : Option Said) (later : Option Said) → is_some o ≡ true → o ≡ or_later o later
    keeps (Some e) later is = refl
    keeps None later is = cc

    by : (b : Bool) → bytes_eq known n ≡ b
        → said_by es n ≡ or_later (said_by es n) (cond b (Some (record { name = known; kind = r.kind; text = r.text })) None)
    by true same =
        keeps (said_by es n) _
        (subst (λ n. is_some (said_by es n) ≡ true) (same_text known n same) (sym has ∙ there))
    by false apart = sym (or_later-none (said_by es n))

turned : (a b : List ℕ) → bytes_eq a b ≡ bytes_eq b a
turned a b = nat_list_eq_equiv.symm a b

-- A name that has none gets it.
pub added : (es new : List (Vec ℕ × MacroEntry)) (r : Read) (known : List ℕ) (b : Bool) (s : Said)
    → s ≡ record { name = known; kind = r.kind; text = r.text }
    → b ≡ is_some (said_by es known) → b ≡ false
    → ((n : List ℕ) → said_by new n ≡ cond (bytes_eq n known) (Some s) (said_by es n))
    → (n : List ℕ) → said_by new n ≡ or_later (said_by es n) (said_exactly r known n)
added es new r known b s is has absent says n = says n ∙ by (bytes_eq known n) refl
  where
    gets : (o : Option Said) (s : Said) → is_some o ≡ false → Some s ≡ or_later o (Some s)
    gets (Some e) s is = cc
    gets None s is = refl

    by : (b : Bool) → bytes_eq known n ≡ b
        → cond (bytes_eq n known) (Some s) (said_by es n)
        ≡ or_later (said_by es n) (cond b (Some (record { name = known; kind = r.kind; text = r.text })) None)
    by true same =
        ap (λ b. cond b (Some s) (said_by es n)) (turned n known ∙ same) ∙ ap (λ s. Some s) is
        ∙ gets (said_by es n) _
        (subst (λ n. is_some (said_by es n) ≡ false) (same_text known n same) (sym has ∙ absent))
    by false apart = ap (λ b. cond b (Some s) (said_by es n)) (turned n known ∙ apart)
        ∙ sym (or_later-none (said_by es n))

-- what is said of a name after all records before these were added
pub made : (es start : List (Vec ℕ × MacroEntry)) (rest skipped rows : List (List ℕ)) (table : List ℕ)
    → start ≡ [] → rest ≡ skipped → rows ≡ parts 126 table
    → ((n : List ℕ) → said_first es skipped n ≡ said_first start rows n)
    → (n : List ℕ) → said_first es rest n ≡ entry_of n table
unfolding entry_of
made es start rest skipped rows table none same all says n =
    ap (λ r. said_first es r n) same ∙ says n ∙ ap (λ s. said_first s rows n) none
    ∙ ap (first_about n) all

pub ruleset adding = (kept, added)
