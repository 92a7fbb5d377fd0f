-- A template, by what it is made of.
use Rattle.std.proofs.Common.{◌≡◌, ℕ, List, ◌++◌, ap, subst, ◌∙◌}
use Rattle.std.specs.List.{flat_map}
use Rattle.ac_calls.specs.Calls.{MacroCall}
use Rattle.ac_tree.specs.Script.{Script}
use Rattle.header_template.specs.Mentions.{mentions_in}
use Rattle.header_template.specs.Notes.{notes_in}
use Rattle.header_template.specs.Pages.{IsTemplate, head, lines_of, said_of}
use Rattle.header_template.specs.Table.{IsTable}

abbrev pub Entries : Type 0
Entries = List (List ℕ × List ℕ)

pub template : (text : List ℕ) (script : Script) (calls : List MacroCall) (page said : List ℕ) (found lent notes mentions given entries : Entries)
    → found ≡ notes_in text calls → lent ≡ found → IsTable lent notes → mentions ≡ mentions_in notes script → given ≡ mentions → IsTable given entries
    → page ≡ head ++ flat_map lines_of entries → said ≡ flat_map said_of entries → IsTemplate text script calls page said
template text script calls page said found lent notes mentions given entries are same kept those alike made page_is said_is = record {
  notes = notes;
  are_notes = subst (λ l. IsTable l notes) (same ∙ are) kept;
  entries = entries;
  are_entries = subst (λ l. IsTable l entries) (alike ∙ those) made;
  page_is = page_is;
  said_is = said_is;
}
