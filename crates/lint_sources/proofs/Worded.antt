-- Lists of findings of which one gets other words, and what is listed of a source.
use Rattle.std.proofs.Common.{◌≡◌, ◌↔◌, ℕ, Bool, true, false, List, [], ◌∷◌, ◌++◌, Option, Some, None, Result, Ok, Err, length, map, take, drop, OnOk, sym, ap, subst, ◌∙◌, arith, append-nil}
use Rattle.std.proofs.Math.Seq.{take-append_seam}
use Rattle.std.proofs.lemmas.List.{length-map}
use Rattle.ac_statement.specs.declared.fault.ParseFault.{ParseFault}
use Rattle.ac_tree.specs.declared.tree.Stmt.{Stmt}
use Rattle.ac_tree.specs.Script.{Script, script_of}
use Rattle.acparse.specs.Profile.{source_of}
use Rattle.file_disk.specs.Known.{Known}
use Rattle.lint_errors.specs.Errors.{IsAccepted}
use Rattle.lint_errors.specs.Readings.{IsRead, IsReading}
use Rattle.lint_errors.specs.declared.reading.Reading.{Reading}
use Rattle.lint_findings.specs.declared.finding.Finding.{Finding}
use Rattle.lint_all.specs.Found.{HasFirst}
use Rattle.lint_sources.specs.Listed.{AreInOrder, AreListed, unworded}
use Rattle.lint_sources.specs.Missing.{AreAdded, AreChecked, AreCheckedOf, HasSome, script_in}
use Rattle.lint_sources.specs.Sources.{HasError, outputs_of}
use Rattle.lint_sources.specs.Warned.{AreWarned, AreWarnedOf, FindsOf}
use Rattle.lint_sources.specs.declared.sheets.Sheets.{Sheets}
use Rattle.lint_sources.proofs.Lost.{lent_error, same_script}

-- Findings that were lent, and got other words
pub relent : {A E : Type 0} (r : Result A E) (old mid new : List Finding) (n : ℕ) → n ≡ length old → mid ≡ old
    → OnOk r (map unworded new ≡ map unworded mid) → OnOk r (map unworded (take n (new ++ drop (length new) old)) ≡ map unworded old)
relent (Err e) old mid new n all lent rewritten = tt
relent (Ok x) old mid new n all lent rewritten =
    let words : map unworded new ≡ map unworded old = rewritten ∙ ap (map unworded) lent in
    let same : length old ≡ length new = sym (length-map old unworded) ∙ ap length (sym words) ∙ length-map new unworded in
    let whole : take n (new ++ drop (length new) old) ≡ new = ap (λ k. take k (new ++ drop (length new) old)) (all ∙ same) ∙ take-append_seam new (drop (length new) old) in
    ap (map unworded) whole ∙ words

added_onto : (b : Bool) (errors lost : List Finding) → AreAdded b [] lost → AreAdded b errors (errors ++ lost)
added_onto false errors lost is = ap (λ l. errors ++ l) is ∙ append-nil errors
added_onto true errors lost some = λ none. some (no_rest errors lost none)
  where
    no_rest : (errors lost : List Finding) → errors ++ lost ≡ [] → lost ≡ []
    no_rest [] lost e = e
    no_rest (f ∷ errors) lost e = absurd (let n = ap length e in omega (arith, n))

checked_onto : (files : Option Known) (directory : List ℕ) (o : Option Script) (errors lost : List Finding) → AreCheckedOf files directory o [] lost → AreCheckedOf files directory o errors (errors ++ lost)
checked_onto files directory None errors lost is = ap (λ l. errors ++ l) is ∙ append-nil errors
checked_onto files directory (Some script) errors lost c = record { lacks = c.lacks; is = c.is; added = added_onto c.lacks errors lost c.added }

-- Whether the source has an error, by its own and those of its templates
pub joined_error : (files : Option Known) (directory text slice : List ℕ) (source : Result (List Stmt) ParseFault) (errors lost found : List Finding) (has : Bool) → slice ≡ text
    → (errors ≡ []) ↔ IsAccepted slice → IsRead slice source → AreCheckedOf files directory (script_in source) [] lost → found ≡ errors ++ lost → HasSome found has → HasError files directory text has
joined_error files directory text slice source errors lost found has same none read checks all some =
    lent_error files directory text slice source errors (errors ++ lost) found has same all none read (checked_onto files directory (script_in source) errors lost checks) some

by_source : (files : Option Known) (directory text : List ℕ) (source : Result (List Stmt) ParseFault) (lost : List Finding) → IsRead text source → AreCheckedOf files directory (script_in source) [] lost
    → (script : Script) → source_of text ≡ Ok script → AreChecked files directory (outputs_of script) [] lost
by_source files directory text (Err fault) lost read checks script is = absurd (let e : Err fault ≡ Ok script = sym read ∙ is in cc)
by_source files directory text (Ok statements) lost read checks script is = subst (λ s. AreChecked files directory (outputs_of s) [] lost) (same_script (script_of statements) script read is) checks

-- The errors of the templates of a source that is read
pub lost_of : (files : Option Known) (directory text slice : List ℕ) (source : Result (List Stmt) ParseFault) (lost : List Finding) → slice ≡ text → IsRead slice source
    → AreCheckedOf files directory (script_in source) [] lost → (script : Script) → source_of text ≡ Ok script → AreChecked files directory (outputs_of script) [] lost
lost_of files directory text slice source lost same read checks = by_source files directory text source lost (subst (λ t. IsRead t source) same read) checks

-- What is listed of a source
pub listed : (finds : FindsOf) (files : Option Known) (directory text slice : List ℕ) (reading : Reading) (sheets : Sheets) (errors none lost joined worded others found : List Finding) → slice ≡ text
    → HasFirst slice errors → IsReading slice reading → none ≡ [] → AreCheckedOf files directory (script_in reading.source) none lost → joined ≡ errors ++ lost → map unworded worded ≡ map unworded joined
    → AreWarned finds slice reading sheets others → AreInOrder (worded ++ others) found → AreListed finds files directory text sheets found
listed finds files directory text slice reading sheets errors none lost joined worded others found same first read empty checks all rewritten warned order = record {
  errors = errors;
  first = subst (λ t. HasFirst t errors) same first;
  lost = lost;
  checked = lost_of files directory text slice reading.source lost same read.source (subst (λ l. AreCheckedOf files directory (script_in reading.source) l lost) empty checks);
  worded = worded;
  same = rewritten ∙ ap (map unworded) all;
  others = others;
  warned = subst (λ t. AreWarnedOf finds t sheets others) same (record { reading = reading; read = read; are = warned });
  in_order = order;
}

-- Whether the source has an error, by a list that was empty
pub new_error : (files : Option Known) (directory text slice : List ℕ) (source : Result (List Stmt) ParseFault) (errors none lost found : List Finding) (has : Bool) → slice ≡ text
    → (errors ≡ []) ↔ IsAccepted slice → IsRead slice source → none ≡ [] → AreCheckedOf files directory (script_in source) none lost → found ≡ errors ++ lost → HasSome found has → HasError files directory text has
new_error files directory text slice source errors none lost found has same accepted read empty checks all some =
    joined_error files directory text slice source errors lost found has same accepted read (subst (λ l. AreCheckedOf files directory (script_in source) l lost) empty checks) all some
