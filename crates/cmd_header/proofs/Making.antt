-- The template that is printed.
use Rattle.std.proofs.Common.{◌≡◌, ◌≢◌, ◌⊎◌, ◌↔◌, inl, inr, ℕ, List, [], ◌∷◌, Option, Some, None, Bool, true, false, ◌&&◌, Result, Ok, Err, length, map, ap, subst, sym, refl, arith, ◌∙◌}
use Rattle.std.specs.Prelude.{MatchOption}
use Rattle.std.specs.List.{list_any}
use Rattle.std.specs.Io.KnownBytes.{Appends}
use Rattle.file_disk.specs.Known.{Known}
use Rattle.ac_calls.specs.Calls.{calls_in, macro_call_of}
use Rattle.ac_calls.specs.declared.call.CallAt.{CallAt}
use Rattle.ac_statement.specs.declared.fault.ParseFault.{ParseFault}
use Rattle.ac_tree.specs.declared.tree.Stmt.{Stmt}
use Rattle.ac_tree.specs.Script.{Script, script_of}
use Rattle.acparse.specs.Profile.{source_of}
use Rattle.cmd_call.specs.Calls.{is_input}
use Rattle.header_template.specs.Pages.{IsTemplate}
use Rattle.lint_errors.specs.Errors.{IsAccepted}
use Rattle.lint_errors.specs.Readings.{IsRead}
use Rattle.lint_sources.specs.Sources.{IsNamed}
use Rattle.cmd_header.specs.Answers.{IsAnswer, IsMade, name_of}
use Rattle.cmd_header.specs.Refusals.{HasSaid}
use Rattle.cmd_header.proofs.Saying.{stream_is}

-- The statements of an accepted source are those that were read.
same_script : (text : List ℕ) (script : Script) (accepted : IsAccepted text) → source_of text ≡ Ok script → script ≡ accepted.script
same_script text script accepted read =
    let e : Ok script ≡ Ok accepted.script = sym read ∙ accepted.read in cc

pub made : (text : List ℕ) (reading : Result (List Stmt) ParseFault) (statements : List Stmt) (calls lent : List CallAt) (page said : List ℕ) → IsAccepted text → IsRead text reading → reading ≡ Ok statements
    → map macro_call_of calls ≡ calls_in text → lent ≡ calls → IsTemplate text (script_of statements) (map macro_call_of lent) page said → IsMade text page said
made text reading statements calls lent page said accepted read is are same template =
    let found : source_of text ≡ Ok (script_of statements) = subst (IsRead text) is read in
    record {
      accepted = accepted;
      template = subst (λ c. IsTemplate text accepted.script c page said) (ap (map macro_call_of) same ∙ are)
          (subst (λ s. IsTemplate text s (map macro_call_of lent) page said) (same_script text (script_of statements) accepted found) template);
    }

-- A source that is not read is not accepted.
pub refused : (text : List ℕ) (reading : Result (List Stmt) ParseFault) (fault : ParseFault) → IsRead text reading → reading ≡ Err fault → IsAccepted text → ⊥
refused text reading fault read is accepted =
    let unread : source_of text ≡ Err fault = subst (IsRead text) is read in
    let e : Err fault ≡ Ok accepted.script = sym unread ∙ accepted.read in absurd cc

pub answered : {E : Type 0} (contents : E → Option (List ℕ)) (old new : E) (text lent page said : List ℕ) (status : ℕ) (a b : Option (List ℕ)) → lent ≡ text → IsMade lent page said
    → (status ≢ 2 → Appends a b page) → (status ≢ 2 → HasSaid contents old new said)
    → status ≢ 2 → (p : List ℕ) × (s : List ℕ) × IsMade text p s × Appends a b p × HasSaid contents old new s
answered contents old new text lent page said status a b same made put told ne = (page, said, subst (λ t. IsMade t page said) same made, put ne, told ne)

pub refused_text : (text lent : List ℕ) → lent ≡ text → (IsAccepted lent → ⊥) → IsAccepted text → ⊥
refused_text text lent same no_one = subst (λ t. IsAccepted t → ⊥) same no_one

pub answered_named : {E : Type 0} (contents : E → Option (List ℕ)) (old new : E) (files : Option Known) (is_stream : Bool) (name text directory : List ℕ) (status : ℕ) (a b : Option (List ℕ)) → IsNamed files is_stream name text directory
    → (status ≢ 2 → (page : List ℕ) × (said : List ℕ) × IsMade text page said × Appends a b page × HasSaid contents old new said)
    → status ≢ 2 → (page : List ℕ) × (said : List ℕ) × ((t : List ℕ) × (d : List ℕ) × IsNamed files is_stream name t d × IsMade t page said) × Appends a b page × HasSaid contents old new said
answered_named contents old new files is_stream name text directory status a b named gives ne =
    let g = gives ne in (g.0, g.1, (text, directory, named, g.2), g.3, g.4)

pub by_words : {E : Type 0} (contents : E → Option (List ℕ)) (old new : E) (files : Option Known) (words : List (List ℕ)) (asked : Option (List ℕ)) (name : List ℕ) (reads : Bool) (status : ℕ) (a b : Option (List ℕ))
    → asked ≡ name_of words → asked ≡ Some name → reads ≡ list_any is_input words
    → (status ≢ 2 → (page : List ℕ) × (said : List ℕ) × ((text : List ℕ) × (directory : List ℕ) × IsNamed files (reads && is_input name) name text directory × IsMade text page said) × Appends a b page × HasSaid contents old new said)
    → status ≢ 2 → (page : List ℕ) × (said : List ℕ) × IsAnswer files (name_of words) page said × Appends a b page × HasSaid contents old new said
by_words contents old new files words asked name reads status a b is some all gives ne =
    let g = gives ne in
    let found : Some name ≡ name_of words = sym some ∙ is in
    let stream : (reads && is_input name) ≡ is_input name = ap (λ r. r && is_input name) all ∙ stream_is words name (sym found) in
    let answer : IsAnswer files (Some name) g.0 g.1 = (g.2.0, g.2.1, subst (λ s. IsNamed files s name g.2.0 g.2.1) stream g.2.2, g.2.3) in
    (g.0, g.1, subst (λ w. IsAnswer files w g.0 g.1) found answer, g.3, g.4)

-- What is said of a value that is there, or of none.
pub from_some : {T : Type 0} (o : Option T) (v : T) (A : Type 0) (P : T → Type 0) → o ≡ Some v → MatchOption o A P → P v
from_some o v A P is m = subst (λ x. MatchOption x A P) is m

pub from_none : {T : Type 0} (o : Option T) (A : Type 0) (P : T → Type 0) → o ≡ None → MatchOption o A P → A
from_none o A P is m = subst (λ x. MatchOption x A P) is m
