-- The same for a whole source.
use Rattle.std.proofs.Common.{◌≡◌, ℕ, List, Result, Ok, Err, refl, ap, sym, subst, inl, inr}
use Rattle.std.specs.Prelude.{IfOk, IfErr}
use Rattle.m4quote.proofs.Laws.{outcome_is_spelling, outcome_is_fault}
use Rattle.m4quote.specs.Scan.{outcome}
use Rattle.ac_statement.specs.declared.fault.ParseFault.{ParseFault}
use Rattle.ac_statement.specs.declared.fault.ParseFault.TheVariants.{OutOfMemory}
use Rattle.ac_statement.specs.Reading.{Gives, quoted}
use Rattle.ac_statement.specs.Stand.{no_line_start}
use Rattle.ac_statement.proofs.Binds.{bind_ok, bind_err, then_ok, ok_is, err_is}
use Rattle.ac_tree.specs.declared.declarations.Stage.{Stage}
use Rattle.ac_tree.specs.declared.declarations.Stage.TheVariants.{Before, Open, Ended}
use Rattle.ac_tree.specs.Lists.{start}
use Rattle.ac_tree.specs.Lists.{after_all}
use Rattle.ac_macros.specs.ListKind.{Top}
use Rattle.acparse.specs.Profile.{source_of, body_of, ended}
use Rattle.ac_tree.specs.declared.tree.Stmt.{Stmt}
use Rattle.ac_tree.specs.Script.{Script, script_of}
use Rattle.acparse.specs.Source.{IsList, IsSource, IsSourceFault, no_items, in_items, no_init, no_output}
use Rattle.acparse.specs.Breaks.{IsBroken}
use Rattle.acparse.specs.Statements.{IsBody}
use Rattle.acparse.proofs.Broken.{quoted_err, items_break, body_breaks}
use Rattle.acparse.proofs.Found.{quoted_ok, items_found, body_found}
use Rattle.acparse.proofs.Only.{items_only, body_only}

ended_ok : (stage : Stage) (s t : Script) → ended stage s ≡ Ok t → (stage ≡ Ended) × (s ≡ t)
ended_ok Before s t e = absurd cc
ended_ok Open s t e = absurd cc
ended_ok Ended s t e = (refl, ok_is s t e)

pub source_found : (text : List ℕ) (s : Script) → source_of text ≡ Ok s → IsSource text s
unfolding source_of
source_found text s e =
    let i = bind_ok _ _ _ e in
    let l = bind_ok _ _ _ i.2 in
    let z = ended_ok _ l.0 s l.2 in
    subst (IsSource text) z.1 (record {
      list = record { items = i.0; spelled = (outcome_is_spelling 0 text i.0).0 (quoted_ok (outcome 0 text) i.0 i.1); statements = items_found Top (body_of 31) (IsBody 31) (body_found 31) i.0 start no_line_start l.0 l.1 };
      ended = z.0;
    })

pub source_only : (text : List ℕ) (s : Script) → IsSource text s → source_of text ≡ Ok s
unfolding source_of
source_only text s h =
    then_ok _ _ h.list.items _ (ap quoted ((outcome_is_spelling 0 text h.list.items).1 h.list.spelled))
    (then_ok _ _ s _ (items_only Top (body_of 31) (IsBody 31) (body_only 31) h.list.statements) (ap (λ stage. ended stage s) h.ended))

ended_err : (text : List ℕ) (stage : Stage) (s : Script) (f : ParseFault) → (after_all start s).stage ≡ stage → IsList text s → ended stage s ≡ Err f → IsSourceFault text f
ended_err text Before s f is h e = subst (IsSourceFault text) (err_is {A = Script} _ f e) (no_init h is)
ended_err text Open s f is h e = subst (IsSourceFault text) (err_is {A = Script} _ f e) (no_output h is)
ended_err text Ended s f is h e = absurd cc

pub source_fault : (text : List ℕ) (f : ParseFault) → source_of text ≡ Err f → IsSourceFault text f
unfolding source_of
source_fault text f e =
    elim (bind_err _ _ _ e) [
      | inl h ↦ let q = quoted_err (outcome 0 text) f h in subst (IsSourceFault text) (sym q.2) (no_items ((outcome_is_fault 0 text q.0).0 q.1))
      | inr i ↦
          let spelled = (outcome_is_spelling 0 text i.0).0 (quoted_ok (outcome 0 text) i.0 i.1) in
          elim (bind_err _ _ _ i.2) [
            | inl h ↦ in_items spelled (items_break Top (body_of 31) (IsBody 31) (IsBroken 31) (body_found 31) (body_breaks 31) i.0 start no_line_start f h)
            | inr s ↦ ended_err text (after_all start s.0).stage s.0 f refl (record { items = i.0; spelled = spelled; statements = items_found Top (body_of 31) (IsBody 31) (body_found 31) i.0 start no_line_start s.0 s.1 }) s.2
          ]
    ]

pub is_found : (text : List ℕ) (r : Result (List Stmt) ParseFault) → Gives script_of r (source_of text) → IfOk r (λ s. IsSource text (script_of s))
is_found text (Ok s) h = source_found text _ h
is_found text (Err f) h = tt

pub is_fault : (text : List ℕ) (r : Result (List Stmt) ParseFault) → Gives script_of r (source_of text) → IfErr r (λ f. (f ≡ OutOfMemory → ⊥) → IsSourceFault text f)
is_fault text (Ok s) h = tt
is_fault text (Err OutOfMemory) h = λ no_memory. absurd (no_memory refl)
is_fault text (Err f) h = λ _. source_fault text f h
