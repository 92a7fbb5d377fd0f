-- The test of a type under two replies.
use Rattle.std.proofs.Common.{◌≡◌, ℕ, Option, Some, List, [], ◌∷◌, ◌++◌, codes, Bool, true, false, cond, refl, sym, ap, ◌∙◌, subst, append_assoc}
use Rattle.std.specs.Prelude.{◌==◌, is_some}
use Rattle.crew_jobs.specs.declared.job.Job.{Job}
use Rattle.crew_trait.specs.declared.reply.Reply.{Reply}
use Rattle.crew_trait.specs.declared.reply.Reply.TheVariants.{Answer}
use Rattle.deftable.specs.Table.{value_of}
use Rattle.deftable.specs.declared.note.Stream.TheVariants.{Out}
use Rattle.shellword.specs.declared.part.Part.{Part}
use Rattle.ac_tree.specs.TestNames.{type_name}
use Rattle.meaning.specs.State.{State, piece, with_child, Goes_on, Run, as_is}
use Rattle.meaning.specs.Asking.{success, same, attempted}
use Rattle.meaning.specs.Tests.{checking, with_result, with_value, tested}
use Rattle.test_forms.specs.Macros.{type_form}
use Rattle.meaning.specs.Rows.{row_of, Formed}
use Rattle.meaning.specs.Forms.{FormTest, form_used, is_yes}
use Rattle.meaning_laws.specs.Logged.{children_of}
use Rattle.meaning_laws.specs.Finished.{finish, with_taken}
use Rattle.meaning_laws.specs.Types.{text_job, value_text, type_value, type_children, TypeEnds, TypeByReplies}
use Rattle.meaning_laws.proofs.Values.{value_here}
use Rattle.meaning_laws.proofs.BatchEntries.{said, added, DefinesAlone, if_alone, finds, rounded, unset_run}

-- The test of a type.
abbrev typed : List ℕ → Option (List Part) → Bool → FormTest
typed name includes defines = record { form = type_form name defines; given = includes }

abbrev asks_type : List ℕ → Option Job → Option Job → State → Run
asks_type name first second now =
    attempted as_is (record { job = first; ends_on = false; value = Some (codes "no") } ∷ record { job = second; ends_on = true; value = Some (codes "no") } ∷ []) (Some (codes "yes")) now (finds name)

abbrev asks_second : List ℕ → Job → State → Run
asks_second name job now = attempted as_is (record { job = Some job; ends_on = true; value = Some (codes "no") } ∷ []) (Some (codes "yes")) now (finds name)

-- What is done with the value is a definition, if anything.
typed_alone : (name : List ℕ) (defines : Bool) (value : Option (List ℕ)) (st : State) → DefinesAlone st (form_used (type_form name defines) value st)
typed_alone name true value st = if_alone (is_yes value) _ st
typed_alone name false value st = record { vars = refl; messages = refl; log = refl }

-- The end of a test that has found this value.
abbrev found_end : List ℕ → Option (List Part) → Bool → List ℕ → State → State → State
found_end name includes defines v first now =
    let r = row_of (Formed (typed name includes defines)) first in
    let s = with_value (type_name name) (Some v) now in
    let o = value_of s.vars (type_name name) in
    r.after o (with_result (r.test.shown o) s)

end_value : (name : List ℕ) (includes : Option (List Part)) (defines : Bool) (v : List ℕ) (first now : State) → value_of (found_end name includes defines v first now).vars (type_name name) ≡ Some v
end_value name includes defines v first now =
    let s = with_value (type_name name) (Some v) now in
    let o = value_of s.vars (type_name name) in
    ap (λ l. value_of l (type_name name)) (typed_alone name defines o _).vars ∙ value_here now.vars (type_name name) v

end_children : (name : List ℕ) (includes : Option (List Part)) (defines : Bool) (v : List ℕ) (first now : State) → children_of (found_end name includes defines v first now).log ≡ children_of now.log
end_children name includes defines v first now =
    let s = with_value (type_name name) (Some v) now in
    let o = value_of s.vars (type_name name) in
    ap children_of (typed_alone name defines o _).log ∙ said now.log (piece Out _)

-- The children, after what is checked is printed.
abbrev begins : List ℕ → Option (List Part) → Bool → State → State
begins name includes defines st = checking (row_of (Formed (typed name includes defines)) st).test.message st

one_child : (name : List ℕ) (includes : Option (List Part)) (defines : Bool) (st : State) (job : Job) (reply : Reply) → children_of (with_child job reply (begins name includes defines st)).log ≡ children_of st.log ++ (job, reply) ∷ []
one_child name includes defines st job reply = added (begins name includes defines st).log job reply ∙ ap (λ l. l ++ (job, reply) ∷ []) (said st.log (piece Out _))

two_children : (name : List ℕ) (includes : Option (List Part)) (defines : Bool) (st : State) (job again : Job) (reply next : Reply)
    → children_of (with_child again next (with_child job reply (begins name includes defines st))).log ≡ children_of st.log ++ (job, reply) ∷ (again, next) ∷ []
two_children name includes defines st job again reply next =
    added (with_child job reply (begins name includes defines st)).log again next
    ∙ ap (λ l. l ++ (again, next) ∷ []) (one_child name includes defines st job reply)
    ∙ append_assoc (children_of st.log) ((job, reply) ∷ []) ((again, next) ∷ [])

some_is : (a b : Bool) → Some a ≡ Some b → a ≡ b
some_is a b e = cc

found_ends : (name : List ℕ) (includes : Option (List Part)) (defines compiles encloses : Bool) (first second : Job × Reply) (st now : State) (taken left : List Reply) → children_of now.log ≡ children_of st.log ++ type_children compiles first second
    → TypeEnds name compiles encloses first second st (record { how = Goes_on; state = found_end name includes defines (type_value compiles encloses) st now; taken = taken; left = left })
found_ends name includes defines compiles encloses first second st now taken left children = record {
  how = refl;
  value = end_value name includes defines (type_value compiles encloses) st now;
  children = end_children name includes defines (type_value compiles encloses) st now ∙ children;
}

-- The four cases.
by_second : (name : List ℕ) (includes : Option (List Part)) (defines : Bool) (st : State) (job again : Job) (reply next : Reply) (encloses : Bool)
    → TypeEnds name true encloses (job, reply) (again, next) st
    (with_taken (reply ∷ []) (with_taken (next ∷ []) (finish
    (rounded (row_of (Formed (typed name includes defines)) st) (cond (same true encloses) (finds (type_name name) (Some (codes "no")) (with_child again next (with_child job reply (begins name includes defines st))))
    (finds (type_name name) (Some (codes "yes")) (with_child again next (with_child job reply (begins name includes defines st)))))) [])))
by_second name includes defines st job again reply next true =
    found_ends name includes defines true true (job, reply) (again, next) st (with_child again next (with_child job reply (begins name includes defines st))) _ _ (two_children name includes defines st job again reply next)
by_second name includes defines st job again reply next false =
    found_ends name includes defines true false (job, reply) (again, next) st (with_child again next (with_child job reply (begins name includes defines st))) _ _ (two_children name includes defines st job again reply next)

by_first : (name : List ℕ) (includes : Option (List Part)) (defines : Bool) (st : State) (job again : Job) (reply next : Reply) (compiles encloses : Bool) → success next ≡ Some encloses
    → TypeEnds name compiles encloses (job, reply) (again, next) st
    (with_taken (reply ∷ []) (finish
    (rounded (row_of (Formed (typed name includes defines)) st) (cond (same false compiles) (finds (type_name name) (Some (codes "no")) (with_child job reply (begins name includes defines st)))
    (asks_second (type_name name) again (with_child job reply (begins name includes defines st))))) (next ∷ [])))
by_first name includes defines st job again reply next false true e =
    found_ends name includes defines false true (job, reply) (again, next) st (with_child job reply (begins name includes defines st)) _ _ (one_child name includes defines st job reply)
by_first name includes defines st job again reply next false false e =
    found_ends name includes defines false false (job, reply) (again, next) st (with_child job reply (begins name includes defines st)) _ _ (one_child name includes defines st job reply)
by_first name includes defines st job again reply (Answer status text) true encloses e =
    subst (λ b. TypeEnds name true b (job, reply) (again, Answer status text) st
    (with_taken (reply ∷ []) (finish (rounded (row_of (Formed (typed name includes defines)) st) (asks_second (type_name name) again (with_child job reply (begins name includes defines st)))) (Answer status text ∷ []))))
    (some_is (status == 0) encloses e) (by_second name includes defines st job again reply (Answer status text) (status == 0))
by_first name includes defines st job again reply _ true encloses e = cc

pub type_by_replies : TypeByReplies
type_by_replies name includes defines st job again (Answer status text) next compiles encloses none first_job second_job first_is second_is =
    let r = row_of (Formed (typed name includes defines)) st in
    let replies = Answer status text ∷ next ∷ [] in
    let run = rounded r (asks_type (type_name name) (Some job) (Some again) (begins name includes defines st)) in
    let is : tested r st ≡ run =
    unset_run r st none (ap is_some first_job)
    ∙ ap (λ j. rounded r (asks_type (type_name name) j (text_job (value_text name) includes st) (begins name includes defines st))) first_job
    ∙ ap (λ j. rounded r (asks_type (type_name name) (Some job) j (begins name includes defines st))) second_job in
    subst (λ x. TypeEnds name compiles encloses (job, Answer status text) (again, next) st (finish x replies)) (sym is)
    (subst (λ b. TypeEnds name b encloses (job, Answer status text) (again, next) st (finish run replies)) (some_is (status == 0) compiles first_is)
    (by_first name includes defines st job again (Answer status text) next (status == 0) encloses second_is))
type_by_replies name includes defines st job again _ next compiles encloses none first_job second_job first_is second_is = cc
