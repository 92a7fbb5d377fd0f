-- The premises of laws can be met: one run for each, and what it leaves; and laws at work on one source.
use Rattle.std.proofs.Common.{◌≡◌, ℕ, codes, List, [], ◌∷◌, ◌++◌, length, false, true, Some, None, ◌⊎◌, inl, inr, refl, subst, arith}
use Rattle.std.specs.Prelude.{Option, is_some}
use Rattle.crew_jobs.specs.Probe.{words_of, job_of}
use Rattle.crew_trait.specs.declared.reply.Reply.{Reply}
use Rattle.crew_trait.specs.declared.reply.Reply.TheVariants.{Answer, StartRefused}
use Rattle.deftable.specs.CacheName.{is_cache_name, has_cv}
use Rattle.deftable.specs.Table.{value_of, with_entry, without_entry}
use Rattle.deftable.specs.declared.note.Note.{Note}
use Rattle.deftable.specs.declared.note.Stream.TheVariants.{Out, Err}
use Rattle.shellword.specs.declared.part.Part.{Part}
use Rattle.shellword.specs.declared.part.Part.TheVariants as parts_are
use Rattle.shellword.specs.Value.{word_value}
use Rattle.text_cut.specs.Cuts.{fields, parts_by, parts}
use Rattle.ac_tree.specs.declared.listed.Listed.TheVariants.{Declaration}
use Rattle.ac_tree.specs.declared.statement.Declares.TheVariants as declares
use Rattle.ac_tree.specs.declared.statement.Effect.{Effect}
use Rattle.ac_tree.specs.declared.statement.Effect.TheVariants as effects
use Rattle.ac_tree.specs.Commands.{HasCommands}
use Rattle.ac_tree.specs.Script.{Script, Done, Then, Check}
use Rattle.meaning.specs.State.{State, opened, piece, Cut}
use Rattle.meaning.specs.Batches.{AreBatched, asking, jobs_in, batched}
use Rattle.meaning.specs.Directories.{directories_of}
use Rattle.meaning.specs.Meaning.{effect, meaning}
use Rattle.meaning.specs.Play.{cut_line, play, whole}
use Rattle.test_forms.specs.Macros.{type_form}
use Rattle.meaning.specs.Forms.{FormTest}
use Rattle.meaning.specs.Entries.{tests_of}
use Rattle.meaning.specs.Rows.{row_of, Formed}
use Rattle.meaning.proofs.Batches.{entries_are}
use Rattle.meaning_laws.specs.Types.{size_text, text_job, value_text}
use Rattle.meaning.specs.Tests.{tested}
use Rattle.meaning_laws.specs.Batched.{lacks_compiler, test_pieces, names_asked}
use Rattle.meaning_laws.specs.Cached.{IsSet}
use Rattle.meaning_laws.specs.Deeds.{Tested, batch_deeds, deeds, Among, Accounts}
use Rattle.meaning_laws.specs.Finished.{finish, Enough}
use Rattle.meaning_laws.specs.Programs.{AreNamed, IsSought}
use Rattle.meaning_laws.specs.Refusals.{played, HasReplies}
use Rattle.meaning_laws.proofs.Accounting.{deeds_account}
use Rattle.meaning_laws.proofs.DeedLemmas.{from_test}
use Rattle.meaning_laws.proofs.TestedNames.{tested_names_are_cached}

abbrev start : State
start = opened ((codes "CC", codes "cc") ∷ (codes "PATH", codes "/b") ∷ [])

abbrev good : Reply
good = Answer 0 []

abbrev bad : Reply
bad = Answer 1 []

abbrev said_out : List ℕ → Note
said_out text = piece Out text

-- ---- AC_CHECK_DECLS([f, g, f, h]): f is found, g is refused, and h isn't found.

abbrev names : List (List ℕ)
names = codes "f" ∷ codes "g" ∷ codes "f" ∷ codes "h" ∷ []

abbrev declarations : List FormTest
declarations = tests_of Declaration names None

may_be_asked_at_once : AreBatched declarations
may_be_asked_at_once = entries_are Declaration names None

abbrev replies : List Reply
replies = good ∷ StartRefused ∷ bad ∷ []

has_compiler : lacks_compiler start ≡ false
unfolding words_of value_of fields parts_by
has_compiler = refl

as_many_replies : length replies ≡ length (jobs_in (asking 1 [] declarations start))
unfolding words_of value_of fields parts_by job_of
as_many_replies = refl

asked_once : names_asked (asking 1 [] declarations start) ≡ codes "ac_cv_have_decl_f" ∷ codes "ac_cv_have_decl_g" ∷ codes "ac_cv_have_decl_h" ∷ []
unfolding words_of value_of fields parts_by job_of
asked_once = refl

declarations_defined : (finish (batched declarations start) replies).state.defs ≡ (codes "HAVE_DECL_F", codes "1") ∷ (codes "HAVE_DECL_H", codes "0") ∷ []
unfolding words_of value_of with_entry without_entry fields parts_by job_of
declarations_defined = refl

abbrev declarations_printed : List Note
declarations_printed =
    said_out (codes "checking whether f is declared... ") ∷ said_out (codes "yes\n")
    ∷ said_out (codes "checking whether g is declared... ") ∷ said_out (codes "refused\n")
    ∷ said_out (codes "checking whether f is declared... ") ∷ said_out (codes "(cached) yes\n")
    ∷ said_out (codes "checking whether h is declared... ") ∷ said_out (codes "no\n") ∷ []

printed_so : (finish (batched declarations start) replies).state.messages ≡ declarations_printed
unfolding words_of value_of with_entry without_entry fields parts_by job_of
printed_so = refl

pieces_so : test_pieces (asking 1 [] declarations start) (value_of (finish (batched declarations start) replies).state.vars) ≡ declarations_printed
unfolding words_of value_of with_entry without_entry fields parts_by job_of
pieces_so = refl

-- Of its names those that were answered are deeds, and g, which was refused, is none. If the last replies are missing, their
-- names have none either, and without a compiler nothing is done.
deeds_by_replies : batch_deeds declarations start replies ≡ Tested (codes "ac_cv_have_decl_f") ∷ Tested (codes "ac_cv_have_decl_h") ∷ []
unfolding words_of value_of fields parts_by job_of
deeds_by_replies = refl

deeds_by_one_reply : batch_deeds declarations start (good ∷ []) ≡ Tested (codes "ac_cv_have_decl_f") ∷ []
unfolding words_of value_of fields parts_by job_of
deeds_by_one_reply = refl

no_deeds_without_compiler : batch_deeds declarations (opened []) replies ≡ []
unfolding words_of value_of fields parts_by job_of
no_deeds_without_compiler = refl

-- ---- the same as a whole run

abbrev script : Script
script = Then declares.Nothing (effects.Batch Declaration names None) Done

script_has_replies : HasReplies (played script start replies) replies
unfolding effect meaning words_of value_of with_entry without_entry fields parts_by job_of
script_has_replies = refl

script_is_cut : (played script start replies).how ≡ Cut
unfolding effect meaning words_of value_of with_entry without_entry fields parts_by job_of
script_is_cut = refl

script_tells : (played script start replies).state.messages ≡ declarations_printed ++ piece Err (cut_line 2) ∷ []
unfolding effect meaning words_of value_of with_entry without_entry fields parts_by job_of
script_tells = refl

-- ---- AC_CHECK_TYPES([t])

type_has_jobs : (is_some (text_job (size_text (codes "t")) None start) ≡ true) × (is_some (text_job (value_text (codes "t")) None start) ≡ true)
unfolding words_of value_of fields parts_by job_of
type_has_jobs = (refl, refl)

type_is_defined : (finish (tested (row_of (Formed (record { form = type_form (codes "t") true; given = None })) start) start) (good ∷ bad ∷ [])).state.defs ≡ (codes "HAVE_T", codes "1") ∷ []
unfolding words_of value_of with_entry without_entry fields parts_by job_of
type_is_defined = refl

-- ---- AC_CHECK_PROGS([P],[a b],[c]) with two directories

abbrev paths : State
paths = opened ((codes "PATH", codes "/x:/y") ∷ [])

abbrev programs : List (List ℕ)
programs = codes "a" ∷ codes "b" ∷ []

are_named : AreNamed programs
are_named = record { some = λ e. cc; named = (λ e. cc, (λ e. cc, tt)) }

is_sought : IsSought (codes "P") paths
unfolding value_of
is_sought = record { empty = refl; unset = refl }

abbrev looks : Option (List Part) → Effect
looks otherwise = effects.Searches (codes "P") programs otherwise

enough_looks : Enough (effect (looks (Some (parts_are.Plain 99 ∷ []))) paths) (bad ∷ bad ∷ good ∷ [])
unfolding effect value_of with_entry directories_of parts parts_by
enough_looks = (omega arith, (omega arith, (omega arith, tt)))

b_is_found : (finish (effect (looks (Some (parts_are.Plain 99 ∷ []))) paths) (bad ∷ bad ∷ good ∷ [])).state.vars
    ≡ (codes "PATH", codes "/x:/y") ∷ (codes "P", codes "b") ∷ (codes "ac_cv_prog_P", codes "b") ∷ []
unfolding effect value_of with_entry directories_of parts parts_by
b_is_found = refl

none_is_found : (finish (effect (looks (Some (parts_are.Plain 99 ∷ []))) paths) (bad ∷ bad ∷ bad ∷ bad ∷ [])).state.vars ≡ (codes "PATH", codes "/x:/y") ∷ (codes "P", codes "c") ∷ []
unfolding effect value_of with_entry directories_of parts parts_by word_value
none_is_found = refl

-- ---- AC_CACHE_CHECK([x],[v_cv_x],[v_cv_x=yes]): whatever the replies, v_cv_x is set at the end, it is a cache name, and no other
-- name was set.

abbrev checks : Script
checks =
    Check (parts_are.Plain 120 ∷ []) (codes "v_cv_x")
    (Then declares.Nothing (effects.Assign (codes "v_cv_x") (parts_are.Plain 121 ∷ parts_are.Plain 101 ∷ parts_are.Plain 115 ∷ [])) Done) Done

checks_has_commands : HasCommands checks
unfolding is_cache_name has_cv
checks_has_commands = (refl, ((tt, (refl, tt)), tt))

checks_deeds : (rs : List Reply) → deeds checks start rs ≡ Tested (codes "v_cv_x") ∷ []
unfolding deeds effect meaning value_of with_entry without_entry word_value
checks_deeds rs = refl

checks_accounts : (rs : List Reply) → Accounts start.vars (Tested (codes "v_cv_x") ∷ []) (play (whole (meaning checks start)) rs).state.vars
checks_accounts rs = subst (λ ds. Accounts start.vars ds (play (whole (meaning checks start)) rs).state.vars) (checks_deeds rs) (deeds_account checks start rs checks_has_commands)

sets_its_name : (rs : List Reply) → IsSet (codes "v_cv_x") (play (whole (meaning checks start)) rs).state.vars
sets_its_name rs = (checks_accounts rs).all (codes "v_cv_x") (inr (inr (inl refl)))

sets_no_other : (rs : List Reply) (name : List ℕ) → IsSet name (play (whole (meaning checks start)) rs).state.vars → IsSet name start.vars ⊎ (codes "v_cv_x" ≡ name)
sets_no_other rs name set = from_test name (codes "v_cv_x") start.vars ((checks_accounts rs).only name set)

its_name_is_cached : (rs : List Reply) (name : List ℕ) → Among (Tested name) (deeds checks start rs) → is_cache_name name ≡ true
its_name_is_cached rs name h = tested_names_are_cached checks start rs name checks_has_commands ((tt, tt), tt) h
