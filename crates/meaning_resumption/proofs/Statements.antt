-- Statements without statements in them, as parts.
use Rattle.std.proofs.Common.{◌≡◌, ℕ, List, [], ◌∷◌, ◌++◌, codes, Bool, cond, length, Option, Some, None, inl, refl, sym, ap, ◌∙◌, subst, ⊎_elim}
use Rattle.std.specs.Prelude.{◌==◌, not, option_map, option_to_list}
use Rattle.deftable.specs.CacheName.{is_cache_name, has_cv}
use Rattle.deftable.specs.Table.{value_of}
use Rattle.shellword.specs.declared.part.Part.{Part}
use Rattle.shellword.specs.Value.{word_value}
use Rattle.ac_tree.specs.declared.statement.Declares.{Declares}
use Rattle.ac_tree.specs.declared.statement.Declares.TheVariants.{Variable}
use Rattle.ac_tree.specs.declared.statement.Effect.{Effect}
use Rattle.ac_tree.specs.declared.statement.Effect.TheVariants.{Nothing, Assign, Define, DefineText, Print, Stop, Package, Search, Searches, Batch, Complete}
use Rattle.ac_tree.specs.declared.statement.Message.{Message}
use Rattle.ac_tree.specs.declared.statement.Message.TheVariants.{Error}
use Rattle.ac_tree.specs.declared.statement.ProgramValue.TheVariants.{Text, FullName}
use Rattle.ac_tree.specs.Resumable.{IsOrdinary, MayRead, ReadsText, ReadsAll, MayAssign, MayUse}
use Rattle.ac_tree.specs.TestNames.{program_name, path_name, NamesVariable}
use Rattle.ac_tree.specs.Uses.{uses_of}
use Rattle.meaning.specs.State.{State, with_variable, with_definition, Goes_on, Completed, Stopped, Run, Ends, value_or_empty}
use Rattle.meaning.specs.Messages.{with_message}
use Rattle.meaning.specs.Tests.{tested}
use Rattle.meaning.specs.Rows.{value_if, row_of}
use Rattle.meaning.specs.Package.{literal, package_string, with_package, initialised}
use Rattle.meaning.specs.Meaning.{is_unsettled, settled, with_prefixes, is_full_name, effect}
use Rattle.meaning_resumption.specs.Alone.{AreNone, AloneUse}
use Rattle.meaning_resumption.specs.Joint.{joint_plain, joint_one}
use Rattle.meaning_resumption.specs.Same.{SameEach, SameUse}
use Rattle.meaning_resumption.proofs.Near.{Within, IsCached, Alike, Every, IsPart}
use Rattle.meaning_laws.proofs.Names.{program_cached, path_cached}
use Rattle.meaning_resumption.proofs.Names.{value_else, cached_apart}
use Rattle.meaning_resumption.proofs.Liking.{Reads, variable_alike, written_alike, definition_alike, cond_alike, text_same}
use Rattle.meaning_resumption.proofs.Forms.{IsTest, cond_values, reads_more}
use Rattle.meaning_resumption.proofs.Parts.{part_less}
use Rattle.meaning_resumption.proofs.Programs.{SameKind, prog_kind, prog_test, own_same, looks_test, test_then, default_of, default_alike, default_values, given_same}
use Rattle.meaning_resumption.proofs.Single.{still_part, ends_part, test_part}
use Rattle.meaning_resumption.proofs.BatchPart.{list_part}

pub id_part : (known : List (List ℕ)) (fits : List (List ℕ) → Type 0) → IsPart known known [] (Ends Goes_on) (joint_one (Ends Goes_on)) (λ p. Unit {0}) fits
id_part known fits = still_part [] known (λ st. st) fits (λ n a. absurd a) (λ at reads s t h. h) (λ n st c. refl)

-- A cache name is not written with an ordinary one.
pub write_values : (name value : List ℕ) (n : List ℕ) (st : State) → IsOrdinary name → IsCached n → value_of (with_variable name value st).vars n ≡ value_of st.vars n
write_values name value n st p c = value_else st.vars name value n (λ e. cached_apart n name c p (sym e))

-- ---- AC_INIT, messages and the end

package_alike : (at : List ℕ → Type 0) (name value : List ℕ) (s t : State) → Alike at s t → Alike at (with_package s name value) (with_package t name value)
package_alike at name value s t h = definition_alike at name (literal value) (with_variable name value s) (with_variable name value t) (variable_alike at name value s t h)

init_alike : (at : List ℕ → Type 0) (title version bug tarname url : List ℕ) (s t : State) → Alike at s t → Alike at (initialised title version bug tarname url s) (initialised title version bug tarname url t)
unfolding initialised
init_alike at title version bug tarname url s t h =
    package_alike at (codes "PACKAGE_URL") url _ _ (package_alike at (codes "PACKAGE_BUGREPORT") bug _ _ (package_alike at (codes "PACKAGE_STRING") (package_string title version) _ _
    (package_alike at (codes "PACKAGE_VERSION") version _ _ (package_alike at (codes "PACKAGE_TARNAME") tarname _ _ (package_alike at (codes "PACKAGE_NAME") title s t h)))))

init_values : (title version bug tarname url : List ℕ) (n : List ℕ) (st : State) → IsCached n → value_of (initialised title version bug tarname url st).vars n ≡ value_of st.vars n
unfolding initialised is_cache_name has_cv
init_values title version bug tarname url n st c =
    let a = with_package st (codes "PACKAGE_NAME") title in
    let b = with_package a (codes "PACKAGE_TARNAME") tarname in
    let d = with_package b (codes "PACKAGE_VERSION") version in
    let e = with_package d (codes "PACKAGE_STRING") (package_string title version) in
    let f = with_package e (codes "PACKAGE_BUGREPORT") bug in
    write_values (codes "PACKAGE_URL") url n f refl c ∙ write_values (codes "PACKAGE_BUGREPORT") bug n e refl c ∙ write_values (codes "PACKAGE_STRING") (package_string title version) n d refl c
    ∙ write_values (codes "PACKAGE_VERSION") version n b refl c ∙ write_values (codes "PACKAGE_TARNAME") tarname n a refl c ∙ write_values (codes "PACKAGE_NAME") title n st refl c

said_alike : (at : List ℕ → Type 0) (message : Message) (v w : List ℕ) (s t : State) → Alike at s t → Alike at (with_message message v s) (with_message message w t)
said_alike at message v w s t h = record { defs = h.defs; value = h.value }

settled_alike : (name value : List ℕ) (s t : State) → Alike Every s t → Alike Every (settled name value s) (settled name value t)
settled_alike name value s t h =
    subst (λ b. Alike Every (settled name value s) (cond b (with_variable name value t) t)) (ap is_unsettled (h.value name tt))
    (cond_alike Every (is_unsettled (value_of s.vars name)) _ _ _ _ (variable_alike Every name value s t h) h)

settled_values : (name value : List ℕ) (n : List ℕ) (o : Option (List ℕ)) (st : State) → IsOrdinary name → IsCached n → value_of st.vars n ≡ o → value_of (settled name value st).vars n ≡ o
settled_values name value n o st p c e = cond_values (is_unsettled (value_of st.vars name)) _ _ n o (write_values name value n st p c ∙ e) e

prefixes_values : (n : List ℕ) (st : State) → IsCached n → value_of (with_prefixes st).vars n ≡ value_of st.vars n
unfolding is_cache_name has_cv
prefixes_values n st c =
    settled_values (codes "exec_prefix") (codes "${prefix}") n _ (settled (codes "prefix") (codes "/usr/local") st) refl c (settled_values (codes "prefix") (codes "/usr/local") n _ st refl c refl)

-- ---- tests of programs

pub may_assign : (variable : List ℕ) → MayAssign None variable → IsOrdinary variable
may_assign variable m = ⊎_elim (λ p. p) (λ h. absurd h) m

same_three : (name variable program : List ℕ) (a b c d e f : Option (List ℕ)) → a ≡ b → c ≡ d → e ≡ f → prog_kind name variable program a c e ≡ prog_kind name variable program b d f
same_three name variable program a b c d e f p q r =
    ap (λ x. prog_kind name variable program x c e) p ∙ ap (λ x. prog_kind name variable program b x e) q ∙ ap (prog_kind name variable program b d) r

search_same : (at : List ℕ → Type 0) (names : List (List ℕ)) (counts : List ℕ → Bool) (name variable program : List ℕ) (found otherwise : Option (List Part)) → at variable → Reads at names → ReadsAll names (option_to_list found) → ReadsAll names (option_to_list otherwise)
    → SameKind at (λ st. prog_kind name variable program (option_map (λ t. word_value t st.vars) found) (option_map (λ t. word_value t st.vars) otherwise) (value_if (counts (value_or_empty st variable)) (value_or_empty st variable)))
search_same at names counts name variable program found otherwise a reads r q s t h =
    same_three name variable program _ _ _ _ _ _ (given_same at names found s t reads r h) (given_same at names otherwise s t reads q h) (own_same at counts variable s t a h)

-- A test that may leave its name unset.
search_part : (known : List (List ℕ)) (name : List ℕ) (after : Option (List ℕ) → State → State) (part : State → Run) → IsTest known name after part
    → IsPart known (name ∷ known) (name ∷ []) part (joint_one part) (SameEach (name ∷ []) part) (AreNone (name ∷ []))
search_part known name after part test =
    part_less known (name ∷ known) (name ∷ known) (name ∷ []) (name ∷ []) part (joint_one part) _ _ _ _ (λ n k. k) (λ n k. k) (λ p x. x.0) (λ later x. x)
    (test_part known name after part (AreNone (name ∷ [])) test (λ later f. inl f.0))

-- AC_CHECK_PROG and AC_PATH_PROG; `counts` says whether the variable's own value counts.
program_part : (tested_before known : List (List ℕ)) (counts : List ℕ → Bool) (name variable program : List ℕ) (found otherwise : Option (List Part)) → Within tested_before known → IsCached name → MayAssign None variable → ReadsAll tested_before (option_to_list found) → ReadsAll tested_before (option_to_list otherwise)
    → (let part : State → Run = λ st. tested (row_of (prog_kind name variable program (option_map (λ t. word_value t st.vars) found) (option_map (λ t. word_value t st.vars) otherwise) (value_if (counts (value_or_empty st variable)) (value_or_empty st variable))) st) st in
    IsPart known (name ∷ known) (name ∷ []) part (joint_one part) (SameEach (name ∷ []) part) (AreNone (name ∷ [])))
program_part tested_before known counts name variable program found otherwise w c m r q =
    let p = may_assign variable m in
    search_part known name _ _
    (prog_test known name variable program _ _ _ c p (search_same Every tested_before counts name variable program found otherwise tt (λ n k. tt) r q)
    (search_same (MayRead (name ∷ known)) tested_before counts name variable program found otherwise (inl p) (reads_more tested_before known name w) r q))

-- ---- statements

set_part : (tested known : List (List ℕ)) (name : List ℕ) (value : List Part) (fits : List (List ℕ) → Type 0) → Within tested known → MayAssign None name → ReadsText tested value
    → IsPart known known [] (λ st. Ends Goes_on (with_variable name (word_value value st.vars) st)) (joint_one (λ st. Ends Goes_on (with_variable name (word_value value st.vars) st))) (λ p. Unit {0}) fits
set_part tested known name value fits w m r =
    still_part tested known (λ st. with_variable name (word_value value st.vars) st) fits w
    (λ at reads s t a. written_alike at name (word_value value s.vars) (word_value value t.vars) s t (text_same at tested value s t reads r a) a)
    (λ n st c. write_values name (word_value value st.vars) n st (may_assign name m) c)

defined_alike : (at : List ℕ → Type 0) (name v w : List ℕ) (s t : State) → v ≡ w → Alike at s t → Alike at (with_definition name v s) (with_definition name w t)
defined_alike at name v w s t e h = subst (λ x. Alike at (with_definition name v s) (with_definition name x t)) e (definition_alike at name v s t h)

pub plain_part : (tested known : List (List ℕ)) (d : Declares) (e : Effect) → Within tested known → NamesVariable e → MayUse None tested (uses_of d e)
    → IsPart known ((uses_of d e).tests ++ known) (uses_of d e).tests (effect e) (joint_plain e) (SameUse (uses_of d e) (effect e)) (AloneUse (uses_of d e))
unfolding effect joint_plain
plain_part tested known (Variable name) Nothing w v r = id_part known _
plain_part tested known d Nothing w v r = id_part known _
plain_part tested known d (Assign name value) w v r = set_part tested known name value _ w r.1.0 r.1.1.0
plain_part tested known d (Define name value) w v r =
    still_part tested known (with_definition name value) _ w (λ at reads s t a. definition_alike at name value s t a) (λ n st c. refl)
plain_part tested known d (DefineText name value) w v r =
    still_part tested known (λ st. with_definition name (word_value value st.vars) st) _ w
    (λ at reads s t a. defined_alike at name _ _ s t (text_same at tested value s t reads r.1.1.0 a) a) (λ n st c. refl)
plain_part tested known d (Print message text) w v r =
    still_part tested known (λ st. with_message message (word_value text st.vars) st) _ w (λ at reads s t a. said_alike at message _ _ s t a) (λ n st c. refl)
plain_part tested known d (Stop text status) w v r =
    ends_part known (Stopped status) (λ st. with_message Error (word_value text st.vars) st) _ (λ later now E h. h) (λ s t a. said_alike Every Error _ _ s t a) (λ n st c. refl)
plain_part tested known d (Package title version bug tarname url) w v r =
    still_part tested known (initialised title version bug tarname url) _ w (λ at reads s t a. init_alike at title version bug tarname url s t a)
    (λ n st c. init_values title version bug tarname url n st c)
plain_part tested known d (Search variable program (Text found) otherwise) w v r =
    program_part tested known (λ value. not (length value == 0)) (program_name variable) variable program (Some found) otherwise w (program_cached variable v) r.1.0 (r.1.1.0, tt) r.1.1.1
plain_part tested known d (Search variable program FullName otherwise) w v r =
    program_part tested known is_full_name (path_name variable) variable program None otherwise w (path_cached variable v) r.1.0 tt r.1.1
plain_part tested known d (Searches variable programs otherwise) w v r =
    let name = program_name variable in
    let p = may_assign variable r.1.0 in
    search_part known name _ _
    (test_then known name _ _ (default_of variable otherwise)
    (λ s t a. default_alike Every tested variable otherwise s t tt (λ n k. tt) r.1.1 a)
    (λ s t a. default_alike (MayRead (name ∷ known)) tested variable otherwise s t (inl p) (reads_more tested known name w) r.1.1 a)
    (λ n st c. default_values variable (option_map (λ t. word_value t st.vars) otherwise) n st p c)
    (looks_test known name variable programs (program_cached variable v) p))
plain_part tested known d (Batch listed entries includes) w v r =
    list_part tested known listed entries includes _ r.1.1
plain_part tested known d Complete w v r =
    ends_part known Completed with_prefixes _ (λ later now E h. h)
    (λ s t a. settled_alike (codes "exec_prefix") (codes "${prefix}") _ _ (settled_alike (codes "prefix") (codes "/usr/local") s t a)) prefixes_values
