-- What follows from what happened, for the exit status.
use Rattle.std.proofs.Common.{◌≡◌, ◌≢◌, ℕ, Bool, true, List, Option, Some, None, sym, subst, ◌∙◌}
use Rattle.cmd_call.specs.Calls.{ProgramCall, Configure, Recheck, Lint, Port, Header, Why, IfConfigure, IfRecheck}
use Rattle.cmd_configure.specs.Ended.{Exits, Prints}
use Rattle.cmd_status.proofs.Happenings.{done_unless}
use Rattle.cmd_status.specs.Happened.{is_all_done, is_output_cut, status_after}
use Rattle.cmd_status.specs.Printed.{WritesSo, Written}
use Rattle.cmd_status.specs.declared.happened.Happened.{Happened}
use Rattle.runner.specs.Tools.{EndsBy, IfTools}

-- What holds if all was done, unless the status is 2.
pub unless_fault : (P : ℕ → Type 0) (status : ℕ) (happened : Happened) → status ≡ status_after happened → (is_all_done happened ≡ true → P (status_after happened)) → status ≢ 2 → P status
unless_fault P status happened is done ne = subst P (sym is) (done (done_unless happened (λ e. ne (is ∙ e))))

pub exits_so : (P : ℕ → Type 0) (is_so : Happened → Type 0) (status : ℕ) (happened : Happened) → status ≡ status_after happened → is_so happened → (is_all_done happened ≡ true → P (status_after happened)) → Exits status is_so (P status)
exits_so P is_so status happened is so done = (happened, is, so, λ all. subst P (sym is) (done all))

-- What is written is left out.
unprinted : {E : Type 0} (status : ℕ) (Put : Happened → (Written → Type 0) → Type 0) (is_so : Happened → Written → Type 0) (P : List ℕ → List (List ℕ) → Type 0) (output printed : Option (List ℕ)) (contents : E → Option (List ℕ)) (has_failed : E → Bool) (old new : E) (is_asked : Bool)
    → ((happened : Happened) → Put happened (is_so happened) → (written : Written) × is_so happened written)
    → Exits status (λ happened. Put happened (is_so happened)) (Prints output printed contents has_failed old new is_asked P)
    → Exits status (λ happened. (written : Written) × is_so happened written) ((out : List ℕ) × (said : List (List ℕ)) × P out said)
unprinted status Put is_so P output printed contents has_failed old new is_asked of_put h = (h.0, h.1, of_put h.0 h.2, λ all. let p = h.3 all in (p.0, p.1, p.2))

abbrev pub Puts : {W E : Type 0} → (W → Option (List ℕ)) → (W → Bool) → (E → Option (List ℕ)) → (E → Bool) → W → W → E → E → Bool → Happened → (Written → Type 0) → Type 0
Puts taken is_full contents has_failed output now old new is_asked happened is_so = WritesSo taken is_full contents has_failed output now old new is_asked (is_output_cut happened) is_so

pub configure_unprinted : {W E : Type 0} (taken : W → Option (List ℕ)) (is_full : W → Bool) (contents : E → Option (List ℕ)) (has_failed : E → Bool) (output now : W) (old new : E) (is_asked : Bool) (call : ProgramCall) (status : ℕ) (is_so : ℕ → List (List ℕ) → Happened → Written → Type 0) (P : ℕ → List (List ℕ) → List ℕ → List (List ℕ) → Type 0)
    → IfConfigure call (λ window args. Exits status (λ happened. WritesSo taken is_full contents has_failed output now old new is_asked (is_output_cut happened) (is_so window args happened)) (Prints (taken output) (taken now) contents has_failed old new is_asked (P window args)))
    → IfConfigure call (λ window args. Exits status (λ happened. (written : Written) × is_so window args happened written) ((out : List ℕ) × (said : List (List ℕ)) × P window args out said))
configure_unprinted taken is_full contents has_failed output now old new is_asked (Configure window args) status is_so P h =
    unprinted status (Puts taken is_full contents has_failed output now old new is_asked) (is_so window args) (P window args) (taken output) (taken now) contents has_failed old new is_asked (λ happened put. (put.0, put.1)) h
configure_unprinted taken is_full contents has_failed output now old new is_asked call status is_so P h = tt

pub recheck_unprinted : {W E : Type 0} (taken : W → Option (List ℕ)) (is_full : W → Bool) (contents : E → Option (List ℕ)) (has_failed : E → Bool) (output now : W) (old new : E) (is_asked : Bool) (call : ProgramCall) (status : ℕ) (is_so : Happened → Written → Type 0) (P : List ℕ → List (List ℕ) → Type 0)
    → IfRecheck call (Exits status (λ happened. WritesSo taken is_full contents has_failed output now old new is_asked (is_output_cut happened) (is_so happened)) (Prints (taken output) (taken now) contents has_failed old new is_asked P))
    → IfRecheck call (Exits status (λ happened. (written : Written) × is_so happened written) ((out : List ℕ) × (said : List (List ℕ)) × P out said))
recheck_unprinted taken is_full contents has_failed output now old new is_asked Recheck status is_so P h =
    unprinted status (Puts taken is_full contents has_failed output now old new is_asked) is_so P (taken output) (taken now) contents has_failed old new is_asked (λ happened put. (put.0, put.1)) h
recheck_unprinted taken is_full contents has_failed output now old new is_asked call status is_so P h = tt

-- The same, unless the status is 2.
pub configure_told : (call : ProgramCall) (status : ℕ) (P : ℕ → List (List ℕ) → List ℕ → List (List ℕ) → Type 0) (Put : List ℕ → Type 0) (Told : List (List ℕ) → Type 0)
    → IfConfigure call (λ window args. status ≢ 2 → (out : List ℕ) × (said : List (List ℕ)) × P window args out said × Put out × Told said)
    → IfConfigure call (λ window args. status ≢ 2 → (out : List ℕ) × (said : List (List ℕ)) × P window args out said)
configure_told (Configure window args) status P Put Told h = λ ne. let p = h ne in (p.0, p.1, p.2)
configure_told call status P Put Told h = tt

pub recheck_told : (call : ProgramCall) (status : ℕ) (P : List ℕ → List (List ℕ) → Type 0) (Put : List ℕ → Type 0) (Told : List (List ℕ) → Type 0)
    → IfRecheck call (status ≢ 2 → (out : List ℕ) × (said : List (List ℕ)) × P out said × Put out × Told said)
    → IfRecheck call (status ≢ 2 → (out : List ℕ) × (said : List (List ℕ)) × P out said)
recheck_told Recheck status P Put Told h = λ ne. let p = h ne in (p.0, p.1, p.2)
recheck_told call status P Put Told h = tt

-- ---- the program of the tools

-- Of what is said of its commands something else follows.
pub of_tools : (call : ProgramCall) (P Q : Type 0) → (P → Q) → IfTools call P → IfTools call Q
of_tools (Lint words) P Q f p = f p
of_tools (Port words) P Q f p = f p
of_tools (Header words) P Q f p = f p
of_tools (Why words) P Q f p = f p
of_tools call P Q f p = tt

-- What is said of a status, without what was said on the streams.
pub ends_alone : (ended : Option ℕ) (status : ℕ) (silent told : Type 0) → EndsBy ended status silent told → EndsBy ended status (Unit {0}) (Unit {0})
ends_alone (Some number) status silent told e = (e.0, tt)
ends_alone None status silent told e = (e.0, tt)
