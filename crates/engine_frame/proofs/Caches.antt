-- The cache text of variables.
use Rattle.std.proofs.Common.{◌≡◌, ◌≤◌, ℕ, List, length, Result, Ok, Err, subst}
use Rattle.std.specs.Prelude.{IfOk}
use Rattle.cachefile.specs.Cache.{limit}
use Rattle.cachefile.specs.Text.{cache_text_of, IsCacheText, ReadsBack}
use Rattle.engine_frame.specs.Handing.{IsCacheOf}

-- A text that is that of the variables, and is read.
pub is_cache : {E : Type 0} (vars : List (List ℕ × List ℕ)) (result : Result (List ℕ) E) → IfOk result (IsCacheText vars) → IfOk result (λ t. t ≡ cache_text_of vars)
    → IfOk result (λ t. length t ≤ limit → ReadsBack vars t) → IfOk result (λ t. IsCacheOf vars)
is_cache vars (Ok t) is_text same reads_back = record {
  is_text = subst (IsCacheText vars) same is_text;
  reads_back = subst (λ t. length t ≤ limit → ReadsBack vars t) same reads_back;
}
is_cache vars (Err e) is_text same reads_back = tt
