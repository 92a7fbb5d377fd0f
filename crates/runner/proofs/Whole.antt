-- What is told besides is said of the input, too.
use Rattle.std.proofs.Common.{◌≡◌, ◌≢◌, ℕ, List, Option, Some, None, inl, inr, sym, subst}
use Rattle.std.specs.Prelude.{IfSome}
use Rattle.cmd_filter.specs.Filtered.{IsFiltered, IsRefused}
use Rattle.cmd_filter.specs.declared.fault.FilterFault.{FilterFault}
use Rattle.cmd_filter.specs.declared.fault.FilterFault.TheVariants.{Write}
use Rattle.runner.specs.Filters.{FiltersSo}

pub said_too : (o : Option (List ℕ)) (said seen : List ℕ) (Is : List ℕ → List ℕ → List ℕ → Type 0) (Put Quiet Told : List ℕ → Type 0)
    → seen ≡ said → IfSome o (λ input. (out : List ℕ) × Is input out said × Put out) → Quiet seen → Told seen
    → IfSome o (λ input. (out : List ℕ) × (s : List ℕ) × Is input out s × Put out × Quiet s × Told s)
said_too None said seen Is Put Quiet Told same h q t = tt
said_too (Some input) said seen Is Put Quiet Told same h q t = (h.0, seen, subst (λ (s : List ℕ). Is input h.0 s) (sym same) h.1, h.2, q, t)

-- What is told whole is said of the input.
pub said_whole : (o : Option (List ℕ)) (said seen : List ℕ) (Is : List ℕ → List ℕ → List ℕ → Type 0) (Put Whole : List ℕ → Type 0)
    → seen ≡ said → IfSome o (λ input. (out : List ℕ) × Is input out said × Put out) → Whole seen → IfSome o (λ input. (out : List ℕ) × (s : List ℕ) × Is input out s × Whole s)
said_whole None said seen Is Put Whole same h w = tt
said_whole (Some input) said seen Is Put Whole same h w = (h.0, seen, subst (λ (s : List ℕ). Is input h.0 s) (sym same) h.1, w)

-- The input was filtered.
pub filtered_so : (o : Option (List ℕ)) (status : ℕ) (unwritten : Type 0) (Put Quiet Told : List ℕ → Type 0)
    → IfSome o (λ input. (out : List ℕ) × (said : List ℕ) × IsFiltered input out said status × Put out × Quiet said × Told said)
    → IfSome o (λ input. FiltersSo input status unwritten (λ out said. Put out × Quiet said × Told said))
filtered_so None status unwritten Put Quiet Told h = tt
filtered_so (Some input) status unwritten Put Quiet Told h = inr (h.0, h.1, h.2, (h.3, h.4, h.5))

-- The input has a fault.
pub refused_so : (o : Option (List ℕ)) (fault : FilterFault) (status : ℕ) (unwritten : Type 0) (IsSo : List ℕ → List ℕ → Type 0)
    → IfSome o (λ input. IsRefused input fault) → status ≡ 2 → (fault ≢ Write → unwritten) → IfSome o (λ input. FiltersSo input status unwritten IsSo)
refused_so None fault status unwritten IsSo h is quiet = tt
refused_so (Some input) fault status unwritten IsSo h is quiet = inl (fault, h, is, quiet)
