-- What a sequence of readings that succeeds or fails implies for its parts.
use Rattle.std.proofs.Common.{◌≡◌, Result, ap, sym, ◌∙◌}
use Rattle.ac_statement.specs.declared.fault.ParseFault.{ParseFault}
use Rattle.ac_statement.specs.declared.fault.ParseFault.TheVariants.{OutOfMemory}
use Rattle.ac_statement.specs.Reading.{◌>>=◌, Fails}
pub use Rattle.fallible.proofs.Binds.{bind_ok, bind_err, then_ok, ok_is, err_is, wants_ok, wants_true, wants_err}

-- ---- errors of readings

pub fails_bind : {A B : Type 0} (e : ParseFault) (r : Result A ParseFault) (f : A → Result B ParseFault) → Fails e r → Fails e (r >>= f)
fails_bind OutOfMemory r f h = tt
fails_bind e r f h = ap (λ x. x >>= f) h

pub fails_along : {A : Type 0} (e : ParseFault) (r s : Result A ParseFault) → r ≡ s → Fails e r → Fails e s
fails_along OutOfMemory r s eq h = tt
fails_along e r s eq h = sym eq ∙ h
