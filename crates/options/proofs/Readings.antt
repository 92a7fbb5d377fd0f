-- The result of the arguments that have been read, one argument further.
use Rattle.std.proofs.Common.{◌≡◌, ◌⊎◌, inl, inr, refl, ℕ, ◌+◌, ◌<◌, ◌≤◌, List, Result, Ok, Err, length, drop, get_or, sym, ap, ◌∙◌, arith}
use Rattle.std.proofs.Math.ListN.{drop_of_length-le}
use Rattle.options_line.proofs.Turns.{next_of}
use Rattle.options.specs.Stepwise.{with_argument, with_arguments, at_end}
use Rattle.options_line.specs.Reading.{◌>>=◌, Fails, Gives}
use Rattle.options_line.specs.declared.fault.OptionFault.{OptionFault}
use Rattle.options_line.specs.declared.fault.OptionFault.TheVariants.{OutOfMemory}
use Rattle.options.specs.declared.reader.ReadArguments.{ReadArguments}

pub or_memory : {A : Type 0} {read : Result A OptionFault} (f : OptionFault) → Fails f read → (f ≡ OutOfMemory) ⊎ (read ≡ Err f)
or_memory OutOfMemory h = inl refl
or_memory f h = inr h

pub fails_bind : {A B : Type 0} (e : OptionFault) (r : Result A OptionFault) (f : A → Result B OptionFault) → Fails e r → Fails e (r >>= f)
fails_bind OutOfMemory r f h = tt
fails_bind e r f h = ap (λ x. x >>= f) h

pub fails_along : {A : Type 0} (e : OptionFault) (r s : Result A OptionFault) → r ≡ s → Fails e r → Fails e s
fails_along OutOfMemory r s eq h = tt
fails_along e r s eq h = sym eq ∙ h

-- The reading of the arguments from i on, after the argument there.
at_argument : (features packages : List (List ℕ)) (r : ReadArguments) (i : ℕ) (args : List (List ℕ)) (x : List ℕ) → i < length args → x ≡ get_or args i x
    → with_arguments features packages i r (drop i args) ≡ (with_argument features packages (i + 1) x r >>= λ next. with_arguments features packages (i + 1) next (drop (i + 1) args))
unfolding with_arguments
at_argument features packages r i args x lt is = ap (with_arguments features packages i r) (next_of args i x lt is)

pub argument_read : (features packages : List (List ℕ)) (r next : ReadArguments) (i : ℕ) (args : List (List ℕ)) (x : List ℕ) (total : Result ReadArguments OptionFault)
    → i < length args → x ≡ get_or args i x → with_argument features packages (i + 1) x r ≡ Ok next
    → with_arguments features packages i r (drop i args) ≡ total → with_arguments features packages (i + 1) next (drop (i + 1) args) ≡ total
argument_read features packages r next i args x total lt is one h =
    sym (at_argument features packages r i args x lt is ∙ ap (λ q. q >>= λ s. with_arguments features packages (i + 1) s (drop (i + 1) args)) one) ∙ h

pub argument_fails : (e : OptionFault) (features packages : List (List ℕ)) (r : ReadArguments) (i : ℕ) (args : List (List ℕ)) (x : List ℕ) (total : Result ReadArguments OptionFault)
    → i < length args → x ≡ get_or args i x → Fails e (with_argument features packages (i + 1) x r)
    → with_arguments features packages i r (drop i args) ≡ total → Fails e total
argument_fails e features packages r i args x total lt is bad h =
    fails_along e _ _ (sym (at_argument features packages r i args x lt is) ∙ h) (fails_bind e _ _ bad)

pub arguments_end : (features packages : List (List ℕ)) (r : ReadArguments) (i : ℕ) (args : List (List ℕ)) → length args ≤ i → i ≤ length args
    → with_arguments features packages i r (drop i args) ≡ at_end (length args) r
unfolding with_arguments
arguments_end features packages r i args le ge =
    let e : i ≡ length args = omega arith in
    ap (with_arguments features packages i r) (drop_of_length-le args le) ∙ ap (λ n. at_end n r) e

pub gives_along : (result : Result ReadArguments OptionFault) (r s : Result ReadArguments OptionFault) → r ≡ s → Gives (λ x. x) result r → Gives (λ x. x) result s
gives_along (Ok x) r s e h = sym e ∙ h
gives_along (Err fault) r s e h = fails_along fault r s e h
