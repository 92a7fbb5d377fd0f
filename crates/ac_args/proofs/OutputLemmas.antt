-- The outputs of fields, one after another.
use Rattle.std.proofs.Common.{◌≡◌, ℕ, ◌+◌, ◌<◌, ◌≤◌, List, Bor, length, drop, get_or, map, [], ◌∷◌, ◌++◌, Result, Ok, ap, ◌∙◌, sym, subst}
use Rattle.std.proofs.lemmas.List.{drop_more}
use Rattle.std.proofs.Math.ListN.{drop_of_length-le}
use Rattle.ac_statement.specs.declared.fault.ParseFault.{ParseFault}
use Rattle.output_list.specs.declared.output.Output.{Output}
use Rattle.ac_args.specs.Path.{output_in}
use Rattle.ac_args.specs.Outputs.{one_more, wanted, with_fields}
use Rattle.ac_statement.specs.Reading.{◌>>=◌, Fails}
use Rattle.ac_statement.proofs.Binds.{fails_bind, fails_along}

abbrev pub texts : List (Bor (List ℕ)) → List (List ℕ)
texts fields = map (λ f. f.now) fields

-- the reading of the fields from i on, as it stands after the field there
at_field : (at : ℕ) (own other outs : List Output) (i : ℕ) (fields : List (Bor (List ℕ))) (d : Bor (List ℕ)) → i < length fields
    → with_fields at own other outs (texts (drop i fields)) ≡ (one_more at own other outs (get_or fields i d).now >>= λ first. with_fields at own other first (texts (drop (i + 1) fields)))
unfolding with_fields
at_field at own other outs i fields d lt = ap (λ fs. with_fields at own other outs (texts fs)) (drop_more fields i d lt)

pub field_more : (at : ℕ) (own other outs outs' : List Output) (i : ℕ) (fields : List (Bor (List ℕ))) (d : Bor (List ℕ)) (total : Result (List Output) ParseFault) → i < length fields
    → one_more at own other outs (get_or fields i d).now ≡ Ok outs' → with_fields at own other outs (texts (drop i fields)) ≡ total
    → with_fields at own other outs' (texts (drop (i + 1) fields)) ≡ total
field_more at own other outs outs' i fields d total lt one h =
    sym (at_field at own other outs i fields d lt ∙ ap (λ r. r >>= λ first. with_fields at own other first (texts (drop (i + 1) fields))) one) ∙ h

pub field_fails : (e : ParseFault) (at : ℕ) (own other outs : List Output) (i : ℕ) (fields : List (Bor (List ℕ))) (d : Bor (List ℕ)) (total : Result (List Output) ParseFault) → i < length fields
    → Fails e (one_more at own other outs (get_or fields i d).now) → with_fields at own other outs (texts (drop i fields)) ≡ total → Fails e total
field_fails e at own other outs i fields d total lt bad h =
    fails_along e _ _ (sym (at_field at own other outs i fields d lt) ∙ h) (fails_bind e _ _ bad)

pub field_end : (at : ℕ) (own other outs : List Output) (i : ℕ) (fields : List (Bor (List ℕ))) → length fields ≤ i → with_fields at own other outs (texts (drop i fields)) ≡ Ok outs
unfolding with_fields
field_end at own other outs i fields le = ap (λ fs. with_fields at own other outs (texts fs)) (drop_of_length-le fields le)

pub check_fails : (e : ParseFault) (at : ℕ) (own other outs : List Output) (field : List ℕ) (output : Output) → output ≡ output_in field → Fails e (wanted at own other outs output) → Fails e (one_more at own other outs field)
unfolding one_more
check_fails e at own other outs field output is bad = fails_bind e _ _ (subst (λ (o : Output). Fails e (wanted at own other outs o)) is bad)

pub check_passes : (at : ℕ) (own other outs : List Output) (field : List ℕ) (output : Output) (pushed : List Output) (u : Unit {0}) → output ≡ output_in field → wanted at own other outs output ≡ Ok u → pushed ≡ outs ++ output ∷ []
    → one_more at own other outs field ≡ Ok pushed
unfolding one_more
check_passes at own other outs field output pushed u is ok e =
    ap (λ (r : Result (Unit {0}) ParseFault). r >>= λ _. Ok (outs ++ output_in field ∷ [])) (ap (λ (o : Output). wanted at own other outs o) (sym is) ∙ ok)
    ∙ ap (λ (x : List Output). Ok x) (ap (λ (o : Output). outs ++ o ∷ []) (sym is) ∙ sym e)
