-- What was read of lines, one line further.
use Rattle.std.proofs.Common.{◌≡◌, ℕ, ◌+◌, ◌<◌, ◌≤◌, List, ◌++◌, Option, Result, Ok, Err, Bor, length, drop, map, get_or, refl, sym, ap, ◌∙◌, append_assoc}
use Rattle.std.specs.Prelude.{option_to_list}
use Rattle.std.proofs.lemmas.List.{append-nil, drop_more}
use Rattle.std.proofs.Math.ListN.{drop_of_length-le}
use Rattle.cachefile.specs.declared.fault.CacheFault.{CacheFault}
use Rattle.cachefile.specs.declared.fault.CacheFault.TheVariants.{OutOfMemory}
use Rattle.cachefile.specs.Line.{Setting}
use Rattle.cachefile.specs.Reading.{◌>>=◌, Fails}
use Rattle.cachefile.specs.Cache.{entry_of, lines_from}

-- what was read, with what is still to be read
abbrev pub left : List Setting → ℕ → List (Bor (List ℕ)) → Result (List Setting) CacheFault
left now i items = lines_from (i + 1) (map (λ line. line.now) (drop i items)) >>= λ more. Ok (now ++ more)

fails_bind : {A B : Type 0} (e : CacheFault) (r : Result A CacheFault) (f : A → Result B CacheFault) → Fails e r → Fails e (r >>= f)
fails_bind OutOfMemory r f h = tt
fails_bind e r f h = ap (λ x. x >>= f) h

fails_along : {A : Type 0} (e : CacheFault) (r s : Result A CacheFault) → r ≡ s → Fails e r → Fails e s
fails_along OutOfMemory r s eq h = tt
fails_along e r s eq h = sym eq ∙ h

rebound : (now add : List Setting) (r : Result (List Setting) CacheFault)
    → (r >>= λ more. Ok (add ++ more)) >>= (λ more. Ok (now ++ more)) ≡ (r >>= λ more. Ok ((now ++ add) ++ more))
rebound now add (Ok more) = ap (λ t. Ok t) (sym (append_assoc now add more))
rebound now add (Err e) = refl

-- the lines from i on begin with the one there
at_line : (now : List Setting) (i : ℕ) (items : List (Bor (List ℕ))) (d : Bor (List ℕ)) → i < length items
    → left now i items ≡ ((entry_of (i + 1) (get_or items i d).now >>= λ setting. lines_from (i + 1 + 1) (map (λ line. line.now) (drop (i + 1) items)) >>= λ more. Ok (option_to_list setting ++ more)) >>= λ more. Ok (now ++ more))
unfolding lines_from
at_line now i items d lt = ap (λ t. lines_from (i + 1) (map (λ line. line.now) t) >>= λ more. Ok (now ++ more)) (drop_more items i d lt)

pub line_more : (total : Result (List Setting) CacheFault) (now next : List Setting) (setting : Option Setting) (i : ℕ) (items : List (Bor (List ℕ))) (d : Bor (List ℕ)) → i < length items
    → entry_of (i + 1) (get_or items i d).now ≡ Ok setting → next ≡ now ++ option_to_list setting → left now i items ≡ total → left next (i + 1) items ≡ total
line_more total now next setting i items d lt one put h =
    let rest = lines_from (i + 1 + 1) (map (λ line. line.now) (drop (i + 1) items)) in
    ap (λ t. left t (i + 1) items) put
    ∙ sym (rebound now (option_to_list setting) rest)
    ∙ ap (λ r. (r >>= λ setting. rest >>= λ more. Ok (option_to_list setting ++ more)) >>= λ more. Ok (now ++ more)) (sym one)
    ∙ sym (at_line now i items d lt) ∙ h

pub line_fails : (e : CacheFault) (total : Result (List Setting) CacheFault) (now : List Setting) (i : ℕ) (items : List (Bor (List ℕ))) (d : Bor (List ℕ)) → i < length items
    → Fails e (entry_of (i + 1) (get_or items i d).now) → left now i items ≡ total → Fails e total
line_fails e total now i items d lt bad h =
    fails_along e _ _ (sym (at_line now i items d lt) ∙ h) (fails_bind e _ _ (fails_bind e _ _ bad))

pub lines_end : (total : Result (List Setting) CacheFault) (now : List Setting) (i : ℕ) (items : List (Bor (List ℕ))) → length items ≤ i → left now i items ≡ total → total ≡ Ok now
unfolding lines_from
lines_end total now i items le h =
    sym h ∙ ap (λ t. lines_from (i + 1) (map (λ line. line.now) t) >>= λ more. Ok (now ++ more)) (drop_of_length-le items le) ∙ ap (λ t. Ok t) (append-nil now)
