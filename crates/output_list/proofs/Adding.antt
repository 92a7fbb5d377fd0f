-- One more file or header, of a name that no output has yet.
use Rattle.std.proofs.Common.{◌≡◌, ℕ, List, [], ◌∷◌, ◌++◌, ◌||◌, Bool, true, false, refl, ap, subst, sym, ◌∙◌}
use Rattle.std.specs.Prelude.{bytes_eq, map}
use Rattle.std.specs.List.{IsDistinct, AllByRecursion}
use Rattle.std.specs.Cmp.Lexicographic.{nat_list_eq_equiv}
use Rattle.std.proofs.lemmas.List.{map-append, append_assoc, append-nil}
use Rattle.deftable.specs.NameList.{has_name, AreDistinct}
use Rattle.deftable.proofs.Names.{has_name-[]}
use Rattle.output_list.specs.declared.output.Output.{Output}
use Rattle.output_list.specs.Output.{output_names, has_output, IsOutput, AreOutputs}

all_pushed : {A : Type 0} (P : A → Type 0) (xs : List A) (x : A) → AllByRecursion P xs → P x → AllByRecursion P (xs ++ x ∷ [])
all_pushed P [] x h p = (p, tt)
all_pushed P (y ∷ ys) x h p = (h.0, all_pushed P ys x h.1 p)

neither : (a b : Bool) → a || b ≡ false → (a ≡ false) × (b ≡ false)
neither true b e = absurd cc
neither false b e = (refl, e)

-- A name that is none of these differs from each of them.
apart : (k : List ℕ) (ns : List (List ℕ)) → has_name ns k ≡ false → AllByRecursion (λ y. bytes_eq k y ≡ false) ns
unfolding has_name
apart k [] e = tt
apart k (n ∷ ns) e = let p = neither (bytes_eq k n) (has_name ns k) e in (p.0, apart k ns p.1)

-- A list that differs from a name still does with one more name between its halves.
all_between : (P : List ℕ → Type 0) (ms ns : List (List ℕ)) (k : List ℕ) → P k → AllByRecursion P (ms ++ ns) → AllByRecursion P (ms ++ k ∷ ns)
all_between P [] ns k p h = (p, h)
all_between P (m ∷ ms) ns k p h = (h.0, all_between P ms ns k p h.1)

-- A new name between two halves of a list.
distinct_between : (ms ns : List (List ℕ)) (k : List ℕ) → has_name ms k ≡ false → has_name ns k ≡ false → AreDistinct (ms ++ ns) → AreDistinct (ms ++ k ∷ ns)
unfolding IsDistinct has_name
distinct_between [] ns k e f h = (apart k ns f, h)
distinct_between (m ∷ ms) ns k e f h =
    let p = neither (bytes_eq k m) (has_name ms k) e in
    (all_between (λ y. bytes_eq m y ≡ false) ms ns k (nat_list_eq_equiv.symm m k ∙ p.0) h.0, distinct_between ms ns k p.1 f h.1)

-- Neither half has the name.
neither_has : (ms ns : List (List ℕ)) (k : List ℕ) → has_name ms k ≡ false → has_name ns k ≡ false → has_name (ms ++ ns) k ≡ false
unfolding has_name
neither_has [] ns k e f = f
neither_has (m ∷ ms) ns k e f =
    let p = neither (bytes_eq k m) (has_name ms k) e in
    ap (λ b. b || has_name (ms ++ ns) k) p.0 ∙ neither_has ms ns k p.1 f

-- One more file.
pub AreOutputs-file : (files headers : List Output) (o : Output) → IsOutput o → has_output files o.name ≡ false → has_output headers o.name ≡ false → AreOutputs files headers
    → AreOutputs (files ++ o ∷ []) headers
unfolding has_output
AreOutputs-file files headers o is e f h = record {
  file_paths = all_pushed IsOutput files o h.file_paths is;
  header_paths = h.header_paths;
  names = subst AreDistinct (sym (ap (λ ns. ns ++ output_names headers) (map-append (λ x. x.name) files (o ∷ [])) ∙ append_assoc (output_names files) (o.name ∷ []) (output_names headers)))
      (distinct_between (output_names files) (output_names headers) o.name e f h.names);
}

-- One more header.
pub AreOutputs-header : (files headers : List Output) (o : Output) → IsOutput o → has_output files o.name ≡ false → has_output headers o.name ≡ false → AreOutputs files headers
    → AreOutputs files (headers ++ o ∷ [])
unfolding has_output
AreOutputs-header files headers o is e f h = record {
  file_paths = h.file_paths;
  header_paths = all_pushed IsOutput headers o h.header_paths is;
  names = subst AreDistinct (sym (ap (λ ns. output_names files ++ ns) (map-append (λ x. x.name) headers (o ∷ [])) ∙ sym (append_assoc (output_names files) (output_names headers) (o.name ∷ []))))
      (distinct_between (output_names files ++ output_names headers) [] o.name (neither_has (output_names files) (output_names headers) o.name e f) (has_name-[] o.name)
      (subst AreDistinct (sym (append-nil (output_names files ++ output_names headers))) h.names));
}

-- No more files, and no more headers.
pub AreOutputs-none : (files headers : List Output) → AreOutputs files headers → AreOutputs (files ++ []) headers × AreOutputs files (headers ++ [])
AreOutputs-none files headers h =
    (subst (λ fs. AreOutputs fs headers) (sym (append-nil files)) h, subst (λ hs. AreOutputs files hs) (sym (append-nil headers)) h)

-- One more name after two lists.
after_both : (first more : List Output) (k : List ℕ) → has_output first k ≡ false → has_output more k ≡ false → has_output (first ++ more) k ≡ false
unfolding has_output
after_both first more k e f =
    ap (λ ns. has_name ns k) (map-append (λ (x : Output). x.name) first more) ∙ neither_has (output_names first) (output_names more) k e f

-- One more file, after files and more of them.
pub AreOutputs-more_files : (files more headers : List Output) (o : Output) → IsOutput o → has_output files o.name ≡ false → has_output more o.name ≡ false → has_output headers o.name ≡ false
    → AreOutputs (files ++ more) headers → AreOutputs (files ++ (more ++ o ∷ [])) headers
AreOutputs-more_files files more headers o is e f g h =
    subst (λ fs. AreOutputs fs headers) (append_assoc files more (o ∷ [])) (AreOutputs-file (files ++ more) headers o is (after_both files more o.name e f) g h)

-- One more header, after headers and more of them.
pub AreOutputs-more_headers : (files headers more : List Output) (o : Output) → IsOutput o → has_output files o.name ≡ false → has_output headers o.name ≡ false → has_output more o.name ≡ false
    → AreOutputs files (headers ++ more) → AreOutputs files (headers ++ (more ++ o ∷ []))
AreOutputs-more_headers files headers more o is e f g h =
    subst (λ hs. AreOutputs files hs) (append_assoc headers more (o ∷ [])) (AreOutputs-header files (headers ++ more) o is e (after_both headers more o.name f g) h)
