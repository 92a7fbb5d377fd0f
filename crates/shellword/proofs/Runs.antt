-- The scan of a word or here text, as the loop does it.
use Rattle.std.proofs.Common.{◌≡◌, ℕ, zero, suc, ◌+◌, ◌-◌, ◌<◌, ◌≤◌, true, false, List, [], ◌∷◌, ◌++◌, length, get_or, take, drop, option_to_list, Result, Ok, Err, refl, sym, ap, ◌∙◌, append_assoc, arith}
use Rattle.std.proofs.lemmas.List.{drop_more, take_rest, drop-drop, drop_all, append-nil}
use Rattle.shellword.specs.declared.fault.ShellFault.{ShellFault}
use Rattle.shellword.specs.declared.fault.ShellFault.TheVariants.{BadWord}
use Rattle.shellword.specs.declared.part.Part.{Part}
use Rattle.shellword.specs.declared.front.Context.{Context}
use Rattle.shellword.specs.declared.front.WordFront.{WordFront}
use Rattle.shellword.specs.Contexts.{is_over, is_quoted}
use Rattle.shellword.specs.Scan.{front_of, close, scan}
use Rattle.fallible.specs.Reading.{◌>>=◌}

-- what was read before, and what is still read
abbrev pub with_parts : List Part → Result (List Part × ℕ) ShellFault → Result (List Part × ℕ) ShellFault
with_parts parts read = read >>= λ r. Ok (parts ++ r.0, r.1)

with_parts-append : (a b : List Part) (read : Result (List Part × ℕ) ShellFault) → with_parts (a ++ b) read ≡ with_parts a (with_parts b read)
with_parts-append a b (Ok r) = ap (λ (t : List Part). Ok (t, r.1)) (append_assoc a b r.0)
with_parts-append a b (Err f) = refl

pub skip_scan : (k : ℕ) (c : Context) (at : ℕ) (text : List ℕ) → k ≤ length text → scan k c at text ≡ scan 0 c (at + k) (drop k text)
unfolding scan
skip_scan zero c at text h = ap (λ n. scan 0 c n text) (omega arith)
skip_scan (suc k) c at [] h = absurd (omega arith)
skip_scan (suc k) c at (b ∷ bs) h =
    skip_scan k c (at + 1) bs (omega arith) ∙ ap (λ n. scan 0 c n (drop k bs)) (omega arith)

pub scan_over : (c : Context) (at : ℕ) (text : List ℕ) → is_over c text ≡ true → scan 0 c at text ≡ close c at
unfolding scan
scan_over c at [] h = refl
scan_over c at (b ∷ bs) h = rw h refl

pub scan_failed : (c : Context) (at b : ℕ) (bs : List ℕ) (f : ShellFault) → is_over c (b ∷ bs) ≡ false → front_of at c b bs ≡ Err f → scan 0 c at (b ∷ bs) ≡ Err f
unfolding scan
scan_failed c at b bs f over found = rw (over, found) refl

pub scan_front : (c : Context) (at b : ℕ) (bs : List ℕ) (f : WordFront) → is_over c (b ∷ bs) ≡ false → front_of at c b bs ≡ Ok f → 0 < f.len → f.len ≤ length bs + 1
    → scan 0 c at (b ∷ bs) ≡ with_parts (option_to_list f.part) (scan 0 f.context (at + f.len) (drop f.len (b ∷ bs)))
unfolding scan
scan_front c at b bs f over found some within =
    let there : scan (f.len - 1) f.context (at + 1) bs ≡ scan 0 f.context (at + f.len) (drop f.len (b ∷ bs)) =
    skip_scan (f.len - 1) f.context (at + 1) bs (omega arith) ∙ ap (λ m. scan 0 f.context m (drop (f.len - 1) bs)) (omega arith)
    ∙ ap (λ m. scan 0 f.context (at + f.len) (drop m (b ∷ bs))) (let e : suc (f.len - 1) ≡ f.len = omega arith in e) in
    rw (over, found, there) refl

module _ (parts : List Part) (c : Context) (at : ℕ) (text : List ℕ) (total : Result (List Part × ℕ) ShellFault) (so_far : with_parts parts (scan 0 c at (drop at text)) ≡ total) where
  module _ (lt : at < length text) where
    abbrev after : List ℕ
    after = take (length text - (at + 1)) (drop (at + 1) text)

    abbrev here : List ℕ
    here = get_or text at 0 ∷ after

    is_here : drop at text ≡ here
    is_here = drop_more text at 0 lt ∙ ap (λ (t : List ℕ). get_or text at 0 ∷ t) (sym (take_rest text (at + 1)))

    pub loop_failed : (f : ShellFault) → is_over c here ≡ false → front_of at c (get_or text at 0) after ≡ Err f → total ≡ Err f
    loop_failed f over found = sym so_far ∙ rw (is_here, scan_failed c at (get_or text at 0) _ f over found) refl

    pub loop_front : (f : WordFront) (pushed : List Part) → is_over c here ≡ false → front_of at c (get_or text at 0) after ≡ Ok f → 0 < f.len → f.len ≤ length (take (length text - (at + 1)) (drop (at + 1) text)) + 1
        → pushed ≡ parts ++ option_to_list f.part → with_parts pushed (scan 0 f.context (at + f.len) (drop (at + f.len) text)) ≡ total
    loop_front f pushed over found some within e =
        let bs = take (length text - (at + 1)) (drop (at + 1) text) in
        let one = scan_front c at (get_or text at 0) bs f over found some within in
        ap (λ (t : List Part). with_parts t (scan 0 f.context (at + f.len) (drop (at + f.len) text))) e
        ∙ with_parts-append parts (option_to_list f.part) (scan 0 f.context (at + f.len) (drop (at + f.len) text))
        ∙ ap (λ (t : List ℕ). with_parts parts (with_parts (option_to_list f.part) (scan 0 f.context (at + f.len) t))) (sym (drop-drop f.len at text))
        ∙ ap (λ (t : List ℕ). with_parts parts (with_parts (option_to_list f.part) (scan 0 f.context (at + f.len) (drop f.len t)))) is_here
        ∙ ap (with_parts parts) (sym one)
        ∙ ap (λ (t : List ℕ). with_parts parts (scan 0 c at t)) (sym is_here)
        ∙ so_far

    pub loop_stopped : is_over c here ≡ true → total ≡ with_parts parts (close c at)
    loop_stopped over = sym so_far ∙ ap (with_parts parts) (ap (scan 0 c at) is_here ∙ scan_over c at here over)

  pub loop_ended : length text ≤ at → total ≡ with_parts parts (close c at)
  loop_ended past = sym so_far ∙ ap (with_parts parts) (ap (scan 0 c at) (drop_all at text past) ∙ scan_over c at [] refl)

  pub unclosed : total ≡ with_parts parts (close c at) → is_quoted c ≡ true → total ≡ Err (BadWord at)
  unclosed e h = e ∙ rw h refl

  pub closed : total ≡ with_parts parts (close c at) → is_quoted c ≡ false → total ≡ Ok (parts, at)
  closed e h = e ∙ rw h (ap (λ (t : List Part). Ok (t, at)) (append-nil parts))
