-- Words, the fronts of bare text and here texts: which parts they have is what the reader gives.
use Rattle.std.proofs.Common.{◌≡◌, ℕ, zero, suc, ◌+◌, ◌-◌, ◌<◌, ◌≤◌, true, false, cond, inl, inr, List, [], ◌∷◌, ◌++◌, length, drop, option_to_list, Ok, Err, refl, sym, ap, subst, ◌∙◌, arith}
use Rattle.std.specs.List.{list_all}
use Rattle.std.proofs.lemmas.Bool.{and_parts}
use Rattle.shellword.specs.declared.fault.ShellFault.TheVariants.{BadWord}
use Rattle.shellword.specs.declared.part.Part.{Part}
use Rattle.shellword.specs.declared.front.Context.{Context}
use Rattle.shellword.specs.declared.front.Context.TheVariants.{Bare, Here}
use Rattle.shellword.specs.declared.front.WordFront.{WordFront}
use Rattle.shellword.specs.Text.{is_blank, word_ends, is_parted}
use Rattle.shellword.specs.Contexts.{is_over, is_quoted}
use Rattle.shellword.specs.Scan.{front_of, close, scan, word_of, word_front_of, here_of}
use Rattle.fallible.specs.Reading.{◌>>=◌}
use Rattle.shellword.specs.Word.{AreWordParts, IsWord, IsWordFront, IsHere}
use Rattle.shellword.proofs.Steps.{IsFront, Runs, ends, goes_on}
use Rattle.shellword.proofs.Parts.{word-run, run-word, run-here, here-run}
use Rattle.fallible.proofs.Binds.{chosen, failed, ok_is, bind_ok}
use Rattle.shellword.proofs.Fronts.{front-read, read-front, front-len}
use Rattle.shellword.proofs.Runs.{with_parts, scan_over, scan_front}

-- ---- what is in the text is scanned

after_front : (c : Context) (text : List ℕ) (f : WordFront) (parts : List Part) (n at : ℕ) → is_over c text ≡ false → IsFront c text f
    → scan 0 f.context (at + f.len) (drop f.len text) ≡ Ok (parts, at + f.len + n) → scan 0 c at text ≡ Ok (option_to_list f.part ++ parts, at + (f.len + n))
after_front c [] f parts n at over h e = absurd cc
after_front c (b ∷ bs) f parts n at over h e =
    let len = front-len h in
    scan_front c at b bs f over (front-read h at) len.0 (omega (arith, len.1))
    ∙ ap (with_parts (option_to_list f.part)) e ∙ ap (λ (m : ℕ). Ok (option_to_list f.part ++ parts, m)) (omega arith)

pub run-scan : {c : Context} {text : List ℕ} {parts : List Part} {n : ℕ} → Runs c text parts n → (at : ℕ) → scan 0 c at text ≡ Ok (parts, at + n)
run-scan (ends {c} {text} unquoted over) at = scan_over c at text over ∙ rw unquoted (ap (λ (m : ℕ). Ok ([], m)) (omega arith))
run-scan (goes_on {c} {text} {f} {parts} {n} over h rest) at = after_front c text f parts n at over h (run-scan rest (at + f.len))

-- ---- what is scanned is in the text

-- what a scan found, from offset `at` on
abbrev pub Found : Context → ℕ → List ℕ → List Part → ℕ → Type 0
Found c at text parts stop = (n : ℕ) × Runs c text parts n × (stop ≡ at + n)

closed-found : (c : Context) (at : ℕ) (text : List ℕ) (parts : List Part) (stop : ℕ) → is_over c text ≡ true → close c at ≡ Ok (parts, stop) → Found c at text parts stop
closed-found c at text parts stop over e =
    elim (chosen (is_quoted c) _ _ _ e) [
      | inl h ↦ absurd (failed h.1)
      | inr h ↦
          let p : ([], at) ≡ (parts, stop) = ok_is _ _ h.1 in
          (0, subst (λ (ps : List Part). Runs c text ps 0) (ap (λ (r : List Part × ℕ). r.0) p) (ends h.0 over), omega (arith, ap (λ (r : List Part × ℕ). r.1) p))
    ]

found-front : (c : Context) (at b : ℕ) (bs : List ℕ) (f : WordFront) (parts : List Part) (stop : ℕ) → is_over c (b ∷ bs) ≡ false → IsFront c (b ∷ bs) f → 0 < f.len
    → Found f.context (at + 1 + (f.len - 1)) (drop (f.len - 1) bs) parts stop → Found c at (b ∷ bs) (option_to_list f.part ++ parts) stop
found-front c at b bs f parts stop more there some found =
    let one : suc (f.len - 1) ≡ f.len = omega arith in
    let here : drop (f.len - 1) bs ≡ drop f.len (b ∷ bs) = ap (λ (m : ℕ). drop m (b ∷ bs)) one in
    (f.len + found.0, goes_on more there (subst (λ (t : List ℕ). Runs f.context t parts found.0) here found.1), omega (arith, found.2))

pub scan-found : (k : ℕ) (c : Context) (at : ℕ) (text : List ℕ) (parts : List Part) (stop : ℕ) → k ≤ length text → scan k c at text ≡ Ok (parts, stop)
    → Found c (at + k) (drop k text) parts stop
unfolding scan
scan-found zero c at [] parts stop h e = let f = closed-found c at [] parts stop refl e in (f.0, f.1, omega (arith, f.2))
scan-found (suc k) c at [] parts stop h e = absurd (omega arith)
scan-found (suc k) c at (b ∷ bs) parts stop h e =
    let f = scan-found k c (at + 1) bs parts stop (omega arith) e in (f.0, f.1, omega (arith, f.2))
scan-found zero c at (b ∷ bs) parts stop h e =
    let zeroth : at ≡ at + 0 = omega arith in
    subst (λ (m : ℕ). Found c m (b ∷ bs) parts stop) zeroth
    (elim (chosen (is_over c (b ∷ bs)) _ _ _ e) [
      | inl over ↦ closed-found c at (b ∷ bs) parts stop over.0 over.1
      | inr more ↦
          let front = bind_ok (front_of at c b bs) (λ f. scan (f.len - 1) f.context (at + 1) bs >>= λ r. Ok (option_to_list f.part ++ r.0, r.1)) (parts, stop) more.1 in
          let f = front.0 in
          let there = read-front at c b bs f front.1 in
          let len = front-len there in
          let rest = bind_ok (scan (f.len - 1) f.context (at + 1) bs) (λ r. Ok (option_to_list f.part ++ r.0, r.1)) (parts, stop) front.2 in
          let found = scan-found (f.len - 1) f.context (at + 1) bs rest.0.0 rest.0.1 (omega (arith, len.0, len.1)) rest.1 in
          subst (λ (r : List Part × ℕ). Found c at (b ∷ bs) r.0 r.1) (ok_is (option_to_list f.part ++ rest.0.0, rest.0.1) (parts, stop) rest.2) (found-front c at b bs f rest.0.0 rest.0.1 more.0 there len.0 found)
    ])

-- ---- from the front of a text

pub run-front : {c : Context} {text : List ℕ} {parts : List Part} {n : ℕ} → Runs c text parts n → scan 0 c 0 text ≡ Ok (parts, n)
run-front {c} {text} {parts} {n} h = run-scan h 0 ∙ ap (λ (m : ℕ). Ok (parts, m)) (omega arith)

pub front-run : (c : Context) (text : List ℕ) (r : List Part × ℕ) → scan 0 c 0 text ≡ Ok r → Runs c text r.0 r.1
front-run c text r e =
    let f = scan-found 0 c 0 text r.0 r.1 (omega arith) e in
    let same : f.0 ≡ r.1 = omega (arith, f.2) in
    subst (λ (n : ℕ). Runs c text r.0 n) same f.1

pub moved : {c : Context} {text : List ℕ} {parts : List Part} {n : ℕ} → Runs c text parts n → is_over c text ≡ false → 0 < n
moved (ends {c} {text} unquoted over) more = let e : true ≡ false = sym over ∙ more in absurd cc
moved (goes_on {c} {text} {f} {parts} {n} over h rest) more = omega (arith, (front-len h).0)

pub scan_moves : (at b : ℕ) (bs text : List ℕ) (r : List Part × ℕ) → text ≡ b ∷ bs → is_over Bare (b ∷ bs) ≡ false → scan 0 Bare at text ≡ Ok r → at < r.1
scan_moves at b bs text r is more e =
    let f = scan-found 0 Bare at text r.0 r.1 (omega arith) e in
    let some : 0 < f.0 = moved f.1 (ap (is_over Bare) is ∙ more) in
    omega (arith, f.2)

-- ---- whole texts

-- a word ends before blanks
blanks_end : (rest : List ℕ) → list_all is_blank rest ≡ true → word_ends rest ≡ true
blanks_end [] h = refl
blanks_end (b ∷ bs) h = rw (and_parts (is_blank b) (list_all is_blank bs) h).0 refl

parted_ends : (rest : List ℕ) → is_parted rest ≡ true → word_ends rest ≡ true
parted_ends [] h = refl
parted_ends (b ∷ bs) h = rw h refl

pub word-read : (text : List ℕ) (parts : List Part) → IsWord text parts → word_of text ≡ Ok parts
unfolding word_of
word-read text parts h =
    let r = word-run h.word (blanks_end h.rest h.blanks) in
    rw (run-front r.run, r.ends, h.blanks) refl

pub read-word : (text : List ℕ) (parts : List Part) → word_of text ≡ Ok parts → IsWord text parts
unfolding word_of
read-word text parts e =
    let r = bind_ok (scan 0 Bare 0 text) (λ r. cond (list_all is_blank (drop r.1 text)) (Ok r.0) (Err (BadWord r.1))) parts e in
    elim (chosen (list_all is_blank (drop r.0.1 text)) _ _ _ r.2) [
      | inl h ↦ record { rest = drop r.0.1 text; word = subst (λ (ps : List Part). AreWordParts text ps (drop r.0.1 text)) (ok_is _ _ h.1) (run-word (front-run Bare text r.0 r.1)).0; blanks = h.0 }
      | inr h ↦ absurd (failed h.1)
    ]

pub word_front-read : (text : List ℕ) (parts : List Part) (n : ℕ) → IsWordFront text parts n → word_front_of text ≡ Ok (parts, n)
unfolding word_front_of
word_front-read text parts n h =
    let r = word-run h.word (parted_ends h.rest h.parted) in
    let len : r.len ≡ n = omega (arith, h.place, r.place) in
    rw (run-front r.run, r.ends, h.parted) (ap (λ (m : ℕ). Ok (parts, m)) len)

pub read-word_front : (text : List ℕ) (r : List Part × ℕ) → word_front_of text ≡ Ok r → IsWordFront text r.0 r.1
unfolding word_front_of
read-word_front text r e =
    let q = bind_ok (scan 0 Bare 0 text) (λ r. cond (is_parted (drop r.1 text)) (Ok r) (Err (BadWord r.1))) r e in
    elim (chosen (is_parted (drop q.0.1 text)) _ _ _ q.2) [
      | inl h ↦
          let w = run-word (front-run Bare text q.0 q.1) in
          subst (λ (r : List Part × ℕ). IsWordFront text r.0 r.1) (ok_is _ _ h.1) (record { rest = drop q.0.1 text; word = w.0; place = w.2; parted = h.0 })
      | inr h ↦ absurd (failed h.1)
    ]

pub here-read : (text : List ℕ) (parts : List Part) → IsHere text parts → here_of text ≡ Ok parts
unfolding here_of
here-read text parts h = rw (run-front (here-run h).run) refl

pub read-here : (text : List ℕ) (parts : List Part) → here_of text ≡ Ok parts → IsHere text parts
unfolding here_of
read-here text parts e =
    let r = bind_ok (scan 0 Here 0 text) (λ r. Ok r.0) parts e in
    subst (IsHere text) (ok_is _ _ r.2) (run-here (front-run Here text r.0 r.1))
