-- Words and here texts are rejected exactly where the reader's functions fail.
use Rattle.std.proofs.Common.{◌≡◌, ℕ, zero, suc, ◌+◌, ◌-◌, ◌≤◌, Bool, true, false, ◌&&◌, ◌==◌, ltb, ◌⊎◌, inl, inr, List, [], ◌∷◌, ◌++◌, length, take, drop, Option, option_to_list, Result, Ok, Err, refl, sym, ap, subst, ◌∙◌, arith}
use Rattle.std.proofs.lemmas.Bool.{eqb-true, ltb-true, and_parts}
use Rattle.std.proofs.lemmas.List.{length-drop, append-nil}
use Rattle.shellword.specs.declared.fault.ShellFault.{ShellFault}
use Rattle.shellword.specs.declared.fault.ShellFault.TheVariants.{BadWord}
use Rattle.shellword.specs.declared.part.Part.{Part}
use Rattle.shellword.specs.declared.front.Context.{Context}
use Rattle.shellword.specs.declared.front.Context.TheVariants.{Bare, Single, Double, Here}
use Rattle.shellword.specs.declared.front.WordFront.{WordFront}
use Rattle.shellword.specs.Text.{single_quote, double_quote, backslash, dollar, backquote, open_brace, name_len, has_no, stands_alone}
use Rattle.shellword.specs.Contexts.{is_special, closes_brace, is_over, is_quoted}
use Rattle.shellword.specs.Scan.{braced_front, dollar_front, front_of, close, scan}
use Rattle.fallible.specs.Reading.{◌>>=◌}
use Rattle.shellword.specs.Word as w
use Rattle.shellword.specs.Word.{IsVariable, AreDoubleParts, IsWordPart, IsHerePart}
use Rattle.shellword.specs.WordFaults as refusals
use Rattle.shellword.specs.WordFaults.{BeginsRefused, command, expansion, WordBreaks, HereBreaks}
use Rattle.shellword.proofs.Steps as s
use Rattle.shellword.proofs.Steps.{IsFront, Breaks}
use Rattle.fallible.proofs.Binds.{chosen, passed, err_is, bind_err}
use Rattle.shellword.proofs.Fronts.{front-read, read-front, front-len, brace_there}
use Rattle.shellword.proofs.Parts.{Leads, PartOf, bare, single, double, here, Found, step_found, variable_leads, variable_is, braced_is, single_carry, double_carry, word_part_carry, here_part_carry}
use Rattle.shellword.proofs.Parts as parts
use Rattle.shellword.proofs.Runs.{with_parts, scan_failed, scan_front}

-- ---- a front that is rejected

-- if one of the two bytes has a special meaning, both have
expands : (c : Context) (b : ℕ) → is_special c b ≡ true → (b == single_quote) ≡ false → is_special c dollar ≡ true
expands Single b special apart = let e : true ≡ false = sym special ∙ apart in absurd cc
expands other b special apart = refl

backquote_too : (c : Context) → is_special c dollar ≡ true → is_special c backquote ≡ true
backquote_too Single special = absurd cc
backquote_too other special = refl

-- what the reader finds if the text is rejected
abbrev Refuses : ℕ → Context → List ℕ → Type 0
Refuses at c [] = ⊥
Refuses at c (b ∷ bs) = (is_over c (b ∷ bs) ≡ false) × (front_of at c b bs ≡ Err (BadWord at))

more_dollar : (c : Context) (bs : List ℕ) → is_over c (dollar ∷ bs) ≡ false
more_dollar Bare bs = refl
more_dollar other bs = refl

more_backquote : (c : Context) (bs : List ℕ) → is_over c (backquote ∷ bs) ≡ false
more_backquote Bare bs = refl
more_backquote other bs = refl

braced_refused : (at : ℕ) (c : Context) (bs : List ℕ) → stands_alone bs ≡ false → ((name after : List ℕ) → IsVariable (dollar ∷ bs) name after → ⊥) → braced_front at c bs ≡ Err (BadWord at)
braced_refused at c [] alone none = absurd cc
braced_refused at c (b ∷ inside) alone none = by_brace (b == open_brace && ltb 0 (name_len inside) && closes_brace (drop (name_len inside) inside)) refl where
  by_brace : (t : Bool) → (b == open_brace && ltb 0 (name_len inside) && closes_brace (drop (name_len inside) inside)) ≡ t → braced_front at c (b ∷ inside) ≡ Err (BadWord at)
  by_brace false e = rw e refl
  by_brace true e =
      let p = and_parts (b == open_brace && ltb 0 (name_len inside)) (closes_brace (drop (name_len inside) inside)) e in
      let q = and_parts (b == open_brace) (ltb 0 (name_len inside)) p.0 in
      let rest = brace_there (drop (name_len inside) inside) p.1 in
      absurd (none _ _ (subst (λ (x : ℕ). IsVariable (dollar ∷ x ∷ inside) (take (name_len inside) inside) rest.0) (sym (eqb-true b open_brace q.0)) (braced_is inside rest.0 (ltb-true 0 (name_len inside) q.1) rest.1)))

dollar_refused : (at : ℕ) (c : Context) (bs : List ℕ) → stands_alone bs ≡ false → ((name after : List ℕ) → IsVariable (dollar ∷ bs) name after → ⊥) → dollar_front at c bs ≡ Err (BadWord at)
dollar_refused at c bs alone none = by_name (ltb 0 (name_len bs)) refl where
  by_name : (t : Bool) → ltb 0 (name_len bs) ≡ t → dollar_front at c bs ≡ Err (BadWord at)
  by_name true e = absurd (none _ _ (variable_is bs (ltb-true 0 (name_len bs) e)))
  by_name false e = rw (e, alone) (braced_refused at c bs alone none)

refused_read : {text : List ℕ} → BeginsRefused text → (at : ℕ) (c : Context) → is_special c dollar ≡ true → Refuses at c text
unfolding front_of
refused_read (command {rest}) at c special = (more_backquote c rest, rw (backquote_too c special) refl)
refused_read (expansion {rest} alone none) at c special = (more_dollar c rest, rw special (dollar_refused at c rest alone none))

-- the offset and the front of a failure
abbrev FailsHere : ℕ → Context → List ℕ → ShellFault → Type 0
FailsHere at c text f = (f ≡ BadWord at) × (is_special c dollar ≡ true) × BeginsRefused text

abbrev failure : {A : Type 0} → ShellFault → Result A ShellFault
failure f = Err f

braced_err : (at : ℕ) (c : Context) (bs : List ℕ) (f : ShellFault) → braced_front at c bs ≡ Err f → f ≡ BadWord at
braced_err at c [] f e = sym (err_is {A = WordFront} _ _ e)
braced_err at c (b ∷ inside) f e =
    elim (chosen (b == open_brace && ltb 0 (name_len inside) && closes_brace (drop (name_len inside) inside)) _ _ _ e) [
      | inl h ↦ absurd (passed h.1)
      | inr h ↦ sym (err_is {A = WordFront} _ _ h.1)
    ]

dollar_err : (at : ℕ) (c : Context) (bs : List ℕ) (f : ShellFault) → dollar_front at c bs ≡ Err f → (f ≡ BadWord at) × (stands_alone bs ≡ false)
dollar_err at c bs f e =
    elim (chosen (ltb 0 (name_len bs)) _ _ _ e) [
      | inl h ↦ absurd (passed h.1)
      | inr none ↦ (elim (chosen (stands_alone bs) _ _ _ none.1) [ inl h ↦ absurd (passed h.1) | inr h ↦ (braced_err at c bs f h.1, h.0) ])
    ]

fails_at_dollar : (at : ℕ) (c : Context) (bs : List ℕ) (f : ShellFault) → is_special c dollar ≡ true → front_of at c dollar bs ≡ Err f → FailsHere at c (dollar ∷ bs) f
unfolding front_of
fails_at_dollar at c bs f special e =
    let at_dollar : dollar_front at c bs ≡ Err f = rw special at e in
    let p = dollar_err at c bs f at_dollar in
    (p.0, special, expansion p.1 (λ name after v. passed (sym (front-read (variable_leads v c special).step at) ∙ e)))

fails_at_backquote : (at : ℕ) (c : Context) (bs : List ℕ) (f : ShellFault) → is_special c backquote ≡ true → front_of at c backquote bs ≡ Err f → FailsHere at c (backquote ∷ bs) f
unfolding front_of
fails_at_backquote at c bs f special e =
    let there : failure {A = WordFront} (BadWord at) ≡ Err f = rw special at e in
    (sym (err_is {A = WordFront} _ _ there), expands c backquote special refl, command)

read-refused : (at : ℕ) (c : Context) (b : ℕ) (bs : List ℕ) (f : ShellFault) → front_of at c b bs ≡ Err f → FailsHere at c (b ∷ bs) f
unfolding front_of
read-refused at c b bs f e =
    elim (chosen (is_special c b) _ _ _ e) [
      | inr plain ↦ absurd (passed plain.1)
      | inl special ↦
          (elim (chosen (b == backslash) _ _ _ special.1) [
            | inl h ↦ absurd (passed h.1)
            | inr no_backslash ↦
                (elim (chosen (b == dollar) _ _ _ no_backslash.1) [
                  | inl h ↦
                      let is = eqb-true b dollar h.0 in
                      subst (λ (x : ℕ). FailsHere at c (x ∷ bs) f) (sym is)
                      (fails_at_dollar at c bs f (subst (λ (x : ℕ). is_special c x ≡ true) is special.0) (subst (λ (x : ℕ). front_of at c x bs ≡ Err f) is e))
                  | inr no_dollar ↦
                      (elim (chosen (b == backquote) _ _ _ no_dollar.1) [
                        | inr h ↦ absurd (passed h.1)
                        | inl h ↦
                            let is = eqb-true b backquote h.0 in
                            subst (λ (x : ℕ). FailsHere at c (x ∷ bs) f) (sym is)
                            (fails_at_backquote at c bs f (subst (λ (x : ℕ). is_special c x ≡ true) is special.0) (subst (λ (x : ℕ). front_of at c x bs ≡ Err f) is e))
                      ])
                ])
          ])
    ]

-- ---- a run that is rejected

close_fails : (c : Context) (at : ℕ) (f : ShellFault) → close c at ≡ Err f → (f ≡ BadWord at) × (is_quoted c ≡ true)
close_fails c at f e = elim (chosen (is_quoted c) _ _ _ e) [ inl h ↦ (sym (err_is {A = List Part × ℕ} _ _ h.1), h.0) | inr h ↦ absurd (passed h.1) ]

no_text : (c : Context) (text : List ℕ) → is_over c text ≡ true → is_quoted c ≡ true → text ≡ []
no_text c [] over quoted = refl
no_text Bare (b ∷ bs) over quoted = absurd cc
no_text other (b ∷ bs) over quoted = absurd cc

after_refused : (at : ℕ) (c : Context) (text : List ℕ) → Refuses at c text → scan 0 c at text ≡ Err (BadWord at)
after_refused at c [] h = absurd h
after_refused at c (b ∷ bs) h = scan_failed c at b bs (BadWord at) h.0 h.1

after_step : (at : ℕ) (c : Context) (text : List ℕ) (f : WordFront) (g : ShellFault) → is_over c text ≡ false → IsFront c text f → scan 0 f.context (at + f.len) (drop f.len text) ≡ Err g
    → scan 0 c at text ≡ Err g
after_step at c [] f g more one e = absurd cc
after_step at c (b ∷ bs) f g more one e =
    let len = front-len one in
    scan_front c at b bs f more (front-read one at) len.0 (omega (arith, len.1)) ∙ ap (with_parts (option_to_list f.part)) e

pub breaks-scan : {c : Context} {text rest : List ℕ} → Breaks c text rest → (at p : ℕ) → p + length rest ≡ at + length text → scan 0 c at text ≡ Err (BadWord p)
unfolding scan
breaks-scan (s.at_end quoted) at p place = rw quoted (ap (λ (n : ℕ). Err (BadWord n)) (omega arith))
breaks-scan (s.refused {c} {text} special refusal) at p place =
    after_refused at c text (refused_read refusal at c special) ∙ ap (λ (n : ℕ). Err (BadWord n)) (omega arith)
breaks-scan (s.step {c} {text} {rest} {f} more one later) at p place =
    after_step at c text f (BadWord p) more one (breaks-scan later (at + f.len) p (omega (arith, place, (front-len one).1, length-drop f.len text)))

-- the offset of an error, and how the text is rejected there
pub record BreaksAt (c : Context) (stop : ℕ) (text : List ℕ) (f : ShellFault) : Type 0 where
  pub rest : List ℕ
  pub at : ℕ
  pub fault : f ≡ BadWord at
  pub breaks : Breaks c text rest
  pub place : at + length rest ≡ stop

breaks_closed : (c : Context) (at : ℕ) (text : List ℕ) (f : ShellFault) → is_over c text ≡ true → close c at ≡ Err f → BreaksAt c (at + length text) text f
breaks_closed c at text f over e =
    let p = close_fails c at f e in
    subst (λ (t : List ℕ). BreaksAt c (at + length t) t f) (sym (no_text c text over p.1)) (record { rest = []; at = at; fault = p.0; breaks = s.at_end p.1; place = refl })

pub scan-breaks : (k : ℕ) (c : Context) (at : ℕ) (text : List ℕ) (f : ShellFault) → k ≤ length text → scan k c at text ≡ Err f → BreaksAt c (at + length text) (drop k text) f
unfolding scan
scan-breaks zero c at [] f h e = breaks_closed c at [] f refl e
scan-breaks (suc k) c at [] f h e = absurd (omega arith)
scan-breaks (suc k) c at (b ∷ bs) f h e =
    let n : at + 1 + length bs ≡ at + suc (length bs) = omega arith in
    subst (λ (m : ℕ). BreaksAt c m (drop k bs) f) n (scan-breaks k c (at + 1) bs f (omega arith) e)
scan-breaks zero c at (b ∷ bs) f h e =
    elim (chosen (is_over c (b ∷ bs)) _ _ _ e) [
      | inl over ↦ breaks_closed c at (b ∷ bs) f over.0 over.1
      | inr more ↦
          (elim (bind_err (front_of at c b bs) (λ x. scan (x.len - 1) x.context (at + 1) bs >>= λ r. Ok (option_to_list x.part ++ r.0, r.1)) f more.1) [
            | inl x ↦ let p = read-refused at c b bs f x in record { rest = b ∷ bs; at = at; fault = p.0; breaks = s.refused p.1 p.2; place = refl }
            | inr x ↦
                let one = read-front at c b bs x.0 x.1 in
                let len = front-len one in
                (elim (bind_err (scan (x.0.len - 1) x.0.context (at + 1) bs) (λ r. Ok (option_to_list x.0.part ++ r.0, r.1)) f x.2) [
                  | inr y ↦ absurd (passed y.2)
                  | inl y ↦
                      let later = scan-breaks (x.0.len - 1) x.0.context (at + 1) bs f (omega (arith, len.0, len.1)) y in
                      let k : suc (x.0.len - 1) ≡ x.0.len = omega (arith, len.0) in
                      record {
                        rest = later.rest;
                        at = later.at;
                        fault = later.fault;
                        breaks = s.step more.0 one (subst (λ (m : ℕ). Breaks x.0.context (drop m (b ∷ bs)) later.rest) k later.breaks);
                        place = later.place ∙ omega arith;
                      }
                ])
          ])
    ]

-- ---- by the grammar

carry_breaks : (rest : List ℕ) (c d : Context) (text after : List ℕ) (part : Option Part) (parts : List Part) → is_over c text ≡ false → Leads c text part d after → Breaks d after rest → Breaks c text rest
carry_breaks rest c d text after part parts more l b = s.step more l.step (subst (λ (t : List ℕ). Breaks d t rest) (sym l.ends) b)

abbrev To : List ℕ → Context → List ℕ → List Part → Type 0
To rest c text parts = Breaks c text rest

pub word-breaks : {text rest : List ℕ} → WordBreaks text rest → Breaks Bare text rest
word-breaks (refusals.refused refusal) = s.refused refl refusal
word-breaks (refusals.single_open {inside} none) =
    s.step refl s.single_opens (subst (λ (t : List ℕ). Breaks Single t []) (append-nil inside) (single_carry (To []) (carry_breaks []) inside [] [] none (s.at_end refl)))
word-breaks (refusals.double_open inner) = s.step refl s.double_opens (double_carry (To []) (carry_breaks []) [] inner (s.at_end refl))
word-breaks (refusals.in_double {rest = rest} inner refusal) = s.step refl s.double_opens (double_carry (To rest) (carry_breaks rest) [] inner (s.refused refl refusal))
word-breaks (refusals.later {rest = rest} one others) = word_part_carry (To rest) (carry_breaks rest) [] one (word-breaks others)

pub here-breaks : {text rest : List ℕ} → HereBreaks text rest → Breaks Here text rest
here-breaks (refusals.refused refusal) = s.refused refl refusal
here-breaks (refusals.later {rest = rest} one others) = here_part_carry (To rest) (carry_breaks rest) [] one (here-breaks others)

-- in single quotes: to the end of the text, or to the quote that closes and then in a word
record SingleCloses (text rest : List ℕ) : Type 0 where
  inside : List ℕ
  after : List ℕ
  none : has_no single_quote inside ≡ true
  text_is : text ≡ inside ++ single_quote ∷ after
  later : WordBreaks after rest

-- in double quotes, the text at which the parts stop
abbrev DoubleStops : List ℕ → List ℕ → Type 0
DoubleStops stop rest = (((stop ≡ []) × (rest ≡ [])) ⊎ ((stop ≡ rest) × BeginsRefused rest)) ⊎ ((after : List ℕ) × (stop ≡ double_quote ∷ after) × WordBreaks after rest)

record DoubleBreaks (text rest : List ℕ) : Type 0 where
  inner : List Part
  stop : List ℕ
  parts : AreDoubleParts text inner stop
  stops : DoubleStops stop rest

-- how a text is rejected, by the context of its first byte
abbrev Broken : Context → List ℕ → List ℕ → Type 0
Broken Bare text rest = WordBreaks text rest
Broken Single text rest = ((has_no single_quote text ≡ true) × (rest ≡ [])) ⊎ SingleCloses text rest
Broken Double text rest = DoubleBreaks text rest
Broken Here text rest = HereBreaks text rest

refused_broken : (c : Context) (text : List ℕ) → is_special c dollar ≡ true → BeginsRefused text → Broken c text text
refused_broken Bare text special refusal = refusals.refused refusal
refused_broken Single text special refusal = absurd cc
refused_broken Double text special refusal = record { inner = []; stop = text; parts = w.no_more; stops = inl (inr (refl, refusal)) }
refused_broken Here text special refusal = refusals.refused refusal

end_broken : (c : Context) → is_quoted c ≡ true → Broken c [] []
end_broken Bare quoted = absurd cc
end_broken Single quoted = inl (refl, refl)
end_broken Double quoted = record { inner = []; stop = []; parts = w.no_more; stops = inl (inl (refl, refl)) }
end_broken Here quoted = absurd cc

part_broken : {c : Context} {text after : List ℕ} {first : List Part} → PartOf c text first after → (rest : List ℕ) → Broken c after rest → Broken c text rest
part_broken (bare one) rest p = refusals.later one p
part_broken (single {b} h) rest p =
    elim p [
      | inl open_end ↦ inl (rw (h, open_end.0) refl, open_end.1)
      | inr q ↦ inr (record { inside = b ∷ q.inside; after = q.after; none = rw (h, q.none) refl; text_is = ap (λ (t : List ℕ). b ∷ t) q.text_is; later = q.later })
    ]
part_broken (double {part = q} one) rest p = record { inner = q ∷ p.inner; stop = p.stop; parts = w.more one p.parts; stops = p.stops }
part_broken (here one) rest p = refusals.later one p

double_opened : (text rest : List ℕ) → DoubleBreaks text rest → WordBreaks (double_quote ∷ text) rest
double_opened text rest p =
    elim p.stops [
      | inr q ↦ refusals.later (w.double_quoted (subst (λ (t : List ℕ). AreDoubleParts text p.inner t) q.1 p.parts)) q.2
      | inl inside ↦
          (elim inside [
            | inl q ↦ subst (WordBreaks (double_quote ∷ text)) (sym q.1) (refusals.double_open (subst (λ (t : List ℕ). AreDoubleParts text p.inner t) q.0 p.parts))
            | inr q ↦ refusals.in_double (subst (λ (t : List ℕ). AreDoubleParts text p.inner t) q.0 p.parts) q.1
          ])
    ]

single_opened : (text rest : List ℕ) → Broken Single text rest → WordBreaks (single_quote ∷ text) rest
single_opened text rest p =
    elim p [
      | inl q ↦ subst (WordBreaks (single_quote ∷ text)) (sym q.1) (refusals.single_open q.0)
      | inr q ↦ subst (λ (t : List ℕ). WordBreaks (single_quote ∷ t) rest) (sym q.text_is) (refusals.later (w.single_quoted q.inside q.none) q.later)
    ]

step_broken : {c : Context} {text : List ℕ} {f : WordFront} → Found c text f → (rest : List ℕ) → Broken f.context (drop f.len text) rest → Broken c text rest
step_broken (parts.part one) rest p = part_broken one rest p
step_broken (parts.single_opens {after}) rest p = single_opened after rest p
step_broken (parts.double_opens {after}) rest p = double_opened after rest p
step_broken (parts.single_closes {after}) rest p = inr (record { inside = []; after = after; none = refl; text_is = refl; later = p })
step_broken (parts.double_closes {after}) rest p = record { inner = []; stop = double_quote ∷ after; parts = w.no_more; stops = inr (after, refl, p) }

breaks_broken : {c : Context} {text rest : List ℕ} → Breaks c text rest → Broken c text rest
breaks_broken (s.at_end {c} quoted) = end_broken c quoted
breaks_broken (s.refused {c} {text} special refusal) = refused_broken c text special refusal
breaks_broken (s.step {c} {text} {rest} {f} more one later) = step_broken (step_found one more) rest (breaks_broken later)

pub breaks-word : {text rest : List ℕ} → Breaks Bare text rest → WordBreaks text rest
breaks-word h = breaks_broken h

pub breaks-here : {text rest : List ℕ} → Breaks Here text rest → HereBreaks text rest
breaks-here h = breaks_broken h
