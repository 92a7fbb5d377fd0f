-- The test that a text is, is what the reader gives.
use Rattle.std.proofs.Common.{◌≡◌, ℕ, ◌<◌, true, false, inl, inr, List, [], ◌∷◌, ◌++◌, length, map, Option, Some, None, Ok, refl, sym, ap, subst, ◌∙◌, append_assoc, arith}
use Rattle.std.specs.List.{list_all}
use Rattle.std.proofs.lemmas.Bool.{and_parts}
use Rattle.std.proofs.lemmas.List.{append-nil, map-append}
use Rattle.shellword.specs.declared.part.Part.{Part}
use Rattle.shellword.specs.declared.element.Element.{Element}
use Rattle.shellword.specs.declared.token.Joint.{Joint}
use Rattle.shellword.specs.declared.token.Token.{Token}
use Rattle.shellword.specs.declared.token.Token.TheVariants.{Word, Join, Bar, Newline}
use Rattle.shellword.specs.Element.{element_of}
use Rattle.shellword.specs.Cut.{tokens_of}
use Rattle.shellword.specs.Tokens.{AreTokens}
use Rattle.shellword.specs.Truth.{Joined, single, joined}
use Rattle.shellword.specs.Test.{AreElement, next_line, command, AreTest, first, more, IsTest}
use Rattle.shellword.specs.Joining.{element_or, ended, joining, test_of}
use Rattle.shellword.specs.Tokens.{is_newline}
use Rattle.fallible.proofs.Binds.{chosen, failed, ok_is, bind_ok}
use Rattle.shellword.proofs.TokenReading.{tokens-read, cut-read}
use Rattle.shellword.proofs.Elements.{no_words}

-- ---- what is a test is joined

words_join : (before : Option (Joined × Joint)) (front words : List (List Part)) (at : ℕ) (rest : List Token) → joining before front at (map Word words ++ rest) ≡ joining before (front ++ words) at rest
unfolding joining
words_join before front [] at rest = ap (λ (ws : List (List Part)). joining before ws at rest) (sym (append-nil front))
words_join before front (w ∷ words) at rest = words_join before (front ++ w ∷ []) words at rest ∙ ap (λ (ws : List (List Part)). joining before ws at rest) (append_assoc front (w ∷ []) words)

-- the words of the element that the tokens form
abbrev Words : List Token → Element → Type 0
Words tokens e =
    (words : List (List Part)) × (element_of words ≡ Some e) × ((before : Option (Joined × Joint)) (at : ℕ) (rest : List Token) → joining before [] at (tokens ++ rest) ≡ joining before words at rest)

element-words : {tokens : List Token} {e : Element} → AreElement tokens e → Words tokens e
unfolding joining
element-words (next_line {tokens} {e} h) = let w = element-words h in (w.0, w.1, λ before at rest. w.2 before at rest)
element-words (command {e} words is) = (words, is, λ before at rest. words_join before [] words at rest)

-- the state of the reader after the tokens of a test
pub record After (tokens : List Token) (test : Joined) : Type 0 where
  pub before : Option (Joined × Joint)
  pub words : List (List Part)
  pub at : ℕ
  pub ended : ended before words at ≡ Ok test
  pub some : 0 < length words
  pub stands : (rest : List Token) → joining None [] 0 (tokens ++ rest) ≡ joining before words at rest

some_words : (words : List (List Part)) (e : Element) → element_of words ≡ Some e → 0 < length words
some_words [] e h = let c : None ≡ Some e = sym no_words ∙ h in absurd cc
some_words (w ∷ ws) e h = omega arith

joined_after : (left right : List Token) (test : Joined) (joint : Joint) (after : ℕ) (e : Element) → After left test → Words right e → After (left ++ Join joint after ∷ right) (joined test joint e)
unfolding joining
joined_after left right test joint after e b w = record {
  before = Some (test, joint);
  words = w.0;
  at = after;
  ended = rw w.1 refl;
  some = some_words w.0 e w.1;
  stands = λ rest. ap (joining None [] 0) (append_assoc left (Join joint after ∷ right) rest) ∙ b.stands (Join joint after ∷ (right ++ rest)) ∙ rw b.ended (w.2 (Some (test, joint)) after rest);
}

test-after : {tokens : List Token} {test : Joined} → AreTest tokens test → After tokens test
test-after (first {tokens} {e} h) =
    let w = element-words h in
    record { before = None; words = w.0; at = 0; ended = rw w.1 refl; some = some_words w.0 e w.1; stands = λ rest. w.2 None 0 rest }
test-after (more {left} {right} {test} {joint} {e} after l r) = joined_after left right test joint after e (test-after l) (element-words r)

lines_after : (before : Option (Joined × Joint)) (words : List (List Part)) (at : ℕ) (lines : List Token) → 0 < length words → list_all is_newline lines ≡ true → joining before words at lines ≡ ended before words at
unfolding joining
lines_after before words at [] some all = refl
lines_after before [] at (t ∷ lines) some all = absurd (omega arith)
lines_after before (w ∷ ws) at (Newline ∷ lines) some all = rw all refl
lines_after before (w ∷ ws) at (t ∷ lines) some all = absurd cc

pub test-read : (text : List ℕ) (test : Joined) → IsTest text test → test_of text ≡ Ok test
unfolding test_of
test-read text test h =
    let b = test-after h.joined in
    rw (tokens-read h.cut) (b.stands h.lines ∙ lines_after b.before b.words b.at h.lines b.some h.newlines ∙ b.ended)

-- ---- what is joined is a test

-- the tokens of an element so far: newlines, and these words
record Pending (words : List (List Part)) (tokens : List Token) : Type 0 where
  lines : List Token
  newlines : list_all is_newline lines ≡ true
  is : tokens ≡ lines ++ map Word words

all_append : (a b : List Token) → list_all is_newline a ≡ true → list_all is_newline b ≡ true → list_all is_newline (a ++ b) ≡ true
all_append [] b h k = k
all_append (t ∷ a) b h k = let p = and_parts (is_newline t) (list_all is_newline a) h in rw (p.0, all_append a b p.1 k) refl

pending_word : (words : List (List Part)) (tokens : List Token) (w : List Part) → Pending words tokens → Pending (words ++ w ∷ []) (tokens ++ Word w ∷ [])
pending_word words tokens w p = record {
  lines = p.lines;
  newlines = p.newlines;
  is = ap (λ (ts : List Token). ts ++ Word w ∷ []) p.is ∙ append_assoc p.lines (map Word words) (Word w ∷ []) ∙ ap (λ (ts : List Token). p.lines ++ ts) (sym (map-append Word words (w ∷ [])));
}

pending_line : (tokens : List Token) → Pending [] tokens → Pending [] (tokens ++ Newline ∷ [])
pending_line tokens p = record {
  lines = p.lines ++ Newline ∷ [];
  newlines = all_append p.lines (Newline ∷ []) p.newlines refl;
  is = ap (λ (ts : List Token). ts ++ Newline ∷ []) (p.is ∙ append-nil p.lines) ∙ sym (append-nil (p.lines ++ Newline ∷ []));
}

lines_element : (lines tokens : List Token) (e : Element) → list_all is_newline lines ≡ true → AreElement tokens e → AreElement (lines ++ tokens) e
lines_element [] tokens e all h = h
lines_element (Newline ∷ lines) tokens e all h = next_line (lines_element lines tokens e all h)
lines_element (t ∷ lines) tokens e all h = absurd cc

pending_element : (words : List (List Part)) (tokens : List Token) (e : Element) → Pending words tokens → element_of words ≡ Some e → AreElement tokens e
pending_element words tokens e p h = subst (λ (ts : List Token). AreElement ts e) (sym p.is) (lines_element p.lines (map Word words) e p.newlines (command words h))

-- the tokens of the test before a joint, with the joint
abbrev Comes : Option (Joined × Joint) → List Token → Type 0
Comes None tokens = tokens ≡ []
Comes (Some before) tokens = (left : List Token) × (after : ℕ) × AreTest left before.0 × (tokens ≡ left ++ Join before.1 after ∷ [])

element_found : (at : ℕ) (words : List (List Part)) (e : Element) (o : Option Element) → element_of words ≡ o → element_or at o ≡ Ok e → element_of words ≡ Some e
element_found at words e None is h = absurd cc
element_found at words e (Some x) is h = is ∙ ap (λ (y : Element). Some y) (ok_is x e h)

ended_test : (before : Option (Joined × Joint)) (words : List (List Part)) (at : ℕ) (done tokens : List Token) (test : Joined) → Comes before done → Pending words tokens → ended before words at ≡ Ok test
    → AreTest (done ++ tokens) test
ended_test None words at done tokens test comes p h =
    let e = bind_ok (element_or at (element_of words)) (λ e. Ok (single e)) test h in
    let one = pending_element words tokens e.0 p (element_found at words e.0 (element_of words) refl e.1) in
    subst (λ (ts : List Token). AreTest (ts ++ tokens) test) (sym comes) (subst (AreTest tokens) (ok_is _ _ e.2) (first one))
ended_test (Some before) words at done tokens test comes p h =
    let e = bind_ok (element_or at (element_of words)) (λ e. Ok (joined before.0 before.1 e)) test h in
    let one = pending_element words tokens e.0 p (element_found at words e.0 (element_of words) refl e.1) in
    let here : comes.0 ++ Join before.1 comes.1 ∷ tokens ≡ done ++ tokens = sym (append_assoc comes.0 (Join before.1 comes.1 ∷ []) tokens) ∙ ap (λ (ts : List Token). ts ++ tokens) (sym comes.3) in
    subst (λ (ts : List Token). AreTest ts test) here (subst (AreTest (comes.0 ++ Join before.1 comes.1 ∷ tokens)) (ok_is _ _ e.2) (more comes.1 comes.2 one))

abbrev Parted : List Token → Joined → Type 0
Parted all test = (tokens : List Token) × (lines : List Token) × (all ≡ tokens ++ lines) × AreTest tokens test × (list_all is_newline lines ≡ true)

along : (a b : List Token) (test : Joined) → a ≡ b → Parted a test → Parted b test
along a b test e p = (p.0, p.1, sym e ∙ p.2, p.3, p.4)

joining-test : (ts : List Token) (before : Option (Joined × Joint)) (words : List (List Part)) (at : ℕ) (done tokens : List Token) (test : Joined) → Comes before done → Pending words tokens
    → joining before words at ts ≡ Ok test → Parted ((done ++ tokens) ++ ts) test
unfolding joining
joining-test [] before words at done tokens test comes p h = (done ++ tokens, [], refl, ended_test before words at done tokens test comes p h, refl)
joining-test (Word w ∷ ts) before words at done tokens test comes p h =
    along _ _ test (ap (λ (x : List Token). x ++ ts) (sym (append_assoc done tokens (Word w ∷ []))) ∙ append_assoc (done ++ tokens) (Word w ∷ []) ts)
    (joining-test ts before (words ++ w ∷ []) at done (tokens ++ Word w ∷ []) test comes (pending_word words tokens w p) h)
joining-test (Join joint after ∷ ts) before words at done tokens test comes p h =
    let t = bind_ok (ended before words at) (λ test. joining (Some (test, joint)) [] after ts) test h in
    let left = ended_test before words at done tokens t.0 comes p t.1 in
    along _ _ test (ap (λ (x : List Token). x ++ ts) (append-nil ((done ++ tokens) ++ Join joint after ∷ [])) ∙ append_assoc (done ++ tokens) (Join joint after ∷ []) ts)
    (joining-test ts (Some (t.0, joint)) [] after ((done ++ tokens) ++ Join joint after ∷ []) [] test (done ++ tokens, after, left, refl) (record { lines = []; newlines = refl; is = refl }) t.2)
joining-test (Bar after ∷ ts) before words at done tokens test comes p h = absurd cc
joining-test (Newline ∷ ts) before [] at done tokens test comes p h =
    along _ _ test (ap (λ (x : List Token). x ++ ts) (sym (append_assoc done tokens (Newline ∷ []))) ∙ append_assoc (done ++ tokens) (Newline ∷ []) ts)
    (joining-test ts before [] at done (tokens ++ Newline ∷ []) test comes (pending_line tokens p) h)
joining-test (Newline ∷ ts) before (w ∷ ws) at done tokens test comes p h =
    elim (chosen (list_all is_newline ts) _ _ _ h) [
      | inl all ↦ (done ++ tokens, Newline ∷ ts, refl, ended_test before (w ∷ ws) at done tokens test comes p all.1, all.0)
      | inr some ↦ absurd (failed some.1)
    ]

pub read-test : (text : List ℕ) (test : Joined) → test_of text ≡ Ok test → IsTest text test
unfolding test_of
read-test text test e =
    let ts = bind_ok (tokens_of false 0 0 text) (λ tokens. joining None [] 0 tokens) test e in
    let p = joining-test ts.0 None [] 0 [] [] test refl (record { lines = []; newlines = refl; is = refl }) ts.2 in
    record { tokens = p.0; lines = p.1; cut = subst (AreTokens false 0 text) p.2 (cut-read false text ts.0 ts.1); joined = p.3; newlines = p.4 }
