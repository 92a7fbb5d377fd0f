-- Values and their escaped texts: what is written is read, and what is read is what was written.
use Rattle.std.proofs.Common.{◌≡◌, ℕ, ◌+◌, ◌<◌, ◌≤◌, List, [], ◌∷◌, ◌++◌, Bool, true, false, cond, refl, ap, ◌∙◌, sym, subst, length, drop, get_or, ⊎_elim, append_assoc}
use Rattle.std.specs.Prelude.{Option, Some, None, option_and_then, option_map, ◌==◌}
use Rattle.std.proofs.lemmas.List.{drop_more, append-nil}
use Rattle.std.proofs.Math.ListN.{drop_of_length-le}
use Rattle.std.proofs.lemmas.Bool.{cases_Bool, cond-false}
use Rattle.std.proofs.lemmas.Bool.Decides.{Decides-eqb}
use Rattle.status_record.specs.Escape.{escaped_byte, escaped, byte_after_backslash, with_byte, unescaped_from, unescaped}

-- ---- a loop over the text

pub unescaped_more : (w : Bool) (v : List ℕ) (s : Bool × List ℕ) (i : ℕ) (text : List ℕ) → i < length text → with_byte w v (get_or text i 0) ≡ Some s
    → unescaped_from s.0 s.1 (drop (i + 1) text) ≡ unescaped_from w v (drop i text)
unfolding unescaped_from
unescaped_more w v s i text lt e =
    sym (ap (unescaped_from w v) (drop_more text i 0 lt) ∙ ap (option_and_then (λ s. unescaped_from s.0 s.1 (drop (i + 1) text))) e)

pub unescaped_stop : (w : Bool) (v : List ℕ) (i : ℕ) (text : List ℕ) → i < length text → with_byte w v (get_or text i 0) ≡ None
    → unescaped_from w v (drop i text) ≡ None
unfolding unescaped_from
unescaped_stop w v i text lt e =
    ap (unescaped_from w v) (drop_more text i 0 lt) ∙ ap (option_and_then (λ s. unescaped_from s.0 s.1 (drop (i + 1) text))) e

pub unescaped_end : (w : Bool) (v : List ℕ) (i : ℕ) (text : List ℕ) → length text ≤ i → unescaped_from w v (drop i text) ≡ cond w None (Some v)
unfolding unescaped_from
unescaped_end w v i text le = ap (unescaped_from w v) (drop_of_length-le text le)

-- ---- bytes

is_byte : (b n : ℕ) → b == n ≡ true → b ≡ n
is_byte b n e = (Decides-eqb b n).0 e

escaped_other : (b : ℕ) → b == 92 ≡ false → b == 10 ≡ false → escaped_byte b ≡ b ∷ []
unfolding escaped_byte
escaped_other b e f = cond-false _ _ _ e ∙ cond-false _ _ _ f

with_other : (b : ℕ) (out : List ℕ) → b == 92 ≡ false → b == 10 ≡ false → with_byte false out b ≡ Some (false, out ++ b ∷ [])
unfolding with_byte
with_other b out e f = cond-false _ _ _ e ∙ cond-false _ _ _ f

-- ---- what is written is read

byte_back : (b : ℕ) (out rest : List ℕ) → unescaped_from false out (escaped_byte b ++ rest) ≡ unescaped_from false (out ++ b ∷ []) rest
unfolding escaped_byte with_byte unescaped_from byte_after_backslash
byte_back b out rest =
    ⊎_elim
    (λ (is : b == 92 ≡ true). subst (λ n. unescaped_from false out (escaped_byte n ++ rest) ≡ unescaped_from false (out ++ n ∷ []) rest) (sym (is_byte b 92 is)) refl)
    (λ (e : b == 92 ≡ false). ⊎_elim
    (λ (is : b == 10 ≡ true). subst (λ n. unescaped_from false out (escaped_byte n ++ rest) ≡ unescaped_from false (out ++ n ∷ []) rest) (sym (is_byte b 10 is)) refl)
    (λ (f : b == 10 ≡ false). ap (λ t. unescaped_from false out (t ++ rest)) (escaped_other b e f)
    ∙ ap (option_and_then (λ s. unescaped_from s.0 s.1 rest)) (with_other b out e f))
    (cases_Bool (b == 10)))
    (cases_Bool (b == 92))

escaped_back : (v out : List ℕ) → unescaped_from false out (escaped v) ≡ Some (out ++ v)
unfolding unescaped_from
escaped_back [] out = ap Some (sym (append-nil out))
escaped_back (b ∷ v) out = byte_back b out (escaped v) ∙ escaped_back v (out ++ b ∷ []) ∙ ap Some (append_assoc out (b ∷ []) v)

pub unescaped-escaped : (v : List ℕ) → unescaped (escaped v) ≡ Some v
unescaped-escaped v = escaped_back v []

-- ---- what is read was written

-- the text, after the backslash of an open escape
abbrev backed : Bool → List ℕ → List ℕ
backed true text = 92 ∷ text
backed false text = text

abbrev Backed : Bool → List ℕ → List ℕ → List ℕ → Type 0
Backed in_escape out text v = (x : List ℕ) × (v ≡ out ++ x) × (backed in_escape text ≡ escaped x)

wants_92 : (out bs v : List ℕ) → Backed false (out ++ 92 ∷ []) bs v → Backed true out (92 ∷ bs) v
unfolding escaped_byte
wants_92 out bs v p = (92 ∷ p.0, p.1 ∙ append_assoc out (92 ∷ []) p.0, ap (λ t. 92 ∷ 92 ∷ t) p.2)

wants_110 : (out bs v : List ℕ) → Backed false (out ++ 10 ∷ []) bs v → Backed true out (110 ∷ bs) v
unfolding escaped_byte
wants_110 out bs v p = (10 ∷ p.0, p.1 ∙ append_assoc out (10 ∷ []) p.0, ap (λ t. 92 ∷ 110 ∷ t) p.2)

takes_other : (b : ℕ) (out bs v : List ℕ) → b == 92 ≡ false → b == 10 ≡ false → Backed false (out ++ b ∷ []) bs v → Backed false out (b ∷ bs) v
takes_other b out bs v e f p =
    (b ∷ p.0, p.1 ∙ append_assoc out (b ∷ []) p.0, ap (λ t. b ∷ t) p.2 ∙ sym (ap (λ t. t ++ escaped p.0) (escaped_other b e f)))

meant_none : (b : ℕ) → b == 92 ≡ false → b == 110 ≡ false → byte_after_backslash b ≡ None
unfolding byte_after_backslash
meant_none b e f = cond-false _ _ _ e ∙ cond-false _ _ _ f

nothing : (out bs v : List ℕ) (m : Option ℕ) → {Z : Type 0} → m ≡ None
    → option_and_then (λ (s : Bool × List ℕ). unescaped_from s.0 s.1 bs) (option_map (λ n. (false, out ++ n ∷ [])) m) ≡ Some v → Z
nothing out bs v None e h = absurd cc
nothing out bs v (Some x) e h = absurd cc

-- the byte after a backslash, if the bytes after it are read in this way
escape_read : (b : ℕ) (out bs v : List ℕ) → ((o : List ℕ) → unescaped_from false o bs ≡ Some v → Backed false o bs v)
    → unescaped_from true out (b ∷ bs) ≡ Some v → Backed true out (b ∷ bs) v
unfolding unescaped_from with_byte byte_after_backslash
escape_read b out bs v later e =
    ⊎_elim
    (λ (is : b == 92 ≡ true). subst (λ n. unescaped_from true out (n ∷ bs) ≡ Some v → Backed true out (n ∷ bs) v) (sym (is_byte b 92 is)) (λ h. wants_92 out bs v (later (out ++ 92 ∷ []) h)) e)
    (λ (e1 : b == 92 ≡ false). ⊎_elim
    (λ (is : b == 110 ≡ true). subst (λ n. unescaped_from true out (n ∷ bs) ≡ Some v → Backed true out (n ∷ bs) v) (sym (is_byte b 110 is)) (λ h. wants_110 out bs v (later (out ++ 10 ∷ []) h)) e)
    (λ (e2 : b == 110 ≡ false).
    nothing out bs v (byte_after_backslash b) (meant_none b e1 e2) e)
    (cases_Bool (b == 110)))
    (cases_Bool (b == 92))

-- another byte
byte_read : (b : ℕ) (out bs v : List ℕ) → ((w : Bool) (o : List ℕ) → unescaped_from w o bs ≡ Some v → Backed w o bs v)
    → unescaped_from false out (b ∷ bs) ≡ Some v → Backed false out (b ∷ bs) v
unfolding unescaped_from with_byte
byte_read b out bs v later e =
    ⊎_elim
    (λ (is : b == 92 ≡ true). subst (λ n. unescaped_from false out (n ∷ bs) ≡ Some v → Backed false out (n ∷ bs) v) (sym (is_byte b 92 is)) (λ h. later true out h) e)
    (λ (e1 : b == 92 ≡ false). ⊎_elim
    (λ (is : b == 10 ≡ true). subst (λ n. unescaped_from false out (n ∷ bs) ≡ Some v → Backed false out (n ∷ bs) v) (sym (is_byte b 10 is)) (λ h. absurd cc) e)
    (λ (e2 : b == 10 ≡ false).
    let next = ap (option_and_then (λ s. unescaped_from s.0 s.1 bs)) (with_other b out e1 e2) in
    takes_other b out bs v e1 e2 (later false (out ++ b ∷ []) (sym next ∙ e)))
    (cases_Bool (b == 10)))
    (cases_Bool (b == 92))

read_back : (w : Bool) (out text v : List ℕ) → unescaped_from w out text ≡ Some v → Backed w out text v
unfolding unescaped_from
read_back true out [] v e = absurd cc
read_back false out [] v e = ([], ended out v e, refl)
  where
    ended : (a b : List ℕ) → Some a ≡ Some b → b ≡ a ++ []
    ended a b same = let e : a ≡ b = cc in sym e ∙ sym (append-nil a)
read_back true out (b ∷ bs) v e = escape_read b out bs v (λ o h. read_back false o bs v h) e
read_back false out (b ∷ bs) v e = byte_read b out bs v (λ w o h. read_back w o bs v h) e

pub escaped-unescaped : (text v : List ℕ) → unescaped text ≡ Some v → text ≡ escaped v
escaped-unescaped text v e =
    let p = read_back false [] text v e in
    p.2 ∙ ap escaped (sym p.1)
