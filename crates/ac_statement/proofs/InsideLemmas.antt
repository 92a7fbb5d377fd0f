-- Statement arguments: their items one after another, and their bytes.
use Rattle.std.proofs.Common.{◌≡◌, ℕ, ◌+◌, ◌<◌, Bool, true, false, cond, List, [], ◌∷◌, length, drop, Option, Some, None, sym, ap, subst, arith}
use Rattle.std.proofs.lemmas.List.{drop_more}
use Rattle.std.proofs.lemmas.List.Elements.{All-head, All-tail}
use Rattle.m4quote.specs.ItemValue.{Span, ItemValue, call, bare}
use Rattle.m4quote.specs.Parts.{IsPart, IsItemOf, ArePartsOf}
use Rattle.ac_statement.specs.Inside.{closes_at_end, are_blank, only_text}
use Rattle.ac_statement.specs.Texts.{is_all_blank}

-- ---- bytes

pub closes_stop : (i : ℕ) (text : List ℕ) → i < length text → closes_at_end 0 (drop i text) ≡ false
closes_stop i text lt = ap (closes_at_end 0) (drop_more text i 0 lt)

-- ---- offsets

-- The text that is found is in the whole text.
pub part_of : (base : ℕ) (text : List ℕ) (items : List ItemValue) (s : Span) → ArePartsOf base text items → only_text items ≡ Some s → IsPart base text s.at s.text
part_of base text [] s parts e = absurd cc
part_of base text (call name args at ∷ items) s parts e = absurd cc
part_of base text (bare t at ∷ items) s parts e =
    by (is_all_blank t) (are_blank items) (part_of base text items s (All-tail (IsItemOf base text) (bare t at) items parts)) e
  where
    here : (let found : Option Span = Some (record { text = t; at = at }) in found) ≡ Some s → IsPart base text s.at s.text
    here h =
        let same : s ≡ record { text = t; at = at } = cc in
        subst (λ (x : Span). IsPart base text x.at x.text) (sym same) (All-head (IsItemOf base text) (bare t at) items parts)

    by : (b c : Bool) → (only_text items ≡ Some s → IsPart base text s.at s.text) → cond b (only_text items) (cond c (Some (record { text = t; at = at })) None) ≡ Some s → IsPart base text s.at s.text
    by true c rest h = rest h
    by false true rest h = here h
    by false false rest h = absurd cc

-- Its offset fits in 64 bits.
pub placed : (base n : ℕ) (text : List ℕ) (items : List ItemValue) (s : Span) → base + length text < n → ArePartsOf base text items → only_text items ≡ Some s → s.at + length s.text < n
placed base n text items s fits parts e = let p = part_of base text items s parts e in omega (arith, p.begins, p.ends)
