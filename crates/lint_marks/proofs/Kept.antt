-- The delimiter of a here-document, byte after byte.
use Rattle.std.proofs.Common.{◌≡◌, ℕ, ◌+◌, ◌<◌, ◌≤◌, Bool, true, false, List, [], ◌∷◌, ◌++◌, length, drop, get_or, refl, sym, ap, ◌∙◌, append_assoc}
use Rattle.std.proofs.lemmas.List.{drop_more, drop_all, append-nil}
use Rattle.lint_marks.specs.declared.delimiter.DelimiterPart.{DelimiterPart}
use Rattle.lint_marks.specs.Delimiters.{is_after, kept, part_after, delimiter_in}

-- a byte that is no part of it
ends_here : (part : DelimiterPart) (b : ℕ) (bs : List ℕ) → is_after part b ≡ true → delimiter_in part (b ∷ bs) ≡ []
unfolding delimiter_in
ends_here part b bs ends = rw ends refl

goes_on : (part : DelimiterPart) (b : ℕ) (bs : List ℕ) → is_after part b ≡ false → delimiter_in part (b ∷ bs) ≡ kept part b ++ delimiter_in (part_after part b) bs
unfolding delimiter_in
goes_on part b bs more = rw more refl

-- one byte more
pub kept_more : (word pushed whole : List ℕ) (part next : DelimiterPart) (ends : Bool) (i : ℕ) (text : List ℕ) → i < length text → ends ≡ is_after part (get_or text i 0) → ends ≡ false
    → pushed ≡ word ++ kept part (get_or text i 0) → next ≡ part_after part (get_or text i 0) → word ++ delimiter_in part (drop i text) ≡ whole → pushed ++ delimiter_in next (drop (i + 1) text) ≡ whole
kept_more word pushed whole part next ends i text lt is more e after before =
    let b = get_or text i 0 in
    let rest = drop (i + 1) text in
    let split : drop i text ≡ b ∷ rest = drop_more text i 0 lt in
    ap (λ (p : DelimiterPart). pushed ++ delimiter_in p rest) after
    ∙ ap (λ (r : List ℕ). r ++ delimiter_in (part_after part b) rest) e
    ∙ append_assoc word (kept part b) (delimiter_in (part_after part b) rest)
    ∙ ap (λ (r : List ℕ). word ++ r) (sym (goes_on part b rest (sym is ∙ more)))
    ∙ ap (λ (r : List ℕ). word ++ delimiter_in part r) (sym split)
    ∙ before

-- the byte after it
pub kept_stop : (word whole : List ℕ) (part : DelimiterPart) (ends : Bool) (i : ℕ) (text : List ℕ) → i < length text → ends ≡ is_after part (get_or text i 0) → ends ≡ true
    → word ++ delimiter_in part (drop i text) ≡ whole → word ≡ whole
kept_stop word whole part ends i text lt is stops before =
    let b = get_or text i 0 in
    let rest = drop (i + 1) text in
    let split : drop i text ≡ b ∷ rest = drop_more text i 0 lt in
    sym (append-nil word)
    ∙ ap (λ (r : List ℕ). word ++ r) (sym (ends_here part b rest (sym is ∙ stops)))
    ∙ ap (λ (r : List ℕ). word ++ delimiter_in part r) (sym split)
    ∙ before

-- the end of the text
pub kept_all : (word whole : List ℕ) (part : DelimiterPart) (i : ℕ) (text : List ℕ) → length text ≤ i → word ++ delimiter_in part (drop i text) ≡ whole → word ≡ whole
unfolding delimiter_in
kept_all word whole part i text le before =
    sym (append-nil word) ∙ ap (λ (t : List ℕ). word ++ delimiter_in part t) (sym (drop_all i text le)) ∙ before
