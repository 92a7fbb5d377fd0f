-- The marks of a text, byte after byte.
use Rattle.std.proofs.Common.{◌≡◌, ℕ, ◌+◌, ◌-◌, ◌<◌, ◌≤◌, List, [], ◌∷◌, ◌++◌, length, take, drop, get_or, sym, ap, ◌∙◌, append_assoc}
use Rattle.std.proofs.lemmas.List.{drop_more, drop_all, take_rest, append-nil}
use Rattle.lint_marks.specs.declared.mark.TextScan.{TextScan}
use Rattle.lint_marks.specs.declared.mark.Mark.{Mark}
use Rattle.lint_marks.specs.Marks.{text_after, mark_of, marks_from}

-- one byte more
pub marked_more : (marks pushed : List Mark) (s t : TextScan) (m : Mark) (i : ℕ) (text : List ℕ) → i < length text → m ≡ mark_of s → pushed ≡ marks ++ m ∷ []
    → t ≡ text_after s (take (length text - i) (drop i text)) → pushed ++ marks_from t (drop (i + 1) text) ≡ marks ++ marks_from s (drop i text)
unfolding marks_from
marked_more marks pushed s t m i text lt is_mark e next =
    let b = get_or text i 0 in
    let rest = drop (i + 1) text in
    let split : drop i text ≡ b ∷ rest = drop_more text i 0 lt in
    ap (λ (r : TextScan). pushed ++ marks_from r rest) (next ∙ ap (text_after s) (take_rest text i ∙ split))
    ∙ ap (λ (r : List Mark). r ++ marks_from (text_after s (b ∷ rest)) rest) (e ∙ ap (λ (r : Mark). marks ++ r ∷ []) is_mark)
    ∙ append_assoc marks (mark_of s ∷ []) (marks_from (text_after s (b ∷ rest)) rest)
    ∙ ap (λ (r : List ℕ). marks ++ marks_from s r) (sym split)

-- all bytes
pub marked_all : (marks : List Mark) (s : TextScan) (i : ℕ) (text : List ℕ) → length text ≤ i → marks ++ marks_from s (drop i text) ≡ marks
unfolding marks_from
marked_all marks s i text le = ap (λ (t : List ℕ). marks ++ marks_from s t) (drop_all i text le) ∙ append-nil marks
