-- The end of a here-document.
use Rattle.std.proofs.Common.{◌≡◌, ℕ, ◌+◌, ◌-◌, ◌<◌, Bool, true, List, ◌∷◌, length, take, drop, get_or, refl, sym, ap, ◌∙◌}
use Rattle.std.proofs.lemmas.List.{drop_more, take_rest}
use Rattle.m4quote.specs.Text.{whole_line_len}
use Rattle.lint_marks.specs.Heres.{is_delimiter, here_len}

pub here_stop : (drops : Bool) (word text : List ℕ) (i n : ℕ) (begins found : Bool) (whole : ℕ) → i < length text → begins ≡ true → found ≡ is_delimiter drops word (take (length text - i) (drop i text))
    → found ≡ true → n ≡ whole_line_len (take (length text - i) (drop i text)) → i + here_len drops word begins (drop i text) ≡ whole → i + n ≡ whole
here_stop drops word text i n begins found whole lt line is same len kept =
    let b = get_or text i 0 in
    let rest = drop (i + 1) text in
    let split : drop i text ≡ b ∷ rest = drop_more text i 0 lt in
    let front : take (length text - i) (drop i text) ≡ b ∷ rest = take_rest text i ∙ split in
    let stops : is_delimiter drops word (b ∷ rest) ≡ true = ap (is_delimiter drops word) (sym front) ∙ sym is ∙ same in
    let value : here_len drops word true (b ∷ rest) ≡ whole_line_len (b ∷ rest) = rw stops refl in
    let here : here_len drops word begins (drop i text) ≡ whole_line_len (b ∷ rest)
    = ap (λ (t : List ℕ). here_len drops word begins t) split ∙ ap (λ (x : Bool). here_len drops word x (b ∷ rest)) line ∙ value in
    ap (λ (k : ℕ). i + k) (len ∙ ap whole_line_len front ∙ sym here) ∙ kept
