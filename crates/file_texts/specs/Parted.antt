-- The filter's input: a source, a line that is exactly `%%`, and a template. (own)
use Rattle.std.specs.Prelude.{◌≡◌, ◌≢◌, ℕ, ◌+◌, ◌<◌, ◌==◌, Bool, not, List, [], ◌∷◌, ◌++◌, length, take, drop}
use Rattle.std.specs.List.{prefix_len}
use Rattle.std.specs.Str.{bytes_eq}

-- The number of bytes before the first newline. (own)
abbrev pub line_len : List ℕ → ℕ
line_len text = prefix_len (λ b. not (b == 10)) text

-- The first line, without its newline. (own)
abbrev pub first_line : List ℕ → List ℕ
first_line text = take (line_len text) text

-- The text after the first line and its newline. (own)
abbrev pub after_line : List ℕ → List ℕ
after_line text = drop (line_len text + 1) text

-- Two percent signs. (own)
abbrev pub marker : List ℕ
marker = 37 ∷ 37 ∷ []

-- The source is the lines before the first line that is the marker, and the template is the text after that line. (own)
pub data IsParted : List ℕ → List ℕ → List ℕ → Type 0 where
  here : {input : List ℕ} → first_line input ≡ marker → IsParted input [] (after_line input)
  later : {input source template : List ℕ} → first_line input ≢ marker → line_len input < length input
      → IsParted (after_line input) source template → IsParted input (take (line_len input + 1) input ++ source) template

-- No line is the marker. (own)
pub data HasNoMarker : List ℕ → Type 0 where
  last_line : {input : List ℕ} → first_line input ≢ marker → line_len input ≡ length input → HasNoMarker input
  line : {input : List ℕ} → first_line input ≢ marker → line_len input < length input → HasNoMarker (after_line input) → HasNoMarker input

-- The line is the marker. (own)
abbrev pub is_marker : List ℕ → Bool
is_marker text = bytes_eq text marker
