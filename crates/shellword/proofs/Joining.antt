-- Tokens joined to a test, one after the other.
use Rattle.std.proofs.Common.{◌≡◌, ℕ, ◌<◌, List, [], ◌∷◌, ◌++◌, length, Option, Some, Result, Ok, Err, refl, sym, ap, ◌∙◌, arith, if◌then◌else◌}
use Rattle.std.specs.List.{list_all}
use Rattle.shellword.specs.declared.fault.ShellFault.{ShellFault}
use Rattle.shellword.specs.declared.fault.ShellFault.TheVariants.{BadTest}
use Rattle.shellword.specs.declared.part.Part.{Part}
use Rattle.shellword.specs.declared.token.Joint.{Joint}
use Rattle.shellword.specs.declared.token.Token.{Token}
use Rattle.shellword.specs.declared.token.Token.TheVariants.{Word, Join, Bar, Newline}
use Rattle.shellword.specs.Truth.{Joined}
use Rattle.shellword.specs.Joining.{ended, joining}
use Rattle.shellword.specs.Tokens.{is_newline}

module _ (before : Option (Joined × Joint)) (words : List (List Part)) (at : ℕ) (tokens rest : List Token) (t : Token) (total : Result Joined ShellFault) (is : tokens ≡ t ∷ rest) (so_far : joining before words at tokens ≡ total) where
  pub on_word : (w : List Part) (pushed : List (List Part)) → t ≡ Word w → pushed ≡ words ++ w ∷ [] → joining before pushed at rest ≡ total
  unfolding joining
  on_word w pushed e p = rw p (sym (ap (λ (x : Token). joining before words at (x ∷ rest)) e) ∙ sym (ap (joining before words at) is) ∙ so_far)

  pub on_join_failed : (joint : Joint) (after : ℕ) (f : ShellFault) → t ≡ Join joint after → ended before words at ≡ Err f → total ≡ Err f
  unfolding joining
  on_join_failed joint after f e failed = sym so_far ∙ ap (joining before words at) is ∙ ap (λ (x : Token). joining before words at (x ∷ rest)) e ∙ rw failed refl

  pub on_join : (joint : Joint) (after : ℕ) (test : Joined) (none : List (List Part)) → t ≡ Join joint after → ended before words at ≡ Ok test → none ≡ [] → joining (Some (test, joint)) none after rest ≡ total
  unfolding joining
  on_join joint after test none e found empty = rw empty (sym (ap (joining before words at) is ∙ ap (λ (x : Token). joining before words at (x ∷ rest)) e ∙ rw found refl) ∙ so_far)

  pub on_bar : (after : ℕ) → t ≡ Bar after → total ≡ Err (BadTest at)
  unfolding joining
  on_bar after e = sym so_far ∙ ap (joining before words at) is ∙ ap (λ (x : Token). joining before words at (x ∷ rest)) e

  pub on_newline : t ≡ Newline → words ≡ [] → joining before words at rest ≡ total
  unfolding joining
  on_newline e none = sym (ap (joining before words at) is ∙ ap (λ (x : Token). joining before words at (x ∷ rest)) e ∙ ap (λ (ws : List (List Part)). joining before ws at (Newline ∷ rest)) none ∙ sym (ap (λ (ws : List (List Part)). joining before ws at rest) none)) ∙ so_far

pub on_line_end : (before : Option (Joined × Joint)) (words : List (List Part)) (at : ℕ) (tokens rest : List Token) (t : Token) (total : Result Joined ShellFault) → tokens ≡ t ∷ rest → joining before words at tokens ≡ total
    → t ≡ Newline → 0 < length words → total ≡ (if list_all is_newline rest then ended before words at else Err (BadTest at))
unfolding joining
on_line_end before [] at tokens rest t total is so_far e some = absurd (omega arith)
on_line_end before (w ∷ ws) at tokens rest t total is so_far e some =
    sym so_far ∙ ap (joining before (w ∷ ws) at) is ∙ ap (λ (x : Token). joining before (w ∷ ws) at (x ∷ rest)) e

pub at_end : (before : Option (Joined × Joint)) (words : List (List Part)) (at : ℕ) (tokens : List Token) (total : Result Joined ShellFault) → tokens ≡ [] → joining before words at tokens ≡ total → total ≡ ended before words at
unfolding joining
at_end before words at tokens total none so_far = sym so_far ∙ ap (joining before words at) none
