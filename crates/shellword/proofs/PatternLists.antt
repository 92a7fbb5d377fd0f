-- The pieces of a pattern, and the alternatives of a list.
use Rattle.std.proofs.Common.{◌≡◌, ℕ, ◌+◌, ◌<◌, ◌≤◌, List, [], ◌∷◌, ◌++◌, length, get_or, drop, Option, Some, None, Result, Ok, Err, refl, sym, ap, ◌∙◌, append_assoc}
use Rattle.std.proofs.lemmas.List.{drop_more, drop_all, append-nil}
use Rattle.shellword.specs.declared.fault.ShellFault.{ShellFault}
use Rattle.shellword.specs.declared.fault.ShellFault.TheVariants.{BadPattern}
use Rattle.shellword.specs.declared.part.Part.{Part}
use Rattle.shellword.specs.declared.pattern.Piece.{Piece}
use Rattle.shellword.specs.declared.token.Token.{Token}
use Rattle.shellword.specs.declared.token.Token.TheVariants.{Word, Bar, Newline}
use Rattle.fallible.specs.Reading.{◌>>=◌}
use Rattle.shellword.specs.Listing.{pieces_or, word_in, after_bar, alternatives}
use Rattle.shellword.specs.Pieces.{piece_of, with_piece, pieces_of}

-- ---- pieces

abbrev pub with_front : List Piece → Option (List Piece) → Option (List Piece)
with_front front None = None
with_front front (Some ps) = Some (front ++ ps)

with_front-push : (front : List Piece) (p : Piece) (ps : Option (List Piece)) → with_front (front ++ p ∷ []) ps ≡ with_front front (with_piece (Some p) ps)
with_front-push front p None = refl
with_front-push front p (Some ps) = ap (λ (x : List Piece). Some x) (append_assoc front (p ∷ []) ps)

module _ (front : List Piece) (parts : List Part) (i : ℕ) (part : Part) (total : Option (List Piece)) (so_far : with_front front (pieces_of (drop i parts)) ≡ total) where
  module _ (lt : i < length parts) (is : part ≡ get_or parts i part) where
    here : pieces_of (drop i parts) ≡ with_piece (piece_of part) (pieces_of (drop (i + 1) parts))
    here = ap pieces_of (drop_more parts i part lt) ∙ ap (λ (p : Part). with_piece (piece_of p) (pieces_of (drop (i + 1) parts))) (sym is)

    pub piece_more : (p : Piece) (pushed : List Piece) → piece_of part ≡ Some p → pushed ≡ front ++ p ∷ [] → with_front pushed (pieces_of (drop (i + 1) parts)) ≡ total
    piece_more p pushed found e =
        rw e (with_front-push front p (pieces_of (drop (i + 1) parts)) ∙ sym (ap (with_front front) (here ∙ ap (λ (o : Option Piece). with_piece o (pieces_of (drop (i + 1) parts))) found)) ∙ so_far)

    pub piece_none : piece_of part ≡ None → total ≡ None
    piece_none found = sym so_far ∙ ap (with_front front) (here ∙ ap (λ (o : Option Piece). with_piece o (pieces_of (drop (i + 1) parts))) found)

pub pieces_all : (front : List Piece) (parts : List Part) (i : ℕ) (total : Option (List Piece)) → with_front front (pieces_of (drop i parts)) ≡ total → length parts ≤ i → total ≡ Some front
pieces_all front parts i total so_far past = sym so_far ∙ ap (λ (ps : List Part). with_front front (pieces_of ps)) (drop_all i parts past) ∙ ap (λ (x : List Piece). Some x) (append-nil front)

pub pieces_start : (o : Option (List Piece)) → with_front [] o ≡ o
pieces_start None = refl
pieces_start (Some ps) = refl

-- ---- alternatives

abbrev pub with_patterns : List (List Piece) → Result (List (List Piece)) ShellFault → Result (List (List Piece)) ShellFault
with_patterns front read = read >>= λ rest. Ok (front ++ rest)

pub patterns_start : (r : Result (List (List Piece)) ShellFault) → with_patterns [] r ≡ r
patterns_start (Ok rest) = refl
patterns_start (Err f) = refl

with_patterns-push : (front : List (List Piece)) (p : List Piece) (r : Result (List (List Piece)) ShellFault) → with_patterns (front ++ p ∷ []) r ≡ with_patterns front (r >>= λ rest. Ok (p ∷ rest))
with_patterns-push front p (Ok rest) = ap (λ (x : List (List Piece)). Ok x) (append_assoc front (p ∷ []) rest)
with_patterns-push front p (Err f) = refl

no_word : (at : ℕ) (t : Token) (rest : List Token) → word_in t ≡ None → alternatives at (t ∷ rest) ≡ Err (BadPattern at)
unfolding alternatives
no_word at (Word parts) rest h = absurd cc
no_word at other rest h = refl

word_failed : (at : ℕ) (t : Token) (rest : List Token) (parts : List Part) (f : ShellFault) → word_in t ≡ Some parts → pieces_or at (pieces_of parts) ≡ Err f → alternatives at (t ∷ rest) ≡ Err f
unfolding alternatives
word_failed at (Word ps) (Newline ∷ rest) parts f h e = let p : ps ≡ parts = cc in rw (p, e) refl
word_failed at (Word ps) other parts f h e = let p : ps ≡ parts = cc in rw (p, e) refl
word_failed at other rest parts f h e = absurd cc

last_word : (at : ℕ) (t : Token) (parts : List Part) (pieces : List Piece) → word_in t ≡ Some parts → pieces_or at (pieces_of parts) ≡ Ok pieces → alternatives at (t ∷ []) ≡ Ok (pieces ∷ [])
unfolding alternatives
last_word at (Word ps) parts pieces h e = let p : ps ≡ parts = cc in rw (p, e) refl
last_word at other parts pieces h e = absurd cc

no_bar : (at : ℕ) (t u : Token) (rest : List Token) (parts : List Part) (pieces : List Piece) → word_in t ≡ Some parts → pieces_or at (pieces_of parts) ≡ Ok pieces → after_bar u ≡ None
    → alternatives at (t ∷ u ∷ rest) ≡ Err (BadPattern at)
unfolding alternatives
no_bar at (Word ps) (Bar after) rest parts pieces h e k = absurd cc
no_bar at (Word ps) other rest parts pieces h e k = let p : ps ≡ parts = cc in rw (p, e) refl
no_bar at other u rest parts pieces h e k = absurd cc

past_bar : (at : ℕ) (t u : Token) (rest : List Token) (parts : List Part) (pieces : List Piece) (after : ℕ) → word_in t ≡ Some parts → pieces_or at (pieces_of parts) ≡ Ok pieces → after_bar u ≡ Some after
    → alternatives at (t ∷ u ∷ rest) ≡ (alternatives after rest >>= λ more. Ok (pieces ∷ more))
unfolding alternatives
past_bar at (Word ps) (Bar b) rest parts pieces after h e k = let p : ps ≡ parts = cc in let q : b ≡ after = cc in rw (p, q, e) refl
past_bar at t u rest parts pieces after h e k = absurd cc

no_token : (at : ℕ) → alternatives at [] ≡ Err (BadPattern at)
unfolding alternatives
no_token at = refl

module _ (front : List (List Piece)) (at : ℕ) (tokens : List Token) (total : Result (List (List Piece)) ShellFault) (so_far : with_patterns front (alternatives at tokens) ≡ total) where
  so : (tokens' : List Token) → tokens ≡ tokens' → with_patterns front (alternatives at tokens') ≡ total
  so tokens' is = sym (ap (λ (ts : List Token). with_patterns front (alternatives at ts)) is) ∙ so_far

  pub on_nothing : tokens ≡ [] → total ≡ Err (BadPattern at)
  on_nothing is = sym (so [] is) ∙ ap (with_patterns front) (no_token at)

  module _ (t : Token) (rest : List Token) (is : tokens ≡ t ∷ rest) where
    pub on_no_word : word_in t ≡ None → total ≡ Err (BadPattern at)
    on_no_word h = sym (so (t ∷ rest) is) ∙ ap (with_patterns front) (no_word at t rest h)

    module _ (parts : List Part) (h : word_in t ≡ Some parts) where
      pub on_failed : (f : ShellFault) → pieces_or at (pieces_of parts) ≡ Err f → total ≡ Err f
      on_failed f e = sym (so (t ∷ rest) is) ∙ ap (with_patterns front) (word_failed at t rest parts f h e)

      module _ (pieces : List Piece) (e : pieces_or at (pieces_of parts) ≡ Ok pieces) where
        pub on_last : (pushed : List (List Piece)) → pushed ≡ front ++ pieces ∷ [] → rest ≡ [] → total ≡ Ok pushed
        on_last pushed p none = sym (so (t ∷ []) (is ∙ ap (λ (ts : List Token). t ∷ ts) none)) ∙ ap (with_patterns front) (last_word at t parts pieces h e) ∙ ap (λ (x : List (List Piece)). Ok x) (sym p)

        module _ (u : Token) (more : List Token) (then : rest ≡ u ∷ more) where
          pub on_no_bar : after_bar u ≡ None → total ≡ Err (BadPattern at)
          on_no_bar k = sym (so (t ∷ u ∷ more) (is ∙ ap (λ (ts : List Token). t ∷ ts) then)) ∙ ap (with_patterns front) (no_bar at t u more parts pieces h e k)

          pub on_bar : (after : ℕ) (pushed : List (List Piece)) → pushed ≡ front ++ pieces ∷ [] → after_bar u ≡ Some after → with_patterns pushed (alternatives after more) ≡ total
          on_bar after pushed p k =
              rw p (with_patterns-push front pieces (alternatives after more) ∙ sym (ap (with_patterns front) (past_bar at t u more parts pieces after h e k)) ∙ so (t ∷ u ∷ more) (is ∙ ap (λ (ts : List Token). t ∷ ts) then))
