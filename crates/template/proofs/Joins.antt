-- What the pieces of a template give together.
use Rattle.std.proofs.Common.{◌≡◌, ℕ, List, [], ◌∷◌, ◌++◌, ◌⊎◌, inl, inr, flat_map, append_assoc, append-nil, refl, sym, ◌∙◌, ap, subst}
use Rattle.template.specs.Fill.{filled}
use Rattle.template.specs.Pieces.{Feeds, Fed, FeedsAll}
use Rattle.template.specs.Pieces.FeedsAll.{no_piece, one_piece}
use Rattle.template.proofs.Laws.{filled-[]}

module _ (es : List (List ℕ × List ℕ)) where
  pub Fed-begins : Fed es [] [] []
  Fed-begins = record { front = []; parted = refl; is_given = sym (filled-[] es); goes_on = λ rest. refl }

  given_more : (text given held piece more later : List ℕ) (fed : Fed es text given held) (feeds : Feeds es held piece more later)
      → (feeds.front ≡ []) ⊎ ((after : List ℕ) × (feeds.front ≡ held ++ after)) → given ++ more ≡ filled es (fed.front ++ feeds.front)
  given_more text given held piece more later fed feeds (inl e) =
      ap (λ t. given ++ t) (feeds.is_given ∙ ap (filled es) e ∙ filled-[] es) ∙ append-nil given ∙ fed.is_given
      ∙ sym (ap (λ t. filled es (fed.front ++ t)) e ∙ ap (filled es) (append-nil fed.front))
  given_more text given held piece more later fed feeds (inr past) =
      ap (λ t. given ++ t) (feeds.is_given ∙ ap (filled es) past.1)
      ∙ sym (fed.goes_on past.0)
      ∙ ap (λ t. filled es (t ++ past.0)) fed.parted
      ∙ ap (filled es) (append_assoc fed.front held past.0)
      ∙ ap (λ t. filled es (fed.front ++ t)) (sym past.1)

  -- one piece more
  pub Fed-more : (text given held piece more later : List ℕ) → Fed es text given held → Feeds es held piece more later → Fed es (text ++ piece) (given ++ more) later
  Fed-more text given held piece more later fed feeds = record {
    front = fed.front ++ feeds.front;
    parted = ap (λ t. t ++ piece) fed.parted ∙ append_assoc fed.front held piece ∙ ap (λ t. fed.front ++ t) feeds.parted ∙ sym (append_assoc fed.front feeds.front later);
    is_given = given_more text given held piece more later fed feeds feeds.past;
    goes_on = λ rest.
        ap (filled es) (append_assoc text piece rest)
        ∙ fed.goes_on (piece ++ rest)
        ∙ ap (λ t. given ++ filled es t) (sym (append_assoc held piece rest))
        ∙ ap (λ t. given ++ t) (feeds.goes_on rest)
        ∙ sym (append_assoc given more (filled es (later ++ rest)));
  }

  -- no piece more
  pub Fed-ends : (text given held : List ℕ) → Fed es text given held → given ++ filled es held ≡ filled es text
  Fed-ends text given held fed = ap (λ t. given ++ filled es t) (sym (append-nil held)) ∙ sym (fed.goes_on []) ∙ ap (filled es) (append-nil text)

  alike : (text given held other made : List ℕ) → text ≡ other → given ≡ made → Fed es text given held → Fed es other made held
  alike text given held other made e f fed = subst (λ t. Fed es other t held) f (subst (λ t. Fed es t given held) e fed)

  Fed-all : (text given held last : List ℕ) (pieces givens : List (List ℕ)) → Fed es text given held → FeedsAll es held pieces givens last
      → Fed es (text ++ flat_map (λ piece. piece) pieces) (given ++ flat_map (λ more. more) givens) last
  Fed-all text given held last [] [] fed no_piece = alike text given last (text ++ []) (given ++ []) (sym (append-nil text)) (sym (append-nil given)) fed
  Fed-all text given held last [] (more ∷ givens) fed all = elim all [ ]
  Fed-all text given held last (piece ∷ pieces) [] fed all = elim all [ ]
  Fed-all text given held last (piece ∷ pieces) (more ∷ givens) fed (one_piece {later = later} feeds all) =
      alike ((text ++ piece) ++ flat_map (λ p. p) pieces) ((given ++ more) ++ flat_map (λ m. m) givens) last (text ++ (piece ++ flat_map (λ p. p) pieces)) (given ++ (more ++ flat_map (λ m. m) givens))
      (append_assoc text piece (flat_map (λ p. p) pieces)) (append_assoc given more (flat_map (λ m. m) givens))
      (Fed-all (text ++ piece) (given ++ more) later last pieces givens (Fed-more text given held piece more later fed feeds) all)

  -- all pieces in turn
  pub Fed-so_far : (pieces givens : List (List ℕ)) (held : List ℕ) → FeedsAll es [] pieces givens held → Fed es (flat_map (λ piece. piece) pieces) (flat_map (λ given. given) givens) held
  Fed-so_far pieces givens held all = Fed-all [] [] [] held pieces givens Fed-begins all

  pub Fed-whole : (pieces givens : List (List ℕ)) (held : List ℕ) → FeedsAll es [] pieces givens held
      → flat_map (λ given. given) givens ++ filled es held ≡ filled es (flat_map (λ piece. piece) pieces)
  Fed-whole pieces givens held all = Fed-ends (flat_map (λ piece. piece) pieces) (flat_map (λ given. given) givens) held (Fed-so_far pieces givens held all)
