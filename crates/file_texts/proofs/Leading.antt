-- Where links lead.
use Rattle.std.proofs.Common.{◌≡◌, Bool, true, false, List, ℕ, Option, Some, None, IfSome, sym, ◌∙◌}
use Rattle.file_disk.specs.Known.{Known, kind_under}
use Rattle.file_texts.specs.Links.{is_link, IsNext, LeadsTo, itself, on}

-- So far a name leads to where this one leads, if a link is under the name.
abbrev pub LeadsBy : Option Known → List ℕ → List ℕ → Type 0
LeadsBy known name here = IfSome known (λ k. (end : List ℕ) → is_link (kind_under k name) ≡ true → LeadsTo k here end → LeadsTo k name end)

pub first : (known : Option Known) (name next : List ℕ) → IfSome known (λ k. IsNext k name next)
    → LeadsBy known name next
first None name next is = tt
first (Some k) name next is = λ end link leads. on next end link is leads

pub further : (known : Option Known) (name here next : List ℕ) (link : Bool) → link ≡ true
    → LeadsBy known name here
    → IfSome known (λ k. link ≡ is_link (kind_under k here))
    → IfSome known (λ k. IsNext k here next) → LeadsBy known name next
further None name here next link is by found next_is = tt
further (Some k) name here next link is by found next_is =
    λ end linked leads. by end linked (on next end (sym found ∙ is) next_is leads)

pub ended : (known : Option Known) (name here : List ℕ) (link : Bool) → link ≡ false
    → LeadsBy known name here
    → IfSome known (λ k. link ≡ is_link (kind_under k here))
    → IfSome known (λ k. is_link (kind_under k name) ≡ true → LeadsTo k name here)
ended None name here link is by found = tt
ended (Some k) name here link is by found = λ linked. by here linked (itself (sym found ∙ is))

pub no_link : (known : Option Known) (name : List ℕ) (link : Bool) → link ≡ false
    → IfSome known (λ k. link ≡ is_link (kind_under k name)) → IfSome known (λ k. LeadsTo k name name)
no_link None name link is found = tt
no_link (Some k) name link is found = itself (sym found ∙ is)

pub a_link : (known : Option Known) (name end : List ℕ) (link : Bool) → link ≡ true
    → IfSome known (λ k. link ≡ is_link (kind_under k name))
    → IfSome known (λ k. is_link (kind_under k name) ≡ true → LeadsTo k name end)
    → IfSome known (λ k. LeadsTo k name end)
a_link None name end link is found leads = tt
a_link (Some k) name end link is found leads = leads (sym found ∙ is)
