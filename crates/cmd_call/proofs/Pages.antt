-- Lines that are said with pages among them.
use Rattle.std.proofs.Common.{◌≡◌, ℕ, Bool, true, false, List, [], ◌∷◌, ◌++◌, Option, sym, subst, refl, ap, append_assoc}
use Rattle.cmd_call.specs.Lines.{AreSaid, IsTold, SaysLines, WithPages, nothing, line, page}
use Rattle.cmd_call.proofs.Lines.{said_line, said_nothing, said_then}

-- Lines without a page.
plain : (is_asked : Bool) (lines : List (List ℕ)) → WithPages is_asked lines lines
plain is_asked [] = nothing
plain is_asked (x ∷ xs) = line x (plain is_asked xs)

pages_joined : (is_asked : Bool) (xs ys first_all second_all : List (List ℕ)) → WithPages is_asked xs first_all → WithPages is_asked ys second_all → WithPages is_asked (xs ++ ys) (first_all ++ second_all)
pages_joined is_asked xs ys first_all second_all nothing second = second
pages_joined is_asked xs ys first_all second_all (line text {lines} {all} first) second = line text (pages_joined is_asked lines ys all second_all first second)
pages_joined is_asked xs ys first_all second_all (page text {lines} {all} is first) second = page text is (pages_joined is_asked lines ys all second_all first second)

-- Without a question there is no page.
no_pages : (xs every : List (List ℕ)) → WithPages false xs every → every ≡ xs
no_pages xs every nothing = refl
no_pages xs every (line text {lines} {all} rest) = ap (λ l. text ∷ l) (no_pages lines all rest)
no_pages xs every (page text {lines} {all} is rest) = absurd (cc)

-- Nothing was said.
pub says_nothing : {E : Type 0} (contents : E → Option (List ℕ)) (has_failed : E → Bool) (e : E) (is_asked : Bool) → SaysLines contents has_failed e e is_asked []
says_nothing contents has_failed e is_asked = record { all = []; among = nothing; said = said_nothing contents has_failed e }

-- Lines were said, and no page.
pub says_lines : {E : Type 0} (contents : E → Option (List ℕ)) (has_failed : E → Bool) (old new : E) (is_asked : Bool) (lines : List (List ℕ))
    → AreSaid contents has_failed old new lines → SaysLines contents has_failed old new is_asked lines
says_lines contents has_failed old new is_asked lines said = record { all = lines; among = plain is_asked lines; said = said }

-- One line was said.
pub says_line : {E : Type 0} (contents : E → Option (List ℕ)) (has_failed : E → Bool) (old new : E) (is_asked : Bool) (text : List ℕ)
    → IsTold contents has_failed old new text → SaysLines contents has_failed old new is_asked (text ∷ [])
says_line contents has_failed old new is_asked text told =
    says_lines contents has_failed old new is_asked (text ∷ []) (said_line contents has_failed old new text told)

-- A page was said, since it was asked for.
pub says_page : {E : Type 0} (contents : E → Option (List ℕ)) (has_failed : E → Bool) (old new : E) (is_asked : Bool) (text : List ℕ)
    → is_asked ≡ true → IsTold contents has_failed old new text → SaysLines contents has_failed old new is_asked []
says_page contents has_failed old new is_asked text is told =
    record { all = text ∷ []; among = page text is nothing; said = said_line contents has_failed old new text told }

-- What was said one after the other.
pub says_then : {E : Type 0} (contents : E → Option (List ℕ)) (has_failed : E → Bool) (old mid new : E) (is_asked : Bool) (xs ys : List (List ℕ))
    → SaysLines contents has_failed old mid is_asked xs → SaysLines contents has_failed mid new is_asked ys → SaysLines contents has_failed old new is_asked (xs ++ ys)
says_then contents has_failed old mid new is_asked xs ys first second = record {
  all = first.all ++ second.all;
  among = pages_joined is_asked xs ys first.all second.all first.among second.among;
  said = said_then contents has_failed old mid new first.all second.all first.said second.said;
}

-- A line, and then pages.
pub line_paged : {E : Type 0} (contents : E → Option (List ℕ)) (has_failed : E → Bool) (old mid new : E) (is_asked : Bool) (text : List ℕ)
    → IsTold contents has_failed old mid text → SaysLines contents has_failed mid new is_asked [] → SaysLines contents has_failed old new is_asked (text ∷ [])
line_paged contents has_failed old mid new is_asked text told pages =
    says_then contents has_failed old mid new is_asked (text ∷ []) [] (says_line contents has_failed old mid is_asked text told) pages

-- Pages, and then pages.
pub pages_then : {E : Type 0} (contents : E → Option (List ℕ)) (has_failed : E → Bool) (old mid new : E) (is_asked : Bool)
    → SaysLines contents has_failed old mid is_asked [] → SaysLines contents has_failed mid new is_asked [] → SaysLines contents has_failed old new is_asked []
pages_then contents has_failed old mid new is_asked first second = says_then contents has_failed old mid new is_asked [] [] first second

-- If it isn't asked why, what was said is these lines alone.
pub says_unasked : {E : Type 0} (contents : E → Option (List ℕ)) (has_failed : E → Bool) (old new : E) (is_asked : Bool) (lines : List (List ℕ))
    → is_asked ≡ false → SaysLines contents has_failed old new is_asked lines → AreSaid contents has_failed old new lines
says_unasked contents has_failed old new is_asked lines is says =
    let among : WithPages false lines says.all = subst (λ b. WithPages b lines says.all) is says.among in
    subst (AreSaid contents has_failed old new) (no_pages lines says.all among) says.said

-- Three lists of lines that are said one after the other.
pub says_thrice : {E : Type 0} (contents : E → Option (List ℕ)) (has_failed : E → Bool) (one two three four : E) (is_asked : Bool) (ms xs ys zs : List (List ℕ))
    → SaysLines contents has_failed one two is_asked (ms ++ xs) → SaysLines contents has_failed two three is_asked ys → SaysLines contents has_failed three four is_asked zs
    → SaysLines contents has_failed one four is_asked (ms ++ (xs ++ (ys ++ zs)))
says_thrice contents has_failed one two three four is_asked ms xs ys zs first second third =
    subst (SaysLines contents has_failed one four is_asked) (append_assoc ms xs (ys ++ zs))
    (says_then contents has_failed one two four is_asked (ms ++ xs) (ys ++ zs) first (says_then contents has_failed two three four is_asked ys zs second third))
