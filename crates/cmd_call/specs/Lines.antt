-- The line of an error, and what a stream took of it.
use Rattle.std.specs.Prelude.{◌≡◌, ℕ, Bool, true, false, List, [], ◌∷◌, ◌++◌, Option, Some, None, codes, decimal, take}
use Rattle.std.specs.Io.KnownBytes.{Appends}
use Rattle.std.specs.List.{concat}
use Rattle.cmd_call.specs.Errors.{AreTold}
use Rattle.cmd_call.specs.declared.spot.Spot.{Spot}

-- A name that follows a reason, after a blank; and nothing if it is empty. (own)
abbrev pub named : List ℕ → List ℕ
named [] = []
named (c ∷ cs) = 32 ∷ c ∷ cs

-- The line of an error: `acrun: `, the reason, and a name unless it is empty. (own)
abbrev pub error_line : List ℕ → List ℕ → List ℕ
error_line reason name = codes "acrun: " ++ (reason ++ (named name ++ 10 ∷ []))

-- The digits of a number, if there is one. (own)
abbrev pub digits_of : Option ℕ → List ℕ
digits_of None = []
digits_of (Some number) = decimal number

-- The text of a spot: its words, and then its number, if it has one. (own)
abbrev pub spot_text : Spot → List ℕ
spot_text spot = spot.words.now ++ digits_of spot.number

-- A stream took a front of this text, and all of it unless the stream has failed. If it hasn't failed now, it hadn't before. (own)
pub record IsTold {E : Type 0} (contents : E → Option (List ℕ)) (has_failed : E → Bool) (old new : E) (text : List ℕ) : Type 0 where
  pub told : AreTold (contents old) (contents new) (text ∷ [])
  pub whole : has_failed new ≡ false → Appends (contents old) (contents new) text
  pub kept : has_failed new ≡ false → has_failed old ≡ false

-- A stream took a front of each of these texts, in order, and all of them unless the stream has failed. (own)
pub record AreSaid {E : Type 0} (contents : E → Option (List ℕ)) (has_failed : E → Bool) (old new : E) (texts : List (List ℕ)) : Type 0 where
  pub told : AreTold (contents old) (contents new) texts
  pub whole : has_failed new ≡ false → Appends (contents old) (contents new) (concat texts)
  pub kept : has_failed new ≡ false → has_failed old ≡ false

-- A stream that held `start` took a front of this text so far, and all of it unless the text was cut, as then the stream has
-- failed. (own)
pub record IsBegun (start now : Option (List ℕ)) (has_failed is_cut : Bool) (text : List ℕ) : Type 0 where
  pub front : (n : ℕ) × Appends start now (take n text)
  pub whole : is_cut ≡ false → Appends start now text
  pub failed : is_cut ≡ true → has_failed ≡ true

-- These texts are said, in order. If it is asked why, pages may be said before, between and after them, and otherwise none. (own)
pub data WithPages (is_asked : Bool) : List (List ℕ) → List (List ℕ) → Type 0 where
  nothing : WithPages is_asked [] []
  line : (text : List ℕ) {lines all : List (List ℕ)} → WithPages is_asked lines all → WithPages is_asked (text ∷ lines) (text ∷ all)
  page : (text : List ℕ) {lines all : List (List ℕ)} → is_asked ≡ true → WithPages is_asked lines all → WithPages is_asked lines (text ∷ all)

-- A stream took a front of each of these lines, in order, and of the pages with them if it is asked why, and nothing else. It took
-- all of them unless it has failed. (own)
pub record SaysLines {E : Type 0} (contents : E → Option (List ℕ)) (has_failed : E → Bool) (old new : E) (is_asked : Bool) (lines : List (List ℕ)) : Type 0 where
  pub all : List (List ℕ)
  pub among : WithPages is_asked lines all
  pub said : AreSaid contents has_failed old new all
