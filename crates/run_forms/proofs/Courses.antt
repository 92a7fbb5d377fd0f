-- Laws of courses. No proof has a case for a macro's test.
use Rattle.std.proofs.Common.{◌≡◌, List, [], ◌∷◌, map, length, refl, ap}
use Rattle.std.specs.Prelude.{suc}
use Rattle.meaning.proofs.Forms.{name_is_left}
use Rattle.run_forms.specs.Laws.{CountsAreOfAttempts, KnownAreBare, RowsAreOfCourses, UsedLeaveNames}

mapped_length : {A B : Type 0} (f : A → B) (xs : List A) → length (map f xs) ≡ length xs
mapped_length f [] = refl
mapped_length f (x ∷ xs) = ap suc (mapped_length f xs)

pub counts_are : CountsAreOfAttempts
counts_are c vars defs = mapped_length _ c.form.tries

pub rows_are : RowsAreOfCourses
rows_are t st = refl

pub known_are : KnownAreBare
known_are t value st now = refl

pub names_are_left : UsedLeaveNames
names_are_left form value st = name_is_left form value st
