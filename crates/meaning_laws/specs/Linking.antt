-- Laws of tests of libraries: what they leave in LIBS.
use Rattle.std.specs.Prelude.{◌≡◌, ℕ, Bool, true, List, [], ◌++◌, Option, Some, bytes_eq, codes, unwrap_or, if◌then◌else◌}
use Rattle.deftable.specs.Table.{value_of}
use Rattle.shellword.specs.declared.part.Part.{Part}
use Rattle.ac_tree.specs.declared.statement.Question.TheVariants.{Library, Libraries}
use Rattle.meaning.specs.State.{State, How, Goes_on, as_is}
use Rattle.meaning.specs.Forms.{shell_part}
use Rattle.meaning.specs.Meaning.{after_question}
use Rattle.meaning_laws.specs.Ends.{AtEnds}
use Rattle.meaning_laws.specs.Questions.{yes_or_no}

-- The value of LIBS, if it is set. (Autoconf's manual, "Library Files")
abbrev pub libs_of : State → Option (List ℕ)
libs_of st = value_of st.vars (codes "LIBS")

-- A value of LIBS with a text and a blank in front; LIBS that is unset counts as empty. (Autoconf's manual, "Library
-- Files")
abbrev pub put_before : List ℕ → Option (List ℕ) → Option (List ℕ)
put_before text libs = Some (text ++ codes " " ++ unwrap_or libs [])

-- AC_CHECK_LIB puts its library in front if the answer is yes and it has no first action, which `adds` says. If the answer
-- is no, or the test doesn't come to its end, LIBS is as it was. (Autoconf's manual, "Library Files")
abbrev pub libs_checked : List ℕ → Bool → How → Option (List ℕ) → Option (List ℕ)
libs_checked library true Goes_on libs = put_before (codes "-l" ++ library) libs
libs_checked library adds how libs = libs

-- AC_SEARCH_LIBS puts its value in front if the answer is yes, unless the value is `none required`. If the answer is no, or
-- the test doesn't come to its end, LIBS is as it was. (Autoconf's manual, "Library Files")
abbrev pub libs_searched : Option (List ℕ) → How → Option (List ℕ) → Option (List ℕ)
libs_searched (Some value) Goes_on libs = if bytes_eq value (codes "none required") then libs else put_before value libs
libs_searched value how libs = libs

-- LIBS is so when the actions of AC_CHECK_LIB begin, or when the run ends in its test, whatever the replies. (Autoconf's
-- manual, "Library Files")
abbrev pub LibsChecked : Type 0
LibsChecked = (library function : List ℕ) (others : Option (List Part)) (adds : Bool) (st : State)
    → AtEnds (λ how now. libs_of now ≡ libs_checked library adds how (libs_of st)) (after_question as_is (Library library function others adds) st yes_or_no)

-- LIBS is so when the actions of AC_SEARCH_LIBS begin, or when the run ends in its test, whatever the replies. (Autoconf's
-- manual, "Library Files")
abbrev pub LibsSearched : Type 0
LibsSearched = (function : List ℕ) (libraries : List (List ℕ)) (others : Option (List Part)) (st : State)
    → AtEnds (λ how now. libs_of now ≡ libs_searched (value_of now.vars (codes "ac_cv_search_" ++ shell_part function)) how (libs_of st))
    (after_question as_is (Libraries function libraries others) st yes_or_no)
