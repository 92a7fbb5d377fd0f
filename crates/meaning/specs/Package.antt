-- What AC_INIT sets. (Autoconf's manual, "Initializing configure")
use Rattle.std.specs.Prelude.{ℕ, ◌||◌, ◌==◌, List, [], ◌∷◌, ◌++◌, codes, if◌then◌else◌}
use Rattle.meaning.specs.State.{State, with_variable, with_definition}

-- A byte within a string literal of C: a quote and a backslash get a backslash before them. (ISO C, "String literals")
abbrev pub escaped_byte : ℕ → List ℕ
escaped_byte b = if b == 34 || b == 92 then 92 ∷ b ∷ [] else b ∷ []

-- A text within a string literal of C. (ISO C, "String literals")
unfoldable pub escaped : List ℕ → List ℕ
escaped [] = []
escaped (b ∷ bs) = escaped_byte b ++ escaped bs

-- A string literal of C. (ISO C, "String literals")
abbrev pub literal : List ℕ → List ℕ
literal text = 34 ∷ (escaped text ++ 34 ∷ [])

-- An output variable of the package, which is a definition too. (Autoconf's manual, "Initializing configure")
abbrev pub with_package : State → List ℕ → List ℕ → State
with_package st name value = with_definition name (literal value) (with_variable name value st)

-- A package's title and version, separated by a space. (Autoconf's manual, "Initializing configure")
abbrev pub package_string : List ℕ → List ℕ → List ℕ
package_string title version = title ++ (32 ∷ version)

-- The six variables and definitions of a package, in this order. (Autoconf's manual, "Initializing configure")
unfoldable pub initialised : List ℕ → List ℕ → List ℕ → List ℕ → List ℕ → State → State
initialised title version bug tarname url st =
    let a = with_package st (codes "PACKAGE_NAME") title in
    let b = with_package a (codes "PACKAGE_TARNAME") tarname in
    let c = with_package b (codes "PACKAGE_VERSION") version in
    let d = with_package c (codes "PACKAGE_STRING") (package_string title version) in
    let e = with_package d (codes "PACKAGE_BUGREPORT") bug in
    with_package e (codes "PACKAGE_URL") url
