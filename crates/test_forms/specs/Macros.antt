-- The form of each macro's test.
use Rattle.std.specs.Prelude.{ℕ, Bool, true, false, List, [], ◌∷◌, ◌++◌, codes, map}
use Rattle.test_forms.specs.declared.form.Snippet.TheVariants.{Header, Function, Library, Body}
use Rattle.test_forms.specs.declared.form.TryForm.{TryForm}
use Rattle.test_forms.specs.declared.form.Says.TheVariants.{Yes, AllButNo}
use Rattle.test_forms.specs.declared.form.Gives.{Gives}
use Rattle.test_forms.specs.declared.form.Gives.TheVariants.{Nothing, Have, HaveOrNot, AddsLibrary, AddsValue}
use Rattle.test_forms.specs.declared.forms.FormKind.{FormKind}
use Rattle.test_forms.specs.declared.forms.FormKind.TheVariants as kinds
use Rattle.test_forms.specs.Form.{TestForm}
pub use Rattle.test_forms.specs.Tries.{linked_try}

-- What a test gives, if it gives anything. (own)
abbrev pub given_if : Bool → Gives → Gives
given_if true gives = gives
given_if false gives = Nothing

-- A program that includes the header is compiled. `HAVE_` and the header is defined if it is found. (Autoconf's manual,
-- "Generic Headers")
abbrev pub header_form : List ℕ → Bool → TestForm
header_form header defines = record {
  entry = header;
  key = codes "header_" ++ header;
  message = codes "for " ++ header;
  tries = record { snippet = Header; ends_on = true; value = codes "yes" } ∷ [];
  otherwise = codes "no";
  says = Yes;
  gives = given_if defines (Have header);
}

-- A program that calls the function is linked. `HAVE_` and the function is defined if it is found. (Autoconf's manual,
-- "Generic Functions")
abbrev pub function_form : List ℕ → Bool → TestForm
function_form function defines = record {
  entry = function;
  key = codes "func_" ++ function;
  message = codes "for " ++ function;
  tries = record { snippet = Function; ends_on = true; value = codes "yes" } ∷ [];
  otherwise = codes "no";
  says = Yes;
  gives = given_if defines (Have function);
}

-- The program that uses a name unless it is a macro. (Autoconf's manual, "Generic Declarations")
abbrev pub declared_body : List ℕ → List ℕ
declared_body name = codes "#ifndef " ++ name ++ codes "\n  (void) " ++ name ++ codes ";\n#endif"

-- Its try. (own)
abbrev pub declared_try : List ℕ → TryForm
declared_try name = record { snippet = Body (declared_body name); ends_on = true; value = codes "yes" }

-- A program that uses the name is compiled. `HAVE_DECL_` and the name is defined, as 1 if it is found and as 0 if it isn't.
-- (Autoconf's manual, "Generic Declarations")
abbrev pub declaration_form : List ℕ → Bool → TestForm
declaration_form name defines = record {
  entry = name;
  key = codes "have_decl_" ++ name;
  message = codes "whether " ++ name ++ codes " is declared";
  tries = declared_try name ∷ [];
  otherwise = codes "no";
  says = Yes;
  gives = given_if defines (HaveOrNot (codes "DECL_" ++ name));
}

-- A program takes the size of a name, between these texts; the value is `no`. (own)
abbrev pub sized_try : List ℕ → List ℕ → List ℕ → Bool → TryForm
sized_try before name after ends_on = record { snippet = Body (before ++ name ++ after); ends_on = ends_on; value = codes "no" }

-- A type has a size, and has none in parentheses, as a value would. (Autoconf's manual, "Generic Types")
abbrev pub type_tries : List ℕ → List TryForm
type_tries name =
    sized_try (codes "if (sizeof (") name (codes ")) return 0;") false ∷ sized_try (codes "if (sizeof ((") name (codes "))) return 0;") true ∷ []

-- A type is found unless one of these ends the test. `HAVE_` and the type is defined if it is found. (Autoconf's manual,
-- "Generic Types")
abbrev pub type_form : List ℕ → Bool → TestForm
type_form name defines = record {
  entry = name;
  key = codes "type_" ++ name;
  message = codes "for " ++ name;
  tries = type_tries name;
  otherwise = codes "yes";
  says = Yes;
  gives = given_if defines (Have name);
}

-- A function is linked with a library. If it is found, `HAVE_LIB` and the library is defined, and LIBS gets the library.
-- (Autoconf's manual, "Library Files")
abbrev pub library_form : List ℕ → List ℕ → Bool → TestForm
library_form library function adds = record {
  entry = function;
  key = codes "lib_" ++ library ++ codes "_" ++ function;
  message = codes "for " ++ function ++ codes " in -l" ++ library;
  tries = record { snippet = Library library; ends_on = true; value = codes "yes" } ∷ [];
  otherwise = codes "no";
  says = Yes;
  gives = given_if adds (AddsLibrary library);
}

-- It is linked with no further library, and then with each of these. (Autoconf's manual, "Library Files")
abbrev pub search_tries : List (List ℕ) → List TryForm
search_tries libraries = record { snippet = Function; ends_on = true; value = codes "none required" } ∷ map linked_try libraries

-- LIBS gets the first library that has a function, unless none is needed. (Autoconf's manual, "Library Files")
abbrev pub search_form : List ℕ → List (List ℕ) → TestForm
search_form function libraries = record {
  entry = function;
  key = codes "search_" ++ function;
  message = codes "for library containing " ++ function;
  tries = search_tries libraries;
  otherwise = codes "no";
  says = AllButNo;
  gives = AddsValue;
}

-- The form of a macro's test, which looks for this and may define a name or add a library. (own)
abbrev pub form_of : FormKind → List ℕ → Bool → TestForm
form_of kinds.Header entry gives = header_form entry gives
form_of kinds.Function entry gives = function_form entry gives
form_of kinds.Declaration entry gives = declaration_form entry gives
form_of kinds.«Type» entry gives = type_form entry gives
form_of (kinds.Library library) entry gives = library_form library entry gives
form_of (kinds.Search libraries) entry gives = search_form entry libraries
