-- What a receiver says of an artifact.
use Rattle.std.specs.Prelude.{ℕ, Bool, true, false, List, []}
use Rattle.output_put.specs.declared.artifact.Kind.{Kind}
use Rattle.output_put.specs.declared.artifact.Kind.TheVariants.{Cache, Record, File, Header}
use Rattle.file_texts.specs.declared.lines.Saying.{Saying}
use Rattle.file_texts.specs.declared.lines.Saying.TheVariants.{Nothing, Creating, Unchanged}
use Rattle.file_texts.specs.Lines.{creating_line, unchanged_line}

-- What is said of a header, if its file is left as it is or not. (own)
abbrev pub saying_of_header : Bool → Saying
saying_of_header true = Unchanged
saying_of_header false = Creating

-- What is said of an artifact of this kind, if its file is left as it is or not. (own)
abbrev pub saying_of : Kind → Bool → Saying
saying_of Cache left = Nothing
saying_of Record left = Nothing
saying_of File left = Creating
saying_of Header left = saying_of_header left

-- What is said of an artifact with this name. (own)
abbrev pub said : Saying → List ℕ → List ℕ
said Nothing name = []
said Creating name = creating_line name
said Unchanged name = unchanged_line name
