-- The pieces of a pattern that the parts of a word form.
use Rattle.std.specs.Prelude.{◌||◌, List, [], ◌∷◌, Option, Some, None, ◌==◌, if◌then◌else◌}
use Rattle.shellword.specs.declared.part.Part.{Part}
use Rattle.shellword.specs.declared.part.Part.TheVariants.{Plain, Quoted, Variable}
use Rattle.shellword.specs.declared.pattern.Piece.{Piece}
use Rattle.shellword.specs.declared.pattern.Piece.TheVariants.{AnyBytes, OneByte, Byte}

-- The piece of a pattern that a part of a word forms. Unless they are quoted, `*` is any bytes, `?` is one byte, and a
-- bracket is no piece. A variable is no piece either. (POSIX shell, 2.14; what is no piece is own)
abbrev pub piece_of : Part → Option Piece
piece_of (Plain b) =
    if b == 42 then Some AnyBytes
    else (if b == 63 then Some OneByte
    else (if b == 91 || b == 93 then None else Some (Byte b)))
piece_of (Quoted b) = Some (Byte b)
piece_of (Variable name) = None

-- A piece before others, if all of them are pieces. (own)
abbrev pub with_piece : Option Piece → Option (List Piece) → Option (List Piece)
with_piece (Some p) (Some ps) = Some (p ∷ ps)
with_piece p ps = None

-- The pieces that all parts of a word form, if each forms one. (own)
abbrev pub pieces_of : List Part → Option (List Piece)
pieces_of [] = Some []
pieces_of (part ∷ parts) = with_piece (piece_of part) (pieces_of parts)
