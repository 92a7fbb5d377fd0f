use Rattle.std.proofs.Common.{◌≡◌, List, ◌∙◌, sym, ap, subst, map}
use Rattle.shellword.specs.declared.pattern.Piece.{Piece}
use Rattle.shellword.specs.declared.pattern.Piece.TheVariants.{Byte}
use Rattle.shell_case.specs.Parts.{IsFirstPlace}
use Rattle.shell_case.proofs.Counting.{all_bytes}
use Rattle.shell_case.proofs.Finding.{found_bytes}
use Rattle.shell_case.proofs.places.place_of_bytes.Goals as goal

pub returns : goal.returns
returns c =
    let pieces = c.args.pieces.now in
    let bytes = c.deref.ensures.value ∙ c.in_ok-bytes.ensures.bytes in
    let same : map Byte c.deref.result.now ≡ pieces = ap (map Byte) bytes ∙ sym (all_bytes pieces c.requires.single c.requires.bytes) in
    subst (λ (ps : List Piece). IsFirstPlace ps c.args.text.now c.find.result) same (found_bytes c.args.text.now c.deref.result.now c.find.result c.find.ensures)
