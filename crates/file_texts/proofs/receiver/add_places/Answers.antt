use Rattle.std.proofs.Common.{IfSome, sym, ap, subst, string_bytes}
use Rattle.std.specs.Prelude.{option_map}
use Rattle.file_texts.specs.Keeping.{file_of}
use Rattle.file_texts.specs.Places.{ArePlaced}
use Rattle.file_texts.proofs.Placed.{placed_alone}
use Rattle.file_texts.proofs.Writings.{ok_then}
use Rattle.file_texts.proofs.receiver.add_places.Goals as goal

pub returns-in-None-clause-placed : goal.returns-in-None-clause-placed
returns-in-None-clause-placed g c =
    let known = g.D.Disk.known c.args.disk.now in
    let name = c.args.name.now in
    let new = c.add_place.new.places in
    ok_then c.add_place.result c.add_place.ensures.added
    (λ s. subst (λ f. IfSome known (λ k. ArePlaced k c.args.guards.now c.args.places.now new name f))
    (sym (ap (λ o. file_of (option_map string_bytes o) name) c.in-None.is)) (placed_alone known _ _ new name s))
