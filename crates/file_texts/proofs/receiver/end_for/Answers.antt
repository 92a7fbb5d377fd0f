use Rattle.std.proofs.Common.{IfOk, IfSome, sym, subst, refl, string_bytes}
use Rattle.std.specs.Prelude.{option_map}
use Rattle.file_texts.specs.Done.{IsEnd}
use Rattle.file_texts.specs.Keeping.{file_of}
use Rattle.file_texts.proofs.Puts.{ends_as}
use Rattle.file_texts.proofs.receiver.end_for.Goals as goal

pub returns-in-Cache : goal.returns-in-Cache
returns-in-Cache g c =
    let known = g.D.Disk.known c.args.disk.now in
    subst (λ q. IfOk c.end_of.result (λ o. IfSome known (λ k. IsEnd k c.args.name.now q (file_of (option_map string_bytes o) c.args.name.now)))) (sym c.in-Cache.is) c.end_of.ensures

pub returns-in-Record : goal.returns-in-Record
returns-in-Record g c = ends_as _ c.args.name.now c.args.kind _ c.in-Record.is (λ k. refl)

pub returns-in-File : goal.returns-in-File
returns-in-File g c = ends_as _ c.args.name.now c.args.kind _ c.in-File.is (λ k. refl)

pub returns-in-Header : goal.returns-in-Header
returns-in-Header g c = ends_as _ c.args.name.now c.args.kind _ c.in-Header.is (λ k. refl)
