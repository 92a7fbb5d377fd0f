use Rattle.header_template.proofs.Held.{found_description, no_description}
use Rattle.header_template.proofs.table.description_in.Goals as goal

pub returns-in-Some : goal.returns-in-Some
returns-in-Some c = found_description c.args.table.now.entries c.args.name.now c.get.result c.in-Some.description _ c.get.ensures.value c.in-Some.is c.as_slice.ensures.value

pub returns-in-None : goal.returns-in-None
returns-in-None c = no_description c.args.table.now.entries c.args.name.now c.get.result c.get.ensures.value c.in-None.is
