use Rattle.port_breaks.proofs.breaks.break_of.Goals as goal

pub returns : goal.returns
returns c = record { indent = c.indent_at-indent.result.now; may = c.requires; blank = c.indent_at-indent.ensures; is = c.in_ok-put.ensures }
