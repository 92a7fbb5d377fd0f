-- What two runs report and hand over, if their replies are the same.
use Rattle.std.proofs.Common.{◌≡◌, ap, sym, ◌∙◌}
use Rattle.meaning.specs.Meaning.{meaning}
use Rattle.meaning.specs.Play.{whole}
use Rattle.meaning.specs.State.{opened}
use Rattle.proberun.specs.Agreeing.{RunsAgree}
use Rattle.engine.specs.Agreeing.{ConfiguresAgree}
use Rattle.engine.specs.Configured.{report_of, artifacts}
use Rattle.engine_frame.specs.declared.report.Report.{Report}

pub configures_agree : RunsAgree → ConfiguresAgree
configures_agree law script start window other_window before now other_before other_now report other_report one other g =
    let same = law (whole (meaning script (opened start.vars))) window other_window before now other_before other_now one.end other.end one.ran other.ran g in
    let counted : Report → Report = λ r. record r { handed = other_report.handed } in
    let reports : counted report ≡ other_report =
    ap counted one.told ∙ ap (λ e. report_of start e other_report.handed) same.1 ∙ sym other.told in (
      same.0,
      reports,
      λ templates. ap (artifacts script start templates) reports,
      same.2,
      same.3,
    )
