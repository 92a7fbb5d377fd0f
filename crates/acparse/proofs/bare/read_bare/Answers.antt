use Rattle.acparse.proofs.Texts.{idle_adds, before_open, ended_open}
use Rattle.acparse.proofs.bare.read_bare.Goals as goal

pub returns-in-Before : goal.returns-in-Before
returns-in-Before c = idle_adds _ _ _ _ _ c.check_idle.result (before_open _ c.in-Before.is) c.check_idle.ensures

pub returns-in-Ended : goal.returns-in-Ended
returns-in-Ended c = idle_adds _ _ _ _ _ c.check_idle-in-Ended.result (ended_open _ c.in-Ended.is) c.check_idle-in-Ended.ensures
