-- The law for whole runs.
use Rattle.std.proofs.Common.{None, sym, ap, ◌∙◌}
use Rattle.cachefile.specs.Text.{saved_value}
use Rattle.deftable.specs.Table.{value_of}
use Rattle.meaning.specs.Meaning.{meaning}
use Rattle.meaning_resumption.specs.Poured.{poured}
use Rattle.meaning_resumption.specs.Joint.{joint, joint_replies}
use Rattle.meaning_resumption.specs.Plays.{WholeRunsResume}
use Rattle.meaning_resumption.proofs.Whole.{resumes}
use Rattle.meaning_laws.proofs.Plays.{same_end, enough_of, none_left, as_many}
use Rattle.meaning_laws.proofs.Refusals.{cuts_at_refusals}

pub whole_runs_resume : WholeRunsResume
whole_runs_resume script before second replies again h =
    let joined = joint_replies (joint script (record { first = before; replies = replies; second = second; again = again })) in
    let first = same_end (meaning script before) 0 None replies in
    let last = same_end (meaning script second) 0 None again in
    let both = same_end (meaning script before) 0 None joined in
    let law = resumes script before second replies again
    (record {
      resumable = h.resumable;
      commands = h.commands;
      names = h.names;
      alone = h.alone;
      cut = sym first.how ∙ h.cut;
      enough = enough_of (meaning script before) 0 None replies h.enough;
      poured = record {
        defs = h.poured.defs;
        value = λ n. h.poured.value n ∙ ap (λ l. poured (saved_value n (value_of l n)) (value_of before.vars n)) first.vars;
      };
      uncut = λ c. h.uncut (last.how ∙ c);
      enough_again = enough_of (meaning script second) 0 None again h.enough_again;
      same = h.same;
    }) in
    let ends = law.ends in
    let how = both.how ∙ ends.how ∙ sym last.how in
    let enough = as_many (meaning script before) 0 None joined law.enough (ends.left ∙ none_left (meaning script second) 0 None again h.enough_again) in
    record {
      enough = enough;
      answered = (cuts_at_refusals script before joined enough).uncut (λ c. h.uncut (sym how ∙ c));
      ends = record {
        how = how;
        defs = both.defs ∙ ends.defs ∙ sym last.defs;
        value = λ n. ap (λ l. value_of l n) both.vars ∙ ends.value n ∙ sym (ap (λ l. value_of l n) last.vars);
      };
    }
