use Rattle.std.proofs.Common.{◌-◌, arith, length}
use Rattle.crew_journal.proofs.Written.{put_whole}
use Rattle.crew_journal.proofs.pen.Pen.put_text.Goals as goal

pub returns-then-is_whole : goal.returns-then-is_whole
returns-then-is_whole g c = record {
  put = λ first before records it text_is after_is h.
      put_whole first before records (g.F.AnswerFile.texts c.args.self.now.file) (g.F.AnswerFile.texts c.append-is_whole.new.self) c.args.self.now.digest c.args.digest c.args.text.now c.args.self.now.left (c.args.self.now.left - length c.args.text.now) c.args.self.now.is_on it c.requires.on h text_is after_is c.requires.fits
      (omega (arith, c.requires.fits)) (c.append-is_whole.ensures.whole c.if-is_whole.true);
}
