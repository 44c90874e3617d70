use Rattle.std.proofs.Common.{arith}
use Rattle.std.proofs.lemmas.Grind.{common_steps}
use Rattle.run_events.proofs.Written.{words_more}
use Rattle.run_events.proofs.tickets.blank_marks.Goals as goal

pub loop-key-preserved : goal.loop-key-preserved
loop-key-preserved c = record {
  made = grind (arith, common_steps);
  words = words_more c.loop-key.marks.items c.push.new.self.items _ c.loop-key.invariant.words c.in_ok-push.ensures.items c.blank_mark.ensures.word;
}
