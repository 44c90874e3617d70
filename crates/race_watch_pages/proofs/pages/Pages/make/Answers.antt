use Rattle.std.proofs.Common.{◌∙◌, arith}
use Rattle.race_watch_pages.proofs.Ready.{ready_more}
use Rattle.race_watch_pages.proofs.pages.Pages.make.Goals as goal

pub loop-at-preserved : goal.loop-at-preserved
loop-at-preserved c =
    let h = c.loop-at.invariant in
    record {
      low = omega arith;
      high = omega arith;
      size = c.make_part.ensures.size ∙ h.size;
      same = λ k. c.make_part.ensures.same k ∙ h.same k;
      ready = ready_more c.loop-at.self c.make_part.new.self c.args.from c.loop-at.at c.min-stop.result h.low (omega arith) c.make_part.ensures.stays c.make_part.ensures.split h.ready c.in_ok-make_part.ensures.ready;
      stays = λ p k. c.make_part.ensures.stays p (h.stays p k);
      split = λ p k. c.make_part.ensures.split p (h.split p k);
    }
