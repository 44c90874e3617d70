use Rattle.r2_cli_outcome.proofs.AfterLemmas.{later_then}
use Rattle.r2_cli_outcome.proofs.SendingLemmas.{more_made, more_sent, refused_sending, rest_sent, stops_sending}
use Rattle.r2_cli_outcome.proofs.sending.put_report.Goals as goal

pub returns-in_err-put_next-clause-puts : goal.returns-in_err-put_next-clause-puts
returns-in_err-put_next-clause-puts g c = stops_sending _ _ _ c.loop-parts.text.items c.loop-parts.parts.text _ _ c.from_residual.ensures.1 c.loop-parts.invariant.sending

pub loop-parts-preserved : goal.loop-parts-preserved
loop-parts-preserved g c = record {
  sending = more_sent _ _ _ _ c.put_next.new.text.items _ c.put_next.new.self.text _
      (more_made _ _ _ _ _ _ _ _ c.loop-parts.invariant.sending c.in_ok-put_next.ensures.text) c.in_ok-put_long.ensures.sends;
  later = later_then _ _ _ c.loop-parts.invariant.later c.in_ok-put_long.ensures.later;
}

pub returns-in_err-put_long-clause-puts : goal.returns-in_err-put_long-clause-puts
returns-in_err-put_long-clause-puts g c = refused_sending _ _ _ _ _ c.put_next.new.text.items c.put_next.new.self.text _ _ c.from_residual-in_err-put_long.ensures.1 c.loop-parts.invariant.later
    (more_made _ _ _ _ _ _ _ _ c.loop-parts.invariant.sending c.in_ok-put_next.ensures.text) c.in_err-put_long.ensures.sends

pub returns-clause-puts : goal.returns-clause-puts
returns-clause-puts g c = rest_sent _ _ _ _ c.put_next.new.text.items c.put_next.new.self.text _ c.deref.result.now _ (c.in_ok-put_next.ensures.end c.if-branch.false) c.loop-parts.invariant.later
    (more_made _ _ _ _ _ _ _ _ c.loop-parts.invariant.sending c.in_ok-put_next.ensures.text) c.deref.ensures.value c.put_piece.ensures.puts
