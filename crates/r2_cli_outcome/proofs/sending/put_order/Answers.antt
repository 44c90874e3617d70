use Rattle.std.proofs.Common.{rules, arith, ◌≡◌, [], ◌+◌, ◌++◌, ◌∙◌, ℕ, List, ap, refl}
use Rattle.event_texts.specs.EventTexts.{lines_text}
use Rattle.r2_cli_outcome.proofs.AfterLemmas.{later_then}
use Rattle.r2_cli_outcome.proofs.SendingLemmas.{end_made, later_same, lines_made, more_sent, nothing_put, nothing_sent, refused_sending, rest_sent, stops_sending}
use Rattle.r2_cli_outcome.proofs.sending.put_order.Goals as goal

pub returns-in_err-lines-clause-later : goal.returns-in_err-lines-clause-later
returns-in_err-lines-clause-later g c = later_same _

pub returns-in_err-lines-clause-puts : goal.returns-in_err-lines-clause-puts
returns-in_err-lines-clause-puts g c = nothing_put _ _ _ _ c.from_residual.ensures.1

pub loop-from-init : goal.loop-from-init
loop-from-init g c =
    let empty : c.new-text.result.items ≡ [] = search rules in
    record { sending = nothing_sent _ _ _ _ empty; later = later_same _ }

pub returns-in_err-read_lines-clause-puts : goal.returns-in_err-read_lines-clause-puts
returns-in_err-read_lines-clause-puts g c = stops_sending _ _ _ c.loop-from.text.items _ _ _ c.from_residual-in_err-read_lines.ensures.1 c.loop-from.invariant.sending

pub returns-in_err-put_lines-clause-puts : goal.returns-in_err-put_lines-clause-puts
returns-in_err-put_lines-clause-puts g c = stops_sending _ _ _ c.loop-from.text.items _ _ _ c.from_residual-in_err-put_lines.ensures.1 c.loop-from.invariant.sending

pub returns-in_err-put_long-clause-later : goal.returns-in_err-put_long-clause-later
returns-in_err-put_long-clause-later g c = later_then _ _ _ c.loop-from.invariant.later c.in_err-put_long.ensures.later

pub returns-in_err-put_long-clause-puts : goal.returns-in_err-put_long-clause-puts
returns-in_err-put_long-clause-puts g c =
    refused_sending _ _ _ _ _ c.put_lines.new.text.items _ _ _ c.from_residual-in_err-put_long.ensures.1 c.loop-from.invariant.later
    (lines_made _ c.args.part.now.events _ _ c.loop-from.text.items _ _ c.loop-from.from (c.loop-from.from + c.min.result) c.in_ok-read_lines.ensures c.loop-from.invariant.sending
    (c.in_ok-put_lines.ensures ∙ ap (λ (ls : List (List ℕ)). c.loop-from.text.items ++ lines_text ls) c.deref.ensures.value))
    c.in_err-put_long.ensures.sends

pub loop-from-preserved : goal.loop-from-preserved
loop-from-preserved g c = record {
  sending = more_sent _ _ _ _ c.put_lines.new.text.items _ _ _
      (lines_made _ c.args.part.now.events _ _ c.loop-from.text.items _ _ c.loop-from.from (c.loop-from.from + c.min.result) c.in_ok-read_lines.ensures c.loop-from.invariant.sending
      (c.in_ok-put_lines.ensures ∙ ap (λ (ls : List (List ℕ)). c.loop-from.text.items ++ lines_text ls) c.deref.ensures.value))
      c.in_ok-put_long.ensures.sends;
  later = later_then _ _ _ c.loop-from.invariant.later c.in_ok-put_long.ensures.later;
}

pub returns-in_err-put_end-clause-puts : goal.returns-in_err-put_end-clause-puts
returns-in_err-put_end-clause-puts g c = stops_sending _ _ _ c.loop-from.text.items _ _ _ c.from_residual-in_err-put_end.ensures.1 c.loop-from.invariant.sending

pub returns-clause-later : goal.returns-clause-later
returns-clause-later g c = later_then _ _ _ c.loop-from.invariant.later c.put_piece.ensures.later

pub returns-clause-puts : goal.returns-clause-puts
returns-clause-puts g c =
    rest_sent _ _ _ _ c.put_end.new.text.items [] _ c.deref-2.result.now _ refl c.loop-from.invariant.later
    (end_made _ c.args.part.now.events _ _ c.loop-from.text.items c.put_end.new.text.items c.loop-from.from c.count-count.result
    (omega (arith, c.loop-from-test.false, c.count-count.ensures)) c.count-count.ensures c.loop-from.invariant.sending c.in_ok-put_end.ensures)
    c.deref-2.ensures.value c.put_piece.ensures.puts
