use Rattle.std.proofs.Common.{◌-◌}
use Rattle.event_texts.specs.EventTexts.{order_text}
use Rattle.r2_cli_outcome.specs.World.{World, Later, world}
use Rattle.r2_cli_outcome.specs.Plans.{target_of}
use Rattle.r2_cli_outcome.specs.Sending.{IsSending}
use Rattle.r2_cli_outcome.proofs.SendingLemmas.{left_over}
use Rattle.r2_cli_outcome.proofs.sending.put_order.Given as goal

abbrev pub invariant-loop-from : goal.invariant-loop-from
invariant-loop-from g l =
    let F = g.F.Files in
    let S = g.S.Sink in
    let E = g.E.Sink in
    let a : World = world (F.seen l.fn.files) (S.seen l.fn.out) (E.seen l.fn.err) in
    let b : World = world (F.seen l.files) (S.seen l.out) (E.seen l.err) in
    record {
      sending : IsSending (target_of l.to) a b l.text.items (left_over l.part.events l.from) (order_text l.part.events);
      later : Later a b;
    }

abbrev pub decreases-loop-from : goal.decreases-loop-from
decreases-loop-from g l = l.count - l.from
