use Rattle.std.proofs.Common.{arith, ◌<◌, length}
use Rattle.log_closure.specs.Events.{LogEvent}
use Rattle.r2_cli_outcome.proofs.SendingLemmas.{line_read, event_of_parts}
use Rattle.r2_cli_outcome.proofs.sending.read_lines.Goals as goal

pub loop-place-preserved : goal.loop-place-preserved
loop-place-preserved c =
    let d : LogEvent = record { name = c.name.result; entry = c.record.result.now } in
    let within : c.loop-place.place < length c.args.part.now.events = omega (arith, c.loop-place-test.true, c.requires.within) in
    line_read c.args.part.now.events c.args.from c.loop-place.place d c.loop-place.lines.items c.push.new.self.items c.of.result within
    (event_of_parts c.args.part.now.events c.loop-place.place d (c.name.ensures d) (c.record.ensures d)) c.in_ok-push.ensures.items c.of.ensures c.loop-place.invariant
