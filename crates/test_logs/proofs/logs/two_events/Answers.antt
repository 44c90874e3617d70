use Rattle.test_logs.proofs.Chunks.{fits}
use Rattle.test_logs.proofs.logs.two_events.Goals as goal

pub returns : goal.returns
returns c =
    fits _ _ _ c.event_record-begins.result c.event_record-returns.result c.new-args.result
    c.new-records.ensures.items c.in_ok-push.ensures.items c.in_ok-push-2.ensures.items c.event_record-begins.ensures c.event_record-returns.ensures c.new-args.ensures
