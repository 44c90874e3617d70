use Rattle.call_inspector.specs.ReportText.{report_text}
use Rattle.r2_cli_outcome.specs.World.{World, Later, world}
use Rattle.r2_cli_outcome.specs.Plans.{target_of}
use Rattle.r2_cli_outcome.specs.Sending.{IsSending}
use Rattle.r2_cli_outcome.proofs.sending.put_report.Given as goal

abbrev pub invariant-loop-parts : goal.invariant-loop-parts
invariant-loop-parts g l =
    let F = g.F.Files in
    let S = g.S.Sink in
    let E = g.E.Sink in
    let a : World = world (F.seen l.fn.files) (S.seen l.fn.out) (E.seen l.fn.err) in
    let b : World = world (F.seen l.files) (S.seen l.out) (E.seen l.err) in
    record {
      sending : IsSending (target_of l.to) a b l.text.items l.parts.text (report_text l.ran.run l.ran.code);
      later : Later a b;
    }

abbrev pub decreases-loop-parts : goal.decreases-loop-parts
decreases-loop-parts g l = l.parts.most
