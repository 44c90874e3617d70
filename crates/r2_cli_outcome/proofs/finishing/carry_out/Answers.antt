use Rattle.r2_cli_outcome.proofs.FinishLemmas.{whole_slice, refused_slice}
use Rattle.r2_cli_outcome.proofs.finishing.carry_out.Goals as goal

pub returns-in-Ok-clause-leaves : goal.returns-in-Ok-clause-leaves
returns-in-Ok-clause-leaves g c = whole_slice c.args.plan.now _ _ _ _ _ _ _ _ c.deref.ensures.value c.deref-in-Ok.ensures.value c.in-Ok.ensures.later c.in-Ok.ensures.does c.say.ensures.said

pub returns-in-Err-clause-leaves : goal.returns-in-Err-clause-leaves
returns-in-Err-clause-leaves g c =
    refused_slice c.args.plan.now _ _ _ _ _ _ _ _ _ _ _ c.deref.ensures.value c.in-Err.ensures.later c.say-in-Err.ensures.later c.in-Err.ensures.does c.status_for.ensures c.as_bytes.ensures.value c.line_for.ensures c.say-in-Err.ensures.said
