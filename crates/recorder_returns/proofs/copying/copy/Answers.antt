use Rattle.std.proofs.Common.{ℕ, false, Err, sym, ap, ◌∙◌, subst}
use Rattle.marks.specs.Ranges.{are_bytes}
use Rattle.space_memory_access.specs.Accesses.{IsAllowed}
use Rattle.whole_runs_memory.specs.Refusals.{access_below}
use Rattle.recorder_returns.proofs.Copied.{copy_is, not_refused}
use Rattle.recorder_returns.proofs.copying.copy.Goals as goal

pub returns-in-Ok : goal.returns-in-Ok
returns-in-Ok c = copy_is c.args.spaces.now.bytes c.args.region c.args.used c.used_in.result c.in-Ok.bytes c.from.result c.used_in.ensures c.in-Ok.ensures.len c.in-Ok.ensures.bytes
    (ap are_bytes (sym c.as_slice.ensures) ∙ c.check.ensures) (c.from.ensures ∙ c.into_vec.ensures)

pub unreachable-requires : goal.unreachable-requires
unreachable-requires c =
    let allowed : IsAllowed c.args.spaces.now.bytes c.args.spaces.now.held.regions (access_below c.args.thread false (record { addr = c.args.region.addr; len = c.used_in.result })) =
    subst (λ (n : ℕ). IsAllowed c.args.spaces.now.bytes c.args.spaces.now.held.regions (access_below c.args.thread false (record { addr = c.args.region.addr; len = n }))) (sym c.used_in.ensures) c.requires in
    not_refused c.args.spaces.now.bytes c.args.spaces.now.held.regions _ c.in-Err-Refused.field-0-0 allowed
    ((c.copy.ensures.refused c.in-Err-Refused.field-0-0).0 (c.in-Err-Refused.is ∙ ap Err c.in-Err-Refused.field-0-is))
