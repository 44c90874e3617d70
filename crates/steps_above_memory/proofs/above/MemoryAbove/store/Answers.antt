use Rattle.std.proofs.Common.{true, refl, arith}
use Rattle.steps_above_memory.specs.Refusals.{refusal_of}
use Rattle.steps_above_memory.proofs.Accesses.{store_made, store_refused}
use Rattle.steps_above_memory.proofs.Ranges.{found_at, unraced_refusal}
use Rattle.steps_above_memory.proofs.above.MemoryAbove.store.Goals as goal

pub returns-in-Ok-clause-stored : goal.returns-in-Ok-clause-stored
returns-in-Ok-clause-stored c = λ origin.
    store_made c.args.self.now _ c.args.thread c.args.addr c.args.width c.args.value origin c.requires.in_range (omega arith) (c.in-Ok.ensures.allowed.0 refl) c.in-Ok.ensures.number c.in-Ok.ensures.others c.store.ensures.rest
    (c.has.ensures.free c.if-not-has.false) (c.has.ensures.told c.if-not-has.false)

pub returns-in-Err-clause-refused : goal.returns-in-Err-clause-refused
returns-in-Err-clause-refused c =
    store_refused c.args.self.now c.args.thread c.args.addr c.args.width c.args.value (refusal_of c.in-Err.refusal) c.of.result
    (found_at c.args.self.now c.args.thread true (record { addr = c.args.addr; len = c.args.width }) c.in-Err.refusal (refusal_of c.in-Err.refusal)
    (unraced_refusal c.args.self.now c.args.thread true (record { addr = c.args.addr; len = c.args.width }) (omega arith) c.in-Err.refusal (c.has.ensures.free c.if-not-has.false))
    ((c.store.ensures.refused c.in-Err.refusal).0 c.in-Err.is))
    c.of.ensures
