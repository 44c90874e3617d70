use Rattle.std.proofs.Common.{true, refl, subst, arith}
use Rattle.race_watch.specs.Stands.{AnswersBy}
use Rattle.steps_above_memory.specs.Refusals.{refusal_by}
use Rattle.steps_above_memory.proofs.Accesses.{store_made, store_refused}
use Rattle.steps_above_memory.proofs.Ranges.{found_at, raced_alone}
use Rattle.steps_above_memory.proofs.above.MemoryAbove.store_anew.Goals as goal

pub returns-in-Err-clause-refused : goal.returns-in-Err-clause-refused
returns-in-Err-clause-refused c =
    store_refused c.args.self.now c.args.thread c.args.addr c.args.width c.args.value c.found.result c.found.result
    (found_at c.args.self.now c.args.thread true (record { addr = c.args.addr; len = c.args.width }) c.in-Err.refusal c.found.result c.found.ensures c.in-Err.ensures.refused)
    refl

pub returns-in-Err-access_unseen-clause-refused : goal.returns-in-Err-access_unseen-clause-refused
returns-in-Err-access_unseen-clause-refused c =
    store_refused c.args.self.now c.args.thread c.args.addr c.args.width c.args.value (refusal_by c.in-Err-access_unseen.error) c.by.result
    (raced_alone c.args.self.now c.args.thread true (record { addr = c.args.addr; len = c.args.width }) (omega arith) c.in-Err-access_unseen.error c.in_default.ensures.allowed
    (subst (AnswersBy c.args.self.now.watch c.args.thread (record { addr = c.args.addr; len = c.args.width }) true) c.in-Err-access_unseen.is c.access_unseen.ensures.answers))
    c.by.ensures

pub returns-clause-stored : goal.returns-clause-stored
returns-clause-stored c = λ origin.
    store_made c.args.self.now _ c.args.thread c.args.addr c.args.width c.args.value origin c.requires.in_range (omega arith) c.in_default.ensures.allowed c.in-Ok.ensures.number c.in-Ok.ensures.others c.store.ensures.rest
    (subst (AnswersBy c.args.self.now.watch c.args.thread (record { addr = c.args.addr; len = c.args.width }) true) c.in_default-access_unseen.is c.access_unseen.ensures.answers)
    c.in_default-access_unseen.ensures.told
