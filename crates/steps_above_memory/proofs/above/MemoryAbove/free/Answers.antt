use Rattle.std.proofs.Common.{◌<◌, true, refl, sym, ap, ◌∙◌, subst, arith}
use Rattle.std.specs.Prelude.{unwrap_or}
use Rattle.race_watch.specs.Stands.{AnswersBy}
use Rattle.steps_above_memory.proofs.Freeing.{refused_race, refused_free, taken_free, free_made, null_made}
use Rattle.steps_above_memory.proofs.Tests.{not_both}
use Rattle.steps_above_memory.proofs.above.MemoryAbove.free.Goals as goal

pub returns-then-addr-eq0-clause-made : goal.returns-then-addr-eq0-clause-made
returns-then-addr-eq0-clause-made c = null_made c.args.self.now _ c.args.thread c.args.addr c.if-addr-eq0.true refl c.in_ok-freed.ensures.told

pub returns-in-Err-clause-refused : goal.returns-in-Err-clause-refused
returns-in-Err-clause-refused c =
    refused_race c.args.self.now c.args.thread c.args.addr c.unwrap_or-len.result c.in-Err.error c.by.result (omega arith) c.if-addr-eq0.false (sym c.has.ensures ∙ c.if-has.false)
    (c.unwrap_or-len.ensures ∙ ap (λ o. unwrap_or o 1) c.block.ensures)
    (subst (AnswersBy c.args.self.now.watch c.args.thread (record { addr = c.args.addr; len = c.unwrap_or-len.result }) true) c.in-Err.is c.test.ensures)
    c.by.ensures

pub returns-in-Err-free_in-clause-refused : goal.returns-in-Err-free_in-clause-refused
returns-in-Err-free_in-clause-refused c =
    refused_free c.args.self.now c.args.thread c.args.addr c.unwrap_or-len.result c.in-Err-free_in.refusal c.of-in-Err-free_in.result (omega arith) c.if-addr-eq0.false (sym c.has.ensures ∙ c.if-has.false)
    (c.unwrap_or-len.ensures ∙ ap (λ o. unwrap_or o 1) c.block.ensures)
    (subst (AnswersBy c.args.self.now.watch c.args.thread (record { addr = c.args.addr; len = c.unwrap_or-len.result }) true) c.in_default.is c.test.ensures)
    ((c.free_in.ensures.refused c.in-Err-free_in.refusal).0 c.in-Err-free_in.is).1
    c.of-in-Err-free_in.ensures

pub returns-in_ok-freed-in-Ok-clause-passes : goal.returns-in_ok-freed-in-Ok-clause-passes
returns-in_ok-freed-in-Ok-clause-passes c =
    let some : 0 < c.args.addr = omega (arith, c.if-addr-eq0.false) in
    taken_free c.args.self.now c.args.thread c.args.addr c.unwrap_or-len.result (omega arith) c.if-addr-eq0.false (sym c.has.ensures ∙ c.if-has.false)
    (c.unwrap_or-len.ensures ∙ ap (λ o. unwrap_or o 1) c.block.ensures)
    (subst (AnswersBy c.args.self.now.watch c.args.thread (record { addr = c.args.addr; len = c.unwrap_or-len.result }) true) c.in_default.is c.test.ensures)
    (λ r k. not_both _ _ r c.in-Ok.is ((c.free_in.ensures.refused r).1 (some, k)))

pub returns-in_ok-freed-in-Ok-clause-made : goal.returns-in_ok-freed-in-Ok-clause-made
returns-in_ok-freed-in-Ok-clause-made c =
    let some : 0 < c.args.addr = omega (arith, c.if-addr-eq0.false) in
    free_made c.args.self.now _ c.args.thread c.args.addr c.in-Ok.size c.unwrap_or-len.result (omega arith) c.if-addr-eq0.false (sym c.has.ensures ∙ c.if-has.false)
    (c.unwrap_or-len.ensures ∙ ap (λ o. unwrap_or o 1) c.block.ensures)
    (c.in-Ok.ensures.length some) (c.in-Ok.ensures.freed some) c.in-Ok.ensures.dead c.free_in.ensures.held
    (λ r k. not_both _ _ r c.in-Ok.is ((c.free_in.ensures.refused r).1 (some, k)))
    (subst (AnswersBy c.args.self.now.watch c.args.thread (record { addr = c.args.addr; len = c.unwrap_or-len.result }) true) c.in_default.is c.test.ensures)
    c.in_ok-freed-in-Ok.ensures.told
