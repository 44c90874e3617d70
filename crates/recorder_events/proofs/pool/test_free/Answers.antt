use Rattle.std.proofs.Common.{true, Err, refl, sym, ap, ◌∙◌, subst, arith}
use Rattle.std.specs.Prelude.{unwrap_or}
use Rattle.race_watch.specs.Stands.{AnswersBy}
use Rattle.space_memory_access.specs.declared.refusal.Refusal.TheVariants.{NotLive}
use Rattle.steps_above_memory.proofs.Freeing.{refused_race, refused_free}
use Rattle.whole_runs.specs.World.{program_of}
use Rattle.whole_runs.specs.Sides.{seen}
use Rattle.recorder_memory.specs.Stands.{placed}
use Rattle.marks.specs.declared.side.Side.TheVariants.{Replay}
use Rattle.marks.specs.Wants.{Frees}
use Rattle.recorder_memory.specs.Steps.{Refuses}
use Rattle.recorder_events.proofs.FreeTests.{has_block, passes, refuses_held}
use Rattle.recorder_events.proofs.pool.test_free.Goals as goal

pub returns-in-Err-clause-refused : goal.returns-in-Err-clause-refused
returns-in-Err-clause-refused c = λ w past to.
    refused_race c.args.memory.now.above c.args.thread c.args.addr c.unwrap_or-len.result c.in-Err.error c.refused_by.result (omega arith) c.if-addr-eq0.false (sym c.has.ensures ∙ c.if-has.false)
    (c.unwrap_or-len.ensures ∙ ap (λ o. unwrap_or o 1) c.block-block.ensures)
    (subst (AnswersBy c.args.memory.now.above.watch c.args.thread (record { addr = c.args.addr; len = c.unwrap_or-len.result }) true) c.in-Err.is c.test.ensures)
    c.refused_by.ensures (program_of w) (placed w) (seen past) to.stands.above to.modes

pub returns-in_default-block-clause-refused : goal.returns-in_default-block-clause-refused
returns-in_default-block-clause-refused c = λ w past to.
    let none = sym c.block-block.ensures ∙ c.in_default-block.is in
    refused_free c.args.memory.now.above c.args.thread c.args.addr c.unwrap_or-len.result (NotLive c.args.addr) c.of-in_default-block.result (omega arith) c.if-addr-eq0.false (sym c.has.ensures ∙ c.if-has.false)
    (c.unwrap_or-len.ensures ∙ ap (λ o. unwrap_or o 1) c.block-block.ensures)
    (subst (AnswersBy c.args.memory.now.above.watch c.args.thread (record { addr = c.args.addr; len = c.unwrap_or-len.result }) true) c.in_default.is c.test.ensures)
    (sym c.has.ensures ∙ c.if-has.false, none, refl) c.of-in_default-block.ensures (program_of w) (placed w) (seen past) to.stands.above to.modes

pub returns-in-Err-copy-clause-refused : goal.returns-in-Err-copy-clause-refused
returns-in-Err-copy-clause-refused c =
    subst (Refuses c.args.memory.now c.args.thread Replay (Frees c.args.addr)) (sym c.not_read.ensures)
    (refuses_held c.args.memory.now c.args.thread c.args.addr c.in-Some.size c.unwrap_or-len.result (omega arith) c.if-addr-eq0.false (sym c.has.ensures ∙ c.if-has.false)
    (sym c.block-block.ensures ∙ c.in-Some.is)
    (c.unwrap_or-len.ensures ∙ ap (λ o. unwrap_or o 1) c.block-block.ensures)
    (subst (AnswersBy c.args.memory.now.above.watch c.args.thread (record { addr = c.args.addr; len = c.unwrap_or-len.result }) true) c.in_default.is c.test.ensures)
    c.in-Err-copy.error (λ r e. (c.copy.ensures.refused r).0 (c.in-Err-copy.is ∙ ap Err e)))

pub returns-clause-passes : goal.returns-clause-passes
returns-clause-passes c =
    passes c.args.memory.now c.args.thread c.args.addr c.in-Some.size c.unwrap_or-len.result (omega arith) c.if-addr-eq0.false (sym c.has.ensures ∙ c.if-has.false)
    (sym c.block-block.ensures ∙ c.in-Some.is)
    (c.unwrap_or-len.ensures ∙ ap (λ o. unwrap_or o 1) c.block-block.ensures)
    (subst (AnswersBy c.args.memory.now.above.watch c.args.thread (record { addr = c.args.addr; len = c.unwrap_or-len.result }) true) c.in_default.is c.test.ensures)
    c.in_default-copy.ensures.allowed

pub returns-clause-block : goal.returns-clause-block
returns-clause-block c =
    has_block c.args.memory.now c.args.thread c.args.addr c.in-Some.size c.if-addr-eq0.false (sym c.block-block.ensures ∙ c.in-Some.is)
    (passes c.args.memory.now c.args.thread c.args.addr c.in-Some.size c.unwrap_or-len.result (omega arith) c.if-addr-eq0.false (sym c.has.ensures ∙ c.if-has.false)
    (sym c.block-block.ensures ∙ c.in-Some.is)
    (c.unwrap_or-len.ensures ∙ ap (λ o. unwrap_or o 1) c.block-block.ensures)
    (subst (AnswersBy c.args.memory.now.above.watch c.args.thread (record { addr = c.args.addr; len = c.unwrap_or-len.result }) true) c.in_default.is c.test.ensures)
    c.in_default-copy.ensures.allowed)
