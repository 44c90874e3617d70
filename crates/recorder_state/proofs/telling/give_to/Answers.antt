use Rattle.std.proofs.Common.{◌≡◌, length, sym, ap, ◌∙◌, arith}
use Rattle.c_machine.specs.Positions.{laid}
use Rattle.recorder_state.proofs.Results.{goes_plainly, inside_then, starts_so, takes_two, there, there_then}
use Rattle.recorder_state.proofs.telling.give_to.Goals as goal

pub args-args-requires : goal.args-args-requires
args-args-requires c = there (laid c.args.inputs.code.now c.args.inputs.placed.now) c.args.threads.now c.args.thread c.args.func c.args.value c.requires

pub bounds-args-0 : goal.bounds-args-0
bounds-args-0 c =
    let two = takes_two (laid c.args.inputs.code.now c.args.inputs.placed.now) c.args.threads.now c.args.thread c.args.func c.args.value c.requires (sym c.is_start.ensures ∙ c.if-is_start.true) in
    let long : length c.args-args.result.now ≡ 2 = ap length (c.args-args.ensures ∙ two) in
    omega (arith, long)

pub bounds-args-1 : goal.bounds-args-1
bounds-args-1 c =
    let two = takes_two (laid c.args.inputs.code.now c.args.inputs.placed.now) c.args.threads.now c.args.thread c.args.func c.args.value c.requires (sym c.is_start.ensures ∙ c.if-is_start.true) in
    let long : length c.args-args.result.now ≡ 2 = ap length (c.args-args.ensures ∙ two) in
    omega (arith, long)

pub start-requires : goal.start-requires
start-requires c = starts_so (laid c.args.inputs.code.now c.args.inputs.placed.now) c.args.threads.now c.args.thread c.args.func c.args.value c.requires (sym c.is_start.ensures ∙ c.if-is_start.true) c.args-args.result.now c.args-args.ensures

pub want-requires-clause-started : goal.want-requires-clause-started
want-requires-clause-started c =
    let l = laid c.args.inputs.code.now c.args.inputs.placed.now in
    let starts = sym c.is_start.ensures ∙ c.if-is_start.true in
    there_then l c.args.threads.now c.args.thread c.args.func c.args.value c.requires c.start.new.self
    (c.in_ok-start.ensures.started (starts_so l c.args.threads.now c.args.thread c.args.func c.args.value c.requires starts c.args-args.result.now c.args-args.ensures))

pub want-requires-clause-inside : goal.want-requires-clause-inside
want-requires-clause-inside c =
    let l = laid c.args.inputs.code.now c.args.inputs.placed.now in
    let starts = sym c.is_start.ensures ∙ c.if-is_start.true in
    inside_then l c.args.threads.now c.args.thread c.args.func c.args.value c.requires c.start.new.self
    (c.in_ok-start.ensures.started (starts_so l c.args.threads.now c.args.thread c.args.func c.args.value c.requires starts c.args-args.result.now c.args-args.ensures))

pub returns-then-is_start-clause-stand : goal.returns-then-is_start-clause-stand
returns-then-is_start-clause-stand c =
    let l = laid c.args.inputs.code.now c.args.inputs.placed.now in
    let starts = sym c.is_start.ensures ∙ c.if-is_start.true in
    λ a. c.in_ok-start.ensures.started (starts_so l c.args.threads.now c.args.thread c.args.func c.args.value a starts c.args-args.result.now c.args-args.ensures)

pub returns-then-is_start-clause-next : goal.returns-then-is_start-clause-next
returns-then-is_start-clause-next c = c.want.ensures

pub next_after-requires-clause-plain : goal.next_after-requires-clause-plain
next_after-requires-clause-plain c = goes_plainly (laid c.args.inputs.code.now c.args.inputs.placed.now) c.args.threads.now c.args.thread c.args.func c.args.value c.requires (sym c.is_start.ensures ∙ c.if-is_start.false)

pub returns-clause-stand : goal.returns-clause-stand
returns-clause-stand c = λ a. c.next_after.ensures.stand (goes_plainly (laid c.args.inputs.code.now c.args.inputs.placed.now) c.args.threads.now c.args.thread c.args.func c.args.value a (sym c.is_start.ensures ∙ c.if-is_start.false))

pub returns-clause-next : goal.returns-clause-next
returns-clause-next c = c.next_after.ensures.next
