use Rattle.std.proofs.Common.{◌-◌, length, take, drop, subst, arith}
use Rattle.sys_script_lines.specs.Numbers.{IsLeading}
use Rattle.sys_script_lines.proofs.NearTurns.{alone, first_then, times}
use Rattle.sys_script_lines.proofs.turns.longer_turn.Goals as goal

pub returns-in-32-clause-turn : goal.returns-in-32-clause-turn
returns-in-32-clause-turn c =
    let words = c.args.words.now in
    let thread = c.in_ok-thread.thread in
    let rest = c.in_ok-thread.rest.now in
    alone words (take (length rest - 1) (drop 1 rest)) thread
    (subst (IsLeading words thread) (first_then rest 32 (omega arith) (omega arith)) c.in_ok-thread.ensures.leading)
    (omega arith)

pub returns-in_ok-steps-in-42-clause-turn : goal.returns-in_ok-steps-in-42-clause-turn
returns-in_ok-steps-in-42-clause-turn c =
    let words = c.args.words.now in
    let thread = c.in_ok-thread.thread in
    let rest = c.in_ok-thread.rest.now in
    let said = c.in_ok-steps-in-42.ensures in
    times words (take (length rest - 1) (drop 1 rest)) c.in_ok-steps-in-42.after.now thread c.in_ok-steps-in-42.steps
    (subst (IsLeading words thread) (first_then rest 42 (omega arith) (omega arith)) c.in_ok-thread.ensures.leading)
    (omega arith) said.leading said.range.0 said.range.1
