use Rattle.std.proofs.Common.{◌∙◌, sym, ap}
use Rattle.whole_runs.specs.Outcomes.{builtin_of}
use Rattle.whole_runs.specs.Picks.{is_free as is_free_in}
use Rattle.recorder_state.specs.Inputs.{world_of}
use Rattle.recorder_threads.specs.Threads.{args_at}
use Rattle.reference_recorder_picks.proofs.Picking.{can_if, can_plainly}
use Rattle.reference_recorder_picks.proofs.stepping.gets_on.Goals as goal

pub returns-in-Some : goal.returns-in-Some
returns-in-Some c = λ p n.
    let w = world_of c.args.inputs in
    let t = c.args.thread in
    c.is_free.ensures p
    ∙ (ap (λ xs. is_free_in w p.run t xs (builtin_of c.in-Some.func)) c.args-args.ensures
    ∙ sym (can_if w c.args.marks.now p c.args.threads.now (c.requires.threads p) t c.requires.started (args_at c.args.threads.now t) c.args.side c.args.want n c.in-Some.func (sym c.in-Some.ensures)))

pub returns-in-None : goal.returns-in-None
returns-in-None c = λ p n.
    let w = world_of c.args.inputs in
    let t = c.args.thread in
    sym (can_plainly w c.args.marks.now p c.args.threads.now (c.requires.threads p) t c.requires.started (args_at c.args.threads.now t) c.args.side c.args.want n (sym c.in-None.ensures))
