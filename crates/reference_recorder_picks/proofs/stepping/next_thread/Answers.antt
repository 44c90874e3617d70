use Rattle.std.proofs.Common.{◌≡◌, ◌<◌, ◌-◌, length, get_or, ◌∙◌, sym, ap, subst, arith}
use Rattle.std.specs.Option.{option_or}
use Rattle.system_side.specs.Schedule.{wish_at}
use Rattle.whole_runs.specs.Picks.{can_step as can_step_in}
use Rattle.recorder_state.specs.Inputs.{world_of}
use Rattle.recorder_state.proofs.Begun.{same_get}
use Rattle.reference_recorder_threads.proofs.Oldest.{as_many}
use Rattle.reference_recorder_picks.proofs.Picking.{found, stepping_is}
use Rattle.reference_recorder_picks.proofs.Rounds.{entry_small}
use Rattle.reference_recorder_picks.proofs.stepping.next_thread.Goals as goal

pub wish-wished-requires-clause-counts : goal.wish-wished-requires-clause-counts
wish-wished-requires-clause-counts c = λ k d lt. let some = (c.requires.past.fit.file.items (get_or c.args.inputs.file.now.schedule k d) (k, lt, same_get c.args.inputs.file.now.schedule k (get_or c.args.inputs.file.now.schedule k d) d lt)).some in omega (arith, some)

pub first_in-requires-clause-order : goal.first_in-requires-clause-order
first_in-requires-clause-order c =
    let few : c.wish-wished.result < 32 = subst (λ n. n < 32) (sym c.wish-wished.ensures) (entry_small c.args.inputs.file.now.schedule _ 32 (omega arith) (λ item h. (c.requires.past.fit.file.items item h).thread)) in
    omega (arith, few)

pub returns-in-Some : goal.returns-in-Some
returns-in-Some c = λ p.
    let w = world_of c.args.inputs in
    let long : length c.args.marks.now ≡ length p.run = sym (as_many p.run c.args.marks.now p.same) in
    ap (λ o. option_or o (found (can_step_in w p.run) 0 c.wish-wished.result)) (c.in-Some.ensures p)
    ∙ sym (stepping_is w p.run c.wish-wished.result (c.wish-wished.ensures ∙ ap (wish_at c.args.inputs.file.now.schedule) long))

pub returns-in-None : goal.returns-in-None
returns-in-None c = λ p.
    let w = world_of c.args.inputs in
    let long : length c.args.marks.now ≡ length p.run = sym (as_many p.run c.args.marks.now p.same) in
    let all : c.wish-wished.result - 0 ≡ c.wish-wished.result = omega arith in
    c.first_in-in-None.ensures p
    ∙ (ap (found (can_step_in w p.run) 0) all
    ∙ (ap (λ o. option_or o (found (can_step_in w p.run) 0 c.wish-wished.result)) (c.in-None.ensures p)
    ∙ sym (stepping_is w p.run c.wish-wished.result (c.wish-wished.ensures ∙ ap (wish_at c.args.inputs.file.now.schedule) long))))
