use Rattle.std.proofs.Common.{◌≡◌, ℕ, ◌-◌, List, [], ◌∷◌, ◌++◌, length, replicate, sym, ap, ◌∙◌}
use Rattle.system_side.specs.Schedule.{turns_of}
use Rattle.system_side.proofs.Kept.{more_steps, one_step}
use Rattle.system_side.proofs.lists.Schedule.push.Goals as goal

pub returns-then-steps-eq1 : goal.returns-then-steps-eq1
returns-then-steps-eq1 c =
    let l = c.self.inside in
    ap (λ (ts : List ℕ). turns_of ts l.steps.items) c.in_ok-push.ensures.items
    ∙ (one_step l.threads.items l.steps.items c.args.thread c.self.invariant
    ∙ (λ i. c.self.view_is i ++ (c.args.thread, sym c.if-steps-eq1.true i) ∷ []))

pub returns : goal.returns
returns c =
    let l = c.self.inside in
    let long : c.len-place.result ≡ length l.threads.items = c.len-place.ensures ∙ l.threads.ok.0 in
    let kept = c.in_ok-put_steps.ensures.put ∙ ap (λ (k : ℕ). (l.steps.items ++ replicate (k - length l.steps.items) 1) ++ c.args.steps ∷ []) long in
    (λ i. turns_of (c.in_ok-push.ensures.items i) (kept i))
    ∙ (more_steps l.threads.items l.steps.items c.args.thread c.args.steps c.self.invariant
    ∙ ap (λ (xs : List (ℕ × ℕ)). xs ++ (c.args.thread, c.args.steps) ∷ []) c.self.view_is)
