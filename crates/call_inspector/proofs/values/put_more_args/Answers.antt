use Rattle.std.proofs.Common.{◌≤◌, ◌⊎◌, ◌++◌, ℕ, List, length, sym, ap, ◌∙◌, append-nil, arith, inl, inr}
use Rattle.std.proofs.lemmas.Bool.{cases_lt}
use Rattle.call_inspector.proofs.DropSteps.{more_args_done}
use Rattle.call_inspector.proofs.values.put_more_args.Goals as goal

pub returns : goal.returns
returns c =
    let shapes = c.args.shapes.now in
    let args = c.args.args.now in
    let done : (length shapes ≤ c.loop-i.i) ⊎ (length args ≤ c.loop-i.i) = elim (cases_lt (length shapes) (length args)) [
      | inl less ↦ inl (omega arith)
      | inr more ↦ inr (omega arith)
    ] in
    sym (append-nil c.loop-i.text.items) ∙ ap (λ (w : List ℕ). c.loop-i.text.items ++ w) (sym (more_args_done shapes args c.loop-i.i done)) ∙ c.loop-i.invariant
