use Rattle.std.proofs.Common.{◌∷◌, ap, ◌∙◌}
use Rattle.c_lower_bodies.specs.Steps.{code_in, instr_in}
use Rattle.c_lower_bodies.proofs.Reversed.{put_last}
use Rattle.c_lower_bodies.proofs.backward.Backward.put_step.Goals as goal

pub returns : goal.returns
returns c = ap code_in c.in_ok-push.ensures.items ∙ (put_last instr_in c.self.inside.reversed.items c.args.step ∙ ap (λ is. instr_in c.args.step ∷ is) c.self.view_is)
