use Rattle.std.proofs.Common.{◌∙◌}
use Rattle.c_lower_bodies.specs.declared.step.Step.TheVariants.{Instr}
use Rattle.c_lower_bodies.specs.Steps.{instr_in}
use Rattle.c_lower_bodies.proofs.Reversed.{replaced}
use Rattle.c_lower_bodies.proofs.backward.Backward.replace.Goals as goal

pub returns : goal.returns
returns c = λ before after old e h. replaced instr_in c.self.inside.reversed.items before after old (Instr c.args.instr) c.args.following (c.self.view_is ∙ e) h
