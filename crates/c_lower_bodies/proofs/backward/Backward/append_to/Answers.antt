use Rattle.std.proofs.Common.{◌≡◌, ◌∷◌, ◌++◌, List, [], append_assoc, sym, ap, ◌∙◌, subst}
use Rattle.std.specs.List.{All}
use Rattle.std.proofs.lemmas.List.Elements.{All-head, All-tail}
use Rattle.c_code.specs.declared.instr.Instr.{Instr}
use Rattle.c_lower_bodies.specs.Short.{IsShort}
use Rattle.c_lower_bodies.specs.Steps.{code_in, instr_in}
use Rattle.c_lower_bodies.proofs.Reversed.{put_last}
use Rattle.c_lower_bodies.proofs.backward.Backward.append_to.Goals as goal

pub instr-requires : goal.instr-requires
instr-requires c =
    let left : code_in c.loop-step.reversed.items ≡ instr_in c.in-Some.step ∷ code_in c.pop.new.self.items = ap code_in c.in-Some.ensures.items ∙ put_last instr_in c.pop.new.self.items c.in-Some.step in
    All-head IsShort (instr_in c.in-Some.step) (code_in c.pop.new.self.items) (subst (λ (is : List Instr). All IsShort is) left c.loop-step.invariant.short)

pub loop-step-preserved : goal.loop-step-preserved
loop-step-preserved c =
    let left : code_in c.loop-step.reversed.items ≡ instr_in c.in-Some.step ∷ code_in c.pop.new.self.items = ap code_in c.in-Some.ensures.items ∙ put_last instr_in c.pop.new.self.items c.in-Some.step in
    let rest = code_in c.pop.new.self.items in
    record {
      instrs =
          ap (λ (is : List Instr). is ++ rest) c.in_ok-push.ensures.items
          ∙ (append_assoc c.loop-step.instrs.items (c.instr.result ∷ []) rest
          ∙ (ap (λ (i : Instr). c.loop-step.instrs.items ++ (i ∷ rest)) c.instr.ensures
          ∙ (ap (λ (is : List Instr). c.loop-step.instrs.items ++ is) (sym left) ∙ c.loop-step.invariant.instrs)));
      short = All-tail IsShort (instr_in c.in-Some.step) rest (subst (λ (is : List Instr). All IsShort is) left c.loop-step.invariant.short);
    }
