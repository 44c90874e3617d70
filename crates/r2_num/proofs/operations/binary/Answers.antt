use Rattle.std.proofs.Common.{◌≡◌, None, sym, ap, ◌∙◌, to_z, of_z}
use Rattle.std.specs.Int.{w128}
use Rattle.std.proofs.lemmas.Int.{to_z-of_z}
use Rattle.r2_num.specs.Operations.{fault_of, ShiftsWrong}
use Rattle.r2_num.proofs.Faults.{shift_faults}
use Rattle.r2_num.proofs.operations.binary.Goals as goal

pub returns-in-None-clause-shift : goal.returns-in-None-clause-shift
returns-in-None-clause-shift c =
    let none : None ≡ fault_of c.args.op c.args.kind c.args.a c.args.b = sym c.in-None.is ∙ (c.fault.ensures ∙ (ap (λ x. fault_of c.args.op c.args.kind x (to_z w128 (of_z w128 c.args.b))) (to_z-of_z w128 c.args.a c.ranges.a) ∙ ap (fault_of c.args.op c.args.kind c.args.a) (to_z-of_z w128 c.args.b c.ranges.b))) in
    (λ e. absurd cc, λ (h : ShiftsWrong c.args.op c.args.kind c.args.b). absurd (let some = shift_faults c.args.op c.args.kind c.args.a c.args.b h in cc))
