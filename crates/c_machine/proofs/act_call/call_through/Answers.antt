use Rattle.std.proofs.Common.{sym, ◌∙◌}
use Rattle.c_machine_stack.specs.Stacks.{held}
use Rattle.c_machine.specs.Positions.{laid}
use Rattle.c_machine.proofs.Acting.{pointer_out, bad_pointer_out}
use Rattle.c_machine.proofs.act_call.call_through.Goals as goal

pub returns-in-Some : goal.returns-in-Some
returns-in-Some c = λ placed.
    let l = laid c.args.code.now placed in
    let a = c.args.a in
    pointer_out l a c.args.sig c.args.n c.in-Some.func _ c.next.result (held c.args.values.now) c.requires.enough (c.address_below.ensures l c.args.sig a) (sym (c.callee.ensures placed) ∙ c.in-Some.is) c.next.ensures

pub returns-in-None : goal.returns-in-None
returns-in-None c = λ placed.
    let l = laid c.args.code.now placed in
    let a = c.args.a in
    bad_pointer_out l a c.args.sig c.args.n c.number.result _ (held c.args.values.now) (c.address_below.ensures l c.args.sig a) (sym (c.callee.ensures placed) ∙ c.in-None.is) c.number.ensures
