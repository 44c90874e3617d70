use Rattle.std.proofs.Common.{sym, ◌∙◌, arith}
use Rattle.whole_runs.specs.Below.{IsForbidden}
use Rattle.reference_recorder_marks.specs.Marks.{past}
use Rattle.reference_recorder_scans.proofs.AboveCut.{all_before, before_end, inside_is, least_here, none_before_end, one_further}
use Rattle.reference_recorder_scans.proofs.forbidden.forbidden_from.Goals as goal

pub loop-addr-init : goal.loop-addr-init
loop-addr-init c = λ w e x inside lt f. let le = c.requires.least x inside f.0 in omega (arith, lt, le)

pub returns-then-not-has : goal.returns-then-not-has
returns-then-not-has c = λ w e.
    none_before_end c.args.range (IsForbidden w (past c.args.marks.now) c.args.thread c.args.write) c.loop-addr.addr (c.loop-addr.invariant w e)
    (λ x inside f. all_before c.args.range c.loop-addr.addr x (let low = c.requires.in_range.0 in omega (arith, low)) (sym c.has.ensures ∙ c.if-not-has.true) inside)

pub returns-then-branch : goal.returns-then-branch
returns-then-branch c = λ w e.
    least_here c.args.range (IsForbidden w (past c.args.marks.now) c.args.thread c.args.write) c.loop-addr.addr (c.loop-addr.invariant w e)
    (inside_is c.args.range c.loop-addr.addr (omega arith) (sym c.has.ensures ∙ c.if-not-has.false)) ((c.in_ok-is_forbidden.ensures w e).0 c.if-branch.true)

pub loop-addr-preserved : goal.loop-addr-preserved
loop-addr-preserved c = λ w e.
    one_further c.args.range (IsForbidden w (past c.args.marks.now) c.args.thread c.args.write) c.loop-addr.addr (c.loop-addr.invariant w e)
    (λ f. let found = (c.in_ok-is_forbidden.ensures w e).1 f in let missed = c.if-branch.false in absurd cc)

pub returns : goal.returns
returns c = λ w e.
    none_before_end c.args.range (IsForbidden w (past c.args.marks.now) c.args.thread c.args.write) c.loop-addr.addr (c.loop-addr.invariant w e)
    (λ x inside f. let low = before_end x f.0 in omega (arith, low))
