use Rattle.std.proofs.Common.{◌≡◌, ◌+◌, length, arith, sym, ◌∙◌, subst, eqb-true}
use Rattle.sys_script_lines.specs.Externals.{named_in}
use Rattle.sys_script_lines.specs.Parts.{parts}
use Rattle.sys_script_lines.specs.Scripts.{script}
use Rattle.sys_script_lines.proofs.Steps.{line_read, nothing_said}
use Rattle.sys_script_lines.proofs.script.read_lines.Goals as goal

pub loop-line-preserved : goal.loop-line-preserved
loop-line-preserved c = record {
  found_in = c.hear.ensures.same ∙ c.loop-line.invariant.found_in;
  few = omega (arith, c.in-Some.ensures.shorter);
  same =
      subst (λ es. script (named_in es) (c.loop-line.number + 1) c.hear.new.self (parts 10 c.in-Some.after.now) ≡ script (named_in es) c.loop-line.number c.loop-line.said (parts 10 c.loop-line.rest.now))
      c.loop-line.invariant.found_in
      (line_read (named_in c.loop-line.finder.externals.now) c.loop-line.number c.loop-line.said c.hear.new.self c.loop-line.rest.now c.in-Some.line.now c.in-Some.after.now c.in-Some.ensures.parts c.in-Ok.ensures.heard)
      ∙ c.loop-line.invariant.same;
}

pub loop-line-preserved-then-is_empty : goal.loop-line-preserved-then-is_empty
loop-line-preserved-then-is_empty c =
    let who = named_in c.args.externals.now in
    let said = c.loop-line.said in
    let line = c.in-Some.line.now in
    let none : length line ≡ 0 = eqb-true (length line) 0 (sym c.is_empty.ensures ∙ c.if-is_empty.true) in
    record {
      found_in = c.loop-line.invariant.found_in;
      few = omega (arith, c.in-Some.ensures.shorter);
      same =
          line_read who c.loop-line.number said said c.loop-line.rest.now line c.in-Some.after.now c.in-Some.ensures.parts (nothing_said who said line none)
          ∙ c.loop-line.invariant.same;
    }
