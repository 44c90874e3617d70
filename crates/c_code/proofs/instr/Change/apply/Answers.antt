use Rattle.std.proofs.Common.{◌≡◌, pos, negsuc, ◌-ℤ◌, FitsSigned, to_z, of_z, sym, ap, ◌∙◌, arith, rules}
use Rattle.std.specs.Int.{w128}
use Rattle.std.proofs.lemmas.Int.{ints, to_z-of_z}
use Rattle.r2_num.specs.Conversions.{wrapped}
use Rattle.c_code.specs.Values.{written, changed}
use Rattle.c_code.proofs.Bounds.{Small, small}
use Rattle.c_code.proofs.instr.Change.apply.Goals as goal

pub returns-in-Negate : goal.returns-in-Negate
returns-in-Negate c =
    let kind = c.in-Negate.kind in
    let bounds : Small c.read.result = small kind c.read.result c.read.ensures.range in
    let fits : FitsSigned w128 c.wrap.result = search rules in
    let less : to_z w128 (of_z w128 (pos 0 -ℤ to_z w128 (of_z w128 c.read.result))) ≡ pos 0 -ℤ c.read.result = omega (arith, ints) in
    c.pattern.ensures.value ∙ (ap written (to_z-of_z w128 c.wrap.result fits ∙ (c.wrap.ensures.value ∙ ap (wrapped kind) (less ∙ ap (λ x. pos 0 -ℤ x) c.read.ensures.value))) ∙ sym (ap (λ how. changed how c.args.value) c.in-Negate.is))

pub returns-in-Complement : goal.returns-in-Complement
returns-in-Complement c =
    let kind = c.in-Complement.kind in
    let bounds : Small c.read-in-Complement.result = small kind c.read-in-Complement.result c.read-in-Complement.ensures.range in
    let fits : FitsSigned w128 c.wrap-in-Complement.result = search rules in
    let less : to_z w128 (of_z w128 (negsuc 0 -ℤ to_z w128 (of_z w128 c.read-in-Complement.result))) ≡ negsuc 0 -ℤ c.read-in-Complement.result = omega (arith, ints) in
    c.pattern-in-Complement.ensures.value ∙ (ap written (to_z-of_z w128 c.wrap-in-Complement.result fits ∙ (c.wrap-in-Complement.ensures.value ∙ ap (wrapped kind) (less ∙ ap (λ x. negsuc 0 -ℤ x) c.read-in-Complement.ensures.value))) ∙ sym (ap (λ how. changed how c.args.value) c.in-Complement.is))
