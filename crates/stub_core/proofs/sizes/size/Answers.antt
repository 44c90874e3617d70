use Rattle.std.proofs.Common.{◌≡◌, ◌-◌, ◌^◌, pos, ◌*ℤ◌, FitsSigned, to_z, of_z, sym, ap, ◌∙◌, rules}
use Rattle.std.specs.Int.{w128, int_min, saturate_signed}
use Rattle.std.proofs.lemmas.Int.{to_z-of_z}
use Rattle.stub_core.specs.Sizes.{value_of, second_of}
use Rattle.stub_core.proofs.Products.{saturates}
use Rattle.stub_core.proofs.sizes.size.Goals as goal

pub returns-in-Some : goal.returns-in-Some
returns-in-Some c =
    let args = c.args.args.now in
    let outcome : to_z w128 (of_z w128 c.args.outcome) ≡ c.args.outcome = to_z-of_z w128 c.args.outcome c.ranges.outcome in
    let a = c.value-first.result in
    let b = c.value.result in
    let fits : FitsSigned w128 c.saturating_mul.result = search rules in
    let fits_a : FitsSigned w128 a = search rules in
    let fits_b : FitsSigned w128 b = search rules in
    let first : a ≡ value_of args c.args.outcome c.args.size.now.a = c.value-first.ensures.value ∙ ap (λ x. value_of args x c.args.size.now.a) outcome in
    let second : b ≡ second_of args c.args.outcome c.args.size.now.b = c.value.ensures.value ∙ (ap (λ x. value_of args x c.in-Some.term) outcome ∙ sym (ap (second_of args c.args.outcome) c.in-Some.is)) in
    let product : c.saturating_mul.result ≡ saturate_signed w128 (a *ℤ b) = c.saturating_mul.ensures ∙ (ap (λ x. saturate_signed w128 (x *ℤ to_z w128 (of_z w128 b))) (to_z-of_z w128 a fits_a) ∙ ap (λ x. saturate_signed w128 (a *ℤ x)) (to_z-of_z w128 b fits_b)) in
    to_z-of_z w128 c.saturating_mul.result fits ∙ (product ∙ (saturates a b c.value-first.ensures.range c.value.ensures.range
    ∙ (ap (λ x. int_min (x *ℤ b) (pos (2 ^ 127 - 1))) first ∙ ap (λ x. int_min (value_of args c.args.outcome c.args.size.now.a *ℤ x) (pos (2 ^ 127 - 1))) second)))
