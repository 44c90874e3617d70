use Rattle.std.proofs.Common.{◌≡◌, FitsSigned, to_z, of_z, Ok, sym, ap, ◌∙◌, rules}
use Rattle.std.specs.Int.{w128}
use Rattle.std.proofs.lemmas.Int.{to_z-of_z}
use Rattle.r2_num.specs.Operations.{binary_of}
use Rattle.c_code.specs.Values.{read, written, written_result, right_kind}
use Rattle.c_code.proofs.values.arith.Goals as goal

pub returns-in-Ok : goal.returns-in-Ok
returns-in-Ok c =
    let fits_a : FitsSigned w128 c.read.result = search rules in
    let fits_b : FitsSigned w128 c.read-right.result = search rules in
    let fits_v : FitsSigned w128 c.in-Ok.value = search rules in
    let right : c.read-right.result ≡ read (right_kind c.args.op c.args.kind) c.args.right = c.read-right.ensures.value ∙ ap (λ k. read k c.args.right) c.right_kind.ensures in
    let answer : c.binary.result ≡ binary_of c.args.op c.args.kind (read c.args.kind c.args.left) (read (right_kind c.args.op c.args.kind) c.args.right) =
    c.binary.ensures.answer
    ∙ (ap (λ x. binary_of c.args.op c.args.kind x (to_z w128 (of_z w128 c.read-right.result))) (to_z-of_z w128 c.read.result fits_a ∙ c.read.ensures.value)
    ∙ ap (λ x. binary_of c.args.op c.args.kind (read c.args.kind c.args.left) x) (to_z-of_z w128 c.read-right.result fits_b ∙ right)) in
    let value : c.pattern.result ≡ written c.in-Ok.value = c.pattern.ensures.value ∙ ap written (to_z-of_z w128 c.in-Ok.value fits_v) in
    ap Ok value ∙ ap written_result (sym c.in-Ok.is ∙ answer)
