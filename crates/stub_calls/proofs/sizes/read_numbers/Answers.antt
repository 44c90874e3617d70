use Rattle.std.proofs.Common.{◌≡◌, ◌<◌, ◌++◌, [], ◌∷◌, length, get_or, min, FitsSigned, sym, ap, ◌∙◌, subst, arith, rules}
use Rattle.std.specs.Int.{w128}
use Rattle.std.specs.List.{All}
use Rattle.std.proofs.lemmas.Int.{to_z-of_z}
use Rattle.std.proofs.lemmas.List.Elements.{All-push}
use Rattle.r2_num.specs.Operations.{IsAnyValue}
use Rattle.c_code.specs.declared.shape.Shape.TheVariants.{Void}
use Rattle.stub_meaning.specs.Calls.{number}
use Rattle.stub_calls.proofs.Numbers.{numbers_all, numbers_more}
use Rattle.stub_calls.proofs.sizes.read_numbers.Goals as goal

pub loop-at-preserved : goal.loop-at-preserved
loop-at-preserved c =
    let now = c.loop-at.numbers.items in
    let lt : c.loop-at.at < length c.args.params.now = omega arith in
    let less : c.loop-at.at < length c.args.args.now = omega arith in
    let fits : FitsSigned w128 c.number.result = search rules in
    let made : c.push.new.self.items ≡ now ++ c.number.result ∷ [] = c.in_ok-push.ensures.items ∙ ap (λ z. now ++ z ∷ []) (to_z-of_z w128 c.number.result fits) in
    record {
      read = made ∙ (ap (λ z. now ++ z ∷ []) c.number.ensures.value ∙ (ap (λ xs. xs ++ number (get_or c.args.params.now c.loop-at.at Void) (get_or c.args.args.now c.loop-at.at 0) ∷ []) c.loop-at.invariant.read ∙ sym (numbers_more c.args.params.now c.args.args.now c.loop-at.at Void 0 lt less)));
      range = subst (All IsAnyValue) (sym made) (All-push IsAnyValue now c.number.result c.loop-at.invariant.range c.number.ensures.range);
    }

pub returns-clause-numbers : goal.returns-clause-numbers
returns-clause-numbers c =
    let end : c.loop-at.at ≡ min (length c.args.params.now) (length c.args.args.now) = omega arith in
    c.loop-at.invariant.read ∙ numbers_all c.args.params.now c.args.args.now c.loop-at.at end
