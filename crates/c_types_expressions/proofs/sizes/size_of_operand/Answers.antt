use Rattle.std.proofs.Common.{sym, subst}
use Rattle.c_types_rules.specs.Environment.{extents}
use Rattle.c_types_rules.specs.TypedTree.{typed_type}
use Rattle.c_types_nodes.specs.Tables.{IsNode, node_at}
use Rattle.c_types_operators.specs.Answers.{Agrees, StandsAt}
use Rattle.c_types_environment.specs.States.{State}
use Rattle.c_types_expressions.specs.Found.{Stays}
use Rattle.c_types_expressions.specs.Pieces.{size_constant}
use Rattle.c_types_expressions.proofs.Kept.{all_stay, stay, then_stay}
use Rattle.c_types_expressions.proofs.Unevaluated.{after_one, noted_stays}
use Rattle.c_types_expressions.proofs.sizes.size_of_operand.Goals as goal

pub size_of_node-requires : goal.size_of_node-requires
size_of_node-requires c =
    let there : State → Type 0 = λ s. IsNode s.table c.args.operand in
    subst there (sym c.in_ok-note_unevaluated.ensures.noted) c.requires

pub returns-clause-agrees : goal.returns-clause-agrees
returns-clause-agrees c =
    let a = c.args.env.now in
    let b = c.note_unevaluated.new.self in
    let new = c.size_of_node.new.env in
    let by : State → Type 0 = λ s. Agrees (StandsAt new.table) (size_constant (extents s.env) c.args.from (typed_type (node_at s.table c.args.operand))) c.size_of_node.result in
    after_one a b c.args.operand c.in_ok-note_unevaluated.ensures.noted (StandsAt new.table) new (size_constant (extents a.env) c.args.from (typed_type (node_at a.table c.args.operand))) c.size_of_node.result
    (subst by c.in_ok-note_unevaluated.ensures.noted c.size_of_node.ensures.agrees) c.size_of_node.ensures.kept.notes

pub returns-clause-kept : goal.returns-clause-kept
returns-clause-kept c = then_stay _ _ _ (noted_stays c.args.env.now c.note_unevaluated.new.self c.args.operand c.in_ok-note_unevaluated.ensures.noted) (all_stay _ _ c.size_of_node.ensures.kept)

pub returns-in_err-note_unevaluated-clause-kept : goal.returns-in_err-note_unevaluated-clause-kept
returns-in_err-note_unevaluated-clause-kept c =
    let from : State → Type 0 = λ s. Stays c.args.env.now s in
    subst from (sym c.in_err-note_unevaluated.ensures.err) (stay c.args.env.now)
