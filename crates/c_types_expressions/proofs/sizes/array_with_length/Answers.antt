use Rattle.std.proofs.Common.{◌<◌, length, sym, subst}
use Rattle.c_types_table.specs.Tables.{type_at}
use Rattle.c_types_nodes.specs.Tables.{IsNode, node_at}
use Rattle.c_types_operators.specs.Answers.{Agrees}
use Rattle.c_types_environment.specs.States.{State}
use Rattle.c_types_expressions.specs.Found.{IsType, Stays}
use Rattle.c_types_expressions.specs.Pieces.{array_by}
use Rattle.c_types_expressions.proofs.Kept.{all_stay, stay, then_stay}
use Rattle.c_types_expressions.proofs.Unevaluated.{after_one, noted_stays}
use Rattle.c_types_expressions.proofs.sizes.array_with_length.Goals as goal

pub array_of_length-requires : goal.array_of_length-requires
array_of_length-requires c =
    let there : State → Type 0 = λ s. (c.args.element.0 < length s.table.types) × IsNode s.table c.args.size in
    let both = subst there (sym c.in_ok-note_unevaluated.ensures.noted) (c.requires.element, c.requires.size) in
    record { element = both.0; size = both.1 }

pub returns-clause-agrees : goal.returns-clause-agrees
returns-clause-agrees c =
    let a = c.args.env.now in
    let b = c.note_unevaluated.new.self in
    let new = c.array_of_length.new.env in
    let by : State → Type 0 = λ s. Agrees (IsType new.table) (array_by c.args.from (type_at s.table.types c.args.element) (node_at s.table c.args.size)) c.array_of_length.result in
    after_one a b c.args.size c.in_ok-note_unevaluated.ensures.noted (IsType new.table) new (array_by c.args.from (type_at a.table.types c.args.element) (node_at a.table c.args.size)) c.array_of_length.result
    (subst by c.in_ok-note_unevaluated.ensures.noted c.array_of_length.ensures.agrees) c.array_of_length.ensures.kept.notes

pub returns-clause-kept : goal.returns-clause-kept
returns-clause-kept c = then_stay _ _ _ (noted_stays c.args.env.now c.note_unevaluated.new.self c.args.size c.in_ok-note_unevaluated.ensures.noted) (all_stay _ _ c.array_of_length.ensures.kept)

pub returns-in_err-note_unevaluated-clause-kept : goal.returns-in_err-note_unevaluated-clause-kept
returns-in_err-note_unevaluated-clause-kept c =
    let from : State → Type 0 = λ s. Stays c.args.env.now s in
    subst from (sym c.in_err-note_unevaluated.ensures.err) (stay c.args.env.now)
