use Rattle.std.proofs.Common.{List, [], ◌∷◌, ◌++◌, take, get_or, ◌+◌, sym, subst}
use Rattle.std.proofs.lemmas.List.{take_more}
use Rattle.c_builtins.specs.declared.builtin.BuiltinType.{BuiltinType}
use Rattle.c_builtins.specs.declared.builtin.BuiltinType.TheVariants.{Void}
use Rattle.c_types_table.specs.declared.ids.TypeId.{TypeId}
use Rattle.c_types_nodes.proofs.Growing.{through}
use Rattle.c_types_operators.specs.Calls.{AreNamed}
use Rattle.c_types_operators.proofs.Parameters.{named_kept, named_more}
use Rattle.c_types_operators.proofs.prototypes.add_parameters.Goals as goal

pub returns-in_err-push-clause-kept : goal.returns-in_err-push-clause-kept
returns-in_err-push-clause-kept c = through c.args.table.now c.loop-ty.table c.add_plain.new.table c.loop-ty.invariant.kept c.add_plain.ensures.kept

pub loop-ty-preserved : goal.loop-ty-preserved
loop-ty-preserved c =
    let new = c.add_plain.new.table.types in
    let bs = c.args.types.now in
    let i = c.loop-ty.ty-index in
    let ids = c.loop-ty.params.items in
    let id = c.in_ok-param.param in
    let before = named_kept c.loop-ty.table.types new ids (take i bs) c.add_plain.ensures.kept.types c.loop-ty.invariant.named in
    let more = named_more new ids (take i bs) id (get_or bs i Void) before c.in_ok-param.ensures.names in
    let first : List BuiltinType → Type 0 = λ xs. AreNamed new (ids ++ id ∷ []) xs in
    let all : List TypeId → Type 0 = λ xs. AreNamed new xs (take (i + 1) bs) in
    record {
      kept = through c.args.table.now c.loop-ty.table c.add_plain.new.table c.loop-ty.invariant.kept c.add_plain.ensures.kept;
      named = subst all (sym c.in_ok-push.ensures.items) (subst first (sym (take_more bs i Void c.loop-ty-test.true)) more);
    }
