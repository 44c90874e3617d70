use Rattle.std.proofs.Common.{drop}
use Rattle.c_types_environment.specs.States.{notes_of}
use Rattle.std.specs.Prelude.{replicate}
use Rattle.c_syntax.specs.Stands.{StandValues}
use Rattle.c_syntax.specs.Syntax.{Values as Writtens}
use Rattle.c_types_table.specs.Tables.{type_at}
use Rattle.c_types_rules.specs.Initials.{types_in}
use Rattle.c_types_expressions.specs.Found.{Stays}
use Rattle.c_types_initializers.proofs.Rests.{RestOfValues}
use Rattle.c_types_initializers.proofs.initials.+values.Given as goal

abbrev pub invariant-elements-loop-place : goal.invariant-elements-loop-place
invariant-elements-loop-place l =
    let all = replicate l.count (type_at l.fn.env.table.types l.element) in
    record {
      kept : Stays l.fn.env l.env;
      rest : (xs : Writtens) → StandValues l.tree l.values xs → RestOfValues l.tree l.fn.env.env (notes_of l.fn.env) (notes_of l.env) (drop l.place l.values) (drop l.place all) xs all l.found.items;
    }

abbrev pub invariant-members-loop-place : goal.invariant-members-loop-place
invariant-members-loop-place l =
    let all = types_in l.fn.env.env.structs l.number.0 in
    record {
      kept : Stays l.fn.env l.env;
      rest : (xs : Writtens) → StandValues l.tree l.values xs → RestOfValues l.tree l.fn.env.env (notes_of l.fn.env) (notes_of l.env) (drop l.place l.values) (drop l.place all) xs all l.found.items;
    }
