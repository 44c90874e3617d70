-- Statements that hold others in a vector.
use Rattle.std.proofs.Common.{◌≡◌, ℕ, Option, Vec, Box, Global, rules}
use Rattle.c_types_rules.specs.TypedTree as tree
use Rattle.c_types_nodes.specs.declared.ids.NodeId.{NodeId}
use Rattle.c_types_nodes.specs.Tables.{Table}
use Rattle.c_types_program.specs.declared.statement.Statement.{Statement}
use Rattle.c_types_program.specs.declared.statement.Statement.TheVariants.{Block, For}
use Rattle.c_types_program.specs.declared.statement.Statement.TheViews.{the_lemmas}
use Rattle.c_types_program.specs.Statements.{AllStatements, IsStatement, maybe_at, statement_in, statements_in}
use Rattle.c_types_program.proofs.Kept.{all_statements, are_statements, row_is_list}

pub block_inside : (t : Table) (v : Vec Statement Global) → IsStatement t (Block v) → AllStatements t v.items
block_inside t v h = search (rules, the_lemmas, all_statements)

pub block_made : (t : Table) (v : Vec Statement Global) → AllStatements t v.items → IsStatement t (Block v)
block_made t v h = search (rules, the_lemmas, are_statements)

pub block_means : (t : Table) (v : Vec Statement Global) → statement_in t (Block v) ≡ tree.Block (statements_in t v.items)
block_means t v = search (rules, the_lemmas, row_is_list)

pub first_inside : (t : Table) (from : ℕ) (v : Vec Statement Global) (condition last : Option NodeId) (body : Box Statement Global) → IsStatement t (For from v condition last body) → AllStatements t v.items
first_inside t from v condition last body h = search (rules, the_lemmas, all_statements)

pub for_means : (t : Table) (from : ℕ) (v : Vec Statement Global) (condition last : Option NodeId) (body : Box Statement Global)
    → statement_in t (For from v condition last body) ≡ tree.For from (statements_in t v.items) (maybe_at t condition) (maybe_at t last) (statement_in t body.value)
for_means t from v condition last body = search (rules, the_lemmas, row_is_list)
