-- What statements that are made of their parts stand for.
use Rattle.std.proofs.Common.{◌≡◌, ℕ, List, [], Option, None, Some, Vec, Box, Global, refl, sym, ap, ◌∙◌, subst, rules}
use Rattle.c_types_model.specs.Types.{CType}
use Rattle.c_types_table.specs.declared.ids.TypeId.{TypeId}
use Rattle.c_types_rules.specs.Statements.{evaluated}
use Rattle.c_types_rules.specs.TypedTree as typed
use Rattle.c_types_rules.specs.TypedTree.{MaybeValue, NoStatements, NoValue, OneValue, Statements, Value}
use Rattle.c_types_nodes.specs.declared.ids.NodeId.{NodeId}
use Rattle.c_types_nodes.specs.Tables.{Names, Table, value_at}
use Rattle.c_types_program.specs.declared.statement.Statement.{Statement}
use Rattle.c_types_program.specs.declared.statement.Statement.TheVariants.{Block, Break, Continue, Do, Evaluate, For, If, IfElse, Initialise, Return, While}
use Rattle.c_types_program.specs.declared.statement.Statement.TheViews.{the_lemmas}
use Rattle.c_types_program.specs.Statements.{AllStatements, IsMaybeAt, IsStatement, maybe_at, statement_in}
use Rattle.c_types_program.proofs.Kept.{are_statements}
use Rattle.c_types_program.proofs.Vectors.{block_made, block_means, for_means}
use Rattle.c_types_operators.specs.Answers.{IsAt}
use Rattle.c_types_statements.specs.Typed.{MaybeStands, StatementStands, StatementsStand}
use Rattle.c_types_statements.proofs.Added.{none_stand}
use Rattle.c_types_statements.proofs.Kept.{value_stands}

for_made : (t : Table) (from : ℕ) (v : Vec Statement Global) (condition last : Option NodeId) (body : Box Statement Global)
    → AllStatements t v.items → IsMaybeAt t condition → IsMaybeAt t last → IsStatement t body.value → IsStatement t (For from v condition last body)
for_made t from v condition last body h p q k = search (rules, the_lemmas, are_statements)

module _ (t : Table) where
  -- ---- statements that hold others

  pub block_stands : (v : Vec Statement Global) (xs : Statements) → StatementsStand t xs v.items → StatementStands t (typed.Block xs) (Block v)
  block_stands v xs h = record { inside = block_made t v h.inside; is = block_means t v ∙ ap typed.Block h.is }

  pub if_stands : (v : NodeId) (b : Box Statement Global) (x : Value) (s : typed.Statement) → IsAt t x v → StatementStands t s b.value → StatementStands t (typed.If x s) (If v b)
  if_stands v b x s h k =
      let one = value_stands t x v h in
      record { inside = (one.1, k.inside); is = ap (λ z. typed.If z (statement_in t b.value)) one.0 ∙ ap (typed.If x) k.is }

  pub if_else_stands : (v : NodeId) (b c : Box Statement Global) (x : Value) (s z : typed.Statement) → IsAt t x v → StatementStands t s b.value → StatementStands t z c.value → StatementStands t (typed.IfElse x s z) (IfElse v b c)
  if_else_stands v b c x s z h k l =
      let one = value_stands t x v h in
      record {
        inside = (one.1, k.inside, l.inside);
        is = ap (λ y. typed.IfElse y (statement_in t b.value) (statement_in t c.value)) one.0 ∙ (ap (λ y. typed.IfElse x y (statement_in t c.value)) k.is ∙ ap (typed.IfElse x s) l.is);
      }

  pub while_stands : (from : ℕ) (v : NodeId) (b : Box Statement Global) (x : Value) (s : typed.Statement) → IsAt t x v → StatementStands t s b.value → StatementStands t (typed.While from x s) (While from v b)
  while_stands from v b x s h k =
      let one = value_stands t x v h in
      record { inside = (one.1, k.inside); is = ap (λ z. typed.While from z (statement_in t b.value)) one.0 ∙ ap (typed.While from x) k.is }

  pub do_stands : (from : ℕ) (b : Box Statement Global) (v : NodeId) (s : typed.Statement) (x : Value) → StatementStands t s b.value → IsAt t x v → StatementStands t (typed.Do from s x) (Do from b v)
  do_stands from b v s x k h =
      let one = value_stands t x v h in
      record { inside = (k.inside, one.1); is = ap (λ z. typed.Do from z (value_at t v)) k.is ∙ ap (typed.Do from s) one.0 }

  pub for_stands : (from : ℕ) (v : Vec Statement Global) (condition last : Option NodeId) (b : Box Statement Global) (xs : Statements) (x y : MaybeValue) (s : typed.Statement) → StatementsStand t xs v.items → MaybeStands t x condition → MaybeStands t y last
      → StatementStands t s b.value → StatementStands t (typed.For from xs x y s) (For from v condition last b)
  for_stands from v condition last b xs x y s h p q k = record {
    inside = for_made t from v condition last b h.inside p.inside q.inside k.inside;
    is =
        for_means t from v condition last b
        ∙ (ap (λ z. typed.For from z (maybe_at t condition) (maybe_at t last) (statement_in t b.value)) h.is
        ∙ (ap (λ z. typed.For from xs z (maybe_at t last) (statement_in t b.value)) p.is ∙ (ap (λ z. typed.For from xs x z (statement_in t b.value)) q.is ∙ ap (typed.For from xs x y) k.is)));
  }

  -- ---- statements of values

  pub evaluate_stands : (v : NodeId) (x : Value) → IsAt t x v → StatementStands t (typed.Evaluate x) (Evaluate v)
  evaluate_stands v x h = let one = value_stands t x v h in record { inside = one.1; is = ap typed.Evaluate one.0 }

  pub nothing_evaluated : (v : Vec Statement Global) (x : MaybeValue) → v.items ≡ [] → MaybeStands t x None → StatementStands t (evaluated x) (Block v)
  nothing_evaluated v x none h =
      let P : List Statement → Type 0 = λ z. StatementsStand t NoStatements z in
      let Q : MaybeValue → Type 0 = λ z. StatementStands t (evaluated z) (Block v) in
      subst Q h.is (block_stands v NoStatements (subst P (sym none) (none_stand t)))

  pub something_evaluated : (v : NodeId) (x : MaybeValue) → MaybeStands t x (Some v) → StatementStands t (evaluated x) (Evaluate v)
  something_evaluated v x h = record { inside = h.inside; is = ap evaluated h.is }

  pub initialise_stands : (place : ℕ) (ty : TypeId) (v : NodeId) (c : CType) (x : Value) → Names t.types ty c → IsAt t x v → StatementStands t (typed.Initialise place c x) (Initialise place ty v)
  initialise_stands place ty v c x names h =
      let one = value_stands t x v h in
      record { inside = (names.inside, one.1); is = ap (λ z. typed.Initialise place z (value_at t v)) names.is ∙ ap (typed.Initialise place c) one.0 }

  pub return_stands : (from : ℕ) (v : NodeId) (x : Value) → IsAt t x v → StatementStands t (typed.Return from (OneValue x)) (Return from (Some v))
  return_stands from v x h = let one = value_stands t x v h in record { inside = one.1; is = ap (λ z. typed.Return from (OneValue z)) one.0 }

  -- ---- statements that are the same in each table

  pub break_stands : StatementStands t typed.Break Break
  break_stands = record { inside = tt; is = refl }

  pub continue_stands : StatementStands t typed.Continue Continue
  continue_stands = record { inside = tt; is = refl }
