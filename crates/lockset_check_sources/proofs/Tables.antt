-- In what stands for a program of a table, integer constants are of their kinds.
use Rattle.std.proofs.Common.{◌≡◌, ℕ, zero, suc, ◌-◌, Bool, true, false, cond, ltb, List, [], ◌∷◌, map, Option, Some, None, refl, subst}
use Rattle.std.specs.Prelude.{slice_get}
use Rattle.std.specs.List.{All}
use Rattle.std.specs.Option.{option_map}
use Rattle.std.proofs.lemmas.List.Elements.{All-head, All-tail}
use Rattle.marks.specs.Places.{builtin_count}
use Rattle.memory_map.specs.declared.placed.Placed.{Placed}
use Rattle.c_scopes.specs.Scopes.{Scope}
use Rattle.c_types_rules.specs.Environment.{Meaning}
use Rattle.c_types_rules.specs.TypedTree as tree
use Rattle.c_types_nodes.specs.declared.ids.NodeId.{NodeId}
use Rattle.c_types_nodes.specs.Tables.{IsTable, Table}
use mathlib.Core.Former.{Count}
use Rattle.c_types_program.specs.declared.function.Body.{Body}
use Rattle.c_types_program.specs.declared.function.Function.{Function}
use Rattle.c_types_program.specs.declared.statement.Statement.{Statement, Row_of-Statement, end_of-Statement, more_of-Statement}
use Rattle.c_types_program.specs.declared.statement.Statement as statements
use Rattle.c_types_program.specs.Declarations.{Declared, IsBody, IsFunction, IsSound, body_in, function_in}
use Rattle.c_types_program.specs.Programs.{program_in}
use Rattle.c_types_program.specs.Statements.{AreStatements, IsMaybeAt, IsStatement, maybe_at, row_in, statement_in}
use Rattle.c_semantics.specs.Context.{body_or}
use Rattle.lockset_check_threads.specs.Laws.{ConstantsAreOfKinds}
use Rattle.lockset_check_threads.specs.Typed.{InMaybe, InStatement, InStatements, IsConstantCall}
use Rattle.lockset_check_sources.proofs.Constants.{value_constant}

module _ (t : Table) (sound : IsTable t) where
  maybe_constant : (v : Option NodeId) → IsMaybeAt t v → InMaybe IsConstantCall (maybe_at t v)
  maybe_constant None h = tt
  maybe_constant (Some id) h = value_constant t sound id h

  mutual
    statement_constant : (z : Statement) → IsStatement t z → InStatement IsConstantCall true (statement_in t z)
    statement_constant (statements.Block' shape zs) h = row_constant zs h
    statement_constant (statements.Evaluate v) h = value_constant t sound v h
    statement_constant (statements.Initialise place ty v) h = value_constant t sound v h.1
    statement_constant (statements.If' v p z) h = (value_constant t sound v h.0, statement_constant z h.1)
    statement_constant (statements.IfElse' v p y q z) h = (value_constant t sound v h.0, statement_constant y h.1, statement_constant z h.2)
    statement_constant (statements.While' from v p z) h = (value_constant t sound v h.0, statement_constant z h.1)
    statement_constant (statements.Do' from p z v) h = (statement_constant z h.0, value_constant t sound v h.1)
    statement_constant (statements.For' from shape first v last p z) h = (row_constant first h.0, maybe_constant v h.1, maybe_constant last h.2, statement_constant z h.3)
    statement_constant statements.Break h = refl
    statement_constant statements.Continue h = refl
    statement_constant (statements.Return from v) h = maybe_constant v h

    row_constant : {m : Count} (zs : Row_of-Statement m) → AreStatements t zs → InStatements IsConstantCall true (row_in t zs)
    row_constant end_of-Statement h = tt
    row_constant (more_of-Statement z zs) h = (statement_constant z h.0, row_constant zs h.1)

  body_constant : (o : Option Body) (b : tree.Body) → IsBody t o → option_map (body_in t) o ≡ Some b → InStatement IsConstantCall true b.statements
  body_constant None b h e = absurd cc
  body_constant (Some c) b h e = let is : body_in t c ≡ b = cc in subst (λ (x : tree.Body). InStatement IsConstantCall true x.statements) is (statement_constant c.statements h.1)

  function_constant : (fs : List Function) (place : ℕ) (b : tree.Body) → All (IsFunction t) fs → body_or (slice_get (map (function_in t) fs) place) ≡ Some b → InStatement IsConstantCall true b.statements
  function_constant [] place b h e = absurd cc
  function_constant (f ∷ fs) zero b h e = let here = All-head (IsFunction t) f fs h in body_constant f.body b here.body e
  function_constant (f ∷ fs) (suc place) b h e = function_constant fs place b (All-tail (IsFunction t) f fs h) e

pub constants_are_of_kinds : (d : Declared) → IsTable d.table → IsSound d → (names : Scope Meaning) (texts : List ℕ) (placed : Placed) → ConstantsAreOfKinds (record { program = program_in d names; texts = texts; placed = placed })
constants_are_of_kinds d table sound names texts placed f b e = by (ltb f builtin_count) e
  where
    by : (low : Bool) → body_or (cond low None (slice_get (map (function_in d.table) d.functions) (f - builtin_count))) ≡ Some b → InStatement IsConstantCall true b.statements
    by true q = absurd cc
    by false q = function_constant d.table table d.functions (f - builtin_count) b sound.functions q
