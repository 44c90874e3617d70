-- Statements are as deep as their syntax says.
use Rattle.std.proofs.Common.{◌≡◌, ℕ, max, List, refl, arith}
use Rattle.c_syntax.specs.Syntax.{Expr, MaybeExpr, Stmt, Entries, Entry, First, NoExpr, OneExpr, Block, Expression, If, IfElse, While, Do, For, Break, Continue, Return, NoEntries, MoreEntries, LocalEntry, StmtEntry, NoFirst, LocalFirst, ExprFirst}
use Rattle.c_types_model.specs.Types.{CType, Void, Integer, PointerTo, ArrayOf, StructOf, UndefinedStruct, FunctionOf}
use Rattle.c_types_rules.specs.Checked.{Checked, Fine, ◌>>=◌}
use Rattle.c_types_rules.specs.TypeTests.{is_void}
use Rattle.c_types_rules.specs.Environment.{Environment}
use Rattle.c_types_rules.specs.Expressions.{start_of}
use Rattle.c_types_rules.specs.Operators.{assigned}
use Rattle.c_types_rules.specs.TypedTree.{Value, MaybeValue, NoValue, OneValue, Statement, Statements, joined}
use Rattle.c_types_rules.specs.TypedTree as typed
use Rattle.c_types_rules.specs.Statements.{Declared, Surroundings, condition_in, entries, entry, evaluated, first, inside, looping, maybe_condition, maybe_in, outside, returned, statement, value_in}
use Rattle.c_types_rules.specs.Sources.{block_of}
use Rattle.c_lower_placement.specs.Heights.{statement_depth, statements_depth, value_depth}
use Rattle.c_lower_placement.specs.Heights as heights
use Rattle.c_lower_depth_laws.specs.Expressions.{expression_depth, unevaluated_depth, whole_depth}
use Rattle.c_lower_depth_laws.specs.Bodies.{after_entry, after_first, entries_depth, entry_depth, first_depth, maybe_depth, stmt_depth}
use Rattle.c_lower_depth_laws.specs.Names.{AgreesIn}
use Rattle.c_lower_depth_laws.proofs.Agreeing.{agrees_inner}
use Rattle.c_lower_depth_laws.proofs.Expressions.{Any}
use Rattle.c_lower_depth_laws.proofs.Locals.{Declares, assigned_found, condition_reaches, joined_depth, locals_reach, made_depth, maybe_condition_reaches, maybe_reaches, value_reaches}
use Rattle.c_lower_depth_laws.proofs.Reached.{Reaches, Same, reaches_as, reaches_found, reaches_kept, reaches_last, reaches_once, reaches_start, reaches_then}

-- the statement that is made
abbrev pub depth_at : List CType × Statement → ℕ
depth_at a = statement_depth a.1

abbrev pub depths_at : List CType × Statements → ℕ
depths_at a = statements_depth a.1

-- ---- numbers

none : (n : ℕ) → max n 0 ≡ n
none n = omega arith

of_three : (a b c : ℕ) → max a (max b c) ≡ max (max a b) c
of_three a b c = omega arith

of_four : (a b c d : ℕ) → max a (max b (max c d)) ≡ max (max (max a b) c) d
of_four a b c d = omega arith

at_least_one : (n k : ℕ) → Same (max (max 1 n) k) (max n k)
at_least_one n k = omega arith

-- ---- returns

return_reaches : (x : Expr) (objects : List (List ℕ)) (env : Environment) (from : ℕ) (t : CType) → AgreesIn objects env → Reaches statement_depth Any (whole_depth x objects) (value_in env x >>= (λ v. assigned (start_of x) t v >>= (λ w. Fine (typed.Return from (OneValue w)))))
return_reaches x objects env from t agrees =
    let made = value_in env x >>= (λ v. assigned (start_of x) t v >>= (λ w. Fine (typed.Return from (OneValue w)))) in
    reaches_as statement_depth Any (max (max 1 (expression_depth x objects)) (unevaluated_depth x objects)) (whole_depth x objects) made (at_least_one (expression_depth x objects) (unevaluated_depth x objects))
    (reaches_found statement_depth Any (max 1 (expression_depth x objects)) (unevaluated_depth x objects) made
    (assigned_found statement_depth x objects env t (λ w. typed.Return from (OneValue w)) (max 1) (λ v. refl) agrees))

returned_reaches : (x : MaybeExpr) (objects : List (List ℕ)) (env : Environment) (from : ℕ) (t : CType) → AgreesIn objects env → Reaches statement_depth Any (maybe_depth x objects) (returned env from t x)
returned_reaches NoExpr objects env from t agrees = reaches_kept statement_depth Any 0 from 12 (is_void t) (Fine (typed.Return from NoValue)) (tt, refl)
returned_reaches (OneExpr x) objects env from Void agrees = tt
returned_reaches (OneExpr x) objects env from (Integer k) agrees = return_reaches x objects env from (Integer k) agrees
returned_reaches (OneExpr x) objects env from (PointerTo t) agrees = return_reaches x objects env from (PointerTo t) agrees
returned_reaches (OneExpr x) objects env from (ArrayOf n t) agrees = return_reaches x objects env from (ArrayOf n t) agrees
returned_reaches (OneExpr x) objects env from (StructOf n) agrees = return_reaches x objects env from (StructOf n) agrees
returned_reaches (OneExpr x) objects env from (UndefinedStruct tag) agrees = return_reaches x objects env from (UndefinedStruct tag) agrees
returned_reaches (OneExpr x) objects env from (FunctionOf r ts) agrees = return_reaches x objects env from (FunctionOf r ts) agrees

evaluated_depth : (v : MaybeValue) → statement_depth (evaluated v) ≡ heights.maybe_depth v
evaluated_depth NoValue = refl
evaluated_depth (OneValue v) = refl

-- ---- loops

-- what follows the first part of a `for`
looped_reaches : (from : ℕ) (a : Declared × Statements) (x y : MaybeExpr) (objects : List (List ℕ)) (k : ℕ) (c : Checked (List CType × Statement)) → AgreesIn objects a.0.env → Reaches depth_at Any k c
    → Reaches depth_at Any (max (made_depth a) (max (maybe_depth x objects) (max (maybe_depth y objects) k))) (maybe_condition a.0.env x >>= (λ v. maybe_in a.0.env y >>= (λ z. c >>= (λ b. Fine (b.0, typed.For from a.1 v z b.1)))))
looped_reaches from a x y objects k c agrees h =
    reaches_then heights.maybe_depth Any depth_at Any (made_depth a) (maybe_depth x objects) (max (maybe_depth y objects) k) (maybe_condition a.0.env x) _ (maybe_condition_reaches x objects a.0.env agrees)
    (λ v i. reaches_then heights.maybe_depth Any depth_at Any (max (made_depth a) (heights.maybe_depth v)) (maybe_depth y objects) k (maybe_in a.0.env y) _ (maybe_reaches y objects a.0.env agrees)
    (λ z j. reaches_last depth_at Any depth_at Any (max (max (made_depth a) (heights.maybe_depth v)) (heights.maybe_depth z)) k c (λ b. (b.0, typed.For from a.1 v z b.1)) h
    (λ b l. (tt, of_four (made_depth a) (heights.maybe_depth v) (heights.maybe_depth z) (depth_at b)))))

-- ---- statements

mutual
  pub statement_reaches : (s : Stmt) (objects : List (List ℕ)) (p : Surroundings) (d : Declared) → AgreesIn objects d.env → Reaches depth_at Any (stmt_depth s objects) (statement s p d)
  statement_reaches (Block from es) objects p d agrees =
      reaches_once depths_at Any depth_at Any (entries_depth es objects) (entries es p (inside d)) (λ a. (a.0, typed.Block a.1)) (entries_reach es objects p (inside d) (agrees_inner objects d.env agrees)) (λ a h. (tt, refl))
  statement_reaches (Expression from x) objects p d agrees =
      reaches_once heights.maybe_depth Any depth_at Any (maybe_depth x objects) (maybe_in d.env x) (λ v. (d.locals, evaluated v)) (maybe_reaches x objects d.env agrees) (λ v h. (tt, evaluated_depth v))
  statement_reaches (If from x s) objects p d agrees =
      reaches_start value_depth Any depth_at Any (whole_depth x objects) (stmt_depth s objects) (condition_in d.env x) _ (condition_reaches x objects d.env agrees)
      (λ c h. reaches_last depth_at Any depth_at Any (value_depth c) (stmt_depth s objects) (statement s p d) (λ a. (a.0, typed.If c a.1)) (statement_reaches s objects p d agrees) (λ a k. (tt, refl)))
  statement_reaches (IfElse from x s z) objects p d agrees =
      reaches_start value_depth Any depth_at Any (whole_depth x objects) (max (stmt_depth s objects) (stmt_depth z objects)) (condition_in d.env x) _ (condition_reaches x objects d.env agrees)
      (λ c h. reaches_then depth_at Any depth_at Any (value_depth c) (stmt_depth s objects) (stmt_depth z objects) (statement s p d) _ (statement_reaches s objects p d agrees)
      (λ a k. reaches_last depth_at Any depth_at Any (max (value_depth c) (depth_at a)) (stmt_depth z objects) (statement z p (outside d.env a.0)) (λ b. (b.0, typed.IfElse c a.1 b.1)) (statement_reaches z objects p (outside d.env a.0) agrees)
      (λ b j. (tt, of_three (value_depth c) (depth_at a) (depth_at b)))))
  statement_reaches (While from x s) objects p d agrees =
      reaches_start value_depth Any depth_at Any (whole_depth x objects) (stmt_depth s objects) (condition_in d.env x) _ (condition_reaches x objects d.env agrees)
      (λ c h. reaches_last depth_at Any depth_at Any (value_depth c) (stmt_depth s objects) (statement s (looping p) d) (λ a. (a.0, typed.While from c a.1)) (statement_reaches s objects (looping p) d agrees) (λ a k. (tt, refl)))
  statement_reaches (Do from s x) objects p d agrees =
      reaches_start depth_at Any depth_at Any (stmt_depth s objects) (whole_depth x objects) (statement s (looping p) d) _ (statement_reaches s objects (looping p) d agrees)
      (λ a h. reaches_last value_depth Any depth_at Any (depth_at a) (whole_depth x objects) (condition_in d.env x) (λ c. (a.0, typed.Do from a.1 c)) (condition_reaches x objects d.env agrees) (λ c k. (tt, refl)))
  statement_reaches (For from f x y s) objects p d agrees =
      reaches_start made_depth (Declares (after_first f objects)) depth_at Any (first_depth f objects) (max (maybe_depth x (after_first f objects)) (max (maybe_depth y (after_first f objects)) (stmt_depth s (after_first f objects)))) (first f p (inside d))
      (λ a. maybe_condition a.0.env x >>= (λ c. maybe_in a.0.env y >>= (λ z. statement s (looping p) a.0 >>= (λ b. Fine (b.0, typed.For from a.1 c z b.1)))))
      (first_reach f objects p (inside d) (agrees_inner objects d.env agrees))
      (λ a h. looped_reaches from a x y (after_first f objects) (stmt_depth s (after_first f objects)) (statement s (looping p) a.0) h (statement_reaches s (after_first f objects) (looping p) a.0 h))
  statement_reaches (Break from) objects p d agrees = reaches_kept depth_at Any 0 from 11 p.in_loop (Fine (d.locals, typed.Break)) (tt, refl)
  statement_reaches (Continue from) objects p d agrees = reaches_kept depth_at Any 0 from 11 p.in_loop (Fine (d.locals, typed.Continue)) (tt, refl)
  statement_reaches (Return from x) objects p d agrees =
      reaches_once statement_depth Any depth_at Any (maybe_depth x objects) (returned d.env from p.result x) (λ s. (d.locals, s)) (returned_reaches x objects d.env from p.result agrees) (λ s h. (tt, refl))

  pub entries_reach : (es : Entries) (objects : List (List ℕ)) (p : Surroundings) (d : Declared) → AgreesIn objects d.env → Reaches depths_at Any (entries_depth es objects) (entries es p d)
  entries_reach NoEntries objects p d agrees = (tt, refl)
  entries_reach (MoreEntries e es) objects p d agrees =
      let o = after_entry e objects in
      reaches_start made_depth (Declares o) depths_at Any (entry_depth e objects) (entries_depth es o) (entry e p d) (λ a. entries es p a.0 >>= (λ b. Fine (b.0, joined a.1 b.1))) (entry_reaches e objects p d agrees)
      (λ a h. reaches_last depths_at Any depths_at Any (made_depth a) (entries_depth es o) (entries es p a.0) (λ b. (b.0, joined a.1 b.1)) (entries_reach es o p a.0 h) (λ b k. (tt, joined_depth a.1 b.1)))

  entry_reaches : (e : Entry) (objects : List (List ℕ)) (p : Surroundings) (d : Declared) → AgreesIn objects d.env → Reaches made_depth (Declares (after_entry e objects)) (entry_depth e objects) (entry e p d)
  entry_reaches (LocalEntry ds) objects p d agrees = locals_reach ds objects d agrees
  entry_reaches (StmtEntry s) objects p d agrees =
      reaches_once depth_at Any made_depth (Declares objects) (stmt_depth s objects) (statement s p d) (λ a. (outside d.env a.0, typed.MoreStatements a.1 typed.NoStatements)) (statement_reaches s objects p d agrees) (λ a h. (agrees, none (depth_at a)))

  first_reach : (f : First) (objects : List (List ℕ)) (p : Surroundings) (d : Declared) → AgreesIn objects d.env → Reaches made_depth (Declares (after_first f objects)) (first_depth f objects) (first f p d)
  first_reach NoFirst objects p d agrees = (agrees, refl)
  first_reach (LocalFirst ds) objects p d agrees = locals_reach ds objects d agrees
  first_reach (ExprFirst x) objects p d agrees =
      reaches_once value_depth Any made_depth (Declares objects) (whole_depth x objects) (value_in d.env x) (λ v. (d, typed.MoreStatements (typed.Evaluate v) typed.NoStatements)) (value_reaches x objects d.env agrees) (λ v h. (agrees, none (value_depth v)))

-- the outermost block of a function
pub block_reaches : (s : Stmt) (objects : List (List ℕ)) (p : Surroundings) (d : Declared) → AgreesIn objects d.env → Reaches depth_at Any (stmt_depth s objects) (block_of s p d)
block_reaches (Block from es) objects p d agrees = reaches_once depths_at Any depth_at Any (entries_depth es objects) (entries es p d) (λ a. (a.0, typed.Block a.1)) (entries_reach es objects p d agrees) (λ a h. (tt, refl))
block_reaches s objects p d agrees = statement_reaches s objects p d agrees
