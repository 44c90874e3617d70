-- The functions of a typed source convert their results, since a `return` does so as if by assignment.
use Rattle.std.proofs.Common.{◌≡◌, ℕ, Bool, true, false, List, [], refl}
use Rattle.c_syntax.specs.Syntax.{Expr, MaybeExpr, Decl, Decls, Parts, Rest, Stmt, Entries, Entry, First, NoExpr, OneExpr, Declare, NoDecls, MoreDecls, Plain, Braces, NoRest, Initial, Body, Members, Block, Expression, If, IfElse, While, Do, For, Break, Continue, Return, NoEntries, MoreEntries, LocalEntry, StmtEntry, NoFirst, LocalFirst, ExprFirst}
use Rattle.c_types_model.specs.Types.{CType, Void, Integer, PointerTo, ArrayOf, StructOf, UndefinedStruct, FunctionOf}
use Rattle.c_types_rules.specs.Checked.{Checked, Fine, Noted, Notes, Broken, heard, keep, noting, ◌>>=◌, ◌>>◌}
use Rattle.c_types_rules.specs.Environment.{Environment, inner}
use Rattle.c_types_rules.specs.Operators.{assigned, fits}
use Rattle.c_types_rules.specs.TypedTree.{Value, MaybeValue, Statements, Convert, joined, value_type}
use Rattle.c_types_rules.specs.TypedTree as typed
use Rattle.c_types_rules.specs.Expressions.{start_of, parameter_types}
use Rattle.c_types_rules.specs.Statements.{Declared, Surroundings, condition_in, entries, entry, first, first_value, local, locals_of, looping, maybe_condition, maybe_in, outside, returned, start_of_stmt, statement, value_in}
use Rattle.c_types_rules.specs.Sources.{block_of, body_of, result_of, block_body, nearest}
use Rattle.c_semantics.specs.Returned.{IsConverted, Converts, AllConvert}
use Rattle.c_semantics.specs.Values.{is_read}

-- what holds of what is found, where something is
abbrev pub Holds : {A : Type 0} → (A → Type 0) → Checked A → Type 0
Holds P (Fine x) = P x
Holds P (Noted n x) = P x
Holds P (Broken from rule) = Unit {0}

pub holds_noting : {A : Type 0} (P : A → Type 0) (n : Notes) (c : Checked A) → Holds P c → Holds P (noting n c)
holds_noting P n (Fine x) h = h
holds_noting P n (Noted m x) h = h
holds_noting P n (Broken from rule) h = h

pub holds_heard : {A : Type 0} (P : A → Type 0) (c : Checked A) → Holds P c → Holds (λ a. P a.0) (heard c)
holds_heard P (Fine x) h = h
holds_heard P (Noted n x) h = h
holds_heard P (Broken from rule) h = h

pub holds_then : {A B : Type 0} (P : A → Type 0) (Q : B → Type 0) (c : Checked A) (f : A → Checked B) → Holds P c → ((x : A) → P x → Holds Q (f x)) → Holds Q (c >>= f)
holds_then P Q (Fine x) f h g = g x h
holds_then P Q (Noted n x) f h g = holds_noting Q n (f x) (g x h)
holds_then P Q (Broken from rule) f h g = tt

-- whatever is found first
pub holds_on : {A B : Type 0} (Q : B → Type 0) (c : Checked A) (f : A → Checked B) → ((x : A) → Holds Q (f x)) → Holds Q (c >>= f)
holds_on Q (Fine x) f g = g x
holds_on Q (Noted n x) f g = holds_noting Q n (f x) (g x)
holds_on Q (Broken from rule) f g = tt

pub holds_after : {A B : Type 0} (Q : B → Type 0) (c : Checked A) (y : Checked B) → Holds Q y → Holds Q (c >> y)
holds_after Q (Fine x) y h = h
holds_after Q (Noted n x) y h = holds_noting Q n y h
holds_after Q (Broken from rule) y h = tt

pub holds_kept : {B : Type 0} (Q : B → Type 0) (from rule : ℕ) (b : Bool) (y : Checked B) → (b ≡ true → Holds Q y) → Holds Q (keep from rule b >> y)
holds_kept Q from rule true y h = h refl
holds_kept Q from rule false y h = tt

-- ---- values that are returned

pub scalar_fits : (t u : CType) (v : Value) → fits t u v ≡ true → is_read t ≡ true
scalar_fits (Integer k) u v e = refl
scalar_fits (PointerTo t) u v e = refl
scalar_fits Void u v e = absurd cc
scalar_fits (ArrayOf n t) u v e = absurd cc
scalar_fits (StructOf n) u v e = absurd cc
scalar_fits (UndefinedStruct tag) u v e = absurd cc
scalar_fits (FunctionOf t ts) u v e = absurd cc

assigned_converts : (from : ℕ) (t : CType) (v : Value) → Holds (IsConverted t) (assigned from t v)
assigned_converts from t v = holds_kept (IsConverted t) from 6 (fits t (value_type v) v) (Fine (Convert t v)) (λ e. (refl, scalar_fits t (value_type v) v e))

returned_value : (env : Environment) (from : ℕ) (t : CType) (x : Expr) → Holds (Converts t) (value_in env x >>= (λ v. assigned (start_of x) t v >>= (λ w. Fine (typed.Return from (typed.OneValue w)))))
returned_value env from t x =
    holds_on (Converts t) (value_in env x) (λ v. assigned (start_of x) t v >>= (λ w. Fine (typed.Return from (typed.OneValue w))))
    (λ v. holds_then (IsConverted t) (Converts t) (assigned (start_of x) t v) (λ w. Fine (typed.Return from (typed.OneValue w))) (assigned_converts (start_of x) t v) (λ w h. h))

returned_converts : (env : Environment) (from : ℕ) (t : CType) (x : MaybeExpr) → Holds (Converts t) (returned env from t x)
returned_converts env from t NoExpr = holds_after (Converts t) (keep from 12 _) (Fine (typed.Return from typed.NoValue)) tt
returned_converts env from Void (OneExpr x) = tt
returned_converts env from (Integer k) (OneExpr x) = returned_value env from (Integer k) x
returned_converts env from (PointerTo t) (OneExpr x) = returned_value env from (PointerTo t) x
returned_converts env from (ArrayOf n t) (OneExpr x) = returned_value env from (ArrayOf n t) x
returned_converts env from (StructOf n) (OneExpr x) = returned_value env from (StructOf n) x
returned_converts env from (UndefinedStruct tag) (OneExpr x) = returned_value env from (UndefinedStruct tag) x
returned_converts env from (FunctionOf t ts) (OneExpr x) = returned_value env from (FunctionOf t ts) x

-- ---- statements

joined_convert : (t : CType) (a b : Statements) → AllConvert t a → AllConvert t b → AllConvert t (joined a b)
joined_convert t typed.NoStatements b h k = k
joined_convert t (typed.MoreStatements s a) b h k = (h.0, joined_convert t a b h.1 k)

-- what is declared with statements that return nothing else
abbrev pub Ends : {A : Type 0} → CType → A × Statements → Type 0
Ends t a = AllConvert t a.1

first_converts : (t : CType) (env : Environment) (from place : ℕ) (u : CType) (r : Rest) → Holds (AllConvert t) (first_value env from place u r)
first_converts t env from place u NoRest = tt
first_converts t env from place u (Initial (Plain x)) =
    holds_after (AllConvert t) (keep from 17 _) _ (holds_on (AllConvert t) (value_in env x) _ (λ v. holds_on (AllConvert t) (assigned (start_of x) u v) _ (λ w. (tt, tt))))
first_converts t env from place u (Initial (Braces at vs)) = tt
first_converts t env from place u (Body s) = tt
first_converts t env from place u (Members ds) = tt

abbrev pub Made : CType → List CType × typed.Statement → Type 0
Made t a = Converts t a.1

abbrev pub MadeAll : CType → List CType × Statements → Type 0
MadeAll t a = AllConvert t a.1

abbrev pub Declares : CType → Declared × Statements → Type 0
Declares t a = AllConvert t a.1

local_converts : (t : CType) (x : Decl) (d : Declared) → Holds (Declares t) (local x d)
local_converts t (Declare from an b ps n r) d = search (holds_on, holds_after, then_same)
  where
    then_same : (env : Environment) (from place : ℕ) (u : CType) (next : Declared) → Holds (Declares t) (first_value env from place u r >>= (λ a. Fine (next, a)))
    then_same env from place u next = holds_then (AllConvert t) (Declares t) (first_value env from place u r) (λ a. Fine (next, a)) (first_converts t env from place u r) (λ a h. h)

locals_convert : (t : CType) (xs : Decls) (d : Declared) → Holds (Declares t) (locals_of xs d)
locals_convert t NoDecls d = tt
locals_convert t (MoreDecls x xs) d =
    holds_then (Declares t) (Declares t) (local x d) (λ a. locals_of xs a.0 >>= (λ b. Fine (b.0, joined a.1 b.1))) (local_converts t x d)
    (λ a h. holds_then (Declares t) (Declares t) (locals_of xs a.0) (λ b. Fine (b.0, joined a.1 b.1)) (locals_convert t xs a.0) (λ b k. joined_convert t a.1 b.1 h k))

-- an expression statement
abbrev evaluated : MaybeValue → typed.Statement
evaluated typed.NoValue = typed.Block typed.NoStatements
evaluated (typed.OneValue v) = typed.Evaluate v

evaluated_converts : (t : CType) (v : MaybeValue) → Converts t (evaluated v)
evaluated_converts t typed.NoValue = tt
evaluated_converts t (typed.OneValue v) = tt

abbrev inside : Declared → Declared
inside d = record d { env = inner d.env }

mutual
  pub statement_converts : (s : Stmt) (p : Surroundings) (d : Declared) → Holds (Made p.result) (statement s p d)
  statement_converts (Block from es) p d = holds_then (MadeAll p.result) (Made p.result) (entries es p (inside d)) (λ a. Fine (a.0, typed.Block a.1)) (entries_convert es p (inside d)) (λ a h. h)
  statement_converts (Expression from x) p d = holds_on (Made p.result) (maybe_in d.env x) (λ v. Fine (d.locals, evaluated v)) (λ v. evaluated_converts p.result v)
  statement_converts (If from x s) p d =
      holds_on (Made p.result) (condition_in d.env x) (λ c. statement s p d >>= (λ a. Fine (a.0, typed.If c a.1)))
      (λ c. holds_then (Made p.result) (Made p.result) (statement s p d) (λ a. Fine (a.0, typed.If c a.1)) (statement_converts s p d) (λ a h. h))
  statement_converts (IfElse from x s z) p d =
      holds_on (Made p.result) (condition_in d.env x) (λ c. statement s p d >>= (λ a. statement z p (outside d.env a.0) >>= (λ b. Fine (b.0, typed.IfElse c a.1 b.1))))
      (λ c. holds_then (Made p.result) (Made p.result) (statement s p d) (λ a. statement z p (outside d.env a.0) >>= (λ b. Fine (b.0, typed.IfElse c a.1 b.1))) (statement_converts s p d)
      (λ a h. holds_then (Made p.result) (Made p.result) (statement z p (outside d.env a.0)) (λ b. Fine (b.0, typed.IfElse c a.1 b.1)) (statement_converts z p (outside d.env a.0)) (λ b k. (h, k))))
  statement_converts (While from x s) p d =
      holds_on (Made p.result) (condition_in d.env x) (λ c. statement s (looping p) d >>= (λ a. Fine (a.0, typed.While from c a.1)))
      (λ c. holds_then (Made p.result) (Made p.result) (statement s (looping p) d) (λ a. Fine (a.0, typed.While from c a.1)) (statement_converts s (looping p) d) (λ a h. h))
  statement_converts (Do from s x) p d =
      holds_then (Made p.result) (Made p.result) (statement s (looping p) d) (λ a. condition_in d.env x >>= (λ c. Fine (a.0, typed.Do from a.1 c))) (statement_converts s (looping p) d)
      (λ a h. holds_on (Made p.result) (condition_in d.env x) (λ c. Fine (a.0, typed.Do from a.1 c)) (λ c. h))
  statement_converts (For from f x y s) p d =
      holds_then (Declares p.result) (Made p.result) (first f p (inside d))
      (λ a. maybe_condition a.0.env x >>= (λ c. maybe_in a.0.env y >>= (λ z. statement s (looping p) a.0 >>= (λ b. Fine (b.0, typed.For from a.1 c z b.1))))) (first_part_converts f p (inside d))
      (λ a h. holds_on (Made p.result) (maybe_condition a.0.env x) (λ c. maybe_in a.0.env y >>= (λ z. statement s (looping p) a.0 >>= (λ b. Fine (b.0, typed.For from a.1 c z b.1))))
      (λ c. holds_on (Made p.result) (maybe_in a.0.env y) (λ z. statement s (looping p) a.0 >>= (λ b. Fine (b.0, typed.For from a.1 c z b.1)))
      (λ z. holds_then (Made p.result) (Made p.result) (statement s (looping p) a.0) (λ b. Fine (b.0, typed.For from a.1 c z b.1)) (statement_converts s (looping p) a.0) (λ b k. (h, k)))))
  statement_converts (Break from) p d = holds_after (Made p.result) (keep from 11 p.in_loop) (Fine (d.locals, typed.Break)) tt
  statement_converts (Continue from) p d = holds_after (Made p.result) (keep from 11 p.in_loop) (Fine (d.locals, typed.Continue)) tt
  statement_converts (Return from x) p d = holds_then (Converts p.result) (Made p.result) (returned d.env from p.result x) (λ s. Fine (d.locals, s)) (returned_converts d.env from p.result x) (λ s h. h)

  pub entries_convert : (es : Entries) (p : Surroundings) (d : Declared) → Holds (MadeAll p.result) (entries es p d)
  entries_convert NoEntries p d = tt
  entries_convert (MoreEntries e es) p d =
      holds_then (Declares p.result) (MadeAll p.result) (entry e p d) (λ a. entries es p a.0 >>= (λ b. Fine (b.0, joined a.1 b.1))) (entry_converts e p d)
      (λ a h. holds_then (MadeAll p.result) (MadeAll p.result) (entries es p a.0) (λ b. Fine (b.0, joined a.1 b.1)) (entries_convert es p a.0) (λ b k. joined_convert p.result a.1 b.1 h k))

  entry_converts : (e : Entry) (p : Surroundings) (d : Declared) → Holds (Declares p.result) (entry e p d)
  entry_converts (LocalEntry ds) p d = locals_convert p.result ds d
  entry_converts (StmtEntry s) p d =
      holds_then (Made p.result) (Declares p.result) (statement s p d) (λ a. Fine (outside d.env a.0, typed.MoreStatements a.1 typed.NoStatements)) (statement_converts s p d) (λ a h. (h, tt))

  first_part_converts : (f : First) (p : Surroundings) (d : Declared) → Holds (Declares p.result) (first f p d)
  first_part_converts NoFirst p d = tt
  first_part_converts (LocalFirst ds) p d = locals_convert p.result ds d
  first_part_converts (ExprFirst x) p d = holds_on (Declares p.result) (value_in d.env x) (λ v. Fine (d, typed.MoreStatements (typed.Evaluate v) typed.NoStatements)) (λ v. (tt, tt))

-- ---- bodies

block_converts : (s : Stmt) (p : Surroundings) (d : Declared) → Holds (Made p.result) (block_of s p d)
block_converts (Block from es) p d = holds_then (MadeAll p.result) (Made p.result) (entries es p d) (λ a. Fine (a.0, typed.Block a.1)) (entries_convert es p d) (λ a h. h)
block_converts s p d = statement_converts s p d

-- the body gives values of the result of the function type
abbrev pub Gives : CType → typed.Body → Type 0
Gives t b = Converts (result_of t) b.statements

block_gives : (env : Environment) (t : CType) (ps : Parts) (s : Stmt) → Holds (Gives t) (block_body env t ps s)
block_gives env t ps s = search (holds_on, then_block)
  where
    then_block : (d : Declared) → Holds (Gives t) (heard (block_of s (record { result = result_of t; in_loop = false }) d) >>= (λ a. Fine (record { from = start_of_stmt s; locals = a.0.0; statements = a.0.1; in_params = []; unevaluated = a.1 })))
    then_block d = holds_then (λ a. Made (result_of t) a.0) (Gives t) (heard (block_of s (record { result = result_of t; in_loop = false }) d)) (λ a. Fine (record { from = start_of_stmt s; locals = a.0.0; statements = a.0.1; in_params = []; unevaluated = a.1 })) (holds_heard (Made (result_of t)) (block_of s (record { result = result_of t; in_loop = false }) d) (block_converts s (record { result = result_of t; in_loop = false }) d)) (λ a h. h)

pub body_gives : (env : Environment) (t : CType) (ps : Parts) (s : Stmt) → Holds (Gives t) (body_of env t ps s)
body_gives env t ps s = holds_on (Gives t) (heard (parameter_types (nearest ps) (inner env) 0)) _ (λ us. holds_then (Gives t) (Gives t) (block_body env t ps s) _ (block_gives env t ps s) (λ b h. h))
