-- The locals of a typed body begin with its parameters.
use Rattle.c_types_rules.specs.Expressions.{parameter_types}
use Rattle.std.proofs.Common.{◌≡◌, ℕ, false, List, [], ◌∷◌, ◌++◌, append-nil, append_assoc, refl, sym, ap, ◌∙◌}
use Rattle.c_syntax.specs.Syntax.{Decl, Decls, Parts, Stmt, Entries, Entry, First, Declare, NoDecls, MoreDecls, Block, Expression, If, IfElse, While, Do, For, Break, Continue, Return, NoEntries, MoreEntries, LocalEntry, StmtEntry, NoFirst, LocalFirst, ExprFirst}
use Rattle.c_types_model.specs.Types.{CType}
use Rattle.c_types_rules.specs.Checked.{Checked, Fine, heard, keep, ◌>>=◌, ◌>>◌}
use Rattle.c_types_rules.specs.Environment.{Environment, inner}
use Rattle.c_types_rules.specs.TypedTree.{Statement, Statements}
use Rattle.c_types_rules.specs.TypedTree as typed
use Rattle.c_types_rules.specs.Statements.{Declared, Surroundings, condition_in, entries, entry, first, inside, local, locals_of, looping, maybe_condition, maybe_in, outside, returned, statement, value_in}
use Rattle.c_types_rules.specs.Sources.{block_of, body_of, listed, nearest, parameters, params_of, result_of, block_body}
use Rattle.c_lower_laws.proofs.Held.{Holds, holds_heard, holds_then, holds_on, holds_after}

-- the second list begins with the first
abbrev pub Starts : List CType → List CType → Type 0
Starts ts us = (more : List CType) × (ts ++ more ≡ us)

starts_itself : (ts : List CType) → Starts ts ts
starts_itself ts = ([], append-nil ts)

starts_on : (ts us vs : List CType) → Starts ts us → Starts us vs → Starts ts vs
starts_on ts us vs h k = (h.0 ++ k.0, sym (append_assoc ts h.0 k.0) ∙ (ap (λ l. l ++ k.0) h.1 ∙ k.1))

-- the locals up to the end of a statement, of several, and of what is declared, where these were there before
abbrev Grows : List CType → List CType × Statement → Type 0
Grows before a = Starts before a.0

abbrev GrowsAll : List CType → List CType × Statements → Type 0
GrowsAll before a = Starts before a.0

abbrev Adds : List CType → Declared × Statements → Type 0
Adds before a = Starts before a.0.locals

local_adds : (e : Decl) (d : Declared) → Holds (Adds d.locals) (local e d)
local_adds (Declare from an b ps n r) d = search (holds_on, holds_after, one_more)
  where
    one_more : (t : CType) → Starts d.locals (d.locals ++ t ∷ [])
    one_more t = (t ∷ [], refl)

locals_add : (es : Decls) (d : Declared) → Holds (Adds d.locals) (locals_of es d)
locals_add NoDecls d = starts_itself d.locals
locals_add (MoreDecls e es) d =
    holds_then (Adds d.locals) (Adds d.locals) (local e d) _ (local_adds e d)
    (λ a h. holds_then (Adds a.0.locals) (Adds d.locals) (locals_of es a.0) _ (locals_add es a.0) (λ b k. starts_on d.locals a.0.locals b.0.locals h k))

mutual
  statement_grows : (s : Stmt) (p : Surroundings) (d : Declared) → Holds (Grows d.locals) (statement s p d)
  statement_grows (Block from es) p d = holds_then (GrowsAll d.locals) (Grows d.locals) (entries es p (inside d)) _ (entries_grow es p (inside d)) (λ a h. h)
  statement_grows (Expression from e) p d = holds_on (Grows d.locals) (maybe_in d.env e) _ (λ v. starts_itself d.locals)
  statement_grows (If from e s) p d = holds_on (Grows d.locals) (condition_in d.env e) _ (λ c. holds_then (Grows d.locals) (Grows d.locals) (statement s p d) _ (statement_grows s p d) (λ a h. h))
  statement_grows (IfElse from e s z) p d =
      holds_on (Grows d.locals) (condition_in d.env e) _ (λ c. holds_then (Grows d.locals) (Grows d.locals) (statement s p d) _ (statement_grows s p d)
      (λ a h. holds_then (Grows a.0) (Grows d.locals) (statement z p (outside d.env a.0)) _ (statement_grows z p (outside d.env a.0)) (λ b k. starts_on d.locals a.0 b.0 h k)))
  statement_grows (While from e s) p d =
      holds_on (Grows d.locals) (condition_in d.env e) _ (λ c. holds_then (Grows d.locals) (Grows d.locals) (statement s (looping p) d) _ (statement_grows s (looping p) d) (λ a h. h))
  statement_grows (Do from s e) p d =
      holds_then (Grows d.locals) (Grows d.locals) (statement s (looping p) d) _ (statement_grows s (looping p) d) (λ a h. holds_on (Grows d.locals) (condition_in d.env e) _ (λ c. h))
  statement_grows (For from f e l s) p d =
      holds_then (Adds d.locals) (Grows d.locals) (first f p (inside d)) _ (first_adds f p (inside d))
      (λ a h. holds_on (Grows d.locals) (maybe_condition a.0.env e) _ (λ c. holds_on (Grows d.locals) (maybe_in a.0.env l) _
      (λ z. holds_then (Grows a.0.locals) (Grows d.locals) (statement s (looping p) a.0) _ (statement_grows s (looping p) a.0) (λ b k. starts_on d.locals a.0.locals b.0 h k))))
  statement_grows (Break from) p d = holds_after (Grows d.locals) (keep from 11 p.in_loop) (Fine (d.locals, typed.Break)) (starts_itself d.locals)
  statement_grows (Continue from) p d = holds_after (Grows d.locals) (keep from 11 p.in_loop) (Fine (d.locals, typed.Continue)) (starts_itself d.locals)
  statement_grows (Return from e) p d = holds_on (Grows d.locals) (returned d.env from p.result e) _ (λ s. starts_itself d.locals)

  entries_grow : (es : Entries) (p : Surroundings) (d : Declared) → Holds (GrowsAll d.locals) (entries es p d)
  entries_grow NoEntries p d = starts_itself d.locals
  entries_grow (MoreEntries e es) p d =
      holds_then (Adds d.locals) (GrowsAll d.locals) (entry e p d) _ (entry_adds e p d)
      (λ a h. holds_then (GrowsAll a.0.locals) (GrowsAll d.locals) (entries es p a.0) _ (entries_grow es p a.0) (λ b k. starts_on d.locals a.0.locals b.0 h k))

  entry_adds : (e : Entry) (p : Surroundings) (d : Declared) → Holds (Adds d.locals) (entry e p d)
  entry_adds (LocalEntry ds) p d = locals_add ds d
  entry_adds (StmtEntry s) p d = holds_then (Grows d.locals) (Adds d.locals) (statement s p d) _ (statement_grows s p d) (λ a h. h)

  first_adds : (f : First) (p : Surroundings) (d : Declared) → Holds (Adds d.locals) (first f p d)
  first_adds NoFirst p d = starts_itself d.locals
  first_adds (LocalFirst ds) p d = locals_add ds d
  first_adds (ExprFirst e) p d = holds_on (Adds d.locals) (value_in d.env e) _ (λ v. starts_itself d.locals)

block_grows : (s : Stmt) (p : Surroundings) (d : Declared) → Holds (Grows d.locals) (block_of s p d)
block_grows (Block from es) p d = holds_then (GrowsAll d.locals) (Grows d.locals) (entries es p d) _ (entries_grow es p d) (λ a h. h)
block_grows s p d = statement_grows s p d

-- the locals of a body begin with the parameters
abbrev pub Begins : CType → typed.Body → Type 0
Begins t b = Starts (listed (params_of t)) b.locals

block_begins : (env : Environment) (t : CType) (ps : Parts) (s : Stmt) → Holds (Begins t) (block_body env t ps s)
block_begins env t ps s =
    holds_on (Begins t) (parameters (nearest ps) (inner env) 0 (params_of t)) _
    (λ within. holds_then (λ a. Grows (listed (params_of t)) a.0) (Begins t) (heard (block_of s (record { result = result_of t; in_loop = false }) (record { env = within; locals = listed (params_of t) }))) _
    (holds_heard (Grows (listed (params_of t))) (block_of s (record { result = result_of t; in_loop = false }) (record { env = within; locals = listed (params_of t) })) (block_grows s (record { result = result_of t; in_loop = false }) (record { env = within; locals = listed (params_of t) }))) (λ a h. h))

pub body_begins : (env : Environment) (t : CType) (ps : Parts) (s : Stmt) → Holds (Begins t) (body_of env t ps s)
body_begins env t ps s = holds_on (Begins t) (heard (parameter_types (nearest ps) (inner env) 0)) _ (λ us. holds_then (Begins t) (Begins t) (block_body env t ps s) _ (block_begins env t ps s) (λ b h. h))
