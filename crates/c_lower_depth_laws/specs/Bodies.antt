-- The depth of the evaluation stack by the syntax of statements: the greatest over all expressions in them,
-- also those that aren't evaluated.
use Rattle.std.specs.Prelude.{ℕ, max, List, ◌∷◌}
use Rattle.c_syntax.specs.Syntax.{MaybeExpr, Decl, Decls, Rest, Stmt, Entries, Entry, First, NoExpr, OneExpr, Declare, NoDecls, MoreDecls, Plain, Braces, NoRest, Initial, Body, Members, Block, Expression, If, IfElse, While, Do, For, Break, Continue, Return, NoEntries, MoreEntries, LocalEntry, StmtEntry, NoFirst, LocalFirst, ExprFirst}
use Rattle.c_types_rules.specs.Expressions.{declared_name}
use Rattle.c_lower_depth_laws.specs.Expressions.{parts_depth, whole_depth}

-- of an expression that may be left out
abbrev pub maybe_depth : MaybeExpr → (objects : List (List ℕ)) → ℕ
maybe_depth NoExpr objects = 0
maybe_depth (OneExpr x) objects = whole_depth x objects

-- the first value of a local, which has none in braces
abbrev pub initial_depth : Rest → (objects : List (List ℕ)) → ℕ
initial_depth NoRest objects = 0
initial_depth (Initial (Plain x)) objects = whole_depth x objects
initial_depth (Initial (Braces from vs)) objects = 0
initial_depth (Body s) objects = 0
initial_depth (Members ds) objects = 0

-- the objects after a local
abbrev pub with_local : Decl → (objects : List (List ℕ)) → List (List ℕ)
with_local (Declare from an b ps n r) objects = declared_name n ∷ objects

-- a local's name stands for it in its own first value, too
abbrev pub local_depth : Decl → (objects : List (List ℕ)) → ℕ
local_depth (Declare from an b ps n r) objects =
    max (parts_depth ps objects) (initial_depth r (declared_name n ∷ objects))

-- the objects after locals
abbrev pub with_locals : Decls → (objects : List (List ℕ)) → List (List ℕ)
with_locals NoDecls objects = objects
with_locals (MoreDecls d ds) objects = with_locals ds (with_local d objects)

-- of locals with their first values
abbrev pub locals_depth : Decls → (objects : List (List ℕ)) → ℕ
locals_depth NoDecls objects = 0
locals_depth (MoreDecls d ds) objects = max (local_depth d objects) (locals_depth ds (with_local d objects))

-- the objects in the rest of a block; names of an inner block end with it
abbrev pub after_entry : Entry → (objects : List (List ℕ)) → List (List ℕ)
after_entry (LocalEntry ds) objects = with_locals ds objects
after_entry (StmtEntry s) objects = objects

-- the objects in the rest of a `for`
abbrev pub after_first : First → (objects : List (List ℕ)) → List (List ℕ)
after_first NoFirst objects = objects
after_first (LocalFirst ds) objects = with_locals ds objects
after_first (ExprFirst x) objects = objects

-- of the first part of a `for`
abbrev pub first_depth : First → (objects : List (List ℕ)) → ℕ
first_depth NoFirst objects = 0
first_depth (LocalFirst ds) objects = locals_depth ds objects
first_depth (ExprFirst x) objects = whole_depth x objects

abbrev mutual
  -- of a statement
  pub stmt_depth : Stmt → (objects : List (List ℕ)) → ℕ
  stmt_depth (Block from es) objects = entries_depth es objects
  stmt_depth (Expression from x) objects = maybe_depth x objects
  stmt_depth (If from x s) objects = max (whole_depth x objects) (stmt_depth s objects)
  stmt_depth (IfElse from x s z) objects =
      max (whole_depth x objects) (max (stmt_depth s objects) (stmt_depth z objects))
  stmt_depth (While from x s) objects = max (whole_depth x objects) (stmt_depth s objects)
  stmt_depth (Do from s x) objects = max (stmt_depth s objects) (whole_depth x objects)
  stmt_depth (For from f x y s) objects =
      max (first_depth f objects) (max (maybe_depth x (after_first f objects))
      (max (maybe_depth y (after_first f objects)) (stmt_depth s (after_first f objects))))
  stmt_depth (Break from) objects = 0
  stmt_depth (Continue from) objects = 0
  stmt_depth (Return from x) objects = maybe_depth x objects

  -- of what stands in a block
  pub entries_depth : Entries → (objects : List (List ℕ)) → ℕ
  entries_depth NoEntries objects = 0
  entries_depth (MoreEntries e es) objects =
      max (entry_depth e objects) (entries_depth es (after_entry e objects))

  -- of the names of a declaration, or a statement
  pub entry_depth : Entry → (objects : List (List ℕ)) → ℕ
  entry_depth (LocalEntry ds) objects = locals_depth ds objects
  entry_depth (StmtEntry s) objects = stmt_depth s objects
