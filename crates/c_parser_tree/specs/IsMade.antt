-- What a step of a builder promises.
use Rattle.std.specs.Prelude.{◌≡◌, ◌∷◌, [], List, length, reverse, Option, Some, None, Result, Ok, Err, MatchResult}
use Rattle.c_syntax.specs.declared.declaration.Decl.{Decl}
use Rattle.c_syntax.specs.declared.declaration.Rest.{Rest}
use Rattle.c_syntax.specs.declared.id.DeclId.{DeclId}
use Rattle.c_syntax.specs.Nodes.{Nodes, decl_at}
use Rattle.c_parser_tree.specs.declared.piece.Declarator.{Declarator}
use Rattle.c_parser_tree.specs.declared.builder.Builder.{Builder}
use Rattle.c_parser_tree.specs.declared.builder.BuildError.{BuildError}
use Rattle.c_parser_tree.specs.declared.builder.BuildError.TheVariants as errors
use Rattle.c_parser_tree.specs.Built.{Built, decl_of}
use Rattle.c_parser_tree.specs.Nodes.{with_decl}
use Rattle.c_parser_tree.specs.Seen.{nodes_seen, stack_seen}
use Rattle.c_parser_tree.specs.Stacks.{Stacks}

-- the builder holds this, or there is none and the actions are unfit
abbrev pub IsMade : Result (Unit {0}) BuildError → Builder → Option Built → Type 0
IsMade (Ok _) b m = m ≡ Some (record { nodes = nodes_seen b; stack = stack_seen b })
IsMade (Err errors.Unfit) b m = m ≡ None
IsMade (Err errors.Memory) b m = Unit {0}

-- the builder makes this of its nodes and pieces
abbrev pub Makes : Result (Unit {0}) BuildError → Builder → Builder → (Nodes → Stacks → Option Built) →
    Type 0
Makes r old new m = IsMade r new (m (nodes_seen old) (stack_seen old))

-- this is taken and the rest is left, or there is none and the actions are unfit
abbrev pub IsTaken : {A : Type 0} → Result A BuildError → Builder → Option (A × Stacks) → Type 0
IsTaken r b m = MatchResult r (λ a. m ≡ Some (a, stack_seen b)) (λ e. (e ≡ errors.Unfit) × (m ≡ None))

-- so it is with the newest of a list
abbrev pub IsNewest : {A : Type 0} → Result A BuildError → List A → List A → Type 0
IsNewest r old new =
    MatchResult r (λ a. reverse old ≡ a ∷ reverse new) (λ e. (e ≡ errors.Unfit) × (reverse old ≡ []))

-- a new declaration is like that of this number, which is there
abbrev pub IsLike : DeclId → Declarator → Rest → (old new : Builder) → Result DeclId BuildError → Type 0
IsLike i d q old new (Ok j) =
    (e : Decl) × (decl_at (nodes_seen old) i ≡ Some e) ×
    (nodes_seen new ≡ with_decl (nodes_seen old) (decl_of d (e.annots, e.base) q)) ×
    (stack_seen new ≡ stack_seen old) × (j ≡ record { 0 = length (nodes_seen old).decls })
IsLike i d q old new (Err errors.Unfit) = decl_at (nodes_seen old) i ≡ None
IsLike i d q old new (Err errors.Memory) = Unit {0}
