-- Sources with nodes that more than 200 others hold.
use Rattle.std.specs.Prelude.{ℕ, ◌<◌, ◌≤◌, List}
use Rattle.source_limits.specs.Limits.{most_holders}
use Rattle.c_syntax.specs.Syntax.{Decls}
use Rattle.c_syntax.specs.Depth.{LieDecls}
use Rattle.c_parser_moves.specs.declared.action.Action.{Action}
use Rattle.c_parser_actions.specs.Builds.{Builds}

-- no node of the source is held by more than 200 others
abbrev pub IsShallow : Decls → Type 0
IsShallow ds = (k o : ℕ) → LieDecls ds k o → k ≤ most_holders

-- more than 200 nodes of the source hold one that is at this offset
abbrev pub IsDeepAt : Decls → ℕ → Type 0
IsDeepAt ds o = (k : ℕ) × (most_holders < k) × LieDecls ds k o

-- it holds of the source that the actions build, where they build one
abbrev pub OfBuilt : List Action → (Decls → Type 0) → Type 0
OfBuilt v P = (ds : Decls) → Builds v ds → P ds
