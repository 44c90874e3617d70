-- What refusing actions promises.
use Rattle.std.specs.Prelude.{List}
use Rattle.c_syntax.specs.Syntax.{Decls}
use Rattle.c_parser_moves.specs.declared.action.Action.{Action}
use Rattle.c_parser_actions.specs.Builds.{Builds}
use Rattle.c_parser_tree.specs.declared.builder.BuildError.{BuildError}
use Rattle.c_parser_tree.specs.declared.builder.BuildError.TheVariants as errors

-- they build no source, unless memory was wanting
abbrev pub IsUnfit : List Action → BuildError → Type 0
IsUnfit v errors.Unfit = (ds : Decls) → Builds v ds → ⊥
IsUnfit v errors.Memory = Unit {0}
