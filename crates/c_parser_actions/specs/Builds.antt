-- What the postfix form of tokens promises.
use Rattle.std.specs.Prelude.{◌≡◌, List, [], ◌∷◌, reverse}
use Rattle.c_lexer.specs.declared.token.Token.{Token}
use Rattle.c_syntax.specs.Syntax.{Decls}
use Rattle.c_syntax.specs.Sources.{Spells}
use Rattle.c_parser_moves.specs.declared.action.Action.{Action}
use Rattle.c_parser_actions.specs.declared.postfix.PostfixError.{PostfixError}
use Rattle.c_parser_actions.specs.declared.postfix.PostfixError.TheVariants as errors
use Rattle.c_parser_actions.specs.Pieces.{PDecls, acted}

-- the actions, in order, leave this source on the stack and no more
abbrev pub Builds : List Action → Decls → Type 0
Builds v ds = acted (reverse v) [] ≡ PDecls ds ∷ []

-- they build a source that has the tokens
abbrev pub Found : List Token → List Action → Type 0
Found ts v = (ds : Decls) × Spells ts ds × Builds v ds

-- they build each source that has the tokens
abbrev pub Only : List Token → List Action → Type 0
Only ts v = (ds : Decls) → Spells ts ds → Builds v ds

-- no source has the tokens, unless memory was wanting
abbrev pub Refused : List Token → PostfixError → Type 0
Refused ts (errors.Token n) = (ds : Decls) → Spells ts ds → ⊥
Refused ts errors.Memory = Unit {0}
