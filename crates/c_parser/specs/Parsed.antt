-- What parsing promises.
use Rattle.std.specs.Prelude.{◌≡◌, List}
use Rattle.c_lexer.specs.declared.token.Token.{Token}
use Rattle.c_syntax.specs.Nodes.{Nodes}
use Rattle.c_syntax.specs.Syntax.{Decls}
use Rattle.c_syntax.specs.Sources.{Spells}
use Rattle.c_syntax.specs.Stands.{Holds}
use Rattle.c_parser_depth.specs.Deep.{IsShallow, IsDeepAt}
use Rattle.c_parser_nodes.specs.Counts.{capped, source_nodes}
use Rattle.c_parser.specs.declared.parsing.Parsed.{Parsed}
use Rattle.c_parser.specs.declared.parsing.ParseError.{ParseError}
use Rattle.c_parser.specs.declared.parsing.ParseError.TheVariants as errors

-- the tree is that of a source which has these tokens, and isn't deep
abbrev pub IsParsed : List Token → Nodes → Type 0
IsParsed ts t = (ds : Decls) × Spells ts ds × Holds t ds × IsShallow ds

-- the tree is that of these declarations, which have so many nodes
abbrev pub IsCountedTree : Parsed → Decls → Type 0
IsCountedTree p ds = Holds p.tree ds × (p.nodes ≡ capped (source_nodes ds))

-- the tree and the number of its nodes are those of a source which has these tokens, and isn't deep
abbrev pub IsCounted : List Token → Parsed → Type 0
IsCounted ts p = (ds : Decls) × Spells ts ds × IsShallow ds × IsCountedTree p ds

-- no source has the tokens, or one that is deep there; nothing where memory was wanting
abbrev pub IsParseError : List Token → ParseError → Type 0
IsParseError ts (errors.Token o) = (ds : Decls) → Spells ts ds → ⊥
IsParseError ts (errors.Deep o) = (ds : Decls) × Spells ts ds × IsDeepAt ds o
IsParseError ts errors.Memory = Unit {0}
