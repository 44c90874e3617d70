-- Errors of the parts as errors of a source.
use Rattle.std.specs.Prelude.{ℕ}
use Rattle.c_lexer.specs.declared.error.LexError.{LexError}
use Rattle.c_lexer.specs.declared.error.LexError.TheVariants as lexing
use Rattle.c_parser.specs.declared.parsing.ParseError.{ParseError}
use Rattle.c_parser.specs.declared.parsing.ParseError.TheVariants as parsing
use Rattle.c_types.specs.declared.error.CheckError.{CheckError}
use Rattle.c_types.specs.declared.error.CheckError.TheVariants as typing
use Rattle.annot_reader.specs.declared.error.InterfaceError.{InterfaceError}
use Rattle.annot_reader.specs.declared.error.InterfaceError.TheVariants as reading
use Rattle.front_end.specs.declared.error.SourceError.{SourceError}
use Rattle.front_end.specs.declared.error.SourceError.TheVariants.{Fault, NoSuchCut, Limit, Memory}
use Rattle.c_lower.specs.declared.error.LowerError.{LowerError}
use Rattle.c_lower.specs.declared.error.LowerError.TheVariants as lowering
use Rattle.front_end.specs.declared.error.SourceLimit.TheVariants.{Types, Nodes, Values}
use Rattle.front_end.specs.declared.error.SourceRule.{SourceRule}
use Rattle.front_end.specs.declared.error.SourceRule.TheVariants as rules

-- this rule is broken at this offset
abbrev pub found : SourceRule → ℕ → SourceError
found rule at = Fault (record { rule = rule; at = at })

abbrev pub by_tokens : LexError → SourceError
by_tokens (lexing.BadByte at) = found rules.Byte at
by_tokens (lexing.OpenText at) = found rules.Text at
by_tokens (lexing.BigNumber at) = found rules.Number at
by_tokens (lexing.Directive at) = found rules.Directive at
by_tokens lexing.Memory = Memory

abbrev pub by_grammar : ParseError → SourceError
by_grammar (parsing.Token at) = found rules.Token at
by_grammar (parsing.Deep at) = found rules.Deep at
by_grammar parsing.Memory = Memory

abbrev pub by_types : CheckError → SourceError
by_types (typing.Rule at rule) = found (rules.Type rule) at
by_types (typing.Limit which) = Limit (Types which)
by_types typing.Memory = Memory

abbrev pub by_annotations : InterfaceError → SourceError
by_annotations (reading.Rule at rule) = found (rules.Annotation rule) at
by_annotations reading.NoSuchCut = NoSuchCut
by_annotations reading.Memory = Memory

abbrev pub by_code : LowerError → SourceError
by_code lowering.Long = Limit Nodes
by_code (lowering.Wide function) = Limit Values
by_code lowering.Memory = Memory
