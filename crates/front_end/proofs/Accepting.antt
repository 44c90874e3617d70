-- Sources that are accepted.
use Rattle.std.proofs.Common.{◌≡◌, ℕ, List, None, Ok, sym, ◌∙◌, subst}
use Rattle.c_lexer.specs.declared.token.Token.{Token}
use Rattle.c_lexer.specs.Lexing.{IsTokens}
use Rattle.c_parser.specs.declared.parsing.Parsed.{Parsed}
use Rattle.c_parser.specs.Parsed.{IsCounted}
use Rattle.c_syntax.specs.Syntax.{Decls}
use Rattle.c_types_rules.specs.Limits.{Outcome}
use Rattle.c_types_program.specs.Programs.{IsProgram}
use Rattle.annot_reader_rules.specs.Cuts.{annotations}
use Rattle.c_types_source.specs.declared.parts.Parts.{Parts as TypedSource}
use Rattle.annot_reader.specs.Interfaces.{IsInterface}
use Rattle.front_end.specs.declared.source.CheckedSource.{CheckedSource}
use Rattle.front_end.specs.Answers.{IsAccepted, IsCode, IsTyped, SaysOf}
use Rattle.front_end.specs.Sources.{IsSource, too_large}
use Rattle.front_end.proofs.Refusals.{read}

pub accepted : (bytes cut : List ℕ) (ds : Decls) (s : TypedSource) (c : CheckedSource) → (source : IsSource bytes ds) → (t : IsTyped source.tokens ds s) → IsProgram c.program t.program → c.program.texts ≡ s.texts
    → IsInterface cut (annotations ds t.program) (Ok c.interface) → too_large ds t.program ≡ None → IsCode c.program c.code → IsAccepted bytes cut c
accepted bytes cut ds s c source t program texts reads small code = record {
  right = record { ds = ds; source = source; right = read cut ds t.program c.interface t.is.typed reads ∙ small };
  says = subst (λ (o : Outcome). SaysOf cut source.tokens ds o c) (sym t.is.typed) (program, texts ∙ t.texts, reads, code);
}

-- the bytes are a source where their tokens have a tree
abbrev pub source_of : (bytes : List ℕ) (ts : List Token) (q : Parsed) → IsTokens bytes ts → (p : IsCounted ts q) → IsSource bytes p.0
source_of bytes ts q lexed p = record { tokens = ts; lexed = lexed; spells = p.1; shallow = p.2 }
