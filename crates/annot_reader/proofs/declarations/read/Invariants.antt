use Rattle.std.proofs.Common.{◌≡◌, drop}
use Rattle.c_scopes.specs.Scopes.{innermost}
use Rattle.c_syntax.specs.Stands.{StandDecls, StandsDecl}
use Rattle.c_syntax.specs.Syntax.{Decls}
use Rattle.c_types_rules.specs.Sources.{Program}
use Rattle.annot_reader_rules.specs.Notes.{Annotated}
use Rattle.annot_reader_words.proofs.Folding.{Decides, fold}
use Rattle.annot_reader_words.proofs.Lists.{decls_in}
use Rattle.annot_reader_functions.specs.Known.{AreKnown}
use Rattle.annot_reader_functions.specs.Rules.{Stays}
use Rattle.annot_reader.specs.Headings.{AreHeadings}
use Rattle.annot_reader.specs.Reading.{AreRead, IsReading, noted_step, nothing_read}
use Rattle.annot_reader_functions.specs.Seen.{declared_by}
use Rattle.annot_reader.proofs.declarations.read.Given as goal

-- what is declared stays, and the declarations that are left decide
abbrev pub invariant-loop-id : goal.invariant-loop-id
invariant-loop-id l =
    let before = declared_by l.fn.env in
    Stays before (declared_by l.env) ×
    ((ds : Decls) (p : Program) → StandDecls l.source.tree.now l.ids ds → AreHeadings before l.source.functions.now p.functions → innermost before.env.scopes ≡ p.names →
    (a : Annotated) × AreRead l.source.cut.now a l.reading × Decides (StandsDecl l.source.tree.now) (noted_step before.env p) (IsReading l.source.cut.now) (drop l.id-index l.ids) a (fold (noted_step before.env p) (decls_in ds) nothing_read)) ×
    AreKnown l.source.tree.now l.source.cut.now l.reading.known
