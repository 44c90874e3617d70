use Rattle.std.proofs.Common.{drop}
use Rattle.c_syntax.specs.Syntax.{Decls}
use Rattle.c_syntax.specs.Stands.{StandDecls, StandsDecl}
use Rattle.annot_reader_words.specs.Answers.{Unsaid}
use Rattle.annot_reader_words.proofs.Folding.{Decides, fold}
use Rattle.annot_reader_words.proofs.Folds.{again_step}
use Rattle.annot_reader_words.proofs.Lists.{decls_in}
use Rattle.annot_reader_words.proofs.again.none_again.Given as goal

-- the parameters that are left decide
abbrev pub invariant-loop-id : goal.invariant-loop-id
invariant-loop-id l = (ds : Decls) → StandDecls l.tree l.ids ds → Decides (StandsDecl l.tree) again_step Unsaid (drop l.id-index l.ids) tt (fold again_step (decls_in ds) tt)
