use Rattle.std.proofs.Common.{◌≡◌, ◌∙◌, subst}
use Rattle.c_syntax.specs.Stands.{StandAnnots, StandsDecl}
use Rattle.c_syntax.specs.Syntax.{Annots, Decl, Declare}
use Rattle.annot_reader_functions.specs.Known.{places_from}
use Rattle.annot_reader_functions.proofs.Placing.{same_places}
use Rattle.annot_reader_functions.proofs.known.words_again.Goals as goal

pub said_at-requires-clause-places : goal.said_at-requires-clause-places
said_at-requires-clause-places c = λ an s. by an s c.requires.id.0 c.requires.id.1
  where
    by : (an : Annots) → StandAnnots c.args.tree.now c.as_slice-annots.result.now an → (d : Decl) → StandsDecl c.args.tree.now c.args.id d →
        c.args.places.now ≡ places_from 0 an
    by an s (Declare from bn b ps n r) h =
        c.requires.places (Declare from bn b ps n r) h
        ∙ same_places c.args.tree.now c.decl_node.result.now.annots 0 bn an (c.decl_node.ensures.shows (Declare from bn b ps n r) h).1
        (subst (λ vs. StandAnnots c.args.tree.now vs an) c.as_slice-annots.ensures.items s)
