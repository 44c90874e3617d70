-- The interface of an accepted source that is placed.
use Rattle.std.proofs.Common.{◌≡◌, ℕ, Bool, List, Option, Some, None, refl, ◌∙◌}
use Rattle.std.specs.Prelude.{slice_get}
use Rattle.memory_map.specs.declared.placed.Placed.{Placed}
use Rattle.c_code.specs.Machine.{is_face, is_true}
use Rattle.c_semantics.specs.Context as context
use Rattle.annot_reader.specs.Interfaces as interfaces
use Rattle.isolation_check_rules.specs.Places.{source_of}
use Rattle.isolation_check.specs.Literals.{literals_in}
use Rattle.cut_graph_sources.proofs.Cuts.{laid_out}
use Rattle.front_end.specs.declared.source.CheckedSource.{CheckedSource}
use Rattle.whole_runs_sources.specs.Laws.{IsPlacedAs, laid_at}

-- that of a laid source is that of its code
same_face : (s : context.Source) (f : ℕ) → is_true (slice_get s.placed.faces f) ≡ context.is_face s f
same_face s f = by (slice_get s.placed.faces f) refl
  where
    by : (o : Option Bool) → slice_get s.placed.faces f ≡ o → is_true (slice_get s.placed.faces f) ≡ context.is_face s f
    by (Some b) e = rw e refl
    by None e = rw e refl

pub face_is : (bytes cut : List ℕ) (c : CheckedSource) (q : Placed) (h : IsPlacedAs bytes cut c q) (f : ℕ) → is_face (laid_at c q) f ≡ interfaces.is_face cut h.annotated f
face_is bytes cut c q h f =
    same_face (source_of h.program (literals_in c.program.texts) q) f ∙ (laid_out bytes cut h.program h.annotated h.says (literals_in c.program.texts) q h.placed.placed).faces f
