-- The sources of c_semantics that right sources are.
use Rattle.std.specs.Prelude.{◌≡◌, ℕ, List}
use Rattle.c_types_rules.specs.Sources.{Program}
use Rattle.c_types_program.specs.Programs.{texts_in}
use Rattle.annot_reader_rules.specs.Notes.{Annotated}
use Rattle.annot_reader.specs.Interfaces as interfaces
use Rattle.c_semantics.specs.Context.{Source, is_face}
use Rattle.cut_graph_rules.specs.Findings as cuts
use Rattle.front_end.specs.declared.source.CheckedSource.{CheckedSource}
use Rattle.front_end.specs.Answers.{IsAccepted}
use Rattle.cut_check.specs.Sources.{Says, cut_of}

-- right bytes declare this, and say this in their annotations
pub record IsSaid (bytes cut : List ℕ) : Type 0 where
  pub program : Program
  pub annotated : Annotated
  pub says : Says bytes cut program annotated

-- the source has this program, and the interface of the cut, wherever its objects lie
pub record IsLaidOut (cut : List ℕ) (p : Program) (a : Annotated) (s : Source) : Type 0 where
  pub program : s.program ≡ p
  pub faces : (f : ℕ) → is_face s f ≡ interfaces.is_face cut a f

-- the bytes are right and say this; their cut of this name is accepted; and this is their source, wherever
-- its objects lie
pub record HasAcceptedCut (bytes cut : List ℕ) (p : Program) (a : Annotated) (s : Source) : Type 0 where
  pub says : Says bytes cut p a
  pub accepted : cuts.IsAccepted (cut_of cut p a)
  pub is : IsLaidOut cut p a s

-- the same, where the front end gives this for them
pub record IsAcceptedAs (bytes cut : List ℕ) (c : CheckedSource) (p : Program) (a : Annotated) (s : Source) :
    Type 0 where
  pub has : HasAcceptedCut bytes cut p a s
  pub accepted : IsAccepted bytes cut c
  pub texts : s.texts ≡ texts_in c.program.texts
