-- The stubs of an accepted source fit its code, with the interface of its flags.
use Rattle.std.proofs.Common.{◌≡◌, ℕ, Bool, List, is_some, sym, ◌∙◌, subst}
use Rattle.memory_map.specs.declared.placed.Placed.{Placed}
use Rattle.c_code.specs.Machine.{is_face}
use Rattle.annot_reader_rules.specs.Notes.{Annotated}
use Rattle.annot_reader.specs.Interface.{Interface}
use Rattle.annot_reader.specs.Interfaces as interfaces
use Rattle.annot_reader.specs.Interfaces.{IsRead, annots_at}
use Rattle.call_operations_laws.specs.Codes as calls
use Rattle.stub_operations.specs.declared.purpose.Purpose.{Purpose}
use Rattle.stub_operations.specs.Stubs.{Stubs}
use Rattle.stub_meaning.specs.Fits.{IsFit}
use Rattle.front_end.specs.declared.source.CheckedSource.{CheckedSource}
use Rattle.whole_runs_sources.specs.Laws.{IsPlacedAs, laid_at}
use Rattle.whole_runs_sources.proofs.Faces.{face_is}
use Rattle.whole_runs_sources.proofs.Facts.{is_of}

module _ (bytes cut : List ℕ) (c : CheckedSource) (q : Placed) (h : IsPlacedAs bytes cut c q)
    (read : (cut : List ℕ) (a : Annotated) (i : Interface) (number : ℕ) → IsRead cut a i → is_some (annots_at i number) ≡ interfaces.is_face cut a number) where
  pub one_face : (f : ℕ) → calls.is_face c.interface f ≡ is_face (laid_at c q) f
  one_face f = read cut h.annotated c.interface f (is_of bytes cut c q h).interface ∙ sym (face_is bytes cut c q h f)

  same_faces : calls.is_face c.interface ≡ is_face (laid_at c q)
  same_faces = λ j f. one_face f j

  pub stubs_fit : (purpose : Purpose) (s : Stubs) → IsFit purpose c.code (calls.is_face c.interface) s → IsFit purpose c.code (is_face (laid_at c q)) s
  stubs_fit purpose s fits = subst (λ (face : ℕ → Bool). IsFit purpose c.code face s) same_faces fits
