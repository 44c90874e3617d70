-- The world of an accepted source is fit, part by part.
use Rattle.std.proofs.Common.{◌≡◌, ℕ, List, sym, subst}
use Rattle.c_code.specs.Machine.{Flat, Laid, is_face}
use Rattle.stub_operations.specs.declared.purpose.Purpose.TheVariants.{Record}
use Rattle.stub_meaning.specs.Fits as stubs
use Rattle.front_end.specs.declared.source.CheckedSource.{CheckedSource}
use Rattle.whole_runs.specs.Fits.{IsFit, IsFitCode, IsFitFile, KeepsModes, PlacesFunctions, PlacesObjects}
use Rattle.whole_runs.specs.World.{World}
use Rattle.whole_runs_sources.specs.Laws.{IsWorldOf, laid_at}

-- what holds of the source's code holds of the world's
moved : (c : CheckedSource) (l : Laid) → l.code ≡ c.code → (P : Laid → Type 0) → P (laid_at c l.placed) → P l
moved c l e P h = subst (λ (code : Flat). P (record { code = code; placed = l.placed })) (sym e) h

pub fit_world : (bytes cut script : List ℕ) (c : CheckedSource) (w : World) → IsWorldOf bytes cut script c w → PlacesObjects (laid_at c w.laid.placed) → IsFitCode (laid_at c w.laid.placed) → PlacesFunctions (laid_at c w.laid.placed) →
    KeepsModes (laid_at c w.laid.placed) → stubs.IsFit Record c.code (is_face (laid_at c w.laid.placed)) w.stubs → IsFitFile w → IsFit w
fit_world bytes cut script c w h objects code functions modes stubs_fit file =
    record {
      code = moved c w.laid h.code IsFitCode code;
      placed = record {
        objects = moved c w.laid h.code PlacesObjects objects;
        functions = moved c w.laid h.code PlacesFunctions functions;
        modes = moved c w.laid h.code KeepsModes modes;
      };
      stubs = moved c w.laid h.code (λ (l : Laid). stubs.IsFit Record l.code (is_face l) w.stubs) stubs_fit;
      file = file;
    }
