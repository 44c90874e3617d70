-- How far a log is written.
use Rattle.std.specs.Prelude.{◌≡◌, ℕ, ◌∷◌, ◌++◌, List}
use Rattle.std.specs.List.{flat_map}
use Rattle.marks.specs.Marks.{Mark}
use Rattle.log_codec.specs.LogText.{chunk_text, head_text}
use Rattle.whole_runs.specs.World.{World}
use Rattle.whole_runs.specs.Records.{version}
use Rattle.whole_runs.specs.Log.{chunks}

-- the log has the chunks that were put out in the run so far
abbrev pub HasChunks : (chunk : ℕ) → List Mark → List ℕ → Type 0
HasChunks chunk run log = (w : World) → w.file.chunk ≡ chunk →
    log ≡ head_text version ++ flat_map (chunk_text version.number) (chunks w run)

-- one mark later, the last of these
abbrev pub IsPutNext : (chunk : ℕ) → List Mark → Mark → (old new : List ℕ) → Type 0
IsPutNext chunk run m old new = (before : List Mark) → run ≡ m ∷ before → HasChunks chunk before old →
    HasChunks chunk (m ∷ before) new
