-- Parts of the checks of a call and of a return.
use Rattle.std.specs.Prelude.{ℕ, List, [], ◌++◌, map, length, get_or, Option, Some, None}
use Rattle.marks.specs.declared.side.Side.TheVariants.{Replay}
use Rattle.marks.specs.declared.range.Range.{Range}
use Rattle.marks.specs.Ranges.{Piece, prepared_ranges}
use Rattle.marks.specs.Marks.{Mark}
use Rattle.replay_runs.specs.Interface.{Committing}
use Rattle.replay_runs.specs.Pool.{in_use}
use Rattle.replay_runs.specs.Checks.{Checks, Done, commit_size_check, hold_checks, key_checks, mode_checks, read_checks, size_checks}
use Rattle.stub_meaning.specs.Calls.{Done as Said}
use Rattle.whole_runs.specs.World.{World, begin, interface}
use Rattle.whole_runs.specs.Sides.{seen}
use Rattle.reference_recorder_ranges.specs.Checks.{changed_by}
use Rattle.reference_recorder_uses.specs.Checks.{key_check}

-- a call holds regions, and prepares some of them under keys
abbrev pub region_checks : World → List Mark → (thread : ℕ) → Said → Checks
region_checks w past t d =
    hold_checks (begin w) (seen past) t [] (d.outs ++ prepared_ranges d.prepares)
    (key_checks (begin w) (seen past) [] d.prepares Done)

-- it registers functions and reads ranges before that
abbrev pub call_checks : World → List Mark → (thread : ℕ) → Said → Checks
call_checks w past t d =
    mode_checks (interface w) Replay d.registers
    (read_checks (begin w) (seen past) t d.ins (region_checks w past t d))

-- these pieces come up, the answers for the regions, of which so much is used
abbrev pub held_checks : World → List Mark → List Piece → (answers : List (List ℕ)) → List Range →
    (used : List ℕ) → Checks → Checks
held_checks w past pieces answers regions used cs =
    size_checks (changed_by w past pieces) (map length answers) regions used cs

-- and for the one that is committed under the key, of which so much is used
abbrev pub committed_checks : World → List Mark → List Piece → (answers : List (List ℕ)) → List Range →
    (used : List ℕ) → (key : ℕ) → (size : Option ℕ) → Checks
committed_checks w past pieces answers regions used k None =
    held_checks w past pieces answers regions used Done
committed_checks w past pieces answers regions used k (Some n) =
    key_check (begin w) (seen past) k (held_checks w past pieces answers regions used
    (commit_size_check (changed_by w past pieces) (length (get_or answers (length regions) []))
    (in_use (begin w) k (seen past)) n Done))

-- where one is committed
abbrev pub brought_checks : World → List Mark → List Piece → (answers : List (List ℕ)) → List Range →
    (used : List ℕ) → Option Committing → Checks
brought_checks w past pieces answers regions used None = held_checks w past pieces answers regions used Done
brought_checks w past pieces answers regions used (Some c) =
    committed_checks w past pieces answers regions used c.key c.used
