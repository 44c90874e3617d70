-- What a Ret gives back is pending, and is there for code of both sides, with the pieces of any answer too.
use Rattle.std.proofs.Common.{◌≡◌, ◌≢◌, ℕ, Bool, true, false, cond, List, [], ◌∷◌, ◌++◌, Option, Some, None, refl, sym}
use Rattle.std.proofs.lemmas.Bool.{true≢false}
use Rattle.marks.specs.Ranges.{Piece, any_piece, byte_at, covers, piece_ranges, within}
use Rattle.marks.specs.Marks.{Commit, Mark, released}
use Rattle.marks.specs.Bytes.{Cell, Dead, Live, Held, IsHeld, IsLive}
use Rattle.std.specs.Prelude.{length, unwrap_or}
use Rattle.replay_runs.specs.Runs.{byte, marks_of}
use Rattle.replay_runs.specs.Owning.{IsOwn}
use Rattle.replay_runs.specs.Returns.{ReleasesInUse}
use Rattle.replay_runs.specs.Rules.{Closes}
use Rattle.replay_runs.specs.Threads.{open_calls}
use Rattle.replay_runs.specs.Unseen.{Holder, Calling, Preparing, IsWhole, holds}
use Rattle.replay_runs.proofs.Owning.{gives, held}
use Rattle.whole_runs.specs.World.{World, begin, program_of}
use Rattle.whole_runs.specs.Sides.{seen}
use Rattle.whole_runs.specs.Memory.{filled, real, written}
use Rattle.whole_runs.specs.Ends.{Follows}
use Rattle.whole_runs.specs.Fits.{IsFit}
use Rattle.whole_runs_seen.proofs.Calm.{calm_run}
use Rattle.whole_runs_memory.specs.Plain.{IsReally}
use Rattle.whole_runs_memory.proofs.RealRuns.{real_above, seen_whole}

-- ---- bytes that are there

some_there : (v : ℕ) → ◌≢◌ {A = Option ℕ} (Some v) None
some_there v e = absurd cc

either_there : (b : Bool) (o p : Option ℕ) → o ≢ None → p ≢ None → cond b o p ≢ None
either_there true o p h k = h
either_there false o p h k = k

pub filled_there : (ps : List Piece) (x : ℕ) (o : Option ℕ) → o ≢ None → filled ps x o ≢ None
filled_there [] x o h = h
filled_there (p ∷ ps) x o h =
    filled_there ps x (cond (covers p.range x) (written p.range.addr p.bytes x o) o)
    (either_there (covers p.range x) (written p.range.addr p.bytes x o) o
    (either_there (within p.range.addr (length p.bytes) x) (Some (byte_at p.range.addr p.bytes x)) o (some_there (byte_at p.range.addr p.bytes x)) h) h)

pub pending_there : (c : Cell) (o : Option ℕ) → IsHeld c → IsReally c o → o ≢ None
pending_there Dead o h r = absurd h
pending_there (Live v) o h r = absurd h
pending_there (Held v) o h r = r

-- a byte that is read is the one that is there
pub read_there : (o : Option ℕ) (b : ℕ) → o ≢ None → b ≡ unwrap_or o 0 → o ≡ Some b
read_there None b h e = absurd (h refl)
read_there (Some v) b h e = cc

pub read_live : (c : Cell) (o : Option ℕ) (b : ℕ) → IsLive c → IsReally c o → b ≡ unwrap_or o 0 → c ≡ Live b
read_live Dead o b h r e = absurd h
read_live (Live v) None b h r e = absurd cc
read_live (Live v) (Some u) b h r e = cc
read_live (Held v) o b h r e = absurd h

-- ---- what is held

-- nothing is at the beginning
none_held : (w : World) (x : ℕ) (h : Holder) → holds (begin w) [] x h ≡ true → IsOwn x
none_held w x (Calling t) e = absurd (true≢false (sym e))
none_held w x (Preparing k) e = absurd (true≢false (sym e))

pub record IsPending (w : World) (run : List Mark) (x : ℕ) : Type 0 where
  pub held : IsHeld (byte (begin w) x (seen run)).cell
  pub there : real w run x ≢ None

module _ (w : World) (fit : IsFit w) (run : List Mark) (follows : Follows w run) (t f : ℕ) (args : List ℕ) (outs : List Piece) (commit : Commit) where
  pub pending : Closes (open_calls (marks_of (begin w) t (seen run))) f args (piece_ranges outs) → ReleasesInUse (begin w) (seen run) commit →
      (x : ℕ) → any_piece (outs ++ released commit) x ≡ true → IsPending w run x
  pending closes used x e =
      let h = gives (begin w) (seen run) t f args outs commit closes used x e in
      let whole : IsWhole (begin w) (seen run) = seen_whole w fit run follows in
      let is_held = whole.held x h.0 h.1 in
      let own = held (program_of w) (begin w) (none_held w) (seen run) (calm_run w fit run follows).steps x h.0 h.1 in
      record {
        held = is_held;
        there = pending_there (byte (begin w) x (seen run)).cell (real w run x) is_held (real_above w fit run follows x own.0);
      }
