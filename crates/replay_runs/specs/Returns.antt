-- What it says that the checks of a Ret pass in a replay, where nothing is scripted and no byte was
-- changed.
use Rattle.std.specs.Prelude.{◌≡◌, ◌↔◌, ℕ, Bool, true, if◌then◌else◌, ◌==◌, List, [], ◌∷◌, length, Option, Some, None}
use Rattle.marks.specs.declared.range.Range.{Range}
use Rattle.marks.specs.Ranges.{Piece, are_bytes, piece_ranges}
use Rattle.marks.specs.Marks.{Commit, NoRegion, Withheld, Released, Ret, Event, Made, Mark}
use Rattle.replay_runs.specs.Runs.{Start, Allowed, Run, marks_of}
use Rattle.replay_runs.specs.Interface.{Interface, Program, Committing}
use Rattle.replay_runs.specs.Threads.{OpenCall, open_calls}
use Rattle.replay_runs.specs.Pool.{in_use}
use Rattle.replay_runs.specs.Rules.{AreUsed, Commits, replay_rules}
use Rattle.replay_runs.specs.Checks.{Passes, replayed, return_checks}

-- each of the calls reads and holds what its annotations say
abbrev pub AreAnnotated : Interface → List OpenCall → Type 0
AreAnnotated i [] = Unit {0}
AreAnnotated i (c ∷ cs) = (c.ins ≡ i.ins c.func c.args) × (c.outs ≡ i.outs c.func c.args) ×
    AreAnnotated i cs

-- in a run the open calls do, where those of the start do
abbrev pub OpenCallsAreAnnotated : Program → Start → Type 0
OpenCallsAreAnnotated program s =
    ((t : ℕ) → AreAnnotated program.interface (open_calls (s.parts t))) →
    (run : List Mark) → Run (replay_rules program s) s run → (t : ℕ) →
    AreAnnotated program.interface (open_calls (marks_of s t run))

-- each piece has as many bytes as are used
abbrev pub HaveCounts : List ℕ → List Piece → Type 0
HaveCounts [] [] = Unit {0}
HaveCounts [] (p ∷ ps) = ⊥
HaveCounts (n ∷ ns) [] = ⊥
HaveCounts (n ∷ ns) (p ∷ ps) = (length p.bytes ≡ n) × (are_bytes p.bytes ≡ true) × HaveCounts ns ps

-- what is released is the region of the key, where that is in use, with as many bytes as are used
abbrev pub ReleasesUsed : Start → List Mark → ℕ → Option ℕ → Commit → Type 0
ReleasesUsed s past k None commit = commit ≡ Withheld
ReleasesUsed s past k (Some n) NoRegion = ⊥
ReleasesUsed s past k (Some n) Withheld = ⊥
ReleasesUsed s past k (Some n) (Released j p) =
    (j ≡ k) × (length p.bytes ≡ (if p.range.addr == 0 then 0 else n)) × (are_bytes p.bytes ≡ true) ×
    ((r : Range) → in_use s k past ≡ Some r → p.range ≡ r)

abbrev pub IsCommitted : Start → List Mark → Option Committing → Commit → Type 0
IsCommitted s past None commit = commit ≡ NoRegion
IsCommitted s past (Some c) commit = ReleasesUsed s past c.key c.used commit

-- what is released is the region of a key in use
abbrev pub ReleasesInUse : Start → List Mark → Commit → Type 0
ReleasesInUse s past NoRegion = Unit {0}
ReleasesInUse s past Withheld = Unit {0}
ReleasesInUse s past (Released k p) = in_use s k past ≡ Some p.range

-- the pieces and the commit of a Ret, by the annotations of its function
pub record IsAnnotated (i : Interface) (s : Start) (past : List Mark) (func : ℕ) (args : List ℕ) (result :
    ℕ) (outs : List Piece) (commit : Commit) : Type 0 where
  pub ranges : piece_ranges outs ≡ i.outs func args
  pub counts : HaveCounts (i.used func args result) outs
  pub committed : IsCommitted s past (i.commits func args result) commit

-- the rules of sizes and of the key
pub record KeepsSizes (i : Interface) (s : Start) (past : List Mark) (func : ℕ) (args : List ℕ) (result :
    ℕ) (outs : List Piece) (commit : Commit) : Type 0 where
  pub used : AreUsed (i.used func args result) outs
  pub committed : Commits (i.commits func args result) commit
  pub in_use : ReleasesInUse s past commit

-- the checks of a Ret pass exactly where it keeps the rules
abbrev pub ReturnChecksAreExact : Interface → Start → List Mark → Type 0
ReturnChecksAreExact i s past =
    (func : ℕ) (args : List ℕ) (result : ℕ) (outs : List Piece) (commit : Commit) →
    IsAnnotated i s past func args result outs commit →
    Passes (return_checks i s past replayed func args result) ↔ KeepsSizes i s past func args result outs
    commit

-- so a Ret that may come passes them
abbrev pub RetsPass : Program → Start → Type 0
RetsPass program s =
    (past : List Mark) (m : Mark) (e : Event) (func : ℕ) (args : List ℕ) (result : ℕ) (same : Bool) (outs :
    List Piece) (commit : Commit) →
    AreAnnotated program.interface (open_calls (marks_of s m.thread past)) →
    Allowed (replay_rules program s) s past m →
    m.act ≡ Made e → e.kind ≡ Ret func args result same outs commit →
    Passes (return_checks program.interface s past replayed func args result)
