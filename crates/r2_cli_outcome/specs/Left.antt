-- What a call of the program leaves, whatever files and sinks it is given.
use Rattle.std.specs.Prelude.{◌≡◌, ◌≤◌, ◌++◌, [], ◌∷◌, ℕ, List, length, take, codes}
use Rattle.r2_base.specs.Causes.{Rose}
use Rattle.r2_cli_outcome.specs.declared.status.Status.{Status}
use Rattle.r2_cli_outcome.specs.declared.status.Status.TheVariants.{ReadFault, WriteFault, NoMemory}
use Rattle.r2_cli_outcome.specs.World.{World}
use Rattle.r2_cli_outcome.specs.Outcome.{Target, Write, Outcome, file, out, err, line_of}
use Rattle.r2_cli_outcome.specs.After.{After}

-- what was done of a write that was refused: a prefix of it, or nothing where its file could not be emptied
pub data IsPart (w : Write) : List Write → Type 0 where
  untouched : {name : List ℕ} → w.to ≡ file name → IsPart w []
  prefix : {n : ℕ} → n ≤ length w.text → IsPart w (record { to = w.to; text = take n w.text } ∷ [])

-- the writes stopped at this one, and this was done: those before it as a whole, and its part
pub record StopsAt (writes : List Write) (w : Write) (done : List Write) : Type 0 where
  pub before : List Write
  pub rest : List Write
  pub part : List Write
  pub of : writes ≡ before ++ w ∷ rest
  pub is_part : IsPart w part
  pub are_done : done ≡ before ++ part

-- the count of the faults of writes there
abbrev pub faults_at : Target → World → ℕ
faults_at (file name) w = w.files.write_faults
faults_at out w = w.out.faults
faults_at err w = w.err.faults

-- how a call ended before its line: what was done, and the status and line that say so
pub data Ends (answers : Outcome → Type 0) (old new : World) : List Write → Status → List ℕ → Type 0 where
  whole : {o : Outcome} → answers o → Ends answers old new o.writes o.status o.line
  read_fault : Rose old.files.read_faults new.files.read_faults →
      Ends answers old new [] ReadFault (line_of (codes "read fault"))
  write_fault : {o : Outcome} {w : Write} {done : List Write} → answers o → StopsAt o.writes w done
      → Rose (faults_at w.to old) (faults_at w.to new) →
      Ends answers old new done WriteFault (line_of (codes "write fault"))
  no_memory : Ends answers old new [] NoMemory (line_of (codes "no memory"))
  no_memory_left : {o : Outcome} {w : Write} {done : List Write} → answers o → StopsAt o.writes w done
      → Ends answers old new done NoMemory (line_of (codes "no memory"))

-- the line was said, and the status stands; or a prefix was, and the status says why
pub data Says (old new : World) (done : List Write) (status : Status) (line : List ℕ) : Status →
    Type 0 where
  whole_line : After (done ++ record { to = err; text = line } ∷ []) old new →
      Says old new done status line status
  line_refused : {n : ℕ} → n ≤ length line → Rose old.err.faults new.err.faults
      → After (done ++ record { to = err; text = take n line } ∷ []) old new →
      Says old new done status line WriteFault
  line_cut : {n : ℕ} → n ≤ length line → After (done ++ record { to = err; text = take n line } ∷ []) old
      new → Says old new done status line NoMemory

-- what a call leaves whose outcome is one of these: what it did, as it ended, and then the line that says
-- so; nothing else changed
pub record Leaves (answers : Outcome → Type 0) (old new : World) (result : Status) : Type 0 where
  pub done : List Write
  pub status : Status
  pub line : List ℕ
  pub ends : Ends answers old new done status line
  pub says : Says old new done status line result
