-- Writes, and a text that is written in pieces, for the code.
use Rattle.std.specs.Prelude.{◌≡◌, ◌≤◌, ◌++◌, [], ◌∷◌, ℕ, List, length, take, Result, Ok, Err}
use Rattle.r2_base.specs.Causes.{Rose, IsWriteCause}
use Rattle.r2_base.specs.declared.fault.Fault.{Fault}
use Rattle.r2_base.specs.declared.fault.Fault.TheVariants.{Failed, Memory}
use Rattle.r2_cli_outcome.specs.World.{World}
use Rattle.r2_cli_outcome.specs.Outcome.{Target, Write, file}
use Rattle.r2_cli_outcome.specs.After.{After}
use Rattle.r2_cli_outcome.specs.Left.{StopsAt, faults_at}

abbrev pub one : Target → List ℕ → List Write
one t text = record { to = t; text = text } ∷ []

-- the text was added there: what had been written there before now has it at its end
abbrev pub AddsAt : Target → List ℕ → World → World → Type 0
AddsAt t text old new = (begun : World) (before : List ℕ) → After (one t before) begun old →
    After (one t (before ++ text)) begun new

-- the text was added, or a prefix of it after a refusal
abbrev pub Puts : Target → List ℕ → World → World → Result (Unit {0}) Fault → Type 0
Puts t text old new (Ok done) = AddsAt t text old new
Puts t text old new (Err fault) = ((n : ℕ) × (n ≤ length text) × AddsAt t (take n text) old new) ×
    IsWriteCause (faults_at t old) (faults_at t new) fault

-- a write was begun: a file holds nothing; or it could not be emptied, and holds what it held
abbrev pub Begins : Target → World → World → Result (Unit {0}) Fault → Type 0
Begins t old new (Ok done) = After (one t []) old new
Begins t old new (Err fault) = ((name : List ℕ) × (t ≡ file name)) × After [] old new ×
    IsWriteCause (faults_at t old) (faults_at t new) fault

-- of what is to be written a prefix was added, some waits, and the rest is left and isn't made yet
pub record IsSending (t : Target) (old now : World) (waiting left whole : List ℕ) : Type 0 where
  pub sent : List ℕ
  pub added : AddsAt t sent old now
  pub parts : whole ≡ sent ++ (waiting ++ left)

-- text that waited was added where it was long enough, and the rest waits; or after a refusal a prefix of
-- it was added
abbrev pub Sends : Target → List ℕ → List ℕ → World → World → Result (Unit {0}) Fault → Type 0
Sends t text rest old new (Ok done) = (sent : List ℕ) × (text ≡ sent ++ rest) × AddsAt t sent old new
Sends t text rest old new (Err fault) = Puts t text old new (Err fault)

-- writes were done, or stopped at one for this fault
pub data Stops (writes : List Write) (old new : World) (fault : Fault) : Type 0 where
  failed : {w : Write} {done : List Write} → fault ≡ Failed → StopsAt writes w done →
      Rose (faults_at w.to old) (faults_at w.to new) → After done old new
      → Stops writes old new fault
  memory : {w : Write} {done : List Write} → fault ≡ Memory → StopsAt writes w done → After done old new →
      Stops writes old new fault

abbrev pub Does : List Write → World → World → Result (Unit {0}) Fault → Type 0
Does writes old new (Ok done) = After writes old new
Does writes old new (Err fault) = Stops writes old new fault
