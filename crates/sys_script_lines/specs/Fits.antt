-- What holds of a system file that is read: its numbers are in their ranges, and its answers are those that the functions have.
use Rattle.std.specs.Prelude.{◌≡◌, ◌≢◌, ℕ, ◌-◌, ◌^◌, ◌<◌, ◌≤◌, List, [], length, Option, Some}
use Rattle.std.specs.List.{AllByRecursion}
use Rattle.run_events.specs.declared.event.TheConstants.{LOG_THREADS}
use Rattle.system_side.specs.declared.file.Scripted.{Scripted}
use Rattle.system_side.specs.declared.file.SysFile.{SysFile}
use Rattle.sys_script_lines.specs.declared.externals.External.{External}

-- a thread, and how often it is wished for
pub record IsTurn (turn : ℕ × ℕ) : Type 0 where
  pub thread : turn.0 < LOG_THREADS
  pub some : 1 ≤ turn.1
  pub few : turn.1 ≤ 1_000_000

-- a number up to the greatest, or the pattern of 64 bits of one so far below 0
pub data IsInRange (below most : ℕ) : ℕ → Type 0 where
  up_to : {r : ℕ} → r ≤ most → IsInRange below most r
  below_zero : {n : ℕ} → 1 ≤ n → n ≤ below → IsInRange below most (2 ^ 64 - n)

abbrev pub AreBytes : List ℕ → Type 0
AreBytes bs = AllByRecursion (λ b. b < 256) bs

-- an answer of a function that has this name: a result in its range, and as many pieces as it asks
pub record IsAnswerOf (who : List ℕ → Option External) (a : Scripted) : Type 0 where
  pub name : List ℕ
  pub external : External
  pub known : who name ≡ Some external
  pub func : a.func ≡ external.func
  pub result : IsInRange external.below external.most a.result
  pub pieces : length a.pieces ≡ external.pieces
  pub bytes : AllByRecursion AreBytes a.pieces

pub record IsFit (who : List ℕ → Option External) (file : SysFile) : Type 0 where
  pub budget : file.budget ≤ 100_000_000
  pub some_records : 1 ≤ file.chunk
  pub few_records : file.chunk < 2 ^ 16
  pub some_turns : file.schedule ≢ []
  pub turns : AllByRecursion IsTurn file.schedule
  pub answers : AllByRecursion (IsAnswerOf who) file.answers
