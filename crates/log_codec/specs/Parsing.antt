-- What reading a log from its prefix says of the bytes.
use Rattle.std.specs.Prelude.{◌≡◌, ℕ, ◌-◌, ◌≤◌, List, length, Result, Ok, Err}
use Rattle.run_events.specs.declared.event.Record.{Record}
use Rattle.byte_format.specs.declared.stop.Stop.{Stop}
use Rattle.byte_format.specs.declared.stop.Stop.TheVariants as stop
use Rattle.log_codec.specs.LogText.{IsLog, BeginsLog}
use Rattle.log_codec.specs.Kept.{CanBeKept, StandInFull, AreAll, IsFirstWrong}

-- the records are those of the bytes, which begin a log text
pub record AreKept (bytes : List ℕ) (rs : List Record) : Type 0 where
  pub begins : BeginsLog bytes
  pub full : StandInFull bytes rs
  pub all : AreAll bytes rs
  pub can : CanBeKept rs
  pub right : (n : ℕ) → IsFirstWrong bytes n → ⊥

-- the byte at n is the first wrong one, and no other is
pub record NamesWrong (bytes : List ℕ) (n : ℕ) : Type 0 where
  pub wrong : IsFirstWrong bytes n
  pub alone : (m : ℕ) → IsFirstWrong bytes m → m ≡ n
  pub begins : BeginsLog bytes → ⊥

abbrev pub HasRead : List ℕ → Result (Unit {0}) Stop → List Record → Type 0
HasRead bytes (Ok done) rs = IsLog bytes × AreKept bytes rs
HasRead bytes (Err stop.Memory) rs = Unit {0}
HasRead bytes (Err stop.Short) rs = (IsLog bytes → ⊥) × AreKept bytes rs
HasRead bytes (Err (stop.Wrong n)) rs = (n ≤ length bytes) × NamesWrong bytes (length bytes - n)
