-- The stage that reads a log: its bytes and the order of its events are right, or the first wrong one is
-- named.
use Rattle.std.specs.Prelude.{◌≡◌, ◌↔◌, ℕ, List, ◌++◌, IsTrue, codes, decimal}
use Rattle.log_codec.specs.LogText.{IsLog, BeginsLog}
use Rattle.log_codec.specs.Kept.{KeptLog, StandInFull, IsFirstWrong}
use Rattle.log_closure.specs.Events.{Part, events_of}
use Rattle.log_closure.specs.Closed.{IsClosedPart}
use Rattle.log_closure.specs.Wrong as order
use Rattle.log_closure.specs.declared.error.OrderError.{OrderError}
use Rattle.log_closure.specs.declared.error.OrderError.TheVariants.{Twice, Missing, Clock, Memory}
use Rattle.event_texts.specs.EventTexts.{name_text}
use Rattle.r2_cli_outcome.specs.declared.status.Status.TheVariants.{BadLog}
use Rattle.r2_cli_outcome.specs.Outcome.{refusal}
use Rattle.r2_cli_outcome.specs.Reading.{Reading}
use Rattle.r2_cli_outcome.specs.Stages.{Answer, Stage, passed, ended, ◌>>=◌}
use Rattle.r2_cli_outcome.specs.Input.{Input, most_log_bytes}

-- what is kept of bytes with which a log text begins: the records that stand in full, and whether they are
-- a log text
pub record IsKept (bytes : List ℕ) (kept : KeptLog) : Type 0 where
  pub begins : BeginsLog bytes
  pub in_full : StandInFull bytes kept.records
  pub whole : IsTrue kept.whole ↔ IsLog bytes

-- the events pass the order checks, and these are the closed part of them
pub record IsLogPart (bytes : List ℕ) (part : Part) : Type 0 where
  pub kept : KeptLog
  pub of_bytes : IsKept bytes kept
  pub right : order.AreRight kept.whole (events_of kept.records) (events_of kept.records)
  pub closed : IsClosedPart (events_of kept.records) part.events
  pub whole : part.whole ≡ kept.whole

-- the words of what is wrong with an event
abbrev pub order_words : OrderError → List ℕ
order_words (Twice name) = codes "log twice " ++ name_text name
order_words (Missing name) = codes "log missing " ++ name_text name
order_words (Clock name) = codes "log clock " ++ name_text name
order_words Memory = codes "no memory"

-- the words of what is wrong with a log: its first wrong byte, or else its first wrong event in file order
pub data IsBadLog (bytes : List ℕ) : List ℕ → Type 0 where
  bad_byte : {n : ℕ} → IsFirstWrong bytes n → IsBadLog bytes (codes "log byte " ++ decimal n)
  bad_event : {kept : KeptLog} {error : OrderError} → IsKept bytes kept →
      order.IsFirstWrong kept.whole (events_of kept.records) error → IsBadLog bytes (order_words error)

pub data LogOf (bytes : List ℕ) : Answer Part → Type 0 where
  wrong : {words : List ℕ} → IsBadLog bytes words → LogOf bytes (ended (refusal BadLog words))
  right : {part : Part} → IsLogPart bytes part → LogOf bytes (passed part)

-- the reading of a log, its size, its bytes and its order
abbrev pub log : Reading → (name : List ℕ) → Stage Part
log reading name = Input reading name (codes "log") most_log_bytes >>= LogOf
