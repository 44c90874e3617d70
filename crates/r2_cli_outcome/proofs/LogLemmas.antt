-- What reading a log comes to.
use Rattle.std.proofs.Common.{◌≡◌, ◌≢◌, ◌↔◌, IsTrue, IsErrOf, ◌++◌, ℕ, List, Err, refl, sym, subst, codes}
use Rattle.std.specs.Prelude.{decimal}
use Rattle.log_codec.specs.LogText.{BeginsLog, IsLog}
use Rattle.log_codec.specs.Kept.{KeptLog, StandInFull, IsFirstWrong}
use Rattle.log_closure.specs.Wrong as wrong_event
use Rattle.log_closure.specs.Events.{Part, events_of}
use Rattle.log_closure.specs.Closed.{IsClosedPart}
use Rattle.log_closure.specs.declared.error.OrderError.{OrderError}
use Rattle.log_closure.specs.declared.error.OrderError.TheVariants as order_error
use Rattle.r2_cli_outcome.specs.declared.plan.End.{End}
use Rattle.r2_cli_outcome.specs.declared.plan.End.TheVariants.{NoMemory}
use Rattle.r2_cli_outcome.specs.declared.status.Status.TheVariants.{BadLog}
use Rattle.r2_cli_outcome.specs.Outcome.{refusal}
use Rattle.r2_cli_outcome.specs.Plans.{EndsAs, IsEnd}
use Rattle.r2_cli_outcome.specs.Stages.{passed}
use Rattle.r2_cli_outcome.specs.Log.{IsKept, LogOf, wrong, right, bad_byte, bad_event, order_words}
use Rattle.r2_cli_outcome.proofs.StageLemmas.{is_refused}

-- what is kept, of the same bytes
pub kept_of : (bytes text : List ℕ) (kept : KeptLog) → text ≡ bytes → BeginsLog text → StandInFull text kept.records → (IsTrue kept.whole ↔ IsLog text) → IsKept bytes kept
kept_of bytes text kept e begins in_full is = subst (λ (w : List ℕ). IsKept w kept) e (record { begins = begins; in_full = in_full; whole = is })

pub part_passes : (bytes : List ℕ) (kept : KeptLog) (part : Part) → IsKept bytes kept → wrong_event.AreRight kept.whole (events_of kept.records) (events_of kept.records)
    → IsClosedPart (events_of kept.records) part.events → part.whole ≡ kept.whole → LogOf bytes (passed part)
part_passes bytes kept part is fits closed whole = right (record { kept = kept; of_bytes = is; right = fits; closed = closed; whole = whole })

pub byte_refused : (bytes text : List ℕ) (n x y : ℕ) (end : End) → text ≡ bytes → IsFirstWrong text n → IsEnd (refusal BadLog (codes "log byte " ++ decimal n)) end → EndsAs (LogOf bytes) x y end
byte_refused bytes text n x y end e first is =
    is_refused (LogOf bytes) (refusal BadLog (codes "log byte " ++ decimal n)) x y end (wrong (bad_byte (subst (λ (w : List ℕ). IsFirstWrong w n) e first))) is

-- the first event that doesn't fit is named
pub event_refused : {T : Type 0} (bytes : List ℕ) (kept : KeptLog) (error : OrderError) (x y : ℕ) (end : End) → IsKept bytes kept
    → ((e : OrderError) → IsErrOf {T = T} (Err error) e → e ≢ order_error.Memory → wrong_event.IsFirstWrong kept.whole (events_of kept.records) e)
    → (error ≢ order_error.Memory → IsEnd (refusal BadLog (order_words error)) end) → (error ≡ order_error.Memory → end ≡ NoMemory) → EndsAs (LogOf bytes) x y end
event_refused bytes kept order_error.Memory x y end is first words memory = subst (λ (k : End). EndsAs (LogOf bytes) x y k) (sym (memory refl)) tt
event_refused bytes kept (order_error.Twice name) x y end is first words memory =
    is_refused (LogOf bytes) (refusal BadLog (order_words (order_error.Twice name))) x y end (wrong (bad_event is (first (order_error.Twice name) refl (λ e. cc)))) (words (λ e. cc))
event_refused bytes kept (order_error.Missing name) x y end is first words memory =
    is_refused (LogOf bytes) (refusal BadLog (order_words (order_error.Missing name))) x y end (wrong (bad_event is (first (order_error.Missing name) refl (λ e. cc)))) (words (λ e. cc))
event_refused bytes kept (order_error.Clock name) x y end is first words memory =
    is_refused (LogOf bytes) (refusal BadLog (order_words (order_error.Clock name))) x y end (wrong (bad_event is (first (order_error.Clock name) refl (λ e. cc)))) (words (λ e. cc))
