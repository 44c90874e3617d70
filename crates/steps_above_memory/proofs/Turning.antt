-- A Turn.
use Rattle.std.proofs.Common.{◌≡◌, ℕ, ◌<◌, true, refl, sym}
use Rattle.std.proofs.lemmas.Bool.{true≢false}
use Rattle.marks.specs.Places.{thread_count}
use Rattle.marks.specs.Marks.{Turn}
use Rattle.marks.specs.Wants.{Turns, answer_to}
use Rattle.replay_runs.specs.Rules.{is_reply}
use Rattle.replay_runs.specs.Laws.{fresh}
use Rattle.replay_runs.proofs.Touching.{races_with_none}
use Rattle.space_memory_laws.proofs.Quiet.{quiet}
use Rattle.steps_above_memory.specs.declared.above.MemoryAbove.{MemoryAbove}
use Rattle.steps_above_memory.specs.Steps.{Makes, next_mark}
use Rattle.steps_above_memory.proofs.Made.{step_made}

turn_reply : is_reply Turns Turn ≡ true
unfolding answer_to
turn_reply = refl

pub turned : (above : MemoryAbove) (t : ℕ) → t < thread_count → Makes above t Turns Turn above
turned above t lt program memory past h modes =
    step_made program memory past above above t Turns Turn h
    (record {
      thread = lt;
      plain = refl;
      sound = refl;
      no_race = races_with_none past (next_mark memory past t Turn) refl (record {
        space = λ x e. absurd (true≢false (sym e));
        constant = λ x e. absurd (true≢false (sym e));
        reading = λ x u e r. true≢false (sym e);
        writing = λ x u e r. true≢false (sym e);
      });
      own = λ x e. absurd (true≢false (sym e));
      writable = λ x e. absurd (true≢false (sym e));
      small = λ x e. absurd (true≢false (sym e));
      reply = turn_reply;
      modes = tt;
      carries = tt;
      first = tt;
      mark = record { asks = tt; stands = quiet (fresh memory) past above.spaces (next_mark memory past t Turn) h.spaces tt };
      watch = h.watch;
    })
    tt
