-- What the marks so far say of the next one, and what the rules ask of one that is no event.
use Rattle.std.proofs.Common.{◌≡◌, ℕ, ◌+◌, ◌^◌, ◌<◌, true, false, List, length, sym, ap, ◌∙◌, arith}
use Rattle.std.proofs.lemmas.Bool.{true≢false}
use Rattle.marks.specs.declared.side.Side.{Side}
use Rattle.marks.specs.declared.side.Side.TheVariants.{Replay, System}
use Rattle.marks.specs.Places.{thread_count}
use Rattle.marks.specs.Marks.{Act, Turn, Load, Store, Enter, Leave, Step, Fault, Made, Mark, is_event}
use Rattle.marks.specs.Bytes.{Asks}
use Rattle.replay_runs.specs.Runs.{Link, OfThread, byte, has, marks_of, new_events}
use Rattle.replay_runs.specs.Interface.{Interface}
use Rattle.replay_runs.specs.Rules.{Carries, HasKeys}
use Rattle.replay_runs.proofs.Canon.{has_made}
use Rattle.whole_runs.specs.World.{World, begin, interface}
use Rattle.whole_runs.specs.Sides.{events_by, frames_on, seen}
use Rattle.whole_runs.specs.Memory.{real}
use Rattle.whole_runs.specs.Steps.{IsMark, Picked}
use Rattle.whole_runs.specs.Ends.{Follows}
use Rattle.whole_runs_laws.proofs.FaultsAbove.{events_seen, few_threads}
use Rattle.reference_recorder_marks.specs.declared.mark.Mark.{Mark as Told}
use Rattle.reference_recorder_marks.specs.Marks.{past}
use Rattle.reference_recorder_origins.proofs.Memory.{frames_on_without, real_without}
use Rattle.reference_recorder_origins.proofs.Parts.{new_without}
use Rattle.reference_recorder_threads.specs.Telling.{IsPast}
use Rattle.reference_recorder_threads.proofs.Oldest.{as_many}

-- ---- what the marks say, the run says

module _ (w : World) (marks : List Told) (p : IsPast w marks) where
  pub events_told : (l : Link) → new_events l (past marks) ≡ new_events l p.run
  events_told l = ap (new_events l) (sym p.same) ∙ new_without l p.run

  -- how many events a thread made
  pub index_told : (t : ℕ) → length (new_events (OfThread t) (past marks)) ≡ events_by w t p.run
  index_told t = ap length (events_told (OfThread t))

  pub real_told : (x : ℕ) → real w (past marks) x ≡ real w p.run x
  real_told x = ap (λ ms. real w ms x) (sym p.same) ∙ real_without w x p.run

  pub frames_told : (side : Side) (t : ℕ) → frames_on w side t (past marks) ≡ frames_on w side t p.run
  frames_told side t = ap (frames_on w side t) (sym p.same) ∙ frames_on_without w side t p.run

  module _ (s : Picked w p.run) where
    -- the marks can be numbered
    pub few_marks : length marks + 1 < 2 ^ 32
    few_marks =
        let room = s.goes_on.in_budget in
        let most = p.fit.file.budget in
        let same = as_many p.run marks p.same in
        omega (arith, room, most, same)

    pub few : s.thread < thread_count
    few = few_threads w p.fit.file p.run s

-- ---- what the rules ask of a mark that is no event

keyless : (i : Interface) (t : ℕ) (mine : List Mark) (a : Act) → is_event a ≡ false → HasKeys i t mine a
keyless i t mine Turn plain = tt
keyless i t mine (Load o at bytes) plain = tt
keyless i t mine (Store o at bytes) plain = tt
keyless i t mine (Enter f args at bytes) plain = tt
keyless i t mine (Leave at size) plain = tt
keyless i t mine (Step f args v ins pieces freed) plain = tt
keyless i t mine (Fault kind crosses ins outs access) plain = tt
keyless i t mine (Made e) plain = absurd (true≢false plain)

module _ (w : World) (run : List Mark) (follows : Follows w run) (s : Picked w run) (m : Mark) (plain : is_event m.act ≡ false) where
  no_link : (l : Link) → has m l ≡ true → ⊥
  no_link l h = true≢false (sym (has_made m l h) ∙ plain)

  -- what it carries, and what it asks of memory
  pub plain_mark : m.thread ≡ s.thread → m.index ≡ events_by w m.thread run →
      (m.side ≡ Replay → Carries (interface w) (begin w) m.thread (marks_of (begin w) m.thread (seen run)) s.want m.act) →
      (m.side ≡ Replay → Asks m.act (λ x. byte (begin w) x (seen run))) → IsMark w run s m
  plain_mark thread index carries asks = record {
    of_thread = thread;
    index = index;
    above = λ e. record {
      own = (keyless (interface w) m.thread (marks_of (begin w) m.thread (seen run)) m.act plain, carries e);
      index = index ∙ ap length (events_seen w run follows (OfThread m.thread));
      steps = λ h. absurd (true≢false (sym h ∙ plain));
      tickets = λ l h. absurd (no_link l h);
      shared = λ l h. absurd (no_link l h);
      rises = λ l h. absurd (no_link l h);
      least = λ h. absurd (true≢false (sym h ∙ plain));
      bytes = asks e;
    };
  }

  -- below the cut it need do no more than be numbered
  pub mark_below : m.side ≡ System → m.thread ≡ s.thread → m.index ≡ events_by w m.thread run → IsMark w run s m
  mark_below below thread index = record { of_thread = thread; index = index; above = λ e. absurd (apart (sym below ∙ e)) }
    where
      apart : System ≡ Replay → ⊥
      apart e = absurd cc
