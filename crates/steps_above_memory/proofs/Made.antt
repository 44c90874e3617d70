-- Steps that are made, by one mark that is no event.
use Rattle.std.proofs.Common.{◌≡◌, ℕ, ◌+◌, ◌^◌, ◌<◌, Bool, true, false, List, [], ◌∷◌, sym, ◌∙◌, arith}
use Rattle.std.proofs.lemmas.Bool.{and_parts}
use Rattle.marks.specs.Places.{thread_count, is_constant, is_system}
use Rattle.marks.specs.declared.range.Range.{Range}
use Rattle.marks.specs.Ranges.{covers}
use Rattle.marks.specs.Marks.{Act, Mark, is_event}
use Rattle.marks.specs.Bytes.{Byte, touches, writes}
use Rattle.marks.specs.Wants.{Want}
use Rattle.race_watch.specs.Stands.{Stands}
use Rattle.race_watch_laws.specs.Told.{told}
use Rattle.space_memory_laws.specs.Marks.{IsMark}
use Rattle.space_memory_laws.proofs.Cells.{cover_parts}
use Rattle.replay_runs.specs.Runs.{marks_of, is_fault}
use Rattle.replay_runs.specs.Interface.{Program}
use Rattle.replay_runs.specs.Threads.{frames}
use Rattle.replay_runs.specs.Rules.{is_reply, KeepsModes, Carries}
use Rattle.replay_runs.specs.Known.{NoRace}
use Rattle.replay_runs.specs.Laws.{Undisturbed, fresh}
use Rattle.replay_runs.specs.Unseen.{LeavesFirst}
use Rattle.replay_runs.specs.Checks.{Done, Passes, checks, range_checks}
use Rattle.replay_runs.proofs.Checked.{Touches, exact}
use Rattle.steps_above_memory.specs.declared.above.MemoryAbove.{MemoryAbove}
use Rattle.steps_above_memory.specs.Above.{StandsForAbove}
use Rattle.steps_above_memory.specs.Steps.{IsMade, next_mark}
use Rattle.steps_above_memory.proofs.Extend.{allowed, goes_on}

-- what makes a step
pub record IsStep (program : Program) (memory : ℕ → Byte) (past : List Mark) (t : ℕ) (want : Want) (act : Act) (new : MemoryAbove) : Type 0 where
  pub thread : t < thread_count
  pub plain : is_event act ≡ false
  pub sound : is_fault act ≡ 0
  pub no_race : NoRace past (next_mark memory past t act)
  pub own : (x : ℕ) → touches act x ≡ true → is_system x ≡ false
  pub writable : (x : ℕ) → writes act x ≡ true → is_constant x ≡ false
  pub small : (x : ℕ) → touches act x ≡ true → x < 2 ^ 64
  pub reply : is_reply want act ≡ true
  pub modes : KeepsModes program.interface want
  pub carries : Carries program.interface (fresh memory) t (marks_of (fresh memory) t past) want act
  pub first : LeavesFirst act (frames (marks_of (fresh memory) t past))
  pub mark : IsMark (fresh memory) past (next_mark memory past t act) new.spaces
  pub watch : Stands (told (next_mark memory past t act ∷ past)) new.watch

pub step_made : (program : Program) (memory : ℕ → Byte) (past : List Mark) (old new : MemoryAbove) (t : ℕ) (want : Want) (act : Act) →
    StandsForAbove program memory past old → IsStep program memory past t want act new →
    Passes (checks program.interface (fresh memory) past t want) → IsMade program memory past t want act new
step_made program memory past old new t want act h a passes = record {
  passes = passes;
  no_race = a.no_race;
  stands = λ w. record {
    goes_well = goes_on program memory past t act h.goes_well
        (allowed program memory past t act a.plain want h.goes_well a.thread w a.reply a.modes a.carries a.own a.writable a.mark.asks)
        a.no_race a.first a.sound a.small;
    spaces = a.mark.stands;
    watch = a.watch;
  };
}

-- a step that reads or writes one range, and nothing else
pub record IsAccess (program : Program) (memory : ℕ → Byte) (past : List Mark) (t : ℕ) (want : Want) (act : Act) (write : Bool) (r : Range) (new : MemoryAbove) : Type 0 where
  pub thread : t < thread_count
  pub plain : is_event act ≡ false
  pub sound : is_fault act ≡ 0
  pub touched : Touches (next_mark memory past t act) write r
  pub passes : Passes (range_checks (fresh memory) past t write [] r Done)
  pub ends : r.addr + r.len < 2 ^ 64
  pub reply : is_reply want act ≡ true
  pub modes : KeepsModes program.interface want
  pub carries : Carries program.interface (fresh memory) t (marks_of (fresh memory) t past) want act
  pub first : LeavesFirst act (frames (marks_of (fresh memory) t past))
  pub mark : IsMark (fresh memory) past (next_mark memory past t act) new.spaces
  pub watch : Stands (told (next_mark memory past t act ∷ past)) new.watch

-- where the checks of the range pass, it is made
pub range_made : (program : Program) (memory : ℕ → Byte) (past : List Mark) (old new : MemoryAbove) (t : ℕ) (want : Want) (act : Act) (write : Bool) (r : Range) →
    StandsForAbove program memory past old → IsAccess program memory past t want act write r new →
    Passes (checks program.interface (fresh memory) past t want) → IsMade program memory past t want act new
range_made program memory past old new t want act write r h a passes =
    step_made program memory past old new t want act h
    (record {
      thread = a.thread;
      plain = a.plain;
      sound = a.sound;
      no_race = clear.no_race;
      own = λ x e. clear.own_space x (sym (a.touched.touched x) ∙ e);
      writable = λ x e. let p = and_parts write (covers r x) (sym (a.touched.written x) ∙ e) in clear.writable p.0 x p.1;
      small = λ x e. let p = cover_parts r x (sym (a.touched.touched x) ∙ e) in omega (arith, p.1, a.ends);
      reply = a.reply;
      modes = a.modes;
      carries = a.carries;
      first = a.first;
      mark = a.mark;
      watch = a.watch;
    })
    passes
  where
    clear : Undisturbed (fresh memory) past (next_mark memory past t act) write r
    clear = (exact (fresh memory) past (next_mark memory past t act) write r a.touched).0 a.passes
