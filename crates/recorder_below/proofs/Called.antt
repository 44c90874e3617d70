-- A step of a builtin or external that memory made: the rest of the state is told of its result.
use Rattle.std.proofs.Common.{◌≡◌, ℕ, Bool, true, false, cond, eqb, List, [], ◌∷◌, ◌++◌, refl, sym, ap, ◌∙◌, subst}
use Rattle.marks.specs.declared.side.Side.TheVariants.{System}
use Rattle.marks.specs.declared.range.Range.{Range}
use Rattle.marks.specs.Ranges.{Piece}
use Rattle.marks.specs.Marks.{Act, Mark, Step}
use Rattle.marks.specs.Wants.{Value, answer_to}
use Rattle.c_builtins.specs.declared.builtin.Builtin.TheVariants.{Print}
use Rattle.c_builtins.specs.Table.{number_of}
use Rattle.replay_runs.specs.Records.{pieces_in_a_row}
use Rattle.steps_above_interface.specs.Stands as functions
use Rattle.steps_above_stamps.specs.Stamps.{AreStampsOf}
use Rattle.whole_runs.specs.World.{World, interface}
use Rattle.whole_runs.specs.Sides.{seen}
use Rattle.whole_runs.specs.Log.{printed_below}
use Rattle.recorder_memory.specs.declared.memory.Memory.{Memory}
use Rattle.recorder_memory.specs.Stands.{placed}
use Rattle.recorder_memory.specs.Steps.{IsMarked, next_mark}
use Rattle.recorder_threads.specs.declared.wants.Want.TheVariants as told
use Rattle.recorder_threads.specs.Threads.{args_at}
use Rattle.recorder_state.specs.declared.state.RunState.{RunState}
use Rattle.recorder_state.specs.declared.prepared.PreparedBelow.{PreparedBelow}
use Rattle.recorder_state.specs.Prepared.{ArePreparedBelow}
use Rattle.recorder_state.specs.Stands.{IsAroundAfter}
use Rattle.recorder_state.specs.Turns.{IsAtStep}
use Rattle.recorder_state.specs.Plain.{IsResultStep}
use Rattle.recorder_state.proofs.Plain.{same_book, same_output, seen_below}
use Rattle.recorder_state.proofs.Going.{room}
use Rattle.recorder_plain.proofs.Replies.{plain_replies, step_gives}

append_none : (xs : List ℕ) → xs ++ [] ≡ xs
append_none [] = refl
append_none (x ∷ xs) = ap (λ ys. x ∷ ys) (append_none xs)

nothing_read : (f : ℕ) → printed_below f [] ≡ []
nothing_read f = by (eqb f (number_of Print))
  where
    by : (b : Bool) → cond b (pieces_in_a_row []) [] ≡ []
    by true = refl
    by false = refl

-- what reads nothing prints nothing
pub prints_nothing : (xs : List ℕ) (f : ℕ) → xs ≡ xs ++ printed_below f []
prints_nothing xs f = sym (ap (λ ys. xs ++ ys) (nothing_read f) ∙ append_none xs)

module _ (w : World) (s : RunState) (t : ℕ) (i : Bool) (f : ℕ) (at : IsAtStep w s t System (told.Step i f)) where
  abbrev pub args : List ℕ
  args = args_at s.threads t

  module _ (v : ℕ) (ins pieces : List Piece) (freed : List Range) (new : Memory) where
    abbrev pub act : Act
    act = Step f args v ins pieces freed

    abbrev pub m : Mark
    m = next_mark w at.reached.past at.step.thread at.step.side act

    -- of the state it changes memory, and what was prepared and printed below the cut
    pub gives : (regions : PreparedBelow) (s' : RunState) → s' ≡ record s { memory = new; prepared = regions; system_output = s'.system_output } → ArePreparedBelow w (m ∷ at.reached.past) regions → s'.system_output.items ≡ s.system_output.items ++ printed_below f ins → IsMarked w at.reached.past at.step act new → IsResultStep w s' t f v (Value v)
    gives regions s' is kept printed marked = subst (λ z. IsResultStep w z t f v (Value v)) (sym is) (record {
      marked = record {
        fit = at.reached.fit;
        past = at.reached.past;
        follows = at.reached.follows;
        steps = at.reached.steps;
        step = at.step;
        thread = at.thread;
        mark = m;
        made = marked.made;
        room = room at.reached.past m refl;
        others = record {
          memory = marked.stands;
          stamps = along (λ ms. AreStampsOf (placed w) ms s.stamps) around.shown.stamps;
          book = same_book m refl w at.reached.past s.book around.shown.book;
          output = around.shown.output ∙ sym (same_output m refl w at.reached.past);
          system_output = printed ∙ ap (λ xs. xs ++ printed_below f ins) around.shown.system_output;
          interface = along (λ ms. functions.IsStateOf (interface w) (placed w) ms s.interface) around.interface;
          functions = around.functions;
          prepared = kept;
        };
      };
      threads = around.shown.threads;
      system = around.system;
      outcome_is = refl;
      answers = plain_replies at.step.side at.step.want m (Value v) refl refl (ap (λ z. answer_to z act) at.told ∙ step_gives i f args v ins pieces freed);
    })
      where
        around : IsAroundAfter w at.reached.past s
        around = at.reached.around

        along : (P : List Mark → Type 0) → P (seen at.reached.past) → P (seen (m ∷ at.reached.past))
        along P h = subst P (sym (seen_below at.reached.past m at.side_is)) h
