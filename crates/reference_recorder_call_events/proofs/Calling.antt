-- A Call, of which no test fails.
use Rattle.std.proofs.Common.{◌≡◌, ⊎_elim, ℕ, ◌≤◌, ◌<◌, ◌^◌, Bool, true, false, ◌||◌, eqb, List, [], ◌∷◌, ◌++◌, map, Option, None, refl, sym, ap, ◌∙◌, subst, eqb-true, eq-eqb, arith}
use Rattle.std.specs.Prelude.{is_some}
use Rattle.std.proofs.lemmas.Bool.{and_from, cases_lt, or_cases, true≢false}
use Rattle.run_events.specs.declared.key.Class.{Class}
use Rattle.run_events.specs.declared.key.Class.TheVariants.{Mutex, User, Callback, Thread, Pool, Out, Async}
use Rattle.marks.specs.declared.side.Side.TheVariants.{Replay}
use Rattle.marks.specs.declared.range.Range.{Range}
use Rattle.marks.specs.Ranges.{Prepared, any_prepared, any_range, covers, prepared_ranges}
use Rattle.marks.specs.Marks.{Call, EventKind, Mark}
use Rattle.marks.specs.Bytes.{Dead, IsLive}
use Rattle.marks.specs.Wants.{Calls, Go, answer_if, event_answer, same_numbers}
use Rattle.stub_meaning.specs.Calls.{Done}
use Rattle.replay_runs.specs.Runs.{OfKey, Start, byte, new_events}
use Rattle.replay_runs.specs.Checks.{Passes, checks}
use Rattle.replay_runs.specs.Passing.{CallMayPass, NoneInUse}
use Rattle.replay_runs.specs.Pool.{in_use, prepares_key}
use Rattle.replay_runs.specs.Rules.{SharedEvent}
use Rattle.replay_runs.proofs.Calls.{reads_to, writes_to}
use Rattle.replay_runs.proofs.Holding.{not_dead}
use Rattle.replay_runs.proofs.Passing.{say}
use Rattle.steps_above_memory.proofs.Accesses.{same_numbers_self}
use Rattle.whole_runs.specs.World.{World, begin, interface}
use Rattle.whole_runs.specs.Sides.{seen}
use Rattle.whole_runs.specs.Memory.{filled, real}
use Rattle.whole_runs.specs.Tests.{tests}
use Rattle.whole_runs.specs.Steps.{Picked}
use Rattle.whole_runs_memory.specs.Plain.{IsReally}
use Rattle.whole_runs_memory.proofs.RealRuns.{real_above}
use Rattle.recorder_state.specs.Inputs.{world_of}
use Rattle.recorder_events.specs.Making.{CanBe}
use Rattle.reference_recorder_marks.specs.declared.mark.Mark.{Mark as Told}
use Rattle.reference_recorder_marks.specs.Marks.{past}
use Rattle.reference_recorder_calls.specs.Said.{IsSaid}
use Rattle.reference_recorder_scans.specs.Found.{IsLow}
use Rattle.reference_recorder_targets.specs.Said.{done_on}
use Rattle.reference_recorder_rules.specs.Steps.{IsMadeAs}
use Rattle.reference_recorder_events.proofs.Numbered.{event_made_as}
use Rattle.reference_recorder_call_events.specs.declared.memory.Memory.{Memory}
use Rattle.reference_recorder_call_events.specs.Memory.{memory_of}
use Rattle.reference_recorder_call_events.specs.Calls.{IsCallDone, IsCallNext, IsCallOf}
use Rattle.reference_recorder_call_events.proofs.Told.{low_so, real_are}
use Rattle.reference_recorder_call_events.proofs.ReadBytes.{ranges_read, shows_read, whole_read}

-- ---- ranges and keys of regions

held_any : (outs : List Range) (ps : List Prepared) (x : ℕ) → (any_range outs x || any_prepared ps x) ≡ any_range (outs ++ prepared_ranges ps) x
held_any [] [] x = refl
held_any [] (p ∷ ps) x = ap (λ b. covers p.range x || b) (held_any [] ps x)
held_any (r ∷ rs) ps x = go (covers r x) (held_any rs ps x)
  where
    go : (b : Bool) → (any_range rs x || any_prepared ps x) ≡ any_range (rs ++ prepared_ranges ps) x →
        ((b || any_range rs x) || any_prepared ps x) ≡ (b || any_range (rs ++ prepared_ranges ps) x)
    go true e = refl
    go false e = e

none_used : (s : Start) (q : List Mark) (ps : List Prepared) (k : ℕ) → NoneInUse s q ps → prepares_key ps k ≡ true → in_use s k q ≡ None
none_used s q [] k none e = absurd (true≢false (sym e))
none_used s q (p ∷ ps) k none e = ⊎_elim
    (λ z. subst (λ j. in_use s j q ≡ None) (eqb-true p.key k z) none.0)
    (λ z. none_used s q ps k none.1 z)
    (or_cases (eqb p.key k) (prepares_key ps k) e)

-- ---- the step

module _ (w : World) (marks : List Told) (t f : ℕ) (args : List ℕ) (h : IsCallNext w marks t f args) where
  abbrev pub run : List Mark
  run = h.next.at.past.run

  abbrev pub s : Picked w run
  s = h.next.at.step

  abbrev pub d : Done
  d = done_on w Replay f args 0

  tested : Passes (checks (interface w) (begin w) (seen run) s.thread (Calls h.indirect f args))
  tested = subst (λ v. Passes (tests w run s.thread Replay v)) h.next.at.told
      (subst (λ side. Passes (tests w run s.thread side s.want)) h.next.at.on_side h.next.passes)

  may : CallMayPass (interface w) (begin w) (seen run) s.thread h.indirect f args
  may = ((say (begin w) (seen run) s.thread (interface w)).calls h.indirect f args).0 tested

  module _ (low : (x : ℕ) → 2 ^ 31 ≤ x → (byte (begin w) x (seen run)).cell ≡ Dead) (memory : ℕ → Option ℕ) (memory_is : (x : ℕ) → memory x ≡ real w run x)
      (kind : EventKind) (c : IsCallDone memory f args d kind) where
    live : (x : ℕ) → any_range d.ins x ≡ true → IsLive (byte (begin w) x (seen run)).cell × IsReally (byte (begin w) x (seen run)).cell (memory x) × (x < 2 ^ 64)
    live x e =
        let r = reads_to (begin w) (seen run) s.thread d.ins may.reads in
        let l = r.live x e in (
          l,
          subst (IsReally (byte (begin w) x (seen run)).cell) (sym (memory_is x)) (real_above w h.next.at.past.fit run h.next.at.past.follows x (r.space x e)),
          ⊎_elim (λ lt. omega (arith, lt)) (λ le. absurd (not_dead (byte (begin w) x (seen run)).cell l (low x le))) (cases_lt x (2 ^ 31)),
        )

    held : (x : ℕ) → (any_range d.outs x || any_prepared d.prepares x) ≡ true → IsLive (byte (begin w) x (seen run)).cell
    held x e = (writes_to (begin w) (seen run) s.thread (d.outs ++ prepared_ranges d.prepares) may.holds).live x (sym (held_any d.outs d.prepares x) ∙ e)

    abbrev call : EventKind
    call = Call f args c.ins d.outs d.prepares

    shared : (class : Class) (value : ℕ) → SharedEvent (interface w) (begin w) class value (new_events (OfKey (record { class = class; value = value })) (seen run)) call
    shared Mutex value = tt
    shared User value = tt
    shared Callback value = tt
    shared Thread value = tt
    shared Pool value = tt
    shared Out value = tt
    shared Async value = λ e. none_used (begin w) (seen run) d.prepares value may.free_keys e

    answers : is_some (event_answer s.want call) ≡ true
    answers = ap (λ v. is_some (event_answer v call)) h.next.at.told
        ∙ ap (λ b. is_some (answer_if b Go)) (and_from (eqb f f) (same_numbers args args) (eq-eqb f f refl) (same_numbers_self args))

    can_be : CanBe w run s call
    can_be = record {
      answers = answers;
      agrees = tt;
      carries = (ranges_read memory d.ins (map (λ (r : Range). r.len) d.ins) c.ins c.read, whole_read memory d.ins c.ins c.read, refl, refl, may.apart, may.distinct);
      shared = λ k among. shared k.class k.value;
      bytes = λ x. (shows_read memory (λ y. (byte (begin w) y (seen run)).cell) d.ins c.ins c.read live x, held x);
      passes = h.next.passes;
    }

    pub can_be_call : CanBe w run s kind
    can_be_call = subst (CanBe w run s) (sym c.kind_is) can_be

module _ (m : Memory) (t f : ℕ) (args : List ℕ) (h : IsCallNext (world_of m.inputs) m.marks.now t f args) (none : m.answer.now ≡ []) (low : IsLow (world_of m.inputs) (past m.marks.now)) where
  pub call_made : (marked : Told) → IsCallOf m t f args marked → IsMadeAs (world_of m.inputs) h.next.at.past.run h.next.at.step marked
  call_made marked c =
      let w = world_of m.inputs in
      let p = h.next.at.past in
      let is : (x : ℕ) → memory_of m x ≡ real w p.run x = λ x. ap (λ ps. filled ps x (real w (past m.marks.now) x)) none ∙ real_are w m.marks.now p x in
      let made = subst (λ (z : Done). IsCallDone (memory_of m) f args z c.kind) c.done_is c.call in
      let said : IsSaid (interface w) (done_on w Replay f args 0) c.kind = subst (IsSaid (interface w) (done_on w Replay f args 0)) (sym made.kind_is) (refl, refl, refl) in
      event_made_as w m.marks.now p h.next.at.step t h.next.at.of_thread c.kind c.done marked c.event
      (can_be_call w m.marks.now t f args h (low_so w m.marks.now p low) (memory_of m) is c.kind made)
      (subst (λ (z : Done). IsSaid (interface w) z c.kind) (sym c.done_is) said)
