-- Frames: an Enter where there is room, and the end of a thread's innermost frame.
use Rattle.std.proofs.Common.{◌≡◌, ⊎_elim, inl, inr, ℕ, ◌+◌, ◌-◌, ◌<◌, ◌≤◌, Bool, true, false, ◌&&◌, not, eqb, List, [], ◌∷◌, ◌++◌, length, Some, Err, is_some, refl, sym, ap, ◌∙◌, subst, arith, eq-eqb}
use Rattle.std.specs.Prelude.{IfSome, slice_get, slice_index, unwrap_or}
use Rattle.std.proofs.lemmas.List.FromFn.{length-map-range_with_len}
use Rattle.std.proofs.lemmas.Bool.{and_from, and_parts, or_cases, true≢false}
use Rattle.marks.specs.declared.side.Side.TheVariants.{Replay}
use Rattle.marks.specs.declared.fault.FaultKind.TheVariants as fault
use Rattle.marks.specs.Places.{thread_count, stack, is_constant}
use Rattle.marks.specs.declared.range.Range.{Range}
use Rattle.marks.specs.Ranges.{range, within, covers}
use Rattle.marks.specs.Marks.{Enter, Mark}
use Rattle.marks.specs.Bytes.{Byte, writes, touches}
use Rattle.marks.specs.Wants.{Enters, Frame, answer_if, answer_to, same_numbers}
use Rattle.marks.proofs.Touched.{or_true_left}
use Rattle.space_memory_bytes.specs.Areas.{byte_at, extents}
use Rattle.space_memory_bytes.specs.Numbers.{FillsWith}
use Rattle.space_memory_access.specs.declared.refusal.Refusal.{Refusal}
use Rattle.space_memory_access.specs.declared.refusal.Refusal.TheVariants as cause
use Rattle.space_memory.specs.StackFrames.{StackState, stack_of, end_of}
use Rattle.space_memory.specs.Sides.{SideState, frames_of, top_of, with_thread}
use Rattle.space_memory.specs.Spaces.{SpaceState, with_side}
use Rattle.space_memory.specs.declared.sides.Sides.{Sides}
use Rattle.space_memory.specs.Frames.{IsEnterRefused, with_args}
use Rattle.space_memory_laws.specs.FrameMarks.{IsEnter, HasArgs, bytes_with_args}
use Rattle.space_memory_laws.proofs.Args.{arguments}
use Rattle.space_memory_laws.proofs.Cells.{cover_parts, covered}
use Rattle.space_memory_laws.proofs.Frames.{enters}
use Rattle.space_memory_laws.proofs.Rooms.{full_stacks}
use Rattle.space_memory_laws.proofs.Stacks.{end_is, same_stack, last_of}
use Rattle.replay_runs.specs.Runs.{marks_of}
use Rattle.replay_runs.specs.Interface.{Interface, Program}
use Rattle.replay_runs.specs.Laws.{fresh}
use Rattle.replay_runs.specs.Owning.{IsOwn}
use Rattle.replay_runs.specs.Passing.{Unraced}
use Rattle.replay_runs.specs.Rules.{is_reply, KeepsModes}
use Rattle.replay_runs.specs.Threads.{HasRoom, frame_place, frames}
use Rattle.replay_runs.specs.Checks.{Checks, Finding, FaultFound, Finds, Races, checks, indirect_check}
use Rattle.replay_runs.proofs.Owning.{objects_own}
use Rattle.replay_runs.proofs.Passing.{say}
use Rattle.replay_runs.proofs.Touching.{races_with_none}
use Rattle.replay_runs.proofs.Unseen.{frames_unraced, stay_whole}
use Rattle.race_watch.specs.declared.error.WatchError.{WatchError}
use Rattle.race_watch.specs.declared.error.WatchError.TheVariants as error
use Rattle.race_watch.specs.Told.{Accessed}
use Rattle.race_watch.specs.Stands.{Stands, AnswersBy, WasTold}
use Rattle.race_watch_laws.specs.Told.{told}
use Rattle.race_watch_laws.proofs.Races.{races_same}
use Rattle.steps_above_memory.specs.declared.above.MemoryAbove.{MemoryAbove}
use Rattle.steps_above_memory.specs.declared.refusal.StepRefusal.{StepRefusal}
use Rattle.steps_above_memory.specs.Above.{StandsForAbove}
use Rattle.steps_above_memory.specs.Refusals.{IsFound, refusal_of, refusal_by}
use Rattle.space_memory_laws.specs.Changes.{IsEntered}
use Rattle.steps_above_memory.specs.Steps.{IsMade, Makes, Refuses, next_mark}
use Rattle.steps_above_memory.proofs.Accesses.{same_numbers_self}
use Rattle.steps_above_memory.proofs.Made.{step_made}

-- the new frame is the innermost one
pub top_with : (side : SideState) (t : ℕ) (fs : List Range) (f : Range) → t < length side.stacks → top_of (with_thread side t (fs ++ f ∷ [])) t ≡ Some f
top_with side t fs f lt =
    ap (λ (q : StackState). slice_get q.frames (length q.frames - 1)) (same_stack side.stacks t (fs ++ f ∷ []) lt) ∙ last_of fs f

enter_reply : (i : Bool) (f at : ℕ) (args bytes : List ℕ) → is_reply (Enters i f args bytes) (Enter f args at bytes) ≡ true
unfolding answer_to
enter_reply i f at args bytes = ap (λ b. is_some (answer_if b (Frame at)))
    (and_from (eqb f f) (same_numbers args args && same_numbers bytes bytes) (eq-eqb f f refl)
    (and_from (same_numbers args args) (same_numbers bytes bytes) (same_numbers_self args) (same_numbers_self bytes)))

-- a test of the mode that is kept finds nothing
after_mode : (i : Interface) (b : Bool) (f : ℕ) (cs : Checks) (g : Finding) → (b ≡ true → i.may_run Replay f ≡ true) → Finds cs g → Finds (indirect_check i b Replay f cs) g
after_mode i true f cs g m h = inr ((λ x z. true≢false (sym (m refl) ∙ z.1)), h)
after_mode i false f cs g m h = h

pub less_races : (past : List Mark) (t x u : ℕ) → Races past t false x u → Races past t true x u
less_races past t x u r =
    let w : writes r.0.act x ≡ true = ⊎_elim (λ z. z)
    (λ z. absurd (true≢false (sym (and_parts false (not (is_constant x) && touches r.0.act x) z).0)))
    (or_cases (writes r.0.act x) (false && (not (is_constant x) && touches r.0.act x)) r.4) in
    (r.0, r.1, r.2, r.3, or_true_left (writes r.0.act x) (true && (not (is_constant x) && touches r.0.act x)) w, r.5)

module _ (program : Program) (memory : ℕ → Byte) (past : List Mark) (old : MemoryAbove) (h : StandsForAbove program memory past old) (t size : ℕ) (lt : t < thread_count) where
  abbrev place : ℕ
  place = frame_place t (marks_of (fresh memory) t past)

  -- no room is found
  full_found : (i : Bool) (f : ℕ) (args bytes : List ℕ) → length bytes ≡ size → KeepsModes program.interface (Enters i f args bytes) →
      (HasRoom t (marks_of (fresh memory) t past) size → ⊥) →
      Finds (checks program.interface (fresh memory) past t (Enters i f args bytes)) (FaultFound fault.StackFull)
  full_found i f args bytes n modes none =
      after_mode program.interface i f _ (FaultFound fault.StackFull) modes
      (inl (0, (subst (λ k. HasRoom t (marks_of (fresh memory) t past) k → ⊥) (sym n) none, λ y b. omega arith), refl))

  unraced : HasRoom t (marks_of (fresh memory) t past) size → Unraced past t true (range place size)
  unraced room = frames_unraced program (fresh memory) past h.goes_well.calm t size lt room

  pub place_is : (addr : ℕ) → addr ≡ end_of (stack_of old.spaces.sides.replay.stacks t).base (frames_of old.spaces.sides.replay t) → addr ≡ frame_place t (marks_of (fresh memory) t past)
  place_is addr is = is ∙ ap (λ (q : StackState). end_of q.base q.frames) (h.spaces.stacks t lt) ∙ end_is (stack Replay t) (frames (marks_of (fresh memory) t past))

  -- the watch finds no race there
  no_race_told : (addr other at : ℕ) → addr ≡ place → HasRoom t (marks_of (fresh memory) t past) size → AnswersBy old.watch t (record { addr = addr; len = size }) true (Err (error.Race other at)) → ⊥
  no_race_told addr other at is room answers =
      let b = answers (told past) h.watch in
      unraced room at other (subst (λ a. covers (range a size) at ≡ true) is
      (covered (record { addr = addr; len = size }) at b.first.in_range.0 b.first.in_range.1))
      ((races_same program memory past h.goes_well.calm.steps t true at other).0 b.raced)

  abbrev IsRefusedAs : Refusal → Type 0
  IsRefusedAs r = IsEnterRefused (stack_of old.spaces.sides.replay.stacks t) size r

  there_is_room : ((r : Refusal) → IsRefusedAs r → ⊥) → (HasRoom t (marks_of (fresh memory) t past) size → ⊥) → ⊥
  there_is_room none full = let p = (full_stacks (fresh memory) past old.spaces t size h.spaces lt).1 full in none p.0 p.1

  module _ (i : Bool) (f : ℕ) (args bytes : List ℕ) (n : length bytes ≡ size) (modes : KeepsModes program.interface (Enters i f args bytes)) where
    pub full : (r : Refusal) → IsRefusedAs r → IsFound (checks program.interface (fresh memory) past t (Enters i f args bytes)) (refusal_of r)
    full (cause.StackFull x) p = full_found i f args bytes n modes ((full_stacks (fresh memory) past old.spaces t size h.spaces lt).0 (cause.StackFull x, p))
    full (cause.NotLive x) p = absurd p
    full (cause.Pending x) p = absurd p
    full (cause.OtherSpace x) p = absurd p
    full (cause.ReadOnly x) p = absurd p
    full (cause.KeyInUse x) p = absurd p
    full (cause.NoKey x) p = absurd p
    full (cause.Size x) p = absurd p

    pub never_raced : (e : WatchError) (addr : ℕ) → addr ≡ place → ((r : Refusal) → IsRefusedAs r → ⊥) →
        AnswersBy old.watch t (record { addr = addr; len = size }) true (Err e) →
        IsFound (checks program.interface (fresh memory) past t (Enters i f args bytes)) (refusal_by e)
    never_raced (error.Race other at) addr is none answers = absurd (there_is_room none (λ room. no_race_told addr other at is room answers))
    never_raced error.Memory addr is none answers = tt

    pub entered : (new : MemoryAbove) (addr : ℕ) →
        IsEnter (fresh memory) past (next_mark memory past t (Enter f args addr bytes)) addr size new.spaces →
        Stands (Accessed t (range addr (length bytes)) true ∷ told past) new.watch →
        IsMade program memory past t (Enters i f args bytes) (Enter f args addr bytes) new
    entered new addr is watch =
        let room : HasRoom t (marks_of (fresh memory) t past) (length bytes) = subst (HasRoom t (marks_of (fresh memory) t past)) (sym n) is.room in
        let own : (x : ℕ) → within addr (length bytes) x ≡ true → IsOwn x = λ x e.
        (objects_own (fresh memory) past (stay_whole program (fresh memory) past h.goes_well.calm)).enters t (length bytes) lt room x
        (subst (λ a. within a (length bytes) x ≡ true) is.place e) in
        let free : Unraced past t true (range addr (length bytes)) = subst (λ a. Unraced past t true (range a (length bytes))) (sym is.place) (frames_unraced program (fresh memory) past h.goes_well.calm t (length bytes) lt room) in
        step_made program memory past old new t (Enters i f args bytes) (Enter f args addr bytes) h
        (record {
          thread = lt;
          plain = refl;
          sound = refl;
          no_race = races_with_none past (next_mark memory past t (Enter f args addr bytes)) refl (record {
            space = λ x e. (own x e).0;
            constant = λ x e. (own x e).1;
            reading = λ x u e r. free x u e (less_races past t x u r);
            writing = λ x u e r. free x u e r;
          });
          own = λ x e. (own x e).0;
          writable = λ x e. (own x e).1;
          small = λ x e. let p = cover_parts (range addr (length bytes)) x e in omega (arith, p.1, is.place, room.0, lt);
          reply = enter_reply i f addr args bytes;
          modes = modes;
          carries = (is.place, room);
          first = tt;
          mark = is.mark;
          watch = watch;
        })
        (((say (fresh memory) past t program.interface).enters i f args bytes).1 (record { modes = modes; room = λ none. none room; unraced = frames_unraced program (fresh memory) past h.goes_well.calm t (length bytes) lt room }))

-- ---- for every run

module _ (old new : MemoryAbove) (t size : ℕ) (offsets widths args : List ℕ) (lt : t < thread_count)
    (widths_same : length widths ≡ length offsets) (args_same : length args ≡ length offsets)
    (fit : (i : ℕ) → i < length offsets → slice_index offsets i + slice_index widths i ≤ size) where
  abbrev bytes : List ℕ
  bytes = bytes_with_args size offsets widths args

  abbrev frame : ℕ → Range
  frame addr = record { addr = addr; len = size }

  count : length (bytes_with_args size offsets widths args) ≡ size
  count = length-map-range_with_len (λ i. unwrap_or (with_args 0 offsets widths args i (Some 0)) 0) 0 size

  pub enter_full : (r : Refusal) (found : StepRefusal) → IsEnterRefused (stack_of old.spaces.sides.replay.stacks t) size r →
      found ≡ refusal_of r → (i : Bool) (f : ℕ) (values : List ℕ) →
      Refuses old t (Enters i f values (bytes_with_args size offsets widths args)) found
  enter_full r found p is i f values program memory past h modes = subst (IsFound (checks program.interface (fresh memory) past t (Enters i f values (bytes_with_args size offsets widths args)))) (sym is)
      (full program memory past old h t size lt i f values (bytes_with_args size offsets widths args) count modes r p)

  pub enter_raced : (e : WatchError) (found : StepRefusal) (addr : ℕ) →
      addr ≡ end_of (stack_of old.spaces.sides.replay.stacks t).base (frames_of old.spaces.sides.replay t) →
      ((r : Refusal) → IsEnterRefused (stack_of old.spaces.sides.replay.stacks t) size r → ⊥) →
      AnswersBy old.watch t (record { addr = addr; len = size }) true (Err e) → found ≡ refusal_by e → (i : Bool) (f : ℕ) (values : List ℕ) →
      Refuses old t (Enters i f values (bytes_with_args size offsets widths args)) found
  enter_raced e found addr place none answers is i f values program memory past h modes = subst (IsFound (checks program.interface (fresh memory) past t (Enters i f values (bytes_with_args size offsets widths args)))) (sym is)
      (never_raced program memory past old h t size lt i f values (bytes_with_args size offsets widths args) count modes e addr (place_is program memory past old h t size lt addr place) none answers)

  pub enter_made : (addr : ℕ) (in' : SpaceState) → t < length old.spaces.sides.replay.stacks →
      addr ≡ end_of (stack_of old.spaces.sides.replay.stacks t).base (frames_of old.spaces.sides.replay t) →
      in'.sides ≡ with_side old.spaces.sides Replay (with_thread old.spaces.sides.replay t (frames_of old.spaces.sides.replay t ++ record { addr = addr; len = size } ∷ [])) →
      ((r : Refusal) → IsEnterRefused (stack_of old.spaces.sides.replay.stacks t) size r → ⊥) →
      FillsWith (record { addr = addr; len = size }) (Some 0) old.spaces.bytes in'.bytes → in'.held ≡ old.spaces.held →
      extents new.spaces.bytes ≡ extents in'.bytes →
      IfSome (top_of in'.sides.replay t) (λ frame. (x : ℕ) → byte_at new.spaces.bytes x ≡ with_args frame.addr offsets widths args x (byte_at in'.bytes x)) →
      new.spaces ≡ record in' { bytes = new.spaces.bytes } →
      WasTold (Accessed t (record { addr = addr; len = size }) true) old.watch new.watch → (i : Bool) (f : ℕ) (values : List ℕ) →
      Makes old t (Enters i f values (bytes_with_args size offsets widths args)) (Enter f values addr (bytes_with_args size offsets widths args)) new
  enter_made addr in' stack_there place sides none fills held areas set rest one i f values program memory past h modes =
      let top : top_of in'.sides.replay t ≡ Some (record { addr = addr; len = size }) = ap (λ (q : Sides). top_of q.replay t) sides ∙
      top_with old.spaces.sides.replay t (frames_of old.spaces.sides.replay t) (record { addr = addr; len = size }) stack_there in
      let set_there : (x : ℕ) → byte_at new.spaces.bytes x ≡ with_args addr offsets widths args x (byte_at in'.bytes x) = subst
      (λ o. IfSome o (λ (r : Range). (x : ℕ) → byte_at new.spaces.bytes x ≡ with_args r.addr offsets widths args x
      (byte_at in'.bytes x))) top set in
      let has : HasArgs addr size offsets widths args old.spaces.bytes new.spaces.bytes =
      arguments old.spaces.bytes in'.bytes new.spaces.bytes
      (record { addr = addr; len = size }) offsets widths args fills widths_same args_same fit areas set_there in
      let new_sides : new.spaces.sides ≡ in'.sides = ap (λ (q : SpaceState). q.sides) rest in
      let new_held : new.spaces.held ≡ in'.held = ap (λ (q : SpaceState). q.held) rest in
      entered program memory past old h t size lt i f values (bytes_with_args size offsets widths args) count modes new addr
      (enters (fresh memory) past old.spaces new.spaces
      (next_mark memory past t (Enter f values addr (bytes_with_args size offsets widths args))) f values
      (bytes_with_args size offsets widths args) addr size h.spaces lt
      (record {
        frame = record { place = place; fits = none; sides = new_sides ∙ sides; held = new_held ∙ held };
        count =
            count;
        bytes_are = has.bytes;
        others = has.outside;
      }) refl)
      (subst (λ k. Stands (Accessed t (range addr k) true ∷ told past) new.watch) (sym count) (one (told past) h.watch))

-- what memory has then
pub entered_spaces : (old in' new : SpaceState) (t size addr : ℕ) (offsets widths args : List ℕ) → length widths ≡ length offsets →
    length args ≡ length offsets → ((i : ℕ) → i < length offsets → slice_index offsets i + slice_index widths i ≤ size) →
    t < length old.sides.replay.stacks → addr ≡ end_of (stack_of old.sides.replay.stacks t).base (frames_of old.sides.replay t) →
    in'.sides ≡ with_side old.sides Replay (with_thread old.sides.replay t (frames_of old.sides.replay t ++ record { addr = addr; len = size } ∷ [])) →
    ((r : Refusal) → IsEnterRefused (stack_of old.sides.replay.stacks t) size r → ⊥) →
    FillsWith (record { addr = addr; len = size }) (Some 0) old.bytes in'.bytes → in'.held ≡ old.held →
    extents new.bytes ≡ extents in'.bytes →
    IfSome (top_of in'.sides.replay t) (λ frame. (x : ℕ) → byte_at new.bytes x ≡ with_args frame.addr offsets widths args x (byte_at in'.bytes x)) →
    new ≡ record in' { bytes = new.bytes } → IsEntered Replay old new t addr size (bytes_with_args size offsets widths args)
entered_spaces old in' new t size addr offsets widths args widths_same args_same fit stack_there place sides none fills held areas set rest = record {
  frame = record {
    place = place;
    fits = none;
    sides = ap (λ (q : SpaceState). q.sides) rest ∙ sides;
    held = ap (λ (q : SpaceState). q.held) rest ∙ held;
  };
  count = has.count;
  bytes_are = has.bytes;
  others = has.outside;
}
  where
    top : top_of in'.sides.replay t ≡ Some (record { addr = addr; len = size })
    top = ap (λ (q : Sides). top_of q.replay t) sides ∙ top_with old.sides.replay t (frames_of old.sides.replay t) (record { addr = addr; len = size }) stack_there

    set_there : (x : ℕ) → byte_at new.bytes x ≡ with_args addr offsets widths args x (byte_at in'.bytes x)
    set_there = subst (λ o. IfSome o (λ (r : Range). (x : ℕ) → byte_at new.bytes x ≡ with_args r.addr offsets widths args x (byte_at in'.bytes x))) top set

    has : HasArgs addr size offsets widths args old.bytes new.bytes
    has = arguments old.bytes in'.bytes new.bytes (record { addr = addr; len = size }) offsets widths args fills widths_same args_same fit areas set_there
