-- What the tests of a step below the cut say of a byte above it.
use Rattle.std.proofs.Common.{◌≡◌, ◌⊎◌, ℕ, ◌+◌, ◌<◌, ◌≤◌, Bool, true, false, not, cond, eqb, leb, ltb, ◌&&◌, ◌||◌, List, [], ◌∷◌, length, Option, None, is_some, inl, inr, refl, ap, sym, ◌∙◌, subst, arith, eqb-true}
use Rattle.std.proofs.lemmas.Bool.{cases_Bool, cases_lt, cond-true, cond-false, true≢false, and_parts, and_from, le-leb, lt-ltb}
use Rattle.marks.specs.declared.side.Side.{Side}
use Rattle.marks.specs.declared.side.Side.TheVariants.{Replay, System}
use Rattle.marks.specs.Places.{thread_count, frame_count, stack, stack_size, system_globals, system_end, system_pool, pool_size, function_address, is_constant, is_replay, is_system}
use Rattle.marks.specs.declared.range.Range.{Range}
use Rattle.marks.specs.Ranges.{Piece, range, covers, any_range}
use Rattle.marks.specs.Marks.{Store, Enter, Leave, Step, Mark, side_of}
use Rattle.marks.specs.Bytes.{Cell, Dead, Live, Held, IsHeld}
use Rattle.marks.specs.Wants.{Want, Outside, Turns, Loads, Stores, Enters, Leaves, Allocs, Frees, Calls, Below, Gives, Returns, CallsBack, UpReturns, Steps, Fails, Answer, Stopped, answer_if, answer_to, same_origin, same_numbers}
use Rattle.c_code.specs.MarkLists.{same_side, reply}
use Rattle.space_memory_laws.specs.Owed.{any_out}
use Rattle.space_memory_laws.specs.Rights.{IsHandedDown}
use Rattle.space_memory_laws.proofs.Cells.{cover_cases}
use Rattle.space_memory_laws.proofs.Regions.{some_none}
use Rattle.replay_runs.proofs.Replies.{same_numbers_true}
use Rattle.replay_runs.specs.Runs.{marks_of, byte}
use Rattle.replay_runs.specs.Threads.{OpenCall, open_calls}
use Rattle.replay_runs.specs.Unseen.{Calling, Preparing, any_held, is_in, IsWhole}
use Rattle.replay_runs.specs.Checks.{Checks, Done, Passes, indirect_check}
use Rattle.whole_runs.specs.World.{World, begin, interface}
use Rattle.whole_runs.specs.Sides.{seen, HasRoomOn, place_on, frames_on}
use Rattle.whole_runs.specs.Outcomes.{builtin_of}
use Rattle.whole_runs.specs.Memory.{written, filled, real}
use Rattle.whole_runs.specs.Below.{touch_checks, Target, To, Nowhere, Missing, pieces_for}
use Rattle.whole_runs.specs.Steps.{goes_up}
use Rattle.whole_runs.specs.Tests.{is_back, full_check, piece_checks, step_checks, back_checks, checks_below, checks_above}
use Rattle.whole_runs_memory.specs.Plain.{IsReally}
use Rattle.whole_runs_memory.proofs.Bytes.{filled_none, fits_filled}

-- ---- which mark answers a want

same_side_is : (a b : Side) → same_side a b ≡ true → a ≡ b
same_side_is Replay Replay e = refl
same_side_is System System e = refl
same_side_is Replay System e = absurd (true≢false (sym e))
same_side_is System Replay e = absurd (true≢false (sym e))

pub replied : (side : Side) (want : Want) (m : Mark) → is_some (reply side want m) ≡ true → (side_of side m.act ≡ m.side) × (is_some (answer_to want m.act) ≡ true)
unfolding reply
replied side want m h = go (same_side (side_of side m.act) m.side) refl h
  where
    go : (b : Bool) → same_side (side_of side m.act) m.side ≡ b → is_some (cond b (answer_to want m.act) None) ≡ true → (side_of side m.act ≡ m.side) × (is_some (answer_to want m.act) ≡ true)
    go true e h = (same_side_is (side_of side m.act) m.side e, h)
    go false e h = absurd (true≢false (sym h))

some_if : (b : Bool) (a : Answer) → is_some (answer_if b a) ≡ true → b ≡ true
some_if true a e = refl
some_if false a e = absurd (true≢false (sym e))

-- a free is answered by no other mark
free_none : (y : ℕ) → is_some (answer_if (not (eqb y 0) && false) Stopped) ≡ true → ⊥
free_none y e = true≢false (sym (and_parts (not (eqb y 0)) false (some_if (not (eqb y 0) && false) Stopped e)).1)

past_indirect : (w : World) (i : Bool) (f : ℕ) (cs : Checks) → Passes (indirect_check (interface w) i System f cs) → Passes cs
past_indirect w true f cs p = p.1
past_indirect w false f cs p = p

module _ (w : World) (past : List Mark) (t : ℕ) where
  pub store_tested : (want : Want) (o : Option ℕ) (at : ℕ) (bytes : List ℕ) → is_some (answer_to want (Store o at bytes)) ≡ true →
      Passes (checks_below w past t want) → Passes (touch_checks w past t true (range at (length bytes)) Done)
  unfolding answer_to
  store_tested (Stores q y bs) o at bytes e p =
      let k = and_parts (same_origin o q) (eqb at y && same_numbers bytes bs) (some_if (same_origin o q && (eqb at y && same_numbers bytes bs)) _ e) in
      let l = and_parts (eqb at y) (same_numbers bytes bs) k.1 in
      subst (λ a. Passes (touch_checks w past t true (range a (length bytes)) Done)) (sym (eqb-true at y l.0))
      (subst (λ b. Passes (touch_checks w past t true (range y (length b)) Done)) (sym (same_numbers_true bytes bs l.1)) p)
  store_tested Outside o at bytes e p = absurd (true≢false (sym e))
  store_tested Turns o at bytes e p = absurd (true≢false (sym e))
  store_tested (Loads q y n) o at bytes e p = absurd (true≢false (sym e))
  store_tested (Enters i f args bs) o at bytes e p = absurd (true≢false (sym e))
  store_tested (Leaves y n) o at bytes e p = absurd (true≢false (sym e))
  store_tested (Allocs n) o at bytes e p = absurd (true≢false (sym e))
  store_tested (Frees y) o at bytes e p = absurd (free_none y e)
  store_tested (Calls i f args) o at bytes e p = absurd (true≢false (sym e))
  store_tested (Below f args) o at bytes e p = absurd (true≢false (sym e))
  store_tested (Gives f args) o at bytes e p = absurd (true≢false (sym e))
  store_tested (Returns f args v) o at bytes e p = absurd (true≢false (sym e))
  store_tested (CallsBack f args bs) o at bytes e p = absurd (true≢false (sym e))
  store_tested (UpReturns f v) o at bytes e p = absurd (true≢false (sym e))
  store_tested (Steps i f args) o at bytes e p = absurd (true≢false (sym e))
  store_tested (Fails k) o at bytes e p = absurd (true≢false (sym e))

  room_is : (size : ℕ) → Passes (full_check w past t size) → HasRoomOn w System t past size
  room_is size p = elim (cases_lt (stack System t + stack_size) (place_on w System t past + size)) [
    | inl beyond ↦ absurd (p.0 0 (λ room. omega (arith, beyond, room.0)))
    | inr fits ↦ elim (cases_lt (length (frames_on w System t past)) frame_count) [
      | inl few ↦ (fits, few)
      | inr many ↦ absurd (p.0 0 (λ room. omega (arith, many, room.1)))
    ]
  ]

  not_back : (f : ℕ) (bytes : List ℕ) (b : Bool) → b ≡ false → Passes (back_checks w past t f bytes b) → Passes (full_check w past t (length bytes))
  not_back f bytes true e p = absurd (true≢false e)
  not_back f bytes false e p = p.1

  pub enter_tested : (want : Want) (g : ℕ) (args : List ℕ) (at : ℕ) (bytes : List ℕ) →
      is_some (answer_to want (Enter g args at bytes)) ≡ true → goes_up w past want ≡ false → Passes (checks_below w past t want) →
      HasRoomOn w System t past (length bytes)
  unfolding answer_to
  enter_tested (Enters i f bs b) g args at bytes e up p =
      let k = and_parts (eqb g f) (same_numbers args bs && same_numbers bytes b) (some_if (eqb g f && (same_numbers args bs && same_numbers bytes b)) _ e) in
      let l = and_parts (same_numbers args bs) (same_numbers bytes b) k.1 in
      subst (λ c. HasRoomOn w System t past (length c)) (sym (same_numbers_true bytes b l.1)) (room_is (length b) (past_indirect w i f (full_check w past t (length b)) p))
  enter_tested (CallsBack f bs b) g args at bytes e up p =
      let k = and_parts (eqb g f) (same_numbers args bs && same_numbers bytes b) (some_if (eqb g f && (same_numbers args bs && same_numbers bytes b)) _ e) in
      let l = and_parts (same_numbers args bs) (same_numbers bytes b) k.1 in
      subst (λ c. HasRoomOn w System t past (length c)) (sym (same_numbers_true bytes b l.1)) (room_is (length b) (not_back f b (is_back w past f) up p))
  enter_tested Outside g args at bytes e up p = absurd (true≢false (sym e))
  enter_tested Turns g args at bytes e up p = absurd (true≢false (sym e))
  enter_tested (Loads q y n) g args at bytes e up p = absurd (true≢false (sym e))
  enter_tested (Stores q y bs) g args at bytes e up p = absurd (true≢false (sym e))
  enter_tested (Leaves y n) g args at bytes e up p = absurd (true≢false (sym e))
  enter_tested (Allocs n) g args at bytes e up p = absurd (true≢false (sym e))
  enter_tested (Frees y) g args at bytes e up p = absurd (free_none y e)
  enter_tested (Calls i f bs) g args at bytes e up p = absurd (true≢false (sym e))
  enter_tested (Below f bs) g args at bytes e up p = absurd (true≢false (sym e))
  enter_tested (Gives f bs) g args at bytes e up p = absurd (true≢false (sym e))
  enter_tested (Returns f bs v) g args at bytes e up p = absurd (true≢false (sym e))
  enter_tested (UpReturns f v) g args at bytes e up p = absurd (true≢false (sym e))
  enter_tested (Steps i f bs) g args at bytes e up p = absurd (true≢false (sym e))
  enter_tested (Fails k) g args at bytes e up p = absurd (true≢false (sym e))

  pub step_tested : (want : Want) (g : ℕ) (args : List ℕ) (v : ℕ) (ins pieces : List Piece) (freed : List Range) →
      is_some (answer_to want (Step g args v ins pieces freed)) ≡ true → Passes (checks_below w past t want) →
      Passes (step_checks w past t g args (builtin_of g))
  unfolding answer_to
  step_tested (Steps i f bs) g args v ins pieces freed e p =
      let k = and_parts (eqb g f) (same_numbers args bs) (some_if (eqb g f && same_numbers args bs) _ e) in
      subst (λ h. Passes (step_checks w past t h args (builtin_of h))) (sym (eqb-true g f k.0))
      (subst (λ b. Passes (step_checks w past t f b (builtin_of f))) (sym (same_numbers_true args bs k.1)) (past_indirect w i f (step_checks w past t f bs (builtin_of f)) p))
  step_tested Outside g args v ins pieces freed e p = absurd (true≢false (sym e))
  step_tested Turns g args v ins pieces freed e p = absurd (true≢false (sym e))
  step_tested (Loads q y n) g args v ins pieces freed e p = absurd (true≢false (sym e))
  step_tested (Stores q y bs) g args v ins pieces freed e p = absurd (true≢false (sym e))
  step_tested (Enters i f bs b) g args v ins pieces freed e p = absurd (true≢false (sym e))
  step_tested (Leaves y n) g args v ins pieces freed e p = absurd (true≢false (sym e))
  step_tested (Allocs n) g args v ins pieces freed e p = absurd (true≢false (sym e))
  step_tested (Frees y) g args v ins pieces freed e p = absurd (free_none y e)
  step_tested (Calls i f bs) g args v ins pieces freed e p = absurd (true≢false (sym e))
  step_tested (Below f bs) g args v ins pieces freed e p = absurd (true≢false (sym e))
  step_tested (Gives f bs) g args v ins pieces freed e p = absurd (true≢false (sym e))
  step_tested (Returns f bs u) g args v ins pieces freed e p = absurd (true≢false (sym e))
  step_tested (CallsBack f bs b) g args v ins pieces freed e p = absurd (true≢false (sym e))
  step_tested (UpReturns f u) g args v ins pieces freed e p = absurd (true≢false (sym e))
  step_tested (Fails k) g args v ins pieces freed e p = absurd (true≢false (sym e))

  pub leave_wanted : (want : Want) (at size : ℕ) → is_some (answer_to want (Leave at size)) ≡ true → want ≡ Leaves at size
  unfolding answer_to
  leave_wanted (Leaves y n) at size e =
      let k = and_parts (eqb at y) (eqb size n) (some_if (eqb at y && eqb size n) _ e) in
      ap (λ a. Leaves a n) (sym (eqb-true at y k.0)) ∙ ap (λ z. Leaves at z) (sym (eqb-true size n k.1))
  leave_wanted Outside at size e = absurd (true≢false (sym e))
  leave_wanted Turns at size e = absurd (true≢false (sym e))
  leave_wanted (Loads q y n) at size e = absurd (true≢false (sym e))
  leave_wanted (Stores q y bs) at size e = absurd (true≢false (sym e))
  leave_wanted (Enters i f bs b) at size e = absurd (true≢false (sym e))
  leave_wanted (Allocs n) at size e = absurd (true≢false (sym e))
  leave_wanted (Frees y) at size e = absurd (free_none y e)
  leave_wanted (Calls i f bs) at size e = absurd (true≢false (sym e))
  leave_wanted (Below f bs) at size e = absurd (true≢false (sym e))
  leave_wanted (Gives f bs) at size e = absurd (true≢false (sym e))
  leave_wanted (Returns f bs u) at size e = absurd (true≢false (sym e))
  leave_wanted (CallsBack f bs b) at size e = absurd (true≢false (sym e))
  leave_wanted (UpReturns f u) at size e = absurd (true≢false (sym e))
  leave_wanted (Steps i f bs) at size e = absurd (true≢false (sym e))
  leave_wanted (Fails k) at size e = absurd (true≢false (sym e))

  -- above the cut each Step is a breach
  pub no_step_above : (want : Want) (g : ℕ) (args : List ℕ) (v : ℕ) (ins pieces : List Piece) (freed : List Range) →
      is_some (answer_to want (Step g args v ins pieces freed)) ≡ true → Passes (checks_above w past t want) → ⊥
  unfolding answer_to
  no_step_above (Steps i f bs) g args v ins pieces freed e p = p.0 (function_address f) refl
  no_step_above Outside g args v ins pieces freed e p = absurd (true≢false (sym e))
  no_step_above Turns g args v ins pieces freed e p = absurd (true≢false (sym e))
  no_step_above (Loads q y n) g args v ins pieces freed e p = absurd (true≢false (sym e))
  no_step_above (Stores q y bs) g args v ins pieces freed e p = absurd (true≢false (sym e))
  no_step_above (Enters i f bs b) g args v ins pieces freed e p = absurd (true≢false (sym e))
  no_step_above (Leaves y n) g args v ins pieces freed e p = absurd (true≢false (sym e))
  no_step_above (Allocs n) g args v ins pieces freed e p = absurd (true≢false (sym e))
  no_step_above (Frees y) g args v ins pieces freed e p = absurd (free_none y e)
  no_step_above (Calls i f bs) g args v ins pieces freed e p = absurd (true≢false (sym e))
  no_step_above (Below f bs) g args v ins pieces freed e p = absurd (true≢false (sym e))
  no_step_above (Gives f bs) g args v ins pieces freed e p = absurd (true≢false (sym e))
  no_step_above (Returns f bs u) g args v ins pieces freed e p = absurd (true≢false (sym e))
  no_step_above (CallsBack f bs b) g args v ins pieces freed e p = absurd (true≢false (sym e))
  no_step_above (UpReturns f u) g args v ins pieces freed e p = absurd (true≢false (sym e))
  no_step_above (Fails k) g args v ins pieces freed e p = absurd (true≢false (sym e))

-- ---- a byte above the cut that is written below it

pub system_stack : (t x : ℕ) → t < thread_count → stack System t ≤ x → x < stack System t + stack_size → is_system x ≡ true
system_stack t x lt low high = and_from (leb system_globals x) (ltb x system_end) (le-leb system_globals x (omega (arith, low))) (lt-ltb x system_end (omega (arith, high, lt)))

pub system_block : (x : ℕ) → system_pool ≤ x → x < system_pool + pool_size → is_system x ≡ true
system_block x low high = and_from (leb system_globals x) (ltb x system_end) (le-leb system_globals x (omega (arith, low))) (lt-ltb x system_end (omega (arith, high)))

same_calls : (cs : List OpenCall) (x : ℕ) → any_out cs x ≡ any_held cs x
same_calls [] x = refl
same_calls (c ∷ cs) x = ap (λ b. any_range c.outs x || b) (same_calls cs x)

held_or : (c : Cell) → ((IsHeld c → ⊥) → ⊥) → IsHeld c
held_or Dead f = f (λ h. h)
held_or (Live v) f = f (λ h. h)
held_or (Held v) f = tt

dead_really : (c : Cell) (v : Option ℕ) → c ≡ Dead → IsReally c v → v ≡ None
dead_really c v e h = subst (λ d. IsReally d v) e h

-- what is handed down to be written is pending, where the replay run is whole
pub handed_held_by : (w : World) (past : List Mark) (t x : ℕ) → IsWhole (begin w) (seen past) → IsHandedDown (begin w) (seen past) t true x → IsHeld (byte (begin w) x (seen past)).cell
handed_held_by w past t x whole (inl out) = whole.held x (Calling t) (sym (same_calls (open_calls (marks_of (begin w) t (seen past))) x) ∙ out)
handed_held_by w past t x whole (inr (inl read)) = absurd (true≢false read.0)
handed_held_by w past t x whole (inr (inr (k, under))) = whole.held x (Preparing k) (ap (λ o. is_in o x) under.1 ∙ under.2)

module _ (w : World) (past : List Mark) (t x : ℕ) (own : is_system x ≡ false) (whole : IsWhole (begin w) (seen past))
    (really : IsReally (byte (begin w) x (seen past)).cell (real w past x))
    (inside : is_constant x ≡ false → is_replay x ≡ false → (byte (begin w) x (seen past)).cell ≡ Dead) where
  -- what may be written is pending
  pub touched : (r : Range) (cs : Checks) → Passes (touch_checks w past t true r cs) → covers r x ≡ true → IsHeld (byte (begin w) x (seen past)).cell
  touched r cs p c = elim (cases_Bool (is_constant x)) [
    | inl fixed ↦ absurd (p.1.1.0 x (c, refl, fixed))
    | inr free ↦ elim (cases_Bool (is_replay x)) [
      | inl replay ↦ held_or (byte (begin w) x (seen past)).cell (λ unheld. p.0 x (c, (replay, λ may. unheld (handed_held_by w past t x whole may.1))))
      | inr out ↦ absurd (p.1.0 x (c, dead_really (byte (begin w) x (seen past)).cell (real w past x) (inside free out) really))
    ]
  ]

  -- pieces leave it, or it is pending and there after them
  abbrev Leaves' : List Piece → Option ℕ → Type 0
  Leaves' ps u = (filled ps x u ≡ u) ⊎ (IsHeld (byte (begin w) x (seen past)).cell × (filled ps x u ≡ None → ⊥))

  later : (ps : List Piece) (z u : Option ℕ) → z ≡ u → Leaves' ps u → (filled ps x z ≡ u) ⊎ (IsHeld (byte (begin w) x (seen past)).cell × (filled ps x z ≡ None → ⊥))
  later ps z u e (inl same) = inl (ap (filled ps x) e ∙ same)
  later ps z u e (inr there) = inr (there.0, λ n. there.1 (sym (ap (filled ps x) e) ∙ n))

  pub pieces_keep : (xs : List Target) (bs : List (List ℕ)) (u : Option ℕ) → Passes (piece_checks w past t xs bs) → Leaves' (pieces_for xs bs) u
  pieces_keep [] bs u p = inl refl
  pieces_keep (y ∷ xs) [] u p = inl refl
  pieces_keep (Nowhere ∷ xs) (b ∷ bs) u p = pieces_keep xs bs u p
  pieces_keep (Missing ∷ xs) (b ∷ bs) u p = absurd (p.0 0 tt)
  pieces_keep (To r ∷ xs) (b ∷ bs) u p =
      let fits : length b ≤ r.len = elim (cases_lt r.len (length b)) [ inl long ↦ absurd (p.0 0 long) | inr le ↦ le ] in
      let z : Option ℕ = cond (covers r x) (written r.addr b x u) u in
      let is : z ≡ written r.addr b x u = fits_filled r b x u fits in
      elim (cover_cases (range r.addr (length b)) x) [
        | inl in' ↦ inr (touched (range r.addr (length b)) (piece_checks w past t xs bs) p.1 in'.is, λ none. some_none _ (sym (is ∙ cond-true (covers (range r.addr (length b)) x) _ u in'.is) ∙ filled_none (pieces_for xs bs) x z none))
        | inr out ↦ later (pieces_for xs bs) z u (is ∙ cond-false (covers (range r.addr (length b)) x) _ u out.is) (pieces_keep xs bs u p.1.1.1.1)
      ]
