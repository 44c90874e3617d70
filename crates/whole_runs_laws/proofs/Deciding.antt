-- The tests of a whole run at one step, tried out: those above the cut that aren't a replay's, and those below it.
use Rattle.std.proofs.Common.{◌≡◌, ◌≢◌, ⊎_elim, ℕ, zero, suc, ◌+◌, ◌<◌, Bool, true, false, ◌&&◌, ◌||◌, not, leb, ltb, List, [], ◌∷◌, length, Option, Some, None, refl, sym, ap, ◌∙◌, arith}
use Rattle.std.specs.Prelude.{is_some}
use Rattle.std.proofs.lemmas.Bool.{le-leb, lt-ltb, leb-true, ltb-true, and_from, and_parts, or_cases, true≢false, leb-false}
use Rattle.marks.specs.declared.side.Side.{Side}
use Rattle.marks.specs.declared.side.Side.TheVariants.{Replay, System}
use Rattle.marks.specs.declared.fault.FaultKind.TheVariants.{NotLive, StackFull}
use Rattle.marks.specs.declared.breach.BreachKind.TheVariants.{OtherSpace}
use Rattle.marks.specs.Places.{frame_count, stack, stack_size, is_replay}
use Rattle.marks.specs.declared.range.Range.{Range}
use Rattle.marks.specs.Ranges.{range}
use Rattle.marks.specs.Marks.{Mark}
use Rattle.marks.specs.Bytes.{Cell, Dead, Live, Held}
use Rattle.marks.specs.Wants.{Want, Outside, Turns, Loads, Stores, Enters, Leaves, Allocs, Frees, Calls, Gives, Returns, CallsBack, UpReturns, Steps, Fails}
use Rattle.marks.specs.Wants as wants
use Rattle.c_builtins.specs.declared.builtin.Builtin.{Builtin}
use Rattle.c_builtins.specs.declared.builtin.Builtin.TheVariants as builtins
use Rattle.c_code.specs.Machine.{first}
use Rattle.replay_runs.specs.Runs.{byte}
use Rattle.replay_runs.specs.Checks.{FaultFound, BreachFound, Checks, Done}
use Rattle.replay_runs.proofs.Tested.{Tested, done_tested, seek_tested, not_both, byte_tested, point_tested, plain_tested, false_is, or_false}
use Rattle.replay_runs.proofs.Deciding.{not_dead, not_dead_true, constant_tested, fail_here, mode_tested, indirect_tested, checks_tested, return_tested}
use Rattle.space_memory_laws.specs.Rights.{IsHandedDown}
use Rattle.whole_runs.specs.World.{World, begin, interface, interface_on}
use Rattle.whole_runs.specs.Sides.{seen, place_on, frames_on, HasRoomOn}
use Rattle.whole_runs.specs.Outcomes.{builtin_of}
use Rattle.whole_runs.specs.Memory.{real}
use Rattle.whole_runs.specs.Below.{IsForbidden, touch_checks, read_checks, block_at, Given, ByPool, Says, NoMore, given, Target, To, Nowhere, Missing, targets}
use Rattle.whole_runs.specs.Tests.{comes_up, give_checks, checks_above, is_back, full_check, free_checks, piece_check, piece_checks, external_checks, step_checks, back_checks, checks_below, tests}
use Rattle.whole_runs_laws.proofs.HandedDown.{is_handed_down, handed_down, not_handed_down}

pub none_is : (o : Option ℕ) → is_some o ≡ false → o ≡ None
none_is None h = refl
none_is (Some v) h = absurd (true≢false h)

pub some_not_none : (o : Option ℕ) → is_some o ≡ true → o ≡ None → ⊥
some_not_none None h e = true≢false (sym h)
some_not_none (Some v) h e = cc

module _ (w : World) (past : List Mark) where
  -- ---- above the cut

  abbrev gives_tested : (f : ℕ) (args : List ℕ) (g : Given) → Tested (give_checks w past f args g)
  gives_tested f args ByPool = done_tested
  gives_tested f args (Says v pieces) = return_tested (comes_up w past f args v pieces) (begin w) (seen past) (interface w) f args v
  gives_tested f args NoMore = done_tested

  abbrev above_tested : (t : ℕ) (want : Want) → Tested (checks_above w past t want)
  above_tested t (Gives f args) = gives_tested f args (given w past t f args)
  above_tested t (Returns f args v) = return_tested (comes_up w past f args v []) (begin w) (seen past) (interface w) f args v
  above_tested t want = checks_tested (begin w) (seen past) t (interface w) want

  module _ (t : ℕ) where
    -- ---- below it

    abbrev may_touch : Bool → ℕ → Bool
    may_touch write x = not (is_replay x) || (not_dead (byte (begin w) x (seen past)).cell && is_handed_down w (seen past) t write x)

    pub touch_right : (write : Bool) (x : ℕ) → may_touch write x ≡ true → IsForbidden w past t write x → ⊥
    touch_right write x h b =
        ⊎_elim
        (λ z. not_both (is_replay x) z b.0)
        (λ z. let p = and_parts (not_dead (byte (begin w) x (seen past)).cell) (is_handed_down w (seen past) t write x) z in b.1 (λ e. not_dead_true (byte (begin w) x (seen past)).cell p.0 e, handed_down w (seen past) t write x p.1))
        (or_cases (not (is_replay x)) (not_dead (byte (begin w) x (seen past)).cell && is_handed_down w (seen past) t write x) h)

    cannot : (c : Cell) (write : Bool) (x : ℕ) → (not_dead c && is_handed_down w (seen past) t write x) ≡ false → c ≢ Dead → IsHandedDown (begin w) (seen past) t write x → ⊥
    cannot Dead write x h ne b = ne refl
    cannot (Live v) write x h ne b = not_handed_down w (seen past) t write x h b
    cannot (Held v) write x h ne b = not_handed_down w (seen past) t write x h b

    pub touch_wrong : (write : Bool) (x : ℕ) → may_touch write x ≡ false → IsForbidden w past t write x
    touch_wrong write x h =
        let p = or_false (not (is_replay x)) (not_dead (byte (begin w) x (seen past)).cell && is_handed_down w (seen past) t write x) h in
        (false_is (is_replay x) p.0, λ m. cannot (byte (begin w) x (seen past)).cell write x p.1 m.0 m.1)

    abbrev touch_tested : (write : Bool) (r : Range) (cs : Checks) → Tested cs → Tested (touch_checks w past t write r cs)
    touch_tested write r cs k =
        byte_tested r (IsForbidden w past t write) (may_touch write) (touch_right write) (touch_wrong write) (λ x. BreachFound OtherSpace x None) _
        (byte_tested r (λ x. real w past x ≡ None) (λ x. is_some (real w past x)) (λ x h b. some_not_none (real w past x) h b) (λ x h. none_is (real w past x) h) (λ x. FaultFound NotLive) _ (constant_tested write r cs k))

    abbrev reads_tested : (rs : List Range) → Tested (read_checks w past t rs)
    reads_tested [] = done_tested
    reads_tested (r ∷ rs) = touch_tested false r (read_checks w past t rs) (reads_tested rs)

    pub too_long : (n size : ℕ) → leb n size ≡ true → size < n → ⊥
    too_long n size h b = let k = leb-true n size h in omega (arith, k, b)

    abbrev piece_tested : (x : Target) (b : List ℕ) (cs : Checks) → Tested cs → Tested (piece_check w past t x b cs)
    piece_tested (To r) b cs k = plain_tested (r.len < length b) (leb (length b) r.len) (too_long (length b) r.len) (leb-false (length b) r.len) (λ x. FaultFound NotLive) _ (touch_tested true (range r.addr (length b)) cs k)
    piece_tested Nowhere b cs k = k
    piece_tested Missing b cs k = seek_tested _ _ cs false (fail_here NotLive) k

    abbrev pieces_tested : (xs : List Target) (bs : List (List ℕ)) → Tested (piece_checks w past t xs bs)
    pieces_tested [] bs = done_tested
    pieces_tested (x ∷ xs) [] = done_tested
    pieces_tested (x ∷ xs) (b ∷ bs) = piece_tested x b (piece_checks w past t xs bs) (pieces_tested xs bs)

    abbrev external_tested : (f : ℕ) (args : List ℕ) (g : Given) → Tested (external_checks w past t f args g)
    external_tested f args ByPool = done_tested
    external_tested f args (Says v pieces) = pieces_tested (targets w System past f args v) pieces
    external_tested f args NoMore = done_tested

    abbrev none_there : List Range → Bool
    none_there [] = true
    none_there (r ∷ rs) = false

    pub some_there : (rs : List Range) → not (none_there rs) ≡ true → rs ≡ [] → ⊥
    some_there rs h e = not_both (none_there rs) h (ap none_there e)

    pub none_there_is : (rs : List Range) → not (none_there rs) ≡ false → rs ≡ []
    none_there_is [] h = refl
    none_there_is (r ∷ rs) h = absurd (true≢false h)

    abbrev free_tested : (a : ℕ) → Tested (free_checks w past a)
    free_tested zero = done_tested
    free_tested (suc a) =
        point_tested (suc a) (λ x. is_replay x ≡ true) (not (is_replay (suc a))) (not_both (is_replay (suc a))) (false_is (is_replay (suc a))) (λ x. BreachFound OtherSpace x None) _
        (plain_tested (block_at (suc a) past ≡ []) (not (none_there (block_at (suc a) past))) (some_there (block_at (suc a) past)) (none_there_is (block_at (suc a) past)) (λ x. FaultFound NotLive) Done done_tested)

    abbrev step_tested : (f : ℕ) (args : List ℕ) (o : Option Builtin) → Tested (step_checks w past t f args o)
    step_tested f args (Some builtins.Malloc) = done_tested
    step_tested f args (Some builtins.Free) = free_tested (first args)
    step_tested f args (Some builtins.Spawn) = done_tested
    step_tested f args (Some builtins.Join) = done_tested
    step_tested f args (Some builtins.Lock) = done_tested
    step_tested f args (Some builtins.Unlock) = done_tested
    step_tested f args (Some builtins.Print) = reads_tested ((interface_on w System f).ins f args)
    step_tested f args None = external_tested f args (given w past t f args)

    abbrev has_room : ℕ → Bool
    has_room size = leb (place_on w System t past + size) (stack System t + stack_size) && ltb (length (frames_on w System t past)) frame_count

    pub room_is : (size : ℕ) → has_room size ≡ true → HasRoomOn w System t past size
    room_is size h =
        let p = and_parts (leb (place_on w System t past + size) (stack System t + stack_size)) (ltb (length (frames_on w System t past)) frame_count) h in
        (leb-true _ _ p.0, ltb-true _ _ p.1)

    pub no_room : (size : ℕ) → has_room size ≡ false → HasRoomOn w System t past size → ⊥
    no_room size h r = true≢false (sym (and_from _ _ (le-leb (place_on w System t past + size) (stack System t + stack_size) r.0) (lt-ltb (length (frames_on w System t past)) frame_count r.1)) ∙ h)

    abbrev full_tested : (size : ℕ) → Tested (full_check w past t size)
    full_tested size = plain_tested (HasRoomOn w System t past size → ⊥) (has_room size) (λ h b. b (room_is size h)) (no_room size) (λ x. FaultFound StackFull) Done done_tested

    abbrev back_tested : (f : ℕ) (bytes : List ℕ) (back : Bool) → Tested (back_checks w past t f bytes back)
    back_tested f bytes true = done_tested
    back_tested f bytes false = mode_tested (interface w) System (f ∷ []) (full_check w past t (length bytes)) (full_tested (length bytes))

    abbrev pub below_tested : (want : Want) → Tested (checks_below w past t want)
    below_tested (Loads origin at width) = touch_tested false (range at width) Done done_tested
    below_tested (Stores origin at bytes) = touch_tested true (range at (length bytes)) Done done_tested
    below_tested (Enters indirect f args bytes) = indirect_tested (interface w) indirect System f (full_check w past t (length bytes)) (full_tested (length bytes))
    below_tested (CallsBack f args bytes) = back_tested f bytes (is_back w past f)
    below_tested (Steps indirect f args) = indirect_tested (interface w) indirect System f _ (step_tested f args (builtin_of f))
    below_tested (Fails kind) = seek_tested _ _ Done false (fail_here kind) done_tested
    below_tested Outside = done_tested
    below_tested Turns = done_tested
    below_tested (Leaves at size) = done_tested
    below_tested (Allocs size) = done_tested
    below_tested (Frees at) = done_tested
    below_tested (Calls indirect f args) = done_tested
    below_tested (wants.Below f args) = done_tested
    below_tested (Gives f args) = done_tested
    below_tested (Returns f args v) = done_tested
    below_tested (UpReturns f v) = done_tested

    -- all tests of a step
    abbrev pub tests_tested : (side : Side) (want : Want) → Tested (tests w past t side want)
    tests_tested Replay want = above_tested t want
    tests_tested System want = below_tested want
