-- Tests of the checks of what a thread wants above the cut, and of a Ret.
use Rattle.std.proofs.Common.{◌≡◌, ◌≢◌, ◌⊎◌, inl, inr, ⊎_elim, ℕ, zero, suc, ◌+◌, ◌≤◌, Bool, true, false, ◌&&◌, ◌||◌, not, cond, eqb, leb, ltb, List, [], ◌∷◌, ◌++◌, length, Option, Some, None, refl, sym, ap, ◌∙◌, arith, eqb-true, eq-eqb}
use Rattle.std.proofs.lemmas.Bool.{le-leb, lt-ltb, leb-true, ltb-true, and_from, and_parts, or_cases, true≢false, ltb-false, leb-false}
use Rattle.marks.specs.declared.side.Side.{Side}
use Rattle.marks.specs.declared.side.Side.TheVariants.{Replay, System}
use Rattle.marks.specs.declared.fault.FaultKind.{FaultKind}
use Rattle.marks.specs.declared.fault.FaultKind.TheVariants.{NotLive, ReadOnly, StackFull}
use Rattle.marks.specs.declared.breach.BreachKind.TheVariants.{Pending, OtherSpace, Mode, KeyInUse, NoKey, Size}
use Rattle.marks.specs.Places.{function_address, frame_count, stack, stack_size, is_constant, is_system}
use Rattle.marks.specs.declared.range.Range.{Range}
use Rattle.marks.specs.Ranges.{Prepared, range, covers, any_range, prepared_ranges}
use Rattle.marks.specs.Marks.{Mark}
use Rattle.marks.specs.Bytes.{Cell, Dead, Live, Held, IsHeld}
use Rattle.marks.specs.Wants.{Want, Outside, Turns, Loads, Stores, Enters, Leaves, Allocs, Frees, Calls, Below, Gives, Returns, CallsBack, UpReturns, Steps, Fails}
use Rattle.replay_runs.specs.Runs.{Start, marks_of, byte}
use Rattle.replay_runs.specs.Interface.{Interface, Committing}
use Rattle.replay_runs.specs.Threads.{tail, frames, frame_place, HasRoom}
use Rattle.replay_runs.specs.Pool.{in_use}
use Rattle.replay_runs.specs.Checks.{Finding, FaultFound, BreachFound, Checks, Done, Least, any_number, freed_range, range_checks, read_checks, hold_checks, key_checks, mode_checks, indirect_check, checks, Answered, IsSpoiled, first_length, size_check, size_checks, commit_size_check, return_checks, other_space_check, race_check, live_check, pending_check, constant_check}
use Rattle.replay_runs.proofs.Tested.{Tested, done_tested, all_from, all_from_true, Here, seek_tested, not_both, first_bad, first_is, one_bad, named, range_least, range_some, byte_tested, point_tested, plain_tested, false_is, or_false}
use Rattle.replay_runs.proofs.Racing.{is_unraced, race_here}

-- cells

abbrev pub not_dead : Cell → Bool
not_dead Dead = false
not_dead (Live v) = true
not_dead (Held v) = true

pub not_dead_true : (c : Cell) → not_dead c ≡ true → c ≡ Dead → ⊥
not_dead_true Dead h e = true≢false (sym h)
not_dead_true (Live v) h e = cc
not_dead_true (Held v) h e = cc

pub dead_is : (c : Cell) → not_dead c ≡ false → c ≡ Dead
dead_is Dead h = refl
dead_is (Live v) h = absurd (true≢false h)
dead_is (Held v) h = absurd (true≢false h)

abbrev pub not_held : Cell → Bool
not_held Dead = true
not_held (Live v) = true
not_held (Held v) = false

pub not_held_true : (c : Cell) → not_held c ≡ true → IsHeld c → ⊥
not_held_true Dead h e = e
not_held_true (Live v) h e = e
not_held_true (Held v) h e = true≢false (sym h)

pub held_is : (c : Cell) → not_held c ≡ false → IsHeld c
held_is Dead h = absurd (true≢false h)
held_is (Live v) h = absurd (true≢false h)
held_is (Held v) h = tt

abbrev pub is_none : Option Range → Bool
is_none None = true
is_none (Some r) = false

pub is_none_true : (o : Option Range) → is_none o ≡ true → o ≢ None → ⊥
is_none_true None h e = e refl
is_none_true (Some r) h e = true≢false (sym h)

pub is_none_is : (o : Option Range) → is_none o ≡ true → o ≡ None
is_none_is None h = refl
is_none_is (Some r) h = absurd (true≢false (sym h))

pub not_written : (write : Bool) (x : ℕ) → (not write || not (is_constant x)) ≡ true → write ≡ true → is_constant x ≡ true → ⊥
not_written write x h w c = ⊎_elim (λ z. not_both write z w) (λ z. not_both (is_constant x) z c) (or_cases (not write) (not (is_constant x)) h)

pub written : (write : Bool) (x : ℕ) → (not write || not (is_constant x)) ≡ false → (write ≡ true) × (is_constant x ≡ true)
written write x h = let p = or_false (not write) (not (is_constant x)) h in (false_is write p.0, false_is (is_constant x) p.1)

pub constant_least : (write : Bool) (r : Range) (f : Finding) → named (λ x. FaultFound ReadOnly) (first_bad (λ x. not write || not (is_constant x)) r.addr r.len) ≡ Some f → (x : ℕ) × Least (λ x. (covers r x ≡ true) × (write ≡ true) × (is_constant x ≡ true)) x × (f ≡ FaultFound ReadOnly)
constant_least write r f h =
    let w = range_least r (λ x. (write ≡ true) × (is_constant x ≡ true)) (λ x. not write || not (is_constant x)) (λ x h b. not_written write x h b.0 b.1) (written write) (λ x. FaultFound ReadOnly) (first_bad (λ x. not write || not (is_constant x)) r.addr r.len) refl f h in
    (w.0, ((w.1.0.0, w.1.0.1.0, w.1.0.1.1), λ y b. w.1.1 y (b.0, (b.1, b.2))), w.2)

abbrev pub constant_tested : (write : Bool) (r : Range) (cs : Checks) → Tested cs → Tested (constant_check write r cs)
constant_tested write r cs k =
    seek_tested _ _ cs (all_from (λ x. not write || not (is_constant x)) r.addr r.len) (record {
      none = λ h x b. not_written write x (all_from_true (λ x. not write || not (is_constant x)) r.addr r.len h x b.0) b.1 b.2;
      found = named (λ x. FaultFound ReadOnly) (first_bad (λ x. not write || not (is_constant x)) r.addr r.len);
      least = constant_least write r;
      some = range_some r (λ x. not write || not (is_constant x)) (λ x. FaultFound ReadOnly);
    }) k

-- a fault that the code wants

pub fail_least : (kind : FaultKind) (f : Finding) → Some (FaultFound kind) ≡ Some f → (x : ℕ) × Least (λ x. Unit {0}) x × (f ≡ FaultFound kind)
fail_least kind f e = let same : FaultFound kind ≡ f = cc in (0, (tt, λ y b. omega arith), sym same)

abbrev pub fail_here : (kind : FaultKind) → Here (λ x. Unit {0}) (λ x f. f ≡ FaultFound kind) false
fail_here kind = record { none = λ h x b. true≢false (sym h); found = Some (FaultFound kind); least = fail_least kind; some = λ h. (FaultFound kind, refl) }

-- a Step above the cut

pub step_least : (a : ℕ) (f : Finding) → Some (BreachFound Mode a None) ≡ Some f → (x : ℕ) × Least (λ x. x ≡ a) x × (f ≡ BreachFound Mode x None)
step_least a f e = let same : BreachFound Mode a None ≡ f = cc in (a, (refl, λ y b. omega (arith, b)), sym same)

abbrev pub step_here : (a : ℕ) → Here (λ x. x ≡ a) (λ x f. f ≡ BreachFound Mode x None) false
step_here a = record { none = λ h x b. true≢false (sym h); found = Some (BreachFound Mode a None); least = step_least a; some = λ h. (BreachFound Mode a None, refl) }

-- modes

abbrev pub mode_tested : (i : Interface) (side : Side) (fs : List ℕ) (cs : Checks) → Tested cs → Tested (mode_checks i side fs cs)
mode_tested i side [] cs k = k
mode_tested i side (f ∷ fs) cs k = point_tested (function_address f) (λ x. i.may_run side f ≡ false) (i.may_run side f) (λ h b. true≢false (sym h ∙ b)) (λ h. h) (λ x. BreachFound Mode x None) (mode_checks i side fs cs) (mode_tested i side fs cs k)

abbrev pub indirect_tested : (i : Interface) (indirect : Bool) (side : Side) (f : ℕ) (cs : Checks) → Tested cs → Tested (indirect_check i indirect side f cs)
indirect_tested i true side f cs k = mode_tested i side (f ∷ []) cs k
indirect_tested i false side f cs k = k

-- above the cut

module _ (s : Start) (past : List Mark) (t : ℕ) where
  abbrev pub other_space_tested : (r : Range) (cs : Checks) → Tested cs → Tested (other_space_check r cs)
  other_space_tested r cs k = byte_tested r (λ x. is_system x ≡ true) (λ x. not (is_system x)) (λ x h b. not_both (is_system x) h b) (λ x h. false_is (is_system x) h) (λ x. BreachFound OtherSpace x None) cs k

  abbrev pub race_tested : (write : Bool) (r : Range) (cs : Checks) → Tested cs → Tested (race_check past t write r cs)
  race_tested write r cs k = seek_tested _ _ cs (is_unraced past t write r) (race_here past t write r) k

  abbrev pub live_tested : (r : Range) (cs : Checks) → Tested cs → Tested (live_check s past r cs)
  live_tested r cs k = byte_tested r (λ x. (byte s x past).cell ≡ Dead) (λ x. not_dead (byte s x past).cell) (λ x h b. not_dead_true (byte s x past).cell h b) (λ x h. dead_is (byte s x past).cell h) (λ x. FaultFound NotLive) cs k

  pub not_pending : (more : List Range) (x : ℕ) → (not_held (byte s x past).cell && not (any_range more x)) ≡ true → (IsHeld (byte s x past).cell ⊎ (any_range more x ≡ true)) → ⊥
  not_pending more x h b =
      let p = and_parts (not_held (byte s x past).cell) (not (any_range more x)) h in
      ⊎_elim (λ z. not_held_true (byte s x past).cell p.0 z) (λ z. not_both (any_range more x) p.1 z) b

  pub pending_is : (more : List Range) (x : ℕ) → (not_held (byte s x past).cell && not (any_range more x)) ≡ false → (IsHeld (byte s x past).cell ⊎ (any_range more x ≡ true))
  pending_is more x h = go (not_held (byte s x past).cell) refl h
    where
      go : (b : Bool) → not_held (byte s x past).cell ≡ b → (b && not (any_range more x)) ≡ false → (IsHeld (byte s x past).cell ⊎ (any_range more x ≡ true))
      go false e h = inl (held_is (byte s x past).cell e)
      go true e h = inr (false_is (any_range more x) h)

  abbrev pub pending_tested : (more : List Range) (r : Range) (cs : Checks) → Tested cs → Tested (pending_check s past more r cs)
  pending_tested more r cs k = byte_tested r (λ x. IsHeld (byte s x past).cell ⊎ (any_range more x ≡ true)) (λ x. not_held (byte s x past).cell && not (any_range more x)) (λ x h b. not_pending more x h b) (λ x h. pending_is more x h) (λ x. BreachFound Pending x None) cs k

  abbrev pub range_tested : (write : Bool) (more : List Range) (r : Range) (cs : Checks) → Tested cs → Tested (range_checks s past t write more r cs)
  range_tested write more r cs k = other_space_tested r _ (race_tested write r _ (live_tested r _ (pending_tested more r _ (constant_tested write r cs k))))

  abbrev pub read_tested : (rs : List Range) (cs : Checks) → Tested cs → Tested (read_checks s past t rs cs)
  read_tested [] cs k = k
  read_tested (r ∷ rs) cs k = range_tested false [] r (read_checks s past t rs cs) (read_tested rs cs k)

  abbrev pub hold_tested : (more rs : List Range) (cs : Checks) → Tested cs → Tested (hold_checks s past t more rs cs)
  hold_tested more [] cs k = k
  hold_tested more (r ∷ rs) cs k = range_tested true more r (hold_checks s past t (r ∷ more) rs cs) (hold_tested (r ∷ more) rs cs k)

  pub key_free : (more : List ℕ) (p : ℕ) → (is_none (in_use s p past) && not (any_number more p)) ≡ true → ((in_use s p past ≢ None) ⊎ (any_number more p ≡ true)) → ⊥
  key_free more p h b =
      let q = and_parts (is_none (in_use s p past)) (not (any_number more p)) h in
      ⊎_elim (λ z. is_none_true (in_use s p past) q.0 z) (λ z. not_both (any_number more p) q.1 z) b

  pub key_taken : (more : List ℕ) (p : ℕ) → (is_none (in_use s p past) && not (any_number more p)) ≡ false → (in_use s p past ≢ None) ⊎ (any_number more p ≡ true)
  key_taken more p h = go (is_none (in_use s p past)) refl h
    where
      go : (b : Bool) → is_none (in_use s p past) ≡ b → (b && not (any_number more p)) ≡ false → (in_use s p past ≢ None) ⊎ (any_number more p ≡ true)
      go false e h = inl (λ z. true≢false (sym (ap is_none z) ∙ e))
      go true e h = inr (false_is (any_number more p) h)

  abbrev pub key_tested : (more : List ℕ) (ps : List Prepared) (cs : Checks) → Tested cs → Tested (key_checks s past more ps cs)
  key_tested more [] cs k = k
  key_tested more (p ∷ ps) cs k =
      point_tested p.key (λ k. (in_use s k past ≢ None) ⊎ (any_number more k ≡ true)) (is_none (in_use s p.key past) && not (any_number more p.key)) (key_free more p.key) (key_taken more p.key) (λ x. BreachFound KeyInUse x None) (key_checks s past (p.key ∷ more) ps cs)
      (key_tested (p.key ∷ more) ps cs k)

  -- room for a frame
  abbrev has_room : ℕ → Bool
  has_room size = leb (frame_place t (marks_of s t past) + size) (stack Replay t + stack_size) && ltb (length (frames (marks_of s t past))) frame_count

  pub room_is : (size : ℕ) → has_room size ≡ true → HasRoom t (marks_of s t past) size
  room_is size h =
      let w = and_parts (leb (frame_place t (marks_of s t past) + size) (stack Replay t + stack_size)) (ltb (length (frames (marks_of s t past))) frame_count) h in
      (leb-true _ _ w.0, ltb-true _ _ w.1)

  pub no_room : (size : ℕ) → has_room size ≡ false → HasRoom t (marks_of s t past) size → ⊥
  no_room size h r = true≢false (sym (and_from _ _ (le-leb (frame_place t (marks_of s t past) + size) (stack Replay t + stack_size) r.0) (lt-ltb (length (frames (marks_of s t past))) frame_count r.1)) ∙ h)

  pub no_block : (at : ℕ) → not (eqb (byte s at past).block 0) ≡ true → (byte s at past).block ≡ 0 → ⊥
  no_block at h e = not_both (eqb (byte s at past).block 0) h (eq-eqb (byte s at past).block 0 e)

  abbrev pub checks_tested : (i : Interface) (want : Want) → Tested (checks i s past t want)
  checks_tested i (Loads origin at width) = range_tested false [] (range at width) Done done_tested
  checks_tested i (Stores origin at bytes) = range_tested true [] (range at (length bytes)) Done done_tested
  checks_tested i (Leaves at size) = range_tested true [] (range at size) Done done_tested
  checks_tested i (Enters indirect f args bytes) =
      indirect_tested i indirect Replay f _ (plain_tested (HasRoom t (marks_of s t past) (length bytes) → ⊥) (has_room (length bytes)) (λ h b. b (room_is (length bytes) h)) (no_room (length bytes)) (λ x. FaultFound StackFull) _ (race_tested true (range (frame_place t (marks_of s t past)) (length bytes)) Done done_tested))
  checks_tested i (Frees zero) = done_tested
  checks_tested i (Frees (suc a)) =
      let r : Range = freed_range (suc a) (byte s (suc a) past).block in
      other_space_tested r _ (race_tested true r _ (point_tested (suc a) (λ x. (byte s (suc a) past).block ≡ 0) (not (eqb (byte s (suc a) past).block 0)) (no_block (suc a)) (λ h. eqb-true _ 0 (false_is (eqb (byte s (suc a) past).block 0) h)) (λ x. FaultFound NotLive) _ (live_tested r _ (pending_tested [] r Done done_tested))))
  checks_tested i (Calls indirect f args) =
      indirect_tested i indirect System f _ (mode_tested i Replay (i.registers f args) _ (read_tested (i.ins f args) _ (hold_tested [] (i.outs f args ++ prepared_ranges (i.prepares f args)) _ (key_tested [] (i.prepares f args) Done done_tested))))
  checks_tested i (Steps indirect f args) = seek_tested _ _ Done false (step_here (function_address f)) done_tested
  checks_tested i (Fails kind) = seek_tested _ _ Done false (fail_here kind) done_tested
  checks_tested i Outside = done_tested
  checks_tested i Turns = done_tested
  checks_tested i (Allocs size) = done_tested
  checks_tested i (Below f args) = done_tested
  checks_tested i (Gives f args) = done_tested
  checks_tested i (Returns f args v) = done_tested
  checks_tested i (CallsBack f args bytes) = done_tested
  checks_tested i (UpReturns f v) = done_tested

-- a Ret

module _ (below : Answered) where
  -- each byte past the used size is as it was
  abbrev is_kept : Range → ℕ → Bool
  is_kept r used = all_from (λ y. ltb y (r.addr + used) || not (below.changed y)) r.addr r.len

  abbrev is_filled : ℕ → Range → ℕ → Bool
  is_filled piece r used = leb piece r.len && (leb used r.len && is_kept r used)

  -- one may be changed where it is used
  kept : (r : Range) (used : ℕ) → is_kept r used ≡ true → (y : ℕ) → covers r y ≡ true → r.addr + used ≤ y → below.changed y ≡ true → ⊥
  kept r used h y e le c = ⊎_elim
      (λ z. let k = ltb-true y (r.addr + used) z in omega (arith, k, le))
      (λ z. not_both (below.changed y) z c)
      (or_cases (ltb y (r.addr + used)) (not (below.changed y)) (all_from_true (λ y. ltb y (r.addr + used) || not (below.changed y)) r.addr r.len h y e))

  not_kept : (r : Range) (used : ℕ) → is_kept r used ≡ false → (y : ℕ) × (covers r y ≡ true) × (r.addr + used ≤ y) × (below.changed y ≡ true)
  not_kept r used h =
      let x = one_bad (λ y. ltb y (r.addr + used) || not (below.changed y)) r.addr r.len h in
      let f = first_is (λ y. ltb y (r.addr + used) || not (below.changed y)) r.addr r.len x.0 x.1 in
      let p = or_false (ltb x.0 (r.addr + used)) (not (below.changed x.0)) f.is_bad in
      (x.0, f.within_is, ltb-false x.0 (r.addr + used) p.0, false_is (below.changed x.0) p.1)

  pub filled : (piece : ℕ) (r : Range) (used : ℕ) → is_filled piece r used ≡ true → IsSpoiled below.changed piece r used → ⊥
  filled piece r used h b =
      let p = and_parts (leb piece r.len) (leb used r.len && is_kept r used) h in
      let q = and_parts (leb used r.len) (is_kept r used) p.1 in
      ⊎_elim
      (λ z. let k = leb-true piece r.len p.0 in omega (arith, k, z))
      (λ c. ⊎_elim
      (λ z. let k = leb-true used r.len q.0 in omega (arith, k, z))
      (λ z. kept r used q.1 z.0 z.1 z.2 z.3)
      c)
      b

  pub spoiled : (piece : ℕ) (r : Range) (used : ℕ) → is_filled piece r used ≡ false → IsSpoiled below.changed piece r used
  spoiled piece r used h = go (leb piece r.len) (leb used r.len) refl refl h
    where
      go : (b c : Bool) → leb piece r.len ≡ b → leb used r.len ≡ c → (b && (c && is_kept r used)) ≡ false → IsSpoiled below.changed piece r used
      go false c e f h = inl (leb-false piece r.len e)
      go true false e f h = inr (inl (leb-false used r.len f))
      go true true e f h = inr (inr (not_kept r used h))

  abbrev pub size_tested : (piece : ℕ) (r : Range) (used : ℕ) (cs : Checks) → Tested cs → Tested (size_check below.changed piece r used cs)
  size_tested piece r used cs k = point_tested r.addr (λ x. IsSpoiled below.changed piece r used) (is_filled piece r used) (filled piece r used) (spoiled piece r used) (λ x. BreachFound Size x None) cs k

  abbrev pub sizes_tested : (pieces : List ℕ) (rs : List Range) (ns : List ℕ) (cs : Checks) → Tested cs → Tested (size_checks below.changed pieces rs ns cs)
  sizes_tested pieces [] ns cs k = k
  sizes_tested pieces (r ∷ rs) [] cs k = k
  sizes_tested pieces (r ∷ rs) (n ∷ ns) cs k = size_tested (first_length pieces) r n (size_checks below.changed (tail pieces) rs ns cs) (sizes_tested (tail pieces) rs ns cs k)

  abbrev pub commit_tested : (piece : ℕ) (o : Option Range) (used : ℕ) → Tested (commit_size_check below.changed piece o used Done)
  commit_tested piece None used = done_tested
  commit_tested piece (Some r) used = size_tested piece r (cond (eqb r.addr 0) 0 used) Done done_tested

  pub key_there : (o : Option Range) → not (is_none o) ≡ true → o ≡ None → ⊥
  key_there o h e = not_both (is_none o) h (ap is_none e)

  pub key_missing : (o : Option Range) → not (is_none o) ≡ false → o ≡ None
  key_missing o h = is_none_is o (false_is (is_none o) h)

  module _ (s : Start) (past : List Mark) where
    abbrev pub return_tested : (i : Interface) (f : ℕ) (args : List ℕ) (v : ℕ) → Tested (return_checks i s past below f args v)
    return_tested i f args v = of (i.commits f args v)
      where
        sizes : (cs : Checks) → Tested cs → Tested (size_checks below.changed below.pieces (i.outs f args) (i.used f args v) cs)
        sizes cs k = sizes_tested below.pieces (i.outs f args) (i.used f args v) cs k

        of : (o : Option Committing) → Tested (return_checks (record i { commits = λ f args v. o }) s past below f args v)
        of None = sizes Done done_tested
        of (Some c) = by c.used
          where
            by : (o : Option ℕ) → Tested (return_checks (record i { commits = λ f args v. Some (record { key = c.key; used = o }) }) s past below f args v)
            by None = sizes Done done_tested
            by (Some n) =
                point_tested c.key (λ x. in_use s c.key past ≡ None) (not (is_none (in_use s c.key past))) (key_there (in_use s c.key past)) (key_missing (in_use s c.key past)) (λ x. BreachFound NoKey x None) _
                (sizes (commit_size_check below.changed below.committed (in_use s c.key past) n Done) (commit_tested below.committed (in_use s c.key past) n))
