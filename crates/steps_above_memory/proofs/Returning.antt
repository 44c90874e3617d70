-- Rets that are made, or refused.
use Rattle.std.proofs.Common.{◌≡◌, inl, inr, ℕ, ◌+◌, ◌-◌, ◌^◌, ◌<◌, ◌≤◌, Bool, true, false, leb, ltb, List, [], ◌∷◌, ◌++◌, length, get_or, take, Option, None, refl, sym, ap, ◌∙◌, subst, arith}
use Rattle.std.specs.Prelude.{slice_index, slice_set}
use Rattle.std.proofs.lemmas.Bool.{and_right, cases_lt, le-ltb}
use Rattle.std.proofs.lemmas.List.{take_more}
use Rattle.run_events.specs.declared.key.Key.{Key}
use Rattle.marks.specs.Places.{thread_count, system_globals, system_end, is_system}
use Rattle.marks.specs.declared.range.Range.{Range}
use Rattle.marks.specs.Ranges.{piece_ranges}
use Rattle.marks.specs.Marks.{Made, Mark, Ret, released}
use Rattle.marks.specs.Bytes.{Byte, Dead, IsHeld}
use Rattle.logical_clock.specs.Events.{occurrence}
use Rattle.space_memory_bytes.specs.Areas.{byte_at}
use Rattle.space_memory_access.specs.declared.refusal.Refusal.{Refusal}
use Rattle.space_memory_access.specs.Held.{innermost, without_closed}
use Rattle.space_memory.specs.Releases.{committed_key, AllReturned, HasKey, IsReleaseRefused}
use Rattle.space_memory_laws.specs.Returns.{IsRet, ReturnsFind, filled}
use Rattle.space_memory_laws.specs.Shown.{cell_of, value_when_held}
use Rattle.space_memory_laws.proofs.ReturnChecks.{returns_found}
use Rattle.space_memory_laws.proofs.Returns as memory
use Rattle.replay_runs.specs.Runs.{byte}
use Rattle.replay_runs.specs.Interface.{Program}
use Rattle.replay_runs.specs.Laws.{fresh}
use Rattle.replay_runs.specs.Checks.{return_checks}
use Rattle.replay_runs.proofs.Owning.{gives}
use Rattle.replay_runs.proofs.Unseen.{race_with_nothing, stay_whole}
use Rattle.race_watch.specs.State.{WatchState}
use Rattle.race_watch.specs.Told.{Told, Accessed, Happened}
use Rattle.race_watch.specs.Stands.{Stands, WasTold}
use Rattle.race_watch_laws.specs.Told.{tell, told}
use Rattle.steps_above_memory.specs.declared.above.MemoryAbove.{MemoryAbove}
use Rattle.steps_above_memory.specs.declared.refusal.StepRefusal.{StepRefusal}
use Rattle.steps_above_memory.specs.Above.{StandsForAbove}
use Rattle.steps_above_memory.specs.Refusals.{IsFound, refusal_of}
use Rattle.steps_above_memory.specs.Events.{next_event}
use Rattle.steps_above_memory.specs.Returns.{WasToldAccesses, WasToldReturn, IsReturnOf, TakesReturn, RefusesReturn, MakesReturn}
use Rattle.steps_above_memory.proofs.Extend.{goes_on}
use Rattle.steps_above_memory.proofs.Ranges.{as_found}

-- ---- what the watch is told, range by range

tell_snoc : (t : ℕ) (w : Bool) (xs : List Range) (r : Range) (past : List Told) → tell t w (xs ++ r ∷ []) past ≡ Accessed t r w ∷ tell t w xs past
tell_snoc t w [] r past = refl
tell_snoc t w (x ∷ xs) r past = tell_snoc t w xs r (Accessed t x w ∷ past)

pub tell_more : (t : ℕ) (w : Bool) (rs : List Range) (i : ℕ) (d : Range) (old mid new : WatchState) → i < length rs →
    WasToldAccesses t w (take i rs) old mid → WasTold (Accessed t (get_or rs i d) w) mid new → WasToldAccesses t w (take (i + 1) rs) old new
tell_more t w rs i d old mid new lt before one past h =
    subst (λ (ps : List Told). Stands ps new) (sym (ap (λ xs. tell t w xs past) (take_more rs i d lt) ∙ tell_snoc t w (take i rs) (get_or rs i d) past)) (one (tell t w (take i rs) past) (before past h))

-- ---- the bytes that a Ret gives back have addresses

pub high_is_own : (x : ℕ) → 2 ^ 64 ≤ x → is_system x ≡ false
high_is_own x le = and_right (leb system_globals x) (ltb x system_end) (le-ltb x system_end (omega (arith, le)))

module _ (program : Program) (memory' : ℕ → Byte) (past : List Mark) (old : MemoryAbove) (h : StandsForAbove program memory' past old) where
  held_small : (x : ℕ) → IsHeld (byte (fresh memory') x past).cell → x < 2 ^ 64
  held_small x held = elim (cases_lt x (2 ^ 64)) [
    | inl lt ↦ lt
    | inr le ↦
        let dead : byte_at old.spaces.bytes x ≡ None = h.spaces.sound.ends x (omega (arith, le)) in
        let is : (byte (fresh memory') x past).cell ≡ Dead = h.spaces.bytes x (high_is_own x le) ∙ ap (λ b. cell_of b (value_when_held old.spaces.held.regions x)) dead in
        absurd (subst IsHeld is held)
  ]

module _ (old new : MemoryAbove) (t : ℕ) (lt : t < thread_count) (used : List ℕ) (committing : Option (ℕ × ℕ)) (ranges : List Range) (keys : List Key) where
  pub return_made : new.spaces.held.regions ≡ without_closed (innermost old.spaces.held t) (committed_key committing) old.spaces.held.regions →
      new.spaces.held.depths ≡ slice_set old.spaces.held.depths t (slice_index old.spaces.held.depths t - 1) →
      new.spaces ≡ record old.spaces { held = new.spaces.held } → HasKey old.spaces.held.regions committing →
      AllReturned old.spaces.bytes old.spaces.held.regions (innermost old.spaces.held t) used committing →
      WasToldReturn t keys ranges old.watch new.watch → MakesReturn old t used committing ranges keys new
  return_made regions depths rest has_key filled one program memory' past steps clock marks func args result same pieces commit h is_keys is_ranges commits shows may =
      let m : Mark = next_event memory' past t (Ret func args result same pieces commit) steps marks clock in
      let ret : IsRet (fresh memory') past m pieces committing commit new.spaces = memory.returns (fresh memory') past old.spaces new.spaces m func args pieces commit used committing h.spaces lt
      (record { key = has_key; returned = filled; regions = regions; depths = depths; rest = rest })
      (record {
        event = record { kind = Ret func args result same pieces commit; steps = steps; keys = marks; clock = clock };
        act =
            refl;
        result = result;
        same = same;
        kind = refl;
        closes = may.own.carries.closes;
        commits = commits;
        shows = shows;
      }) in
      record {
        goes_well = goes_on program memory' past t (Made (record { kind = Ret func args result same pieces commit; steps = steps; keys = marks; clock = clock })) h.goes_well may
            (race_with_nothing program (fresh memory') past h.goes_well.calm m may tt)
            tt refl
            (λ x e. let k = gives (fresh memory') past t func args pieces commit may.own.carries.closes ret.in_use x e in held_small program memory' past old h x ((stay_whole program (fresh memory') past h.goes_well.calm).held x k.0 k.1));
        spaces = ret.mark.stands;
        watch = subst (λ ks. Stands (tell t true (piece_ranges (pieces ++ released commit)) (Happened (occurrence t ks) ∷ told past)) new.watch) (sym is_keys)
            (subst (λ rs. Stands (tell t true rs (Happened (occurrence t keys) ∷ told past)) new.watch) (sym is_ranges) (one (told past) h.watch));
      }

module _ (above : MemoryAbove) (t : ℕ) (lt : t < thread_count) (used : List ℕ) (committing : Option (ℕ × ℕ)) where
  finds : (program : Program) (memory' : ℕ → Byte) (past : List Mark) (func : ℕ) (args : List ℕ) (result : ℕ) →
      StandsForAbove program memory' past above → IsReturnOf program memory' past t func args result used committing →
      ReturnsFind program.interface (fresh memory') past above.spaces t func args result used committing
  finds program memory' past func args result h of = returns_found program.interface (fresh memory') past above.spaces t func args result used committing h.spaces lt of.closes of.sizes of.commits

  pub return_refused : (r : Refusal) (found : StepRefusal) →
      IsReleaseRefused above.spaces.bytes above.spaces.held.regions (innermost above.spaces.held t) used committing r → found ≡ refusal_of r →
      RefusesReturn above t used committing found
  return_refused r found p is program memory' past func args result h of =
      subst (IsFound (return_checks program.interface (fresh memory') past (filled above.spaces) func args result)) (sym is)
      (as_found (return_checks program.interface (fresh memory') past (filled above.spaces) func args result) r ((finds program memory' past func args result h of).refused r p))

  pub return_taken : HasKey above.spaces.held.regions committing →
      AllReturned above.spaces.bytes above.spaces.held.regions (innermost above.spaces.held t) used committing →
      TakesReturn above t used committing
  return_taken has_key filled program memory' past func args result h of = (finds program memory' past func args result h of).passes.1 (has_key, filled)
