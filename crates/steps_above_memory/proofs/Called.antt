-- A Call that is made, or undone.
use Rattle.std.proofs.Common.{◌≡◌, ⊎_elim, inl, inr, ℕ, ◌+◌, ◌-◌, ◌^◌, ◌<◌, Bool, true, false, ◌||◌, List, [], ◌∷◌, ◌++◌, map, None, All, refl, sym, ap, ◌∙◌, subst, arith}
use Rattle.std.specs.Prelude.{slice_index, slice_set}
use Rattle.std.proofs.lemmas.Bool.{cases_lt, or_cases, true≢false}
use Rattle.std.proofs.lemmas.List.{append-nil}
use Rattle.std.proofs.lemmas.List.Elements.{All-nil}
use Rattle.run_events.specs.declared.key.Class.TheVariants.{Callback, Async}
use Rattle.run_events.specs.declared.key.Key.{Key}
use Rattle.run_events.specs.declared.key.KeyMark.{KeyMark}
use Rattle.marks.specs.Places.{thread_count}
use Rattle.marks.specs.declared.breach.BreachKind.TheVariants as breach
use Rattle.marks.specs.declared.range.Range.{Range}
use Rattle.marks.specs.Ranges.{Piece, Prepared, any_piece, any_prepared, any_range, covers, piece_ranges, prepared_ranges}
use Rattle.marks.specs.Marks.{Call, Made, Mark}
use Rattle.marks.specs.Bytes.{Byte, IsLive}
use Rattle.logical_clock.specs.Events.{occurrence}
use Rattle.space_memory_bytes.specs.Areas.{byte_at}
use Rattle.space_memory_access.specs.Held.{innermost, without_call}
use Rattle.space_memory.specs.Spaces.{SpaceState}
use Rattle.space_memory_laws.specs.Calls.{InCall, IsCall, Part, held_part, parts_of, prepared_part}
use Rattle.space_memory_laws.specs.CallChecks.{AllUnraced, Wanted}
use Rattle.space_memory_laws.specs.Shown.{cell_of, value_when_held}
use Rattle.space_memory_laws.specs.StandsFor.{StandsFor}
use Rattle.space_memory_laws.proofs.CallChecks.{made_passes}
use Rattle.space_memory_laws.proofs.CallRules.{any_both}
use Rattle.space_memory_laws.proofs.CallRules as rules
use Rattle.space_memory_laws.proofs.Parts.{opened, undone}
use Rattle.replay_runs.specs.Runs.{byte, is_listed, marks_of}
use Rattle.replay_runs.specs.Keys.{key, keys_for, sorted_keys}
use Rattle.replay_runs.specs.Pool.{prepares_key}
use Rattle.replay_runs.specs.Interface.{Program}
use Rattle.replay_runs.specs.Laws.{fresh}
use Rattle.replay_runs.specs.Checks.{Races}
use Rattle.replay_runs.proofs.Holding.{not_dead, piece_range_of, shown_live}
use Rattle.replay_runs.proofs.Keys.{any_right, listed_of}
use Rattle.replay_runs.proofs.Stops.{any_prepares}
use Rattle.replay_runs.proofs.Touching.{races_with_none}
use Rattle.race_watch.specs.State.{WatchState}
use Rattle.race_watch.specs.Told.{Told, Accessed, Happened}
use Rattle.race_watch.specs.Stands.{Stands, WasTold}
use Rattle.race_watch_laws.specs.Told.{tell, told}
use Rattle.steps_above_memory.specs.declared.above.MemoryAbove.{MemoryAbove}
use Rattle.steps_above_memory.specs.declared.parts.CallRegions.{CallRegions}
use Rattle.steps_above_memory.specs.declared.parts.Unprepared.TheVariants as unprepared
use Rattle.steps_above_memory.specs.declared.refusal.StepRefusal.{StepRefusal}
use Rattle.steps_above_memory.specs.declared.refusal.StepRefusal.TheVariants.{Breach}
use Rattle.steps_above_memory.specs.Above.{StandsForAbove}
use Rattle.steps_above_memory.specs.Events.{next_event}
use Rattle.steps_above_memory.specs.Returns.{WasToldAccesses}
use Rattle.steps_above_memory.specs.Parts.{Adds, AddsSome, IsUnraced, RefusesAmong, RefusesToPrepare}
use Rattle.steps_above_memory.specs.Calls.{AreRegions, HasParts, LeavesAll, MakesCall, RefusesCall, TakesCall, TakesRanges, WasToldCall, prepares}
use Rattle.steps_above_memory.proofs.Entering.{less_races}
use Rattle.steps_above_memory.proofs.Extend.{goes_on}
use Rattle.steps_above_memory.proofs.Growing.{holds_more, prepares_more, ranges_under, reads_more, unraced_reads, unraced_writes}
use Rattle.steps_above_memory.proofs.Returning.{high_is_own}

unraced_at : (past : List Mark) (t : ℕ) (w : Bool) (rs : List Range) (x u : ℕ) → AllUnraced past t w rs → any_range rs x ≡ true → Races past t w x u → ⊥
unraced_at past t w [] x u all e r = true≢false (sym e)
unraced_at past t w (q ∷ rs) x u all e r = ⊎_elim (λ z. all.0 x u z r) (λ z. unraced_at past t w rs x u all.1 z r) (or_cases (covers q x) (any_range rs x) e)

live_small : (program : Program) (memory : ℕ → Byte) (past : List Mark) (old : MemoryAbove) → StandsForAbove program memory past old → (x : ℕ) → IsLive (byte (fresh memory) x past).cell → x < 2 ^ 64
live_small program memory past old h x live = elim (cases_lt x (2 ^ 64)) [
  | inl lt ↦ lt
  | inr le ↦
      let dead : byte_at old.spaces.bytes x ≡ None = h.spaces.sound.ends x (omega (arith, le)) in
      absurd (not_dead (byte (fresh memory) x past).cell live (h.spaces.bytes x (high_is_own x le) ∙ ap (λ b. cell_of b (value_when_held old.spaces.held.regions x)) dead))
]

-- a Call has the keys under which it prepares
module _ (program : Program) (memory : ℕ → Byte) (past : List Mark) (t func : ℕ) (args : List ℕ) (pieces : List Piece) (outs : List Range) (ps : List Prepared) (marks : List KeyMark) where
  pub has_keys : map (λ q. q.key) marks ≡ sorted_keys (keys_for program.interface t (marks_of (fresh memory) t past) (Call func args pieces outs ps)) →
      (k : ℕ) → prepares_key ps k ≡ true → is_listed marks (key Async k) ≡ true
  has_keys keys k e =
      let i = program.interface in
      listed_of marks (i.keys_at_call func args ++ (map (key Callback) (i.registers func args) ++ map (λ p. key Async p.key) ps)) (key Async k) keys
      (any_right (i.keys_at_call func args) _ (key Async k) (any_right (map (key Callback) (i.registers func args)) _ (key Async k) (any_prepares ps k e)))

-- ---- what the watch is told

tell_append : (t : ℕ) (w : Bool) (xs ys : List Range) (past : List Told) → tell t w (xs ++ ys) past ≡ tell t w ys (tell t w xs past)
tell_append t w [] ys past = refl
tell_append t w (x ∷ xs) ys past = tell_append t w xs ys (Accessed t x w ∷ past)

pub told_call : (t : ℕ) (regions : CallRegions) (keys : List Key) (old read held prepared new : WatchState) →
    WasToldAccesses t false regions.ins.now old read → WasToldAccesses t true regions.outs.now read held →
    WasToldAccesses t true regions.prepared.now held prepared → WasTold (Happened (occurrence t keys)) prepared new →
    WasToldCall t regions keys old new
told_call t regions keys old read held prepared new reads holds prepares happens past h =
    subst (λ (ps : List Told). Stands (Happened (occurrence t keys) ∷ ps) new) (sym (tell_append t true regions.outs.now regions.prepared.now (tell t false regions.ins.now past)))
    (happens _ (prepares _ (holds _ (reads past h))))

-- ---- part by part

module _ (old : MemoryAbove) (t : ℕ) where
  pub open_parts : (first : SpaceState) → t < thread_count →
      first.held ≡ record old.spaces.held { depths = slice_set old.spaces.held.depths t (slice_index old.spaces.held.depths t + 1) } →
      first ≡ record old.spaces { held = first.held } → HasParts old t [] first
  open_parts first lt held rest program memory past h = record { stands = h; call = opened (fresh memory) past old.spaces first t h.spaces lt held rest; unraced = All-nil (IsUnraced past t) }

  more_parts : (parts more : List Part) (mid new : SpaceState) → HasParts old t parts mid → Adds t more old.watch mid new → HasParts old t (parts ++ more) new
  more_parts parts more mid new has adds program memory past h = adds program memory past old parts refl (has program memory past h)

  -- a call that is undone leaves all as it was
  pub undone_call : (parts : List Part) (watch : WatchState) (mid now new : SpaceState) → watch ≡ old.watch → HasParts old t parts mid →
      AddsSome t watch mid now → new.held.regions ≡ without_call (innermost now.held t) now.held.regions →
      new.held.depths ≡ slice_set now.held.depths t (slice_index now.held.depths t - 1) → new ≡ record now { held = new.held } →
      (program : Program) (memory : ℕ → Byte) (past : List Mark) → StandsForAbove program memory past old →
      (new ≡ old.spaces) × (watch ≡ old.watch)
  undone_call parts watch mid now new seen has some regions depths rest program memory past h = (
    undone (fresh memory) past old.spaces now new t (parts ++ some.0) (more_parts parts some.0 mid now has (subst (λ w. Adds t some.0 w mid now) seen some.1) program memory past h).call regions depths rest,
    seen,
  )

  module _ (regions : CallRegions) where
    abbrev ins : List Range
    ins = regions.ins.now

    abbrev outs : List Range
    outs = regions.outs.now

    pub read_parts : (first mid : SpaceState) → HasParts old t [] first → Adds t (map (held_part false) ins) old.watch first mid → HasParts old t (parts_of ins [] []) mid
    read_parts first mid has adds = subst (λ ps. HasParts old t ps mid) (reads_more [] ins) (more_parts [] (map (held_part false) ins) first mid has adds)

    pub held_parts : (mid now : SpaceState) → HasParts old t (parts_of ins [] []) mid → Adds t (map (held_part true) outs) old.watch mid now → HasParts old t (parts_of ins outs []) now
    held_parts mid now has adds = subst (λ ps. HasParts old t ps now) (holds_more ins [] outs) (more_parts (parts_of ins [] []) (map (held_part true) outs) mid now has adds)

    pub tested_parts : (now tested : SpaceState) → HasParts old t (parts_of ins outs []) now → Adds t (map (held_part true) regions.prepared.now) old.watch now tested → TakesRanges old t regions
    tested_parts now tested has adds = (tested, subst (λ ps. HasParts old t ps tested) (holds_more ins outs regions.prepared.now) (more_parts (parts_of ins outs []) (map (held_part true) regions.prepared.now) now tested has adds))

    pub prepared_parts : (now new : SpaceState) → HasParts old t (parts_of ins outs []) now →
        Adds t (map prepared_part (prepares regions)) old.watch now new → HasParts old t (parts_of ins outs (prepares regions)) new
    prepared_parts now new has adds = subst (λ ps. HasParts old t ps new) (prepares_more ins outs [] (prepares regions)) (more_parts (parts_of ins outs []) (map prepared_part (prepares regions)) now new has adds)

    -- ---- what is refused

    pub refused_ins : (first : SpaceState) (found : StepRefusal) → HasParts old t [] first → RefusesAmong t false ins old.watch first found → RefusesCall old t regions found
    refused_ins first found has refused program memory past indirect func args h w =
        refused program memory past old [] [] outs (prepares regions) indirect func args refl (has program memory past h)
        (subst (λ l. Wanted program.interface indirect func args l outs (prepares regions)) (sym (append-nil ins)) w)

    pub refused_outs : (mid : SpaceState) (found : StepRefusal) → HasParts old t (parts_of ins [] []) mid → RefusesAmong t true outs old.watch mid found → RefusesCall old t regions found
    refused_outs mid found has refused program memory past indirect func args h w =
        refused program memory past old ins [] (prepared_ranges (prepares regions)) outs (prepares regions) indirect func args refl (has program memory past h) w refl

    pub refused_ranges : (now : SpaceState) (found : StepRefusal) → AreRegions regions → HasParts old t (parts_of ins outs []) now →
        RefusesAmong t true regions.prepared.now old.watch now found → RefusesCall old t regions found
    refused_ranges now found are has refused program memory past indirect func args h w =
        refused program memory past old ins outs [] outs (prepares regions) indirect func args refl (has program memory past h) w
        (ap (λ rs. outs ++ rs) (ranges_under regions.under.now regions.prepared.now are.under ∙ sym (append-nil regions.prepared.now)))

    pub unprepared_range : (now : SpaceState) (found : StepRefusal) → HasParts old t (parts_of ins outs []) now →
        RefusesToPrepare t (prepares regions) old.watch now (unprepared.Refused found) → RefusesCall old t regions found
    unprepared_range now found has refused program memory past indirect func args h w =
        refused program memory past old ins outs [] [] indirect func args refl (has program memory past h)
        (subst (Wanted program.interface indirect func args ins outs) (sym (append-nil (prepares regions))) w)

    -- a value that is as the old one was
    module _ (mid : MemoryAbove) (same : LeavesAll old mid) where
      stands_still : (program : Program) (memory : ℕ → Byte) (past : List Mark) → StandsForAbove program memory past old → StandsForAbove program memory past mid
      stands_still program memory past h =
          let is = same program memory past h in
          record {
            goes_well = h.goes_well;
            spaces = subst (StandsFor (fresh memory) past) (sym is.0) h.spaces;
            watch = subst (Stands (told past)) (sym is.1) h.watch;
          }

      pub leaves_on : (new : MemoryAbove) → LeavesAll mid new → LeavesAll old new
      leaves_on new more program memory past h =
          let is = same program memory past h in
          let then' = more program memory past (stands_still program memory past h) in
          (then'.0 ∙ is.0, then'.1 ∙ is.1)

      pub refused_still : (found : StepRefusal) → RefusesCall mid t regions found → RefusesCall old t regions found
      refused_still found refused program memory past indirect func args h w = refused program memory past indirect func args (stands_still program memory past h) w

      -- a key in use, where all ranges were tested
      pub key_in_use : (now : SpaceState) (addr : ℕ) → AreRegions regions → HasParts old t (parts_of ins outs []) now →
          RefusesToPrepare t (prepares regions) old.watch now (unprepared.KeyInUse addr) → TakesRanges mid t regions →
          RefusesCall old t regions (Breach breach.KeyInUse addr None)
      key_in_use now addr are has refused takes program memory past indirect func args h w =
          let k = takes.1 program memory past (stands_still program memory past h) in
          let ps = prepares regions in
          let ranges : outs ++ regions.prepared.now ≡ outs ++ prepared_ranges (ps ++ []) = ap (λ rs. outs ++ rs) (sym (ranges_under regions.under.now regions.prepared.now are.under) ∙ ap prepared_ranges (sym (append-nil ps))) in
          refused program memory past old ins outs [] [] takes.0 indirect func args refl (has program memory past h)
          (record {
            stands = h;
            call = subst (λ rs. InCall (fresh memory) past t (parts_of ins rs []) old.spaces takes.0) ranges
                (subst (λ q. InCall (fresh memory) past t (parts_of ins (outs ++ regions.prepared.now) []) q takes.0)
                (same program memory past h).0 k.call);
            unraced = subst (λ rs. All (IsUnraced past t) (parts_of ins rs [])) ranges k.unraced;
          })
          (subst (Wanted program.interface indirect func args ins outs) (sym (append-nil ps)) w)

    -- ---- what is made

    module _ (new : SpaceState) (has : HasParts old t (parts_of ins outs (prepares regions)) new) where
      pub call_passes : TakesCall old t regions
      call_passes program memory past indirect func args h w =
          let k = has program memory past h in
          made_passes program.interface (fresh memory) past old.spaces new t indirect func args ins outs (prepares regions) w k.call
          (unraced_reads past t ins outs (prepares regions) k.unraced) (unraced_writes past t ins outs (prepares regions) k.unraced)

      pub call_made : (after : MemoryAbove) (keys : List Key) → after.spaces ≡ new →
          prepared_ranges (prepares regions) ≡ regions.prepared.now → WasToldCall t regions keys old.watch after.watch →
          MakesCall old t regions keys after
      call_made after keys same ranges one program memory past steps clock marks func args pieces h is_keys is_ins shown may =
          let ps = prepares regions in
          let m : Mark = next_event memory past t (Call func args pieces outs ps) steps marks clock in
          let k = has program memory past h in
          let unraced_ins : AllUnraced past t false ins = unraced_reads past t ins outs ps k.unraced in
          let unraced_outs : AllUnraced past t true (outs ++ prepared_ranges ps) = unraced_writes past t ins outs ps k.unraced in
          let listed : (j : ℕ) → prepares_key ps j ≡ true → is_listed marks (key Async j) ≡ true = has_keys program memory past t func args pieces outs ps marks may.own.keys in
          let call : IsCall (fresh memory) past m outs ps new = rules.call_made (fresh memory) past old.spaces new m (record { kind = Call func args pieces outs ps; steps = steps; keys = marks; clock = clock }) func args pieces outs ps
          (subst (λ l. InCall (fresh memory) past t (parts_of l outs ps) old.spaces new) (sym is_ins) k.call) refl refl shown listed in
          let reads : (x u : ℕ) → any_piece pieces x ≡ true → Races past t false x u → ⊥ = λ x u e r. unraced_at past t false ins x u unraced_ins (ap (λ l. any_range l x) (sym is_ins) ∙ (piece_range_of pieces x ∙ e)) r in
          let writes : (x u : ℕ) → (any_range outs x || any_prepared ps x) ≡ true → Races past t true x u → ⊥ = λ x u e r. unraced_at past t true (outs ++ prepared_ranges ps) x u unraced_outs (any_both outs ps x ∙ e) r in
          record {
            goes_well = goes_on program memory past t (Made (record { kind = Call func args pieces outs ps; steps = steps; keys = marks; clock = clock })) h.goes_well may
                (races_with_none past m refl (record {
                  space = may.own.other_space;
                  constant = may.own.read_only;
                  reading = λ x u e r. ⊎_elim (λ z. reads x u z r) (λ z. writes x u z (less_races past t x u r)) (or_cases (any_piece pieces x) (any_range outs x || any_prepared ps x) e);
                  writing = λ x u e r. writes x u e r;
                }))
                tt refl
                (λ x e. live_small program memory past old h x
                (⊎_elim (λ z. shown_live pieces x (byte (fresh memory) x past).cell z (may.bytes x).0) (λ z. (may.bytes x).1 z)
                (or_cases (any_piece pieces x) (any_range outs x || any_prepared ps x) e)));
            spaces = subst (StandsFor (fresh memory) (m ∷ past)) (sym same) call.mark.stands;
            watch = subst (λ ks. Stands (Happened (occurrence t ks) ∷ tell t true (outs ++ prepared_ranges ps) (tell t false (piece_ranges pieces) (told past))) after.watch) (sym is_keys)
                (subst (λ l. Stands (Happened (occurrence t keys) ∷ tell t true (outs ++ l) (tell t false (piece_ranges pieces) (told past))) after.watch) (sym ranges)
                (subst (λ l. Stands (Happened (occurrence t keys) ∷ tell t true (outs ++ regions.prepared.now) (tell t false l (told past))) after.watch) (sym is_ins) (one (told past) h.watch)));
          }
