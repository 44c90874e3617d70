-- Calls, range by range.
use Rattle.std.proofs.Common.{◌≡◌, inl, inr, ℕ, suc, ◌^◌, ◌<◌, Bool, true, false, ◌||◌, List, [], ◌∷◌, ◌++◌, length, get_or, take, drop, map, Some, None, Err, refl, sym, ap, ◌∙◌, subst}
use Rattle.std.proofs.lemmas.List.{append-nil}
use Rattle.std.proofs.lemmas.List.Elements.{All-append, All-cons, All-nil}
use Rattle.marks.specs.declared.breach.BreachKind.TheVariants as breach
use Rattle.marks.specs.declared.range.Range.{Range}
use Rattle.marks.specs.Ranges.{NoneIn, IsInRange, IsLeastIn, Prepared, any_prepared, any_range, prepared_ranges}
use Rattle.marks.specs.Marks.{Mark}
use Rattle.marks.specs.Bytes.{Byte}
use Rattle.marks.specs.Wants.{Calls}
use Rattle.memory_map.specs.declared.areas.TheConstants.{SYSTEM_MEMORY}
use Rattle.space_memory_access.specs.declared.refusal.Refusal.{Refusal}
use Rattle.space_memory_access.specs.declared.refusal.Refusal.TheVariants.{OtherSpace}
use Rattle.space_memory_access.specs.Accesses.{IsAllowed, IsRefused}
use Rattle.space_memory_access.specs.Held.{innermost}
use Rattle.space_memory.specs.Held.{region_access, region_range, holder_of, AddsRegion}
use Rattle.space_memory.specs.Spaces.{SpaceState}
use Rattle.space_memory_laws.specs.Calls.{InCall, Part, Reads, Holds, held_part, parts_of}
use Rattle.space_memory_laws.specs.CallChecks.{AllUnraced, Wanted}
use Rattle.space_memory_laws.proofs.CallChecks.{apart_mid, onward, refused_mid, wanted_checks}
use Rattle.space_memory_laws.proofs.CallRules.{any_both}
use Rattle.space_memory_laws.proofs.Cells.{cover_parts, covered}
use Rattle.space_memory_laws.proofs.Parts.{held_range}
use Rattle.space_memory_laws.proofs.Passing.{free_holds, free_reads, past_holds, past_reads, piled, piled_any}
use Rattle.space_memory_laws.proofs.Refusals.{in_system, system_in}
use Rattle.replay_runs.specs.Runs.{Start}
use Rattle.replay_runs.specs.Interface.{Interface, Program}
use Rattle.replay_runs.specs.Laws.{fresh}
use Rattle.replay_runs.specs.Passing.{Unraced}
use Rattle.replay_runs.specs.Checks.{FaultFound, BreachFound, Checks, Done, Finding, Finds, checks, hold_checks, key_checks, race_check, range_checks, read_checks}
use Rattle.race_watch.specs.declared.error.WatchError.{WatchError}
use Rattle.race_watch.specs.declared.error.WatchError.TheVariants as error
use Rattle.race_watch.specs.State.{WatchState}
use Rattle.race_watch.specs.Stands.{AnswersBy, Stands}
use Rattle.race_watch_laws.specs.Told.{told}
use Rattle.steps_above_memory.specs.declared.above.MemoryAbove.{MemoryAbove}
use Rattle.steps_above_memory.specs.declared.refusal.StepRefusal.{StepRefusal}
use Rattle.steps_above_memory.specs.declared.refusal.StepRefusal.TheVariants.{Fault, Breach, Memory}
use Rattle.steps_above_memory.specs.Refusals.{IsFound, refusal_by, refusal_of}
use Rattle.steps_above_memory.specs.Parts.{Adds, IsMaking, IsRegion, IsUnraced, RefusesAmong, RefusesRange, SeesNoRace}
use Rattle.steps_above_memory.proofs.Growing.{reads_more, holds_more, splits, unraced_reads, unraced_writes}
use Rattle.steps_above_memory.proofs.Ranges.{as_found, race_found, unraced}

-- ---- the checks of a Call that come to a range

or_false : (b : Bool) → (b || false) ≡ b
or_false true = refl
or_false false = refl

-- the bytes that wait already
waiting : (held : List Range) (here : List Prepared) (x : ℕ) → any_range (piled (held ++ prepared_ranges here) []) x ≡ (any_range held x || any_prepared here x)
waiting held here x = piled_any (held ++ prepared_ranges here) [] x ∙ or_false (any_range (held ++ prepared_ranges here) x) ∙ any_both held here x

-- what the checks of a range find is found before those that follow
module _ (s : Start) (past : List Mark) (t : ℕ) (w : Bool) (more : List Range) (r : Range) (cs : Checks) where
  first_found : (f : Finding) → Finds (range_checks s past t w more r Done) f → Finds (range_checks s past t w more r cs) f
  first_found f (inl here) = inl here
  first_found f (inr (own, inl here)) = inr (own, inl here)
  first_found f (inr (own, inr (free, inl here))) = inr (own, inr (free, inl here))
  first_found f (inr (own, inr (free, inr (live, inl here)))) = inr (own, inr (free, inr (live, inl here)))
  first_found f (inr (own, inr (free, inr (live, inr (idle, inl here))))) = inr (own, inr (free, inr (live, inr (idle, inl here))))
  first_found f (inr (own, inr (free, inr (live, inr (idle, inr (fine, nothing)))))) = absurd nothing

  pub found_first : (refusal : StepRefusal) → IsFound (range_checks s past t w more r Done) refusal → IsFound (range_checks s past t w more r cs) refusal
  found_first (Fault kind) h = first_found (FaultFound kind) h
  found_first (Breach kind addr other) h = first_found (BreachFound kind addr other) h
  found_first Memory h = tt

-- what is found at the checks of a part is found, want of memory always
lift : (at : Checks → Checks) (whole : Checks) (refusal : StepRefusal) → ((f : Finding) → ((cs : Checks) → Finds (at cs) f) → Finds whole f) →
    ((cs : Checks) → IsFound (at cs) refusal) → IsFound whole refusal
lift at whole (Fault kind) on h = on (FaultFound kind) h
lift at whole (Breach kind addr other) on h = on (BreachFound kind addr other) h
lift at whole Memory on h = tt

module _ (i : Interface) (s : Start) (past : List Mark) (base memory : SpaceState) (t : ℕ) (indirect : Bool) (func : ℕ) (args : List ℕ) (refusal : StepRefusal) where
  pub on_read : (before after outs : List Range) (prepared : List Prepared) (r : Range) →
      Wanted i indirect func args (before ++ r ∷ after) outs prepared → InCall s past t (parts_of before [] []) base memory →
      AllUnraced past t false before → ((cs : Checks) → IsFound (range_checks s past t false [] r cs) refusal) →
      IsFound (checks i s past t (Calls indirect func args)) refusal
  on_read before after outs prepared r w call unraced = lift (range_checks s past t false [] r) (checks i s past t (Calls indirect func args)) refusal (λ f found.
      let held : Checks = hold_checks s past t [] (outs ++ prepared_ranges prepared) (key_checks s past [] prepared Done) in
      wanted_checks (λ cs. Finds cs f) (onward f) i s past t indirect func args (before ++ r ∷ after) outs prepared w
      (past_reads (λ cs. Finds cs f) (onward f) s past t base call.stands before (r ∷ after) held (free_reads base before [] [] call.free) unraced
      (found (read_checks s past t after held))))

  pub on_write : (ins held after outs : List Range) (here prepared : List Prepared) (r : Range) →
      Wanted i indirect func args ins outs prepared → outs ++ prepared_ranges prepared ≡ (held ++ prepared_ranges here) ++ r ∷ after →
      InCall s past t (parts_of ins held here) base memory → AllUnraced past t false ins →
      AllUnraced past t true (held ++ prepared_ranges here)
      → ((cs : Checks) → IsFound (range_checks s past t true (piled (held ++ prepared_ranges here) []) r cs) refusal) → IsFound (checks i s past t (Calls indirect func args)) refusal
  on_write ins held after outs here prepared r w all call unraced_ins unraced = lift (range_checks s past t true (piled (held ++ prepared_ranges here) []) r) (checks i s past t (Calls indirect func args)) refusal (λ f found.
      let keys : Checks = key_checks s past [] prepared Done in
      wanted_checks (λ cs. Finds cs f) (onward f) i s past t indirect func args ins outs prepared w
      (subst (λ rs. Finds (read_checks s past t rs (hold_checks s past t [] (outs ++ prepared_ranges prepared) keys)) f) (append-nil ins)
      (past_reads (λ cs. Finds cs f) (onward f) s past t base call.stands ins [] (hold_checks s past t [] (outs ++ prepared_ranges prepared) keys) (free_reads base ins held here call.free) unraced_ins
      (subst (λ rs. Finds (hold_checks s past t [] rs keys) f) (sym all)
      (past_holds (λ cs. Finds cs f) (onward f) s past t base call.stands (held ++ prepared_ranges here) (r ∷ after) [] keys
      (free_holds base ins held here call.free) unraced (apart_mid s past t ins held here base memory call) (λ x in'. refl)
      (found (hold_checks s past t (r ∷ piled (held ++ prepared_ranges here) []) after keys)))))))

-- ---- what comes before memory is asked

foreign_found : (s : Start) (past : List Mark) (t : ℕ) (w : Bool) (more : List Range) (r : Range) (x : ℕ) →
    IsLeastIn r (IsInRange SYSTEM_MEMORY) x → Finds (range_checks s past t w more r Done) (BreachFound breach.OtherSpace x None)
foreign_found s past t w more r x p = inl (x, ((covered r x p.in_range.0 p.in_range.1, system_in x p.holds), λ y bad. let q = cover_parts r y bad.0 in let z = in_system y bad.1 in p.least y (q.0, q.1, z.2) z), refl)

raced_found : (s : Start) (past : List Mark) (t : ℕ) (w : Bool) (more : List Range) (r : Range) (f : Finding) →
    NoneIn r (IsInRange SYSTEM_MEMORY) → Finds (race_check past t w r Done) f → Finds (range_checks s past t w more r Done) f
raced_found s past t w more r f none found = inr (
  (λ x bad. let q = cover_parts r x bad.0 in let z = in_system x bad.1 in none x (q.0, q.1, z.2) z),
  elim found [
    | inl here ↦ inl here
    | inr later ↦ absurd later.1
  ],
)

module _ (t : ℕ) (write : Bool) (r : Range) (watch : WatchState) (small : r.addr < 2 ^ 64) where
  pub foreign_range : (x : ℕ) (found : StepRefusal) → IsLeastIn r (IsInRange SYSTEM_MEMORY) x → found ≡ refusal_of (OtherSpace x) → RefusesRange t write r watch found
  foreign_range x found least is = λ program memory past before more same h.
      subst (IsFound (range_checks (fresh memory) past t write more r Done)) (sym is) (foreign_found (fresh memory) past t write more r x least)

  pub raced_range : (e : WatchError) (found : StepRefusal) → NoneIn r (IsInRange SYSTEM_MEMORY) → AnswersBy watch t r write (Err e) → found ≡ refusal_by e → RefusesRange t write r watch found
  raced_range error.Memory found none answers is = λ program memory past before more same h. subst (IsFound (range_checks (fresh memory) past t write more r Done)) (sym is) tt
  raced_range (error.Race other at) found none answers is = λ program memory past before more same h.
      subst (IsFound (range_checks (fresh memory) past t write more r Done)) (sym is)
      (raced_found (fresh memory) past t write more r (BreachFound breach.Race at (Some other)) none
      (race_found program memory past before h t r.addr r.len write small other at (answers (told past) (subst (Stands (told past)) same h.watch))))

-- ---- one range

module _ (t : ℕ) (watch : WatchState) (old : SpaceState) (r : Range) (small : r.addr < 2 ^ 64) (region : IsRegion r) where
  module _ (program : Program) (memory : ℕ → Byte) (past : List Mark) (before : MemoryAbove) (same : before.watch ≡ watch) where
    pub free : (write : Bool) (parts : List Part) → IsMaking program memory past t parts before old → SeesNoRace t write r watch → Unraced past t write r
    free write parts h none = unraced program memory past before h.stands t r.addr r.len write small (none (told past) (subst (Stands (told past)) same h.stands.watch))

    -- what is found where the range is written, the Call finds
    module _ (ins held after outs : List Range) (here prepared : List Prepared) (indirect : Bool) (func : ℕ) (args : List ℕ)
        (h : IsMaking program memory past t (parts_of ins held here) before old)
        (w : Wanted program.interface indirect func args ins outs prepared)
        (all : outs ++ prepared_ranges prepared ≡ (held ++ prepared_ranges here) ++ r ∷ after) where
      pub found_write : (refusal : StepRefusal) →
          ((cs : Checks) → IsFound (range_checks (fresh memory) past t true (piled (held ++ prepared_ranges here) []) r cs) refusal) →
          IsFound (checks program.interface (fresh memory) past t (Calls indirect func args)) refusal
      found_write refusal found = on_write program.interface
          (fresh memory) past before.spaces old t indirect func args refusal ins held after outs here prepared r w all h.call
          (unraced_reads past t ins held here h.unraced) (unraced_writes past t ins held here h.unraced) found

      pub refused_write : (f : Refusal) → SeesNoRace t true r watch → IsRefused old.bytes old.held.regions (region_access t r true) f →
          IsFound (checks program.interface (fresh memory) past t (Calls indirect func args)) (refusal_of f)
      refused_write f none p = found_write (refusal_of f) (λ cs. as_found (range_checks (fresh memory) past t true (piled (held ++ prepared_ranges here) []) r cs) f
          (refused_mid (fresh memory) past t ins held here before.spaces old h.call true (piled (held ++ prepared_ranges here) []) (waiting held here) r r small region cs (free true (parts_of ins held here) h none) f p))

  same_all : (held after : List Range) → held ++ r ∷ after ≡ (held ++ []) ++ r ∷ after
  same_all held after = ap (λ rs. rs ++ r ∷ after) (sym (append-nil held))

  -- what is found before memory is asked
  pub range_among : (write : Bool) (found : StepRefusal) → RefusesRange t write r watch found → RefusesAmong t write (r ∷ []) watch old found
  range_among false found refused = λ program memory past before ins after outs prepared indirect func args same h w.
      on_read program.interface (fresh memory) past before.spaces old t indirect func args found ins after outs prepared r w h.call
      (unraced_reads past t ins [] [] h.unraced)
      (λ cs. found_first (fresh memory) past t false [] r cs found (refused program memory past before [] same h.stands))
  range_among true found refused = λ program memory past before ins held after outs prepared indirect func args same h w all.
      found_write program memory past before same ins held after outs [] prepared indirect func args h w (all ∙ same_all held after) found
      (λ cs. found_first (fresh memory) past t true (piled (held ++ []) []) r cs found
      (refused program memory past before (piled (held ++ []) []) same h.stands))

  -- what memory refuses
  pub refused_among : (write : Bool) (f : Refusal) (found : StepRefusal) → SeesNoRace t write r watch →
      IsRefused old.bytes old.held.regions (region_access t r write) f → found ≡ refusal_of f →
      RefusesAmong t write (r ∷ []) watch old found
  refused_among false f found none p is = λ program memory past before ins after outs prepared indirect func args same h w.
      subst (IsFound (checks program.interface (fresh memory) past t (Calls indirect func args))) (sym is)
      (on_read program.interface (fresh memory) past before.spaces old t indirect func args
      (refusal_of f) ins after outs prepared r w h.call (unraced_reads past t ins [] [] h.unraced)
      (λ cs. as_found (range_checks (fresh memory) past t false [] r cs) f
      (refused_mid (fresh memory) past t ins [] [] before.spaces old h.call false [] (λ x. refl) r r small region cs (free program memory past before same false (parts_of ins [] []) h none) f p)))
  refused_among true f found none p is = λ program memory past before ins held after outs prepared indirect func args same h w all.
      subst (IsFound (checks program.interface (fresh memory) past t (Calls indirect func args))) (sym is)
      (refused_write program memory past before same ins held after outs [] prepared indirect func args h w (all ∙ same_all held after) f none p)

  -- want of memory
  pub lacks_among : (write : Bool) (found : StepRefusal) → found ≡ Memory → RefusesAmong t write (r ∷ []) watch old found
  lacks_among false found is = λ program memory past before ins after outs prepared indirect func args same h w. subst (IsFound (checks program.interface (fresh memory) past t (Calls indirect func args))) (sym is) tt
  lacks_among true found is = λ program memory past before ins held after outs prepared indirect func args same h w all. subst (IsFound (checks program.interface (fresh memory) past t (Calls indirect func args))) (sym is) tt

  -- one part more
  pub one_more : (program : Program) (memory : ℕ → Byte) (past : List Mark) (before : MemoryAbove) (parts : List Part) (p : Part) (new : SpaceState) →
      IsMaking program memory past t parts before old → IsUnraced past t p →
      InCall (fresh memory) past t (parts ++ p ∷ []) before.spaces new → IsMaking program memory past t (parts ++ p ∷ []) before new
  one_more program memory past before parts p new h none call = record {
    stands = h.stands;
    call = call;
    unraced = All-append (IsUnraced past t) parts (p ∷ []) h.unraced (All-cons (IsUnraced past t) p [] none (All-nil (IsUnraced past t)));
  }

  pub adds_one : (write : Bool) (new : SpaceState) → SeesNoRace t write r watch →
      AddsRegion old.bytes (region_range r) (holder_of write (innermost old.held t)) old.held new.held →
      new ≡ record old { held = new.held } → IsAllowed old.bytes old.held.regions (region_access t r write) →
      Adds t (held_part write r ∷ []) watch old new
  adds_one false new none adds rest ok = λ program memory past before parts same h.
      one_more program memory past before parts (Reads r) new h (free program memory past before same false parts h none)
      (held_range (fresh memory) past before.spaces old new t parts r r h.call small region rest false adds ok)
  adds_one true new none adds rest ok = λ program memory past before parts same h.
      one_more program memory past before parts (Holds r) new h (free program memory past before same true parts h none)
      (held_range (fresh memory) past before.spaces old new t parts r r h.call small region rest true adds ok)

-- ---- range after range

pub refused_later : (t : ℕ) (write : Bool) (rs : List Range) (i : ℕ) (d : Range) (watch : WatchState) (old mid : SpaceState) (found : StepRefusal) →
    i < length rs → Adds t (map (held_part write) (take i rs)) watch old mid → RefusesAmong t write (get_or rs i d ∷ []) watch mid found →
    RefusesAmong t write rs watch old found
refused_later t false rs i d watch old mid found lt first refused = λ program memory past before ins after outs prepared indirect func args same h w.
    refused program memory past before (ins ++ take i rs) (drop (suc i) rs ++ after) outs prepared indirect func args same
    (subst (λ ps. IsMaking program memory past t ps before mid) (reads_more ins (take i rs)) (first program memory past before (parts_of ins [] []) same h))
    (subst (λ l. Wanted program.interface indirect func args l outs prepared) (splits ins rs after i d lt) w)
refused_later t true rs i d watch old mid found lt first refused = λ program memory past before ins held after outs prepared indirect func args same h w all.
    refused program memory past before ins (held ++ take i rs) (drop (suc i) rs ++ after) outs prepared indirect func args same
    (subst (λ ps. IsMaking program memory past t ps before mid) (holds_more ins held (take i rs)) (first program memory past before (parts_of ins held []) same h))
    w (all ∙ splits held rs after i d lt)
