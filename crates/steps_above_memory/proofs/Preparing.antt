-- Regions that a Call prepares under keys, one after the other.
use Rattle.std.proofs.Common.{◌≡◌, inl, inr, ℕ, suc, ◌^◌, ◌<◌, true, List, [], ◌∷◌, ◌++◌, map, length, get_or, take, drop, append_assoc, Some, Result, Ok, Err, refl, sym, ap, ◌∙◌, subst}
use Rattle.std.proofs.lemmas.List.{append-nil, map-append}
use Rattle.marks.specs.declared.range.Range.{Range}
use Rattle.marks.specs.Ranges.{Prepared, prepared_ranges}
use Rattle.space_memory_access.specs.declared.holder.Holder.TheVariants.{Key}
use Rattle.space_memory_access.specs.declared.refusal.Refusal.{Refusal}
use Rattle.space_memory_access.specs.declared.refusal.Refusal.TheVariants.{NotLive, Pending, OtherSpace, ReadOnly, StackFull, KeyInUse, NoKey, Size}
use Rattle.space_memory_access.specs.Accesses.{IsAllowed, IsRefused}
use Rattle.space_memory_access.specs.Held.{innermost}
use Rattle.space_memory.specs.declared.error.HoldError.{HoldError}
use Rattle.space_memory.specs.Held.{region_access, region_range, AddsRegion, IsInUse, IsPrepareRefused}
use Rattle.space_memory.specs.Spaces.{SpaceState}
use Rattle.space_memory_laws.specs.Calls.{Prepares, prepared_part, parts_of}
use Rattle.space_memory_laws.specs.CallChecks.{AllUnraced, Wanted}
use Rattle.space_memory_laws.proofs.KeyChecks.{refused_key}
use Rattle.space_memory_laws.proofs.Parts.{prepared_range}
use Rattle.space_memory_laws.proofs.Passing.{piled}
use Rattle.replay_runs.specs.Laws.{fresh}
use Rattle.race_watch.specs.State.{WatchState}
use Rattle.steps_above_memory.specs.declared.parts.Unprepared.{Unprepared}
use Rattle.steps_above_memory.specs.declared.parts.Unprepared.TheVariants as unprepared
use Rattle.steps_above_memory.specs.declared.refusal.StepRefusal.{StepRefusal}
use Rattle.steps_above_memory.specs.declared.refusal.StepRefusal.TheVariants.{Memory}
use Rattle.steps_above_memory.specs.Refusals.{refusal_of}
use Rattle.steps_above_memory.specs.Parts.{Adds, IsMaking, IsRegion, RefusesRange, RefusesToPrepare, SeesNoRace, unprepared_by}
use Rattle.steps_above_memory.proofs.Calling.{found_first, found_write, free, one_more, refused_write}
use Rattle.steps_above_memory.proofs.Growing.{prepares_more, splits, unraced_reads, unraced_writes}

-- a list with the ranges of regions, after others
ranges_split : (outs : List Range) (here rest : List Prepared) → outs ++ prepared_ranges (here ++ rest) ≡ (outs ++ prepared_ranges here) ++ prepared_ranges rest
ranges_split outs here rest = ap (λ rs. outs ++ rs) (map-append (λ (q : Prepared). q.range) here rest) ∙ sym (append_assoc outs (prepared_ranges here) (prepared_ranges rest))

-- ---- one region

-- what refuses its range is no key in use
by_range : (r : Refusal) (t : ℕ) (at : Range) (memory : SpaceState) → IsRefused memory.bytes memory.held.regions (region_access t at true) r → unprepared_by r ≡ unprepared.Refused (refusal_of r)
by_range (NotLive x) t at memory p = refl
by_range (Pending x) t at memory p = refl
by_range (OtherSpace x) t at memory p = refl
by_range (ReadOnly x) t at memory p = refl
by_range (StackFull x) t at memory p = absurd p
by_range (KeyInUse x) t at memory p = absurd p
by_range (NoKey x) t at memory p = absurd p
by_range (Size x) t at memory p = absurd p

module _ (t key : ℕ) (watch : WatchState) (old : SpaceState) (r : Range) (small : r.addr < 2 ^ 64) (region : IsRegion r) where
  abbrev one : Prepared
  one = record { key = key; range = r }

  pub range_unprepared : (found : Unprepared) (refusal : StepRefusal) → found ≡ unprepared.Refused refusal → RefusesRange t true r watch refusal → RefusesToPrepare t (one ∷ []) watch old found
  range_unprepared found refusal is refused = subst (RefusesToPrepare t (one ∷ []) watch old) (sym is) (λ program memory past before ins outs here after indirect func args same h w.
      found_write t watch old r small region program memory past before same ins outs (prepared_ranges after) outs here (here ++ one ∷ after) indirect func args h w (ranges_split outs here (one ∷ after)) refusal
      (λ cs. found_first (fresh memory) past t true (piled (outs ++ prepared_ranges here) []) r cs refusal (refused program memory past before (piled (outs ++ prepared_ranges here) []) same h.stands)))

  key_found : SeesNoRace t true r watch → IsAllowed old.bytes old.held.regions (region_access t r true) → IsInUse old.held.regions key →
      RefusesToPrepare t (one ∷ []) watch old (unprepared.KeyInUse key)
  key_found none ok used program memory past before ins outs here after tested indirect func args same h k w =
      refused_key program.interface (fresh memory) past before.spaces tested old t indirect func args ins outs here after one r w
      (record {
        test = k.call;
        call = h.call;
        unraced_ins = unraced_reads past t ins outs here h.unraced;
        unraced = subst (AllUnraced past t true) (append-nil (outs ++ prepared_ranges (here ++ one ∷ after))) (unraced_writes past t ins (outs ++ prepared_ranges (here ++ one ∷ after)) [] k.unraced);
        below = small;
        region = region;
      })
      (KeyInUse key) (inr (ok, used, refl))

  pub unprepared_one : (f : Refusal) (found : Unprepared) → SeesNoRace t true r watch →
      IsPrepareRefused old.bytes old.held.regions (region_access t r true) key f → found ≡ unprepared_by f →
      RefusesToPrepare t (one ∷ []) watch old found
  unprepared_one f found none (inl range) is = subst (RefusesToPrepare t (one ∷ []) watch old) (sym (is ∙ by_range f t r old range)) (λ program memory past before ins outs here after indirect func args same h w.
      refused_write t watch old r small region program memory past before same ins outs (prepared_ranges after) outs here (here ++ one ∷ after) indirect func args h w (ranges_split outs here (one ∷ after)) f none range)
  unprepared_one f found none (inr why) is = subst (RefusesToPrepare t (one ∷ []) watch old) (sym (is ∙ ap unprepared_by why.2)) (key_found none why.0 why.1)

  pub lacks_one : (found : Unprepared) → found ≡ unprepared.Refused Memory → RefusesToPrepare t (one ∷ []) watch old found
  lacks_one found is = subst (RefusesToPrepare t (one ∷ []) watch old) (sym is) (λ program memory past before ins outs here after indirect func args same h w. tt)

  pub prepares_one : (new : SpaceState) → SeesNoRace t true r watch →
      AddsRegion old.bytes (region_range r) (Key key (Some (innermost old.held t))) old.held new.held → new ≡ record old { held = new.held } →
      IsAllowed old.bytes old.held.regions (region_access t r true) →
      ((f : Refusal) → IsPrepareRefused old.bytes old.held.regions (region_access t r true) key f → ⊥) →
      Adds t (Prepares key r ∷ []) watch old new
  prepares_one new none adds rest ok free_key = λ program memory past before parts same h.
      one_more t watch old r small region program memory past before parts (Prepares key r) new h (free t watch old r small region program memory past before same true parts h none)
      (prepared_range (fresh memory) past before.spaces old new t parts r r h.call small region rest key adds ok free_key)

-- what is answered Ok isn't answered Err
pub not_both : (r : Result (Unit {0}) HoldError) (a : Unit {0}) (e : HoldError) → r ≡ Ok a → r ≡ Err e → ⊥
not_both r a e p q = absurd (other (sym p ∙ q))
  where
    other : ◌≡◌ {A = Result (Unit {0}) HoldError} (Ok a) (Err e) → ⊥
    other k = absurd cc

-- ---- region after region

pub unprepared_later : (t : ℕ) (ps : List Prepared) (i : ℕ) (d : Prepared) (watch : WatchState) (old mid : SpaceState) (found : Unprepared) →
    i < length ps → Adds t (map prepared_part (take i ps)) watch old mid → RefusesToPrepare t (get_or ps i d ∷ []) watch mid found →
    RefusesToPrepare t ps watch old found
unprepared_later t ps i d watch old mid (unprepared.Refused refusal) lt first refused = λ program memory past before ins outs here after indirect func args same h w.
    refused program memory past before ins outs (here ++ take i ps) (drop (suc i) ps ++ after) indirect func args same
    (subst (λ qs. IsMaking program memory past t qs before mid) (prepares_more ins outs here (take i ps)) (first program memory past before (parts_of ins outs here) same h))
    (subst (Wanted program.interface indirect func args ins outs) (splits here ps after i d lt) w)
unprepared_later t ps i d watch old mid (unprepared.KeyInUse key) lt first refused = λ program memory past before ins outs here after tested indirect func args same h k w.
    refused program memory past before ins outs (here ++ take i ps) (drop (suc i) ps ++ after) tested indirect func args same
    (subst (λ qs. IsMaking program memory past t qs before mid) (prepares_more ins outs here (take i ps)) (first program memory past before (parts_of ins outs here) same h))
    (subst (λ qs. IsMaking program memory past t (parts_of ins (outs ++ prepared_ranges qs) []) before tested) (splits here ps after i d lt) k)
    (subst (Wanted program.interface indirect func args ins outs) (splits here ps after i d lt) w)
