-- Blocks that are freed.
use Rattle.std.proofs.Common.{◌≡◌, ⊎_elim, inl, inr, ℕ, zero, suc, ◌+◌, ◌^◌, ◌<◌, ◌≤◌, true, false, eqb, leb, ltb, List, [], ◌∷◌, Option, Some, None, Ok, Err, map, refl, sym, ap, ◌∙◌, subst, arith}
use Rattle.std.specs.Prelude.{unwrap_or}
use Rattle.std.proofs.lemmas.Bool.{cond-true, cond-false, and_right, eq-eqb, le-ltb, ne_eqb, true≢false}
use Rattle.run_events.specs.declared.key.Class.TheVariants.{Pool}
use Rattle.run_events.specs.declared.key.KeyMark.{KeyMark}
use Rattle.marks.specs.declared.side.Side.TheVariants.{Replay}
use Rattle.marks.specs.declared.breach.BreachKind.TheVariants as breach
use Rattle.marks.specs.Places.{constants, replay_globals, replay_pool, pool_size, is_constant, is_system}
use Rattle.marks.specs.declared.range.Range.{Range}
use Rattle.marks.specs.Ranges.{range, covers}
use Rattle.marks.specs.Marks.{Free, Made, Mark}
use Rattle.marks.specs.Bytes.{Byte}
use Rattle.marks.specs.Wants.{Frees}
use Rattle.memory_map.specs.declared.areas.TheConstants.{SYSTEM_MEMORY}
use Rattle.logical_clock.specs.Events.{occurrence}
use Rattle.pool_list.specs.Blocks.{PoolState, length_at, without_block}
use Rattle.space_memory_bytes.specs.Numbers.{FillsWith}
use Rattle.space_memory_access.specs.declared.refusal.Refusal.{Refusal}
use Rattle.space_memory_access.specs.declared.refusal.Refusal.TheVariants.{OtherSpace}
use Rattle.space_memory.specs.Blocks.{IsFreeRefused}
use Rattle.space_memory.specs.Sides.{with_blocks}
use Rattle.space_memory.specs.Spaces.{with_side}
use Rattle.space_memory_laws.specs.Marks.{IsMark}
use Rattle.space_memory_laws.specs.Shown.{by_address}
use Rattle.space_memory_laws.proofs.Blocks.{begins_from}
use Rattle.space_memory_laws.proofs.Cells.{below_system, cover_parts, covered}
use Rattle.space_memory_laws.proofs.Frees.{found_frees}
use Rattle.space_memory_laws.proofs.Pool.{frees, frees_of_null}
use Rattle.space_memory_laws.proofs.Rooms.{freed_some, frees_found}
use Rattle.replay_runs.specs.Runs.{Allowed, byte}
use Rattle.replay_runs.specs.Interface.{Program}
use Rattle.replay_runs.specs.Keys.{key}
use Rattle.replay_runs.specs.Pool.{blocks}
use Rattle.replay_runs.specs.Rules.{replay_rules}
use Rattle.replay_runs.specs.Laws.{fresh}
use Rattle.replay_runs.specs.Passing.{Unraced}
use Rattle.replay_runs.specs.Checks.{BreachFound, Passes, Races, IsRace, Least, checks, freed_range}
use Rattle.replay_runs.proofs.Touching.{races_with_none}
use Rattle.race_watch.specs.declared.error.WatchError.{WatchError}
use Rattle.race_watch.specs.declared.error.WatchError.TheVariants as error
use Rattle.race_watch.specs.Told.{Accessed, Happened}
use Rattle.race_watch.specs.Stands.{Stands, Answers, AnswersBy}
use Rattle.race_watch.specs.Stands as watch
use Rattle.race_watch_laws.specs.Told.{told}
use Rattle.steps_above_memory.specs.declared.above.MemoryAbove.{MemoryAbove}
use Rattle.steps_above_memory.specs.declared.refusal.StepRefusal.{StepRefusal}
use Rattle.steps_above_memory.specs.declared.refusal.StepRefusal.TheVariants.{Memory}
use Rattle.steps_above_memory.specs.Above.{StandsForAbove}
use Rattle.steps_above_memory.specs.Refusals.{IsFound, refusal_of, refusal_by}
use Rattle.steps_above_memory.specs.Steps.{Refuses, Takes}
use Rattle.steps_above_memory.specs.Events.{MakesEvent, WasToldFree, next_event}
use Rattle.steps_above_memory.proofs.Entering.{less_races}
use Rattle.steps_above_memory.proofs.Extend.{goes_on}
use Rattle.steps_above_memory.proofs.Happening.{has_key}
use Rattle.steps_above_memory.proofs.Ranges.{as_found, race_found, unraced}

no_constant : (x : ℕ) → replay_pool ≤ x → is_constant x ≡ false
no_constant x le = and_right (leb constants x) (ltb x replay_globals) (le-ltb x replay_globals (omega (arith, le)))

module _ (program : Program) (memory : ℕ → Byte) (past : List Mark) (old : MemoryAbove) (h : StandsForAbove program memory past old) (t a : ℕ) (small : suc a < 2 ^ 64) where
  abbrev freed : Range
  freed = freed_range (suc a) (byte (fresh memory) (suc a) past).block

  -- the range that is freed: a block of the pool, or one byte
  record IsFreed (len : ℕ) : Type 0 where
    is : freed_range (suc a) (byte (fresh memory) (suc a) past).block ≡ range (suc a) len
    own : (x : ℕ) → covers (range (suc a) len) x ≡ true → is_system x ≡ false

  lies : (len : ℕ) → length_at old.spaces.sides.replay.pool.blocks (suc a) ≡ Some len → (replay_pool ≤ suc a) × (1 ≤ len) × (suc a + len ≤ replay_pool + pool_size)
  lies len is = begins_from replay_pool (replay_pool + pool_size) (by_address (blocks (fresh memory) past)) (suc a) len h.spaces.sound.laid_out (sym (ap (λ (q : PoolState). length_at q.blocks (suc a)) h.spaces.pool) ∙ is)

  freed_is : is_system (suc a) ≡ false → (o : Option ℕ) → length_at old.spaces.sides.replay.pool.blocks (suc a) ≡ o → IsFreed (unwrap_or o 1)
  freed_is own None is =
      let n : (byte (fresh memory) (suc a) past).block ≡ 0 = h.spaces.begins (suc a) own ∙ ap (λ k. unwrap_or k 0) is in
      record {
        is = ap (λ k. range (suc a) k) (cond-true (eqb (byte (fresh memory) (suc a) past).block 0) 1 (byte (fresh memory) (suc a) past).block (eq-eqb (byte (fresh memory) (suc a) past).block 0 n));
        own = λ x c. let p = cover_parts (range (suc a) 1) x c in let here : x ≡ suc a = omega (arith, p.0, p.1) in ap is_system here ∙ own;
      }
  freed_is own (Some len) is =
      let n : (byte (fresh memory) (suc a) past).block ≡ len = h.spaces.begins (suc a) own ∙ ap (λ k. unwrap_or k 0) is in
      let k = lies len is in
      record {
        is = ap (λ k. range (suc a) k)
            (cond-false (eqb (byte (fresh memory) (suc a) past).block 0) 1 (byte (fresh memory) (suc a) past).block
            (ne_eqb (byte (fresh memory) (suc a) past).block 0 (λ e. absurd (omega (arith, e, n, k.1)))) ∙ n);
        own = λ x c. let p = cover_parts (range (suc a) len) x c in below_system x (omega (arith, p.1, k.2));
      }

  module _ (len : ℕ) (f : IsFreed len) where
    free_unraced : watch.NoRace (told past) t (record { addr = suc a; len = len }) true → Unraced past t true freed
    free_unraced none = subst (Unraced past t true) (sym f.is) (unraced program memory past old h t (suc a) len true small none)

    free_raced : (e : WatchError) → Answers (told past) t (record { addr = suc a; len = len }) true (Err e) → IsFound (checks program.interface (fresh memory) past t (Frees (suc a))) (refusal_by e)
    free_raced error.Memory b = tt
    free_raced (error.Race other at) b =
        ⊎_elim
        (λ z. inr (
          (λ x bad. true≢false (sym bad.1 ∙ f.own x (subst (λ r. covers r x ≡ true) f.is bad.0))),
          inl (subst (λ r. (x : ℕ) × Least (λ x. (covers r x ≡ true) × ((u : ℕ) × Races past t true x u)) x × IsRace past t true x (BreachFound breach.Race at (Some other))) (sym f.is) z),
        ))
        (λ z. absurd z.1)
        (race_found program memory past old h t (suc a) len true small other at b)

    free_refused : (r : Refusal) → watch.NoRace (told past) t (record { addr = suc a; len = len }) true →
        IsFreeRefused Replay old.spaces.sides.replay.pool.blocks old.spaces.held.regions (suc a) r →
        IsFound (checks program.interface (fresh memory) past t (Frees (suc a))) (refusal_of r)
    free_refused r none p = as_found (checks program.interface (fresh memory) past t (Frees (suc a))) r (frees_found program.interface (fresh memory) past old.spaces t (suc a) h.spaces (omega arith) (free_unraced none) r p)

    free_passes : watch.NoRace (told past) t (record { addr = suc a; len = len }) true →
        ((r : Refusal) → IsFreeRefused Replay old.spaces.sides.replay.pool.blocks old.spaces.held.regions (suc a) r → ⊥) →
        Passes (checks program.interface (fresh memory) past t (Frees (suc a)))
    free_passes none fine = (found_frees program.interface (fresh memory) past old.spaces t (suc a) h.spaces (omega arith) (free_unraced none)).passes.1 fine

  free_foreign : is_system (suc a) ≡ true → IsFound (checks program.interface (fresh memory) past t (Frees (suc a))) (refusal_of (OtherSpace (suc a)))
  free_foreign sys =
      let some = freed_some (byte (fresh memory) (suc a) past).block in
      inl (suc a, ((covered freed (suc a) (omega arith) (omega (arith, some)), sys), λ y bad. (cover_parts freed y bad.0).0), refl)

-- ---- for every run

pub refused_foreign : (above : MemoryAbove) (t addr : ℕ) (found : StepRefusal) → addr < 2 ^ 64 → (addr ≡ 0 → ⊥) →
    covers SYSTEM_MEMORY addr ≡ true → found ≡ refusal_of (OtherSpace addr) → Refuses above t (Frees addr) found
refused_foreign above t zero found small some sys is program memory past h modes = absurd (some refl)
refused_foreign above t (suc a) found small some sys is program memory past h modes = subst (IsFound (checks program.interface (fresh memory) past t (Frees (suc a)))) (sym is) (free_foreign program memory past above h t a small sys)

pub refused_race : (above : MemoryAbove) (t addr len : ℕ) (e : WatchError) (found : StepRefusal) → addr < 2 ^ 64 → (addr ≡ 0 → ⊥) →
    covers SYSTEM_MEMORY addr ≡ false → len ≡ unwrap_or (length_at above.spaces.sides.replay.pool.blocks addr) 1 →
    AnswersBy above.watch t (record { addr = addr; len = len }) true (Err e) → found ≡ refusal_by e → Refuses above t (Frees addr) found
refused_race above t zero len e found small some own n answers is program memory past h modes = absurd (some refl)
refused_race above t (suc a) len e found small some own n answers is program memory past h modes =
    subst (IsFound (checks program.interface (fresh memory) past t (Frees (suc a)))) (sym is)
    (free_raced program memory past above h t a small len
    (subst (IsFreed program memory past above h t a small) (sym n)
    (freed_is program memory past above h t a small own (length_at above.spaces.sides.replay.pool.blocks (suc a)) refl)) e
    (answers (told past) h.watch))

pub refused_free : (above : MemoryAbove) (t addr len : ℕ) (r : Refusal) (found : StepRefusal) → addr < 2 ^ 64 → (addr ≡ 0 → ⊥) →
    covers SYSTEM_MEMORY addr ≡ false → len ≡ unwrap_or (length_at above.spaces.sides.replay.pool.blocks addr) 1 →
    AnswersBy above.watch t (record { addr = addr; len = len }) true (Ok tt) →
    IsFreeRefused Replay above.spaces.sides.replay.pool.blocks above.spaces.held.regions addr r → found ≡ refusal_of r →
    Refuses above t (Frees addr) found
refused_free above t zero len r found small some own n answers p is program memory past h modes = absurd (some refl)
refused_free above t (suc a) len r found small some own n answers p is program memory past h modes =
    subst (IsFound (checks program.interface (fresh memory) past t (Frees (suc a)))) (sym is)
    (free_refused program memory past above h t a small len
    (subst (IsFreed program memory past above h t a small) (sym n)
    (freed_is program memory past above h t a small own (length_at above.spaces.sides.replay.pool.blocks (suc a)) refl)) r
    (answers (told past) h.watch) p)

pub taken_free : (above : MemoryAbove) (t addr len : ℕ) → addr < 2 ^ 64 → (addr ≡ 0 → ⊥) → covers SYSTEM_MEMORY addr ≡ false →
    len ≡ unwrap_or (length_at above.spaces.sides.replay.pool.blocks addr) 1 →
    AnswersBy above.watch t (record { addr = addr; len = len }) true (Ok tt) →
    ((r : Refusal) → IsFreeRefused Replay above.spaces.sides.replay.pool.blocks above.spaces.held.regions addr r → ⊥) →
    Takes above t (Frees addr)
taken_free above t zero len small some own n answers fine program memory past h modes = absurd (some refl)
taken_free above t (suc a) len small some own n answers fine program memory past h modes =
    free_passes program memory past above h t a small len
    (subst (IsFreed program memory past above h t a small) (sym n)
    (freed_is program memory past above h t a small own (length_at above.spaces.sides.replay.pool.blocks (suc a)) refl))
    (answers (told past) h.watch) fine

-- a Free that memory made, and that the watch was told
free_stands : (old new : MemoryAbove) (t addr size : ℕ) → WasToldFree t (record { addr = addr; len = size }) old.watch new.watch →
    (program : Program) (memory : ℕ → Byte) (past : List Mark) (steps clock : ℕ) (marks : List KeyMark) →
    StandsForAbove program memory past old → map (λ (q : KeyMark). q.key) marks ≡ key Pool 0 ∷ [] →
    Allowed (replay_rules program (fresh memory)) (fresh memory) past (next_event memory past t (Free addr size) steps marks clock) →
    IsMark (fresh memory) past (next_event memory past t (Free addr size) steps marks clock) new.spaces →
    ((x : ℕ) → covers (range addr size) x ≡ true → (is_system x ≡ false) × (is_constant x ≡ false) × (x < 2 ^ 64)) →
    Unraced past t true (range addr size) →
    StandsForAbove program memory (next_event memory past t (Free addr size) steps marks clock ∷ past) new
free_stands old new t addr size one program memory past steps clock marks h is may mark own free = record {
  goes_well = goes_on program memory past t (Made (record { kind = Free addr size; steps = steps; keys = marks; clock = clock })) h.goes_well may
      (races_with_none past (next_event memory past t (Free addr size) steps marks clock) refl (record {
        space = λ x e. (own x e).0;
        constant = λ x e. (own x e).1;
        reading = λ x u e r. free x u e (less_races past t x u r);
        writing = λ x u e r. free x u e r;
      }))
      tt refl (λ x e. (own x e).2);
  spaces = mark.stands;
  watch = subst (λ ks. Stands (Happened (occurrence t ks) ∷ Accessed t (range addr size) true ∷ told past) new.watch) (sym is) (one (told past) h.watch);
}

pub free_made : (old new : MemoryAbove) (t addr size len : ℕ) → addr < 2 ^ 64 → (addr ≡ 0 → ⊥) → covers SYSTEM_MEMORY addr ≡ false →
    len ≡ unwrap_or (length_at old.spaces.sides.replay.pool.blocks addr) 1 → length_at old.spaces.sides.replay.pool.blocks addr ≡ Some size →
    new.spaces.sides ≡ with_side old.spaces.sides Replay (with_blocks old.spaces.sides.replay (without_block old.spaces.sides.replay.pool.blocks addr)) →
    FillsWith (record { addr = addr; len = size }) None old.spaces.bytes new.spaces.bytes → new.spaces.held ≡ old.spaces.held →
    ((r : Refusal) → IsFreeRefused Replay old.spaces.sides.replay.pool.blocks old.spaces.held.regions addr r → ⊥) →
    AnswersBy old.watch t (record { addr = addr; len = len }) true (Ok tt) →
    WasToldFree t (record { addr = addr; len = len }) old.watch new.watch → MakesEvent old t (key Pool 0 ∷ []) (Free addr size) new
free_made old new t zero size len small some own n there sides fills held fine answers one program memory past steps clock marks h is may = absurd (some refl)
free_made old new t (suc a) size len small some own n there sides fills held fine answers one program memory past steps clock marks h is may =
    let same : len ≡ size = n ∙ ap (λ o. unwrap_or o 1) there in
    let k = lies program memory past old h t a small size there in
    free_stands old new t (suc a) size (subst (λ z. WasToldFree t (record { addr = suc a; len = z }) old.watch new.watch) same one) program memory past steps clock marks h is may
    (frees (fresh memory) past old.spaces new.spaces (next_event memory past t (Free (suc a) size) steps marks clock)
    (record { kind = Free (suc a) size; steps = steps; keys = marks; clock = clock }) (suc a) size h.spaces
    (record { block = there; sides = sides; dead = fills; held = held }) fine refl refl (has_key marks is))
    (λ x c. let p = cover_parts (range (suc a) size) x c in (below_system x (omega (arith, p.1, k.2)), no_constant x (omega (arith, p.0, k.0)), omega (arith, p.1, k.2)))
    (subst (λ z. Unraced past t true (range (suc a) z)) same (unraced program memory past old h t (suc a) len true small (answers (told past) h.watch)))

-- a Free of NULL
pub null_taken : (above : MemoryAbove) (t : ℕ) → Takes above t (Frees 0)
null_taken above t program memory past h modes = tt

null_event : (old new : MemoryAbove) (t : ℕ) → new.spaces ≡ old.spaces → WasToldFree t (record { addr = 0; len = 0 }) old.watch new.watch → MakesEvent old t (key Pool 0 ∷ []) (Free 0 0) new
null_event old new t same one program memory past steps clock marks h is may =
    free_stands old new t 0 0 one program memory past steps clock marks h is may
    (subst (IsMark (fresh memory) past (next_event memory past t (Free 0 0) steps marks clock)) (sym same)
    (frees_of_null (fresh memory) past old.spaces (next_event memory past t (Free 0 0) steps marks clock)
    (record { kind = Free 0 0; steps = steps; keys = marks; clock = clock }) h.spaces refl refl))
    (λ x c. let p = cover_parts (range 0 0) x c in absurd (omega (arith, p.1)))
    (λ x u c r. let p = cover_parts (range 0 0) x c in omega (arith, p.1))

pub null_made : (old new : MemoryAbove) (t addr : ℕ) → addr ≡ 0 → new.spaces ≡ old.spaces →
    WasToldFree t (record { addr = 0; len = 0 }) old.watch new.watch → MakesEvent old t (key Pool 0 ∷ []) (Free addr 0) new
null_made old new t addr z same one = subst (λ a. MakesEvent old t (key Pool 0 ∷ []) (Free a 0) new) (sym z) (null_event old new t same one)

-- want of memory has no cause
pub no_cause : (above : MemoryAbove) (t addr : ℕ) (found : StepRefusal) → found ≡ Memory → Refuses above t (Frees addr) found
no_cause above t addr found is program memory past h modes = subst (IsFound (checks program.interface (fresh memory) past t (Frees addr))) (sym is) tt
