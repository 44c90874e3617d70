-- Events of a thread that are made.
use Rattle.std.proofs.Common.{◌≡◌, ◌⊎◌, ℕ, ◌+◌, ◌^◌, ◌<◌, ◌≤◌, true, false, ◌||◌, eqb, List, [], ◌∷◌, map, refl, sym, ap, ◌∙◌, subst, arith}
use Rattle.std.proofs.lemmas.Bool.{cond-false, ne_eqb, true≢false}
use Rattle.run_events.specs.declared.key.Class.TheVariants.{Pool}
use Rattle.run_events.specs.declared.key.Key.{Key}
use Rattle.run_events.specs.declared.key.KeyMark.{KeyMark}
use Rattle.marks.specs.Places.{replay_pool, pool_size}
use Rattle.marks.specs.Ranges.{range}
use Rattle.marks.specs.Marks.{EventKind, Call, Ret, Up, UpRet, Alloc, Free, Stop, Event, Made, Mark}
use Rattle.marks.specs.Bytes.{Byte, granted, touches}
use Rattle.logical_clock.specs.Events.{occurrence}
use Rattle.pool_list.specs.Blocks.{PoolState}
use Rattle.pool_list.specs.Places as pool
use Rattle.space_memory.specs.Spaces.{SpaceState}
use Rattle.space_memory_laws.specs.Marks.{IsQuietEvent}
use Rattle.space_memory_laws.specs.PoolMarks.{IsAlloc}
use Rattle.space_memory_laws.specs.StandsFor.{StandsFor}
use Rattle.space_memory_laws.proofs.Cells.{cover_parts}
use Rattle.space_memory_laws.proofs.Pool.{allocs, refused_allocs}
use Rattle.space_memory_laws.proofs.Quiet.{quiet}
use Rattle.replay_runs.specs.Runs.{Allowed, is_listed, same_key}
use Rattle.replay_runs.specs.Known.{NoRace}
use Rattle.replay_runs.specs.Interface.{Program}
use Rattle.replay_runs.specs.Keys.{key}
use Rattle.replay_runs.specs.Rules.{replay_rules}
use Rattle.replay_runs.specs.Laws.{fresh}
use Rattle.replay_runs.proofs.Touching.{races_with_none}
use Rattle.replay_runs.proofs.Unseen.{race_with_nothing}
use Rattle.race_watch.specs.State.{WatchState}
use Rattle.race_watch.specs.Told.{Accessed, Happened}
use Rattle.race_watch.specs.Stands.{Stands, WasTold}
use Rattle.race_watch_laws.specs.Told.{told}
use Rattle.steps_above_memory.specs.declared.above.MemoryAbove.{MemoryAbove}
use Rattle.steps_above_memory.specs.Above.{StandsForAbove}
use Rattle.space_memory_laws.specs.Changes.{IsTaken}
use Rattle.steps_above_memory.specs.Steps.{next_mark}
use Rattle.steps_above_memory.specs.Events.{MakesEvent, HasPlace, next_event}
use Rattle.steps_above_memory.proofs.Extend.{goes_on}
use Rattle.marks.specs.declared.side.Side.TheVariants.{Replay}

-- ---- events that touch nothing

module _ (old new : MemoryAbove) (t : ℕ) (keys : List Key) (same : new.spaces ≡ old.spaces) (one : WasTold (Happened (occurrence t keys)) old.watch new.watch) where
  taken : (past : List Mark) (marks : List KeyMark) → Stands (told past) old.watch → map (λ (q : KeyMark). q.key) marks ≡ keys →
      Stands (Happened (occurrence t (map (λ (q : KeyMark). q.key) marks)) ∷ told past) new.watch
  taken past marks h is = subst (λ ks. Stands (Happened (occurrence t ks) ∷ told past) new.watch) (sym is) (one (told past) h)

  untouched : (program : Program) (memory : ℕ → Byte) (past : List Mark) (e : Event) → StandsForAbove program memory past old →
      IsQuietEvent e.kind → ((x : ℕ) → touches (Made e) x ≡ false) →
      Allowed (replay_rules program (fresh memory)) (fresh memory) past (next_mark memory past t (Made e)) →
      NoRace past (next_mark memory past t (Made e)) → Stands (told (next_mark memory past t (Made e) ∷ past)) new.watch →
      StandsForAbove program memory (next_mark memory past t (Made e) ∷ past) new
  untouched program memory past e h still none may free watch = record {
    goes_well = goes_on program memory past t (Made e) h.goes_well may free tt refl (λ x z. absurd (true≢false (sym z ∙ none x)));
    spaces = subst (StandsFor (fresh memory) (next_mark memory past t (Made e) ∷ past)) (sym same) (quiet (fresh memory) past old.spaces (next_mark memory past t (Made e)) h.spaces still);
    watch = watch;
  }

  pub quiet_made : (kind : EventKind) → IsQuietEvent kind → MakesEvent old t keys kind new
  quiet_made (Up f args) still program memory past steps clock marks h is may =
      untouched program memory past (record { kind = Up f args; steps = steps; keys = marks; clock = clock }) h tt (λ x. refl) may
      (races_with_none past (next_event memory past t (Up f args) steps marks clock) refl
      (record {
        space = λ x e. absurd (true≢false (sym e));
        constant = λ x e. absurd (true≢false (sym e));
        reading =
            λ x u e r. true≢false (sym e);
        writing = λ x u e r. true≢false (sym e);
      }))
      (taken past marks h.watch is)
  quiet_made (UpRet f v) still program memory past steps clock marks h is may =
      untouched program memory past (record { kind = UpRet f v; steps = steps; keys = marks; clock = clock }) h tt (λ x. refl) may
      (races_with_none past (next_event memory past t (UpRet f v) steps marks clock) refl
      (record {
        space = λ x e. absurd (true≢false (sym e));
        constant = λ x e. absurd (true≢false (sym e));
        reading =
            λ x u e r. true≢false (sym e);
        writing = λ x u e r. true≢false (sym e);
      }))
      (taken past marks h.watch is)
  quiet_made (Stop fault) still program memory past steps clock marks h is may =
      untouched program memory past (record { kind = Stop fault; steps = steps; keys = marks; clock = clock }) h tt (λ x. refl) may
      (races_with_none past (next_event memory past t (Stop fault) steps marks clock) refl
      (record {
        space = λ x e. absurd (true≢false (sym e));
        constant = λ x e. absurd (true≢false (sym e));
        reading =
            λ x u e r. true≢false (sym e);
        writing = λ x u e r. true≢false (sym e);
      }))
      (taken past marks h.watch is)
  quiet_made (Call f args ins outs prepared) still program memory past steps clock marks h is may = absurd still
  quiet_made (Ret f args v s outs commit) still program memory past steps clock marks h is may = absurd still
  quiet_made (Alloc at size) still program memory past steps clock marks h is may = absurd still
  quiet_made (Free at size) still program memory past steps clock marks h is may = absurd still

-- ---- blocks

-- the one key of the pool
abbrev pub pool_key : List Key
pool_key = key Pool 0 ∷ []

pub has_key : (marks : List KeyMark) → map (λ (q : KeyMark). q.key) marks ≡ key Pool 0 ∷ [] → is_listed marks (key Pool 0) ≡ true
has_key [] e = absurd (none e)
  where
    none : ◌≡◌ {A = List Key} [] (key Pool 0 ∷ []) → ⊥
    none e = absurd cc
has_key (q ∷ qs) e =
    let first : q.key ≡ key Pool 0 = cc in
    ap (λ k. same_key k (key Pool 0) || is_listed qs (key Pool 0)) first

granted_some : (addr size : ℕ) → 1 ≤ addr → granted addr size ≡ size
granted_some addr size some = cond-false (eqb addr 0) 0 size (ne_eqb addr 0 (λ e. absurd (omega (arith, e, some))))

-- an Alloc that memory made, and that the watch was told
module _ (old new : MemoryAbove) (t size addr len : ℕ) (between : WatchState)
    (ev : WasTold (Happened (occurrence t (key Pool 0 ∷ []))) old.watch between)
    (acc : WasTold (Accessed t (record { addr = addr; len = len }) true) between new.watch) where
  stands : (program : Program) (memory : ℕ → Byte) (past : List Mark) (steps clock : ℕ) (marks : List KeyMark) →
      StandsForAbove program memory past old → map (λ (q : KeyMark). q.key) marks ≡ key Pool 0 ∷ [] →
      Allowed (replay_rules program (fresh memory)) (fresh memory) past (next_event memory past t (Alloc addr size) steps marks clock) →
      granted addr size ≡ len → addr + len < 2 ^ 64 →
      IsAlloc (fresh memory) past (next_event memory past t (Alloc addr size) steps marks clock) size addr new.spaces →
      StandsForAbove program memory (next_event memory past t (Alloc addr size) steps marks clock ∷ past) new
  stands program memory past steps clock marks h is may grants ends alloc = record {
    goes_well = goes_on program memory past t (Made (record { kind = Alloc addr size; steps = steps; keys = marks; clock = clock })) h.goes_well may
        (race_with_nothing program (fresh memory) past h.goes_well.calm (next_event memory past t (Alloc addr size) steps marks clock) may tt)
        tt refl (λ x z. let p = cover_parts (range addr (granted addr size)) x z in omega (arith, p.1, grants, ends));
    spaces = alloc.mark.stands;
    watch = subst (λ ks. Stands (Accessed t (range addr (granted addr size)) true ∷ Happened (occurrence t ks) ∷ told past) new.watch) (sym is)
        (subst (λ k. Stands (Accessed t (range addr k) true ∷ Happened (occurrence t (key Pool 0 ∷ [])) ∷ told past) new.watch) (sym grants)
        (acc (Happened (occurrence t (key Pool 0 ∷ [])) ∷ told past) (ev (told past) h.watch)));
  }

-- a block that the pool gave
module _ (old : MemoryAbove) (new : SpaceState) (t size addr : ℕ) (g : IsTaken Replay old.spaces new size addr) (memory : ℕ → Byte) (past : List Mark) (h : StandsFor (fresh memory) past old.spaces) where
  in_pool : (replay_pool ≤ addr) × (addr + size ≤ replay_pool + pool_size)
  in_pool =
      let b : old.spaces.sides.replay.pool.base ≡ replay_pool = ap (λ (q : PoolState). q.base) h.pool in
      let z : old.spaces.sides.replay.pool.size ≡ pool_size = ap (λ (q : PoolState). q.size) h.pool in
      (omega (arith, b, g.least.is_place.from_base), omega (arith, b, z, g.least.is_place.in_pool))

  taken_alloc : (steps clock : ℕ) (marks : List KeyMark) → map (λ (q : KeyMark). q.key) marks ≡ key Pool 0 ∷ [] →
      IsAlloc (fresh memory) past (next_event memory past t (Alloc addr size) steps marks clock) size addr new
  taken_alloc steps clock marks is = allocs (fresh memory) past old.spaces new
      (next_event memory past t (Alloc addr size) steps marks clock)
      (record { kind = Alloc addr size; steps = steps; keys = marks; clock = clock }) size addr h g refl refl (has_key marks is)

pub taken_place : (old : MemoryAbove) (new : SpaceState) (t size addr : ℕ) → IsTaken Replay old.spaces new size addr → HasPlace old size addr
taken_place old new t size addr g program memory past h = (taken_alloc old new t size addr g memory past h.spaces 0 0 (record { key = key Pool 0; ticket = 0 } ∷ []) refl).place

pub taken_made : (old new : MemoryAbove) (t size addr : ℕ) (between : WatchState) → IsTaken Replay old.spaces new.spaces size addr →
    WasTold (Happened (occurrence t (key Pool 0 ∷ []))) old.watch between →
    WasTold (Accessed t (record { addr = addr; len = size }) true) between new.watch →
    MakesEvent old t (key Pool 0 ∷ []) (Alloc addr size) new
taken_made old new t size addr between g ev acc program memory past steps clock marks h is may =
    let p = in_pool old new.spaces t size addr g memory past h.spaces in
    stands old new t size addr size between ev acc program memory past steps clock marks h is may (granted_some addr size (omega (arith, p.0))) (omega (arith, p.1))
    (taken_alloc old new.spaces t size addr g memory past h.spaces steps clock marks is)

-- a block that it didn't give
module _ (old : MemoryAbove) (t size : ℕ) (none : (size ≡ 0) ⊎ ((addr : ℕ) → pool.IsPlace old.spaces.sides.replay.pool size addr → ⊥)) where
  refused_alloc : (memory : ℕ → Byte) (past : List Mark) (steps clock : ℕ) (marks : List KeyMark) → StandsFor (fresh memory) past old.spaces →
      IsAlloc (fresh memory) past (next_event memory past t (Alloc 0 size) steps marks clock) size 0 old.spaces
  refused_alloc memory past steps clock marks h = refused_allocs (fresh memory) past old.spaces
      (next_event memory past t (Alloc 0 size) steps marks clock)
      (record { kind = Alloc 0 size; steps = steps; keys = marks; clock = clock }) size h none refl refl

  pub refused_place : HasPlace old size 0
  refused_place program memory past h = (refused_alloc memory past 0 0 [] h.spaces).place

  pub refused_made : (new : MemoryAbove) (between : WatchState) → new.spaces ≡ old.spaces →
      WasTold (Happened (occurrence t (key Pool 0 ∷ []))) old.watch between →
      WasTold (Accessed t (record { addr = 0; len = 0 }) true) between new.watch → MakesEvent old t (key Pool 0 ∷ []) (Alloc 0 size) new
  refused_made new between same ev acc program memory past steps clock marks h is may =
      stands old new t size 0 0 between ev acc program memory past steps clock marks h is may refl (omega arith)
      (subst (IsAlloc (fresh memory) past (next_event memory past t (Alloc 0 size) steps marks clock) size 0) (sym same) (refused_alloc memory past steps clock marks h.spaces))
