-- What is found of a Free that isn't made.
use Rattle.std.proofs.Common.{◌≡◌, ℕ, zero, suc, ◌+◌, ◌^◌, ◌<◌, ◌≤◌, true, false, List, Option, Some, None, Ok, refl, sym, ap, ◌∙◌, subst, arith}
use Rattle.std.specs.Prelude.{is_some, unwrap_or}
use Rattle.std.proofs.lemmas.Bool.{true≢false}
use Rattle.marks.specs.declared.side.Side.TheVariants.{Replay}
use Rattle.marks.specs.Ranges.{covers, range, IsLeastIn}
use Rattle.marks.specs.Places.{pool_size, replay_pool}
use Rattle.marks.specs.Marks.{Mark}
use Rattle.marks.specs.Wants.{Frees}
use Rattle.memory_map.specs.declared.areas.TheConstants.{SYSTEM_MEMORY}
use Rattle.pool_list.specs.Blocks.{PoolState, length_at}
use Rattle.race_watch.specs.Stands.{AnswersBy}
use Rattle.replay_runs.specs.Runs.{Start}
use Rattle.replay_runs.specs.Pool.{blocks}
use Rattle.space_memory_bytes.specs.Areas.{IsDead}
use Rattle.space_memory_access.specs.declared.access.Access.{Access}
use Rattle.space_memory_access.specs.declared.refusal.Refusal.{Refusal}
use Rattle.space_memory_access.specs.declared.refusal.Refusal.TheVariants.{NotLive, Pending, OtherSpace, ReadOnly, StackFull, KeyInUse, NoKey, Size}
use Rattle.space_memory_access.specs.Accesses.{IsAllowed, IsRefused, IsPendingTo}
use Rattle.space_memory.specs.declared.error.HoldError.{HoldError}
use Rattle.space_memory.specs.declared.error.HoldError.TheVariants as hold
use Rattle.space_memory.specs.Blocks.{IsFreeRefused}
use Rattle.recorder_events.specs.Refusals.{refusal_to_hold}
use Rattle.space_memory.specs.Spaces.{SpaceState}
use Rattle.space_memory_laws.specs.StandsFor.{StandsFor}
use Rattle.space_memory_laws.specs.Shown.{by_address}
use Rattle.space_memory_laws.proofs.Blocks.{begins_from, any_is, any_there}
use Rattle.space_memory_laws.proofs.Cells.{below_system, covered}
use Rattle.steps_above_memory.specs.Refusals.{refusal_of}
use Rattle.steps_above_memory.proofs.Freeing.{refused_free, taken_free}
use Rattle.whole_runs.specs.World.{begin, interface, program_of}
use Rattle.whole_runs.specs.Sides.{seen}
use Rattle.recorder_memory.specs.declared.memory.Memory.{Memory}
use Rattle.recorder_memory.specs.Stands.{placed}
use Rattle.recorder_memory.specs.Steps.{Refuses}
use Rattle.recorder_memory.specs.Events.{HasBlock, Takes}
use Rattle.recorder_memory.proofs.Blocks.{block_asks, block_null}

-- a block lies in the pool, and its bytes are live
module _ (s : Start) (past : List Mark) (memory : SpaceState) (h : StandsFor s past memory) (addr len : ℕ) (is : length_at memory.sides.replay.pool.blocks addr ≡ Some len) where
  there : length_at (by_address (blocks s past)) addr ≡ Some len
  there = sym (ap (λ (q : PoolState). length_at q.blocks addr) h.pool) ∙ is

  lies : (replay_pool ≤ addr) × (1 ≤ len) × (addr + len ≤ replay_pool + pool_size)
  lies = begins_from replay_pool (replay_pool + pool_size) (by_address (blocks s past)) addr len h.sound.laid_out there

  no_system : (x : ℕ) → x < addr + len → covers SYSTEM_MEMORY x ≡ true → ⊥
  no_system x below sys = let to = lies.2 in true≢false (sym sys ∙ below_system x (omega (arith, below, to)))

  live : (x : ℕ) → addr ≤ x → x < addr + len → IsDead memory.bytes x → ⊥
  live x from below dead =
      let low = lies.0 in
      let high = lies.2 in
      let in_pool : covers (range replay_pool pool_size) x ≡ true = covered (range replay_pool pool_size) x (omega (arith, from, low)) (omega (arith, below, high)) in
      true≢false (sym (h.sound.blocks_live x in_pool ∙ any_is (blocks s past) x ∙ any_there replay_pool (replay_pool + pool_size) (by_address (blocks s past)) addr len x h.sound.laid_out there (covered (record { addr = addr; len = len }) x from below)) ∙ ap is_some dead)

pub has_block : (memory : Memory) (t addr size : ℕ) → (addr ≡ 0 → ⊥) → length_at memory.above.spaces.sides.replay.pool.blocks addr ≡ Some size → Takes memory t Replay (Frees addr) → HasBlock memory t addr size
has_block memory t zero size some is takes w past to = absurd (some refl)
has_block memory t (suc a) size some is takes w past to = record {
  asks = block_asks (interface w) (begin w) (seen past) memory.above.spaces t a size to.stands.whole.above is (takes w past to);
  null = block_null (interface w) (begin w) (seen past) memory.above.spaces t a size to.stands.whole.above is (takes w past to);
}

module _ (memory : Memory) (t addr size len : ℕ) (small : addr < 2 ^ 64) (some : addr ≡ 0 → ⊥) (own : covers SYSTEM_MEMORY addr ≡ false)
    (is : length_at memory.above.spaces.sides.replay.pool.blocks addr ≡ Some size) (n : len ≡ unwrap_or (length_at memory.above.spaces.sides.replay.pool.blocks addr) 1)
    (answers : AnswersBy memory.above.watch t (record { addr = addr; len = len }) true (Ok tt)) where
  abbrev reading : Access
  reading = record { side = Replay; thread = t; range = record { addr = addr; len = len }; write = false }

  same : len ≡ size
  same = n ∙ ap (λ o. unwrap_or o 1) is

  some_is : {x y : ℕ} → ◌≡◌ {A = Option ℕ} (Some x) (Some y) → x ≡ y
  some_is {x} {y} e = ap (λ o. unwrap_or o 0) e

  fine : IsAllowed memory.above.spaces.bytes memory.above.spaces.held.regions reading → (r : Refusal) → IsFreeRefused Replay memory.above.spaces.sides.replay.pool.blocks memory.above.spaces.held.regions addr r → ⊥
  fine ok (OtherSpace x) p = true≢false (sym p.0 ∙ own)
  fine ok (NotLive x) p = absurd (none (sym p.1 ∙ is))
    where
      none : ◌≡◌ {A = Option ℕ} None (Some size) → ⊥
      none e = absurd cc
  fine ok (Pending x) (q, (k, at, least)) =
      let width : k ≡ len = some_is (sym at ∙ is) ∙ sym same in
      let here : IsLeastIn (record { addr = addr; len = len }) (IsPendingTo Replay memory.above.spaces.held.regions) x = subst (λ j. IsLeastIn (record { addr = addr; len = j }) (IsPendingTo Replay memory.above.spaces.held.regions) x) width least in
      ok.free x here.in_range here.holds
  fine ok (ReadOnly x) p = p
  fine ok (StackFull x) p = p
  fine ok (KeyInUse x) p = p
  fine ok (NoKey x) p = p
  fine ok (Size x) p = p

  pub passes : IsAllowed memory.above.spaces.bytes memory.above.spaces.held.regions reading → Takes memory t Replay (Frees addr)
  passes ok w past to = taken_free memory.above t addr len small some own n answers (fine ok) (program_of w) (placed w) (seen past) to.stands.above to.modes

  pub refuses : (r : Refusal) → IsRefused memory.above.spaces.bytes memory.above.spaces.held.regions reading r → Refuses memory t Replay (Frees addr) (refusal_of r)
  refuses (OtherSpace x) p w past to =
      absurd (no_system (begin w) (seen past) memory.above.spaces to.stands.above.spaces addr size is x (let lt = p.in_range.1 in omega (arith, lt, same)) (covered SYSTEM_MEMORY x p.holds.0 p.holds.1))
  refuses (NotLive x) p w past to =
      absurd (live (begin w) (seen past) memory.above.spaces to.stands.above.spaces addr size is x p.1.in_range.0 (let lt = p.1.in_range.1 in omega (arith, lt, same)) p.1.holds)
  refuses (Pending x) p w past to =
      refused_free memory.above t addr len (Pending x) (refusal_of (Pending x)) small some own n answers
      (own, (size, is, subst (λ j. IsLeastIn (record { addr = addr; len = j }) (IsPendingTo Replay memory.above.spaces.held.regions) x) same p.2)) refl
      (program_of w) (placed w) (seen past) to.stands.above to.modes
  refuses (ReadOnly x) p w past to = absurd p.3.holds
  refuses (StackFull x) p w past to = absurd p
  refuses (KeyInUse x) p w past to = absurd p
  refuses (NoKey x) p w past to = absurd p
  refuses (Size x) p w past to = absurd p

  pub refuses_held : (e : HoldError) → ((r : Refusal) → e ≡ hold.Refused r → IsRefused memory.above.spaces.bytes memory.above.spaces.held.regions reading r) → Refuses memory t Replay (Frees addr) (refusal_to_hold e)
  refuses_held (hold.Refused r) h w past to = refuses r (h r refl) w past to
  refuses_held hold.Memory h w past to = tt
