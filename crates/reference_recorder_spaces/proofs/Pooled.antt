-- Blocks that the pool gives, and those that are freed.
use Rattle.std.proofs.Common.{◌≡◌, ℕ, ◌<◌, Bool, true, false, cond, ◌||◌, List, [], ◌∷◌, eqb, eqb-true, inl, inr, refl, ap, sym, ◌∙◌, subst, arith}
use Rattle.std.specs.Prelude.{unwrap_or}
use Rattle.std.proofs.lemmas.Bool.{cases_eq, cond-false, eq-eqb, ne_eqb, true≢false}
use Rattle.run_events.specs.declared.key.Class.TheVariants.{Pool}
use Rattle.marks.specs.declared.side.Side.TheVariants.{Replay}
use Rattle.marks.specs.Places.{replay_pool, is_system}
use Rattle.marks.specs.Ranges.{covers, within}
use Rattle.marks.specs.Marks.{Alloc, Event, EventKind, Free, Made, Mark}
use Rattle.marks.specs.Bytes.{Asks, Cell, Dead, EventAsks, Live, cell_after, event_leaves, event_reads, event_writes, granted, touches}
use Rattle.space_memory_access.specs.declared.refusal.Refusal.{Refusal}
use Rattle.space_memory_access.specs.declared.refusal.Refusal.TheVariants.{NotLive, Pending, OtherSpace, ReadOnly, StackFull, KeyInUse, NoKey, Size}
use Rattle.replay_runs.specs.Runs.{OfKey, Start, byte, has, keys_of, is_listed, marks_of, new_events}
use Rattle.replay_runs.specs.Keys.{key, keys_for, sorted_keys}
use Rattle.replay_runs.specs.Pool.{IsPlace, blocks}
use Rattle.replay_runs.specs.Rules.{Carries, EventCarries, HasKeys, SharedAct, SharedEvent}
use Rattle.replay_runs.proofs.Blocks.{one_place}
use Rattle.replay_runs.proofs.Keys.{listed_last}
use Rattle.space_memory.specs.Spaces.{SpaceState, side_of}
use Rattle.space_memory.specs.Blocks.{IsFreeRefused}
use Rattle.space_memory_laws.specs.Changes.{GivesNone, IsGivenBack, IsTaken}
use Rattle.space_memory_laws.specs.StandsFor.{StandsFor}
use Rattle.space_memory_laws.proofs.Cells.{covered}
use Rattle.space_memory_laws.proofs.Pool as memory
use Rattle.space_memory_laws.proofs.Regions.{some_none}
use Rattle.reference_recorder_spaces.specs.Next.{IsNext, IsUntouched}
use Rattle.reference_recorder_spaces.proofs.Allowed.{not_pending}
use Rattle.reference_recorder_spaces.proofs.Same.{plain_is}
use Rattle.reference_recorder_spaces.proofs.Untouched.{stays_outside}

module _ (old : SpaceState) (t : ℕ) (e : Event) (n : IsNext old t (Made e)) where
  abbrev s : Start
  s = n.start

  abbrev mine : List Mark
  mine = marks_of n.start n.mark.thread n.past

  pub made : n.mark.act ≡ Made e
  made = plain_is n.mark.act (Made e) n.same tt

  -- what it leaves of a byte
  leaves_cell : (k : EventKind) (x : ℕ) → e.kind ≡ k → cell_after n.mark.act x (byte s x n.past).cell ≡ event_leaves k x (byte s x n.past).cell
  leaves_cell k x kind = ap (λ a. cell_after a x (byte s x n.past).cell) made ∙ ap (λ q. event_leaves q x (byte s x n.past).cell) kind

  -- an event of the pool has its key
  module _ (k : EventKind) (kind : e.kind ≡ k) (keyed : keys_for n.program.interface n.mark.thread mine k ≡ key Pool 0 ∷ []) where
    listed : is_listed e.keys (key Pool 0) ≡ true
    listed = listed_last e.keys [] (key Pool 0)
        (subst (HasKeys n.program.interface n.mark.thread mine) made n.allowed.own.keys ∙ ap (λ q. sorted_keys (keys_for n.program.interface n.mark.thread mine q)) kind ∙ ap sorted_keys keyed)

    has_pool : has n.mark (OfKey (key Pool 0)) ≡ true
    has_pool = ap (λ a. is_listed (keys_of a) (key Pool 0)) made ∙ listed

    shared : SharedEvent n.program.interface s Pool 0 (new_events (OfKey (key Pool 0)) n.past) k
    shared = subst (SharedEvent n.program.interface s Pool 0 (new_events (OfKey (key Pool 0)) n.past)) kind
        (subst (SharedAct n.program.interface s (key Pool 0) (new_events (OfKey (key Pool 0)) n.past)) made (n.allowed.shared (OfKey (key Pool 0)) has_pool))

  module _ (at size : ℕ) (kind : e.kind ≡ Alloc at size) where
    place : IsPlace replay_pool (blocks s n.past) size at
    place = shared (Alloc at size) kind refl

    -- with another address
    abbrev event_at : ℕ → Event
    event_at x = record e { kind = Alloc x size }

    abbrev mark_at : ℕ → Mark
    mark_at x = record n.mark { act = Made (event_at x) }

    pub takes : (new : SpaceState) (addr : ℕ) → IsTaken Replay old new size addr → StandsFor n.start (n.mark ∷ n.past) new × IsUntouched new
    takes new addr k =
        let there = memory.allocs s n.past old new (mark_at addr) (event_at addr) size addr n.stands k refl refl (listed (Alloc at size) kind refl) in
        let same : at ≡ addr = one_place replay_pool (blocks s n.past) size at addr place there.place in
        let is : e.kind ≡ Alloc addr size = kind ∙ ap (λ x. Alloc x size) same in
        let stands = (memory.allocs s n.past old new n.mark e size addr n.stands k made is (has_pool (Alloc at size) kind refl)).mark.stands in
        let some = k.some in
        let first : addr ≡ 0 → covers (record { addr = addr; len = size }) 0 ≡ true = λ z. covered (record { addr = addr; len = size }) 0 (omega (arith, z)) (omega (arith, z, some)) in
        let whole : granted addr size ≡ size = cond-false (eqb addr 0) 0 size (ne_eqb addr 0 (λ z. some_none 0 (sym (k.fills.filled 0 (first z)) ∙ stands.sound.inside 0 refl refl refl))) in
        let cell : ℕ → Cell = λ x. Live 0 in (
          stands,
          stays_outside s n.past n.mark old new n.stands n.untouched stands (record { addr = addr; len = size }) cell (λ x held. held)
              (λ x. leaves_cell (Alloc addr size) x is ∙ ap (λ m. cond (within addr m x) (Live 0) (byte s x n.past).cell) whole) k.fills.others.bytes,
        )

    pub takes_none : (new : SpaceState) → new ≡ old → GivesNone Replay old size → StandsFor n.start (n.mark ∷ n.past) new × IsUntouched new
    takes_none new still k =
        let there = memory.refused_allocs s n.past old (mark_at 0) (event_at 0) size n.stands k refl refl in
        let same : at ≡ 0 = one_place replay_pool (blocks s n.past) size at 0 place there.place in
        subst (λ q. StandsFor s (n.mark ∷ n.past) q × IsUntouched q) (sym still)
        ((memory.refused_allocs s n.past old n.mark e size n.stands k made (kind ∙ ap (λ x. Alloc x size) same)).mark.stands, n.untouched)

  module _ (at size : ℕ) (kind : e.kind ≡ Free at size) where
    both_none : eqb at 0 ≡ eqb size 0
    both_none = subst (EventCarries n.program.interface s n.mark.thread mine) kind (subst (λ a. Carries n.program.interface s n.mark.thread mine (n.program.want n.mark.thread mine) a) made n.allowed.own.carries)

    pub frees_null : (new : SpaceState) → at ≡ 0 → new ≡ old → StandsFor n.start (n.mark ∷ n.past) new × IsUntouched new
    frees_null new null still =
        let none : size ≡ 0 = eqb-true size 0 (sym both_none ∙ eq-eqb at 0 null) in
        subst (λ q. StandsFor s (n.mark ∷ n.past) q × IsUntouched q) (sym still)
        ((memory.frees_of_null s n.past old n.mark e n.stands made (kind ∙ λ i. Free (null i) (none i))).stands, n.untouched)

    asks : (x : ℕ) → EventAsks (Free at size) x (byte s x n.past)
    asks x = subst (λ k. EventAsks k x (byte s x n.past)) kind (subst (λ a. Asks a (λ x. byte s x n.past)) made n.allowed.bytes x)

    module _ (some : 0 < at) where
      some_size : 0 < size
      some_size = elim (cases_eq size 0) [
        | inl z ↦ absurd (true≢false (sym (both_none ∙ eq-eqb size 0 z) ∙ ne_eqb at 0 (λ w. omega (arith, w, some))))
        | inr ne ↦ omega (arith, ne)
      ]

      first : within at size at ≡ true
      first = covered (record { addr = at; len = size }) at (omega arith) (omega (arith, some_size))

      touched : (x : ℕ) → within at size x ≡ true → touches n.mark.act x ≡ true
      touched x c = ap (λ a. touches a x) made ∙ ap (λ k. event_reads k x || event_writes k x) kind ∙ or_true (event_reads (Free at size) x) c
        where
          or_true : (a : Bool) {b : Bool} → b ≡ true → (a || b) ≡ true
          or_true true e = refl
          or_true false e = e

      own : is_system at ≡ false
      own = n.allowed.own.other_space at (touched at first)

      -- such a block isn't refused
      pub may_free : (r : Refusal) → IsFreeRefused Replay (side_of old.sides Replay).pool.blocks old.held.regions at r → ⊥
      may_free (OtherSpace x) p = true≢false (sym p.0 ∙ own)
      may_free (NotLive x) p = let z : size ≡ 0 = sym ((asks at first).1 refl) ∙ n.stands.begins at own ∙ ap (λ o. unwrap_or o 0) p.1 in omega (arith, z, some_size)
      may_free (Pending x) p =
          let least = p.1.2 in
          let z : size ≡ p.1.0 = sym ((asks at first).1 refl) ∙ n.stands.begins at own ∙ ap (λ o. unwrap_or o 0) p.1.1 in
          let c : within at size x ≡ true = covered (record { addr = at; len = size }) x least.in_range.0 (let to = least.in_range.1 in omega (arith, to, z)) in
          not_pending s n.past old n.stands x (n.allowed.own.other_space x (touched x c)) (asks x c).0 least.holds
      may_free (ReadOnly x) p = p
      may_free (StackFull x) p = p
      may_free (KeyInUse x) p = p
      may_free (NoKey x) p = p
      may_free (Size x) p = p

      pub frees : (new : SpaceState) (len : ℕ) → IsGivenBack Replay old new at len →
          ((r : Refusal) → IsFreeRefused Replay (side_of old.sides Replay).pool.blocks old.held.regions at r → ⊥) → StandsFor n.start (n.mark ∷ n.past) new × IsUntouched new
      frees new len k free =
          let size_is : size ≡ len = sym ((asks at first).1 refl) ∙ n.stands.begins at own ∙ ap (λ o. unwrap_or o 0) k.block in
          let is : e.kind ≡ Free at len = kind ∙ ap (λ z. Free at z) size_is in
          let stands = (memory.frees s n.past old new n.mark e at len n.stands k free made is (has_pool (Free at size) kind refl)).stands in
          let cell : ℕ → Cell = λ x. Dead in
          (stands, stays_outside s n.past n.mark old new n.stands n.untouched stands (record { addr = at; len = len }) cell (λ x held. held) (λ x. leaves_cell (Free at len) x is) k.dead.others.bytes)
