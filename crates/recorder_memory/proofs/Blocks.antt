-- What memory says of a block that is freed above the cut.
use Rattle.std.proofs.Common.{◌≡◌, inl, inr, ℕ, zero, suc, true, false, cond, eqb, List, Some, refl, sym, ap, ◌∙◌, subst, arith}
use Rattle.std.specs.Prelude.{unwrap_or}
use Rattle.std.proofs.lemmas.Bool.{cases_Bool, cond-false, ne_eqb, true≢false}
use Rattle.marks.specs.declared.side.Side.TheVariants.{Replay}
use Rattle.marks.specs.Places.{is_system}
use Rattle.marks.specs.Ranges.{range, covers, within}
use Rattle.marks.specs.Marks.{Free, Mark}
use Rattle.marks.specs.Bytes.{Cell, Dead, Live, Held, IsLive, IsHeld, EventAsks}
use Rattle.marks.specs.Wants.{Frees}
use Rattle.pool_list.specs.Blocks.{length_at}
use Rattle.space_memory.specs.Spaces.{SpaceState}
use Rattle.space_memory_laws.specs.StandsFor.{StandsFor}
use Rattle.space_memory_laws.proofs.Cells.{cover_cases, covered}
use Rattle.space_memory_laws.proofs.Rooms.{freed_some}
use Rattle.replay_runs.specs.Runs.{Start, byte}
use Rattle.replay_runs.specs.Interface.{Interface}
use Rattle.replay_runs.specs.Checks.{Passes, checks, freed_range}
use Rattle.steps_above_memory.specs.Spaces.{IsFreed}
use Rattle.whole_runs.specs.World.{begin, interface}
use Rattle.whole_runs.specs.Sides.{seen}
use Rattle.recorder_memory.specs.declared.memory.Memory.{Memory}
use Rattle.recorder_memory.specs.Events.{IsBlock, HasBlock, Takes}

live : (c : Cell) → (c ≡ Dead → ⊥) → (IsHeld c → ⊥) → IsLive c
live Dead not_dead not_held = absurd (not_dead refl)
live (Live v) not_dead not_held = tt
live (Held v) not_dead not_held = absurd (not_held tt)

module _ (i : Interface) (s : Start) (past : List Mark) (memory : SpaceState) (t a size : ℕ) (h : StandsFor s past memory)
    (block : length_at memory.sides.replay.pool.blocks (suc a) ≡ Some size) (passes : Passes (checks i s past t (Frees (suc a)))) where
  abbrev n : ℕ
  n = (byte s (suc a) past).block

  own : is_system (suc a) ≡ false
  own = elim (cases_Bool (is_system (suc a))) [
    | inr not ↦ not
    | inl is ↦ (let some = freed_some n in absurd (passes.0 (suc a) (covered (freed_range (suc a) n) (suc a) (omega arith) (omega (arith, some)), is)))
  ]

  size_is : n ≡ size
  size_is = h.begins (suc a) own ∙ ap (λ o. unwrap_or o 0) block

  some : size ≡ 0 → ⊥
  some e = passes.1.1.0 (suc a) (refl, size_is ∙ e)

  range_is : freed_range (suc a) n ≡ range (suc a) size
  range_is = ap (λ k. range (suc a) (cond (eqb k 0) 1 k)) size_is ∙ ap (range (suc a)) (cond-false (eqb size 0) 1 size (ne_eqb size 0 some))

  pub block_asks : (x : ℕ) → EventAsks (Free (suc a) size) x (byte s x past)
  block_asks x in' =
      let there : covers (freed_range (suc a) n) x ≡ true = ap (λ r. covers r x) range_is ∙ in' in
      (live (byte s x past).cell (λ dead. passes.1.1.1.0 x (there, dead)) (λ held. passes.1.1.1.1.0 x (there, inl held)), λ e. ap (λ y. (byte s y past).block) e ∙ size_is)

  pub block_null : eqb (suc a) 0 ≡ eqb size 0
  block_null = ne_eqb (suc a) 0 (λ e. absurd (omega (arith, e))) ∙ sym (ne_eqb size 0 some)

null_asks : (x : ℕ) → within 0 0 x ≡ true → ⊥
null_asks x e = elim (cover_cases (range 0 0) x) [ inl in' ↦ absurd (omega (arith, in'.below)) | inr out ↦ true≢false (sym e ∙ out.is) ]

pub block_there : (old : Memory) (spaces : SpaceState) (t addr size : ℕ) → IsFreed old.above.spaces spaces addr size → Takes old t Replay (Frees addr) → HasBlock old t addr size
block_there old spaces t zero size (inl g) takes w past to = absurd (omega (arith, g.some))
block_there old spaces t (suc a) size (inl g) takes w past to =
    record {
      asks = block_asks (interface w) (begin w) (seen past) old.above.spaces t a size to.stands.whole.above g.back.block (takes w past to);
      null = block_null (interface w) (begin w) (seen past) old.above.spaces t a size to.stands.whole.above g.back.block (takes w past to);
    }
block_there old spaces t addr size (inr g) takes w past to =
    subst (λ n. IsBlock w past n size) (sym g.addr_is) (subst (λ n. IsBlock w past 0 n) (sym g.size_is) (record { asks = λ x e. absurd (null_asks x e); null = refl }))
