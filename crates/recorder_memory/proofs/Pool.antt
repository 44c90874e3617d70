-- The pool below the cut.
use Rattle.std.proofs.Common.{◌≡◌, ◌↔◌, ℕ, zero, suc, ◌<◌, [], length, Some, None, Result, Ok, Err, refl, sym, subst, arith}
use Rattle.marks.specs.declared.side.Side.TheVariants.{System}
use Rattle.marks.specs.Marks.{Act, Step}
use Rattle.marks.specs.Bytes.{granted}
use Rattle.marks.specs.Wants.{Steps}
use Rattle.memory_map.specs.declared.areas.TheConstants.{THREADS}
use Rattle.c_code.specs.Machine.{first}
use Rattle.pool_list.specs.Blocks.{length_at, without_block}
use Rattle.space_memory_bytes.specs.Numbers.{FillsWith}
use Rattle.space_memory_access.specs.declared.refusal.Refusal.{Refusal}
use Rattle.space_memory.specs.Sides.{with_blocks}
use Rattle.space_memory.specs.Spaces.{SpaceState, with_side}
use Rattle.space_memory.specs.Blocks.{IsFreeRefused}
use Rattle.replay_runs.specs.Checks.{Passes, Finds}
use Rattle.space_memory_laws.specs.Refusals.{finding_of}
use Rattle.steps_above_memory.specs.declared.refusal.StepRefusal.{StepRefusal}
use Rattle.steps_above_memory.specs.Refusals.{IsFound, refusal_of}
use Rattle.steps_above_memory.proofs.Ranges.{as_found}
use Rattle.steps_above_memory.proofs.Tests.{not_both}
use Rattle.whole_runs.specs.Below.{block_at}
use Rattle.whole_runs.specs.Tests.{free_checks, step_checks, tests}
use Rattle.whole_runs.specs.Steps.{zeros}
use Rattle.whole_runs_memory.specs.Stands.{IsWholeMark}
use Rattle.whole_runs_memory.proofs.PoolBelow as whole
use Rattle.whole_runs_memory.proofs.Refusals.{free}
use Rattle.recorder_memory.specs.declared.memory.Memory.{Memory}
use Rattle.recorder_memory.specs.Steps.{IsMarked, next_mark}
use Rattle.recorder_memory.specs.Below.{GivesBlock, FreesBlock, RefusesFree}
use Rattle.recorder_memory.proofs.Replies.{step_answers}
use Rattle.recorder_memory.proofs.Modes.{step_passes, step_finds}
use Rattle.recorder_memory.proofs.Marking.{below_stands, below_marked, with_spaces}
use Rattle.space_memory_laws.specs.Changes.{IsTaken, GivesNone, IsGivenBack}

-- ---- blocks that are given

module _ (old new : Memory) (size addr : ℕ) (same : new.above.watch ≡ old.above.watch) where
  pub taken_given : IsTaken System old.above.spaces new.above.spaces size addr → GivesBlock old size addr new
  taken_given taken w past t indirect func args b e =
      subst (λ n. IsMarked w past b.to.step (Step func args addr [] (zeros addr (granted addr n)) []) new) e
      (below_marked w past old new t (Steps indirect func args) b.to act refl (step_answers indirect func args addr [] (zeros addr (granted addr (first args))) [])
      mark.agrees
      (step_passes w past t func args indirect b.to.modes (subst (λ o. Passes (step_checks w past t func args o)) (sym b.builtin) tt))
      (below_stands w past old new (next_mark w past t System act) refl b.to.stands same mark.stands))
    where
      act : Act
      act = Step func args addr [] (zeros addr (granted addr (first args))) []

      given : IsTaken System old.above.spaces new.above.spaces (first args) addr
      given = subst (λ n. IsTaken System old.above.spaces new.above.spaces n addr) (sym e) taken

      mark : IsWholeMark w past (Steps indirect func args) (next_mark w past t System act) new.above.spaces
      mark = whole.allocs w past old.above.spaces new.above.spaces (next_mark w past t System act) (Steps indirect func args) func args addr b.to.stands.whole refl b.builtin given refl

pub none_given : (old : Memory) (size : ℕ) → GivesNone System old.above.spaces size → GivesBlock old size 0 old
none_given old size none w past t indirect func args b e =
    subst (λ n. IsMarked w past b.to.step (Step func args 0 [] (zeros 0 (granted 0 n)) []) old) e
    (below_marked w past old old t (Steps indirect func args) b.to act refl (step_answers indirect func args 0 [] (zeros 0 (granted 0 (first args))) [])
    mark.agrees
    (step_passes w past t func args indirect b.to.modes (subst (λ o. Passes (step_checks w past t func args o)) (sym b.builtin) tt))
    (below_stands w past old old (next_mark w past t System act) refl b.to.stands refl mark.stands))
  where
    act : Act
    act = Step func args 0 [] (zeros 0 (granted 0 (first args))) []

    mark : IsWholeMark w past (Steps indirect func args) (next_mark w past t System act) old.above.spaces
    mark = whole.refused_allocs w past old.above.spaces (next_mark w past t System act) (Steps indirect func args) func args b.to.stands.whole refl b.builtin (subst (GivesNone System old.above.spaces) (sym e) none) refl

-- ---- blocks that are freed

-- memory refuses to free the block for this
abbrev pub IsRefusedFree : SpaceState → ℕ → Refusal → Type 0
IsRefusedFree memory addr r = IsFreeRefused System memory.sides.system.pool.blocks memory.held.regions addr r

pub null_freed : (old : Memory) → FreesBlock old 0 old
null_freed old w past t indirect func args b e =
    below_marked w past old old t (Steps indirect func args) b.to act refl (step_answers indirect func args 0 [] [] (block_at 0 past))
    mark.agrees
    (step_passes w past t func args indirect b.to.modes (subst (λ o. Passes (step_checks w past t func args o)) (sym b.builtin) (subst (λ a. Passes (free_checks w past a)) (sym e) tt)))
    (below_stands w past old old (next_mark w past t System act) refl b.to.stands refl mark.stands)
  where
    act : Act
    act = Step func args 0 [] [] (block_at 0 past)

    mark : IsWholeMark w past (Steps indirect func args) (next_mark w past t System act) old.above.spaces
    mark = whole.frees_of_null w past old.above.spaces (next_mark w past t System act) (Steps indirect func args) func args b.to.stands.whole refl b.builtin e refl

module _ (old new : Memory) (addr size : ℕ) (same : new.above.watch ≡ old.above.watch) where
  pub block_freed : 0 < addr → IsGivenBack System old.above.spaces new.above.spaces addr size → ((r : Refusal) → IsRefusedFree old.above.spaces addr r → ⊥) → FreesBlock old addr new
  block_freed some back free' w past t indirect func args b e =
      subst (λ a. IsMarked w past b.to.step (Step func args 0 [] [] (block_at a past)) new) e
      (below_marked w past old new t (Steps indirect func args) b.to act refl (step_answers indirect func args 0 [] [] (block_at (first args) past))
      mark.agrees
      (step_passes w past t func args indirect b.to.modes (subst (λ o. Passes (step_checks w past t func args o)) (sym b.builtin) (subst (λ a. Passes (free_checks w past a)) (sym e) (passes addr some free'))))
      (below_stands w past old new (next_mark w past t System act) refl b.to.stands same mark.stands))
    where
      act : Act
      act = Step func args 0 [] [] (block_at (first args) past)

      given : IsGivenBack System old.above.spaces new.above.spaces (first args) size
      given = subst (λ a. IsGivenBack System old.above.spaces new.above.spaces a size) (sym e) back

      mark : IsWholeMark w past (Steps indirect func args) (next_mark w past t System act) new.above.spaces
      mark = whole.frees w past old.above.spaces new.above.spaces (next_mark w past t System act) (Steps indirect func args) func args size b.to.stands.whole refl b.builtin given refl

      passes : (a : ℕ) → 0 < a → ((r : Refusal) → IsRefusedFree old.above.spaces a r → ⊥) → Passes (free_checks w past a)
      passes zero lt none = absurd (omega (arith, lt))
      passes (suc a) lt none = (free w past old.above.spaces a b.to.stands.whole).passes.1 none

pub free_refused : (old : Memory) (addr : ℕ) (refused : Refusal) (found : StepRefusal) → 0 < addr →
    IsRefusedFree old.above.spaces addr refused → found ≡ refusal_of refused → RefusesFree old addr found
free_refused old addr refused found some p is w past t indirect func args b e =
    subst (IsFound (tests w past t System (Steps indirect func args))) (sym is)
    (as_found (tests w past t System (Steps indirect func args)) refused
    (step_finds w past t func args indirect _ b.to.modes
    (subst (λ o. Finds (step_checks w past t func args o) (finding_of refused)) (sym b.builtin)
    (subst (λ a. Finds (free_checks w past a) (finding_of refused)) (sym e) (finds addr some p)))))
  where
    finds : (a : ℕ) → 0 < a → IsRefusedFree old.above.spaces a refused → Finds (free_checks w past a) (finding_of refused)
    finds zero lt q = absurd (omega (arith, lt))
    finds (suc a) lt q = (free w past old.above.spaces a b.to.stands.whole).of_refused refused q

-- what `free_in` answers
pub freed : (old : Memory) (spaces : SpaceState) (threads : length old.above.watch.rows ≡ THREADS) (addr size : ℕ) (result : Result ℕ Refusal) →
    result ≡ Ok size → (addr ≡ 0 → (result ≡ Ok 0) × (spaces ≡ old.above.spaces)) →
    (0 < addr → length_at old.above.spaces.sides.system.pool.blocks addr ≡ Some size) →
    (0 < addr → spaces.sides ≡ with_side old.above.spaces.sides System (with_blocks old.above.spaces.sides.system (without_block old.above.spaces.sides.system.pool.blocks addr))) →
    FillsWith (record { addr = addr; len = size }) None old.above.spaces.bytes spaces.bytes → spaces.held ≡ old.above.spaces.held →
    ((r : Refusal) → (result ≡ Err r) ↔ ((0 < addr) × IsRefusedFree old.above.spaces addr r)) →
    FreesBlock old addr (record { above = record { spaces = spaces; watch = old.above.watch; threads = threads } })
freed old spaces threads zero size result is null block sides fills held refused = subst (FreesBlock old 0) (sym (with_spaces old spaces threads (null refl).1)) (null_freed old)
freed old spaces threads (suc a) size result is null block sides fills held refused =
    block_freed old (record { above = record { spaces = spaces; watch = old.above.watch; threads = threads } }) (suc a) size refl (omega arith)
    (record { block = block (omega arith); sides = sides (omega arith); dead = fills; held = held })
    (λ r p. not_both result size r is ((refused r).1 (omega arith, p)))
