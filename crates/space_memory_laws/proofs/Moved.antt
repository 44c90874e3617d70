-- A mark that leaves frames, calls, blocks and keys, over memory of which the bytes alone change.
use Rattle.std.proofs.Common.{◌≡◌, ℕ, ◌+◌, false, List, ◌∷◌, is_some, ap, sym, ◌∙◌, subst}
use Rattle.std.specs.Prelude.{option_map, unwrap_or}
use Rattle.marks.specs.declared.side.Side.TheVariants.{Replay}
use Rattle.marks.specs.Places.{stack, replay_pool, pool_size, is_system}
use Rattle.marks.specs.Ranges.{any_range}
use Rattle.marks.specs.Marks.{Mark}
use Rattle.space_memory_bytes.specs.Areas.{byte_at}
use Rattle.space_memory.specs.StackFrames.{stack_of}
use Rattle.pool_list.specs.Blocks.{length_at, LieBetween}
use Rattle.space_memory_access.specs.declared.holder.Region.{Region}
use Rattle.space_memory_access.specs.Held.{HeldState, prepared_region}
use Rattle.space_memory.specs.declared.sides.Sides.{Sides}
use Rattle.space_memory.specs.Spaces.{SpaceState}
use Rattle.replay_runs.specs.Runs.{Start, marks_of, byte}
use Rattle.replay_runs.specs.Threads.{open_calls}
use Rattle.space_memory_laws.specs.Shown.{value_when_held, cell_of, stack_with, pool_with, by_address}
use Rattle.space_memory_laws.specs.Held.{AreHeld}
use Rattle.space_memory_laws.specs.Sound.{AreStacked, IsBelow, IsSound}
use Rattle.space_memory_laws.specs.StandsFor.{HoldsFor, StandsFor}
use Rattle.space_memory_laws.proofs.Backs.{LeavesBacks}
use Rattle.space_memory_laws.proofs.Cells.{dead_as}

pub sound_moved : (s : Start) (m : Mark) (past : List Mark) (old new : SpaceState) → LeavesBacks s m past → new.held ≡ old.held →
    new.sides.system ≡ old.sides.system → ((x : ℕ) → is_some (byte_at new.bytes x) ≡ is_some (byte_at old.bytes x)) → IsSound s past old →
    IsSound s (m ∷ past) new
sound_moved s m past old new leaves held system lives sound = record {
  ends = λ x last. dead_as (lives x) (sound.ends x last);
  unheld = λ x dead. ap (λ (k : HeldState). value_when_held k.regions x) held ∙ sound.unheld x (dead_as (sym (lives x)) dead);
  own = λ x is. ap (λ (k : HeldState). value_when_held k.regions x) held ∙ sound.own x is;
  inside = λ x a b c. dead_as (lives x) (sound.inside x a b c);
  below = subst IsBelow (sym system) sound.below;
  held = subst AreHeld (sym held) sound.held;
  stacked = λ t lt. subst (AreStacked (stack Replay t)) (sym (leaves.frames t)) (sound.stacked t lt);
  frames_live = λ t lt x is. lives x ∙ sound.frames_live t lt x is ∙ ap (λ fs. any_range fs x) (sym (leaves.frames t));
  laid_out = subst (λ bs. LieBetween replay_pool (replay_pool + pool_size) (by_address bs)) (sym leaves.blocks) sound.laid_out;
  blocks_live = λ x is. lives x ∙ sound.blocks_live x is ∙ ap (λ bs. any_range bs x) (sym leaves.blocks);
}

pub moved : (s : Start) (m : Mark) (past : List Mark) (old new : SpaceState) → StandsFor s past old → LeavesBacks s m past →
    new.held ≡ old.held → new.sides ≡ old.sides →
    ((x : ℕ) → is_system x ≡ false → (byte s x (m ∷ past)).cell ≡ cell_of (byte_at new.bytes x) (value_when_held old.held.regions x)) →
    ((x : ℕ) → (byte s x (m ∷ past)).block ≡ (byte s x past).block) →
    ((x : ℕ) → is_some (byte_at new.bytes x) ≡ is_some (byte_at old.bytes x)) → StandsFor s (m ∷ past) new
moved s m past old new h leaves held sides bytes block lives = record {
  bytes = λ x own. bytes x own ∙ ap (λ (k : HeldState). cell_of (byte_at new.bytes x) (value_when_held k.regions x)) (sym held);
  begins = λ x own. block x ∙ h.begins x own ∙ ap (λ (k : Sides). unwrap_or (length_at k.replay.pool.blocks x) 0) (sym sides);
  stacks = λ t lt. ap (λ (k : Sides). stack_of k.replay.stacks t) sides ∙ h.stacks t lt ∙ ap (stack_with t) (sym (leaves.frames t));
  pool = ap (λ (k : Sides). k.replay.pool) sides ∙ h.pool ∙ ap pool_with (sym leaves.blocks);
  calls = λ t lt. subst (λ cs. HoldsFor new.held t cs) (sym (leaves.calls t)) (subst (λ k. HoldsFor k t (open_calls (marks_of s t past))) (sym held) (h.calls t lt));
  keys = λ k. ap (λ (q : HeldState). option_map (λ (r : Region). r.range) (prepared_region q.regions k)) held ∙ h.keys k ∙ sym (leaves.keys k);
  sound = sound_moved s m past old new leaves held (ap (λ (k : Sides). k.system) sides) lives h.sound;
}
