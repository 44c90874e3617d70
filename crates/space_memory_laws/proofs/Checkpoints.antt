-- Memory looks only at what like runs leave alike.
use Rattle.std.proofs.Common.{◌≡◌, ℕ, ◌+◌, Bool, true, false, cond, eqb, List, [], ◌∷◌, ◌++◌, refl, sym, ap, ◌∙◌, subst}
use Rattle.std.proofs.lemmas.List.{append-nil}
use Rattle.run_events.specs.declared.key.Class.TheVariants.{Pool, Async}
use Rattle.marks.specs.declared.side.Side.TheVariants.{Replay}
use Rattle.marks.specs.Places.{stack, replay_pool, pool_size}
use Rattle.marks.specs.Ranges.{any_range}
use Rattle.marks.specs.Marks.{Mark}
use Rattle.marks.specs.Bytes.{leaves}
use Rattle.pool_list.specs.Blocks.{LieBetween}
use Rattle.replay_runs.specs.Runs.{OfKey, Start, has, marks_of, new_events}
use Rattle.replay_runs.specs.Threads.{frames, frames_after, open_calls, act_calls}
use Rattle.replay_runs.specs.Pool.{act_blocks, blocks_from, act_use, in_use_from}
use Rattle.replay_runs.specs.Keys.{key}
use Rattle.space_memory.specs.Spaces.{SpaceState}
use Rattle.space_memory_laws.specs.Shown.{stack_with, pool_with, by_address}
use Rattle.space_memory_laws.specs.Sound.{AreStacked, IsSound}
use Rattle.space_memory_laws.specs.StandsFor.{HoldsFor, StandsFor}
use Rattle.space_memory_laws.specs.Checkpoints.{LeaveTheSame, LikeRunsShareMemory, LikeRunsGoOnAlike, start_after, HoldWhatIsOpen, CheckpointsShareMemory}

module _ (s c : Start) (past run : List Mark) (memory : SpaceState) (r : LeaveTheSame s past c run) (h : StandsFor s past memory) where
  sound : IsSound c run memory
  sound = record {
    ends = h.sound.ends;
    unheld = h.sound.unheld;
    own = h.sound.own;
    inside = h.sound.inside;
    below = h.sound.below;
    held = h.sound.held;
    stacked = λ t lt. subst (AreStacked (stack Replay t)) (r.stacks t) (h.sound.stacked t lt);
    frames_live = λ t lt x e. h.sound.frames_live t lt x e ∙ ap (λ fs. any_range fs x) (r.stacks t);
    laid_out = subst (λ bs. LieBetween replay_pool (replay_pool + pool_size) (by_address bs)) r.pool h.sound.laid_out;
    blocks_live = λ x e. h.sound.blocks_live x e ∙ ap (λ bs. any_range bs x) r.pool;
  }

  pub stands : StandsFor c run memory
  stands = record {
    bytes = λ x own. ap (λ b. b.cell) (sym (r.bytes x own)) ∙ h.bytes x own;
    begins = λ x own. ap (λ b. b.block) (sym (r.bytes x own)) ∙ h.begins x own;
    stacks = λ t lt. h.stacks t lt ∙ ap (stack_with t) (r.stacks t);
    pool = h.pool ∙ ap pool_with r.pool;
    calls = λ t lt. subst (HoldsFor memory.held t) (r.calls t) (h.calls t lt);
    keys = λ k. h.keys k ∙ r.keys k;
    sound = sound;
  }

pub shared : LikeRunsShareMemory
shared s c past run memory r h = stands s c past run memory r h

-- one mark more, which is one of those that are looked at, or isn't
more : {A : Type 0} (one other : List Mark → A) (step : A → A) (b : Bool) (m : Mark) (past run : List Mark) →
    ((ms : List Mark) → one (m ∷ ms) ≡ step (one ms)) → ((ms : List Mark) → other (m ∷ ms) ≡ step (other ms)) → one past ≡ other run →
    one (cond b (m ∷ past) past) ≡ other (cond b (m ∷ run) run)
more one other step true m past run steps steps' same = steps past ∙ ap step same ∙ sym (steps' run)
more one other step false m past run steps steps' same = same

pub goes_on : LikeRunsGoOnAlike
goes_on s c past run [] r = r
goes_on s c past run (m ∷ later) r =
    let q = goes_on s c past run later r in
    let p : List Mark = later ++ past in
    let n : List Mark = later ++ run in
    record {
      bytes = λ x own. ap (leaves m.act x) (q.bytes x own);
      stacks = λ t. more frames frames (frames_after m.act) (eqb m.thread t) m (marks_of s t p) (marks_of c t n) (λ ms. refl) (λ ms. refl) (q.stacks t);
      calls = λ t. more open_calls open_calls (act_calls m.act) (eqb m.thread t) m (marks_of s t p) (marks_of c t n) (λ ms. refl) (λ ms. refl) (q.calls t);
      pool =
          let l = OfKey (key Pool 0) in
          more (blocks_from s.blocks) (blocks_from c.blocks) (act_blocks m.act) (has m l) m (new_events l p) (new_events l n) (λ ms. refl) (λ ms. refl) q.pool;
      keys = λ k.
          let l = OfKey (key Async k) in
          more (in_use_from k (s.in_use k)) (in_use_from k (c.in_use k)) (act_use k m.act) (has m l) m (new_events l p) (new_events l n) (λ ms. refl) (λ ms. refl) (q.keys k);
    }

-- a run and the start that it leaves
left : (s : Start) (past : List Mark) (parts : ℕ → List Mark) → HoldWhatIsOpen s past parts → (later : List Mark) → LeaveTheSame s (later ++ past) (start_after s past parts) later
left s past parts begun later =
    let c = start_after s past parts in
    let here : LeaveTheSame s past c [] = record {
      bytes = λ x own. refl;
      stacks = λ t. sym (begun.stacks t);
      calls = λ t. sym (begun.calls t);
      pool = refl;
      keys = λ k. refl;
    } in
    subst (λ run. LeaveTheSame s (later ++ past) c run) (append-nil later) (goes_on s c past [] later here)

turned : (s c : Start) (past run : List Mark) → LeaveTheSame s past c run → LeaveTheSame c run s past
turned s c past run r = record {
  bytes = λ x own. sym (r.bytes x own);
  stacks = λ t. sym (r.stacks t);
  calls = λ t. sym (r.calls t);
  pool = sym r.pool;
  keys = λ k. sym (r.keys k);
}

pub checkpoints : CheckpointsShareMemory
checkpoints s past parts begun later memory =
    let c = start_after s past parts in
    let same = left s past parts begun later in (
      stands s c (later ++ past) later memory same,
      stands c s later (later ++ past) memory (turned s c (later ++ past) later same),
    )
