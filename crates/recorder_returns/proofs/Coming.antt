-- A Ret that comes next, with the bytes that memory shows, can be the step that its thread makes.
use Rattle.std.proofs.Common.{◌≡◌, ℕ, Bool, ◌&&◌, List, ◌++◌, length, Option, sym, ap, ◌∙◌, subst}
use Rattle.std.specs.Prelude.{is_some}
use Rattle.std.proofs.lemmas.List.{length-map}
use Rattle.run_events.specs.declared.key.Class.{Class}
use Rattle.run_events.specs.declared.key.Class.TheVariants.{Mutex, User, Callback, Thread, Pool, Out, Async}
use Rattle.marks.specs.Ranges.{Piece, piece_bytes, piece_ranges}
use Rattle.marks.specs.Marks.{Commit, EventKind, Mark, Ret, logged, released}
use Rattle.marks.specs.Opens.{open_calls}
use Rattle.marks.specs.Wants.{Answer}
use Rattle.replay_runs.specs.Interface.{Interface}
use Rattle.replay_runs.specs.Pool.{in_use}
use Rattle.replay_runs.specs.Rules.{AreUsed, Closes, SharedEvent}
use Rattle.replay_runs.specs.Runs.{OfKey, new_events}
use Rattle.replay_runs.specs.Threads.{last_return, same_return}
use Rattle.space_memory_access.specs.declared.holder.Region.{Region}
use Rattle.space_memory_access.specs.Held.{innermost}
use Rattle.space_memory.specs.Releases.{committed, committed_size, outs_of}
use Rattle.space_memory.specs.Spaces.{SpaceState}
use Rattle.space_memory_laws.specs.Returns.{AreUsedSizes}
use Rattle.whole_runs.specs.World.{World, begin, interface}
use Rattle.whole_runs.specs.Sides.{seen}
use Rattle.whole_runs.specs.Below.{pieces_for, targets}
use Rattle.marks.specs.declared.side.Side.TheVariants.{Replay}
use Rattle.whole_runs_memory.specs.Rets.{IsRetAllowed}
use Rattle.whole_runs_memory.proofs.RetChecks.{rets}
use Rattle.whole_runs_memory.proofs.Rets.{brings}
use Rattle.recorder_memory.specs.Laws.{HoldsCall}
use Rattle.recorder_memory.proofs.Quiet.{calls_held}
use Rattle.recorder_threads.specs.Threads.{args_at}
use Rattle.recorder_state.specs.declared.state.RunState.{RunState}
use Rattle.recorder_events.specs.Making.{CanBe, own_above}
use Rattle.recorder_returns.specs.Bringing.{BringsUp, committing_of}
use Rattle.recorder_returns.specs.Coming.{IsReturning}
use Rattle.recorder_returns.proofs.Committed.{commits_so, releases}
use Rattle.recorder_returns.proofs.Pieces.{are_used, ranges_of}
use Rattle.recorder_returns.proofs.Said.{sizes_count}

module _ (w : World) (s : RunState) (t f v : ℕ) (x : Answer) (r : IsReturning w s t f v x) where
  abbrev pub past : List Mark
  past = r.past

  abbrev pub args : List ℕ
  args = args_at s.threads t

  abbrev pub i : Interface
  i = interface w

  abbrev pub spaces : SpaceState
  spaces = s.memory.above.spaces

  abbrev pub used : List ℕ
  used = i.used f args v

  abbrev pub committing : Option (ℕ × ℕ)
  committing = committing_of (i.commits f args v)

  -- memory knows the call and its regions
  pub holds : HoldsCall s.memory r.step.thread (i.outs f args)
  holds = calls_held w past s.memory r.step.thread f args (i.outs f args) r.answered.above r.ending.thread r.ending.closes

  -- and takes its release
  pub allowed : IsRetAllowed spaces r.step.thread used committing
  allowed = (rets w past spaces r.step.thread f args v used committing r.answer r.answered.step r.answered.fits r.ending).passes.0 r.passes

  module _ (up : List Piece) (commit : Commit) (b : BringsUp w spaces f args v up commit) (same : Bool)
      (repeats : same ≡ (i.is_cached f && same_return (last_return ((begin w).returned r.step.thread f) f (own_above w r.step.thread past)) (record { result = v; bytes = piece_bytes up ++ logged commit }))) where
    abbrev pub kind : EventKind
    kind = Ret f args v same up commit

    abbrev gs : List Region
    gs = outs_of (innermost spaces.held r.step.thread) spaces.held.regions

    ranges : ranges_of gs ≡ piece_ranges up
    ranges = holds.regions ∙ sym b.outs_are

    sizes : AreUsedSizes (piece_ranges up) used used
    sizes = subst (λ rs. AreUsedSizes rs used used) (sym b.outs_are) r.ending.sizes

    used_so : AreUsed used up
    used_so = are_used spaces.bytes gs (committed spaces.held.regions committing) up (released commit) used (committed_size committing) ranges b.shows allowed.1 sizes b.bytes

    count : length used ≡ length up
    count = sizes_count (piece_ranges up) used used sizes ∙ length-map up (λ (p : Piece). p.range)

    shared_by : (c : Class) (n : ℕ) → SharedEvent i (begin w) c n (new_events (OfKey (record { class = c; value = n })) (seen past)) kind
    shared_by Mutex n = tt
    shared_by User n = tt
    shared_by Callback n = tt
    shared_by Thread n = tt
    shared_by Pool n = tt
    shared_by Out n = tt
    shared_by Async n = releases spaces.held.regions commit n (in_use (begin w) n (seen past)) (r.answered.step.stands.above.keys n) (i.commits f args v) b.commit_is

    pub can_be : CanBe w past r.step kind
    can_be = record {
      answers = ap is_some (r.wanted.answers same up commit);
      agrees = r.wanted.brings (up ++ released commit)
          (brings w past spaces (pieces_for (targets w Replay past f args v) r.answer) (up ++ released commit) (used ++ committed_size committing) r.answered.step b.shows);
      carries = record {
        closes = subst (λ rs. Closes (open_calls (own_above w r.step.thread past)) f args rs) (sym b.outs_are) r.ending.closes;
        result_is = r.of_interface.gives;
        used = used_so;
        committed = commits_so spaces gs up used commit ranges count (i.commits f args v) b.commit_is b.shows allowed.1 b.bytes;
        repeats = repeats;
      };
      shared = λ k among. shared_by k.class k.value;
      bytes = λ n. tt;
      passes = r.tested;
    }
