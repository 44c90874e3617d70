-- Calls that are made.
use Rattle.std.proofs.Common.{◌≡◌, ℕ, true, List, ◌∷◌, length, sym, ap, ◌∙◌, subst}
use Rattle.run_events.specs.declared.key.Class.TheVariants.{Async}
use Rattle.run_events.specs.declared.key.Key.{Key}
use Rattle.marks.specs.declared.side.Side.TheVariants.{Replay}
use Rattle.marks.specs.Ranges.{piece_ranges}
use Rattle.marks.specs.Marks.{EventKind, Call}
use Rattle.memory_map.specs.declared.areas.TheConstants.{THREADS}
use Rattle.race_watch.specs.State.{WatchState}
use Rattle.std.proofs.Math.Nat.{ℕ_set}
use Rattle.replay_runs.specs.Runs.{OfKey, Allowed, has}
use Rattle.replay_runs.specs.Keys.{key}
use Rattle.replay_runs.specs.Pool.{prepares_key}
use Rattle.replay_runs.specs.Rules.{replay_rules}
use Rattle.space_memory_laws.specs.Calls.{InCall, parts_of}
use Rattle.steps_above_memory.specs.declared.above.MemoryAbove.{MemoryAbove}
use Rattle.steps_above_memory.specs.declared.parts.CallRegions.{CallRegions}
use Rattle.steps_above_memory.specs.Above.{StandsForAbove}
use Rattle.steps_above_memory.specs.Calls as above
use Rattle.steps_above_memory.proofs.Called.{has_keys}
use Rattle.whole_runs.specs.World.{begin, program_of}
use Rattle.whole_runs.specs.Sides.{seen}
use Rattle.whole_runs_memory.specs.Stands.{StandsForWhole}
use Rattle.whole_runs_memory.proofs.Above as whole
use Rattle.whole_runs_memory.proofs.Seen.{seen_above}
use Rattle.recorder_memory.specs.declared.memory.Memory.{Memory}
use Rattle.recorder_memory.specs.Stands.{placed}
use Rattle.recorder_memory.specs.Calls.{LeavesAll, MakesCall}
use Rattle.recorder_memory.proofs.Events.{stands_above, allowed, mark_is, made_mark}

pub call_made : (old new : Memory) (t : ℕ) (regions : CallRegions) (keys : List Key) → above.MakesCall old.above t regions keys new.above →
    above.HasParts old.above t (parts_of regions.ins.now regions.outs.now (above.prepares regions)) new.above.spaces →
    MakesCall old t regions keys new
call_made old new t regions keys makes parts w past m stands c = record { whole = whole'; above = seen' }
  where
    kind : EventKind
    kind = Call c.func c.args c.read regions.outs.now (above.prepares regions)

    side : m.side ≡ Replay
    side = stands_above w past t keys kind m c.next

    may : Allowed (replay_rules (program_of w) (begin w)) (begin w) (seen past) (made_mark w past t keys kind m c.next)
    may = subst (Allowed (replay_rules (program_of w) (begin w)) (begin w) (seen past)) (mark_is w past t keys kind m c.next) (allowed w past t keys kind m c.next)

    listed : (k : ℕ) → prepares_key (above.prepares regions) k ≡ true → has m (OfKey (key Async k)) ≡ true
    listed k e = subst (λ q. has q (OfKey (key Async k)) ≡ true) (sym (mark_is w past t keys kind m c.next))
        (has_keys (program_of w) (placed w) (seen past) t c.func c.args c.read regions.outs.now (above.prepares regions) c.next.event.keys may.own.keys k e)

    call : InCall (begin w) (seen past) m.thread (parts_of (piece_ranges c.read) regions.outs.now (above.prepares regions)) old.above.spaces new.above.spaces
    call = subst (λ u. InCall (begin w) (seen past) u (parts_of (piece_ranges c.read) regions.outs.now (above.prepares regions)) old.above.spaces new.above.spaces) (sym c.next.thread)
        (subst (λ rs. InCall (begin w) (seen past) t (parts_of rs regions.outs.now (above.prepares regions)) old.above.spaces new.above.spaces) (sym c.ins_are)
        (parts (program_of w) (placed w) (seen past) stands.above).call)

    whole' : StandsForWhole w (m ∷ past) new.above.spaces
    whole' = whole.called w past old.above.spaces new.above.spaces m c.next.event c.func c.args c.read regions.outs.now (above.prepares regions) stands.whole side call c.next.act_is c.next.kind_is c.shown listed

    seen' : StandsForAbove (program_of w) (placed w) (seen (m ∷ past)) new.above
    seen' = subst (λ ps. StandsForAbove (program_of w) (placed w) ps new.above) (sym (seen_above w m past side))
        (subst (λ q. StandsForAbove (program_of w) (placed w) (q ∷ seen past) new.above) (sym (mark_is w past t keys kind m c.next))
        (makes (program_of w) (placed w) (seen past) c.next.event.steps c.next.event.clock c.next.event.keys c.func c.args c.read stands.above c.next.keys_are c.ins_are c.shown may))

-- memory above the cut that is as it was
same_above : (old new : MemoryAbove) → new.spaces ≡ old.spaces → new.watch ≡ old.watch → new ≡ old
same_above old new e f =
    ap (λ q. let a : MemoryAbove = record { spaces = q; watch = new.watch; threads = new.threads } in a) e
    ∙ watched new.watch f new.threads
  where
    watched : (v : WatchState) → v ≡ old.watch → (k : length v.rows ≡ THREADS) → ◌≡◌ {A = MemoryAbove} (record { spaces = old.spaces; watch = v; threads = k }) old
    watched v z k = subst (λ (u : WatchState). (k : length u.rows ≡ THREADS) → ◌≡◌ {A = MemoryAbove} (record { spaces = old.spaces; watch = u; threads = k }) old) (sym z)
        (λ k. ap (λ j. let a : MemoryAbove = record { spaces = old.spaces; watch = old.watch; threads = j } in a) (ℕ_set (length old.watch.rows) THREADS k old.threads)) k

pub left : (old new : Memory) → above.LeavesAll old.above new.above → LeavesAll old new
left old new leaves w past h =
    let same = leaves (program_of w) (placed w) (seen past) h.above in
    ap (λ a. let m : Memory = record { above = a } in m) (same_above old.above new.above same.0 same.1)
