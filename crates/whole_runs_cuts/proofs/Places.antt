-- Places that are those of a cut let functions run where the cut does.
use Rattle.std.proofs.Common.{◌≡◌, ℕ, Bool, true, List, Option, Some, None, refl}
use Rattle.std.specs.Prelude.{slice_get}
use Rattle.marks.specs.declared.side.Side.TheVariants.{Replay, System}
use Rattle.c_code.specs.Machine.{is_true}
use Rattle.c_types_rules.specs.Sources.{Program}
use Rattle.cut_graph_rules.specs.Findings.{Cut, May}
use Rattle.cut_graph_run_laws.specs.Replays.{KeepsTo}
use Rattle.isolation_check_rules.specs.Places.{AreFlags, IsPlaced, Literal}
use Rattle.whole_runs.specs.World.{World, interface}

flagged : (p : Program) (P : ℕ → Type 0) (flags : List Bool) → AreFlags p P flags → (f : ℕ) → is_true (slice_get flags f) ≡ true → P f
flagged p P flags are f h = by (slice_get flags f) refl h
  where
    by : (o : Option Bool) → slice_get flags f ≡ o → is_true o ≡ true → P f
    by (Some b) e k = (are.exact f b e).0 k
    by None e k = absurd cc

pub placed_keeps : (w : World) (c : Cut) (ls : List Literal) → IsPlaced c ls w.laid.placed → KeepsTo (interface w) c
placed_keeps w c ls q Replay f h = flagged c.program (May c Replay) w.laid.placed.replay q.replay f h
placed_keeps w c ls q System f h = flagged c.program (May c System) w.laid.placed.system q.system f h
