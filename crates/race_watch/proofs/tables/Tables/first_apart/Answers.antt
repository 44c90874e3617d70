use Rattle.std.proofs.Common.{ℕ}
use Rattle.race_watch.specs.Tables.{at, HasEpoch}
use Rattle.race_watch.proofs.Epochs.{InArea, known_area}
use Rattle.race_watch.proofs.Firsts.{pick_globals, pick_stacks, pick_pool}
use Rattle.race_watch.proofs.tables.Tables.first_apart.Goals as goal

pub returns-in-Some : goal.returns-in-Some
returns-in-Some c =
    let R : ℕ → ℕ → Type 0 = HasEpoch c.args.tested.now (at c.args.self.now) in
    let areas : (x u : ℕ) → R x u → InArea x = λ x u m. known_area c.args.self.now c.args.tested.now.write u x _ m.unknown in
    pick_globals R c.args.tested.now.range c.in-Some.found areas c.in-Some.ensures

pub returns-in-Some-first_of : goal.returns-in-Some-first_of
returns-in-Some-first_of c =
    let R : ℕ → ℕ → Type 0 = HasEpoch c.args.tested.now (at c.args.self.now) in
    let areas : (x u : ℕ) → R x u → InArea x = λ x u m. known_area c.args.self.now c.args.tested.now.write u x _ m.unknown in
    pick_stacks R c.args.tested.now.range _ areas c.in_default.ensures c.in-Some-first_of.ensures

pub returns : goal.returns
returns c =
    let R : ℕ → ℕ → Type 0 = HasEpoch c.args.tested.now (at c.args.self.now) in
    let areas : (x u : ℕ) → R x u → InArea x = λ x u m. known_area c.args.self.now c.args.tested.now.write u x _ m.unknown in
    pick_pool R c.args.tested.now.range c.first_of-3.result areas c.in_default.ensures c.in_default-first_of.ensures c.first_of-3.ensures
