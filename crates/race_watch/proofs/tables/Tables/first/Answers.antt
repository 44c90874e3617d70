use Rattle.std.proofs.Common.{ℕ}
use Rattle.race_watch.specs.Tables.{at, HasEpoch}
use Rattle.race_watch.proofs.Epochs.{InArea, known_area}
use Rattle.race_watch.proofs.Firsts.{first_whole}
use Rattle.race_watch.proofs.tables.Tables.first.Goals as goal

pub returns-in-Some-whole : goal.returns-in-Some-whole
returns-in-Some-whole c =
    let R : ℕ → ℕ → Type 0 = HasEpoch c.args.tested.now (at c.args.self.now) in
    let areas : (x u : ℕ) → R x u → InArea x = λ x u m. known_area c.args.self.now c.args.tested.now.write u x _ m.unknown in
    first_whole R c.args.tested.now.range c.in-Some-whole.part c.first_in.result c.in-Some-whole.ensures.1 c.in-Some-whole.ensures.2 areas c.first_in.ensures
