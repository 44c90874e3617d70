use Rattle.std.proofs.Common.{ℕ, ◌⊎◌, sym, subst}
use Rattle.race_watch.specs.Tables.{at, HasEpoch, HasHit, IsFirst}
use Rattle.race_watch.proofs.Firsts.{first_none, first_some}
use Rattle.race_watch.proofs.access.first_race.Goals as goal

pub returns-in-Some : goal.returns-in-Some
returns-in-Some c =
    let a = c.args.tested.now in
    let Q : ℕ → ℕ → Type 0 = HasEpoch a (at c.args.tables.now) in
    subst (λ r. IsFirst a.range (λ x u. HasHit a c.args.seen.now x u ⊎ Q x u) r) (sym c.earlier.ensures) (first_some a c.args.seen.now Q c.first-found.result c.in-Some.addr c.in-Some.other c.in-Some.ensures c.first-found.ensures)

pub returns-in-None : goal.returns-in-None
returns-in-None c = first_none c.args.tested.now c.args.seen.now (HasEpoch c.args.tested.now (at c.args.tables.now)) c.first-found.result c.in-None.ensures c.first-found.ensures
