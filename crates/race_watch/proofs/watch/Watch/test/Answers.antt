use Rattle.std.proofs.Common.{◌<◌, ◌⊎◌, length, [], List, None, refl, sym, subst}
use Rattle.std.proofs.lemmas.List.{get_or_read}
use Rattle.race_watch.specs.declared.seen.Seen.{Seen}
use Rattle.race_watch.specs.declared.first.Tested.{Tested}
use Rattle.race_watch.specs.Tables.{at, cells_of, HasHit, HasEpoch, IsFirst, IsLeastOf}
use Rattle.race_watch.specs.State.{WatchState}
use Rattle.race_watch.specs.Stands.{Stands}
use Rattle.race_watch.proofs.Raced.{is_race, no_race}
use Rattle.race_watch.proofs.watch.Watch.test.Goals as goal

pub returns-in-Some : goal.returns-in-Some
returns-in-Some c = λ past k.
    let old : WatchState = record { events = c.self.inside.events; made = c.self.inside.made.items; rows = c.self.inside.rows.items; keys = c.self.inside.keys.entries; seen = c.self.inside.seen.items; epochs = cells_of c.self.inside.tables } in
    let lt : c.args.thread < length old.rows = subst (λ (s : WatchState). c.args.thread < length s.rows) (sym c.self.view_is) c.requires in
    let h : Stands past old = subst (Stands past) (sym c.self.view_is) k in
    let a : Tested = record { thread = c.args.thread; known = c.index.result; range = c.args.range; write = c.args.write } in
    is_race past old c.self.inside.tables a c.in-Some.addr c.in-Some.other h c.self.invariant.0 refl c.self.invariant.1 lt (get_or_read old.rows _ _ lt c.index.ensures []) (subst (λ (l : List Seen). IsLeastOf a.range (λ x u. HasHit a l x u ⊎ HasEpoch a (at c.self.inside.tables) x u) c.in-Some.addr c.in-Some.other) c.deref.ensures.value c.in-Some.ensures)

pub returns-in-None : goal.returns-in-None
returns-in-None c = λ past k.
    let old : WatchState = record { events = c.self.inside.events; made = c.self.inside.made.items; rows = c.self.inside.rows.items; keys = c.self.inside.keys.entries; seen = c.self.inside.seen.items; epochs = cells_of c.self.inside.tables } in
    let lt : c.args.thread < length old.rows = subst (λ (s : WatchState). c.args.thread < length s.rows) (sym c.self.view_is) c.requires in
    let h : Stands past old = subst (Stands past) (sym c.self.view_is) k in
    let a : Tested = record { thread = c.args.thread; known = c.index.result; range = c.args.range; write = c.args.write } in
    let none : IsFirst a.range (λ x u. HasHit a old.seen x u ⊎ HasEpoch a (at c.self.inside.tables) x u) None = subst (λ (l : List Seen). IsFirst a.range (λ x u. HasHit a l x u ⊎ HasEpoch a (at c.self.inside.tables) x u) None) c.deref.ensures.value c.in-None.ensures in
    no_race past old c.self.inside.tables a h c.self.invariant.0 refl c.self.invariant.1 lt (get_or_read old.rows _ _ lt c.index.ensures []) none
