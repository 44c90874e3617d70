use Rattle.std.proofs.Common.{◌<◌, length, ◌∷◌, refl, sym, subst, arith}
use Rattle.std.proofs.lemmas.List.{get_or_read}
use Rattle.race_watch.specs.Tables.{cells_of}
use Rattle.race_watch.specs.Told.{Accessed}
use Rattle.race_watch.specs.State.{WatchState}
use Rattle.race_watch.specs.Stands.{Stands}
use Rattle.race_watch.proofs.Happens.{index_fits}
use Rattle.race_watch.proofs.Raced.{own_epochs, settled_no_race, settled_stands}
use Rattle.race_watch.proofs.watch.Watch.has_apart.Goals as goal

pub overflow_add-place : goal.overflow_add-place
overflow_add-place c =
    let old : WatchState = record { events = c.self.inside.events; made = c.self.inside.made.items; rows = c.self.inside.rows.items; keys = c.self.inside.keys.entries; seen = c.self.inside.seen.items; epochs = cells_of c.self.inside.tables } in
    let lt : c.args.thread < length old.rows = subst (λ (s : WatchState). c.args.thread < length s.rows) (sym c.self.view_is) c.requires in
    let lm : c.args.thread < length old.made = omega (arith, c.self.invariant.0.width, lt) in
    let is = get_or_read old.made _ _ lm c.index-place.ensures 0 in
    omega (arith, index_fits c.self.invariant.0.past old c.args.thread c.index-place.result.now c.self.invariant.0.stands lm is, c.self.invariant.0.few_events)

pub is_settled_apart-requires-clause-before : goal.is_settled_apart-requires-clause-before
is_settled_apart-requires-clause-before c =
    let old : WatchState = record { events = c.self.inside.events; made = c.self.inside.made.items; rows = c.self.inside.rows.items; keys = c.self.inside.keys.entries; seen = c.self.inside.seen.items; epochs = cells_of c.self.inside.tables } in
    let lt : c.args.thread < length old.rows = subst (λ (s : WatchState). c.args.thread < length s.rows) (sym c.self.view_is) c.requires in
    let lm : c.args.thread < length old.made = omega (arith, c.self.invariant.0.width, lt) in
    own_epochs old c.self.inside.tables c.args.thread c.index-place.result.now c.self.invariant.0 refl c.self.invariant.1 lm (get_or_read old.made _ _ lm c.index-place.ensures 0)

pub returns-clause-free : goal.returns-clause-free
returns-clause-free c = λ yes past k.
    let old : WatchState = record { events = c.self.inside.events; made = c.self.inside.made.items; rows = c.self.inside.rows.items; keys = c.self.inside.keys.entries; seen = c.self.inside.seen.items; epochs = cells_of c.self.inside.tables } in
    let lt : c.args.thread < length old.rows = subst (λ (s : WatchState). c.args.thread < length s.rows) (sym c.self.view_is) c.requires in
    let lm : c.args.thread < length old.made = omega (arith, c.self.invariant.0.width, lt) in
    let is = get_or_read old.made _ _ lm c.index-place.ensures 0 in
    let h : Stands past old = subst (Stands past) (sym c.self.view_is) k in
    settled_no_race past old c.self.inside.tables c.args.thread c.args.range c.args.write c.index-place.result.now h c.self.invariant.0 refl c.self.invariant.1 lt lm is (c.is_settled_apart.ensures yes)

pub returns-clause-told : goal.returns-clause-told
returns-clause-told c = λ yes past k.
    let old : WatchState = record { events = c.self.inside.events; made = c.self.inside.made.items; rows = c.self.inside.rows.items; keys = c.self.inside.keys.entries; seen = c.self.inside.seen.items; epochs = cells_of c.self.inside.tables } in
    let lt : c.args.thread < length old.rows = subst (λ (s : WatchState). c.args.thread < length s.rows) (sym c.self.view_is) c.requires in
    let lm : c.args.thread < length old.made = omega (arith, c.self.invariant.0.width, lt) in
    let is = get_or_read old.made _ _ lm c.index-place.ensures 0 in
    let h : Stands past old = subst (Stands past) (sym c.self.view_is) k in
    subst (Stands (Accessed c.args.thread c.args.range c.args.write ∷ past)) c.self.view_is (settled_stands past old c.self.inside.tables c.args.thread c.args.range c.args.write c.index-place.result.now h c.self.invariant.0 refl c.self.invariant.1 lm is (c.is_settled_apart.ensures yes))
