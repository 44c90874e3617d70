use Rattle.std.proofs.Common.{◌≡◌, ◌<◌, ◌∙◌, length, [], inr, refl, sym, subst, arith, eqb-true}
use Rattle.std.proofs.lemmas.List.{get_or_read, nil_from_length}
use Rattle.race_watch.specs.declared.first.Tested.{Tested}
use Rattle.race_watch.specs.Tables.{cells_of}
use Rattle.race_watch.specs.State.{WatchState}
use Rattle.race_watch.specs.Stands.{Stands}
use Rattle.race_watch.proofs.Happens.{index_fits}
use Rattle.race_watch.proofs.Raced.{own_epochs, free_no_race, noted_stands, reached_if}
use Rattle.race_watch.proofs.watch.Watch.take_few.Goals as goal

pub take_few-requires-clause-place : goal.take_few-requires-clause-place
take_few-requires-clause-place c =
    let old : WatchState = record { events = c.self.inside.events; made = c.self.inside.made.items; rows = c.self.inside.rows.items; keys = c.self.inside.keys.entries; seen = c.self.inside.seen.items; epochs = cells_of c.self.inside.tables } in
    let lt : c.args.thread < length old.rows = subst (λ (s : WatchState). c.args.thread < length s.rows) (sym c.self.view_is) c.requires in
    let lm : c.args.thread < length old.made = omega (arith, c.self.invariant.0.width, lt) in
    let is = get_or_read old.made _ _ lm c.index-place.ensures 0 in
    omega (arith, index_fits c.self.invariant.0.past old c.args.thread c.index-place.result.now c.self.invariant.0.stands lm is, c.self.invariant.0.few_events)

pub take_few-requires-clause-before : goal.take_few-requires-clause-before
take_few-requires-clause-before c =
    let old : WatchState = record { events = c.self.inside.events; made = c.self.inside.made.items; rows = c.self.inside.rows.items; keys = c.self.inside.keys.entries; seen = c.self.inside.seen.items; epochs = cells_of c.self.inside.tables } in
    let lt : c.args.thread < length old.rows = subst (λ (s : WatchState). c.args.thread < length s.rows) (sym c.self.view_is) c.requires in
    let lm : c.args.thread < length old.made = omega (arith, c.self.invariant.0.width, lt) in
    let is = get_or_read old.made _ _ lm c.index-place.ensures 0 in
    own_epochs old c.self.inside.tables c.args.thread c.index-place.result.now c.self.invariant.0 refl c.self.invariant.1 lm is

pub returns-clause-free : goal.returns-clause-free
returns-clause-free c = λ yes past k.
    let old : WatchState = record { events = c.self.inside.events; made = c.self.inside.made.items; rows = c.self.inside.rows.items; keys = c.self.inside.keys.entries; seen = c.self.inside.seen.items; epochs = cells_of c.self.inside.tables } in
    let lt : c.args.thread < length old.rows = subst (λ (s : WatchState). c.args.thread < length s.rows) (sym c.self.view_is) c.requires in
    let none : old.seen ≡ [] = nil_from_length old.seen (sym c.self.inside.seen.ok.0 ∙ eqb-true _ _ (sym c.if-not-is_empty.ensures)) in
    let a : Tested = record { thread = c.args.thread; known = c.index.result; range = c.args.range; write = c.args.write } in
    let h : Stands past old = subst (Stands past) (sym c.self.view_is) k in
    free_no_race past old c.self.inside.tables a h c.self.invariant.0 refl c.self.invariant.1 lt (get_or_read old.rows _ _ lt c.index.ensures []) none (c.take_few.ensures.free yes)

pub returns-clause-told : goal.returns-clause-told
returns-clause-told c = λ yes past k.
    let old : WatchState = record { events = c.self.inside.events; made = c.self.inside.made.items; rows = c.self.inside.rows.items; keys = c.self.inside.keys.entries; seen = c.self.inside.seen.items; epochs = cells_of c.self.inside.tables } in
    let lt : c.args.thread < length old.rows = subst (λ (s : WatchState). c.args.thread < length s.rows) (sym c.self.view_is) c.requires in
    let lm : c.args.thread < length old.made = omega (arith, c.self.invariant.0.width, lt) in
    let is = get_or_read old.made _ _ lm c.index-place.ensures 0 in
    let h : Stands past old = subst (Stands past) (sym c.self.view_is) k in
    noted_stands past old old.seen c.self.inside.tables c.take_few.new.tables c.args.thread c.args.range c.args.write c.index-place.result.now h refl c.self.invariant.1 c.take_few.ensures.tables lm is (inr (refl, c.take_few.ensures.put yes))

pub invariant_of-self : goal.invariant_of-self
invariant_of-self c =
    let old : WatchState = record { events = c.self.inside.events; made = c.self.inside.made.items; rows = c.self.inside.rows.items; keys = c.self.inside.keys.entries; seen = c.self.inside.seen.items; epochs = cells_of c.self.inside.tables } in
    let lt : c.args.thread < length old.rows = subst (λ (s : WatchState). c.args.thread < length s.rows) (sym c.self.view_is) c.requires in
    let lm : c.args.thread < length old.made = omega (arith, c.self.invariant.0.width, lt) in
    let is = get_or_read old.made _ _ lm c.index-place.ensures 0 in
    let none : old.seen ≡ [] = nil_from_length old.seen (sym c.self.inside.seen.ok.0 ∙ eqb-true _ _ (sym c.if-not-is_empty.ensures)) in
    let a : Tested = record { thread = c.args.thread; known = c.index.result; range = c.args.range; write = c.args.write } in (
      reached_if old c.self.inside.tables c.take_few.new.tables c.args.thread c.args.range c.args.write c.index-place.result.now c.take_few.result c.self.invariant.0 refl c.self.invariant.1 c.take_few.ensures.tables lt lm is
          (λ yes past h. free_no_race past old c.self.inside.tables a h c.self.invariant.0 refl c.self.invariant.1 lt (get_or_read old.rows _ _ lt c.index.ensures []) none (c.take_few.ensures.free yes))
          c.take_few.ensures.put c.take_few.ensures.unchanged,
      c.take_few.ensures.tables,
      omega (arith, c.take_few.ensures.threads, c.self.invariant.2),
    )
