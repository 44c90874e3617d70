use Rattle.std.proofs.Common.{◌<◌, length, refl, sym, subst, arith}
use Rattle.std.proofs.lemmas.List.{get_or_read}
use Rattle.race_watch.specs.Tables.{cells_of}
use Rattle.race_watch.specs.State.{WatchState}
use Rattle.race_watch.specs.Stands.{Stands, AnswersBy}
use Rattle.race_watch.proofs.Happens.{index_fits}
use Rattle.race_watch.proofs.Raced.{own_epochs, answers_by, stands_by, reached_by, each_ok}
use Rattle.race_watch.proofs.watch.Watch.access_anew.Goals as goal

pub note-requires-clause-place : goal.note-requires-clause-place
note-requires-clause-place c =
    let old : WatchState = record { events = c.self.inside.events; made = c.self.inside.made.items; rows = c.self.inside.rows.items; keys = c.self.inside.keys.entries; seen = c.self.inside.seen.items; epochs = cells_of c.self.inside.tables } in
    let lt : c.args.thread < length old.rows = subst (λ (s : WatchState). c.args.thread < length s.rows) (sym c.self.view_is) c.requires in
    let lm : c.args.thread < length old.made = omega (arith, c.self.invariant.0.width, lt) in
    let is = get_or_read old.made _ _ lm c.index-place.ensures 0 in
    omega (arith, index_fits c.self.invariant.0.past old c.args.thread c.index-place.result.now c.self.invariant.0.stands lm is, c.self.invariant.0.few_events)

pub note-requires-clause-before : goal.note-requires-clause-before
note-requires-clause-before c =
    let old : WatchState = record { events = c.self.inside.events; made = c.self.inside.made.items; rows = c.self.inside.rows.items; keys = c.self.inside.keys.entries; seen = c.self.inside.seen.items; epochs = cells_of c.self.inside.tables } in
    let lt : c.args.thread < length old.rows = subst (λ (s : WatchState). c.args.thread < length s.rows) (sym c.self.view_is) c.requires in
    let lm : c.args.thread < length old.made = omega (arith, c.self.invariant.0.width, lt) in
    own_epochs old c.self.inside.tables c.args.thread c.index-place.result.now c.self.invariant.0 refl c.self.invariant.1 lm (get_or_read old.made _ _ lm c.index-place.ensures 0)

pub returns-clause-answers : goal.returns-clause-answers
returns-clause-answers c = λ past k.
    answers_by past c.args.thread c.args.range c.args.write c.note.result c.note.ensures.memory (subst (AnswersBy c.args.self.now c.args.thread c.args.range c.args.write) c.in_default.is c.test.ensures past k)

pub returns-clause-told : goal.returns-clause-told
returns-clause-told c = each_ok c.note.result _ _ (λ past k.
    let old : WatchState = record { events = c.self.inside.events; made = c.self.inside.made.items; rows = c.self.inside.rows.items; keys = c.self.inside.keys.entries; seen = c.self.inside.seen.items; epochs = cells_of c.self.inside.tables } in
    let lt : c.args.thread < length old.rows = subst (λ (s : WatchState). c.args.thread < length s.rows) (sym c.self.view_is) c.requires in
    let lm : c.args.thread < length old.made = omega (arith, c.self.invariant.0.width, lt) in
    let is = get_or_read old.made _ _ lm c.index-place.ensures 0 in
    let h : Stands past old = subst (Stands past) (sym c.self.view_is) k in
    stands_by past old c.note.new.seen.items c.self.inside.tables c.note.new.tables c.args.thread c.args.range c.args.write c.index-place.result.now c.note.result h refl c.self.invariant.1 c.note.ensures.tables lm is c.note.ensures.noted)

pub invariant_of-self : goal.invariant_of-self
invariant_of-self c =
    let old : WatchState = record { events = c.self.inside.events; made = c.self.inside.made.items; rows = c.self.inside.rows.items; keys = c.self.inside.keys.entries; seen = c.self.inside.seen.items; epochs = cells_of c.self.inside.tables } in
    let lt : c.args.thread < length old.rows = subst (λ (s : WatchState). c.args.thread < length s.rows) (sym c.self.view_is) c.requires in
    let lm : c.args.thread < length old.made = omega (arith, c.self.invariant.0.width, lt) in
    let is = get_or_read old.made _ _ lm c.index-place.ensures 0 in (
      reached_by old c.note.new.seen.items c.self.inside.tables c.note.new.tables c.args.thread c.args.range c.args.write c.index-place.result.now c.note.result c.self.invariant.0 refl c.self.invariant.1 c.note.ensures.tables lt lm is
          (λ past h. subst (AnswersBy c.args.self.now c.args.thread c.args.range c.args.write) c.in_default.is c.test.ensures past (subst (Stands past) c.self.view_is h))
          c.note.ensures.noted c.note.ensures.unchanged c.note.ensures.same,
      c.note.ensures.tables,
      omega (arith, c.note.ensures.threads, c.self.invariant.2),
    )
