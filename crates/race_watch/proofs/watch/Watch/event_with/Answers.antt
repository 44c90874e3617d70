use Rattle.std.proofs.Common.{ℕ, ◌+◌, ◌<◌, length, [], ◌∷◌, List, refl, sym, subst, arith}
use Rattle.std.proofs.Math.ListN.{set}
use Rattle.std.proofs.lemmas.List.{get_or_read, length-set}
use Rattle.logical_clock.specs.Events.{occurrence}
use Rattle.race_watch.specs.Told.{Happened}
use Rattle.race_watch.specs.Tables.{cells_of}
use Rattle.race_watch.proofs.Quiet.{quiet_event}
use Rattle.race_watch.specs.Rows.{row_in}
use Rattle.race_watch.specs.State.{WatchState}
use Rattle.race_watch.specs.Stands.{Stands}
use Rattle.race_watch.proofs.Happens.{index_fits, learned_row, happened}
use Rattle.race_watch.proofs.watch.Watch.event_with.Goals as goal

pub overflow_add-index : goal.overflow_add-index
overflow_add-index c =
    let old : WatchState = record { events = c.self.inside.events; made = c.self.inside.made.items; rows = c.self.inside.rows.items; keys = c.self.inside.keys.entries; seen = c.self.inside.seen.items; epochs = cells_of c.self.inside.tables } in
    let lt : c.args.thread < length old.rows = subst (λ (s : WatchState). c.args.thread < length s.rows) (sym c.self.view_is) c.requires.thread in
    let few : old.events < 4000000000 = subst (λ (s : WatchState). s.events < 4000000000) (sym c.self.view_is) c.requires.few in
    let lm : c.args.thread < length old.made = omega (arith, c.self.invariant.0.width, lt) in
    omega (arith, index_fits c.self.invariant.0.past old c.args.thread c.index-index.result.now c.self.invariant.0.stands lm (get_or_read old.made _ _ lm c.index-index.ensures 0), few)

pub returns-clause-told : goal.returns-clause-told
returns-clause-told c = λ past k.
    let old : WatchState = record { events = c.self.inside.events; made = c.self.inside.made.items; rows = c.self.inside.rows.items; keys = c.self.inside.keys.entries; seen = c.self.inside.seen.items; epochs = cells_of c.self.inside.tables } in
    let h : Stands past old = subst (Stands past) (sym c.self.view_is) k in
    let lt : c.args.thread < length old.rows = subst (λ (s : WatchState). c.args.thread < length s.rows) (sym c.self.view_is) c.requires.thread in
    let lm : c.args.thread < length old.made = omega (arith, c.self.invariant.0.width, lt) in
    let isi = get_or_read old.made _ _ lm c.index-index.ensures 0 in
    let row = learned_row past old c.args.thread c.index-index.result.now c.max.result c.args.keys.now c.index.result.now c.learn_keys.new.row (λ q. row_in c.self.inside.keys q) h lt lm (omega (arith, c.learn_keys.array_long, lt, c.self.invariant.0.few)) (get_or_read old.rows _ _ lt c.index.ensures []) isi
    (λ j u below. refl) c.in_ok-learn_keys.ensures.learned c.max.ensures in
    happened past old c.args.thread c.index-index.result.now c.args.keys.now (set c.learn_keys.new.row c.args.thread c.max.result) c.learn_keys.new.keys c.tell_keys.new.keys h lt lm isi row c.learn_keys.ensures.same c.tell_keys.ensures

pub invariant_of-self-2 : goal.invariant_of-self-2
invariant_of-self-2 c =
    let old : WatchState = record { events = c.self.inside.events; made = c.self.inside.made.items; rows = c.self.inside.rows.items; keys = c.self.inside.keys.entries; seen = c.self.inside.seen.items; epochs = cells_of c.self.inside.tables } in
    let past = c.self.invariant.0.past in
    let few : old.events < 4000000000 = subst (λ (s : WatchState). s.events < 4000000000) (sym c.self.view_is) c.requires.few in
    let h : Stands past old = c.self.invariant.0.stands in
    let lt : c.args.thread < length old.rows = subst (λ (s : WatchState). c.args.thread < length s.rows) (sym c.self.view_is) c.requires.thread in
    let lm : c.args.thread < length old.made = omega (arith, c.self.invariant.0.width, lt) in
    let isi = get_or_read old.made _ _ lm c.index-index.ensures 0 in
    let new_row : List ℕ = set c.learn_keys.new.row c.args.thread c.max.result in
    let row = learned_row past old c.args.thread c.index-index.result.now c.max.result c.args.keys.now c.index.result.now c.learn_keys.new.row (λ q. row_in c.self.inside.keys q) h lt lm (omega (arith, c.learn_keys.array_long, lt, c.self.invariant.0.few)) (get_or_read old.rows _ _ lt c.index.ensures []) isi
    (λ j u below. refl) c.in_ok-learn_keys.ensures.learned c.max.ensures in (
      record {
        past = Happened (occurrence c.args.thread c.args.keys.now) ∷ past;
        stands = happened past old c.args.thread c.index-index.result.now c.args.keys.now new_row c.learn_keys.new.keys c.tell_keys.new.keys h lt lm isi row c.learn_keys.ensures.same c.tell_keys.ensures;
        quiet = quiet_event past (occurrence c.args.thread c.args.keys.now) c.self.invariant.0.quiet;
        few_events = omega (arith, few);
        width = omega (arith, length-set old.made c.args.thread (c.index-index.result.now + 1), length-set old.rows c.args.thread new_row, c.self.invariant.0.width);
        few = omega (arith, length-set old.rows c.args.thread new_row, c.self.invariant.0.few);
        threads = c.self.invariant.0.threads;
      },
      c.self.invariant.1,
      omega (arith, length-set old.rows c.args.thread new_row, c.self.invariant.2),
    )
