use Rattle.std.proofs.Common.{◌+◌, max, get_or, drop, ap, ◌∙◌, eq-eqb}
use Rattle.std.proofs.lemmas.Bool.{ne_eqb}
use Rattle.std.proofs.lemmas.List.{get_or_default}
use Rattle.run_events.specs.declared.key.KeyMark.{KeyMark}
use Rattle.logical_clock.proofs.Places.{some_key}
use Rattle.replay_runs.specs.Known.{known, learned_keys}
use Rattle.whole_runs.specs.Sides.{seen}
use Rattle.reference_recorder_marks.specs.Marks.{mark_of, past}
use Rattle.reference_recorder_races.proofs.Knowing.{learned_all, learned_more, learned_other, learned_own}
use Rattle.reference_recorder_races.proofs.known.learned.Goals as goal

abbrev no_mark : KeyMark
no_mark = record { key = some_key; ticket = 0 }

pub loop-key-preserved : goal.loop-key-preserved
loop-key-preserved c = λ told.
    let qs = c.as_slice-keys.result.now in
    let i = c.loop-key.key-index in
    ap (λ n. max (learned_keys (known (seen (past c.args.before.now))) (drop (i + 1) qs) c.args.thread) n) c.max-known.ensures
    ∙ learned_more (known (seen (past c.args.before.now))) qs c.args.thread i c.loop-key.known c.known_by-own.result c.known_by-more.result (get_or qs i no_mark) c.loop-key-test.true (get_or_default qs i no_mark _ c.loop-key-test.true) (c.loop-key.invariant told) (c.known_by-more.ensures c.args.thread told)

pub returns-then-other-thread : goal.returns-then-other-thread
returns-then-other-thread c = λ told.
    let e = learned_all (known (seen (past c.args.before.now))) c.as_slice-keys.result.now c.args.thread c.loop-key.key-index c.loop-key.known c.known_by-own.result c.loop-key-test.false (c.loop-key.invariant told)
    ∙ (λ j. max (c.known_by-own.ensures c.args.thread told j) (learned_keys (known (seen (past c.args.before.now))) ((c.as_slice-keys.ensures ∙ c.keys_of-unpacked.ensures) j) c.args.thread)) in
    learned_own (known (seen (past c.args.before.now))) (mark_of c.args.mark.now) c.args.thread c.loop-key.known c.max.result (eq-eqb c.args.mark.now.thread c.args.thread c.if-other-thread.true) e c.max.ensures

pub returns : goal.returns
returns c = λ told.
    let e = learned_all (known (seen (past c.args.before.now))) c.as_slice-keys.result.now c.args.thread c.loop-key.key-index c.loop-key.known c.known_by-own.result c.loop-key-test.false (c.loop-key.invariant told)
    ∙ (λ j. max (c.known_by-own.ensures c.args.thread told j) (learned_keys (known (seen (past c.args.before.now))) ((c.as_slice-keys.ensures ∙ c.keys_of-unpacked.ensures) j) c.args.thread)) in
    learned_other (known (seen (past c.args.before.now))) (mark_of c.args.mark.now) c.args.thread c.loop-key.known (ne_eqb c.args.mark.now.thread c.args.thread c.if-other-thread.false) e
