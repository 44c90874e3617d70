use Rattle.std.proofs.Common.{◌≡◌, ◌+◌, ◌||◌, drop, sym, subst, arith}
use Rattle.c_syntax.specs.declared.declaration.Item.{Item}
use Rattle.c_syntax.specs.Stands.{StandsItem}
use Rattle.annot_reader_rules.specs.Functions.{names_in}
use Rattle.annot_reader_words.proofs.Composing.{raised}
use Rattle.annot_reader_words.specs.Readings.{NamesCut}
use Rattle.annot_reader_words.proofs.CutNames.{Left, at_end, at_first, broken_next, found_before, found_here, past_next}
use Rattle.annot_reader_words.proofs.cuts.names_cut.Goals as goal
use Rattle.annot_reader_words.proofs.cuts.names_cut.Goals.{then-branch, else-branch}

pub loop-item-init : goal.loop-item-init
loop-item-init c = λ N is h. at_first N c.args.from c.args.cut.now c.args.items.now is h

pub returns-in_err-found : goal.returns-in_err-found
returns-in_err-found c = λ N is h.
    let e = c.in_err-found.field-0.0 in
    raised (NamesCut c.args.cut.now) (names_in c.args.from is) c.from_residual.result e c.from_residual.ensures.1
    (broken_next N c.args.from c.args.cut.now c.loop-item.found c.args.items.now c.loop-item.item-index c.item-item.result is e (omega arith) (c.loop-item.invariant N is h)
    (λ x s. c.in_err-found.ensures N x (subst (λ (v : Item). StandsItem N v x) (sym c.item-item.is) s)))

pub returns : goal.returns
returns c = λ N is h. at_end N c.args.from c.args.cut.now c.loop-item.found c.args.items.now c.loop-item.item-index is (omega arith) (c.loop-item.invariant N is h)

pub loop-item-preserved : goal.loop-item-preserved
loop-item-preserved c = λ N is h.
    let same : (c.in_ok-found.found || c.loop-item.found) ≡ c.if-branch.found = elim c.if-branch.branch [
      | then-branch w ↦ found_here c.in_ok-found.found c.loop-item.found c.if-branch.found w.if-branch.true w.found-is
      | else-branch w ↦ found_before c.in_ok-found.found c.loop-item.found c.if-branch.found w.if-branch.false w.found-is
    ] in
    subst (λ b. Left N c.args.from c.args.cut.now b (drop (c.loop-item.item-index + 1) c.args.items.now) is) same
    (past_next N c.args.from c.args.cut.now c.loop-item.found c.args.items.now c.loop-item.item-index c.item-item.result is c.in_ok-found.found (omega arith) (c.loop-item.invariant N is h)
    (λ x s. c.in_ok-found.ensures N x (subst (λ (v : Item). StandsItem N v x) (sym c.item-item.is) s)))
