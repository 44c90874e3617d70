use Rattle.std.proofs.Common.{◌≡◌, ◌+◌, ◌++◌, drop, sym, ◌∙◌, subst, arith}
use Rattle.cut_advisor.specs.CutNodes.{texts_of}
use Rattle.cut_advisor.proofs.CutLists.{text_end, text_next}
use Rattle.cut_advisor.proofs.names.texts.Goals as goal

pub loop-index-preserved : goal.loop-index-preserved
loop-index-preserved c =
    let keys = c.args.names.now.keys in
    subst (λ ts. ts ++ drop (c.loop-index.index + 1) (texts_of keys) ≡ texts_of keys) (sym c.in_ok-push.ensures.items)
    (text_next keys c.index.result.now c.loop-index.texts.items c.in_ok-from_slice.field-0 c.loop-index.index c.index.ensures (c.in_ok-from_slice.ensures.bytes ∙ c.as_slice.ensures.value) c.loop-index.invariant)

pub returns : goal.returns
returns c = c.from.ensures ∙ text_end c.args.names.now.keys c.loop-index.texts.items c.loop-index.index (omega (arith, c.loop-index-test.false, c.len-index-end.ensures.len)) c.loop-index.invariant
