use Rattle.std.proofs.Common.{sym, ap, ◌∙◌, subst}
use Rattle.c_syntax.specs.declared.id.DeclId.{DeclId}
use Rattle.c_syntax.specs.Stands.{StandDecls}
use Rattle.c_types_rules.specs.Sources.{at_file, tags_of}
use Rattle.annot_reader_rules.specs.Cuts.{annotations}
use Rattle.annot_reader.proofs.FunctionTypes.{typed_functions}
use Rattle.cut_advisor.specs.CutNames.{AreCuts}
use Rattle.cut_advisor.specs.CutNodes.{texts_of}
use Rattle.cut_advisor.proofs.CutLists.{no_texts}
use Rattle.cut_advisor.proofs.CutLeft.{at_end, begin, next, one_of}
use Rattle.cut_advisor.proofs.names.cuts.Goals as goal

abbrev none : DeclId
none = record { 0 = 0 }

pub loop-id-init : goal.loop-id-init
loop-id-init c = record {
  put = tt;
  left = λ ds p t. begin c.args.source.now.tree ds p (typed_functions ds p t.typed).functions c.top-id-items.result.now (texts_of c.new-names.result.keys)
      (c.top-id-items.ensures.tops ∙ ap (λ N. N.tops) c.tree.ensures.tree) t.holds (no_texts c.new-names.result.keys c.new-names.ensures.len);
}

pub put_declared-requires-clause-id : goal.put_declared-requires-clause-id
put_declared-requires-clause-id c =
    let (ds, p, f, t) = c.tree.ensures.right in
    let N = c.args.source.now.tree in
    one_of N c.top-id-items.result.now ds c.loop-id.id-index none (subst (λ is. StandDecls N is ds) (sym (c.top-id-items.ensures.tops ∙ ap (λ M. M.tops) c.tree.ensures.tree)) t.holds) c.loop-id-test.true

pub loop-id-preserved : goal.loop-id-preserved
loop-id-preserved c = record {
  put = c.in_ok-put_declared.ensures.last;
  left = λ ds p t. next c.args.source.now.tree (at_file (tags_of ds) p) p (typed_functions ds p t.typed).functions (annotations ds p) c.top-id-items.result.now c.loop-id.id-index none c.loop-id.count c.put_declared.new.count
      (texts_of c.loop-id.names.keys) (texts_of c.put_declared.new.names.keys) c.loop-id-test.true (c.loop-id.invariant.left ds p t) (λ d s. c.in_ok-put_declared.ensures.put ds p d t s);
}

pub returns : goal.returns
returns c = λ ds p t.
    subst (AreCuts (annotations ds p)) (sym c.in_ok-found.ensures)
    (at_end c.args.source.now.tree (at_file (tags_of ds) p) p (typed_functions ds p t.typed).functions (annotations ds p) c.top-id-items.result.now c.loop-id.id-index c.loop-id.count (texts_of c.loop-id.names.keys) c.loop-id-test.false
    (c.loop-id.invariant.left ds p t))
