use Rattle.std.proofs.Common.{sym, subst}
use Rattle.c_syntax.specs.Stands.{StandParts}
use Rattle.annot_reader_rules.specs.Functions.{declared_later}
use Rattle.annot_reader_words.specs.Answers.{Unsaid}
use Rattle.annot_reader_words.proofs.Composing.{raised}
use Rattle.annot_reader_words.proofs.Later.{Found, in_outer, in_rest}
use Rattle.annot_reader_words.proofs.again.declared_later.Goals as goal

pub returns-in_err-bare_parts : goal.returns-in_err-bare_parts
returns-in_err-bare_parts c = λ d h.
    let N = c.args.tree.now in
    let v = c.decl_node-decl.result.now in
    let e = c.in_err-bare_parts.field-0.0 in
    let f : Found N v c.as_slice-2.result.now c.split_parts.result.1.now c.split_parts.result.0.now = record {
      same_annots = c.as_slice-2.ensures.items;
      own_parts = λ ps s. c.split_parts.ensures.own N ps (subst (λ vs. StandParts N vs ps) (sym c.as_slice.ensures.items) s);
      outer_parts = λ ps s. c.split_parts.ensures.outer N ps (subst (λ vs. StandParts N vs ps) (sym c.as_slice.ensures.items) s);
    } in
    raised Unsaid (declared_later d) c.from_residual-in_err-bare_parts.result e c.from_residual-in_err-bare_parts.ensures.1
    (in_outer N v c.as_slice-2.result.now c.split_parts.result.1.now c.split_parts.result.0.now f d e (c.decl_node-decl.ensures.shows d h) (c.in_ok-nothing_again.ensures N) c.in_ok-none_again.ensures c.in_err-bare_parts.ensures)

pub returns : goal.returns
returns c = λ d h.
    let N = c.args.tree.now in
    let v = c.decl_node-decl.result.now in
    let f : Found N v c.as_slice-2.result.now c.split_parts.result.1.now c.split_parts.result.0.now = record {
      same_annots = c.as_slice-2.ensures.items;
      own_parts = λ ps s. c.split_parts.ensures.own N ps (subst (λ vs. StandParts N vs ps) (sym c.as_slice.ensures.items) s);
      outer_parts = λ ps s. c.split_parts.ensures.outer N ps (subst (λ vs. StandParts N vs ps) (sym c.as_slice.ensures.items) s);
    } in
    in_rest N v c.as_slice-2.result.now c.split_parts.result.1.now c.split_parts.result.0.now f d c.bare_rest.result (c.decl_node-decl.ensures.shows d h) (c.in_ok-nothing_again.ensures N) c.in_ok-none_again.ensures c.in_ok-bare_parts.ensures c.bare_rest.ensures
