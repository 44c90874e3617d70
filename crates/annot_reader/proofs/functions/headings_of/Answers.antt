use Rattle.std.proofs.Common.{List, [], ◌∷◌, ◌++◌, ◌+◌, map, take, sym, subst}
use Rattle.std.specs.List.{All}
use Rattle.c_types_rules.specs.Sources.{Function as Known}
use Rattle.c_types_program.specs.declared.function.Function.{Function}
use Rattle.c_types_program.specs.Declarations.{function_in}
use Rattle.annot_reader.specs.declared.source.Heading.{Heading}
use Rattle.annot_reader.specs.Headings.{AreHeadings, IsHeading, IsHeadingOf}
use Rattle.annot_reader_functions.specs.Seen.{declared_by}
use Rattle.annot_reader.proofs.Headings.{all_push, headings_after, map_more}
use Rattle.annot_reader.proofs.functions.headings_of.Goals as goal

pub loop-function-preserved : goal.loop-function-preserved
loop-function-preserved c =
    let d = declared_by c.args.env.now in
    let t = c.args.env.now.table in
    let fs = c.args.functions.now in
    let k = c.loop-function.function-index in
    let old = c.loop-function.headings.items in
    let h = c.in_ok-heading.field-0 in
    let f = c.function-item.result in
    let items = c.in_ok-push.ensures.items in
    let known = subst (λ (g : Function). IsHeadingOf d h (function_in t g)) c.function-item.is c.in_ok-heading.ensures.function in (
      subst (λ (hs : List Heading). All (IsHeading d) hs) (sym items) (all_push (IsHeading d) old h c.loop-function.invariant.0 c.in_ok-heading.ensures.number),
      subst (λ (hs : List Heading). AreHeadings d hs (map (function_in t) (take (k + 1) fs))) (sym items)
          (subst (λ (gs : List Known). AreHeadings d (old ++ h ∷ []) gs) (sym (map_more t fs k f c.loop-function-test.true)) (headings_after d old _ h _ c.loop-function.invariant.1 known)),
    )
