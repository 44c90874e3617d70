use Rattle.std.proofs.Common.{◌+◌, List, length, get_or, sym, ap, ◌∙◌, subst, arith, length-append}
use Rattle.std.proofs.lemmas.Option.{slice_get_within}
use Rattle.c_syntax.specs.declared.id.DeclId.{DeclId}
use Rattle.c_types_rules.specs.Environment.{extents}
use Rattle.annot_reader_functions.specs.declared.signature.Named.{Named}
use Rattle.annot_reader_functions.proofs.Composed.{is_decl}
use Rattle.annot_reader_functions.proofs.Listing.{decl_at}
use Rattle.annot_reader_functions.proofs.Naming.{Left, at_end, at_first, no_types, past_next}
use Rattle.annot_reader_functions.specs.Seen.{declared_by}
use Rattle.annot_reader_functions.proofs.named.named.Goals as goal

abbrev none : DeclId
none = record { 0 = 0 }

pub loop-place-init : goal.loop-place-init
loop-place-init c =
    let d = declared_by c.args.env.now in (
      λ ds h. subst (λ (done : List Named). Left (extents d.env) c.args.tree.now d.types c.args.ids.now c.args.types.now ds 0 done) (sym c.new-params.ensures.items)
          (at_first (extents d.env) c.args.tree.now d.types c.args.ids.now c.args.types.now ds h),
      ap length c.new-params.ensures.items,
      omega arith,
    )

pub decl_node-requires : goal.decl_node-requires
decl_node-requires c =
    is_decl c.args.tree.now (get_or c.args.ids.now c.loop-place.place none) (decl_at c.args.tree.now c.args.ids.now c.loop-place.place none c.requires.ids (omega arith))

pub loop-place-preserved : goal.loop-place-preserved
loop-place-preserved c =
    let d = declared_by c.args.env.now in
    let N = c.args.tree.now in
    let within = slice_get_within c.args.types.now c.loop-place.place c.in-Some.ty (sym c.in-Some.ensures) in
    let long = c.loop-place.invariant.1 in
    let items = c.in_ok-push.ensures.items in
    let one : Named = record { name = c.as_ref-name.result; sort = c.sort_of-sort.result } in (
      λ ds h. subst (λ (done : List Named). Left (extents d.env) N d.types c.args.ids.now c.args.types.now ds (c.loop-place.place + 1) done) (sym items)
          (past_next (extents d.env) N d.types c.args.ids.now c.args.types.now ds c.loop-place.place none c.in-Some.ty c.loop-place.params.items one c.decl_node.result.now (omega arith) (sym c.in-Some.ensures) (c.loop-place.invariant.0 ds h)
          c.as_ref-name.ensures.value c.sort_of-sort.ensures
          c.decl_node.ensures.shows),
      ap length items ∙ grind (arith, length-append, long),
      omega (arith, within),
    )

pub returns-in_default-clause-named : goal.returns-in_default-clause-named
returns-in_default-clause-named c = λ ds h.
    let d = declared_by c.args.env.now in
    no_types (extents d.env) c.args.tree.now d.types c.args.ids.now c.args.types.now ds c.loop-place.place c.loop-place.params.items (sym c.in_default.ensures) (c.loop-place.invariant.0 ds h)

pub returns-clause-named : goal.returns-clause-named
returns-clause-named c = λ ds h.
    let d = declared_by c.args.env.now in
    at_end (extents d.env) c.args.tree.now d.types c.args.ids.now c.args.types.now ds c.loop-place.place c.loop-place.params.items (omega arith) (c.loop-place.invariant.0 ds h)
