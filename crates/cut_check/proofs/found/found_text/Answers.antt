use Rattle.std.proofs.Common.{◌∙◌, sym, ap, arith}
use Rattle.std.specs.List.{flat_map}
use Rattle.std.proofs.lemmas.Result.{IfOk-weaker}
use Rattle.cut_check.specs.Flags.{ended_line}
use Rattle.cut_check.specs.Sources.{cut_of}
use Rattle.cut_check.proofs.Accepted.{known}
use Rattle.cut_check.proofs.Facts.{few, globals_declared, globals_mentioned, main_inside, mentioned}
use Rattle.cut_check.proofs.FlagLists.{as_slices}
use Rattle.cut_check.proofs.GuardTexts.{guards_text_is}
use Rattle.cut_check.proofs.Texts.{cut_text_is}
use Rattle.cut_check.proofs.found.found_text.Goals as goal

pub flags_of-requires-clause-functions : goal.flags_of-requires-clause-functions
flags_of-requires-clause-functions c =
    few c.requires.0 c.requires.1 c.args.source.now (known c.requires.0 c.requires.1 c.args.source.now c.requires.2)

pub flags_of-requires-clause-mentioned : goal.flags_of-requires-clause-mentioned
flags_of-requires-clause-mentioned c =
    let k = known c.requires.0 c.requires.1 c.args.source.now c.requires.2 in
    mentioned c.requires.0 c.requires.1 c.args.source.now k c.in_ok-mentions.mentions (c.in_ok-mentions.ensures k.program k.is.program)

pub flags_of-requires-clause-globals : goal.flags_of-requires-clause-globals
flags_of-requires-clause-globals c =
    let k = known c.requires.0 c.requires.1 c.args.source.now c.requires.2 in
    let few_globals = globals_mentioned c.requires.0 c.requires.1 c.args.source.now k c.in_ok-mentions.mentions (c.in_ok-mentions.ensures k.program k.is.program) in
    omega (arith, few_globals)

pub flags_of-requires-clause-main : goal.flags_of-requires-clause-main
flags_of-requires-clause-main c =
    main_inside c.requires.0 c.requires.1 c.args.source.now (known c.requires.0 c.requires.1 c.args.source.now c.requires.2)

pub findings-requires-clause-functions : goal.findings-requires-clause-functions
findings-requires-clause-functions c =
    let small = few c.requires.0 c.requires.1 c.args.source.now (known c.requires.0 c.requires.1 c.args.source.now c.requires.2) in
    omega (arith, small)

pub findings-requires-clause-mentions : goal.findings-requires-clause-mentions
findings-requires-clause-mentions c =
    let k = known c.requires.0 c.requires.1 c.args.source.now c.requires.2 in
    let same = mentioned c.requires.0 c.requires.1 c.args.source.now k c.in_ok-mentions.mentions (c.in_ok-mentions.ensures k.program k.is.program) in
    let small = few c.requires.0 c.requires.1 c.args.source.now k in
    omega (arith, same, small)

pub guards_text-requires-clause-functions : goal.guards_text-requires-clause-functions
guards_text-requires-clause-functions c =
    few c.requires.0 c.requires.1 c.args.source.now (known c.requires.0 c.requires.1 c.args.source.now c.requires.2)

pub guards_text-requires-clause-globals : goal.guards_text-requires-clause-globals
guards_text-requires-clause-globals c =
    let small = globals_declared c.requires.0 c.requires.1 c.args.source.now (known c.requires.0 c.requires.1 c.args.source.now c.requires.2) in
    omega (arith, small)

pub returns-then-is_none : goal.returns-then-is_none
returns-then-is_none c = λ bytes cut h.
    let source = c.args.source.now in
    let k = known bytes cut source h in
    let mine = cut_of cut k.program k.annotated in
    let flags = c.in_ok-flags.ensures.flags cut k.program k.annotated k.is (c.in_ok-mentions.ensures k.program k.is.program) in
    let given = as_slices source.program c.in_ok-mentions.mentions c.in_ok-flags.flags mine c.as_slice.result.now c.as_slice-2.result.now c.as_slice-3.result.now c.as_slice.ensures.value c.as_slice-2.ensures.value c.as_slice-3.ensures.value flags in
    IfOk-weaker c.guards_text.result _ _
    (λ text found. guards_text_is bytes cut source k c.in_ok-mentions.mentions c.as_slice.result.now c.as_slice-2.result.now c.as_slice-3.result.now c.in_ok-found.found.items text.items given
    (c.in_ok-found.ensures.findings mine given) (sym c.deref.ensures.value ∙ c.is_none.ensures.none c.if-is_none.true) found)
    (c.guards_text.ensures cut k.program k.annotated k.is)

pub returns : goal.returns
returns c = λ bytes cut h.
    let source = c.args.source.now in
    let k = known bytes cut source h in
    let mine = cut_of cut k.program k.annotated in
    let flags = c.in_ok-flags.ensures.flags cut k.program k.annotated k.is (c.in_ok-mentions.ensures k.program k.is.program) in
    let given = as_slices source.program c.in_ok-mentions.mentions c.in_ok-flags.flags mine c.as_slice.result.now c.as_slice-2.result.now c.as_slice-3.result.now c.as_slice.ensures.value c.as_slice-2.ensures.value c.as_slice-3.ensures.value flags in
    IfOk-weaker c.cut_text.result _ _
    (λ text e. cut_text_is bytes cut source k c.in_ok-found.found.items text.items (c.in_ok-found.ensures.findings mine given) c.in_ok-found.ensures.lines
    (λ none. c.is_none.ensures.some c.if-is_none.false (c.deref.ensures.value ∙ none)) (e ∙ ap (λ xs. flat_map ended_line xs) c.deref-2.ensures.value))
    c.cut_text.ensures
