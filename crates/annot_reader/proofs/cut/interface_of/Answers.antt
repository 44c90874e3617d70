use Rattle.std.proofs.Common.{List, map, sym, subst}
use Rattle.std.specs.List.{All}
use Rattle.c_types_program.specs.Declarations.{function_in}
use Rattle.c_types_program.specs.declared.function.Function.{Function}
use Rattle.c_types_source.specs.Sources.{GoesOn, IsTypedSource}
use Rattle.c_types_source.specs.declared.parts.Parts.{Parts as TypedSource}
use Rattle.c_types_source.proofs.Sourced.{stays_right}
use Rattle.annot_reader_rules.specs.Cuts.{annotations}
use Rattle.annot_reader.specs.declared.source.Heading.{Heading}
use Rattle.annot_reader.specs.Headings.{AreHeadings, IsHeading}
use Rattle.annot_reader.specs.Sources.{IsTypedFunction}
use Rattle.annot_reader_functions.specs.Seen.{declared_by}
use Rattle.annot_reader_functions.proofs.Staying.{kept_there}
use Rattle.annot_reader.proofs.Typed.{all_typed, goes_on, is_typed, raised_rule}
use Rattle.annot_reader.proofs.cut.interface_of.Goals as goal

pub headings_of-requires : goal.headings_of-requires
headings_of-requires c =
    let s = c.into_parts-tree.result in
    let (ds, p, f, h) = c.into_parts-tree.ensures.right in
    let t = subst (IsTypedSource ds p) (sym c.into_parts-tree.ensures.parts) h in
    subst (λ (fs : List Function). All (IsTypedFunction s.env.table) fs) (sym c.as_slice.ensures.items) (all_typed ds p s t)

pub interface-requires : goal.interface-requires
interface-requires c =
    let s = c.into_parts-tree.result in
    let (ds, p, f, h) = c.into_parts-tree.ensures.right in
    let t = subst (IsTypedSource ds p) (sym c.into_parts-tree.ensures.parts) h in
    let declared = declared_by s.env in
    let read = subst (λ (fs : List Function). AreHeadings declared c.in_ok-headings.headings.items (map (function_in s.env.table) fs)) c.as_slice.ensures.items c.in_ok-headings.ensures.functions in
    let numbers = subst (λ (hs : List Heading). All (IsHeading declared) hs) (sym c.as_slice-2.ensures.value) c.in_ok-headings.ensures.numbers in
    let functions = subst (λ (hs : List Heading). AreHeadings declared hs (map (function_in s.env.table) s.functions)) (sym c.as_slice-2.ensures.value) read in
    (ds, p, f, is_typed ds p s t c.as_slice-2.result.now numbers functions)

pub returns-in_err-iface-clause-interface : goal.returns-in_err-iface-clause-interface
returns-in_err-iface-clause-interface c = λ ds p h.
    let s = c.into_parts-tree.result in
    let t = subst (IsTypedSource ds p) (sym c.into_parts-tree.ensures.parts) h in
    let declared = declared_by s.env in
    let read = subst (λ (fs : List Function). AreHeadings declared c.in_ok-headings.headings.items (map (function_in s.env.table) fs)) c.as_slice.ensures.items c.in_ok-headings.ensures.functions in
    let numbers = subst (λ (hs : List Heading). All (IsHeading declared) hs) (sym c.as_slice-2.ensures.value) c.in_ok-headings.ensures.numbers in
    let functions = subst (λ (hs : List Heading). AreHeadings declared hs (map (function_in s.env.table) s.functions)) (sym c.as_slice-2.ensures.value) read in
    raised_rule c.args.cut.now (annotations ds p) _ c.in_err-iface.field-0.0 c.from_residual-in_err-iface.ensures.1
    (c.in_err-iface.ensures.interface ds p (is_typed ds p s t c.as_slice-2.result.now numbers functions))

pub new-source-requires : goal.new-source-requires
new-source-requires c =
    let s = c.into_parts-tree.result in
    let (ds, p, f, h) = c.into_parts-tree.ensures.right in
    let t = subst (IsTypedSource ds p) (sym c.into_parts-tree.ensures.parts) h in
    stays_right s (record s { env = c.interface.new.env }) (ds, p, f, t) (goes_on s c.interface.new.env (kept_there _ _ c.in_ok-iface.ensures.kept))

pub returns-clause-interface : goal.returns-clause-interface
returns-clause-interface c = λ ds p h.
    let s = c.into_parts-tree.result in
    let t = subst (IsTypedSource ds p) (sym c.into_parts-tree.ensures.parts) h in
    let declared = declared_by s.env in
    let read = subst (λ (fs : List Function). AreHeadings declared c.in_ok-headings.headings.items (map (function_in s.env.table) fs)) c.as_slice.ensures.items c.in_ok-headings.ensures.functions in
    let numbers = subst (λ (hs : List Heading). All (IsHeading declared) hs) (sym c.as_slice-2.ensures.value) c.in_ok-headings.ensures.numbers in
    let functions = subst (λ (hs : List Heading). AreHeadings declared hs (map (function_in s.env.table) s.functions)) (sym c.as_slice-2.ensures.value) read in
    c.in_ok-iface.ensures.interface ds p (is_typed ds p s t c.as_slice-2.result.now numbers functions)

pub returns-clause-kept : goal.returns-clause-kept
returns-clause-kept c =
    let s = c.into_parts-tree.result in
    let k = goes_on s c.interface.new.env (kept_there _ _ c.in_ok-iface.ensures.kept) in
    subst (GoesOn c.args.source) (sym c.new-source.ensures) (subst (λ (r : TypedSource). GoesOn r (record s { env = c.interface.new.env })) c.into_parts-tree.ensures.parts k)
