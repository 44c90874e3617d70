use Rattle.std.proofs.Common.{◌≡◌, ◌+◌, List, [], ◌∷◌, ◌++◌, drop, true, Ok, Err, refl, sym, ap, ◌∙◌, subst, arith}
use Rattle.c_types_environment.specs.States.{notes_of}
use Rattle.std.specs.Prelude.{replicate}
use Rattle.std.specs.Result.{is_ok}
use Rattle.c_types_operators.specs.declared.error.TypeError.TheVariants.{Rule}
use Rattle.c_syntax.specs.declared.declaration.Value.{Value}
use Rattle.c_syntax.specs.Stands.{StandValues, StandsValue}
use Rattle.c_syntax.specs.Syntax.{Value as Written}
use Rattle.c_types_table.specs.declared.ty.Ty.{Ty}
use Rattle.c_types_table.specs.Tables.{made, type_at, types_of}
use Rattle.c_types_rules.specs.Initials.{elements, initial, members, types_in}
use Rattle.c_types_program.specs.declared.global.Initial.{Initial}
use Rattle.c_types_expressions.specs.Found.{Finds}
use Rattle.c_types_expressions.proofs.Kept.{then_stay, type_inside}
use Rattle.c_types_initializers.specs.Values.{AreValues, IsInitial, IsValue}
use Rattle.c_types_initializers.proofs.Depths.{held_lower, one_lower}
use Rattle.c_types_initializers.proofs.Listing.{InVector, as_elements, by_array, by_struct, element_type, listed_found, member_type, missing, no_member_type, value_off, value_on, value_too_many, values_read, pushed}
use Rattle.c_types_initializers.proofs.Rests.{RestOfValues, no_element_at}
use Rattle.c_types_initializers.proofs.Scalars.{handed_on}
use Rattle.c_types_initializers.proofs.Written.{braces_are, braces_open, one_among, plain_is, plain_open, value_braces, value_plain}
use Rattle.c_types_initializers.proofs.initials.+values.Goals as goal

-- ---- elements

pub elements-start_of_value-requires : goal.elements-start_of_value-requires
elements-start_of_value-requires t c =
    let d = c.index-values-place.result in
    subst (λ (v : Value). IsValue c.args.tree.now v) (sym c.index-values-place.is) (one_among c.args.tree.now c.args.values.now c.loop-place.place d c.requires.values c.loop-place-test.true)

pub elements-returns-then-place-count-clause-agrees : goal.elements-returns-then-place-count-clause-agrees
elements-returns-then-place-count-clause-agrees t c xs s =
    let N = c.args.tree.now in
    let a = c.args.env.now in
    let b = c.loop-place.env in
    let k = c.loop-place.place in
    let d = c.index-values-place.result in
    let type = type_at a.table.types c.args.element in
    let from = c.start_of_value.result in
    as_elements a b xs c.args.count type (Err (Rule from 16))
    (value_too_many N a b c.args.values.now k xs (replicate c.args.count type) c.loop-place.found.items c.loop-place.invariant.kept (c.loop-place.invariant.rest xs s) d c.loop-place-test.true from
    (no_element_at c.args.count k type c.if-place-count.true) (λ x q. c.start_of_value.ensures x (subst (λ (v : Value). StandsValue N v x) (sym c.index-values-place.is) q)))

pub elements-initial-requires : goal.elements-initial-requires
elements-initial-requires t c =
    let vs = c.args.values.now in
    let k = c.loop-place.place in
    let d = c.index-values-place.result in (
      omega (arith, one_lower vs k d d c.index-values-place.is c.loop-place-test.true),
      (
        subst (λ (v : Value). IsValue c.args.tree.now v) (sym c.index-values-place.is) (one_among c.args.tree.now vs k d c.requires.values c.loop-place-test.true),
        type_inside c.args.env.now.table c.loop-place.env.table c.args.element c.loop-place.invariant.kept.numbers c.requires.element,
      ),
    )

pub elements-returns-in_err-one-clause-agrees : goal.elements-returns-in_err-one-clause-agrees
elements-returns-in_err-one-clause-agrees t c xs s =
    let N = c.args.tree.now in
    let a = c.args.env.now in
    let b = c.loop-place.env in
    let n = c.initial.new.env in
    let k = c.loop-place.place in
    let d = c.index-values-place.result in
    let type = type_at a.table.types c.args.element in
    let kept = c.loop-place.invariant.kept in
    let wrong = c.in_err-one.field-0.0 in
    handed_on (notes_of a) (notes_of n) InVector (elements xs a.env c.args.count type) c.from_residual-in_err-one.result wrong c.from_residual-in_err-one.ensures.1
    (as_elements a n xs c.args.count type (Err wrong)
    (value_off N a b c.args.values.now k xs (replicate c.args.count type) c.loop-place.found.items kept (c.loop-place.invariant.rest xs s) d c.loop-place-test.true c.args.element
    (element_type a b c.args.count k c.args.element kept c.requires.element c.if-place-count.false) n wrong (λ x q. c.in_err-one.ensures.agrees x (subst (λ (v : Value). StandsValue N v x) (sym c.index-values-place.is) q))))

pub elements-returns-in_err-one-clause-kept : goal.elements-returns-in_err-one-clause-kept
elements-returns-in_err-one-clause-kept t c = then_stay _ _ _ c.loop-place.invariant.kept c.in_err-one.ensures.kept

pub elements-returns-in_err-map_err-clause-kept : goal.elements-returns-in_err-map_err-clause-kept
elements-returns-in_err-map_err-clause-kept t c = then_stay _ _ _ c.loop-place.invariant.kept c.in_ok-one.ensures.kept

pub elements-loop-place-preserved : goal.elements-loop-place-preserved
elements-loop-place-preserved t c =
    let N = c.args.tree.now in
    let a = c.args.env.now in
    let b = c.loop-place.env in
    let n = c.initial.new.env in
    let k = c.loop-place.place in
    let vs = c.args.values.now in
    let d = c.index-values-place.result in
    let all = replicate c.args.count (type_at a.table.types c.args.element) in
    let kept = c.loop-place.invariant.kept in
    let one = c.in_ok-one.one in
    let ok : is_ok c.push.result ≡ true = cc c.in_ok-map_err.ensures.variant in
    let items : c.push.new.self.items ≡ c.loop-place.found.items ++ one ∷ [] = pushed c.push.result c.loop-place.found.items (c.loop-place.found.items ++ one ∷ []) ok c.push.ensures.items in
    record {
      kept = then_stay _ _ _ kept c.in_ok-one.ensures.kept;
      rest = λ xs s. subst (λ (l : List Initial). RestOfValues N a.env (notes_of a) (notes_of n) (drop (k + 1) vs) (drop (k + 1) all) xs all l) (sym items)
          (value_on N a b vs k xs all c.loop-place.found.items kept (c.loop-place.invariant.rest xs s) d c.loop-place-test.true c.args.element
          (element_type a b c.args.count k c.args.element kept c.requires.element c.if-place-count.false) n one (λ x q. c.in_ok-one.ensures.agrees x (subst (λ (v : Value). StandsValue N v x) (sym c.index-values-place.is) q)));
    }

pub elements-returns-clause-agrees : goal.elements-returns-clause-agrees
elements-returns-clause-agrees t c xs s =
    let a = c.args.env.now in
    let b = c.loop-place.env in
    let type = type_at a.table.types c.args.element in
    as_elements a b xs c.args.count type (Ok c.loop-place.found)
    (values_read c.args.tree.now a b c.args.values.now c.loop-place.place xs (replicate c.args.count type) c.loop-place.found.items c.loop-place.invariant.kept (c.loop-place.invariant.rest xs s) c.loop-place.found refl c.loop-place-test.false)

-- ---- a value

pub initial-plain_initial-requires-clause-id : goal.initial-plain_initial-requires-clause-id
initial-plain_initial-requires-clause-id t c =
    let v = c.args.value.now in
    plain_is c.args.tree.now v c.in-Plain.id c.requires.value (plain_open v c.in-Plain.id c.in-Plain.is)

pub initial-listed-requires : goal.initial-listed-requires
initial-listed-requires t c =
    let v = c.args.value.now in
    let g = c.in-Braces.from in
    let w = c.in-Braces.values in (
      omega (arith, held_lower v g w c.deref.result.now c.in-Braces.is c.deref.ensures.value),
      (
        subst (AreValues c.args.tree.now) (sym c.deref.ensures.value) (braces_are c.args.tree.now v g w c.requires.value (braces_open v g w c.in-Braces.is)),
        c.requires.ty,
      ),
    )

pub initial-returns-in-Plain-clause-agrees : goal.initial-returns-in-Plain-clause-agrees
initial-returns-in-Plain-clause-agrees t c x h =
    let a = c.args.env.now in
    let v = c.args.value.now in
    let p = value_plain c.args.tree.now v c.in-Plain.id x h (plain_open v c.in-Plain.id c.in-Plain.is) in
    subst (λ (z : Written). Finds a c.plain_initial.new.env IsInitial (initial z a.env (type_at a.table.types c.args.ty)) c.plain_initial.result) (sym p.1) (c.plain_initial.ensures.agrees p.0 p.2)

pub initial-returns-in-Braces-clause-agrees : goal.initial-returns-in-Braces-clause-agrees
initial-returns-in-Braces-clause-agrees t c x h =
    let N = c.args.tree.now in
    let a = c.args.env.now in
    let v = c.args.value.now in
    let w = c.in-Braces.values in
    let p = value_braces N v c.in-Braces.from w x h (braces_open v c.in-Braces.from w c.in-Braces.is) in
    subst (λ (z : Written). Finds a c.listed.new.env IsInitial (initial z a.env (type_at a.table.types c.args.ty)) c.listed.result) (sym p.1)
    (c.listed.ensures.agrees p.0 (subst (λ (l : List Value). StandValues N l p.0) (sym c.deref.ensures.value) p.2))

pub listed-returns-in_ok-elements-in-Array-clause-agrees :
    goal.listed-returns-in_ok-elements-in-Array-clause-agrees
listed-returns-in_ok-elements-in-Array-clause-agrees t c xs s =
    let a = c.args.env.now in
    let same : c.types.result.now ≡ a.table.types = c.types.ensures ∙ ap (λ t. t.types) c.table.ensures in
    let is : type_at a.table.types c.args.ty ≡ made (types_of a.table.types) c.get.result.now = subst (λ (z : List Ty). type_at z c.args.ty ≡ made (types_of z) c.get.result.now) same (sym c.get.ensures.meaning) in
    listed_found a c.elements.new.env xs c.args.from c.in_ok-elements-in-Array.field-0 (type_at a.table.types c.args.ty) (elements xs a.env c.in-Array.length (type_at a.table.types c.in-Array.element))
    (by_array xs a.env c.args.from (type_at a.table.types c.args.ty) (types_of a.table.types) c.get.result.now c.in-Array.element c.in-Array.length is c.in-Array.is) (c.in_ok-elements-in-Array.ensures.agrees xs s)

pub listed-returns-in_ok-members-in-Struct-clause-agrees :
    goal.listed-returns-in_ok-members-in-Struct-clause-agrees
listed-returns-in_ok-members-in-Struct-clause-agrees t c xs s =
    let a = c.args.env.now in
    let same : c.types.result.now ≡ a.table.types = c.types.ensures ∙ ap (λ t. t.types) c.table.ensures in
    let is : type_at a.table.types c.args.ty ≡ made (types_of a.table.types) c.get.result.now = subst (λ (z : List Ty). type_at z c.args.ty ≡ made (types_of z) c.get.result.now) same (sym c.get.ensures.meaning) in
    listed_found a c.members.new.env xs c.args.from c.in_ok-members-in-Struct.field-0 (type_at a.table.types c.args.ty) (members xs a.env (types_in a.env.structs c.in-Struct.number.0))
    (by_struct xs a.env c.args.from (type_at a.table.types c.args.ty) (types_of a.table.types) c.get.result.now c.in-Struct.number is c.in-Struct.is) (c.in_ok-members-in-Struct.ensures.agrees xs s)

-- ---- members

pub members-start_of_value-requires : goal.members-start_of_value-requires
members-start_of_value-requires t c =
    let d = c.index-values-place.result in
    subst (λ (v : Value). IsValue c.args.tree.now v) (sym c.index-values-place.is) (one_among c.args.tree.now c.args.values.now c.loop-place.place d c.requires.values c.loop-place-test.true)

pub members-returns-in_default-clause-agrees : goal.members-returns-in_default-clause-agrees
members-returns-in_default-clause-agrees t c xs s =
    let N = c.args.tree.now in
    let a = c.args.env.now in
    let b = c.loop-place.env in
    let k = c.loop-place.place in
    let d = c.index-values-place.result in
    let all = types_in a.env.structs c.args.number.0 in
    value_too_many N a b c.args.values.now k xs all c.loop-place.found.items c.loop-place.invariant.kept (c.loop-place.invariant.rest xs s) d c.loop-place-test.true c.start_of_value.result
    (no_member_type a b c.args.number.0 k c.member_type.result c.loop-place.invariant.kept c.member_type.ensures.ty (missing c.member_type.result c.in_default.not-Some))
    (λ x q. c.start_of_value.ensures x (subst (λ (v : Value). StandsValue N v x) (sym c.index-values-place.is) q))

pub members-initial-requires : goal.members-initial-requires
members-initial-requires t c =
    let vs = c.args.values.now in
    let k = c.loop-place.place in
    let d = c.index-values-place.result in (
      omega (arith, one_lower vs k d d c.index-values-place.is c.loop-place-test.true),
      (
        subst (λ (v : Value). IsValue c.args.tree.now v) (sym c.index-values-place.is) (one_among c.args.tree.now vs k d c.requires.values c.loop-place-test.true),
        c.in-Some.ensures.inside,
      ),
    )

pub members-returns-in_err-one-clause-agrees : goal.members-returns-in_err-one-clause-agrees
members-returns-in_err-one-clause-agrees t c xs s =
    let N = c.args.tree.now in
    let a = c.args.env.now in
    let b = c.loop-place.env in
    let n = c.initial.new.env in
    let k = c.loop-place.place in
    let d = c.index-values-place.result in
    let all = types_in a.env.structs c.args.number.0 in
    let kept = c.loop-place.invariant.kept in
    let wrong = c.in_err-one.field-0.0 in
    handed_on (notes_of a) (notes_of n) InVector (members xs a.env all) c.from_residual-in_err-one.result wrong c.from_residual-in_err-one.ensures.1
    (value_off N a b c.args.values.now k xs all c.loop-place.found.items kept (c.loop-place.invariant.rest xs s) d c.loop-place-test.true c.in-Some.ty
    (member_type a b c.args.number.0 k c.member_type.result c.in-Some.ty kept c.member_type.ensures.ty c.in-Some.is) n wrong (λ x q. c.in_err-one.ensures.agrees x (subst (λ (v : Value). StandsValue N v x) (sym c.index-values-place.is) q)))

pub members-returns-in_err-one-clause-kept : goal.members-returns-in_err-one-clause-kept
members-returns-in_err-one-clause-kept t c = then_stay _ _ _ c.loop-place.invariant.kept c.in_err-one.ensures.kept

pub members-returns-in_err-map_err-clause-kept : goal.members-returns-in_err-map_err-clause-kept
members-returns-in_err-map_err-clause-kept t c = then_stay _ _ _ c.loop-place.invariant.kept c.in_ok-one.ensures.kept

pub members-loop-place-preserved : goal.members-loop-place-preserved
members-loop-place-preserved t c =
    let N = c.args.tree.now in
    let a = c.args.env.now in
    let b = c.loop-place.env in
    let n = c.initial.new.env in
    let k = c.loop-place.place in
    let vs = c.args.values.now in
    let d = c.index-values-place.result in
    let all = types_in a.env.structs c.args.number.0 in
    let kept = c.loop-place.invariant.kept in
    let one = c.in_ok-one.one in
    let ok : is_ok c.push.result ≡ true = cc c.in_ok-map_err.ensures.variant in
    let items : c.push.new.self.items ≡ c.loop-place.found.items ++ one ∷ [] = pushed c.push.result c.loop-place.found.items (c.loop-place.found.items ++ one ∷ []) ok c.push.ensures.items in
    record {
      kept = then_stay _ _ _ kept c.in_ok-one.ensures.kept;
      rest = λ xs s. subst (λ (l : List Initial). RestOfValues N a.env (notes_of a) (notes_of n) (drop (k + 1) vs) (drop (k + 1) all) xs all l) (sym items)
          (value_on N a b vs k xs all c.loop-place.found.items kept (c.loop-place.invariant.rest xs s) d c.loop-place-test.true c.in-Some.ty
          (member_type a b c.args.number.0 k c.member_type.result c.in-Some.ty kept c.member_type.ensures.ty c.in-Some.is) n one (λ x q. c.in_ok-one.ensures.agrees x (subst (λ (v : Value). StandsValue N v x) (sym c.index-values-place.is) q)));
    }

pub members-returns-clause-agrees : goal.members-returns-clause-agrees
members-returns-clause-agrees t c xs s =
    let a = c.args.env.now in
    values_read c.args.tree.now a c.loop-place.env c.args.values.now c.loop-place.place xs (types_in a.env.structs c.args.number.0) c.loop-place.found.items c.loop-place.invariant.kept (c.loop-place.invariant.rest xs s) c.loop-place.found refl c.loop-place-test.false
