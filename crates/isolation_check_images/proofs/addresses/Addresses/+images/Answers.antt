use Rattle.std.proofs.Common.{◌≡◌, ◌<◌, ◌+◌, ◌-◌, ◌^◌, ◌++◌, ℕ, List, Some, None, min, sym, ap, ◌∙◌, rules, arith}
use Rattle.std.specs.Prelude.{option_map, replicate, slice_get}
use Rattle.marks.specs.Ranges.{bytes_of_number}
use Rattle.c_types_model.specs.Types.{StructOf}
use Rattle.c_types_table.specs.Tables.{type_at}
use Rattle.c_types_rules.specs.Initials as tree
use Rattle.c_types_rules.specs.Initials.{types_in}
use Rattle.c_types_program.specs.declared.global.Initial.{Initial}
use Rattle.c_types_program.specs.Declarations.{initial_in, initials_in}
use Rattle.c_semantics.specs.Context.{member_offset, size_of}
use Rattle.stub_operations.proofs.Growing.{two}
use Rattle.isolation_check_rules.specs.Images.{image, padded}
use Rattle.isolation_check_images.proofs.Bytes.{same}
use Rattle.isolation_check_images.proofs.Steps.{listed_step, members_none, members_step}
use Rattle.isolation_check_images.proofs.Structs.{offset_here, size_here}
use Rattle.isolation_check_images.proofs.Weights.{initial_weight, initials_weight, listed_means, one_lighter}
use Rattle.isolation_check_images.proofs.addresses.Addresses.+images.Goals as goal

pub elements-image-requires : goal.elements-image-requires
elements-image-requires t c =
    let one : initial_weight (initial_in c.index-values-i.result) + 3 < initials_weight (initials_in c.args.values.now) =
    one_lighter c.args.values.now c.loop-i.i c.index-values-i.result (omega arith) c.index-values-i.is in
    let smaller : initial_weight (initial_in c.index-values-i.result) < 3 + initials_weight (initials_in c.args.values.now) = omega arith in
    search rules

pub image-listed-requires : goal.image-listed-requires
image-listed-requires t c =
    let means : tree.Listed (initials_in c.deref.result.now) ≡ initial_in c.args.value.now =
    ap (λ (xs : List Initial). tree.Listed (initials_in xs)) c.deref.ensures.value ∙ (sym (listed_means c.in-Listed.values) ∙ ap initial_in (sym c.in-Listed.is)) in
    let smaller : 4 + initials_weight (initials_in c.deref.result.now) < initial_weight (initial_in c.args.value.now) = omega (arith, ap initial_weight means) in
    search rules

pub image-returns-in-Scalar : goal.image-returns-in-Scalar
image-returns-in-Scalar t c = λ s h.
    (let ty = type_at c.args.self.index.now.table.types c.args.ty in
    let size : c.size_of-size.result ≡ size_of s ty = c.size_of-size.ensures ∙ size_here c.args.self.index.now c.args.self.strings.now c.args.self.globals.now s ty h in
    same (ap (λ (n : ℕ). bytes_of_number n c.value.result) size ∙ (ap (bytes_of_number (size_of s ty)) (c.value.ensures s h) ∙ ap (λ (x : Initial). image s (initial_in x) ty) (sym c.in-Scalar.is)))
    c.put_number.ensures)

pub image-returns-in-Bytes : goal.image-returns-in-Bytes
image-returns-in-Bytes t c = λ s h.
    (let ty = type_at c.args.self.index.now.table.types c.args.ty in
    let bytes = c.as_slice-bytes.result.now in
    let size : c.size_of-size.result ≡ size_of s ty = c.size_of-size.ensures ∙ size_here c.args.self.index.now c.args.self.strings.now c.args.self.globals.now s ty h in
    same (ap (λ (n : ℕ). bytes ++ replicate n 0) c.saturating_sub.ensures ∙ (ap (λ (n : ℕ). padded n bytes) size ∙ (ap (padded (size_of s ty)) c.as_slice-bytes.ensures.bytes ∙ ap (λ (x : Initial). image s (initial_in x) ty) (sym c.in-Bytes.is))))
    (two c.put.ensures c.put_zeros.ensures))

pub image-returns-in-Listed : goal.image-returns-in-Listed
image-returns-in-Listed t c = λ s h.
    (let ty = type_at c.args.self.index.now.table.types c.args.ty in
    let size : c.size_of-size.result ≡ size_of s ty = c.size_of-size.ensures ∙ size_here c.args.self.index.now c.args.self.strings.now c.args.self.globals.now s ty h in
    let means : tree.Listed (initials_in c.deref.result.now) ≡ initial_in c.args.value.now =
    ap (λ (xs : List Initial). tree.Listed (initials_in xs)) c.deref.ensures.value ∙ (sym (listed_means c.in-Listed.values) ∙ ap initial_in (sym c.in-Listed.is)) in
    let zeros : c.saturating_sub-in-Listed-2.result ≡ c.size_of-size.result - (c.len.result - c.len-start.result) =
    c.saturating_sub-in-Listed-2.ensures ∙ ap (λ (n : ℕ). c.size_of-size.result - n) c.saturating_sub-in-Listed.ensures in
    same (ap (λ (x : tree.Initial). image s x ty) means)
    (listed_step s (initials_in c.deref.result.now) ty c.size_of-size.result c.len-start.result c.len.result size c.len-start.ensures c.len.ensures
    (c.listed.ensures s h) (same (ap (λ (n : ℕ). replicate n 0) zeros) c.put_zeros-in-Listed.ensures)))

pub member-returns-clause-end : goal.member-returns-clause-end
member-returns-clause-end t c = λ s h.
    (let ty = type_at c.args.self.index.now.table.types c.args.ty in
    c.saturating_add.ensures ∙ ap (λ (n : ℕ). min (c.args.offset + n) (2 ^ 64 - 1)) (c.size_of.ensures ∙ size_here c.args.self.index.now c.args.self.strings.now c.args.self.globals.now s ty h))

pub members-returns-in_default : goal.members-returns-in_default
members-returns-in_default t c = λ s h.
    (let types = types_in s.program.structs c.args.number.0 in
    let inv = c.loop-i.invariant s h in
    let none : slice_get types c.loop-i.i ≡ None = sym (c.member_type.ensures.types s h) ∙ ap (option_map (type_at c.args.self.index.now.table.types)) c.in_default.is in
    inv.2 c.loop-i.out (members_none s c.args.values.now c.loop-i.i c.args.number.0 types inv.0 none c.loop-i.out))

pub members-member-after-requires : goal.members-member-after-requires
members-member-after-requires t c =
    let one : initial_weight (initial_in c.index-values-i.result) + 3 < initials_weight (initials_in c.args.values.now) =
    one_lighter c.args.values.now c.loop-i.i c.index-values-i.result (omega arith) c.index-values-i.is in
    let smaller : 1 + initial_weight (initial_in c.index-values-i.result) < 3 + initials_weight (initials_in c.args.values.now) = omega arith in
    let inside = c.in-Some.ensures.inside in
    search rules

pub members-loop-i-preserved : goal.members-loop-i-preserved
members-loop-i-preserved t c = λ s h.
    (let p = c.args.self.index.now in
    let number = c.args.number.0 in
    let types = types_in s.program.structs number in
    let ty = type_at p.table.types c.in-Some.member in
    let inv = c.loop-i.invariant s h in
    let there : slice_get types c.loop-i.i ≡ Some ty = sym (c.in-Some.ensures.types s h) in
    let at : c.member_offset-offset.result ≡ member_offset s (StructOf number) c.loop-i.i =
    c.member_offset-offset.ensures
    ∙ (offset_here p c.args.self.strings.now c.args.self.globals.now s (type_at p.table.types c.args.ty) c.loop-i.i h
    ∙ ap (λ u. member_offset s u c.loop-i.i) c.requires.is_struct) in (
      c.member_offset-offset.result + size_of s ty,
      c.member-after.ensures.end s h,
      λ q g. inv.2 q (members_step s c.args.values.now c.loop-i.i c.index-values-i.result number types ty c.member_offset-offset.result c.loop-i.after inv.0
          (omega arith) c.index-values-i.is there at (omega arith) inv.1 (c.member-after.ensures.bytes s h) g),
    ))
