use Rattle.std.proofs.Common.{◌≡◌, ◌++◌, ◌<◌, ◌≤◌, ◌^◌, [], ◌∷◌, ℕ, suc, min, List, length, length-append, drop, append_assoc, refl, sym, ap, ◌∙◌, subst, arith}
use Rattle.std.specs.List.{All}
use Rattle.c_types_model.specs.declared.extent.Extent.{Extent}
use Rattle.c_types_table.specs.declared.ids.TypeId.{TypeId}
use Rattle.c_types_table.specs.Tables.{IsBelow}
use Rattle.c_types_structs.specs.Members.{members_at}
use Rattle.c_types_model.specs.Layouts.{offsets_from}
use Rattle.c_types_program.specs.Declarations.{types_in}
use Rattle.c_lower_layout.specs.Indexed.{extents_at, member_ids, offsets_at, offsets_by}
use Rattle.c_lower_layout.proofs.Placing.{members_below, offsets_first, offsets_next}
use Rattle.c_lower_layout.proofs.structs.member_offsets.Goals as goal

pub row_of-requires-clause-inside : goal.row_of-requires-clause-inside
row_of-requires-clause-inside c =
    let n = length c.args.types.now in
    let mss = c.args.structs.now.members in
    let ids : member_ids (members_at mss c.in-Some.number) ≡ c.deref.result.now = sym (c.deref.ensures.value ∙ c.in_ok-ids.ensures) in
    subst (λ (ts : List TypeId). All (IsBelow n) ts) ids (members_below n c.in-Some.number mss c.requires.inside)

pub loop-number-preserved : goal.loop-number-preserved
loop-number-preserved c =
    let types = c.args.types.now in
    let ds = c.args.structs.now in
    let before = c.loop-number.offsets.items in
    let n = length before in
    let extents : c.extents-extents.result.now ≡ ds.extents = c.extents-extents.ensures in
    let number : c.in-Some.number ≡ n = omega (arith, c.in-Some.ensures.some.0, c.len.ensures, c.loop-number.offsets.ok.0) in
    let lt : n < length ds.extents = omega (arith, number, c.in-Some.ensures.some.1, ap length extents) in
    let longer : length c.push.new.self.items ≡ suc n = ap length c.in_ok-push.ensures.items ∙ (length-append before (c.from.result ∷ []) ∙ omega arith) in
    let rest = offsets_by types ds (suc n) (drop (suc n) ds.extents) in
    let offsets : c.from.result ≡ offsets_at types ds n =
    c.from.ensures ∙ (c.in_ok-row.ensures.offsets
    ∙ (ap (λ (ts : List TypeId). offsets_from 0 (extents_at c.extents-extents.result.now (types_in types ts))) (c.deref.ensures.value ∙ c.in_ok-ids.ensures)
    ∙ (ap (λ (es : List Extent). offsets_from 0 (extents_at es (types_in types (member_ids (members_at ds.members c.in-Some.number))))) extents ∙ ap (offsets_at types ds) number))) in
    let next : offsets_by types ds n (drop n ds.extents) ≡ offsets_at types ds n ∷ rest = offsets_next types ds n n ds.extents lt in
    ap (λ (m : ℕ). c.push.new.self.items ++ offsets_by types ds m (drop m ds.extents)) longer
    ∙ (ap (λ (os : List (List ℕ)). os ++ rest) c.in_ok-push.ensures.items
    ∙ (append_assoc before (c.from.result ∷ []) rest
    ∙ (ap (λ (o : List ℕ). before ++ (o ∷ rest)) offsets
    ∙ (ap (λ (os : List (List ℕ)). before ++ os) (sym next) ∙ c.loop-number.invariant))))

pub returns : goal.returns
returns c =
    let ds = c.args.structs.now in
    let offsets = c.loop-number.offsets in
    let all : length c.extents-extents.result.now ≡ length ds.extents = ap length c.extents-extents.ensures in
    let enough : min (length ds.extents) (2 ^ 32) ≤ length offsets.items = omega (arith, c.in_default.ensures.none refl, all, c.len.ensures, offsets.ok.0) in
    offsets_first c.args.types.now ds offsets.items c.loop-number.invariant enough
