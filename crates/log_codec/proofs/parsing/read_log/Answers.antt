use Rattle.std.proofs.lemmas.Bool.{eqb-true, eqb-false}
use Rattle.std.proofs.Common.{arith, sym, ◌∙◌, length, ◌≡◌, ◌<◌}
use Rattle.std.proofs.lemmas.Result.{err_from_is_err_and}
use Rattle.log_codec.proofs.Whole.{reads_head, head_stops, item_stops, chunk_leaves, end_leaves, end_stands, few, bytes_from}
use Rattle.log_codec.proofs.parsing.read_log.Goals as goal

pub returns-in_err-rest : goal.returns-in_err-rest
returns-in_err-rest c =
    let p = err_from_is_err_and c.from_residual.result c.from_residual.ensures.1 in
    rw (p.1, p.2, c.requires.none_yet) (head_stops c.in_err-rest.field-0.0 c.args.bytes.now (bytes_from c.args.bytes.now (λ i. omega (arith, c.type_inv.bytes i))) c.in_err-rest.ensures)

pub items-init : goal.items-init
items-init c = rw c.requires.none_yet (reads_head c.args.bytes.now c.in_ok-rest.rest.now (bytes_from c.args.bytes.now (λ i. omega (arith, c.type_inv.bytes i))) c.in_ok-rest.ensures)

pub item_at-requires : goal.item_at-requires
item_at-requires c = few c.args.bytes.now c.items.rest.now c.items.records.items c.items.invariant c.requires.few

pub returns-in_err-mark : goal.returns-in_err-mark
returns-in_err-mark c =
    let p = err_from_is_err_and c.from_residual-in_err-mark.result c.from_residual-in_err-mark.ensures.1 in
    rw (p.1, p.2) (item_stops c.in_err-mark.field-0.0 c.args.bytes.now c.items.rest.now c.items.records.items c.item_at.new.records.items c.items.invariant (bytes_from c.args.bytes.now (λ i. omega (arith, c.type_inv.bytes i))) c.requires.few c.in_err-mark.ensures)

pub items-smaller : goal.items-smaller
items-smaller c = (chunk_leaves (λ x. x.now) c.args.bytes.now c.items.rest.now c.items.records.items c.item_at.new.records.items c.in_ok-mark.mark c.in_ok-mark.after c.in-Chunk.is c.items.invariant (bytes_from c.args.bytes.now (λ i. omega (arith, c.type_inv.bytes i))) c.in_ok-mark.ensures).1

pub items-preserved : goal.items-preserved
items-preserved c = (chunk_leaves (λ x. x.now) c.args.bytes.now c.items.rest.now c.items.records.items c.item_at.new.records.items c.in_ok-mark.mark c.in_ok-mark.after c.in-Chunk.is c.items.invariant (bytes_from c.args.bytes.now (λ i. omega (arith, c.type_inv.bytes i))) c.in_ok-mark.ensures).0

pub returns-then-is_empty : goal.returns-then-is_empty
returns-then-is_empty c =
    let none : length c.in_ok-mark.after.now ≡ 0 = eqb-true _ _ (sym c.is_empty.ensures ∙ c.if-is_empty.true) in
    end_leaves (λ x. x.now) c.args.bytes.now c.items.rest.now c.items.records.items c.item_at.new.records.items c.in_ok-mark.mark c.in_ok-mark.after c.in-End.is c.items.invariant (bytes_from c.args.bytes.now (λ i. omega (arith, c.type_inv.bytes i))) c.requires.few none c.in_ok-mark.ensures

pub returns-in-End : goal.returns-in-End
returns-in-End c =
    let more : length c.in_ok-mark.after.now ≡ 0 → ⊥ = eqb-false _ _ (sym c.is_empty.ensures ∙ c.if-is_empty.false) in
    let some : 0 < length c.in_ok-mark.after.now = omega (arith, more) in
    end_stands (λ x. x.now) c.args.bytes.now c.items.rest.now c.items.records.items c.item_at.new.records.items c.in_ok-mark.mark c.in_ok-mark.after c.in-End.is c.items.invariant (bytes_from c.args.bytes.now (λ i. omega (arith, c.type_inv.bytes i))) c.requires.few some c.in_ok-mark.ensures
