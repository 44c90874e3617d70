use Rattle.std.proofs.Common.{sym, ap, ◌∙◌, Some, Ok}
use Rattle.r2_num.specs.declared.kinds.IntKind.TheVariants.{I64}
use Rattle.c_types_table.specs.Tables.{type_at}
use Rattle.c_types_rules.specs.Operators.{to_kind}
use Rattle.c_types_nodes.specs.Parts.{sum_in}
use Rattle.c_types_nodes.specs.Tables.{value_at}
use Rattle.c_types_nodes.proofs.Growing.{through}
use Rattle.c_types_operators.proofs.Rules.{size_missing, passed, rule, sum_incomplete, sum_no_integer, sum_made}
use Rattle.c_types_operators.proofs.Values.{pointer_sum_held, pointer_sum_is}
use Rattle.c_types_operators.proofs.pointers.pointer_sum.Goals as goal

pub returns-in_default-clause-agrees : goal.returns-in_default-clause-agrees
returns-in_default-clause-agrees c =
    let t = c.args.table.now in
    rule t _ _ _ (sum_incomplete c.args.structs.now c.args.from (sum_in c.args.sum) (type_at t.types c.args.target) (value_at t c.args.pointer) (value_at t c.args.index) (size_missing c.args.structs.now (type_at t.types c.args.target) c.size_of.result c.size_of.ensures c.in_default.not-Some))

pub returns-then-not-is_integer-clause-agrees : goal.returns-then-not-is_integer-clause-agrees
returns-then-not-is_integer-clause-agrees c =
    let t = c.args.table.now in
    rule t _ _ _ (sum_no_integer c.args.structs.now c.args.from (sum_in c.args.sum) (type_at t.types c.args.target) (value_at t c.args.pointer) (value_at t c.args.index) c.in-Some.ensures.0 (sym c.is_integer.ensures ∙ c.if-not-is_integer.true))

pub add-requires : goal.add-requires
add-requires c =
    let t = c.args.table.now in
    record { parts = pointer_sum_held t c.to_kind.new.table c.args.sum c.args.pointer c.in_ok-index.index c.in-Some.size (to_kind I64 (value_at t c.args.index)) c.to_kind.ensures.kept c.requires.pointer c.in_ok-index.ensures.added }

pub returns-clause-agrees : goal.returns-clause-agrees
returns-clause-agrees c =
    let t = c.args.table.now in
    let made = sum_made c.args.structs.now c.args.from (sum_in c.args.sum) (type_at t.types c.args.target) (value_at t c.args.pointer) (value_at t c.args.index) c.in-Some.size c.in-Some.ensures.0 (sym c.is_integer.ensures ∙ c.if-not-is_integer.false) c.in-Some.ensures.1 in
    let stands = c.in_ok-add.ensures.added ∙ ap Some (pointer_sum_is t c.to_kind.new.table c.args.sum c.args.pointer c.in_ok-index.index c.in-Some.size (to_kind I64 (value_at t c.args.index)) c.to_kind.ensures.kept c.requires.pointer c.in_ok-index.ensures.added) in
    passed c.add.new.self _ _ (Ok c.in_ok-add.field-0) made stands

pub returns-in_err-add-clause-kept : goal.returns-in_err-add-clause-kept
returns-in_err-add-clause-kept c = through c.args.table.now c.to_kind.new.table c.add.new.self c.to_kind.ensures.kept c.add.ensures.kept

pub returns-clause-kept : goal.returns-clause-kept
returns-clause-kept c = through c.args.table.now c.to_kind.new.table c.add.new.self c.to_kind.ensures.kept c.add.ensures.kept
