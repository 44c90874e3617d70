use Rattle.std.proofs.Common.{List, [], ◌∷◌, ◌++◌, sym, subst, arith}
use Rattle.c_types_table.specs.Tables.{all_at, at}
use Rattle.annot_reader_functions.specs.declared.notes.FunctionNotes.{FunctionNotes}
use Rattle.annot_reader_functions.specs.Sayings.{kind_in}
use Rattle.annot_reader.specs.Reading.{AreNoted}
use Rattle.annot_reader.proofs.Headed.{as_prototype, heading_at, no_heading}
use Rattle.annot_reader.proofs.Noting.{again, as_many, first_raised, first_tells, no_function, noted_after}
use Rattle.annot_reader_functions.specs.Seen.{declared_by}
use Rattle.annot_reader.proofs.reading.Reading.function.Goals as goal

pub returns-in_default-clause-agrees : goal.returns-in_default-clause-agrees
returns-in_default-clause-agrees c = λ d fs a h k r.
    let now = declared_by c.args.env.now in
    no_function c.args.source.now.cut.now _ now.env d c.args.place fs a (no_heading now c.args.source.now.functions.now fs c.args.place k (sym c.in_default.ensures)) r

pub returns-then-place-len-clause-agrees : goal.returns-then-place-len-clause-agrees
returns-then-place-len-clause-agrees c = λ d fs a h k r.
    let now = declared_by c.args.env.now in
    let cut = c.args.source.now.cut.now in
    let found = heading_at now c.args.source.now.functions.now fs c.args.place _ k (sym c.in-Some.ensures) in
    let many = as_many cut a.functions _ r.functions in
    again cut _ now.env d c.args.place fs a found.0 c.declared_later.result found.1 (omega (arith, many, c.if-place-len.true, c.len.ensures)) (c.declared_later.ensures d h) r

pub returns-in_err-notes-clause-agrees : goal.returns-in_err-notes-clause-agrees
returns-in_err-notes-clause-agrees c = λ d fs a h k r.
    let now = declared_by c.args.env.now in
    let cut = c.args.source.now.cut.now in
    let p = c.prototype-prototype.result in
    let shown = c.prototype-prototype.ensures in
    let found = heading_at now c.args.source.now.functions.now fs c.args.place _ k (sym c.in-Some.ensures) in
    let same = as_prototype now _ found.0 p.kind p.result p.params.now shown.kind shown.result shown.params found.2 in
    let many = as_many cut a.functions _ r.functions in
    first_raised cut _ now.env d c.args.place fs a found.0 (kind_in p.kind) (at now.types p.result) (all_at now.types p.params.now) found.1 (omega (arith, many, c.if-place-len.false, c.len.ensures)) same.0 same.1
    c.from_residual.result c.in_err-notes.field-0.0 c.from_residual.ensures.1 (c.in_err-notes.ensures.agrees d h)

pub returns-clause-agrees : goal.returns-clause-agrees
returns-clause-agrees c = λ d fs a h k r.
    let now = declared_by c.args.env.now in
    let cut = c.args.source.now.cut.now in
    let p = c.prototype-prototype.result in
    let shown = c.prototype-prototype.ensures in
    let found = heading_at now c.args.source.now.functions.now fs c.args.place _ k (sym c.in-Some.ensures) in
    let same = as_prototype now _ found.0 p.kind p.result p.params.now shown.kind shown.result shown.params found.2 in
    let many = as_many cut a.functions _ r.functions in
    first_tells cut _ now.env d c.args.place fs a found.0 (kind_in p.kind) (at now.types p.result) (all_at now.types p.params.now) found.1 (omega (arith, many, c.if-place-len.false, c.len.ensures)) same.0 same.1
    c.in_ok-notes.notes (c.in_ok-notes.ensures.agrees d h)
    (λ n i. record {
      functions = subst (λ (vs : List FunctionNotes). AreNoted cut (a.functions ++ n ∷ []) vs) (sym c.in_ok-append.ensures.ok) (noted_after cut a.functions _ n c.in_ok-notes.notes r.functions i);
      guards = r.guards;
    })
