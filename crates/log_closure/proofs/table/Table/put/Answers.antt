use Rattle.std.proofs.Common.{◌≡◌, ◌<◌, ℕ, length, List, Option, Some, refl, sym, ◌∙◌, ap, subst, cond, arith, ⊎_elim, is_some, IfOk, vec_len}
use Rattle.std.specs.List.{slice_get}
use Rattle.std.specs.BTreeMap.{BTreeMap, get}
use Rattle.std.proofs.lemmas.Bool.{cases_lt}
use Rattle.std.proofs.lemmas.Option.{slice_get_read}
use Rattle.log_closure.specs.declared.tie.Tie.{Tie}
use Rattle.log_closure.specs.declared.table.Table.{Table}
use Rattle.log_closure.specs.FirstWrong.{or_else}
use Rattle.log_closure.specs.Tables.{clock_in_row, row_at, tie_cmp, tie_key}
use Rattle.log_closure.specs.Ties.{same}
use Rattle.log_closure.proofs.Rows.{Row, in_row, on_ok, past_row, past_rows, put_in, put_out, same_rows}
use Rattle.log_closure.proofs.table.Table.put.Goals as goal
use Rattle.log_closure.proofs.table.Table.put.Goals.{in-Some+else-ticket-len, in_default}

pub returns-then-ticket-len-clause-clock : goal.returns-then-ticket-len-clause-clock
returns-then-ticket-len-clause-clock c = λ number apart numbered t.
    let rows = c.args.self.now.rows in
    let row = c.in-Some.row.now in
    let new = c.put_in_row.new.row in
    let found : slice_get rows.items c.args.key ≡ Some row = slice_get_read rows.items (vec_len rows) c.args.key row rows.ok.0 (c.in-Some.ensures.variant.0 refl) c.in-Some.ensures.value in
    let lt : c.args.tie.number < length row.items = omega (arith, c.if-ticket-len.true, c.len.ensures, row.ok.0) in
    put_in number rows.items _ c.args.tie t c.args.key row new c.args.clock (get tie_cmp c.args.self.now.rest t) apart numbered found refl lt c.put_in_row.ensures.clock

pub returns-then-ticket-len-clause-there : goal.returns-then-ticket-len-clause-there
returns-then-ticket-len-clause-there c = λ number numbered.
    let rows = c.args.self.now.rows in
    let row = c.in-Some.row.now in
    let found : slice_get rows.items c.args.key ≡ Some row = slice_get_read rows.items (vec_len rows) c.args.key row rows.ok.0 (c.in-Some.ensures.variant.0 refl) c.in-Some.ensures.value in
    let lt : c.args.tie.number < length row.items = omega (arith, c.if-ticket-len.true, c.len.ensures, row.ok.0) in
    c.put_in_row.ensures.there ∙ ap is_some (sym (in_row number rows.items (tie_key c.args.tie) c.args.key c.args.tie.number row (get tie_cmp c.args.self.now.rest c.args.tie) numbered found lt))

pub returns-clause-clock : goal.returns-clause-clock
returns-clause-clock c = λ number apart numbered.
    let old = c.args.self.now in
    let now = c.match-get_mut.self in
    let kept : now.rows.items ≡ old.rows.items =
    elim c.match-get_mut.branch [
      | in-Some+else-ticket-len w ↦
          ap (λ (s : Table). s.rows.items) w.self-is
          ∙ same_rows old.rows.items c.args.key w.in-Some.row.now (slice_get_read old.rows.items (vec_len old.rows) c.args.key w.in-Some.row.now old.rows.ok.0 (w.in-Some.ensures.variant.0 refl) w.in-Some.ensures.value)
      | in_default w ↦ ap (λ (s : Table). s.rows.items) w.self-is
    ] in
    let rest : now.rest ≡ old.rest =
    elim c.match-get_mut.branch [
      | in-Some+else-ticket-len w ↦ ap (λ (s : Table). s.rest) w.self-is
      | in_default w ↦ ap (λ (s : Table). s.rest) w.self-is
    ] in
    let none : (o : Option ℕ) → clock_in_row (row_at old.rows.items (number (tie_key c.args.tie))) c.args.tie.number o ≡ o = λ o.
    elim c.match-get_mut.branch [
      | in-Some+else-ticket-len w ↦
          past_row number old.rows.items (tie_key c.args.tie) c.args.key c.args.tie.number w.in-Some.row.now o numbered
          (slice_get_read old.rows.items (vec_len old.rows) c.args.key w.in-Some.row.now old.rows.ok.0 (w.in-Some.ensures.variant.0 refl) w.in-Some.ensures.value)
          (omega (arith, w.if-ticket-len.false, w.len.ensures, w.in-Some.row.now.ok.0))
      | in_default w ↦
          past_rows number old.rows.items (tie_key c.args.tie) c.args.key c.args.tie.number o numbered
          (⊎_elim (λ lt. let z = w.in_default.ensures.variant.1 lt in absurd cc) (λ le. omega (arith, le, old.rows.ok.0)) (cases_lt c.args.key (vec_len old.rows)))
    ] in
    on_ok c.put_apart.result
    (λ up t.
    ap (λ (l : List Row). clock_in_row (row_at l (number (tie_key t))) t.number (get tie_cmp c.put_apart.new.rest t)) kept
    ∙ put_out (λ k. row_at old.rows.items (number k)) c.args.tie t c.args.clock (get tie_cmp old.rest t) (get tie_cmp c.put_apart.new.rest t) none
    (up t ∙ ap (λ (m : BTreeMap Tie ℕ). cond (same c.args.tie t) (or_else (get tie_cmp m t) (Some c.args.clock)) (get tie_cmp m t)) rest))
    c.put_apart.ensures.clock

pub returns-clause-there : goal.returns-clause-there
returns-clause-there c = λ number numbered.
    let old = c.args.self.now in
    let o = get tie_cmp old.rest c.args.tie in
    let rest : c.match-get_mut.self.rest ≡ old.rest =
    elim c.match-get_mut.branch [
      | in-Some+else-ticket-len w ↦ ap (λ (s : Table). s.rest) w.self-is
      | in_default w ↦ ap (λ (s : Table). s.rest) w.self-is
    ] in
    let none : clock_in_row (row_at old.rows.items (number (tie_key c.args.tie))) c.args.tie.number o ≡ o =
    elim c.match-get_mut.branch [
      | in-Some+else-ticket-len w ↦
          past_row number old.rows.items (tie_key c.args.tie) c.args.key c.args.tie.number w.in-Some.row.now o numbered
          (slice_get_read old.rows.items (vec_len old.rows) c.args.key w.in-Some.row.now old.rows.ok.0 (w.in-Some.ensures.variant.0 refl) w.in-Some.ensures.value)
          (omega (arith, w.if-ticket-len.false, w.len.ensures, w.in-Some.row.now.ok.0))
      | in_default w ↦
          past_rows number old.rows.items (tie_key c.args.tie) c.args.key c.args.tie.number o numbered
          (⊎_elim (λ lt. let z = w.in_default.ensures.variant.1 lt in absurd cc) (λ le. omega (arith, le, old.rows.ok.0)) (cases_lt c.args.key (vec_len old.rows)))
    ] in
    subst (λ (p : Option ℕ). IfOk c.put_apart.result (λ r. r ≡ is_some p)) (ap (λ (m : BTreeMap Tie ℕ). get tie_cmp m c.args.tie) rest ∙ sym none) c.put_apart.ensures.there
