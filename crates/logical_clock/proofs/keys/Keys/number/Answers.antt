use Rattle.std.proofs.Common.{◌≡◌, ◌∙◌, Some, None, ap, sym}
use Rattle.logical_clock.specs.Kept.{nothing, number_at, counted_at}
use Rattle.logical_clock.proofs.Rows.{number_is_place, appended, next_keeps, next_number, next_same}
use Rattle.logical_clock.proofs.keys.Keys.number.Goals as goal

pub returns-in-Some-clause-number : goal.returns-in-Some-clause-number
returns-in-Some-clause-number c = sym (c.in-Some.ensures.index ∙ number_is_place c.args.self.now.rows.entries c.args.key)

pub returns-clause-number : goal.returns-clause-number
returns-clause-number c =
    let es = c.args.self.now.rows.entries in
    let none : number_at es c.args.key ≡ None = sym (c.in_default.ensures.index ∙ number_is_place es c.args.key) in
    ap (λ l. number_at l c.args.key) (c.in_ok-insert.ensures.entries ∙ appended es c.args.key nothing none) ∙ next_number es c.args.key nothing none ∙ ap (λ n. Some n) (sym c.len-number.ensures.len)

pub returns-clause-keeps : goal.returns-clause-keeps
returns-clause-keeps c = λ q n is.
    let es = c.args.self.now.rows.entries in
    let none : number_at es c.args.key ≡ None = sym (c.in_default.ensures.index ∙ number_is_place es c.args.key) in
    ap (λ l. number_at l q) (c.in_ok-insert.ensures.entries ∙ appended es c.args.key nothing none) ∙ next_keeps es (c.args.key, nothing) q n is

pub returns-clause-same : goal.returns-clause-same
returns-clause-same c = λ q.
    let es = c.args.self.now.rows.entries in
    let none : number_at es c.args.key ≡ None = sym (c.in_default.ensures.index ∙ number_is_place es c.args.key) in
    ap (λ l. counted_at l q) (c.in_ok-insert.ensures.entries ∙ appended es c.args.key nothing none) ∙ next_same es c.args.key q
