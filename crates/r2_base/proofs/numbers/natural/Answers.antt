use Rattle.std.proofs.Common.{◌≡◌, ◌<◌, ◌^◌, ℕ, Result, Ok, Err, List, Bool, true, false, subst, sym, ◌∙◌, ap, arith}
use Rattle.std.specs.Str.{IsUtf8, bytes_eq}
use Rattle.std.specs.Fmt.{decimal}
use Rattle.std.proofs.lemmas.Str.{IsUtf8-from_ascii}
use Rattle.std.proofs.lemmas.Fmt.{IsAscii-decimal_wide, parse-decimal_wide}
use Rattle.std.proofs.lemmas.Slice.Eq.{bytes_eq-Decides}
use Rattle.std.specs.declared.num.ParseIntError.{ParseIntError}
use Rattle.r2_base.proofs.numbers.natural.Goals as goal

pub returns-in_default-clause-none : goal.returns-in_default-clause-none
returns-in_default-clause-none c = λ n lt e. c.in_default.ensures.cases.0 (subst IsUtf8 (sym e) (IsUtf8-from_ascii (decimal n) (IsAscii-decimal_wide n (omega arith))))

not_err : {E : Type 0} (e : E) (n : ℕ) → Err e ≡ Ok n → ⊥
not_err e n is = cc

abbrev ok : (E : Type 0) → ℕ → Result ℕ E
ok E n = Ok n

ok_is : (E : Type 0) (m n : ℕ) → ok E m ≡ ok E n → m ≡ n
ok_is E m n is = cc

pub returns-in_default-parse-clause-none : goal.returns-in_default-parse-clause-none
returns-in_default-parse-clause-none c = λ n lt e.
    not_err c.in_default-parse.field-0 n (parse-decimal_wide 128 n c.in-Ok.text.now (Err c.in_default-parse.field-0) lt (omega arith) (c.in-Ok.ensures.cases.0 ∙ e) c.in_default-parse.ensures.value.0)

pub returns-else-eq-clause-none : goal.returns-else-eq-clause-none
returns-else-eq-clause-none c = λ n lt e.
    let text : c.in-Ok.text.now ≡ decimal n = c.in-Ok.ensures.cases.0 ∙ e in
    let same = ok_is ParseIntError c.in-Ok-parse.n n (parse-decimal_wide {E = ParseIntError} 128 n c.in-Ok.text.now (Ok c.in-Ok-parse.n) lt (omega arith) text c.in-Ok-parse.ensures.value.0) in
    let printed : c.format.result.now ≡ c.in-Ok.text.now = c.format.ensures.text ∙ ap decimal same ∙ sym text in
    let yes : bytes_eq c.format.result.now c.in-Ok.text.now ≡ true = (bytes_eq-Decides c.format.result.now c.in-Ok.text.now).1 printed in
    let no : bytes_eq c.format.result.now c.in-Ok.text.now ≡ false = sym c.eq.ensures ∙ c.if-eq.false in
    absurd (let both : true ≡ false = sym yes ∙ no in cc)
