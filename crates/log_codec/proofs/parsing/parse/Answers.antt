use Rattle.std.proofs.Common.{ℕ, Result, Err, sym, ap, inl}
use Rattle.log_codec.specs.declared.error.LogError.{LogError}
use Rattle.log_codec.specs.declared.error.LogError.TheVariants.{BadByte}
use Rattle.log_codec.specs.declared.kept.Kept.{Kept}
use Rattle.log_codec.proofs.Causes.{named_alone, short_right}
use Rattle.log_codec.proofs.parsing.parse.Goals as goal
use Rattle.log_codec.proofs.parsing.parse.Goals.{in-Ok, in-Err-Short}

pub returns-in-Err-Wrong-clause-first_wrong : goal.returns-in-Err-Wrong-clause-first_wrong
returns-in-Err-Wrong-clause-first_wrong c = λ n wrong.
    let same = named_alone c.args.bytes.now c.in-Err-Wrong.field-0 c.in-Err-Wrong.left c.read_log.new.records.items c.in-Err-Wrong.field-0-is c.in-Err-Wrong.ensures n wrong in
    inl (ap (λ (m : ℕ). let r : Result Kept LogError = Err (BadByte m) in r) (sym same))

pub returns-clause-first_wrong : goal.returns-clause-first_wrong
returns-clause-first_wrong c = λ n wrong.
    absurd (elim c.match-read_log.branch [
      | in-Ok w ↦ w.in-Ok.ensures.1.right n wrong
      | in-Err-Short w ↦ short_right c.args.bytes.now w.in-Err-Short.field-0 c.read_log.new.records.items w.in-Err-Short.field-0-is w.in-Err-Short.ensures n wrong
    ])
