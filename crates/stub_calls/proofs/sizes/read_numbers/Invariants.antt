use Rattle.std.proofs.Common.{◌≡◌, take}
use Rattle.std.specs.List.{All}
use Rattle.r2_num.specs.Operations.{IsAnyValue}
use Rattle.stub_meaning.specs.Calls.{numbers}
use Rattle.stub_calls.proofs.sizes.read_numbers.Given as goal

abbrev pub invariant-loop-at : goal.invariant-loop-at
invariant-loop-at l = record { read : l.numbers.items ≡ take l.at (numbers l.params l.args); range : All IsAnyValue l.numbers.items }
