-- Two states with the same fields are the same.
use Rattle.std.proofs.Common.{◌≡◌}
use Rattle.system_side.specs.System.{SystemState}

pub same_state : (a b : SystemState) → a.schedule ≡ b.schedule → a.threads ≡ b.threads → a.held ≡ b.held → a.left ≡ b.left → a ≡ b
same_state a b schedule threads held left = λ i. record { schedule = schedule i; threads = threads i; held = held i; left = left i }
