use Rattle.std.proofs.Common.{◌≡◌, ℕ, ◌+◌, ◌-◌, ◌/◌, ◌%◌, ◌∷◌, sym, ap, arith}
use Rattle.marks.specs.Ranges.{bytes_of_number}
use Rattle.stub_operations.proofs.Growing.{nothing, two}
use Rattle.isolation_check_images.proofs.Bytes.{low_byte, same}
use Rattle.isolation_check_images.proofs.buffer.ByteBuffer.put_number.Goals as goal

pub loop-place-preserved : goal.loop-place-preserved
loop-place-preserved c =
    let n = c.args.width - c.loop-place._place in
    let m = c.args.width - (c.loop-place._place + 1) in
    let rest = c.loop-place.rest in
    let more : bytes_of_number n rest ≡ rest % 256 ∷ bytes_of_number m (rest / 256) = low_byte n m rest (omega arith) in
    λ q h. c.loop-place.invariant q (same (sym more) (two c.put_byte.ensures h))

pub returns : goal.returns
returns c =
    let none : 0 ≡ c.args.width - c.loop-place._place = omega arith in
    c.loop-place.invariant c.loop-place.self (same (ap (λ (n : ℕ). bytes_of_number n c.loop-place.rest) none) (nothing c.loop-place.self))
