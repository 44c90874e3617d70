use Rattle.std.proofs.Common.{ℕ, ◌≡◌, ◌+◌, ◌-◌, ◌<◌, arith}
use Rattle.space_memory_bytes.proofs.Cells.{fits_more, fits_word, digits_more}
use Rattle.space_memory_bytes.proofs.marked_bytes.digits_at.Goals as goal

pub overflow_mul-value : goal.overflow_mul-value
overflow_mul-value c = omega (arith, fits_word c.loop-place.value _ (omega arith) c.loop-place.invariant.fits)

pub overflow_add-value : goal.overflow_add-value
overflow_add-value c =
    let word = fits_word c.loop-place.value _ (omega arith) c.loop-place.invariant.fits in
    omega (arith, word, c.from.ensures)

pub loop-place-preserved : goal.loop-place-preserved
loop-place-preserved c =
    let place = c.loop-place.place - 1 in
    let n = c.args.n - c.loop-place.place in
    let one : c.args.n - place ≡ n + 1 = omega arith in
    let small : c.from.result < 256 = omega (arith, c.from.ensures, c.type_inv.bytes (c.args.at + place)) in
    record {
      to = omega arith;
      fits = fits_more c.loop-place.value c.from.result n _ one small c.loop-place.invariant.fits;
      digits = digits_more c.args.bytes.now (c.args.at + c.loop-place.place) (c.args.at + place) n _ c.loop-place.value c.from.result one (omega arith) small c.from.ensures c.loop-place.invariant.digits;
    }
