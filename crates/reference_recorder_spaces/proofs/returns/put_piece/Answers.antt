use Rattle.std.proofs.Common.{[], ◌∷◌, length, true, sym, subst, arith}
use Rattle.marks.specs.declared.side.Side.TheVariants.{System}
use Rattle.space_memory_access.specs.Accesses.{IsAllowed}
use Rattle.space_memory_laws.specs.Changes.{IsWritten, access_on}
use Rattle.reference_recorder_spaces.specs.Next.{AreGiven, Puts}
use Rattle.reference_recorder_spaces.proofs.Pieces.{may_put, puts_one}
use Rattle.reference_recorder_spaces.proofs.returns.put_piece.Goals as goal

pub put-requires : goal.put-requires
put-requires c =
    let old = c.args.spaces.now in
    let piece = c.piece.inside in
    subst (λ bytes. IsAllowed old.bytes old.held.regions (access_on System c.args.thread piece.range.addr (length bytes) true)) (sym c.as_slice.ensures)
    (may_put c.args.thread (record { range = piece.range; bytes = piece.bytes }) old
    (subst (λ p. AreGiven c.args.thread (p ∷ []) old) (sym c.piece.view_is) c.requires))

pub returns : goal.returns
returns c =
    let old = c.args.spaces.now in
    let new = c.put.new.spaces in
    let piece = c.piece.inside in
    subst (λ p. Puts c.args.thread (p ∷ []) old new) c.piece.view_is
    (puts_one c.args.thread (record { range = piece.range; bytes = piece.bytes }) old new (omega arith)
    (subst (IsWritten System old new c.args.thread piece.range.addr) c.as_slice.ensures c.put.ensures))
