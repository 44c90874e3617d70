use Rattle.std.proofs.Common.{[], ◌+◌, take, sym, subst, arith}
use Rattle.marks.specs.declared.range.Range.{Range}
use Rattle.recorder_returns.specs.Copies.{AreCopies}
use Rattle.recorder_returns.proofs.Copied.{all_copied, copied_at, none_copied, one_more}
use Rattle.recorder_returns.proofs.copying.copy_all.Goals as goal

pub loop-i-init : goal.loop-i-init
loop-i-init c = subst (AreCopies c.args.spaces.now.bytes [] []) (sym c.new-pieces.ensures) (none_copied c.args.spaces.now.bytes)

pub copy-requires : goal.copy-requires
copy-requires c =
    let none : Range = record { addr = 0; len = 0 } in
    copied_at c.args.spaces.now c.args.thread c.args.regions.now c.args.used.now c.loop-i.i none (omega arith) (omega arith) c.requires.allowed

pub loop-i-preserved : goal.loop-i-preserved
loop-i-preserved c =
    let none : Range = record { addr = 0; len = 0 } in
    subst (AreCopies c.args.spaces.now.bytes (take (c.loop-i.i + 1) c.args.regions.now) (take (c.loop-i.i + 1) c.args.used.now)) (sym c.in_ok-push.ensures.ok)
    (one_more c.args.spaces.now.bytes c.args.regions.now c.args.used.now c.loop-i.pieces c.loop-i.i none c.in_ok-piece.piece (omega arith) (omega arith) c.loop-i.invariant c.in_ok-piece.ensures)

pub returns : goal.returns
returns c = all_copied c.args.spaces.now.bytes c.args.regions.now c.args.used.now c.loop-i.pieces c.loop-i.i (omega arith) c.requires.sizes c.loop-i.invariant
