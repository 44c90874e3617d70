use Rattle.std.proofs.Common.{[], ◌∷◌, refl, sym, ap, ◌∙◌, subst}
use Rattle.marks.specs.Ranges.{Piece}
use Rattle.space_memory_laws.specs.Calls.{Reads}
use Rattle.reference_recorder_spaces.specs.Next.{IsNextPart}
use Rattle.reference_recorder_spaces.proofs.Parts.{next_item}
use Rattle.reference_recorder_spaces.proofs.Calling.{adds_all, adds_as, adds_item, adds_none}
use Rattle.reference_recorder_spaces.proofs.calls.read_all.Goals as goal

pub loop-piece-init : goal.loop-piece-init
loop-piece-init c = record { adds = adds_none c.args.thread c.args.spaces.now; depths = refl }

pub loop-piece-preserved : goal.loop-piece-preserved
loop-piece-preserved c = record {
  adds = adds_item c.args.thread (λ (p : Piece). Reads p.range) c.args.pieces.now c.loop-piece.piece-index c.piece-item.result c.args.spaces.now c.loop-piece.spaces c.hold.new.spaces c.loop-piece-test.true c.piece-item.is c.loop-piece.invariant.adds
      (adds_as c.args.thread (Reads c.piece-item.result.range) (Reads c.range_of.result) c.loop-piece.spaces c.hold.new.spaces (ap Reads c.range_of.ensures) c.in_ok-hold.ensures.adds);
  depths = c.hold.ensures.depths ∙ c.loop-piece.invariant.depths;
}

pub returns-clause-adds : goal.returns-clause-adds
returns-clause-adds c = adds_all c.args.thread (λ (p : Piece). Reads p.range) c.args.pieces.now c.loop-piece.piece-index c.args.spaces.now c.loop-piece.spaces c.loop-piece-test.false c.loop-piece.invariant.adds

pub hold-requires-clause-next : goal.hold-requires-clause-next
hold-requires-clause-next c =
    let piece = c.piece-item.result in
    subst (λ r. IsNextPart c.args.thread (Reads r ∷ []) c.loop-piece.spaces) (ap (λ (p : Piece). p.range) (sym c.piece-item.is) ∙ sym c.range_of.ensures)
    (next_item c.args.thread (λ (p : Piece). Reads p.range) c.args.pieces.now c.loop-piece.piece-index piece c.args.spaces.now c.loop-piece.spaces c.loop-piece-test.true c.requires.next c.loop-piece.invariant.adds)
