use Rattle.std.proofs.Common.{arith}
use Rattle.reference_recorder_spaces.proofs.Pieces.{given_first, given_rest, puts_first, rest_less}
use Rattle.reference_recorder_spaces.proofs.returns.+put_all.Goals as goal

pub put_piece-requires : goal.put_piece-requires
put_piece-requires t c = given_first c.args.thread c.args.pieces.now c.first-item.result c.args.spaces.now c.in-len1-up.len_at_least c.first-item.is c.requires

pub put_all-requires : goal.put_all-requires
put_all-requires t c = (
  (let less = rest_less c.args.pieces.now c.in-len1-up.len_at_least in omega (arith, less)),
  given_rest c.args.thread c.args.pieces.now c.first-item.result c.args.spaces.now c.put_piece.new.spaces c.in-len1-up.len_at_least c.first-item.is c.requires c.put_piece.ensures,
)

pub returns-in-len1-up : goal.returns-in-len1-up
returns-in-len1-up t c = puts_first c.args.thread c.args.pieces.now c.first-item.result c.args.spaces.now c.put_piece.new.spaces c.put_all.new.spaces c.in-len1-up.len_at_least c.first-item.is c.put_piece.ensures c.put_all.ensures
