use Rattle.recorder_book.proofs.Lengths.{call_length, ret_length, up_length}
use Rattle.recorder_book.proofs.sizes.body_size.Goals as goal

pub returns-in-Call-clause-size : goal.returns-in-Call-clause-size
returns-in-Call-clause-size c = call_length c.args.event.now _ _ c.len.result c.in-Call.is c.len.ensures

pub returns-in-Ret-clause-size : goal.returns-in-Ret-clause-size
returns-in-Ret-clause-size c = ret_length c.args.event.now _ _ _ c.pieces_size.result c.in-Ret.is c.pieces_size.ensures.size

pub returns-in-Up-clause-size : goal.returns-in-Up-clause-size
returns-in-Up-clause-size c = up_length c.args.event.now _ _ c.len-in-Up.result c.in-Up.is c.len-in-Up.ensures
