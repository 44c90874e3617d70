use Rattle.recorder_book.proofs.Small.{is_small}
use Rattle.recorder_book.proofs.laws.books_stay_small.Goals as goal

pub returns : goal.returns
returns c = is_small
