use Rattle.front_end_laws.proofs.Whole.{read_of_all}
use Rattle.front_end_laws.proofs.annotations.annotations_speak_of_all.Goals as goal

pub returns : goal.returns
returns c = read_of_all
