use Rattle.lockset_check.proofs.Read.{read_is_said}
use Rattle.lockset_check.proofs.laws.guards_are_what_annotations_say.Goals as goal

pub returns : goal.returns
returns c = λ cut a p names i read functions globals.
    read_is_said cut a p i functions globals
    (λ place m e. c.interfaces_say_what_annotations_say.ensures.guards cut a i place m read e)
    (λ place n e. c.interfaces_say_what_annotations_say.ensures.holds cut a i place n read e)
    names
