use Rattle.reference_recorder.proofs.steps.made.Goals as goal

pub with_room-requires : goal.with_room-requires
with_room-requires c = record { past = c.requires.to.at.past; step = c.requires.to.at.step; made = c.in_ok-mark.ensures c.requires.to }

pub returns : goal.returns
returns c = λ to. c.with_room.ensures (record { past = to.at.past; step = to.at.step; made = c.in_ok-mark.ensures to })
