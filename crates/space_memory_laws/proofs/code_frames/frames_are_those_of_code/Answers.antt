use Rattle.space_memory_laws.proofs.FrameBytes.{frames_of_code}
use Rattle.space_memory_laws.proofs.code_frames.frames_are_those_of_code.Goals as goal

pub returns : goal.returns
returns c = frames_of_code
