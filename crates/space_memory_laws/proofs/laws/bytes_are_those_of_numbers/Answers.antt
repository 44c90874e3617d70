use Rattle.space_memory_laws.proofs.laws.bytes_are_those_of_numbers.Goals as goal
use Rattle.space_memory_laws.proofs.Digits.{bytes_of}

pub returns : goal.returns
returns c width value = bytes_of width value
