use Rattle.c_types_model.proofs.Steps.{struct_of_capped, offsets_of_capped}
use Rattle.c_types_model.proofs.laws.large_sizes_stay_large.Goals as goal

pub returns-clause-structs : goal.returns-clause-structs
returns-clause-structs c = struct_of_capped

pub returns-clause-offsets : goal.returns-clause-offsets
returns-clause-offsets c = λ ms. offsets_of_capped ms 0
