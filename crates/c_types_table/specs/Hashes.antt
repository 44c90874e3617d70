-- What a hasher is fed of the number of a type.
use Rattle.std.specs.Hash.{HashWrites, u32}
use Rattle.c_types_table.specs.declared.ids.TypeId.{TypeId}

abbrev pub hashed_id : TypeId → HashWrites
hashed_id t = u32 t.0
