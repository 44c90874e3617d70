-- All that a call of the program has of the outside.
use Rattle.std.specs.Prelude.{◌≤◌}
use Rattle.r2_base.specs.Seen.{Store, Stream}

-- the files, standard output and standard error
pub record World : Type 0 where
  pub files : Store
  pub out : Stream
  pub err : Stream

abbrev pub world : Store → Stream → Stream → World
world files out err = record { files = files; out = out; err = err }

-- no count of faults falls
pub record Later (old new : World) : Type 0 where
  pub reads : old.files.read_faults ≤ new.files.read_faults
  pub writes : old.files.write_faults ≤ new.files.write_faults
  pub out : old.out.faults ≤ new.out.faults
  pub err : old.err.faults ≤ new.err.faults
