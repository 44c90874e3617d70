-- Which functions are in an interface, as flags.
use Rattle.std.specs.Prelude.{◌≡◌, ℕ, ◌<◌, Bool, List, length, is_some}
use Rattle.annot_reader.specs.Interface.{Interface}
use Rattle.annot_reader.specs.Interfaces.{annots_at}
use Rattle.cut_graph_paths.specs.Graphs.{flag}

-- of so many functions by number
pub record AreFaces (i : Interface) (count : ℕ) (flags : List Bool) : Type 0 where
  pub size : length flags ≡ count
  pub faces : (f : ℕ) → f < count → flag flags f ≡ is_some (annots_at i f)
