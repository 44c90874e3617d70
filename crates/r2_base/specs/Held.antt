-- What the names of a map in memory hold.
use Rattle.std.specs.Prelude.{ℕ, List, Option, String, Vec}
use Rattle.std.specs.Option.{option_map}
use Rattle.std.specs.declared.alloc.Global.{Global}
use Rattle.std.specs.BTreeMap.{BTreeMap, get_by_text}

abbrev pub held_in : BTreeMap (String Global) (Vec ℕ Global) → List ℕ → Option (List ℕ)
held_in files name = option_map (λ bytes. bytes.items) (get_by_text files name)
