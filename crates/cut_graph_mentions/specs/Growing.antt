-- Lists that grow at their ends as long as there is memory.
use Rattle.std.specs.Prelude.{◌≡◌, List, ◌++◌, Option, Some, None}

-- the list with more at its end; None where memory ran out before
abbrev pub adds : {A : Type 0} → Option (List A) → List A → Option (List A)
adds None more = None
adds (Some items) more = Some (items ++ more)

-- more was added, or memory ran out, then or before
pub record IsAdded {A : Type 0} (old : Option (List A)) (more : List A) (new : Option (List A)) : Type 0 where
  pub is : (items : List A) → new ≡ Some items → adds old more ≡ Some items
