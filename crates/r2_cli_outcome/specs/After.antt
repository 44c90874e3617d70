-- What files and sinks are after some writes.
use Rattle.std.specs.Prelude.{◌≡◌, ◌++◌, [], ◌∷◌, ℕ, List, IsTrue, Option, Some, None, bytes_eq, if◌then◌else◌}
use Rattle.std.specs.List.{flat_map}
use Rattle.r2_base.specs.Seen.{Contents}
use Rattle.r2_cli_outcome.specs.World.{World}
use Rattle.r2_cli_outcome.specs.Outcome.{Target, Write, file, out, err}

-- what a name holds after one write
abbrev pub held_after_one : Target → List ℕ → Contents → List ℕ → Option (List ℕ)
held_after_one (file name) text holds n = if bytes_eq name n then Some text else holds n
held_after_one out text holds n = holds n
held_after_one err text holds n = holds n

-- and after writes, one after the other
abbrev pub held_after : List Write → Contents → List ℕ → Option (List ℕ)
held_after [] holds = holds
held_after (w ∷ ws) holds = held_after ws (held_after_one w.to w.text holds)

-- what a write gives to each sink
abbrev pub for_out : Target → List ℕ → List ℕ
for_out (file name) text = []
for_out out text = text
for_out err text = []

abbrev pub for_err : Target → List ℕ → List ℕ
for_err (file name) text = []
for_err out text = []
for_err err text = text

-- the text was added, where the bytes are told
abbrev pub Adds : Option (List ℕ) → Option (List ℕ) → List ℕ → Type 0
Adds None new text = Unit {0}
Adds (Some old) new text = new ≡ Some (old ++ text)

-- exactly these writes were done, where that is told
pub record After (ws : List Write) (old new : World) : Type 0 where
  pub told : IsTrue old.files.tells → IsTrue new.files.tells
  pub files : IsTrue old.files.tells → (n : List ℕ) → new.files.holds n ≡ held_after ws old.files.holds n
  pub out : Adds old.out.given new.out.given (flat_map (λ w. for_out w.to w.text) ws)
  pub err : Adds old.err.given new.err.given (flat_map (λ w. for_err w.to w.text) ws)
