-- What typed programs and the source's own count of depths have to do with one another.
use Rattle.std.specs.Prelude.{◌≡◌, ℕ, max}
use Rattle.std.specs.Option.{option_map}
use Rattle.c_types_rules.specs.Checked.{Checked, Fine, Noted, Broken}
use Rattle.c_types_rules.specs.TypedTree.{Body}
use Rattle.c_types_rules.specs.Sources.{Function}
use Rattle.c_lower.specs.Depths.{body_depth}
use Rattle.c_lower_depth_laws.specs.Functions.{Row}

-- 1 at least, since a return pushes a value
abbrev pub typed_body_depth : Body → ℕ
typed_body_depth b = max 1 (body_depth b)

-- a function of a typed source, and how deep its body is, where it has one
abbrev pub row_of : Function → Row
row_of f = record { name = f.name; depth = option_map typed_body_depth f.body }

-- this is found, whatever is noted on the way
abbrev pub Gives : {A : Type 0} → Checked A → A → Type 0
Gives (Fine x) a = x ≡ a
Gives (Noted n x) a = x ≡ a
Gives (Broken from rule) a = ⊥
