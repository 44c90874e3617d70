-- The functions that a system file answers, by their names.
use Rattle.std.specs.Prelude.{◌≡◌, ℕ, Bool, true, List, [], ◌∷◌, map, Option, Some, None, if◌then◌else◌, Vec}
use Rattle.std.specs.declared.alloc.Global.{Global}
use Rattle.std.specs.List.{All}
use Rattle.std.specs.Map.{lookup}
use Rattle.std.specs.Str.{bytes_eq}
use Rattle.sys_script_lines.specs.declared.externals.External.{External}
use Rattle.sys_script_lines.specs.Parts.{IsPart, parts}

-- the function of a name; where several have it, the first
abbrev pub external_named : List ℕ → List (List ℕ × External) → Option External
external_named name [] = None
external_named name (e ∷ es) = if bytes_eq name e.0 then Some e.1 else external_named name es

-- the same by a list that stands still
abbrev pub named_in : List (List ℕ × External) → List ℕ → Option External
named_in es name = external_named name es

-- this function, where the name is its own
abbrev pub only_named : List ℕ → List ℕ → External → Option External
only_named name own e = if bytes_eq name own then Some e else None

-- how a name is kept
abbrev pub Name : Type 0
Name = Vec ℕ Global

-- the functions with their names as texts
abbrev pub texts : List (Name × External) → List (List ℕ × External)
texts entries = map (λ e. (e.0.items, e.1)) entries

-- what is kept under a name
abbrev pub kept_at : List ℕ → List (Name × External) → Option External
kept_at name entries = lookup (λ k. bytes_eq name k.items) entries

-- where the flag is set, no name has a blank
abbrev pub HaveNoBlank : Bool → List (List ℕ × External) → Type 0
HaveNoBlank flag es = flag ≡ true → All (λ e. IsPart 32 e.0) es

-- the words are a name and others; the function is that of the name
pub record IsNamed (es : List (List ℕ × External))
    (words : List ℕ) (found : Option External) (rest : List ℕ) : Type 0 where
  pub name : List ℕ
  pub words_are : parts 32 words ≡ name ∷ parts 32 rest
  pub found_is : found ≡ external_named name es
