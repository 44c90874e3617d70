-- Limits that a source may not exceed, where it breaks no rule of types.
use Rattle.std.specs.Prelude.{ℕ, suc, Bool, true, false, not, ◌&&◌, nat_le, max, if◌then◌else◌, List, [], ◌∷◌, length, map, Option, Some, None}
use Rattle.std.specs.Int.{next_multiple_of}
use Rattle.source_limits.specs.Limits.{greatest_frame, greatest_object, most_functions, most_members, most_params}
use Rattle.c_syntax.specs.Syntax.{Decls}
use Rattle.c_types_model.specs.Types.{CType, CTypes, NoTypes, MoreTypes}
use Rattle.c_types_model.specs.Layouts.{end_from}
use Rattle.c_types_rules.specs.Checked.{Checked, Fine, Noted, Broken}
use Rattle.c_types_rules.specs.TypedTree as typed
use Rattle.c_types_rules.specs.Environment.{Struct}
use Rattle.c_types_rules.specs.Sources.{Function, Global, Program, extents_in, params_of, program}

-- what there is too much of
pub data Which : Type 0 where
  Functions : Which
  Params : Which
  Members : Which
  Object : Which
  Globals : Which
  Frame : Which

-- what a source is: typed, or first broken here, or too large
pub data Outcome : Type 0 where
  Typed : Program → Outcome
  Rule : (from rule : ℕ) → Outcome
  Limit : Which → Outcome

abbrev pub all_keep : {A : Type 0} → (A → Bool) → List A → Bool
all_keep p [] = true
all_keep p (x ∷ xs) = p x && all_keep p xs

abbrev pub count : CTypes → ℕ
count NoTypes = 0
count (MoreTypes t ts) = suc (count ts)

abbrev pub few_params : Function → Bool
few_params f = nat_le (count (params_of f.type)) most_params

abbrev pub few_members : Struct → Bool
few_members s = nat_le (length s.members) most_members

abbrev pub type_of : Global → CType
type_of g = g.type

-- globals in one row, with the gaps between them
abbrev pub globals_end : Program → ℕ
globals_end p = end_from 0 (extents_in p (map type_of p.globals))

-- a frame holds parameters and locals in order; its size is a multiple of 16, and 16 at least
abbrev pub frame_size : Program → List CType → ℕ
frame_size p ts = max 16 (next_multiple_of (end_from 0 (extents_in p ts)) 16)

abbrev pub small_body : Program → Option typed.Body → Bool
small_body p (Some b) = nat_le (frame_size p b.locals) greatest_frame
small_body p None = true

abbrev pub small_frame : Program → Function → Bool
small_frame p f = small_body p f.body

-- the first limit that is exceeded
abbrev pub first_limit : (small_objects : Bool) → Program → Option Which
first_limit small p =
    if nat_le (length p.functions) most_functions then
    if all_keep few_params p.functions then
    if all_keep few_members p.structs then
    if small then
    if nat_le (globals_end p) greatest_object then
    if all_keep (small_frame p) p.functions then None
    else Some Frame else Some Globals else Some Object else Some Members else Some Params else Some
    Functions

abbrev pub unless : Program → Option Which → Outcome
unless p (Some w) = Limit w
unless p None = Typed p

abbrev pub decided : Checked Program → Outcome
decided (Fine p) = unless p (first_limit true p)
decided (Noted n p) = unless p (first_limit (not n.large) p)
decided (Broken from rule) = Rule from rule

-- what a source is by its types
abbrev pub outcome : Decls → Outcome
outcome ds = decided (program ds)
