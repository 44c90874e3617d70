-- What the annotations of a source say, and which functions are in the interface of a cut.
use Rattle.std.specs.Prelude.{ℕ, zero, suc, ◌-◌, ◌+◌, nat_lt, Bool, true, false, ◌||◌, if◌then◌else◌, List, [], ◌∷◌, ◌++◌, codes, length, is_some, Option, Some, None}
use Rattle.c_syntax.specs.Syntax.{Decl, Decls, Declare, NoDecls, MoreDecls, Rest, Members, NoRest, Initial, Body}
use Rattle.c_types_model.specs.Types.{CType, FunctionOf}
use Rattle.c_scopes.specs.Scopes.{meaning_in, same_name}
use Rattle.c_types_rules.specs.Checked.{Checked, Fine, Broken, ◌>>=◌, ◌>>◌}
use Rattle.c_types_rules.specs.TypedTree as typed
use Rattle.c_types_rules.specs.Environment.{Environment, Meaning, FunctionNamed, GlobalNamed, LocalNamed}
use Rattle.c_types_rules.specs.Expressions.{declared_name}
use Rattle.c_types_rules.specs.Sources.{Function, Program, at_file, tags_of}
use Rattle.annot_reader_rules.specs.Misplaced.{bare_decls}
use Rattle.annot_reader_rules.specs.Notes.{Notes, Annotated}
use Rattle.annot_reader_rules.specs.Functions.{FunctionKind, declared_later, function_notes, global_notes}

abbrev pub function_at : List Function → ℕ → Option Function
function_at [] place = None
function_at (f ∷ fs) zero = Some f
function_at (f ∷ fs) (suc place) = function_at fs place

abbrev pub kind_of : Function → FunctionKind
kind_of f = record { is_main = same_name f.name (codes "main"); has_body = is_some f.body }

abbrev pub noted_as : Environment → Decl → Function → CType → Annotated → Checked Annotated
noted_as env d f (FunctionOf r ts) a = do
  n ← function_notes env (kind_of f) d r ts
  Fine (record a { functions = a.functions ++ n ∷ [] })
noted_as env d f t a = Fine a

-- functions have their numbers by their first declarations: the next one is declared for the first time
-- here
abbrev pub noted_function : Environment → Decl → (place : ℕ) → Option Function → Annotated →
    Checked Annotated
noted_function env d place None a = Fine a
noted_function env d place (Some f) a = if nat_lt place (length a.functions) then
    (declared_later d >> Fine a) else noted_as env d f f.type a

abbrev pub noted_name : Environment → Program → Decl → Option Meaning → Annotated → Checked Annotated
noted_name env p d (Some (FunctionNamed number t)) a =
    noted_function env d (number - 16) (function_at p.functions (number - 16)) a
noted_name env p d m a = do
  g ← global_notes d
  Fine (record a { guards = a.guards ++ g ∷ [] })

-- one declaration more
abbrev pub noted : Environment → Program → Decl → Annotated → Checked Annotated
noted env p (Declare from an b ps n (Members ds)) a = bare_decls ds >> Fine a
noted env p (Declare from an b ps n r) a = noted_name env p (Declare from an b ps n r)
    (meaning_in (declared_name n) p.names) a

abbrev pub all_noted : Environment → Program → Decls → Annotated → Checked Annotated
all_noted env p NoDecls a = Fine a
all_noted env p (MoreDecls d ds) a = do
  b ← noted env p d a
  all_noted env p ds b

-- what the annotations of a source say, where it is typed as this program
abbrev pub annotations : Decls → Program → Checked Annotated
annotations ds p = all_noted (at_file (tags_of ds) p) p ds (record { functions = []; guards = [] })

-- ---- cuts

abbrev pub named : List ℕ → List (List ℕ) → Bool
named cut [] = false
named cut (c ∷ cs) = same_name cut c || named cut cs

-- a function whose first declaration names the cut is in its interface
abbrev pub in_cut : List ℕ → Notes → Bool
in_cut cut n = named cut n.cuts

abbrev pub any_in : List ℕ → List Notes → Bool
any_in cut [] = false
any_in cut (n ∷ ns) = in_cut cut n || any_in cut ns

-- a declaration names the cut
abbrev pub is_named : List ℕ → Annotated → Bool
is_named cut a = any_in cut a.functions
