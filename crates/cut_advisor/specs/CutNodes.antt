-- The cuts that nodes name, one after another, and whether a declaration is the first of a function.
use Rattle.std.specs.Prelude.{◌≡◌, ℕ, ◌-◌, nat_lt, Bool, true, false, not, ◌&&◌, if◌then◌else◌, List, [], ◌∷◌, ◌++◌, codes, length, map, Option, Some, None, Vec}
use Rattle.std.specs.declared.alloc.Global.{Global}
use Rattle.c_scopes.specs.Scopes.{meaning_in, same_name}
use Rattle.c_syntax.specs.declared.declaration.Annot.{Annot}
use Rattle.c_syntax.specs.declared.declaration.Item.{Item}
use Rattle.c_syntax.specs.declared.declaration.Atom.{Atom}
use Rattle.c_syntax.specs.declared.declaration.Atom.TheVariants as atoms
use Rattle.c_syntax.specs.declared.declaration.Decl.{Decl as DeclNode}
use Rattle.c_syntax.specs.declared.declaration.Rest.{Rest as After}
use Rattle.c_syntax.specs.declared.declaration.Rest.TheVariants as rests
use Rattle.c_syntax.specs.declared.id.DeclId.{DeclId}
use Rattle.c_syntax.specs.Nodes.{Nodes, decl_at}
use Rattle.c_syntax.specs.Syntax.{Decl, Declare, NoRest, Initial, Body, Members}
use Rattle.c_types_rules.specs.Expressions.{declared_name}
use Rattle.c_types_rules.specs.Sources.{Program}
use Rattle.annot_reader_rules.specs.Cuts.{named}
use Rattle.annot_reader_words.specs.Shown.{IsDecl}
use Rattle.annot_reader_functions.specs.Rules.{function_in}

-- names as they are stored
abbrev pub texts_of : List (Vec ℕ Global) → List (List ℕ)
texts_of keys = map (λ k. k.items) keys

abbrev pub names_by_atoms : Atom → Option Atom → List (List ℕ)
names_by_atoms (atoms.Name n) None = n ∷ []
names_by_atoms (atoms.Name n) (Some b) = []
names_by_atoms (atoms.Number v) b = []
names_by_atoms atoms.Return b = []
names_by_atoms (atoms.Sizeof d) b = []

abbrev pub names_by_item : Item → List (List ℕ)
names_by_item v = names_by_atoms v.a v.b

abbrev pub names_by_items : List Item → List (List ℕ)
names_by_items [] = []
names_by_items (v ∷ vs) = names_by_item v ++ names_by_items vs

abbrev pub names_by_annot : Annot → List (List ℕ)
names_by_annot v = if same_name v.name (codes "cut") then names_by_items v.items else []

abbrev pub names_by_annots : List Annot → List (List ℕ)
names_by_annots [] = []
names_by_annots (v ∷ vs) = names_by_annot v ++ names_by_annots vs

abbrev pub names_at : Option DeclNode → List (List ℕ)
names_at None = []
names_at (Some d) = names_by_annots d.annots

-- each is among these names
abbrev pub AreAmong : List (List ℕ) → List (List ℕ) → Type 0
AreAmong [] names = Unit {0}
AreAmong (n ∷ ns) names = (named n names ≡ true) × AreAmong ns names

-- what the declaration of this number names was put, if there is one
abbrev pub IsPut : Nodes → Option DeclId → List (List ℕ) → Type 0
IsPut N None names = Unit {0}
IsPut N (Some i) names = IsDecl N i × AreAmong (names_at (decl_at N i)) names

-- what follows a declarator are the members of a struct
abbrev pub has_members : After → Bool
has_members rests.None = false
has_members (rests.Value v) = false
has_members (rests.Body i) = false
has_members (rests.Members is) = true

-- the function of this number, if any, is declared for the first time where so many were declared before
abbrev pub is_next : Program → (count : ℕ) → Option ℕ → Bool
is_next p count None = false
is_next p count (Some number) = not (nat_lt (number - 16) count) && nat_lt (number - 16) (length p.functions)

-- a declaration is the first of a function, where so many were declared before
abbrev pub declares_next : Program → (count : ℕ) → Decl → Bool
declares_next p count (Declare from an b ps n (Members ds)) = false
declares_next p count (Declare from an b ps n NoRest) =
    is_next p count (function_in (meaning_in (declared_name n) p.names))
declares_next p count (Declare from an b ps n (Initial v)) =
    is_next p count (function_in (meaning_in (declared_name n) p.names))
declares_next p count (Declare from an b ps n (Body s)) =
    is_next p count (function_in (meaning_in (declared_name n) p.names))
