-- What one declaration more puts.
use Rattle.std.specs.Prelude.{◌≡◌, ℕ, ◌+◌, Bool, true, false, if◌then◌else◌, List, [], ◌∷◌, ◌++◌, codes}
use Rattle.c_syntax.specs.Syntax.{Decl, Declare, Annots, Annot, Annotate, Items, Item, OneFactor, TwoFactors, NameAtom, NumberAtom, ReturnAtom, SizeofAtom, NoAnnots, MoreAnnots, NoItems, MoreItems}
use Rattle.c_scopes.specs.Scopes.{same_name}
use Rattle.c_types_rules.specs.Sources.{Program}
use Rattle.cut_advisor.specs.CutNames.{with_names}
use Rattle.cut_advisor.specs.CutNodes.{declares_next}

-- ---- the cuts that annotations name, one after another

abbrev pub item_names : Item → List (List ℕ)
item_names (OneFactor at (NameAtom name)) = name ∷ []
item_names (OneFactor at (NumberAtom n)) = []
item_names (OneFactor at ReturnAtom) = []
item_names (OneFactor at (SizeofAtom d)) = []
item_names (TwoFactors at a b) = []

abbrev pub items_names : Items → List (List ℕ)
items_names NoItems = []
items_names (MoreItems x xs) = item_names x ++ items_names xs

abbrev pub annot_names : Annot → List (List ℕ)
annot_names (Annotate from word is) = if same_name word (codes "cut") then items_names is else []

abbrev pub annots_names : Annots → List (List ℕ)
annots_names NoAnnots = []
annots_names (MoreAnnots x xs) = annot_names x ++ annots_names xs

abbrev pub decl_names : Decl → List (List ℕ)
decl_names (Declare from an b ps n r) = annots_names an

-- its cuts are put where it is the first declaration of a function, which is counted
abbrev pub PutsIf : Bool → Decl → (count : ℕ) → List (List ℕ) → (more : ℕ) → List (List ℕ) → Type 0
PutsIf true d count old more new = (more ≡ count + 1) × (new ≡ with_names old (decl_names d))
PutsIf false d count old more new = (more ≡ count) × (new ≡ old)

abbrev pub Puts : Program → Decl → (count : ℕ) → List (List ℕ) → (more : ℕ) → List (List ℕ) →
    Type 0
Puts p d count old more new = PutsIf (declares_next p count d) d count old more new
