-- A source with one annotated function, and what is found of it.
use Rattle.std.specs.Prelude.{ℕ, zero, suc, List, [], ◌∷◌, ◌++◌, codes, Option, Some, None}
use Rattle.c_syntax.specs.declared.declaration.Base.{Base}
use Rattle.c_syntax.specs.Syntax.{Annot, Annots, Atom, Decl, Decls, Item, Items, Parts, Declare, Annotate, MoreAnnots, MoreItems, NameAtom, NoAnnots, NoItems, NoParts, NoRest, OneFactor, Params, Pointer}
use Rattle.c_types_rules.specs.Checked.{Checked, Fine, Noted, Broken}
use Rattle.c_types_rules.specs.Sources.{Program, program}
use Rattle.annot_reader_rules.specs.Notes.{Annotated, Notes, Parameter}
use Rattle.annot_reader_rules.specs.Cuts.{annotations}
use Rattle.c_types_examples.specs.Small.{char_base, int_base, main_giving, num, source}

-- a word without items, and one with one item
abbrev pub word : List ℕ → Annot
word w = Annotate 1 w NoItems

abbrev pub word_with : List ℕ → Atom → Annot
word_with w a = Annotate 1 w (MoreItems (OneFactor 2 a) NoItems)

abbrev pub notes : List Annot → Annots
notes [] = NoAnnots
notes (x ∷ xs) = MoreAnnots x (notes xs)

-- [f..] int f([p..] BASE *p, int n);
abbrev pub annotated : List Annot → List Annot → Base → Decl
annotated f p b =
    Declare 3 (notes f) int_base (Params 4 (source
    (Declare 5 (notes p) b (Pointer 5 NoParts) (Some (codes "p")) NoRest ∷
    Declare 6 NoAnnots int_base NoParts (Some (codes "n")) NoRest ∷ [])) NoParts) (Some (codes "f"))
    NoRest

abbrev read : Decls → Checked Program → Checked Annotated
read ds (Fine p) = annotations ds p
read ds (Noted n p) = annotations ds p
read ds (Broken from rule) = Broken 0 0

abbrev found : Decls → Checked Annotated
found ds = read ds (program ds)

abbrev broken : Checked Annotated → Option (ℕ × ℕ)
broken (Broken from rule) = Some (from, rule)
broken _ = None

abbrev with_main : Decl → Decls
with_main d = source (d ∷ main_giving (num 0) ∷ [])

-- the rule of annotations that the function breaks, and where
abbrev pub rule_of : Decl → Option (ℕ × ℕ)
rule_of d = broken (found (with_main d))

abbrev first_parameter : List Notes → Option Parameter
first_parameter [] = None
first_parameter (n ∷ ns) = first n.params
  where
    first : List Parameter → Option Parameter
    first [] = None
    first (p ∷ ps) = Some p

abbrev parameter_in : Checked Annotated → Option Parameter
parameter_in (Fine a) = first_parameter a.functions
parameter_in (Noted n a) = first_parameter a.functions
parameter_in (Broken from rule) = None

-- what is said of its first parameter
abbrev pub parameter_of : Decl → Option Parameter
parameter_of d = parameter_in (found (with_main d))
