-- What is known of the functions of a source, where types go by numbers.
use Rattle.std.specs.Prelude.{◌≡◌, ◌<◌, ◌≤◌, List, [], ◌∷◌, length}
use Rattle.std.specs.List.{All}
use Rattle.c_syntax.specs.Nodes.{Nodes}
use Rattle.c_syntax.specs.Syntax.{Decls}
use Rattle.c_syntax.specs.Stands.{Holds}
use Rattle.c_syntax_laws.specs.Numbers.{FitsDecls}
use Rattle.c_types_model.specs.Types.{FunctionOf}
use Rattle.c_types_table.specs.Tables.{all_at, at}
use Rattle.c_types_rules.specs.Sources.{Function, Program, at_file, tags_of}
use Rattle.annot_reader_rules.specs.Cuts.{kind_of}
use Rattle.annot_reader_functions.specs.Rules.{Declared}
use Rattle.annot_reader_functions.specs.Parameters.{AreTypes}
use Rattle.annot_reader_functions.specs.Sayings.{kind_in}
use Rattle.annot_reader.specs.declared.source.Heading.{Heading}

-- its numbers are those of types, and there are few parameters
pub record IsHeading (d : Declared) (h : Heading) : Type 0 where
  pub result : h.result.0 < length d.types
  pub params : AreTypes d h.params
  pub few : length h.params ≤ 256

-- it is that of this function
pub record IsHeadingOf (d : Declared) (h : Heading) (f : Function) : Type 0 where
  pub kind : kind_in h.kind ≡ kind_of f
  pub type : f.type ≡ FunctionOf (at d.types h.result) (all_at d.types h.params)

-- they are those of these functions, one by one
abbrev pub AreHeadings : Declared → List Heading → List Function → Type 0
AreHeadings d [] [] = Unit {0}
AreHeadings d (h ∷ hs) (f ∷ fs) = IsHeadingOf d h f × AreHeadings d hs fs
AreHeadings d _ _ = ⊥

-- the tree is that of a source that is typed as this program, and these are its functions
pub record IsTyped (N : Nodes) (d : Declared) (hs : List Heading) (ds : Decls) (p : Program) : Type 0 where
  pub holds : Holds N ds
  pub env : d.env ≡ at_file (tags_of ds) p
  pub numbers : All (IsHeading d) hs
  pub functions : AreHeadings d hs p.functions

-- the tree is that of some source whose numbers are such as tokens are
abbrev pub IsSource : Nodes → Declared → List Heading → Type 0
IsSource N d hs = (ds : Decls) × (p : Program) × FitsDecls ds × IsTyped N d hs ds p
