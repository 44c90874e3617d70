-- Parameters of functions, where their types go by numbers.
use Rattle.std.specs.Prelude.{◌≡◌, ℕ, List, length, drop}
use Rattle.std.specs.List.{All}
use Rattle.c_syntax.specs.declared.id.DeclId.{DeclId}
use Rattle.c_syntax.specs.declared.declaration.Annot.{Annot}
use Rattle.c_syntax.specs.declared.declaration.Item.{Item}
use Rattle.c_syntax.specs.Nodes.{Nodes}
use Rattle.c_syntax.specs.Syntax.{Annots, Decl, Decls, Items}
use Rattle.c_syntax.specs.Stands.{StandAnnots, StandDecls, StandItems}
use Rattle.c_syntax_laws.specs.Numbers.{FitsAnnots, FitsDecls, FitsItems}
use Rattle.c_types_model.specs.Types.{CType}
use Rattle.c_types_table.specs.declared.ids.TypeId.{TypeId}
use Rattle.c_types_table.specs.Tables.{IsBelow}
use Rattle.c_types_rules.specs.Environment.{Environment}
use Rattle.c_types_rules.specs.Checked.{Checked, Fine, ◌>>=◌, ◌>>◌}
use Rattle.c_types_rules.specs.Expressions.{parameter_scope}
use Rattle.annot_reader_rules.specs.Functions.{bare_within}
use Rattle.annot_reader_rules.specs.Notes.{Parameter}
use Rattle.annot_reader_rules.specs.Regions.{Signature, parameter_notes}
use Rattle.annot_reader_words.specs.declared.notes.Param.{Param}
use Rattle.annot_reader_words.specs.Readings.{parameters_in}
use Rattle.annot_reader_functions.specs.Rules.{Declared, Extends, Names}
use Rattle.annot_reader_functions.specs.Sizing.{IsParameter}

-- items whose numbers types can represent
abbrev pub AreItems : Nodes → List Item → Type 0
AreItems N vs = (is : Items) × StandItems N vs is × FitsItems is

abbrev pub AreAnnots : Nodes → List Annot → Type 0
AreAnnots N vs = (an : Annots) × StandAnnots N vs an × FitsAnnots an

abbrev pub AreDecls : Nodes → List DeclId → Type 0
AreDecls N is = (ds : Decls) × StandDecls N is ds × FitsDecls ds

-- the numbers are those of types
abbrev pub AreTypes : Declared → List TypeId → Type 0
AreTypes d ids = All (IsBelow (length d.types)) ids

-- what is declared is as it was but for the names of the innermost scope, and numbers stand for what they
-- did
pub record StaysAround (old new : Declared) : Type 0 where
  pub tags : new.env.tags ≡ old.env.tags
  pub structs : new.env.structs ≡ old.env.structs
  pub depth : length new.env.scopes ≡ length old.env.scopes
  pub outer : drop 1 new.env.scopes ≡ drop 1 old.env.scopes
  pub types : (id : TypeId) (t : CType) → Names old.types id t → Names new.types id t
  pub nodes : Extends old.nodes new.nodes

-- what is said of one parameter, and what is declared after it
abbrev pub one_parameter : Decl → Signature → (place : ℕ) → CType → Checked (Parameter × Environment)
one_parameter d s place t = do
  bare_within d
  p ← parameter_notes s d t
  further ← parameter_scope d s.env place t
  Fine (p, further)

-- the same, in the answer of a call and in what is declared then
abbrev pub IsRead : Declared → Parameter × Environment → Param → Type 0
IsRead after q v = IsParameter q.0 v × (after.env ≡ q.1)

abbrev pub AreRead : List Parameter → List Param → Type 0
AreRead ps vs = parameters_in vs ≡ ps
