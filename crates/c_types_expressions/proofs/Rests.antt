-- How the rest of a list goes on from what was done of it.
use Rattle.std.proofs.Common.{ℕ, Bool, List, Result}
use Rattle.c_syntax.specs.declared.id.DeclId.{DeclId}
use Rattle.c_syntax.specs.declared.id.ExprId.{ExprId}
use Rattle.c_syntax.specs.declared.declaration.Annot.{Annot as AnnotNode}
use Rattle.c_syntax.specs.declared.declaration.Item.{Item as ItemNode}
use Rattle.c_syntax.specs.declared.declaration.Part.{Part}
use Rattle.c_syntax.specs.Nodes.{Nodes}
use Rattle.c_syntax.specs.Syntax.{Annots, Items, Parts, Decls, Exprs}
use Rattle.c_syntax.specs.Stands.{StandAnnots, StandItems, StandParts, StandDecls, StandExprs}
use Rattle.c_types_model.specs.Types.{CType, CTypes, NoTypes, MoreTypes}
use Rattle.c_types_table.specs.declared.ids.TypeId.{TypeId}
use Rattle.c_types_rules.specs.Checked.{Fine, ◌>>=◌, Notes}
use Rattle.c_types_rules.specs.Environment.{Environment}
use Rattle.c_types_rules.specs.Expressions.{annotation_types, arguments, item_types, declarator_type, parameter_types}
use Rattle.c_types_rules.specs.TypedTree.{Values, NoValues, MoreValues}
use Rattle.c_types_nodes.specs.declared.ids.NodeId.{NodeId}
use Rattle.c_types_nodes.specs.Tables.{Table}
use Rattle.c_types_operators.specs.declared.error.TypeError.{TypeError}
use Rattle.c_types_operators.specs.Answers.{IsNothing}
use Rattle.c_types_expressions.specs.Found.{Found, IsType, AreTypes, AreValues}

-- what agrees with the rest of the annotations agrees with all
pub record RestOfAnnots (N : Nodes) (env : Environment) (f g : Notes) (vs : List AnnotNode) (xs : Annots) : Type 0 where
  pub rest : Annots
  pub stand : StandAnnots N vs rest
  pub go_on : (h : Notes) (r : Result (Unit {0}) TypeError) → Found g h IsNothing (annotation_types rest env) r → Found f h IsNothing (annotation_types xs env) r

-- the same of an annotation's items
pub record RestOfItems (N : Nodes) (env : Environment) (f g : Notes) (vs : List ItemNode) (xs : Items) : Type 0 where
  pub rest : Items
  pub stand : StandItems N vs rest
  pub go_on : (h : Notes) (r : Result (Unit {0}) TypeError) → Found g h IsNothing (item_types rest env) r → Found f h IsNothing (item_types xs env) r

-- the same of the parts of a declarator, which have made u of t
pub record RestOfParts (N : Nodes) (env : Environment) (f g : Notes) (vs : List Part) (ps : Parts) (t u : CType) : Type 0 where
  pub rest : Parts
  pub stand : StandParts N vs rest
  pub go_on : (table : Table) (h : Notes) (r : Result TypeId TypeError) → Found g h (IsType table) (declarator_type rest env u) r → Found f h (IsType table) (declarator_type ps env t) r

-- one list of types after another
abbrev pub joined : CTypes → CTypes → CTypes
joined NoTypes us = us
joined (MoreTypes t ts) us = MoreTypes t (joined ts us)

-- the same of parameters, whose types so far stand at numbers of a table, and whose names so far are declared
pub record RestOfParameters (N : Nodes) (before now : Environment) (f g : Notes) (t : Table) (ids : List TypeId) (place : ℕ) (vs : List DeclId) (ds : Decls) : Type 0 where
  pub rest : Decls
  pub stand : StandDecls N vs rest
  pub done : CTypes
  pub there : AreTypes t done ids
  pub go_on : (table : Table) (h : Notes) (r : Result (List TypeId) TypeError) →
      Found g h (AreTypes table) (parameter_types rest now place >>= (λ ts. Fine (joined done ts))) r → Found f h (AreTypes table) (parameter_types ds before 0) r

-- one list of values after another
abbrev pub values_joined : Values → Values → Values
values_joined NoValues us = us
values_joined (MoreValues v vs) us = MoreValues v (values_joined vs us)

-- the same of arguments, whose values so far stand at numbers of a table, and the types of the parameters that are left
pub record RestOfArguments (N : Nodes) (env : Environment) (from : ℕ) (f g : Notes) (t : Table) (ids : List NodeId) (vs : List ExprId) (xs : Exprs) (ts us : CTypes) : Type 0 where
  pub rest : Exprs
  pub stand : StandExprs N vs rest
  pub done : Values
  pub there : AreValues t done ids
  pub go_on : (table : Table) (h : Notes) (r : Result (List NodeId) TypeError) →
      Found g h (AreValues table) (arguments rest env from us >>= (λ ws. Fine (values_joined done ws))) r → Found f h (AreValues table) (arguments xs env from ts) r
