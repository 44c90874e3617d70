-- The pieces of a source that pieces with numbers stand for.
use Rattle.std.specs.Prelude.{◌≡◌, ℕ, List, [], ◌∷◌, reverse, Option, Some, Result, Ok, Err}
use Rattle.c_syntax.specs.declared.id.DeclId.{DeclId}
use Rattle.c_syntax.specs.declared.id.StmtId.{StmtId}
use Rattle.c_syntax.specs.declared.id.ExprId.{ExprId}
use Rattle.c_syntax.specs.declared.declaration.Annot.{Annot}
use Rattle.c_syntax.specs.declared.declaration.Base.{Base}
use Rattle.c_syntax.specs.declared.declaration.Item.{Item}
use Rattle.c_syntax.specs.declared.declaration.Atom.{Atom as Factor}
use Rattle.c_syntax.specs.declared.declaration.Part.{Part}
use Rattle.c_syntax.specs.declared.declaration.Value.{Value as Given}
use Rattle.c_syntax.specs.declared.statement.Entry.{Entry}
use Rattle.c_syntax.specs.declared.statement.First.{First as Begin}
use Rattle.c_syntax.specs.Nodes.{Nodes}
use Rattle.c_syntax.specs.Syntax.{Expr, Exprs, MaybeExpr, Decl, Decls, Annots, Items, Item as Factors, Atom, Parts, Value, Values, Stmt, Entries, First}
use Rattle.c_syntax.specs.Stands.{Stands, StandExprs, StandsMaybe, StandsDecl, StandDecls, StandAnnots, StandsItem, StandItems, StandsAtom, StandParts, StandsValue, StandValues, StandsStmt, StandEntries, StandsFirst, Holds}
use Rattle.c_parser_moves.specs.declared.action.Action.{Action}
use Rattle.c_parser_actions.specs.Pieces.{Piece as Tree, PExpr, PExprs, PMaybe, PDeclr, PSpecs, PDecl, PDecls, PAnnots, PAnnot, PItem, PAtom, PValue, PValues, PEntries, PStmt, PFirst, PTag, PBroken, act}
use Rattle.c_parser_tree.specs.declared.builder.Builder.{Builder}
use Rattle.c_parser_tree.specs.declared.builder.BuildError.{BuildError}
use Rattle.c_parser_tree.specs.declared.builder.BuildError.TheVariants as errors
use Rattle.c_parser_tree.specs.declared.piece.Shared.{Shared}
use Rattle.c_parser_tree.specs.Built.{words_of}
use Rattle.c_parser_tree.specs.Seen.{nodes_seen, stack_seen}
use Rattle.c_parser_tree.specs.Stacks.{Stacks, no_pieces, push_expr, push_exprs, push_maybe, push_declarator, push_shared, push_decl, push_decls, push_annots, push_annot, push_item, push_atom, push_value, push_values, push_entries, push_stmt, push_first, push_tag}

-- what names share stands for these annotations and this type
abbrev pub StandsShared : Nodes → Shared → Annots → Base → Type 0
StandsShared N s an b =
    (w : List Annot × Base) × (words_of N s ≡ Some w) × StandAnnots N w.0 an × (w.1 ≡ b)

-- the pieces stand, in these nodes, for a stack of those of a source; any do for one with a broken piece on
-- top
pub data Stacked (N : Nodes) : Stacks → List Tree → Type 0 where
  none : Stacked N no_pieces []
  broken : (S : Stacks) (P : List Tree) → Stacked N S (PBroken ∷ P)
  expr : {S : Stacks} {P : List Tree} (i : ExprId) (x : Expr) → Stands N i x → Stacked N S P
      → Stacked N (push_expr i S) (PExpr x ∷ P)
  exprs : {S : Stacks} {P : List Tree} (is : List ExprId) (xs : Exprs) → StandExprs N is xs → Stacked N S P
      → Stacked N (push_exprs is S) (PExprs xs ∷ P)
  maybe : {S : Stacks} {P : List Tree} (i : Option ExprId) (x : MaybeExpr) → StandsMaybe N i x →
      Stacked N S P
      → Stacked N (push_maybe i S) (PMaybe x ∷ P)
  declr : {S : Stacks} {P : List Tree} (vs : List Part) (n : Option (List ℕ)) (f : ℕ) (ps : Parts)
      → StandParts N (reverse vs) ps → Stacked N S P
      → Stacked N (push_declarator (record { parts = vs; name = n; from = f }) S) (PDeclr ps n f ∷ P)
  specs : {S : Stacks} {P : List Tree} (s : Shared) (b : Base) (an : Annots)
      → StandsShared N s an b → Stacked N S P
      → Stacked N (push_shared s S) (PSpecs an b ∷ P)
  decl : {S : Stacks} {P : List Tree} (i : DeclId) (d : Decl) → StandsDecl N i d → Stacked N S P
      → Stacked N (push_decl i S) (PDecl d ∷ P)
  decls : {S : Stacks} {P : List Tree} (is : List DeclId) (ds : Decls) → StandDecls N is ds → Stacked N S P
      → Stacked N (push_decls is S) (PDecls ds ∷ P)
  annots : {S : Stacks} {P : List Tree} (vs : List Annot) (an : Annots) → StandAnnots N vs an →
      Stacked N S P
      → Stacked N (push_annots vs S) (PAnnots an ∷ P)
  annot : {S : Stacks} {P : List Tree} (f : ℕ) (n : List ℕ) (vs : List Item) (is : Items)
      → StandItems N vs is → Stacked N S P
      → Stacked N (push_annot (record { from = f; name = n; items = vs }) S) (PAnnot f n is ∷ P)
  item : {S : Stacks} {P : List Tree} (v : Item) (x : Factors) → StandsItem N v x → Stacked N S P
      → Stacked N (push_item v S) (PItem x ∷ P)
  atom : {S : Stacks} {P : List Tree} (a : Factor) (x : Atom) → StandsAtom N a x → Stacked N S P
      → Stacked N (push_atom a S) (PAtom x ∷ P)
  value : {S : Stacks} {P : List Tree} (v : Given) (x : Value) → StandsValue N v x → Stacked N S P
      → Stacked N (push_value v S) (PValue x ∷ P)
  values : {S : Stacks} {P : List Tree} (vs : List Given) (xs : Values) → StandValues N vs xs →
      Stacked N S P
      → Stacked N (push_values vs S) (PValues xs ∷ P)
  entries : {S : Stacks} {P : List Tree} (vs : List Entry) (es : Entries)
      → StandEntries N vs es → Stacked N S P
      → Stacked N (push_entries vs S) (PEntries es ∷ P)
  stmt : {S : Stacks} {P : List Tree} (i : StmtId) (s : Stmt) → StandsStmt N i s → Stacked N S P
      → Stacked N (push_stmt i S) (PStmt s ∷ P)
  first : {S : Stacks} {P : List Tree} (a : Begin) (x : First) → StandsFirst N a x → Stacked N S P
      → Stacked N (push_first a S) (PFirst x ∷ P)
  tag : {S : Stacks} {P : List Tree} (f : ℕ) (n : List ℕ) → Stacked N S P
      → Stacked N (push_tag (record { from = f; name = n }) S) (PTag f n ∷ P)

-- the builder's pieces stand for this stack
abbrev pub Holding : Builder → List Tree → Type 0
Holding b P = Stacked (nodes_seen b) (stack_seen b) P

-- the builder's pieces stand for this stack, which is broken where the actions are unfit
abbrev pub Follows : Result (Unit {0}) BuildError → Builder → List Tree → Type 0
Follows (Ok _) b P = Holding b P
Follows (Err errors.Unfit) b P = P ≡ PBroken ∷ []
Follows (Err errors.Memory) b P = Unit {0}

-- the builder does what the action does to each stack that its pieces stand for
abbrev pub Steps : Action → Builder → Result (Unit {0}) BuildError → Builder → Type 0
Steps a b r c = (P : List Tree) → Holding b P → Follows r c (act a P)

-- the tree holds each source that alone waits, and there is none where the actions are unfit
abbrev pub IsFinished : Result Nodes BuildError → Builder → Type 0
IsFinished (Ok t) b = (ds : Decls) → Holding b (PDecls ds ∷ []) → Holds t ds
IsFinished (Err errors.Unfit) b = (ds : Decls) → Holding b (PDecls ds ∷ []) → ⊥
IsFinished (Err errors.Memory) b = Unit {0}
