-- What the rule on annotations that are out of place says of nodes.
use Rattle.std.specs.Prelude.{◌≡◌, List, [], ◌∷◌, Option, Some, None}
use Rattle.c_syntax.specs.declared.declaration.Annot.{Annot}
use Rattle.c_syntax.specs.declared.declaration.Decl.{Decl as DeclNode}
use Rattle.c_syntax.specs.Nodes.{Nodes, decl_at}
use Rattle.c_syntax.specs.Syntax.{Expr, Stmt, Decl}
use Rattle.c_syntax.specs.Stands.{Stands, StandsStmt, StandsDecl}
use Rattle.c_types_rules.specs.Checked.{Checked, Fine, Broken, ◌>>◌}
use Rattle.annot_reader_rules.specs.Misplaced.{bare, bare_decl, bare_stmt}
use Rattle.c_syntax_laws.specs.declared.node.Node.{Node}
use Rattle.c_syntax_laws.specs.declared.node.Node.TheVariants as nodes

-- the number stands for a part of a source, of which this is said
abbrev pub Says : Nodes → Node → Checked (Unit {0}) → Type 0
Says N (nodes.Expr i) c = (x : Expr) × Stands N i x × (c ≡ bare x)
Says N (nodes.Stmt i) c = (s : Stmt) × StandsStmt N i s × (c ≡ bare_stmt s)
Says N (nodes.Decl i) c = (d : Decl) × StandsDecl N i d × (c ≡ bare_decl d)

-- the same of several, one after another
abbrev pub AllSay : Nodes → List Node → Checked (Unit {0}) → Type 0
AllSay N [] c = c ≡ Fine tt
AllSay N (v ∷ vs) c = (d e : Checked (Unit {0})) × Says N v d × AllSay N vs e × (c ≡ (d >> e))

-- the numbers stand for parts of a source
abbrev pub IsNode : Nodes → Node → Type 0
IsNode N v = (c : Checked (Unit {0})) × Says N v c

abbrev pub AreNodes : Nodes → List Node → Type 0
AreNodes N vs = (c : Checked (Unit {0})) × AllSay N vs c

abbrev pub first_word : List Annot → Checked (Unit {0})
first_word [] = Fine tt
first_word (x ∷ xs) = Broken x.from 1

abbrev pub own_of : Option DeclNode → Checked (Unit {0})
own_of None = Fine tt
own_of (Some d) = first_word d.annots

-- what is said of a node by itself: a declaration has no annotations
abbrev pub own : Nodes → Node → Checked (Unit {0})
own N (nodes.Decl i) = own_of (decl_at N i)
own N v = Fine tt
