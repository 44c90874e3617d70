-- What a node names is lower than it.
use Rattle.std.proofs.Common.{◌<◌, ◌≤◌, ℕ, zero, suc, List, [], ◌∷◌, length, get_or, arith}
use Rattle.c_syntax.specs.Nodes.{Nodes}
use Rattle.c_types_rules.specs.Checked.{Checked}
use Rattle.c_syntax_laws.specs.Heights.{greatest}
use Rattle.c_syntax_laws.specs.declared.node.Node.{Node}
use Rattle.c_syntax_laws.specs.declared.node.Node.TheVariants as nodes
use Rattle.c_syntax_laws.specs.Named.{height_in, named_by}
use Rattle.c_syntax_laws.proofs.Lower.{expr_falls, stmt_falls, decl_falls}
use Rattle.annot_reader_words.specs.Sayings.{Says}

-- the height of the highest of several nodes
abbrev pub heights_of : Nodes → List Node → ℕ
heights_of N vs = greatest (height_in N) vs

pub lower : (N : Nodes) (v : Node) (c : Checked (Unit {0})) → Says N v c → heights_of N (named_by N v) < height_in N v
lower N (nodes.Expr i) c (x, h, e) = expr_falls N i x h
lower N (nodes.Stmt i) c (x, h, e) = stmt_falls N i x h
lower N (nodes.Decl i) c (x, h, e) = decl_falls N i x h

pub among : (N : Nodes) (vs : List Node) (k : ℕ) (d : Node) → k < length vs → height_in N (get_or vs k d) ≤ heights_of N vs
among N [] k d h = absurd (omega arith)
among N (v ∷ vs) zero d h = omega arith
among N (v ∷ vs) (suc k) d h = omega (arith, among N vs k d (omega arith))
