-- How much is left to do: it falls with each step.
use Rattle.std.specs.Prelude.{ℕ, ◌+◌, ◌*◌, length}
use Rattle.c_parser_moves.specs.declared.frame.Next.{Next}
use Rattle.c_parser_moves.specs.declared.frame.Next.TheVariants as nexts
use Rattle.c_parser_moves.proofs.Machine.{Move}

abbrev pub weight_of : Next → ℕ → ℕ → ℕ
weight_of nexts.Fail n k = 0
weight_of nexts.End n k = 0
weight_of nexts.Operand n k = 24 * n + 2 * k + 1
weight_of (nexts.After f) n k = 24 * n + 2 * k + 2
weight_of (nexts.Done l) n k = 24 * n + 2 * k + 1
weight_of nexts.Value n k = 24 * n + 2 * k + 1
weight_of nexts.TypeName n k = 24 * n + 2 * k + 10
weight_of (nexts.Declr g f) n k = 24 * n + 2 * k + 9
weight_of nexts.Direct n k = 24 * n + 2 * k + 8
weight_of nexts.DeclrDone n k = 24 * n + 2 * k + 7
weight_of nexts.Param n k = 24 * n + 2 * k + 13
weight_of (nexts.Specs t) n k = 24 * n + 2 * k + 12
weight_of (nexts.Names p) n k = 24 * n + 2 * k + 12
weight_of nexts.Annot n k = 24 * n + 2 * k + 1
weight_of nexts.AnnotDone n k = 24 * n + 2 * k + 1
weight_of nexts.Item n k = 24 * n + 2 * k + 4
weight_of nexts.Atom n k = 24 * n + 2 * k + 1
weight_of nexts.AtomDone n k = 24 * n + 2 * k + 1
weight_of nexts.ItemDone n k = 24 * n + 2 * k + 1
weight_of nexts.Initial n k = 24 * n + 2 * k + 6
weight_of nexts.ValueDone n k = 24 * n + 2 * k + 1
weight_of nexts.Stmt n k = 24 * n + 2 * k + 6
weight_of nexts.StmtDone n k = 24 * n + 2 * k + 14
weight_of nexts.Entry n k = 24 * n + 2 * k + 13
weight_of (nexts.ForFirst f) n k = 24 * n + 2 * k + 13
weight_of (nexts.ForTest f) n k = 24 * n + 2 * k + 6
weight_of (nexts.ForStep f) n k = 24 * n + 2 * k + 6
weight_of nexts.MemberEnd n k = 24 * n + 2 * k + 13
weight_of nexts.Top n k = 24 * n + 2 * k + 13

abbrev pub weight : Move → ℕ
weight m = weight_of m.next (length m.rest) (length m.opens)
