-- What a builder holds.
use Rattle.std.specs.Prelude.{[], reverse}
use Rattle.c_syntax.specs.Nodes.{Nodes}
use Rattle.c_parser_tree.specs.declared.piece.Pieces.{Pieces}
use Rattle.c_parser_tree.specs.declared.builder.Builder.{Builder}
use Rattle.c_parser_tree.specs.Stacks.{Stacks}

-- the nodes so far
unfoldable pub nodes_seen : Builder → Nodes
nodes_seen b = record { decls = b.decls; stmts = b.stmts.items; exprs = b.exprs.items; tops = [] }

-- the pieces, the newest of each kind first
abbrev pub pieces_of : Pieces → Stacks
pieces_of p = record {
  exprs = reverse p.exprs.items;
  expr_lists = reverse p.expr_lists.items;
  maybes = reverse p.maybes.items;
  declarators = reverse p.declarators.items;
  shared = reverse p.shared.items;
  decls = reverse p.decls.items;
  decl_lists = reverse p.decl_lists.items;
  annot_lists = reverse p.annot_lists.items;
  annots = reverse p.annots.items;
  items = reverse p.items.items;
  atoms = reverse p.atoms.items;
  values = reverse p.values.items;
  value_lists = reverse p.value_lists.items;
  entry_lists = reverse p.entry_lists.items;
  stmts = reverse p.stmts.items;
  firsts = reverse p.firsts.items;
  tags = reverse p.tags.items;
}

-- the pieces that wait
unfoldable pub stack_seen : Builder → Stacks
stack_seen b = pieces_of b.pieces
