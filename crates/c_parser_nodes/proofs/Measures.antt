-- When a stack of tallies has the counts of each piece.
use Rattle.std.proofs.Common.{◌≡◌, List, [], ◌∷◌, Some, None}
use Rattle.c_parser_actions.specs.Pieces.{Piece, PExpr, PExprs, PMaybe, PDeclr, PSpecs, PDecl, PDecls, PAnnots, PAnnot, PItem, PAtom, PValue, PValues, PEntries, PStmt, PFirst, PTag, PBroken}
use Rattle.c_parser_nodes.specs.Counts.{capped, expr_nodes, exprs_nodes, maybe_nodes, decl_nodes, decls_nodes, annots_nodes, items_nodes, item_nodes, atom_nodes, parts_nodes, value_nodes, values_nodes, stmt_nodes, entries_nodes, first_nodes, list_offset, list_offset_of, tops_nodes}
use Rattle.c_parser_nodes.specs.declared.tally.Tally.{Tally}
use Rattle.c_parser_nodes.proofs.Lists.{bare_nodes, last_list}
use Rattle.c_parser_nodes.specs.Tallies.{top, rest}

-- the tally is that of the piece, of which a type has its annotations' nodes
abbrev pub IsTally : Piece → Tally → Type 0
IsTally (PExpr x) c = c.nodes ≡ capped (expr_nodes x)
IsTally (PExprs xs) c = c.nodes ≡ capped (exprs_nodes xs)
IsTally (PMaybe x) c = c.nodes ≡ capped (maybe_nodes x)
IsTally (PDeclr ps n f) c = c.nodes ≡ capped (parts_nodes ps)
IsTally (PSpecs an b) c = (c.nodes ≡ capped (annots_nodes an)) × (c.list ≡ list_offset an)
IsTally (PDecl d) c = (c.nodes ≡ capped (decl_nodes d)) × (c.once ≡ capped (bare_nodes d)) × (c.list ≡ list_offset_of d)
IsTally (PDecls ds) c =
    (c.nodes ≡ capped (decls_nodes ds)) × (c.once ≡ capped (tops_nodes None ds)) × (c.list ≡ last_list None ds)
IsTally (PAnnots an) c = (c.nodes ≡ capped (annots_nodes an)) × (c.list ≡ list_offset an)
IsTally (PAnnot f n is) c = (c.nodes ≡ capped (items_nodes is)) × (c.list ≡ Some f)
IsTally (PItem x) c = c.nodes ≡ capped (item_nodes x)
IsTally (PAtom a) c = c.nodes ≡ capped (atom_nodes a)
IsTally (PValue v) c = c.nodes ≡ capped (value_nodes v)
IsTally (PValues vs) c = c.nodes ≡ capped (values_nodes vs)
IsTally (PEntries es) c = c.nodes ≡ capped (entries_nodes es)
IsTally (PStmt s) c = c.nodes ≡ capped (stmt_nodes s)
IsTally (PFirst a) c = c.nodes ≡ capped (first_nodes a)
IsTally (PTag f n) c = Unit {0}
IsTally PBroken c = Unit {0}

-- the tallies are those of the pieces; from a broken piece on they may be any
abbrev pub Measures : List Piece → List Tally → Type 0
Measures [] cs = Unit {0}
Measures (PBroken ∷ P) cs = Unit {0}
Measures (p ∷ P) cs = IsTally p (top cs) × Measures P (rest cs)
