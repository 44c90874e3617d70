-- When a stack of chains has a longest chain of each piece.
use Rattle.std.proofs.Common.{ℕ, List, [], ◌∷◌}
use Rattle.c_syntax.specs.Depth.{Lies, LieExprs, LiesMaybe, LiesDecl, LieDecls, LieAnnots, LieItems, LiesItem, LiesAtom, LieParts, LiesValue, LieValues, LiesStmt, LieEntries, LiesFirst}
use Rattle.c_parser_actions.specs.Pieces.{Piece, PExpr, PExprs, PMaybe, PDeclr, PSpecs, PDecl, PDecls, PAnnots, PAnnot, PItem, PAtom, PValue, PValues, PEntries, PStmt, PFirst, PTag, PBroken}
use Rattle.c_parser_depth.specs.declared.chain.Chain.{Chain}
use Rattle.c_parser_depth.specs.Chains.{top, rest}
use Rattle.c_parser_depth.proofs.Longest.{IsLongest}

-- the piece has a node at the offset o that k nodes of the piece hold; a type has its annotations'
abbrev pub LiesPiece : Piece → ℕ → ℕ → Type 0
LiesPiece (PExpr x) k o = Lies x k o
LiesPiece (PExprs xs) k o = LieExprs xs k o
LiesPiece (PMaybe x) k o = LiesMaybe x k o
LiesPiece (PDeclr ps n f) k o = LieParts ps f k o
LiesPiece (PSpecs an b) k o = LieAnnots an k o
LiesPiece (PDecl d) k o = LiesDecl d k o
LiesPiece (PDecls ds) k o = LieDecls ds k o
LiesPiece (PAnnots an) k o = LieAnnots an k o
LiesPiece (PAnnot f n is) k o = LieItems is k o
LiesPiece (PItem x) k o = LiesItem x k o
LiesPiece (PAtom a) k o = LiesAtom a k o
LiesPiece (PValue v) k o = LiesValue v k o
LiesPiece (PValues vs) k o = LieValues vs k o
LiesPiece (PEntries es) k o = LieEntries es k o
LiesPiece (PStmt s) k o = LiesStmt s k o
LiesPiece (PFirst a) k o = LiesFirst a k o
LiesPiece (PTag f n) k o = ⊥
LiesPiece PBroken k o = ⊥

-- the chains are longest ones of the pieces; from a broken piece on they may be any
abbrev pub Measures : List Piece → List Chain → Type 0
Measures [] cs = Unit {0}
Measures (PBroken ∷ P) cs = Unit {0}
Measures (p ∷ P) cs = IsLongest (λ k o. LiesPiece p k o) (top cs) × Measures P (rest cs)
