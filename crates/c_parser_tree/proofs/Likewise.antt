-- What it means that pieces with numbers go as trees do.
use Rattle.std.proofs.Common.{◌≡◌, List, [], ◌∷◌, Option, Some, None, refl, ap, ◌∙◌}
use Rattle.std.specs.Option.{option_map}
use Rattle.c_syntax.specs.declared.declaration.Annot.{Annot}
use Rattle.c_syntax.specs.declared.declaration.Base.{Base}
use Rattle.c_syntax.specs.declared.declaration.Decl.{Decl as DeclNode}
use Rattle.c_syntax.specs.Nodes.{Nodes, decl_at}
use Rattle.c_syntax.specs.Syntax.{Annots}
use Rattle.c_parser_tree.specs.declared.piece.Shared.{Shared}
use Rattle.c_parser_tree.specs.declared.piece.Shared.TheVariants as shares
use Rattle.c_parser_moves.specs.declared.action.Action.{Action}
use Rattle.c_parser_actions.specs.Pieces.{Piece as Tree, PBroken, act}
use Rattle.c_parser_tree.specs.Built.{Built, words_of}
use Rattle.c_parser_tree.specs.Stacks.{Stacks}
use Rattle.c_parser_tree.specs.Stacked.{Stacked, StandsShared}
use Rattle.c_parser_tree.specs.Stacked as s
use Rattle.c_parser_tree.proofs.Grow.{Grows, grow, grow_exprs, grow_maybe, grow_decl, grow_decls, grow_annots, grow_items, grow_item, grow_atom, grow_parts, grow_value, grow_values, grow_stmt, grow_entries, grow_first}

-- what is made stands for the stack, which is broken where nothing is made
abbrev pub Stood : Option Built → List Tree → Type 0
Stood (Some b) P = Stacked b.nodes b.stack P
Stood None P = P ≡ PBroken ∷ []

-- what is made stands for the stack after the action
abbrev pub Likewise : (Nodes → Stacks → Option Built) → Action → Type 0
Likewise m a = (N : Nodes) (R : Stacks) (P : List Tree) → Stacked N R P → Stood (m N R) (act a P)

pub grow_words : {N M : Nodes} → Grows N M → (v : Shared) (w : List Annot × Base) → words_of N v ≡ Some w → words_of M v ≡ Some w
grow_words g (shares.Words an b) w h = h
grow_words {N} {M} g (shares.Like i) w h = by (decl_at N i) refl h
  where
    by : (o : Option DeclNode) → decl_at N i ≡ o → option_map (λ d. (d.annots, d.base)) o ≡ Some w → words_of M (shares.Like i) ≡ Some w
    by None e k = absurd cc
    by (Some d) e k = ap (option_map (λ (x : DeclNode). (x.annots, x.base))) (g.decl i d e) ∙ k

pub grow_shared : {N M : Nodes} → Grows N M → (v : Shared) (an : Annots) (b : Base) → StandsShared N v an b → StandsShared M v an b
grow_shared g v an b (w, h, p, q) = (w, grow_words g v w h, grow_annots g w.0 an p, q)

-- a broken stack stands for whatever is made
pub goes_broken : (m : Option Built) → Stood m (PBroken ∷ [])
goes_broken (Some b) = s.broken b.stack []
goes_broken None = refl

pub grow_stack : {N M : Nodes} {S : Stacks} {P : List Tree} → Grows N M → Stacked N S P → Stacked M S P
grow_stack g s.none = s.none
grow_stack g (s.broken S P) = s.broken S P
grow_stack g (s.expr i x p t) = s.expr i x (grow g i x p) (grow_stack g t)
grow_stack g (s.exprs i x p t) = s.exprs i x (grow_exprs g i x p) (grow_stack g t)
grow_stack g (s.maybe i x p t) = s.maybe i x (grow_maybe g i x p) (grow_stack g t)
grow_stack g (s.declr vs n f ps p t) = s.declr vs n f ps (grow_parts g _ ps p) (grow_stack g t)
grow_stack g (s.specs v b an p t) = s.specs v b an (grow_shared g v an b p) (grow_stack g t)
grow_stack g (s.decl i x p t) = s.decl i x (grow_decl g i x p) (grow_stack g t)
grow_stack g (s.decls i x p t) = s.decls i x (grow_decls g i x p) (grow_stack g t)
grow_stack g (s.annots i x p t) = s.annots i x (grow_annots g i x p) (grow_stack g t)
grow_stack g (s.annot f n vs is p t) = s.annot f n vs is (grow_items g vs is p) (grow_stack g t)
grow_stack g (s.item i x p t) = s.item i x (grow_item g i x p) (grow_stack g t)
grow_stack g (s.atom i x p t) = s.atom i x (grow_atom g i x p) (grow_stack g t)
grow_stack g (s.value i x p t) = s.value i x (grow_value g i x p) (grow_stack g t)
grow_stack g (s.values i x p t) = s.values i x (grow_values g i x p) (grow_stack g t)
grow_stack g (s.entries i x p t) = s.entries i x (grow_entries g i x p) (grow_stack g t)
grow_stack g (s.stmt i x p t) = s.stmt i x (grow_stmt g i x p) (grow_stack g t)
grow_stack g (s.first i x p t) = s.first i x (grow_first g i x p) (grow_stack g t)
grow_stack g (s.tag f n t) = s.tag f n (grow_stack g t)
