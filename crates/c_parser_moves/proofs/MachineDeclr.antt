-- The parser's moves over declarators, specifiers and annotations.
use Rattle.std.specs.Prelude.{ℕ, Bool, true, false, List, [], ◌∷◌, Option, Some, None, if◌then◌else◌}
use Rattle.c_lexer.specs.declared.token.Sign.TheVariants as signs
use Rattle.c_lexer.specs.declared.token.Word.TheVariants as words
use Rattle.c_lexer.specs.declared.token.Kind.{Kind}
use Rattle.c_lexer.specs.declared.token.Kind.TheVariants as kinds
use Rattle.c_lexer.specs.declared.token.Token.{Token}
use Rattle.c_syntax.specs.declared.declaration.Base.{Base}
use Rattle.c_syntax.specs.Levels.{lone_void}
use Rattle.c_parser_moves.specs.declared.mark.Punctuator.{Punctuator}
use Rattle.c_parser_moves.specs.declared.mark.Punctuator.TheVariants as marks
use Rattle.c_parser_moves.specs.declared.frame.Naming.{Naming}
use Rattle.c_parser_moves.specs.declared.frame.Naming.TheVariants as namings
use Rattle.c_parser_moves.specs.declared.frame.Target.{Target}
use Rattle.c_parser_moves.specs.declared.frame.Target.TheVariants as targets
use Rattle.c_parser_moves.specs.declared.frame.DeclaredIn.{DeclaredIn}
use Rattle.c_parser_moves.specs.declared.frame.DeclaredIn.TheVariants as places
use Rattle.c_parser_moves.specs.declared.frame.Frame.{Frame}
use Rattle.c_parser_moves.specs.declared.frame.Frame.TheVariants as frames
use Rattle.c_parser_moves.specs.declared.frame.Next.{Next}
use Rattle.c_parser_moves.specs.declared.frame.Next.TheVariants as nexts
use Rattle.c_parser_moves.specs.declared.action.Action.{Action}
use Rattle.c_parser_moves.specs.declared.action.Action.TheVariants as acts
use Rattle.c_parser_moves.specs.Marks.{mark_at}
use Rattle.c_parser_moves.specs.Words.{skip_consts, lists}
use Rattle.c_parser_moves.proofs.Machine.{Move, move, fail, tail, begin}

abbrev pub named_group : Naming → Bool
named_group namings.Never = false
named_group _ = true

abbrev pub kind_groups : Kind → Naming → List Token → Bool
kind_groups (kinds.Name n) g ts = named_group g
kind_groups (kinds.Sign signs.Star) g ts = true
kind_groups (kinds.Sign signs.OpenParenthesis) g ts = true
kind_groups (kinds.Sign signs.OpenBracket) g ts = if lists ts then false else true
kind_groups _ g ts = false

-- what follows a bracket is a declarator in brackets, and no parameters, where a name may be lacking
unfoldable pub groups : Naming → List Token → Bool
groups g [] = false
groups namings.Always (t ∷ ts) = true
groups g (t ∷ ts) = kind_groups t.kind g ts

-- the place where a name is lacking
unfoldable pub unnamed : Naming → ℕ → List Token → List Frame → Move
unnamed namings.Always f ts K = fail ts K
unnamed _ f ts K = move nexts.Direct (acts.Nameless f ∷ []) ts K

unfoldable pub in_group : Bool → Naming → ℕ → List Token → List Token → List Frame → Move
in_group true g f all ts K = move (nexts.Declr g f) [] ts (frames.Grouped ∷ K)
in_group false g f all ts K = unnamed g f all K

unfoldable pub give_name : Naming → ℕ → ℕ → List ℕ → List Token → List Token → List Frame → Move
give_name namings.Never f g n all ts K = unnamed namings.Never f all K
give_name _ f g n all ts K = move nexts.Direct (acts.Named g n ∷ []) ts K

-- the first token of a declarator, all from it on, and what is after it
unfoldable pub declr : Kind → Naming → ℕ → ℕ → List Token → List Token → List Frame → Move
declr (kinds.Name n) g f from all ts K = give_name g f from n all ts K
declr (kinds.Sign signs.Star) g f from all ts K =
    move (nexts.Declr g f) [] (skip_consts ts) (frames.Pointer from ∷ K)
declr (kinds.Sign signs.OpenParenthesis) g f from all ts K = in_group (groups g ts) g f all ts K
declr _ g f from all ts K = unnamed g f all K

unfoldable pub params : Bool → ℕ → List Token → List Frame → Move
params true f ts K = move nexts.Direct (acts.Params f ∷ acts.NoDecls ∷ []) (tail (tail ts)) K
params false f ts K = move nexts.Param (acts.NoDecls ∷ []) ts (frames.Params f ∷ K)

-- what follows a direct declarator
unfoldable pub direct : Punctuator → ℕ → List Token → List Token → List Frame → Move
direct marks.OpenBracket f all ts K = begin 3 [] ts (frames.Length f ∷ K)
direct marks.Open f all ts K = params (lone_void ts) f ts K
direct _ f all ts K = move nexts.DeclrDone [] all K

-- the names of a declaration end
abbrev pub end_acts : DeclaredIn → List Action → List Action
end_acts places.Local out = acts.AddLocal ∷ acts.EndSpecs ∷ acts.AddName ∷ out
end_acts (places.For f) out = acts.LocalFirst ∷ acts.EndSpecs ∷ acts.AddName ∷ out
end_acts _ out = acts.EndSpecs ∷ acts.AddName ∷ out

abbrev pub end_next : DeclaredIn → Next
end_next places.Top = nexts.Top
end_next places.Local = nexts.Entry
end_next (places.For f) = nexts.ForTest f
end_next places.Member = nexts.MemberEnd

unfoldable pub with_value : DeclaredIn → List Token → List Frame → Move
with_value places.Member ts K = fail ts K
with_value p ts K = move nexts.Initial [] ts (frames.Init p ∷ K)

unfoldable pub with_body : DeclaredIn → Bool → List Token → List Frame → Move
with_body places.Top true ts K = move nexts.Stmt [] ts (frames.Body ∷ K)
with_body _ _ ts K = fail ts K

-- what follows a declarator of names, before and after the token
unfoldable pub named : Punctuator → DeclaredIn → Bool → List Token → List Token → List Frame → Move
named marks.Assign p first all ts K = with_value p ts K
named marks.Comma p first all ts K =
    move (nexts.Declr namings.Always 0) (acts.AddName ∷ acts.Declare ∷ []) ts (frames.Names p false ∷ K)
named marks.Semicolon p first all ts K = move (end_next p) (end_acts p (acts.Declare ∷ [])) ts K
named marks.OpenBrace p first all ts K = with_body p first all K
named _ p first all ts K = fail all K

unfoldable pub param_end : Punctuator → ℕ → List Token → List Frame → Move
param_end marks.Comma f ts K =
    move nexts.Param (acts.EndSpecs ∷ acts.AddName ∷ acts.Declare ∷ []) ts (frames.Params f ∷ K)
param_end marks.Close f ts K =
    move nexts.Direct (acts.Params f ∷ acts.EndSpecs ∷ acts.AddName ∷ acts.Declare ∷ []) ts K
param_end _ f ts K = fail ts K

-- the construct has its declarator, and a bracket follows
unfoldable pub type_end : Frame → List Token → List Frame → Move
type_end frames.Grouped ts K = move nexts.Direct [] ts K
type_end (frames.CastType f) ts K =
    move nexts.Operand (acts.DropSpecs ∷ acts.Declare ∷ []) ts (frames.Cast f ∷ K)
type_end (frames.SizeofType f) ts K =
    move (nexts.Done 14) (acts.SizeofType f ∷ acts.DropSpecs ∷ acts.Declare ∷ []) ts K
type_end frames.SizeofAtom ts K =
    move nexts.AtomDone (acts.SizeofAtom ∷ acts.DropSpecs ∷ acts.Declare ∷ []) ts K
type_end _ ts K = fail ts K

unfoldable pub type_closes : Punctuator → Frame → List Token → List Frame → Move
type_closes marks.Close o ts K = type_end o ts K
type_closes _ o ts K = fail ts K

-- the construct has its declarator
unfoldable pub declared : Frame → List Token → List Frame → Move
declared (frames.Pointer f) ts K = move nexts.DeclrDone (acts.Pointer f ∷ []) ts K
declared (frames.Names p first) ts K = named (mark_at ts) p first ts (tail ts) K
declared (frames.Params f) ts K = param_end (mark_at ts) f (tail ts) K
declared o ts K = type_closes (mark_at ts) o (tail ts) K

-- specifiers

unfoldable pub typed : Option (Base × List Token) → ℕ → List Frame → Move
typed None f K = fail [] K
typed (Some (b, ts)) f K = move (nexts.Declr namings.Never f) (acts.Specs b ∷ acts.NoAnnots ∷ []) ts K

unfoldable pub targeted : Option (Base × List Token) → Target → List Frame → Move
targeted None g K = fail [] K
targeted (Some (b, ts)) targets.Top K =
    move (nexts.Declr namings.Always 0) (acts.Specs b ∷ []) ts (frames.Names places.Top true ∷ K)
targeted (Some (b, ts)) (targets.Param f) K = move (nexts.Declr namings.Either f) (acts.Specs b ∷ []) ts K

abbrev pub is_top : Target → Bool
is_top targets.Top = true
is_top (targets.Param f) = false

-- the list of names goes on among members, and begins elsewhere
abbrev pub place_acts : DeclaredIn → Base → List Action
place_acts places.Member b = acts.Specs b ∷ acts.NoAnnots ∷ []
place_acts p b = acts.Specs b ∷ acts.NoAnnots ∷ acts.NoDecls ∷ []

unfoldable pub placed : Option (Base × List Token) → DeclaredIn → List Frame → Move
placed None p K = fail [] K
placed (Some (b, ts)) p K = move (nexts.Declr namings.Always 0) (place_acts p b) ts (frames.Names p true ∷
    K)

-- annotations may stand before the specifiers
unfoldable pub annotated : Punctuator → Target → List Token → List Token → List Frame → Move
annotated marks.OpenBracket g all ts K = move nexts.Annot (acts.NoAnnots ∷ []) ts (frames.Annots g ∷ K)
annotated _ g all ts K = move (nexts.Specs g) (acts.NoAnnots ∷ []) all K

-- annotations

unfoldable pub annot_items : Punctuator → ℕ → List ℕ → List Token → List Token → List Frame → Move
annot_items marks.Open f n all ts K = move nexts.Item (acts.AnnotName f n ∷ []) ts (frames.Items ∷ K)
annot_items _ f n all ts K = move nexts.AnnotDone (acts.AnnotName f n ∷ []) all K

unfoldable pub annot : Kind → ℕ → List Token → List Frame → Move
annot (kinds.Name n) f ts K = annot_items (mark_at ts) f n ts (tail ts) K
annot _ f ts K = fail ts K

unfoldable pub annots_end : Punctuator → Target → List Token → List Frame → Move
annots_end marks.Comma g ts K = move nexts.Annot (acts.AddAnnot ∷ []) ts (frames.Annots g ∷ K)
annots_end marks.CloseBracket g ts K = move (nexts.Specs g) (acts.AddAnnot ∷ []) ts K
annots_end _ g ts K = fail ts K

unfoldable pub annot_end : Frame → List Token → List Frame → Move
annot_end (frames.Annots g) ts K = annots_end (mark_at ts) g (tail ts) K
annot_end _ ts K = fail ts K

unfoldable pub atom_size : Punctuator → List Token → List Frame → Move
atom_size marks.Open ts K = move nexts.TypeName [] ts (frames.SizeofAtom ∷ K)
atom_size _ ts K = fail ts K

unfoldable pub atom : Kind → List Token → List Frame → Move
atom (kinds.Name n) ts K = move nexts.AtomDone (acts.NameAtom n ∷ []) ts K
atom (kinds.Number s d v) ts K = move nexts.AtomDone (acts.NumberAtom v ∷ []) ts K
atom (kinds.Word words.Return) ts K = move nexts.AtomDone (acts.ReturnAtom ∷ []) ts K
atom (kinds.Word words.Sizeof) ts K = atom_size (mark_at ts) (tail ts) K
atom _ ts K = fail ts K

unfoldable pub factor : Punctuator → ℕ → List Token → List Token → List Frame → Move
factor marks.Star f all ts K = move nexts.Atom [] ts (frames.SecondFactor f ∷ K)
factor _ f all ts K = move nexts.ItemDone (acts.OneFactor f ∷ []) all K

unfoldable pub atom_end : Frame → List Token → List Frame → Move
atom_end (frames.FirstFactor f) ts K = factor (mark_at ts) f ts (tail ts) K
atom_end (frames.SecondFactor f) ts K = move nexts.ItemDone (acts.TwoFactors f ∷ []) ts K
atom_end _ ts K = fail ts K

unfoldable pub items_end : Punctuator → List Token → List Frame → Move
items_end marks.Comma ts K = move nexts.Item (acts.AddItem ∷ []) ts (frames.Items ∷ K)
items_end marks.Close ts K = move nexts.AnnotDone (acts.AddItem ∷ []) ts K
items_end _ ts K = fail ts K

unfoldable pub item_end : Frame → List Token → List Frame → Move
item_end frames.Items ts K = items_end (mark_at ts) (tail ts) K
item_end _ ts K = fail ts K
