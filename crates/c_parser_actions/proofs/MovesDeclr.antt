-- The moves of the parser over declarators and annotations, one for each turn of the grammar.
use Rattle.std.proofs.Common.{◌≡◌, ℕ, Bool, true, false, List, ◌∷◌, Option, Some, None, refl}
use Rattle.c_lexer.specs.declared.token.Sign.TheVariants as signs
use Rattle.c_lexer.specs.declared.token.Suffix.{Suffix}
use Rattle.c_lexer.specs.declared.token.Word.TheVariants as words
use Rattle.c_lexer.specs.declared.token.Kind.{Kind}
use Rattle.c_lexer.specs.declared.token.Kind.TheVariants as kinds
use Rattle.c_lexer.specs.declared.token.Token.{Token}
use Rattle.c_syntax.specs.declared.declaration.Base.{Base}
use Rattle.c_syntax.specs.Syntax.{Decls, Annots, Items, Item, Atom, Parts, SizeofType, Declare, NoDecls, NoAnnots, Annotate, NoItems, OneFactor, TwoFactors, NameAtom, NumberAtom, ReturnAtom, SizeofAtom, NoParts, Pointer, Params, NoRest, decls_then, annots_then, items_then}
use Rattle.c_syntax.specs.Levels.{lone_void, from_of}
use Rattle.c_parser_moves.specs.declared.mark.Punctuator.{Punctuator}
use Rattle.c_parser_moves.specs.declared.mark.Punctuator.TheVariants as marks
use Rattle.c_parser_moves.specs.declared.frame.Naming.{Naming}
use Rattle.c_parser_moves.specs.declared.frame.Naming.TheVariants as namings
use Rattle.c_parser_moves.specs.declared.frame.Target.{Target}
use Rattle.c_parser_moves.specs.declared.frame.Target.TheVariants as targets
use Rattle.c_parser_moves.specs.declared.frame.DeclaredIn.TheVariants as places
use Rattle.c_parser_moves.specs.declared.frame.Frame.{Frame}
use Rattle.c_parser_moves.specs.declared.frame.Frame.TheVariants as fr
use Rattle.c_parser_moves.specs.declared.frame.Next.TheVariants as nx
use Rattle.c_parser_moves.specs.Marks.{mark_at}
use Rattle.c_parser_moves.specs.Words.{take_specs, skip_consts}
use Rattle.c_parser_actions.specs.Pieces.{Piece, PExpr, PDeclr, PSpecs, PDecl, PDecls, PAnnots, PAnnot, PItem, PAtom}
use Rattle.c_parser_moves.proofs.Machine.{tail}
use Rattle.c_parser_moves.proofs.MachineDeclr.{named_group, groups, unnamed, in_group, give_name, declr, params, direct, param_end, type_end, type_closes, declared, typed, targeted, placed, annotated, annot_items, annot, annots_end, annot_end, atom_size, atom, factor, atom_end, items_end, item_end}
use Rattle.c_parser_moves.proofs.MachineSteps.{give_next, take_next, read_next, step}
use Rattle.c_parser_actions.proofs.Runs.{TState, tstate, run, start_expr, Reaches, go}

pub type_name_move : {bs : Base} {us : List Token} {ts : List Token} {P : List Piece} {K : List Frame} {s : TState} → take_specs false ts ≡ Some (bs, us) → Reaches (tstate (nx.Declr namings.Never (from_of ts)) (PSpecs NoAnnots bs ∷ P) us K) s → Reaches (tstate nx.TypeName P ts K) s
unfolding step give_next take_next read_next typed
type_name_move e0 r = go (rw e0 r)

pub cast_type_done : {t : Token} {f : ℕ} {ps : Parts} {name : Option (List ℕ)} {h : ℕ} {an : Annots} {bs : Base} {ts : List Token} {P : List Piece} {K : List Frame} {s : TState} → t.kind ≡ kinds.Sign signs.CloseParenthesis → Reaches (tstate nx.Operand (PDecl (Declare h an bs ps name NoRest) ∷ P) ts (fr.Cast f ∷ K)) s → Reaches (tstate nx.DeclrDone (PDeclr ps name h ∷ PSpecs an bs ∷ P) (t ∷ ts) (fr.CastType f ∷ K)) s
unfolding step give_next take_next read_next declared type_closes type_end
cast_type_done e0 r = go (rw e0 r)

pub sizeof_type_done : {t : Token} {f : ℕ} {ps : Parts} {name : Option (List ℕ)} {h : ℕ} {an : Annots} {bs : Base} {ts : List Token} {P : List Piece} {K : List Frame} {s : TState} → t.kind ≡ kinds.Sign signs.CloseParenthesis → Reaches (tstate (nx.Done 14) (PExpr (SizeofType f (Declare h an bs ps name NoRest)) ∷ P) ts K) s → Reaches (tstate nx.DeclrDone (PDeclr ps name h ∷ PSpecs an bs ∷ P) (t ∷ ts) (fr.SizeofType f ∷ K)) s
unfolding step give_next take_next read_next declared type_closes type_end
sizeof_type_done e0 r = go (rw e0 r)

pub sizeof_atom_done : {t : Token} {ps : Parts} {name : Option (List ℕ)} {h : ℕ} {an : Annots} {bs : Base} {ts : List Token} {P : List Piece} {K : List Frame} {s : TState} → t.kind ≡ kinds.Sign signs.CloseParenthesis → Reaches (tstate nx.AtomDone (PAtom (SizeofAtom (Declare h an bs ps name NoRest)) ∷ P) ts K) s → Reaches (tstate nx.DeclrDone (PDeclr ps name h ∷ PSpecs an bs ∷ P) (t ∷ ts) (fr.SizeofAtom ∷ K)) s
unfolding step give_next take_next read_next declared type_closes type_end
sizeof_atom_done e0 r = go (rw e0 r)

pub grouped_done : {t : Token} {ts : List Token} {P : List Piece} {K : List Frame} {s : TState} → t.kind ≡ kinds.Sign signs.CloseParenthesis → Reaches (tstate nx.Direct P ts K) s → Reaches (tstate nx.DeclrDone P (t ∷ ts) (fr.Grouped ∷ K)) s
unfolding step give_next take_next read_next declared type_closes type_end
grouped_done e0 r = go (rw e0 r)

pub pointer_done : {f : ℕ} {ps : Parts} {name : Option (List ℕ)} {h : ℕ} {ts : List Token} {P : List Piece} {K : List Frame} {s : TState} → Reaches (tstate nx.DeclrDone (PDeclr (Pointer f ps) name h ∷ P) ts K) s → Reaches (tstate nx.DeclrDone (PDeclr ps name h ∷ P) ts (fr.Pointer f ∷ K)) s
unfolding step give_next take_next read_next declared
pointer_done r = go r

pub star_move : {t : Token} {g : Naming} {f : ℕ} {ts : List Token} {P : List Piece} {K : List Frame} {s : TState} → t.kind ≡ kinds.Sign signs.Star → Reaches (tstate (nx.Declr g f) P (skip_consts ts) (fr.Pointer t.from ∷ K)) s → Reaches (tstate (nx.Declr g f) P (t ∷ ts) K) s
unfolding step give_next take_next read_next declr
star_move e0 r = go (rw e0 r)

named_run : (g : Naming) (f : ℕ) {h : ℕ} {n : List ℕ} (all : List Token) {ts : List Token} {P : List Piece} {K : List Frame} {s : TState} → named_group g ≡ true →
    Reaches (tstate nx.Direct (PDeclr NoParts (Some n) h ∷ P) ts K) s → Reaches (run (give_name g f h n all ts K) P) s
unfolding give_name
named_run namings.Never f all e r = absurd cc
named_run namings.Always f all e r = r
named_run namings.Either f all e r = r

pub named_move : {t : Token} {g : Naming} {f : ℕ} {n : List ℕ} {ts : List Token} {P : List Piece} {K : List Frame} {s : TState} → t.kind ≡ kinds.Name n → named_group g ≡ true → Reaches (tstate nx.Direct (PDeclr NoParts (Some n) t.from ∷ P) ts K) s → Reaches (tstate (nx.Declr g f) P (t ∷ ts) K) s
unfolding step give_next take_next read_next declr
named_move {g = g} e0 e1 r = go (rw e0 (named_run g _ _ e1 r))

pub group_declr_move : {t : Token} {g : Naming} {f : ℕ} {ts : List Token} {P : List Piece} {K : List Frame} {s : TState} → t.kind ≡ kinds.Sign signs.OpenParenthesis → groups g ts ≡ true → Reaches (tstate (nx.Declr g f) P ts (fr.Grouped ∷ K)) s → Reaches (tstate (nx.Declr g f) P (t ∷ ts) K) s
unfolding step give_next take_next read_next declr in_group
group_declr_move e0 e1 r = go (rw (e0, e1) r)

abbrev pub unnamed_ok : Naming → Bool
unnamed_ok namings.Always = false
unnamed_ok _ = true

unnamed_run : (g : Naming) {f : ℕ} {ts : List Token} {P : List Piece} {K : List Frame} {s : TState} → unnamed_ok g ≡ true →
    Reaches (tstate nx.Direct (PDeclr NoParts None f ∷ P) ts K) s → Reaches (run (unnamed g f ts K) P) s
unfolding unnamed
unnamed_run namings.Always e r = absurd cc
unnamed_run namings.Never e r = r
unnamed_run namings.Either e r = r

nameless_close_run : (kd : Kind) (g : Naming) (f h : ℕ) (all ts : List Token) (P : List Piece) (K : List Frame) {s : TState} → kd ≡ kinds.Sign signs.CloseParenthesis →
    Reaches (run (unnamed g f all K) P) s → Reaches (run (declr kd g f h all ts K) P) s
unfolding declr
nameless_close_run kd g f h all ts P K e r = rw e r

pub nameless_close : {t : Token} {g : Naming} {f : ℕ} {ts : List Token} {P : List Piece} {K : List Frame} {s : TState} → t.kind ≡ kinds.Sign signs.CloseParenthesis → unnamed_ok g ≡ true → Reaches (tstate nx.Direct (PDeclr NoParts None f ∷ P) (t ∷ ts) K) s → Reaches (tstate (nx.Declr g f) P (t ∷ ts) K) s
unfolding step give_next take_next read_next
nameless_close {t = t} {g = g} e0 e1 r = go (nameless_close_run t.kind g _ _ _ _ _ _ e0 (unnamed_run g e1 r))

nameless_comma_run : (kd : Kind) (g : Naming) (f h : ℕ) (all ts : List Token) (P : List Piece) (K : List Frame) {s : TState} → kd ≡ kinds.Sign signs.Comma →
    Reaches (run (unnamed g f all K) P) s → Reaches (run (declr kd g f h all ts K) P) s
unfolding declr
nameless_comma_run kd g f h all ts P K e r = rw e r

pub nameless_comma : {t : Token} {g : Naming} {f : ℕ} {ts : List Token} {P : List Piece} {K : List Frame} {s : TState} → t.kind ≡ kinds.Sign signs.Comma → unnamed_ok g ≡ true → Reaches (tstate nx.Direct (PDeclr NoParts None f ∷ P) (t ∷ ts) K) s → Reaches (tstate (nx.Declr g f) P (t ∷ ts) K) s
unfolding step give_next take_next read_next
nameless_comma {t = t} {g = g} e0 e1 r = go (nameless_comma_run t.kind g _ _ _ _ _ _ e0 (unnamed_run g e1 r))

nameless_bracket_run : (kd : Kind) (g : Naming) (f h : ℕ) (all ts : List Token) (P : List Piece) (K : List Frame) {s : TState} → kd ≡ kinds.Sign signs.OpenBracket →
    Reaches (run (unnamed g f all K) P) s → Reaches (run (declr kd g f h all ts K) P) s
unfolding declr
nameless_bracket_run kd g f h all ts P K e r = rw e r

pub nameless_bracket : {t : Token} {g : Naming} {f : ℕ} {ts : List Token} {P : List Piece} {K : List Frame} {s : TState} → t.kind ≡ kinds.Sign signs.OpenBracket → unnamed_ok g ≡ true → Reaches (tstate nx.Direct (PDeclr NoParts None f ∷ P) (t ∷ ts) K) s → Reaches (tstate (nx.Declr g f) P (t ∷ ts) K) s
unfolding step give_next take_next read_next
nameless_bracket {t = t} {g = g} e0 e1 r = go (nameless_bracket_run t.kind g _ _ _ _ _ _ e0 (unnamed_run g e1 r))

nameless_open_run : (kd : Kind) (g : Naming) (f h : ℕ) (all ts : List Token) (P : List Piece) (K : List Frame) {s : TState} → kd ≡ kinds.Sign signs.OpenParenthesis → groups g ts ≡ false →
    Reaches (run (unnamed g f all K) P) s → Reaches (run (declr kd g f h all ts K) P) s
unfolding declr in_group
nameless_open_run kd g f h all ts P K e e' r = rw (e, e') r

pub nameless_open : {t : Token} {g : Naming} {f : ℕ} {ts : List Token} {P : List Piece} {K : List Frame} {s : TState} → t.kind ≡ kinds.Sign signs.OpenParenthesis → groups g ts ≡ false → unnamed_ok g ≡ true → Reaches (tstate nx.Direct (PDeclr NoParts None f ∷ P) (t ∷ ts) K) s → Reaches (tstate (nx.Declr g f) P (t ∷ ts) K) s
unfolding step give_next take_next read_next
nameless_open {t = t} {g = g} e0 e1 e2 r = go (nameless_open_run t.kind g _ _ _ _ _ _ e0 e1 (unnamed_run g e2 r))

-- what may follow so that a direct declarator ends
abbrev pub DirectEnds : Punctuator → Type 0
DirectEnds marks.OpenBracket = ⊥
DirectEnds marks.Open = ⊥
DirectEnds _ = Unit {0}

direct_run : (c : Punctuator) (f : ℕ) (all ts : List Token) {P : List Piece} {K : List Frame} {s : TState} → DirectEnds c →
    Reaches (tstate nx.DeclrDone P all K) s → Reaches (run (direct c f all ts K) P) s
unfolding direct
direct_run marks.OpenBracket f all ts e r = absurd e
direct_run marks.Open f all ts e r = absurd e
direct_run _ f all ts e r = r

pub direct_end : {ts : List Token} {P : List Piece} {K : List Frame} {s : TState} → DirectEnds (mark_at ts) → Reaches (tstate nx.DeclrDone P ts K) s → Reaches (tstate nx.Direct P ts K) s
unfolding step give_next take_next read_next
direct_end {ts = ts} e0 r = go (direct_run (mark_at ts) (from_of ts) ts _ e0 r)

pub array_move : {t : Token} {ts : List Token} {P : List Piece} {K : List Frame} {s : TState} → t.kind ≡ kinds.Sign signs.OpenBracket → Reaches (start_expr 3 P ts (fr.Length t.from ∷ K)) s → Reaches (tstate nx.Direct P (t ∷ ts) K) s
unfolding step give_next take_next read_next direct
array_move e0 r = go (rw e0 r)

pub params_none_move : {t : Token} {ps : Parts} {name : Option (List ℕ)} {h : ℕ} {ts : List Token} {P : List Piece} {K : List Frame} {s : TState} → t.kind ≡ kinds.Sign signs.OpenParenthesis → lone_void ts ≡ true → Reaches (tstate nx.Direct (PDeclr (Params t.from NoDecls ps) name h ∷ P) (tail (tail ts)) K) s → Reaches (tstate nx.Direct (PDeclr ps name h ∷ P) (t ∷ ts) K) s
unfolding step give_next take_next read_next direct params
params_none_move e0 e1 r = go (rw (e0, e1) r)

pub params_move : {t : Token} {ts : List Token} {P : List Piece} {K : List Frame} {s : TState} → t.kind ≡ kinds.Sign signs.OpenParenthesis → lone_void ts ≡ false → Reaches (tstate nx.Param (PDecls NoDecls ∷ P) ts (fr.Params t.from ∷ K)) s → Reaches (tstate nx.Direct P (t ∷ ts) K) s
unfolding step give_next take_next read_next direct params
params_move e0 e1 r = go (rw (e0, e1) r)

pub params_more : {t : Token} {f : ℕ} {ds : Decls} {ps : Parts} {name : Option (List ℕ)} {h : ℕ} {an : Annots} {bs : Base} {ts : List Token} {P : List Piece} {K : List Frame} {s : TState} → t.kind ≡ kinds.Sign signs.Comma → Reaches (tstate nx.Param (PDecls (decls_then ds (Declare h an bs ps name NoRest)) ∷ P) ts (fr.Params f ∷ K)) s → Reaches (tstate nx.DeclrDone (PDeclr ps name h ∷ PSpecs an bs ∷ PDecls ds ∷ P) (t ∷ ts) (fr.Params f ∷ K)) s
unfolding step give_next take_next read_next declared param_end
params_more e0 r = go (rw e0 r)

pub params_done : {t : Token} {f : ℕ} {ds : Decls} {qs : Parts} {nm : Option (List ℕ)} {k : ℕ} {ps : Parts} {name : Option (List ℕ)} {h : ℕ} {an : Annots} {bs : Base} {ts : List Token} {P : List Piece} {K : List Frame} {s : TState} → t.kind ≡ kinds.Sign signs.CloseParenthesis → Reaches (tstate nx.Direct (PDeclr (Params f (decls_then ds (Declare h an bs ps name NoRest)) qs) nm k ∷ P) ts K) s → Reaches (tstate nx.DeclrDone (PDeclr ps name h ∷ PSpecs an bs ∷ PDecls ds ∷ PDeclr qs nm k ∷ P) (t ∷ ts) (fr.Params f ∷ K)) s
unfolding step give_next take_next read_next declared param_end
params_done e0 r = go (rw e0 r)

pub annotated_run : (cc1 : Punctuator) (tg : Target) (ts us : List Token) {P : List Piece} {K : List Frame} {s : TState} → (cc1 ≡ marks.OpenBracket → ⊥) → Reaches (tstate (nx.Specs tg) (PAnnots NoAnnots ∷ P) ts K) s → Reaches (run (annotated cc1 tg ts us K) P) s
unfolding annotated
annotated_run marks.OpenBracket tg ts us h r = absurd (h refl)
annotated_run _ tg ts us h r = r

pub param_plain : {ts : List Token} {P : List Piece} {K : List Frame} {s : TState} → (mark_at ts ≡ marks.OpenBracket → ⊥) → Reaches (tstate (nx.Specs (targets.Param (from_of ts))) (PAnnots NoAnnots ∷ P) ts K) s → Reaches (tstate nx.Param P ts K) s
unfolding step give_next take_next read_next
param_plain {ts = ts} e0 r = go (annotated_run (mark_at ts) _ ts _ e0 r)

pub param_annots : {t : Token} {ts : List Token} {P : List Piece} {K : List Frame} {s : TState} → t.kind ≡ kinds.Sign signs.OpenBracket → Reaches (tstate nx.Annot (PAnnots NoAnnots ∷ P) ts (fr.Annots (targets.Param t.from) ∷ K)) s → Reaches (tstate nx.Param P (t ∷ ts) K) s
unfolding step give_next take_next read_next annotated
param_annots e0 r = go (rw e0 r)

pub specs_param : {f : ℕ} {an : Annots} {bs : Base} {us : List Token} {ts : List Token} {P : List Piece} {K : List Frame} {s : TState} → take_specs false ts ≡ Some (bs, us) → Reaches (tstate (nx.Declr namings.Either f) (PSpecs an bs ∷ P) us K) s → Reaches (tstate (nx.Specs (targets.Param f)) (PAnnots an ∷ P) ts K) s
unfolding step give_next take_next read_next targeted
specs_param e0 r = go (rw e0 r)

pub specs_top : {an : Annots} {bs : Base} {us : List Token} {ts : List Token} {P : List Piece} {K : List Frame} {s : TState} → take_specs true ts ≡ Some (bs, us) → Reaches (tstate (nx.Declr namings.Always 0) (PSpecs an bs ∷ P) us (fr.Names places.Top true ∷ K)) s → Reaches (tstate (nx.Specs targets.Top) (PAnnots an ∷ P) ts K) s
unfolding step give_next take_next read_next targeted
specs_top e0 r = go (rw e0 r)

pub names_member : {bs : Base} {us : List Token} {ts : List Token} {P : List Piece} {K : List Frame} {s : TState} → take_specs false ts ≡ Some (bs, us) → Reaches (tstate (nx.Declr namings.Always 0) (PSpecs NoAnnots bs ∷ P) us (fr.Names places.Member true ∷ K)) s → Reaches (tstate (nx.Names places.Member) P ts K) s
unfolding step give_next take_next read_next placed
names_member e0 r = go (rw e0 r)

pub names_local : {bs : Base} {us : List Token} {ts : List Token} {P : List Piece} {K : List Frame} {s : TState} → take_specs false ts ≡ Some (bs, us) → Reaches (tstate (nx.Declr namings.Always 0) (PSpecs NoAnnots bs ∷ PDecls NoDecls ∷ P) us (fr.Names places.Local true ∷ K)) s → Reaches (tstate (nx.Names places.Local) P ts K) s
unfolding step give_next take_next read_next placed
names_local e0 r = go (rw e0 r)

pub names_for : {f : ℕ} {bs : Base} {us : List Token} {ts : List Token} {P : List Piece} {K : List Frame} {s : TState} → take_specs false ts ≡ Some (bs, us) → Reaches (tstate (nx.Declr namings.Always 0) (PSpecs NoAnnots bs ∷ PDecls NoDecls ∷ P) us (fr.Names (places.For f) true ∷ K)) s → Reaches (tstate (nx.Names (places.For f)) P ts K) s
unfolding step give_next take_next read_next placed
names_for e0 r = go (rw e0 r)

word_run : (cc1 : Punctuator) (f : ℕ) (n : List ℕ) (ts us : List Token) {P : List Piece} {K : List Frame} {s : TState} → (cc1 ≡ marks.Open → ⊥) → Reaches (tstate nx.AnnotDone (PAnnot f n NoItems ∷ P) ts K) s → Reaches (run (annot_items cc1 f n ts us K) P) s
unfolding annot_items
word_run marks.Open f n ts us h r = absurd (h refl)
word_run _ f n ts us h r = r

pub annot_word : {t : Token} {n : List ℕ} {ts : List Token} {P : List Piece} {K : List Frame} {s : TState} → t.kind ≡ kinds.Name n → (mark_at ts ≡ marks.Open → ⊥) → Reaches (tstate nx.AnnotDone (PAnnot t.from n NoItems ∷ P) ts K) s → Reaches (tstate nx.Annot P (t ∷ ts) K) s
unfolding step give_next take_next read_next annot
annot_word {ts = ts} e0 e1 r = go (rw e0 (word_run (mark_at ts) _ _ ts _ e1 r))

pub annot_call : {t : Token} {u : Token} {n : List ℕ} {ts : List Token} {P : List Piece} {K : List Frame} {s : TState} → t.kind ≡ kinds.Name n → u.kind ≡ kinds.Sign signs.OpenParenthesis → Reaches (tstate nx.Item (PAnnot t.from n NoItems ∷ P) ts (fr.Items ∷ K)) s → Reaches (tstate nx.Annot P (t ∷ u ∷ ts) K) s
unfolding step give_next take_next read_next annot annot_items
annot_call e0 e1 r = go (rw (e0, e1) r)

pub annots_more : {t : Token} {f : ℕ} {n : List ℕ} {is : Items} {an : Annots} {tg : Target} {ts : List Token} {P : List Piece} {K : List Frame} {s : TState} → t.kind ≡ kinds.Sign signs.Comma → Reaches (tstate nx.Annot (PAnnots (annots_then an (Annotate f n is)) ∷ P) ts (fr.Annots tg ∷ K)) s → Reaches (tstate nx.AnnotDone (PAnnot f n is ∷ PAnnots an ∷ P) (t ∷ ts) (fr.Annots tg ∷ K)) s
unfolding step give_next take_next read_next annot_end annots_end
annots_more e0 r = go (rw e0 r)

pub annots_done : {t : Token} {f : ℕ} {n : List ℕ} {is : Items} {an : Annots} {tg : Target} {ts : List Token} {P : List Piece} {K : List Frame} {s : TState} → t.kind ≡ kinds.Sign signs.CloseBracket → Reaches (tstate (nx.Specs tg) (PAnnots (annots_then an (Annotate f n is)) ∷ P) ts K) s → Reaches (tstate nx.AnnotDone (PAnnot f n is ∷ PAnnots an ∷ P) (t ∷ ts) (fr.Annots tg ∷ K)) s
unfolding step give_next take_next read_next annot_end annots_end
annots_done e0 r = go (rw e0 r)

pub item_move : {ts : List Token} {P : List Piece} {K : List Frame} {s : TState} → Reaches (tstate nx.Atom P ts (fr.FirstFactor (from_of ts) ∷ K)) s → Reaches (tstate nx.Item P ts K) s
unfolding step give_next take_next read_next
item_move r = go r

pub atom_name : {t : Token} {n : List ℕ} {ts : List Token} {P : List Piece} {K : List Frame} {s : TState} → t.kind ≡ kinds.Name n → Reaches (tstate nx.AtomDone (PAtom (NameAtom n) ∷ P) ts K) s → Reaches (tstate nx.Atom P (t ∷ ts) K) s
unfolding step give_next take_next read_next atom
atom_name e0 r = go (rw e0 r)

pub atom_number : {t : Token} {val_n : ℕ} {sf : Suffix} {de : Bool} {ts : List Token} {P : List Piece} {K : List Frame} {s : TState} → t.kind ≡ kinds.Number sf de val_n → Reaches (tstate nx.AtomDone (PAtom (NumberAtom val_n) ∷ P) ts K) s → Reaches (tstate nx.Atom P (t ∷ ts) K) s
unfolding step give_next take_next read_next atom
atom_number e0 r = go (rw e0 r)

pub atom_return : {t : Token} {ts : List Token} {P : List Piece} {K : List Frame} {s : TState} → t.kind ≡ kinds.Word words.Return → Reaches (tstate nx.AtomDone (PAtom ReturnAtom ∷ P) ts K) s → Reaches (tstate nx.Atom P (t ∷ ts) K) s
unfolding step give_next take_next read_next atom
atom_return e0 r = go (rw e0 r)

pub atom_sizeof : {t : Token} {u : Token} {ts : List Token} {P : List Piece} {K : List Frame} {s : TState} → t.kind ≡ kinds.Word words.Sizeof → u.kind ≡ kinds.Sign signs.OpenParenthesis → Reaches (tstate nx.TypeName P ts (fr.SizeofAtom ∷ K)) s → Reaches (tstate nx.Atom P (t ∷ u ∷ ts) K) s
unfolding step give_next take_next read_next atom atom_size
atom_sizeof e0 e1 r = go (rw (e0, e1) r)

factor_run : (c : Punctuator) (f : ℕ) (at : Atom) (ts us : List Token) {P : List Piece} {K : List Frame} {s : TState} → (c ≡ marks.Star → ⊥) →
    Reaches (tstate nx.ItemDone (PItem (OneFactor f at) ∷ P) ts K) s → Reaches (run (factor c f ts us K) (PAtom at ∷ P)) s
unfolding factor
factor_run marks.Star f at ts us h r = absurd (h refl)
factor_run _ f at ts us h r = r

pub factor_one : {f : ℕ} {at : Atom} {ts : List Token} {P : List Piece} {K : List Frame} {s : TState} → (mark_at ts ≡ marks.Star → ⊥) → Reaches (tstate nx.ItemDone (PItem (OneFactor f at) ∷ P) ts K) s → Reaches (tstate nx.AtomDone (PAtom at ∷ P) ts (fr.FirstFactor f ∷ K)) s
unfolding step give_next take_next read_next atom_end
factor_one {ts = ts} e0 r = go (factor_run (mark_at ts) _ _ ts _ e0 r)

pub factor_star : {t : Token} {f : ℕ} {ts : List Token} {P : List Piece} {K : List Frame} {s : TState} → t.kind ≡ kinds.Sign signs.Star → Reaches (tstate nx.Atom P ts (fr.SecondFactor f ∷ K)) s → Reaches (tstate nx.AtomDone P (t ∷ ts) (fr.FirstFactor f ∷ K)) s
unfolding step give_next take_next read_next atom_end factor
factor_star e0 r = go (rw e0 r)

pub factor_two : {f : ℕ} {at : Atom} {bt : Atom} {ts : List Token} {P : List Piece} {K : List Frame} {s : TState} → Reaches (tstate nx.ItemDone (PItem (TwoFactors f at bt) ∷ P) ts K) s → Reaches (tstate nx.AtomDone (PAtom bt ∷ PAtom at ∷ P) ts (fr.SecondFactor f ∷ K)) s
unfolding step give_next take_next read_next atom_end
factor_two r = go r

pub items_more : {t : Token} {f : ℕ} {n : List ℕ} {is : Items} {it : Item} {ts : List Token} {P : List Piece} {K : List Frame} {s : TState} → t.kind ≡ kinds.Sign signs.Comma → Reaches (tstate nx.Item (PAnnot f n (items_then is it) ∷ P) ts (fr.Items ∷ K)) s → Reaches (tstate nx.ItemDone (PItem it ∷ PAnnot f n is ∷ P) (t ∷ ts) (fr.Items ∷ K)) s
unfolding step give_next take_next read_next item_end items_end
items_more e0 r = go (rw e0 r)

pub items_done : {t : Token} {f : ℕ} {n : List ℕ} {is : Items} {it : Item} {ts : List Token} {P : List Piece} {K : List Frame} {s : TState} → t.kind ≡ kinds.Sign signs.CloseParenthesis → Reaches (tstate nx.AnnotDone (PAnnot f n (items_then is it) ∷ P) ts K) s → Reaches (tstate nx.ItemDone (PItem it ∷ PAnnot f n is ∷ P) (t ∷ ts) (fr.Items ∷ K)) s
unfolding step give_next take_next read_next item_end items_end
items_done e0 r = go (rw e0 r)
