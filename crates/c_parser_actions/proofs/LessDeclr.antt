-- Each move over declarators, specifiers and annotations leaves less to do.
use Rattle.std.proofs.Common.{ℕ, ◌+◌, ◌<◌, Bool, true, false, List, [], ◌∷◌, Option, Some, None, ◌*◌, length, arith}
use Rattle.c_lexer.specs.declared.token.Sign.{Sign}
use Rattle.c_lexer.specs.declared.token.Sign.TheVariants as signs
use Rattle.c_lexer.specs.declared.token.Word.{Word}
use Rattle.c_lexer.specs.declared.token.Word.TheVariants as words
use Rattle.c_lexer.specs.declared.token.Kind.{Kind}
use Rattle.c_lexer.specs.declared.token.Kind.TheVariants as kinds
use Rattle.c_lexer.specs.declared.token.Token.{Token}
use Rattle.c_syntax.specs.declared.declaration.Base.{Base}
use Rattle.c_syntax.specs.Levels.{lone_void, from_of}
use Rattle.c_parser_moves.specs.declared.mark.Punctuator.{Punctuator}
use Rattle.c_parser_moves.specs.declared.mark.Punctuator.TheVariants as marks
use Rattle.c_parser_moves.specs.declared.frame.Naming.{Naming}
use Rattle.c_parser_moves.specs.declared.frame.Naming.TheVariants as namings
use Rattle.c_parser_moves.specs.declared.frame.Target.{Target}
use Rattle.c_parser_moves.specs.declared.frame.Target.TheVariants as targets
use Rattle.c_parser_moves.specs.declared.frame.DeclaredIn.{DeclaredIn}
use Rattle.c_parser_moves.specs.declared.frame.DeclaredIn.TheVariants as places
use Rattle.c_parser_moves.specs.declared.frame.Frame.{Frame}
use Rattle.c_parser_moves.specs.declared.frame.Frame.TheVariants as fr
use Rattle.c_parser_moves.specs.declared.action.Action.{Action}
use Rattle.c_parser_moves.specs.declared.action.Action.TheVariants as acts
use Rattle.c_parser_moves.specs.Marks.{mark_of, mark_at}
use Rattle.c_parser_moves.proofs.Machine.{move, tail}
use Rattle.c_parser_moves.proofs.MachineDeclr.{groups, unnamed, in_group, give_name, declr, params, direct, end_acts, end_next, with_value, with_body, named, param_end, type_end, type_closes, declared, typed, targeted, placed, annotated, annot_items, annot, annots_end, annot_end, atom_size, atom, factor, atom_end, items_end, item_end}
use Rattle.c_parser_actions.proofs.Weight.{weight}
use Rattle.c_parser_actions.proofs.Short.{tail_short, consts_short, ShortSpecs}

less_unnamed : (g : Naming) (f : ℕ) (ts : List Token) (K : List Frame) → weight (unnamed g f ts K) < 24 * length ts + 2 * length K + 9
unfolding unnamed
less_unnamed namings.Always f ts K = omega arith
less_unnamed namings.Never f ts K = omega arith
less_unnamed namings.Either f ts K = omega arith

less_in_group : (b : Bool) (g : Naming) (f : ℕ) (t : Token) (ts : List Token) (K : List Frame) → weight (in_group b g f (t ∷ ts) ts K) < 24 * length (t ∷ ts) + 2 * length K + 9
unfolding in_group
less_in_group true g f t ts K = omega arith
less_in_group false g f t ts K = less_unnamed g f (t ∷ ts) K

less_give_name : (g : Naming) (f h : ℕ) (n : List ℕ) (t : Token) (ts : List Token) (K : List Frame) → weight (give_name g f h n (t ∷ ts) ts K) < 24 * length (t ∷ ts) + 2 * length K + 9
unfolding give_name
less_give_name namings.Never f h n t ts K = less_unnamed namings.Never f (t ∷ ts) K
less_give_name namings.Always f h n t ts K = omega arith
less_give_name namings.Either f h n t ts K = omega arith

less_declr_sign : (x : Sign) (g : Naming) (f h : ℕ) (t : Token) (ts : List Token) (K : List Frame) → weight (declr (kinds.Sign x) g f h (t ∷ ts) ts K) < 24 * length (t ∷ ts) + 2 * length K + 9
unfolding declr
less_declr_sign signs.Star g f h t ts K = let q = consts_short ts in omega (arith, q)
less_declr_sign signs.OpenParenthesis g f h t ts K = less_in_group (groups g ts) g f t ts K
less_declr_sign _ g f h t ts K = less_unnamed g f (t ∷ ts) K

pub less_declr : (k : Kind) (g : Naming) (f h : ℕ) (t : Token) (ts : List Token) (K : List Frame) → weight (declr k g f h (t ∷ ts) ts K) < 24 * length (t ∷ ts) + 2 * length K + 9
unfolding declr
less_declr (kinds.Name n) g f h t ts K = less_give_name g f h n t ts K
less_declr (kinds.Sign x) g f h t ts K = less_declr_sign x g f h t ts K
less_declr _ g f h t ts K = less_unnamed g f (t ∷ ts) K

less_params : (b : Bool) (f : ℕ) (ts : List Token) (K : List Frame) → weight (params b f ts K) < 24 * length ts + 2 * length K + 25
unfolding params
less_params true f ts K = let h = tail_short ts in let k = tail_short (tail ts) in omega (arith, h, k)
less_params false f ts K = omega arith

less_direct : (c : Punctuator) (f : ℕ) (t : Token) (ts : List Token) (K : List Frame) → weight (direct c f (t ∷ ts) ts K) < 24 * length (t ∷ ts) + 2 * length K + 8
unfolding direct
less_direct marks.OpenBracket f t ts K = omega arith
less_direct marks.Open f t ts K = let h = less_params (lone_void ts) f ts K in omega (arith, h)
less_direct _ f t ts K = omega arith

pub less_direct_at : (ts : List Token) (K : List Frame) → weight (direct (mark_at ts) (from_of ts) ts (tail ts) K) < 24 * length ts + 2 * length K + 8
unfolding direct
less_direct_at [] K = omega arith
less_direct_at (t ∷ ts) K = less_direct (mark_of t.kind) t.from t ts K

less_with_value : (p : DeclaredIn) (ts : List Token) (K : List Frame) → weight (with_value p ts K) < 24 * length ts + 2 * length K + 25
unfolding with_value
less_with_value places.Member ts K = omega arith
less_with_value places.Top ts K = omega arith
less_with_value places.Local ts K = omega arith
less_with_value (places.For f) ts K = omega arith

less_with_body : (p : DeclaredIn) (b : Bool) (ts : List Token) (K : List Frame) → weight (with_body p b ts K) < 24 * length ts + 2 * length K + 9
unfolding with_body
less_with_body places.Top true ts K = omega arith
less_with_body places.Top false ts K = omega arith
less_with_body places.Local b ts K = omega arith
less_with_body (places.For f) b ts K = omega arith
less_with_body places.Member b ts K = omega arith

pub less_end : (p : DeclaredIn) (out : List Action) (ts : List Token) (K : List Frame) → weight (move (end_next p) out ts K) < 24 * length ts + 2 * length K + 25
less_end places.Top out ts K = omega arith
less_end places.Local out ts K = omega arith
less_end (places.For f) out ts K = omega arith
less_end places.Member out ts K = omega arith

less_named : (c : Punctuator) (p : DeclaredIn) (b : Bool) (t : Token) (ts : List Token) (K : List Frame) → weight (named c p b (t ∷ ts) ts K) < 24 * length (t ∷ ts) + 2 * length K + 9
unfolding named
less_named marks.Assign p b t ts K = let h = less_with_value p ts K in omega (arith, h)
less_named marks.Comma p b t ts K = omega arith
less_named marks.Semicolon p b t ts K = let h = less_end p (end_acts p (acts.Declare ∷ [])) ts K in omega (arith, h)
less_named marks.OpenBrace p b t ts K = less_with_body p b (t ∷ ts) K
less_named _ p b t ts K = omega arith

less_named_at : (p : DeclaredIn) (b : Bool) (ts : List Token) (K : List Frame) → weight (named (mark_at ts) p b ts (tail ts) K) < 24 * length ts + 2 * length K + 9
unfolding named
less_named_at p b [] K = omega arith
less_named_at p b (t ∷ ts) K = less_named (mark_of t.kind) p b t ts K

less_param_end : (c : Punctuator) (f : ℕ) (ts : List Token) (K : List Frame) → weight (param_end c f ts K) < 24 * length ts + 2 * length K + 25
unfolding param_end
less_param_end marks.Comma f ts K = omega arith
less_param_end _ f ts K = omega arith

less_type_end : (o : Frame) (ts : List Token) (K : List Frame) → weight (type_end o ts K) < 24 * length ts + 2 * length K + 25
unfolding type_end
less_type_end fr.Grouped ts K = omega arith
less_type_end _ ts K = omega arith

less_type_closes : (c : Punctuator) (o : Frame) (ts : List Token) (K : List Frame) → weight (type_closes c o ts K) < 24 * length ts + 2 * length K + 25
unfolding type_closes
less_type_closes marks.Close o ts K = less_type_end o ts K
less_type_closes _ o ts K = omega arith

less_param_at : (f : ℕ) (ts : List Token) (K : List Frame) → weight (param_end (mark_at ts) f (tail ts) K) < 24 * length ts + 2 * length K + 9
unfolding param_end
less_param_at f [] K = omega arith
less_param_at f (t ∷ ts) K = let h = less_param_end (mark_of t.kind) f ts K in omega (arith, h)

less_type_at : (o : Frame) (ts : List Token) (K : List Frame) → weight (type_closes (mark_at ts) o (tail ts) K) < 24 * length ts + 2 * length K + 9
unfolding type_closes
less_type_at o [] K = omega arith
less_type_at o (t ∷ ts) K = let h = less_type_closes (mark_of t.kind) o ts K in omega (arith, h)

pub less_declared : (o : Frame) (ts : List Token) (K : List Frame) → weight (declared o ts K) < 24 * length ts + 2 * length K + 9
unfolding declared
less_declared (fr.Pointer f) ts K = omega arith
less_declared (fr.Names p b) ts K = less_named_at p b ts K
less_declared (fr.Params f) ts K = less_param_at f ts K
less_declared o ts K = less_type_at o ts K

pub less_typed : (r : Option (Base × List Token)) (f n : ℕ) (K : List Frame) → ShortSpecs r n → weight (typed r f K) < 24 * n + 2 * length K + 10
unfolding typed
less_typed None f n K h = omega arith
less_typed (Some (b, ts)) f n K h = omega (arith, h)

pub less_targeted : (r : Option (Base × List Token)) (g : Target) (n : ℕ) (K : List Frame) → ShortSpecs r n → weight (targeted r g K) < 24 * n + 2 * length K + 12
unfolding targeted
less_targeted None g n K h = omega arith
less_targeted (Some (b, ts)) targets.Top n K h = omega (arith, h)
less_targeted (Some (b, ts)) (targets.Param f) n K h = omega (arith, h)

pub less_placed : (r : Option (Base × List Token)) (p : DeclaredIn) (n : ℕ) (K : List Frame) → ShortSpecs r n → weight (placed r p K) < 24 * n + 2 * length K + 12
unfolding placed
less_placed None p n K h = omega arith
less_placed (Some (b, ts)) p n K h = omega (arith, h)

pub less_annotated : (c : Punctuator) (g : Target) (ts : List Token) (K : List Frame) → weight (annotated c g ts (tail ts) K) < 24 * length ts + 2 * length K + 13
unfolding annotated
less_annotated marks.OpenBracket g ts K = let h = tail_short ts in omega (arith, h)
less_annotated _ g ts K = omega arith

less_annot_items : (c : Punctuator) (f : ℕ) (n : List ℕ) (ts : List Token) (K : List Frame) → weight (annot_items c f n ts (tail ts) K) < 24 * length ts + 2 * length K + 25
unfolding annot_items
less_annot_items marks.Open f n ts K = let h = tail_short ts in omega (arith, h)
less_annot_items _ f n ts K = omega arith

pub less_annot : (k : Kind) (f : ℕ) (ts : List Token) (K : List Frame) → weight (annot k f ts K) < 24 * length ts + 2 * length K + 25
unfolding annot
less_annot (kinds.Name n) f ts K = less_annot_items (mark_at ts) f n ts K
less_annot _ f ts K = omega arith

less_annots_end : (c : Punctuator) (g : Target) (ts : List Token) (K : List Frame) → weight (annots_end c g ts K) < 24 * length ts + 2 * length K + 25
unfolding annots_end
less_annots_end marks.Comma g ts K = omega arith
less_annots_end _ g ts K = omega arith

less_annots_at : (g : Target) (ts : List Token) (K : List Frame) → weight (annots_end (mark_at ts) g (tail ts) K) < 24 * length ts + 2 * length K + 3
unfolding annots_end
less_annots_at g [] K = omega arith
less_annots_at g (t ∷ ts) K = let h = less_annots_end (mark_of t.kind) g ts K in omega (arith, h)

pub less_annot_end : (o : Frame) (ts : List Token) (K : List Frame) → weight (annot_end o ts K) < 24 * length ts + 2 * length K + 3
unfolding annot_end
less_annot_end (fr.Annots g) ts K = less_annots_at g ts K
less_annot_end _ ts K = omega arith

less_atom_size : (c : Punctuator) (ts : List Token) (K : List Frame) → weight (atom_size c (tail ts) K) < 24 * length ts + 2 * length K + 25
unfolding atom_size
less_atom_size marks.Open ts K = let h = tail_short ts in omega (arith, h)
less_atom_size _ ts K = omega arith

less_atom_word : (w : Word) (ts : List Token) (K : List Frame) → weight (atom (kinds.Word w) ts K) < 24 * length ts + 2 * length K + 25
unfolding atom
less_atom_word words.Return ts K = omega arith
less_atom_word words.Sizeof ts K = less_atom_size (mark_at ts) ts K
less_atom_word _ ts K = omega arith

pub less_atom : (k : Kind) (ts : List Token) (K : List Frame) → weight (atom k ts K) < 24 * length ts + 2 * length K + 25
unfolding atom
less_atom (kinds.Word w) ts K = less_atom_word w ts K
less_atom _ ts K = omega arith

less_factor : (c : Punctuator) (f : ℕ) (t : Token) (ts : List Token) (K : List Frame) → weight (factor c f (t ∷ ts) ts K) < 24 * length (t ∷ ts) + 2 * length K + 3
unfolding factor
less_factor marks.Star f t ts K = omega arith
less_factor _ f t ts K = omega arith

less_factor_at : (f : ℕ) (ts : List Token) (K : List Frame) → weight (factor (mark_at ts) f ts (tail ts) K) < 24 * length ts + 2 * length K + 3
unfolding factor
less_factor_at f [] K = omega arith
less_factor_at f (t ∷ ts) K = less_factor (mark_of t.kind) f t ts K

pub less_atom_end : (o : Frame) (ts : List Token) (K : List Frame) → weight (atom_end o ts K) < 24 * length ts + 2 * length K + 3
unfolding atom_end
less_atom_end (fr.FirstFactor f) ts K = less_factor_at f ts K
less_atom_end (fr.SecondFactor f) ts K = omega arith
less_atom_end _ ts K = omega arith

less_items_end : (c : Punctuator) (ts : List Token) (K : List Frame) → weight (items_end c ts K) < 24 * length ts + 2 * length K + 25
unfolding items_end
less_items_end marks.Comma ts K = omega arith
less_items_end _ ts K = omega arith

less_items_at : (ts : List Token) (K : List Frame) → weight (items_end (mark_at ts) (tail ts) K) < 24 * length ts + 2 * length K + 3
unfolding items_end
less_items_at [] K = omega arith
less_items_at (t ∷ ts) K = let h = less_items_end (mark_of t.kind) ts K in omega (arith, h)

pub less_item_end : (o : Frame) (ts : List Token) (K : List Frame) → weight (item_end o ts K) < 24 * length ts + 2 * length K + 3
unfolding item_end
less_item_end fr.Items ts K = less_items_at ts K
less_item_end _ ts K = omega arith
