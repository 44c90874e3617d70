-- The same of those that a move over declarators, specifiers and annotations leaves.
use Rattle.std.proofs.Common.{ℕ, Bool, true, false, List, [], ◌∷◌, Option, Some, None}
use Rattle.c_lexer.specs.declared.token.Sign.{Sign}
use Rattle.c_lexer.specs.declared.token.Sign.TheVariants as signs
use Rattle.c_lexer.specs.declared.token.Word.{Word}
use Rattle.c_lexer.specs.declared.token.Word.TheVariants as words
use Rattle.c_lexer.specs.declared.token.Kind.{Kind}
use Rattle.c_lexer.specs.declared.token.Kind.TheVariants as kinds
use Rattle.c_lexer.specs.declared.token.Token.{Token}
use Rattle.c_syntax.specs.declared.declaration.Base.{Base}
use Rattle.c_syntax.specs.Levels.{lone_void}
use Rattle.c_parser_moves.specs.declared.mark.Punctuator.{Punctuator}
use Rattle.c_parser_moves.specs.declared.mark.Punctuator.TheVariants as marks
use Rattle.c_parser_moves.specs.declared.frame.Naming.{Naming}
use Rattle.c_parser_moves.specs.declared.frame.Naming.TheVariants as namings
use Rattle.c_parser_moves.specs.declared.frame.Target.{Target}
use Rattle.c_parser_moves.specs.declared.frame.Target.TheVariants as targets
use Rattle.c_parser_moves.specs.declared.frame.DeclaredIn.{DeclaredIn}
use Rattle.c_parser_moves.specs.declared.frame.DeclaredIn.TheVariants as places
use Rattle.c_parser_moves.specs.declared.frame.Frame.{Frame}
use Rattle.c_parser_moves.specs.declared.frame.Frame.TheVariants as fr
use Rattle.c_parser_moves.specs.Marks.{mark_at}
use Rattle.c_parser_moves.proofs.Machine.{tail}
use Rattle.c_parser_moves.proofs.MachineDeclr.{groups, unnamed, in_group, give_name, declr, params, direct, with_value, with_body, named, param_end, type_end, type_closes, declared, typed, targeted, placed, annotated, annot_items, annot, annots_end, annot_end, atom_size, atom, factor, atom_end, items_end, item_end}
use Rattle.c_parser_actions.proofs.OnwardWords.{on_tail, on_consts, SpecsOn}

module _ (P : List Token → Type 0) (none : P []) (following : (t : Token) (ts : List Token) → P (t ∷ ts) → P ts) where
  on_unnamed : (g : Naming) (f : ℕ) (ts : List Token) (K : List Frame) → P ts → P (unnamed g f ts K).rest
  unfolding unnamed
  on_unnamed namings.Always f ts K h = h
  on_unnamed _ f ts K h = h

  on_in_group : (b : Bool) (g : Naming) (f : ℕ) (all ts : List Token) (K : List Frame) → P all → P ts → P (in_group b g f all ts K).rest
  unfolding in_group
  on_in_group true g f all ts K h k = k
  on_in_group false g f all ts K h k = on_unnamed g f all K h

  on_give_name : (g : Naming) (f x : ℕ) (n : List ℕ) (all ts : List Token) (K : List Frame) → P all → P ts → P (give_name g f x n all ts K).rest
  unfolding give_name
  on_give_name namings.Never f x n all ts K h k = on_unnamed namings.Never f all K h
  on_give_name _ f x n all ts K h k = k

  on_declr_sign : (x : Sign) (g : Naming) (f from : ℕ) (all ts : List Token) (K : List Frame) → P all → P ts → P (declr (kinds.Sign x) g f from all ts K).rest
  unfolding declr
  on_declr_sign signs.Star g f from all ts K h k = on_consts P none following ts k
  on_declr_sign signs.OpenParenthesis g f from all ts K h k = on_in_group (groups g ts) g f all ts K h k
  on_declr_sign _ g f from all ts K h k = on_unnamed g f all K h

  pub on_declr : (x : Kind) (g : Naming) (f from : ℕ) (all ts : List Token) (K : List Frame) → P all → P ts → P (declr x g f from all ts K).rest
  unfolding declr
  on_declr (kinds.Name n) g f from all ts K h k = on_give_name g f from n all ts K h k
  on_declr (kinds.Sign x) g f from all ts K h k = on_declr_sign x g f from all ts K h k
  on_declr _ g f from all ts K h k = on_unnamed g f all K h

  on_params : (b : Bool) (f : ℕ) (ts : List Token) (K : List Frame) → P ts → P (params b f ts K).rest
  unfolding params
  on_params true f ts K h = on_tail P none following (tail ts) (on_tail P none following ts h)
  on_params false f ts K h = h

  pub on_direct : (c : Punctuator) (f : ℕ) (all ts : List Token) (K : List Frame) → P all → P ts → P (direct c f all ts K).rest
  unfolding direct
  on_direct marks.OpenBracket f all ts K h k = k
  on_direct marks.Open f all ts K h k = on_params (lone_void ts) f ts K k
  on_direct _ f all ts K h k = h

  on_with_value : (p : DeclaredIn) (ts : List Token) (K : List Frame) → P ts → P (with_value p ts K).rest
  unfolding with_value
  on_with_value places.Member ts K h = h
  on_with_value _ ts K h = h

  on_with_body : (p : DeclaredIn) (b : Bool) (ts : List Token) (K : List Frame) → P ts → P (with_body p b ts K).rest
  unfolding with_body
  on_with_body places.Top true ts K h = h
  on_with_body places.Top false ts K h = h
  on_with_body _ b ts K h = h

  on_named : (c : Punctuator) (p : DeclaredIn) (b : Bool) (all ts : List Token) (K : List Frame) → P all → P ts → P (named c p b all ts K).rest
  unfolding named
  on_named marks.Assign p b all ts K h k = on_with_value p ts K k
  on_named marks.Comma p b all ts K h k = k
  on_named marks.Semicolon p b all ts K h k = k
  on_named marks.OpenBrace p b all ts K h k = on_with_body p b all K h
  on_named _ p b all ts K h k = h

  on_param_end : (c : Punctuator) (f : ℕ) (ts : List Token) (K : List Frame) → P ts → P (param_end c f ts K).rest
  unfolding param_end
  on_param_end marks.Comma f ts K h = h
  on_param_end _ f ts K h = h

  on_type_end : (o : Frame) (ts : List Token) (K : List Frame) → P ts → P (type_end o ts K).rest
  unfolding type_end
  on_type_end fr.Grouped ts K h = h
  on_type_end _ ts K h = h

  on_type_closes : (c : Punctuator) (o : Frame) (ts : List Token) (K : List Frame) → P ts → P (type_closes c o ts K).rest
  unfolding type_closes
  on_type_closes marks.Close o ts K h = on_type_end o ts K h
  on_type_closes _ o ts K h = h

  pub on_declared : (o : Frame) (ts : List Token) (K : List Frame) → P ts → P (declared o ts K).rest
  unfolding declared
  on_declared (fr.Pointer f) ts K h = h
  on_declared (fr.Names p b) ts K h = on_named (mark_at ts) p b ts (tail ts) K h (on_tail P none following ts h)
  on_declared (fr.Params f) ts K h = on_param_end (mark_at ts) f (tail ts) K (on_tail P none following ts h)
  on_declared o ts K h = on_type_closes (mark_at ts) o (tail ts) K (on_tail P none following ts h)

  pub on_typed : (r : Option (Base × List Token)) (f : ℕ) (K : List Frame) → SpecsOn P none following r → P (typed r f K).rest
  unfolding typed
  on_typed None f K h = none
  on_typed (Some (b, ts)) f K h = h

  pub on_targeted : (r : Option (Base × List Token)) (g : Target) (K : List Frame) → SpecsOn P none following r → P (targeted r g K).rest
  unfolding targeted
  on_targeted None g K h = none
  on_targeted (Some (b, ts)) targets.Top K h = h
  on_targeted (Some (b, ts)) (targets.Param f) K h = h

  pub on_placed : (r : Option (Base × List Token)) (p : DeclaredIn) (K : List Frame) → SpecsOn P none following r → P (placed r p K).rest
  unfolding placed
  on_placed None p K h = none
  on_placed (Some (b, ts)) p K h = h

  pub on_annotated : (c : Punctuator) (g : Target) (all ts : List Token) (K : List Frame) → P all → P ts → P (annotated c g all ts K).rest
  unfolding annotated
  on_annotated marks.OpenBracket g all ts K h k = k
  on_annotated _ g all ts K h k = h

  on_annot_items : (c : Punctuator) (f : ℕ) (n : List ℕ) (all ts : List Token) (K : List Frame) → P all → P ts → P (annot_items c f n all ts K).rest
  unfolding annot_items
  on_annot_items marks.Open f n all ts K h k = k
  on_annot_items _ f n all ts K h k = h

  pub on_annot : (x : Kind) (f : ℕ) (ts : List Token) (K : List Frame) → P ts → P (annot x f ts K).rest
  unfolding annot
  on_annot (kinds.Name n) f ts K h = on_annot_items (mark_at ts) f n ts (tail ts) K h (on_tail P none following ts h)
  on_annot _ f ts K h = h

  on_annots_end : (c : Punctuator) (g : Target) (ts : List Token) (K : List Frame) → P ts → P (annots_end c g ts K).rest
  unfolding annots_end
  on_annots_end marks.Comma g ts K h = h
  on_annots_end _ g ts K h = h

  pub on_annot_end : (o : Frame) (ts : List Token) (K : List Frame) → P ts → P (annot_end o ts K).rest
  unfolding annot_end
  on_annot_end (fr.Annots g) ts K h = on_annots_end (mark_at ts) g (tail ts) K (on_tail P none following ts h)
  on_annot_end _ ts K h = h

  on_atom_size : (c : Punctuator) (ts : List Token) (K : List Frame) → P ts → P (atom_size c ts K).rest
  unfolding atom_size
  on_atom_size marks.Open ts K h = h
  on_atom_size _ ts K h = h

  on_atom_word : (w : Word) (ts : List Token) (K : List Frame) → P ts → P (atom (kinds.Word w) ts K).rest
  unfolding atom
  on_atom_word words.Sizeof ts K h = on_atom_size (mark_at ts) (tail ts) K (on_tail P none following ts h)
  on_atom_word _ ts K h = h

  pub on_atom : (x : Kind) (ts : List Token) (K : List Frame) → P ts → P (atom x ts K).rest
  unfolding atom
  on_atom (kinds.Word w) ts K h = on_atom_word w ts K h
  on_atom _ ts K h = h

  on_factor : (c : Punctuator) (f : ℕ) (all ts : List Token) (K : List Frame) → P all → P ts → P (factor c f all ts K).rest
  unfolding factor
  on_factor marks.Star f all ts K h k = k
  on_factor _ f all ts K h k = h

  pub on_atom_end : (o : Frame) (ts : List Token) (K : List Frame) → P ts → P (atom_end o ts K).rest
  unfolding atom_end
  on_atom_end (fr.FirstFactor f) ts K h = on_factor (mark_at ts) f ts (tail ts) K h (on_tail P none following ts h)
  on_atom_end _ ts K h = h

  on_items_end : (c : Punctuator) (ts : List Token) (K : List Frame) → P ts → P (items_end c ts K).rest
  unfolding items_end
  on_items_end marks.Comma ts K h = h
  on_items_end _ ts K h = h

  pub on_item_end : (o : Frame) (ts : List Token) (K : List Frame) → P ts → P (item_end o ts K).rest
  unfolding item_end
  on_item_end fr.Items ts K h = on_items_end (mark_at ts) (tail ts) K (on_tail P none following ts h)
  on_item_end _ ts K h = h
