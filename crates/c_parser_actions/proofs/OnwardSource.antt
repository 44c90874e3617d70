-- The same of those that a move over values, statements and whole sources leaves.
use Rattle.std.proofs.Common.{◌≡◌, ℕ, Bool, true, false, List, [], ◌∷◌, Option, Some, None, refl}
use Rattle.c_lexer.specs.declared.token.Word.{Word}
use Rattle.c_lexer.specs.declared.token.Word.TheVariants as words
use Rattle.c_lexer.specs.declared.token.Kind.{Kind}
use Rattle.c_lexer.specs.declared.token.Kind.TheVariants as kinds
use Rattle.c_lexer.specs.declared.token.Token.{Token}
use Rattle.c_syntax.specs.Levels.{begins_else}
use Rattle.c_parser_moves.specs.declared.mark.Punctuator.{Punctuator}
use Rattle.c_parser_moves.specs.declared.mark.Punctuator.TheVariants as marks
use Rattle.c_parser_moves.specs.declared.mark.Begin.{Begin}
use Rattle.c_parser_moves.specs.declared.mark.Begin.TheVariants as begins
use Rattle.c_parser_moves.specs.declared.frame.Target.TheVariants as targets
use Rattle.c_parser_moves.specs.declared.frame.DeclaredIn.{DeclaredIn}
use Rattle.c_parser_moves.specs.declared.frame.Frame.{Frame}
use Rattle.c_parser_moves.specs.declared.frame.Frame.TheVariants as fr
use Rattle.c_parser_moves.specs.declared.action.Action.{Action}
use Rattle.c_parser_moves.specs.declared.action.Action.TheVariants as acts
use Rattle.c_parser_moves.specs.Marks.{mark_at}
use Rattle.c_parser_moves.proofs.Machine.{tail}
use Rattle.c_parser_moves.proofs.MachineSource.{initial, braces_on, braces_end, init_end, value_end, condition, for_head, leaf, returned, stmt, do_on, do_while, done, block_end, entry, for_first, for_test, for_step, struct_end, member_end, defines, top, tops}
use Rattle.c_parser_actions.proofs.OnwardWords.{defined, on_if, on_tail}
use Rattle.c_parser_actions.proofs.OnwardDeclr.{on_annotated}

module _ (P : List Token → Type 0) (none : P []) (following : (t : Token) (ts : List Token) → P (t ∷ ts) → P ts) where
  pub on_initial : (c : Punctuator) (f : ℕ) (all ts : List Token) (K : List Frame) → P all → P ts → P (initial c f all ts K).rest
  unfolding initial
  on_initial marks.OpenBrace f all ts K h k = k
  on_initial _ f all ts K h k = h

  on_braces_on : (c : Punctuator) (f : ℕ) (all ts : List Token) (K : List Frame) → P all → P ts → P (braces_on c f all ts K).rest
  unfolding braces_on
  on_braces_on marks.CloseBrace f all ts K h k = k
  on_braces_on _ f all ts K h k = h

  on_braces_end : (c : Punctuator) (f : ℕ) (ts : List Token) (K : List Frame) → P ts → P (braces_end c f ts K).rest
  unfolding braces_end
  on_braces_end marks.Comma f ts K h = on_braces_on (mark_at ts) f ts (tail ts) K h (on_tail P none following ts h)
  on_braces_end _ f ts K h = h

  on_init_end : (c : Punctuator) (p : DeclaredIn) (ts : List Token) (K : List Frame) → P ts → P (init_end c p ts K).rest
  unfolding init_end
  on_init_end marks.Comma p ts K h = h
  on_init_end _ p ts K h = h

  pub on_value_end : (o : Frame) (ts : List Token) (K : List Frame) → P ts → P (value_end o ts K).rest
  unfolding value_end
  on_value_end (fr.Braces f) ts K h = on_braces_end (mark_at ts) f (tail ts) K (on_tail P none following ts h)
  on_value_end (fr.Init p) ts K h = on_init_end (mark_at ts) p (tail ts) K (on_tail P none following ts h)
  on_value_end _ ts K h = h

  on_condition : (c : Punctuator) (o : Frame) (ts : List Token) (K : List Frame) → P ts → P (condition c o ts K).rest
  unfolding condition
  on_condition marks.Open o ts K h = h
  on_condition _ o ts K h = h

  on_for_head : (c : Punctuator) (f : ℕ) (ts : List Token) (K : List Frame) → P ts → P (for_head c f ts K).rest
  unfolding for_head
  on_for_head marks.Open f ts K h = h
  on_for_head _ f ts K h = h

  on_leaf : (c : Punctuator) (a : Action) (ts : List Token) (K : List Frame) → P ts → P (leaf c a ts K).rest
  unfolding leaf
  on_leaf marks.Semicolon a ts K h = h
  on_leaf _ a ts K h = h

  on_returned : (c : Punctuator) (f : ℕ) (all ts : List Token) (K : List Frame) → P all → P ts → P (returned c f all ts K).rest
  unfolding returned
  on_returned marks.Semicolon f all ts K h k = k
  on_returned _ f all ts K h k = h

  pub on_stmt : (c : Begin) (f : ℕ) (all ts : List Token) (K : List Frame) → P all → P ts → P (stmt c f all ts K).rest
  unfolding stmt
  on_stmt begins.Empty f all ts K h k = k
  on_stmt begins.Block f all ts K h k = k
  on_stmt begins.If f all ts K h k = on_condition (mark_at ts) (fr.IfCond f) (tail ts) K (on_tail P none following ts k)
  on_stmt begins.While f all ts K h k = on_condition (mark_at ts) (fr.WhileCond f) (tail ts) K (on_tail P none following ts k)
  on_stmt begins.Do f all ts K h k = k
  on_stmt begins.For f all ts K h k = on_for_head (mark_at ts) f (tail ts) K (on_tail P none following ts k)
  on_stmt begins.Break f all ts K h k = on_leaf (mark_at ts) (acts.Break f) (tail ts) K (on_tail P none following ts k)
  on_stmt begins.Continue f all ts K h k = on_leaf (mark_at ts) (acts.Continue f) (tail ts) K (on_tail P none following ts k)
  on_stmt begins.Return f all ts K h k = on_returned (mark_at ts) f ts (tail ts) K k (on_tail P none following ts k)
  on_stmt begins.Other f all ts K h k = h

  on_do_word : (w : Word) (f : ℕ) (ts : List Token) (K : List Frame) → P ts → P (do_on (kinds.Word w) f ts K).rest
  unfolding do_on
  on_do_word words.While f ts K h = on_condition (mark_at ts) (fr.DoCond f) (tail ts) K (on_tail P none following ts h)
  on_do_word _ f ts K h = h

  on_do_on : (x : Kind) (f : ℕ) (ts : List Token) (K : List Frame) → P ts → P (do_on x f ts K).rest
  unfolding do_on
  on_do_on (kinds.Word w) f ts K h = on_do_word w f ts K h
  on_do_on _ f ts K h = h

  on_do_while : (f : ℕ) (ts : List Token) (K : List Frame) → P ts → P (do_while f ts K).rest
  unfolding do_while
  on_do_while f [] K h = h
  on_do_while f (t ∷ ts) K h = on_do_on t.kind f ts K (following t ts h)

  pub on_done : (o : Frame) (ts : List Token) (K : List Frame) → P ts → P (done o ts K).rest
  unfolding done
  on_done (fr.IfThen f) ts K h = on_if P none following (begins_else ts) _ _ (on_tail P none following ts h) h
  on_done (fr.DoBody f) ts K h = on_do_while f ts K h
  on_done _ ts K h = h

  on_block_end : (ts : List Token) (K : List Frame) → P ts → P (block_end ts K).rest
  unfolding block_end
  on_block_end ts [] h = h
  on_block_end ts (fr.Block f ∷ K) h = h
  on_block_end ts (_ ∷ K) h = h

  pub on_entry : (c : Punctuator) (b : Bool) (all ts : List Token) (K : List Frame) → P all → P ts → P (entry c b all ts K).rest
  unfolding entry
  on_entry marks.CloseBrace b all ts K h k = on_block_end ts K k
  on_entry _ true all ts K h k = h
  on_entry _ false all ts K h k = h

  pub on_first : (c : Punctuator) (b : Bool) (f : ℕ) (all ts : List Token) (K : List Frame) → P all → P ts → P (for_first c b f all ts K).rest
  unfolding for_first
  on_first marks.Semicolon b f all ts K h k = k
  on_first _ true f all ts K h k = h
  on_first _ false f all ts K h k = h

  pub on_test : (c : Punctuator) (f : ℕ) (all ts : List Token) (K : List Frame) → P all → P ts → P (for_test c f all ts K).rest
  unfolding for_test
  on_test marks.Semicolon f all ts K h k = k
  on_test _ f all ts K h k = h

  pub on_last : (c : Punctuator) (f : ℕ) (all ts : List Token) (K : List Frame) → P all → P ts → P (for_step c f all ts K).rest
  unfolding for_step
  on_last marks.Close f all ts K h k = k
  on_last _ f all ts K h k = h

  on_struct_end : (c : Punctuator) (ts : List Token) (K : List Frame) → P ts → P (struct_end c ts K).rest
  unfolding struct_end
  on_struct_end marks.Semicolon ts (fr.Struct ∷ K) h = h
  on_struct_end marks.Semicolon ts _ h = h
  on_struct_end _ ts K h = h

  pub on_member_end : (c : Punctuator) (all ts : List Token) (K : List Frame) → P all → P ts → P (member_end c all ts K).rest
  unfolding member_end
  on_member_end marks.CloseBrace all ts K h k = on_struct_end (mark_at ts) (tail ts) K (on_tail P none following ts k)
  on_member_end _ all ts K h k = h

  on_defines : (ts us : List Token) (n : List ℕ) → defines ts ≡ Some (n, us) → P ts → P us
  unfolding defines
  on_defines [] us n e h = absurd cc
  on_defines (t ∷ []) us n e h = absurd cc
  on_defines (t ∷ u ∷ []) us n e h = absurd cc
  on_defines (t ∷ u ∷ v ∷ ts) us n e h = rw (← defined t.kind u.kind v.kind ts us n e) (following v ts (following u (v ∷ ts) (following t (u ∷ v ∷ ts) h)))

  on_top : (r : Option (List ℕ × List Token)) (ts : List Token) (K : List Frame) → defines ts ≡ r → P ts → P (top r ts K).rest
  unfolding top
  on_top None ts K e h = on_annotated P none following (mark_at ts) targets.Top ts (tail ts) K h (on_tail P none following ts h)
  on_top (Some (n, us)) ts K e h = on_defines ts us n e h

  pub on_tops : (ts : List Token) (K : List Frame) → P ts → P (tops ts K).rest
  unfolding tops
  on_tops [] [] h = h
  on_tops [] (o ∷ K) h = on_top (defines []) [] (o ∷ K) refl h
  on_tops (t ∷ ts) K h = on_top (defines (t ∷ ts)) (t ∷ ts) K refl h
