-- Each move over values, statements and whole sources leaves less to do.
use Rattle.std.proofs.Common.{◌≡◌, ℕ, ◌+◌, ◌<◌, Bool, true, false, List, [], ◌∷◌, Option, Some, None, ◌*◌, length, refl, ap, arith}
use Rattle.c_lexer.specs.declared.token.Sign.TheVariants as signs
use Rattle.c_lexer.specs.declared.token.Word.{Word}
use Rattle.c_lexer.specs.declared.token.Word.TheVariants as words
use Rattle.c_lexer.specs.declared.token.Kind.{Kind}
use Rattle.c_lexer.specs.declared.token.Kind.TheVariants as kinds
use Rattle.c_lexer.specs.declared.token.Token.{Token}
use Rattle.c_syntax.specs.Levels.{begins_else, from_of}
use Rattle.c_parser_moves.specs.declared.mark.Punctuator.{Punctuator}
use Rattle.c_parser_moves.specs.declared.mark.Punctuator.TheVariants as marks
use Rattle.c_parser_moves.specs.declared.mark.Begin.{Begin}
use Rattle.c_parser_moves.specs.declared.mark.Begin.TheVariants as begins
use Rattle.c_parser_moves.specs.declared.frame.Target.TheVariants as targets
use Rattle.c_parser_moves.specs.declared.frame.DeclaredIn.{DeclaredIn}
use Rattle.c_parser_moves.specs.declared.frame.Frame.{Frame}
use Rattle.c_parser_moves.specs.declared.frame.Frame.TheVariants as fr
use Rattle.c_parser_moves.specs.declared.action.Action.{Action}
use Rattle.c_parser_moves.specs.declared.action.Action.TheVariants as acts
use Rattle.c_parser_moves.specs.Marks.{mark_of, mark_at}
use Rattle.c_parser_moves.proofs.Machine.{tail}
use Rattle.c_parser_moves.proofs.MachineDeclr.{end_acts}
use Rattle.c_parser_moves.proofs.MachineSource.{initial, braces_on, braces_end, init_end, value_end, condition, for_head, leaf, returned, stmt, do_on, do_while, done, block_end, entry, for_first, for_test, for_step, struct_end, member_end, defines_kinds, defines, top, tops}
use Rattle.c_parser_actions.proofs.Weight.{weight}
use Rattle.c_parser_actions.proofs.Short.{less_if, tail_short}
use Rattle.c_parser_actions.proofs.LessDeclr.{less_end, less_annotated}

less_initial : (c : Punctuator) (f : ℕ) (t : Token) (ts : List Token) (K : List Frame) → weight (initial c f (t ∷ ts) ts K) < 24 * length (t ∷ ts) + 2 * length K + 6
unfolding initial
less_initial marks.OpenBrace f t ts K = omega arith
less_initial _ f t ts K = omega arith

pub less_initial_at : (ts : List Token) (K : List Frame) → weight (initial (mark_at ts) (from_of ts) ts (tail ts) K) < 24 * length ts + 2 * length K + 6
unfolding initial
less_initial_at [] K = omega arith
less_initial_at (t ∷ ts) K = less_initial (mark_of t.kind) t.from t ts K

less_braces_on : (c : Punctuator) (f : ℕ) (ts : List Token) (K : List Frame) → weight (braces_on c f ts (tail ts) K) < 24 * length ts + 2 * length K + 25
unfolding braces_on
less_braces_on marks.CloseBrace f ts K = let h = tail_short ts in omega (arith, h)
less_braces_on _ f ts K = omega arith

less_braces_end : (c : Punctuator) (f : ℕ) (ts : List Token) (K : List Frame) → weight (braces_end c f ts K) < 24 * length ts + 2 * length K + 25
unfolding braces_end
less_braces_end marks.CloseBrace f ts K = omega arith
less_braces_end marks.Comma f ts K = less_braces_on (mark_at ts) f ts K
less_braces_end _ f ts K = omega arith

less_init_end : (c : Punctuator) (p : DeclaredIn) (ts : List Token) (K : List Frame) → weight (init_end c p ts K) < 24 * length ts + 2 * length K + 25
unfolding init_end
less_init_end marks.Comma p ts K = omega arith
less_init_end marks.Semicolon p ts K = less_end p (end_acts p (acts.DeclareValue ∷ [])) ts K
less_init_end _ p ts K = omega arith

less_braces_at : (f : ℕ) (ts : List Token) (K : List Frame) → weight (braces_end (mark_at ts) f (tail ts) K) < 24 * length ts + 2 * length K + 3
unfolding braces_end
less_braces_at f [] K = omega arith
less_braces_at f (t ∷ ts) K = let h = less_braces_end (mark_of t.kind) f ts K in omega (arith, h)

less_init_at : (p : DeclaredIn) (ts : List Token) (K : List Frame) → weight (init_end (mark_at ts) p (tail ts) K) < 24 * length ts + 2 * length K + 3
unfolding init_end
less_init_at p [] K = omega arith
less_init_at p (t ∷ ts) K = let h = less_init_end (mark_of t.kind) p ts K in omega (arith, h)

pub less_value_end : (o : Frame) (ts : List Token) (K : List Frame) → weight (value_end o ts K) < 24 * length ts + 2 * length K + 3
unfolding value_end
less_value_end (fr.Braces f) ts K = less_braces_at f ts K
less_value_end (fr.Init p) ts K = less_init_at p ts K
less_value_end _ ts K = omega arith

less_condition : (c : Punctuator) (o : Frame) (ts : List Token) (K : List Frame) → weight (condition c o (tail ts) K) < 24 * length ts + 2 * length K + 25
unfolding condition
less_condition marks.Open o ts K = let h = tail_short ts in omega (arith, h)
less_condition _ o ts K = omega arith

less_for_head : (c : Punctuator) (f : ℕ) (ts : List Token) (K : List Frame) → weight (for_head c f (tail ts) K) < 24 * length ts + 2 * length K + 25
unfolding for_head
less_for_head marks.Open f ts K = let h = tail_short ts in omega (arith, h)
less_for_head _ f ts K = omega arith

less_leaf : (c : Punctuator) (a : Action) (ts : List Token) (K : List Frame) → weight (leaf c a (tail ts) K) < 24 * length ts + 2 * length K + 25
unfolding leaf
less_leaf marks.Semicolon a ts K = let h = tail_short ts in omega (arith, h)
less_leaf _ a ts K = omega arith

less_returned : (c : Punctuator) (f : ℕ) (ts : List Token) (K : List Frame) → weight (returned c f ts (tail ts) K) < 24 * length ts + 2 * length K + 25
unfolding returned
less_returned marks.Semicolon f ts K = let h = tail_short ts in omega (arith, h)
less_returned _ f ts K = omega arith

pub less_stmt : (c : Begin) (f : ℕ) (t : Token) (ts : List Token) (K : List Frame) → weight (stmt c f (t ∷ ts) ts K) < 24 * length (t ∷ ts) + 2 * length K + 6
unfolding stmt
less_stmt begins.Empty f t ts K = omega arith
less_stmt begins.Block f t ts K = omega arith
less_stmt begins.If f t ts K = let h = less_condition (mark_at ts) (fr.IfCond f) ts K in omega (arith, h)
less_stmt begins.While f t ts K = let h = less_condition (mark_at ts) (fr.WhileCond f) ts K in omega (arith, h)
less_stmt begins.Do f t ts K = omega arith
less_stmt begins.For f t ts K = let h = less_for_head (mark_at ts) f ts K in omega (arith, h)
less_stmt begins.Break f t ts K = let h = less_leaf (mark_at ts) (acts.Break f) ts K in omega (arith, h)
less_stmt begins.Continue f t ts K = let h = less_leaf (mark_at ts) (acts.Continue f) ts K in omega (arith, h)
less_stmt begins.Return f t ts K = let h = less_returned (mark_at ts) f ts K in omega (arith, h)
less_stmt begins.Other f t ts K = omega arith

less_do_word : (w : Word) (f : ℕ) (ts : List Token) (K : List Frame) → weight (do_on (kinds.Word w) f ts K) < 24 * length ts + 2 * length K + 25
unfolding do_on
less_do_word words.While f ts K = less_condition (mark_at ts) (fr.DoCond f) ts K
less_do_word _ f ts K = omega arith

less_do_on : (k : Kind) (f : ℕ) (ts : List Token) (K : List Frame) → weight (do_on k f ts K) < 24 * length ts + 2 * length K + 25
unfolding do_on
less_do_on (kinds.Word w) f ts K = less_do_word w f ts K
less_do_on _ f ts K = omega arith

less_do_while : (f : ℕ) (ts : List Token) (K : List Frame) → weight (do_while f ts K) < 24 * length ts + 2 * length K + 16
unfolding do_while
less_do_while f [] K = omega arith
less_do_while f (t ∷ ts) K = let h = less_do_on t.kind f ts K in omega (arith, h)

pub less_done : (o : Frame) (ts : List Token) (K : List Frame) → weight (done o ts K) < 24 * length ts + 2 * length K + 16
unfolding done
less_done (fr.IfThen f) ts K = less_if (begins_else ts) _ _ _ (let h = tail_short ts in omega (arith, h)) (omega arith)
less_done (fr.DoBody f) ts K = less_do_while f ts K
less_done _ ts K = omega arith

less_block_end : (ts : List Token) (K : List Frame) → weight (block_end ts K) < 24 * length ts + 2 * length K + 25
unfolding block_end
less_block_end ts [] = omega arith
less_block_end ts (fr.Block f ∷ K) = omega arith
less_block_end ts (_ ∷ K) = omega arith

less_entry : (c : Punctuator) (b : Bool) (t : Token) (ts : List Token) (K : List Frame) → weight (entry c b (t ∷ ts) ts K) < 24 * length (t ∷ ts) + 2 * length K + 13
unfolding entry
less_entry marks.CloseBrace b t ts K = let h = less_block_end ts K in omega (arith, h)
less_entry _ true t ts K = omega arith
less_entry _ false t ts K = omega arith

pub less_entry_at : (b : Bool) (ts : List Token) (K : List Frame) → weight (entry (mark_at ts) b ts (tail ts) K) < 24 * length ts + 2 * length K + 13
unfolding entry
less_entry_at true [] K = omega arith
less_entry_at false [] K = omega arith
less_entry_at b (t ∷ ts) K = less_entry (mark_of t.kind) b t ts K

pub less_first : (c : Punctuator) (b : Bool) (f : ℕ) (ts : List Token) (K : List Frame) → weight (for_first c b f ts (tail ts) K) < 24 * length ts + 2 * length K + 13
unfolding for_first
less_first marks.Semicolon b f ts K = let h = tail_short ts in omega (arith, h)
less_first _ true f ts K = omega arith
less_first _ false f ts K = omega arith

less_test : (c : Punctuator) (f : ℕ) (t : Token) (ts : List Token) (K : List Frame) → weight (for_test c f (t ∷ ts) ts K) < 24 * length (t ∷ ts) + 2 * length K + 6
unfolding for_test
less_test marks.Semicolon f t ts K = omega arith
less_test _ f t ts K = omega arith

pub less_test_at : (f : ℕ) (ts : List Token) (K : List Frame) → weight (for_test (mark_at ts) f ts (tail ts) K) < 24 * length ts + 2 * length K + 6
unfolding for_test
less_test_at f [] K = omega arith
less_test_at f (t ∷ ts) K = less_test (mark_of t.kind) f t ts K

less_for_step : (c : Punctuator) (f : ℕ) (t : Token) (ts : List Token) (K : List Frame) → weight (for_step c f (t ∷ ts) ts K) < 24 * length (t ∷ ts) + 2 * length K + 6
unfolding for_step
less_for_step marks.Close f t ts K = omega arith
less_for_step _ f t ts K = omega arith

pub less_for_step_at : (f : ℕ) (ts : List Token) (K : List Frame) → weight (for_step (mark_at ts) f ts (tail ts) K) < 24 * length ts + 2 * length K + 6
unfolding for_step
less_for_step_at f [] K = omega arith
less_for_step_at f (t ∷ ts) K = less_for_step (mark_of t.kind) f t ts K

less_struct_end : (c : Punctuator) (ts : List Token) (K : List Frame) → weight (struct_end c (tail ts) K) < 24 * length ts + 2 * length K + 25
unfolding struct_end
less_struct_end marks.Semicolon ts (fr.Struct ∷ K) = let h = tail_short ts in omega (arith, h)
less_struct_end marks.Semicolon ts _ = omega arith
less_struct_end _ ts K = omega arith

less_member_end : (c : Punctuator) (t : Token) (ts : List Token) (K : List Frame) → weight (member_end c (t ∷ ts) ts K) < 24 * length (t ∷ ts) + 2 * length K + 13
unfolding member_end
less_member_end marks.CloseBrace t ts K = let h = less_struct_end (mark_at ts) ts K in omega (arith, h)
less_member_end _ t ts K = omega arith

pub less_member_at : (ts : List Token) (K : List Frame) → weight (member_end (mark_at ts) ts (tail ts) K) < 24 * length ts + 2 * length K + 13
unfolding member_end
less_member_at [] K = omega arith
less_member_at (t ∷ ts) K = less_member_end (mark_of t.kind) t ts K

less_defines : (a b c : Kind) (ts us : List Token) (n : List ℕ) → defines_kinds a b c ts ≡ Some (n, us) → ts ≡ us
less_defines (kinds.Word words.Struct) (kinds.Name m) (kinds.Sign signs.OpenBrace) ts us n h = let p : ◌≡◌ {A = List ℕ × List Token} (m, ts) (n, us) = cc in ap (λ q. q.1) p
less_defines _ _ _ ts us n h = absurd cc

defines_short : (ts us : List Token) (n : List ℕ) → defines ts ≡ Some (n, us) → length us + 3 ≡ length ts
unfolding defines
defines_short [] us n h = absurd cc
defines_short (t ∷ []) us n h = absurd cc
defines_short (t ∷ u ∷ []) us n h = absurd cc
defines_short (t ∷ u ∷ v ∷ ts) us n h = let e : length ts ≡ length us = ap (λ (z : List Token). length z) (less_defines t.kind u.kind v.kind ts us n h) in omega (arith, e)

less_top : (r : Option (List ℕ × List Token)) (ts : List Token) (K : List Frame) → defines ts ≡ r → weight (top r ts K) < 24 * length ts + 2 * length K + 13
unfolding top
less_top None ts K h = less_annotated (mark_at ts) targets.Top ts K
less_top (Some (n, us)) ts K h = let e = defines_short ts us n h in omega (arith, e)

pub less_tops : (ts : List Token) (K : List Frame) → weight (tops ts K) < 24 * length ts + 2 * length K + 13
unfolding tops
less_tops [] [] = omega arith
less_tops [] (o ∷ K) = less_top (defines []) [] (o ∷ K) refl
less_tops (t ∷ ts) K = less_top (defines (t ∷ ts)) (t ∷ ts) K refl
