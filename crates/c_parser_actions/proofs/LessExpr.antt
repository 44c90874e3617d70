-- Each move over expressions leaves less to do.
use Rattle.std.proofs.Common.{ℕ, ◌+◌, ◌<◌, Bool, true, false, ◌&&◌, List, [], ◌∷◌, ◌*◌, length, arith, nat_le}
use Rattle.c_lexer.specs.declared.token.Sign.{Sign}
use Rattle.c_lexer.specs.declared.token.Sign.TheVariants as signs
use Rattle.c_lexer.specs.declared.token.Word.{Word}
use Rattle.c_lexer.specs.declared.token.Word.TheVariants as words
use Rattle.c_lexer.specs.declared.token.Kind.{Kind}
use Rattle.c_lexer.specs.declared.token.Kind.TheVariants as kinds
use Rattle.c_lexer.specs.declared.token.Token.{Token}
use Rattle.c_syntax.specs.Levels.{begins_type, opens_type}
use Rattle.c_parser_moves.specs.declared.mark.Punctuator.{Punctuator}
use Rattle.c_parser_moves.specs.declared.mark.Punctuator.TheVariants as marks
use Rattle.c_parser_moves.specs.declared.mark.After.{After}
use Rattle.c_parser_moves.specs.declared.mark.After.TheVariants as afters
use Rattle.c_parser_moves.specs.declared.frame.Frame.{Frame}
use Rattle.c_parser_moves.specs.declared.frame.Frame.TheVariants as fr
use Rattle.c_parser_moves.specs.Marks.{mark_of, mark_at, after_of, after_at}
use Rattle.c_parser_moves.proofs.Machine.{tail}
use Rattle.c_parser_moves.proofs.MachineExpr.{bracket, size, start_sign, start, call, field_name, field, after, close, climb, give, do_end, at_comma, at_close, at_bracket, at_colon, at_semicolon, closes, value}
use Rattle.c_parser_actions.proofs.Weight.{weight}
use Rattle.c_parser_actions.proofs.Short.{less_if, tail_short}

less_bracket : (b : Bool) (f : ℕ) (ts : List Token) (K : List Frame) → weight (bracket b f ts K) < 24 * length ts + 2 * length K + 25
unfolding bracket
less_bracket true f ts K = omega arith
less_bracket false f ts K = omega arith

less_size : (b : Bool) (f : ℕ) (ts : List Token) (K : List Frame) → weight (size b f ts K) < 24 * length ts + 2 * length K + 25
unfolding size
less_size true f ts K = let h = tail_short ts in omega (arith, h)
less_size false f ts K = omega arith

less_sign : (x : Sign) (f : ℕ) (ts : List Token) (K : List Frame) → weight (start_sign x f ts K) < 24 * length ts + 2 * length K + 25
unfolding start_sign
less_sign signs.OpenParenthesis f ts K = less_bracket (begins_type ts) f ts K
less_sign _ f ts K = omega arith

less_word : (w : Word) (f : ℕ) (ts : List Token) (K : List Frame) → weight (start (kinds.Word w) f ts K) < 24 * length ts + 2 * length K + 25
unfolding start
less_word words.Sizeof f ts K = less_size (opens_type ts) f ts K
less_word _ f ts K = omega arith

pub less_start : (k : Kind) (f : ℕ) (ts : List Token) (K : List Frame) → weight (start k f ts K) < 24 * length ts + 2 * length K + 25
unfolding start
less_start (kinds.Sign x) f ts K = less_sign x f ts K
less_start (kinds.Word w) f ts K = less_word w f ts K
less_start _ f ts K = omega arith

less_call : (c : Punctuator) (f : ℕ) (ts : List Token) (K : List Frame) → weight (call c f ts K) < 24 * length ts + 2 * length K + 25
unfolding call
less_call marks.Close f ts K = let h = tail_short ts in omega (arith, h)
less_call _ f ts K = omega arith

less_name : (k : Kind) (b : Bool) (f : ℕ) (ts : List Token) (K : List Frame) → weight (field_name k b f ts K) < 24 * length ts + 2 * length K + 25
unfolding field_name
less_name (kinds.Name n) true f ts K = omega arith
less_name (kinds.Name n) false f ts K = omega arith
less_name _ b f ts K = omega arith

less_field : (b : Bool) (f : ℕ) (ts : List Token) (K : List Frame) → weight (field b f ts K) < 24 * length ts + 2 * length K + 25
unfolding field
less_field b f [] K = omega arith
less_field b f (t ∷ ts) K = let h = less_name t.kind b f ts K in omega (arith, h)

less_after : (c : After) (f : ℕ) (t : Token) (ts : List Token) (K : List Frame) → weight (after c f (t ∷ ts) ts K) < 24 * length (t ∷ ts) + 2 * length K + 2
unfolding after
less_after afters.Index f t ts K = omega arith
less_after afters.Call f t ts K = let h = less_call (mark_at ts) f ts K in omega (arith, h)
less_after afters.Dot f t ts K = let h = less_field true f ts K in omega (arith, h)
less_after afters.Arrow f t ts K = let h = less_field false f ts K in omega (arith, h)
less_after (afters.Postfix x) f t ts K = omega arith
less_after _ f t ts K = omega arith

pub less_after_at : (f : ℕ) (ts : List Token) (K : List Frame) → weight (after (after_at ts) f ts (tail ts) K) < 24 * length ts + 2 * length K + 2
unfolding after
less_after_at f [] K = omega arith
less_after_at f (t ∷ ts) K = less_after (after_of t.kind) f t ts K

less_close : (m k : ℕ) (ts : List Token) (K : List Frame) → weight (close m k ts K) < 24 * length ts + 2 * length K + 3
unfolding close
less_close m k ts K = less_if (nat_le m k) _ _ _ (omega arith) (omega arith)

less_climb : (c : After) (m f k : ℕ) (t : Token) (ts : List Token) (K : List Frame) → weight (climb c m f k (t ∷ ts) ts K) < 24 * length (t ∷ ts) + 2 * length K + 3
unfolding climb
less_climb (afters.Binary l x) m f k t ts K = less_if (nat_le m l && nat_le l k) _ _ _ (omega arith) (less_close m k (t ∷ ts) K)
less_climb (afters.Assign x) m f k t ts K = less_if (nat_le m 2 && nat_le 14 k) _ _ _ (omega arith) (less_close m k (t ∷ ts) K)
less_climb afters.Question m f k t ts K = less_if (nat_le m 3 && nat_le 4 k) _ _ _ (omega arith) (less_close m k (t ∷ ts) K)
less_climb _ m f k t ts K = less_close m k (t ∷ ts) K

less_climb_at : (m f k : ℕ) (ts : List Token) (K : List Frame) → weight (climb (after_at ts) m f k ts (tail ts) K) < 24 * length ts + 2 * length K + 3
unfolding climb
less_climb_at m f k [] K = less_close m k [] K
less_climb_at m f k (t ∷ ts) K = less_climb (after_of t.kind) m f k t ts K

pub less_give : (o : Frame) (k : ℕ) (ts : List Token) (K : List Frame) → weight (give o k ts K) < 24 * length ts + 2 * length K + 3
unfolding give
less_give (fr.Climb m f) k ts K = less_climb_at m f k ts K
less_give (fr.Prefix f x) k ts K = less_if (nat_le 14 k) _ _ _ (omega arith) (omega arith)
less_give (fr.Sizeof f) k ts K = less_if (nat_le 14 k) _ _ _ (omega arith) (omega arith)
less_give (fr.Cast f) k ts K = less_if (nat_le 14 k) _ _ _ (omega arith) (omega arith)
less_give _ k ts K = omega arith

less_do : (c : Punctuator) (f : ℕ) (ts : List Token) (K : List Frame) → weight (do_end c f ts K) < 24 * length ts + 2 * length K + 25
unfolding do_end
less_do marks.Semicolon f ts K = let h = tail_short ts in omega (arith, h)
less_do _ f ts K = omega arith

less_comma : (o : Frame) (ts : List Token) (K : List Frame) → weight (at_comma o ts K) < 24 * length ts + 2 * length K + 25
unfolding at_comma
less_comma (fr.Args f) ts K = omega arith
less_comma _ ts K = omega arith

less_round : (o : Frame) (ts : List Token) (K : List Frame) → weight (at_close o ts K) < 24 * length ts + 2 * length K + 25
unfolding at_close
less_round (fr.DoCond f) ts K = less_do (mark_at ts) f ts K
less_round _ ts K = omega arith

less_square : (o : Frame) (ts : List Token) (K : List Frame) → weight (at_bracket o ts K) < 24 * length ts + 2 * length K + 25
unfolding at_bracket
less_square (fr.Index f) ts K = omega arith
less_square _ ts K = omega arith

less_colon : (o : Frame) (ts : List Token) (K : List Frame) → weight (at_colon o ts K) < 24 * length ts + 2 * length K + 25
unfolding at_colon
less_colon (fr.Middle f) ts K = omega arith
less_colon _ ts K = omega arith

less_semicolon : (o : Frame) (ts : List Token) (K : List Frame) → weight (at_semicolon o ts K) < 24 * length ts + 2 * length K + 25
unfolding at_semicolon
less_semicolon (fr.Expression f) ts K = omega arith
less_semicolon _ ts K = omega arith

less_closes : (c : Punctuator) (o : Frame) (ts : List Token) (K : List Frame) → weight (closes c o ts K) < 24 * length ts + 2 * length K + 25
unfolding closes
less_closes marks.Comma o ts K = less_comma o ts K
less_closes marks.Close o ts K = less_round o ts K
less_closes marks.CloseBracket o ts K = less_square o ts K
less_closes marks.Colon o ts K = less_colon o ts K
less_closes marks.Semicolon o ts K = less_semicolon o ts K
less_closes _ o ts K = omega arith

less_closes_at : (o : Frame) (ts : List Token) (K : List Frame) → weight (closes (mark_at ts) o (tail ts) K) < 24 * length ts + 2 * length K + 3
unfolding closes
less_closes_at o [] K = omega arith
less_closes_at o (t ∷ ts) K = let h = less_closes (mark_of t.kind) o ts K in omega (arith, h)

pub less_value : (o : Frame) (ts : List Token) (K : List Frame) → weight (value o ts K) < 24 * length ts + 2 * length K + 3
unfolding value
less_value (fr.Binary l f x) ts K = omega arith
less_value (fr.Assign f x) ts K = omega arith
less_value (fr.Last f) ts K = omega arith
less_value fr.Plain ts K = omega arith
less_value o ts K = less_closes_at o ts K
