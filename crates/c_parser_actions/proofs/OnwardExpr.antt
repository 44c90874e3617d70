-- The same of those that a move over expressions leaves.
use Rattle.std.proofs.Common.{ℕ, Bool, true, false, ◌&&◌, List, [], ◌∷◌, nat_le}
use Rattle.c_lexer.specs.declared.token.Sign.{Sign}
use Rattle.c_lexer.specs.declared.token.Sign.TheVariants as signs
use Rattle.c_lexer.specs.declared.token.Word.{Word}
use Rattle.c_lexer.specs.declared.token.Word.TheVariants as words
use Rattle.c_lexer.specs.declared.token.Kind.{Kind}
use Rattle.c_lexer.specs.declared.token.Kind.TheVariants as kinds
use Rattle.c_lexer.specs.declared.token.Token.{Token}
use Rattle.c_syntax.specs.Levels.{begins_type, opens_type}
use Rattle.c_parser_moves.specs.declared.mark.Punctuator.{Punctuator}
use Rattle.c_parser_moves.specs.declared.mark.Punctuator.TheVariants as marks
use Rattle.c_parser_moves.specs.declared.mark.After.{After}
use Rattle.c_parser_moves.specs.declared.mark.After.TheVariants as afters
use Rattle.c_parser_moves.specs.declared.frame.Frame.{Frame}
use Rattle.c_parser_moves.specs.declared.frame.Frame.TheVariants as fr
use Rattle.c_parser_moves.specs.Marks.{mark_at, after_at}
use Rattle.c_parser_moves.proofs.Machine.{tail}
use Rattle.c_parser_moves.proofs.MachineExpr.{bracket, size, start_sign, start, call, field_name, field, after, close, climb, give, do_end, at_comma, at_close, at_bracket, at_colon, at_semicolon, closes, value}
use Rattle.c_parser_actions.proofs.OnwardWords.{on_if, on_tail}

module _ (P : List Token → Type 0) (none : P []) (following : (t : Token) (ts : List Token) → P (t ∷ ts) → P ts) where
  on_bracket : (b : Bool) (f : ℕ) (ts : List Token) (K : List Frame) → P ts → P (bracket b f ts K).rest
  unfolding bracket
  on_bracket true f ts K h = h
  on_bracket false f ts K h = h

  on_size : (b : Bool) (f : ℕ) (ts : List Token) (K : List Frame) → P ts → P (size b f ts K).rest
  unfolding size
  on_size true f ts K h = on_tail P none following ts h
  on_size false f ts K h = h

  on_sign : (x : Sign) (f : ℕ) (ts : List Token) (K : List Frame) → P ts → P (start_sign x f ts K).rest
  unfolding start_sign
  on_sign signs.OpenParenthesis f ts K h = on_bracket (begins_type ts) f ts K h
  on_sign _ f ts K h = h

  on_word : (w : Word) (f : ℕ) (ts : List Token) (K : List Frame) → P ts → P (start (kinds.Word w) f ts K).rest
  unfolding start
  on_word words.Sizeof f ts K h = on_size (opens_type ts) f ts K h
  on_word _ f ts K h = h

  pub on_start : (k : Kind) (f : ℕ) (ts : List Token) (K : List Frame) → P ts → P (start k f ts K).rest
  unfolding start
  on_start (kinds.Sign x) f ts K h = on_sign x f ts K h
  on_start (kinds.Word w) f ts K h = on_word w f ts K h
  on_start _ f ts K h = h

  on_call : (c : Punctuator) (f : ℕ) (ts : List Token) (K : List Frame) → P ts → P (call c f ts K).rest
  unfolding call
  on_call marks.Close f ts K h = on_tail P none following ts h
  on_call _ f ts K h = h

  on_name : (k : Kind) (b : Bool) (f : ℕ) (ts : List Token) (K : List Frame) → P ts → P (field_name k b f ts K).rest
  unfolding field_name
  on_name (kinds.Name n) true f ts K h = h
  on_name (kinds.Name n) false f ts K h = h
  on_name _ b f ts K h = h

  on_field : (b : Bool) (f : ℕ) (ts : List Token) (K : List Frame) → P ts → P (field b f ts K).rest
  unfolding field
  on_field b f [] K h = h
  on_field b f (t ∷ ts) K h = on_name t.kind b f ts K (following t ts h)

  pub on_after : (c : After) (f : ℕ) (all ts : List Token) (K : List Frame) → P all → P ts → P (after c f all ts K).rest
  unfolding after
  on_after afters.Index f all ts K h k = k
  on_after afters.Call f all ts K h k = on_call (mark_at ts) f ts K k
  on_after afters.Dot f all ts K h k = on_field true f ts K k
  on_after afters.Arrow f all ts K h k = on_field false f ts K k
  on_after (afters.Postfix x) f all ts K h k = k
  on_after _ f all ts K h k = h

  on_close : (m k : ℕ) (ts : List Token) (K : List Frame) → P ts → P (close m k ts K).rest
  unfolding close
  on_close m k ts K h = on_if P none following (nat_le m k) _ _ h h

  on_climb : (c : After) (m f k : ℕ) (all ts : List Token) (K : List Frame) → P all → P ts → P (climb c m f k all ts K).rest
  unfolding climb
  on_climb (afters.Binary l x) m f k all ts K h j = on_if P none following (nat_le m l && nat_le l k) _ _ j (on_close m k all K h)
  on_climb (afters.Assign x) m f k all ts K h j = on_if P none following (nat_le m 2 && nat_le 14 k) _ _ j (on_close m k all K h)
  on_climb afters.Question m f k all ts K h j = on_if P none following (nat_le m 3 && nat_le 4 k) _ _ j (on_close m k all K h)
  on_climb _ m f k all ts K h j = on_close m k all K h

  pub on_give : (o : Frame) (k : ℕ) (ts : List Token) (K : List Frame) → P ts → P (give o k ts K).rest
  unfolding give
  on_give (fr.Climb m f) k ts K h = on_climb (after_at ts) m f k ts (tail ts) K h (on_tail P none following ts h)
  on_give (fr.Prefix f x) k ts K h = on_if P none following (nat_le 14 k) _ _ h h
  on_give (fr.Sizeof f) k ts K h = on_if P none following (nat_le 14 k) _ _ h h
  on_give (fr.Cast f) k ts K h = on_if P none following (nat_le 14 k) _ _ h h
  on_give _ k ts K h = h

  on_do : (c : Punctuator) (f : ℕ) (ts : List Token) (K : List Frame) → P ts → P (do_end c f ts K).rest
  unfolding do_end
  on_do marks.Semicolon f ts K h = on_tail P none following ts h
  on_do _ f ts K h = h

  on_comma : (o : Frame) (ts : List Token) (K : List Frame) → P ts → P (at_comma o ts K).rest
  unfolding at_comma
  on_comma (fr.Args f) ts K h = h
  on_comma _ ts K h = h

  on_round : (o : Frame) (ts : List Token) (K : List Frame) → P ts → P (at_close o ts K).rest
  unfolding at_close
  on_round (fr.DoCond f) ts K h = on_do (mark_at ts) f ts K h
  on_round _ ts K h = h

  on_square : (o : Frame) (ts : List Token) (K : List Frame) → P ts → P (at_bracket o ts K).rest
  unfolding at_bracket
  on_square (fr.Index f) ts K h = h
  on_square _ ts K h = h

  on_colon : (o : Frame) (ts : List Token) (K : List Frame) → P ts → P (at_colon o ts K).rest
  unfolding at_colon
  on_colon (fr.Middle f) ts K h = h
  on_colon _ ts K h = h

  on_semicolon : (o : Frame) (ts : List Token) (K : List Frame) → P ts → P (at_semicolon o ts K).rest
  unfolding at_semicolon
  on_semicolon (fr.Expression f) ts K h = h
  on_semicolon _ ts K h = h

  on_closes : (c : Punctuator) (o : Frame) (ts : List Token) (K : List Frame) → P ts → P (closes c o ts K).rest
  unfolding closes
  on_closes marks.Comma o ts K h = on_comma o ts K h
  on_closes marks.Close o ts K h = on_round o ts K h
  on_closes marks.CloseBracket o ts K h = on_square o ts K h
  on_closes marks.Colon o ts K h = on_colon o ts K h
  on_closes marks.Semicolon o ts K h = on_semicolon o ts K h
  on_closes _ o ts K h = h

  pub on_value : (o : Frame) (ts : List Token) (K : List Frame) → P ts → P (value o ts K).rest
  unfolding value
  on_value (fr.Binary l f x) ts K h = h
  on_value (fr.Assign f x) ts K h = h
  on_value (fr.Last f) ts K h = h
  on_value fr.Plain ts K h = h
  on_value o ts K h = on_closes (mark_at ts) o (tail ts) K (on_tail P none following ts h)
