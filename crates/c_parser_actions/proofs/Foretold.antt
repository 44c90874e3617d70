-- The table of the tokens ahead is right.
use Rattle.std.proofs.Common.{◌≡◌, ℕ, zero, suc, ◌+◌, ◌<◌, Bool, false, List, [], ◌∷◌, ◌++◌, length, get_or, drop, Some, refl, sym, ◌∙◌, arith, length-append, length-drop}
use Rattle.std.proofs.Math.Seq.{drop-cons}
use Rattle.std.specs.List.{slice_get}
use Rattle.c_lexer.specs.declared.token.Token.{Token}
use Rattle.c_syntax.specs.Levels.{begins_type}
use Rattle.c_parser_moves.specs.declared.mark.Punctuator.{Punctuator}
use Rattle.c_parser_moves.specs.declared.mark.Punctuator.TheVariants as marks
use Rattle.c_parser_moves.specs.declared.frame.Frame.{Frame}
use Rattle.c_parser_moves.specs.declared.frame.Next.{Next}
use Rattle.c_parser_moves.specs.declared.action.Action.{Action}
use Rattle.c_parser_moves.specs.Marks.{mark_of}
use Rattle.c_parser_moves.proofs.Machine.{Move, moved}
use Rattle.c_parser_moves.proofs.MachineSteps.{step}
use Rattle.c_parser_moves.specs.Words.{scan, at_mark, lists}
use Rattle.c_parser_actions.specs.Ahead.{Foretells, nearest, met, closers}
use Rattle.c_parser_actions.proofs.Onward.{on_step}

kept : (table : List Bool) (b : Bool) (n : ℕ) (x : Bool) → slice_get table n ≡ Some x → slice_get (table ++ b ∷ []) n ≡ Some x
kept [] b n x h = absurd cc
kept (y ∷ ys) b zero x h = h
kept (y ∷ ys) b (suc n) x h = kept ys b n x h

newest : (table : List Bool) (b : Bool) → slice_get (table ++ b ∷ []) (length table) ≡ Some b
newest [] b = refl
newest (y ∷ ys) b = newest ys b

foretells_on : (table : List Bool) (b : Bool) (ts : List Token) → Foretells table ts → Foretells (table ++ b ∷ []) ts
foretells_on table b [] h = tt
foretells_on table b (t ∷ ts) h = (kept table b (length ts) (lists ts) h.0, foretells_on table b ts h.1)

-- one more token
pub foretells_more : (table : List Bool) (b : Bool) (t : Token) (ts : List Token) → Foretells table ts → length table ≡ length ts → b ≡ lists ts → Foretells (table ++ b ∷ []) (t ∷ ts)
foretells_more table b t ts h e p = (rw (← e, ← p) (newest table b), foretells_on table b ts h)

past_open : (bs : List Bool) (b : Bool) (n : ℕ) → get_or bs (suc n) false ≡ get_or (met marks.OpenBracket b bs) n false
past_open [] b n = refl
past_open (c ∷ bs) b n = refl

scanned_by : (c : Punctuator) (n : ℕ) (ts : List Token) → ((m : ℕ) → begins_type (scan m ts) ≡ get_or (closers ts) m false) → begins_type (at_mark c n ts (λ m. scan m ts)) ≡ get_or (met c (begins_type ts) (closers ts)) n false
scanned_by marks.OpenBracket n ts h = h (suc n) ∙ past_open (closers ts) (begins_type ts) n
scanned_by marks.CloseBracket zero ts h = refl
scanned_by marks.CloseBracket (suc n) ts h = h n
scanned_by _ n ts h = h n

-- what follows the square bracket that closes, where n more are open
scanned : (ts : List Token) (n : ℕ) → begins_type (scan n ts) ≡ get_or (closers ts) n false
scanned [] n = refl
scanned (t ∷ ts) n = scanned_by (mark_of t.kind) n ts (λ m. scanned ts m)

nearest_is : (bs : List Bool) → get_or bs 0 false ≡ nearest bs
nearest_is [] = refl
nearest_is (b ∷ bs) = refl

pub listed : (ts : List Token) → lists ts ≡ nearest (closers ts)
unfolding lists
listed ts = scanned ts 0 ∙ nearest_is (closers ts)

-- what is so from the place n on is so from the place before it on
pub record Told (all : List Token) (n : ℕ) (table waiting : List Bool) : Type 0 where
  pub foretold : Foretells table (drop n all)
  pub long : length table + n ≡ length all
  pub met_there : waiting ≡ closers (drop n all)

pub told_more : (all : List Token) (k n : ℕ) (t : Token) (table bs : List Bool) → n ≡ suc k → k < length all → t ≡ get_or all k t → Told all n table bs → Told all k (table ++ nearest bs ∷ []) (met (mark_of t.kind) (begins_type (drop n all)) bs)
told_more all k n t table bs e l h told =
    let d : drop k all ≡ t ∷ drop n all = let p = drop-cons all k t l in cc in
    let w = told.met_there in
    let long : length table ≡ length (drop n all) = let p = length-drop n all in let q = told.long in omega arith in
    let new : nearest bs ≡ lists (drop n all) = rw w (sym (listed (drop n all))) in
    record {
      foretold = rw d (foretells_more table (nearest bs) t (drop n all) told.foretold long new);
      long = let p = length-append table (nearest bs ∷ []) in let q = told.long in omega arith;
      met_there = rw (d, w) refl;
    }

-- what is so of the tokens is so of those that a step leaves
pub run_foretold : (table : List Bool) (m : Move) (n : Next) (out : List Action) (ts : List Token) (K : List Frame) → Foretells table ts → m ≡ moved (step n ts K) out → Foretells table m.rest
run_foretold table m n out ts K h e = rw e (on_step (λ us. Foretells table us) tt (λ t us k. k.1) n ts K h)
