-- Each step leaves less to do.
use Rattle.std.proofs.Common.{◌≡◌, ◌<◌, true, false, List, [], ◌∷◌, length, arith}
use Rattle.c_lexer.specs.declared.token.Token.{Token}
use Rattle.c_syntax.specs.Levels.{begins_type, from_of}
use Rattle.c_parser_moves.specs.declared.frame.Target.TheVariants as targets
use Rattle.c_parser_moves.specs.declared.frame.Frame.{Frame}
use Rattle.c_parser_moves.specs.declared.frame.Next.{Next}
use Rattle.c_parser_moves.specs.declared.frame.Next.TheVariants as nx
use Rattle.c_parser_moves.specs.Marks.{mark_at, begin_of}
use Rattle.c_parser_moves.specs.Words.{take_specs}
use Rattle.c_parser_moves.proofs.MachineDeclr.{is_top}
use Rattle.c_parser_moves.proofs.MachineSteps.{give_next, take_next, read_next, given, taken, step, works}
use Rattle.c_parser_actions.proofs.Weight.{weight_of, weight}
use Rattle.c_parser_actions.proofs.Short.{specs_short}
use Rattle.c_parser_actions.proofs.LessExpr.{less_start, less_after_at, less_give, less_value}
use Rattle.c_parser_actions.proofs.LessDeclr.{less_declr, less_direct_at, less_declared, less_typed, less_targeted, less_placed, less_annotated, less_annot, less_annot_end, less_atom, less_atom_end, less_item_end}
use Rattle.c_parser_actions.proofs.LessSource.{less_initial_at, less_value_end, less_stmt, less_done, less_entry_at, less_first, less_test_at, less_for_step_at, less_member_at, less_tops}

less_given : (n : Next) (o : Frame) (ts : List Token) (K : List Frame) → works n ≡ true → weight (give_next n o ts K) < weight_of n (length ts) (length (o ∷ K))
unfolding give_next
less_given (nx.Done k) o ts K w = let h = less_give o k ts K in omega (arith, h)
less_given nx.Value o ts K w = let h = less_value o ts K in omega (arith, h)
less_given nx.DeclrDone o ts K w = let h = less_declared o ts K in omega (arith, h)
less_given nx.AnnotDone o ts K w = let h = less_annot_end o ts K in omega (arith, h)
less_given nx.AtomDone o ts K w = let h = less_atom_end o ts K in omega (arith, h)
less_given nx.ItemDone o ts K w = let h = less_item_end o ts K in omega (arith, h)
less_given nx.ValueDone o ts K w = let h = less_value_end o ts K in omega (arith, h)
less_given nx.StmtDone o ts K w = let h = less_done o ts K in omega (arith, h)
less_given nx.Fail o ts K w = absurd cc
less_given nx.End o ts K w = absurd cc
less_given _ o ts K w = omega arith

less_taken : (n : Next) (t : Token) (ts : List Token) (K : List Frame) → works n ≡ true → weight (take_next n t (t ∷ ts) ts K) < weight_of n (length (t ∷ ts)) (length K)
unfolding take_next
less_taken nx.Operand t ts K w = let h = less_start t.kind t.from ts K in omega (arith, h)
less_taken (nx.Declr g f) t ts K w = less_declr t.kind g f t.from t ts K
less_taken nx.Annot t ts K w = let h = less_annot t.kind t.from ts K in omega (arith, h)
less_taken nx.Atom t ts K w = let h = less_atom t.kind ts K in omega (arith, h)
less_taken nx.Stmt t ts K w = less_stmt (begin_of t.kind) t.from t ts K
less_taken nx.Fail t ts K w = absurd cc
less_taken nx.End t ts K w = absurd cc
less_taken _ t ts K w = omega arith

less_read : (n : Next) (ts : List Token) (K : List Frame) → works n ≡ true → weight (read_next n ts K) < weight_of n (length ts) (length K)
unfolding read_next
less_read (nx.After f) ts K w = less_after_at f ts K
less_read nx.TypeName ts K w = less_typed (take_specs false ts) (from_of ts) (length ts) K (specs_short false ts)
less_read nx.Direct ts K w = less_direct_at ts K
less_read nx.Param ts K w = less_annotated (mark_at ts) (targets.Param (from_of ts)) ts K
less_read (nx.Specs g) ts K w = less_targeted (take_specs (is_top g) ts) g (length ts) K (specs_short (is_top g) ts)
less_read (nx.Names p) ts K w = less_placed (take_specs false ts) p (length ts) K (specs_short false ts)
less_read nx.Item ts K w = omega arith
less_read nx.Initial ts K w = less_initial_at ts K
less_read nx.Entry ts K w = less_entry_at (begins_type ts) ts K
less_read (nx.ForFirst f) ts K w = less_first (mark_at ts) (begins_type ts) f ts K
less_read (nx.ForTest f) ts K w = less_test_at f ts K
less_read (nx.ForStep f) ts K w = less_for_step_at f ts K
less_read nx.MemberEnd ts K w = less_member_at ts K
less_read nx.Top ts K w = less_tops ts K
less_read nx.Fail ts K w = absurd cc
less_read nx.End ts K w = absurd cc
less_read _ ts K w = omega arith

given_less : (n : Next) (ts : List Token) (K : List Frame) → works n ≡ true → 0 < weight_of n (length ts) (length K) → weight (given n ts K) < weight_of n (length ts) (length K)
given_less n ts [] w h = h
given_less n ts (o ∷ K) w h = less_given n o ts K w

taken_less : (n : Next) (ts : List Token) (K : List Frame) → works n ≡ true → 0 < weight_of n (length ts) (length K) → weight (taken n ts K) < weight_of n (length ts) (length K)
taken_less n [] K w h = h
taken_less n (t ∷ ts) K w h = less_taken n t ts K w

-- a step leaves less to do
pub less_step : (n : Next) (ts : List Token) (K : List Frame) → works n ≡ true → weight (step n ts K) < weight_of n (length ts) (length K)
unfolding step
less_step (nx.Done k) ts K w = given_less (nx.Done k) ts K w (omega arith)
less_step nx.Value ts K w = given_less nx.Value ts K w (omega arith)
less_step nx.DeclrDone ts K w = given_less nx.DeclrDone ts K w (omega arith)
less_step nx.AnnotDone ts K w = given_less nx.AnnotDone ts K w (omega arith)
less_step nx.AtomDone ts K w = given_less nx.AtomDone ts K w (omega arith)
less_step nx.ItemDone ts K w = given_less nx.ItemDone ts K w (omega arith)
less_step nx.ValueDone ts K w = given_less nx.ValueDone ts K w (omega arith)
less_step nx.StmtDone ts K w = given_less nx.StmtDone ts K w (omega arith)
less_step nx.Operand ts K w = taken_less nx.Operand ts K w (omega arith)
less_step (nx.Declr g f) ts K w = taken_less (nx.Declr g f) ts K w (omega arith)
less_step nx.Annot ts K w = taken_less nx.Annot ts K w (omega arith)
less_step nx.Atom ts K w = taken_less nx.Atom ts K w (omega arith)
less_step nx.Stmt ts K w = taken_less nx.Stmt ts K w (omega arith)
less_step n ts K w = less_read n ts K w
