-- The parser's steps: which move comes next.
use Rattle.std.specs.Prelude.{Bool, true, false, List, [], ◌∷◌}
use Rattle.c_lexer.specs.declared.token.Token.{Token}
use Rattle.c_syntax.specs.Levels.{begins_type, from_of}
use Rattle.c_parser_moves.specs.declared.frame.Target.TheVariants as targets
use Rattle.c_parser_moves.specs.declared.frame.Frame.{Frame}
use Rattle.c_parser_moves.specs.declared.frame.Frame.TheVariants as frames
use Rattle.c_parser_moves.specs.declared.frame.Next.{Next}
use Rattle.c_parser_moves.specs.declared.frame.Next.TheVariants as nexts
use Rattle.c_parser_moves.specs.Marks.{mark_at, after_at, begin_of}
use Rattle.c_parser_moves.specs.Words.{take_specs}
use Rattle.c_parser_moves.proofs.Machine.{Move, move, fail, tail}
use Rattle.c_parser_moves.proofs.MachineExpr.{start, after, give, value}
use Rattle.c_parser_moves.proofs.MachineDeclr.{declr, direct, declared, typed, targeted, is_top, placed, annotated, annot, annot_end, atom, atom_end, item_end}
use Rattle.c_parser_moves.proofs.MachineSource.{initial, value_end, stmt, done, entry, for_first, for_test, for_step, member_end, tops}

-- what has been read is given to the construct that wants it
unfoldable pub give_next : Next → Frame → List Token → List Frame → Move
give_next (nexts.Done k) o ts K = give o k ts K
give_next nexts.Value o ts K = value o ts K
give_next nexts.DeclrDone o ts K = declared o ts K
give_next nexts.AnnotDone o ts K = annot_end o ts K
give_next nexts.AtomDone o ts K = atom_end o ts K
give_next nexts.ItemDone o ts K = item_end o ts K
give_next nexts.ValueDone o ts K = value_end o ts K
give_next nexts.StmtDone o ts K = done o ts K
give_next _ o ts K = fail ts K

-- a token is read that must be there
unfoldable pub take_next : Next → Token → List Token → List Token → List Frame → Move
take_next nexts.Operand t all ts K = start t.kind t.from ts K
take_next (nexts.Declr g f) t all ts K = declr t.kind g f t.from all ts K
take_next nexts.Annot t all ts K = annot t.kind t.from ts K
take_next nexts.Atom t all ts K = atom t.kind ts K
take_next nexts.Stmt t all ts K = stmt (begin_of t.kind) t.from all ts K
take_next _ t all ts K = fail ts K

-- the parser goes on by what the rest begins with, if anything
unfoldable pub read_next : Next → List Token → List Frame → Move
read_next (nexts.After f) ts K = after (after_at ts) f ts (tail ts) K
read_next nexts.TypeName ts K = typed (take_specs false ts) (from_of ts) K
read_next nexts.Direct ts K = direct (mark_at ts) (from_of ts) ts (tail ts) K
read_next nexts.Param ts K = annotated (mark_at ts) (targets.Param (from_of ts)) ts (tail ts) K
read_next (nexts.Specs g) ts K = targeted (take_specs (is_top g) ts) g K
read_next (nexts.Names p) ts K = placed (take_specs false ts) p K
read_next nexts.Item ts K = move nexts.Atom [] ts (frames.FirstFactor (from_of ts) ∷ K)
read_next nexts.Initial ts K = initial (mark_at ts) (from_of ts) ts (tail ts) K
read_next nexts.Entry ts K = entry (mark_at ts) (begins_type ts) ts (tail ts) K
read_next (nexts.ForFirst f) ts K = for_first (mark_at ts) (begins_type ts) f ts (tail ts) K
read_next (nexts.ForTest f) ts K = for_test (mark_at ts) f ts (tail ts) K
read_next (nexts.ForStep f) ts K = for_step (mark_at ts) f ts (tail ts) K
read_next nexts.MemberEnd ts K = member_end (mark_at ts) ts (tail ts) K
read_next nexts.Top ts K = tops ts K
read_next nexts.End ts K = move nexts.End [] ts K
read_next _ ts K = fail ts K

-- the kinds of steps
abbrev pub given : Next → List Token → List Frame → Move
given n ts [] = fail ts []
given n ts (o ∷ K) = give_next n o ts K

abbrev pub taken : Next → List Token → List Frame → Move
taken n [] K = fail [] K
taken n (t ∷ ts) K = take_next n t (t ∷ ts) ts K

unfoldable pub step : Next → List Token → List Frame → Move
step (nexts.Done k) ts K = given (nexts.Done k) ts K
step nexts.Value ts K = given nexts.Value ts K
step nexts.DeclrDone ts K = given nexts.DeclrDone ts K
step nexts.AnnotDone ts K = given nexts.AnnotDone ts K
step nexts.AtomDone ts K = given nexts.AtomDone ts K
step nexts.ItemDone ts K = given nexts.ItemDone ts K
step nexts.ValueDone ts K = given nexts.ValueDone ts K
step nexts.StmtDone ts K = given nexts.StmtDone ts K
step nexts.Operand ts K = taken nexts.Operand ts K
step (nexts.Declr g f) ts K = taken (nexts.Declr g f) ts K
step nexts.Annot ts K = taken nexts.Annot ts K
step nexts.Atom ts K = taken nexts.Atom ts K
step nexts.Stmt ts K = taken nexts.Stmt ts K
step n ts K = read_next n ts K

-- there is a next step
abbrev pub works : Next → Bool
works nexts.Fail = false
works nexts.End = false
works _ = true
