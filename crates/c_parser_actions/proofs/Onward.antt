-- What holds of the tokens and of all that stand after one of them holds of those that a step leaves.
use Rattle.std.proofs.Common.{false, List, [], ◌∷◌}
use Rattle.c_lexer.specs.declared.token.Token.{Token}
use Rattle.c_syntax.specs.Levels.{begins_type, from_of}
use Rattle.c_parser_moves.specs.declared.frame.Target.TheVariants as targets
use Rattle.c_parser_moves.specs.declared.frame.Frame.{Frame}
use Rattle.c_parser_moves.specs.declared.frame.Next.{Next}
use Rattle.c_parser_moves.specs.declared.frame.Next.TheVariants as nx
use Rattle.c_parser_moves.specs.Marks.{mark_at, after_at, begin_of}
use Rattle.c_parser_moves.specs.Words.{take_specs}
use Rattle.c_parser_moves.proofs.Machine.{tail}
use Rattle.c_parser_moves.proofs.MachineDeclr.{is_top}
use Rattle.c_parser_moves.proofs.MachineSteps.{give_next, take_next, read_next, given, taken, step}
use Rattle.c_parser_actions.proofs.OnwardWords.{on_tail, on_specs}
use Rattle.c_parser_actions.proofs.OnwardExpr.{on_start, on_after, on_give, on_value}
use Rattle.c_parser_actions.proofs.OnwardDeclr.{on_declr, on_direct, on_declared, on_typed, on_targeted, on_placed, on_annotated, on_annot, on_annot_end, on_atom, on_atom_end, on_item_end}
use Rattle.c_parser_actions.proofs.OnwardSource.{on_initial, on_value_end, on_stmt, on_done, on_entry, on_first, on_test, on_last, on_member_end, on_tops}

module _ (P : List Token → Type 0) (none : P []) (following : (t : Token) (ts : List Token) → P (t ∷ ts) → P ts) where
  on_give_next : (n : Next) (o : Frame) (ts : List Token) (K : List Frame) → P ts → P (give_next n o ts K).rest
  unfolding give_next
  on_give_next (nx.Done k) o ts K h = on_give P none following o k ts K h
  on_give_next nx.Value o ts K h = on_value P none following o ts K h
  on_give_next nx.DeclrDone o ts K h = on_declared P none following o ts K h
  on_give_next nx.AnnotDone o ts K h = on_annot_end P none following o ts K h
  on_give_next nx.AtomDone o ts K h = on_atom_end P none following o ts K h
  on_give_next nx.ItemDone o ts K h = on_item_end P none following o ts K h
  on_give_next nx.ValueDone o ts K h = on_value_end P none following o ts K h
  on_give_next nx.StmtDone o ts K h = on_done P none following o ts K h
  on_give_next _ o ts K h = h

  on_given : (n : Next) (ts : List Token) (K : List Frame) → P ts → P (given n ts K).rest
  on_given n ts [] h = h
  on_given n ts (o ∷ K) h = on_give_next n o ts K h

  on_take_next : (n : Next) (t : Token) (all ts : List Token) (K : List Frame) → P all → P ts → P (take_next n t all ts K).rest
  unfolding take_next
  on_take_next nx.Operand t all ts K h k = on_start P none following t.kind t.from ts K k
  on_take_next (nx.Declr g f) t all ts K h k = on_declr P none following t.kind g f t.from all ts K h k
  on_take_next nx.Annot t all ts K h k = on_annot P none following t.kind t.from ts K k
  on_take_next nx.Atom t all ts K h k = on_atom P none following t.kind ts K k
  on_take_next nx.Stmt t all ts K h k = on_stmt P none following (begin_of t.kind) t.from all ts K h k
  on_take_next _ t all ts K h k = k

  on_taken : (n : Next) (ts : List Token) (K : List Frame) → P ts → P (taken n ts K).rest
  on_taken n [] K h = h
  on_taken n (t ∷ ts) K h = on_take_next n t (t ∷ ts) ts K h (following t ts h)

  on_read : (n : Next) (ts : List Token) (K : List Frame) → P ts → P (read_next n ts K).rest
  unfolding read_next
  on_read (nx.After f) ts K h = on_after P none following (after_at ts) f ts (tail ts) K h (on_tail P none following ts h)
  on_read nx.TypeName ts K h = on_typed P none following (take_specs false ts) (from_of ts) K (on_specs P none following false ts h)
  on_read nx.Direct ts K h = on_direct P none following (mark_at ts) (from_of ts) ts (tail ts) K h (on_tail P none following ts h)
  on_read nx.Param ts K h = on_annotated P none following (mark_at ts) (targets.Param (from_of ts)) ts (tail ts) K h (on_tail P none following ts h)
  on_read (nx.Specs g) ts K h = on_targeted P none following (take_specs (is_top g) ts) g K (on_specs P none following (is_top g) ts h)
  on_read (nx.Names p) ts K h = on_placed P none following (take_specs false ts) p K (on_specs P none following false ts h)
  on_read nx.Item ts K h = h
  on_read nx.Initial ts K h = on_initial P none following (mark_at ts) (from_of ts) ts (tail ts) K h (on_tail P none following ts h)
  on_read nx.Entry ts K h = on_entry P none following (mark_at ts) (begins_type ts) ts (tail ts) K h (on_tail P none following ts h)
  on_read (nx.ForFirst f) ts K h = on_first P none following (mark_at ts) (begins_type ts) f ts (tail ts) K h (on_tail P none following ts h)
  on_read (nx.ForTest f) ts K h = on_test P none following (mark_at ts) f ts (tail ts) K h (on_tail P none following ts h)
  on_read (nx.ForStep f) ts K h = on_last P none following (mark_at ts) f ts (tail ts) K h (on_tail P none following ts h)
  on_read nx.MemberEnd ts K h = on_member_end P none following (mark_at ts) ts (tail ts) K h (on_tail P none following ts h)
  on_read nx.Top ts K h = on_tops P none following ts K h
  on_read _ ts K h = h

  pub on_step : (n : Next) (ts : List Token) (K : List Frame) → P ts → P (step n ts K).rest
  unfolding step
  on_step (nx.Done k) ts K h = on_given (nx.Done k) ts K h
  on_step nx.Value ts K h = on_given nx.Value ts K h
  on_step nx.DeclrDone ts K h = on_given nx.DeclrDone ts K h
  on_step nx.AnnotDone ts K h = on_given nx.AnnotDone ts K h
  on_step nx.AtomDone ts K h = on_given nx.AtomDone ts K h
  on_step nx.ItemDone ts K h = on_given nx.ItemDone ts K h
  on_step nx.ValueDone ts K h = on_given nx.ValueDone ts K h
  on_step nx.StmtDone ts K h = on_given nx.StmtDone ts K h
  on_step nx.Operand ts K h = on_taken nx.Operand ts K h
  on_step (nx.Declr g f) ts K h = on_taken (nx.Declr g f) ts K h
  on_step nx.Annot ts K h = on_taken nx.Annot ts K h
  on_step nx.Atom ts K h = on_taken nx.Atom ts K h
  on_step nx.Stmt ts K h = on_taken nx.Stmt ts K h
  on_step n ts K h = on_read n ts K h
