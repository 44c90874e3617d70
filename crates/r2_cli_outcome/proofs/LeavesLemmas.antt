-- What a call leaves, from what its first part came to and what its last part leaves.
use Rattle.std.proofs.Common.{◌≡◌, ◌≤◌, ◌++◌, ◌∷◌, [], ℕ, List, Result, Ok, Err, take, codes, sym, arith, subst}
use Rattle.r2_base.specs.Causes.{Rose}
use Rattle.r2_base.specs.Seen.{Store, Stream, OnlyReads}
use Rattle.r2_cli_outcome.specs.declared.plan.Plan.{Plan}
use Rattle.r2_cli_outcome.specs.declared.plan.End.{End}
use Rattle.r2_cli_outcome.specs.declared.status.Status.{Status}
use Rattle.r2_cli_outcome.specs.declared.status.Status.TheVariants.{ReadFault, NoMemory}
use Rattle.r2_cli_outcome.specs.World.{World, Later, world}
use Rattle.r2_cli_outcome.specs.Outcome.{Target, Write, Outcome, file, out, err, line_of}
use Rattle.r2_cli_outcome.specs.After.{After}
use Rattle.r2_cli_outcome.specs.Left as left
use Rattle.r2_cli_outcome.specs.Left.{Ends, Says, Leaves, faults_at}
use Rattle.r2_cli_outcome.specs.Finishing as finishing
use Rattle.r2_cli_outcome.specs.Finishing.{Finishes}
use Rattle.r2_cli_outcome.specs.Plans as plan
use Rattle.r2_cli_outcome.specs.Plans.{IsPlanned, outcome_of}
use Rattle.r2_cli_outcome.proofs.StageLemmas.{rose_from, rose_to}
use Rattle.r2_cli_outcome.proofs.AfterLemmas.{after_reads, after_then}

faults_from : (t : Target) (r s : Store) (o e : Stream) (b : World) → OnlyReads r s → Rose (faults_at t (world s o e)) (faults_at t b) → Rose (faults_at t (world r o e)) (faults_at t b)
faults_from (file name) r s o e b reads h = subst (λ (k : ℕ). Rose k b.files.write_faults) reads.write_faults h
faults_from out r s o e b reads h = h
faults_from err r s o e b reads h = h

ends_from : (answers : Outcome → Type 0) (p : Outcome) (r s : Store) (o e : Stream) (b : World) (done : List Write) (status : Status) (line : List ℕ) → OnlyReads r s → answers p
    → Ends (λ (q : Outcome). q ≡ p) (world s o e) b done status line → Ends answers (world r o e) b done status line
ends_from answers p r s o e b done status line reads is (left.whole {o = q} same) = left.whole {o = q} (subst answers (sym same) is)
ends_from answers p r s o e b done status line reads is (left.read_fault h) = left.read_fault (rose_from r.read_faults s.read_faults b.files.read_faults reads.later h)
ends_from answers p r s o e b done status line reads is (left.write_fault {o = q} {w = w} same at h) = left.write_fault {o = q} {w = w} (subst answers (sym same) is) at (faults_from w.to r s o e b reads h)
ends_from answers p r s o e b done status line reads is left.no_memory = left.no_memory
ends_from answers p r s o e b done status line reads is (left.no_memory_left {o = q} {w = w} same at) = left.no_memory_left {o = q} {w = w} (subst answers (sym same) is) at

after_from : (ws : List Write) (r s : Store) (o e : Stream) (b : World) → OnlyReads r s → After ws (world s o e) b → After ws (world r o e) b
after_from ws r s o e b reads after = after_then [] ws (world r o e) (world s o e) b (after_reads r s o e reads) after

says_from : (r s : Store) (o e : Stream) (b : World) (done : List Write) (status result : Status) (line : List ℕ) → OnlyReads r s → Says (world s o e) b done status line result → Says (world r o e) b done status line result
says_from r s o e b done status result line reads (left.whole_line after) = left.whole_line (after_from (done ++ record { to = err; text = line } ∷ []) r s o e b reads after)
says_from r s o e b done status result line reads (left.line_refused {n = n} le h after) = left.line_refused {n = n} le h (after_from (done ++ record { to = err; text = take n line } ∷ []) r s o e b reads after)
says_from r s o e b done status result line reads (left.line_cut {n = n} le after) = left.line_cut {n = n} le (after_from (done ++ record { to = err; text = take n line } ∷ []) r s o e b reads after)

leaves_from : (answers : Outcome → Type 0) (p : Outcome) (r s : Store) (o e : Stream) (b : World) (result : Status) → OnlyReads r s → answers p → Leaves (λ (q : Outcome). q ≡ p) (world s o e) b result
    → Leaves answers (world r o e) b result
leaves_from answers p r s o e b result reads is l = record {
  done = l.done;
  status = l.status;
  line = l.line;
  ends = ends_from answers p r s o e b l.done l.status l.line reads is l.ends;
  says = says_from r s o e b l.done l.status result l.line reads l.says;
}

-- the first part only reads, and the last part begins where it ended
pub leaves_by : (answers : Outcome → Type 0) (r s : Store) (o e : Stream) (b : World) (result : Status) (planned : Result Plan End) → OnlyReads r s → IsPlanned answers r.read_faults s.read_faults planned
    → Finishes (world s o e) b result planned → (s.read_faults ≤ b.files.read_faults) → Leaves answers (world r o e) b result
leaves_by answers r s o e b result (Ok p) reads (plan.whole is) (finishing.planned l) later = leaves_from answers (outcome_of p) r s o e b result reads is l
leaves_by answers r s o e b result (Err e2) reads (plan.refused {plan = p} is) (finishing.refusal l) later = leaves_from answers (outcome_of p) r s o e b result reads is l
leaves_by answers r s o e b result (Err e2) reads (plan.unread h) (finishing.unread says) later = record {
  done = [];
  status = ReadFault;
  line = line_of (codes "read fault");
  ends = left.read_fault (rose_to r.read_faults s.read_faults b.files.read_faults h later);
  says = says_from r s o e b [] ReadFault result (line_of (codes "read fault")) reads says;
}
leaves_by answers r s o e b result (Err e2) reads plan.no_memory (finishing.no_memory says) later = record {
  done = [];
  status = NoMemory;
  line = line_of (codes "no memory");
  ends = left.no_memory;
  says = says_from r s o e b [] NoMemory result (line_of (codes "no memory")) reads says;
}

pub later_by : (r s : Store) (o e : Stream) (b : World) → OnlyReads r s → Later (world s o e) b → Later (world r o e) b
later_by r s o e b reads l = record { reads = omega (arith, reads.later, l.reads); writes = omega (arith, reads.write_faults, l.writes); out = l.out; err = l.err }

-- outcomes that are outcomes of more

ends_more : (answers more : Outcome → Type 0) (a b : World) (done : List Write) (status : Status) (line : List ℕ) → ((o : Outcome) → answers o → more o) → Ends answers a b done status line → Ends more a b done status line
ends_more answers more a b done status line f (left.whole {o = o} is) = left.whole {o = o} (f o is)
ends_more answers more a b done status line f (left.read_fault h) = left.read_fault h
ends_more answers more a b done status line f (left.write_fault {o = o} {w = w} is at h) = left.write_fault {o = o} {w = w} (f o is) at h
ends_more answers more a b done status line f left.no_memory = left.no_memory
ends_more answers more a b done status line f (left.no_memory_left {o = o} {w = w} is at) = left.no_memory_left {o = o} {w = w} (f o is) at

pub leaves_more : (answers more : Outcome → Type 0) (a b : World) (result : Status) → ((o : Outcome) → answers o → more o) → Leaves answers a b result → Leaves more a b result
leaves_more answers more a b result f l = record { done = l.done; status = l.status; line = l.line; ends = ends_more answers more a b l.done l.status l.line f l.ends; says = l.says }
