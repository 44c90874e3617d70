-- What the last part of a call leaves.
use Rattle.std.proofs.Common.{◌≡◌, ◌≤◌, ◌∷◌, [], ℕ, List, Result, Ok, Err, length, take, map, codes, sym, ◌∙◌, refl, arith, subst, append-nil}
use Rattle.r2_base.specs.Causes.{Rose, IsWriteCause}
use Rattle.r2_base.specs.Seen.{Store, Stream}
use Rattle.r2_base.specs.Sinks.{TellsGrowth}
use Rattle.r2_base.specs.declared.fault.Fault.{Fault}
use Rattle.r2_base.specs.declared.fault.Fault.TheVariants.{Failed, Missing, Memory}
use Rattle.r2_cli_outcome.specs.declared.plan.End.{End}
use Rattle.r2_cli_outcome.specs.declared.plan.End.TheVariants as end
use Rattle.r2_cli_outcome.specs.declared.plan.Plan.{Plan}
use Rattle.r2_cli_outcome.specs.declared.plan.Write as code
use Rattle.r2_cli_outcome.specs.declared.status.Status.{Status}
use Rattle.r2_cli_outcome.specs.declared.status.Status.TheVariants.{ReadFault, WriteFault, NoMemory}
use Rattle.r2_cli_outcome.specs.World.{World, Later, world}
use Rattle.r2_cli_outcome.specs.Outcome.{Target, Write, Outcome, file, out, err, line_of}
use Rattle.r2_cli_outcome.specs.After.{After, Adds}
use Rattle.r2_cli_outcome.specs.Left as left
use Rattle.r2_cli_outcome.specs.Left.{Says, Leaves, faults_at}
use Rattle.r2_cli_outcome.specs.Finishing as finishing
use Rattle.r2_cli_outcome.specs.Finishing.{Finishes, Said, status_for, line_for}
use Rattle.r2_cli_outcome.specs.Sending as sending
use Rattle.r2_cli_outcome.specs.Sending.{Stops}
use Rattle.r2_cli_outcome.specs.Plans.{outcome_of, write_of}
use Rattle.r2_cli_outcome.proofs.StageLemmas.{rose_from, rose_to}
use Rattle.r2_cli_outcome.proofs.AfterLemmas.{after_none, after_then, adds_none, adds_all, adds_prefix}

-- a line

pub said_nothing : (line : List ℕ) (status : Status) (a : Stream) → length line ≡ 0 → Said line status a a status
said_nothing [] status a e = finishing.in_full (adds_none a.given)
said_nothing (x ∷ xs) status a e = absurd (omega arith)

pub said_all : (line : List ℕ) (status : Status) (old new : Stream) → TellsGrowth {T = Unit {0}} old.given new.given (Ok tt) line → Said line status old new status
said_all line status old new g = finishing.in_full (adds_all old.given new.given line g)

pub said_fault : (line : List ℕ) (status result : Status) (fault : Fault) (old new : Stream) → result ≡ status_for fault → TellsGrowth {T = Unit {0}} old.given new.given (Err fault) line
    → IsWriteCause old.faults new.faults fault → Said line status old new result
said_fault line status result Failed old new is g cause = let p = adds_prefix old.given new.given Failed line g in
    subst (λ (s : Status). Said line status old new s) (sym is) (finishing.refused {n = p.0} p.1 cause p.2)
said_fault line status result Missing old new is g cause = absurd cause
said_fault line status result Memory old new is g cause = let p = adds_prefix old.given new.given Memory line g in
    subst (λ (s : Status). Said line status old new s) (sym is) (finishing.cut {n = p.0} p.1 p.2)

line_after : (f : Store) (o e d : Stream) (text : List ℕ) → Adds e.given d.given text → After (record { to = err; text = text } ∷ []) (world f o e) (world f o d)
line_after f o e d text adds = record { told = λ t. t; files = λ t n. refl; out = adds_none o.given; err = subst (λ (w : List ℕ). Adds e.given d.given w) (sym (append-nil text)) adds }

pub says_line : (a : World) (f : Store) (o e d : Stream) (done : List Write) (line : List ℕ) (status result : Status) → a.err.faults ≤ e.faults → After done a (world f o e) → Said line status e d result
    → Says a (world f o d) done status line result
says_line a f o e d done line status result le after (finishing.in_full adds) = left.whole_line (after_then done (record { to = err; text = line } ∷ []) a (world f o e) (world f o d) after (line_after f o e d line adds))
says_line a f o e d done line status result le after (finishing.refused {n = n} most rises adds) =
    left.line_refused {n = n} most (rose_from a.err.faults e.faults d.faults le rises) (after_then done (record { to = err; text = take n line } ∷ []) a (world f o e) (world f o d) after (line_after f o e d (take n line) adds))
says_line a f o e d done line status result le after (finishing.cut {n = n} most adds) =
    left.line_cut {n = n} most (after_then done (record { to = err; text = take n line } ∷ []) a (world f o e) (world f o d) after (line_after f o e d (take n line) adds))

-- the writes of a plan, and its line

pub leaves_whole : (p : Outcome) (a : World) (f : Store) (o e d : Stream) (result : Status) → Later a (world f o e) → After p.writes a (world f o e) → Said p.line p.status e d result → Leaves (λ (q : Outcome). q ≡ p) a (world f o d) result
leaves_whole p a f o e d result later after said = record {
  done = p.writes;
  status = p.status;
  line = p.line;
  ends = left.whole {o = p} refl;
  says = says_line a f o e d p.writes p.line p.status result later.err after said;
}

faults_same : (t : Target) (a : World) (f : Store) (o e d : Stream) → e.faults ≤ d.faults → Rose (faults_at t a) (faults_at t (world f o e)) → Rose (faults_at t a) (faults_at t (world f o d))
faults_same (file name) a f o e d le r = r
faults_same out a f o e d le r = r
faults_same err a f o e d le r = rose_to a.err.faults e.faults d.faults r le

pub leaves_stopped : (p : Outcome) (fault : Fault) (a : World) (f : Store) (o e d : Stream) (result : Status) → Later a (world f o e) → e.faults ≤ d.faults → (fault ≡ Memory → ⊥) → Stops p.writes a (world f o e) fault
    → Said (line_of (codes "write fault")) WriteFault e d result → Leaves (λ (q : Outcome). q ≡ p) a (world f o d) result
leaves_stopped p fault a f o e d result later le not (sending.failed {w = w} {done = done} is s r after) said = record {
  done = done;
  status = WriteFault;
  line = line_of (codes "write fault");
  ends = left.write_fault {o = p} {w = w} refl s (faults_same w.to a f o e d le r);
  says = says_line a f o e d done (line_of (codes "write fault")) WriteFault result later.err after said;
}
leaves_stopped p fault a f o e d result later le not (sending.memory is s after) said = absurd (not is)

pub leaves_memory : (p : Outcome) (fault : Fault) (a : World) (f : Store) (o e d : Stream) (result : Status) → Later a (world f o e) → Stops p.writes a (world f o e) fault
    → Said (line_of (codes "no memory")) NoMemory e d result → Leaves (λ (q : Outcome). q ≡ p) a (world f o d) result
leaves_memory p fault a f o e d result later (sending.failed {w = w} {done = done} is s r after) said = record {
  done = done;
  status = NoMemory;
  line = line_of (codes "no memory");
  ends = left.no_memory_left {o = p} {w = w} refl s;
  says = says_line a f o e d done (line_of (codes "no memory")) NoMemory result later.err after said;
}
leaves_memory p fault a f o e d result later (sending.memory {w = w} {done = done} is s after) said = record {
  done = done;
  status = NoMemory;
  line = line_of (codes "no memory");
  ends = left.no_memory_left {o = p} {w = w} refl s;
  says = says_line a f o e d done (line_of (codes "no memory")) NoMemory result later.err after said;
}

stops_by : (p : Outcome) (fault : Fault) (a : World) (f : Store) (o e d : Stream) (result : Status) → Later a (world f o e) → e.faults ≤ d.faults → Stops p.writes a (world f o e) fault
    → Said (line_for fault) (status_for fault) e d result → Leaves (λ (q : Outcome). q ≡ p) a (world f o d) result
stops_by p Failed a f o e d result later le stops said = leaves_stopped p Failed a f o e d result later le (λ (k : Failed ≡ Memory). cc) stops said
stops_by p Missing a f o e d result later le stops said = leaves_stopped p Missing a f o e d result later le (λ (k : Missing ≡ Memory). cc) stops said
stops_by p Memory a f o e d result later le stops said = leaves_memory p Memory a f o e d result later stops said

pub leaves_refused : (p : Outcome) (fault : Fault) (status result : Status) (line : List ℕ) (a : World) (f : Store) (o e d : Stream) → Later a (world f o e) → e.faults ≤ d.faults → Stops p.writes a (world f o e) fault
    → status ≡ status_for fault → line ≡ line_for fault → Said line status e d result → Leaves (λ (q : Outcome). q ≡ p) a (world f o d) result
leaves_refused p fault status result line a f o e d later le stops is it said =
    stops_by p fault a f o e d result later le stops
    (subst (λ (l : List ℕ). Said l (status_for fault) e d result) it (subst (λ (s : Status). Said line s e d result) is said))

pub later_said : (a : World) (f : Store) (o e d : Stream) → Later a (world f o e) → e.faults ≤ d.faults → Later a (world f o d)
later_said a f o e d l le = record { reads = l.reads; writes = l.writes; out = l.out; err = omega (arith, l.err, le) }

-- the same of the code's plan

pub whole_slice : (p : Plan) (writes : List code.Write) (line : List ℕ) (a : World) (f : Store) (o e d : Stream) (result : Status) → writes ≡ p.writes.items → line ≡ p.line.items → Later a (world f o e)
    → After (map write_of writes) a (world f o e) → Said line p.status e d result → Leaves (λ (q : Outcome). q ≡ outcome_of p) a (world f o d) result
whole_slice p writes line a f o e d result same is later after said =
    leaves_whole (outcome_of p) a f o e d result later
    (subst (λ (ws : List code.Write). After (map write_of ws) a (world f o e)) same after)
    (subst (λ (l : List ℕ). Said l p.status e d result) is said)

pub refused_slice : (p : Plan) (writes : List code.Write) (fault : Fault) (status result : Status) (line text : List ℕ) (a : World) (f : Store) (o e d : Stream) → writes ≡ p.writes.items → Later a (world f o e) → e.faults ≤ d.faults
    → Stops (map write_of writes) a (world f o e) fault → status ≡ status_for fault → line ≡ text → text ≡ line_for fault → Said line status e d result → Leaves (λ (q : Outcome). q ≡ outcome_of p) a (world f o d) result
refused_slice p writes fault status result line text a f o e d same later le stops is it at said =
    leaves_refused (outcome_of p) fault status result line a f o e d later le (subst (λ (ws : List code.Write). Stops (map write_of ws) a (world f o e) fault) same stops) is (it ∙ at) said

-- nothing was written but the line
pub says_now : (a : World) (d : Stream) (line text : List ℕ) (status result : Status) → text ≡ line → Said text status a.err d result → Says a (world a.files a.out d) [] status line result
says_now a d line text status result e said = says_line a a.files a.out a.err d [] line status result (omega arith) (after_none a) (subst (λ (l : List ℕ). Said l status a.err d result) e said)

pub later_line : (a : World) (d : Stream) → a.err.faults ≤ d.faults → Later a (world a.files a.out d)
later_line a d le = record { reads = omega arith; writes = omega arith; out = omega arith; err = le }

-- what was planned, and what is left of it

pub in_planned : (a b : World) (result : Status) (planned : Result Plan End) (plan : Plan) → planned ≡ Ok plan → Leaves (λ (o : Outcome). o ≡ outcome_of plan) a b result → Finishes a b result planned
in_planned a b result planned plan e l = subst (λ (p : Result Plan End). Finishes a b result p) (sym e) (finishing.planned l)

pub in_end : (a b : World) (result : Status) (planned : Result Plan End) (e : End) → planned ≡ Err e → Finishes a b result (Err e) → Finishes a b result planned
in_end a b result planned e is f = subst (λ (p : Result Plan End). Finishes a b result p) (sym is) f

same_end : (a b : World) (result : Status) (e d : End) → e ≡ d → Finishes a b result (Err d) → Finishes a b result (Err e)
same_end a b result e d is f = subst (λ (k : End). Finishes a b result (Err k)) (sym is) f

pub in_refusal : (a b : World) (result : Status) (e : End) (plan : Plan) → e ≡ end.Planned plan → Leaves (λ (o : Outcome). o ≡ outcome_of plan) a b result → Finishes a b result (Err e)
in_refusal a b result e plan is l = same_end a b result e (end.Planned plan) is (finishing.refusal l)

pub in_read_fault : (a b : World) (result : Status) (e : End) → e ≡ end.ReadFault → Says a b [] ReadFault (line_of (codes "read fault")) result → Finishes a b result (Err e)
in_read_fault a b result e is says = same_end a b result e end.ReadFault is (finishing.unread says)

pub in_no_memory : (a b : World) (result : Status) (e : End) → e ≡ end.NoMemory → Says a b [] NoMemory (line_of (codes "no memory")) result → Finishes a b result (Err e)
in_no_memory a b result e is says = same_end a b result e end.NoMemory is (finishing.no_memory says)
