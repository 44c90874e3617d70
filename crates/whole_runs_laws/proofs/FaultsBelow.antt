-- Below the cut a fault that the tests find is met.
use Rattle.std.proofs.Common.{◌≡◌, ◌⊎◌, inl, inr, ⊎_elim, ℕ, zero, suc, Bool, true, false, ◌&&◌, ◌||◌, not, eqb, List, [], ◌∷◌, length, Option, Some, None, refl, sym, ap, ◌∙◌, subst, eq-eqb}
use Rattle.std.proofs.lemmas.Bool.{and_from, and_parts, true≢false}
use Rattle.marks.specs.declared.side.Side.TheVariants.{Replay, System}
use Rattle.marks.specs.declared.fault.FaultKind.{FaultKind}
use Rattle.marks.specs.declared.fault.FaultKind.TheVariants.{Divide, NotLive, ReadOnly, StackFull}
use Rattle.marks.specs.declared.breach.BreachKind.{BreachKind}
use Rattle.marks.specs.Kinds.{fault_number}
use Rattle.marks.specs.Places.{is_constant}
use Rattle.marks.specs.declared.range.Range.{Range}
use Rattle.marks.specs.Ranges.{range, within, covers}
use Rattle.marks.specs.Marks.{Access, Nowhere, Reading, Writing, Freeing, Act, Fault, Mark}
use Rattle.marks.specs.Bytes.{access_writes}
use Rattle.marks.specs.Wants.{Want, Outside, Turns, Loads, Stores, Enters, Leaves, Allocs, Frees, Calls, Gives, Returns, CallsBack, UpReturns, Steps, Fails, Stopped, stopped_if, answer_to}
use Rattle.marks.specs.Wants as wants
use Rattle.c_builtins.specs.declared.builtin.Builtin.{Builtin}
use Rattle.c_builtins.specs.declared.builtin.Builtin.TheVariants as builtins
use Rattle.c_code.specs.Machine.{first}
use Rattle.c_code.specs.MarkLists.{same_side, reply}
use Rattle.replay_runs.specs.Checks.{Checks, Done, Finding, FaultFound, BreachFound, Finds, mode_checks, indirect_check}
use Rattle.whole_runs.specs.World.{World, interface, interface_on}
use Rattle.whole_runs.specs.Sides.{events_by}
use Rattle.whole_runs.specs.Outcomes.{builtin_of}
use Rattle.whole_runs.specs.Below.{touch_checks, read_checks, Given, ByPool, Says, NoMore, given, Target, To, Nowhere as Aside, Missing, targets}
use Rattle.whole_runs.specs.Tests.{is_back, full_check, free_checks, piece_checks, external_checks, step_checks, back_checks, checks_below, tests}
use Rattle.whole_runs.specs.Steps.{Picked, first_read, fault_below}
use Rattle.whole_runs_laws.specs.Exists.{HasFault, FaultsBelowCanBeMet}
use Rattle.whole_runs_laws.proofs.Lasts.{fault_breach}

pub no_breach : {P : Type 0} {kind : FaultKind} {b : BreachKind} {x : ℕ} {o : Option ℕ} → FaultFound kind ≡ BreachFound b x o → P
no_breach e = absurd (fault_breach e)

kind_of : Finding → FaultKind
kind_of (FaultFound kind) = kind
kind_of (BreachFound b x o) = Divide

same_found : (k l : FaultKind) → FaultFound k ≡ FaultFound l → k ≡ l
unfolding kind_of
same_found k l e = ap kind_of e

abbrev func_in : ℕ → Want → ℕ
func_in d (Steps i f args) = f
func_in d v = d

abbrev args_in : List ℕ → Want → List ℕ
args_in d (Steps i f args) = args
args_in d v = d

abbrev is_step : Want → Bool
is_step (Steps i f args) = true
is_step want = false

-- what is found at bytes: they aren't live, or they are constants that would be written
data AtBytes (write : Bool) (kind : FaultKind) : Type 0 where
  dead : kind ≡ NotLive → AtBytes write kind
  constant : write ≡ true → kind ≡ ReadOnly → AtBytes write kind

is_off : (b : Bool) → not b ≡ true → b ≡ false
is_off true e = absurd (true≢false (sym e))
is_off false e = refl

-- no constant is written by an access that is stopped
no_constant : (a : Access) (x : ℕ) → access_writes a x ≡ true → is_constant x ≡ false
no_constant (Writing r) x h = is_off (is_constant x) (and_parts (covers r x) (not (is_constant x)) h).1
no_constant (Freeing at) x h = is_off (is_constant x) (and_parts (within at 1 x) (not (is_constant x)) h).1
no_constant (Reading r) x h = absurd (true≢false (sym h))
no_constant Nowhere x h = absurd (true≢false (sym h))

same_range : (r : Range) → (eqb r.addr r.addr && eqb r.len r.len) ≡ true
same_range r = and_from _ _ (eq-eqb r.addr r.addr refl) (eq-eqb r.len r.len refl)

-- ---- each is answered by its fault

load_answer : (o : Option ℕ) (at n : ℕ) → answer_to (Loads o at n) (Fault NotLive false [] [] (Reading (range at n))) ≡ Some Stopped
unfolding answer_to
load_answer o at n = ap stopped_if (same_range (range at n))

dead_answer : (o : Option ℕ) (at : ℕ) (bytes : List ℕ) → answer_to (Stores o at bytes) (Fault NotLive false [] [] (Writing (range at (length bytes)))) ≡ Some Stopped
unfolding answer_to
dead_answer o at bytes = ap (λ b. stopped_if (b || false)) (same_range (range at (length bytes)))

constant_answer : (o : Option ℕ) (at : ℕ) (bytes : List ℕ) → answer_to (Stores o at bytes) (Fault ReadOnly false [] [] (Writing (range at (length bytes)))) ≡ Some Stopped
unfolding answer_to
constant_answer o at bytes = ap stopped_if (same_range (range at (length bytes)))

full_answer : (i : Bool) (f : ℕ) (args bytes : List ℕ) → answer_to (Enters i f args bytes) (Fault StackFull false [] [] Nowhere) ≡ Some Stopped
unfolding answer_to
full_answer i f args bytes = refl

back_answer : (f : ℕ) (args bytes : List ℕ) → answer_to (CallsBack f args bytes) (Fault StackFull false [] [] Nowhere) ≡ Some Stopped
unfolding answer_to
back_answer f args bytes = refl

dead_step : (i : Bool) (f : ℕ) (args : List ℕ) (crosses : Bool) (a : Access) → answer_to (Steps i f args) (Fault NotLive crosses [] [] a) ≡ Some Stopped
unfolding answer_to
dead_step i f args true a = refl
dead_step i f args false a = refl

constant_step : (i : Bool) (f : ℕ) (args : List ℕ) (a : Access) → answer_to (Steps i f args) (Fault ReadOnly true [] [] a) ≡ Some Stopped
unfolding answer_to
constant_step i f args a = refl

fail_answer : (k : FaultKind) → answer_to (Fails k) (Fault k false [] [] Nowhere) ≡ Some Stopped
unfolding answer_to
fail_answer k = ap (λ b. stopped_if (b && true)) (eq-eqb (fault_number k) (fault_number k) refl)

module _ (w : World) (past : List Mark) (t : ℕ) where
  -- ---- what the tests find

  touch_finds : (write : Bool) (r : Range) (kind : FaultKind) (cs : Checks) → Finds (touch_checks w past t write r cs) (FaultFound kind) → AtBytes write kind ⊎ Finds cs (FaultFound kind)
  touch_finds write r kind cs (inl h) = no_breach h.2
  touch_finds write r kind cs (inr (n, inl h)) = inl (dead (same_found kind NotLive h.2))
  touch_finds write r kind cs (inr (n, inr (m, inl h))) = inl (constant h.1.0.1 (same_found kind ReadOnly h.2))
  touch_finds write r kind cs (inr (n, inr (m, inr h))) = inr h.1

  reads_find : (rs : List Range) (kind : FaultKind) → Finds (read_checks w past t rs) (FaultFound kind) → kind ≡ NotLive
  reads_find [] kind h = absurd h
  reads_find (r ∷ rs) kind h = ⊎_elim (λ b. at_read b) (λ k. reads_find rs kind k) (touch_finds false r kind (read_checks w past t rs) h)
    where
      at_read : AtBytes false kind → kind ≡ NotLive
      at_read (dead k) = k
      at_read (constant e k) = absurd (true≢false (sym e))

  pieces_find : (xs : List Target) (bs : List (List ℕ)) (kind : FaultKind) → Finds (piece_checks w past t xs bs) (FaultFound kind) → AtBytes true kind
  pieces_find [] bs kind h = absurd h
  pieces_find (x ∷ xs) [] kind h = absurd h
  pieces_find (To r ∷ xs) (b ∷ bs) kind (inl h) = dead (same_found kind NotLive h.2)
  pieces_find (To r ∷ xs) (b ∷ bs) kind (inr h) = ⊎_elim (λ z. z) (λ k. pieces_find xs bs kind k) (touch_finds true (range r.addr (length b)) kind (piece_checks w past t xs bs) h.1)
  pieces_find (Aside ∷ xs) (b ∷ bs) kind h = pieces_find xs bs kind h
  pieces_find (Missing ∷ xs) (b ∷ bs) kind (inl h) = dead (same_found kind NotLive h.2)
  pieces_find (Missing ∷ xs) (b ∷ bs) kind (inr h) = pieces_find xs bs kind h.1

  external_finds : (f : ℕ) (args : List ℕ) (g : Given) (kind : FaultKind) → Finds (external_checks w past t f args g) (FaultFound kind) → AtBytes true kind
  external_finds f args ByPool kind h = absurd h
  external_finds f args NoMore kind h = absurd h
  external_finds f args (Says v pieces) kind h = pieces_find (targets w System past f args v) pieces kind h

  free_finds : (at : ℕ) (kind : FaultKind) → Finds (free_checks w past at) (FaultFound kind) → kind ≡ NotLive
  free_finds zero kind h = absurd h
  free_finds (suc a) kind (inl h) = no_breach h.2
  free_finds (suc a) kind (inr (n, inl h)) = same_found kind NotLive h.2
  free_finds (suc a) kind (inr (n, inr h)) = absurd h.1

  full_finds : (size : ℕ) (kind : FaultKind) → Finds (full_check w past t size) (FaultFound kind) → kind ≡ StackFull
  full_finds size kind (inl h) = same_found kind StackFull h.2
  full_finds size kind (inr h) = absurd h.1

  mode_finds : (f : ℕ) (kind : FaultKind) (cs : Checks) → Finds (mode_checks (interface w) System (f ∷ []) cs) (FaultFound kind) → Finds cs (FaultFound kind)
  mode_finds f kind cs (inl h) = no_breach h.2
  mode_finds f kind cs (inr h) = h.1

  indirect_finds : (i : Bool) (f : ℕ) (kind : FaultKind) (cs : Checks) → Finds (indirect_check (interface w) i System f cs) (FaultFound kind) → Finds cs (FaultFound kind)
  indirect_finds true f kind cs h = mode_finds f kind cs h
  indirect_finds false f kind cs h = h

module _ (w : World) (past : List Mark) (s : Picked w past) (on : s.side ≡ System) where
  abbrev Met : FaultKind → Type 0
  Met kind = HasFault w past s kind

  -- the mark of a fault
  abbrev at_fault : FaultKind → Bool → Access → Mark
  at_fault k crosses a = record { thread = s.thread; side = System; index = events_by w s.thread past; act = Fault k crosses [] [] a }

  stops : (k : FaultKind) (crosses : Bool) (a : Access) → answer_to s.want (Fault k crosses [] [] a) ≡ Some Stopped → reply s.side s.want (at_fault k crosses a) ≡ Some Stopped
  unfolding reply
  stops k crosses a e = subst (λ d. reply d s.want (at_fault k crosses a) ≡ Some Stopped) (sym on) e

  not_above : System ≡ Replay → ⊥
  not_above e = true≢false (ap (λ d. same_side d System) e)

  meets : (want : Want) → s.want ≡ want → (k : FaultKind) (crosses : Bool) (a : Access) → answer_to want (Fault k crosses [] [] a) ≡ Some Stopped → ((i : Bool) (f : ℕ) (args : List ℕ) → want ≡ Steps i f args → Fault k crosses [] [] a ≡ fault_below w k f args (builtin_of f)) → Met k
  meets want is k crosses a e b = record {
    mark = at_fault k crosses a;
    met = record {
      mark = record { of_thread = refl; index = refl; above = λ z. absurd (not_above z) };
      stops = stops k crosses a (ap (λ v. answer_to v (Fault k crosses [] [] a)) is ∙ e);
      kind_is = refl;
      read_only = λ x h. no_constant a x h;
      below = λ z i f args q. b i f args (sym is ∙ q);
    };
  }

  -- of what isn't a builtin or external
  no_step : (want : Want) → is_step want ≡ false → {P : Type 0} → (i : Bool) (f : ℕ) (args : List ℕ) → want ≡ Steps i f args → P
  no_step want n i f args e = absurd (true≢false (sym (ap is_step e) ∙ n))

  loads : (o : Option ℕ) (at n : ℕ) (kind : FaultKind) → s.want ≡ Loads o at n → AtBytes false kind → Met kind
  loads o at n kind is (dead k) = subst Met (sym k) (meets (Loads o at n) is NotLive false (Reading (range at n)) (load_answer o at n) (λ i f args e. no_step (Loads o at n) refl i f args e))
  loads o at n kind is (constant e k) = absurd (true≢false (sym e))

  stores : (o : Option ℕ) (at : ℕ) (bytes : List ℕ) (kind : FaultKind) → s.want ≡ Stores o at bytes → AtBytes true kind → Met kind
  stores o at bytes kind is (dead k) = subst Met (sym k) (meets (Stores o at bytes) is NotLive false (Writing (range at (length bytes))) (dead_answer o at bytes) (λ i f args e. no_step (Stores o at bytes) refl i f args e))
  stores o at bytes kind is (constant e k) = subst Met (sym k) (meets (Stores o at bytes) is ReadOnly false (Writing (range at (length bytes))) (constant_answer o at bytes) (λ i f args e. no_step (Stores o at bytes) refl i f args e))

  enters : (i : Bool) (f : ℕ) (args bytes : List ℕ) (kind : FaultKind) → s.want ≡ Enters i f args bytes → kind ≡ StackFull → Met kind
  enters i f args bytes kind is k = subst Met (sym k) (meets (Enters i f args bytes) is StackFull false Nowhere (full_answer i f args bytes) (λ j g bs e. no_step (Enters i f args bytes) refl j g bs e))

  calls_back : (f : ℕ) (args bytes : List ℕ) (kind : FaultKind) → s.want ≡ CallsBack f args bytes → (back : Bool) → Finds (back_checks w past s.thread f bytes back) (FaultFound kind) → Met kind
  calls_back f args bytes kind is true h = absurd h
  calls_back f args bytes kind is false h = subst Met (sym (full_finds w past s.thread (length bytes) kind (mode_finds w past s.thread f kind (full_check w past s.thread (length bytes)) h))) (meets (CallsBack f args bytes) is StackFull false Nowhere (back_answer f args bytes) (λ j g bs e. no_step (CallsBack f args bytes) refl j g bs e))

  fails : (k kind : FaultKind) → s.want ≡ Fails k → kind ≡ k → Met kind
  fails k kind is e = subst Met (sym e) (meets (Fails k) is k false Nowhere (fail_answer k) (λ i f args q. no_step (Fails k) refl i f args q))

  -- the fault of a builtin or external
  step_act : (k : FaultKind) (a : Act) (f : ℕ) (args : List ℕ) (b : Option Builtin) → builtin_of f ≡ b → a ≡ fault_below w k f args b → (i j : Bool) (g : ℕ) (bs : List ℕ) → Steps i f args ≡ Steps j g bs → a ≡ fault_below w k g bs (builtin_of g)
  step_act k a f args b is e i j g bs q = e ∙ (ap (fault_below w k f args) (sym is) ∙ ap (λ v. fault_below w k (func_in f v) (args_in args v) (builtin_of (func_in f v))) q)

  steps : (i : Bool) (f : ℕ) (args : List ℕ) (kind : FaultKind) → s.want ≡ Steps i f args → (b : Option Builtin) → builtin_of f ≡ b → Finds (step_checks w past s.thread f args b) (FaultFound kind) → Met kind
  steps i f args kind is (Some builtins.Malloc) b h = absurd h
  steps i f args kind is (Some builtins.Spawn) b h = absurd h
  steps i f args kind is (Some builtins.Join) b h = absurd h
  steps i f args kind is (Some builtins.Lock) b h = absurd h
  steps i f args kind is (Some builtins.Unlock) b h = absurd h
  steps i f args kind is (Some builtins.Free) b h =
      subst Met (sym (free_finds w past s.thread (first args) kind h)) (meets (Steps i f args) is NotLive false (Freeing (first args)) (dead_step i f args false (Freeing (first args))) (step_act NotLive (Fault NotLive false [] [] (Freeing (first args))) f args (Some builtins.Free) b refl i))
  steps i f args kind is (Some builtins.Print) b h =
      let at : Access = first_read ((interface_on w System f).ins f args) in
      subst Met (sym (reads_find w past s.thread ((interface_on w System f).ins f args) kind h)) (meets (Steps i f args) is NotLive false at (dead_step i f args false at) (step_act NotLive (Fault NotLive false [] [] at) f args (Some builtins.Print) b refl i))
  steps i f args kind is None b h = at_piece (external_finds w past s.thread f args (given w past s.thread f args) kind h)
    where
      at_piece : AtBytes true kind → Met kind
      at_piece (dead k) = subst Met (sym k) (meets (Steps i f args) is NotLive true Nowhere (dead_step i f args true Nowhere) (step_act NotLive (Fault NotLive true [] [] Nowhere) f args None b refl i))
      at_piece (constant e k) = subst Met (sym k) (meets (Steps i f args) is ReadOnly true Nowhere (constant_step i f args Nowhere) (step_act ReadOnly (Fault ReadOnly true [] [] Nowhere) f args None b refl i))

  by_want : (want : Want) (kind : FaultKind) → s.want ≡ want → Finds (checks_below w past s.thread want) (FaultFound kind) → Met kind
  by_want (Loads o at n) kind is h = ⊎_elim (λ z. loads o at n kind is z) (λ z. absurd z) (touch_finds w past s.thread false (range at n) kind Done h)
  by_want (Stores o at bytes) kind is h = ⊎_elim (λ z. stores o at bytes kind is z) (λ z. absurd z) (touch_finds w past s.thread true (range at (length bytes)) kind Done h)
  by_want (Enters i f args bytes) kind is h = enters i f args bytes kind is (full_finds w past s.thread (length bytes) kind (indirect_finds w past s.thread i f kind (full_check w past s.thread (length bytes)) h))
  by_want (CallsBack f args bytes) kind is h = calls_back f args bytes kind is (is_back w past f) h
  by_want (Steps i f args) kind is h = steps i f args kind is (builtin_of f) refl (indirect_finds w past s.thread i f kind (step_checks w past s.thread f args (builtin_of f)) h)
  by_want (Fails k) kind is (inl h) = fails k kind is (same_found kind k h.2)
  by_want (Fails k) kind is (inr h) = absurd h.1
  by_want Outside kind is h = absurd h
  by_want Turns kind is h = absurd h
  by_want (Leaves at n) kind is h = absurd h
  by_want (Allocs n) kind is h = absurd h
  by_want (Frees at) kind is h = absurd h
  by_want (Calls i f args) kind is h = absurd h
  by_want (wants.Below f args) kind is h = absurd h
  by_want (Gives f args) kind is h = absurd h
  by_want (Returns f args v) kind is h = absurd h
  by_want (UpReturns f v) kind is h = absurd h

pub faults_below : (w : World) → FaultsBelowCanBeMet w
faults_below w past s on kind h = by_want w past s on s.want kind refl (subst (λ d. Finds (tests w past s.thread d s.want) (FaultFound kind)) on h)
