-- A run has one end after its steps, and makes no step there.
use Rattle.std.proofs.Common.{◌≡◌, ◌<◌, ◌&&◌, ℕ, Bool, true, false, cond, eqb, List, [], ◌∷◌, ◌++◌, length, Option, Some, None, refl, sym, ap, ◌∙◌, subst, arith, eqb-true}
use Rattle.std.specs.Prelude.{is_some}
use Rattle.std.proofs.lemmas.Bool.{and_parts, true≢false}
use Rattle.marks.specs.declared.side.Side.{Side}
use Rattle.marks.specs.declared.fault.FaultKind.{FaultKind}
use Rattle.marks.specs.declared.breach.BreachKind.{BreachKind}
use Rattle.marks.specs.Marks.{EventKind, Call, Ret, Up, UpRet, Alloc, Free, Stop, Act, Turn, Load, Store, Enter, Leave, Step, Made, Mark, is_event, side_of, released}
use Rattle.marks.specs.Marks as marks
use Rattle.marks.specs.Wants.{Want, Gives, Steps, Answer, answer_if, answer_to, same_numbers}
use Rattle.c_builtins.specs.declared.builtin.Builtin.{Builtin}
use Rattle.c_builtins.specs.declared.builtin.Builtin.TheVariants as builtins
use Rattle.c_code.specs.MarkLists.{same_side, reply}
use Rattle.replay_runs.specs.Checks.{Finding, FaultFound, BreachFound, Checks, Finds}
use Rattle.replay_runs.specs.Decided.{Decided, pass, find}
use Rattle.replay_runs.proofs.Checked.{not_both}
use Rattle.replay_runs.proofs.Replies.{same_numbers_true}
use Rattle.whole_runs.specs.declared.ending.Ending.{Ending}
use Rattle.whole_runs.specs.declared.ending.Ending.TheVariants as ending
use Rattle.whole_runs.specs.declared.ending.Halt.TheVariants as halt
use Rattle.whole_runs.specs.World.{World}
use Rattle.whole_runs.specs.Outcomes.{builtin_of}
use Rattle.whole_runs.specs.Picks.{Asked, asked, stepping}
use Rattle.whole_runs.specs.Below.{Given, ByPool, Says, NoMore, given_by, given}
use Rattle.whole_runs.specs.Tests.{tests}
use Rattle.whole_runs.specs.Steps.{Picked, StepOf, IsStep, GivesStep, BringsGiven, Agrees, IsMade, IsFault}
use Rattle.whole_runs.specs.Records.{size_of}
use Rattle.whole_runs.specs.Ends.{IsNext, fault_end, breach_end, IsFound, Lacks, IsLast, done, budget, blocked, fault, breach, script, events, full}
use Rattle.whole_runs_laws.specs.Laws.{StepsAreDetermined, FaultsAreDetermined}
use Rattle.whole_runs_laws.proofs.Picking.{one_pick}
use Rattle.whole_runs_laws.proofs.Decided.{tests_decided}

-- ---- findings

one_finding : (cs : Checks) → Decided cs → (f g : Finding) → Finds cs f → Finds cs g → f ≡ g
one_finding cs (pass p none) f g a b = absurd (none f a)
one_finding cs (find h x one others) f g a b = one f a ∙ sym (one g b)

abbrev kind_of : Finding → FaultKind → FaultKind
kind_of (FaultFound k) d = k
kind_of (BreachFound k x o) d = d

abbrev breach_of : Finding → BreachKind → BreachKind
breach_of (FaultFound k) d = d
breach_of (BreachFound k x o) d = k

abbrev address_of : Finding → ℕ
address_of (FaultFound k) = 0
address_of (BreachFound k x o) = x

abbrev other_of : Finding → Option ℕ
other_of (FaultFound k) = None
other_of (BreachFound k x o) = o

pub fault_breach : {k : FaultKind} {j : BreachKind} {x : ℕ} {o : Option ℕ} → FaultFound k ≡ BreachFound j x o → ⊥
fault_breach e = cc

found_breach : (t u : ℕ) → t ≡ u → (k j : BreachKind) (x y : ℕ) (o p : Option ℕ) → BreachFound k x o ≡ BreachFound j y p → breach_end k t x o ≡ breach_end j u y p
found_breach t u z k j x y o p e =
    let a : k ≡ j = ap (λ f. breach_of f k) e in
    let b : x ≡ y = ap address_of e in
    let c : o ≡ p = ap other_of e in
    λ i. breach_end (a i) (z i) (b i) (c i)

-- ---- what is asked for

pub answers_to : (side : Side) (want : Want) (m : Mark) → is_some (reply side want m) ≡ true → is_some (answer_to want m.act) ≡ true
unfolding reply
answers_to side want m h = go (same_side (side_of side m.act) m.side) h
  where
    go : (b : Bool) → is_some (cond b (answer_to want m.act) None) ≡ true → is_some (answer_to want m.act) ≡ true
    go true e = e
    go false e = absurd (true≢false (sym e))

pub some_if : (b : Bool) (a : Answer) → is_some (answer_if b a) ≡ true → b ≡ true
some_if true a e = refl
some_if false a e = absurd (true≢false (sym e))

abbrev call : ℕ → List ℕ → Asked
call f args = record { func = f; args = args }

abbrev asked_func : Option Asked → ℕ
asked_func None = 0
asked_func (Some c) = c.func

abbrev asked_args : Option Asked → List ℕ
asked_args None = []
asked_args (Some c) = c.args

abbrev has_more : Given → Bool
has_more ByPool = true
has_more (Says v pieces) = true
has_more NoMore = false

module _ (w : World) (past : List Mark) (t : ℕ) where
  same_call : (g f : ℕ) (bs args : List ℕ) → Some (call g bs) ≡ Some (call f args) → given w past t g bs ≡ given w past t f args
  same_call g f bs args z = λ i. given w past t (asked_func (z i)) (asked_args (z i))

  builtin_more : (f : ℕ) (args : List ℕ) (b : Builtin) → has_more (given_by w past t f args (Some b)) ≡ true
  builtin_more f args builtins.Malloc = refl
  builtin_more f args builtins.Free = refl
  builtin_more f args builtins.Spawn = refl
  builtin_more f args builtins.Join = refl
  builtin_more f args builtins.Lock = refl
  builtin_more f args builtins.Unlock = refl
  builtin_more f args builtins.Print = refl

  none_here : (f : ℕ) (args : List ℕ) (b : Builtin) → builtin_of f ≡ Some b → given w past t f args ≡ NoMore → ⊥
  none_here f args b e n = true≢false (sym (ap has_more (ap (given_by w past t f args) e) ∙ builtin_more f args b) ∙ ap has_more n)

  step_none : (s : StepOf) (o : Option Builtin) → builtin_of s.func ≡ o → IsStep w past t s o → given w past t s.func s.args ≡ NoMore → ⊥
  step_none s (Some b) e h n = none_here s.func s.args b e n
  step_none s None e h n = subst (GivesStep w past s) n h

  steps_none : (side : Side) (i : Bool) (f : ℕ) (args : List ℕ) (a : Act) → is_some (answer_to (Steps i f args) a) ≡ true → Agrees w past t side (Steps i f args) a → given w past t f args ≡ NoMore → ⊥
  unfolding answer_to
  steps_none side i f args (Step g bs v ins pieces freed) e h n =
      let q = and_parts (eqb g f) (same_numbers bs args) (some_if (eqb g f && same_numbers bs args) _ e) in
      step_none (record { func = g; args = bs; result = v; ins = ins; pieces = pieces; freed = freed }) (builtin_of g) refl h (ap (λ x. given w past t x bs) (eqb-true g f q.0) ∙ (ap (given w past t f) (same_numbers_true bs args q.1) ∙ n))
  steps_none side i f args (marks.Fault k c ins outs at) e h n = h
  steps_none side i f args (Made ev) e h n = absurd (true≢false (sym e))
  steps_none side i f args Turn e h n = absurd (true≢false (sym e))
  steps_none side i f args (Load o at bytes) e h n = absurd (true≢false (sym e))
  steps_none side i f args (Store o at bytes) e h n = absurd (true≢false (sym e))
  steps_none side i f args (Enter g bs at bytes) e h n = absurd (true≢false (sym e))
  steps_none side i f args (Leave at size) e h n = absurd (true≢false (sym e))

  gives_none : (side : Side) (f : ℕ) (args : List ℕ) (a : Act) → is_some (answer_to (Gives f args) a) ≡ true → Agrees w past t side (Gives f args) a → given w past t f args ≡ NoMore → ⊥
  unfolding answer_to
  gives_none side f args (Made ev) e h n = go ev.kind e h
    where
      go : (k : EventKind) → is_some (answer_to (Gives f args) (Made (record ev { kind = k }))) ≡ true → Agrees w past t side (Gives f args) (Made (record ev { kind = k })) → ⊥
      go (Ret g bs v same outs commit) e h = subst (BringsGiven w past f args v (outs ++ released commit)) n h
      go (Call g bs ins outs prepared) e h = true≢false (sym e)
      go (Up g bs) e h = true≢false (sym e)
      go (UpRet g v) e h = true≢false (sym e)
      go (Alloc at size) e h = true≢false (sym e)
      go (Free at size) e h = true≢false (sym e)
      go (Stop reason) e h = true≢false (sym e)
  gives_none side f args act e h n = absurd (true≢false (sym e))

  asked_none : (side : Side) (want : Want) (f : ℕ) (args : List ℕ) (a : Act) → asked want ≡ Some (call f args) → is_some (answer_to want a) ≡ true → Agrees w past t side want a → given w past t f args ≡ NoMore → ⊥
  asked_none side (Gives g bs) f args a z e h n = gives_none side g bs a e h (same_call g f bs args z ∙ n)
  asked_none side (Steps j g bs) f args a z e h n = steps_none side j g bs a e h (same_call g f bs args z ∙ n)
  asked_none side want f args a z e h n = cc

-- ---- the ends

module _ (w : World) where
  late : (past : List Mark) → length past ≡ w.file.budget → length past < w.file.budget → ⊥
  late past e l = omega (arith, e, l)

  no_pick : (past : List Mark) → stepping w past ≡ None → Picked w past → ⊥
  no_pick past n s = true≢false (sym (ap is_some (sym n ∙ s.picked)))

  moved : (past : List Mark) (s r : Picked w past) (f : Finding) → IsFound w past s f → IsFound w past r f
  moved past s r f h =
      let p = one_pick w past s r in
      subst (λ v. Finds (tests w past r.thread r.side v) f) p.want_is (subst (λ d. Finds (tests w past r.thread d s.want) f) p.side_is (subst (λ t. Finds (tests w past t s.side s.want) f) p.thread h))

  no_lack : (past : List Mark) (s r : Picked w past) (m : Mark) (f : ℕ) → Lacks w past s f → IsMade w past r m → ⊥
  no_lack past s r m f l i =
      let p = one_pick w past s r in
      asked_none w past r.thread r.side r.want f l.args m.act (sym (ap asked p.want_is) ∙ l.asks) (answers_to r.side r.want m i.replies) i.agrees (sym (ap (λ t. given w past t f l.args) p.thread) ∙ l.none)

  same_lack : (past : List Mark) (s r : Picked w past) (f g : ℕ) → Lacks w past s f → Lacks w past r g → f ≡ g
  same_lack past s r f g l k = ap asked_func (sym l.asks ∙ (ap asked (one_pick w past s r).want_is ∙ k.asks))

  module _ (faults : FaultsAreDetermined w) where
    same_fault : (past : List Mark) (s r : Picked w past) (m n : Mark) (k j : FaultKind) → IsFound w past s (FaultFound k) → IsFound w past r (FaultFound j) → IsFault w past s k m → IsFault w past r j n → (m ∷ [] ≡ n ∷ []) × (fault_end s.side k s.thread ≡ fault_end r.side j r.thread)
    same_fault past s r m n k j f g a b =
        let p = one_pick w past s r in
        let kinds : k ≡ j = ap (λ q. kind_of q k) (one_finding (tests w past r.thread r.side r.want) (tests_decided w past r.thread r.side r.want) (FaultFound k) (FaultFound j) (moved past s r (FaultFound k) f) g) in
        (ap (λ q. q ∷ []) (faults past m n j s r g (subst (λ q. IsFault w past s q m) kinds a) b), λ i. fault_end (p.side_is i) (kinds i) (p.thread i))

    pub last_one : (past l k : List Mark) (e f : Ending) → IsLast w past l e → IsLast w past k f → (l ≡ k) × (e ≡ f)
    last_one past l k e f (done a1) (done a2) = (refl, refl)
    last_one past l k e f (done a1) (budget a2 b2) = absurd (true≢false (sym a1 ∙ a2))
    last_one past l k e f (done a1) (blocked g2 n2) = absurd (true≢false (sym a1 ∙ g2.running))
    last_one past l k e f (done a1) (fault {m = m2} k2 s2 f2 i2) = absurd (true≢false (sym a1 ∙ s2.goes_on.running))
    last_one past l k e f (done a1) (breach k2 x2 o2 s2 f2) = absurd (true≢false (sym a1 ∙ s2.goes_on.running))
    last_one past l k e f (done a1) (script {f = h2} s2 p2 l2) = absurd (true≢false (sym a1 ∙ s2.goes_on.running))
    last_one past l k e f (done a1) (events m2 s2 i2 n2) = absurd (true≢false (sym a1 ∙ s2.goes_on.running))
    last_one past l k e f (done a1) (full m2 s2 i2 n2 o2) = absurd (true≢false (sym a1 ∙ s2.goes_on.running))
    last_one past l k e f (budget a1 b1) (done a2) = absurd (true≢false (sym a2 ∙ a1))
    last_one past l k e f (budget a1 b1) (budget a2 b2) = (refl, refl)
    last_one past l k e f (budget a1 b1) (blocked g2 n2) = absurd (late past b1 g2.in_budget)
    last_one past l k e f (budget a1 b1) (fault {m = m2} k2 s2 f2 i2) = absurd (late past b1 s2.goes_on.in_budget)
    last_one past l k e f (budget a1 b1) (breach k2 x2 o2 s2 f2) = absurd (late past b1 s2.goes_on.in_budget)
    last_one past l k e f (budget a1 b1) (script {f = h2} s2 p2 l2) = absurd (late past b1 s2.goes_on.in_budget)
    last_one past l k e f (budget a1 b1) (events m2 s2 i2 n2) = absurd (late past b1 s2.goes_on.in_budget)
    last_one past l k e f (budget a1 b1) (full m2 s2 i2 n2 o2) = absurd (late past b1 s2.goes_on.in_budget)
    last_one past l k e f (blocked g1 n1) (done a2) = absurd (true≢false (sym a2 ∙ g1.running))
    last_one past l k e f (blocked g1 n1) (budget a2 b2) = absurd (late past b2 g1.in_budget)
    last_one past l k e f (blocked g1 n1) (blocked g2 n2) = (refl, refl)
    last_one past l k e f (blocked g1 n1) (fault {m = m2} k2 s2 f2 i2) = absurd (no_pick past n1 s2)
    last_one past l k e f (blocked g1 n1) (breach k2 x2 o2 s2 f2) = absurd (no_pick past n1 s2)
    last_one past l k e f (blocked g1 n1) (script {f = h2} s2 p2 l2) = absurd (no_pick past n1 s2)
    last_one past l k e f (blocked g1 n1) (events m2 s2 i2 n2) = absurd (no_pick past n1 s2)
    last_one past l k e f (blocked g1 n1) (full m2 s2 i2 n2 o2) = absurd (no_pick past n1 s2)
    last_one past l k e f (fault {m = m1} k1 s1 f1 i1) (done a2) = absurd (true≢false (sym a2 ∙ s1.goes_on.running))
    last_one past l k e f (fault {m = m1} k1 s1 f1 i1) (budget a2 b2) = absurd (late past b2 s1.goes_on.in_budget)
    last_one past l k e f (fault {m = m1} k1 s1 f1 i1) (blocked g2 n2) = absurd (no_pick past n2 s1)
    last_one past l k e f (fault {m = m1} k1 s1 f1 i1) (fault {m = m2} k2 s2 f2 i2) = same_fault past s1 s2 m1 m2 k1 k2 f1 f2 i1 i2
    last_one past l k e f (fault {m = m1} k1 s1 f1 i1) (breach k2 x2 o2 s2 f2) = absurd (fault_breach (one_finding (tests w past s2.thread s2.side s2.want) (tests_decided w past s2.thread s2.side s2.want) (FaultFound k1) (BreachFound k2 x2 o2) (moved past s1 s2 (FaultFound k1) f1) f2))
    last_one past l k e f (fault {m = m1} k1 s1 f1 i1) (script {f = h2} s2 p2 l2) = absurd (not_both (tests w past s2.thread s2.side s2.want) (FaultFound k1) (moved past s1 s2 (FaultFound k1) f1) p2)
    last_one past l k e f (fault {m = m1} k1 s1 f1 i1) (events m2 s2 i2 n2) = absurd (not_both (tests w past s2.thread s2.side s2.want) (FaultFound k1) (moved past s1 s2 (FaultFound k1) f1) i2.made.passes)
    last_one past l k e f (fault {m = m1} k1 s1 f1 i1) (full m2 s2 i2 n2 o2) = absurd (not_both (tests w past s2.thread s2.side s2.want) (FaultFound k1) (moved past s1 s2 (FaultFound k1) f1) i2.made.passes)
    last_one past l k e f (breach k1 x1 o1 s1 f1) (done a2) = absurd (true≢false (sym a2 ∙ s1.goes_on.running))
    last_one past l k e f (breach k1 x1 o1 s1 f1) (budget a2 b2) = absurd (late past b2 s1.goes_on.in_budget)
    last_one past l k e f (breach k1 x1 o1 s1 f1) (blocked g2 n2) = absurd (no_pick past n2 s1)
    last_one past l k e f (breach k1 x1 o1 s1 f1) (fault {m = m2} k2 s2 f2 i2) = absurd (fault_breach (one_finding (tests w past s1.thread s1.side s1.want) (tests_decided w past s1.thread s1.side s1.want) (FaultFound k2) (BreachFound k1 x1 o1) (moved past s2 s1 (FaultFound k2) f2) f1))
    last_one past l k e f (breach k1 x1 o1 s1 f1) (breach k2 x2 o2 s2 f2) = (refl, found_breach s1.thread s2.thread (one_pick w past s1 s2).thread k1 k2 x1 x2 o1 o2 (one_finding (tests w past s2.thread s2.side s2.want) (tests_decided w past s2.thread s2.side s2.want) (BreachFound k1 x1 o1) (BreachFound k2 x2 o2) (moved past s1 s2 (BreachFound k1 x1 o1) f1) f2))
    last_one past l k e f (breach k1 x1 o1 s1 f1) (script {f = h2} s2 p2 l2) = absurd (not_both (tests w past s2.thread s2.side s2.want) (BreachFound k1 x1 o1) (moved past s1 s2 (BreachFound k1 x1 o1) f1) p2)
    last_one past l k e f (breach k1 x1 o1 s1 f1) (events m2 s2 i2 n2) = absurd (not_both (tests w past s2.thread s2.side s2.want) (BreachFound k1 x1 o1) (moved past s1 s2 (BreachFound k1 x1 o1) f1) i2.made.passes)
    last_one past l k e f (breach k1 x1 o1 s1 f1) (full m2 s2 i2 n2 o2) = absurd (not_both (tests w past s2.thread s2.side s2.want) (BreachFound k1 x1 o1) (moved past s1 s2 (BreachFound k1 x1 o1) f1) i2.made.passes)
    last_one past l k e f (script {f = h1} s1 p1 l1) (done a2) = absurd (true≢false (sym a2 ∙ s1.goes_on.running))
    last_one past l k e f (script {f = h1} s1 p1 l1) (budget a2 b2) = absurd (late past b2 s1.goes_on.in_budget)
    last_one past l k e f (script {f = h1} s1 p1 l1) (blocked g2 n2) = absurd (no_pick past n2 s1)
    last_one past l k e f (script {f = h1} s1 p1 l1) (fault {m = m2} k2 s2 f2 i2) = absurd (not_both (tests w past s1.thread s1.side s1.want) (FaultFound k2) (moved past s2 s1 (FaultFound k2) f2) p1)
    last_one past l k e f (script {f = h1} s1 p1 l1) (breach k2 x2 o2 s2 f2) = absurd (not_both (tests w past s1.thread s1.side s1.want) (BreachFound k2 x2 o2) (moved past s2 s1 (BreachFound k2 x2 o2) f2) p1)
    last_one past l k e f (script {f = h1} s1 p1 l1) (script {f = h2} s2 p2 l2) = (refl, ap (λ h. ending.Halted (halt.Script h)) (same_lack past s1 s2 h1 h2 l1 l2))
    last_one past l k e f (script {f = h1} s1 p1 l1) (events m2 s2 i2 n2) = absurd (no_lack past s1 s2 m2 h1 l1 i2.made)
    last_one past l k e f (script {f = h1} s1 p1 l1) (full m2 s2 i2 n2 o2) = absurd (no_lack past s1 s2 m2 h1 l1 i2.made)
    last_one past l k e f (events m1 s1 i1 n1) (done a2) = absurd (true≢false (sym a2 ∙ s1.goes_on.running))
    last_one past l k e f (events m1 s1 i1 n1) (budget a2 b2) = absurd (late past b2 s1.goes_on.in_budget)
    last_one past l k e f (events m1 s1 i1 n1) (blocked g2 n2) = absurd (no_pick past n2 s1)
    last_one past l k e f (events m1 s1 i1 n1) (fault {m = m2} k2 s2 f2 i2) = absurd (not_both (tests w past s1.thread s1.side s1.want) (FaultFound k2) (moved past s2 s1 (FaultFound k2) f2) i1.made.passes)
    last_one past l k e f (events m1 s1 i1 n1) (breach k2 x2 o2 s2 f2) = absurd (not_both (tests w past s1.thread s1.side s1.want) (BreachFound k2 x2 o2) (moved past s2 s1 (BreachFound k2 x2 o2) f2) i1.made.passes)
    last_one past l k e f (events m1 s1 i1 n1) (script {f = h2} s2 p2 l2) = absurd (no_lack past s2 s1 m1 h2 l2 i1.made)
    last_one past l k e f (events m1 s1 i1 n1) (events m2 s2 i2 n2) = (refl, refl)
    last_one past l k e f (events m1 s1 i1 n1) (full m2 s2 i2 n2 o2) = absurd (omega (arith, n1, n2))
    last_one past l k e f (full m1 s1 i1 n1 o1) (done a2) = absurd (true≢false (sym a2 ∙ s1.goes_on.running))
    last_one past l k e f (full m1 s1 i1 n1 o1) (budget a2 b2) = absurd (late past b2 s1.goes_on.in_budget)
    last_one past l k e f (full m1 s1 i1 n1 o1) (blocked g2 n2) = absurd (no_pick past n2 s1)
    last_one past l k e f (full m1 s1 i1 n1 o1) (fault {m = m2} k2 s2 f2 i2) = absurd (not_both (tests w past s1.thread s1.side s1.want) (FaultFound k2) (moved past s2 s1 (FaultFound k2) f2) i1.made.passes)
    last_one past l k e f (full m1 s1 i1 n1 o1) (breach k2 x2 o2 s2 f2) = absurd (not_both (tests w past s1.thread s1.side s1.want) (BreachFound k2 x2 o2) (moved past s2 s1 (BreachFound k2 x2 o2) f2) i1.made.passes)
    last_one past l k e f (full m1 s1 i1 n1 o1) (script {f = h2} s2 p2 l2) = absurd (no_lack past s2 s1 m1 h2 l2 i1.made)
    last_one past l k e f (full m1 s1 i1 n1 o1) (events m2 s2 i2 n2) = absurd (omega (arith, n2, n1))
    last_one past l k e f (full m1 s1 i1 n1 o1) (full m2 s2 i2 n2 o2) = (refl, refl)

  module _ (steps : StepsAreDetermined w) where
    pub no_step : (past l : List Mark) (m : Mark) (e : Ending) → IsNext w past m → IsLast w past l e → ⊥
    no_step past l m e n (done a2) = true≢false (sym a2 ∙ n.step.goes_on.running)
    no_step past l m e n (budget a2 b2) = late past b2 n.step.goes_on.in_budget
    no_step past l m e n (blocked g2 n2) = no_pick past n2 n.step
    no_step past l m e n (fault {m = m2} k2 s2 f2 i2) = not_both (tests w past n.step.thread n.step.side n.step.want) (FaultFound k2) (moved past s2 n.step (FaultFound k2) f2) n.made.passes
    no_step past l m e n (breach k2 x2 o2 s2 f2) = not_both (tests w past n.step.thread n.step.side n.step.want) (BreachFound k2 x2 o2) (moved past s2 n.step (BreachFound k2 x2 o2) f2) n.made.passes
    no_step past l m e n (script {f = h2} s2 p2 l2) = no_lack past s2 n.step m h2 l2 n.made
    no_step past l m e n (events m2 s2 i2 n2) = absurd (let z = steps past m m2 n.step s2 n.made i2.made in let r = n.room.events (ap (λ a. is_event a.act) z ∙ i2.event) in omega (arith, r, n2))
    no_step past l m e n (full m2 s2 i2 n2 o2) = absurd (let z = steps past m m2 n.step s2 n.made i2.made in let r = n.room.bytes (ap (λ a. is_event a.act) z ∙ i2.event) in omega (arith, r, o2, ap size_of z))
