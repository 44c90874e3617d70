-- Above the cut a fault that the tests find is met, where the frame that ends and the block that is freed are there.
use Rattle.std.proofs.Common.{◌≡◌, inl, inr, ℕ, zero, suc, ◌+◌, ◌-◌, ◌<◌, ◌≤◌, Bool, true, false, cond, ◌&&◌, eqb, List, [], ◌∷◌, ◌++◌, length, Option, Some, None, refl, sym, ap, ◌∙◌, subst, arith}
use Rattle.std.specs.Prelude.{◌%◌, is_some, find, Contains, nat_lt}
use Rattle.std.specs.List.{range_with_len}
use Rattle.std.proofs.lemmas.Bool.{and_parts, true≢false}
use Rattle.marks.specs.declared.side.Side.{Side}
use Rattle.marks.specs.declared.side.Side.TheVariants.{Replay, System}
use Rattle.marks.specs.declared.fault.FaultKind.{FaultKind}
use Rattle.marks.specs.declared.range.Range.{Range}
use Rattle.marks.specs.Marks.{EventKind, Call, Ret, Up, UpRet, Alloc, Free, Stop, Access, Act, Turn, Load, Store, Enter, Leave, Step, Fault, Made, Mark, is_event, side_of}
use Rattle.marks.specs.Opens.{is_stop_event}
use Rattle.marks.specs.Wants.{Want, Outside, Turns, Loads, Stores, Enters, Leaves, Allocs, Frees, Calls, Below, Gives, Returns, CallsBack, UpReturns, Steps, Fails, Stopped, stopped_if, answer_to}
use Rattle.c_code.specs.MarkLists.{same_side, reply}
use Rattle.replay_runs.specs.Runs.{Start, Link, OfThread, OfKey, is_listed, keys_of, has, marks_of, events_with}
use Rattle.replay_runs.specs.Interface.{Interface, Program, Committing}
use Rattle.replay_runs.specs.Threads.{act_fault, fault_of, is_stop, is_stopped}
use Rattle.replay_runs.specs.Rules.{is_reply}
use Rattle.replay_runs.specs.Checks.{Checks, Done, FaultFound, Finds, Answered, checks, size_checks, commit_size_check, return_checks}
use Rattle.replay_runs.specs.Found.{EndsWhatIsThere, FaultMayCome}
use Rattle.replay_runs.proofs.Faults.{come}
use Rattle.system_side.specs.Schedule.{entry, wish_at, round}
use Rattle.system_side.specs.Threads.{order_of}
use Rattle.whole_runs.specs.World.{World, begin, interface}
use Rattle.whole_runs.specs.Sides.{seen}
use Rattle.whole_runs.specs.Picks.{can_step}
use Rattle.whole_runs.specs.Below.{Given, ByPool, Says, NoMore, given}
use Rattle.whole_runs.specs.Tests.{comes_up, give_checks, checks_above, tests}
use Rattle.whole_runs.specs.Steps.{Picked, EventAgrees, Agrees, IsMade, IsFault}
use Rattle.whole_runs.specs.Ends.{Follows}
use Rattle.whole_runs.specs.Fits.{IsFitItem, IsFitFile}
use Rattle.whole_runs_laws.specs.Exists.{HasFault, FaultsAboveCanBeMet, FaultsCanBeMetWhereTheyEnd}
use Rattle.whole_runs_laws.proofs.PlainSteps.{side_is}
use Rattle.whole_runs_laws.proofs.OneStep.{same_side_true, plain_side}
use Rattle.whole_runs_laws.proofs.OneFault.{no_event}
use Rattle.whole_runs_laws.proofs.FaultsBelow.{no_breach, faults_below}

-- ---- the thread is one of those that there may be

-- each of the numbers is below n
abbrev AreBelow : ℕ → List ℕ → Type 0
AreBelow n [] = Unit {0}
AreBelow n (x ∷ xs) = (x < n) × AreBelow n xs

abbrev number_in : Option ℕ → ℕ
number_in None = 0
number_in (Some z) = z

found_below : (n : ℕ) (p : ℕ → Bool) (xs : List ℕ) (x : ℕ) → AreBelow n xs → find p xs ≡ Some x → x < n
found_below n p [] x b h = absurd cc
found_below n p (y ∷ ys) x b h = go (p y) h (λ e. found_below n p ys x b.1 e)
  where
    go : (c : Bool) → cond c (Some y) (find p ys) ≡ Some x → (find p ys ≡ Some x → x < n) → x < n
    go true e on = subst (λ z. z < n) (ap number_in e) b.0
    go false e on = on e

range_below : (n a k : ℕ) → a + k ≤ n → AreBelow n (range_with_len a k)
range_below n a zero h = tt
range_below n a (suc k) h = (omega (arith, h), range_below n (a + 1) k (omega (arith, h)))

both_below : (n : ℕ) (xs ys : List ℕ) → AreBelow n xs → AreBelow n ys → AreBelow n (xs ++ ys)
both_below n [] ys a b = b
both_below n (x ∷ xs) ys a b = (a.0, both_below n xs ys a.1 b)

order_below : (wish : ℕ) → wish < 32 → AreBelow 32 (order_of wish)
order_below wish h = both_below 32 (range_with_len wish (32 - wish)) (range_with_len 0 wish) (range_below 32 wish (32 - wish) (omega (arith, h))) (range_below 32 0 wish (omega (arith, h)))

entry_below : (items : List (ℕ × ℕ)) (place : ℕ) → ((item : ℕ × ℕ) → Contains items item → IsFitItem item) → entry items place < 32
entry_below [] place fit = omega arith
entry_below (i ∷ is) place fit = go (nat_lt place i.1) (entry_below is (place - i.1) (λ item c. let k = c.1 in fit item (suc c.0, omega (arith, k), c.2)))
  where
    go : (b : Bool) → entry is (place - i.1) < 32 → cond b i.0 (entry is (place - i.1)) < 32
    go true on = (fit i (0, omega arith, refl)).thread
    go false on = on

-- ---- what is found

stopped_is : (b : Bool) → is_some (stopped_if b) ≡ true → stopped_if b ≡ Some Stopped
stopped_is true e = refl
stopped_is false e = absurd (true≢false (sym e))

fault_is : (k : FaultKind) (c : Bool) (ins outs : List Range) (a : Access) (want : Want) → is_some (answer_to want (Fault k c ins outs a)) ≡ true → answer_to want (Fault k c ins outs a) ≡ Some Stopped
unfolding answer_to
fault_is k c ins outs a (Loads o at n) e = stopped_is _ e
fault_is k c ins outs a (Stores o at bytes) e = stopped_is _ e
fault_is k c ins outs a (Enters i f args bytes) e = stopped_is _ e
fault_is k c ins outs a (Frees at) e = stopped_is _ e
fault_is k c ins outs a (Calls i f args) e = stopped_is _ e
fault_is k c ins outs a (CallsBack f args bytes) e = stopped_is _ e
fault_is k c ins outs a (Steps i f args) e = stopped_is _ e
fault_is k c ins outs a (Fails kind) e = stopped_is _ e
fault_is k c ins outs a Outside e = absurd (true≢false (sym e))
fault_is k c ins outs a Turns e = absurd (true≢false (sym e))
fault_is k c ins outs a (Leaves at n) e = absurd (true≢false (sym e))
fault_is k c ins outs a (Allocs n) e = absurd (true≢false (sym e))
fault_is k c ins outs a (Below f args) e = absurd (true≢false (sym e))
fault_is k c ins outs a (Gives f args) e = absurd (true≢false (sym e))
fault_is k c ins outs a (Returns f args v) e = absurd (true≢false (sym e))
fault_is k c ins outs a (UpReturns f v) e = absurd (true≢false (sym e))

-- the mark of a fault stops what it answers
fault_stops : (want : Want) (a : Act) (kind : FaultKind) → act_fault a None ≡ Some kind → is_reply want a ≡ true → answer_to want a ≡ Some Stopped
fault_stops want (Fault k c ins outs at) kind e h = fault_is k c ins outs at want (and_parts _ _ h).1
fault_stops want Turn kind e h = absurd cc
fault_stops want (Load o at bytes) kind e h = absurd cc
fault_stops want (Store o at bytes) kind e h = absurd cc
fault_stops want (Enter f args at bytes) kind e h = absurd cc
fault_stops want (Leave at size) kind e h = absurd cc
fault_stops want (Step f args v ins pieces freed) kind e h = absurd cc
fault_stops want (Made e') kind e h = absurd cc

sizes_none : (changed : ℕ → Bool) (pieces : List ℕ) (rs : List Range) (ns : List ℕ) (cs : Checks) (kind : FaultKind) → (Finds cs (FaultFound kind) → ⊥) → Finds (size_checks changed pieces rs ns cs) (FaultFound kind) → ⊥
sizes_none changed pieces [] ns cs kind none h = none h
sizes_none changed pieces (r ∷ rs) [] cs kind none h = none h
sizes_none changed pieces (r ∷ rs) (n ∷ ns) cs kind none (inl h) = no_breach h.2
sizes_none changed pieces (r ∷ rs) (n ∷ ns) cs kind none (inr h) = sizes_none changed _ rs ns cs kind none h.1

commit_none : (changed : ℕ → Bool) (piece : ℕ) (o : Option Range) (used : ℕ) (kind : FaultKind) → Finds (commit_size_check changed piece o used Done) (FaultFound kind) → ⊥
commit_none changed piece None used kind h = h
commit_none changed piece (Some r) used kind (inl h) = no_breach h.2
commit_none changed piece (Some r) used kind (inr h) = h.1

-- a Ret is tested for breaches alone
pub return_none : (i : Interface) (s : Start) (past : List Mark) (below : Answered) (f : ℕ) (args : List ℕ) (v : ℕ) (kind : FaultKind) → Finds (return_checks i s past below f args v) (FaultFound kind) → ⊥
return_none i s past below f args v kind = of (i.commits f args v)
  where
    of : (o : Option Committing) → Finds (return_checks (record i { commits = λ f args v. o }) s past below f args v) (FaultFound kind) → ⊥
    of None h = sizes_none below.changed below.pieces (i.outs f args) (i.used f args v) Done kind (λ z. z) h
    of (Some c) h = by c.used h
      where
        by : (o : Option ℕ) → Finds (return_checks (record i { commits = λ f args v. Some (record { key = c.key; used = o }) }) s past below f args v) (FaultFound kind) → ⊥
        by None h = sizes_none below.changed below.pieces (i.outs f args) (i.used f args v) Done kind (λ z. z) h
        by (Some n) (inl h) = no_breach h.2
        by (Some n) (inr h) = sizes_none below.changed below.pieces (i.outs f args) (i.used f args v) _ kind (λ z. commit_none below.changed below.committed _ n kind z) h.1

module _ (w : World) where
  -- ---- what follows has neither faults nor Stops, and its events stand above the cut

  pub no_end : (past : List Mark) (s : Picked w past) (m : Mark) → IsMade w past s m → (is_stop m.act ≡ false) × ((f : Option FaultKind) → act_fault m.act f ≡ f)
  no_end past s m h = go m.act h.agrees
    where
      kind_no_end : (k : EventKind) → EventAgrees w past s.thread s.want k → is_stop_event k ≡ false
      kind_no_end (Call f args ins outs prepared) a = refl
      kind_no_end (Ret f args v same outs commit) a = refl
      kind_no_end (Up f args) a = refl
      kind_no_end (UpRet f v) a = refl
      kind_no_end (Alloc at size) a = refl
      kind_no_end (Free at size) a = refl
      kind_no_end (Stop fault) a = absurd a

      go : (a : Act) → Agrees w past s.thread s.side s.want a → (is_stop a ≡ false) × ((f : Option FaultKind) → act_fault a f ≡ f)
      go Turn a = (refl, λ f. refl)
      go (Load o at bytes) a = (refl, λ f. refl)
      go (Store o at bytes) a = (refl, λ f. refl)
      go (Enter f args at bytes) a = (refl, λ f. refl)
      go (Leave at size) a = (refl, λ f. refl)
      go (Step f args v ins pieces freed) a = (refl, λ f. refl)
      go (Fault k c ins outs at) a = absurd a
      go (Made e) a = (kind_no_end e.kind a, λ f. refl)

  abbrev pub Runs : List Mark → Type 0
  Runs mine = (is_stopped mine ≡ false) × (fault_of mine ≡ None)

  pub running : (past : List Mark) → Follows w past → (t : ℕ) → Runs (marks_of (begin w) t (seen past))
  running [] f t = (refl, refl)
  running (m ∷ past) f t = go (running past f.1 t) (same_side m.side Replay)
    where
      by_thread : Runs (marks_of (begin w) t (seen past)) → (c : Bool) → Runs (cond c (m ∷ marks_of (begin w) t (seen past)) (marks_of (begin w) t (seen past)))
      by_thread rest true = let z = no_end past f.0.step m f.0.made in (z.0, z.1 (fault_of (marks_of (begin w) t (seen past))) ∙ rest.1)
      by_thread rest false = rest

      go : Runs (marks_of (begin w) t (seen past)) → (b : Bool) → Runs (marks_of (begin w) t (cond b (m ∷ seen past) (seen past)))
      go rest true = by_thread rest (eqb m.thread t)
      go rest false = rest

  -- an event is seen
  no_keys : (a : Act) → is_event a ≡ false → keys_of a ≡ []
  no_keys (Made e) h = absurd (true≢false h)
  no_keys Turn h = refl
  no_keys (Load o at bytes) h = refl
  no_keys (Store o at bytes) h = refl
  no_keys (Enter f args at bytes) h = refl
  no_keys (Leave at size) h = refl
  no_keys (Step f args v ins pieces freed) h = refl
  no_keys (Fault k c ins outs at) h = refl

  no_links : (m : Mark) → is_event m.act ≡ false → (l : Link) → has m l ≡ false
  no_links m e (OfThread u) = ap (λ b. b && eqb m.thread u) e
  no_links m e (OfKey k) = ap (λ ks. is_listed ks k) (no_keys m.act e)

  event_side : (side : Side) (a : Act) → is_event a ≡ true → side_of side a ≡ Replay
  event_side side (Made e) h = refl
  event_side side Turn h = absurd (true≢false (sym h))
  event_side side (Load o at bytes) h = absurd (true≢false (sym h))
  event_side side (Store o at bytes) h = absurd (true≢false (sym h))
  event_side side (Enter f args at bytes) h = absurd (true≢false (sym h))
  event_side side (Leave at size) h = absurd (true≢false (sym h))
  event_side side (Step f args v ins pieces freed) h = absurd (true≢false (sym h))
  event_side side (Fault k c ins outs at) h = absurd (true≢false (sym h))

  below_plain : (past : List Mark) (s : Picked w past) (m : Mark) → IsMade w past s m → same_side m.side Replay ≡ false → is_event m.act ≡ false
  below_plain past s m h e = go (is_event m.act) refl
    where
      go : (b : Bool) → is_event m.act ≡ b → is_event m.act ≡ false
      go false z = z
      go true z =
          let at : same_side Replay m.side ≡ true = ap (λ d. same_side d m.side) (sym (event_side s.side m.act z)) ∙ side_is s.side s.want m h.replies in
          absurd (true≢false (sym (ap (λ d. same_side d Replay) (sym (same_side_true Replay m.side at))) ∙ e))

  pub events_seen : (past : List Mark) → Follows w past → (l : Link) → events_with (begin w) l past ≡ events_with (begin w) l (seen past)
  events_seen [] f l = refl
  events_seen (m ∷ past) f l = go (events_seen past f.1 l) (same_side m.side Replay) refl
    where
      go : events_with (begin w) l past ≡ events_with (begin w) l (seen past) → (b : Bool) → same_side m.side Replay ≡ b → events_with (begin w) l (m ∷ past) ≡ events_with (begin w) l (cond b (m ∷ seen past) (seen past))
      go rest true e = ap (λ es. cond (has m l) (m ∷ es) es) rest
      go rest false e = ap (λ b. cond b (m ∷ events_with (begin w) l past) (events_with (begin w) l past)) (no_links m (below_plain past f.0.step m f.0.made e) l) ∙ rest

  -- ---- the fault

  pub few_threads : IsFitFile w → (past : List Mark) (s : Picked w past) → s.thread < 32
  few_threads fit past s =
      let wish : ℕ = wish_at w.file.schedule (length past) in
      found_below 32 (can_step w past) (order_of wish) s.thread (order_below wish (entry_below w.file.schedule (length past % round w.file.schedule) fit.items)) s.picked

  module _ (past : List Mark) (f : Follows w past) (s : Picked w past) (on : s.side ≡ Replay) where
    -- what the thread wants, whatever it made
    abbrev pub this : Program
    this = record { interface = interface w; want = λ t mine. s.want }

    answered : (m : Mark) (kind : FaultKind) → m.side ≡ Replay → act_fault m.act None ≡ Some kind → is_reply s.want m.act ≡ true → reply s.side s.want m ≡ Some Stopped
    unfolding reply
    answered m kind here fault h =
        let plain : is_event m.act ≡ false = no_event m.act kind fault in
        let same : same_side (side_of s.side m.act) m.side ≡ true = ap (λ d. same_side d m.side) (plain_side s.side m.act plain ∙ on) ∙ ap (λ d. same_side Replay d) here in
        ap (λ b. cond b (answer_to s.want m.act) None) same ∙ fault_stops s.want m.act kind fault h

    pub met_fault : (kind : FaultKind) (c : FaultMayCome this (begin w) (seen past) s.thread kind) → IsFault w past s kind c.mark
    met_fault kind c =
        let own = c.allowed.own in
        let here : c.mark.side ≡ Replay = own.side in
        record {
          mark = record {
            of_thread = c.thread;
            index = c.allowed.index ∙ ap length (sym (events_seen past f (OfThread c.mark.thread)));
            above = λ z. record {
              own = (own.keys, own.carries);
              index = c.allowed.index;
              steps = c.allowed.steps;
              tickets = c.allowed.tickets;
              shared = c.allowed.shared;
              rises = c.allowed.rises;
              least = c.allowed.least;
              bytes = c.allowed.bytes;
            };
          };
          stops = answered c.mark kind here c.fault own.replies;
          kind_is = c.fault;
          read_only = own.read_only;
          below = λ z. absurd (true≢false (ap (λ d. same_side d Replay) (sym here ∙ z)));
        }

    met : (kind : FaultKind) → FaultMayCome this (begin w) (seen past) s.thread kind → HasFault w past s kind
    met kind c = record { mark = c.mark; met = met_fault kind c }

    comes_to : IsFitFile w → EndsWhatIsThere (begin w) (seen past) s.want → (kind : FaultKind) → Finds (checks (interface w) (begin w) (seen past) s.thread s.want) (FaultFound kind) → HasFault w past s kind
    comes_to fit ends kind h = let r = running past f s.thread in met kind (come this (begin w) (seen past) s.thread kind (few_threads fit past s) r.0 r.1 ends h)

    pub give_none : (g : ℕ) (args : List ℕ) (a : Given) (kind : FaultKind) → Finds (give_checks w past g args a) (FaultFound kind) → ⊥
    give_none g args ByPool kind h = h
    give_none g args NoMore kind h = h
    give_none g args (Says v pieces) kind h = return_none (interface w) (begin w) (seen past) (comes_up w past g args v pieces) g args v kind h

    pub replayed : (want : Want) (kind : FaultKind) → Finds (checks_above w past s.thread want) (FaultFound kind) → Finds (checks (interface w) (begin w) (seen past) s.thread want) (FaultFound kind)
    replayed (Gives g args) kind h = absurd (give_none g args (given w past s.thread g args) kind h)
    replayed (Returns g args v) kind h = absurd (return_none (interface w) (begin w) (seen past) (comes_up w past g args v []) g args v kind h)
    replayed Outside kind h = h
    replayed Turns kind h = h
    replayed (Loads o at n) kind h = h
    replayed (Stores o at bytes) kind h = h
    replayed (Enters i g args bytes) kind h = h
    replayed (Leaves at n) kind h = h
    replayed (Allocs n) kind h = h
    replayed (Frees at) kind h = h
    replayed (Calls i g args) kind h = h
    replayed (Below g args) kind h = h
    replayed (CallsBack g args bytes) kind h = h
    replayed (UpReturns g v) kind h = h
    replayed (Steps i g args) kind h = h
    replayed (Fails k) kind h = h

pub faults_above : (w : World) → FaultsAboveCanBeMet w
faults_above w fit there past f s on kind h = comes_to w past f s on fit (there past f s on) kind (replayed w past f s on s.want kind (subst (λ d. Finds (tests w past s.thread d s.want) (FaultFound kind)) on h))

-- on either side
pub faults_met : (w : World) → FaultsCanBeMetWhereTheyEnd w
faults_met w fit there past f s kind h = go s.side refl
  where
    go : (d : Side) → s.side ≡ d → HasFault w past s kind
    go Replay on = faults_above w fit there past f s on kind h
    go System on = faults_below w past s on kind h
