-- Statements in which nothing is found.
use Rattle.std.proofs.Common.{◌≡◌, ℕ, ◌≤◌, Bool, true, false, List, [], ◌++◌, Option, Some, None, refl, sym, subst, arith}
use Rattle.marks.specs.declared.side.Side.{Side}
use Rattle.c_code.specs.Values.{at_zero}
use Rattle.c_types_rules.specs.TypedTree.{MaybeValue, Statement, Statements, Block, Evaluate, Initialise, If, IfElse, While, Do, For, Break, Continue, Return, NoStatements, MoreStatements}
use Rattle.c_semantics.specs.Reading.{Marks}
use Rattle.c_semantics.specs.Values.{Here, local_address, store, value}
use Rattle.c_semantics.specs.Statements.{Exits, looping, maybe, statement, statements, within}
use Rattle.lockset_check_rules.specs.declared.finding.LockFinding.{LockFinding}
use Rattle.lockset_check_rules.specs.declared.finding.LockFinding.TheVariants.{LoopLocks, ReturnLocks}
use Rattle.lockset_check_rules.specs.Mutexes.{Locks, same, shared}
use Rattle.lockset_check_rules.specs.Guards.{Guarded}
use Rattle.lockset_check_rules.specs.After.{joined, maybe_after, statement_after, statements_after, value_after}
use Rattle.lockset_check_rules.specs.Values.{maybe_found, value_found}
use Rattle.lockset_check_rules.specs.Statements.{Loop, Within, inside, loop_differs, loop_differs_at, loop_differs_in, part_found, return_differs, statement_found, statements_found}
use Rattle.lockset_check_threads.specs.Typed.{InMaybe, InStatement, InStatements, IsCall}
use Rattle.lockset_check_threads.proofs.Asked.{at_zero_kept}
use Rattle.lockset_check_threads.proofs.Holding.{fewer_held}
use Rattle.lockset_check_threads.proofs.Loops.{do_alike, for_alike, for_body, for_round, looping_kept, while_alike}
use Rattle.lockset_check_threads.proofs.Places.{CallsKept, Goes, Starts, Then, fewer_calls, later, local_kept}
use Rattle.lockset_check_threads.proofs.Sets.{in_shared, same_sets}
use Rattle.lockset_check_threads.proofs.Touched.{asked, in_neither}
use Rattle.lockset_check_threads.proofs.Values.{maybe_kept, value_kept}

-- where a loop or function may be left, what is held is what its start holds
loop_same : (l : Loop) (s : Locks) → loop_differs l s ≡ [] → s ≡ l.start
loop_same l s e = same_sets s l.start (asked (same s l.start) (LoopLocks l.from) e)

pub return_same : (w : Within) (from : ℕ) (s : Locks) → return_differs w from s ≡ [] → s ≡ w.start
return_same w from s e = same_sets s w.start (asked (same s w.start) (ReturnLocks from) e)

-- in a loop, where the statement stands in one
abbrev pub IsInLoop : Bool → Within → Type 0
IsInLoop l w = l ≡ true → (p : Loop) × (w.loop ≡ Some p)

-- what is found in the loop of a `for` after its first part, and in the rest of a block
abbrev for_found : Guarded → Within → ℕ → MaybeValue → MaybeValue → Statement → Option Locks → List LockFinding
for_found r w from v last a o = elim o [
  | Some t ↦
      let within = inside w from t in
      part_found r within v t ++
      ((statement_found r within a t ++ loop_differs_at within (statement_after a t)) ++
      part_found r within last t)
  | None ↦ []
]

abbrev rest_found : Guarded → Within → Statements → Option Locks → List LockFinding
rest_found r w zs o = elim o [ Some t ↦ statements_found r w zs t | None ↦ [] ]

abbrev rest_after : Statements → Option Locks → Option Locks
rest_after zs o = elim o [ Some t ↦ statements_after zs t | None ↦ None ]

module _ (r : Guarded) (runs : ℕ → Bool) (h : Here) (outside : ℕ → Side → Type 0) where
  abbrev S : ℕ → Locks → Marks → Type 0
  S = Starts r runs outside h.side

  abbrev T : ℕ → Locks → Marks → Type 0
  T = Then r runs outside h.side

  abbrev G : ℕ → Locks → (ℕ → Marks) → Type 0
  G = Goes r runs outside h.side

  abbrev C : ℕ → Type 0
  C = CallsKept r runs h outside

  -- what follows at an end, where it is reached
  abbrev pub Ends : ℕ → Option Locks → Marks → Type 0
  Ends k (Some s) p = T k s p
  Ends k None p = Unit {0}

  -- what follows where a loop is left or goes on
  abbrev pub Leaves : ℕ → Option Loop → Marks → Type 0
  Leaves k (Some l) p = T k l.start p
  Leaves k None p = Unit {0}

  -- what follows a statement is kept, at each exit
  pub record ExitsKept (k : ℕ) (w : Within) (next : Option Locks) (x : Exits) : Type 0 where
    pub ends : Ends k next x.next
    pub stops : Leaves k w.loop x.stop
    pub goes_on : Leaves k w.loop x.again
    pub gives : G k w.start x.give

  -- ---- fewer marks

  sooner : (j k : ℕ) (s : Locks) (p : Marks) → j ≤ k → T k s p → T j s p
  sooner j k s p le c i li = c i (omega arith)

  ends_sooner : (j k : ℕ) (o : Option Locks) (p : Marks) → j ≤ k → Ends k o p → Ends j o p
  ends_sooner j k (Some s) p le c = sooner j k s p le c
  ends_sooner j k None p le c = tt

  leaves_sooner : (j k : ℕ) (o : Option Loop) (p : Marks) → j ≤ k → Leaves k o p → Leaves j o p
  leaves_sooner j k (Some l) p le c = sooner j k l.start p le c
  leaves_sooner j k None p le c = tt

  exits_sooner : (j k : ℕ) (w : Within) (o : Option Locks) (x : Exits) → j ≤ k → ExitsKept k w o x → ExitsKept j w o x
  exits_sooner j k w o x le e = record {
    ends = ends_sooner j k o x.next le e.ends;
    stops = leaves_sooner j k w.loop x.stop le e.stops;
    goes_on = leaves_sooner j k w.loop x.again le e.goes_on;
    gives = later r runs outside h.side j k w.start x.give le e.gives;
  }

  less : (j k : ℕ) → j ≤ k → C k → C j
  less = fewer_calls r runs h outside

  -- the same exits but for the end
  ending : (k : ℕ) (w : Within) (o q : Option Locks) (x : Exits) → Ends k q x.next → ExitsKept k w o x → ExitsKept k w q x
  ending k w o q x c e = record { ends = c; stops = e.stops; goes_on = e.goes_on; gives = e.gives }

  -- ---- ways that join

  shared_first : (s t : Locks) (k : ℕ) (p : Marks) → T k (shared s t) p → T k s p
  shared_first s t k p c j le mine hold = c j le mine (fewer_held s (shared s t) outside h.side mine (λ z i. (in_shared z s t i).0) hold)

  shared_second : (s t : Locks) (k : ℕ) (p : Marks) → T k (shared s t) p → T k t p
  shared_second s t k p c j le mine hold = c j le mine (fewer_held t (shared s t) outside h.side mine (λ z i. (in_shared z s t i).1) hold)

  joined_first : (o q : Option Locks) (k : ℕ) (p : Marks) → Ends k (joined o q) p → Ends k o p
  joined_first (Some s) (Some t) k p c = shared_first s t k p c
  joined_first (Some s) None k p c = c
  joined_first None q k p c = tt

  joined_second : (o q : Option Locks) (k : ℕ) (p : Marks) → Ends k (joined o q) p → Ends k q p
  joined_second (Some s) (Some t) k p c = shared_second s t k p c
  joined_second None (Some t) k p c = c
  joined_second o None k p c = tt

  either_way : (k : ℕ) (s : Locks) (x : ℕ) (p q : Marks) → S k s p → S k s q → S k s (at_zero x p q)
  either_way k s x p q a b mine hold = at_zero_kept r runs k mine x p q (a mine hold) (b mine hold)

  -- ---- loops

  -- a place at which a loop is left, or goes on
  at_loop : (o : Option Loop) (k : ℕ) (s : Locks) (p : Marks) → ((l : Loop) × (o ≡ Some l)) → elim o as (λ x. List LockFinding) [ Some l ↦ loop_differs l s | None ↦ [] ] ≡ [] → Leaves k o p → S k s p
  at_loop (Some l) k s p i e c = subst (λ u. S k u p) (sym (loop_same l s e)) (c k (omega arith))
  at_loop None k s p i e c = let is = i.1 in absurd cc

  -- what is held after a part of a loop is what its start holds
  part_same : (w : Within) (from : ℕ) (s t : Locks) → loop_differs_in (inside w from s) t ≡ [] → t ≡ s
  part_same w from s t e = loop_same (record { from = from; start = s }) t e

  at_end : (w : Within) (from k : ℕ) (s : Locks) (o : Option Locks) (p : Marks) → loop_differs_at (inside w from s) o ≡ [] → T k s p → Ends k o p
  at_end w from k s (Some t) p e c = subst (λ u. T k u p) (sym (part_same w from s t e)) c
  at_end w from k s None p e c = tt

  -- the exits of a loop's body, which begins with what the loop's start holds
  in_body : (w : Within) (from k : ℕ) (s : Locks) (o : Option Locks) (x : Exits) (again : Marks) → loop_differs_at (inside w from s) o ≡ [] → T k s x.next → G k w.start x.give → T k s again → ExitsKept k (inside w from s) o (within x again)
  in_body w from k s o x again e next gives goes = record { ends = at_end w from k s o again e goes; stops = next; goes_on = goes; gives = gives }

  there : (w : Within) (from : ℕ) (s : Locks) → IsInLoop true (inside w from s)
  there w from s e = (record { from = from; start = s }, refl)

  -- the rounds of a `for`, where its first part goes on
  for_kept : (from : ℕ) (v last : MaybeValue) (a : Statement) (w : Within) (k : ℕ) (o : Option Locks) (x : Exits) (cs : C k) → InMaybe IsCall v → InMaybe IsCall last → for_found r w from v last a o ≡ [] → Ends k o x.next → G k w.start x.give
      → ((m : ℕ) → m ≤ k → (t : Locks) (y : Exits) → statement_found r (inside w from t) a t ≡ [] → ExitsKept m (inside w from t) (statement_after a t) y → S m t (statement a h y))
      → Ends k o (looping h.side (for_round h k cs.same v last a x))
  for_kept from v last a w k None x cs tv tl f e g body = tt
  for_kept from v last a w k (Some t) x cs tv tl f e g body =
      let i = inside w from t in
      let fs = in_neither (part_found r i v t) ((statement_found r i a t ++ loop_differs_at i (statement_after a t)) ++ part_found r i last t) f in
      let gs = in_neither (statement_found r i a t ++ loop_differs_at i (statement_after a t)) (part_found r i last t) fs.1 in
      let of_v = in_neither (maybe_found r v t) (loop_differs_in i (maybe_after v t)) fs.0 in
      let of_last = in_neither (maybe_found r last t) (loop_differs_in i (maybe_after last t)) gs.1 in
      let of_body = in_neither (statement_found r i a t) (loop_differs_at i (statement_after a t)) gs.0 in
      let after_v : t ≡ maybe_after v t = sym (part_same w from t (maybe_after v t) of_v.1) in
      let after_last : t ≡ maybe_after last t = sym (part_same w from t (maybe_after last t) of_last.1) in
      let again_kept : (m : ℕ) → m ≤ k → (again : Marks) → T m t again → T m t (maybe last h (λ n. again) again) =
      λ m lm again c q lq. maybe_kept r runs h outside last q t (λ n. again) again (less q k (omega arith) cs) tl of_last.0
      (subst (λ u. G q u (λ n. again)) after_last (λ q2 lq2 n. c q2 (omega arith))) (subst (λ u. T q u again) after_last (sooner q m t again lq c)) in
      let body_kept : (m : ℕ) → m ≤ k → (again : Marks) → T m t again → T m t (for_body h k cs.same last a x again) =
      λ m lm again c q lq. body q (omega arith) t (within x (maybe last h (λ n. again) again)) of_body.0
      (in_body w from q t (statement_after a t) x (maybe last h (λ n. again) again) of_body.1 (sooner q k t x.next (omega arith) e) (later r runs outside h.side q k w.start x.give (omega arith) g) (sooner q m t (maybe last h (λ n. again) again) lq (again_kept m lm again c))) in
      λ j le. looping_kept r runs outside h.side j t (for_round h k cs.same v last a x) (for_alike h j (less j k le cs).same v last a x)
      (λ m lm again c.
      let there_kept : T m t (for_body h k cs.same last a x again) = body_kept m (omega arith) again c in
      maybe_kept r runs h outside v m t (λ n. at_zero n x.next (for_body h k cs.same last a x again)) (for_body h k cs.same last a x again) (less m k (omega arith) cs) tv of_v.0
      (subst (λ u. G m u (λ n. at_zero n x.next (for_body h k cs.same last a x again))) after_v (λ q lq n. either_way q t n x.next (for_body h k cs.same last a x again) (e q (omega arith)) (there_kept q lq)))
      (subst (λ u. T m u (for_body h k cs.same last a x again)) after_v there_kept))

  -- the rest of a block, where the statement before it goes on
  rest_kept : (zs : Statements) (w : Within) (k : ℕ) (o : Option Locks) (x : Exits) → rest_found r w zs o ≡ [] → ExitsKept k w (rest_after zs o) x
      → ((j : ℕ) → j ≤ k → (t : Locks) → statements_found r w zs t ≡ [] → ExitsKept j w (statements_after zs t) x → S j t (statements zs h x))
      → Ends k o (statements zs h x)
  rest_kept zs w k (Some t) x f e next = λ j le. next j le t f (exits_sooner j k w (statements_after zs t) x le e)
  rest_kept zs w k None x f e next = tt

  mutual
    pub statement_kept : (z : Statement) (l : Bool) (w : Within) (k : ℕ) (s : Locks) (x : Exits) → C k → InStatement IsCall l z → IsInLoop l w → statement_found r w z s ≡ [] → ExitsKept k w (statement_after z s) x → S k s (statement z h x)
    statement_kept (Block zs) l w k s x cs ty il f e = statements_kept zs l w k s x cs ty il f e
    statement_kept (Evaluate v) l w k s x cs ty il f e = value_kept r runs h outside v false k s (λ n. x.next) cs ty f (λ j le n. e.ends j le)
    statement_kept (Initialise place t v) l w k s x cs ty il f e =
        value_kept r runs h outside v false k s (λ n. store h None t (local_address h place) n x.next) cs ty f
        (λ j le n. local_kept r runs h outside j (value_after v s) t (local_address h place) n x.next (sooner j k (value_after v s) x.next le e.ends))
    statement_kept (If v a) l w k s x cs ty il f e =
        let t = value_after v s in
        let fs = in_neither (value_found r false v s) (statement_found r w a t) f in
        value_kept r runs h outside v false k s (λ n. at_zero n x.next (statement a h x)) cs ty.0 fs.0
        (λ j le n. either_way j t n x.next (statement a h x)
        (joined_first (Some t) (statement_after a t) k x.next e.ends j le)
        (statement_kept a l w j t x (less j k le cs) ty.1 il fs.1
        (exits_sooner j k w (statement_after a t) x le (ending k w (joined (Some t) (statement_after a t)) (statement_after a t) x (joined_second (Some t) (statement_after a t) k x.next e.ends) e))))
    statement_kept (IfElse v a b) l w k s x cs ty il f e =
        let t = value_after v s in
        let p = statement_after a t in
        let q = statement_after b t in
        let fs = in_neither (value_found r false v s) (statement_found r w a t ++ statement_found r w b t) f in
        let gs = in_neither (statement_found r w a t) (statement_found r w b t) fs.1 in
        value_kept r runs h outside v false k s (λ n. at_zero n (statement b h x) (statement a h x)) cs ty.0 fs.0
        (λ j le n. either_way j t n (statement b h x) (statement a h x)
        (statement_kept b l w j t x (less j k le cs) ty.2 il gs.1 (exits_sooner j k w q x le (ending k w (joined p q) q x (joined_second p q k x.next e.ends) e)))
        (statement_kept a l w j t x (less j k le cs) ty.1 il gs.0 (exits_sooner j k w p x le (ending k w (joined p q) p x (joined_first p q k x.next e.ends) e))))
    statement_kept (While from v a) l w k s x cs ty il f e =
        let i = inside w from s in
        let fs = in_neither (value_found r false v s ++ loop_differs_in i (value_after v s)) (statement_found r i a s ++ loop_differs_at i (statement_after a s)) f in
        let of_value = in_neither (value_found r false v s) (loop_differs_in i (value_after v s)) fs.0 in
        let of_body = in_neither (statement_found r i a s) (loop_differs_at i (statement_after a s)) fs.1 in
        let kept_after : s ≡ value_after v s = sym (part_same w from s (value_after v s) of_value.1) in
        looping_kept r runs outside h.side k s (λ p. value v h (λ n. at_zero n x.next (statement a h (within x p)))) (while_alike h k cs.same v a x)
        (λ j le again c. value_kept r runs h outside v false j s (λ n. at_zero n x.next (statement a h (within x again))) (less j k le cs) ty.0 of_value.0
        (λ m lm n. subst (λ u. S m u (at_zero n x.next (statement a h (within x again)))) kept_after
        (either_way m s n x.next (statement a h (within x again)) (e.ends m (omega arith))
        (statement_kept a true i m s (within x again) (less m k (omega arith) cs) ty.1 (there w from s) of_body.0
        (in_body w from m s (statement_after a s) x again of_body.1 (sooner m k s x.next (omega arith) e.ends) (later r runs outside h.side m k w.start x.give (omega arith) e.gives) (sooner m j s again lm c))))))
    statement_kept (Do from a v) l w k s x cs ty il f e =
        let i = inside w from s in
        let fs = in_neither (statement_found r i a s ++ loop_differs_at i (statement_after a s)) (value_found r false v s ++ loop_differs_in i (value_after v s)) f in
        let of_value = in_neither (value_found r false v s) (loop_differs_in i (value_after v s)) fs.1 in
        let of_body = in_neither (statement_found r i a s) (loop_differs_at i (statement_after a s)) fs.0 in
        let kept_after : s ≡ value_after v s = sym (part_same w from s (value_after v s) of_value.1) in
        looping_kept r runs outside h.side k s (λ p. statement a h (within x (value v h (λ n. at_zero n x.next p)))) (do_alike h k cs.same v a x)
        (λ j le again c.
        let tested : T j s (value v h (λ n. at_zero n x.next again)) =
        λ m lm. value_kept r runs h outside v false m s (λ n. at_zero n x.next again) (less m k (omega arith) cs) ty.1 of_value.0
        (λ q lq n. subst (λ u. S q u (at_zero n x.next again)) kept_after (either_way q s n x.next again (e.ends q (omega arith)) (c q (omega arith)))) in
        statement_kept a true i j s (within x (value v h (λ n. at_zero n x.next again))) (less j k le cs) ty.0 (there w from s) of_body.0
        (in_body w from j s (statement_after a s) x (value v h (λ n. at_zero n x.next again)) of_body.1 (sooner j k s x.next le e.ends) (later r runs outside h.side j k w.start x.give le e.gives) tested))
    statement_kept (For from first v last a) l w k s x cs ty il f e =
        let o = statements_after first s in
        let fs = in_neither (statements_found r w first s) (for_found r w from v last a o) f in
        let next = looping h.side (for_round h k cs.same v last a x) in
        let looped : Ends k o next =
        for_kept from v last a w k o x cs ty.1 ty.2 fs.1 e.ends e.gives
        (λ m lm t y found ex. statement_kept a true (inside w from t) m t y (less m k lm cs) ty.3 (there w from t) found ex) in
        statements_kept first l w k s (record x { next = next }) cs ty.0 il fs.0 (record { ends = looped; stops = e.stops; goes_on = e.goes_on; gives = e.gives })
    statement_kept Break l w k s x cs ty il f e = at_loop w.loop k s x.stop (il ty) f e.stops
    statement_kept Continue l w k s x cs ty il f e = at_loop w.loop k s x.again (il ty) f e.goes_on
    statement_kept (Return from v) l w k s x cs ty il f e =
        let fs = in_neither (maybe_found r v s) (return_differs w from (maybe_after v s)) f in
        let kept_after : w.start ≡ maybe_after v s = sym (return_same w from (maybe_after v s) fs.1) in
        maybe_kept r runs h outside v k s x.give (x.give 0) cs ty fs.0 (subst (λ u. G k u x.give) kept_after e.gives) (subst (λ u. T k u (x.give 0)) kept_after (λ j le. e.gives j le 0))

    pub statements_kept : (zs : Statements) (l : Bool) (w : Within) (k : ℕ) (s : Locks) (x : Exits) → C k → InStatements IsCall l zs → IsInLoop l w → statements_found r w zs s ≡ [] → ExitsKept k w (statements_after zs s) x → S k s (statements zs h x)
    statements_kept NoStatements l w k s x cs ty il f e = e.ends k (omega arith)
    statements_kept (MoreStatements z zs) l w k s x cs ty il f e =
        let o = statement_after z s in
        let fs = in_neither (statement_found r w z s) (rest_found r w zs o) f in
        let next : Ends k o (statements zs h x) = rest_kept zs w k o x fs.1 e (λ j le t found ex. statements_kept zs l w j t x (less j k le cs) ty.1 il found ex) in
        statement_kept z l w k s (record x { next = statements zs h x }) cs ty.0 il fs.0 (record { ends = next; stops = e.stops; goes_on = e.goes_on; gives = e.gives })
