-- The code of a statement makes the marks of the statement.
use Rattle.std.proofs.Common.{◌≡◌, ℕ, zero, suc, ◌+◌, ◌<◌, ◌≤◌, List, ◌∷◌, length, Some, None, sym, ap, ◌∙◌, subst, arith}
use Rattle.std.specs.Prelude.{slice_get}
use Rattle.marks.specs.Wants.{Turns}
use Rattle.c_code.specs.declared.instr.Push.TheVariants.{Number}
use Rattle.c_code.specs.declared.instr.Instr.TheVariants as instr
use Rattle.c_code.specs.declared.activation.Waiting.{Waiting}
use Rattle.c_code.specs.Values.{at_zero}
use Rattle.c_code.specs.Machine.{Flat, Laid, Config, Going, Asks}
use Rattle.c_code.specs.MarkLists.{Reading, Wants, next_of, step}
use Rattle.c_types_rules.specs.TypedTree.{MaybeValue, NoValue, OneValue, Statement, Statements, Block, Evaluate, Initialise, If, IfElse, While, Do, For, Break, Continue, Return, NoStatements, MoreStatements}
use Rattle.c_semantics.specs.Reading.{Marks}
use Rattle.c_semantics.specs.Context.{Source, kind_of}
use Rattle.c_semantics.specs.Values.{local_address, store, value}
use Rattle.c_semantics.specs.Statements.{Exits, looping, maybe, rounds, statement, statements, within}
use Rattle.c_lower_placement.specs.Places.{GoesBack}
use Rattle.c_lower_placement.specs.Placement.{LastAt, ReturnAt, StatementAt, StatementsAt, TestAt, offset_of}
use Rattle.c_lower_placement.proofs.Agree.{Agree, acting, by_ask, fewer}
use Rattle.c_lower_placement.proofs.Expressions.{Spot, stand, l, here_at, against_at, CallsAgree, fewer_calls, pushes, drops, skips, goes_on, store_local_agrees, value_agrees}

module _ (r : Reading) (s : Source) (code : Flat) where
  abbrev lay : Laid
  lay = l r s code

  -- what is said at each exit of a statement is what code says where it leads; a result is on top before a Finish
  pub record Leads (n : ℕ) (p : Spot) (x : Exits) (to stop again : ℕ) (stack : List ℕ) (ws : List Waiting) : Type 0 where
    pub next : Agree r lay n x.next (Going (stand p to) stack ws)
    pub stops : Agree r lay n x.stop (Going (stand p stop) stack ws)
    pub goes : Agree r lay n x.again (Going (stand p again) stack ws)
    pub gives : (at : ℕ) → slice_get code.instrs at ≡ Some instr.Finish → (v : ℕ) → Agree r lay n (x.give v) (Going (stand p at) (v ∷ stack) ws)

  fewer_leads : (j n : ℕ) (p : Spot) (x : Exits) (to stop again : ℕ) (stack : List ℕ) (ws : List Waiting) → j ≤ n → Leads n p x to stop again stack ws → Leads j p x to stop again stack ws
  fewer_leads j n p x to stop again stack ws le h = record {
    next = fewer r lay j n x.next (Going (stand p to) stack ws) le h.next;
    stops = fewer r lay j n x.stop (Going (stand p stop) stack ws) le h.stops;
    goes = fewer r lay j n x.again (Going (stand p again) stack ws) le h.goes;
    gives = λ at e v. fewer r lay j n (x.give v) (Going (stand p at) (v ∷ stack) ws) le (h.gives at e v);
  }

  moves : (n : ℕ) (q : Marks) (p : Spot) (at to : ℕ) (stack : List ℕ) (ws : List Waiting) → at ≡ to → Agree r lay n q (Going (stand p to) stack ws) → Agree r lay n q (Going (stand p at) stack ws)
  moves n q p at to stack ws e k = subst (λ z. Agree r lay n q (Going (stand p z) stack ws)) (sym e) k

  -- ---- loops

  -- a configuration that makes the Turn of a loop, and goes on after it
  abbrev Turning : Spot → ℕ → List ℕ → List Waiting → Config → Type 0
  Turning p head stack ws c = step r lay c ≡ Wants p.side Turns (λ x. Going (stand p head) stack ws)

  -- a round, from after the Turn to the next one
  abbrev RoundAgrees : ℕ → Spot → (Marks → Marks) → ℕ → List ℕ → List Waiting → Type 0
  RoundAgrees n p round head stack ws =
      (j : ℕ) → j < n → (again : Marks) → ((c : Config) → Turning p head stack ws c → Agree r lay j again c) → Agree r lay j (round again) (Going (stand p head) stack ws)

  turn : (k n : ℕ) (p : Spot) (round : Marks → Marks) (head : ℕ) (stack : List ℕ) (ws : List Waiting) (c : Config) → n < k → RoundAgrees n p round head stack ws → Turning p head stack ws c → Agree r lay n (rounds k p.side round) c
  turn zero n p round head stack ws c lt h e = absurd (omega arith)
  turn (suc k) n p round head stack ws c lt h e =
      by_ask r lay n p.side Turns (λ x. round (rounds k p.side round)) (λ x. Going (stand p head) stack ws) c e
      (λ a j less. h j less (rounds k p.side round) (λ d f. turn k j p round head stack ws d (omega arith) (λ i li. h i (omega arith)) f))

  loops : (n : ℕ) (p : Spot) (round : Marks → Marks) (head : ℕ) (stack : List ℕ) (ws : List Waiting) (c : Config) → RoundAgrees n p round head stack ws → Turning p head stack ws c → Agree r lay n (looping p.side round) c
  loops n p round head stack ws c h e ms few =
      turn (suc (length ms)) (length ms) p round head stack ws c (omega arith) (λ j lt. h j (omega arith)) e ms (omega arith)

  -- the head of a loop, and its way back
  at_head : (p : Spot) (at : ℕ) (stack : List ℕ) (ws : List Waiting) → slice_get code.instrs at ≡ Some instr.Turn → Turning p (at + 1) stack ws (Going (stand p at) stack ws)
  at_head p at stack ws e = ap (next_of r lay) (acting r lay instr.Turn (stand p at) stack ws e)

  at_back : (p : Spot) (at head : ℕ) (stack : List ℕ) (ws : List Waiting) → GoesBack code.instrs at head → Turning p head stack ws (Going (stand p at) stack ws)
  at_back p at head stack ws g =
      ap (next_of r lay) (acting r lay (instr.GoBack g.by) (stand p at) stack ws g.here) ∙ ap (λ z. next_of r lay (Asks p.side Turns (λ x. Going (stand p z) stack ws))) g.lands

  -- ---- parts of statements

  test_agrees : (v : MaybeValue) (n : ℕ) (p : Spot) (at to end : ℕ) (done body : Marks) (stack : List ℕ) (ws : List Waiting) → CallsAgree r s code n p → TestAt v (against_at r s code p) at to end
      → Agree r lay n done (Going (stand p end) stack ws) → Agree r lay n body (Going (stand p to) stack ws) → Agree r lay n (maybe v (here_at r s code p) (λ x. at_zero x done body) body) (Going (stand p at) stack ws)
  test_agrees NoValue n p at to end done body stack ws cs h d b = moves n body p at to stack ws h b
  test_agrees (OneValue v) n p at to end done body stack ws cs h d b =
      value_agrees r s code v n p at h.0 (λ x. at_zero x done body) stack ws cs h.1 (λ x. skips r s code n done body p h.0 end x stack ws h.2 d (moves n body p (h.0 + 1) to stack ws h.3 b))

  last_agrees : (v : MaybeValue) (n : ℕ) (p : Spot) (at to : ℕ) (q : Marks) (stack : List ℕ) (ws : List Waiting) → CallsAgree r s code n p → LastAt v (against_at r s code p) at to → Agree r lay n q (Going (stand p to) stack ws)
      → Agree r lay n (maybe v (here_at r s code p) (λ x. q) q) (Going (stand p at) stack ws)
  last_agrees NoValue n p at to q stack ws cs h k = moves n q p at to stack ws h k
  last_agrees (OneValue v) n p at to q stack ws cs h k = value_agrees r s code v n p at h.0 (λ x. q) stack ws cs h.1 (λ x. drops r s code n q p h.0 to x stack ws h.2 k)

  return_agrees : (v : MaybeValue) (n : ℕ) (p : Spot) (at to : ℕ) (give : ℕ → Marks) (stack : List ℕ) (ws : List Waiting) → CallsAgree r s code n p → ReturnAt v (against_at r s code p) at to
      → ((m : ℕ) → slice_get code.instrs m ≡ Some instr.Finish → (x : ℕ) → Agree r lay n (give x) (Going (stand p m) (x ∷ stack) ws)) → Agree r lay n (maybe v (here_at r s code p) give (give 0)) (Going (stand p at) stack ws)
  return_agrees NoValue n p at to give stack ws cs h k = pushes r s code n (give 0) p (Number 0) at h.0 stack ws h.1 (k h.0 h.2.here 0)
  return_agrees (OneValue v) n p at to give stack ws cs h k = value_agrees r s code v n p at h.0 give stack ws cs h.1 (k h.0 h.2.here)

  mutual
    pub statement_agrees : (z : Statement) (n : ℕ) (p : Spot) (at to stop again : ℕ) (x : Exits) (stack : List ℕ) (ws : List Waiting) → CallsAgree r s code n p → StatementAt z (against_at r s code p) at to stop again → Leads n p x to stop again stack ws
        → Agree r lay n (statement z (here_at r s code p) x) (Going (stand p at) stack ws)
    statement_agrees (Block zs) n p at to stop again x stack ws cs h k = statements_agree zs n p at to stop again x stack ws cs h k
    statement_agrees (Evaluate v) n p at to stop again x stack ws cs h k =
        value_agrees r s code v n p at h.0 (λ m. x.next) stack ws cs h.1 (λ m. drops r s code n x.next p h.0 to m stack ws h.2 k.next)
    statement_agrees (Initialise place t v) n p at to stop again x stack ws cs h k =
        let here = here_at r s code p in
        value_agrees r s code v n p at h.0 (λ m. store here None t (local_address here place) m x.next) stack ws cs h.1
        (λ m. store_local_agrees r s code n (kind_of t) (offset_of (against_at r s code p) place) x.next p h.0 to m stack ws h.2 k.next)
    statement_agrees (If v z) n p at to stop again x stack ws cs h k =
        value_agrees r s code v n p at h.0 (λ m. at_zero m x.next (statement z (here_at r s code p) x)) stack ws cs h.1
        (λ m. skips r s code n x.next (statement z (here_at r s code p) x) p h.0 to m stack ws h.2 k.next (statement_agrees z n p (h.0 + 1) to stop again x stack ws cs h.3 k))
    statement_agrees (IfElse v z y) n p at to stop again x stack ws cs h k =
        let first : Leads n p x h.1 stop again stack ws = record { next = goes_on r s code n x.next p h.1 to stack ws h.5 k.next; stops = k.stops; goes = k.goes; gives = k.gives } in
        value_agrees r s code v n p at h.0 (λ m. at_zero m (statement y (here_at r s code p) x) (statement z (here_at r s code p) x)) stack ws cs h.2
        (λ m. skips r s code n (statement y (here_at r s code p) x) (statement z (here_at r s code p) x) p h.0 (h.1 + 1) m stack ws h.3
        (statement_agrees y n p (h.1 + 1) to stop again x stack ws cs h.6 k) (statement_agrees z n p (h.0 + 1) h.1 stop again x stack ws cs h.4 first))
    statement_agrees (While from v z) n p at to stop again x stack ws cs h k =
        let body : Marks → Marks = λ q. statement z (here_at r s code p) (within x q) in
        loops n p (λ q. value v (here_at r s code p) (λ m. at_zero m x.next (body q))) (at + 1) stack ws (Going (stand p at) stack ws)
        (λ j lt q back.
        let ds = fewer_calls r s code j n p (omega arith) cs in
        let e = fewer_leads j n p x to stop again stack ws (omega arith) k in
        let looped = back (Going (stand p h.1) stack ws) (at_back p h.1 (at + 1) stack ws h.6) in
        value_agrees r s code v j p (at + 1) h.0 (λ m. at_zero m x.next (body q)) stack ws ds h.3
        (λ m. skips r s code j x.next (body q) p h.0 to m stack ws h.4 e.next
        (statement_agrees z j p (h.0 + 1) h.1 to h.1 (within x q) stack ws ds h.5 (record { next = looped; stops = e.next; goes = looped; gives = e.gives }))))
        (at_head p at stack ws h.2)
    statement_agrees (Do from z v) n p at to stop again x stack ws cs h k =
        let test : Marks → Marks = λ q. value v (here_at r s code p) (λ m. at_zero m x.next q) in
        loops n p (λ q. statement z (here_at r s code p) (within x (test q))) (at + 1) stack ws (Going (stand p at) stack ws)
        (λ j lt q back.
        let ds = fewer_calls r s code j n p (omega arith) cs in
        let e = fewer_leads j n p x to stop again stack ws (omega arith) k in
        let looped = back (Going (stand p (h.1 + 1)) stack ws) (at_back p (h.1 + 1) (at + 1) stack ws h.6) in
        let tested : Agree r lay j (test q) (Going (stand p h.0) stack ws) =
        value_agrees r s code v j p h.0 h.1 (λ m. at_zero m x.next q) stack ws ds h.4 (λ m. skips r s code j x.next q p h.1 to m stack ws h.5 e.next looped) in
        statement_agrees z j p (at + 1) h.0 to h.0 (within x (test q)) stack ws ds h.3 (record { next = tested; stops = e.next; goes = tested; gives = e.gives }))
        (at_head p at stack ws h.2)
    statement_agrees (For from first v last z) n p at to stop again x stack ws cs h k =
        let here = here_at r s code p in
        let ending : Marks → Marks = λ q. maybe last here (λ m. q) q in
        let body : Marks → Marks = λ q. statement z here (within x (ending q)) in
        let round : Marks → Marks = λ q. maybe v here (λ m. at_zero m x.next (body q)) (body q) in
        let looped : Agree r lay n (looping p.side round) (Going (stand p h.0) stack ws) =
        loops n p round (h.0 + 1) stack ws (Going (stand p h.0) stack ws)
        (λ j lt q back.
        let ds = fewer_calls r s code j n p (omega arith) cs in
        let e = fewer_leads j n p x to stop again stack ws (omega arith) k in
        let turned = back (Going (stand p h.3) stack ws) (at_back p h.3 (h.0 + 1) stack ws h.9) in
        let ended : Agree r lay j (ending q) (Going (stand p h.2) stack ws) = last_agrees last j p h.2 h.3 q stack ws ds h.8 turned in
        let bodied : Agree r lay j (body q) (Going (stand p h.1) stack ws) =
        statement_agrees z j p h.1 h.2 to h.2 (within x (ending q)) stack ws ds h.7 (record { next = ended; stops = e.next; goes = ended; gives = e.gives }) in
        test_agrees v j p (h.0 + 1) h.1 to x.next (body q) stack ws ds h.6 e.next bodied)
        (at_head p h.0 stack ws h.5) in
        statements_agree first n p at h.0 stop again (record x { next = looping p.side round }) stack ws cs h.4 (record { next = looped; stops = k.stops; goes = k.goes; gives = k.gives })
    statement_agrees Break n p at to stop again x stack ws cs h k = goes_on r s code n x.stop p at stop stack ws h.0 k.stops
    statement_agrees Continue n p at to stop again x stack ws cs h k = goes_on r s code n x.again p at again stack ws h.0 k.goes
    statement_agrees (Return from v) n p at to stop again x stack ws cs h k = return_agrees v n p at to x.give stack ws cs h k.gives

    pub statements_agree : (zs : Statements) (n : ℕ) (p : Spot) (at to stop again : ℕ) (x : Exits) (stack : List ℕ) (ws : List Waiting) → CallsAgree r s code n p → StatementsAt zs (against_at r s code p) at to stop again → Leads n p x to stop again stack ws
        → Agree r lay n (statements zs (here_at r s code p) x) (Going (stand p at) stack ws)
    statements_agree NoStatements n p at to stop again x stack ws cs h k = moves n x.next p at to stack ws h k.next
    statements_agree (MoreStatements z zs) n p at to stop again x stack ws cs h k =
        statement_agrees z n p at h.0 stop again (record x { next = statements zs (here_at r s code p) x }) stack ws cs h.1
        (record { next = statements_agree zs n p h.0 to stop again x stack ws cs h.2 k; stops = k.stops; goes = k.goes; gives = k.gives })
