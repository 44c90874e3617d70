-- A right list of a statement's marks stays right when it is cut short.
use Rattle.std.proofs.Common.{ℕ, zero, suc, ◌<◌, None, arith}
use Rattle.marks.specs.declared.side.Side.{Side}
use Rattle.marks.specs.Wants.{Turns}
use Rattle.c_code.specs.Values.{at_zero}
use Rattle.c_types_rules.specs.TypedTree.{MaybeValue, NoValue, OneValue, Statement, Statements, Block, Evaluate, Initialise, If, IfElse, While, Do, For, Break, Continue, Return, NoStatements, MoreStatements}
use Rattle.c_semantics.specs.Reading.{Marks}
use Rattle.c_semantics.specs.Values.{Here, value, store, local_address}
use Rattle.c_semantics.specs.Statements.{Exits, looping, maybe, rounds, statement, statements, within}
use Rattle.c_semantics.proofs.Relations.{Bounds, AtMost, Relation, FollowsPlain, Cuts, lower, through, weaker_all, cut_at_zero}
use Rattle.c_semantics.proofs.ValuePrefixes.{Makes, making_calls, CallsCut, fewer, store_cut, value_cut}

-- what follows a statement is cut at each exit
pub record ExitsCut (R : Relation) (k : Bounds) (x y : Exits) : Type 0 where
  pub next : R.rel k x.next y.next
  pub stop : R.rel k x.stop y.stop
  pub again : R.rel k x.again y.again
  pub give : Cuts R k x.give y.give

pub fewer_exits : (R : Relation) → (j k : Bounds) (x y : Exits) → AtMost j k → ExitsCut R k x y → ExitsCut R j x y
fewer_exits R j k x y le c = record {
  next = R.weaker j k x.next y.next le c.next;
  stop = R.weaker j k x.stop y.stop le c.stop;
  again = R.weaker j k x.again y.again le c.again;
  give = weaker_all R j k x.give y.give le c.give;
}

-- a round is cut as the round after it
abbrev pub RoundCut : (R : Relation) → Bounds → (Marks → Marks) → (Marks → Marks) → Type 0
RoundCut R k p q = (j : Bounds) → AtMost j k → (again on : Marks) → R.rel j again on → R.rel j (p again) (q on)

pub rounds_cut : (R : Relation) → (n m : ℕ) (k : Bounds) (side : Side) (p q : Marks → Marks) → FollowsPlain R side → k.left < n → k.right < m → RoundCut R k p q → R.rel k (rounds n side p) (rounds m side q)
rounds_cut R zero m k side p q ok fl fr c = absurd (omega arith)
rounds_cut R (suc n) zero k side p q ok fl fr c = absurd (omega arith)
rounds_cut R (suc n) (suc m) k side p q ok fl fr c =
    R.asks k side Turns (ok Turns tt) (λ x. p (rounds n side p)) (λ x. q (rounds m side q)) (λ x j lt.
    let less : j.left < n = let a = lt.0 in omega arith in
    let fewer : j.right < m = let a = lt.1 in omega arith in
    c j (lower j k lt) (rounds n side p) (rounds m side q) (rounds_cut R n m j side p q ok less fewer (λ i li. c i (through i j k li (lower j k lt)))))

pub looping_cut : (R : Relation) → (k : Bounds) (side : Side) (p q : Marks → Marks) → FollowsPlain R side → RoundCut R k p q → R.rel k (looping side p) (looping side q)
looping_cut R k side p q ok c = R.counted k (λ n. rounds n side p) (λ m. rounds m side q) (λ j n m le fl fr. rounds_cut R n m j side p q ok fl fr (λ i li. c i (through i j k li le)))

maybe_cut : (R : Relation) → (v : MaybeValue) (k : Bounds) (h : Here) (m : Makes) (go on : ℕ → Marks) (p q : Marks) → CallsCut R k h m → Cuts R k go on → R.rel k p q → R.rel k (maybe v h go p) (maybe v (making_calls h m) on q)
maybe_cut R NoValue k h m go on p q cs c d = d
maybe_cut R (OneValue v) k h m go on p q cs c d = value_cut R v k h m go on cs c

within_cut : (R : Relation) → (k : Bounds) (x y : Exits) (p q : Marks) → ExitsCut R k x y → R.rel k p q → ExitsCut R k (within x p) (within y q)
within_cut R k x y p q c d = record { next = d; stop = c.next; again = d; give = c.give }

mutual
  pub statement_cut : (R : Relation) → (s : Statement) (k : Bounds) (h : Here) (m : Makes) (x y : Exits) → CallsCut R k h m → ExitsCut R k x y → R.rel k (statement s h x) (statement s (making_calls h m) y)
  statement_cut R (Block ss) k h m x y cs c = statements_cut R ss k h m x y cs c
  statement_cut R (Evaluate v) k h m x y cs c = value_cut R v k h m (λ n. x.next) (λ n. y.next) cs (λ n. c.next)
  statement_cut R (Initialise place t v) k h m x y cs c =
      value_cut R v k h m (λ n. store h None t (local_address h place) n x.next) (λ n. store (making_calls h m) None t (local_address h place) n y.next) cs (λ n. store_cut R k h m None t (local_address h place) n x.next y.next cs.plain c.next)
  statement_cut R (If v s) k h m x y cs c =
      value_cut R v k h m (λ n. at_zero n x.next (statement s h x)) (λ n. at_zero n y.next (statement s (making_calls h m) y)) cs
      (λ n. cut_at_zero R k n x.next y.next (statement s h x) (statement s (making_calls h m) y) c.next (statement_cut R s k h m x y cs c))
  statement_cut R (IfElse v s z) k h m x y cs c =
      value_cut R v k h m (λ n. at_zero n (statement z h x) (statement s h x)) (λ n. at_zero n (statement z (making_calls h m) y) (statement s (making_calls h m) y)) cs
      (λ n. cut_at_zero R k n (statement z h x) (statement z (making_calls h m) y) (statement s h x) (statement s (making_calls h m) y) (statement_cut R z k h m x y cs c) (statement_cut R s k h m x y cs c))
  statement_cut R (While from v s) k h m x y cs c =
      looping_cut R k h.side (λ p. value v h (λ n. at_zero n x.next (statement s h (within x p)))) (λ q. value v (making_calls h m) (λ n. at_zero n y.next (statement s (making_calls h m) (within y q)))) cs.plain
      (λ j le p q d.
      let ds = fewer R j k h m le cs in
      let e = fewer_exits R j k x y le c in
      value_cut R v j h m (λ n. at_zero n x.next (statement s h (within x p))) (λ n. at_zero n y.next (statement s (making_calls h m) (within y q))) ds
      (λ n. cut_at_zero R j n x.next y.next (statement s h (within x p)) (statement s (making_calls h m) (within y q)) e.next (statement_cut R s j h m (within x p) (within y q) ds (within_cut R j x y p q e d))))
  statement_cut R (Do from s v) k h m x y cs c =
      looping_cut R k h.side (λ p. statement s h (within x (value v h (λ n. at_zero n x.next p)))) (λ q. statement s (making_calls h m) (within y (value v (making_calls h m) (λ n. at_zero n y.next q)))) cs.plain
      (λ j le p q d.
      let ds = fewer R j k h m le cs in
      let e = fewer_exits R j k x y le c in
      statement_cut R s j h m (within x (value v h (λ n. at_zero n x.next p))) (within y (value v (making_calls h m) (λ n. at_zero n y.next q))) ds
      (within_cut R j x y (value v h (λ n. at_zero n x.next p)) (value v (making_calls h m) (λ n. at_zero n y.next q)) e
      (value_cut R v j h m (λ n. at_zero n x.next p) (λ n. at_zero n y.next q) ds (λ n. cut_at_zero R j n x.next y.next p q e.next d))))
  statement_cut R (For from first v last s) k h m x y cs c =
      let body : Exits → Here → Marks → Marks = λ z g p. statement s g (within z (maybe last g (λ n. p) p)) in
      let round : Exits → Here → Marks → Marks = λ z g p. maybe v g (λ n. at_zero n z.next (body z g p)) (body z g p) in
      let body_cut : (j : Bounds) → AtMost j k → (p q : Marks) → R.rel j p q → R.rel j (body x h p) (body y (making_calls h m) q) =
      λ j le p q d.
      let ds = fewer R j k h m le cs in
      let e = fewer_exits R j k x y le c in
      statement_cut R s j h m (within x (maybe last h (λ n. p) p)) (within y (maybe last (making_calls h m) (λ n. q) q)) ds
      (within_cut R j x y (maybe last h (λ n. p) p) (maybe last (making_calls h m) (λ n. q) q) e (maybe_cut R last j h m (λ n. p) (λ n. q) p q ds (λ n. d) d)) in
      let looped : R.rel k (looping h.side (round x h)) (looping h.side (round y (making_calls h m))) =
      looping_cut R k h.side (round x h) (round y (making_calls h m)) cs.plain (λ j le p q d.
      let ds = fewer R j k h m le cs in
      let e = fewer_exits R j k x y le c in
      maybe_cut R v j h m (λ n. at_zero n x.next (body x h p)) (λ n. at_zero n y.next (body y (making_calls h m) q)) (body x h p) (body y (making_calls h m) q) ds
      (λ n. cut_at_zero R j n x.next y.next (body x h p) (body y (making_calls h m) q) e.next (body_cut j le p q d)) (body_cut j le p q d)) in
      statements_cut R first k h m (record x { next = looping h.side (round x h) }) (record y { next = looping h.side (round y (making_calls h m)) }) cs
      (record { next = looped; stop = c.stop; again = c.again; give = c.give })
  statement_cut R Break k h m x y cs c = c.stop
  statement_cut R Continue k h m x y cs c = c.again
  statement_cut R (Return from v) k h m x y cs c = maybe_cut R v k h m x.give y.give (x.give 0) (y.give 0) cs c.give (c.give 0)

  pub statements_cut : (R : Relation) → (ss : Statements) (k : Bounds) (h : Here) (m : Makes) (x y : Exits) → CallsCut R k h m → ExitsCut R k x y → R.rel k (statements ss h x) (statements ss (making_calls h m) y)
  statements_cut R NoStatements k h m x y cs c = c.next
  statements_cut R (MoreStatements s ss) k h m x y cs c =
      statement_cut R s k h m (record x { next = statements ss h x }) (record y { next = statements ss (making_calls h m) y }) cs
      (record { next = statements_cut R ss k h m x y cs c; stop = c.stop; again = c.again; give = c.give })
