-- Loops: how many rounds may follow doesn't matter, and each begins with the mutexes of the loop's start.
use Rattle.std.proofs.Common.{◌≡◌, ℕ, zero, suc, ◌<◌, ◌≤◌, Bool, List, length, refl, arith}
use Rattle.marks.specs.declared.side.Side.{Side}
use Rattle.marks.specs.Marks.{Mark}
use Rattle.marks.specs.Wants.{Turns}
use Rattle.c_code.specs.Values.{at_zero}
use Rattle.c_types_rules.specs.TypedTree.{MaybeValue, NoValue, OneValue, Value, Statement}
use Rattle.c_semantics.specs.Reading.{Marks}
use Rattle.c_semantics.specs.Values.{Here, value}
use Rattle.c_semantics.specs.Statements.{Exits, looping, maybe, rounds, statement, within}
use Rattle.c_semantics.proofs.Relations.{Bounds, AtMost, Cuts, FollowsPlain, cut_at_zero, through}
use Rattle.c_semantics.proofs.ReplayMarks.{bounds}
use Rattle.c_semantics.proofs.ValuePrefixes.{CallsCut, fewer, value_cut}
use Rattle.c_semantics.proofs.StatementPrefixes.{ExitsCut, RoundCut, rounds_cut, statement_cut}
use Rattle.lockset_check_rules.specs.Mutexes.{Locks}
use Rattle.lockset_check_rules.specs.Guards.{Guarded}
use Rattle.lockset_check_threads.proofs.Asked.{AllAllowed, allowed_alike}
use Rattle.lockset_check_threads.proofs.Fuel.{alike, alike_is, all_alike, is_alike}
use Rattle.lockset_check_threads.proofs.Places.{Starts, Then, asks, own_calls}

plain_alike : (side : Side) → FollowsPlain alike side
plain_alike side want plain = all_alike side want

pub itself_alike : (k : Bounds) (p : Marks) → alike.rel k p p
itself_alike k p = is_alike k p p (λ ms few less. refl)

-- the round of one count and of another
pub rounds_alike : (n m k : ℕ) (side : Side) (round : Marks → Marks) → k < n → k < m → RoundCut alike (bounds k k) round round → (ms : List Mark) → length ms ≤ k → rounds n side round ms ≡ rounds m side round ms
rounds_alike n m k side round low high c ms few = alike_is (bounds k k) (rounds n side round) (rounds m side round) (rounds_cut alike n m (bounds k k) side round round (plain_alike side) low high c) ms few few

fewer_rounds : (j k : ℕ) (round : Marks → Marks) → j ≤ k → RoundCut alike (bounds k k) round round → RoundCut alike (bounds j j) round round
fewer_rounds j k round le c i li = c i (through i (bounds j j) (bounds k k) li (le, le))

module _ (r : Guarded) (runs : ℕ → Bool) (outside : ℕ → Side → Type 0) (side : Side) where
  -- a round keeps what the round after it does
  abbrev pub RoundKept : ℕ → Locks → (Marks → Marks) → Type 0
  RoundKept k s round = (j : ℕ) → j ≤ k → (again : Marks) → Then r runs outside side j s again → Starts r runs outside side j s (round again)

  rounds_kept : (n k : ℕ) (s : Locks) (round : Marks → Marks) → k < n → RoundKept k s round → Starts r runs outside side k s (rounds n side round)
  rounds_kept zero k s round lt c = absurd (omega arith)
  rounds_kept (suc n) k s round lt c =
      asks r runs outside side k s Turns (λ x. refl) (λ mine hold. record { touches = tt; unlocks = tt }) (λ x. round (rounds n side round))
      (λ j low x. c j (omega arith) (rounds n side round) (λ i li. rounds_kept n i s round (omega arith) (λ m lm. c m (omega arith))))

  pub looping_kept : (k : ℕ) (s : Locks) (round : Marks → Marks) → RoundCut alike (bounds k k) round round → RoundKept k s round → Starts r runs outside side k s (looping side round)
  looping_kept k s round same c mine hold ms few all free other want e =
      let n = suc (length ms) in
      let fine : AllAllowed r runs (rounds n side round) ms =
      allowed_alike r runs (looping side round) (rounds n side round) ms
      (λ before short. rounds_alike (suc (length before)) n (length before) side round (omega arith) (omega arith) (fewer_rounds (length before) k round (omega arith) same) before (omega arith)) all in
      rounds_kept n (length ms) s round (omega arith) (λ j le. c j (omega arith)) mine hold ms (omega arith) fine free other want e

-- ---- the rounds of the three loops

module _ (h : Here) (k : ℕ) (cs : CallsCut alike (bounds k k) h (own_calls h)) where
  exits_alike : (j : Bounds) (x : Exits) → ExitsCut alike j x x
  exits_alike j x = record { next = itself_alike j x.next; stop = itself_alike j x.stop; again = itself_alike j x.again; give = λ v. itself_alike j (x.give v) }

  fewer_there : (j : Bounds) → AtMost j (bounds k k) → CallsCut alike j h (own_calls h)
  fewer_there j le = fewer alike j (bounds k k) h (own_calls h) le cs

  within_alike : (j : Bounds) (x : Exits) (p q : Marks) → alike.rel j p q → ExitsCut alike j (within x p) (within x q)
  within_alike j x p q d = let e = exits_alike j x in record { next = d; stop = e.next; again = d; give = e.give }

  maybe_alike : (v : MaybeValue) (j : Bounds) → AtMost j (bounds k k) → (go on : ℕ → Marks) (p q : Marks) → Cuts alike j go on → alike.rel j p q → alike.rel j (maybe v h go p) (maybe v h on q)
  maybe_alike NoValue j le go on p q c d = d
  maybe_alike (OneValue v) j le go on p q c d = value_cut alike v j h (own_calls h) go on (fewer_there j le) c

  pub while_alike : (v : Value) (z : Statement) (x : Exits) → RoundCut alike (bounds k k) (λ p. value v h (λ n. at_zero n x.next (statement z h (within x p)))) (λ p. value v h (λ n. at_zero n x.next (statement z h (within x p))))
  while_alike v z x j le p q d =
      value_cut alike v j h (own_calls h) (λ n. at_zero n x.next (statement z h (within x p))) (λ n. at_zero n x.next (statement z h (within x q))) (fewer_there j le)
      (λ n. cut_at_zero alike j n x.next x.next (statement z h (within x p)) (statement z h (within x q)) (itself_alike j x.next)
      (statement_cut alike z j h (own_calls h) (within x p) (within x q) (fewer_there j le) (within_alike j x p q d)))

  pub do_alike : (v : Value) (z : Statement) (x : Exits) → RoundCut alike (bounds k k) (λ p. statement z h (within x (value v h (λ n. at_zero n x.next p)))) (λ p. statement z h (within x (value v h (λ n. at_zero n x.next p))))
  do_alike v z x j le p q d =
      statement_cut alike z j h (own_calls h) (within x (value v h (λ n. at_zero n x.next p))) (within x (value v h (λ n. at_zero n x.next q))) (fewer_there j le)
      (within_alike j x (value v h (λ n. at_zero n x.next p)) (value v h (λ n. at_zero n x.next q))
      (value_cut alike v j h (own_calls h) (λ n. at_zero n x.next p) (λ n. at_zero n x.next q) (fewer_there j le) (λ n. cut_at_zero alike j n x.next x.next p q (itself_alike j x.next) d)))

  abbrev pub for_body : MaybeValue → Statement → Exits → Marks → Marks
  for_body last z x p = statement z h (within x (maybe last h (λ n. p) p))

  abbrev pub for_round : MaybeValue → MaybeValue → Statement → Exits → Marks → Marks
  for_round v last z x p = maybe v h (λ n. at_zero n x.next (for_body last z x p)) (for_body last z x p)

  body_alike : (last : MaybeValue) (z : Statement) (x : Exits) → RoundCut alike (bounds k k) (for_body last z x) (for_body last z x)
  body_alike last z x j le p q d =
      statement_cut alike z j h (own_calls h) (within x (maybe last h (λ n. p) p)) (within x (maybe last h (λ n. q) q)) (fewer_there j le)
      (within_alike j x (maybe last h (λ n. p) p) (maybe last h (λ n. q) q) (maybe_alike last j le (λ n. p) (λ n. q) p q (λ n. d) d))

  pub for_alike : (v last : MaybeValue) (z : Statement) (x : Exits) → RoundCut alike (bounds k k) (for_round v last z x) (for_round v last z x)
  for_alike v last z x j le p q d =
      maybe_alike v j le (λ n. at_zero n x.next (for_body last z x p)) (λ n. at_zero n x.next (for_body last z x q)) (for_body last z x p) (for_body last z x q)
      (λ n. cut_at_zero alike j n x.next x.next (for_body last z x p) (for_body last z x q) (itself_alike j x.next) (body_alike last z x j le p q d)) (body_alike last z x j le p q d)
