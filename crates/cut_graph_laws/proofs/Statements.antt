-- Statements want what they mention.
use Rattle.std.proofs.Common.{ℕ, zero, suc, ◌<◌, ◌≤◌, true, List, ◌++◌, None, arith}
use Rattle.marks.specs.declared.side.Side.{Side}
use Rattle.marks.specs.Wants.{Turns}
use Rattle.c_code.specs.Values.{at_zero}
use Rattle.c_types_rules.specs.TypedTree.{MaybeValue, NoValue, OneValue, Statement, Statements, Block, Evaluate, Initialise, If, IfElse, While, Do, For, Break, Continue, Return, NoStatements, MoreStatements}
use Rattle.c_semantics.specs.Reading.{Marks}
use Rattle.c_semantics.specs.Context.{Source}
use Rattle.c_semantics.specs.Values.{Here, value, store, local_address}
use Rattle.c_semantics.specs.Statements.{Exits, looping, maybe, rounds, statement, statements, within}
use Rattle.cut_graph_rules.specs.declared.mention.Mention.{Mention}
use Rattle.cut_graph_rules.specs.Mentions.{evaluated_mentions, maybe_mentions, statement_mentions, statements_mentions}
use Rattle.cut_graph_laws.specs.Granted.{Permits}
use Rattle.cut_graph_laws.proofs.Mentioned.{AllGranted, left, right}
use Rattle.cut_graph_laws.proofs.Sound.{Cuts, Sound, asks_plain, at_zero_sound, counted, fewer, fewer_all}
use Rattle.cut_graph_laws.proofs.Values.{Makes, making_calls, CallsSound, fewer_calls, store_sound, value_sound}

module _ (s : Source) (p : Permits) (C : Type 0) where
  abbrev S : ℕ → Marks → Marks → Type 0
  S k a b = Sound s p C k a b

  abbrev On : ℕ → (ℕ → Marks) → (ℕ → Marks) → Type 0
  On k go on = Cuts s p C k go on

  abbrev Ok : Side → List Mention → Type 0
  Ok side ms = AllGranted s p C side ms

  abbrev Calls : ℕ → Here → Makes → Type 0
  Calls k h m = CallsSound s p C k h m

  -- what follows a statement is sound at each exit
  pub record ExitsSound (k : ℕ) (x y : Exits) : Type 0 where
    pub next : S k x.next y.next
    pub stop : S k x.stop y.stop
    pub again : S k x.again y.again
    pub give : On k x.give y.give

  fewer_exits : (j k : ℕ) (x y : Exits) → j ≤ k → ExitsSound k x y → ExitsSound j x y
  fewer_exits j k x y le c = record {
    next = fewer s p C j k x.next y.next le c.next;
    stop = fewer s p C j k x.stop y.stop le c.stop;
    again = fewer s p C j k x.again y.again le c.again;
    give = fewer_all s p C j k x.give y.give le c.give;
  }

  -- a round is sound where the round after it is
  abbrev RoundSound : ℕ → (Marks → Marks) → (Marks → Marks) → Type 0
  RoundSound k a b = (j : ℕ) → j ≤ k → (again on : Marks) → S j again on → S j (a again) (b on)

  rounds_sound : (n m k : ℕ) (side : Side) (a b : Marks → Marks) → k < n → k < m → RoundSound k a b → S k (rounds n side a) (rounds m side b)
  rounds_sound zero m k side a b fl fr c = absurd (omega arith)
  rounds_sound (suc n) zero k side a b fl fr c = absurd (omega arith)
  rounds_sound (suc n) (suc m) k side a b fl fr c =
      asks_plain s p C k side Turns (λ d. tt) (λ x. a (rounds n side a)) (λ x. b (rounds m side b)) (λ x j lt.
      let less : j < n = omega arith in
      let few : j < m = omega arith in
      let le : j ≤ k = omega arith in
      c j le (rounds n side a) (rounds m side b) (rounds_sound n m j side a b less few (λ i li. c i (omega arith))))

  looping_sound : (k : ℕ) (side : Side) (a b : Marks → Marks) → RoundSound k a b → S k (looping side a) (looping side b)
  looping_sound k side a b c = counted s p C k (λ n. rounds n side a) (λ m. rounds m side b) (λ j n m le fl fr. rounds_sound n m j side a b fl fr (λ i li. c i (omega arith)))

  maybe_sound : (v : MaybeValue) (k : ℕ) (h : Here) (m : Makes) (go on : ℕ → Marks) (a b : Marks) → Ok h.side (maybe_mentions v) → Calls k h m → On k go on → S k a b → S k (maybe v h go a) (maybe v (making_calls h m) on b)
  maybe_sound NoValue k h m go on a b ok cs c d = d
  maybe_sound (OneValue v) k h m go on a b ok cs c d = value_sound s p C v true true k h m go on ok cs c

  within_sound : (k : ℕ) (x y : Exits) (a b : Marks) → ExitsSound k x y → S k a b → ExitsSound k (within x a) (within y b)
  within_sound k x y a b c d = record { next = d; stop = c.next; again = d; give = c.give }

  mutual
    pub statement_sound : (z : Statement) (k : ℕ) (h : Here) (m : Makes) (x y : Exits) → Ok h.side (statement_mentions z) → Calls k h m → ExitsSound k x y → S k (statement z h x) (statement z (making_calls h m) y)
    statement_sound (Block zs) k h m x y ok cs c = statements_sound zs k h m x y ok cs c
    statement_sound (Evaluate v) k h m x y ok cs c = value_sound s p C v true true k h m (λ n. x.next) (λ n. y.next) ok cs (λ n. c.next)
    statement_sound (Initialise place t v) k h m x y ok cs c =
        value_sound s p C v true true k h m (λ n. store h None t (local_address h place) n x.next) (λ n. store (making_calls h m) None t (local_address h place) n y.next) ok cs
        (λ n. store_sound s p C k h m None t (local_address h place) n x.next y.next (λ d g e. absurd cc) (λ d g e. absurd cc) c.next)
    statement_sound (If v z) k h m x y ok cs c =
        value_sound s p C v true true k h m (λ n. at_zero n x.next (statement z h x)) (λ n. at_zero n y.next (statement z (making_calls h m) y)) (left s p C h.side (evaluated_mentions v) (statement_mentions z) ok) cs
        (λ n. at_zero_sound s p C k n x.next y.next (statement z h x) (statement z (making_calls h m) y) c.next (statement_sound z k h m x y (right s p C h.side (evaluated_mentions v) (statement_mentions z) ok) cs c))
    statement_sound (IfElse v z w) k h m x y ok cs c =
        let arms = right s p C h.side (evaluated_mentions v) (statement_mentions z ++ statement_mentions w) ok in
        value_sound s p C v true true k h m (λ n. at_zero n (statement w h x) (statement z h x)) (λ n. at_zero n (statement w (making_calls h m) y) (statement z (making_calls h m) y)) (left s p C h.side (evaluated_mentions v) (statement_mentions z ++ statement_mentions w) ok) cs
        (λ n. at_zero_sound s p C k n (statement w h x) (statement w (making_calls h m) y) (statement z h x) (statement z (making_calls h m) y)
        (statement_sound w k h m x y (right s p C h.side (statement_mentions z) (statement_mentions w) arms) cs c)
        (statement_sound z k h m x y (left s p C h.side (statement_mentions z) (statement_mentions w) arms) cs c))
    statement_sound (While from v z) k h m x y ok cs c =
        looping_sound k h.side (λ a. value v h (λ n. at_zero n x.next (statement z h (within x a)))) (λ b. value v (making_calls h m) (λ n. at_zero n y.next (statement z (making_calls h m) (within y b))))
        (λ j le a b d.
        let ds = fewer_calls s p C j k h m le cs in
        let e = fewer_exits j k x y le c in
        value_sound s p C v true true j h m (λ n. at_zero n x.next (statement z h (within x a))) (λ n. at_zero n y.next (statement z (making_calls h m) (within y b))) (left s p C h.side (evaluated_mentions v) (statement_mentions z) ok) ds
        (λ n. at_zero_sound s p C j n x.next y.next (statement z h (within x a)) (statement z (making_calls h m) (within y b)) e.next
        (statement_sound z j h m (within x a) (within y b) (right s p C h.side (evaluated_mentions v) (statement_mentions z) ok) ds (within_sound j x y a b e d))))
    statement_sound (Do from z v) k h m x y ok cs c =
        looping_sound k h.side (λ a. statement z h (within x (value v h (λ n. at_zero n x.next a)))) (λ b. statement z (making_calls h m) (within y (value v (making_calls h m) (λ n. at_zero n y.next b))))
        (λ j le a b d.
        let ds = fewer_calls s p C j k h m le cs in
        let e = fewer_exits j k x y le c in
        statement_sound z j h m (within x (value v h (λ n. at_zero n x.next a))) (within y (value v (making_calls h m) (λ n. at_zero n y.next b))) (left s p C h.side (statement_mentions z) (evaluated_mentions v) ok) ds
        (within_sound j x y (value v h (λ n. at_zero n x.next a)) (value v (making_calls h m) (λ n. at_zero n y.next b)) e
        (value_sound s p C v true true j h m (λ n. at_zero n x.next a) (λ n. at_zero n y.next b) (right s p C h.side (statement_mentions z) (evaluated_mentions v) ok) ds (λ n. at_zero_sound s p C j n x.next y.next a b e.next d))))
    statement_sound (For from first v last z) k h m x y ok cs c =
        let begin = left s p C h.side (statements_mentions first) (maybe_mentions v ++ (maybe_mentions last ++ statement_mentions z)) ok in
        let each = right s p C h.side (statements_mentions first) (maybe_mentions v ++ (maybe_mentions last ++ statement_mentions z)) ok in
        let test = left s p C h.side (maybe_mentions v) (maybe_mentions last ++ statement_mentions z) each in
        let more = right s p C h.side (maybe_mentions v) (maybe_mentions last ++ statement_mentions z) each in
        let step = left s p C h.side (maybe_mentions last) (statement_mentions z) more in
        let inner = right s p C h.side (maybe_mentions last) (statement_mentions z) more in
        let body : Exits → Here → Marks → Marks = λ u g a. statement z g (within u (maybe last g (λ n. a) a)) in
        let round : Exits → Here → Marks → Marks = λ u g a. maybe v g (λ n. at_zero n u.next (body u g a)) (body u g a) in
        let body_sound : (j : ℕ) → j ≤ k → (a b : Marks) → S j a b → S j (body x h a) (body y (making_calls h m) b) =
        λ j le a b d.
        let ds = fewer_calls s p C j k h m le cs in
        let e = fewer_exits j k x y le c in
        statement_sound z j h m (within x (maybe last h (λ n. a) a)) (within y (maybe last (making_calls h m) (λ n. b) b)) inner ds
        (within_sound j x y (maybe last h (λ n. a) a) (maybe last (making_calls h m) (λ n. b) b) e (maybe_sound last j h m (λ n. a) (λ n. b) a b step ds (λ n. d) d)) in
        let looped : S k (looping h.side (round x h)) (looping h.side (round y (making_calls h m))) =
        looping_sound k h.side (round x h) (round y (making_calls h m)) (λ j le a b d.
        let ds = fewer_calls s p C j k h m le cs in
        let e = fewer_exits j k x y le c in
        maybe_sound v j h m (λ n. at_zero n x.next (body x h a)) (λ n. at_zero n y.next (body y (making_calls h m) b)) (body x h a) (body y (making_calls h m) b) test ds
        (λ n. at_zero_sound s p C j n x.next y.next (body x h a) (body y (making_calls h m) b) e.next (body_sound j le a b d)) (body_sound j le a b d)) in
        statements_sound first k h m (record x { next = looping h.side (round x h) }) (record y { next = looping h.side (round y (making_calls h m)) }) begin cs
        (record { next = looped; stop = c.stop; again = c.again; give = c.give })
    statement_sound Break k h m x y ok cs c = c.stop
    statement_sound Continue k h m x y ok cs c = c.again
    statement_sound (Return from v) k h m x y ok cs c = maybe_sound v k h m x.give y.give (x.give 0) (y.give 0) ok cs c.give (c.give 0)

    pub statements_sound : (zs : Statements) (k : ℕ) (h : Here) (m : Makes) (x y : Exits) → Ok h.side (statements_mentions zs) → Calls k h m → ExitsSound k x y → S k (statements zs h x) (statements zs (making_calls h m) y)
    statements_sound NoStatements k h m x y ok cs c = c.next
    statements_sound (MoreStatements z zs) k h m x y ok cs c =
        statement_sound z k h m (record x { next = statements zs h x }) (record y { next = statements zs (making_calls h m) y }) (left s p C h.side (statement_mentions z) (statements_mentions zs) ok) cs
        (record { next = statements_sound zs k h m x y (right s p C h.side (statement_mentions z) (statements_mentions zs) ok) cs c; stop = c.stop; again = c.again; give = c.give })
