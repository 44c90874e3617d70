-- Two behaviours that say the same of short lists, and in which what is expected is granted: it doesn't matter how far the
-- meaning of calls and loops is unfolded, and pointers that keep to the modes of a list keep to those of what is left of it.
use Rattle.std.proofs.Common.{◌≡◌, ◌≢◌, ℕ, zero, suc, ◌<◌, ◌≤◌, Bool, true, false, cond, List, [], ◌∷◌, ◌++◌, length, Option, Some, None, Result, Ok, Err, refl, sym, ap, ◌∙◌, subst, arith}
use Rattle.std.proofs.lemmas.List.{length-append}
use Rattle.marks.specs.declared.side.Side.{Side}
use Rattle.marks.specs.declared.fault.FaultKind.{FaultKind}
use Rattle.marks.specs.Marks.{Mark}
use Rattle.marks.specs.Wants.{Want, Fails, Answer, Go, Value, Frame, CalledBack, Stopped}
use Rattle.c_code.specs.declared.shape.Shape.{Shape}
use Rattle.c_code.specs.Values.{at_zero, is_value}
use Rattle.c_code.specs.MarkLists.{Verdict, Ended, Expects, Open, Wrong, closed, reply}
use Rattle.c_semantics.specs.Reading.{Marks, wrong, ended, heard, ask, fails, or_fault, with_value, with_any}
use Rattle.c_semantics.specs.Context.{Source}
use Rattle.cut_graph_reached.specs.Reached.{Reach, by_pointer, reached}
use Rattle.cut_graph_reached.specs.Answers.{IsAnswered, ModesKept}
use Rattle.cut_graph_laws.specs.Answering.{Answering}
use Rattle.cut_graph_laws.specs.Granted.{Permits, WantGranted}

-- a place further on in a list
pub later : (a b : Marks) (m : Mark) (ms : List Mark) (side : Side) (want : Want) (x : Answer) → ((before : List Mark) → b before ≡ a (m ∷ before)) → IsAnswered b ms side want x → IsAnswered a (m ∷ ms) side want x
later a b m ms side want x e k = record {
  before = m ∷ k.before;
  mark = k.mark;
  after = k.after;
  there = ap (λ (l : List Mark). m ∷ l) k.there;
  wanted = sym (e k.before) ∙ k.wanted;
  answers = k.answers;
}

answers_later : (a b : Marks) (k : Mark) (before : List Mark) (m : Mark) → a (k ∷ before) ≡ b before → Answering b before m → Answering a (k ∷ before) m
answers_later a b k before m e is = record { side = is.side; want = is.want; answer = is.answer; expected = e ∙ is.expected; answers = is.answers }

-- no mark stands in an empty list
pub no_place : (before after : List Mark) (m : Mark) → [] ≡ before ++ (m ∷ after) → ⊥
no_place [] after m e = cc
no_place (b ∷ before) after m e = cc

-- each mark of the list, where it is right, answers what was expected
abbrev pub AllAnswer : Marks → List Mark → Type 0
AllAnswer b ms = (before : List Mark) (m : Mark) (after : List Mark) → ms ≡ before ++ (m ∷ after) → b ms ≢ Wrong → Answering b before m

none_answer : (b : Marks) → AllAnswer b []
none_answer b before m after there right = absurd (no_place before after m there)

module _ (s : Source) (p : Permits) where
  -- what is expected is granted
  abbrev pub Good : Verdict → Type 0
  Good (Expects side want) = WantGranted s p side want
  Good (Ended v) = Unit {0}
  Good Open = Unit {0}
  Good Wrong = Unit {0}

  -- of lists with no more marks than this the same is said, each mark of right ones answers what was expected, and under the
  -- condition what is expected next is granted
  abbrev pub Sound : (C : Type 0) → ℕ → Marks → Marks → Type 0
  Sound C k a b = (ms : List Mark) → length ms ≤ k → (a ms ≡ b ms) × (AllAnswer b ms × (C → ModesKept p.may b ms → Good (b ms)))

  -- a mark answers so, and what a pointer chooses there may run
  pub record Allowed (side : Side) (want : Want) (x : Answer) : Type 0 where
    pub mark : Mark
    pub answers : reply side want mark ≡ Some x
    pub goes : x ≡ Stopped → ⊥
    pub may : (r : Reach) → reached side want x ≡ Some r → by_pointer want ≡ true → p.may r.side r.func

  pub weak : (C D : Type 0) (j k : ℕ) (a b : Marks) → j ≤ k → (D → C) → Sound C k a b → Sound D j a b
  weak C D j k a b le f h ms few = let all = h ms (omega arith) in (all.0, (all.1.0, λ d kept. all.1.1 (f d) kept))

  pub fewer : (C : Type 0) (j k : ℕ) (a b : Marks) → j ≤ k → Sound C k a b → Sound C j a b
  fewer C j k a b le h = weak C C j k a b le (λ c. c) h

  pub wrongs : (C : Type 0) (k : ℕ) → Sound C k wrong wrong
  wrongs C k ms few = (refl, ((λ before m after there right. absurd (right refl)), λ c kept. tt))

  pub ends : (C : Type 0) (k v : ℕ) → Sound C k (ended v) (ended v)
  ends C k v [] few = (refl, (none_answer (ended v), λ c kept. tt))
  ends C k v (m ∷ ms) few = (refl, ((λ before n after there right. absurd (right refl)), λ c kept. tt))

  closed_good : (ms : List Mark) → Good (closed ms)
  closed_good [] = tt
  closed_good (m ∷ ms) = tt

  -- ---- a mark, and what follows it

  module _ (side : Side) (want : Want) (on : Answer → Marks) (m : Mark) where
    first : (ms : List Mark) (x : Answer) → reply side want m ≡ Some x → (x ≡ Stopped → ⊥) → ModesKept p.may (ask side want on) (m ∷ ms) → Allowed side want x
    first ms x e goes kept = record {
      mark = m;
      answers = e;
      goes = goes;
      may = λ r reaches pointer. kept r (record {
        reaches = record {
          side = side;
          want = want;
          answer = x;
          answered = record { before = []; mark = m; after = ms; there = refl; wanted = refl; answers = e };
          reaches = reaches;
        };
        pointer = pointer;
      });
    }

    rest : (ms : List Mark) (x : Answer) → reply side want m ≡ Some x → ((before : List Mark) → heard (Some x) on before ≡ on x before) → ModesKept p.may (ask side want on) (m ∷ ms) → ModesKept p.may (on x) ms
    rest ms x e goes kept r k =
        let i = k.reaches in
        kept r (record {
          reaches = record {
            side = i.side;
            want = i.want;
            answer = i.answer;
            answered = later (ask side want on) (on x) m ms i.side i.want i.answer (λ before. sym (ap (λ o. heard o on before) e ∙ goes before)) i.answered;
            reaches = i.reaches;
          };
          pointer = k.pointer;
        })

  -- the first mark answers, and so do those of what follows
  all_answer : (side : Side) (want : Want) (on : Answer → Marks) (m : Mark) (ms : List Mark) (x : Answer) → reply side want m ≡ Some x → ((before : List Mark) → heard (Some x) on before ≡ on x before) → AllAnswer (on x) ms → AllAnswer (ask side want on) (m ∷ ms)
  all_answer side want on m ms x e goes h [] n after there right = let same : m ≡ n = cc in record { side = side; want = want; answer = x; expected = refl; answers = ap (λ (k : Mark). reply side want k) (sym same) ∙ e }
  all_answer side want on m ms x e goes h (b ∷ before) n after there right =
      let same : m ≡ b = cc in
      let rest : ms ≡ before ++ (n ∷ after) = cc in
      let on_from : (l : List Mark) → ask side want on (m ∷ l) ≡ on x l = λ l. ap (λ o. heard o on l) e ∙ goes l in
      let there_too : ask side want on (b ∷ before) ≡ on x before = subst (λ (k : Mark). ask side want on (k ∷ before) ≡ on x before) same (on_from before) in
      answers_later (ask side want on) (on x) b before n there_too (h before n after rest (λ no. right (on_from ms ∙ no)))

  -- a list that ends with a fault
  only_first : (side : Side) (want : Want) (on : Answer → Marks) (m : Mark) (ms : List Mark) → reply side want m ≡ Some Stopped → AllAnswer (ask side want on) (m ∷ ms)
  only_first side want on m [] e [] n after there right = let same : m ≡ n = cc in record { side = side; want = want; answer = Stopped; expected = refl; answers = ap (λ (k : Mark). reply side want k) (sym same) ∙ e }
  only_first side want on m [] e (b ∷ before) n after there right = let rest : [] ≡ before ++ (n ∷ after) = cc in absurd (no_place before after n rest)
  only_first side want on m (k ∷ ms) e before n after there right = absurd (right (ap (λ o. heard o on (k ∷ ms)) e))

  none_first : (side : Side) (want : Want) (on : Answer → Marks) (m : Mark) (ms : List Mark) → reply side want m ≡ None → AllAnswer (ask side want on) (m ∷ ms)
  none_first side want on m ms e before n after there right = absurd (right (ap (λ o. heard o on ms) e))

  abbrev Heard : (C : Type 0) (side : Side) (want : Want) (go on : Answer → Marks) (m : Mark) (ms : List Mark) (o : Option Answer) → Type 0
  Heard C side want go on m ms o = (heard o go ms ≡ heard o on ms) × (AllAnswer (ask side want on) (m ∷ ms) × (C → ModesKept p.may (ask side want on) (m ∷ ms) → Good (heard o on ms)))

  answered : (C : Type 0) (side : Side) (want : Want) (go on : Answer → Marks) (m : Mark) (ms : List Mark) (x : Answer) → reply side want m ≡ Some x → (x ≡ Stopped → ⊥) → ((before : List Mark) → heard (Some x) on before ≡ on x before)
      → Sound (C × Allowed side want x) (length ms) (go x) (on x) → (go x ms ≡ on x ms) × (AllAnswer (ask side want on) (m ∷ ms) × (C → ModesKept p.may (ask side want on) (m ∷ ms) → Good (on x ms)))
  answered C side want go on m ms x e some goes h =
      let all = h ms (omega arith) in
      (all.0, (all_answer side want on m ms x e goes all.1.0, λ c kept. all.1.1 (c, first side want on m ms x e some kept) (rest side want on m ms x e goes kept)))

  heard_sound : (C : Type 0) (side : Side) (want : Want) (go on : Answer → Marks) (m : Mark) (ms : List Mark) (o : Option Answer) → reply side want m ≡ o → ((x : Answer) → Sound (C × Allowed side want x) (length ms) (go x) (on x)) → Heard C side want go on m ms o
  heard_sound C side want go on m ms None e h = (refl, (none_first side want on m ms e, λ c kept. tt))
  heard_sound C side want go on m ms (Some Stopped) e h = (refl, (only_first side want on m ms e, λ c kept. closed_good ms))
  heard_sound C side want go on m ms (Some Go) e h = answered C side want go on m ms Go e (λ no. cc) (λ before. refl) (h Go)
  heard_sound C side want go on m ms (Some (Value v)) e h = answered C side want go on m ms (Value v) e (λ no. cc) (λ before. refl) (h (Value v))
  heard_sound C side want go on m ms (Some (Frame at)) e h = answered C side want go on m ms (Frame at) e (λ no. cc) (λ before. refl) (h (Frame at))
  heard_sound C side want go on m ms (Some (CalledBack g args)) e h = answered C side want go on m ms (CalledBack g args) e (λ no. cc) (λ before. refl) (h (CalledBack g args))

  -- a mark is wanted that is granted; what follows it may count on what the mark allows
  pub asks : (C : Type 0) (k : ℕ) (side : Side) (want : Want) → (C → WantGranted s p side want) → (go on : Answer → Marks) → ((x : Answer) (j : ℕ) → j < k → Sound (C × Allowed side want x) j (go x) (on x)) → Sound C k (ask side want go) (ask side want on)
  asks C k side want ok go on h [] few = (refl, (none_answer (ask side want on), λ c kept. ok c))
  asks C k side want ok go on h (m ∷ ms) few = heard_sound C side want go on m ms (reply side want m) refl (λ x. h x (length ms) (omega arith))

  pub asks_plain : (C : Type 0) (k : ℕ) (side : Side) (want : Want) → (C → WantGranted s p side want) → (go on : Answer → Marks) → ((x : Answer) (j : ℕ) → j < k → Sound C j (go x) (on x)) → Sound C k (ask side want go) (ask side want on)
  asks_plain C k side want ok go on h = asks C k side want ok go on (λ x j lt. weak C (C × Allowed side want x) j j (go x) (on x) (omega arith) (λ c. c.0) (h x j lt))

  -- ---- what is counted by marks

  shorter : (ms before after : List Mark) (m : Mark) → ms ≡ before ++ (m ∷ after) → length before < length ms
  shorter ms before after m e = let long = length-append before (m ∷ after) in let same = ap (λ (l : List Mark). length l) e in omega arith

  module _ (C : Type 0) (k : ℕ) (f g : ℕ → Marks) (h : (j n m : ℕ) → j ≤ k → j < n → j < m → Sound C j (f n) (g m)) where
    abbrev whole : Marks
    whole = λ ms. g (suc (length ms)) ms

    same : (n : ℕ) (before : List Mark) → length before < n → length before ≤ k → g n before ≡ whole before
    same n before lt le =
        let l = length before in
        let near = h l (suc l) (suc l) le (omega arith) (omega arith) before (omega arith) in
        let far = h l (suc l) n le (omega arith) lt before (omega arith) in
        sym far.0 ∙ near.0

    kept_there : (ms : List Mark) → length ms ≤ k → ModesKept p.may whole ms → ModesKept p.may (g (suc (length ms))) ms
    kept_there ms few kept r c =
        let i = c.reaches in
        let a = i.answered in
        let lt = shorter ms a.before a.after a.mark a.there in
        kept r (record {
          reaches = record {
            side = i.side;
            want = i.want;
            answer = i.answer;
            answered = record {
              before = a.before;
              mark = a.mark;
              after = a.after;
              there = a.there;
              wanted = sym (same (suc (length ms)) a.before (omega arith) (omega arith)) ∙ a.wanted;
              answers = a.answers;
            };
            reaches = i.reaches;
          };
          pointer = c.pointer;
        })

    answers_there : (ms : List Mark) → length ms ≤ k → AllAnswer (g (suc (length ms))) ms → AllAnswer whole ms
    answers_there ms few h before m after there right =
        let is = h before m after there right in
        let lt = shorter ms before after m there in
        record {
          side = is.side;
          want = is.want;
          answer = is.answer;
          expected = sym (same (suc (length ms)) before (omega arith) (omega arith)) ∙ is.expected;
          answers = is.answers;
        }

    pub counted : Sound C k (λ ms. f (suc (length ms)) ms) (λ ms. g (suc (length ms)) ms)
    counted ms few =
        let n = suc (length ms) in
        let all = h (length ms) n n few (omega arith) (omega arith) ms (omega arith) in
        (all.0, (answers_there ms few all.1.0, λ c kept. all.1.1 c (kept_there ms few kept)))

  -- ---- for each value that comes before

  abbrev pub Cuts : (C : Type 0) → ℕ → (ℕ → Marks) → (ℕ → Marks) → Type 0
  Cuts C k go on = (v : ℕ) → Sound C k (go v) (on v)

  pub fewer_all : (C : Type 0) (j k : ℕ) (go on : ℕ → Marks) → j ≤ k → Cuts C k go on → Cuts C j go on
  fewer_all C j k go on le h v = fewer C j k (go v) (on v) le (h v)

  pub weak_all : (C D : Type 0) (j k : ℕ) (go on : ℕ → Marks) → j ≤ k → (D → C) → Cuts C k go on → Cuts D j go on
  weak_all C D j k go on le f h v = weak C D j k (go v) (on v) le f (h v)

  pub fails_sound : (C : Type 0) (k : ℕ) (side : Side) (kind : FaultKind) → Sound C k (fails side kind) (fails side kind)
  fails_sound C k side kind = asks_plain C k side (Fails kind) (λ c. tt) (λ x. wrong) (λ x. wrong) (λ x j lt. wrongs C j)

  pub or_fault_sound : (C : Type 0) (k : ℕ) (side : Side) (r : Result ℕ FaultKind) (go on : ℕ → Marks) → Cuts C k go on → Sound C k (or_fault side r go) (or_fault side r on)
  or_fault_sound C k side (Ok v) go on h = h v
  or_fault_sound C k side (Err kind) go on h = fails_sound C k side kind

  pub cond_sound : (C : Type 0) (k : ℕ) (t : Bool) (a b c d : Marks) → Sound C k a b → Sound C k c d → Sound C k (cond t a c) (cond t b d)
  cond_sound C k true a b c d h i = h
  cond_sound C k false a b c d h i = i

  pub at_zero_sound : (C : Type 0) (k v : ℕ) (a b c d : Marks) → Sound C k a b → Sound C k c d → Sound C k (at_zero v a c) (at_zero v b d)
  at_zero_sound C k zero a b c d h i = h
  at_zero_sound C k (suc v) a b c d h i = i

  pub value_given : (C : Type 0) (k : ℕ) (shape : Shape) (go on : ℕ → Marks) → Cuts C k go on → (x : Answer) → Sound C k (with_value shape go x) (with_value shape on x)
  value_given C k shape go on h (Value v) = cond_sound C k (is_value shape v) (go v) (on v) wrong wrong (h v) (wrongs C k)
  value_given C k shape go on h Go = wrongs C k
  value_given C k shape go on h (Frame at) = wrongs C k
  value_given C k shape go on h (CalledBack g args) = wrongs C k
  value_given C k shape go on h Stopped = wrongs C k

  pub any_given : (C : Type 0) (k : ℕ) (go on : ℕ → Marks) → Cuts C k go on → (x : Answer) → Sound C k (with_any go x) (with_any on x)
  any_given C k go on h (Value v) = h v
  any_given C k go on h Go = wrongs C k
  any_given C k go on h (Frame at) = wrongs C k
  any_given C k go on h (CalledBack g args) = wrongs C k
  any_given C k go on h Stopped = wrongs C k
