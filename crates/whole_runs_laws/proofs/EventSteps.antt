-- Of events one alone can be a step.
use Rattle.std.proofs.Common.{◌≡◌, ℕ, Bool, true, ◌&&◌, cond, eqb, List, [], ◌∷◌, ◌++◌, map, Option, Some, None, refl, sym, ap, ◌∙◌, subst, eqb-true}
use Rattle.std.specs.Prelude.{is_some}
use Rattle.std.proofs.lemmas.Bool.{and_parts, true≢false}
use Rattle.run_events.specs.declared.key.Class.TheVariants.{Async, Pool}
use Rattle.run_events.specs.declared.key.KeyMark.{KeyMark}
use Rattle.marks.specs.Places.{replay_pool}
use Rattle.marks.specs.declared.range.Range.{Range}
use Rattle.marks.specs.Ranges.{Piece, Prepared, piece_ranges, piece_bytes}
use Rattle.marks.specs.Marks.{EventKind, Call, Ret, Up, UpRet, Alloc, Free, Stop, Event, Commit, NoRegion, Withheld, Released, Mark, logged, released}
use Rattle.marks.specs.Bytes.{Byte}
use Rattle.marks.specs.Wants.{Want, Outside, Turns, Loads, Stores, Enters, Leaves, Allocs, Frees, Calls, Below, Gives, Returns, CallsBack, UpReturns, Steps, Fails, event_answer, same_numbers}
use Rattle.replay_runs.specs.Runs.{Link, OfKey, marks_of, new_events, byte, Allowed}
use Rattle.replay_runs.specs.Interface.{Committing}
use Rattle.replay_runs.specs.Threads.{OpenCall, open_calls, last_return, same_return}
use Rattle.replay_runs.specs.Pool.{blocks_from, IsPlace, in_use_from}
use Rattle.replay_runs.specs.Keys.{key, commit_keys, sorted_keys, keys_for}
use Rattle.replay_runs.specs.Rules.{IsUsed, AreUsed, CommitsUsed, Commits, Closes, ReleaseRule}
use Rattle.replay_runs.specs.Records.{event_of}
use Rattle.replay_runs.proofs.Keys.{listed_last}
use Rattle.replay_runs.proofs.Replies.{same_numbers_true}
use Rattle.replay_runs.proofs.Events.{Placed, kind_same}
use Rattle.whole_runs.specs.World.{World, begin, interface}
use Rattle.whole_runs.specs.Sides.{seen}
use Rattle.whole_runs.specs.Memory.{real, Has, HasAll}
use Rattle.whole_runs.specs.Below.{Given, ByPool, Says, NoMore, given}
use Rattle.whole_runs.specs.Tests.{with_answer}
use Rattle.whole_runs.specs.Steps.{rules_above, BringsGiven, EventAgrees}
use Rattle.whole_runs_laws.proofs.Lasts.{some_if}
use Rattle.whole_runs_laws.proofs.PlainSteps.{first_range, other_ranges, stand_one, place_one}
use Rattle.whole_runs_laws.proofs.OneEvent.{made_mark, keys_one}

-- ---- pieces

both_stand : (memory : ℕ → Option ℕ) (ps qs : List Piece) → HasAll memory (ps ++ qs) → HasAll memory ps × HasAll memory qs
both_stand memory [] qs h = (tt, h)
both_stand memory (p ∷ ps) qs h = let r = both_stand memory ps qs h.1 in ((h.0, r.0), r.1)

piece_one : (memory : ℕ → Option ℕ) (p q : Piece) (n : ℕ) → p.range ≡ q.range → IsUsed n p → IsUsed n q → Has memory p.range.addr p.bytes → Has memory q.range.addr q.bytes → p ≡ q
piece_one memory p q n e f g h k =
    let bytes : p.bytes ≡ q.bytes = stand_one memory q.range.addr p.bytes q.bytes (f.0 ∙ sym g.0) (subst (λ r. Has memory r.addr p.bytes) e h) k in
    λ i. record { range = e i; bytes = bytes i }

used_one : (memory : ℕ → Option ℕ) (ns : List ℕ) (ps qs : List Piece) → piece_ranges ps ≡ piece_ranges qs → AreUsed ns ps → AreUsed ns qs → HasAll memory ps → HasAll memory qs → ps ≡ qs
used_one memory [] [] [] e f g h k = refl
used_one memory [] [] (q ∷ qs) e f g h k = absurd g
used_one memory [] (p ∷ ps) qs e f g h k = absurd f
used_one memory (n ∷ ns) [] qs e f g h k = absurd f
used_one memory (n ∷ ns) (p ∷ ps) [] e f g h k = absurd g
used_one memory (n ∷ ns) (p ∷ ps) (q ∷ qs) e f g h k =
    let first : p ≡ q = piece_one memory p q n (ap first_range e) f.0 g.0 h.0 k.0 in
    let others : ps ≡ qs = used_one memory ns ps qs (ap other_ranges e) f.1 g.1 h.1 k.1 in
    λ i. first i ∷ others i

-- what is committed, in the region under its key
commit_one : (memory : ℕ → Option ℕ) (o : Option Committing) (c d : Commit) → Commits o c → Commits o d → HasAll memory (released c) → HasAll memory (released d) → ((k : Committing) (p q : Piece) → o ≡ Some k → c ≡ Released k.key p → d ≡ Released k.key q → p.range ≡ q.range) → c ≡ d
commit_one memory None c d h k f g r = h ∙ sym k
commit_one memory (Some m) c d h k f g r = of m.used refl c d h k f g r
  where
    of : (n : Option ℕ) → m.used ≡ n → (c d : Commit) → CommitsUsed m.key m.used c → CommitsUsed m.key m.used d → HasAll memory (released c) → HasAll memory (released d) → ((k : Committing) (p q : Piece) → Some m ≡ Some k → c ≡ Released k.key p → d ≡ Released k.key q → p.range ≡ q.range) → c ≡ d
    of None is c d h k f g r = subst (λ n. CommitsUsed m.key n c) is h ∙ sym (subst (λ n. CommitsUsed m.key n d) is k)
    of (Some n) is (Released j p) (Released l q) h k f g r =
        let x : (j ≡ m.key) × IsUsed (cond (eqb p.range.addr 0) 0 n) p = subst (λ n. CommitsUsed m.key n (Released j p)) is h in
        let y : (l ≡ m.key) × IsUsed (cond (eqb q.range.addr 0) 0 n) q = subst (λ n. CommitsUsed m.key n (Released l q)) is k in
        let range : p.range ≡ q.range = r m p q refl (ap (λ z. Released z p) x.0) (ap (λ z. Released z q) y.0) in
        let used : IsUsed (cond (eqb q.range.addr 0) 0 n) p = subst (λ z. IsUsed (cond (eqb z.addr 0) 0 n) p) range x.1 in
        let piece : p ≡ q = piece_one memory p q (cond (eqb q.range.addr 0) 0 n) range used y.1 f.0 g.0 in
        let same : j ≡ l = x.0 ∙ sym y.0 in
        λ z. Released (same z) (piece z)
    of (Some n) is NoRegion d h k f g r = absurd (subst (λ n. CommitsUsed m.key n NoRegion) is h)
    of (Some n) is Withheld d h k f g r = absurd (subst (λ n. CommitsUsed m.key n Withheld) is h)
    of (Some n) is (Released j p) NoRegion h k f g r = absurd (subst (λ n. CommitsUsed m.key n NoRegion) is k)
    of (Some n) is (Released j p) Withheld h k f g r = absurd (subst (λ n. CommitsUsed m.key n Withheld) is k)

closed_one : (cs : List OpenCall) (f g : ℕ) (vs ws : List ℕ) (r q : List Range) → Closes cs f vs r → Closes cs g ws q → (f ≡ g) × (vs ≡ ws) × (r ≡ q)
closed_one [] f g vs ws r q h k = absurd h
closed_one (c ∷ cs) f g vs ws r q h k = (h.0 ∙ sym k.0, h.1 ∙ sym k.1, h.2 ∙ sym k.2)

some_range : (x y : Range) → Some x ≡ Some y → x ≡ y
some_range x y e = cc

called_one : (g f h : ℕ) (bs args cs : List ℕ) → (eqb g f && same_numbers bs args) ≡ true → (eqb h f && same_numbers cs args) ≡ true → (g ≡ h) × (bs ≡ cs)
called_one g f h bs args cs p q =
    let a = and_parts (eqb g f) (same_numbers bs args) p in
    let b = and_parts (eqb h f) (same_numbers cs args) q in
    (eqb-true g f a.0 ∙ sym (eqb-true h f b.0), same_numbers_true bs args a.1 ∙ sym (same_numbers_true cs args b.1))

module _ (w : World) (past : List Mark) (t index : ℕ) where
  abbrev mine : List Mark
  mine = marks_of (begin w) t (seen past)

  abbrev links : Link → List Mark
  links l = new_events l (seen past)

  abbrev cells : ℕ → Byte
  cells x = byte (begin w) x (seen past)

  abbrev Known : List KeyMark → EventKind → Type 0
  Known keys k = Placed (interface w) (begin w) t mine links cells keys k

  region_is : (keys : List KeyMark) (f : ℕ) (args : List ℕ) (v : ℕ) (s : Bool) (outs : List Piece) (m : Commit) (k : Committing) (p : Piece) → Known keys (Ret f args v s outs m) → (interface w).commits f args v ≡ Some k → m ≡ Released k.key p → in_use_from k.key ((begin w).in_use k.key) (links (OfKey (key Async k.key))) ≡ Some p.range
  region_is keys f args v s outs m k p h o e =
      let keyed : map (λ q. q.key) keys ≡ sorted_keys ((interface w).keys_at_return f args ++ (key Async k.key ∷ [])) = h.keyed ∙ ap (λ z. sorted_keys ((interface w).keys_at_return f args ++ commit_keys z)) o in
      subst (λ z. ReleaseRule k.key (in_use_from k.key ((begin w).in_use k.key) (links (OfKey (key Async k.key)))) z) e (h.shared (key Async k.key) (listed_last keys ((interface w).keys_at_return f args) (key Async k.key) keyed)) refl

  ret_one : (ks js : List KeyMark) (f g : ℕ) (vs ws : List ℕ) (v u : ℕ) (s z : Bool) (p q : List Piece) (m n : Commit) (memory : ℕ → Option ℕ) → Known ks (Ret f vs v s p m) → Known js (Ret g ws u z q n) → v ≡ u → HasAll memory (p ++ released m) → HasAll memory (q ++ released n) → Ret f vs v s p m ≡ Ret g ws u z q n
  ret_one ks js f g vs ws v u s z p q m n memory h k r x y =
      let c = closed_one (open_calls mine) f g vs ws (piece_ranges p) (piece_ranges q) h.carries.closes k.carries.closes in
      let a : f ≡ g = c.0 in
      let b : vs ≡ ws = c.1 in
      let sizes : (interface w).used f vs v ≡ (interface w).used g ws u = λ j. (interface w).used (a j) (b j) (r j) in
      let option : (interface w).commits f vs v ≡ (interface w).commits g ws u = λ j. (interface w).commits (a j) (b j) (r j) in
      let e = both_stand memory p (released m) x in
      let d = both_stand memory q (released n) y in
      let outs : p ≡ q = used_one memory ((interface w).used g ws u) p q c.2 (subst (λ ns. AreUsed ns p) sizes h.carries.used) k.carries.used e.0 d.0 in
      let commit : m ≡ n = commit_one memory ((interface w).commits g ws u) m n (subst (λ o. Commits o m) option h.carries.committed) k.carries.committed e.1 d.1
      (λ o pm pn is cm cn. some_range pm.range pn.range (sym (region_is ks f vs v s p m o pm h (option ∙ is) cm) ∙ region_is js g ws u z q n o pn k is cn)) in
      let again : s ≡ z = h.carries.repeats ∙ ((λ j. (interface w).is_cached (a j) && same_return (last_return ((begin w).returned t (a j)) (a j) mine) (record { result = r j; bytes = piece_bytes (outs j) ++ logged (commit j) })) ∙ sym k.carries.repeats) in
      λ j. Ret (a j) (b j) (r j) (again j) (outs j) (commit j)

  module _ (want : Want) where
    abbrev Fits : Event → Type 0
    Fits e = Allowed (rules_above (interface w) (begin w) want) (begin w) (seen past) (made_mark t index e)

    placed : (e : Event) (keys : List KeyMark) → e.keys ≡ keys → Fits e → Known keys e.kind
    placed e keys z a = subst (λ ks. Known ks e.kind) z (record { carries = a.own.1; keyed = a.own.0; shared = λ j l. a.shared (OfKey j) l; asks = a.bytes })

    logged_one : (e f : Event) → event_of e.kind ≡ event_of f.kind → keys_for (interface w) t mine e.kind ≡ keys_for (interface w) t mine f.kind → Fits e → Fits f → e.kind ≡ f.kind
    logged_one e f z ks a b =
        let keys : e.keys ≡ f.keys = keys_one (interface w) want (begin w) (seen past) t index e f ks a b in
        kind_same (interface w) (begin w) t mine links cells f.keys e.kind f.kind z (placed e f.keys keys a) (placed f f.keys refl b)

    known : (e : Event) (k : EventKind) → e.kind ≡ k → Fits e → Known e.keys k
    known e k z a = subst (Known e.keys) z (placed e e.keys refl a)

    call_one : (e f : Event) (g h : ℕ) (bs cs : List ℕ) (p q : List Piece) (o r : List Range) (x y : List Prepared) → e.kind ≡ Call g bs p o x → f.kind ≡ Call h cs q r y → g ≡ h → bs ≡ cs → Fits e → Fits f → e.kind ≡ f.kind
    call_one e f g h bs cs p q o r x y ek fk z v a b =
        let prepared : x ≡ y = (known e (Call g bs p o x) ek a).carries.3 ∙ ((λ j. (interface w).prepares (z j) (v j)) ∙ sym (known f (Call h cs q r y) fk b).carries.3) in
        logged_one e f
        (ap event_of ek ∙ ((λ j. event_of (Call (z j) (v j) p o (prepared j))) ∙ sym (ap event_of fk)))
        (ap (keys_for (interface w) t mine) ek ∙ ((λ j. keys_for (interface w) t mine (Call (z j) (v j) p o (prepared j))) ∙ sym (ap (keys_for (interface w) t mine) fk)))
        a b

    free_one : (e f : Event) (x y n m : ℕ) → e.kind ≡ Free x n → f.kind ≡ Free y m → x ≡ y → Fits e → Fits f → e.kind ≡ f.kind
    free_one e f x y n m ek fk z a b =
        logged_one e f
        (ap event_of ek ∙ ((λ j. event_of (Free (z j) n)) ∙ sym (ap event_of fk)))
        (ap (keys_for (interface w) t mine) ek ∙ sym (ap (keys_for (interface w) t mine) fk))
        a b

    alloc_at : (e : Event) (x n : ℕ) → e.kind ≡ Alloc x n → Fits e → IsPlace replay_pool (blocks_from (begin w).blocks (links (OfKey (key Pool 0)))) n x
    alloc_at e x n ek a =
        let h = known e (Alloc x n) ek a in
        h.shared (key Pool 0) (listed_last e.keys [] (key Pool 0) h.keyed)

    given_one : (ks js : List KeyMark) (f : ℕ) (args : List ℕ) (g h : ℕ) (bs cs : List ℕ) (v u : ℕ) (s z : Bool) (p q : List Piece) (m n : Commit) (o : Given) → Known ks (Ret g bs v s p m) → Known js (Ret h cs u z q n) → BringsGiven w past f args v (p ++ released m) o → BringsGiven w past f args u (q ++ released n) o → Ret g bs v s p m ≡ Ret h cs u z q n
    given_one ks js f args g h bs cs v u s z p q m n ByPool a b x y = absurd x
    given_one ks js f args g h bs cs v u s z p q m n (Says r pieces) a b x y =
        let result : v ≡ u = x.0 ∙ sym y.0 in
        ret_one ks js g h bs cs v u s z p q m n (with_answer w past f args u pieces) a b result
        (subst (λ r. HasAll (with_answer w past f args r pieces) (p ++ released m)) result x.1) y.1
    given_one ks js f args g h bs cs v u s z p q m n NoMore a b x y = absurd x

  pub event_one : (want : Want) (e f : Event) (k l : EventKind) → e.kind ≡ k → f.kind ≡ l → Fits want e → Fits want f → is_some (event_answer want k) ≡ true → is_some (event_answer want l) ≡ true → EventAgrees w past t want k → EventAgrees w past t want l → e.kind ≡ f.kind
  event_one (Allocs n) e f (Alloc x m) (Alloc y o) ek fl a b p q h k =
      let size : m ≡ o = eqb-true m n (some_if (eqb m n) _ p) ∙ sym (eqb-true o n (some_if (eqb o n) _ q)) in
      let at : x ≡ y = place_one replay_pool (blocks_from (begin w).blocks (links (OfKey (key Pool 0)))) o x y (subst (λ z. IsPlace replay_pool (blocks_from (begin w).blocks (links (OfKey (key Pool 0)))) z x) size (alloc_at (Allocs n) e x m ek a)) (alloc_at (Allocs n) f y o fl b) in
      ek ∙ ((λ j. Alloc (at j) (size j)) ∙ sym fl)
  event_one (Frees at) e f (Free x m) (Free y o) ek fl a b p q h k =
      free_one (Frees at) e f x y m o ek fl (eqb-true x at (some_if (eqb x at) _ p) ∙ sym (eqb-true y at (some_if (eqb y at) _ q))) a b
  event_one (Calls i g args) e f (Call g1 b1 p1 o1 x1) (Call g2 b2 p2 o2 x2) ek fl a b p q h k =
      let c = called_one g1 g g2 b1 args b2 (some_if (eqb g1 g && same_numbers b1 args) _ p) (some_if (eqb g2 g && same_numbers b2 args) _ q) in
      call_one (Calls i g args) e f g1 g2 b1 b2 p1 p2 o1 o2 x1 x2 ek fl c.0 c.1 a b
  event_one (Gives g args) e f (Ret g1 b1 v s1 p1 m1) (Ret g2 b2 u s2 p2 m2) ek fl a b p q h k =
      ek ∙ (given_one (Gives g args) e.keys f.keys g args g1 g2 b1 b2 v u s1 s2 p1 p2 m1 m2 (given w past t g args) (known (Gives g args) e (Ret g1 b1 v s1 p1 m1) ek a) (known (Gives g args) f (Ret g2 b2 u s2 p2 m2) fl b) h k ∙ sym fl)
  event_one (Returns g args r) e f (Ret g1 b1 v s1 p1 m1) (Ret g2 b2 u s2 p2 m2) ek fl a b p q h k =
      let c = and_parts (same_numbers b1 args) (eqb v r) (and_parts (eqb g1 g) (same_numbers b1 args && eqb v r) (some_if (eqb g1 g && (same_numbers b1 args && eqb v r)) _ p)).1 in
      let d = and_parts (same_numbers b2 args) (eqb u r) (and_parts (eqb g2 g) (same_numbers b2 args && eqb u r) (some_if (eqb g2 g && (same_numbers b2 args && eqb u r)) _ q)).1 in
      let result : v ≡ u = eqb-true v r c.1 ∙ sym (eqb-true u r d.1) in
      ek ∙ (ret_one e.keys f.keys g1 g2 b1 b2 v u s1 s2 p1 p2 m1 m2 (real w past) (known (Returns g args r) e (Ret g1 b1 v s1 p1 m1) ek a) (known (Returns g args r) f (Ret g2 b2 u s2 p2 m2) fl b) result h k ∙ sym fl)
  event_one (CallsBack g args bytes) e f (Up g1 b1) (Up g2 b2) ek fl a b p q h k =
      let c = called_one g1 g g2 b1 args b2 (some_if (eqb g1 g && same_numbers b1 args) _ p) (some_if (eqb g2 g && same_numbers b2 args) _ q) in
      ek ∙ ((λ j. Up (c.0 j) (c.1 j)) ∙ sym fl)
  event_one (UpReturns g r) e f (UpRet g1 v) (UpRet g2 u) ek fl a b p q h k =
      let c = and_parts (eqb g1 g) (eqb v r) (some_if (eqb g1 g && eqb v r) _ p) in
      let d = and_parts (eqb g2 g) (eqb u r) (some_if (eqb g2 g && eqb u r) _ q) in
      let z : g1 ≡ g2 = eqb-true g1 g c.0 ∙ sym (eqb-true g2 g d.0) in
      let y : v ≡ u = eqb-true v r c.1 ∙ sym (eqb-true u r d.1) in
      ek ∙ ((λ j. UpRet (z j) (y j)) ∙ sym fl)
  event_one Outside e f (Call g1 b1 p1 o1 x1) l ek fl a b p q h k = absurd (true≢false (sym p))
  event_one Outside e f (Ret g1 b1 v1 s1 p1 m1) l ek fl a b p q h k = absurd (true≢false (sym p))
  event_one Outside e f (Up g1 b1) l ek fl a b p q h k = absurd (true≢false (sym h))
  event_one Outside e f (UpRet g1 v1) l ek fl a b p q h k = absurd (true≢false (sym p))
  event_one Outside e f (Alloc x1 m1) l ek fl a b p q h k = absurd (true≢false (sym p))
  event_one Outside e f (Free x1 m1) l ek fl a b p q h k = absurd (true≢false (sym p))
  event_one Outside e f (Stop r1) l ek fl a b p q h k = absurd (true≢false (sym p))
  event_one Turns e f k1 l ek fl a b p q h k = absurd (true≢false (sym p))
  event_one (Loads o at n) e f k1 l ek fl a b p q h k = absurd (true≢false (sym p))
  event_one (Stores o at bytes) e f k1 l ek fl a b p q h k = absurd (true≢false (sym p))
  event_one (Enters i g args bytes) e f k1 l ek fl a b p q h k = absurd (true≢false (sym p))
  event_one (Leaves at n) e f k1 l ek fl a b p q h k = absurd (true≢false (sym p))
  event_one (Allocs n) e f (Call g1 b1 p1 o1 x1) l ek fl a b p q h k = absurd (true≢false (sym p))
  event_one (Allocs n) e f (Ret g1 b1 v1 s1 p1 m1) l ek fl a b p q h k = absurd (true≢false (sym p))
  event_one (Allocs n) e f (Up g1 b1) l ek fl a b p q h k = absurd (true≢false (sym p))
  event_one (Allocs n) e f (UpRet g1 v1) l ek fl a b p q h k = absurd (true≢false (sym p))
  event_one (Allocs n) e f (Alloc x1 m1) (Call g2 b2 p2 o2 x2) ek fl a b p q h k = absurd (true≢false (sym q))
  event_one (Allocs n) e f (Alloc x1 m1) (Ret g2 b2 v2 s2 p2 m2) ek fl a b p q h k = absurd (true≢false (sym q))
  event_one (Allocs n) e f (Alloc x1 m1) (Up g2 b2) ek fl a b p q h k = absurd (true≢false (sym q))
  event_one (Allocs n) e f (Alloc x1 m1) (UpRet g2 v2) ek fl a b p q h k = absurd (true≢false (sym q))
  event_one (Allocs n) e f (Alloc x1 m1) (Free x2 m2) ek fl a b p q h k = absurd (true≢false (sym q))
  event_one (Allocs n) e f (Alloc x1 m1) (Stop r2) ek fl a b p q h k = absurd (true≢false (sym q))
  event_one (Allocs n) e f (Free x1 m1) l ek fl a b p q h k = absurd (true≢false (sym p))
  event_one (Allocs n) e f (Stop r1) l ek fl a b p q h k = absurd (true≢false (sym p))
  event_one (Frees at) e f (Call g1 b1 p1 o1 x1) l ek fl a b p q h k = absurd (true≢false (sym p))
  event_one (Frees at) e f (Ret g1 b1 v1 s1 p1 m1) l ek fl a b p q h k = absurd (true≢false (sym p))
  event_one (Frees at) e f (Up g1 b1) l ek fl a b p q h k = absurd (true≢false (sym p))
  event_one (Frees at) e f (UpRet g1 v1) l ek fl a b p q h k = absurd (true≢false (sym p))
  event_one (Frees at) e f (Alloc x1 m1) l ek fl a b p q h k = absurd (true≢false (sym p))
  event_one (Frees at) e f (Free x1 m1) (Call g2 b2 p2 o2 x2) ek fl a b p q h k = absurd (true≢false (sym q))
  event_one (Frees at) e f (Free x1 m1) (Ret g2 b2 v2 s2 p2 m2) ek fl a b p q h k = absurd (true≢false (sym q))
  event_one (Frees at) e f (Free x1 m1) (Up g2 b2) ek fl a b p q h k = absurd (true≢false (sym q))
  event_one (Frees at) e f (Free x1 m1) (UpRet g2 v2) ek fl a b p q h k = absurd (true≢false (sym q))
  event_one (Frees at) e f (Free x1 m1) (Alloc x2 m2) ek fl a b p q h k = absurd (true≢false (sym q))
  event_one (Frees at) e f (Free x1 m1) (Stop r2) ek fl a b p q h k = absurd (true≢false (sym q))
  event_one (Frees at) e f (Stop r1) l ek fl a b p q h k = absurd (true≢false (sym p))
  event_one (Calls i g args) e f (Call g1 b1 p1 o1 x1) (Ret g2 b2 v2 s2 p2 m2) ek fl a b p q h k = absurd (true≢false (sym q))
  event_one (Calls i g args) e f (Call g1 b1 p1 o1 x1) (Up g2 b2) ek fl a b p q h k = absurd (true≢false (sym q))
  event_one (Calls i g args) e f (Call g1 b1 p1 o1 x1) (UpRet g2 v2) ek fl a b p q h k = absurd (true≢false (sym q))
  event_one (Calls i g args) e f (Call g1 b1 p1 o1 x1) (Alloc x2 m2) ek fl a b p q h k = absurd (true≢false (sym q))
  event_one (Calls i g args) e f (Call g1 b1 p1 o1 x1) (Free x2 m2) ek fl a b p q h k = absurd (true≢false (sym q))
  event_one (Calls i g args) e f (Call g1 b1 p1 o1 x1) (Stop r2) ek fl a b p q h k = absurd (true≢false (sym q))
  event_one (Calls i g args) e f (Ret g1 b1 v1 s1 p1 m1) l ek fl a b p q h k = absurd (true≢false (sym p))
  event_one (Calls i g args) e f (Up g1 b1) l ek fl a b p q h k = absurd (true≢false (sym p))
  event_one (Calls i g args) e f (UpRet g1 v1) l ek fl a b p q h k = absurd (true≢false (sym p))
  event_one (Calls i g args) e f (Alloc x1 m1) l ek fl a b p q h k = absurd (true≢false (sym p))
  event_one (Calls i g args) e f (Free x1 m1) l ek fl a b p q h k = absurd (true≢false (sym p))
  event_one (Calls i g args) e f (Stop r1) l ek fl a b p q h k = absurd (true≢false (sym p))
  event_one (Below g args) e f (Call g1 b1 p1 o1 x1) l ek fl a b p q h k = absurd (true≢false (sym p))
  event_one (Below g args) e f (Ret g1 b1 v1 s1 p1 m1) l ek fl a b p q h k = absurd h
  event_one (Below g args) e f (Up g1 b1) l ek fl a b p q h k = absurd (true≢false (sym h))
  event_one (Below g args) e f (UpRet g1 v1) l ek fl a b p q h k = absurd (true≢false (sym p))
  event_one (Below g args) e f (Alloc x1 m1) l ek fl a b p q h k = absurd (true≢false (sym p))
  event_one (Below g args) e f (Free x1 m1) l ek fl a b p q h k = absurd (true≢false (sym p))
  event_one (Below g args) e f (Stop r1) l ek fl a b p q h k = absurd (true≢false (sym p))
  event_one (Gives g args) e f (Call g1 b1 p1 o1 x1) l ek fl a b p q h k = absurd (true≢false (sym p))
  event_one (Gives g args) e f (Ret g1 b1 v1 s1 p1 m1) (Call g2 b2 p2 o2 x2) ek fl a b p q h k = absurd (true≢false (sym q))
  event_one (Gives g args) e f (Ret g1 b1 v1 s1 p1 m1) (Up g2 b2) ek fl a b p q h k = absurd (true≢false (sym q))
  event_one (Gives g args) e f (Ret g1 b1 v1 s1 p1 m1) (UpRet g2 v2) ek fl a b p q h k = absurd (true≢false (sym q))
  event_one (Gives g args) e f (Ret g1 b1 v1 s1 p1 m1) (Alloc x2 m2) ek fl a b p q h k = absurd (true≢false (sym q))
  event_one (Gives g args) e f (Ret g1 b1 v1 s1 p1 m1) (Free x2 m2) ek fl a b p q h k = absurd (true≢false (sym q))
  event_one (Gives g args) e f (Ret g1 b1 v1 s1 p1 m1) (Stop r2) ek fl a b p q h k = absurd (true≢false (sym q))
  event_one (Gives g args) e f (Up g1 b1) l ek fl a b p q h k = absurd (true≢false (sym p))
  event_one (Gives g args) e f (UpRet g1 v1) l ek fl a b p q h k = absurd (true≢false (sym p))
  event_one (Gives g args) e f (Alloc x1 m1) l ek fl a b p q h k = absurd (true≢false (sym p))
  event_one (Gives g args) e f (Free x1 m1) l ek fl a b p q h k = absurd (true≢false (sym p))
  event_one (Gives g args) e f (Stop r1) l ek fl a b p q h k = absurd (true≢false (sym p))
  event_one (Returns g args r) e f (Call g1 b1 p1 o1 x1) l ek fl a b p q h k = absurd (true≢false (sym p))
  event_one (Returns g args r) e f (Ret g1 b1 v1 s1 p1 m1) (Call g2 b2 p2 o2 x2) ek fl a b p q h k = absurd (true≢false (sym q))
  event_one (Returns g args r) e f (Ret g1 b1 v1 s1 p1 m1) (Up g2 b2) ek fl a b p q h k = absurd (true≢false (sym q))
  event_one (Returns g args r) e f (Ret g1 b1 v1 s1 p1 m1) (UpRet g2 v2) ek fl a b p q h k = absurd (true≢false (sym q))
  event_one (Returns g args r) e f (Ret g1 b1 v1 s1 p1 m1) (Alloc x2 m2) ek fl a b p q h k = absurd (true≢false (sym q))
  event_one (Returns g args r) e f (Ret g1 b1 v1 s1 p1 m1) (Free x2 m2) ek fl a b p q h k = absurd (true≢false (sym q))
  event_one (Returns g args r) e f (Ret g1 b1 v1 s1 p1 m1) (Stop r2) ek fl a b p q h k = absurd (true≢false (sym q))
  event_one (Returns g args r) e f (Up g1 b1) l ek fl a b p q h k = absurd (true≢false (sym p))
  event_one (Returns g args r) e f (UpRet g1 v1) l ek fl a b p q h k = absurd (true≢false (sym p))
  event_one (Returns g args r) e f (Alloc x1 m1) l ek fl a b p q h k = absurd (true≢false (sym p))
  event_one (Returns g args r) e f (Free x1 m1) l ek fl a b p q h k = absurd (true≢false (sym p))
  event_one (Returns g args r) e f (Stop r1) l ek fl a b p q h k = absurd (true≢false (sym p))
  event_one (CallsBack g args bytes) e f (Call g1 b1 p1 o1 x1) l ek fl a b p q h k = absurd (true≢false (sym p))
  event_one (CallsBack g args bytes) e f (Ret g1 b1 v1 s1 p1 m1) l ek fl a b p q h k = absurd (true≢false (sym p))
  event_one (CallsBack g args bytes) e f (Up g1 b1) (Call g2 b2 p2 o2 x2) ek fl a b p q h k = absurd (true≢false (sym q))
  event_one (CallsBack g args bytes) e f (Up g1 b1) (Ret g2 b2 v2 s2 p2 m2) ek fl a b p q h k = absurd (true≢false (sym q))
  event_one (CallsBack g args bytes) e f (Up g1 b1) (UpRet g2 v2) ek fl a b p q h k = absurd (true≢false (sym q))
  event_one (CallsBack g args bytes) e f (Up g1 b1) (Alloc x2 m2) ek fl a b p q h k = absurd (true≢false (sym q))
  event_one (CallsBack g args bytes) e f (Up g1 b1) (Free x2 m2) ek fl a b p q h k = absurd (true≢false (sym q))
  event_one (CallsBack g args bytes) e f (Up g1 b1) (Stop r2) ek fl a b p q h k = absurd (true≢false (sym q))
  event_one (CallsBack g args bytes) e f (UpRet g1 v1) l ek fl a b p q h k = absurd (true≢false (sym p))
  event_one (CallsBack g args bytes) e f (Alloc x1 m1) l ek fl a b p q h k = absurd (true≢false (sym p))
  event_one (CallsBack g args bytes) e f (Free x1 m1) l ek fl a b p q h k = absurd (true≢false (sym p))
  event_one (CallsBack g args bytes) e f (Stop r1) l ek fl a b p q h k = absurd (true≢false (sym p))
  event_one (UpReturns g r) e f (Call g1 b1 p1 o1 x1) l ek fl a b p q h k = absurd (true≢false (sym p))
  event_one (UpReturns g r) e f (Ret g1 b1 v1 s1 p1 m1) l ek fl a b p q h k = absurd (true≢false (sym p))
  event_one (UpReturns g r) e f (Up g1 b1) l ek fl a b p q h k = absurd (true≢false (sym p))
  event_one (UpReturns g r) e f (UpRet g1 v1) (Call g2 b2 p2 o2 x2) ek fl a b p q h k = absurd (true≢false (sym q))
  event_one (UpReturns g r) e f (UpRet g1 v1) (Ret g2 b2 v2 s2 p2 m2) ek fl a b p q h k = absurd (true≢false (sym q))
  event_one (UpReturns g r) e f (UpRet g1 v1) (Up g2 b2) ek fl a b p q h k = absurd (true≢false (sym q))
  event_one (UpReturns g r) e f (UpRet g1 v1) (Alloc x2 m2) ek fl a b p q h k = absurd (true≢false (sym q))
  event_one (UpReturns g r) e f (UpRet g1 v1) (Free x2 m2) ek fl a b p q h k = absurd (true≢false (sym q))
  event_one (UpReturns g r) e f (UpRet g1 v1) (Stop r2) ek fl a b p q h k = absurd (true≢false (sym q))
  event_one (UpReturns g r) e f (Alloc x1 m1) l ek fl a b p q h k = absurd (true≢false (sym p))
  event_one (UpReturns g r) e f (Free x1 m1) l ek fl a b p q h k = absurd (true≢false (sym p))
  event_one (UpReturns g r) e f (Stop r1) l ek fl a b p q h k = absurd (true≢false (sym p))
  event_one (Steps i g args) e f k1 l ek fl a b p q h k = absurd (true≢false (sym p))
  event_one (Fails kind) e f k1 l ek fl a b p q h k = absurd (true≢false (sym p))
