-- Where the threads stand after a mark of one that could step, but for its own end.
use Rattle.std.proofs.Common.{◌≡◌, ◌≢◌, inl, inr, ℕ, ◌<◌, ◌≤◌, ℤ, Bool, true, false, cond, ◌&&◌, not, eqb, ltb, List, [], ◌∷◌, Option, Some, None, refl, sym, ap, ◌∙◌, arith, eqb-true, eq-eqb}
use Rattle.std.specs.Prelude.{is_some, slice_get}
use Rattle.std.specs.Ordering.{int_eq}
use Rattle.std.proofs.lemmas.Bool.{and_parts, true≢false, ltb-true, lt-ltb, cases_eq}
use Rattle.std.proofs.lemmas.Option.{slice_get_within}
use Rattle.marks.specs.Marks.{Mark}
use Rattle.c_builtins.specs.declared.builtin.Builtin.{Builtin}
use Rattle.system_side.specs.declared.threads.Wait.{Wait}
use Rattle.system_side.specs.declared.threads.Wait.TheVariants.{Mutex, Thread}
use Rattle.system_side.specs.declared.threads.Standing.{Standing}
use Rattle.system_side.specs.declared.threads.Standing.TheVariants.{Ready, Waits, Ended}
use Rattle.system_side.specs.Threads.{woken}
use Rattle.system_side.specs.System.{SystemState}
use Rattle.whole_runs.specs.World.{World}
use Rattle.whole_runs.specs.Sides.{own}
use Rattle.whole_runs.specs.Outcomes.{act_outcome, holder, started}
use Rattle.whole_runs.specs.Threads.{comes, ended_with, result_of}
use Rattle.whole_runs.specs.Picks.{can_step, is_other}
use Rattle.recorder_system.specs.Stands.{Asks, IsInt, IsSystemOf, StandsAs, int_of, next_asked, result_but}
use Rattle.recorder_system.proofs.IntPatterns.{same_ints}
use Rattle.recorder_system.proofs.Runs.{StartsNext, comes_other, none_yet, own_other, started_more}
use Rattle.recorder_system.proofs.Standing.{can_is_ready, can_started, ready_is}

pub but_here : (t : ℕ) (w : World) (past : List Mark) → result_but t w past t ≡ None
but_here t w past = ap (λ b. cond b None (result_of w past t)) (eq-eqb t t refl)

pub but_other : (t : ℕ) (w : World) (past : List Mark) (u : ℕ) → u ≢ t → result_but t w past u ≡ result_of w past u
but_other t w past u ne = go (eqb u t) refl
  where
    go : (b : Bool) → eqb u t ≡ b → cond b None (result_of w past u) ≡ result_of w past u
    go true e = absurd (ne (eqb-true u t e))
    go false e = refl

pub but_none : (t : ℕ) (w : World) (past : List Mark) (u : ℕ) → result_of w past u ≡ None → result_but t w past u ≡ None
but_none t w past u e = go (eqb u t)
  where
    go : (b : Bool) → cond b None (result_of w past u) ≡ None
    go true = refl
    go false = e

module _ (w : World) (past : List Mark) (m : Mark) (s : SystemState) (h : IsSystemOf w past s) (can : can_step w past m.thread ≡ true) (next : StartsNext past (act_outcome m.thread m.act)) where
  abbrev now : List Mark
  now = m ∷ past

  abbrev told : ℕ → Option ℕ
  told u = result_but m.thread w now u

  pub was_started : m.thread < started past
  was_started = can_started w past m.thread can

  comes_same : (u : ℕ) → u ≢ m.thread → u < started past → comes w now u ≡ comes w past u
  comes_same u ne lt = comes_other w past m u next (λ e. ne (sym e)) lt

  told_other : (u : ℕ) → u ≢ m.thread → u < started past → told u ≡ result_of w past u
  told_other u ne lt = but_other m.thread w now u ne ∙ ap ended_with (comes_same u ne lt)

  told_none : (u : ℕ) → u < started past → result_of w past u ≡ None → told u ≡ None
  told_none u lt e = elim (cases_eq u m.thread) [
    | inl same ↦ ap told same ∙ but_here m.thread w now
    | inr ne ↦ told_other u ne lt ∙ e
  ]

  -- those that weren't started made no mark
  pub still_silent : (u : ℕ) → started past ≤ u → own w u now ≡ []
  still_silent u le = own_other w past m u (λ e. let k = was_started in omega (arith, k, le, e)) ∙ h.silent u le

  pub silent_now : (u : ℕ) → started now ≤ u → own w u now ≡ []
  silent_now u le = let k = started_more past m in still_silent u (omega (arith, le, k))

  pub told_new : (u : ℕ) → started past ≤ u → told u ≡ None
  told_new u le = but_none m.thread w now u (none_yet w now u (still_silent u le))

  asks_same : (u : ℕ) (b : Builtin) (k : ℕ) → u ≢ m.thread → u < started past → Asks w past u b k → Asks w now u b k
  asks_same u b k ne lt a = record {
    args = a.args;
    call = ap next_asked (comes_same u ne lt) ∙ a.call;
    first_is = a.first_is;
  }

  other_parts : (u k : ℕ) → is_other past u k ≡ true → (k < started past) × (not (eqb k u) ≡ true)
  other_parts u k e = let parts = and_parts (ltb k (started past)) (not (eqb k u)) e in (ltb-true k (started past) parts.0, parts.1)

  other_now : (u k : ℕ) → is_other past u k ≡ true → is_other now u k ≡ true
  other_now u k e =
      let parts = other_parts u k e in
      let more = started_more past m in
      ap (λ b. b && not (eqb k u)) (lt-ltb k (started now) (omega (arith, parts.0, more))) ∙ parts.1

  -- the thread of the mark stands ready
  is_its : (u : ℕ) (at : Standing) → slice_get s.threads u ≡ Some at → u ≡ m.thread → at ≡ Ready
  is_its u at e same = ready_is s.threads m.thread at (ap (slice_get s.threads) (sym same) ∙ e) (can_is_ready w past s h m.thread can)

  its_not : (u : ℕ) (wait : Wait) → slice_get s.threads u ≡ Some (Waits wait) → u ≢ m.thread
  its_not u wait e same = let k = is_its u (Waits wait) e same in absurd cc

  its_not_ended : (u : ℕ) (v : ℤ) → slice_get s.threads u ≡ Some (Ended v) → u ≢ m.thread
  its_not_ended u v e same = let k = is_its u (Ended v) e same in absurd cc

  in_range : (u : ℕ) (at : Standing) → slice_get s.threads u ≡ Some at → u < started past
  in_range u at e = let k = slice_get_within s.threads u at e in let count = h.count in omega (arith, k, count)

  -- a thread stands where it stood, where the mutex that it waits for is still held
  pub stays : (u : ℕ) (at : Standing) → slice_get s.threads u ≡ Some at → ((k : ℕ) → IsInt k → at ≡ Waits (Mutex (int_of k)) → is_some (holder k past) ≡ true → is_some (holder k now) ≡ true) → StandsAs w now told u at
  stays u Ready e kept = told_none u (in_range u Ready e) (h.threads u Ready e)
  stays u (Ended v) e kept = told_other u (its_not_ended u v e) (in_range u (Ended v) e) ∙ h.threads u (Ended v) e
  stays u (Waits (Mutex x)) e kept =
      let lt = in_range u (Waits (Mutex x)) e in
      let stood = h.threads u (Waits (Mutex x)) e in
      let a = stood.1 in (
        told_none u lt stood.0,
        record {
          mutex = a.mutex;
          is_int = a.is_int;
          number = a.number;
          asks = asks_same u _ _ (its_not u (Mutex x) e) lt a.asks;
          held = kept a.mutex a.is_int (ap (λ z. Waits (Mutex z)) (sym a.number)) a.held;
        },
      )
  stays u (Waits (Thread x)) e kept =
      let lt = in_range u (Waits (Thread x)) e in
      let stood = h.threads u (Waits (Thread x)) e in
      let a = stood.1 in (
        told_none u lt stood.0,
        record {
          other = a.other;
          number = a.number;
          asks = asks_same u _ _ (its_not u (Thread x) e) lt a.asks;
          is_another = other_now u a.other a.is_another;
          runs = told_none a.other (other_parts u a.other a.is_another).0 a.runs;
        },
      )

  -- so it does where those are woken that wait for a mutex, if all others are still held
  pub wakes : (z : ℤ) → ((k : ℕ) → IsInt k → int_of k ≢ z → is_some (holder k past) ≡ true → is_some (holder k now) ≡ true) → (u : ℕ) (at : Standing) → slice_get s.threads u ≡ Some at → StandsAs w now told u (woken (Mutex z) at)
  wakes z kept u Ready e = stays u Ready e (λ k i f is. absurd cc)
  wakes z kept u (Ended v) e = stays u (Ended v) e (λ k i f is. absurd cc)
  wakes z kept u (Waits (Thread x)) e = stays u (Waits (Thread x)) e (λ k i f is. absurd cc)
  wakes z kept u (Waits (Mutex x)) e = go (int_eq x z) refl
    where
      number : Standing → ℤ
      number Ready = x
      number (Waits (Mutex y)) = y
      number (Waits (Thread y)) = x
      number (Ended v) = x

      go : (b : Bool) → int_eq x z ≡ b → StandsAs w now told u (cond b Ready (Waits (Mutex x)))
      go true is = told_none u (in_range u (Waits (Mutex x)) e) (h.threads u (Waits (Mutex x)) e).0
      go false is = stays u (Waits (Mutex x)) e (λ k i f held. kept k i (λ same. true≢false (sym (same_ints x z (ap number f ∙ same)) ∙ is)) held)
