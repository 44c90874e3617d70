-- What an event above the cut has besides its kind follows from the past.
use Rattle.std.proofs.Common.{◌≡◌, ℕ, suc, ◌<◌, Bool, true, false, ◌||◌, List, [], ◌∷◌, map, refl, sym, ap, ◌∙◌, subst, arith}
use Rattle.run_events.specs.declared.key.Key.{Key}
use Rattle.run_events.specs.declared.key.KeyMark.{KeyMark}
use Rattle.marks.specs.declared.side.Side.TheVariants.{Replay}
use Rattle.marks.specs.Marks.{Event, Made, Mark}
use Rattle.marks.specs.Wants.{Want}
use Rattle.replay_runs.specs.Runs.{Link, OfThread, OfKey, Start, same_key, is_listed, has, marks_of, events_with, last_clock, Allowed}
use Rattle.replay_runs.specs.Interface.{Interface}
use Rattle.replay_runs.specs.Keys.{sorted_keys, keys_for}
use Rattle.whole_runs.specs.Steps.{rules_above}
use Rattle.whole_runs_laws.proofs.Sorted.{IsSorted, are_sorted, marks_one}

abbrev pub made_mark : ℕ → ℕ → Event → Mark
made_mark t index e = record { thread = t; side = Replay; index = index; act = Made e }

abbrev listed : List Key → Key → Bool
listed [] k = false
listed (j ∷ js) k = same_key j k || listed js k

listed_is : (qs : List KeyMark) (k : Key) → is_listed qs k ≡ listed (map (λ q. q.key) qs) k
listed_is [] k = refl
listed_is (q ∷ qs) k = ap (λ b. same_key q.key k || b) (listed_is qs k)

module _ (i : Interface) (want : Want) (s : Start) (past : List Mark) (t index : ℕ) where
  abbrev mine : List Mark
  mine = marks_of s t past

  abbrev Fits : Event → Type 0
  Fits e = Allowed (rules_above i s want) s past (made_mark t index e)

  pub keys_one : (e f : Event) → keys_for i t mine e.kind ≡ keys_for i t mine f.kind → Fits e → Fits f → e.keys ≡ f.keys
  keys_one e f k a b =
      let ours : map (λ q. q.key) e.keys ≡ sorted_keys (keys_for i t mine e.kind) = a.own.0 in
      let theirs : map (λ q. q.key) f.keys ≡ sorted_keys (keys_for i t mine f.kind) = b.own.0 in
      let same : map (λ q. q.key) e.keys ≡ map (λ q. q.key) f.keys = ours ∙ (ap sorted_keys k ∙ sym theirs) in
      marks_one e.keys f.keys same (subst IsSorted (sym ours) (are_sorted (keys_for i t mine e.kind))) (λ j l.
      let also : is_listed f.keys j ≡ true = listed_is f.keys j ∙ (ap (λ ks. listed ks j) (sym same) ∙ (sym (listed_is e.keys j) ∙ l)) in
      a.tickets (OfKey j) l ∙ sym (b.tickets (OfKey j) also))

  -- the one has each link of the other
  link_too : (e f : Event) → e.keys ≡ f.keys → (l : Link) → has (made_mark t index e) l ≡ true → has (made_mark t index f) l ≡ true
  link_too e f k (OfThread u) h = h
  link_too e f k (OfKey j) h = ap (λ qs. is_listed qs j) (sym k) ∙ h

  -- the clock is at most that of the other
  clock_most : (e f : Event) → e.keys ≡ f.keys → Fits e → Fits f → e.clock < suc f.clock
  clock_most e f k a b =
      let least = a.least refl in
      let is : e.clock ≡ suc (last_clock (events_with s least.0 past)) = least.2 in
      let rises : last_clock (events_with s least.0 past) < f.clock = b.rises least.0 (link_too e f k least.0 least.1) in
      omega (arith, is, rises)

  pub one_event : (e f : Event) → e.kind ≡ f.kind → Fits e → Fits f → e ≡ f
  one_event e f k a b =
      let keys : e.keys ≡ f.keys = keys_one e f (ap (keys_for i t mine) k) a b in
      let steps : e.steps ≡ f.steps = a.steps refl ∙ sym (b.steps refl) in
      let most = clock_most e f keys a b in
      let least = clock_most f e (sym keys) b a in
      let clock : e.clock ≡ f.clock = omega (arith, most, least) in
      λ j. record { kind = k j; steps = steps j; keys = keys j; clock = clock j }
