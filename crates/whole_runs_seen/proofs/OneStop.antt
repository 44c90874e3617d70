-- A Stop that may come in a thread is one mark.
use Rattle.std.proofs.Common.{◌≡◌, ℕ, suc, true, eqb, List, [], ◌∷◌, map, length, refl, sym, ap, ◌∙◌, subst, eqb-true}
use Rattle.std.proofs.lemmas.Bool.{and_parts, true≢false}
use Rattle.run_events.specs.declared.key.KeyMark.{KeyMark}
use Rattle.marks.specs.declared.side.Side.TheVariants.{Replay}
use Rattle.marks.specs.Marks.{EventKind, Call, Ret, Up, UpRet, Alloc, Free, Stop, Event, Act, Turn, Load, Store, Enter, Leave, Step, Fault, Made, Mark, is_event}
use Rattle.marks.specs.Opens.{is_stop_event, is_stop}
use Rattle.replay_runs.specs.Runs.{Start, Link, OfThread, OfKey, is_listed, keys_of, clock_of, steps_of, has, marks_of, events_with, last_clock, steps_since, Allowed}
use Rattle.replay_runs.specs.Interface.{Program}
use Rattle.replay_runs.specs.Threads.{fault_of}
use Rattle.replay_runs.specs.Rules.{Carries, HasKeys, replay_rules}

-- the Stop of a thread with these events and marks
abbrev pub stop_with : (events mine : List Mark) → (thread : ℕ) → Mark
stop_with events mine t = record {
  thread = t;
  side = Replay;
  index = length events;
  act = Made (record { kind = Stop (fault_of mine); steps = steps_since mine; keys = []; clock = suc (last_clock events) });
}

abbrev stop_event : (events mine : List Mark) → Event
stop_event events mine = record { kind = Stop (fault_of mine); steps = steps_since mine; keys = []; clock = suc (last_clock events) }

no_keys : (qs : List KeyMark) → map (λ (q : KeyMark). q.key) qs ≡ [] → qs ≡ []
no_keys [] e = refl
no_keys (q ∷ qs) e = absurd cc

module _ (program : Program) (s : Start) (past : List Mark) (m : Mark) (may : Allowed (replay_rules program s) s past m) where
  abbrev mine : List Mark
  mine = marks_of s m.thread past

  abbrev events : List Mark
  events = events_with s (OfThread m.thread) past

  -- its clock comes after the thread's events alone
  clock_is : (keys : List KeyMark) → keys_of m.act ≡ keys → keys ≡ [] → (l : Link) → has m l ≡ true → last_clock (events_with s l past) ≡ last_clock events
  clock_is keys e none (OfThread u) h = ap (λ t. last_clock (events_with s (OfThread t) past)) (sym (eqb-true m.thread u (and_parts _ (eqb m.thread u) h).1))
  clock_is keys e none (OfKey k) h = absurd (true≢false (sym h ∙ ap (λ qs. is_listed qs k) (e ∙ none)))

  of_event : (e : Event) → m.act ≡ Made e → (k : EventKind) → e.kind ≡ k → is_stop_event k ≡ true → e ≡ stop_event events mine
  of_event e is (Stop f) kind z =
      let own = may.own in
      let as_event : Carries program.interface s m.thread mine (program.want m.thread mine) (Made e) = subst (Carries program.interface s m.thread mine (program.want m.thread mine)) is own.carries in
      let tells : f ≡ fault_of mine = subst (λ j. Carries program.interface s m.thread mine (program.want m.thread mine) (Made (record e { kind = j }))) kind as_event in
      let keyed : HasKeys program.interface m.thread mine (Made e) = subst (HasKeys program.interface m.thread mine) is own.keys in
      let none : e.keys ≡ [] = no_keys e.keys (subst (λ j. HasKeys program.interface m.thread mine (Made (record e { kind = j }))) kind keyed) in
      let made = may.least (ap is_event is) in
      let keys : keys_of m.act ≡ e.keys = ap keys_of is in
      let clock : e.clock ≡ suc (last_clock events) = sym (ap clock_of is) ∙ (made.2 ∙ ap suc (clock_is e.keys keys none made.0 made.1)) in
      let steps : e.steps ≡ steps_since mine = sym (ap steps_of is) ∙ may.steps (ap is_event is) in
      let which : e.kind ≡ Stop (fault_of mine) = kind ∙ ap Stop tells in
      λ i. record { kind = which i; steps = steps i; keys = none i; clock = clock i }
  of_event e is (Call f args ins outs prepared) kind z = absurd (true≢false (sym z))
  of_event e is (Ret f args v same outs commit) kind z = absurd (true≢false (sym z))
  of_event e is (Up f args) kind z = absurd (true≢false (sym z))
  of_event e is (UpRet f v) kind z = absurd (true≢false (sym z))
  of_event e is (Alloc at size) kind z = absurd (true≢false (sym z))
  of_event e is (Free at size) kind z = absurd (true≢false (sym z))

  of_act : (a : Act) → m.act ≡ a → is_stop a ≡ true → m.act ≡ Made (stop_event events mine)
  of_act (Made e) is z = is ∙ ap Made (of_event e is e.kind refl z)
  of_act Turn is z = absurd (true≢false (sym z))
  of_act (Load o at bytes) is z = absurd (true≢false (sym z))
  of_act (Store o at bytes) is z = absurd (true≢false (sym z))
  of_act (Enter f args at bytes) is z = absurd (true≢false (sym z))
  of_act (Leave at size) is z = absurd (true≢false (sym z))
  of_act (Step f args v ins pieces freed) is z = absurd (true≢false (sym z))
  of_act (Fault k c ins outs at) is z = absurd (true≢false (sym z))

  pub one_stop : is_stop m.act ≡ true → m ≡ stop_with events mine m.thread
  one_stop z =
      let act : m.act ≡ Made (stop_event events mine) = of_act m.act refl z in
      let side : m.side ≡ Replay = may.own.side in
      let index : m.index ≡ length events = may.index in
      λ i. record { thread = m.thread; side = side i; index = index i; act = act i }
