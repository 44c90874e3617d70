-- One part more of a report.
use Rattle.std.proofs.Common.{◌≡◌, ◌<◌, ◌+◌, ℕ, suc, Bool, true, false, ◌&&◌, ◌==◌, List, [], ◌∷◌, ◌++◌, codes, decimal, Option, Some, None, length, drop, get_or, if◌then◌else◌, refl, sym, ap, ◌∙◌, append_assoc, add-one, arith, eqb-true}
use Rattle.std.specs.List.{list_all}
use Rattle.std.proofs.lemmas.List.{drop_more, length-append}
use Rattle.run_events.specs.declared.event.Record.{Record}
use Rattle.c_code.specs.Machine.{Flat}
use Rattle.space_memory.specs.Spaces.{SpaceState}
use Rattle.call_inspector.specs.declared.ends.RunEnd.{RunEnd}
use Rattle.call_inspector.specs.declared.ends.Shown.{Shown}
use Rattle.call_inspector.specs.declared.lines.Passed.{Passed}
use Rattle.call_inspector.specs.declared.parts.State.{State}
use Rattle.call_inspector.specs.Open.{opened}
use Rattle.call_inspector.specs.ThreadText.{event_line, lines_after, thread_text, threads_from}
use Rattle.call_inspector.specs.Ending.{fault_in, fault_from_thread, or_else, spawned, has_begun, have_begun, is_over, thread_fault}
use Rattle.call_inspector.specs.Parts.{after_threads, begun_from, ending_with, fault_with, lines_from, most_of_threads, over_with, threads_left}
use Rattle.call_inspector.proofs.LineSteps.{opened_more}

-- ---- what was found first

module _ {A : Type 0} where
  or_else_assoc : (a b c : Option A) → or_else (or_else a b) c ≡ or_else a (or_else b c)
  or_else_assoc None b c = refl
  or_else_assoc (Some x) b c = refl

  or_else_none : (a : Option A) → or_else a None ≡ a
  or_else_none None = refl
  or_else_none (Some x) = refl

and_assoc : (a b c : Bool) → ((a && b) && c) ≡ (a && (b && c))
and_assoc true b c = refl
and_assoc false b c = refl

and_true : (a : Bool) → (a && true) ≡ a
and_true true = refl
and_true false = refl

-- ---- events of a thread

length_more : (rs : List Record) (r : Record) → suc (length rs) ≡ length (rs ++ r ∷ [])
length_more rs r = let n = length-append rs (r ∷ []) in omega (arith, n)

module _ (code : Flat) (threads : List (List Record)) where
  lines_same : (rs earlier : List Record) → lines_from code (opened earlier) (length earlier) rs ≡ lines_after code earlier rs
  lines_same [] earlier = refl
  lines_same (r ∷ rs) earlier = ap (λ (w : List ℕ). event_line code (opened earlier) (length earlier) r ++ w)
      (ap (λ (a : List ℕ). lines_from code a (suc (length earlier)) rs) (sym (opened_more earlier r))
      ∙ ap (λ (n : ℕ). lines_from code (opened (earlier ++ r ∷ [])) n rs) (length_more earlier r)
      ∙ lines_same rs (earlier ++ r ∷ []))

  begun_same : (rs earlier : List Record) → begun_from threads (opened earlier) rs ≡ have_begun threads earlier rs
  begun_same [] earlier = refl
  begun_same (r ∷ rs) earlier = ap (λ (b : Bool). has_begun threads (spawned (opened earlier) r.event) && b)
      (ap (λ (a : List ℕ). begun_from threads a rs) (sym (opened_more earlier r)) ∙ begun_same rs (earlier ++ r ∷ []))

-- ---- threads

module _ (s : State) where
  abbrev threads : List (List Record)
  threads = s.run.now.threads

  abbrev code : Flat
  code = s.code.now

  abbrev memory : SpaceState
  memory = s.run.now.memory

  -- the threads from one on, where this is to be noted first
  abbrev from_thread : ℕ → RunEnd → Option Shown → Bool → List ℕ
  from_thread n end fault over =
      threads_from code n (drop n threads) ++ after_threads memory (ending_with threads end (or_else fault (fault_from_thread n (drop n threads))) (over && list_all (is_over threads) (drop n threads)))

  -- the next one
  one_thread : (rs : List Record) → s.next < length threads → rs ≡ get_or threads s.next rs
      → threads_left s None true ≡ thread_text code s.next rs ++ from_thread (s.next + 1) s.end (fault_in s.next (thread_fault rs)) (is_over threads rs)
  one_thread rs lt is =
      let n = s.next in
      let more : List (List Record) = drop (n + 1) threads in
      let after : ℕ → List ℕ = λ m. after_threads memory (ending_with threads s.end (or_else (fault_in n (thread_fault rs)) (fault_from_thread m more)) (is_over threads rs && list_all (is_over threads) more)) in
      ap (λ (ts : List (List Record)). threads_from code n ts ++ after_threads memory (ending_with threads s.end (fault_from_thread n ts) (list_all (is_over threads) ts))) (drop_more threads n rs lt ∙ ap (λ (x : List Record). x ∷ more) (sym is))
      ∙ append_assoc (thread_text code n rs) (threads_from code (suc n) more) (after (suc n))
      ∙ sym (ap (λ (m : ℕ). thread_text code n rs ++ (threads_from code m more ++ after m)) (add-one n))

  -- it has no event
  pub skipped : (rs : List Record) → s.next < length threads → rs ≡ get_or threads s.next rs → (length rs == 0) ≡ true → threads_left s None true ≡ from_thread (s.next + 1) s.end None true
  skipped [] lt is none = one_thread [] lt is
  skipped (r ∷ rs) lt is none = let z : length (r ∷ rs) ≡ 0 = eqb-true (length (r ∷ rs)) 0 none in absurd (omega (arith, z))

  -- it has one
  pub entered : (rs : List Record) → s.next < length threads → rs ≡ get_or threads s.next rs → (length rs == 0) ≡ false
      → threads_left s None true ≡ (codes "thread " ++ decimal s.next ++ codes "\n") ++ (lines_from code [] 0 rs ++ from_thread (s.next + 1) s.end (fault_in s.next (thread_fault rs)) (begun_from threads [] rs && length (opened rs) == 0))
  entered rs lt is some =
      let n = s.next in
      let lines : List ℕ = lines_after code [] rs in
      let found : Option Shown = fault_in n (thread_fault rs) in
      let rest : List ℕ = from_thread (n + 1) s.end found (is_over threads rs) in
      let head : List ℕ = codes "thread " ++ decimal n ++ codes "\n" in
      one_thread rs lt is
      ∙ ap (λ (b : Bool). (if b then [] else head ++ lines) ++ rest) some
      ∙ append_assoc head lines rest
      ∙ ap (λ (w : List ℕ). head ++ (w ++ rest)) (sym (lines_same code threads rs []))
      ∙ ap (λ (b : Bool). head ++ (lines_from code [] 0 rs ++ from_thread (n + 1) s.end found (b && length (opened rs) == 0))) (sym (begun_same code threads rs []))

  -- how many parts are still to come, where there is a thread
  pub one_thread_fewer : (rs : List Record) → s.next < length threads → rs ≡ get_or threads s.next rs → most_of_threads (drop s.next threads) ≡ 2 + length rs + most_of_threads (drop (s.next + 1) threads)
  one_thread_fewer rs lt is = ap most_of_threads (drop_more threads s.next rs lt ∙ ap (λ (x : List Record). x ∷ drop (s.next + 1) threads) (sym is))

  -- what is left where these events of a thread are still to come
  abbrev pub events_left : Passed → ℕ → List Record → ℕ → List ℕ
  events_left passed thread rs index =
      lines_from code passed.active index rs ++ threads_left s (fault_in thread (fault_with passed rs)) (over_with threads passed rs)

  -- none of them was passed
  pub at_first : (p : Passed) (thread : ℕ) (rs : List Record) → p.active ≡ [] → p.end ≡ record { fault = None; begun = true }
      → events_left p thread rs 0 ≡ lines_from code [] 0 rs ++ threads_left s (fault_in thread (thread_fault rs)) (begun_from threads [] rs && length (opened rs) == 0)
  at_first p thread rs none new = ap (λ (q : Passed). events_left q thread rs 0) same
    where
      first : Passed
      first = record { active = []; end = record { fault = None; begun = true } }

      same : p ≡ first
      same = λ i. record { active = none i; end = new i }

-- the same item of the same list
pub item_of : (ts threads : List (List Record)) (n : ℕ) (r rs : List Record) → ts ≡ threads → rs ≡ r → r ≡ get_or ts n r → rs ≡ get_or threads n rs
item_of ts threads n r rs is same item = same ∙ item ∙ ap (λ (xs : List (List Record)). get_or xs n r) is ∙ ap (get_or threads n) (sym same)
