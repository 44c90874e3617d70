-- A load and a store that memory allows and that don't race are made.
use Rattle.std.proofs.Common.{◌≡◌, ℕ, ◌+◌, ◌^◌, ◌<◌, Bool, true, false, ◌&&◌, eqb, List, [], ◌∷◌, length, Option, Some, None, IfSome, Ok, is_some, refl, sym, ap, subst, arith, eq-eqb}
use Rattle.std.specs.Prelude.{IsSome}
use Rattle.std.proofs.lemmas.Bool.{and_from}
use Rattle.marks.specs.Places.{thread_count}
use Rattle.marks.specs.declared.range.Range.{Range}
use Rattle.marks.specs.Ranges.{range, are_bytes, bytes_of_number, number_of_bytes}
use Rattle.marks.specs.Marks.{Act, Load, Store, Mark}
use Rattle.marks.specs.Bytes.{Byte}
use Rattle.marks.specs.Wants.{Loads, Stores, Value, Go, answer_if, answer_to, same_numbers, same_origin}
use Rattle.space_memory_bytes.specs.Numbers.{HasNumber, SameOutside}
use Rattle.space_memory_access.specs.Accesses.{IsAllowed}
use Rattle.space_memory_laws.specs.Marks.{IsMark}
use Rattle.space_memory_laws.specs.Refusals.{access}
use Rattle.space_memory_laws.proofs.Access.{loads, stores, reach_ends}
use Rattle.space_memory_laws.proofs.Digits.{bytes_of}
use Rattle.replay_runs.specs.Interface.{Program}
use Rattle.replay_runs.specs.Rules.{is_reply}
use Rattle.replay_runs.specs.Laws.{fresh}
use Rattle.replay_runs.specs.Checks.{Done, Passes, range_checks}
use Rattle.replay_runs.proofs.Checked.{load_touches, store_touches}
use Rattle.race_watch.specs.Told.{Accessed}
use Rattle.race_watch.specs.Stands.{Stands, AnswersBy, WasTold}
use Rattle.race_watch_laws.specs.Told.{told}
use Rattle.steps_above_memory.specs.declared.above.MemoryAbove.{MemoryAbove}
use Rattle.steps_above_memory.specs.Above.{StandsForAbove}
use Rattle.steps_above_memory.specs.declared.refusal.StepRefusal.{StepRefusal}
use Rattle.steps_above_memory.specs.Refusals.{IsFound}
use Rattle.steps_above_memory.specs.Steps.{Makes, Refuses, next_mark}
use Rattle.steps_above_memory.proofs.Made.{range_made}
use Rattle.steps_above_memory.proofs.Ranges.{FindsAt, finds}

same_origin_self : (o : Option ℕ) → same_origin o o ≡ true
same_origin_self None = refl
same_origin_self (Some x) = eq-eqb x x refl

pub same_numbers_self : (xs : List ℕ) → same_numbers xs xs ≡ true
same_numbers_self [] = refl
same_numbers_self (x ∷ xs) = and_from (eqb x x) (same_numbers xs xs) (eq-eqb x x refl) (same_numbers_self xs)

load_reply : (o : Option ℕ) (at width : ℕ) (bytes : List ℕ) → length bytes ≡ width → are_bytes bytes ≡ true → is_reply (Loads o at width) (Load o at bytes) ≡ true
unfolding answer_to
load_reply o at width bytes n small = ap (λ b. is_some (answer_if b (Value (number_of_bytes bytes))))
    (and_from (same_origin o o && eqb at at) (eqb (length bytes) width && are_bytes bytes)
    (and_from (same_origin o o) (eqb at at) (same_origin_self o) (eq-eqb at at refl))
    (and_from (eqb (length bytes) width) (are_bytes bytes) (eq-eqb (length bytes) width n) small))

store_reply : (o : Option ℕ) (at : ℕ) (bytes : List ℕ) → is_reply (Stores o at bytes) (Store o at bytes) ≡ true
unfolding answer_to
store_reply o at bytes = ap (λ b. is_some (answer_if b Go))
    (and_from (same_origin o o) (eqb at at && same_numbers bytes bytes) (same_origin_self o)
    (and_from (eqb at at) (same_numbers bytes bytes) (eq-eqb at at refl) (same_numbers_self bytes)))

module _ (old new : MemoryAbove) (t addr width value : ℕ) (origin : Option ℕ) (lt : t < thread_count) (small : addr < 2 ^ 64) where
  abbrev r : Range
  r = record { addr = addr; len = width }

  n : length (bytes_of_number width value) ≡ width
  n = (bytes_of width value).count

  passes : (write : Bool) (program : Program) (memory : ℕ → Byte) (past : List Mark) → StandsForAbove program memory past old →
      IsAllowed old.spaces.bytes old.spaces.held.regions (access t addr width write) → AnswersBy old.watch t r write (Ok tt) →
      Passes (range_checks (fresh memory) past t write [] (range addr (length (bytes_of_number width value))) Done)
  passes write program memory past h ok free = subst (λ k. Passes (range_checks (fresh memory) past t write [] (range addr k) Done)) (sym n)
      ((finds program memory past old h t addr width write small (free (told past) h.watch)).passes.1 ok)

  ends : (write : Bool) (program : Program) (memory : ℕ → Byte) (past : List Mark) → StandsForAbove program memory past old →
      IsAllowed old.spaces.bytes old.spaces.held.regions (access t addr width write) → addr + length (bytes_of_number width value) < 2 ^ 64
  ends write program memory past h ok = let e = reach_ends (fresh memory) past old.spaces t addr width write h.spaces small ok in omega (arith, e, n)

  taken : (write : Bool) (past : List Mark) → Stands (told past) old.watch → WasTold (Accessed t r write) old.watch new.watch →
      Stands (Accessed t (range addr (length (bytes_of_number width value))) write ∷ told past) new.watch
  taken write past h one = subst (λ k. Stands (Accessed t (range addr k) write ∷ told past) new.watch) (sym n) (one (told past) h)

  pub load_made : IsAllowed old.spaces.bytes old.spaces.held.regions (access t addr width false) →
      HasNumber old.spaces.bytes addr width value → new.spaces ≡ old.spaces → AnswersBy old.watch t r false (Ok tt) →
      WasTold (Accessed t r false) old.watch new.watch →
      Makes old t (Loads origin addr width) (Load origin addr (bytes_of_number width value)) new
  load_made ok has same free one program memory past h modes =
      let act : Act = Load origin addr (bytes_of_number width value) in
      let m : Mark = next_mark memory past t act in
      let pass : Passes (range_checks (fresh memory) past t false [] (range addr (length (bytes_of_number width value))) Done) = passes false program memory past h ok free in
      range_made program memory past old new t (Loads origin addr width) act false (range addr (length (bytes_of_number width value))) h
      (record {
        thread = lt;
        plain = refl;
        sound = refl;
        touched = load_touches m origin addr (bytes_of_number width value) refl;
        passes = pass;
        ends = ends false program memory past h ok;
        reply = load_reply origin addr width (bytes_of_number width value) n (bytes_of width value).small;
        modes = tt;
        carries = tt;
        first = tt;
        mark = subst (IsMark (fresh memory) past m) (sym same) (loads (fresh memory) past old.spaces m origin t addr width value h.spaces small (record { number = has; allowed = ok }) refl);
        watch = taken false past h.watch one;
      })
      (subst (λ k. Passes (range_checks (fresh memory) past t false [] (range addr k) Done)) n pass)

  pub store_made : IsAllowed old.spaces.bytes old.spaces.held.regions (access t addr width true) →
      HasNumber new.spaces.bytes addr width value → SameOutside r old.spaces.bytes new.spaces.bytes →
      new.spaces ≡ record old.spaces { bytes = new.spaces.bytes } → AnswersBy old.watch t r true (Ok tt) →
      WasTold (Accessed t r true) old.watch new.watch →
      Makes old t (Stores origin addr (bytes_of_number width value)) (Store origin addr (bytes_of_number width value)) new
  store_made ok has outside same free one program memory past h modes =
      let act : Act = Store origin addr (bytes_of_number width value) in
      let m : Mark = next_mark memory past t act in
      let pass : Passes (range_checks (fresh memory) past t true [] (range addr (length (bytes_of_number width value))) Done) = passes true program memory past h ok free in
      range_made program memory past old new t (Stores origin addr (bytes_of_number width value)) act true (range addr (length (bytes_of_number width value))) h
      (record {
        thread = lt;
        plain = refl;
        sound = refl;
        touched = store_touches m origin addr (bytes_of_number width value) refl;
        passes = pass;
        ends = ends true program memory past h ok;
        reply = store_reply origin addr (bytes_of_number width value);
        modes = tt;
        carries = tt;
        first = tt;
        mark = stores (fresh memory) past old.spaces new.spaces m origin t addr width value h.spaces small (record { allowed = ok; number = has; others = outside; rest = same }) refl;
        watch = taken true past h.watch one;
      })
      pass

-- and what refuses them is found
pub load_refused : (above : MemoryAbove) (t addr width : ℕ) (refusal found : StepRefusal) →
    FindsAt above t false (record { addr = addr; len = width }) refusal → found ≡ refusal → (origin : Option ℕ) →
    Refuses above t (Loads origin addr width) found
load_refused above t addr width refusal found finds is origin program memory past h modes = subst (IsFound (range_checks (fresh memory) past t false [] (range addr width) Done)) (sym is) (finds program memory past h)

pub store_refused : (above : MemoryAbove) (t addr width value : ℕ) (refusal found : StepRefusal) →
    FindsAt above t true (record { addr = addr; len = width }) refusal → found ≡ refusal → (origin : Option ℕ) →
    Refuses above t (Stores origin addr (bytes_of_number width value)) found
store_refused above t addr width value refusal found finds is origin program memory past h modes =
    subst (λ k. IsFound (range_checks (fresh memory) past t true [] (range addr k) Done) found) (sym (bytes_of width value).count)
    (subst (IsFound (range_checks (fresh memory) past t true [] (range addr width) Done)) (sym is) (finds program memory past h))

-- a load that a glance shows, and that the watch knows, is made and changes nothing
pub load_seen : (old : MemoryAbove) (t addr width : ℕ) (o : Option ℕ) → t < thread_count → addr < 2 ^ 64 → (IsSome o → IsAllowed old.spaces.bytes old.spaces.held.regions (access t addr width false)) → IfSome o (HasNumber old.spaces.bytes addr width)
    → AnswersBy old.watch t (record { addr = addr; len = width }) false (Ok tt) → WasTold (Accessed t (record { addr = addr; len = width }) false) old.watch old.watch
    → IfSome o (λ value. (origin : Option ℕ) → Makes old t (Loads origin addr width) (Load origin addr (bytes_of_number width value)) old)
load_seen old t addr width None lt small ok has free one = tt
load_seen old t addr width (Some v) lt small ok has free one = λ origin. load_made old old t addr width v origin lt small (ok refl) has refl free one
