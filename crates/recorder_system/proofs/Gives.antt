-- What a system says that a call is given is what the run gives.
use Rattle.std.proofs.Common.{◌≡◌, ℕ, ◌≤◌, cond, leb, List, [], length, inl, inr, Option, Some, None, refl, sym, ap, ◌∙◌, subst, arith}
use Rattle.std.specs.Prelude.{filter, slice_get}
use Rattle.std.proofs.lemmas.Bool.{le-leb, lt-leb, cases_lt, lt-ltb, le-ltb}
use Rattle.marks.specs.Places.{thread_count}
use Rattle.marks.specs.Marks.{Mark}
use Rattle.c_builtins.specs.declared.builtin.Builtin.{Builtin}
use Rattle.c_builtins.specs.declared.builtin.Builtin.TheVariants.{Malloc, Free, Spawn, Join, Lock, Unlock, Print}
use Rattle.c_code.specs.Machine.{first}
use Rattle.system_side.specs.Answers.{left_of, places_of}
use Rattle.system_side.specs.System.{SystemState, is_thread}
use Rattle.whole_runs.specs.World.{World}
use Rattle.whole_runs.specs.Outcomes.{builtin_of, minus_one, started, used}
use Rattle.whole_runs.specs.Below.{Says, given, given_by, next_answer}
use Rattle.recorder_system.specs.declared.given.Given.{Given}
use Rattle.recorder_system.specs.declared.given.Given.TheVariants as shown
use Rattle.recorder_system.specs.Stands.{IsSystemOf}
use Rattle.recorder_system.specs.Calls.{IsGiven, TakesInt, TellsGiven}
use Rattle.recorder_system.specs.Shown.{given_in, spawned_in}
use Rattle.recorder_system.proofs.Joins.{answered_so, joins}
use Rattle.recorder_system.proofs.Scripts.{Found, found, get_drop, is_of, none_left, one}

module _ (w : World) (past : List Mark) (s : SystemState) (h : IsSystemOf w past s) (few : length s.threads ≤ 32) (t f : ℕ) (args : List ℕ) where
  spawn_so : cond (leb thread_count (started past)) minus_one (started past) ≡ spawned_in s
  spawn_so =
      let count = h.count in
      elim (cases_lt (length s.threads) 32) [
        | inl lt ↦ ap (λ b. cond b minus_one (started past)) (lt-leb 32 (started past) (omega (arith, lt, count))) ∙ (sym h.count ∙ sym (ap (λ b. cond b (length s.threads) minus_one) (lt-ltb (length s.threads) 32 lt)))
        | inr le ↦ ap (λ b. cond b minus_one (started past)) (le-leb 32 (started past) (omega (arith, le, count))) ∙ sym (ap (λ b. cond b (length s.threads) minus_one) (le-ltb (length s.threads) 32 le))
      ]

  by_builtin : (b : Builtin) → TakesInt (Some b) (first args) → IsGiven w (given_by w past t f args (Some b)) (given_in s t (first args) b)
  by_builtin Malloc int = refl
  by_builtin Free int = refl
  by_builtin Spawn int = ap (λ v. Says v []) spawn_so
  by_builtin Join int = ap (λ v. Says v []) (answered_so w past t (first args) _ (joins w past s h few t (first args) int))
  by_builtin Lock int = refl
  by_builtin Unlock int = ap (λ o. Says (cond (is_thread t o) 0 minus_one) []) (sym (h.mutexes (first args) int))
  by_builtin Print int = refl

-- an answer of the file
abbrev pub shown_place : Option ℕ → Given
shown_place (Some p) = shown.Answer p
shown_place None = shown.NoMore

by_file : (w : World) (f n : ℕ) (r : Option ℕ) → Found 0 w.file.answers (filter (is_of f) w.file.answers) n r →
    IsGiven w (next_answer (slice_get (filter (is_of f) w.file.answers) n)) (shown_place r)
by_file w f n r (one p k a is at of) = let same : p ≡ k = omega (arith, is) in (a, ap (slice_get w.file.answers) same ∙ at, ap next_answer of)
by_file w f n r (none_left of) = ap next_answer of

pub tells_builtin : (s : SystemState) (t f : ℕ) (args : List ℕ) (b : Builtin) → length s.threads ≤ 32 → builtin_of f ≡ Some b → TakesInt (builtin_of f) (first args) → TellsGiven t f args s (given_in s t (first args) b)
tells_builtin s t f args b few is int w past h =
    subst (λ o. IsGiven w (given_by w past t f args o) (given_in s t (first args) b)) (sym is) (by_builtin w past s h few t f args b (subst (λ o. TakesInt o (first args)) is int))

pub tells_answer : (s : SystemState) (t f : ℕ) (args : List ℕ) → builtin_of f ≡ None → TellsGiven t f args s (shown_place (slice_get (left_of s.left f) 0))
tells_answer s t f args none w past h =
    let next : slice_get (left_of s.left f) 0 ≡ slice_get (places_of f 0 w.file.answers) (used f past) = ap (λ xs. slice_get xs 0) (h.answers f none) ∙ get_drop (places_of f 0 w.file.answers) (used f past) in
    subst (λ r. IsGiven w (given w past t f args) (shown_place r)) (sym next)
    (subst (λ o. IsGiven w (given_by w past t f args o) (shown_place (slice_get (places_of f 0 w.file.answers) (used f past)))) (sym none)
    (by_file w f (used f past) _ (found f w.file.answers 0 (used f past))))
