-- The oldest marks of a run.
use Rattle.std.proofs.Common.{◌≡◌, ℕ, zero, suc, ◌+◌, ◌-◌, ◌<◌, ◌≤◌, List, [], ◌∷◌, length, map, drop, get_or, sym, ap, ◌∙◌, subst, arith}
use Rattle.std.proofs.Math.Seq.{drop-cons}
use Rattle.std.proofs.lemmas.List.{get_or-map, drop_all, get_or-reverse, length-map, length-reverse}
use Rattle.marks.specs.Marks.{Mark}
use Rattle.c_machine.specs.Moves.{ThreadState}
use Rattle.whole_runs.specs.World.{World}
use Rattle.whole_runs.specs.Ends.{Follows}
use Rattle.recorder_threads.specs.Threads.{AreThreadsOf}
use Rattle.reference_recorder_marks.specs.declared.mark.Mark.{Mark as Marked}
use Rattle.reference_recorder_marks.specs.Marks.{mark_of, past, without_origin, without_origins}
use Rattle.reference_recorder_threads.specs.Telling.{IsMarkNext, IsPast}

-- the first so many
abbrev pub oldest : ℕ → List Mark → List Mark
oldest i run = drop (length run - i) run

-- without the global that its path begins with
abbrev bare : Mark → Mark
bare m = record m { act = without_origin m.act }

pub follows_on : (w : World) (i : ℕ) (run : List Mark) → Follows w run → Follows w (drop i run)
follows_on w zero run f = f
follows_on w (suc i) [] f = tt
follows_on w (suc i) (m ∷ run) f = follows_on w i run f.1

pub as_many : (run : List Mark) (marks : List Marked) → without_origins run ≡ past marks → length run ≡ length marks
as_many run marks same =
    let a : length (without_origins run) ≡ length run = length-map run bare in
    let b : length (past marks) ≡ length marks = length-reverse (map mark_of marks) ∙ length-map marks mark_of in
    let c : length (without_origins run) ≡ length (past marks) = ap length same in
    omega (arith, a, b, c)

module _ (run : List Mark) (marks : List Marked) (same : without_origins run ≡ past marks) (i : ℕ) (k : Marked) (lt : i < length marks) (is : k ≡ get_or marks i k) (d : Mark) where
  abbrev at : ℕ
  at = length run - (i + 1)

  abbrev pub mark_at : Mark
  mark_at = get_or run at d

  at_lt : at < length run
  at_lt = let l = as_many run marks same in omega (arith, l, lt)

  pub oldest_more : oldest (i + 1) run ≡ mark_at ∷ oldest i run
  oldest_more =
      let l = as_many run marks same in
      let e : suc at ≡ length run - i = omega (arith, l, lt) in
      drop-cons run at d at_lt ∙ ap (λ j. mark_at ∷ drop j run) e

  pub mark_is : bare mark_at ≡ mark_of k
  mark_is =
      let l = as_many run marks same in
      let n : length (map mark_of marks) ≡ length marks = length-map marks mark_of in
      let e : length (map mark_of marks) - 1 - at ≡ i = omega (arith, l, lt, n) in
      sym (get_or-map bare run at d (bare d) at_lt)
      ∙ (ap (λ xs. get_or xs at (bare d)) same
      ∙ (get_or-reverse (map mark_of marks) at (bare d) (omega (arith, l, lt, n))
      ∙ (ap (λ j. get_or (map mark_of marks) j (bare d)) e
      ∙ (get_or-map mark_of marks i k (bare d) lt ∙ ap mark_of (sym is)))))

module _ (w : World) (marks : List Marked) (p : IsPast w marks) (i : ℕ) (k : Marked) (lt : i < length marks) (is : k ≡ get_or marks i k) (threads : List ThreadState) (stand : AreThreadsOf w (oldest i p.run) threads) where
  abbrev pub next : IsMarkNext w threads k
  next = record {
    fit = p.fit;
    past = oldest i p.run;
    mark = mark_at p.run marks p.same i k lt is (mark_of k);
    same = mark_is p.run marks p.same i k lt is (mark_of k);
    follows = subst (Follows w) (oldest_more p.run marks p.same i k lt is (mark_of k)) (follows_on w (length p.run - (i + 1)) p.run p.follows);
    stand = stand;
  }

  pub after : (now : List ThreadState) → AreThreadsOf w (next.mark ∷ next.past) now → AreThreadsOf w (oldest (i + 1) p.run) now
  after now h = subst (λ ms. AreThreadsOf w ms now) (sym (oldest_more p.run marks p.same i k lt is (mark_of k))) h

pub oldest_none : (run : List Mark) → oldest 0 run ≡ []
oldest_none run = drop_all (length run - 0) run (omega arith)

pub oldest_all : (run : List Mark) (i : ℕ) → length run ≤ i → oldest i run ≡ run
oldest_all run i le = let none : length run - i ≡ 0 = omega (arith, le) in ap (λ j. drop j run) none
