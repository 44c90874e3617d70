-- What a call does to a mutex.
use Rattle.std.proofs.Common.{◌≡◌, ℕ, Bool, true, false, cond, ◌&&◌, eqb, List, [], ◌∷◌, Option, Some, None, refl, sym, ◌∙◌}
use Rattle.c_builtins.specs.declared.builtin.Builtin.TheVariants.{Lock, Unlock}
use Rattle.c_builtins.specs.Table.{number_of}
use Rattle.marks.specs.declared.side.Side.TheVariants.{Replay, System}
use Rattle.marks.specs.declared.range.Range.{Range}
use Rattle.marks.specs.Ranges.{Piece}
use Rattle.marks.specs.Marks.{Commit, Ret, Step}
use Rattle.lockset_check_laws.specs.Locks.{Deed, Drops, Frees, Other, Takes, deed, event_deed, holder_after, is_that}
use Rattle.whole_runs.specs.Outcomes.{mutex_calls}
use Rattle.reference_recorder_outcomes.specs.Outcomes.{held_after}

abbrev locks : ℕ → Bool
locks f = eqb f (number_of Lock)

abbrev unlocks : ℕ → Bool
unlocks f = eqb f (number_of Unlock)

-- which call it is, and then which mutex, or the other way round
turned : (t : ℕ) (h : Option ℕ) (same lock unlock mine : Bool) →
    cond lock (cond same (Some t) h) (cond unlock (cond (same && mine) None h) h) ≡ cond same (cond lock (Some t) (cond (unlock && mine) None h)) h
turned t h true true unlock mine = refl
turned t h true false true mine = refl
turned t h true false false mine = refl
turned t h false true unlock mine = refl
turned t h false false true mine = refl
turned t h false false false mine = refl

spread : (k t : ℕ) (a b : Deed) (h : Option ℕ) (lock unlock : Bool) →
    holder_after k t (cond lock a (cond unlock b Other)) h ≡ cond lock (holder_after k t a h) (cond unlock (holder_after k t b h) h)
spread k t a b h true unlock = refl
spread k t a b h false true = refl
spread k t a b h false false = refl

pub step_held : (k t f : ℕ) (args : List ℕ) (v : ℕ) (ins pieces : List Piece) (freed : List Range) (h : Option ℕ) →
    held_after k t f args h ≡ holder_after k t (deed mutex_calls (Step f args v ins pieces freed)) h
step_held k t f [] v ins pieces freed h = refl
step_held k t f (i ∷ (j ∷ js)) v ins pieces freed h = refl
step_held k t f (j ∷ []) v ins pieces freed h =
    sym (spread k t (Takes System j) (Drops j) h (locks f) (unlocks f) ∙ turned t h (eqb j k) (locks f) (unlocks f) (is_that h t))

pub ret_held : (k t f : ℕ) (args : List ℕ) (v : ℕ) (same : Bool) (outs : List Piece) (commit : Commit) (h : Option ℕ) →
    held_after k t f args h ≡ holder_after k t (event_deed mutex_calls (Ret f args v same outs commit)) h
ret_held k t f [] v same outs commit h = refl
ret_held k t f (i ∷ (j ∷ js)) v same outs commit h = refl
ret_held k t f (j ∷ []) v same outs commit h =
    sym (spread k t (Takes Replay j) (Frees j) h (locks f) (unlocks f) ∙ turned t h (eqb j k) (locks f) (unlocks f) (is_that h t))
