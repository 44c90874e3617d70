-- Threads of a fit world hand over ints where builtins take them, and end with ints.
use Rattle.std.proofs.Common.{◌≡◌, ◌≢◌, ℕ, zero, suc, ◌-◌, ◌<◌, Bool, true, false, cond, ◌&&◌, eqb, leb, List, [], Option, Some, None, refl, sym, ap, ◌∙◌, subst, eqb-true}
use Rattle.std.specs.Prelude.{◌/◌, reverse}
use Rattle.marks.specs.Places.{function_address, builtin_count}
use Rattle.marks.specs.Marks.{Mark}
use Rattle.marks.specs.Wants.{Want, Outside, Turns, Loads, Stores, Enters, Leaves, Allocs, Frees, Calls, Below, Gives, Returns, CallsBack, UpReturns, Steps, Fails}
use Rattle.c_code.specs.declared.code.FuncInfo.{FuncInfo}
use Rattle.c_code.specs.Values.{is_value}
use Rattle.c_code.specs.Machine.{Laid, Config, Starting, callee, first, func_of, has_sig}
use Rattle.c_code.specs.MarkLists.{Next, Quiet, Wants, Ends, No, Split, Ended, Wrong, at_end, lists, result_shape, state, step}
use Rattle.c_code.specs.Valid.{IsValid, start_sig}
use Rattle.c_code.specs.Typed.{AreArguments, CarriesValues, IsResultOf}
use Rattle.whole_runs.specs.World.{World}
use Rattle.whole_runs.specs.Sides.{own}
use Rattle.whole_runs.specs.Outcomes.{started, started_with}
use Rattle.whole_runs.specs.Threads.{beginning, comes, ended_with}
use Rattle.whole_runs.specs.Picks.{Asked, asked}
use Rattle.whole_runs.specs.Fits.{IsFitCode}
use Rattle.whole_runs_seen.proofs.Answered.{right_where_wanted, said_all}
use Rattle.whole_runs_seen.proofs.Threads.{AreThreads, args_at, begins_so, func_at, threads_known}
use Rattle.recorder_system.specs.Stands.{IsInt, call_of, next_asked}
use Rattle.recorder_system.specs.Calls.{HasInt}
use Rattle.recorder_system.specs.Fit.{ThreadsHandInts}
use Rattle.recorder_system.proofs.Values.{ints}

abbrev func_or_zero : Option Asked → ℕ
func_or_zero None = 0
func_or_zero (Some a) = a.func

abbrev args_or_none : Option Asked → List ℕ
args_or_none None = []
args_or_none (Some a) = a.args

abbrev number_or_zero : Option ℕ → ℕ
number_or_zero None = 0
number_or_zero (Some n) = n

-- ---- what is asked

module _ (l : Laid) where
  handed : (g : ℕ) (bs : List ℕ) (f : ℕ) (args : List ℕ) → AreArguments l g bs → Some (call_of g bs) ≡ Some (call_of f args) → AreArguments l f args
  handed g bs f args h e = subst (λ k. AreArguments l k args) (ap func_or_zero e) (subst (AreArguments l g) (ap args_or_none e) h)

  carried : (want : Want) (f : ℕ) (args : List ℕ) → CarriesValues l want → asked want ≡ Some (call_of f args) → AreArguments l f args
  carried (Gives g bs) f args h e = handed g bs f args h e
  carried (Steps i g bs) f args h e = handed g bs f args h e
  carried Outside f args h e = absurd cc
  carried Turns f args h e = absurd cc
  carried (Loads o at n) f args h e = absurd cc
  carried (Stores o at bytes) f args h e = absurd cc
  carried (Enters i g bs bytes) f args h e = absurd cc
  carried (Leaves at n) f args h e = absurd cc
  carried (Allocs n) f args h e = absurd cc
  carried (Frees at) f args h e = absurd cc
  carried (Calls i g bs) f args h e = absurd cc
  carried (Below g bs) f args h e = absurd cc
  carried (Returns g bs u) f args h e = absurd cc
  carried (CallsBack g bs bytes) f args h e = absurd cc
  carried (UpReturns g u) f args h e = absurd cc
  carried (Fails kind) f args h e = absurd cc

  -- ---- results

  callee_sig : (address f : ℕ) → callee l start_sig address ≡ Some f → has_sig start_sig (func_of l.code f) ≡ true
  callee_sig address f e = by (eqb address (function_address g)) (leb builtin_count g) e
    where
      g : ℕ
      g = (address - function_address 0) / 16

      go : (c : Bool) → has_sig start_sig (func_of l.code g) ≡ c → cond c (Some g) None ≡ Some f → has_sig start_sig (func_of l.code f) ≡ true
      go true d z = subst (λ k. has_sig start_sig (func_of l.code k) ≡ true) (ap number_or_zero z) d
      go false d z = absurd cc

      by : (a b : Bool) → cond (a && (b && has_sig start_sig (func_of l.code g))) (Some g) None ≡ Some f → has_sig start_sig (func_of l.code f) ≡ true
      by true true h = go (has_sig start_sig (func_of l.code g)) refl h
      by true false h = absurd cc
      by false b h = absurd cc

  starts_give : (valid : IsValid l.code) (f v : ℕ) (o : Option FuncInfo) → func_of l.code f ≡ o → has_sig start_sig o ≡ true → is_value (result_shape o) v ≡ true → IsInt v
  starts_give valid f v None e sig h = absurd cc
  starts_give valid f v (Some a) e sig h = subst (λ t. is_value t v ≡ true) (valid.starts f a e (eqb-true a.sig start_sig sig)).1 h

  callee_gives : (valid : IsValid l.code) (address v : ℕ) (o : Option ℕ) → callee l start_sig address ≡ o → IsResultOf l o v → IsInt v
  callee_gives valid address v None e h = absurd h
  callee_gives valid address v (Some f) e h = starts_give valid f v (func_of l.code f) refl (callee_sig address f e) h

module _ (w : World) (code : IsFitCode w.laid) (past : List Mark) (known : AreThreads w past) (t : ℕ) (lt : t < started past) where
  abbrev l : Laid
  l = w.laid

  begun : (P : Config → Type 0) → P (beginning w past t) → P (Starting (func_at w past t) (args_at w past t))
  begun P h = subst P (begins_so w past t) h

  calls_by : (n : Next) → comes w past t ≡ n → (f : ℕ) (args : List ℕ) → next_asked n ≡ Some (call_of f args) → HasInt f args
  calls_by (Quiet c) e f args k = absurd cc
  calls_by (Wants side want to) e f args k =
      let right = begun (λ c. lists Split (reverse (own w t past)) l c ≢ Wrong) (right_where_wanted Split l (beginning w past t) (own w t past) (known.go_on t lt) side want to e) in
      let there = begun (λ c. step Split l (state Split l c (own w t past)) ≡ Wants side want to) e in
      ints l f args code.valid (carried l want f args (code.typed.wants (func_at w past t) (args_at w past t) (own w t past) side want to (known.well t lt) right there) k)
  calls_by (Ends v) e f args k = absurd cc
  calls_by No e f args k = absurd cc

  result_by : (u v : ℕ) → IsResultOf l (func_at w past u) v → IsInt v
  result_by zero v h = subst (λ s. is_value s v ≡ true) (ap result_shape code.main.known ∙ code.main.result) h
  result_by (suc u) v h = callee_gives l code.valid (first (started_with (suc u) past)) v (callee l start_sig (first (started_with (suc u) past))) refl h

  ends_by : (n : Next) → comes w past t ≡ n → (v : ℕ) → ended_with n ≡ Some v → IsInt v
  ends_by (Quiet c) e v k = absurd cc
  ends_by (Wants side want to) e v k = absurd cc
  ends_by (Ends u) e v k =
      let right = begun (λ c. lists Split (reverse (own w t past)) l c ≢ Wrong) (λ is_wrong.
      let z : Ended u ≡ Wrong = sym (said_all Split l (beginning w past t) (own w t past) (known.go_on t lt) ∙ ap at_end e) ∙ is_wrong in absurd cc) in
      let there = begun (λ c. step Split l (state Split l c (own w t past)) ≡ Ends u) e in
      subst IsInt (ap number_or_zero k) (result_by t u (code.typed.ends (func_at w past t) (args_at w past t) (own w t past) u (known.well t lt) right there))
  ends_by No e v k = absurd cc

pub hand_ints : (w : World) → ThreadsHandInts w
hand_ints w fit past follows t lt =
    let known = threads_known w fit.code past follows in
    record {
      calls = λ f args e. calls_by w fit.code past known t lt (comes w past t) refl f args e;
      ends = λ v e. ends_by w fit.code past known t lt (comes w past t) refl v e;
    }
