-- Where the threads of a run rest.
use Rattle.std.proofs.Common.{◌≡◌, ℕ, ◌<◌, List, length, get_or, refl, sym, ap, ◌∙◌, subst, arith}
use Rattle.std.proofs.Math.ListN.{set}
use Rattle.std.proofs.lemmas.List.{get_or_read, get_or-set_same, length-set}
use Rattle.std.proofs.lemmas.List.Elements.{All-get_or}
use Rattle.std.proofs.lemmas.List.FromFn.{get_or-map-range_with_len, length-map-range_with_len}
use Rattle.marks.specs.Marks.{Mark}
use Rattle.c_code.specs.Machine.{Laid, Config}
use Rattle.c_code.specs.MarkLists.{Split, step}
use Rattle.c_code.proofs.Prefixes.{state_settled}
use Rattle.c_machine.specs.Makes.{IsCut}
use Rattle.c_machine.specs.Moves.{IsInside, ThreadState, ready}
use Rattle.c_machine.specs.Readers.{args_of}
use Rattle.whole_runs.specs.World.{World}
use Rattle.whole_runs.specs.Sides.{own}
use Rattle.whole_runs.specs.Outcomes.{started}
use Rattle.whole_runs.specs.Threads.{beginning, comes}
use Rattle.whole_runs_seen.proofs.Threads.{begins_so}
use Rattle.recorder_threads.specs.declared.wants.Next.{Next as ToldNext}
use Rattle.recorder_threads.specs.Threads.{AreInside, AreThreadsOf, IsNextOf, args_at, nowhere, place_of, thread_at, thread_of}
use Rattle.recorder_threads.specs.Wants.{IsNextTold}
use Rattle.recorder_threads.specs.Telling.{RestsAt}
use Rattle.recorder_threads.proofs.Crossing.{state_cut}

pub count_is : (w : World) (past : List Mark) (threads : List ThreadState) → AreThreadsOf w past threads → length threads ≡ started past
count_is w past threads are = ap length are.are ∙ length-map-range_with_len (thread_of w past) 0 (started past)

pub thread_is : (w : World) (past : List Mark) (threads : List ThreadState) → AreThreadsOf w past threads → (t : ℕ) → t < length threads → thread_at threads t ≡ thread_of w past t
thread_is w past threads are t lt =
    let few = count_is w past threads are in
    ap (λ ts. thread_at ts t) are.are ∙ get_or-map-range_with_len (thread_of w past) 0 (started past) t t nowhere (omega (arith, lt, few)) (omega arith)

-- it rests before its next mark
pub rests : (w : World) (past : List Mark) (t : ℕ) → RestsAt w.laid (place_of w past t) (thread_of w past t)
rests w past t = record {
  settles = state_settled Split w.laid (beginning w past t) (own w t past);
  cut = state_cut w.laid (beginning w past t) (own w t past) (subst (IsCut w.laid) (sym (begins_so w past t)) tt);
  made = refl;
  config = ap (ready w.laid) (state_settled Split w.laid (beginning w past t) (own w t past));
}

-- an element of the list that is read
pub read_is : (threads : List ThreadState) (t : ℕ) (x : ThreadState) → t < length threads → x ≡ get_or threads t x → x ≡ thread_at threads t
read_is threads t x lt e = get_or_read threads t x lt e nowhere

pub inside_is : (l : Laid) (threads : List ThreadState) (t : ℕ) (x : ThreadState) → AreInside l threads → t < length threads → x ≡ get_or threads t x → IsInside l x.config
inside_is l threads t x all lt e = subst (λ (y : ThreadState). IsInside l y.config) (sym e) (All-get_or (λ (y : ThreadState). IsInside l y.config) threads t x lt all)

-- what is told of a thread where it rests is told of its code
pub told_is : (w : World) (past : List Mark) (l : Laid) (threads : List ThreadState) (t : ℕ) (x : ThreadState) (n : ToldNext) → w.laid ≡ l → AreThreadsOf w past threads → t < length threads → x ≡ thread_at threads t
    → (RestsAt l (place_of w past t) x → IsNextTold l (args_of x.config) n (step Split l (place_of w past t))) → IsNextTold w.laid (args_at threads t) n (comes w past t)
told_is w past l threads t x n el are lt ex told =
    let here : RestsAt w.laid (place_of w past t) x = subst (RestsAt w.laid (place_of w past t)) (sym (ex ∙ thread_is w past threads are t lt)) (rests w past t) in
    let shown : IsNextTold w.laid (args_of x.config) n (step Split w.laid (place_of w past t)) = subst (λ k. IsNextTold k (args_of x.config) n (step Split k (place_of w past t))) (sym el) (told (subst (λ k. RestsAt k (place_of w past t) x) el here)) in
    subst (λ (y : ThreadState). IsNextTold w.laid (args_of y.config) n (comes w past t)) ex shown

-- so it is of a thread that is put in the place of another
pub next_of_set : (l : Laid) (threads : List ThreadState) (t : ℕ) (z : ThreadState) (n : ToldNext) → t < length threads
    → ((c : Config) → RestsAt l c z → IsNextTold l (args_of z.config) n (step Split l c)) → IsNextOf l (set threads t z) t n
next_of_set l threads t z n lt told w past el are =
    told_is w past l (set threads t z) t z n el are (omega (arith, lt, length-set threads t z)) (sym (get_or-set_same threads t z nowhere lt)) (told (place_of w past t))
