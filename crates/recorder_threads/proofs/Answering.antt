-- The threads after a mark with which one of them answered what its code wants.
use Rattle.std.proofs.Common.{◌≡◌, ◌≢◌, ⊎_elim, ℕ, zero, suc, ◌-◌, ◌<◌, ◌≤◌, false, List, [], ◌∷◌, ◌++◌, length, get_or, Option, Some, None, refl, sym, ap, ◌∙◌, subst, arith}
use Rattle.std.proofs.Math.ListN.{set}
use Rattle.std.proofs.lemmas.Bool.{cases_eq, cases_lt}
use Rattle.std.proofs.lemmas.List.{ext_get_or, get_or-append_right, get_or-set_other, get_or-set_same, get_or_append_left, length-append, length-set}
use Rattle.std.proofs.lemmas.List.Elements.{All-push, All-set}
use Rattle.std.proofs.lemmas.List.FromFn.{get_or-map-range_with_len, length-map-range_with_len}
use Rattle.marks.specs.declared.side.Side.{Side}
use Rattle.marks.specs.Marks.{Mark}
use Rattle.marks.specs.Opens.{tail}
use Rattle.marks.specs.Wants.{Want, Outside, Turns, Loads, Stores, Enters, Leaves, Allocs, Frees, Calls, Below, Gives, Returns, CallsBack, UpReturns, Steps, Fails, Answer, Go, Value, CalledBack}
use Rattle.c_code.specs.Machine.{Laid, Config, Starting, callee, first}
use Rattle.c_code.specs.MarkLists.{Split, reply, settled, state}
use Rattle.c_code.specs.Valid.{start_sig}
use Rattle.c_machine.specs.Moves.{IsInside, ThreadState, is_below, rested}
use Rattle.c_machine.specs.Follows.{Report, Crosses, Feeds, GoesUp, MayTell, after_report, back_report, go_report, report}
use Rattle.c_machine.specs.Wants.{told as as_told}
use Rattle.c_machine.specs.declared.wants.Answer.{Answer as Told}
use Rattle.c_machine.specs.declared.wants.Answer.TheVariants as answers
use Rattle.c_machine.proofs.Answering.{goes}
use Rattle.whole_runs.specs.World.{World}
use Rattle.whole_runs.specs.Sides.{own}
use Rattle.whole_runs.specs.Outcomes.{started}
use Rattle.whole_runs.specs.Threads.{beginning}
use Rattle.whole_runs.specs.Steps.{Picked}
use Rattle.whole_runs_seen.specs.Suits.{Suits}
use Rattle.whole_runs_seen.proofs.Entries.{IsOwn}
use Rattle.whole_runs_seen.proofs.Threads.{own_want, threads_known}
use Rattle.whole_runs_threads.proofs.Own.{beginning_stays, begins_with, one_more, own_same, silent_before, thread_started}
use Rattle.whole_runs_threads.proofs.Suits.{answers_suit}
use Rattle.recorder_threads.specs.Threads.{AreInside, AreThreadsOf, IsBegun, most_open, nowhere, place_of, thread_of, threads_of}
use Rattle.recorder_threads.specs.Laws.{IsFollowed}
use Rattle.recorder_threads.specs.Answers.{IsAnswered, IsCall, IsNoCall, IsPlain, IsStart}
use Rattle.recorder_threads.proofs.Faults.{same_thread}
use Rattle.recorder_threads.proofs.Followed.{followed}
use Rattle.recorder_threads.proofs.Places.{count_is, inside_is, read_is, thread_is}

-- ---- which call tells of a mark

pub go_feeds : (w : Want) → IsNoCall w → go_report w ≡ Feeds Go
go_feeds (Calls i f args) h = absurd (h tt)
go_feeds Outside h = refl
go_feeds Turns h = refl
go_feeds (Loads o at n) h = refl
go_feeds (Stores o at bytes) h = refl
go_feeds (Enters i f args bytes) h = refl
go_feeds (Leaves at n) h = refl
go_feeds (Allocs n) h = refl
go_feeds (Frees at) h = refl
go_feeds (Below f args) h = refl
go_feeds (Gives f args) h = refl
go_feeds (Returns f args v) h = refl
go_feeds (CallsBack f args bytes) h = refl
go_feeds (UpReturns f v) h = refl
go_feeds (Steps i f args) h = refl
go_feeds (Fails kind) h = refl

-- an answer that is no frame is fed
pub told_feeds : (x : Told) (c : Config) (w : Want) → ((at : ℕ) → x ≢ answers.Frame at) → IsNoCall w → report c w (as_told x) ≡ Feeds (as_told x)
told_feeds answers.Go c w isnt h = go_feeds w h
told_feeds (answers.Value v) c w isnt h = refl
told_feeds (answers.Frame at) c w isnt h = absurd (isnt at refl)

pub call_crosses : (w : Want) → IsCall w → go_report w ≡ Crosses
call_crosses (Calls i f args) h = refl
call_crosses Outside h = absurd h
call_crosses Turns h = absurd h
call_crosses (Loads o at n) h = absurd h
call_crosses (Stores o at bytes) h = absurd h
call_crosses (Enters i f args bytes) h = absurd h
call_crosses (Leaves at n) h = absurd h
call_crosses (Allocs n) h = absurd h
call_crosses (Frees at) h = absurd h
call_crosses (Below f args) h = absurd h
call_crosses (Gives f args) h = absurd h
call_crosses (Returns f args v) h = absurd h
call_crosses (CallsBack f args bytes) h = absurd h
call_crosses (UpReturns f v) h = absurd h
call_crosses (Steps i f args) h = absurd h
call_crosses (Fails kind) h = absurd h

no_back : (g : ℕ) (bs : List ℕ) → Go ≡ CalledBack g bs → {A : Type 0} → A
no_back g bs e = absurd cc

-- only a call below the cut through an address is answered by an Up
up_goes : (l : Laid) (s : Side) (w : Want) (m : Mark) (g : ℕ) (bs : List ℕ) → IsOwn l s w → Suits l w (CalledBack g bs) → reply s w m ≡ Some (CalledBack g bs) → back_report w g bs ≡ GoesUp
up_goes l s (CallsBack f args bytes) m g bs o h e = refl
up_goes l s Outside m g bs o h e = absurd o
up_goes l s (Below f args) m g bs o h e = absurd o
up_goes l s Turns m g bs o h e = no_back g bs (goes s Turns tt m (CalledBack g bs) e tt)
up_goes l s (Stores q at bytes) m g bs o h e = no_back g bs (goes s (Stores q at bytes) tt m (CalledBack g bs) e tt)
up_goes l s (Leaves at n) m g bs o h e = no_back g bs (goes s (Leaves at n) tt m (CalledBack g bs) e tt)
up_goes l s (Frees at) m g bs o h e = no_back g bs (goes s (Frees at) tt m (CalledBack g bs) e tt)
up_goes l s (Calls i f args) m g bs o h e = no_back g bs (goes s (Calls i f args) tt m (CalledBack g bs) e tt)
up_goes l s (Returns f args v) m g bs o h e = no_back g bs (goes s (Returns f args v) tt m (CalledBack g bs) e tt)
up_goes l s (UpReturns f v) m g bs o h e = no_back g bs (goes s (UpReturns f v) tt m (CalledBack g bs) e tt)
up_goes l s (Loads q at n) m g bs o h e = absurd h
up_goes l s (Enters i f args bytes) m g bs o h e = absurd h
up_goes l s (Allocs n) m g bs o h e = absurd h
up_goes l s (Gives f args) m g bs o h e = absurd h
up_goes l s (Steps i f args) m g bs o h e = absurd h
up_goes l s (Fails kind) m g bs o h e = absurd h

-- ---- the thread

module _ (l : Laid) (threads : List ThreadState) (t : ℕ) (On : Want → Type 0) (x : Answer) (a : IsAnswered l threads t On x) where
  abbrev w : World
  w = a.world

  abbrev now : List Mark
  now = a.mark ∷ a.past

  abbrev s : Picked a.world a.past
  s = a.follows.0.step

  many : length threads ≡ started a.past
  many = count_is w a.past threads a.stand

  pub below : t < length threads
  below = let lt = thread_started w a.fit.code a.past a.mark a.follows in let of = a.of_thread in omega (arith, lt, of, many)

  told : IsFollowed w a.past a.mark s x
  told = followed w a.fit a.past a.mark a.follows x a.answers

  -- the thread that is told
  module _ (y : ThreadState) (ey : y ≡ get_or threads t y) where
    pub is : y ≡ thread_of w a.past a.mark.thread
    is = read_is threads t y below ey ∙ (thread_is w a.past threads a.stand t below ∙ ap (thread_of w a.past) (sym a.of_thread))

    pub inside : IsInside l y.config
    inside = inside_is l threads t y (subst (λ k. AreInside k threads) a.laid a.stand.inside) below ey

    module _ (r : Report) (er : report y.config s.want x ≡ r) where
      pub may : MayTell l y r
      may =
          let there : MayTell w.laid y (report y.config s.want x) = subst (λ (z : ThreadState). MayTell w.laid z (report z.config s.want x)) (sym is) told.may in
          subst (λ k. MayTell k y r) a.laid (subst (MayTell w.laid y) er there)

      pub goes_on : (z : ThreadState) → z ≡ after_report l y r → z ≡ thread_of w now a.mark.thread
      goes_on z ez =
          let here : after_report w.laid y (report y.config s.want x) ≡ thread_of w now a.mark.thread = subst (λ (q : ThreadState). after_report w.laid q (report q.config s.want x) ≡ thread_of w now a.mark.thread) (sym is) told.follows in
          ez ∙ (sym (ap (λ k. after_report k y r) a.laid ∙ refl) ∙ (sym (ap (after_report w.laid y) er) ∙ here))

  -- the others
  kept : (u : ℕ) → u < started a.past → a.mark.thread ≢ u → thread_of w now u ≡ thread_of w a.past u
  kept u lt ne =
      same_thread w a.past now u
      (ap (λ c. state Split w.laid c (own w u now)) (beginning_stays w a.fit.code a.past a.mark a.follows u lt) ∙ ap (state Split w.laid (beginning w a.past u)) (own_same w a.past a.mark u ne))

  -- each of them after the mark
  pub each : (z : ThreadState) → z ≡ thread_of w now a.mark.thread → (u : ℕ) → u < length threads → get_or (set threads t z) u nowhere ≡ thread_of w now u
  each z ez u lt = ⊎_elim same other (cases_eq t u)
    where
      same : t ≡ u → get_or (set threads t z) u nowhere ≡ thread_of w now u
      same e = subst (λ v. get_or (set threads t z) v nowhere ≡ thread_of w now v) e (get_or-set_same threads t z nowhere below ∙ (ez ∙ ap (thread_of w now) a.of_thread))

      other : (t ≡ u → ⊥) → get_or (set threads t z) u nowhere ≡ thread_of w now u
      other ne =
          get_or-set_other threads t u z nowhere (λ e. ne (sym e))
          ∙ (thread_is w a.past threads a.stand u lt ∙ sym (kept u (omega (arith, lt, many)) (λ e. ne (sym a.of_thread ∙ e))))

-- ---- all threads

-- a list is that of the threads where each is
all_threads : (w : World) (now : List Mark) (threads : List ThreadState) → length threads ≡ started now → ((u : ℕ) → u < length threads → get_or threads u nowhere ≡ thread_of w now u) → threads ≡ threads_of w now
all_threads w now threads count each =
    ext_get_or nowhere threads (threads_of w now) (count ∙ sym (length-map-range_with_len (thread_of w now) 0 (started now)))
    (λ u lt. each u lt ∙ sym (get_or-map-range_with_len (thread_of w now) 0 (started now) u u nowhere (omega (arith, lt, count)) (omega arith)))

pub plain_stands : (l : Laid) (threads : List ThreadState) (t : ℕ) (On : Want → Type 0) (x : Answer) (a : IsPlain l threads t On x) (y : ThreadState) → y ≡ get_or threads t y → (r : Report) → report y.config a.next.follows.0.step.want x ≡ r → (z : ThreadState) → z ≡ after_report l y r → IsInside l z.config → AreThreadsOf a.next.world (a.next.mark ∷ a.next.past) (set threads t z)
plain_stands l threads t On x a y ey r er z ez inside_z =
    let b = a.next in
    let is_next = goes_on l threads t On x b y ey r er z ez in
    let many_now : length (set threads t z) ≡ started (b.mark ∷ b.past) = length-set threads t z ∙ (count_is b.world b.past threads b.stand ∙ sym a.alone) in
    record {
      are = all_threads b.world (b.mark ∷ b.past) (set threads t z) many_now (λ u lt. each l threads t On x b z is_next u (omega (arith, lt, length-set threads t z)));
      inside = All-set (λ (q : ThreadState). IsInside b.world.laid q.config) threads t z (subst (λ k. IsInside k z.config) (sym b.laid) inside_z) b.stand.inside;
    }

-- ---- a thread that is started

settled_start : (l : Laid) (f : Option ℕ) (args : List ℕ) → settled l (Starting f args) ≡ Starting f args
settled_start l (Some f) args = refl
settled_start l None args = refl

rested_start : (l : Laid) (f : Option ℕ) (args : List ℕ) → rested l (Starting f args) ≡ Starting f args
rested_start l (Some f) args = refl
rested_start l None args = refl

module _ (l : Laid) (threads : List ThreadState) (t address argument : ℕ) (a : IsStart l threads t address argument) where
  abbrev b : IsAnswered l threads t IsNoCall (Value (length threads))
  b = a.next

  abbrev n : ℕ
  n = length threads

  count_was : n ≡ started b.past
  count_was = count_is b.world b.past threads b.stand

  pub few : n < 256
  few =
      let k = (threads_known b.world b.fit.code (b.mark ∷ b.past) b.follows).few in
      let more = one_more b.world b.fit.code b.past b.mark b.follows a.outcome a.comes a.starts in
      omega (arith, k, more, count_was)

  count_now : started (b.mark ∷ b.past) ≡ suc n
  count_now = one_more b.world b.fit.code b.past b.mark b.follows a.outcome a.comes a.starts ∙ ap suc (sym count_was)

  abbrev start_config : Config
  start_config = Starting (callee b.world.laid start_sig address) (argument ∷ [])

  begins : beginning b.world (b.mark ∷ b.past) n ≡ start_config
  begins = begins_with b.world b.fit.code b.past b.mark b.follows a.outcome a.comes a.starts n count_was ∙ ap (λ xs. Starting (callee b.world.laid start_sig (first xs)) (tail xs)) a.with_args

  nothing_made : own b.world n (b.mark ∷ b.past) ≡ []
  nothing_made = ap (λ k. own b.world k (b.mark ∷ b.past)) count_was ∙ silent_before b.world b.fit.code b.past b.mark b.follows

  place : place_of b.world (b.mark ∷ b.past) n ≡ start_config
  place =
      ap (λ c. state Split b.world.laid c (own b.world n (b.mark ∷ b.past))) begins
      ∙ (ap (state Split b.world.laid start_config) nothing_made ∙ settled_start b.world.laid (callee b.world.laid start_sig address) (argument ∷ []))

  newest : (q : ThreadState) → IsBegun l n address argument q → q ≡ thread_of b.world (b.mark ∷ b.past) n
  newest q begun =
      let config : rested b.world.laid (place_of b.world (b.mark ∷ b.past) n) ≡ start_config = ap (rested b.world.laid) place ∙ rested_start b.world.laid (callee b.world.laid start_sig address) (argument ∷ []) in
      let made : is_below (place_of b.world (b.mark ∷ b.past) n) ≡ false = ap is_below place in
      begun.is ∙ (ap (λ k. record { number = n; depth = most_open; made = false; config = Starting (callee k start_sig address) (argument ∷ []) }) (sym b.laid)
      ∙ (λ i. record { number = n; depth = most_open; made = sym made i; config = sym config i }))

  pub start_below : t < length (threads ++ nowhere ∷ [])
  start_below = let lt = below l threads t IsNoCall (Value n) b in omega (arith, lt, length-append threads (nowhere ∷ []))

  -- the element that is told is one of the old ones
  pub old_element : (q y : ThreadState) → y ≡ get_or (threads ++ q ∷ []) t y → y ≡ get_or threads t y
  old_element q y ey = ey ∙ get_or_append_left threads (q ∷ []) y t (below l threads t IsNoCall (Value n) b)

  set_left : (xs ys : List ThreadState) (u : ℕ) (z : ThreadState) → u < length xs → set (xs ++ ys) u z ≡ set xs u z ++ ys
  set_left [] ys u z lt = absurd (omega (arith, lt))
  set_left (p ∷ xs) ys zero z lt = refl
  set_left (p ∷ xs) ys (suc u) z lt = ap (λ rest. p ∷ rest) (set_left xs ys u z (omega (arith, lt)))

  pub start_stands : (q : ThreadState) → IsBegun l n address argument q → (y : ThreadState) → y ≡ get_or (threads ++ q ∷ []) t y → (z : ThreadState) → z ≡ after_report l y (Feeds (Value n)) → IsInside l z.config
      → AreThreadsOf b.world (b.mark ∷ b.past) (set (threads ++ q ∷ []) t z)
  start_stands q begun y ey z ez inside_z =
      let lt = below l threads t IsNoCall (Value n) b in
      let split : set (threads ++ q ∷ []) t z ≡ set threads t z ++ q ∷ [] = set_left threads (q ∷ []) t z lt in
      let is_next = goes_on l threads t IsNoCall (Value n) b y (old_element q y ey) (Feeds (Value n)) refl z ez in
      let long : length (set threads t z) ≡ n = length-set threads t z in
      let many_now : length (set threads t z ++ q ∷ []) ≡ started (b.mark ∷ b.past) = omega (arith, length-append (set threads t z) (q ∷ []), long, count_now) in
      let old : (u : ℕ) → u < n → get_or (set threads t z ++ q ∷ []) u nowhere ≡ thread_of b.world (b.mark ∷ b.past) u =
      λ u le. get_or_append_left (set threads t z) (q ∷ []) nowhere u (omega (arith, le, long)) ∙ each l threads t IsNoCall (Value n) b z is_next u le in
      let last : (u : ℕ) → n ≤ u → u < length (set threads t z ++ q ∷ []) → get_or (set threads t z ++ q ∷ []) u nowhere ≡ thread_of b.world (b.mark ∷ b.past) u =
      λ u le short.
      let here : n ≡ u = omega (arith, le, short, many_now, count_now) in
      let none : n - n ≡ 0 = omega arith in
      subst (λ v. get_or (set threads t z ++ q ∷ []) v nowhere ≡ thread_of b.world (b.mark ∷ b.past) v) here
      (get_or-append_right (set threads t z) (q ∷ []) n n nowhere long (omega arith) ∙ (ap (λ k. get_or (q ∷ []) k nowhere) none ∙ newest q begun)) in
      subst (AreThreadsOf b.world (b.mark ∷ b.past)) (sym split) (record {
        are = all_threads b.world (b.mark ∷ b.past) (set threads t z ++ q ∷ []) many_now (λ u short. ⊎_elim (old u) (λ le. last u le short) (cases_lt u n));
        inside = All-push (λ (p : ThreadState). IsInside b.world.laid p.config) (set threads t z) q
            (All-set (λ (p : ThreadState). IsInside b.world.laid p.config) threads t z (subst (λ k. IsInside k z.config) (sym b.laid) inside_z) b.stand.inside)
            (subst (λ k. IsInside k q.config) (sym b.laid) begun.inside);
      })

-- an Up is told so
pub up_report : (l : Laid) (threads : List ThreadState) (t g : ℕ) (bs : List ℕ) (a : IsAnswered l threads t IsNoCall (CalledBack g bs)) (y : ThreadState) → report y.config a.follows.0.step.want (CalledBack g bs) ≡ GoesUp
up_report l threads t g bs a y =
    let s = a.follows.0.step in
    let known = threads_known a.world a.fit.code a.past a.follows.1 in
    up_goes a.world.laid s.side s.want a.mark g bs (own_want a.world a.fit.code a.past known s) (answers_suit a.world a.fit a.past a.follows.1 s a.mark a.follows.0.made (CalledBack g bs) a.answers) a.answers
