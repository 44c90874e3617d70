-- A stretch of accesses and rounds leads from a state that is reached to one.
use Rattle.std.proofs.Common.{◌≡◌, ℕ, suc, ◌+◌, ◌-◌, ◌<◌, ◌≤◌, List, [], ◌∷◌, length, get_or, set, Option, Some, None, refl, sym, ap, ◌∙◌, subst, arith}
use Rattle.std.specs.Prelude.{slice_index}
use Rattle.std.proofs.lemmas.List.{length-set}
use Rattle.marks.specs.Marks.{Mark}
use Rattle.marks.specs.declared.side.Side.{Side}
use Rattle.marks.specs.declared.side.Side.TheVariants.{Replay, System}
use Rattle.marks.specs.Wants.{Want, Turns, Loads, Stores, Outside, Enters, Leaves, Allocs, Frees, Calls, Below, Gives, Returns, CallsBack, UpReturns, Steps, Fails, Answer}
use Rattle.c_code.specs.Machine.{Laid, Config, Going, Under, Entering, Closing, Starting, Done, Lost}
use Rattle.c_machine.specs.Accesses.{IsAccess as IsAccessShown, IsGoing, IsMade, Makes}
use Rattle.c_machine.specs.declared.wants.Want.{Want as Shown}
use Rattle.c_machine.specs.Moves.{MayHear, ThreadState, after_answer, fed, heard}
use Rattle.c_machine.specs.Readers.{is_indirect, side_of}
use Rattle.c_machine.specs.Wants.{Takes, shown_want}
use Rattle.steps_above_stamps.specs.State.{StampsState}
use Rattle.steps_above_stamps.proofs.Counting.{none_counted, one_after}
use Rattle.steps_above_stamps.proofs.Few.{are_few}
use Rattle.whole_runs.specs.World.{World}
use Rattle.whole_runs.specs.Sides.{seen}
use Rattle.recorder_memory.specs.Stands.{placed}
use Rattle.recorder_memory.specs.declared.memory.Memory.{Memory}
use Rattle.recorder_threads.specs.Threads.{thread_at}
use Rattle.recorder_state.specs.declared.state.RunState.{RunState}
use Rattle.recorder_state.specs.Stands.{IsReached}
use Rattle.recorder_state.proofs.Going.{in_budget}
use Rattle.recorder_state.proofs.Plain.{with_seen}
use Rattle.recorder_stretches.specs.Stretches.{IsAtAccess, IsOneMore}
use Rattle.recorder_stretches.proofs.Alone.{access_told, side_known}
use Rattle.recorder_stretches.proofs.Bodies.{IsAccess, IsOn, goes_after, rests_on}
use Rattle.recorder_stretches.proofs.Bodies as bodies
use Rattle.recorder_stretches.proofs.Marks.{leads, one_more, stamps_after}

-- ---- one mark

abbrev OnAccess : Option Shown → Type 0
OnAccess None = ⊥
OnAccess (Some v) = IsAccessShown v

-- what is shown as an access is one
shown_access : (l : Laid) (want : Want) → OnAccess (shown_want l want) → IsAccess want
shown_access l Turns h = tt
shown_access l (Loads o at n) h = tt
shown_access l (Stores o at bytes) h = tt
shown_access l (Enters i f args bytes) h = absurd h
shown_access l (Leaves at n) h = absurd h
shown_access l (Allocs n) h = absurd h
shown_access l (Frees at) h = absurd h
shown_access l (Returns f args v) h = absurd h
shown_access l (UpReturns f v) h = absurd h
shown_access l (Fails kind) h = absurd h
shown_access l Outside h = absurd h
shown_access l (Calls i f args) h = absurd h
shown_access l (Below f args) h = absurd h
shown_access l (Gives f args) h = absurd h
shown_access l (CallsBack f args bytes) h = absurd h
shown_access l (Steps i f args) h = absurd h

in_body : (side : Side) (c : Config) → IsGoing side c → bodies.IsGoing c
in_body side (Going a vs ws) h = tt
in_body side (Under call vs ws) h = absurd h
in_body side (Entering s i f args vs ws) h = absurd h
in_body side (Closing v u vs ws) h = absurd h
in_body side (Starting f args) h = absurd h
in_body side (Done v) h = absurd h
in_body side Lost h = absurd h

-- the thread stays in its body with it
module _ {V : Type 0} (makes : V → Shown → Answer → V → Type 0) (l : Laid) (side : Side) (v z : V) (t : ThreadState) (a : Shown) (x : Answer) (link : IsMade makes l side v z t a x) where
  takes : Takes link.want x
  takes = subst (λ b. MayHear l b x) link.asks link.may

  goes : bodies.IsGoing (fed l t.config x)
  goes =
      subst (λ b. bodies.IsGoing (heard l b x)) (sym link.asks)
      (goes_after l t.config side link.want link.to x (in_body side t.config link.going) link.asks (shown_access l link.want (subst OnAccess (sym link.shown) link.access)) takes)

  stays : IsOn (after_answer l t x).config
  stays = rests_on l (fed l t.config x) goes

-- ---- many

steps_more : (side : Side) (s : StampsState) (n : ℕ) → (side ≡ Replay → 0 < length s.steps) → stamps_after side 1 (stamps_after side n s) ≡ stamps_after side (n + 1) s
steps_more Replay s n lt = one_after s 0 n (lt refl)
steps_more System s n lt = refl

steps_long : (side : Side) (s : StampsState) (n : ℕ) → (side ≡ Replay → 0 < length s.steps) → side ≡ Replay → 0 < length (stamps_after side n s).steps
steps_long Replay s n lt e = let k = lt e in omega (arith, k, length-set s.steps 0 (get_or s.steps 0 0 + n))
steps_long System s n lt e = lt e

steps_none : (side : Side) (s : StampsState) → stamps_after side 0 s ≡ s
steps_none Replay s = none_counted s 0
steps_none System s = refl

alone_is : (xs : List ThreadState) → length xs ≡ 1 → xs ≡ thread_at xs 0 ∷ []
alone_is [] e = absurd (omega (arith, e))
alone_is (x ∷ []) e = refl
alone_is (x ∷ (y ∷ ys)) e = absurd (omega (arith, e))

-- the state with other threads, memory, stamps and steps; what its code comes to isn't known
abbrev pub with_parts : RunState → List ThreadState → Memory → StampsState → ℕ → RunState
with_parts s threads memory stamps steps = record s { threads = threads; memory = memory; stamps = stamps; steps = steps; known = None }

forgets : (w : World) (s : RunState) → IsReached w s → IsReached w (with_parts s s.threads s.memory s.stamps s.steps)
forgets w s r = record {
  fit = r.fit;
  past = r.past;
  follows = r.follows;
  steps = r.steps;
  memory = r.memory;
  around = record {
    shown = record {
      threads = r.around.shown.threads;
      stamps = r.around.shown.stamps;
      book = r.around.shown.book;
      output = r.around.shown.output;
      system_output = r.around.shown.system_output;
    };
    system = r.around.system;
    interface = r.around.interface;
    functions = r.around.functions;
    prepared = r.around.prepared;
  };
  known = tt;
}

-- what each mark keeps is kept by all
pub keeps : {V : Type 0} (makes : V → Shown → Answer → V → Type 0) (l : Laid) (side : Side) (P : V → V → Type 0) → ((v : V) → P v v) → ((v y z : V) (a : Shown) (x : Answer) → P v y → makes y a x z → P v z)
    → (v : V) (t : ThreadState) (z : V) (u : ThreadState) → Makes makes l side v t z u → P v z
keeps makes l side P none more v t z u Makes.Nothing = none v
keeps makes l side P none more v t z u (Makes.Then y z2 p a x c link) = more v y z a x (keeps makes l side P none more v t y p c) link.made

module _ {V : Type 0} (makes : V → Shown → Answer → V → Type 0) (memory_of : V → Memory) (left_of : V → ℕ) (side : Side) (tells : (v z : V) (a : Shown) (x : Answer) → makes v a x z → IsOneMore side (memory_of v) (left_of v) a x (memory_of z) (left_of z)) (w : World) (s : RunState) where
  abbrev state_after : ℕ → V → ThreadState → RunState
  state_after n v u = with_parts s (u ∷ []) (memory_of v) (stamps_after side n s.stamps) (s.steps + n)

  -- a run comes to the state with so many more steps
  pub record IsStretched (v z : V) (u : ThreadState) : Type 0 where
    pub made : ℕ
    pub count : made + left_of z ≡ left_of v
    pub reached : IsReached w (with_parts s (u ∷ []) (memory_of z) (stamps_after side made s.stamps) (s.steps + made))

  module _ (counts : side ≡ Replay → 0 < length s.stamps.steps) where
    -- with one mark more
    further : (v y z : V) (p : ThreadState) (a : Shown) (x : Answer) → s.steps + left_of v ≤ w.file.budget → IsStretched v y p → IsMade makes w.laid side y z p a x → IsStretched v z (after_answer w.laid p x)
    further v y z p a x le before link =
        let n = before.made in
        let q : RunState = state_after n y p in
        let k : IsOneMore side (memory_of y) (left_of y) a x (memory_of z) (left_of z) = tells y z a x link.made in
        let less = k.less_is in
        let all = before.count in
        let few : s.steps + n < w.file.budget = omega (arith, le, less, all) in
        let told = access_told w q before.reached refl a side link.want link.to link.access link.inside link.going link.asks link.shown in
        let step = leads w q before.reached refl few side (is_indirect p.config) a x (memory_of z) k.made told in
        let after = one_more w (record q { memory = memory_of z }) side x step.0 step.1 (steps_long side s.stamps n counts) p refl link.inside link.may (stays makes w.laid side y z p a x link) in
        let next = after_answer w.laid p x in
        let on : s.steps + n + 1 ≡ s.steps + (n + 1) = omega arith in
        record {
          made = n + 1;
          count = omega (arith, less, all);
          reached = subst (λ k. IsReached w (with_parts s (next ∷ []) (memory_of z) (stamps_after side (n + 1) s.stamps) k)) on
              (subst (λ st. IsReached w (with_parts s (next ∷ []) (memory_of z) st (s.steps + n + 1))) (steps_more side s.stamps n counts) after);
        }

    chain : (v : V) (t : ThreadState) (z : V) (u : ThreadState) → s.steps + left_of v ≤ w.file.budget → IsReached w (state_after 0 v t) → Makes makes w.laid side v t z u → IsStretched v z u
    chain v t z u le r Makes.Nothing = record { made = 0; count = omega arith; reached = r }
    chain v t z u le r (Makes.Then y z2 p a x c link) = further v y z p a x le (chain v t y p le r c) link

  begins : (v : V) → memory_of v ≡ s.memory → length s.threads ≡ 1 → IsReached w s → IsReached w (state_after 0 v (thread_at s.threads 0))
  begins v same one r =
      let u = thread_at s.threads 0 in
      let none : s.steps ≡ s.steps + 0 = omega arith in
      subst (λ k. IsReached w (with_parts s (u ∷ []) (memory_of v) (stamps_after side 0 s.stamps) k)) none
      (subst (λ st. IsReached w (with_parts s (u ∷ []) (memory_of v) st s.steps)) (sym (steps_none side s.stamps))
      (subst (λ me. IsReached w (with_parts s (u ∷ []) me s.stamps s.steps)) (sym same)
      (subst (λ ts. IsReached w (with_parts s ts s.memory s.stamps s.steps)) (alone_is s.threads one) (forgets w s r))))

  -- so it does after a stretch of the only thread, which has begun on this side
  pub stretched : (at : IsAtAccess s side) (counts : side ≡ Replay → 0 < length s.stamps.steps) (r : IsReached w s) (v z : V) (u : ThreadState) → memory_of v ≡ s.memory → s.steps + left_of v ≤ w.file.budget
      → Makes makes w.laid (side_of (thread_at s.threads 0).config) v (thread_at s.threads 0) z u → IsStretched v z u
  stretched at counts r v z u same le made =
      chain counts v (thread_at s.threads 0) z u le (begins v same at.alone r)
      (subst (λ d. Makes makes w.laid d v (thread_at s.threads 0) z u) (side_known w s r side at) made)

  -- the state that the stretch has left
  pub reached_after : (at : IsAtAccess s side) (r : IsReached w s) (v z : V) (threads : List ThreadState) (stamps : StampsState) (made : ℕ) → (counts : side ≡ Replay → 0 < length s.stamps.steps) → stamps ≡ stamps_after side made s.stamps → memory_of v ≡ s.memory → s.steps + left_of v ≤ w.file.budget
      → made ≡ left_of v - left_of z → Makes makes w.laid (side_of (thread_at s.threads 0).config) v (thread_at s.threads 0) z (thread_at threads 0) → threads ≡ set s.threads 0 (thread_at threads 0)
      → IsReached w (with_parts s threads (memory_of z) stamps (s.steps + made))
  reached_after at r v z threads stamps made counts counted same le count marks others =
      let u = thread_at threads 0 in
      let h : IsStretched v z u = stretched at counts r v z u same le marks in
      let all = h.count in
      let is : h.made ≡ made = omega (arith, all, count) in
      let alone : threads ≡ u ∷ [] = others ∙ ap (λ ts. set ts 0 u) (alone_is s.threads at.alone) in
      subst (λ ts. IsReached w (with_parts s ts (memory_of z) stamps (s.steps + made))) (sym alone)
      (subst (λ st. IsReached w (with_parts s (u ∷ []) (memory_of z) st (s.steps + made))) (sym counted)
      (subst (λ k. IsReached w (with_parts s (u ∷ []) (memory_of z) (stamps_after side k s.stamps) (s.steps + k))) is h.reached))

-- ---- what is left of the budget

-- a replay sees no more marks than there are
shorter : (past : List Mark) → length (seen past) ≤ length past
shorter [] = omega arith
shorter (m ∷ past) = let k = shorter past in with_seen (λ ms. length ms ≤ suc (length past)) past m (omega (arith, k)) (omega (arith, k))

module _ (w : World) (s : RunState) (r : IsReached w s) where
  pub within : s.steps ≤ w.file.budget
  within = let e = r.steps in let le = in_budget w r.past r.follows in omega (arith, e, le)

  -- the steps that are counted are few
  pub counts_few : (n : ℕ) → n ≤ w.file.budget - s.steps → slice_index s.stamps.steps 0 + n ≤ 4000000000
  counts_few n le =
      let c = (are_few (placed w) (seen r.past) s.stamps r.around.shown.stamps).steps 0 (omega arith) in
      let k = shorter r.past in
      let e = r.steps in
      let b = within in
      let m = r.fit.file.budget in
      omega (arith, c, k, e, b, m, le)
