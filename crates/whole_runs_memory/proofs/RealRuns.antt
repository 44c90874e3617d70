-- In each run, memory above the cut is real memory.
use Rattle.std.proofs.Common.{All, ◌≡◌, ◌⊎◌, ℕ, ◌+◌, ◌<◌, ◌≤◌, Bool, true, false, cond, eqb, ◌||◌, List, [], ◌∷◌, length, Option, Some, None, is_some, inl, inr, refl, ap, sym, ◌∙◌, subst, arith}
use Rattle.std.specs.Prelude.{filter}
use Rattle.std.proofs.lemmas.Bool.{cases_Bool, cases_eq, cond-true, cond-false, true≢false, or_cases}
use Rattle.std.proofs.lemmas.List.Elements.{All-nil, All-cons}
use Rattle.marks.specs.declared.side.Side.{Side}
use Rattle.marks.specs.declared.side.Side.TheVariants.{Replay, System}
use Rattle.marks.specs.Places.{thread_count, stack, system_pool, pool_size, is_system}
use Rattle.marks.specs.declared.range.Range.{Range}
use Rattle.marks.specs.Ranges.{Piece, range, covers, any_range}
use Rattle.marks.specs.Marks.{Act, Turn, Load, Store, Enter, Leave, Step, Fault, Made, Mark, side_of}
use Rattle.marks.specs.Bytes.{IsHeld, granted}
use Rattle.marks.specs.Opens.{frames_after}
use Rattle.marks.specs.Wants.{Leaves, answer_to}
use Rattle.c_builtins.specs.declared.builtin.Builtin.{Builtin}
use Rattle.c_builtins.specs.declared.builtin.Builtin.TheVariants as builtins
use Rattle.c_code.specs.Machine.{first}
use Rattle.space_memory_laws.specs.Sound.{AreStacked}
use Rattle.space_memory_laws.proofs.Cells.{cover_cases, cover_parts}
use Rattle.space_memory_laws.proofs.Regions.{some_none}
use Rattle.space_memory_laws.proofs.Stacks.{base_first}
use Rattle.replay_runs.specs.Runs.{byte}
use Rattle.replay_runs.specs.Pool.{without, IsPlace}
use Rattle.replay_runs.specs.Checks.{Done, Passes}
use Rattle.whole_runs.specs.World.{World, begin, program_of, placed_at}
use Rattle.whole_runs.specs.Sides.{seen, place_on, frames_on, HasRoomOn}
use Rattle.whole_runs.specs.Outcomes.{builtin_of}
use Rattle.whole_runs.specs.Memory.{filled, left_by, real}
use Rattle.whole_runs.specs.Below.{Given, ByPool, Says, NoMore, given, given_by, builtin_blocks, act_blocks, system_blocks, block_at, targets, pieces_for}
use Rattle.whole_runs.specs.Steps.{Picked, StepOf, zeros, IsGiven, GivesStep, IsStep, Agrees, IsMade}
use Rattle.whole_runs.specs.Tests.{tests, external_checks, step_checks, checks_below, checks_above, piece_checks}
use Rattle.whole_runs.specs.Ends.{Follows}
use Rattle.whole_runs.specs.Fits.{IsFit, LieApart}
use Rattle.whole_runs_seen.proofs.Calm.{calm_run}
use Rattle.whole_runs_memory.specs.Plain.{first_of, IsReally}
use Rattle.whole_runs_memory.specs.Real.{IsNoStep, MayFollow, IsOutside, RunsSeenAreWhole, RealMemoryAbove}
use Rattle.whole_runs_memory.proofs.Bytes.{zeros_are}
use Rattle.marks.specs.Bytes.{Cell, Dead, Live, Held}
use Rattle.space_memory.specs.Objects.{IsInArea}
use Rattle.replay_runs.specs.Unseen.{IsWhole}
use Rattle.replay_runs.proofs.Unseen.{stay_whole}
use Rattle.memory_map.specs.declared.placed.Place.{Place}
use Rattle.whole_runs_memory.proofs.Inside.{none_placed, none_above}
use Rattle.whole_runs_memory.proofs.Ends as ends
use Rattle.whole_runs_memory.proofs.Threads.{small_thread}
use Rattle.whole_runs_memory.proofs.KeptOff.{leave_wanted, replied, store_tested, enter_tested, step_tested, no_step_above, system_stack, system_block, touched, pieces_keep}
use Rattle.whole_runs_memory.proofs.Plain.{really}
use Rattle.whole_runs_memory.proofs.Real.{next_really}
use Rattle.whole_runs_memory.proofs.RetChecks.{no_pieces}
use Rattle.whole_runs_memory.proofs.Seen.{frames_own, frames_other, frames_above}

-- ---- blocks lie in the pool

abbrev InPoolBelow : List Range → Type 0
InPoolBelow [] = Unit {0}
InPoolBelow (b ∷ bs) = (system_pool ≤ b.addr) × (b.addr + b.len ≤ system_pool + pool_size) × InPoolBelow bs

block_system : (bs : List Range) (x : ℕ) → InPoolBelow bs → any_range bs x ≡ true → is_system x ≡ true
block_system [] x h is = absurd (true≢false (sym is))
block_system (b ∷ bs) x h is = elim (or_cases (covers b x) (any_range bs x) is) [
  | inl here ↦ (let p = cover_parts b x here in system_block x (omega (arith, p.0, h.0)) (omega (arith, p.1, h.1)))
  | inr more ↦ block_system bs x h.2 more
]

in_pool_without : (at : ℕ) (bs : List Range) → InPoolBelow bs → InPoolBelow (without at bs)
in_pool_without at [] h = tt
in_pool_without at (b ∷ bs) h = go (eqb b.addr at) (in_pool_without at bs h.2)
  where
    go : (c : Bool) → InPoolBelow (without at bs) → InPoolBelow (cond c bs (b ∷ without at bs))
    go true k = h.2
    go false k = (h.0, h.1, k)

in_pool_filter : (f : Range → Bool) (bs : List Range) (x : ℕ) → any_range (filter f bs) x ≡ true → any_range bs x ≡ true
in_pool_filter f [] x is = is
in_pool_filter f (b ∷ bs) x is = go (f b) is (in_pool_filter f bs x)
  where
    or_true : (c : Bool) → (c || true) ≡ true
    or_true true = refl
    or_true false = refl

    more : any_range bs x ≡ true → (covers b x || any_range bs x) ≡ true
    more e = ap (λ d. covers b x || d) e ∙ or_true (covers b x)

    go : (c : Bool) → any_range (cond c (b ∷ filter f bs) (filter f bs)) x ≡ true → (any_range (filter f bs) x ≡ true → any_range bs x ≡ true) → (covers b x || any_range bs x) ≡ true
    go true e again = elim (or_cases (covers b x) (any_range (filter f bs) x) e) [
      | inl here ↦ ap (λ d. d || any_range bs x) here
      | inr rest ↦ more (again rest)
    ]
    go false e again = more (again e)

granted_less : (at n : ℕ) → granted at n ≤ n
granted_less at n = go (eqb at 0)
  where
    go : (c : Bool) → cond c 0 n ≤ n
    go true = omega arith
    go false = omega arith

-- a place in the pool, or none
record Lies (at n : ℕ) : Type 0 where
  low : system_pool ≤ at
  high : at + n ≤ system_pool + pool_size

place_lies : (bs : List Range) (n at : ℕ) → IsPlace system_pool bs n at → (granted at n ≡ 0) ⊎ Lies at n
place_lies bs n at (inl p) = inr (record { low = p.0.low; high = p.0.high })
place_lies bs n at (inr p) = inl (ap (λ a. granted a n) p.0)

-- marks that are no events
abbrev IsNoEvent : Act → Type 0
IsNoEvent Turn = Unit {0}
IsNoEvent (Load o at bytes) = Unit {0}
IsNoEvent (Store o at bytes) = Unit {0}
IsNoEvent (Enter g args at bytes) = Unit {0}
IsNoEvent (Leave at size) = Unit {0}
IsNoEvent (Step g args v ins pieces freed) = Unit {0}
IsNoEvent (Fault k crosses ins outs access) = Unit {0}
IsNoEvent (Made e) = ⊥

none_dead : (c : Cell) → IsReally c None → c ≡ Dead
none_dead Dead h = refl
none_dead (Live v) h = absurd (some_none v (sym h))
none_dead (Held v) h = absurd (h refl)

-- ---- what is known of a run

record Facts (w : World) (past : List Mark) : Type 0 where
  stacked : (t : ℕ) → AreStacked (stack System t) (frames_on w System t past)
  pooled : InPoolBelow (system_blocks past)
  real_is : (x : ℕ) → is_system x ≡ false → IsReally (byte (begin w) x (seen past)).cell (real w past x)
  inside : (x : ℕ) → IsOutside x → real w past x ≡ None

module _ (w : World) (past : List Mark) (m : Mark) (s : Picked w past) (made : IsMade w past s m) (fit : IsFit w) (follows : Follows w past) (lt : m.thread < thread_count) (whole : IsWhole (begin w) (seen past)) (f : Facts w past) where
  answers : (side_of s.side m.act ≡ m.side) × (is_some (answer_to s.want m.act) ≡ true)
  answers = replied s.side s.want m made.replies

  -- the side of a mark that is no event is that of the code
  code_side : (a : Act) → m.act ≡ a → IsNoEvent a → s.side ≡ m.side
  code_side a e plain = sym (side_stays a plain) ∙ ap (side_of s.side) (sym e) ∙ answers.0
    where
      side_stays : (a : Act) → IsNoEvent a → side_of s.side a ≡ s.side
      side_stays Turn p = refl
      side_stays (Load q at bytes) p = refl
      side_stays (Store q at bytes) p = refl
      side_stays (Enter g args at bytes) p = refl
      side_stays (Leave at size) p = refl
      side_stays (Step g args v ins pieces freed) p = refl
      side_stays (Fault k crosses ins outs access) p = refl
      side_stays (Made e) p = absurd p

  agrees_as : (a : Act) → m.act ≡ a → Agrees w past s.thread s.side s.want a
  agrees_as a e = subst (λ b. Agrees w past s.thread s.side s.want b) e made.agrees

  answers_as : (a : Act) → m.act ≡ a → is_some (answer_to s.want a) ≡ true
  answers_as a e = subst (λ b. is_some (answer_to s.want b) ≡ true) e answers.1

  passes_below : s.side ≡ System → Passes (checks_below w past s.thread s.want)
  passes_below e = subst (λ d. Passes (tests w past s.thread d s.want)) e made.passes

  passes_above : s.side ≡ Replay → Passes (checks_above w past s.thread s.want)
  passes_above e = subst (λ d. Passes (tests w past s.thread d s.want)) e made.passes

  thread_is : s.thread ≡ m.thread
  thread_is = sym made.mark.of_thread

  few : s.thread < thread_count
  few = omega (arith, thread_is, lt)

  -- a frame that is entered below lies in the thread's stack
  entered : (g : ℕ) (args : List ℕ) (at : ℕ) (bytes : List ℕ) → m.act ≡ Enter g args at bytes → m.side ≡ System →
      (at ≡ place_on w System s.thread past) × HasRoomOn w System s.thread past (length bytes)
  entered g args at bytes e below =
      let side : s.side ≡ System = code_side (Enter g args at bytes) e tt ∙ below in
      let a = agrees_as (Enter g args at bytes) e in
      (subst (λ d. at ≡ place_on w d s.thread past) side a.1, enter_tested w past s.thread s.want g args at bytes (answers_as (Enter g args at bytes) e) a.0 (passes_below side))

  low : stack System s.thread ≤ place_on w System s.thread past
  low = base_first (stack System s.thread) (frames_on w System s.thread past) (f.stacked s.thread)

  dead_outside : (x : ℕ) → IsOutside x → (byte (begin w) x (seen past)).cell ≡ Dead
  dead_outside x out = none_dead (byte (begin w) x (seen past)).cell (subst (IsReally (byte (begin w) x (seen past)).cell) (f.inside x out) (f.real_is x out.system))

  -- ---- one byte

  module _ (x : ℕ) (own : is_system x ≡ false) where
    abbrev v : Option ℕ
    v = real w past x

    abbrev Keeps : Act → Type 0
    Keeps a = (left_by w (m ∷ past) x a v ≡ v) ⊎ (IsHeld (byte (begin w) x (seen past)).cell × (left_by w (m ∷ past) x a v ≡ None → ⊥))

    not_system : {A : Type 0} → is_system x ≡ true → A
    not_system is = absurd (true≢false (sym is ∙ own))

    stores : (q : Option ℕ) (at : ℕ) (bytes : List ℕ) → m.act ≡ Store q at bytes → m.side ≡ System → Keeps (Store q at bytes)
    stores q at bytes e below =
        let side : s.side ≡ System = code_side (Store q at bytes) e tt ∙ below in
        let p = store_tested w past s.thread s.want q at bytes (answers_as (Store q at bytes) e) (passes_below side) in
        elim (cover_cases (range at (length bytes)) x) [
          | inl in' ↦ inr (
            touched w past s.thread x own whole (f.real_is x own)
                (λ a b. dead_outside x (record { constant = a; replay = b; system = own }))
                (range at (length bytes)) Done p in'.is,
            λ none. some_none _
                (sym (cond-true (covers (range at (length bytes)) x) _ v in'.is) ∙ none),
          )
          | inr out ↦ inl (cond-false (covers (range at (length bytes)) x) _ v out.is)
        ]

    enters : (g : ℕ) (args : List ℕ) (at : ℕ) (bytes : List ℕ) → m.act ≡ Enter g args at bytes → m.side ≡ System → Keeps (Enter g args at bytes)
    enters g args at bytes e below =
        let p = entered g args at bytes e below in
        elim (cover_cases (range at (length bytes)) x) [
          | inl in' ↦ not_system (system_stack s.thread x few (omega (arith, low, p.0, in'.from)) (omega (arith, p.0, p.1.0, in'.below)))
          | inr out ↦ inl (cond-false (covers (range at (length bytes)) x) _ v out.is)
        ]

    left : (at size : ℕ) (fs : List Range) → AreStacked (stack System s.thread) fs → first_of fs ≡ Some (range at size) → covers (range at size) x ≡ true → is_system x ≡ true
    left at size [] h l c = absurd (some_none (range at size) (sym l))
    left at size (g ∷ fs) h l c =
        let p = cover_parts (range at size) x c in
        let same : g ≡ range at size = inside g (range at size) l in
        let addr = ap (λ (q : Range). q.addr) same in
        let len = ap (λ (q : Range). q.len) same in
        let from = base_first (stack System s.thread) fs h.2 in
        system_stack s.thread x few (omega (arith, p.0, addr, h.0, from)) (omega (arith, p.1, addr, len, h.1))
      where
        inside : (a b : Range) → ◌≡◌ {A = Option Range} (Some a) (Some b) → a ≡ b
        inside a b e = cc

    leaves : (at size : ℕ) → m.act ≡ Leave at size → m.side ≡ System → Keeps (Leave at size)
    leaves at size e below =
        let side : s.side ≡ System = code_side (Leave at size) e tt ∙ below in
        let want : s.want ≡ Leaves at size = leave_wanted w past s.thread s.want at size (answers_as (Leave at size) e) in
        elim (cover_cases (range at size) x) [
          | inl in' ↦ not_system (left at size (frames_on w System s.thread past) (f.stacked s.thread) (subst (λ d. first_of (frames_on w d s.thread past) ≡ Some (range at size)) side (ends.leaves w fit past follows s at size want)) in'.is)
          | inr out ↦ inl (cond-false (covers (range at size) x) _ v out.is)
        ]

    -- a builtin or external
    abbrev the_step : ℕ → List ℕ → ℕ → List Piece → List Piece → List Range → StepOf
    the_step g args r ins pieces freed = record { func = g; args = args; result = r; ins = ins; pieces = pieces; freed = freed }

    no_pieces_keep : (g : ℕ) (args : List ℕ) (r : ℕ) (ins pieces : List Piece) (freed : List Range) → freed ≡ [] → pieces ≡ [] → Keeps (Step g args r ins pieces freed)
    no_pieces_keep g args r ins pieces freed ef ep = inl (ap (λ rs. cond (any_range rs x) None (filled pieces x v)) ef ∙ ap (λ ps. filled ps x v) ep)

    given_keep : (g : ℕ) (args : List ℕ) (r : ℕ) (ins pieces : List Piece) (freed : List Range) (gv : Given) →
        GivesStep w past (the_step g args r ins pieces freed) gv → Passes (external_checks w past s.thread g args gv) →
        Keeps (Step g args r ins pieces freed)
    given_keep g args r ins pieces freed ByPool a p = absurd a
    given_keep g args r ins pieces freed NoMore a p = absurd a
    given_keep g args r ins pieces freed (Says u bs) a p =
        let q = pieces_keep w past s.thread x own whole (f.real_is x own)
        (λ b c. dead_outside x (record { constant = b; replay = c; system = own })) (targets w System past g args r) bs v
        (subst (λ n. Passes (piece_checks w past s.thread (targets w System past g args n) bs)) (sym a.result_is) p) in
        let is : left_by w (m ∷ past) x (Step g args r ins pieces freed) v ≡ filled (pieces_for (targets w System past g args r) bs) x v =
        ap (λ rs. cond (any_range rs x) None (filled pieces x v)) a.freed ∙ ap (λ ps. filled ps x v) a.pieces_are in
        elim q [ inl same ↦ inl (is ∙ same) | inr there ↦ inr (there.0, λ n. there.1 (sym is ∙ n)) ]

    says_nothing : (g : ℕ) (args : List ℕ) (r : ℕ) (ins pieces : List Piece) (freed : List Range) (u : ℕ) →
        IsGiven w past (the_step g args r ins pieces freed) u [] → Keeps (Step g args r ins pieces freed)
    says_nothing g args r ins pieces freed u a = no_pieces_keep g args r ins pieces freed a.freed (a.pieces_are ∙ no_pieces (targets w System past g args r))

    mallocs : (g : ℕ) (args : List ℕ) (r : ℕ) (ins pieces : List Piece) (freed : List Range) →
        IsPlace system_pool (system_blocks past) (first args) r → pieces ≡ zeros r (granted r (first args)) → freed ≡ [] →
        Keeps (Step g args r ins pieces freed)
    mallocs g args r ins pieces freed place ep ef = inl (ap (λ rs. cond (any_range rs x) None (filled pieces x v)) ef
        ∙ ap (λ ps. filled ps x v) ep
        ∙ zeros_are r (granted r (first args)) x v
        ∙ elim (cover_cases (range r (granted r (first args))) x) [
          | inr out ↦ cond-false (covers (range r (granted r (first args))) x) _ v out.is
          | inl in' ↦ elim (place_lies (system_blocks past) (first args) r place) [
            | inl none ↦ absurd (omega (arith, none, in'.from, in'.below))
            | inr l ↦ (let less = granted_less r (first args) in not_system (system_block x (omega (arith, l.low, in'.from)) (omega (arith, l.high, in'.below, less))))
          ]
        ])

    frees : (g : ℕ) (args : List ℕ) (r : ℕ) (ins pieces : List Piece) (freed : List Range) → pieces ≡ [] → freed ≡ block_at (first args) past → Keeps (Step g args r ins pieces freed)
    frees g args r ins pieces freed ep ef = elim (cases_Bool (any_range freed x)) [
      | inl is ↦ not_system (block_system (system_blocks past) x f.pooled (in_pool_filter _ (system_blocks past) x (ap (λ rs. any_range rs x) (sym ef) ∙ is)))
      | inr out ↦ inl (cond-false (any_range freed x) None _ out ∙ ap (λ ps. filled ps x v) ep)
    ]

    steps_keep : (g : ℕ) (args : List ℕ) (r : ℕ) (ins pieces : List Piece) (freed : List Range) (b : Option Builtin) → builtin_of g ≡ b →
        IsStep w past s.thread (the_step g args r ins pieces freed) b → Passes (step_checks w past s.thread g args b) →
        Keeps (Step g args r ins pieces freed)
    steps_keep g args r ins pieces freed (Some builtins.Malloc) e a p = mallocs g args r ins pieces freed a.place a.pieces a.freed
    steps_keep g args r ins pieces freed (Some builtins.Free) e a p = frees g args r ins pieces freed a.pieces a.freed
    steps_keep g args r ins pieces freed (Some builtins.Spawn) e a p = says_nothing g args r ins pieces freed _ (subst (λ b. GivesStep w past (the_step g args r ins pieces freed) (given_by w past s.thread g args b)) e a)
    steps_keep g args r ins pieces freed (Some builtins.Join) e a p = says_nothing g args r ins pieces freed _ (subst (λ b. GivesStep w past (the_step g args r ins pieces freed) (given_by w past s.thread g args b)) e a)
    steps_keep g args r ins pieces freed (Some builtins.Lock) e a p = says_nothing g args r ins pieces freed _ (subst (λ b. GivesStep w past (the_step g args r ins pieces freed) (given_by w past s.thread g args b)) e a)
    steps_keep g args r ins pieces freed (Some builtins.Unlock) e a p = says_nothing g args r ins pieces freed _ (subst (λ b. GivesStep w past (the_step g args r ins pieces freed) (given_by w past s.thread g args b)) e a)
    steps_keep g args r ins pieces freed (Some builtins.Print) e a p = says_nothing g args r ins pieces freed _ (subst (λ b. GivesStep w past (the_step g args r ins pieces freed) (given_by w past s.thread g args b)) e a)
    steps_keep g args r ins pieces freed None e a p = given_keep g args r ins pieces freed (given w past s.thread g args) a p

    keeps : (a : Act) → m.act ≡ a → m.side ≡ System → Keeps a
    keeps Turn e below = inl refl
    keeps (Load q at bytes) e below = inl refl
    keeps (Store q at bytes) e below = stores q at bytes e below
    keeps (Enter g args at bytes) e below = enters g args at bytes e below
    keeps (Leave at size) e below = leaves at size e below
    keeps (Step g args r ins pieces freed) e below =
        let side : s.side ≡ System = code_side (Step g args r ins pieces freed) e tt ∙ below in
        steps_keep g args r ins pieces freed (builtin_of g) refl (agrees_as (Step g args r ins pieces freed) e)
        (step_tested w past s.thread s.want g args r ins pieces freed (answers_as (Step g args r ins pieces freed) e) (passes_below side))
    keeps (Fault k crosses ins outs access) e below = inl refl
    keeps (Made ev) e below = absurd (two_sides (ap (side_of s.side) (sym e) ∙ answers.0 ∙ below))
      where
        two_sides : ◌≡◌ {A = Side} Replay System → ⊥
        two_sides q = cc

    may_follow : MayFollow w past m x
    may_follow = record { above = λ above. no_step m.act refl above; below = λ below. keeps m.act refl below }
      where
        no_step : (a : Act) → m.act ≡ a → m.side ≡ Replay → IsNoStep a
        no_step Turn e above = tt
        no_step (Load q at bytes) e above = tt
        no_step (Store q at bytes) e above = tt
        no_step (Enter g args at bytes) e above = tt
        no_step (Leave at size) e above = tt
        no_step (Step g args r ins pieces freed) e above = no_step_above w past s.thread s.want g args r ins pieces freed
            (answers_as (Step g args r ins pieces freed) e) (passes_above (code_side (Step g args r ins pieces freed) e tt ∙ above))
        no_step (Fault k crosses ins outs access) e above = tt
        no_step (Made ev) e above = tt

  -- ---- frames and blocks after the mark

  frames_stack : (a : Act) → m.act ≡ a → m.side ≡ System → AreStacked (stack System m.thread) (frames_after a (frames_on w System m.thread past))
  frames_stack (Enter g args at bytes) e below =
      let p = entered g args at bytes e below in
      subst (λ t. AreStacked (stack System t) (range at (length bytes) ∷ frames_on w System t past)) thread_is
      (p.0, omega (arith, p.0, p.1.0), f.stacked s.thread)
  frames_stack (Leave at size) e below = tail_stacked (frames_on w System m.thread past) (f.stacked m.thread)
    where
      tail_stacked : (fs : List Range) → AreStacked (stack System m.thread) fs → AreStacked (stack System m.thread) (frames_after (Leave at size) fs)
      tail_stacked [] h = tt
      tail_stacked (g ∷ fs) h = h.2
  frames_stack Turn e below = f.stacked m.thread
  frames_stack (Load q at bytes) e below = f.stacked m.thread
  frames_stack (Store q at bytes) e below = f.stacked m.thread
  frames_stack (Step g args r ins pieces freed) e below = f.stacked m.thread
  frames_stack (Fault k crosses ins outs access) e below = f.stacked m.thread
  frames_stack (Made ev) e below = f.stacked m.thread

  stacked_now : (t : ℕ) → AreStacked (stack System t) (frames_on w System t (m ∷ past))
  stacked_now t = go m.side refl
    where
      go : (d : Side) → m.side ≡ d → AreStacked (stack System t) (frames_on w System t (m ∷ past))
      go Replay e = subst (AreStacked (stack System t)) (sym (frames_above w m past e t)) (f.stacked t)
      go System e = elim (cases_eq m.thread t) [
        | inl same ↦ subst (λ u. AreStacked (stack System u) (frames_on w System u (m ∷ past))) same (subst (AreStacked (stack System m.thread)) (sym (frames_own w m past e)) (frames_stack m.act refl e))
        | inr other ↦ subst (AreStacked (stack System t)) (sym (frames_other w m past e t other)) (f.stacked t)
      ]

  one_more : (at n : ℕ) (bs : List Range) → InPoolBelow bs → (granted at n ≡ 0) ⊎ Lies at n → InPoolBelow (cond (eqb (granted at n) 0) bs (range at n ∷ bs))
  one_more at n bs h (inl none) = subst (λ k. InPoolBelow (cond (eqb k 0) bs (range at n ∷ bs))) (sym none) h
  one_more at n bs h (inr l) = go (eqb (granted at n) 0)
    where
      go : (c : Bool) → InPoolBelow (cond c bs (range at n ∷ bs))
      go true = h
      go false = (l.low, l.high, h)

  blocks_pool : (g : ℕ) (args : List ℕ) (r : ℕ) (ins pieces : List Piece) (freed : List Range) (b : Option Builtin) →
      IsStep w past s.thread (record { func = g; args = args; result = r; ins = ins; pieces = pieces; freed = freed }) b →
      InPoolBelow (builtin_blocks b args r (system_blocks past))
  blocks_pool g args r ins pieces freed (Some builtins.Malloc) a = one_more r (first args) (system_blocks past) f.pooled (place_lies (system_blocks past) (first args) r a.place)
  blocks_pool g args r ins pieces freed (Some builtins.Free) a = in_pool_without (first args) (system_blocks past) f.pooled
  blocks_pool g args r ins pieces freed (Some builtins.Spawn) a = f.pooled
  blocks_pool g args r ins pieces freed (Some builtins.Join) a = f.pooled
  blocks_pool g args r ins pieces freed (Some builtins.Lock) a = f.pooled
  blocks_pool g args r ins pieces freed (Some builtins.Unlock) a = f.pooled
  blocks_pool g args r ins pieces freed (Some builtins.Print) a = f.pooled
  blocks_pool g args r ins pieces freed None a = f.pooled

  pooled_now : (a : Act) → m.act ≡ a → InPoolBelow (act_blocks a (system_blocks past))
  pooled_now (Step g args r ins pieces freed) e = blocks_pool g args r ins pieces freed (builtin_of g) (agrees_as (Step g args r ins pieces freed) e)
  pooled_now Turn e = f.pooled
  pooled_now (Load q at bytes) e = f.pooled
  pooled_now (Store q at bytes) e = f.pooled
  pooled_now (Enter g args at bytes) e = f.pooled
  pooled_now (Leave at size) e = f.pooled
  pooled_now (Fault k crosses ins outs access) e = f.pooled
  pooled_now (Made ev) e = f.pooled

  outside_now : IsWhole (begin w) (seen (m ∷ past)) → (x : ℕ) → IsOutside x → real w (m ∷ past) x ≡ None
  outside_now after x out = go m.side refl
    where
      go : (d : Side) → m.side ≡ d → real w (m ∷ past) x ≡ None
      go Replay e = none_above w past m s made e ((may_follow x out.system).above e) lt whole after x out (f.inside x out) (dead_outside x out)
      go System e = elim ((may_follow x out.system).below e) [
        | inl same ↦ same ∙ f.inside x out
        | inr held ↦ absurd (subst IsHeld (dead_outside x out) held.0)
      ]

  facts_now : IsWhole (begin w) (seen (m ∷ past)) → Facts w (m ∷ past)
  facts_now after = record {
    stacked = stacked_now;
    pooled = pooled_now m.act refl;
    real_is = λ x own. next_really w past m x (f.real_is x own) (may_follow x own);
    inside = outside_now after;
  }

-- ---- runs

in_areas : (os : List Place) → LieApart os → All IsInArea os
in_areas [] apart = All-nil IsInArea
in_areas (o ∷ os) apart = All-cons IsInArea o os apart.0 (in_areas os apart.2)

-- what a replay sees is whole
pub seen_whole : (w : World) → RunsSeenAreWhole w
seen_whole w fit past follows = stay_whole (program_of w) (begin w) (seen past) (calm_run w fit past follows)

facts : (w : World) → IsFit w → (past : List Mark) → Follows w past → Facts w past
facts w fit [] follows =
    let objects = fit.placed.objects in
    record { stacked = λ t. tt; pooled = tt; real_is = λ x own. really (placed_at w x) None; inside = λ x out. none_placed w x (in_areas w.laid.placed.globals objects.global_areas) (in_areas w.laid.placed.strings objects.string_areas) out }
facts w fit (m ∷ past) follows = facts_now w past m follows.0.step follows.0.made fit follows.1 (small_thread w fit.code past m follows) (seen_whole w fit past follows.1) (facts w fit past follows.1) (seen_whole w fit (m ∷ past) follows)

pub real_above : (w : World) → RealMemoryAbove w
real_above w fit past follows x own = (facts w fit past follows).real_is x own
