-- An event of a step is one that the rules of replays allow.
use Rattle.std.proofs.Common.{◌≡◌, ◌⊎◌, inl, inr, ⊎_elim, ℕ, zero, suc, ◌+◌, ◌<◌, ◌≤◌, Bool, true, false, cond, ◌&&◌, ◌||◌, not, eqb, ltb, List, [], ◌∷◌, ◌++◌, map, Option, Some, None, refl, sym, ap, ◌∙◌, subst, arith, eqb-true, eq-eqb}
use Rattle.std.specs.Prelude.{is_some}
use Rattle.std.proofs.lemmas.Bool.{and_from, and_parts, or_cases, true≢false, le-leb, lt-ltb, ltb-true, ltb-false}
use Rattle.run_events.specs.declared.key.Key.{Key}
use Rattle.run_events.specs.declared.key.Class.TheVariants.{Pool, Async}
use Rattle.marks.specs.declared.side.Side.TheVariants.{Replay, System}
use Rattle.marks.specs.Places.{is_constant}
use Rattle.marks.specs.Ranges.{Piece, Prepared, range, within, covers, piece_ranges, prepared_ranges}
use Rattle.marks.specs.declared.range.Range.{Range}
use Rattle.marks.specs.Marks.{EventKind, Call, Ret, Up, UpRet, Alloc, Free, Event, Made, Mark, Commit, NoRegion, Withheld, Released}
use Rattle.marks.specs.Bytes.{Asks, EventAsks, event_reads, event_writes, late, late_event, place, reads, writes, touches}
use Rattle.marks.proofs.Touched.{or_true_right}
use Rattle.marks.specs.Wants.{Want, Outside, Turns, Loads, Stores, Enters, Leaves, Allocs, Frees, Calls, Below, Gives, Returns, CallsBack, UpReturns, Steps, Fails, Value, answer_if, answer_to, event_answer, same_numbers, is_above, is_below}
use Rattle.c_code.specs.Laws.{seen_above}
use Rattle.replay_runs.specs.Runs.{Start, Link, OfThread, OfKey, keys_of, is_listed, new_events, byte, Allowed}
use Rattle.replay_runs.specs.Known as known_in
use Rattle.replay_runs.specs.Known.{known_at, NoRace}
use Rattle.replay_runs.specs.Interface.{Interface, Program, Committing}
use Rattle.replay_runs.specs.Pool.{blocks, in_use}
use Rattle.replay_runs.specs.Keys.{key, sorted_keys, keys_for, commit_keys}
use Rattle.replay_runs.specs.Rules.{KeepsModes, HasKeys, Carries, EventCarries, IsReturn, Commits, CommitsUsed, SharedAct, SharedEvent, AsyncRule, ReleaseRule}
use Rattle.replay_runs.specs.Checks.{Passes, Races, checks}
use Rattle.replay_runs.specs.Passing.{AllMayRead, AllMayWrite, CallMayPass, FreeMayPass}
use Rattle.replay_runs.specs.Calls.{CallIsFree}
use Rattle.replay_runs.specs.Returns.{ReleasesInUse}
use Rattle.replay_runs.specs.Blocks.{size_at}
use Rattle.replay_runs.specs.Unseen.{Holder, Calling, Preparing, TakesUnseen, IsNewOrBack, holds, IsWhole, Calm}
use Rattle.replay_runs.specs.Owning.{IsOwn, ObjectsAreOwn}
use Rattle.replay_runs.proofs.Keys.{listed_last}
use Rattle.replay_runs.proofs.Blocks.{bounds}
use Rattle.replay_runs.proofs.Passing.{say}
use Rattle.replay_runs.proofs.Calls as calls
use Rattle.replay_runs.proofs.Owning as owning
use Rattle.replay_runs.proofs.Replies.{same_numbers_true}
use Rattle.whole_runs.specs.World.{World, begin, program_of}
use Rattle.whole_runs.specs.Sides.{seen}
use Rattle.whole_runs.specs.Tests.{checks_above}
use Rattle.whole_runs.specs.Steps.{Picked, rules_above, IsMade}
use Rattle.whole_runs.specs.Ends.{Follows}
use Rattle.whole_runs.specs.Fits.{IsFit}
use Rattle.whole_runs_laws.proofs.Lasts.{some_if}
use Rattle.whole_runs_seen.proofs.Entries as entries
use Rattle.whole_runs_seen.proofs.Threads.{AreThreads}
use Rattle.whole_runs_seen.proofs.Seen as seen_step

module _ (w : World) (fit : IsFit w) (past : List Mark) (follows : Follows w past) (known : AreThreads w past) (calm : Calm (program_of w) (begin w) (seen past))
    (s : Picked w past) (m : Mark) (h : IsMade w past s m) (above : m.side ≡ Replay) where
  abbrev p : Program
  p = seen_step.p w fit past follows known calm s m h above

  abbrev i : Interface
  i = seen_step.i w fit past follows known calm s m h above

  abbrev st : Start
  st = seen_step.st w fit past follows known calm s m h above

  abbrev rs : List Mark
  rs = seen_step.rs w fit past follows known calm s m h above

  abbrev mine : List Mark
  mine = seen_step.mine w fit past follows known calm s m h above

  abbrev TouchesOwn : Type 0
  TouchesOwn = seen_step.TouchesOwn w fit past follows known calm s m h above

  abbrev Fits : Want → Type 0
  Fits = seen_step.Fits w fit past follows known calm s m h above

  made : Allowed (rules_above i st s.want) st rs m
  made = seen_step.made w fit past follows known calm s m h above

  whole : IsWhole st rs
  whole = seen_step.whole w fit past follows known calm s m h above

  objects : ObjectsAreOwn st rs
  objects = seen_step.objects w fit past follows known calm s m h above

  nothing : ((x : ℕ) → touches m.act x ≡ false) → ((x : ℕ) → writes m.act x ≡ false) → TouchesOwn
  nothing = seen_step.nothing w fit past follows known calm s m h above

  all_own : ((x : ℕ) → touches m.act x ≡ true → IsOwn x) → ((x : ℕ) → writes m.act x ≡ true → touches m.act x ≡ true) → TouchesOwn
  all_own = seen_step.all_own w fit past follows known calm s m h above

  -- ---- events

  module _ (e : Event) (is : m.act ≡ Made e) where
    event_carries : EventCarries i st m.thread mine e.kind
    event_carries = subst (Carries i st m.thread mine s.want) is made.own.1

    keyed : HasKeys i m.thread mine (Made e)
    keyed = subst (HasKeys i m.thread mine) is made.own.0

    has_key : (k : Key) → is_listed e.keys k ≡ true → SharedAct i st k (new_events (OfKey k) rs) (Made e)
    has_key k there = subst (SharedAct i st k (new_events (OfKey k) rs)) is (made.shared (OfKey k) (ap (λ a. is_listed (keys_of a) k) is ∙ there))

    touched : (x : ℕ) → touches m.act x ≡ (event_reads e.kind x || event_writes e.kind x)
    touched x = ap (λ a. touches a x) is

    writing : (x : ℕ) → writes m.act x ≡ event_writes e.kind x
    writing x = ap (λ a. writes a x) is

    untouched : (k : EventKind) → e.kind ≡ k → ((x : ℕ) → event_reads k x ≡ false) → ((x : ℕ) → event_writes k x ≡ false) → TouchesOwn
    untouched k z r u = nothing
        (λ x. touched x ∙ (ap (λ q. event_reads q x || event_writes q x) z ∙ (ap (λ b. b || event_writes k x) (r x) ∙ u x)))
        (λ x. writing x ∙ (ap (λ q. event_writes q x) z ∙ u x))

    -- it writes alone, what is own
    writes_own : (k : EventKind) → e.kind ≡ k → ((x : ℕ) → event_reads k x ≡ false) → ((x : ℕ) → event_writes k x ≡ true → IsOwn x) → TouchesOwn
    writes_own k z r o = all_own
        (λ x y. o x (sym (ap (λ b. b || event_writes k x) (r x)) ∙ (sym (ap (λ q. event_reads q x || event_writes q x) z) ∙ (sym (touched x) ∙ y))))
        (λ x y. touched x ∙ (ap (λ q. event_reads q x || event_writes q x) z ∙ (ap (λ b. b || event_writes k x) (r x) ∙ (ap (λ q. event_writes q x) (sym z) ∙ (sym (writing x) ∙ y)))))

    of_call : (f : ℕ) (args : List ℕ) (ins : List Piece) (outs : List Range) (prepared : List Prepared) → e.kind ≡ Call f args ins outs prepared → CallIsFree st rs m ins outs prepared → TouchesOwn
    of_call f args ins outs prepared z c = record { other_space = c.other_space; read_only = c.read_only }

    -- the key of the pool
    of_pool : (k : EventKind) → e.kind ≡ k → keys_for i m.thread mine k ≡ key Pool 0 ∷ [] → SharedEvent i st Pool 0 (new_events (OfKey (key Pool 0)) rs) k
    of_pool k z ks = subst (SharedEvent i st Pool 0 (new_events (OfKey (key Pool 0)) rs)) z
        (has_key (key Pool 0) (listed_last e.keys [] (key Pool 0) (subst (λ q. map (λ y. y.key) e.keys ≡ sorted_keys (keys_for i m.thread mine q)) z keyed ∙ ap sorted_keys ks)))

    alloc_own : (at size : ℕ) → e.kind ≡ Alloc at size → TouchesOwn
    alloc_own at size z = writes_own (Alloc at size) z (λ x. refl) (objects.allocs at size (of_pool (Alloc at size) z refl))

    free_own : (at size : ℕ) → e.kind ≡ Free at size → TouchesOwn
    free_own at size z = writes_own (Free at size) z (λ x. refl) inside
      where
        block_is : (x : ℕ) → within at size x ≡ true → size_at at (blocks st rs) ≡ size
        block_is x y =
            let b = bounds at size x y in
            let first : within at size at ≡ true = in_first b in
            sym (whole.listed.same at) ∙ asked first
          where
            in_first : (at ≤ x) × (x < at + size) → within at size at ≡ true
            in_first b = and_from _ _ (le-leb at at (omega arith)) (lt-ltb at (at + size) (omega (arith, b.0, b.1)))

            asked : within at size at ≡ true → (byte st at rs).block ≡ size
            asked q = (subst (λ k. EventAsks k at (byte st at rs)) z (subst (λ a. Asks a (λ v. byte st v rs)) is made.bytes at) q).1 refl

        inside : (x : ℕ) → within at size x ≡ true → IsOwn x
        inside x y = objects.frees at size (block_is x y) x y

    -- no one else touched what is freed but what the thread knows of
    free_unraced : (at y size : ℕ) → e.kind ≡ Free y size → y ≡ at → Passes (checks i st rs m.thread (Frees at)) → NoRace rs m
    free_unraced zero y size z there_is ok a j ne x c = seen_step.untouched_races_not w fit past follows known calm s m h above
        (λ x. touched x ∙ (ap (λ q. event_reads q x || event_writes q x) z ∙ empty x)) (λ x. writing x ∙ (ap (λ q. event_writes q x) z ∙ empty x)) a j ne x c
      where
        no_size : size ≡ 0
        no_size = eqb-true size 0 (sym (subst (EventCarries i st m.thread mine) z event_carries) ∙ eq-eqb y 0 there_is)

        empty : (x : ℕ) → within y size x ≡ false
        empty x = go (within y size x) refl
          where
            go : (b : Bool) → within y size x ≡ b → b ≡ false
            go false q = refl
            go true q = let b = bounds y size x q in absurd (omega (arith, b.0, b.1, no_size))
    free_unraced (suc n) y size z there_is ok a j ne x c = go (ltb (place a) (known_by (OfThread m.thread) a.thread)) refl
      where
        may : FreeMayPass st rs m.thread (suc n)
        may = ((say st rs m.thread i).frees (suc n) (omega arith)).0 ok

        known_by : Link → ℕ → ℕ
        known_by = known_in.known rs

        known_by_now : Link → ℕ → ℕ
        known_by_now = known_in.known (m ∷ rs)

        early : late m.act ≡ false
        early = ap late is ∙ ap late_event z

        both : (touches a.act x ≡ true) × (touches m.act x ≡ true)
        both = ⊎_elim
            (λ q. let u = and_parts (writes a.act x) (touches m.act x) q in (or_true_right (reads a.act x) (writes a.act x) u.0, u.1))
            (λ q. let u = and_parts (touches a.act x) (writes m.act x) q in (u.0, or_true_right (reads m.act x) (writes m.act x) u.1))
            (or_cases (writes a.act x && touches m.act x) (touches a.act x && writes m.act x) c)

        in_block : within y size x ≡ true
        in_block = sym (ap (λ q. event_reads q x || event_writes q x) z) ∙ (sym (touched x) ∙ both.1)

        asked : (byte st y rs).block ≡ size
        asked =
            let b = bounds y size x in_block in
            (subst (λ k. EventAsks k y (byte st y rs)) z (subst (λ q. Asks q (λ v. byte st v rs)) is made.bytes y) (and_from _ _ (le-leb y y (omega arith)) (lt-ltb y (y + size) (omega (arith, b.0, b.1))))).1 refl

        covered : covers (range (suc n) (byte st (suc n) rs).block) x ≡ true
        covered = subst (λ q. covers (range q (byte st q rs).block) x ≡ true) there_is (subst (λ k. covers (range y k) x ≡ true) (sym asked) in_block)

        no_constant : is_constant x ≡ false
        no_constant = ((objects.frees y size (sym (whole.listed.same y) ∙ asked) x in_block)).1

        races : known_by (OfThread m.thread) a.thread ≤ place a → Races rs m.thread true x a.thread
        races le = (a, j, refl, ne, or_true_right (writes a.act x) (not (is_constant x) && touches a.act x) (and_from _ _ (ap not no_constant) both.0), le)

        go : (b : Bool) → ltb (place a) (known_by (OfThread m.thread) a.thread) ≡ b → place a < known_at rs m a.thread
        go true q = subst (λ k. place a < k) (sym (ap (λ b. cond b (known_by_now (OfThread m.thread) a.thread) (known_by (OfThread m.thread) a.thread)) early)) (ltb-true _ _ q)
        go false q = absurd (may.unraced x a.thread covered (races (ltb-false _ _ q)))

    module _ (f : ℕ) (args : List ℕ) (v : ℕ) (same : Bool) (outs : List Piece) (commit : Commit) (kind : e.kind ≡ Ret f args v same outs commit) where
      ret : IsReturn i st m.thread mine f args v same outs commit
      ret = subst (EventCarries i st m.thread mine) kind event_carries

      -- what is released is the region in use
      in_use_there : (o : Option Committing) → i.commits f args v ≡ o → (c : Commit) → commit ≡ c → Commits o c → ReleasesInUse st rs c
      in_use_there o eo NoRegion ec k = tt
      in_use_there o eo Withheld ec k = tt
      in_use_there None eo (Released j q) ec k = absurd (none j q k)
        where
          none : (j : ℕ) (q : Piece) → Released j q ≡ NoRegion → ⊥
          none j q z = cc
      in_use_there (Some c) eo (Released j q) ec k =
          let here : j ≡ c.key = released_key c.used k in
          let sorted : map (λ y. y.key) e.keys ≡ sorted_keys (i.keys_at_return f args ++ (key Async c.key ∷ [])) =
          subst (λ z. map (λ y. y.key) e.keys ≡ sorted_keys (keys_for i m.thread mine z)) kind keyed ∙ ap (λ z. sorted_keys (i.keys_at_return f args ++ commit_keys z)) eo in
          let shared = has_key (key Async c.key) (listed_last e.keys (i.keys_at_return f args) (key Async c.key) sorted) in
          let rule : ReleaseRule c.key (in_use st c.key rs) commit = subst (AsyncRule c.key (in_use st c.key rs)) kind shared in
          ap (λ z. in_use st z rs) here ∙ subst (ReleaseRule c.key (in_use st c.key rs)) ec rule here
        where
          released_key : (o : Option ℕ) → CommitsUsed c.key o (Released j q) → j ≡ c.key
          released_key None z = absurd (none z)
            where
              none : Released j q ≡ Withheld → ⊥
              none z = cc
          released_key (Some n) z = z.0

      ret_own : TouchesOwn
      ret_own = writes_own (Ret f args v same outs commit) kind (λ x. refl) (λ x y.
          let given = owning.gives st rs m.thread f args outs commit ret.closes (in_use_there (i.commits f args v) refl commit refl ret.committed) x y in
          owning.held p st begins rs calm.steps x given.0 given.1)
        where
          begins : (x : ℕ) (o : Holder) → holds st [] x o ≡ true → IsOwn x
          begins x (Calling t) z = absurd (true≢false (sym z))
          begins x (Preparing k) z = absurd (true≢false (sym z))

    -- ---- where it is wanted

    abbrev there : Want → Type 0
    there want = is_some (event_answer want e.kind) ≡ true

    answered : (want : Want) → there want → is_some (answer_to want m.act) ≡ true
    unfolding answer_to
    answered want z = subst (λ a. is_some (answer_to want a) ≡ true) (sym is) z

    carries_so : (want : Want) → Carries i st m.thread mine want m.act
    carries_so want = subst (Carries i st m.thread mine want) (sym is) event_carries

    abbrev Unraced : Type 0
    Unraced = TakesUnseen m.act ⊎ NoRace rs m

    unseen : (k : EventKind) → e.kind ≡ k → IsNewOrBack k → Unraced
    unseen k z n = inl (subst TakesUnseen (sym is) (subst IsNewOrBack (sym z) n))

    calm_event : (k : EventKind) → e.kind ≡ k → ((x : ℕ) → event_reads k x ≡ false) → ((x : ℕ) → event_writes k x ≡ false) → Unraced
    calm_event k z r u = inr (seen_step.untouched_races_not w fit past follows known calm s m h above
        (λ x. touched x ∙ (ap (λ q. event_reads q x || event_writes q x) z ∙ (ap (λ b. b || event_writes k x) (r x) ∙ u x)))
        (λ x. writing x ∙ (ap (λ q. event_writes q x) z ∙ u x)))

    fits_event : (want : Want) → (is_above want || is_below want) ≡ true → there want → KeepsModes i want → TouchesOwn → Unraced → Fits want
    fits_event want b z k o u = record { stands = b; replies = answered want z; modes = k; carries = carries_so want; own_bytes = o; unraced = u }

    same_call : (f g : ℕ) (args bs : List ℕ) → (eqb g f && same_numbers bs args) ≡ true → (g ≡ f) × (bs ≡ args)
    same_call f g args bs z = let q = and_parts (eqb g f) (same_numbers bs args) z in (eqb-true g f q.0, same_numbers_true bs args q.1)

    -- a Call reads and holds what its annotations say
    call_own : (j : Bool) (f : ℕ) (args : List ℕ) (g : ℕ) (bs : List ℕ) (ins : List Piece) (outs : List Range) (prepared : List Prepared) → e.kind ≡ Call g bs ins outs prepared → (g ≡ f) × (bs ≡ args) →
        CallMayPass i st rs m.thread j f args → TouchesOwn × NoRace rs m
    call_own j f args g bs ins outs prepared kind (gf, ba) may =
        let carried = subst (EventCarries i st m.thread mine) kind event_carries in
        let ranges : piece_ranges ins ≡ i.ins f args = carried.0 ∙ (λ x. i.ins (gf x) (ba x)) in
        let held : outs ++ prepared_ranges prepared ≡ i.outs f args ++ prepared_ranges (i.prepares f args) =
        (λ x. (carried.2 ∙ (λ y. i.outs (gf y) (ba y))) x ++ prepared_ranges ((carried.3 ∙ (λ y. i.prepares (gf y) (ba y))) x)) in
        let free = (calls.exact st rs m e g bs ins outs prepared is kind).0 (subst (AllMayRead st rs m.thread) (sym ranges) may.reads, subst (AllMayWrite st rs m.thread) (sym held) may.holds) in
        (of_call g bs ins outs prepared kind free, free.no_race)

    -- the return of what is below a call
    below_fits : (f : ℕ) (args : List ℕ) (g : ℕ) (bs : List ℕ) (v : ℕ) (same : Bool) (outs : List Piece) (commit : Commit) → e.kind ≡ Ret g bs v same outs commit → (eqb g f && same_numbers bs args) ≡ true → Fits (Below f args)
    below_fits f args g bs v same outs commit kind z =
        fits_event (Below f args) refl (subst (λ k. is_some (event_answer (Below f args) k) ≡ true) (sym kind) (ap (λ b. is_some (answer_if b (Value v))) z)) tt (ret_own g bs v same outs commit kind) (unseen (Ret g bs v same outs commit) kind tt)

    up_fits : (want : Want) (g : ℕ) (bs : List ℕ) → e.kind ≡ Up g bs → is_below want ≡ true → Fits want
    up_fits Outside g bs kind b = fits_event Outside refl (subst (λ k. is_some (event_answer Outside k) ≡ true) (sym kind) refl) tt (untouched (Up g bs) kind (λ x. refl) (λ x. refl)) (calm_event (Up g bs) kind (λ x. refl) (λ x. refl))
    up_fits (Below f args) g bs kind b = fits_event (Below f args) refl (subst (λ k. is_some (event_answer (Below f args) k) ≡ true) (sym kind) refl) tt (untouched (Up g bs) kind (λ x. refl) (λ x. refl)) (calm_event (Up g bs) kind (λ x. refl) (λ x. refl))
    up_fits Turns g bs kind b = absurd (true≢false (sym b))
    up_fits (Loads o at n) g bs kind b = absurd (true≢false (sym b))
    up_fits (Stores o at bytes) g bs kind b = absurd (true≢false (sym b))
    up_fits (Enters j f args bytes) g bs kind b = absurd (true≢false (sym b))
    up_fits (Leaves at n) g bs kind b = absurd (true≢false (sym b))
    up_fits (Allocs n) g bs kind b = absurd (true≢false (sym b))
    up_fits (Frees at) g bs kind b = absurd (true≢false (sym b))
    up_fits (Calls j f args) g bs kind b = absurd (true≢false (sym b))
    up_fits (Gives f args) g bs kind b = absurd (true≢false (sym b))
    up_fits (Returns f args v) g bs kind b = absurd (true≢false (sym b))
    up_fits (CallsBack f args bytes) g bs kind b = absurd (true≢false (sym b))
    up_fits (UpReturns f v) g bs kind b = absurd (true≢false (sym b))
    up_fits (Steps j f args) g bs kind b = absurd (true≢false (sym b))
    up_fits (Fails k) g bs kind b = absurd (true≢false (sym b))

    -- by what the thread's own code wants
    pool_fits : (n : ℕ) (k : EventKind) → e.kind ≡ k → is_some (event_answer (Allocs n) k) ≡ true → Fits (Allocs n)
    pool_fits n (Alloc at size) kind z = fits_event (Allocs n) refl (subst (λ k. is_some (event_answer (Allocs n) k) ≡ true) (sym kind) z) tt (alloc_own at size kind) (unseen (Alloc at size) kind tt)
    pool_fits n k kind z = absurd (true≢false (sym z))

    freeing_fits : (at : ℕ) (k : EventKind) → e.kind ≡ k → is_some (event_answer (Frees at) k) ≡ true → Passes (checks i st rs m.thread (Frees at)) → Fits (Frees at)
    freeing_fits at (Free x size) kind z ok = fits_event (Frees at) refl (subst (λ k. is_some (event_answer (Frees at) k) ≡ true) (sym kind) z) tt (free_own x size kind) (inr (free_unraced at x size kind (eqb-true x at (some_if (eqb x at) _ z)) ok))
    freeing_fits at k kind z ok = absurd (true≢false (sym z))

    calling_fits : (j : Bool) (f : ℕ) (args : List ℕ) (k : EventKind) → e.kind ≡ k → is_some (event_answer (Calls j f args) k) ≡ true → Passes (checks i st rs m.thread (Calls j f args)) → Fits (Calls j f args)
    calling_fits j f args (Call g bs ins outs prepared) kind z ok =
        let may = ((say st rs m.thread i).calls j f args).0 ok in
        let touching = call_own j f args g bs ins outs prepared kind (same_call f g args bs (some_if (eqb g f && same_numbers bs args) _ z)) may in
        fits_event (Calls j f args) refl (subst (λ k. is_some (event_answer (Calls j f args) k) ≡ true) (sym kind) z) may.modes touching.0 (inr touching.1)
    calling_fits j f args k kind z ok = absurd (true≢false (sym z))

    giving_fits : (f : ℕ) (args : List ℕ) (k : EventKind) → e.kind ≡ k → is_some (event_answer (Gives f args) k) ≡ true → Fits (Below f args)
    giving_fits f args (Ret g bs v same outs commit) kind z = below_fits f args g bs v same outs commit kind (some_if (eqb g f && same_numbers bs args) _ z)
    giving_fits f args k kind z = absurd (true≢false (sym z))

    returning_fits : (f : ℕ) (args : List ℕ) (u : ℕ) (k : EventKind) → e.kind ≡ k → is_some (event_answer (Returns f args u) k) ≡ true → Fits (Below f args)
    returning_fits f args u (Ret g bs v same outs commit) kind z =
        let q = and_parts (eqb g f) (same_numbers bs args && eqb v u) (some_if (eqb g f && (same_numbers bs args && eqb v u)) _ z) in
        below_fits f args g bs v same outs commit kind (and_from _ _ q.0 (and_parts (same_numbers bs args) (eqb v u) q.1).0)
    returning_fits f args u k kind z = absurd (true≢false (sym z))

    ending_fits : (f : ℕ) (u : ℕ) (k : EventKind) → e.kind ≡ k → is_some (event_answer (UpReturns f u) k) ≡ true → Fits (UpReturns f u)
    ending_fits f u (UpRet g v) kind z = fits_event (UpReturns f u) refl (subst (λ k. is_some (event_answer (UpReturns f u) k) ≡ true) (sym kind) z) tt (untouched (UpRet g v) kind (λ x. refl) (λ x. refl)) (calm_event (UpRet g v) kind (λ x. refl) (λ x. refl))
    ending_fits f u k kind z = absurd (true≢false (sym z))

    up_of : (f : ℕ) (args bytes : List ℕ) (k : EventKind) → e.kind ≡ k → is_some (event_answer (CallsBack f args bytes) k) ≡ true → (want : Want) → is_below want ≡ true → Fits want
    up_of f args bytes (Up g bs) kind z want b = up_fits want g bs kind b
    up_of f args bytes k kind z want b = absurd (true≢false (sym z))

    pub replay_event : (want : Want) → entries.IsOwn w.laid Replay want → there want → Passes (checks_above w past m.thread want) → Fits (seen_above want)
    replay_event Outside o z ok = absurd o
    replay_event (Below f args) o z ok = absurd o
    replay_event (CallsBack f args bytes) o z ok = absurd cc
    replay_event (Allocs n) o z ok = pool_fits n e.kind refl z
    replay_event (Frees at) o z ok = freeing_fits at e.kind refl z ok
    replay_event (Calls j f args) o z ok = calling_fits j f args e.kind refl z ok
    replay_event (Gives f args) o z ok = giving_fits f args e.kind refl z
    replay_event (Returns f args v) o z ok = returning_fits f args v e.kind refl z
    replay_event (UpReturns f v) o z ok = ending_fits f v e.kind refl z
    replay_event Turns o z ok = absurd (true≢false (sym z))
    replay_event (Loads p at n) o z ok = absurd (true≢false (sym z))
    replay_event (Stores p at bytes) o z ok = absurd (true≢false (sym z))
    replay_event (Enters j f args bytes) o z ok = absurd (true≢false (sym z))
    replay_event (Leaves at n) o z ok = absurd (true≢false (sym z))
    replay_event (Steps j f args) o z ok = absurd (true≢false (sym z))
    replay_event (Fails kind) o z ok = absurd (true≢false (sym z))

    pub system_event : (want : Want) → entries.IsOwn w.laid System want → there want → (above_want : Want) → is_below above_want ≡ true → Fits above_want
    system_event Outside o z v b = absurd o
    system_event (Below f args) o z v b = absurd o
    system_event (CallsBack f args bytes) o z v b = up_of f args bytes e.kind refl z v b
    system_event (Allocs n) o z v b = absurd cc
    system_event (Frees at) o z v b = absurd cc
    system_event (Calls j f args) o z v b = absurd cc
    system_event (Gives f args) o z v b = absurd cc
    system_event (Returns f args u) o z v b = let no_one : System ≡ Replay = o.0 in absurd cc
    system_event (UpReturns f u) o z v b = absurd cc
    system_event Turns o z v b = absurd (true≢false (sym z))
    system_event (Loads p at n) o z v b = absurd (true≢false (sym z))
    system_event (Stores p at bytes) o z v b = absurd (true≢false (sym z))
    system_event (Enters j f args bytes) o z v b = absurd (true≢false (sym z))
    system_event (Leaves at n) o z v b = absurd (true≢false (sym z))
    system_event (Steps j f args) o z v b = absurd (true≢false (sym z))
    system_event (Fails kind) o z v b = absurd (true≢false (sym z))
