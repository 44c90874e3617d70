-- Where the checks find something, only a Stop or the Fault that is found may come.
use Rattle.std.proofs.Common.{◌≡◌, inl, inr, ⊎_elim, ℕ, zero, suc, ◌+◌, ◌≤◌, Bool, true, false, ◌&&◌, ◌||◌, cond, eqb, List, [], ◌∷◌, ◌++◌, map, length, Option, None, is_some, refl, sym, ap, ◌∙◌, subst, arith, eq-eqb, eqb-true}
use Rattle.std.proofs.lemmas.Bool.{le-leb, lt-ltb, and_from, and_parts, or_cases, cases_Bool, ne_eqb, true≢false}
use Rattle.run_events.specs.declared.key.Class.TheVariants.{Callback, Async}
use Rattle.marks.specs.declared.side.Side.TheVariants.{Replay, System}
use Rattle.marks.specs.declared.fault.FaultKind.{FaultKind}
use Rattle.marks.specs.declared.fault.FaultKind.TheVariants.{NotLive, ReadOnly, StackFull}
use Rattle.marks.specs.declared.range.Range.{Range}
use Rattle.marks.specs.Ranges.{Piece, Prepared, range, within, covers, any_range, any_piece, any_prepared, prepared_ranges}
use Rattle.marks.specs.Marks.{Access, Reading, Writing, Freeing, EventKind, Call, Free, Event, Act, Load, Store, Enter, Leave, Fault, Made, Mark, is_event}
use Rattle.marks.specs.Bytes.{Cell, Byte, IsLive, Shows, EventAsks, Asks, event_writes, reads, writes, late, late_event}
use Rattle.marks.specs.Wants.{Want, Outside, Turns, Loads, Stores, Enters, Leaves, Allocs, Frees, Calls, Below, Gives, Returns, CallsBack, UpReturns, Steps, Fails, Answer, Go, same_numbers, answer_if, event_answer, answer_to, is_above, is_below}
use Rattle.marks.proofs.Touched.{or_true_left, or_true_right}
use Rattle.replay_runs.specs.Runs.{Start, Link, OfKey, Allowed, same_key, keys_of, is_listed, has, marks_of, new_events, byte}
use Rattle.replay_runs.specs.Known.{NoRace}
use Rattle.replay_runs.specs.Interface.{Interface, Program}
use Rattle.replay_runs.specs.Threads.{frame_place, HasRoom, is_stop}
use Rattle.replay_runs.specs.Pool.{prepares_key, in_use}
use Rattle.replay_runs.specs.Keys.{key, sorted_keys, keys_for}
use Rattle.replay_runs.specs.Rules.{is_reply, KeepsModes, Apart, StopsCall, AtIn, AtOut, AtConstant, EventCarries, Carries, HasKeys, DistinctKeys, SharedEvent, SharedAct, SharedRules, replay_rules}
use Rattle.replay_runs.specs.Checks.{Checks, Done, Finding, FaultFound, Passes, Finds, read_checks, hold_checks, key_checks, race_check, freed_range, checks}
use Rattle.replay_runs.proofs.Replies.{Plain, turn, load, no_load, store, no_store, no_write, enter, full, leave, no_free, no_call, fail, plain_is, same_numbers_true}
use Rattle.replay_runs.proofs.Keys.{any_key, any_right, listed_of, same_key_refl}
use Rattle.replay_runs.proofs.Checked.{not_both}
use Rattle.replay_runs.specs.Passing.{MayRead, MayWrite, AllMayRead, AllMayWrite, NoneInUse, CallMayPass, FreeMayPass}
use Rattle.replay_runs.specs.Found.{IsFaultFound}
use Rattle.replay_runs.proofs.Passing.{read_from, write_from, none_clear, say}
use Rattle.replay_runs.proofs.Calls.{reads_from, writes_from, exact}
use Rattle.replay_runs.proofs.Touching.{IsFree, comes_free, in_ins, in_outs, reading_free, writing_free}
use Rattle.replay_runs.proofs.Finding.{piled, piled_clear, dead_found, constant_found, past_reads, past_holds, past_modes, past_indirect}

module _ (s : Start) (past : List Mark) (t : ℕ) where
  abbrev now : ℕ → Byte
  now x = byte s x past

  -- the access of a mark that is no fault

  loaded : (o : Option ℕ) (at : ℕ) (bytes : List ℕ) → IsFree past t (Load o at bytes) → Asks (Load o at bytes) now → MayRead s past t (range at (length bytes))
  loaded o at bytes free asks = record {
    own_space = λ x e. free.space x (or_true_left (within at (length bytes) x) false e);
    unraced = λ x u e w. free.reading x u (or_true_left (within at (length bytes) x) false e) w;
    live = λ x e. subst IsLive (sym (asks x e)) tt;
  }

  stored : (o : Option ℕ) (at : ℕ) (bytes : List ℕ) → IsFree past t (Store o at bytes) → Asks (Store o at bytes) now → MayWrite s past t (range at (length bytes))
  stored o at bytes free asks = record { own_space = λ x e. free.space x e; unraced = λ x u e w. free.writing x u e w; live = asks; writable = λ x e. free.constant x e }

  left : (at size : ℕ) → IsFree past t (Leave at size) → Asks (Leave at size) now → MayWrite s past t (range at size)
  left at size free asks = record { own_space = λ x e. free.space x e; unraced = λ x u e w. free.writing x u e w; live = asks; writable = λ x e. free.constant x e }

  -- a fault at a Call

  all_reads : (rs : List Range) (cs : Checks) (f : Finding) → AllMayRead s past t rs → Finds (read_checks s past t rs cs) f → Finds cs f
  all_reads rs cs f may h = past_reads s past t rs [] cs f may (subst (λ z. Finds (read_checks s past t z cs) f) (sym (end rs)) h)
    where
      end : (xs : List Range) → xs ++ [] ≡ xs
      end [] = refl
      end (x ∷ xs) = ap (λ ys. x ∷ ys) (end xs)

  -- the ranges that were tested before
  module _ (k : FaultKind) (is os : List Range) (a : Access) (free : IsFree past t (Fault k true is os a)) (live : (x : ℕ) → (any_range is x || any_range os x) ≡ true → IsLive (byte s x past).cell) where
    before_reads : AllMayRead s past t is
    before_reads = reads_from s past t is (record {
      space = λ x e. free.space x (in_ins past t k true is os a x e);
      unraced = λ x u e w. free.reading x u (in_ins past t k true is os a x e) w;
      live = λ x e. live x (or_true_left (any_range is x) (any_range os x) e);
    })

    before_holds : AllMayWrite s past t os
    before_holds = writes_from s past t os (record {
      space = λ x e. free.space x (or_true_right _ (writes (Fault k true is os a) x) (in_outs past t k true is os a x e));
      unraced = λ x u e w. free.writing x u (in_outs past t k true is os a x e) w;
      live = λ x e. live x (or_true_right (any_range is x) (any_range os x) e);
      constant = λ x e. free.constant x (in_outs past t k true is os a x e);
    })

  call_found : (ins held : List Range) (cs : Checks) (k : FaultKind) (is os : List Range) (a : Access) (f : Finding) → StopsCall ins held k is os a → IsFree past t (Fault k true is os a) → Asks (Fault k true is os a) now → Finds (read_checks s past t ins (hold_checks s past t [] held cs)) f → f ≡ FaultFound k
  call_found ins held cs k is os a f (AtIn before after r e) free asks h =
      let w = reading_free past t NotLive true before [] r free in
      dead_found s past t false [] r (read_checks s past t after (hold_checks s past t [] held cs)) f w.0 w.1 asks.1
      (past_reads s past t before (r ∷ after) (hold_checks s past t [] held cs) f (before_reads NotLive before [] (Reading r) free asks.0)
      (subst (λ z. Finds (read_checks s past t z (hold_checks s past t [] held cs)) f) e h))
  call_found ins held cs k is os a f (AtOut before after r e apart) free asks h =
      let w = writing_free past t NotLive true ins before r free in
      dead_found s past t true (piled before []) r (hold_checks s past t (r ∷ piled before []) after cs) f w.0 w.1 asks.1
      (past_holds s past t before (r ∷ after) [] cs f (before_holds NotLive ins before (Writing r) free asks.0) apart (none_clear s past t before)
      (subst (λ z. Finds (hold_checks s past t [] z cs) f) e (all_reads ins (hold_checks s past t [] held cs) f (before_reads NotLive ins before (Writing r) free asks.0) h)))
  call_found ins held cs k is os a f (AtConstant before after r e apart const) free asks h =
      let w = writing_free past t ReadOnly true ins before r free in
      constant_found s past t (piled before []) r (hold_checks s past t (r ∷ piled before []) after cs) f w.0 w.1 asks.1 (λ x z. piled_clear before [] x (apart.0 x z) refl) const
      (past_holds s past t before (r ∷ after) [] cs f (before_holds ReadOnly ins before (Writing r) free asks.0) apart.1 (none_clear s past t before)
      (subst (λ z. Finds (hold_checks s past t [] z cs) f) e (all_reads ins (hold_checks s past t [] held cs) f (before_reads ReadOnly ins before (Writing r) free asks.0) h)))

  module _ (i : Interface) where
    none : (want : Want) (f : Finding) (a : Act) → Passes (checks i s past t want) → Finds (checks i s past t want) f → IsFaultFound f a
    none want f a p h = absurd (not_both (checks i s past t want) f h p)

    -- a fault at a free

    one_byte : (at : ℕ) → (byte s at past).block ≡ 0 → freed_range at (byte s at past).block ≡ range at 1
    one_byte at e = ap (λ z. range at (cond z 1 (byte s at past).block)) (eq-eqb (byte s at past).block 0 e)

    no_free_found : (at : ℕ) (f : Finding) → IsFree past t (Fault NotLive false [] [] (Freeing at)) → (byte s at past).block ≡ 0 → Finds (checks i s past t (Frees at)) f → f ≡ FaultFound NotLive
    no_free_found zero f free e h = absurd h
    no_free_found (suc at) f free e h = found h
      where
        as_write : IsFree past t (Fault NotLive false [] [] (Writing (range (suc at) 1)))
        as_write = record { space = free.space; constant = free.constant; reading = free.reading; writing = free.writing }

        inside : (x : ℕ) → covers (freed_range (suc at) (byte s (suc at) past).block) x ≡ true → covers (range (suc at) 1) x ≡ true
        inside x z = subst (λ r. covers r x ≡ true) (one_byte (suc at) e) z

        found : Finds (checks i s past t (Frees (suc at))) f → f ≡ FaultFound NotLive
        found (inl h) = absurd (true≢false (sym h.1.0.1 ∙ (writing_free past t NotLive false [] [] (range (suc at) 1) as_write).0 h.0 (inside h.0 h.1.0.0)))
        found (inr (n, inl h)) = absurd ((writing_free past t NotLive false [] [] (range (suc at) 1) as_write).1 h.0 h.1.0.1.0 (inside h.0 h.1.0.0) h.1.0.1.1)
        found (inr (n, inr (n', inl h))) = h.2
        found (inr (n, inr (n', inr k))) = absurd (k.0 (suc at) (refl, e))

    -- no event

    abbrev mine : List Mark
    mine = marks_of s t past

    full_found : (g : ℕ) (bytes : List ℕ) (f : Finding) → (HasRoom t mine (length bytes) → ⊥) → Finds (Checks.Check (λ x. HasRoom t (marks_of s t past) (length bytes) → ⊥) (λ x f. f ≡ FaultFound StackFull) (race_check past t true (range (frame_place t (marks_of s t past)) (length bytes)) Done)) f → f ≡ FaultFound StackFull
    full_found g bytes f h (inl z) = z.2
    full_found g bytes f h (inr z) = absurd (z.0 0 h)

    fail_found : (k : FaultKind) (f : Finding) → Finds (checks i s past t (Fails k)) f → f ≡ FaultFound k
    fail_found k f (inl z) = z.2
    fail_found k f (inr z) = absurd z.1

    plain_found : (want : Want) (a : Act) (f : Finding) → Plain want a → KeepsModes i want → Carries i s t mine want a → IsFree past t a → Asks a now → Finds (checks i s past t want) f → IsFaultFound f a
    plain_found want a f turn modes c free asks h = absurd h
    plain_found want a f (load {o} {at} {n} bytes e) modes c free asks h =
        none (Loads o at (length bytes)) f (Load o at bytes) (read_from s past t (range at (length bytes)) Done (loaded o at bytes free asks) tt) (subst (λ k. Finds (checks i s past t (Loads o at k)) f) (sym e) h)
    plain_found want a f (no_load {o} {at} {n}) modes c free asks h =
        let w = reading_free past t NotLive false [] [] (range at n) free in
        (NotLive, dead_found s past t false [] (range at n) Done f w.0 w.1 asks.1 h, refl)
    plain_found want a f (store {o} {at} {bytes}) modes c free asks h =
        none (Stores o at bytes) f (Store o at bytes) (write_from s past t [] (range at (length bytes)) Done (stored o at bytes free asks) (λ x e. refl) tt) h
    plain_found want a f (no_store {o} {at} {bytes}) modes c free asks h =
        let w = writing_free past t NotLive false [] [] (range at (length bytes)) free in
        (NotLive, dead_found s past t true [] (range at (length bytes)) Done f w.0 w.1 asks.1 h, refl)
    plain_found want a f (no_write {o} {at} {bytes}) modes c free asks h =
        let w = writing_free past t ReadOnly false [] [] (range at (length bytes)) free in
        (ReadOnly, constant_found s past t [] (range at (length bytes)) Done f w.0 w.1 asks.1 (λ x e. refl) c h, refl)
    plain_found want a f (enter {i = b} {f = g} {args = vs} {bytes = bytes} at) modes c free asks h =
        none (Enters b g vs bytes) f (Enter g vs at bytes) (((say s past t i).enters b g vs bytes).1 (record { modes = modes; room = λ n. n c.1; unraced = λ x u e w. free.writing x u (subst (λ p. within p (length bytes) x ≡ true) (sym c.0) e) w })) h
    plain_found want a f (full {i = b} {f = g} {args = vs} {bytes = bytes}) modes c free asks h =
        (StackFull, full_found g bytes f c (past_indirect i b Replay g _ f modes h), refl)
    plain_found want a f (leave {at} {n}) modes c free asks h =
        none (Leaves at n) f (Leave at n) (write_from s past t [] (range at n) Done (left at n free asks) (λ x e. refl) tt) h
    plain_found want a f (no_free {at}) modes c free asks h = (NotLive, no_free_found at f free asks.1 h, refl)
    plain_found want a f (no_call {i = b} {f = g} {args = vs} k is os at) modes c free asks h = (
      k,
      call_found (i.ins g vs) (i.outs g vs ++ prepared_ranges (i.prepares g vs)) (key_checks s past [] (i.prepares g vs) Done) k is os at f c free asks
          (past_modes i (i.registers g vs) _ f modes.1 (past_indirect i b System g _ f modes.0 h)),
      refl,
    )
    plain_found want a f (fail {k}) modes c free asks h = (k, fail_found k f h, refl)

-- an event that answers what the code wants

some_if : (b : Bool) (a : Answer) → is_some (answer_if b a) ≡ true → b ≡ true
some_if true a e = refl
some_if false a e = absurd (true≢false (sym e))

-- it is the one that the want names, or nothing is checked there
data Answers : Want → EventKind → Type 0 where
  a_free : {at : ℕ} (size : ℕ) → Answers (Frees at) (Free at size)
  a_call : {b : Bool} {f : ℕ} {args : List ℕ} (ins : List Piece) (outs : List Range) (prepared : List Prepared) → Answers (Calls b f args) (Call f args ins outs prepared)
  unchecked : {want : Want} {k : EventKind} → ((i : Interface) (s : Start) (past : List Mark) (t : ℕ) (f : Finding) → Finds (checks i s past t want) f → ⊥) → Answers want k

frees_answer : (at : ℕ) (k : EventKind) → is_some (event_answer (Frees at) k) ≡ true → Answers (Frees at) k
frees_answer at (Free x size) e = subst (λ y. Answers (Frees at) (Free y size)) (sym (eqb-true x at (some_if (eqb x at) Go e))) (a_free size)
frees_answer at k e = absurd (true≢false (sym e))

calls_answer : (b : Bool) (f : ℕ) (args : List ℕ) (k : EventKind) → is_some (event_answer (Calls b f args) k) ≡ true → Answers (Calls b f args) k
calls_answer b f args (Call g bs ins outs prepared) e =
    let p = and_parts (eqb g f) (same_numbers bs args) (some_if (eqb g f && same_numbers bs args) Go e) in
    let u : f ≡ g = sym (eqb-true g f p.0) in
    let v : args ≡ bs = sym (same_numbers_true bs args p.1) in
    subst (λ x. Answers (Calls b f args) (Call x bs ins outs prepared)) u (subst (λ x. Answers (Calls b f args) (Call f x ins outs prepared)) v (a_call ins outs prepared))
calls_answer b f args k e = absurd (true≢false (sym e))

answers : (want : Want) (k : EventKind) → is_some (event_answer want k) ≡ true → Answers want k
answers Outside k e = unchecked (λ i s past t f h. h)
answers Turns k e = unchecked (λ i s past t f h. h)
answers (Loads o at n) k e = absurd (true≢false (sym e))
answers (Stores o at bytes) k e = absurd (true≢false (sym e))
answers (Enters b f args bytes) k e = absurd (true≢false (sym e))
answers (Leaves at n) k e = absurd (true≢false (sym e))
answers (Allocs n) k e = unchecked (λ i s past t f h. h)
answers (Frees at) k e = frees_answer at k e
answers (Calls b f args) k e = calls_answer b f args k e
answers (Below f args) k e = unchecked (λ i s past t f h. h)
answers (Gives f args) k e = unchecked (λ i s past t f h. h)
answers (Returns f args v) k e = unchecked (λ i s past t f h. h)
answers (CallsBack f args bytes) k e = unchecked (λ i s past t f h. h)
answers (UpReturns f v) k e = unchecked (λ i s past t f h. h)
answers (Steps b f args) k e = absurd (true≢false (sym e))
answers (Fails kind) k e = absurd (true≢false (sym e))

event_reply : (want : Want) (e : Event) → is_stop (Made e) ≡ false → is_reply want (Made e) ≡ true → is_some (event_answer want e.kind) ≡ true
unfolding answer_to
event_reply want e go h = (and_parts (is_above want || is_below want) (is_some (event_answer want e.kind)) (sym (ap (λ b. cond b (is_above want) ((is_above want || is_below want) && is_some (event_answer want e.kind))) go) ∙ h)).1

-- a Free

pub block_at : (at size : ℕ) → 1 ≤ size → within at size at ≡ true
block_at at size some = and_from _ _ (le-leb at at (omega arith)) (lt-ltb at (at + size) (omega (arith, some)))

some_size : (at size : ℕ) → eqb (suc at) 0 ≡ eqb size 0 → 1 ≤ size
some_size at zero e = absurd (true≢false (sym (eq-eqb 0 0 refl) ∙ sym e ∙ ne_eqb (suc at) 0 (λ z. absurd (omega (arith, z)))))
some_size at (suc size) e = omega arith

free_passes : (s : Start) (past : List Mark) (t at size : ℕ) (e : Event) → e.kind ≡ Free (suc at) size → eqb (suc at) 0 ≡ eqb size 0 → IsFree past t (Made e) → Asks (Made e) (λ x. byte s x past) → FreeMayPass s past t (suc at)
free_passes s past t at size e kind same free asks =
    let some = some_size at size same in
    let ask : (x : ℕ) → within (suc at) size x ≡ true → IsLive (byte s x past).cell × (x ≡ suc at → (byte s x past).block ≡ size) = λ x z. subst (λ k. EventAsks k x (byte s x past)) kind (asks x) z in
    let block : (byte s (suc at) past).block ≡ size = (ask (suc at) (block_at (suc at) size some)).1 refl in
    let inside : (x : ℕ) → covers (range (suc at) (byte s (suc at) past).block) x ≡ true → within (suc at) size x ≡ true = λ x z. subst (λ n. within (suc at) n x ≡ true) block z in
    let wrote : (x : ℕ) → covers (range (suc at) (byte s (suc at) past).block) x ≡ true → writes (Made e) x ≡ true = λ x z. ap (λ k. event_writes k x) kind ∙ inside x z in
    record {
      begins = omega (arith, block, some);
      own_space = λ x z. free.space x (or_true_right (reads (Made e) x) (writes (Made e) x) (wrote x z));
      unraced = λ x u z w. free.writing x u (wrote x z) w;
      live = λ x z. (ask x (inside x z)).0;
    }

-- a Call

shown_live : (ps : List Piece) (x : ℕ) (c : Cell) → Shows ps x c → any_piece ps x ≡ true → IsLive c
shown_live [] x c h e = absurd (true≢false (sym e))
shown_live (p ∷ ps) x c h e = ⊎_elim (λ z. subst IsLive (sym (h.0 z)) tt) (λ z. shown_live ps x c h.1 z) (or_cases (covers p.range x) (any_piece ps x) e)

pub any_prepares : (ps : List Prepared) (k : ℕ) → prepares_key ps k ≡ true → any_key (map (λ p. key Async p.key) ps) (key Async k) ≡ true
unfolding any_key
any_prepares [] k e = e
any_prepares (p ∷ ps) k e = ⊎_elim
    (λ z. or_true_left (same_key (key Async p.key) (key Async k)) (any_key (map (λ p. key Async p.key) ps) (key Async k)) (subst (λ x. same_key (key Async p.key) (key Async x) ≡ true) (eqb-true p.key k z) (same_key_refl (key Async p.key))))
    (λ z. or_true_right (same_key (key Async p.key) (key Async k)) (any_key (map (λ p. key Async p.key) ps) (key Async k)) (any_prepares ps k z))
    (or_cases (eqb p.key k) (prepares_key ps k) e)

module _ (i : Interface) (s : Start) (past : List Mark) (m : Mark) (e : Event) (f : ℕ) (args : List ℕ) (ins : List Piece) (outs : List Range) (prepared : List Prepared) (is : m.act ≡ Made e) (kind : e.kind ≡ Call f args ins outs prepared) where
  abbrev own_part : List Mark
  own_part = marks_of s m.thread past

  module _ (keys : HasKeys i m.thread own_part (Made e)) (shared : (l : Link) → has m l ≡ true → SharedRules i s l (new_events l past) m) where
    listed : (k : ℕ) → prepares_key prepared k ≡ true → is_listed e.keys (key Async k) ≡ true
    listed k z =
        listed_of e.keys (i.keys_at_call f args ++ (map (key Callback) (i.registers f args) ++ map (λ p. key Async p.key) prepared)) (key Async k)
        (subst (λ q. map (λ q. q.key) e.keys ≡ sorted_keys (keys_for i m.thread own_part q)) kind keys)
        (any_right (i.keys_at_call f args) _ (key Async k) (any_right (map (key Callback) (i.registers f args)) _ (key Async k) (any_prepares prepared k z)))

    unused : (k : ℕ) → prepares_key prepared k ≡ true → in_use s k past ≡ None
    unused k z =
        let h : has m (OfKey (key Async k)) ≡ true = ap (λ a. is_listed (keys_of a) (key Async k)) is ∙ listed k z in
        let act : SharedAct i s (key Async k) (new_events (OfKey (key Async k)) past) (Made e) = subst (λ a. SharedAct i s (key Async k) (new_events (OfKey (key Async k)) past) a) is (shared (OfKey (key Async k)) h) in
        subst (λ q. SharedEvent i s Async k (new_events (OfKey (key Async k)) past) q) kind act z

    none_used : (ps : List Prepared) → ((k : ℕ) → prepares_key ps k ≡ true → prepares_key prepared k ≡ true) → NoneInUse s past ps
    none_used [] sub = tt
    none_used (p ∷ ps) sub = (
      unused p.key (sub p.key (or_true_left (eqb p.key p.key) (prepares_key ps p.key) (eq-eqb p.key p.key refl))),
      none_used ps (λ k z. sub k (or_true_right (eqb p.key k) (prepares_key ps k) z)),
    )

    call_passes : (b : Bool) → KeepsModes i (Calls b f args) → EventCarries i s m.thread own_part e.kind → IsFree past m.thread m.act → NoRace past m → Asks (Made e) (λ x. byte s x past) → CallMayPass i s past m.thread b f args
    call_passes b modes carries free no_race asks =
        let c : EventCarries i s m.thread own_part (Call f args ins outs prepared) = subst (EventCarries i s m.thread own_part) kind carries in
        let ask : (x : ℕ) → Shows ins x (byte s x past).cell × ((any_range outs x || any_prepared prepared x) ≡ true → IsLive (byte s x past).cell) = λ x. subst (λ k. EventAsks k x (byte s x past)) kind (asks x) in
        let may = (exact s past m e f args ins outs prepared is kind).1 (record { no_race = no_race; reads = λ x z. shown_live ins x (byte s x past).cell (ask x).0 z; holds = λ x z. (ask x).1 z; other_space = free.space; read_only = free.constant }) in
        let as_held : (P : List Range → Type 0) → P (outs ++ prepared_ranges prepared) → P (i.outs f args ++ prepared_ranges (i.prepares f args)) = λ P z. subst (λ ps. P (i.outs f args ++ prepared_ranges ps)) c.3 (subst (λ os. P (os ++ prepared_ranges prepared)) c.2 z) in
        record {
          modes = modes;
          reads = subst (λ rs. AllMayRead s past m.thread rs) c.0 may.0;
          holds = as_held (λ rs. AllMayWrite s past m.thread rs) may.1;
          apart = as_held Apart c.4;
          free_keys = subst (λ ps. NoneInUse s past ps) c.3 (none_used prepared (λ k z. z));
          distinct = subst DistinctKeys c.3 c.5;
        }

late_plain : (a : Act) → is_event a ≡ false → late a ≡ false
late_plain (Made e) z = absurd (true≢false z)
late_plain a z = refl

made_is : (a : Act) → is_event a ≡ true → (e : Event) × (a ≡ Made e)
made_is (Made e) z = (e, refl)
made_is a z = absurd (true≢false (sym z))

module _ (program : Program) (s : Start) (past : List Mark) (m : Mark) (f : Finding) (allowed : Allowed (replay_rules program s) s past m) (no_race : NoRace past m) (go : is_stop m.act ≡ false) where
  abbrev i : Interface
  i = program.interface

  abbrev its : List Mark
  its = marks_of s m.thread past

  event_found : (want : Want) (e : Event) (k : EventKind) → Answers want k → m.act ≡ Made e → e.kind ≡ k → KeepsModes i want → EventCarries i s m.thread its e.kind → HasKeys i m.thread its (Made e) → Asks (Made e) (λ x. byte s x past) → Finds (checks i s past m.thread want) f → ⊥
  event_found want e k (a_free {at = zero} size) is kind modes c keys asks h = h
  event_found want e k (a_free {at = suc at} size) is kind modes c keys asks h =
      let early : late m.act ≡ false = ap late is ∙ ap late_event kind in
      let free : IsFree past m.thread (Made e) = subst (IsFree past m.thread) is (comes_free past m no_race early program s its allowed.own) in
      not_both (checks i s past m.thread (Frees (suc at))) f h (((say s past m.thread i).frees (suc at) (omega arith)).1 (free_passes s past m.thread at size e kind (subst (EventCarries i s m.thread its) kind c) free asks))
  event_found want e k (a_call {b = b} {f = g} {args = args} ins outs prepared) is kind modes c keys asks h =
      let early : late m.act ≡ false = ap late is ∙ ap late_event kind in
      not_both (checks i s past m.thread (Calls b g args)) f h (((say s past m.thread i).calls b g args).1 (call_passes i s past m e g args ins outs prepared is kind keys allowed.shared b modes c (comes_free past m no_race early program s its allowed.own) no_race asks))
  event_found want e k (unchecked none) is kind modes c keys asks h = none i s past m.thread f h

  pub stops : Finds (checks i s past m.thread (program.want m.thread its)) f → IsFaultFound f m.act
  stops h = ⊎_elim
      (λ z.
      let w = made_is m.act z in
      let e = w.0 in
      let reply : is_some (event_answer (program.want m.thread its) e.kind) ≡ true = event_reply (program.want m.thread its) e (sym (ap is_stop w.1) ∙ go) (sym (ap (is_reply (program.want m.thread its)) w.1) ∙ allowed.own.replies) in
      absurd (event_found (program.want m.thread its) e e.kind (answers (program.want m.thread its) e.kind reply) w.1 refl (allowed.own.modes go)
      (subst (λ a. Carries i s m.thread its (program.want m.thread its) a) w.1 allowed.own.carries)
      (subst (λ a. HasKeys i m.thread its a) w.1 allowed.own.keys)
      (subst (λ a. Asks a (λ x. byte s x past)) w.1 allowed.bytes)
      h))
      (λ z.
      plain_found s past m.thread i (program.want m.thread its) m.act f (plain_is i (program.want m.thread its) m.act z (allowed.own.modes go) allowed.own.replies) (allowed.own.modes go) allowed.own.carries (comes_free past m no_race (late_plain m.act z) program s its allowed.own) allowed.bytes h)
      (cases_Bool (is_event m.act))
