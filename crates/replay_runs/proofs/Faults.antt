-- Where the checks find a fault, it may come.
use Rattle.std.proofs.Common.{◌≡◌, ◌⊎◌, inl, inr, ⊎_elim, ℕ, zero, suc, ◌<◌, Bool, true, false, ◌&&◌, ◌||◌, not, cond, eqb, List, [], ◌∷◌, ◌++◌, length, Option, None, is_some, refl, sym, ap, ◌∙◌, subst, arith, eq-eqb}
use Rattle.std.proofs.lemmas.Bool.{and_from, and_parts, or_cases, or_from, or_parts, ne_eqb, true≢false}
use Rattle.marks.specs.declared.side.Side.{Side}
use Rattle.marks.specs.declared.side.Side.TheVariants.{Replay, System}
use Rattle.marks.specs.declared.fault.FaultKind.{FaultKind}
use Rattle.marks.specs.declared.fault.FaultKind.TheVariants.{Divide, NotLive, ReadOnly, StackFull}
use Rattle.marks.specs.declared.breach.BreachKind.{BreachKind}
use Rattle.marks.specs.Kinds.{fault_number}
use Rattle.marks.specs.Places.{thread_count, function_address, is_constant, is_system}
use Rattle.marks.specs.declared.range.Range.{Range}
use Rattle.marks.specs.Ranges.{Prepared, range, covers, any_range, prepared_ranges}
use Rattle.marks.specs.Marks.{Access, Nowhere, Reading, Writing, Freeing, Fault, Mark}
use Rattle.marks.specs.Bytes.{Byte, IsLive, AllLive, SomeDead, Asks, writes, touches}
use Rattle.marks.specs.Wants.{Want, Outside, Turns, Loads, Stores, Enters, Leaves, Allocs, Frees, Calls, Below, Gives, Returns, CallsBack, UpReturns, Steps, Fails, stopped_if, answer_to}
use Rattle.marks.proofs.Touched.{or_true_left}
use Rattle.replay_runs.specs.Runs.{Start, Link, OfThread, OfKey, has, marks_of, events_with, byte}
use Rattle.replay_runs.specs.Interface.{Interface, Program}
use Rattle.replay_runs.specs.Threads.{frame_place, HasRoom, fault_of, is_stopped}
use Rattle.replay_runs.specs.Rules.{AllMayRun, is_reply, KeepsModes, Apart, AtIn, AtOut, AtConstant, SomeConstant, Carries}
use Rattle.replay_runs.specs.Checks.{Checks, Done, Check, Finding, FaultFound, BreachFound, Finds, is_fault_found, Races, race_check, range_checks, read_checks, hold_checks, key_checks, mode_checks, indirect_check, freed_range, checks}
use Rattle.replay_runs.specs.Passing.{Unraced, InOwnSpace, NoConstant, MayRead, AllMayRead, AllMayWrite}
use Rattle.replay_runs.specs.Found.{EndsWhatIsThere, FaultMayCome, FoundFaultsAreMarks}
use Rattle.replay_runs.proofs.Passing.{Clear, AllClear, clear_less, no_true, live_cell, block_range, some_block}
use Rattle.replay_runs.proofs.Calls.{reads_to, writes_to}
use Rattle.replay_runs.proofs.Touching.{IsFree, races_with_none}
use Rattle.replay_runs.proofs.Stops.{block_at}

no_breach : {P : Type 0} (kind : FaultKind) (b : BreachKind) (x : ℕ) (o : Option ℕ) → FaultFound kind ≡ BreachFound b x o → P
no_breach kind b x o e = absurd cc

kind_of : Finding → FaultKind
kind_of (FaultFound kind) = kind
kind_of (BreachFound b x o) = Divide

same_found : (k l : FaultKind) → FaultFound k ≡ FaultFound l → k ≡ l
unfolding kind_of
same_found k l e = ap kind_of e

true_is : (b : Bool) → (b ≡ false → ⊥) → b ≡ true
true_is true h = refl
true_is false h = absurd (h refl)

module _ (s : Start) (past : List Mark) (t : ℕ) where
  abbrev now : ℕ → Byte
  now x = byte s x past

  -- a fault that is found at a range, or after it
  data RangeFinds (w : Bool) (more : List Range) (r : Range) (kind : FaultKind) (cs : Checks) : Type 0 where
    at_dead : InOwnSpace r → Unraced past t w r → SomeDead r (λ x. byte s x past) → kind ≡ NotLive → RangeFinds w more r kind cs
    at_constant : InOwnSpace r → Unraced past t w r → AllLive r (λ x. byte s x past) → Clear more r → w ≡ true → SomeConstant r → kind ≡ ReadOnly → RangeFinds w more r kind cs
    following : InOwnSpace r → Unraced past t w r → AllLive r (λ x. byte s x past) → Clear more r → (w ≡ true → NoConstant r) → Finds cs (FaultFound kind) → RangeFinds w more r kind cs

  range_finds : (w : Bool) (more : List Range) (r : Range) (kind : FaultKind) (cs : Checks) → Finds (range_checks s past t w more r cs) (FaultFound kind) → RangeFinds w more r kind cs
  range_finds w more r kind cs (inl h) = no_breach _ _ _ _ h.2
  range_finds w more r kind cs (inr (n, inl h)) = no_breach _ _ _ _ h.2.2
  range_finds w more r kind cs (inr (n, inr (n', inl h))) = at_dead (λ x e. no_true (is_system x) (λ z. n x (e, z))) (λ x u e v. n' x (e, (u, v))) (h.0, h.1.0.0, h.1.0.1) (same_found kind NotLive h.2)
  range_finds w more r kind cs (inr (n, inr (n', inr (n'', inl h)))) = no_breach _ _ _ _ h.2
  range_finds w more r kind cs (inr (n, inr (n', inr (n'', inr (n''', inl h))))) =
      at_constant
      (λ x e. no_true (is_system x) (λ z. n x (e, z))) (λ x u e v. n' x (e, (u, v)))
      (λ x e. live_cell (byte s x past).cell (λ d. n'' x (e, d)) (λ z. n''' x (e, inl z)))
      (λ x e. no_true (any_range more x) (λ z. n''' x (e, inr z)))
      h.1.0.1 (h.0, h.1.0.0, h.1.0.2) (same_found kind ReadOnly h.2)
  range_finds w more r kind cs (inr (n, inr (n', inr (n'', inr (n''', inr k))))) =
      following
      (λ x e. no_true (is_system x) (λ z. n x (e, z))) (λ x u e v. n' x (e, (u, v)))
      (λ x e. live_cell (byte s x past).cell (λ d. n'' x (e, d)) (λ z. n''' x (e, inl z)))
      (λ x e. no_true (any_range more x) (λ z. n''' x (e, inr z)))
      (λ v x e. no_true (is_constant x) (λ z. k.0 x (e, v, z)))
      k.1

  -- the first bad one of the ranges that are read
  record ReadFinds (rs : List Range) (kind : FaultKind) : Type 0 where
    before : List Range
    after : List Range
    at : Range
    is : rs ≡ before ++ (at ∷ after)
    may : AllMayRead s past t before
    space : InOwnSpace at
    unraced : Unraced past t false at
    dead : SomeDead at (λ x. byte s x past)
    kind_is : kind ≡ NotLive

  reads_find : (rs : List Range) (kind : FaultKind) (cs : Checks) → Finds (read_checks s past t rs cs) (FaultFound kind) → ReadFinds rs kind ⊎ (AllMayRead s past t rs × Finds cs (FaultFound kind))
  reads_find [] kind cs h = inr (tt, h)
  reads_find (r ∷ rs) kind cs h = go (range_finds false [] r kind (read_checks s past t rs cs) h) (λ k. reads_find rs kind cs k)
    where
      go : RangeFinds false [] r kind (read_checks s past t rs cs) → (Finds (read_checks s past t rs cs) (FaultFound kind) → ReadFinds rs kind ⊎ (AllMayRead s past t rs × Finds cs (FaultFound kind))) → ReadFinds (r ∷ rs) kind ⊎ (AllMayRead s past t (r ∷ rs) × Finds cs (FaultFound kind))
      go (at_dead own free dead k) on = inl (record { before = []; after = rs; at = r; is = refl; may = tt; space = own; unraced = free; dead = dead; kind_is = k })
      go (at_constant own free live clear w c k) on = absurd (true≢false (sym w))
      go (following own free live clear w k) on =
          let may : MayRead s past t r = record { own_space = own; unraced = free; live = live } in
          ⊎_elim
          (λ z. inl (record { before = r ∷ z.before; after = z.after; at = z.at; is = ap (λ l. r ∷ l) z.is; may = (may, z.may); space = z.space; unraced = z.unraced; dead = z.dead; kind_is = z.kind_is }))
          (λ z. inr ((may, z.0), z.1))
          (on k)

  -- the first bad one of those that are held
  record HoldFinds (more rs : List Range) (kind : FaultKind) : Type 0 where
    before : List Range
    after : List Range
    at : Range
    is : rs ≡ before ++ (at ∷ after)
    may : AllMayWrite s past t before
    apart : Apart before
    clear : AllClear s past t more before
    space : InOwnSpace at
    unraced : Unraced past t true at
    bad : (SomeDead at (λ x. byte s x past) × (kind ≡ NotLive)) ⊎ (AllLive at (λ x. byte s x past) × ((x : ℕ) → covers at x ≡ true → any_range before x ≡ false) × Clear more at × SomeConstant at × (kind ≡ ReadOnly))

  holds_find : (more rs : List Range) (kind : FaultKind) (cs : Checks) → (Finds cs (FaultFound kind) → ⊥) → Finds (hold_checks s past t more rs cs) (FaultFound kind) → HoldFinds more rs kind
  holds_find more [] kind cs none h = absurd (none h)
  holds_find more (r ∷ rs) kind cs none h = go (range_finds true more r kind (hold_checks s past t (r ∷ more) rs cs) h) (λ k. holds_find (r ∷ more) rs kind cs none k)
    where
      go : RangeFinds true more r kind (hold_checks s past t (r ∷ more) rs cs) → (Finds (hold_checks s past t (r ∷ more) rs cs) (FaultFound kind) → HoldFinds (r ∷ more) rs kind) → HoldFinds more (r ∷ rs) kind
      go (at_dead own free dead k) on = record { before = []; after = rs; at = r; is = refl; may = tt; apart = tt; clear = tt; space = own; unraced = free; bad = inl (dead, k) }
      go (at_constant own free live clear w c k) on = record { before = []; after = rs; at = r; is = refl; may = tt; apart = tt; clear = tt; space = own; unraced = free; bad = inr (live, (λ x e. refl), clear, c, k) }
      go (following own free live clear w k) on =
          let z = on k in
          let c = clear_less s past t r more z.before z.clear in
          record {
            before = r ∷ z.before;
            after = z.after;
            at = z.at;
            is = ap (λ l. r ∷ l) z.is;
            may = (record { own_space = own; unraced = free; live = live; writable = w refl }, z.may);
            apart = (c.1, z.apart);
            clear = (clear, c.0);
            space = z.space;
            unraced = z.unraced;
            bad = ⊎_elim (λ b. inl b) (λ b. inr (
              b.0,
              (λ x e. or_from (covers r x) (any_range z.before x) (or_parts (covers r x) (any_range more x) (b.2 x e)).0 (b.1 x e)),
              (λ x e. (or_parts (covers r x) (any_range more x) (b.2 x e)).1),
              b.3,
              b.4,
            )) z.bad;
          }

  no_key : (more : List ℕ) (ps : List Prepared) (kind : FaultKind) → Finds (key_checks s past more ps Done) (FaultFound kind) → ⊥
  no_key more [] kind h = h
  no_key more (p ∷ ps) kind (inl h) = no_breach _ _ _ _ h.2
  no_key more (p ∷ ps) kind (inr h) = no_key (p.key ∷ more) ps kind h.1

  modes_find : (i : Interface) (fs : List ℕ) (kind : FaultKind) (cs : Checks) → Finds (mode_checks i Replay fs cs) (FaultFound kind) → AllMayRun i fs × Finds cs (FaultFound kind)
  modes_find i [] kind cs h = (tt, h)
  modes_find i (f ∷ fs) kind cs (inl h) = no_breach _ _ _ _ h.2
  modes_find i (f ∷ fs) kind cs (inr h) = let w = modes_find i fs kind cs h.1 in ((true_is (i.may_run Replay f) (λ z. h.0 (function_address f) (refl, z)), w.0), w.1)

  indirect_finds : (i : Interface) (b : Bool) (side : Side) (f : ℕ) (kind : FaultKind) (cs : Checks) → Finds (indirect_check i b side f cs) (FaultFound kind) → (b ≡ true → i.may_run side f ≡ true) × Finds cs (FaultFound kind)
  indirect_finds i false side f kind cs h = ((λ e. absurd (true≢false (sym e))), h)
  indirect_finds i true side f kind cs (inl h) = no_breach _ _ _ _ h.2
  indirect_finds i true side f kind cs (inr h) = ((λ e. true_is (i.may_run side f) (λ z. h.0 (function_address f) (refl, z))), h.1)

  -- what a fault touches is free

  weaken : (x u : ℕ) → Races past t false x u → Races past t true x u
  weaken x u w = (w.0, w.1, w.2, w.3, or_true_left (writes w.0.act x) _ (first (writes w.0.act x) (not (is_constant x) && touches w.0.act x) w.4), w.5)
    where
      first : (w t : Bool) → (w || (false && t)) ≡ true → w ≡ true
      first true t e = refl
      first false t e = e

  free_nowhere : (k : FaultKind) → IsFree past t (Fault k false [] [] Nowhere)
  free_nowhere k = record { space = λ x e. absurd (true≢false (sym e)); constant = λ x e. absurd (true≢false (sym e)); reading = λ x u e w. true≢false (sym e); writing = λ x u e w. true≢false (sym e) }

  free_reading : (k : FaultKind) (cr : Bool) (ins : List Range) (r : Range) → AllMayRead s past t ins → InOwnSpace r → Unraced past t false r → IsFree past t (Fault k cr ins [] (Reading r))
  free_reading k cr ins r may own free =
      record {
        space = λ x e. ⊎_elim (λ z. (reads_to s past t ins may).space x z) (λ z. own x z) (split x e);
        constant = λ x e. absurd (true≢false (sym e));
        reading = λ x u e w. ⊎_elim (λ z. (reads_to s past t ins may).unraced x u z w) (λ z. free x u z w) (split x e);
        writing = λ x u e w. true≢false (sym e);
      }
    where
      split : (x : ℕ) → touches (Fault k cr ins [] (Reading r)) x ≡ true → (any_range ins x ≡ true) ⊎ (covers r x ≡ true)
      split x e = ⊎_elim (λ z. or_cases (any_range ins x) (covers r x) z) (λ z. absurd (true≢false (sym z))) (or_cases (any_range ins x || covers r x) false e)

  module _ (k : FaultKind) (cr : Bool) (ins outs : List Range) (r : Range) where
    written : (x : ℕ) → writes (Fault k cr ins outs (Writing r)) x ≡ true → (any_range outs x ≡ true) ⊎ ((covers r x ≡ true) × (is_constant x ≡ false))
    written x e = ⊎_elim (λ z. inl z) (λ z. let p = and_parts (covers r x) (not (is_constant x)) z in inr (p.0, of_not (is_constant x) p.1)) (or_cases (any_range outs x) (covers r x && not (is_constant x)) e)
      where
        of_not : (b : Bool) → not b ≡ true → b ≡ false
        of_not true e = absurd (true≢false (sym e))
        of_not false e = refl

    touched : (x : ℕ) → touches (Fault k cr ins outs (Writing r)) x ≡ true → (any_range ins x ≡ true) ⊎ ((any_range outs x ≡ true) ⊎ (covers r x ≡ true))
    touched x e = ⊎_elim
        (λ z. ⊎_elim (λ y. inl y) (λ y. inr (inr (and_parts (covers r x) (is_constant x) y).0)) (or_cases (any_range ins x) (covers r x && is_constant x) z))
        (λ z. ⊎_elim (λ y. inr (inl y)) (λ y. inr (inr y.0)) (written x z))
        (or_cases (any_range ins x || (covers r x && is_constant x)) (writes (Fault k cr ins outs (Writing r)) x) e)

    free_writing : AllMayRead s past t ins → AllMayWrite s past t outs → InOwnSpace r → Unraced past t true r → IsFree past t (Fault k cr ins outs (Writing r))
    free_writing reads holds own free =
        record {
          space = λ x e. ⊎_elim (λ z. (reads_to s past t ins reads).space x z) (λ z. ⊎_elim (λ y. (writes_to s past t outs holds).space x y) (λ y. own x y) z) (touched x e);
          constant = λ x e. ⊎_elim (λ z. (writes_to s past t outs holds).constant x z) (λ z. z.1) (written x e);
          reading = λ x u e w. ⊎_elim (λ z. (reads_to s past t ins reads).unraced x u z w) (λ z. ⊎_elim (λ y. (writes_to s past t outs holds).unraced x u y (weaken x u w)) (λ y. free x u y (weaken x u w)) z) (touched x e);
          writing = λ x u e w. ⊎_elim (λ z. (writes_to s past t outs holds).unraced x u z w) (λ z. free x u z.0 w) (written x e);
        }

  free_freeing : (at : ℕ) → InOwnSpace (range at 1) → Unraced past t true (range at 1) → IsFree past t (Fault NotLive false [] [] (Freeing at))
  free_freeing at own free =
      let w = free_writing NotLive false [] [] (range at 1) tt tt own free in
      record { space = w.space; constant = w.constant; reading = w.reading; writing = w.writing }

  live_before : (ins outs : List Range) → AllMayRead s past t ins → AllMayWrite s past t outs → (x : ℕ) → (any_range ins x || any_range outs x) ≡ true → IsLive (byte s x past).cell
  live_before ins outs reads holds x e = ⊎_elim (λ z. (reads_to s past t ins reads).live x z) (λ z. (writes_to s past t outs holds).live x z) (or_cases (any_range ins x) (any_range outs x) e)

  none_before : (x : ℕ) → (any_range [] x || any_range [] x) ≡ true → IsLive (byte s x past).cell
  none_before x e = absurd (true≢false (sym e))

-- a fault that may come, in a thread that goes on
module _ (program : Program) (s : Start) (past : List Mark) (t : ℕ) (below : t < thread_count) (running : is_stopped (marks_of s t past) ≡ false) (sound : fault_of (marks_of s t past) ≡ None) where
  abbrev i : Interface
  i = program.interface

  abbrev mine : List Mark
  mine = marks_of s t past

  abbrev Comes : FaultKind → Type 0
  Comes kind = FaultMayCome program s past t kind

  module _ (w : Want) (is : program.want t mine ≡ w) where
    comes : (k : FaultKind) (cr : Bool) (ins outs : List Range) (a : Access) → is_reply w (Fault k cr ins outs a) ≡ true → KeepsModes i w → Carries i s t mine w (Fault k cr ins outs a) → IsFree past t (Fault k cr ins outs a) → Asks (Fault k cr ins outs a) (λ x. byte s x past) → Comes k
    comes k cr ins outs a reply modes carries free asks =
        record {
          mark = m;
          thread = refl;
          fault = refl;
          allowed = record {
            own = record {
              thread = below;
              side = refl;
              replies = subst (λ v. is_reply v (Fault k cr ins outs a) ≡ true) (sym is) reply;
              modes = λ z. subst (KeepsModes i) (sym is) modes;
              carries = subst (λ v. Carries i s t mine v (Fault k cr ins outs a)) (sym is) carries;
              keys = tt;
              other_space = free.space;
              read_only = free.constant;
              running = running;
              after_fault = λ ne. absurd (ne sound);
            };
            index = refl;
            steps = λ e. absurd (true≢false (sym e));
            tickets = λ l h. absurd (no_link l h);
            shared = λ l h. absurd (no_link l h);
            rises = λ l h. absurd (no_link l h);
            least = λ e. absurd (true≢false (sym e));
            bytes = asks;
          };
          no_race = races_with_none past m refl free;
        }
      where
        m : Mark
        m = record { thread = t; side = Replay; index = length (events_with s (OfThread t) past); act = Fault k cr ins outs a }

        no_link : (l : Link) → has (record { thread = t; side = Replay; index = length (events_with s (OfThread t) past); act = Fault k cr ins outs a }) l ≡ true → ⊥
        no_link (OfThread u) e = true≢false (sym e)
        no_link (OfKey j) e = true≢false (sym e)

  -- the fault is one that the want is answered by

  same_range : (r : Range) → (eqb r.addr r.addr && eqb r.len r.len) ≡ true
  same_range r = and_from _ _ (eq-eqb r.addr r.addr refl) (eq-eqb r.len r.len refl)

  load_reply : (o : Option ℕ) (at n : ℕ) → is_reply (Loads o at n) (Fault NotLive false [] [] (Reading (range at n))) ≡ true
  unfolding answer_to
  load_reply o at n = ap (λ b. is_some (stopped_if b)) (same_range (range at n))

  dead_reply : (o : Option ℕ) (at : ℕ) (bytes : List ℕ) → is_reply (Stores o at bytes) (Fault NotLive false [] [] (Writing (range at (length bytes)))) ≡ true
  unfolding answer_to
  dead_reply o at bytes = ap (λ b. is_some (stopped_if (b || false))) (same_range (range at (length bytes)))

  constant_reply : (o : Option ℕ) (at : ℕ) (bytes : List ℕ) → is_reply (Stores o at bytes) (Fault ReadOnly false [] [] (Writing (range at (length bytes)))) ≡ true
  unfolding answer_to
  constant_reply o at bytes = ap (λ b. is_some (stopped_if b)) (same_range (range at (length bytes)))

  full_reply : (b : Bool) (f : ℕ) (args bytes : List ℕ) → is_reply (Enters b f args bytes) (Fault StackFull false [] [] Nowhere) ≡ true
  unfolding answer_to
  full_reply b f args bytes = refl

  free_reply : (at : ℕ) → is_reply (Frees (suc at)) (Fault NotLive false [] [] (Freeing (suc at))) ≡ true
  unfolding answer_to
  free_reply at = ap (λ b. is_some (stopped_if b)) (and_from (not (eqb (suc at) 0)) (eqb (suc at) (suc at)) (ap not (ne_eqb (suc at) 0 (λ z. absurd (omega (arith, z))))) (eq-eqb (suc at) (suc at) refl))

  call_reply : (b : Bool) (f : ℕ) (args : List ℕ) (ins outs : List Range) (a : Access) → is_reply (Calls b f args) (Fault NotLive true ins outs a) ≡ true
  unfolding answer_to
  call_reply b f args ins outs a = refl

  call_constant_reply : (b : Bool) (f : ℕ) (args : List ℕ) (ins outs : List Range) (a : Access) → is_reply (Calls b f args) (Fault ReadOnly true ins outs a) ≡ true
  unfolding answer_to
  call_constant_reply b f args ins outs a = refl

  fail_reply : (k : FaultKind) → is_reply (Fails k) (Fault k false [] [] Nowhere) ≡ true
  unfolding answer_to
  fail_reply k = ap (λ b. is_some (stopped_if (b && true))) (eq-eqb (fault_number k) (fault_number k) refl)

  -- by what the code wants

  loads : (o : Option ℕ) (at n : ℕ) (kind : FaultKind) → program.want t mine ≡ Loads o at n → RangeFinds s past t false [] (range at n) kind Done → Comes kind
  loads o at n kind is (at_dead own free dead k) =
      subst Comes (sym k) (comes (Loads o at n) is NotLive false [] [] (Reading (range at n)) (load_reply o at n) tt tt (free_reading s past t NotLive false [] (range at n) tt own free) (none_before s past t, dead))
  loads o at n kind is (at_constant own free live clear w c k) = absurd (true≢false (sym w))
  loads o at n kind is (following own free live clear w k) = absurd k

  stores : (o : Option ℕ) (at : ℕ) (bytes : List ℕ) (kind : FaultKind) → program.want t mine ≡ Stores o at bytes → RangeFinds s past t true [] (range at (length bytes)) kind Done → Comes kind
  stores o at bytes kind is (at_dead own free dead k) =
      subst Comes (sym k) (comes (Stores o at bytes) is NotLive false [] [] (Writing (range at (length bytes))) (dead_reply o at bytes) tt tt (free_writing s past t NotLive false [] [] (range at (length bytes)) tt tt own free) (none_before s past t, dead))
  stores o at bytes kind is (at_constant own free live clear w c k) =
      subst Comes (sym k) (comes (Stores o at bytes) is ReadOnly false [] [] (Writing (range at (length bytes))) (constant_reply o at bytes) tt c (free_writing s past t ReadOnly false [] [] (range at (length bytes)) tt tt own free) (none_before s past t, live))
  stores o at bytes kind is (following own free live clear w k) = absurd k

  leaves : (at n : ℕ) (kind : FaultKind) → EndsWhatIsThere s past (Leaves at n) → RangeFinds s past t true [] (range at n) kind Done → Comes kind
  leaves at n kind ends (at_dead own free dead k) = absurd ((ends dead.0 dead.1).0 dead.2)
  leaves at n kind ends (at_constant own free live clear w c k) = absurd (true≢false (sym c.2 ∙ (ends c.0 c.1).1))
  leaves at n kind ends (following own free live clear w k) = absurd k

  enters : (b : Bool) (f : ℕ) (args bytes : List ℕ) (kind : FaultKind) → program.want t mine ≡ Enters b f args bytes → Finds (checks i s past t (Enters b f args bytes)) (FaultFound kind) → Comes kind
  enters b f args bytes kind is h = let w = indirect_finds s past t i b Replay f kind _ h in go w.0 w.1
    where
      go : (b ≡ true → i.may_run Replay f ≡ true) → Finds (Check (λ x. HasRoom t mine (length bytes) → ⊥) (is_fault_found StackFull) (race_check past t true (range (frame_place t mine) (length bytes)) Done)) (FaultFound kind) → Comes kind
      go modes (inl h) = subst Comes (sym (same_found kind StackFull h.2)) (comes (Enters b f args bytes) is StackFull false [] [] Nowhere (full_reply b f args bytes) modes h.1.0 (free_nowhere s past t StackFull) (none_before s past t, tt))
      go modes (inr (n, inl h)) = no_breach _ _ _ _ h.2.2
      go modes (inr (n, inr h)) = absurd h.1

  frees : (at : ℕ) (kind : FaultKind) → program.want t mine ≡ Frees at → EndsWhatIsThere s past (Frees at) → Finds (checks i s past t (Frees at)) (FaultFound kind) → Comes kind
  frees zero kind is ends h = absurd h
  frees (suc at) kind is ends (inl h) = no_breach _ _ _ _ h.2
  frees (suc at) kind is ends (inr (n, inl h)) = no_breach _ _ _ _ h.2.2
  frees (suc at) kind is ends (inr (n, inr (n', inl h))) =
      let one : freed_range (suc at) (byte s (suc at) past).block ≡ range (suc at) 1 = ap (λ z. range (suc at) (cond z 1 (byte s (suc at) past).block)) (eq-eqb (byte s (suc at) past).block 0 h.1.0.1) in
      let in_freed : (x : ℕ) → covers (range (suc at) 1) x ≡ true → covers (freed_range (suc at) (byte s (suc at) past).block) x ≡ true = λ x e. subst (λ r. covers r x ≡ true) (sym one) e in
      subst Comes (sym (same_found kind NotLive h.2)) (comes (Frees (suc at)) is NotLive false [] [] (Freeing (suc at)) (free_reply at) tt tt
      (free_freeing s past t (suc at) (λ x e. no_true (is_system x) (λ z. n x (in_freed x e, z))) (λ x u e w. n' x (in_freed x e, (u, w))))
      (none_before s past t, h.1.0.1))
  frees (suc at) kind is ends (inr (n, inr (n', inr (n'', inl h)))) =
      let begins = some_block s past t (byte s (suc at) past).block (λ z. n'' (suc at) (refl, z)) in
      let same : freed_range (suc at) (byte s (suc at) past).block ≡ range (suc at) (byte s (suc at) past).block = block_range s past t (suc at) (byte s (suc at) past).block begins in
      let own : is_system (suc at) ≡ false = no_true (is_system (suc at)) (λ z. n (suc at) (subst (λ r. covers r (suc at) ≡ true) (sym same) (block_at (suc at) (byte s (suc at) past).block begins), z)) in
      absurd (ends own h.0 (subst (λ r. covers r h.0 ≡ true) same h.1.0.0) h.1.0.1)
  frees (suc at) kind is ends (inr (n, inr (n', inr (n'', inr (n''', inl h))))) = no_breach _ _ _ _ h.2
  frees (suc at) kind is ends (inr (n, inr (n', inr (n'', inr (n''', inr k))))) = absurd k.1

  fails : (k kind : FaultKind) → program.want t mine ≡ Fails k → Finds (checks i s past t (Fails k)) (FaultFound kind) → Comes kind
  fails k kind is (inl h) = subst Comes (sym (same_found kind k h.2)) (comes (Fails k) is k false [] [] Nowhere (fail_reply k) tt tt (free_nowhere s past t k) (none_before s past t, tt))
  fails k kind is (inr h) = absurd h.1

  calls : (b : Bool) (f : ℕ) (args : List ℕ) (kind : FaultKind) → program.want t mine ≡ Calls b f args → Finds (checks i s past t (Calls b f args)) (FaultFound kind) → Comes kind
  calls b f args kind is h =
      let a = indirect_finds s past t i b System f kind _ h in
      let c = modes_find s past t i (i.registers f args) kind _ a.1 in
      ⊎_elim
      (λ z. subst Comes (sym z.kind_is) (comes (Calls b f args) is NotLive true z.before [] (Reading z.at) (call_reply b f args z.before [] (Reading z.at)) (a.0, c.0) (AtIn z.before z.after z.at z.is)
      (free_reading s past t NotLive true z.before z.at z.may z.space z.unraced)
      (live_before s past t z.before [] z.may tt, z.dead)))
      (λ z. held z.0 (holds_find s past t [] (i.outs f args ++ prepared_ranges (i.prepares f args)) kind (key_checks s past [] (i.prepares f args) Done) (no_key s past t [] (i.prepares f args) kind) z.1) (a.0, c.0))
      (reads_find s past t (i.ins f args) kind _ c.1)
    where
      held : AllMayRead s past t (i.ins f args) → HoldFinds s past t [] (i.outs f args ++ prepared_ranges (i.prepares f args)) kind → KeepsModes i (Calls b f args) → Comes kind
      held reads z modes =
          ⊎_elim
          (λ d. subst Comes (sym d.1) (comes (Calls b f args) is NotLive true (i.ins f args) z.before (Writing z.at) (call_reply b f args (i.ins f args) z.before (Writing z.at)) modes (AtOut z.before z.after z.at z.is z.apart)
          (free_writing s past t NotLive true (i.ins f args) z.before z.at reads z.may z.space z.unraced)
          (live_before s past t (i.ins f args) z.before reads z.may, d.0)))
          (λ d. subst Comes (sym d.4) (comes (Calls b f args) is ReadOnly true (i.ins f args) z.before (Writing z.at) (call_constant_reply b f args (i.ins f args) z.before (Writing z.at)) modes (AtConstant z.before z.after z.at z.is (d.1, z.apart) d.3)
          (free_writing s past t ReadOnly true (i.ins f args) z.before z.at reads z.may z.space z.unraced)
          (live_before s past t (i.ins f args) z.before reads z.may, d.0)))
          z.bad

  by_want : (w : Want) (kind : FaultKind) → program.want t mine ≡ w → EndsWhatIsThere s past w → Finds (checks i s past t w) (FaultFound kind) → Comes kind
  by_want Outside kind is ends h = absurd h
  by_want Turns kind is ends h = absurd h
  by_want (Loads o at n) kind is ends h = loads o at n kind is (range_finds s past t false [] (range at n) kind Done h)
  by_want (Stores o at bytes) kind is ends h = stores o at bytes kind is (range_finds s past t true [] (range at (length bytes)) kind Done h)
  by_want (Enters b f args bytes) kind is ends h = enters b f args bytes kind is h
  by_want (Leaves at n) kind is ends h = leaves at n kind ends (range_finds s past t true [] (range at n) kind Done h)
  by_want (Allocs n) kind is ends h = absurd h
  by_want (Frees at) kind is ends h = frees at kind is ends h
  by_want (Calls b f args) kind is ends h = calls b f args kind is h
  by_want (Below f args) kind is ends h = absurd h
  by_want (Gives f args) kind is ends h = absurd h
  by_want (Returns f args v) kind is ends h = absurd h
  by_want (CallsBack f args bytes) kind is ends h = absurd h
  by_want (UpReturns f v) kind is ends h = absurd h
  by_want (Steps b f args) kind is ends (inl h) = no_breach _ _ _ _ h.2
  by_want (Steps b f args) kind is ends (inr h) = absurd h.1
  by_want (Fails k) kind is ends h = fails k kind is h

pub come : (program : Program) (s : Start) → FoundFaultsAreMarks program s
come program s past t kind below running sound ends h = by_want program s past t below running sound (program.want t (marks_of s t past)) kind refl ends h
