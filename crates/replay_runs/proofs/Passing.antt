-- The checks of a step pass exactly where the step may pass.
use Rattle.std.proofs.Common.{◌≡◌, ◌≢◌, ◌↔◌, inl, inr, ⊎_elim, ℕ, zero, suc, ◌≤◌, Bool, true, false, ◌||◌, cond, eqb, List, [], ◌∷◌, ◌++◌, Option, Some, None, refl, sym, ap, ◌∙◌, subst, arith, eq-eqb, eqb-true}
use Rattle.std.proofs.lemmas.Bool.{ne_eqb, true≢false}
use Rattle.marks.specs.declared.side.Side.{Side}
use Rattle.marks.specs.declared.side.Side.TheVariants.{Replay, System}
use Rattle.marks.specs.Places.{function_address, is_constant, is_system}
use Rattle.marks.specs.declared.range.Range.{Range}
use Rattle.marks.specs.Ranges.{Prepared, range, covers, any_range, prepared_ranges}
use Rattle.marks.specs.Marks.{Mark}
use Rattle.marks.specs.Bytes.{Cell, Dead, Live, Held, IsLive, IsHeld, AllLive}
use Rattle.marks.specs.Wants.{Enters, Frees, Calls}
use Rattle.marks.proofs.Touched.{or_left, or_right}
use Rattle.replay_runs.specs.Runs.{Start, byte}
use Rattle.replay_runs.specs.Interface.{Interface}
use Rattle.replay_runs.specs.Pool.{prepares_key, in_use}
use Rattle.replay_runs.specs.Rules.{AllMayRun, Apart, DistinctKeys}
use Rattle.replay_runs.specs.Checks.{Checks, Done, Passes, range_checks, read_checks, hold_checks, any_number, key_checks, mode_checks, indirect_check, freed_range, checks}
use Rattle.replay_runs.specs.Passing.{Unraced, InOwnSpace, MayRead, MayWrite, AllMayRead, AllMayWrite, NoneInUse, CallMayPass, EnterMayPass, FreeMayPass, ChecksSayMayPass}

pub no_true : (b : Bool) → (b ≡ true → ⊥) → b ≡ false
no_true true h = absurd (h refl)
no_true false h = refl

not_false : (b : Bool) → b ≡ false → b ≡ true → ⊥
not_false b e f = true≢false (sym f ∙ e)

dead_live : (c : Cell) → c ≡ Dead → IsLive c → ⊥
dead_live Dead e h = h
dead_live (Live v) e h = cc
dead_live (Held v) e h = h

held_live : (c : Cell) → IsHeld c → IsLive c → ⊥
held_live Dead h l = h
held_live (Live v) h l = h
held_live (Held v) h l = l

pub live_cell : (c : Cell) → (c ≡ Dead → ⊥) → (IsHeld c → ⊥) → IsLive c
live_cell Dead d h = absurd (d refl)
live_cell (Live v) d h = tt
live_cell (Held v) d h = absurd (h tt)

-- no byte of the range is among these
abbrev pub Clear : List Range → Range → Type 0
Clear more r = (x : ℕ) → covers r x ≡ true → any_range more x ≡ false

module _ (s : Start) (past : List Mark) (t : ℕ) where
  -- one range that is read

  read_to : (r : Range) (cs : Checks) → Passes (range_checks s past t false [] r cs) → MayRead s past t r × Passes cs
  read_to r cs p = (
    record {
      own_space = λ x e. no_true (is_system x) (λ z. p.0 x (e, z));
      unraced = λ x u e w. p.1.0 x (e, (u, w));
      live = λ x e. live_cell (byte s x past).cell (λ d. p.1.1.0 x (e, d)) (λ h. p.1.1.1.0 x (e, inl h));
    },
    p.1.1.1.1.1,
  )

  pub read_from : (r : Range) (cs : Checks) → MayRead s past t r → Passes cs → Passes (range_checks s past t false [] r cs)
  read_from r cs m p = (
    (λ x b. not_false (is_system x) (m.own_space x b.0) b.1),
    (
      (λ x b. m.unraced x b.1.0 b.0 b.1.1),
      (
        (λ x b. dead_live (byte s x past).cell b.1 (m.live x b.0)),
        (
          (λ x b. ⊎_elim (λ h. held_live (byte s x past).cell h (m.live x b.0)) (λ z. true≢false (sym z)) b.1),
          ((λ x b. true≢false (sym b.1)), p),
        ),
      ),
    ),
  )

  reads_to : (rs : List Range) (cs : Checks) → Passes (read_checks s past t rs cs) → AllMayRead s past t rs × Passes cs
  reads_to [] cs p = (tt, p)
  reads_to (r ∷ rs) cs p =
      let a = read_to r (read_checks s past t rs cs) p in
      let b = reads_to rs cs a.1 in
      ((a.0, b.0), b.1)

  reads_from : (rs : List Range) (cs : Checks) → AllMayRead s past t rs → Passes cs → Passes (read_checks s past t rs cs)
  reads_from [] cs m p = p
  reads_from (r ∷ rs) cs m p = read_from r (read_checks s past t rs cs) m.0 (reads_from rs cs m.1 p)

  -- one range that is written, and doesn't meet some others

  write_to : (more : List Range) (r : Range) (cs : Checks) → Passes (range_checks s past t true more r cs) → MayWrite s past t r × (Clear more r × Passes cs)
  write_to more r cs p = (
    record {
      own_space = λ x e. no_true (is_system x) (λ z. p.0 x (e, z));
      unraced = λ x u e w. p.1.0 x (e, (u, w));
      live = λ x e. live_cell (byte s x past).cell (λ d. p.1.1.0 x (e, d)) (λ h. p.1.1.1.0 x (e, inl h));
      writable = λ x e. no_true (is_constant x) (λ z. p.1.1.1.1.0 x (e, refl, z));
    },
    ((λ x e. no_true (any_range more x) (λ z. p.1.1.1.0 x (e, inr z))), p.1.1.1.1.1),
  )

  pub write_from : (more : List Range) (r : Range) (cs : Checks) → MayWrite s past t r → Clear more r → Passes cs → Passes (range_checks s past t true more r cs)
  write_from more r cs m c p = (
    (λ x b. not_false (is_system x) (m.own_space x b.0) b.1),
    (
      (λ x b. m.unraced x b.1.0 b.0 b.1.1),
      (
        (λ x b. dead_live (byte s x past).cell b.1 (m.live x b.0)),
        (
          (λ x b. ⊎_elim (λ h. held_live (byte s x past).cell h (m.live x b.0)) (λ z. not_false (any_range more x) (c x b.0) z) b.1),
          ((λ x b. not_false (is_constant x) (m.writable x b.0) b.2), p),
        ),
      ),
    ),
  )

  -- each of the ranges meets none of the others, nor of these
  abbrev pub AllClear : List Range → List Range → Type 0
  AllClear more [] = Unit {0}
  AllClear more (r ∷ rs) = Clear more r × AllClear more rs

  pub clear_less : (q : Range) (more rs : List Range) → AllClear (q ∷ more) rs → AllClear more rs × ((x : ℕ) → covers q x ≡ true → any_range rs x ≡ false)
  clear_less q more [] h = (tt, λ x e. refl)
  clear_less q more (r ∷ rs) h =
      let w = clear_less q more rs h.1 in (
        ((λ x e. or_right (covers q x) (any_range more x) (h.0 x e)), w.0),
        λ x e. both (covers r x) (any_range rs x) (no_true (covers r x) (λ z. not_false (covers q x) (or_left (covers q x) (any_range more x) (h.0 x z)) e)) (w.1 x e),
      )
    where
      both : (a b : Bool) → a ≡ false → b ≡ false → (a || b) ≡ false
      both true b e f = e
      both false b e f = f

  pub clear_more : (q : Range) (more rs : List Range) → AllClear more rs → ((x : ℕ) → covers q x ≡ true → any_range rs x ≡ false) → AllClear (q ∷ more) rs
  clear_more q more [] h k = tt
  clear_more q more (r ∷ rs) h k = (
    (λ x e. both (covers q x) (any_range more x) (no_true (covers q x) (λ z. not_false (covers r x) (or_left (covers r x) (any_range rs x) (k x z)) e)) (h.0 x e)),
    clear_more q more rs h.1 (λ x e. or_right (covers r x) (any_range rs x) (k x e)),
  )
    where
      both : (a b : Bool) → a ≡ false → b ≡ false → (a || b) ≡ false
      both true b e f = e
      both false b e f = f

  holds_to : (more rs : List Range) (cs : Checks) → Passes (hold_checks s past t more rs cs) → AllMayWrite s past t rs × (Apart rs × (AllClear more rs × Passes cs))
  holds_to more [] cs p = (tt, (tt, (tt, p)))
  holds_to more (r ∷ rs) cs p =
      let a = write_to more r (hold_checks s past t (r ∷ more) rs cs) p in
      let b = holds_to (r ∷ more) rs cs a.1.1 in
      let c = clear_less r more rs b.1.1.0 in
      ((a.0, b.0), ((c.1, b.1.0), ((a.1.0, c.0), b.1.1.1)))

  holds_from : (more rs : List Range) (cs : Checks) → AllMayWrite s past t rs → Apart rs → AllClear more rs → Passes cs → Passes (hold_checks s past t more rs cs)
  holds_from more [] cs m a c p = p
  holds_from more (r ∷ rs) cs m a c p =
      write_from more r (hold_checks s past t (r ∷ more) rs cs) m.0 c.0 (holds_from (r ∷ more) rs cs m.1 a.1 (clear_more r more rs c.1 a.0) p)

  pub none_clear : (rs : List Range) → AllClear [] rs
  none_clear [] = tt
  none_clear (r ∷ rs) = ((λ x e. refl), none_clear rs)

  -- keys

  abbrev AllNew : List ℕ → List Prepared → Type 0
  AllNew more [] = Unit {0}
  AllNew more (p ∷ ps) = (any_number more p.key ≡ false) × AllNew more ps

  none_is : (o : Option Range) → (o ≢ None → ⊥) → o ≡ None
  none_is None h = refl
  none_is (Some r) h = absurd (h (λ e. some_none r e))
    where
      some_none : (r : Range) → Some r ≡ None → ⊥
      some_none r e = cc

  new_less : (k : ℕ) (more : List ℕ) (ps : List Prepared) → AllNew (k ∷ more) ps → AllNew more ps × (prepares_key ps k ≡ false)
  new_less k more [] h = (tt, refl)
  new_less k more (p ∷ ps) h =
      let w = new_less k more ps h.1 in (
        (or_right (eqb k p.key) (any_number more p.key) h.0, w.0),
        both (eqb p.key k) (prepares_key ps k) (no_true (eqb p.key k) (λ z. not_false (eqb k p.key) (or_left (eqb k p.key) (any_number more p.key) h.0) (eq-eqb k p.key (sym (eqb-true p.key k z))))) w.1,
      )
    where
      both : (a b : Bool) → a ≡ false → b ≡ false → (a || b) ≡ false
      both true b e f = e
      both false b e f = f

  new_more : (k : ℕ) (more : List ℕ) (ps : List Prepared) → AllNew more ps → prepares_key ps k ≡ false → AllNew (k ∷ more) ps
  new_more k more [] h d = tt
  new_more k more (p ∷ ps) h d = (
    both (eqb k p.key) (any_number more p.key) (no_true (eqb k p.key) (λ z. not_false (eqb p.key k) (or_left (eqb p.key k) (prepares_key ps k) d) (eq-eqb p.key k (sym (eqb-true k p.key z))))) h.0,
    new_more k more ps h.1 (or_right (eqb p.key k) (prepares_key ps k) d),
  )
    where
      both : (a b : Bool) → a ≡ false → b ≡ false → (a || b) ≡ false
      both true b e f = e
      both false b e f = f

  keys_to : (more : List ℕ) (ps : List Prepared) (cs : Checks) → Passes (key_checks s past more ps cs) → NoneInUse s past ps × (DistinctKeys ps × (AllNew more ps × Passes cs))
  keys_to more [] cs p = (tt, (tt, (tt, p)))
  keys_to more (q ∷ ps) cs p =
      let b = keys_to (q.key ∷ more) ps cs p.1 in
      let c = new_less q.key more ps b.1.1.0 in
      ((none_is _ (λ ne. p.0 q.key (refl, inl ne)), b.0), ((c.1, b.1.0), ((no_true (any_number more q.key) (λ z. p.0 q.key (refl, inr z)), c.0), b.1.1.1)))

  keys_from : (more : List ℕ) (ps : List Prepared) (cs : Checks) → NoneInUse s past ps → DistinctKeys ps → AllNew more ps → Passes cs → Passes (key_checks s past more ps cs)
  keys_from more [] cs n d a p = p
  keys_from more (q ∷ ps) cs n d a p = (
    (λ k b. ⊎_elim
        (λ ne. ne (subst (λ z. in_use s z past ≡ None) (sym b.0) n.0))
        (λ z. not_false (any_number more q.key) a.0 (ap (any_number more) (sym b.0) ∙ z))
        b.1),
    keys_from (q.key ∷ more) ps cs n.1 d.1 (new_more q.key more ps a.1 d.0) p,
  )

  none_new : (ps : List Prepared) → AllNew [] ps
  none_new [] = tt
  none_new (p ∷ ps) = (refl, none_new ps)

  module _ (i : Interface) where
    true_is : (b : Bool) → (b ≡ false → ⊥) → b ≡ true
    true_is true h = refl
    true_is false h = absurd (h refl)

    -- modes

    run_to : (fs : List ℕ) (cs : Checks) → Passes (mode_checks i Replay fs cs) → AllMayRun i fs × Passes cs
    run_to [] cs p = (tt, p)
    run_to (f ∷ fs) cs p = let w = run_to fs cs p.1 in ((true_is (i.may_run Replay f) (λ z. p.0 (function_address f) (refl, z)), w.0), w.1)

    run_from : (fs : List ℕ) (cs : Checks) → AllMayRun i fs → Passes cs → Passes (mode_checks i Replay fs cs)
    run_from [] cs m p = p
    run_from (f ∷ fs) cs m p = ((λ x b. true≢false (sym m.0 ∙ b.1)), run_from fs cs m.1 p)

    indirect_to : (b : Bool) (side : Side) (f : ℕ) (cs : Checks) → Passes (indirect_check i b side f cs) → (b ≡ true → i.may_run side f ≡ true) × Passes cs
    indirect_to true side f cs p = ((λ e. true_is (i.may_run side f) (λ z. p.0 (function_address f) (refl, z))), p.1)
    indirect_to false side f cs p = ((λ e. absurd (true≢false (sym e))), p)

    indirect_from : (b : Bool) (side : Side) (f : ℕ) (cs : Checks) → (b ≡ true → i.may_run side f ≡ true) → Passes cs → Passes (indirect_check i b side f cs)
    indirect_from true side f cs m p = ((λ x z. true≢false (sym (m refl) ∙ z.1)), p)
    indirect_from false side f cs m p = p

    call : (b : Bool) (f : ℕ) (args : List ℕ) → Passes (checks i s past t (Calls b f args)) ↔ CallMayPass i s past t b f args
    call b f args = (to, from)
      where
        outs : List Range
        outs = i.outs f args ++ prepared_ranges (i.prepares f args)

        to : Passes (checks i s past t (Calls b f args)) → CallMayPass i s past t b f args
        to p =
            let w = indirect_to b System f (mode_checks i Replay (i.registers f args) (read_checks s past t (i.ins f args) (hold_checks s past t [] (i.outs f args ++ prepared_ranges (i.prepares f args)) (key_checks s past [] (i.prepares f args) Done)))) p in
            let x = run_to (i.registers f args) (read_checks s past t (i.ins f args) (hold_checks s past t [] (i.outs f args ++ prepared_ranges (i.prepares f args)) (key_checks s past [] (i.prepares f args) Done))) w.1 in
            let y = reads_to (i.ins f args) (hold_checks s past t [] (i.outs f args ++ prepared_ranges (i.prepares f args)) (key_checks s past [] (i.prepares f args) Done)) x.1 in
            let z = holds_to [] (i.outs f args ++ prepared_ranges (i.prepares f args)) (key_checks s past [] (i.prepares f args) Done) y.1 in
            let k = keys_to [] (i.prepares f args) Done z.1.1.1 in
            record { modes = (w.0, x.0); reads = y.0; holds = z.0; apart = z.1.0; free_keys = k.0; distinct = k.1.0 }

        from : CallMayPass i s past t b f args → Passes (checks i s past t (Calls b f args))
        from m =
            indirect_from b System f _ m.modes.0 (run_from (i.registers f args) _ m.modes.1 (reads_from (i.ins f args) _ m.reads (holds_from [] (i.outs f args ++ prepared_ranges (i.prepares f args)) _ m.holds m.apart (none_clear (i.outs f args ++ prepared_ranges (i.prepares f args))) (keys_from [] (i.prepares f args) Done m.free_keys m.distinct (none_new (i.prepares f args)) tt))))

    enter : (b : Bool) (f : ℕ) (args bytes : List ℕ) → Passes (checks i s past t (Enters b f args bytes)) ↔ EnterMayPass i s past t b f args bytes
    enter b f args bytes = (
      (λ p. let w = indirect_to b Replay f _ p in
          record { modes = w.0; room = λ h. w.1.0 0 h; unraced = λ x u e r. w.1.1.0 x (e, (u, r)) }),
      (λ m. indirect_from b Replay f _ m.modes ((λ x h. m.room h), ((λ x z. m.unraced x z.1.0 z.0 z.1.1), tt))),
    )

  -- a block

  pub some_block : (n : ℕ) → (n ≡ 0 → ⊥) → 1 ≤ n
  some_block zero h = absurd (h refl)
  some_block (suc n) h = omega arith

  pub block_range : (at n : ℕ) → 1 ≤ n → freed_range at n ≡ range at n
  block_range at n h = ap (λ b. range at (cond b 1 n)) (ne_eqb n 0 (λ z. absurd (omega (arith, z, h))))

  -- what is asked of the range that is freed
  record MayFree (r : Range) : Type 0 where
    own_space : InOwnSpace r
    unraced : Unraced past t true r
    live : AllLive r (λ x. byte s x past)

  free_to : (i : Interface) (at : ℕ) → Passes (checks i s past t (Frees (suc at))) → FreeMayPass s past t (suc at)
  free_to i at p =
      let begins : 1 ≤ (byte s (suc at) past).block = some_block (byte s (suc at) past).block (λ z. p.1.1.0 (suc at) (refl, z)) in
      let may : MayFree (freed_range (suc at) (byte s (suc at) past).block) = record {
        own_space = λ x e. no_true (is_system x) (λ z. p.0 x (e, z));
        unraced = λ x u e w. p.1.0 x (e, (u, w));
        live = λ x e. live_cell (byte s x past).cell (λ d. p.1.1.1.0 x (e, d)) (λ h. p.1.1.1.1.0 x (e, inl h));
      } in
      let m = subst MayFree (block_range (suc at) (byte s (suc at) past).block begins) may in
      record { begins = begins; own_space = m.own_space; unraced = m.unraced; live = m.live }

  free_from : (i : Interface) (at : ℕ) → FreeMayPass s past t (suc at) → Passes (checks i s past t (Frees (suc at)))
  free_from i at f =
      let may : MayFree (range (suc at) (byte s (suc at) past).block) = record { own_space = f.own_space; unraced = f.unraced; live = f.live } in
      let m = subst MayFree (sym (block_range (suc at) (byte s (suc at) past).block f.begins)) may in (
        (λ x b. not_false (is_system x) (m.own_space x b.0) b.1),
        (
          (λ x b. m.unraced x b.1.0 b.0 b.1.1),
          (
            (λ x b. absurd (omega (arith, b.1, f.begins))),
            (
              (λ x b. dead_live (byte s x past).cell b.1 (m.live x b.0)),
              ((λ x b. ⊎_elim (λ h. held_live (byte s x past).cell h (m.live x b.0)) (λ z. true≢false (sym z)) b.1), tt),
            ),
          ),
        ),
      )

  free : (i : Interface) (at : ℕ) → 1 ≤ at → Passes (checks i s past t (Frees at)) ↔ FreeMayPass s past t at
  free i zero h = absurd (omega (arith, h))
  free i (suc at) h = (free_to i at, free_from i at)

  pub say : (i : Interface) → ChecksSayMayPass i s past t
  say i = record { calls = call i; enters = enter i; frees = free i }
