-- A byte that is pending is held by some call or key.
use Rattle.std.proofs.Common.{◌≡◌, ⊎_elim, ℕ, Bool, true, false, ◌||◌, cond, eqb, List, [], ◌∷◌, ◌++◌, map, length, Option, Some, None, refl, sym, ap, ◌∙◌, subst, eq-eqb}
use Rattle.std.proofs.lemmas.Bool.{or_cases, or_parts, true≢false, cases_Bool, cases_eq, ne_eqb}
use Rattle.run_events.specs.declared.key.Class.TheVariants.{Callback, Async}
use Rattle.run_events.specs.declared.key.KeyMark.{KeyMark}
use Rattle.marks.specs.declared.side.Side.{Side}
use Rattle.marks.specs.declared.range.Range.{Range}
use Rattle.marks.specs.Ranges.{Piece, Prepared, within, covers, any_range, any_piece, any_prepared, byte_at, piece_ranges}
use Rattle.marks.specs.Marks.{EventKind, Call, Ret, Up, UpRet, Alloc, Free, Stop, Commit, NoRegion, Withheld, Released, Act, Turn, Load, Store, Enter, Leave, Step, Fault, Made, Mark, released}
use Rattle.marks.specs.Bytes.{Cell, Dead, Live, IsLive, IsHeld, granted, give_any, hold, event_leaves, event_reads, event_writes, reads, writes, touches}
use Rattle.marks.proofs.Touched.{or_true_left, or_true_right, keeps}
use Rattle.replay_runs.specs.Runs.{OfKey, Start, Allowed, is_listed, is_fault, marks_of, new_events, byte}
use Rattle.replay_runs.specs.Interface.{Program}
use Rattle.replay_runs.specs.Threads.{OpenCall, open_calls, act_calls, calls_after, tail}
use Rattle.replay_runs.specs.Pool.{prepares_key, prepared_under, commit_leaves, use_after, in_use_from, in_use}
use Rattle.replay_runs.specs.Keys.{key}
use Rattle.replay_runs.specs.Rules.{DistinctKeys, Closes, ReleaseRule, replay_rules}
use Rattle.replay_runs.specs.Unseen.{Holder, Calling, Preparing, any_held, is_in, holds}
use Rattle.replay_runs.proofs.Keys.{any_right, listed_of}
use Rattle.replay_runs.proofs.Blocks.{cond_true, cond_false}
use Rattle.replay_runs.proofs.Holding.{not_both_ways, given_live, piece_range_of}
use Rattle.replay_runs.proofs.Stops.{any_prepares}
use Rattle.replay_runs.proofs.Touch.{Inv, Touch, live, over, touch, own, other}

-- the key of the first region that has the byte
record Found (ps : List Prepared) (x : ℕ) : Type 0 where
  number : ℕ
  prepares : prepares_key ps number ≡ true
  under : (r : Option Range) → is_in (prepared_under ps number r) x ≡ true

found : (ps : List Prepared) (x : ℕ) → DistinctKeys ps → any_prepared ps x ≡ true → Found ps x
found [] x d e = absurd (true≢false (sym e))
found (p ∷ ps) x d e = ⊎_elim
    (λ z. record {
      number = p.key;
      prepares = or_true_left (eqb p.key p.key) (prepares_key ps p.key) (eq-eqb p.key p.key refl);
      under = λ r. ap (λ o. is_in o x) (cond_true (eqb p.key p.key) (Some p.range) (prepared_under ps p.key r) (eq-eqb p.key p.key refl)) ∙ z;
    })
    (λ z.
    let f = found ps x d.1 z in
    let apart : eqb p.key f.number ≡ false = ne_eqb p.key f.number (λ y. true≢false (sym f.prepares ∙ ap (prepares_key ps) (sym y) ∙ d.0)) in
    record {
      number = f.number;
      prepares = or_true_right (eqb p.key f.number) (prepares_key ps f.number) f.prepares;
      under = λ r. ap (λ o. is_in o x) (cond_false (eqb p.key f.number) (Some p.range) (prepared_under ps f.number r) apart) ∙ f.under r;
    })
    (or_cases (covers p.range x) (any_prepared ps x) e)

-- what isn't prepared stays
not_prepared : (ps : List Prepared) (k : ℕ) (r : Option Range) → prepares_key ps k ≡ false → prepared_under ps k r ≡ r
not_prepared [] k r e = refl
not_prepared (p ∷ ps) k r e =
    let w = or_parts (eqb p.key k) (prepares_key ps k) e in
    cond_false (eqb p.key k) (Some p.range) (prepared_under ps k r) w.0 ∙ not_prepared ps k r w.1

-- neither of two lives is pending
cond_unheld : (b : Bool) (p q : Cell) → (IsHeld p → ⊥) → (IsHeld q → ⊥) → IsHeld (cond b p q) → ⊥
cond_unheld true p q l k h = l h
cond_unheld false p q l k h = k h

in_none : (o : Option Range) (x : ℕ) → o ≡ None → is_in o x ≡ true → ⊥
in_none o x e h = true≢false (sym h ∙ ap (λ z. is_in z x) e)

first_held : (cs : List OpenCall) (f : ℕ) (args : List ℕ) (outs : List Piece) (x : ℕ) → Closes cs f args (piece_ranges outs) → any_piece outs x ≡ false → any_held cs x ≡ true → any_held (tail cs) x ≡ true
first_held [] f args outs x c n e = absurd c
first_held (d ∷ cs) f args outs x c n e = ⊎_elim
    (λ z. absurd (true≢false (sym z ∙ sym (ap (λ l. any_range l x) c.2) ∙ piece_range_of outs x ∙ n)))
    (λ z. z)
    (or_cases (any_range d.outs x) (any_held cs x) e)

pieces_left : (ps qs : List Piece) (x : ℕ) → any_piece (ps ++ qs) x ≡ false → (any_piece ps x ≡ false) × (any_piece qs x ≡ false)
pieces_left [] qs x e = (refl, e)
pieces_left (p ∷ ps) qs x e =
    let w = or_parts (covers p.range x) (any_piece (ps ++ qs) x) e in
    let r = pieces_left ps qs x w.1 in
    (ap (λ b. b || any_piece ps x) w.0 ∙ r.0, r.1)

module _ (program : Program) (s : Start) (past : List Mark) (inv : Inv s past) (owed : (x : ℕ) → IsHeld (byte s x past).cell → (h : Holder) × (holds s past x h ≡ true)) (t n : ℕ) (sd : Side) where
  abbrev mk : Act → Mark
  mk a = record { thread = t; side = sd; index = n; act = a }

  abbrev mine : List Mark
  mine = marks_of s t past

  abbrev cell : ℕ → Cell
  cell x = (byte s x past).cell

  abbrev May : Act → Type 0
  May a = Allowed (replay_rules program s) s past (mk a)

  abbrev after : Act → ℕ → Cell
  after a x = (byte s x (mk a ∷ past)).cell

  abbrev Owed : Act → ℕ → Type 0
  Owed a x = (h : Holder) × (holds s (mk a ∷ past) x h ≡ true)

  module _ (st : ℕ) (ks : List KeyMark) (c : ℕ) where
    abbrev ev : EventKind → Act
    ev k = Made (record { kind = k; steps = st; keys = ks; clock = c })

    -- a Call takes what it makes pending
    called : (f : ℕ) (args : List ℕ) (ins : List Piece) (outs : List Range) (ps : List Prepared) → May (ev (Call f args ins outs ps)) → (x : ℕ) → (any_range outs x || any_prepared ps x) ≡ true → Owed (ev (Call f args ins outs ps)) x
    called f args ins outs ps may x e = ⊎_elim
        (λ z. (Calling t, ap (λ l. any_held (open_calls l) x) (own program s past inv t n sd (ev (Call f args ins outs ps))) ∙ or_true_left (any_range outs x) (any_held (open_calls mine) x) z))
        (λ z. let w = found ps x may.own.carries.5 z in (Preparing w.number, prepared w))
        (or_cases (any_range outs x) (any_prepared ps x) e)
      where
        prepared : (w : Found ps x) → holds s (mk (ev (Call f args ins outs ps)) ∷ past) x (Preparing w.number) ≡ true
        prepared w =
            let listed : is_listed ks (key Async w.number) ≡ true = listed_of ks (program.interface.keys_at_call f args ++ (map (key Callback) (program.interface.registers f args) ++ map (λ p. key Async p.key) ps)) (key Async w.number) may.own.keys
            (any_right (program.interface.keys_at_call f args) _ (key Async w.number) (any_right (map (key Callback) (program.interface.registers f args)) _ (key Async w.number) (any_prepares ps w.number w.prepares))) in
            ap (λ l. is_in (in_use_from w.number (s.in_use w.number) l) x) (cond_true (is_listed ks (key Async w.number)) (mk (ev (Call f args ins outs ps)) ∷ new_events (OfKey (key Async w.number)) past) (new_events (OfKey (key Async w.number)) past) listed)
            ∙ w.under (in_use s w.number past)

    event_newly : (k : EventKind) → May (ev k) → (x : ℕ) → IsLive (cell x) → IsHeld (event_leaves k x (cell x)) → Owed (ev k) x
    event_newly (Call f args ins outs ps) may x l h = ⊎_elim
        (λ z. called f args ins outs ps may x z)
        (λ z. absurd (not_both_ways (cell x) l (subst IsHeld (cond_false (any_range outs x || any_prepared ps x) (hold (cell x)) (cell x) z) h)))
        (cases_Bool (any_range outs x || any_prepared ps x))
    event_newly (Ret f args v same outs commit) may x l h = absurd (not_both_ways (give_any (outs ++ released commit) x (cell x)) (given_live (outs ++ released commit) x (cell x) l) h)
    event_newly (Up f args) may x l h = absurd (not_both_ways (cell x) l h)
    event_newly (UpRet f v) may x l h = absurd (not_both_ways (cell x) l h)
    event_newly (Alloc at size) may x l h = absurd (cond_unheld (within at (granted at size) x) (Live 0) (cell x) (λ z. z) (not_both_ways (cell x) l) h)
    event_newly (Free at size) may x l h = absurd (cond_unheld (within at size x) Dead (cell x) (λ z. z) (not_both_ways (cell x) l) h)
    event_newly (Stop f) may x l h = absurd (not_both_ways (cell x) l h)

    -- who holds a byte that the event doesn't touch holds it still
    calls_kept : (k : EventKind) → May (ev k) → (x : ℕ) → (event_reads k x || event_writes k x) ≡ false → any_held (open_calls mine) x ≡ true → any_held (calls_after k (open_calls mine)) x ≡ true
    calls_kept (Call f args ins outs ps) may x not e = or_true_right (any_range outs x) (any_held (open_calls mine) x) e
    calls_kept (Ret f args v same outs commit) may x not e = first_held (open_calls mine) f args outs x may.own.carries.closes (pieces_left outs (released commit) x not).0 e
    calls_kept (Up f args) may x not e = e
    calls_kept (UpRet f v) may x not e = e
    calls_kept (Alloc at size) may x not e = e
    calls_kept (Free at size) may x not e = e
    calls_kept (Stop f) may x not e = e

    keys_kept : (k : EventKind) → May (ev k) → (j x : ℕ) → is_listed ks (key Async j) ≡ true → (event_reads k x || event_writes k x) ≡ false → is_in (in_use s j past) x ≡ true → is_in (use_after j k (in_use s j past)) x ≡ true
    keys_kept (Call f args ins outs ps) may j x listed not e = ⊎_elim
        (λ z. absurd (in_none (in_use s j past) x (may.shared (OfKey (key Async j)) listed z) e))
        (λ z. ap (λ o. is_in o x) (not_prepared ps j (in_use s j past) z) ∙ e)
        (cases_Bool (prepares_key ps j))
    keys_kept (Ret f args v same outs commit) may j x listed not e = go commit (may.shared (OfKey (key Async j)) listed) (pieces_left outs (released commit) x not).1
      where
        go : (w : Commit) → ReleaseRule j (in_use s j past) w → any_piece (released w) x ≡ false → is_in (commit_leaves j w (in_use s j past)) x ≡ true
        go NoRegion rule out = e
        go Withheld rule out = e
        go (Released i p) rule out = ⊎_elim
            (λ z. absurd (true≢false (sym (sym (ap (λ o. is_in o x) (rule z)) ∙ e) ∙ (or_parts (covers p.range x) false out).0)))
            (λ z. ap (λ o. is_in o x) (cond_false (eqb i j) None (in_use s j past) (ne_eqb i j z)) ∙ e)
            (cases_eq i j)
    keys_kept (Up f args) may j x listed not e = e
    keys_kept (UpRet f v) may j x listed not e = e
    keys_kept (Alloc at size) may j x listed not e = e
    keys_kept (Free at size) may j x listed not e = e
    keys_kept (Stop f) may j x listed not e = e

  -- of a mark

  newly : (a : Act) → May a → (x : ℕ) → IsLive (cell x) → IsHeld (after a x) → Owed a x
  newly (Made e) may x l h = event_newly e.steps e.keys e.clock e.kind may x l h
  newly Turn may x l h = absurd (not_both_ways (cell x) l h)
  newly (Load o at b) may x l h = absurd (not_both_ways (cell x) l h)
  newly (Store o at b) may x l h = absurd (cond_unheld (within at (length b) x) (Live (byte_at at b x)) (cell x) (λ z. z) (not_both_ways (cell x) l) h)
  newly (Enter f vs at b) may x l h = absurd (cond_unheld (within at (length b) x) (Live (byte_at at b x)) (cell x) (λ z. z) (not_both_ways (cell x) l) h)
  newly (Leave at size) may x l h = absurd (cond_unheld (within at size x) Dead (cell x) (λ z. z) (not_both_ways (cell x) l) h)
  newly (Step f args v ins pieces freed) may x l h = absurd (not_both_ways (cell x) l h)
  newly (Fault k cr ins outs at) may x l h = absurd (not_both_ways (cell x) l h)

  own_calls : (a : Act) → May a → (x : ℕ) → touches a x ≡ false → any_held (open_calls mine) x ≡ true → any_held (act_calls a (open_calls mine)) x ≡ true
  own_calls (Made e) may x not h = calls_kept e.steps e.keys e.clock e.kind may x not h
  own_calls Turn may x not h = h
  own_calls (Load o at b) may x not h = h
  own_calls (Store o at b) may x not h = h
  own_calls (Enter f vs at b) may x not h = h
  own_calls (Leave at size) may x not h = h
  own_calls (Step f args v ins pieces freed) may x not h = h
  own_calls (Fault k cr ins outs at) may x not h = h

  kept : (a : Act) → May a → (x : ℕ) → touches a x ≡ false → (h : Holder) → holds s past x h ≡ true → holds s (mk a ∷ past) x h ≡ true
  kept a may x not (Calling u) h = ⊎_elim
      (λ e. subst (λ v. any_held (open_calls (marks_of s v (mk a ∷ past))) x ≡ true) e
      (ap (λ l. any_held (open_calls l) x) (own program s past inv t n sd a) ∙ own_calls a may x not (subst (λ v. any_held (open_calls (marks_of s v past)) x ≡ true) (sym e) h)))
      (λ ne. ap (λ l. any_held (open_calls l) x) (other program s past inv t n sd a u ne) ∙ h)
      (cases_eq t u)
  kept (Made e) may x not (Preparing j) h = go (is_listed e.keys (key Async j)) refl
    where
      go : (b : Bool) → is_listed e.keys (key Async j) ≡ b → is_in (in_use_from j (s.in_use j) (cond b (mk (Made e) ∷ new_events (OfKey (key Async j)) past) (new_events (OfKey (key Async j)) past))) x ≡ true
      go true listed = keys_kept e.steps e.keys e.clock e.kind may j x listed not h
      go false listed = h
  kept Turn may x not (Preparing j) h = h
  kept (Load o at b) may x not (Preparing j) h = h
  kept (Store o at b) may x not (Preparing j) h = h
  kept (Enter f vs at b) may x not (Preparing j) h = h
  kept (Leave at size) may x not (Preparing j) h = h
  kept (Step f args v ins pieces freed) may x not (Preparing j) h = h
  kept (Fault k cr ins outs at) may x not (Preparing j) h = h

  pub owed_after : (a : Act) → May a → is_fault a ≡ 0 → (x : ℕ) → IsHeld (after a x) → Owed a x
  owed_after a may nf x h = ⊎_elim
      (λ z. from (touch program s past inv t n sd a may nf x z))
      (λ z.
      let w = owed x (subst IsHeld (ap (λ b. b.cell) (keeps a x (byte s x past) (or_parts (reads a x) (writes a x) z).1)) h) in
      (w.0, kept a may x z w.0 w.1))
      (cases_Bool (touches a x))
    where
      from : Touch s past (mk a) x → Owed a x
      from (live l) = newly a may x l h
      from (over o) = absurd (not_both_ways (after a x) o.live_after h)
