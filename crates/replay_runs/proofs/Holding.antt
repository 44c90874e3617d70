-- Who holds a byte, before and after a mark.
use Rattle.std.proofs.Common.{◌≡◌, ◌⊎◌, inl, inr, ⊎_elim, ℕ, ◌+◌, Bool, true, false, ◌&&◌, ◌||◌, cond, eqb, ltb, List, [], ◌∷◌, ◌++◌, length, Option, Some, None, refl, sym, ap, ◌∙◌, subst, eq-eqb, eqb-true}
use Rattle.std.proofs.lemmas.Bool.{and_parts, and_from, or_cases, true≢false}
use Rattle.run_events.specs.declared.key.Class.TheVariants.{Async}
use Rattle.run_events.specs.declared.key.KeyMark.{KeyMark}
use Rattle.marks.specs.declared.range.Range.{Range}
use Rattle.marks.specs.Ranges.{Piece, Prepared, covers, any_range, any_piece, any_prepared, byte_at, piece_ranges, prepared_ranges}
use Rattle.marks.specs.Marks.{EventKind, Call, Ret, Up, UpRet, Alloc, Free, Stop, Commit, NoRegion, Withheld, Released, Act, Turn, Load, Store, Enter, Leave, Step, Fault, Made, Mark, is_event}
use Rattle.marks.specs.Bytes.{Cell, Dead, Live, Held, IsLive, IsHeld, Shows, hold, release, give, give_any, writes, late, cell_after}
use Rattle.marks.proofs.Touched.{or_true_left, or_true_right}
use Rattle.replay_runs.specs.Runs.{OfKey, Start, has, keys_of, is_listed, marks_of, new_events}
use Rattle.replay_runs.specs.Threads.{OpenCall, act_calls, calls_after, open_calls, tail}
use Rattle.replay_runs.specs.Pool.{act_use, use_after, commit_leaves, prepared_under, in_use_from, in_use}
use Rattle.replay_runs.specs.Keys.{key}
use Rattle.replay_runs.specs.Rules.{Apart}
use Rattle.replay_runs.specs.Unseen.{Holder, Calling, Preparing, link_of, any_held, is_in, holds, Once}

-- cells

pub not_dead : (c : Cell) → IsLive c → c ≡ Dead → ⊥
not_dead c l e = subst IsLive e l

pub held_not_dead : (c : Cell) → IsHeld c → c ≡ Dead → ⊥
held_not_dead c l e = subst IsHeld e l

pub not_both_ways : (c : Cell) → IsLive c → IsHeld c → ⊥
not_both_ways (Live v) l h = h
not_both_ways (Held v) l h = l
not_both_ways Dead l h = l

pub hold_holds : (c : Cell) → IsLive c → IsHeld (hold c)
hold_holds (Live v) l = tt
hold_holds (Held v) l = absurd l
hold_holds Dead l = absurd l

pub cond_live : (b : Bool) (p q : Cell) → IsLive p → IsLive q → IsLive (cond b p q)
cond_live true p q l k = l
cond_live false p q l k = k

release_live : (c : Cell) → IsLive c → IsLive (release c)
release_live (Live v) l = tt
release_live (Held v) l = absurd l
release_live Dead l = absurd l

release_held : (c : Cell) → IsHeld c → IsLive (release c)
release_held (Live v) l = absurd l
release_held (Held v) l = tt
release_held Dead l = absurd l

pub given_live : (ps : List Piece) (x : ℕ) (c : Cell) → IsLive c → IsLive (give_any ps x c)
given_live [] x c l = l
given_live (p ∷ ps) x c l =
    cond_live (covers p.range x) (give p x c) (give_any ps x c)
    (cond_live (ltb x (p.range.addr + length p.bytes)) (Live (byte_at p.range.addr p.bytes x)) (release c) tt (release_live c l))
    (given_live ps x c l)

pub given_held : (ps : List Piece) (x : ℕ) (c : Cell) → any_piece ps x ≡ true → IsHeld c → IsLive (give_any ps x c)
given_held [] x c e l = absurd (true≢false (sym e))
given_held (p ∷ ps) x c e l = go (covers p.range x) e (given_held ps x c)
  where
    go : (b : Bool) → (b || any_piece ps x) ≡ true → (any_piece ps x ≡ true → IsHeld c → IsLive (give_any ps x c)) → IsLive (cond b (give p x c) (give_any ps x c))
    go true f again = cond_live (ltb x (p.range.addr + length p.bytes)) (Live (byte_at p.range.addr p.bytes x)) (release c) tt (release_held c l)
    go false f again = again f l

pub shown_live : (ps : List Piece) (x : ℕ) (c : Cell) → any_piece ps x ≡ true → Shows ps x c → IsLive c
shown_live [] x c e h = absurd (true≢false (sym e))
shown_live (p ∷ ps) x c e h = ⊎_elim (λ z. subst IsLive (sym (h.0 z)) tt) (λ z. shown_live ps x c z h.1) (or_cases (covers p.range x) (any_piece ps x) e)

pub piece_range_of : (ps : List Piece) (x : ℕ) → any_range (piece_ranges ps) x ≡ any_piece ps x
piece_range_of [] x = refl
piece_range_of (p ∷ ps) x = ap (λ b. covers p.range x || b) (piece_range_of ps x)

pub pieces_cases : (ps qs : List Piece) (x : ℕ) → any_piece (ps ++ qs) x ≡ true → (any_piece ps x ≡ true) ⊎ (any_piece qs x ≡ true)
pieces_cases [] qs x e = inr e
pieces_cases (p ∷ ps) qs x e = ⊎_elim
    (λ z. inl (or_true_left (covers p.range x) (any_piece ps x) z))
    (λ z. ⊎_elim (λ y. inl (or_true_right (covers p.range x) (any_piece ps x) y)) (λ y. inr y) (pieces_cases ps qs x z))
    (or_cases (covers p.range x) (any_piece (ps ++ qs) x) e)

-- what a Call takes

abbrev pub event_taken : EventKind → ℕ → ℕ → Holder → Bool
event_taken (Call func args ins outs prepared) t x (Calling u) = eqb t u && any_range outs x
event_taken (Call func args ins outs prepared) t x (Preparing k) = is_in (prepared_under prepared k None) x
event_taken _ t x h = false

abbrev pub act_taken : Act → ℕ → ℕ → Holder → Bool
act_taken (Made e) t x h = event_taken e.kind t x h
act_taken _ t x h = false

under_any : (ps : List Prepared) (k x : ℕ) → is_in (prepared_under ps k None) x ≡ true → any_prepared ps x ≡ true
under_any [] k x e = absurd (true≢false (sym e))
under_any (p ∷ ps) k x e = go (eqb p.key k) e (under_any ps k x)
  where
    go : (b : Bool) → is_in (cond b (Some p.range) (prepared_under ps k None)) x ≡ true → (is_in (prepared_under ps k None) x ≡ true → any_prepared ps x ≡ true) → (covers p.range x || any_prepared ps x) ≡ true
    go true f again = or_true_left (covers p.range x) (any_prepared ps x) f
    go false f again = or_true_right (covers p.range x) (any_prepared ps x) (again f)

under_or_before : (ps : List Prepared) (k x : ℕ) (r : Option Range) → is_in (prepared_under ps k r) x ≡ true → (is_in r x ≡ true) ⊎ (is_in (prepared_under ps k None) x ≡ true)
under_or_before [] k x r e = inl e
under_or_before (p ∷ ps) k x r e = go (eqb p.key k) e (under_or_before ps k x r)
  where
    go : (b : Bool) → is_in (cond b (Some p.range) (prepared_under ps k r)) x ≡ true → (is_in (prepared_under ps k r) x ≡ true → (is_in r x ≡ true) ⊎ (is_in (prepared_under ps k None) x ≡ true)) → (is_in r x ≡ true) ⊎ (is_in (cond b (Some p.range) (prepared_under ps k None)) x ≡ true)
    go true f again = inr f
    go false f again = again f

prepared_range_of : (ps : List Prepared) (x : ℕ) → any_range (prepared_ranges ps) x ≡ any_prepared ps x
prepared_range_of [] x = refl
prepared_range_of (p ∷ ps) x = ap (λ b. covers p.range x || b) (prepared_range_of ps x)

-- of two keys that have a byte
one_key : (ps : List Prepared) (k j x : ℕ) → Apart (prepared_ranges ps) → is_in (prepared_under ps k None) x ≡ true → is_in (prepared_under ps j None) x ≡ true → k ≡ j
one_key [] k j x a e f = absurd (true≢false (sym e))
one_key (p ∷ ps) k j x a e f = go (eqb p.key k) (eqb p.key j) refl refl e f (one_key ps k j x a.1)
  where
    twice : (i : ℕ) → covers p.range x ≡ true → is_in (prepared_under ps i None) x ≡ true → ⊥
    twice i z w = true≢false (sym (under_any ps i x w) ∙ sym (prepared_range_of ps x) ∙ a.0 x z)

    go : (b d : Bool) → eqb p.key k ≡ b → eqb p.key j ≡ d → is_in (cond b (Some p.range) (prepared_under ps k None)) x ≡ true → is_in (cond d (Some p.range) (prepared_under ps j None)) x ≡ true → (is_in (prepared_under ps k None) x ≡ true → is_in (prepared_under ps j None) x ≡ true → k ≡ j) → k ≡ j
    go true true u v e f again = sym (eqb-true p.key k u) ∙ eqb-true p.key j v
    go true false u v e f again = absurd (twice j e f)
    go false true u v e f again = absurd (twice k f e)
    go false false u v e f again = again e f

apart_right : (rs qs : List Range) → Apart (rs ++ qs) → Apart qs
apart_right [] qs a = a
apart_right (r ∷ rs) qs a = apart_right rs qs a.1

any_append_right : (rs qs : List Range) (x : ℕ) → any_range qs x ≡ true → any_range (rs ++ qs) x ≡ true
any_append_right [] qs x e = e
any_append_right (r ∷ rs) qs x e = or_true_right (covers r x) (any_range (rs ++ qs) x) (any_append_right rs qs x e)

apart_both : (rs qs : List Range) (x : ℕ) → Apart (rs ++ qs) → any_range rs x ≡ true → any_range qs x ≡ true → ⊥
apart_both [] qs x a e f = true≢false (sym e)
apart_both (r ∷ rs) qs x a e f = ⊎_elim
    (λ z. true≢false (sym (any_append_right rs qs x f) ∙ a.0 x z))
    (λ z. apart_both rs qs x a.1 z f)
    (or_cases (covers r x) (any_range rs x) e)

pub one_taken : (func : ℕ) (args : List ℕ) (ins : List Piece) (outs : List Range) (ps : List Prepared) (t x : ℕ) (h j : Holder) → Apart (outs ++ prepared_ranges ps) → event_taken (Call func args ins outs ps) t x h ≡ true → event_taken (Call func args ins outs ps) t x j ≡ true → h ≡ j
one_taken func args ins outs ps t x (Calling u) (Calling v) a e f = ap Calling (sym (eqb-true t u (and_parts (eqb t u) (any_range outs x) e).0) ∙ eqb-true t v (and_parts (eqb t v) (any_range outs x) f).0)
one_taken func args ins outs ps t x (Calling u) (Preparing k) a e f = absurd (apart_both outs (prepared_ranges ps) x a (and_parts (eqb t u) (any_range outs x) e).1 (prepared_range_of ps x ∙ under_any ps k x f))
one_taken func args ins outs ps t x (Preparing k) (Calling v) a e f = absurd (apart_both outs (prepared_ranges ps) x a (and_parts (eqb t v) (any_range outs x) f).1 (prepared_range_of ps x ∙ under_any ps k x e))
one_taken func args ins outs ps t x (Preparing k) (Preparing j) a e f = ap Preparing (one_key ps k j x (apart_right outs (prepared_ranges ps) a) e f)

-- what is taken is written before the event, and held then
pub record IsTaken (a : Act) (x : ℕ) : Type 0 where
  pub writes_it : writes a x ≡ true
  pub early : late a ≡ false
  pub holds_it : (c : Cell) → IsLive c → IsHeld (cell_after a x c)

pub taken : (a : Act) (t x : ℕ) (h : Holder) → act_taken a t x h ≡ true → IsTaken a x
taken (Made e) t x h z = go e.kind e.steps e.keys e.clock h z
  where
    called : (func : ℕ) (args : List ℕ) (ins : List Piece) (outs : List Range) (ps : List Prepared) (st : ℕ) (ks : List KeyMark) (c : ℕ) → (any_range outs x || any_prepared ps x) ≡ true → IsTaken (Made (record { kind = Call func args ins outs ps; steps = st; keys = ks; clock = c })) x
    called func args ins outs ps st ks c w = record {
      writes_it = w;
      early = refl;
      holds_it = λ c l. subst IsHeld (sym (yes (any_range outs x || any_prepared ps x) (hold c) c w)) (hold_holds c l);
    }
      where
        yes : (b : Bool) (p q : Cell) → b ≡ true → cond b p q ≡ p
        yes true p q e = refl
        yes false p q e = absurd (true≢false (sym e))

    go : (k : EventKind) (st : ℕ) (ks : List KeyMark) (c : ℕ) (h : Holder) → event_taken k t x h ≡ true → IsTaken (Made (record { kind = k; steps = st; keys = ks; clock = c })) x
    go (Call func args ins outs ps) st ks c (Calling u) z = called func args ins outs ps st ks c (or_true_left (any_range outs x) (any_prepared ps x) (and_parts (eqb t u) (any_range outs x) z).1)
    go (Call func args ins outs ps) st ks c (Preparing k) z = called func args ins outs ps st ks c (or_true_right (any_range outs x) (any_prepared ps x) (under_any ps k x z))
    go (Ret f args v same outs commit) st ks c h z = absurd (true≢false (sym z))
    go (Up f args) st ks c h z = absurd (true≢false (sym z))
    go (UpRet f v) st ks c h z = absurd (true≢false (sym z))
    go (Alloc at size) st ks c h z = absurd (true≢false (sym z))
    go (Free at size) st ks c h z = absurd (true≢false (sym z))
    go (Stop f) st ks c h z = absurd (true≢false (sym z))
taken Turn t x h z = absurd (true≢false (sym z))
taken (Load o at bytes) t x h z = absurd (true≢false (sym z))
taken (Store o at bytes) t x h z = absurd (true≢false (sym z))
taken (Enter f args at bytes) t x h z = absurd (true≢false (sym z))
taken (Leave at size) t x h z = absurd (true≢false (sym z))
taken (Step f args v ins pieces freed) t x h z = absurd (true≢false (sym z))
taken (Fault k cr ins outs at) t x h z = absurd (true≢false (sym z))

-- who holds a byte after a mark did so before it, or takes it

tail_held : (cs : List OpenCall) (x : ℕ) → any_held (tail cs) x ≡ true → any_held cs x ≡ true
tail_held [] x e = e
tail_held (c ∷ cs) x e = or_true_right (any_range c.outs x) (any_held cs x) e

calls_cases : (k : EventKind) (t x : ℕ) (cs : List OpenCall) → any_held (calls_after k cs) x ≡ true → (any_held cs x ≡ true) ⊎ (event_taken k t x (Calling t) ≡ true)
calls_cases (Call f args ins outs ps) t x cs e = ⊎_elim (λ z. inr (and_from (eqb t t) (any_range outs x) (eq-eqb t t refl) z)) (λ z. inl z) (or_cases (any_range outs x) (any_held cs x) e)
calls_cases (Ret f args v same outs commit) t x cs e = inl (tail_held cs x e)
calls_cases (Up f args) t x cs e = inl e
calls_cases (UpRet f v) t x cs e = inl e
calls_cases (Alloc at size) t x cs e = inl e
calls_cases (Free at size) t x cs e = inl e
calls_cases (Stop f) t x cs e = inl e

commit_cases : (k : ℕ) (commit : Commit) (x : ℕ) (r : Option Range) → is_in (commit_leaves k commit r) x ≡ true → is_in r x ≡ true
commit_cases k NoRegion x r e = e
commit_cases k Withheld x r e = e
commit_cases k (Released j p) x r e = go (eqb j k) e
  where
    go : (b : Bool) → is_in (cond b None r) x ≡ true → is_in r x ≡ true
    go true f = absurd (true≢false (sym f))
    go false f = f

uses_cases : (j : EventKind) (t x k : ℕ) (r : Option Range) → is_in (use_after k j r) x ≡ true → (is_in r x ≡ true) ⊎ (event_taken j t x (Preparing k) ≡ true)
uses_cases (Call f args ins outs ps) t x k r e = under_or_before ps k x r e
uses_cases (Ret f args v same outs commit) t x k r e = inl (commit_cases k commit x r e)
uses_cases (Up f args) t x k r e = inl e
uses_cases (UpRet f v) t x k r e = inl e
uses_cases (Alloc at size) t x k r e = inl e
uses_cases (Free at size) t x k r e = inl e
uses_cases (Stop f) t x k r e = inl e

act_calls_cases : (a : Act) (t x : ℕ) (cs : List OpenCall) → any_held (act_calls a cs) x ≡ true → (any_held cs x ≡ true) ⊎ ((act_taken a t x (Calling t) ≡ true) × (is_event a ≡ true))
act_calls_cases (Made e) t x cs h = ⊎_elim (λ z. inl z) (λ z. inr (z, refl)) (calls_cases e.kind t x cs h)
act_calls_cases Turn t x cs h = inl h
act_calls_cases (Load o at bytes) t x cs h = inl h
act_calls_cases (Store o at bytes) t x cs h = inl h
act_calls_cases (Enter f args at bytes) t x cs h = inl h
act_calls_cases (Leave at size) t x cs h = inl h
act_calls_cases (Step f args v ins pieces freed) t x cs h = inl h
act_calls_cases (Fault k cr ins outs at) t x cs h = inl h

act_uses_cases : (a : Act) (t x k : ℕ) (r : Option Range) → is_in (act_use k a r) x ≡ true → (is_in r x ≡ true) ⊎ (act_taken a t x (Preparing k) ≡ true)
act_uses_cases (Made e) t x k r h = uses_cases e.kind t x k r h
act_uses_cases Turn t x k r h = inl h
act_uses_cases (Load o at bytes) t x k r h = inl h
act_uses_cases (Store o at bytes) t x k r h = inl h
act_uses_cases (Enter f args at bytes) t x k r h = inl h
act_uses_cases (Leave at size) t x k r h = inl h
act_uses_cases (Step f args v ins pieces freed) t x k r h = inl h
act_uses_cases (Fault kd cr ins outs at) t x k r h = inl h

pub holds_cases : (s : Start) (past : List Mark) (m : Mark) (x : ℕ) (h : Holder) → holds s (m ∷ past) x h ≡ true → (holds s past x h ≡ true) ⊎ ((act_taken m.act m.thread x h ≡ true) × (has m (link_of h) ≡ true))
holds_cases s past m x (Calling u) e = go (eqb m.thread u) refl e
  where
    go : (b : Bool) → eqb m.thread u ≡ b → any_held (open_calls (cond b (m ∷ marks_of s u past) (marks_of s u past))) x ≡ true → (any_held (open_calls (marks_of s u past)) x ≡ true) ⊎ ((act_taken m.act m.thread x (Calling u) ≡ true) × ((is_event m.act && eqb m.thread u) ≡ true))
    go true f h = ⊎_elim (λ z. inl z) (λ z. inr (subst (λ v. act_taken m.act m.thread x (Calling v) ≡ true) (eqb-true m.thread u f) z.0, and_from (is_event m.act) (eqb m.thread u) z.1 f)) (act_calls_cases m.act m.thread x (open_calls (marks_of s u past)) h)
    go false f h = inl h
holds_cases s past m x (Preparing k) e = go (is_listed (keys_of m.act) (key Async k)) refl e
  where
    go : (b : Bool) → is_listed (keys_of m.act) (key Async k) ≡ b → is_in (in_use_from k (s.in_use k) (cond b (m ∷ new_events (OfKey (key Async k)) past) (new_events (OfKey (key Async k)) past))) x ≡ true → (is_in (in_use s k past) x ≡ true) ⊎ ((act_taken m.act m.thread x (Preparing k) ≡ true) × (is_listed (keys_of m.act) (key Async k) ≡ true))
    go true f h = ⊎_elim (λ z. inl z) (λ z. inr (z, f)) (act_uses_cases m.act m.thread x k (in_use s k past) h)
    go false f h = inl h

pub once_tail : (cs : List OpenCall) (x : ℕ) → Once cs x → Once (tail cs) x
once_tail [] x o = tt
once_tail (c ∷ cs) x o = o.1
