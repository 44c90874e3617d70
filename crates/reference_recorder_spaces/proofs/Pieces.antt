-- Pieces that code below the cut writes, and that it may.
use Rattle.std.proofs.Common.{◌≡◌, ℕ, suc, ◌+◌, ◌-◌, ◌^◌, ◌<◌, ◌≤◌, Bool, true, false, ◌||◌, List, [], ◌∷◌, ◌++◌, map, length, get_or, take, drop, All, inl, inr, ⊎_elim, refl, ap, sym, ◌∙◌, subst, arith}
use Rattle.std.proofs.lemmas.Bool.{or_cases, or_parts, true≢false}
use Rattle.std.proofs.lemmas.List.{map-append, take_all}
use Rattle.std.proofs.lemmas.List.Elements.{All-append, All-cons, All-head, All-nil, All-tail}
use Rattle.marks.specs.declared.side.Side.TheVariants.{System}
use Rattle.marks.specs.declared.range.Range.{Range}
use Rattle.marks.specs.Ranges.{IsInRange, Piece, any_piece, any_range, covers, piece_ranges}
use Rattle.marks.specs.Marks.{Mark}
use Rattle.marks.specs.Bytes.{IsHeld}
use Rattle.space_memory_bytes.specs.Areas.{AreaState, IsDead, byte_at}
use Rattle.space_memory_bytes.specs.Numbers.{HasBytes}
use Rattle.space_memory_access.specs.Accesses.{IsAllowed}
use Rattle.replay_runs.specs.Runs.{Start}
use Rattle.replay_runs.specs.Keys.{key}
use Rattle.replay_runs.specs.Rules.{Apart}
use Rattle.replay_runs.proofs.Holding.{piece_range_of}
use Rattle.space_memory.specs.Spaces.{SpaceState}
use Rattle.space_memory_laws.specs.Changes.{IsWritten, access_on}
use Rattle.space_memory_laws.specs.Owed.{IsOwed}
use Rattle.space_memory_laws.specs.Returns.{FitsIn}
use Rattle.space_memory_laws.specs.Rights.{IsHandedDown}
use Rattle.space_memory_laws.proofs.Access.{reach}
use Rattle.space_memory_laws.proofs.Below as below
use Rattle.space_memory_laws.proofs.Cells.{covered}
use Rattle.space_memory_laws.proofs.Owed.{owed}
use Rattle.space_memory_laws.proofs.Refusals.{byte_dead, constant_to}
use Rattle.space_memory_laws.proofs.Rights.{rights}
use Rattle.reference_recorder_spaces.specs.Next.{AreGiven, IsGiven, Puts, filled_range}
use Rattle.reference_recorder_spaces.proofs.Filled.{none_filled}

-- ---- pieces that are written

pub piece_ranges_append : (ps qs : List Piece) → piece_ranges (ps ++ qs) ≡ piece_ranges ps ++ piece_ranges qs
piece_ranges_append ps qs = map-append (λ (p : Piece). p.range) ps qs

any_parts : (rs qs : List Range) (x : ℕ) → any_range (rs ++ qs) x ≡ false → (any_range rs x ≡ false) × (any_range qs x ≡ false)
any_parts [] qs x e = (refl, e)
any_parts (r ∷ rs) qs x e =
    let p = or_parts (covers r x) (any_range (rs ++ qs) x) e in
    let q = any_parts rs qs x p.1 in
    (ap (λ b. b || any_range rs x) p.0 ∙ q.0, q.1)

apart_left : (rs qs : List Range) → Apart (rs ++ qs) → Apart rs
apart_left [] qs h = tt
apart_left (r ∷ rs) qs h = (λ x c. (any_parts rs qs x (h.0 x c)).0, apart_left rs qs h.1)

apart_right : (rs qs : List Range) → Apart (rs ++ qs) → Apart qs
apart_right [] qs h = h
apart_right (r ∷ rs) qs h = apart_right rs qs h.1

apart_both : (rs qs : List Range) (x : ℕ) → Apart (rs ++ qs) → any_range rs x ≡ true → any_range qs x ≡ false
apart_both [] qs x h e = absurd (true≢false (sym e))
apart_both (r ∷ rs) qs x h e = ⊎_elim
    (λ z. right rs qs x (h.0 x z))
    (λ z. apart_both rs qs x h.1 z)
    (or_cases (covers r x) (any_range rs x) e)
  where
    right : (rs qs : List Range) (x : ℕ) → any_range (rs ++ qs) x ≡ false → any_range qs x ≡ false
    right [] qs x e = e
    right (r ∷ rs) qs x e = right rs qs x (or_parts (covers r x) (any_range (rs ++ qs) x) e).1

each_left : (P : Piece → Type 0) (ps qs : List Piece) → All P (ps ++ qs) → All P ps
each_left P [] qs h = All-nil P
each_left P (p ∷ ps) qs h = All-cons P p ps (All-head P p (ps ++ qs) h) (each_left P ps qs (All-tail P p (ps ++ qs) h))

each_right : (P : Piece → Type 0) (ps qs : List Piece) → All P (ps ++ qs) → All P qs
each_right P [] qs h = h
each_right P (p ∷ ps) qs h = each_right P ps qs (All-tail P p (ps ++ qs) h)

abbrev pub Shows : List AreaState → Piece → Type 0
Shows bytes p = HasBytes bytes p.range.addr p.bytes

pub puts_none : (t : ℕ) (old : SpaceState) → Puts t [] old old
puts_none t old = λ s past h fits apart. record { stands = h; held = refl; bytes = All-nil (Shows old.bytes); others = λ x e. refl }

pub puts_one : (t : ℕ) (p : Piece) (old new : SpaceState) → p.range.addr < 2 ^ 64 → IsWritten System old new t p.range.addr p.bytes → Puts t (p ∷ []) old new
puts_one t p old new small k = λ s past h fits apart. record {
  stands = below.written s past old new t p.range.addr p.bytes h small k;
  held = ap (λ (q : SpaceState). q.held) k.rest;
  bytes = All-cons (Shows new.bytes) p [] k.bytes_are (All-nil (Shows new.bytes));
  others = λ x e. k.others.bytes x (or_parts (covers (filled_range p) x) false e).0;
}

pub puts_more : (t : ℕ) (ps qs : List Piece) (old mid new : SpaceState) → Puts t ps old mid → Puts t qs mid new → Puts t (ps ++ qs) old new
puts_more t ps qs old mid new first then' = λ s past h fits apart.
    let rs = piece_ranges ps in
    let apart' : Apart (rs ++ piece_ranges qs) = subst Apart (piece_ranges_append ps qs) apart in
    let a = first s past h (each_left FitsIn ps qs fits) (apart_left rs (piece_ranges qs) apart') in
    let b = then' s past a.stands (each_right FitsIn ps qs fits) (apart_right rs (piece_ranges qs) apart') in
    record {
      stands = b.stands;
      held = b.held ∙ a.held;
      bytes = All-append (Shows new.bytes) ps qs
          (kept ps (each_left FitsIn ps qs fits) a.bytes
          (λ x e. b.others x (none_filled qs x (each_right FitsIn ps qs fits) (sym (piece_range_of qs x) ∙ apart_both rs (piece_ranges qs) x apart' (piece_range_of ps x ∙ e))))) b.bytes;
      others = λ x e.
          let q = any_parts (map filled_range ps) (map filled_range qs) x (sym (ap (λ rs. any_range rs x) (map-append filled_range ps qs)) ∙ e) in
          b.others x q.1 ∙ a.others x q.0;
    }
  where
    kept : (ps : List Piece) → All FitsIn ps → All (Shows mid.bytes) ps → ((x : ℕ) → any_piece ps x ≡ true → byte_at new.bytes x ≡ byte_at mid.bytes x) → All (Shows new.bytes) ps
    kept [] fits all same = All-nil (Shows new.bytes)
    kept (p ∷ ps) fits all same = All-cons (Shows new.bytes) p ps
        (λ i lt.
        let le : length p.bytes ≤ p.range.len = All-head FitsIn p ps fits in
        let c : covers p.range (p.range.addr + i) ≡ true = covered p.range (p.range.addr + i) (omega arith) (omega (arith, lt, le)) in
        same (p.range.addr + i) (ap (λ b. b || any_piece ps (p.range.addr + i)) c) ∙ All-head (Shows mid.bytes) p ps all i lt)
        (kept ps (All-tail FitsIn p ps fits) (All-tail (Shows mid.bytes) p ps all) (λ x e. same x (or_true (covers p.range x) e)))
      where
        or_true : (a : Bool) {b : Bool} → b ≡ true → (a || b) ≡ true
        or_true true e = refl
        or_true false e = e

-- ---- what may be written

each_fits : (s : Start) (past : List Mark) (t : ℕ) (ps : List Piece) → All (IsGiven s past t) ps → All FitsIn ps
each_fits s past t [] h = All-nil FitsIn
each_fits s past t (p ∷ ps) h = All-cons FitsIn p ps (All-head (IsGiven s past t) p ps h).fits (each_fits s past t ps (All-tail (IsGiven s past t) p ps h))

pub given_left : (t : ℕ) (ps qs : List Piece) (memory : SpaceState) → AreGiven t (ps ++ qs) memory → AreGiven t ps memory
given_left t ps qs memory g = record {
  start = g.start;
  past = g.past;
  thread = g.thread;
  stands = g.stands;
  each = each_left (IsGiven g.start g.past t) ps qs g.each;
  apart = apart_left (piece_ranges ps) (piece_ranges qs) (subst Apart (piece_ranges_append ps qs) g.apart);
}

pub given_right : (t : ℕ) (ps qs : List Piece) (old new : SpaceState) → AreGiven t (ps ++ qs) old → Puts t ps old new → AreGiven t qs new
given_right t ps qs old new g puts =
    let apart' : Apart (piece_ranges ps ++ piece_ranges qs) = subst Apart (piece_ranges_append ps qs) g.apart in
    record {
      start = g.start;
      past = g.past;
      thread = g.thread;
      stands = (puts g.start g.past g.stands (each_fits g.start g.past t ps (each_left (IsGiven g.start g.past t) ps qs g.each)) (apart_left (piece_ranges ps) (piece_ranges qs) apart')).stands;
      each = each_right (IsGiven g.start g.past t) ps qs g.each;
      apart = apart_right (piece_ranges ps) (piece_ranges qs) apart';
    }

pub may_put : (t : ℕ) (p : Piece) (memory : SpaceState) → AreGiven t (p ∷ []) memory → IsAllowed memory.bytes memory.held.regions (access_on System t p.range.addr (length p.bytes) true)
may_put t p memory g = record {
  own = λ x in' bad. bad.1 (live x in', (rights g.start g.past memory t true x g.stands g.thread).1 (one.handed x (inside x in')));
  live = live;
  free = λ x in' none. none;
  writable = λ x in' is. true≢false (sym (constant_to true x is).1 ∙ one.writable x (inside x in'));
}
  where
    one : IsGiven g.start g.past t p
    one = All-head (IsGiven g.start g.past t) p [] g.each

    inside : (x : ℕ) → IsInRange (reach p.range.addr (length p.bytes)) x → covers p.range x ≡ true
    inside x in' = let le : length p.bytes ≤ p.range.len = one.fits in let to = in'.1 in covered p.range x in'.0 (omega (arith, to, le))

    is_owed : (x : ℕ) → IsHandedDown g.start g.past t true x → IsOwed g.start g.past x
    is_owed x (inl out) = inl (t, (g.thread, out))
    is_owed x (inr (inl read)) = absurd (true≢false read.0)
    is_owed x (inr (inr key)) = inr key

    live : (x : ℕ) → IsInRange (reach p.range.addr (length p.bytes)) x → IsDead memory.bytes x → ⊥
    live x in' dead =
        let own = one.own x (inside x in') in
        subst IsHeld (byte_dead g.start g.past memory g.stands x own dead) ((owed g.start g.past memory g.stands x own).1 (is_owed x (one.handed x (inside x in'))))

-- the first of some, and then the others
pub given_first : (t : ℕ) (ps : List Piece) (first : Piece) (old : SpaceState) → 1 ≤ length ps → first ≡ get_or ps 0 first → AreGiven t ps old → AreGiven t (first ∷ []) old
given_first t [] first old some is g = absurd (omega (arith, some))
given_first t (p ∷ ps) first old some is g = subst (λ q. AreGiven t (q ∷ []) old) (sym is) (given_left t (p ∷ []) ps old g)

pub given_rest : (t : ℕ) (ps : List Piece) (first : Piece) (old mid : SpaceState) → 1 ≤ length ps → first ≡ get_or ps 0 first → AreGiven t ps old →
    Puts t (first ∷ []) old mid → AreGiven t (take (length ps - 1) (drop 1 ps)) mid
given_rest t [] first old mid some is g one = absurd (omega (arith, some))
given_rest t (p ∷ ps) first old mid some is g one =
    subst (λ qs. AreGiven t qs mid) (sym (take_all (suc (length ps) - 1) ps (omega arith)))
    (given_right t (p ∷ []) ps old mid g (subst (λ q. Puts t (q ∷ []) old mid) is one))

pub rest_less : (ps : List Piece) → 1 ≤ length ps → length (take (length ps - 1) (drop 1 ps)) < length ps
rest_less [] some = absurd (omega (arith, some))
rest_less (p ∷ ps) some = let all = ap length (take_all (suc (length ps) - 1) ps (omega arith)) in omega (arith, all)

pub puts_first : (t : ℕ) (ps : List Piece) (first : Piece) (old mid new : SpaceState) → 1 ≤ length ps → first ≡ get_or ps 0 first →
    Puts t (first ∷ []) old mid → Puts t (take (length ps - 1) (drop 1 ps)) mid new → Puts t ps old new
puts_first t [] first old mid new some is one rest = absurd (omega (arith, some))
puts_first t (p ∷ ps) first old mid new some is one rest =
    puts_more t (p ∷ []) ps old mid new
    (subst (λ q. Puts t (q ∷ []) old mid) is one)
    (subst (λ qs. Puts t qs mid new) (take_all (suc (length ps) - 1) ps (omega arith)) rest)
