-- The regions that go when a call is closed, and the pieces that its Ret has of them.
use Rattle.std.proofs.Common.{◌≡◌, ℕ, ◌+◌, ◌-◌, ◌<◌, Bool, true, false, cond, eqb, not, ◌&&◌, ◌||◌, ltb, List, [], ◌∷◌, ◌++◌, length, map, get_or, drop, Option, Some, None, inl, inr, refl, ap, sym, ◌∙◌, subst, arith, All}
use Rattle.std.specs.Prelude.{filter, slice_index}
use Rattle.std.specs.List.{list_any}
use Rattle.std.specs.Option.{option_to_list}
use Rattle.std.proofs.lemmas.Bool.{cases_Bool, cases_lt, true≢false, cond-true, cond-false, and_from, lt-ltb, le-ltb}
use Rattle.std.proofs.lemmas.List.{get_or-drop, length-drop}
use Rattle.std.proofs.lemmas.List.Folds.{list_any-append}
use Rattle.std.proofs.lemmas.List.Elements.{All-append, All-head, All-tail, All-cons, All-nil}
use Rattle.marks.specs.declared.range.Range.{Range}
use Rattle.marks.specs.Ranges.{Piece, covers, any_piece, piece_ranges}
use Rattle.marks.specs.Ranges as marks
use Rattle.marks.specs.Bytes.{Cell, Live, release, give, give_any}
use Rattle.space_memory_bytes.specs.Areas.{AreaState, byte_at}
use Rattle.space_memory_access.specs.declared.holder.OpenCall.{OpenCall}
use Rattle.space_memory_access.specs.declared.holder.Region.{Region}
use Rattle.space_memory_access.specs.declared.holder.Holder.{Holder}
use Rattle.space_memory_access.specs.declared.holder.Holder.TheVariants.{In, Out, Key}
use Rattle.space_memory_access.specs.Holders.{is_pending, is_out_of, is_same_call, has_key, outlives}
use Rattle.space_memory_access.specs.Held.{prepared_region}
use Rattle.space_memory.specs.Spaces.{IsWhole}
use Rattle.space_memory.specs.Releases.{outs_of, committed, committed_key, used_of, IsFilled, AllFilled}
use Rattle.space_memory_laws.specs.Shown.{value_when_held, cell_of}
use Rattle.space_memory_laws.specs.Held.{AreApart, HaveOwnKeys}
use Rattle.space_memory_laws.specs.Returns.{used_at, ShowUsed, FitsIn}
use Rattle.space_memory_laws.proofs.Cells.{cover_parts, unheld}
use Rattle.space_memory_laws.proofs.Regions.{waits_at, some_none}
use Rattle.space_memory_laws.proofs.Closed.{eqb_sym, goes_at}

-- whether the region is the committed one
is_committed : Option (ℕ × ℕ) → Holder → Bool
is_committed None h = false
is_committed (Some c) h = has_key c.0 h

-- a region that waits goes where the call was to write it, or where it is committed
goes_as : (call : OpenCall) (c : Option (ℕ × ℕ)) (h : Holder) → (is_pending h && not (outlives call (committed_key c) h)) ≡ (is_out_of call h || is_committed c h)
unfolding is_committed
goes_as call None (In o) = refl
goes_as call None (Out o) = elim (is_same_call o call) as (λ b. not (not b) ≡ (b || false)) [ true ↦ refl | false ↦ refl ]
goes_as call None (Key k by) = refl
goes_as call (Some c) (In o) = refl
goes_as call (Some c) (Out o) = elim (is_same_call o call) as (λ b. not (not b) ≡ (b || false)) [ true ↦ refl | false ↦ refl ]
goes_as call (Some c) (Key k by) = ap (λ b. not (not b)) (eqb_sym c.0 k) ∙ elim (eqb k c.0) as (λ b. not (not b) ≡ b) [ true ↦ refl | false ↦ refl ]

any_kept : (a c : Region → Bool) (r : Region) (rest : List Region) → list_any c (filter a (r ∷ rest)) ≡ cond (a r) (c r || list_any c (filter a rest)) (list_any c (filter a rest))
any_kept a c r rest = elim (a r) as (λ x. list_any c (cond x (r ∷ filter a rest) (filter a rest)) ≡ cond x (c r || list_any c (filter a rest)) (list_any c (filter a rest))) [ true ↦ refl | false ↦ refl ]

any_either : (a b c : Region → Bool) (rs : List Region) → list_any (λ r. (a r || b r) && c r) rs ≡ (list_any c (filter a rs) || list_any c (filter b rs))
any_either a b c [] = refl
any_either a b c (r ∷ rest) =
    ap (λ z. ((a r || b r) && c r) || z) (any_either a b c rest)
    ∙ shape (a r) (b r) (c r) (list_any c (filter a rest)) (list_any c (filter b rest))
    ∙ ap (λ z. z || cond (b r) (c r || list_any c (filter b rest)) (list_any c (filter b rest))) (sym (any_kept a c r rest))
    ∙ ap (λ z. list_any c (filter a (r ∷ rest)) || z) (sym (any_kept b c r rest))
  where
    or_true : (b : Bool) → true ≡ (b || true)
    or_true true = refl
    or_true false = refl

    shape : (x y z p q : Bool) → (((x || y) && z) || (p || q)) ≡ (cond x (z || p) p || cond y (z || q) q)
    shape true true true p q = refl
    shape true true false p q = refl
    shape true false true p q = refl
    shape true false false p q = refl
    shape false true true p q = or_true p
    shape false true false p q = refl
    shape false false true p q = refl
    shape false false false p q = refl

-- a key has one region at most
only_key : (k : ℕ) (rs : List Region) → HaveOwnKeys rs → filter (λ (r : Region). has_key k r.holder) rs ≡ option_to_list (prepared_region rs k)
only_key k [] own = refl
only_key k (r ∷ rest) own = go (has_key k r.holder) refl (only_key k rest own.1)
  where
    go : (b : Bool) → has_key k r.holder ≡ b → filter (λ (r : Region). has_key k r.holder) rest ≡ option_to_list (prepared_region rest k) →
        cond b (r ∷ filter (λ (r : Region). has_key k r.holder) rest) (filter (λ (r : Region). has_key k r.holder) rest) ≡ option_to_list (cond b (Some r) (prepared_region rest k))
    go true is again = ap (λ rs. r ∷ rs) (again ∙ ap (λ o. option_to_list o) (own.0 k is))
    go false is again = again

none_kept : (rs : List Region) → filter (λ (r : Region). false) rs ≡ []
none_kept [] = refl
none_kept (r ∷ rest) = none_kept rest

committed_is : (c : Option (ℕ × ℕ)) (rs : List Region) → HaveOwnKeys rs → filter (λ (r : Region). is_committed c r.holder) rs ≡ committed rs c
unfolding is_committed
committed_is None rs own = none_kept rs
committed_is (Some c) rs own = only_key c.0 rs own

-- the regions that a return gives back are those that wait and go
pub gone_any : (call : OpenCall) (c : Option (ℕ × ℕ)) (rs : List Region) (x : ℕ) → HaveOwnKeys rs →
    list_any (goes_at call (committed_key c) x) rs ≡ list_any (λ (r : Region). covers r.range x) (outs_of call rs ++ committed rs c)
gone_any call c rs x own =
    same rs
    ∙ any_either (λ (r : Region). is_out_of call r.holder) (λ (r : Region). is_committed c r.holder) (λ (r : Region). covers r.range x) rs
    ∙ ap (λ qs. list_any (λ (r : Region). covers r.range x) (outs_of call rs) || list_any (λ (r : Region). covers r.range x) qs) (committed_is c rs own)
    ∙ sym (list_any-append (λ (r : Region). covers r.range x) (outs_of call rs) (committed rs c))
  where
    swap : (a b c : Bool) → ((a && b) && c) ≡ ((a && c) && b)
    swap true true c = elim c as (λ c. c ≡ (c && true)) [ true ↦ refl | false ↦ refl ]
    swap true false c = elim c as (λ c. false ≡ (c && false)) [ true ↦ refl | false ↦ refl ]
    swap false b c = refl

    same : (qs : List Region) → list_any (goes_at call (committed_key c) x) qs ≡ list_any (λ (r : Region). (is_out_of call r.holder || is_committed c r.holder) && covers r.range x) qs
    same [] = refl
    same (q ∷ qs) =
        ap (λ b. b || list_any (goes_at call (committed_key c) x) qs) (swap (is_pending q.holder) (covers q.range x) (not (outlives call (committed_key c) q.holder)) ∙ ap (λ b. b && covers q.range x) (goes_as call c q.holder))
        ∙ ap (λ b. ((is_out_of call q.holder || is_committed c q.holder) && covers q.range x) || b) (same qs)

-- a region that waits, in memory where no two such meet: it alone says what its bytes were
pub record IsWaiting (rs : List Region) (r : Region) : Type 0 where
  pub whole : length r.before ≡ r.range.len
  pub value : (x : ℕ) → covers r.range x ≡ true → value_when_held rs x ≡ Some (get_or r.before (x - r.range.addr) 0)

abbrev WaitsIfPending : List Region → Region → Type 0
WaitsIfPending rs r = is_pending r.holder ≡ true → IsWaiting rs r

all_waiting : (rs : List Region) → AreApart rs → All IsWhole rs → All (WaitsIfPending rs) rs
all_waiting [] apart whole = All-nil (WaitsIfPending [])
all_waiting (r ∷ rest) apart whole = All-cons (WaitsIfPending (r ∷ rest)) r rest first (later rest (all_waiting rest apart.1 (All-tail IsWhole r rest whole)))
  where
    first : WaitsIfPending (r ∷ rest) r
    first pending = record {
      whole = (All-head IsWhole r rest whole pending).0;
      value = λ x c. cond-true (waits_at x r) (Some (get_or r.before (x - r.range.addr) 0)) (value_when_held rest x) (and_from (is_pending r.holder) (covers r.range x) pending c);
    }

    past_first : (x v : ℕ) → value_when_held rest x ≡ Some v → value_when_held (r ∷ rest) x ≡ Some v
    past_first x v is = elim (cases_Bool (waits_at x r)) [
      | inl waits ↦ absurd (some_none v (sym is ∙ unheld rest x (λ p. true≢false (sym p ∙ apart.0 x waits))))
      | inr idle ↦ cond-false (waits_at x r) (Some (get_or r.before (x - r.range.addr) 0)) (value_when_held rest x) idle ∙ is
    ]

    later : (qs : List Region) → All (WaitsIfPending rest) qs → All (WaitsIfPending (r ∷ rest)) qs
    later [] all = All-nil (WaitsIfPending (r ∷ rest))
    later (q ∷ qs) all = All-cons (WaitsIfPending (r ∷ rest)) q qs
        (λ pending. let w = All-head
        (WaitsIfPending rest) q qs all pending in record {
          whole = w.whole;
          value = λ x c. past_first x
              (get_or q.before (x - q.range.addr) 0) (w.value x c);
        }) (later qs (All-tail (WaitsIfPending rest) q qs all))

filter_all : (rs qs : List Region) (f : Holder → Bool) → ((h : Holder) → f h ≡ true → is_pending h ≡ true) → All (WaitsIfPending rs) qs → All (IsWaiting rs) (filter (λ (r : Region). f r.holder) qs)
filter_all rs [] f waits all = All-nil (IsWaiting rs)
filter_all rs (q ∷ qs) f waits all = go (f q.holder) refl (filter_all rs qs f waits (All-tail (WaitsIfPending rs) q qs all))
  where
    go : (b : Bool) → f q.holder ≡ b → All (IsWaiting rs) (filter (λ (r : Region). f r.holder) qs) →
        All (IsWaiting rs) (cond b (q ∷ filter (λ (r : Region). f r.holder) qs) (filter (λ (r : Region). f r.holder) qs))
    go true is again = All-cons (IsWaiting rs) q (filter (λ (r : Region). f r.holder) qs) (All-head (WaitsIfPending rs) q qs all (waits q.holder is)) again
    go false is again = again

pub gone_waiting : (call : OpenCall) (c : Option (ℕ × ℕ)) (rs : List Region) → AreApart rs → All IsWhole rs → HaveOwnKeys rs → All (IsWaiting rs) (outs_of call rs ++ committed rs c)
unfolding is_committed
gone_waiting call c rs apart whole own =
    let all = all_waiting rs apart whole in
    All-append (IsWaiting rs) (outs_of call rs) (committed rs c)
    (filter_all rs rs (is_out_of call) out_waits all)
    (subst (All (IsWaiting rs)) (committed_is c rs own) (filter_all rs rs (is_committed c) (committed_waits c) all))
  where
    out_waits : (h : Holder) → is_out_of call h ≡ true → is_pending h ≡ true
    out_waits (In o) is = is
    out_waits (Out o) is = refl
    out_waits (Key k by) is = refl

    committed_waits : (c : Option (ℕ × ℕ)) (h : Holder) → is_committed c h ≡ true → is_pending h ≡ true
    committed_waits None h is = absurd (true≢false (sym is))
    committed_waits (Some c) (In o) is = is
    committed_waits (Some c) (Out o) is = refl
    committed_waits (Some c) (Key k by) is = refl

-- the pieces of regions that wait give what memory has there, and nothing elsewhere
module _ (bytes : List AreaState) (rs : List Region) where
  pub used_same : (r : Region) (p : Piece) (n : ℕ) → r.range ≡ p.range → used_of r n ≡ used_at p.range n
  used_same r p n e = ap (λ (q : Range). cond (eqb q.addr 0) 0 n) e

  give_piece : (r : Region) (p : Piece) (n x : ℕ) → r.range ≡ p.range → length p.bytes ≡ used_at p.range n →
      ((i : ℕ) → i < length p.bytes → byte_at bytes (p.range.addr + i) ≡ Some (slice_index p.bytes i)) → IsFilled bytes n r → IsWaiting rs r →
      covers p.range x ≡ true → give p x (cell_of (byte_at bytes x) (value_when_held rs x)) ≡ cell_of (byte_at bytes x) None
  give_piece r p n x same long has filled waits in' =
      let c = cover_parts p.range x in' in
      let from : r.range.addr ≡ p.range.addr = ap (λ (q : Range). q.addr) same in
      let len : r.range.len ≡ p.range.len = ap (λ (q : Range). q.len) same in
      let used : used_of r n ≡ length p.bytes = used_same r p n same ∙ sym long in
      elim (cases_lt x (p.range.addr + length p.bytes)) [
        | inl lt ↦
            let at : p.range.addr + (x - p.range.addr) ≡ x = omega (arith, c.0) in
            let is : byte_at bytes x ≡ Some (get_or p.bytes (x - p.range.addr) 0) = ap (byte_at bytes) (sym at) ∙ has (x - p.range.addr) (omega (arith, c.0, lt)) in
            cond-true (ltb x (p.range.addr + length p.bytes)) (Live (marks.byte_at p.range.addr p.bytes x)) (release (cell_of (byte_at bytes x) (value_when_held rs x))) (lt-ltb x (p.range.addr + length p.bytes) lt)
            ∙ sym (ap (λ b. cell_of b None) is)
        | inr le ↦
            let before : value_when_held rs x ≡ Some (get_or r.before (x - r.range.addr) 0) = waits.value x (ap (λ (q : Range). covers q x) same ∙ in') in
            let at : r.range.addr + used_of r n + (x - (r.range.addr + used_of r n)) ≡ x = omega (arith, le, from, used) in
            let few : x - (r.range.addr + used_of r n) < length (drop (used_of r n) r.before) = omega (arith, length-drop (used_of r n) r.before, waits.whole, le, from, used, len, c.1, filled.fits) in
            let off : used_of r n + (x - (r.range.addr + used_of r n)) ≡ x - r.range.addr = omega (arith, le, from, used) in
            let is : byte_at bytes x ≡ Some (get_or r.before (x - r.range.addr) 0) = ap (byte_at bytes) (sym at) ∙ filled.rest
            (x - (r.range.addr + used_of r n)) few ∙ ap (λ v. Some v)
            (get_or-drop (used_of r n) r.before (x - (r.range.addr + used_of r n)) 0 ∙ ap (λ i. get_or r.before i 0) off) in
            cond-false (ltb x (p.range.addr + length p.bytes)) (Live (marks.byte_at p.range.addr p.bytes x)) (release (cell_of (byte_at bytes x) (value_when_held rs x))) (le-ltb x (p.range.addr + length p.bytes) le)
            ∙ ap (λ v. release (cell_of (byte_at bytes x) v)) before
            ∙ ap (λ b. release (cell_of b (Some (get_or r.before (x - r.range.addr) 0)))) is
            ∙ sym (ap (λ b. cell_of b None) is)
      ]

  heads : (a b : Range) (as' bs : List Range) → ◌≡◌ {A = List Range} (a ∷ as') (b ∷ bs) → a ≡ b
  heads a b as' bs e = cc

  tails : (a b : Range) (as' bs : List Range) → ◌≡◌ {A = List Range} (a ∷ as') (b ∷ bs) → as' ≡ bs
  tails a b as' bs e = cc

  pub given : (gone : List Region) (ps : List Piece) (used : List ℕ) (x : ℕ) → map (λ (r : Region). r.range) gone ≡ piece_ranges ps →
      ShowUsed bytes ps used → AllFilled bytes gone used → All (IsWaiting rs) gone → list_any (λ (r : Region). covers r.range x) gone ≡ true →
      give_any ps x (cell_of (byte_at bytes x) (value_when_held rs x)) ≡ cell_of (byte_at bytes x) None
  given [] ps used x same shows filled waits is = absurd (true≢false (sym is))
  given (r ∷ gone) (p ∷ ps) (n ∷ used) x same shows filled waits is =
      let head : r.range ≡ p.range = heads r.range p.range (map (λ (r : Region). r.range) gone) (piece_ranges ps) same in
      let rest = tails r.range p.range (map (λ (r : Region). r.range) gone) (piece_ranges ps) same in
      elim (cases_Bool (covers p.range x)) [
        | inl in' ↦
            cond-true (covers p.range x) (give p x (cell_of (byte_at bytes x) (value_when_held rs x))) (give_any ps x (cell_of (byte_at bytes x) (value_when_held rs x))) in'
            ∙ give_piece r p n x head shows.0 shows.1 filled.0 (All-head (IsWaiting rs) r gone waits) in'
        | inr out ↦
            let more : list_any (λ (r : Region). covers r.range x) gone ≡ true = ap (λ b. b || list_any (λ (r : Region). covers r.range x) gone) (sym (ap (λ (q : Range). covers q x) head ∙ out)) ∙ is in
            cond-false (covers p.range x) (give p x (cell_of (byte_at bytes x) (value_when_held rs x)))
            (give_any ps x (cell_of (byte_at bytes x) (value_when_held rs x))) out ∙ given gone ps used x rest shows.2 filled.1
            (All-tail (IsWaiting rs) r gone waits) more
      ]
  given (r ∷ gone) [] used x same shows filled waits is = absurd cc
  given (r ∷ gone) (p ∷ ps) [] x same shows filled waits is = absurd shows

  pub untouched : (gone : List Region) (ps : List Piece) (x : ℕ) (c : Cell) → map (λ (r : Region). r.range) gone ≡ piece_ranges ps →
      list_any (λ (r : Region). covers r.range x) gone ≡ false → give_any ps x c ≡ c
  untouched [] [] x c same is = refl
  untouched (r ∷ gone) (p ∷ ps) x c same is =
      let head : r.range ≡ p.range = heads r.range p.range (map (λ (r : Region). r.range) gone) (piece_ranges ps) same in
      let rest = tails r.range p.range (map (λ (r : Region). r.range) gone) (piece_ranges ps) same in
      cond-false (covers p.range x) (give p x c) (give_any ps x c) (ap (λ (q : Range). covers q x) (sym head) ∙ or_first (covers r.range x) (list_any (λ (r : Region). covers r.range x) gone) is)
      ∙ untouched gone ps x c rest (or_rest (covers r.range x) (list_any (λ (r : Region). covers r.range x) gone) is)
    where
      or_first : (a b : Bool) → (a || b) ≡ false → a ≡ false
      or_first true b e = e
      or_first false b e = refl

      or_rest : (a b : Bool) → (a || b) ≡ false → b ≡ false
      or_rest true b e = absurd (true≢false e)
      or_rest false b e = e
  untouched [] (p ∷ ps) x c same is = absurd cc
  untouched (r ∷ gone) [] x c same is = absurd cc

  pub all_fit : (gone : List Region) (ps : List Piece) (used : List ℕ) → map (λ (r : Region). r.range) gone ≡ piece_ranges ps → ShowUsed bytes ps used → AllFilled bytes gone used → All FitsIn ps
  all_fit [] [] used same shows filled = All-nil FitsIn
  all_fit (r ∷ gone) (p ∷ ps) (n ∷ used) same shows filled =
      let head : r.range ≡ p.range = heads r.range p.range (map (λ (r : Region). r.range) gone) (piece_ranges ps) same in
      let rest = tails r.range p.range (map (λ (r : Region). r.range) gone) (piece_ranges ps) same in
      let len : r.range.len ≡ p.range.len = ap (λ (q : Range). q.len) head in
      let used_is = used_same r p n head in
      All-cons FitsIn p ps (omega (arith, shows.0, used_is, filled.0.fits, len)) (all_fit gone ps used rest shows.2 filled.1)
  all_fit [] (p ∷ ps) used same shows filled = absurd cc
  all_fit (r ∷ gone) [] used same shows filled = absurd cc
  all_fit (r ∷ gone) (p ∷ ps) [] same shows filled = absurd shows
