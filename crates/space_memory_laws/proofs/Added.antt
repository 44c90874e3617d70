-- What the regions of the parts of a Call show.
use Rattle.std.proofs.Common.{◌≡◌, ℕ, ◌+◌, ◌-◌, Bool, true, false, cond, eqb, ◌&&◌, ◌||◌, List, [], ◌∷◌, ◌++◌, map, get_or, Option, Some, None, inl, inr, refl, ap, sym, ◌∙◌, arith}
use Rattle.std.specs.Prelude.{filter, option_map}
use Rattle.std.specs.List.{list_any}
use Rattle.std.proofs.lemmas.Bool.{cases_Bool, cond-true, cond-false, and_parts}
use Rattle.std.proofs.lemmas.List.Elements.{filter-append}
use Rattle.std.proofs.lemmas.List.{map-append}
use Rattle.std.proofs.lemmas.List.Folds.{list_any-append}
use Rattle.marks.specs.declared.range.Range.{Range}
use Rattle.marks.specs.Ranges.{Prepared, covers, any_range, any_prepared}
use Rattle.space_memory_bytes.specs.Areas.{AreaState, byte_at}
use Rattle.space_memory_access.specs.declared.holder.OpenCall.{OpenCall}
use Rattle.space_memory_access.specs.declared.holder.Region.{Region}
use Rattle.space_memory_access.specs.declared.holder.Holder.{Holder}
use Rattle.space_memory_access.specs.Holders.{is_pending, is_out_of, has_key, is_same_call}
use Rattle.space_memory_access.specs.Held.{prepared_region}
use Rattle.replay_runs.specs.Pool.{prepared_under}
use Rattle.space_memory.specs.Cells.{is_held}
use Rattle.space_memory.specs.Held.{IsRegionOf}
use Rattle.space_memory.specs.Releases.{outs_of}
use Rattle.space_memory_laws.specs.Shown.{value_when_held, is_in_of, ins_of}
use Rattle.space_memory_laws.specs.Calls.{Part, Reads, Holds, Prepares, range_of, is_written, holder_for, prepared_part, parts_of, HaveRegions}
use Rattle.space_memory_laws.proofs.Cells.{cover_parts}
use Rattle.space_memory_laws.proofs.Regions.{waits_at}
use Rattle.space_memory_laws.proofs.Parts.{written_waits}

-- whether a part has the address, and whether one has it that is written
abbrev pub has_byte : ℕ → Part → Bool
has_byte x p = covers (range_of p) x

abbrev pub writes_byte : ℕ → Part → Bool
writes_byte x p = is_written p && covers (range_of p) x

pub waits_as : (bytes : List AreaState) (call : OpenCall) (p : Part) (r : Region) (x : ℕ) → IsRegionOf bytes (range_of p) (holder_for call p) r → waits_at x r ≡ writes_byte x p
waits_as bytes call p r x is =
    ap (λ (h : Holder). is_pending h && covers r.range x) is.holder_is
    ∙ ap (λ b. b && covers r.range x) (written_waits call p)
    ∙ ap (λ (q : Range). is_written p && covers q x) is.range_is

-- the bytes that wait
pub held_is : (bytes : List AreaState) (call : OpenCall) (ps : List Part) (rs : List Region) (x : ℕ) → HaveRegions bytes call ps rs → is_held rs x ≡ list_any (writes_byte x) ps
held_is bytes call [] [] x h = refl
held_is bytes call (p ∷ ps) (r ∷ rs) x h = ap (λ b. b || is_held rs x) (waits_as bytes call p r x h.0) ∙ ap (λ b. writes_byte x p || b) (held_is bytes call ps rs x h.1)
held_is bytes call [] (r ∷ rs) x h = absurd h
held_is bytes call (p ∷ ps) [] x h = absurd h

-- their values are those of memory
pub value_is : (bytes : List AreaState) (call : OpenCall) (ps : List Part) (rs : List Region) (x : ℕ) → HaveRegions bytes call ps rs →
    value_when_held rs x ≡ cond (list_any (writes_byte x) ps) (byte_at bytes x) None
value_is bytes call [] [] x h = refl
value_is bytes call (p ∷ ps) (r ∷ rs) x h = elim (cases_Bool (waits_at x r)) [
  | inl waits ↦
      cond-true (waits_at x r) (Some (get_or r.before (x - r.range.addr) 0)) (value_when_held rs x) waits
      ∙ first waits
      ∙ sym (cond-true (writes_byte x p || list_any (writes_byte x) ps) (byte_at bytes x) None (ap (λ b. b || list_any (writes_byte x) ps) (sym (waits_as bytes call p r x h.0) ∙ waits)))
  | inr idle ↦
      cond-false (waits_at x r) (Some (get_or r.before (x - r.range.addr) 0)) (value_when_held rs x) idle
      ∙ value_is bytes call ps rs x h.1
      ∙ ap (λ b. cond (b || list_any (writes_byte x) ps) (byte_at bytes x) None) (sym (sym (waits_as bytes call p r x h.0) ∙ idle))
]
  where
    first : waits_at x r ≡ true → Some (get_or r.before (x - r.range.addr) 0) ≡ byte_at bytes x
    first waits =
        let k = and_parts (is_pending r.holder) (covers r.range x) waits in
        let b = h.0.before (sym (ap is_pending h.0.holder_is) ∙ k.0) in
        let c = cover_parts r.range x k.1 in
        let from : r.range.addr ≡ (range_of p).addr = ap (λ (q : Range). q.addr) h.0.range_is in
        let long : r.range.len ≡ (range_of p).len = ap (λ (q : Range). q.len) h.0.range_is in
        let at : (range_of p).addr + (x - r.range.addr) ≡ x = omega (arith, from, c.0) in
        sym (ap (byte_at bytes) (sym at) ∙ b.1 (x - r.range.addr) (omega (arith, b.0, c.0, c.1, from, long)))
value_is bytes call [] (r ∷ rs) x h = absurd h
value_is bytes call (p ∷ ps) [] x h = absurd h

-- the ranges of those that a test of holders finds
pub ranges_are : (bytes : List AreaState) (call : OpenCall) (ps : List Part) (rs : List Region) (f : Holder → Bool) →
    HaveRegions bytes call ps rs →
    map (λ (r : Region). r.range) (filter (λ (r : Region). f r.holder) rs) ≡ map (λ p. range_of p) (filter (λ p. f (holder_for call p)) ps)
ranges_are bytes call [] [] f h = refl
ranges_are bytes call (p ∷ ps) (r ∷ rs) f h =
    ap (λ (q : Holder). map (λ (r : Region). r.range) (cond (f q) (r ∷ filter (λ (r : Region). f r.holder) rs) (filter (λ (r : Region). f r.holder) rs))) h.0.holder_is
    ∙ elim (f (holder_for call p)) as
    (λ b. map (λ (r : Region). r.range)
    (cond b (r ∷ filter (λ (r : Region). f r.holder) rs) (filter (λ (r : Region). f r.holder) rs)) ≡ map (λ p. range_of p)
    (cond b (p ∷ filter (λ p. f (holder_for call p)) ps) (filter (λ p. f (holder_for call p)) ps))) [
      | true ↦ ap (λ q. q ∷ map (λ (r : Region). r.range) (filter (λ (r : Region). f r.holder) rs)) h.0.range_is ∙ ap (λ qs. range_of p ∷ qs) (ranges_are bytes call ps rs f h.1)
      | false ↦ ranges_are bytes call ps rs f h.1
    ]
ranges_are bytes call [] (r ∷ rs) f h = absurd h
ranges_are bytes call (p ∷ ps) [] f h = absurd h

-- the region of a key
prepared_in : List Part → ℕ → Option Range
prepared_in [] k = None
prepared_in (Reads r ∷ ps) k = prepared_in ps k
prepared_in (Holds r ∷ ps) k = prepared_in ps k
prepared_in (Prepares j r ∷ ps) k = cond (eqb j k) (Some r) (prepared_in ps k)

key_is : (bytes : List AreaState) (call : OpenCall) (ps : List Part) (rs : List Region) (k : ℕ) → HaveRegions bytes call ps rs →
    option_map (λ (r : Region). r.range) (prepared_region rs k) ≡ prepared_in ps k
unfolding prepared_in
key_is bytes call [] [] k h = refl
key_is bytes call (Reads q ∷ ps) (r ∷ rs) k h =
    ap (λ (o : Holder). option_map (λ (r : Region). r.range) (cond (has_key k o) (Some r) (prepared_region rs k))) h.0.holder_is
    ∙ key_is bytes call ps rs k h.1
key_is bytes call (Holds q ∷ ps) (r ∷ rs) k h =
    ap (λ (o : Holder). option_map (λ (r : Region). r.range) (cond (has_key k o) (Some r) (prepared_region rs k))) h.0.holder_is
    ∙ key_is bytes call ps rs k h.1
key_is bytes call (Prepares j q ∷ ps) (r ∷ rs) k h =
    ap (λ (o : Holder). option_map (λ (r : Region). r.range) (cond (has_key k o) (Some r) (prepared_region rs k))) h.0.holder_is
    ∙ elim (eqb j k) as (λ b. option_map (λ (r : Region). r.range) (cond b (Some r) (prepared_region rs k)) ≡ cond b (Some q) (prepared_in ps k)) [
      | true ↦ ap (λ (z : Range). Some z) h.0.range_is
      | false ↦ key_is bytes call ps rs k h.1
    ]
key_is bytes call [] (r ∷ rs) k h = absurd h
key_is bytes call (Reads q ∷ ps) [] k h = absurd h
key_is bytes call (Holds q ∷ ps) [] k h = absurd h
key_is bytes call (Prepares j q ∷ ps) [] k h = absurd h

-- the parts of a Call, kind by kind
pub reads_none : (ins : List Range) (x : ℕ) → list_any (writes_byte x) (map Reads ins) ≡ false
reads_none [] x = refl
reads_none (r ∷ rs) x = reads_none rs x

pub reads_any : (ins : List Range) (x : ℕ) → list_any (has_byte x) (map Reads ins) ≡ any_range ins x
reads_any [] x = refl
reads_any (r ∷ rs) x = ap (λ b. covers r x || b) (reads_any rs x)

pub holds_any : (outs : List Range) (x : ℕ) → list_any (writes_byte x) (map Holds outs) ≡ any_range outs x
holds_any [] x = refl
holds_any (r ∷ rs) x = ap (λ b. covers r x || b) (holds_any rs x)

pub prepares_any : (prepared : List Prepared) (x : ℕ) → list_any (writes_byte x) (map prepared_part prepared) ≡ any_prepared prepared x
prepares_any [] x = refl
prepares_any (p ∷ ps) x = ap (λ b. covers p.range x || b) (prepares_any ps x)

pub written_any : (ins outs : List Range) (prepared : List Prepared) (x : ℕ) → list_any (writes_byte x) (parts_of ins outs prepared) ≡ (any_range outs x || any_prepared prepared x)
written_any ins outs prepared x =
    list_any-append (writes_byte x) (map Reads ins) (map Holds outs ++ map prepared_part prepared)
    ∙ ap (λ b. b || list_any (writes_byte x) (map Holds outs ++ map prepared_part prepared)) (reads_none ins x)
    ∙ list_any-append (writes_byte x) (map Holds outs) (map prepared_part prepared)
    ∙ ap (λ b. b || list_any (writes_byte x) (map prepared_part prepared)) (holds_any outs x)
    ∙ ap (λ b. any_range outs x || b) (prepares_any prepared x)

-- a test that tells nothing within a kind
kept : {A : Type 0} (f : A → Part) (g : Part → Bool) (b : Bool) → ((a : A) → g (f a) ≡ b) → (xs : List A) → filter g (map f xs) ≡ cond b (map f xs) []
kept f g true all [] = refl
kept f g false all [] = refl
kept f g true all (a ∷ xs) = ap (λ c. cond c (f a ∷ filter g (map f xs)) (filter g (map f xs))) (all a) ∙ ap (λ ys. f a ∷ ys) (kept f g true all xs)
kept f g false all (a ∷ xs) = ap (λ c. cond c (f a ∷ filter g (map f xs)) (filter g (map f xs))) (all a) ∙ kept f g false all xs

read_ranges : (ins : List Range) → map (λ p. range_of p) (map Reads ins) ≡ ins
read_ranges [] = refl
read_ranges (r ∷ rs) = ap (λ qs. r ∷ qs) (read_ranges rs)

held_ranges : (outs : List Range) → map (λ p. range_of p) (map Holds outs) ≡ outs
held_ranges [] = refl
held_ranges (r ∷ rs) = ap (λ qs. r ∷ qs) (held_ranges rs)

module _ (bytes : List AreaState) (call : OpenCall) (ins outs : List Range) (prepared : List Prepared) (rs : List Region) (h : HaveRegions bytes call (parts_of ins outs prepared) rs) where
  split : (g : Part → Bool) → filter g (parts_of ins outs prepared) ≡ filter g (map Reads ins) ++ (filter g (map Holds outs) ++ filter g (map prepared_part prepared))
  split g = filter-append g (map Reads ins) (map Holds outs ++ map prepared_part prepared) ∙ ap (λ qs. filter g (map Reads ins) ++ qs) (filter-append g (map Holds outs) (map prepared_part prepared))

  abbrev ranges : List Part → List Range
  ranges ps = map (λ p. range_of p) ps

  nil_right : (qs : List Range) → qs ++ [] ≡ qs
  nil_right [] = refl
  nil_right (q ∷ qs) = ap (λ ks. q ∷ ks) (nil_right qs)

  -- what one call reads of them, and what it holds
  pub added_ins : (other : OpenCall) → map (λ (r : Region). r.range) (ins_of other rs) ≡ cond (is_same_call call other) ins []
  added_ins other =
      let g : Part → Bool = λ p. is_in_of other (holder_for call p) in
      ranges_are bytes call (parts_of ins outs prepared) rs (is_in_of other) h
      ∙ ap ranges (split g)
      ∙ ap (λ ps. ranges (filter g (map Reads ins) ++ (ps ++ filter g (map prepared_part prepared)))) (kept Holds g false (λ r. refl) outs)
      ∙ ap (λ ps. ranges (filter g (map Reads ins) ++ ps)) (kept prepared_part g false (λ p. refl) prepared)
      ∙ map-append (λ (p : Part). range_of p) (filter g (map Reads ins)) []
      ∙ nil_right (ranges (filter g (map Reads ins)))
      ∙ ap ranges (kept Reads g (is_same_call call other) (λ r. refl) ins)
      ∙ elim (is_same_call call other) as (λ b. ranges (cond b (map Reads ins) []) ≡ cond b ins []) [ true ↦ read_ranges ins | false ↦ refl ]

  pub added_outs : (other : OpenCall) → map (λ (r : Region). r.range) (outs_of other rs) ≡ cond (is_same_call call other) outs []
  added_outs other =
      let g : Part → Bool = λ p. is_out_of other (holder_for call p) in
      ranges_are bytes call (parts_of ins outs prepared) rs (is_out_of other) h
      ∙ ap ranges (split g)
      ∙ ap (λ ps. ranges (ps ++ (filter g (map Holds outs) ++ filter g (map prepared_part prepared)))) (kept Reads g false (λ r. refl) ins)
      ∙ ap (λ ps. ranges (filter g (map Holds outs) ++ ps)) (kept prepared_part g false (λ p. refl) prepared)
      ∙ map-append (λ (p : Part). range_of p) (filter g (map Holds outs)) []
      ∙ nil_right (ranges (filter g (map Holds outs)))
      ∙ ap ranges (kept Holds g (is_same_call call other) (λ r. refl) outs)
      ∙ elim (is_same_call call other) as (λ b. ranges (cond b (map Holds outs) []) ≡ cond b outs []) [ true ↦ held_ranges outs | false ↦ refl ]

  pub added_key : (k : ℕ) → option_map (λ (r : Region). r.range) (prepared_region rs k) ≡ prepared_under prepared k None
  unfolding prepared_in
  added_key k = key_is bytes call (parts_of ins outs prepared) rs k h ∙ past_reads ins
    where
      last : (ps : List Prepared) → prepared_in (map prepared_part ps) k ≡ prepared_under ps k None
      last [] = refl
      last (p ∷ ps) = ap (λ o. cond (eqb p.key k) (Some p.range) o) (last ps)

      past_holds : (rs : List Range) → prepared_in (map Holds rs ++ map prepared_part prepared) k ≡ prepared_under prepared k None
      past_holds [] = last prepared
      past_holds (r ∷ rs) = past_holds rs

      past_reads : (rs : List Range) → prepared_in (map Reads rs ++ (map Holds outs ++ map prepared_part prepared)) k ≡ prepared_under prepared k None
      past_reads [] = past_holds outs
      past_reads (r ∷ rs) = past_reads rs
