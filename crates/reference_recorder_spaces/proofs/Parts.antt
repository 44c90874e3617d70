-- Memory refuses no part of a Call that a run makes.
use Rattle.std.proofs.Common.{◌≡◌, ℕ, ◌+◌, ◌<◌, Bool, true, false, ◌&&◌, ◌||◌, eqb, eqb-true, List, [], ◌∷◌, ◌++◌, map, length, get_or, take, drop, All, append_assoc, Some, None, inl, inr, refl, ap, sym, ◌∙◌, subst}
use Rattle.std.specs.List.{list_any}
use Rattle.std.proofs.lemmas.Bool.{cases_Bool, cond-false, eq-eqb, or_parts, true≢false}
use Rattle.std.proofs.lemmas.List.{drop_more, map-append, take-append-drop}
use Rattle.std.proofs.lemmas.List.Folds.{list_any-append}
use Rattle.std.proofs.lemmas.List.Elements.{All-cons, All-head, All-nil, All-tail}
use Rattle.marks.specs.declared.side.Side.TheVariants.{Replay}
use Rattle.marks.specs.Places.{is_constant, is_system}
use Rattle.marks.specs.declared.range.Range.{Range}
use Rattle.marks.specs.Ranges.{Prepared, any_range, covers, prepared_ranges}
use Rattle.space_memory_bytes.specs.Areas.{AreaState, IsDead}
use Rattle.space_memory_access.specs.declared.holder.OpenCall.{OpenCall}
use Rattle.space_memory_access.specs.declared.holder.Region.{Region}
use Rattle.space_memory_access.specs.Holders.{has_key}
use Rattle.space_memory_access.specs.Held.{innermost, prepared_region}
use Rattle.space_memory_access.specs.declared.access.Access.{Access}
use Rattle.space_memory_access.specs.declared.refusal.Refusal.{Refusal}
use Rattle.space_memory_access.specs.declared.refusal.Refusal.TheVariants.{NotLive, Pending, OtherSpace, ReadOnly, StackFull, KeyInUse, NoKey, Size}
use Rattle.space_memory_access.specs.Accesses.{IsRefused}
use Rattle.replay_runs.specs.Pool.{prepares_key}
use Rattle.replay_runs.specs.Rules.{Apart, DistinctKeys}
use Rattle.space_memory.specs.Cells.{is_held}
use Rattle.space_memory.specs.Spaces.{SpaceState}
use Rattle.space_memory.specs.Held.{IsPrepareRefused, region_access}
use Rattle.space_memory_laws.specs.Calls.{HaveRegions, Holds, IsFree, Part, Prepares, Reads, held_part, holder_for, is_written, prepared_part, range_of}
use Rattle.space_memory_laws.proofs.Added.{held_is}
use Rattle.space_memory_laws.proofs.Cells.{covered}
use Rattle.space_memory_laws.proofs.Refusals.{constant_to, system_in}
use Rattle.space_memory_laws.proofs.Regions.{prepared_left, waits_at}
use Rattle.reference_recorder_spaces.specs.Next.{Adds, AreApart, AreFree, IsNextPart, IsRegion, has_byte, takes_key, writes_byte}

-- ---- the first of some parts

all_first : {A : Type 0} (P : A → Type 0) (ps qs : List A) → All P (ps ++ qs) → All P ps
all_first P [] qs h = All-nil P
all_first P (p ∷ ps) qs h = All-cons P p ps (All-head P p (ps ++ qs) h) (all_first P ps qs (All-tail P p (ps ++ qs) h))

none_first : {A : Type 0} (f : A → Bool) (ps qs : List A) → list_any f (ps ++ qs) ≡ false → list_any f ps ≡ false
none_first f ps qs e = (or_parts (list_any f ps) (list_any f qs) (sym (list_any-append f ps qs) ∙ e)).0

some_first : {A : Type 0} (f : A → Bool) (ps qs : List A) → list_any f ps ≡ true → list_any f (ps ++ qs) ≡ true
some_first f ps qs e = list_any-append f ps qs ∙ ap (λ b. b || list_any f qs) e

apart_first : (ps qs : List Part) → AreApart (ps ++ qs) → AreApart ps
apart_first [] qs h = tt
apart_first (p ∷ ps) qs h = ((λ x w. none_first (has_byte x) ps qs (h.0 x w)), (λ k w. none_first (takes_key k) ps qs (h.1 k w)), apart_first ps qs h.2)

free_first : (base : SpaceState) (ps qs : List Part) → AreFree base (ps ++ qs) → AreFree base ps
free_first base ps qs f = record {
  ranges = all_first (IsFree base) ps qs f.ranges;
  apart = apart_first ps qs f.apart;
  keys = λ k w. f.keys k (some_first (takes_key k) ps qs w);
}

pub next_first : (t : ℕ) (ps qs : List Part) (memory : SpaceState) → IsNextPart t (ps ++ qs) memory → IsNextPart t ps memory
next_first t ps qs memory n = record {
  start = n.start;
  past = n.past;
  base = n.base;
  before = n.before;
  call = n.call;
  free = free_first n.base (n.before ++ ps) qs (subst (AreFree n.base) (sym (append_assoc n.before ps qs)) n.free);
}

pub next_after : (t : ℕ) (ps qs : List Part) (old new : SpaceState) → IsNextPart t (ps ++ qs) old → Adds t ps old new → IsNextPart t qs new
next_after t ps qs old new n adds = record {
  start = n.start;
  past = n.past;
  base = n.base;
  before = n.before ++ ps;
  call = adds n.start n.past n.base n.before n.call;
  free = subst (AreFree n.base) (sym (append_assoc n.before ps qs)) n.free;
}

-- an element of a list, after those before it were added
pub next_item : {A : Type 0} (t : ℕ) (part : A → Part) (xs : List A) (i : ℕ) (d : A) (old mid : SpaceState) → i < length xs →
    IsNextPart t (map part xs) old → Adds t (map part (take i xs)) old mid → IsNextPart t (part (get_or xs i d) ∷ []) mid
next_item {A} t part xs i d old mid lt n adds =
    next_first t (part (get_or xs i d) ∷ []) (map part (drop (i + 1) xs)) mid
    (next_after t (map part (take i xs)) (part (get_or xs i d) ∷ map part (drop (i + 1) xs)) old mid
    (subst (λ ps. IsNextPart t ps old) (ap (map part) (split xs i lt) ∙ map-append part (take i xs) (get_or xs i d ∷ drop (i + 1) xs)) n) adds)
  where
    split : (xs : List A) (i : ℕ) → i < length xs → xs ≡ take i xs ++ get_or xs i d ∷ drop (i + 1) xs
    split xs i lt = sym (take-append-drop i xs) ∙ ap (λ ds. take i xs ++ ds) (drop_more xs i d lt)

-- ---- the last of some parts

module _ (p : Part) where
  free_last : (base : SpaceState) (ps : List Part) → All (IsFree base) (ps ++ p ∷ []) → IsFree base p
  free_last base [] h = All-head (IsFree base) p [] h
  free_last base (q ∷ ps) h = free_last base ps (All-tail (IsFree base) q (ps ++ p ∷ []) h)

  some_last : (f : Part → Bool) (ps : List Part) → list_any f (ps ++ p ∷ []) ≡ false → f p ≡ false
  some_last f [] e = (or_parts (f p) false e).0
  some_last f (q ∷ ps) e = some_last f ps (or_parts (f q) (list_any f (ps ++ p ∷ [])) e).1

  none_written : (ps : List Part) (x : ℕ) → AreApart (ps ++ p ∷ []) → has_byte x p ≡ true → list_any (writes_byte x) ps ≡ false
  none_written [] x h c = refl
  none_written (q ∷ ps) x h c = elim (cases_Bool (writes_byte x q)) [
    | inl w ↦ absurd (true≢false (sym c ∙ some_last (has_byte x) ps (h.0 x w)))
    | inr out ↦ ap (λ b. b || list_any (writes_byte x) ps) out ∙ none_written ps x h.2 c
  ]

  none_taken : (ps : List Part) (k : ℕ) → AreApart (ps ++ p ∷ []) → takes_key k p ≡ true → list_any (takes_key k) ps ≡ false
  none_taken [] k h c = refl
  none_taken (q ∷ ps) k h c = elim (cases_Bool (takes_key k q)) [
    | inl w ↦ absurd (true≢false (sym c ∙ some_last (takes_key k) ps (h.1 k w)))
    | inr out ↦ ap (λ b. b || list_any (takes_key k) ps) out ∙ none_taken ps k h.2 c
  ]

-- ---- what memory says of it

key_of_part : (call : OpenCall) (p : Part) (k : ℕ) → has_key k (holder_for call p) ≡ takes_key k p
key_of_part call (Reads r) k = refl
key_of_part call (Holds r) k = refl
key_of_part call (Prepares j r) k = refl

no_key : (bytes : List AreaState) (call : OpenCall) (ps : List Part) (rs : List Region) (k : ℕ) → HaveRegions bytes call ps rs → list_any (takes_key k) ps ≡ false → prepared_region rs k ≡ None
no_key bytes call [] [] k h e = refl
no_key bytes call (p ∷ ps) (r ∷ rs) k h e =
    let q = or_parts (takes_key k p) (list_any (takes_key k) ps) e in
    cond-false (has_key k r.holder) (Some r) (prepared_region rs k) (ap (has_key k) h.0.holder_is ∙ key_of_part call p k ∙ q.0) ∙ no_key bytes call ps rs k h.1 q.1
no_key bytes call [] (r ∷ rs) k h e = absurd h
no_key bytes call (p ∷ ps) [] k h e = absurd h

module _ (t : ℕ) (p : Part) (memory : SpaceState) (n : IsNextPart t (p ∷ []) memory) where
  free : IsFree n.base p
  free = free_last p n.base n.before n.free.ranges

  same_bytes : memory.bytes ≡ n.base.bytes
  same_bytes = ap (λ (q : SpaceState). q.bytes) n.call.rest

  idle : (x : ℕ) → covers (range_of p) x ≡ true → is_held memory.held.regions x ≡ false
  idle x c =
      let added = n.call.regions in
      ap (λ rs. is_held rs x) added.all
      ∙ list_any-append (waits_at x) n.base.held.regions added.added
      ∙ ap (λ b. b || is_held added.added x) (free.free x c)
      ∙ held_is n.base.bytes (innermost memory.held t) n.before added.added x added.regions
      ∙ none_written p n.before x n.free.apart c

  abbrev own_range : Access
  own_range = record { side = Replay; thread = t; range = range_of p; write = is_written p }

  fine : (r : Refusal) → IsRefused memory.bytes memory.held.regions own_range r → ⊥
  fine (OtherSpace x) w = true≢false (sym (system_in x w.holds) ∙ free.own x (covered (range_of p) x w.in_range.0 w.in_range.1))
  fine (NotLive x) w = free.live x (covered (range_of p) x w.1.in_range.0 w.1.in_range.1) (subst (λ b. IsDead b x) same_bytes w.1.holds)
  fine (Pending x) w = true≢false (sym w.2.holds ∙ idle x (covered (range_of p) x w.2.in_range.0 w.2.in_range.1))
  fine (ReadOnly x) w =
      let k = constant_to (is_written p) x w.3.holds in
      true≢false (sym k.1 ∙ free.writable x (covered (range_of p) x w.3.in_range.0 w.3.in_range.1) k.0)
  fine (StackFull x) w = w
  fine (KeyInUse x) w = w
  fine (NoKey x) w = w
  fine (Size x) w = w

  unused : (k : ℕ) → takes_key k p ≡ true → prepared_region memory.held.regions k ≡ None
  unused k c =
      let added = n.call.regions in
      let last : list_any (takes_key k) (n.before ++ p ∷ []) ≡ true = list_any-append (takes_key k) n.before (p ∷ []) ∙ or_true (list_any (takes_key k) n.before) (ap (λ b. b || false) c) in
      ap (λ rs. prepared_region rs k) added.all
      ∙ prepared_left n.base.held.regions added.added k (n.free.keys k last)
      ∙ no_key n.base.bytes (innermost memory.held t) n.before added.added k added.regions (none_taken p n.before k n.free.apart c)
    where
      or_true : (a : Bool) {b : Bool} → b ≡ true → (a || b) ≡ true
      or_true true e = refl
      or_true false e = e

-- a range is held that a run's Call holds
pub may_hold : (t : ℕ) (write : Bool) (r : Range) (memory : SpaceState) → IsRegion r → IsNextPart t (held_part write r ∷ []) memory →
    (f : Refusal) → IsRefused memory.bytes memory.held.regions (region_access t r write) f → ⊥
may_hold t true r memory region n f w = fine t (Holds r) memory n f (subst (λ q. IsRefused memory.bytes memory.held.regions (record { side = Replay; thread = t; range = q; write = true }) f) region w)
may_hold t false r memory region n f w = fine t (Reads r) memory n f (subst (λ q. IsRefused memory.bytes memory.held.regions (record { side = Replay; thread = t; range = q; write = false }) f) region w)

-- and prepared, under its key
pub may_prepare : (t k : ℕ) (r : Range) (memory : SpaceState) → IsRegion r → IsNextPart t (Prepares k r ∷ []) memory →
    (f : Refusal) → IsPrepareRefused memory.bytes memory.held.regions (region_access t r true) k f → ⊥
may_prepare t k r memory region n f (inl w) = fine t (Prepares k r) memory n f (subst (λ q. IsRefused memory.bytes memory.held.regions (record { side = Replay; thread = t; range = q; write = true }) f) region w)
may_prepare t k r memory region n f (inr w) = w.1 (unused t (Prepares k r) memory n k (eq-eqb k k refl))

-- ---- the parts of a whole Call

-- a byte that a part has
pub record IsFreeByte (memory : SpaceState) (x : ℕ) : Type 0 where
  pub own : is_system x ≡ false
  pub live : IsDead memory.bytes x → ⊥
  pub free : is_held memory.held.regions x ≡ false

pub all_free : (memory : SpaceState) (ps : List Part) → ((x : ℕ) → list_any (has_byte x) ps ≡ true → IsFreeByte memory x) →
    ((x : ℕ) → list_any (writes_byte x) ps ≡ true → is_constant x ≡ false) → All (IsFree memory) ps
all_free memory [] each writable = All-nil (IsFree memory)
all_free memory (p ∷ ps) each writable = All-cons (IsFree memory) p ps
    (record {
      own = λ x c. (each x (first x c)).own;
      live = λ x c. (each x (first x c)).live;
      free = λ x c. (each x (first x c)).free;
      writable = λ x c w. writable x (ap (λ b. (b && covers (range_of p) x) || list_any (writes_byte x) ps) w ∙ ap (λ b. b || list_any (writes_byte x) ps) c);
    })
    (all_free memory ps (λ x c. each x (or_true (has_byte x p) c)) (λ x c. writable x (or_true (writes_byte x p) c)))
  where
    first : (x : ℕ) → covers (range_of p) x ≡ true → list_any (has_byte x) (p ∷ ps) ≡ true
    first x c = ap (λ b. b || list_any (has_byte x) ps) c

    or_true : (a : Bool) {b : Bool} → b ≡ true → (a || b) ≡ true
    or_true true e = refl
    or_true false e = e

-- those that are written
abbrev pub written : List Range → List Prepared → List Part
written outs prepared = map Holds outs ++ map prepared_part prepared

pub written_has : (outs : List Range) (prepared : List Prepared) (x : ℕ) → list_any (has_byte x) (written outs prepared) ≡ any_range (outs ++ prepared_ranges prepared) x
written_has [] [] x = refl
written_has [] (p ∷ ps) x = ap (λ b. covers p.range x || b) (written_has [] ps x)
written_has (r ∷ rs) ps x = ap (λ b. covers r x || b) (written_has rs ps x)

pub written_takes : (outs : List Range) (prepared : List Prepared) (k : ℕ) → list_any (takes_key k) (written outs prepared) ≡ prepares_key prepared k
written_takes [] [] k = refl
written_takes [] (p ∷ ps) k = ap (λ b. eqb p.key k || b) (written_takes [] ps k)
written_takes (r ∷ rs) ps k = written_takes rs ps k

pub written_apart : (outs : List Range) (prepared : List Prepared) → Apart (outs ++ prepared_ranges prepared) → DistinctKeys prepared → AreApart (written outs prepared)
written_apart [] [] a d = tt
written_apart [] (p ∷ ps) a d = (
  (λ x c. written_has [] ps x ∙ a.0 x c),
  (λ k e. written_takes [] ps k ∙ ap (prepares_key ps) (sym (eqb-true p.key k e)) ∙ d.0),
  written_apart [] ps a.1 d.1,
)
written_apart (r ∷ rs) ps a d = ((λ x c. written_has rs ps x ∙ a.0 x c), (λ k e. absurd (true≢false (sym e))), written_apart rs ps a.1 d)

pub reads_apart : {A : Type 0} (f : A → Range) (ins : List A) (ws : List Part) → AreApart ws → AreApart (map (λ a. Reads (f a)) ins ++ ws)
reads_apart f [] ws h = h
reads_apart f (r ∷ rs) ws h = ((λ x e. absurd (true≢false (sym e))), (λ k e. absurd (true≢false (sym e))), reads_apart f rs ws h)

pub reads_take : {A : Type 0} (f : A → Range) (ins : List A) (ws : List Part) (k : ℕ) → list_any (takes_key k) (map (λ a. Reads (f a)) ins ++ ws) ≡ list_any (takes_key k) ws
reads_take f [] ws k = refl
reads_take f (r ∷ rs) ws k = reads_take f rs ws k

pub reads_write : {A : Type 0} (f : A → Range) (ins : List A) (ws : List Part) (x : ℕ) → list_any (writes_byte x) (map (λ a. Reads (f a)) ins ++ ws) ≡ list_any (writes_byte x) ws
reads_write f [] ws x = refl
reads_write f (r ∷ rs) ws x = reads_write f rs ws x

pub written_write : (outs : List Range) (prepared : List Prepared) (x : ℕ) → list_any (writes_byte x) (written outs prepared) ≡ any_range (outs ++ prepared_ranges prepared) x
written_write [] [] x = refl
written_write [] (p ∷ ps) x = ap (λ b. covers p.range x || b) (written_write [] ps x)
written_write (r ∷ rs) ps x = ap (λ b. covers r x || b) (written_write rs ps x)
