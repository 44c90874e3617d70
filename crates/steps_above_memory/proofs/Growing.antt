-- The parts of a Call: how they grow, and that none of them races.
use Rattle.std.proofs.Common.{◌≡◌, ℕ, zero, suc, ◌+◌, ◌<◌, true, false, List, [], ◌∷◌, ◌++◌, map, length, get_or, take, drop, All, append_assoc, refl, sym, ap, ◌∙◌, subst, arith}
use Rattle.std.proofs.lemmas.List.{append-nil, map-append, take-append-drop, take_more}
use Rattle.std.proofs.lemmas.List.Elements.{All-head, All-tail}
use Rattle.std.proofs.Math.Seq.{drop-cons}
use Rattle.marks.specs.declared.range.Range.{Range}
use Rattle.marks.specs.Ranges.{Prepared, prepared_ranges}
use Rattle.marks.specs.Marks.{Mark}
use Rattle.space_memory.specs.Spaces.{SpaceState}
use Rattle.space_memory_laws.specs.Calls.{Part, Reads, Holds, held_part, prepared_part, parts_of}
use Rattle.space_memory_laws.specs.CallChecks.{AllUnraced}
use Rattle.race_watch.specs.State.{WatchState}
use Rattle.steps_above_memory.specs.Parts.{Adds, IsMaking, IsUnraced, regions_under}

-- ---- how they grow

pub reads_more : (ins rs : List Range) → parts_of ins [] [] ++ map (held_part false) rs ≡ parts_of (ins ++ rs) [] []
reads_more [] [] = refl
reads_more [] (r ∷ rs) = ap (λ ps. Reads r ∷ ps) (reads_more [] rs)
reads_more (i ∷ ins) rs = ap (λ ps. Reads i ∷ ps) (reads_more ins rs)

pub holds_more : (ins outs rs : List Range) → parts_of ins outs [] ++ map (held_part true) rs ≡ parts_of ins (outs ++ rs) []
holds_more [] [] [] = refl
holds_more [] [] (r ∷ rs) = ap (λ ps. Holds r ∷ ps) (holds_more [] [] rs)
holds_more [] (o ∷ outs) rs = ap (λ ps. Holds o ∷ ps) (holds_more [] outs rs)
holds_more (i ∷ ins) outs rs = ap (λ ps. Reads i ∷ ps) (holds_more ins outs rs)

pub prepares_more : (ins outs : List Range) (here ps : List Prepared) → parts_of ins outs here ++ map prepared_part ps ≡ parts_of ins outs (here ++ ps)
prepares_more [] [] here ps = sym (map-append prepared_part here ps)
prepares_more [] (o ∷ outs) here ps = ap (λ qs. Holds o ∷ qs) (prepares_more [] outs here ps)
prepares_more (i ∷ ins) outs here ps = ap (λ qs. Reads i ∷ qs) (prepares_more ins outs here ps)

-- a list is those before one of its elements, that, and those after it
pub splits : {A : Type 0} (before xs after : List A) (i : ℕ) (d : A) → i < length xs → before ++ (xs ++ after) ≡ (before ++ take i xs) ++ (get_or xs i d ∷ (drop (suc i) xs ++ after))
splits before xs after i d lt =
    ap (λ l. before ++ (l ++ after)) (sym (take-append-drop i xs) ∙ ap (λ l. take i xs ++ l) (drop-cons xs i d lt))
    ∙ (ap (λ l. before ++ l) (append_assoc (take i xs) (get_or xs i d ∷ drop (suc i) xs) after)
    ∙ sym (append_assoc before (take i xs) (get_or xs i d ∷ (drop (suc i) xs ++ after))))

-- ---- what is added

pub adds_none : (t : ℕ) (watch : WatchState) (old : SpaceState) → Adds t [] watch old old
adds_none t watch old = λ program memory past before parts same h. subst (λ ps. IsMaking program memory past t ps before old) (sym (append-nil parts)) h

pub adds_next : {A : Type 0} (t : ℕ) (part : A → Part) (xs : List A) (i : ℕ) (d : A) (watch : WatchState) (old mid new : SpaceState) →
    i < length xs → Adds t (map part (take i xs)) watch old mid → Adds t (part (get_or xs i d) ∷ []) watch mid new →
    Adds t (map part (take (i + 1) xs)) watch old new
adds_next t part xs i d watch old mid new lt first then' = λ program memory past before parts same h.
    subst (λ ps. IsMaking program memory past t ps before new)
    (append_assoc parts (map part (take i xs)) (part (get_or xs i d) ∷ [])
    ∙ ap (λ ps. parts ++ ps) (sym (ap (map part) (take_more xs i d lt) ∙ map-append part (take i xs) (get_or xs i d ∷ []))))
    (then' program memory past before (parts ++ map part (take i xs)) same (first program memory past before parts same h))

-- ---- none races

module _ (past : List Mark) (t : ℕ) where
  pub unraced_reads : (ins outs : List Range) (prepared : List Prepared) → All (IsUnraced past t) (parts_of ins outs prepared) → AllUnraced past t false ins
  unraced_reads [] outs prepared h = tt
  unraced_reads (r ∷ ins) outs prepared h =
      let rest = parts_of ins outs prepared in
      (All-head (IsUnraced past t) (Reads r) rest h, unraced_reads ins outs prepared (All-tail (IsUnraced past t) (Reads r) rest h))

  unraced_prepares : (prepared : List Prepared) → All (IsUnraced past t) (map prepared_part prepared) → AllUnraced past t true (prepared_ranges prepared)
  unraced_prepares [] h = tt
  unraced_prepares (p ∷ ps) h =
      let rest = map prepared_part ps in
      (All-head (IsUnraced past t) (prepared_part p) rest h, unraced_prepares ps (All-tail (IsUnraced past t) (prepared_part p) rest h))

  pub unraced_writes : (ins outs : List Range) (prepared : List Prepared) → All (IsUnraced past t) (parts_of ins outs prepared) → AllUnraced past t true (outs ++ prepared_ranges prepared)
  unraced_writes [] [] prepared h = unraced_prepares prepared h
  unraced_writes [] (r ∷ outs) prepared h =
      let rest = parts_of [] outs prepared in
      (All-head (IsUnraced past t) (Holds r) rest h, unraced_writes [] outs prepared (All-tail (IsUnraced past t) (Holds r) rest h))
  unraced_writes (r ∷ ins) outs prepared h = unraced_writes ins outs prepared (All-tail (IsUnraced past t) (Reads r) (parts_of ins outs prepared) h)

-- ---- regions under keys

pub count_under : (ks : List ℕ) (rs : List Range) → length ks ≡ length rs → length (regions_under ks rs) ≡ length rs
count_under [] [] e = refl
count_under [] (r ∷ rs) e = absurd (omega (arith, e))
count_under (k ∷ ks) [] e = absurd (omega (arith, e))
count_under (k ∷ ks) (r ∷ rs) e = ap suc (count_under ks rs (omega (arith, e)))

pub ranges_under : (ks : List ℕ) (rs : List Range) → length ks ≡ length rs → prepared_ranges (regions_under ks rs) ≡ rs
ranges_under [] [] e = refl
ranges_under [] (r ∷ rs) e = absurd (omega (arith, e))
ranges_under (k ∷ ks) [] e = absurd (omega (arith, e))
ranges_under (k ∷ ks) (r ∷ rs) e = ap (λ qs. r ∷ qs) (ranges_under ks rs (omega (arith, e)))

pub region_at : (ks : List ℕ) (rs : List Range) (i : ℕ) (k : ℕ) (r : Range) (d : Prepared) → length ks ≡ length rs → i < length rs →
    get_or (regions_under ks rs) i d ≡ record { key = get_or ks i k; range = get_or rs i r }
region_at [] [] i k r d e lt = absurd (omega (arith, lt))
region_at [] (q ∷ rs) i k r d e lt = absurd (omega (arith, e))
region_at (j ∷ ks) [] i k r d e lt = absurd (omega (arith, e))
region_at (j ∷ ks) (q ∷ rs) zero k r d e lt = refl
region_at (j ∷ ks) (q ∷ rs) (suc i) k r d e lt = region_at ks rs i k r d (omega (arith, e)) (omega (arith, lt))
