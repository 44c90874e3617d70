-- The regions that a call gives back, one after another, and why that is refused.
use Rattle.std.proofs.Common.{◌≡◌, ℕ, suc, ◌+◌, ◌<◌, ◌^◌, true, false, List, [], ◌∷◌, ◌++◌, length, get_or, drop, All, Option, Some, None, refl, ap, sym, ◌∙◌, subst, inl, inr, arith}
use Rattle.std.specs.Option.{option_to_list}
use Rattle.std.proofs.Math.Seq.{drop-cons}
use Rattle.std.proofs.lemmas.Bool.{cond-true, cond-false, cases_Bool}
use Rattle.std.proofs.lemmas.List.{append-nil}
use Rattle.std.proofs.lemmas.List.Elements.{All-head, All-tail}
use Rattle.space_memory_bytes.specs.Areas.{AreaState}
use Rattle.space_memory_access.specs.declared.holder.OpenCall.{OpenCall}
use Rattle.space_memory_access.specs.declared.holder.Region.{Region}
use Rattle.space_memory_access.specs.declared.holder.Holder.{Holder}
use Rattle.space_memory_access.specs.declared.holder.Holder.TheVariants.{In, Out, Key}
use Rattle.space_memory_access.specs.Holders.{is_out_of, is_pending, has_key}
use Rattle.space_memory_access.specs.Held.{prepared_region}
use Rattle.space_memory_access.specs.declared.refusal.Refusal.{Refusal}
use Rattle.space_memory_access.specs.declared.refusal.Refusal.TheVariants.{NotLive, Pending, OtherSpace, ReadOnly, StackFull, KeyInUse, NoKey, Size}
use Rattle.space_memory.specs.Spaces.{IsWhole}
use Rattle.space_memory.specs.Releases.{outs_of, IsFilled, AllFilled, FirstUnfilled, committed, LacksKey, HasKey, AllReturned, IsReleaseRefused}

module _ (call : OpenCall) (at : ℕ) (regions : List Region) (d : Region) (lt : at < length regions) where
  step : drop at regions ≡ get_or regions at d ∷ drop (at + 1) regions
  step =
      let next : suc at ≡ at + 1 = omega arith in
      drop-cons regions at d lt ∙ ap (λ (k : ℕ). get_or regions at d ∷ drop k regions) next

  -- a region that the call holds to write is the first of those from it on
  pub outs_take : is_out_of call (get_or regions at d).holder ≡ true → outs_of call (drop at regions) ≡ get_or regions at d ∷ outs_of call (drop (at + 1) regions)
  outs_take is =
      ap (λ (rs : List Region). outs_of call rs) step
      ∙ cond-true (is_out_of call (get_or regions at d).holder) (get_or regions at d ∷ outs_of call (drop (at + 1) regions)) (outs_of call (drop (at + 1) regions)) is

  -- any other is none of them
  pub outs_skip : is_out_of call (get_or regions at d).holder ≡ false → outs_of call (drop at regions) ≡ outs_of call (drop (at + 1) regions)
  outs_skip is =
      ap (λ (rs : List Region). outs_of call rs) step
      ∙ cond-false (is_out_of call (get_or regions at d).holder) (get_or regions at d ∷ outs_of call (drop (at + 1) regions)) (outs_of call (drop (at + 1) regions)) is

-- where all are filled, none is the first that isn't
all_not_first : (bytes : List AreaState) (rs : List Region) (used : List ℕ) (x : ℕ) → AllFilled bytes rs used → FirstUnfilled bytes rs used x → ⊥
all_not_first bytes [] used x all first = first
all_not_first bytes (r ∷ rs) [] x all first = first
all_not_first bytes (r ∷ rs) (n ∷ ns) x all (inl here) = here.0 all.0
all_not_first bytes (r ∷ rs) (n ∷ ns) x all (inr later) = all_not_first bytes rs ns x all.1 later.1

-- one is the first
first_once : (bytes : List AreaState) (rs : List Region) (used : List ℕ) (x y : ℕ) → FirstUnfilled bytes rs used x → FirstUnfilled bytes rs used y → x ≡ y
first_once bytes [] used x y p q = absurd p
first_once bytes (r ∷ rs) [] x y p q = absurd p
first_once bytes (r ∷ rs) (n ∷ ns) x y (inl p) (inl q) = p.1 ∙ sym q.1
first_once bytes (r ∷ rs) (n ∷ ns) x y (inl p) (inr q) = absurd (p.0 q.0)
first_once bytes (r ∷ rs) (n ∷ ns) x y (inr p) (inl q) = absurd (q.0 p.0)
first_once bytes (r ∷ rs) (n ∷ ns) x y (inr p) (inr q) = first_once bytes rs ns x y p.1 q.1

-- it is the first of more regions too
first_append : (bytes : List AreaState) (rs more : List Region) (used sizes : List ℕ) (x : ℕ) → FirstUnfilled bytes rs used x → FirstUnfilled bytes (rs ++ more) (used ++ sizes) x
first_append bytes [] more used sizes x first = absurd first
first_append bytes (r ∷ rs) more [] sizes x first = absurd first
first_append bytes (r ∷ rs) more (n ∷ ns) sizes x (inl here) = inl here
first_append bytes (r ∷ rs) more (n ∷ ns) sizes x (inr later) = inr (later.0, first_append bytes rs more ns sizes x later.1)

-- after filled ones the next is the first
first_last : (bytes : List AreaState) (rs : List Region) (used : List ℕ) (r : Region) (n : ℕ) → length used ≡ length rs → AllFilled bytes rs used → (IsFilled bytes n r → ⊥) → FirstUnfilled bytes (rs ++ r ∷ []) (used ++ n ∷ []) r.range.addr
first_last bytes [] [] r n len all none = inl (none, refl)
first_last bytes [] (m ∷ used) r n len all none = absurd (omega arith)
first_last bytes (q ∷ rs) [] r n len all none = absurd (omega arith)
first_last bytes (q ∷ rs) (m ∷ used) r n len all none = inr (all.0, first_last bytes rs used r n (omega arith) all.1 none)

-- and a filled one more leaves all filled
all_last : (bytes : List AreaState) (rs : List Region) (used : List ℕ) (r : Region) (n : ℕ) → length used ≡ length rs → AllFilled bytes rs used → IsFilled bytes n r → AllFilled bytes (rs ++ r ∷ []) (used ++ n ∷ [])
all_last bytes [] [] r n len all here = (here, tt)
all_last bytes [] (m ∷ used) r n len all here = absurd (omega arith)
all_last bytes (q ∷ rs) [] r n len all here = absurd (omega arith)
all_last bytes (q ∷ rs) (m ∷ used) r n len all here = (all.0, all_last bytes rs used r n (omega arith) all.1 here)

lacks_one : (regions : List Region) (commit : Option (ℕ × ℕ)) (x y : ℕ) → LacksKey regions commit x → LacksKey regions commit y → x ≡ y
lacks_one regions None x y p q = absurd p
lacks_one regions (Some c) x y p q = p.1 ∙ sym q.1

-- the region of a key is whole
pub prepared_whole : (regions : List Region) (key : ℕ) (r : Region) → All IsWhole regions → prepared_region regions key ≡ Some r → (length r.before ≡ r.range.len) × (r.range.addr + r.range.len < 2 ^ 64)
prepared_whole [] key r whole is = absurd (cc)
prepared_whole (q ∷ rest) key r whole is = elim (cases_Bool (has_key key q.holder)) [
  | inl here ↦
      let same : q ≡ r = (let e : ◌≡◌ {A = Option Region} (Some q) (Some r) = sym (cond-true (has_key key q.holder) (Some q) (prepared_region rest key) here) ∙ is in cc) in
      subst (λ (s : Region). (length s.before ≡ s.range.len) × (s.range.addr + s.range.len < 2 ^ 64)) same (All-head IsWhole q rest whole (pending q.holder here))
  | inr other ↦ prepared_whole rest key r (All-tail IsWhole q rest whole) (sym (cond-false (has_key key q.holder) (Some q) (prepared_region rest key) other) ∙ is)
]
  where
    pending : (h : Holder) → has_key key h ≡ true → is_pending h ≡ true
    pending (In call) h = absurd (cc)
    pending (Out call) h = refl
    pending (Key own by) h = refl

module _ (bytes : List AreaState) (regions : List Region) (call : OpenCall) (used : List ℕ) where
  -- a return is refused for one cause
  pub release_once : (commit : Option (ℕ × ℕ)) (r q : Refusal) → IsReleaseRefused bytes regions call used commit r → IsReleaseRefused bytes regions call used commit q → r ≡ q
  release_once commit (NoKey x) (NoKey y) p q = ap (λ k. NoKey k) (lacks_one regions commit x y p q)
  release_once commit (NoKey x) (Size y) p q = absurd (q.0 x p)
  release_once commit (Size x) (NoKey y) p q = absurd (p.0 y q)
  release_once commit (Size x) (Size y) p q = ap (λ k. Size k) (first_once bytes _ _ x y p.1 q.1)
  release_once commit (NotLive x) q p r = absurd p
  release_once commit (Pending x) q p r = absurd p
  release_once commit (OtherSpace x) q p r = absurd p
  release_once commit (ReadOnly x) q p r = absurd p
  release_once commit (StackFull x) q p r = absurd p
  release_once commit (KeyInUse x) q p r = absurd p
  release_once commit r (NotLive x) p q = absurd q
  release_once commit r (Pending x) p q = absurd q
  release_once commit r (OtherSpace x) p q = absurd q
  release_once commit r (ReadOnly x) p q = absurd q
  release_once commit r (StackFull x) p q = absurd q
  release_once commit r (KeyInUse x) p q = absurd q

  -- and only if it isn't right
  pub release_clash : (commit : Option (ℕ × ℕ)) (r : Refusal) → HasKey regions commit × AllReturned bytes regions call used commit → IsReleaseRefused bytes regions call used commit r → ⊥
  release_clash commit (NoKey x) ok p = ok.0 x p
  release_clash commit (Size x) ok p = all_not_first bytes _ _ x ok.1 p.1
  release_clash commit (NotLive x) ok p = p
  release_clash commit (Pending x) ok p = p
  release_clash commit (OtherSpace x) ok p = p
  release_clash commit (ReadOnly x) ok p = p
  release_clash commit (StackFull x) ok p = p
  release_clash commit (KeyInUse x) ok p = p

  -- nothing is committed: the regions of the call decide
  pub size_none : (commit : Option (ℕ × ℕ)) (now : List Region) (x : ℕ) → commit ≡ None → now ≡ regions → FirstUnfilled bytes (outs_of call now) used x → IsReleaseRefused bytes regions call used commit (Size x)
  size_none commit now x none same first =
      let first' = subst (λ (rs : List Region). FirstUnfilled bytes (outs_of call rs) used x) same first in
      subst (λ (c : Option (ℕ × ℕ)). IsReleaseRefused bytes regions call used c (Size x)) (sym none)
      (λ key lacks. lacks, first_append bytes (outs_of call regions) [] used [] x first')

  pub all_none : (commit : Option (ℕ × ℕ)) (now : List Region) → commit ≡ None → now ≡ regions → AllFilled bytes (outs_of call now) used → HasKey regions commit × AllReturned bytes regions call used commit
  all_none commit now none same all =
      let all' = subst (λ (rs : List Region). AllFilled bytes (outs_of call rs) used) same all in
      subst (λ (c : Option (ℕ × ℕ)). HasKey regions c × AllReturned bytes regions call used c) (sym none) (
        λ key lacks. lacks,
        subst (λ (rs : List Region). AllFilled bytes rs (used ++ [])) (sym (append-nil (outs_of call regions)))
            (subst (λ (ns : List ℕ). AllFilled bytes (outs_of call regions) ns) (sym (append-nil used)) all'),
      )

  module _ (commit : Option (ℕ × ℕ)) (key size : ℕ) (is : commit ≡ Some (key, size)) where
    -- the key isn't in use
    pub no_key : None ≡ prepared_region regions key → IsReleaseRefused bytes regions call used commit (NoKey key)
    no_key none = subst (λ (c : Option (ℕ × ℕ)). IsReleaseRefused bytes regions call used c (NoKey key)) (sym is) (sym none, refl)

    module _ (r : Region) (found : Some r ≡ prepared_region regions key) where
      has_key_here : HasKey regions (Some (key, size))
      has_key_here k lacks = (let wrong : ◌≡◌ {A = Option Region} (Some r) None = found ∙ lacks.0 in absurd (cc))

      committed_is : committed regions (Some (key, size)) ≡ r ∷ []
      committed_is = ap (λ (o : Option Region). option_to_list o) (sym found)

      -- it is, and a region of the call decides
      pub size_out : (now : List Region) (x : ℕ) → now ≡ regions → FirstUnfilled bytes (outs_of call now) used x → IsReleaseRefused bytes regions call used commit (Size x)
      size_out now x same first =
          let first' = subst (λ (rs : List Region). FirstUnfilled bytes (outs_of call rs) used x) same first in
          subst (λ (c : Option (ℕ × ℕ)). IsReleaseRefused bytes regions call used c (Size x)) (sym is)
          (has_key_here, first_append bytes (outs_of call regions) (committed regions (Some (key, size))) used (size ∷ []) x first')

      -- or the committed one does
      pub size_committed : (now : List Region) → now ≡ regions → length used ≡ length (outs_of call regions) → AllFilled bytes (outs_of call now) used → (IsFilled bytes size r → ⊥) → IsReleaseRefused bytes regions call used commit (Size r.range.addr)
      size_committed now same len all none =
          let all' = subst (λ (rs : List Region). AllFilled bytes (outs_of call rs) used) same all in
          subst (λ (c : Option (ℕ × ℕ)). IsReleaseRefused bytes regions call used c (Size r.range.addr)) (sym is)
          (has_key_here, subst (λ (last : List Region). FirstUnfilled bytes (outs_of call regions ++ last) (used ++ size ∷ []) r.range.addr) (sym committed_is) (first_last bytes (outs_of call regions) used r size len all' none))

      -- or all is right
      pub all_committed : (now : List Region) → now ≡ regions → length used ≡ length (outs_of call regions) → AllFilled bytes (outs_of call now) used → IsFilled bytes size r → HasKey regions commit × AllReturned bytes regions call used commit
      all_committed now same len all here =
          let all' = subst (λ (rs : List Region). AllFilled bytes (outs_of call rs) used) same all in
          subst (λ (c : Option (ℕ × ℕ)). HasKey regions c × AllReturned bytes regions call used c) (sym is)
          (has_key_here, subst (λ (last : List Region). AllFilled bytes (outs_of call regions ++ last) (used ++ size ∷ [])) (sym committed_is) (all_last bytes (outs_of call regions) used r size len all' here))
