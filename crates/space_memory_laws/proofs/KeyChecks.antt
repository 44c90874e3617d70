-- A key that refuses a Call is what its checks find.
use Rattle.std.proofs.Common.{◌≡◌, ◌⊎◌, ℕ, Bool, true, false, ◌||◌, List, [], ◌∷◌, ◌++◌, None, inl, inr, refl, ap, sym, ◌∙◌, subst, arith}
use Rattle.std.proofs.lemmas.Bool.{cases_Bool, true≢false}
use Rattle.std.proofs.lemmas.List.{append-nil, append_assoc, map-append}
use Rattle.marks.specs.declared.side.Side.TheVariants.{Replay}
use Rattle.marks.specs.declared.breach.BreachKind.TheVariants as breach
use Rattle.marks.specs.declared.range.Range.{Range}
use Rattle.marks.specs.Ranges.{Prepared, covers, any_range, prepared_ranges}
use Rattle.marks.specs.Marks.{Mark}
use Rattle.marks.specs.Wants.{Calls}
use Rattle.space_memory_access.specs.declared.refusal.Refusal.{Refusal}
use Rattle.space_memory_access.specs.declared.refusal.Refusal.TheVariants.{NotLive, Pending, OtherSpace, ReadOnly, StackFull, KeyInUse, NoKey, Size}
use Rattle.space_memory_access.specs.Accesses.{IsRefused}
use Rattle.replay_runs.specs.Runs.{Start}
use Rattle.replay_runs.specs.Interface.{Interface}
use Rattle.replay_runs.specs.Pool.{prepares_key, in_use}
use Rattle.replay_runs.specs.Rules.{Apart}
use Rattle.replay_runs.specs.Checks.{Finding, BreachFound, Done, Finds, any_number, key_checks, checks}
use Rattle.space_memory.specs.Spaces.{SpaceState}
use Rattle.space_memory.specs.Cells.{is_held}
use Rattle.space_memory.specs.Held.{region_access, IsPrepareRefused}
use Rattle.space_memory_laws.specs.Refusals.{finding_of, access}
use Rattle.space_memory_laws.specs.Calls.{Reads, Holds, prepared_part, parts_of, IsFree}
use Rattle.space_memory_laws.specs.CallChecks.{PartsGrow, Wanted, IsPreparing}
use Rattle.space_memory_laws.proofs.Cells.{covered}
use Rattle.space_memory_laws.proofs.Refusals.{system_in, constant_to}
use Rattle.space_memory_laws.proofs.CallRules.{any_both}
use Rattle.space_memory_laws.proofs.Passing.{AllFree, free_reads, free_holds, piled, keys_of, piled_key, past_keys}
use Rattle.space_memory_laws.proofs.CallChecks.{held_mid, bytes_mid, apart_mid, distinct_mid, free_keys_mid, no_region_mid, onward, wanted_checks, all_ranges}

-- the parts of a Call grow
reads_grow : (ins : List Range) (r : Range) → parts_of ins [] [] ++ Reads r ∷ [] ≡ parts_of (ins ++ r ∷ []) [] []
reads_grow [] r = refl
reads_grow (q ∷ ins) r = ap (λ ps. Reads q ∷ ps) (reads_grow ins r)

holds_grow : (ins outs : List Range) (r : Range) → parts_of ins outs [] ++ Holds r ∷ [] ≡ parts_of ins (outs ++ r ∷ []) []
holds_grow [] [] r = refl
holds_grow [] (q ∷ outs) r = ap (λ ps. Holds q ∷ ps) (holds_grow [] outs r)
holds_grow (q ∷ ins) outs r = ap (λ ps. Reads q ∷ ps) (holds_grow ins outs r)

prepares_grow : (ins outs : List Range) (prepared : List Prepared) (p : Prepared) → parts_of ins outs prepared ++ prepared_part p ∷ [] ≡ parts_of ins outs (prepared ++ p ∷ [])
prepares_grow [] [] [] p = refl
prepares_grow [] [] (q ∷ prepared) p = ap (λ ps. prepared_part q ∷ ps) (prepares_grow [] [] prepared p)
prepares_grow [] (q ∷ outs) prepared p = ap (λ ps. Holds q ∷ ps) (prepares_grow [] outs prepared p)
prepares_grow (q ∷ ins) outs prepared p = ap (λ ps. Reads q ∷ ps) (prepares_grow ins outs prepared p)

pub grow : (ins outs : List Range) (prepared : List Prepared) → PartsGrow ins outs prepared
grow ins outs prepared = record { reads = reads_grow ins; holds = holds_grow ins outs; prepares = prepares_grow ins outs prepared }

-- one of several ranges
free_one : (base : SpaceState) (pre post : List Range) (r : Range) → AllFree base true (pre ++ r ∷ post) → IsFree base (Holds r)
free_one base [] post r h = h.0
free_one base (q ∷ pre) post r h = free_one base pre post r h.1

apart_one : (pre post : List Range) (r : Range) (x : ℕ) → Apart (pre ++ r ∷ post) → covers r x ≡ true → any_range pre x ≡ false
apart_one [] post r x h in' = refl
apart_one (q ∷ pre) post r x h in' = elim (cases_Bool (covers q x)) [
  | inl both ↦ absurd (true≢false (sym (there pre) ∙ h.0 x both))
  | inr out ↦ ap (λ b. b || any_range pre x) out ∙ apart_one pre post r x h.1 in'
]
  where
    there : (qs : List Range) → any_range (qs ++ r ∷ post) x ≡ true
    there [] = ap (λ b. b || any_range post x) in'
    there (k ∷ qs) = ap (λ b. covers k x || b) (there qs) ∙ or_true (covers k x)
      where
        or_true : (b : Bool) → (b || true) ≡ true
        or_true true = refl
        or_true false = refl

module _ (i : Interface) (s : Start) (past : List Mark) (base tested memory : SpaceState) (t : ℕ) (indirect : Bool) (func : ℕ)
    (args : List ℕ) (ins outs : List Range) (before after : List Prepared) (p : Prepared) (given : Range)
    (w : Wanted i indirect func args ins outs (before ++ p ∷ after))
    (k : IsPreparing s past t ins outs (before ++ p ∷ after) before given p.range base tested memory) where
  abbrev held : List Range
  held = outs ++ prepared_ranges (before ++ p ∷ after)

  held_is : held ≡ (outs ++ prepared_ranges before) ++ p.range ∷ prepared_ranges after
  held_is = ap (λ rs. outs ++ rs) (map-append (λ (q : Prepared). q.range) before (p ∷ after)) ∙ sym (append_assoc outs (prepared_ranges before) (p.range ∷ prepared_ranges after))

  all_free : AllFree base true held
  all_free = subst (AllFree base true) (append-nil held) (free_holds base ins held [] k.test.free)

  all_apart : Apart held
  all_apart = subst Apart (append-nil held) (apart_mid s past t ins held [] base tested k.test)

  own_free : IsFree base (Holds p.range)
  own_free = free_one base (outs ++ prepared_ranges before) (prepared_ranges after) p.range (subst (AllFree base true) held_is all_free)

  own_apart : (x : ℕ) → covers p.range x ≡ true → any_range (outs ++ prepared_ranges before) x ≡ false
  own_apart x in' = apart_one (outs ++ prepared_ranges before) (prepared_ranges after) p.range x (subst Apart held_is all_apart) in'

  -- the range was tested
  range_fine : (f : Refusal) → IsRefused base.bytes memory.held.regions (access t p.range.addr p.range.len true) f → ⊥
  range_fine (OtherSpace x) r = true≢false (sym (system_in x r.holds) ∙ own_free.own x (covered p.range x r.in_range.0 r.in_range.1))
  range_fine (NotLive x) r = own_free.live x (covered p.range x r.1.in_range.0 r.1.in_range.1) r.1.holds
  range_fine (Pending x) r =
      let c = covered p.range x r.2.in_range.0 r.2.in_range.1 in
      let idle : is_held memory.held.regions x ≡ false = held_mid s past t ins outs before base memory k.call x ∙ ap
      (λ b. is_held base.held.regions x || b) (sym (any_both outs before x) ∙ own_apart x c) ∙ ap (λ b. b || false)
      (own_free.free x c) in
      true≢false (sym r.2.holds ∙ idle)
  range_fine (ReadOnly x) r = true≢false (sym (constant_to true x r.3.holds).1 ∙ own_free.writable x (covered p.range x r.3.in_range.0 r.3.in_range.1) refl)
  range_fine (StackFull x) r = r
  range_fine (KeyInUse x) r = r
  range_fine (NoKey x) r = r
  range_fine (Size x) r = r

  is_used : (prepared_none : (prepares_key before p.key ≡ false → in_use s p.key past ≡ None → ⊥)) → ((in_use s p.key past ≡ None → ⊥) ⊎ (any_number (piled (keys_of before) []) p.key ≡ true))
  is_used prepared_none = elim (cases_Bool (prepares_key before p.key)) [
    | inl here ↦ inr (piled_key before [] p.key ∙ ap (λ b. b || false) here)
    | inr not ↦ inl (prepared_none not)
  ]

  key_found : IsPrepareRefused memory.bytes memory.held.regions (region_access t given true) p.key (KeyInUse p.key) → Finds (key_checks s past (piled (keys_of before) []) (p ∷ after) Done) (BreachFound breach.KeyInUse p.key None)
  key_found (inl range) = absurd range
  key_found (inr why) = inl (p.key, ((refl, is_used (λ unused none. why.1 (no_region_mid s past t ins outs before base memory k.call p.key none unused))), λ y bad. omega (arith, bad.0)), refl)

  on_key : IsPrepareRefused memory.bytes memory.held.regions (region_access t given true) p.key (KeyInUse p.key) → Finds (checks i s past t (Calls indirect func args)) (BreachFound breach.KeyInUse p.key None)
  on_key refused =
      let F : Finding = BreachFound breach.KeyInUse p.key None in
      wanted_checks (λ cs. Finds cs F) (onward F) i s past t indirect func args ins outs (before ++ p ∷ after) w
      (all_ranges i s past base memory t indirect func args (λ cs. Finds cs F) (onward F) ins held outs (before ++ p ∷ after)
      (before ++ p ∷ after) refl (free_reads base ins outs before k.call.free) all_free all_apart k.call.stands k.unraced_ins k.unraced
      (past_keys (λ cs. Finds cs F) (onward F) s past t base k.call.stands before (p ∷ after) [] Done (free_keys_mid s past t ins outs before base memory k.call) (distinct_mid s past t ins outs before base memory k.call) (λ j in'. refl)
      (key_found refused)))

  pub refused_key : (f : Refusal) → IsPrepareRefused memory.bytes memory.held.regions (region_access t given true) p.key f → Finds (checks i s past t (Calls indirect func args)) (finding_of f)
  refused_key f (inl range) =
      absurd (range_fine f (subst (λ (q : Range). IsRefused base.bytes memory.held.regions
      (record { side = Replay; thread = t; range = q; write = true }) f) k.region
      (subst (λ b. IsRefused b memory.held.regions (region_access t given true) f)
      (bytes_mid s past t ins outs before base memory k.call) range)))
  refused_key f (inr why) = subst (λ g. Finds (checks i s past t (Calls indirect func args)) (finding_of g)) (sym why.2) (on_key (inr (why.0, why.1, refl)))
