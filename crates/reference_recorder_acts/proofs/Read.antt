-- Loads and stores.
use Rattle.std.proofs.Common.{◌≡◌, ◌⊎◌, inl, inr, ℕ, suc, ◌+◌, ◌-◌, ◌<◌, ◌≤◌, true, false, ◌&&◌, eqb, List, [], ◌∷◌, ◌++◌, length, get_or, Option, Some, None, is_some, refl, sym, ap, ◌∙◌, subst, arith, eq-eqb}
use Rattle.std.proofs.Math.Seq.{get_or-append_seam}
use Rattle.std.proofs.lemmas.Bool.{and_from, and_parts, cases_lt, le-leb, lt-ltb, leb-true, ltb-true}
use Rattle.std.proofs.lemmas.List.{get_or_append_left}
use Rattle.marks.specs.declared.side.Side.{Side}
use Rattle.marks.specs.declared.side.Side.TheVariants.{Replay}
use Rattle.marks.specs.declared.range.Range.{Range}
use Rattle.marks.specs.Ranges.{are_bytes, byte_at, bytes_of_number, covers, number_of_bytes, range}
use Rattle.marks.specs.Marks.{Load, Store, Mark}
use Rattle.marks.specs.Bytes.{Asks}
use Rattle.marks.specs.Wants.{Loads, Stores, Value, answer_if, answer_to, same_origin}
use Rattle.memory_map.specs.declared.placed.Placed.{Placed}
use Rattle.replay_runs.specs.Runs.{byte}
use Rattle.replay_runs.specs.Checks.{Passes}
use Rattle.whole_runs.specs.World.{World, begin}
use Rattle.whole_runs.specs.Sides.{seen}
use Rattle.whole_runs.specs.Memory.{Has, real}
use Rattle.whole_runs.specs.Tests.{tests}
use Rattle.recorder_memory.proofs.Replies.{store_answers}
use Rattle.recorder_threads.specs.declared.wants.Want.TheVariants as told
use Rattle.reference_recorder_marks.specs.declared.mark.Act.TheVariants as act
use Rattle.reference_recorder_marks.specs.declared.mark.Mark.{Mark as Told}
use Rattle.reference_recorder_rules.specs.Steps.{IsMadeAs, IsToMake}
use Rattle.reference_recorder_acts.specs.Acts.{next_after}
use Rattle.reference_recorder_acts.specs.Bytes.{AreThere, IsRead}
use Rattle.reference_recorder_acts.proofs.Marked.{real_told}
use Rattle.reference_recorder_acts.proofs.Plain.{made_as, of_told, run}
use Rattle.reference_recorder_acts.proofs.Touched.{live_above, low_there, read_there, shown_above}

-- ---- bytes

pub small_bytes : (bs : List ℕ) → ((i : ℕ) → get_or bs i 0 < 256) → are_bytes bs ≡ true
small_bytes [] h = refl
small_bytes (b ∷ bs) h = and_from _ _ (lt-ltb b 256 (h 0)) (small_bytes bs (λ i. h (suc i)))

-- bytes that stand one after the other from an address on
pub read_has : (memory : ℕ → Option ℕ) (at : ℕ) (bytes : List ℕ) → ((k : ℕ) → k < length bytes → memory (at + k) ≡ Some (get_or bytes k 0)) → Has memory at bytes
read_has memory at bytes each x e =
    let p = and_parts _ _ e in
    let from : at ≤ x = leb-true at x p.0 in
    let to : x < at + length bytes = ltb-true x (at + length bytes) p.1 in
    let there : at + (x - at) ≡ x = omega arith in
    ap memory (sym there) ∙ each (x - at) (omega arith)

-- one byte more
pub read_more : (memory : ℕ → Option ℕ) (at : ℕ) (bytes : List ℕ) (b n : ℕ) → length bytes ≡ n →
    ((k : ℕ) → k < n → memory (at + k) ≡ Some (get_or bytes k 0)) → memory (at + n) ≡ Some b →
    (k : ℕ) → k < n + 1 → memory (at + k) ≡ Some (get_or (bytes ++ b ∷ []) k 0)
read_more memory at bytes b n count each here k lt = by (cases_lt k n)
  where
    by : (k < n) ⊎ (n ≤ k) → memory (at + k) ≡ Some (get_or (bytes ++ b ∷ []) k 0)
    by (inl before) = each k before ∙ ap Some (sym (get_or_append_left bytes (b ∷ []) 0 k (omega (arith, before, count))))
    by (inr from) =
        let last : k ≡ n = omega (arith, lt, from) in
        ap (λ j. memory (at + j)) last ∙ here
        ∙ ap Some (sym (ap (λ j. get_or (bytes ++ b ∷ []) j 0) (last ∙ sym count) ∙ get_or-append_seam bytes b [] 0))

-- an address of the range
pub inside_range : (r : Range) (k : ℕ) → k < r.len → covers r (r.addr + k) ≡ true
inside_range r k lt = and_from _ _ (le-leb r.addr (r.addr + k) (omega arith)) (lt-ltb (r.addr + k) (r.addr + r.len) (omega (arith, lt)))

-- ---- a load

same_origin_self : (o : Option ℕ) → same_origin o o ≡ true
same_origin_self None = refl
same_origin_self (Some x) = eq-eqb x x refl

load_answers : (o : Option ℕ) (at n : ℕ) (bytes : List ℕ) → length bytes ≡ n → are_bytes bytes ≡ true → is_some (answer_to (Loads o at n) (Load o at bytes)) ≡ true
unfolding answer_to
load_answers o at n bytes count small =
    ap (λ b. is_some (answer_if b (Value (number_of_bytes bytes))))
    (and_from (same_origin o o && eqb at at) (eqb (length bytes) n && are_bytes bytes)
    (and_from (same_origin o o) (eqb at at) (same_origin_self o) (eq-eqb at at refl))
    (and_from (eqb (length bytes) n) (are_bytes bytes) (eq-eqb (length bytes) n count) small))

module _ (w : World) (marks : List Told) (t : ℕ) (side : Side) (args : List ℕ) (addr width : ℕ) (to : IsToMake w marks t side args (told.Load addr width)) where
  abbrev o : Option ℕ
  o = to.at.told.0

  abbrev ran : List Mark
  ran = run w marks t side args (told.Load addr width) to.at

  passed : Passes (tests w ran t side (Loads o addr width))
  passed = of_told w marks t side args (told.Load addr width) to.at (Loads o addr width) to.at.told.1 (λ u d v. Passes (tests w ran u d v)) to.passes

  there : (x : ℕ) → covers (range addr width) x ≡ true → real w ran x ≡ None → ⊥
  there x e = read_there w ran to.at.past.fit to.at.past.follows t side o addr width passed x e

  -- what is loaded is there
  pub load_there : (placed : Placed) → w.laid.placed ≡ placed → AreThere placed marks (range addr width)
  load_there placed same = record {
    world = w;
    objects = same;
    each = λ x e. record {
      low = low_there w to.at.past.fit ran to.at.past.follows x (there x e);
      live = λ none. there x e (sym (real_told w marks to.at.past x) ∙ none);
    };
  }

  pub loaded : (bytes : List ℕ) → IsRead w marks (range addr width) bytes → (made : Told) → made ≡ next_after marks t side (act.Load None addr bytes) → IsMadeAs w ran to.at.step made
  loaded bytes read made is =
      made_as w marks t side args (told.Load addr width) to.at (Loads o addr width) to.at.told.1 to.passes (Load o addr bytes) (act.Load None addr bytes) refl refl
      (load_answers o addr width bytes read.count read.small) has (λ e. tt) asks made is
    where
      has : Has (real w ran) addr bytes
      has x e = sym (real_told w marks to.at.past x) ∙ read.has x e

      asks : side ≡ Replay → Asks (Load o addr bytes) (λ x. byte (begin w) x (seen ran))
      asks above x e =
          shown_above w ran t false (range addr width) to.at.past.fit to.at.past.follows
          (subst (λ d. Passes (tests w ran t d (Loads o addr width))) above passed) x (byte_at addr bytes x)
          (subst (λ n. covers (range addr n) x ≡ true) read.count e) (has x e)

-- ---- a store

module _ (w : World) (marks : List Told) (t : ℕ) (side : Side) (args : List ℕ) (addr width value : ℕ) (to : IsToMake w marks t side args (told.Store addr width value)) where
  abbrev q : Option ℕ
  q = to.at.told.0

  abbrev bytes : List ℕ
  bytes = bytes_of_number width value

  abbrev went : List Mark
  went = run w marks t side args (told.Store addr width value) to.at

  pub stored : (made : Told) → made ≡ next_after marks t side (act.Store None addr bytes) → IsMadeAs w went to.at.step made
  stored made is =
      made_as w marks t side args (told.Store addr width value) to.at (Stores q addr bytes) to.at.told.1 to.passes (Store q addr bytes) (act.Store None addr bytes) refl refl
      (store_answers q addr bytes) tt (λ e. tt) asks made is
    where
      passed : Passes (tests w went t side (Stores q addr bytes))
      passed = of_told w marks t side args (told.Store addr width value) to.at (Stores q addr bytes) to.at.told.1 (λ u d v. Passes (tests w went u d v)) to.passes

      asks : side ≡ Replay → Asks (Store q addr bytes) (λ x. byte (begin w) x (seen went))
      asks above x e = live_above w went t true (range addr (length bytes)) (subst (λ d. Passes (tests w went t d (Stores q addr bytes))) above passed) x e
