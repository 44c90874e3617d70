-- What open calls and keys in use hand down of a byte, found from the marks.
use Rattle.std.proofs.Common.{◌≡◌, ◌⊎◌, ◌↔◌, ℕ, suc, ◌+◌, ◌<◌, length, get_or, drop, drop-cons, arith, Bool, true, false, cond, ◌&&◌, ◌||◌, not, ◌==◌, List, [], ◌∷◌, map, Option, Some, None, inl, inr, refl, ap, sym, ◌∙◌, eqb-true}
use Rattle.std.proofs.lemmas.Bool.{true≢false, or_cases, or_left, or_right, and_parts, and_from}
use Rattle.std.proofs.lemmas.Option.{none-some}
use Rattle.marks.specs.declared.side.Side.TheVariants.{Replay}
use Rattle.marks.specs.declared.range.Range.{Range}
use Rattle.marks.specs.Ranges.{Piece, Prepared, covers, any_range, any_piece, piece_ranges}
use Rattle.marks.specs.Marks.{EventKind, Call, Ret, Up, UpRet, Alloc, Free, Stop, Act, Turn, Load, Store, Enter, Leave, Step, Fault, Made, Mark, Commit, NoRegion, Withheld, Released}
use Rattle.marks.specs.Opens.{OpenCall, act_calls, calls_after, open_calls, tail}
use Rattle.c_code.specs.MarkLists.{same_side}
use Rattle.replay_runs.specs.Runs.{marks_of}
use Rattle.run_events.specs.declared.key.Class.TheVariants.{Async}
use Rattle.replay_runs.specs.Keys.{key}
use Rattle.replay_runs.specs.Pool.{act_use, commit_leaves, in_use, prepared_under, use_after}
use Rattle.space_memory_laws.specs.Rights.{IsHandedDown, any_in}
use Rattle.space_memory_laws.specs.Owed.{IsPreparedUnder, any_out}
use Rattle.whole_runs.specs.World.{World, begin}
use Rattle.whole_runs.specs.Sides.{seen}
use Rattle.reference_recorder_rights.specs.declared.opens.Flags.{Flags}
use Rattle.reference_recorder_regions.specs.Steps.{has_above, use_step}
use Rattle.reference_recorder_rights.specs.Rights.{act_flags, act_under, any_holds, any_reads, any_under, flags_after, flags_of, flags_step, has_byte, kind_under, past_under}
use Rattle.reference_recorder_regions.proofs.Folds.{use_more}

-- ---- open calls

any_pieces : (ps : List Piece) (x : ℕ) → any_range (piece_ranges ps) x ≡ any_piece ps x
any_pieces [] x = refl
any_pieces (p ∷ ps) x = ap (λ (b : Bool). covers p.range x || b) (any_pieces ps x)

map_tail : (x : ℕ) (cs : List OpenCall) → map (flags_of x) (tail cs) ≡ tail (map (flags_of x) cs)
map_tail x [] = refl
map_tail x (c ∷ cs) = refl

abbrev with_read : (x : ℕ) → List Range → Bool → Flags
with_read x outs b = record { holds = any_range outs x; reads = b }

flags_kind : (x : ℕ) (k : EventKind) (cs : List OpenCall) →
    map (flags_of x) (calls_after k cs) ≡ flags_after x k (map (flags_of x) cs)
flags_kind x (Call f args ins outs prepared) cs =
    ap (λ (b : Bool). with_read x outs b ∷ map (flags_of x) cs) (any_pieces ins x)
flags_kind x (Ret f args v same outs commit) cs = map_tail x cs
flags_kind x (Up f args) cs = refl
flags_kind x (UpRet f v) cs = refl
flags_kind x (Alloc at size) cs = refl
flags_kind x (Free at size) cs = refl
flags_kind x (Stop fault) cs = refl

flags_act : (x : ℕ) (a : Act) (cs : List OpenCall) →
    map (flags_of x) (act_calls a cs) ≡ act_flags x a (map (flags_of x) cs)
flags_act x Turn cs = refl
flags_act x (Load origin at bytes) cs = refl
flags_act x (Store origin at bytes) cs = refl
flags_act x (Enter f args at bytes) cs = refl
flags_act x (Leave at size) cs = refl
flags_act x (Step f args v ins pieces freed) cs = refl
flags_act x (Fault kind crosses ins outs access) cs = refl
flags_act x (Made e) cs = flags_kind x e.kind cs

-- of the open calls of a thread
abbrev pub open_flags : World → (x thread : ℕ) → List Mark → List Flags
open_flags w x t p = map (flags_of x) (open_calls (marks_of (begin w) t (seen p)))

pub flags_more : (w : World) (x t : ℕ) (m : Mark) (p : List Mark) →
    open_flags w x t (m ∷ p) ≡ flags_step x t m (open_flags w x t p)
flags_more w x t m p = go (same_side m.side Replay) (m.thread == t)
  where
    inner : (a : Bool) → map (flags_of x) (open_calls (cond a (m ∷ marks_of (begin w) t (seen p)) (marks_of (begin w) t (seen p)))) ≡
        cond (a && true) (act_flags x m.act (open_flags w x t p)) (open_flags w x t p)
    inner true = flags_act x m.act (open_calls (marks_of (begin w) t (seen p)))
    inner false = refl

    outer : (a : Bool) → open_flags w x t p ≡ cond (a && false) (act_flags x m.act (open_flags w x t p)) (open_flags w x t p)
    outer true = refl
    outer false = refl

    go : (b a : Bool) → map (flags_of x) (open_calls (marks_of (begin w) t (cond b (m ∷ seen p) (seen p)))) ≡
        cond ((m.thread == t) && b) (act_flags x m.act (open_flags w x t p)) (open_flags w x t p)
    go true a = inner (m.thread == t)
    go false a = outer (m.thread == t)

pub holds_any : (cs : List OpenCall) (x : ℕ) → any_holds (map (flags_of x) cs) ≡ any_out cs x
holds_any [] x = refl
holds_any (c ∷ cs) x = ap (λ (b : Bool). any_range c.outs x || b) (holds_any cs x)

pub reads_any : (cs : List OpenCall) (x : ℕ) → any_reads (map (flags_of x) cs) ≡ any_in cs x
reads_any [] x = refl
reads_any (c ∷ cs) x = ap (λ (b : Bool). any_range c.ins x || b) (reads_any cs x)

-- ---- keys in use

abbrev pub region_in : World → List Mark → ℕ → Option Range
region_in w p k = in_use (begin w) k (seen p)

pub under_drop : (region : ℕ → Option Range) (x : ℕ) (ps : List Prepared) (i : ℕ) (p : Prepared) → i < length ps → p ≡ get_or ps i p →
    any_under region x (drop i ps) ≡ (has_byte (region p.key) x || any_under region x (drop (i + 1) ps))
under_drop region x ps i p lt is =
    let next : suc i ≡ i + 1 = omega arith in
    ap (any_under region x) (drop-cons ps i p lt ∙ ap (λ (q : Prepared). q ∷ drop (suc i) ps) (sym is))
    ∙ ap (λ (n : ℕ). has_byte (region p.key) x || any_under region x (drop n ps)) next

-- some key has the byte
abbrev HasKey : (ℕ → Option Range) → ℕ → Type 0
HasKey region x = (k : ℕ) × (has_byte (region k) x ≡ true)

under_key : (region : ℕ → Option Range) (x : ℕ) (ps : List Prepared) → any_under region x ps ≡ true → HasKey region x
under_key region x [] e = absurd (true≢false (sym e))
under_key region x (p ∷ ps) e = elim (or_cases (has_byte (region p.key) x) (any_under region x ps) e) [
  | inl here ↦ (p.key, here)
  | inr more ↦ under_key region x ps more
]

kind_key : (region : ℕ → Option Range) (x : ℕ) (k : EventKind) → kind_under region x k ≡ true → HasKey region x
kind_key region x (Call f args ins outs prepared) e = under_key region x prepared e
kind_key region x (Ret f args v same outs commit) e = absurd (true≢false (sym e))
kind_key region x (Up f args) e = absurd (true≢false (sym e))
kind_key region x (UpRet f v) e = absurd (true≢false (sym e))
kind_key region x (Alloc at size) e = absurd (true≢false (sym e))
kind_key region x (Free at size) e = absurd (true≢false (sym e))
kind_key region x (Stop fault) e = absurd (true≢false (sym e))

act_key : (region : ℕ → Option Range) (x : ℕ) (a : Act) → act_under region x a ≡ true → HasKey region x
act_key region x Turn e = absurd (true≢false (sym e))
act_key region x (Load origin at bytes) e = absurd (true≢false (sym e))
act_key region x (Store origin at bytes) e = absurd (true≢false (sym e))
act_key region x (Enter f args at bytes) e = absurd (true≢false (sym e))
act_key region x (Leave at size) e = absurd (true≢false (sym e))
act_key region x (Step f args v ins pieces freed) e = absurd (true≢false (sym e))
act_key region x (Fault kind crosses ins outs access) e = absurd (true≢false (sym e))
act_key region x (Made m) e = kind_key region x m.kind e

past_key : (region : ℕ → Option Range) (x : ℕ) (p : List Mark) → past_under region x p ≡ true → HasKey region x
past_key region x [] e = absurd (true≢false (sym e))
past_key region x (m ∷ p) e = elim (or_cases (act_under region x m.act) (past_under region x p) e) [
  | inl here ↦ act_key region x m.act here
  | inr more ↦ past_key region x p more
]

-- what a mark makes of the region of a key it had, or prepares
module _ (region : ℕ → Option Range) (x k : ℕ) (has : has_byte (region k) x ≡ true) (r : Range) where
  under_from : (ps : List Prepared) (r0 : Option Range) → prepared_under ps k r0 ≡ Some r →
      (any_under region x ps ≡ true) ⊎ (r0 ≡ Some r)
  under_from [] r0 e = inr e
  under_from (p ∷ ps) r0 e = go (p.key == k) refl (under_from ps r0) e
    where
      go : (b : Bool) → (p.key == k) ≡ b →
          (prepared_under ps k r0 ≡ Some r → (any_under region x ps ≡ true) ⊎ (r0 ≡ Some r)) →
          cond b (Some p.range) (prepared_under ps k r0) ≡ Some r →
          ((has_byte (region p.key) x || any_under region x ps) ≡ true) ⊎ (r0 ≡ Some r)
      go true is more e = inl (or_left (has_byte (region p.key) x) (any_under region x ps)
          (ap (λ (j : ℕ). has_byte (region j) x) (eqb-true p.key k is) ∙ has))
      go false is more e = elim (more e) [
        | inl here ↦ inl (or_right (has_byte (region p.key) x) (any_under region x ps) here)
        | inr old ↦ inr old
      ]

  commit_from : (c : Commit) (r0 : Option Range) → commit_leaves k c r0 ≡ Some r → r0 ≡ Some r
  commit_from NoRegion r0 e = e
  commit_from Withheld r0 e = e
  commit_from (Released j p) r0 e = go (j == k) e
    where
      go : (b : Bool) → cond b None r0 ≡ Some r → r0 ≡ Some r
      go true e = absurd (none-some r e)
      go false e = e

  kind_from : (e : EventKind) (r0 : Option Range) → use_after k e r0 ≡ Some r →
      (kind_under region x e ≡ true) ⊎ (r0 ≡ Some r)
  kind_from (Call f args ins outs prepared) r0 e = under_from prepared r0 e
  kind_from (Ret f args v same outs commit) r0 e = inr (commit_from commit r0 e)
  kind_from (Up f args) r0 e = inr e
  kind_from (UpRet f v) r0 e = inr e
  kind_from (Alloc at size) r0 e = inr e
  kind_from (Free at size) r0 e = inr e
  kind_from (Stop fault) r0 e = inr e

  act_from : (a : Act) (r0 : Option Range) → act_use k a r0 ≡ Some r →
      (act_under region x a ≡ true) ⊎ (r0 ≡ Some r)
  act_from Turn r0 e = inr e
  act_from (Load origin at bytes) r0 e = inr e
  act_from (Store origin at bytes) r0 e = inr e
  act_from (Enter f args at bytes) r0 e = inr e
  act_from (Leave at size) r0 e = inr e
  act_from (Step f args v ins pieces freed) r0 e = inr e
  act_from (Fault kind crosses ins outs access) r0 e = inr e
  act_from (Made m) r0 e = kind_from m.kind r0 e

  step_from : (m : Mark) (r0 : Option Range) → use_step k m r0 ≡ Some r →
      (act_under region x m.act ≡ true) ⊎ (r0 ≡ Some r)
  step_from m r0 e = go (has_above m (key Async k)) e
    where
      go : (b : Bool) → cond b (act_use k m.act r0) r0 ≡ Some r → (act_under region x m.act ≡ true) ⊎ (r0 ≡ Some r)
      go true e = act_from m.act r0 e
      go false e = inr e

  -- so a key in use is one under which a mark prepares a region
  used_from : (w : World) (p : List Mark) → in_use (begin w) k (seen p) ≡ Some r → past_under region x p ≡ true
  used_from w [] e = absurd (none-some r e)
  used_from w (m ∷ p) e = elim (step_from m (in_use (begin w) k (seen p)) (sym (use_more w k m p) ∙ e)) [
    | inl here ↦ or_left (act_under region x m.act) (past_under region x p) here
    | inr old ↦ or_right (act_under region x m.act) (past_under region x p) (used_from w p old)
  ]

-- ---- what is handed down

not_false : (b : Bool) → not b ≡ true → b ≡ false
not_false true e = absurd (true≢false (sym e))
not_false false e = refl

in_region : (r : Option Range) (x : ℕ) → has_byte r x ≡ true → (q : Range) × (r ≡ Some q) × (covers q x ≡ true)
in_region None x e = absurd (true≢false (sym e))
in_region (Some q) x e = (q, refl, e)

prepared_found : (w : World) (p : List Mark) (x : ℕ) → past_under (region_in w p) x p ≡ true →
    (k : ℕ) × IsPreparedUnder (begin w) (seen p) k x
prepared_found w p x e = let h = past_key (region_in w p) x p e in (h.0, in_region (region_in w p h.0) x h.1)

prepared_is : (w : World) (p : List Mark) (x k : ℕ) → IsPreparedUnder (begin w) (seen p) k x →
    past_under (region_in w p) x p ≡ true
prepared_is w p x k h = used_from (region_in w p) x k (ap (λ (q : Option Range). has_byte q x) h.1 ∙ h.2) h.0 w p h.1

-- the byte is handed down exactly where one of the three tests says so
pub handed_down : (w : World) (p : List Mark) (t : ℕ) (write : Bool) (x : ℕ) →
    ((any_holds (open_flags w x t p) || ((not write && any_reads (open_flags w x t p)) || past_under (region_in w p) x p)) ≡ true)
    ↔ IsHandedDown (begin w) (seen p) t write x
handed_down w p t write x = (found, shows)
  where
    found : (any_holds (open_flags w x t p) || ((not write && any_reads (open_flags w x t p)) || past_under (region_in w p) x p)) ≡ true →
        IsHandedDown (begin w) (seen p) t write x
    found e = elim (or_cases (any_holds (open_flags w x t p)) ((not write && any_reads (open_flags w x t p)) || past_under (region_in w p) x p) e) [
      | inl here ↦ inl (sym (holds_any (open_calls (marks_of (begin w) t (seen p))) x) ∙ here)
      | inr more ↦ elim (or_cases (not write && any_reads (open_flags w x t p)) (past_under (region_in w p) x p) more) [
        | inl both ↦ (let h = and_parts (not write) (any_reads (open_flags w x t p)) both in
            inr (inl (not_false write h.0, sym (reads_any (open_calls (marks_of (begin w) t (seen p))) x) ∙ h.1)))
        | inr key ↦ inr (inr (prepared_found w p x key))
      ]
    ]

    shows : IsHandedDown (begin w) (seen p) t write x →
        (any_holds (open_flags w x t p) || ((not write && any_reads (open_flags w x t p)) || past_under (region_in w p) x p)) ≡ true
    shows h = elim h [
      | inl out ↦ or_left (any_holds (open_flags w x t p)) ((not write && any_reads (open_flags w x t p)) || past_under (region_in w p) x p)
          (holds_any (open_calls (marks_of (begin w) t (seen p))) x ∙ out)
      | inr rest ↦ or_right (any_holds (open_flags w x t p)) ((not write && any_reads (open_flags w x t p)) || past_under (region_in w p) x p) (elim rest [
        | inl both ↦ or_left (not write && any_reads (open_flags w x t p)) (past_under (region_in w p) x p)
            (and_from (not write) (any_reads (open_flags w x t p)) (ap not both.0) (reads_any (open_calls (marks_of (begin w) t (seen p))) x ∙ both.1))
        | inr key ↦ or_right (not write && any_reads (open_flags w x t p)) (past_under (region_in w p) x p) (prepared_is w p x key.0 key.1)
      ])
    ]
