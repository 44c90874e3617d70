-- Rets: what they bring up, and what they leave of each byte.
use Rattle.std.proofs.Common.{◌≡◌, ◌⊎◌, ℕ, ◌+◌, ◌<◌, Bool, true, false, cond, ltb, ◌&&◌, ◌||◌, List, [], ◌∷◌, ◌++◌, length, map, Option, Some, None, inl, inr, refl, ap, sym, ◌∙◌, subst}
use Rattle.std.specs.List.{list_any}
use Rattle.std.proofs.lemmas.Bool.{cases_Bool, cond-true, cond-false, true≢false, or_cases, and_parts, and_from}
use Rattle.marks.specs.declared.side.Side.TheVariants.{Replay}
use Rattle.marks.specs.Places.{thread_count, is_system}
use Rattle.marks.specs.declared.range.Range.{Range}
use Rattle.marks.specs.Ranges.{Piece, covers, any_range, any_piece, piece_ranges, byte_at}
use Rattle.marks.specs.Marks.{Commit, NoRegion, Withheld, Released, released, Ret, Mark}
use Rattle.marks.specs.Bytes.{Cell, Dead, Live, Held, IsHeld, release, give, give_any, event_leaves, cell_after}
use Rattle.space_memory_bytes.specs.Areas as areas
use Rattle.space_memory_access.specs.declared.holder.Region.{Region}
use Rattle.space_memory_access.specs.declared.holder.Holder.{Holder}
use Rattle.space_memory_access.specs.declared.holder.Holder.TheVariants.{In, Out, Key}
use Rattle.space_memory_access.specs.Holders.{is_pending, serves}
use Rattle.space_memory_access.specs.Held.{IsPending, IsServed}
use Rattle.space_memory.specs.Spaces.{SpaceState}
use Rattle.space_memory_laws.specs.Shown.{cell_of, value_when_held}
use Rattle.space_memory_laws.specs.StandsFor.{StandsFor}
use Rattle.space_memory_laws.specs.Owed.{any_out}
use Rattle.space_memory_laws.specs.Returns.{IsRet}
use Rattle.space_memory_laws.specs.Rights.{IsHandedDown}
use Rattle.space_memory.specs.Cells.{is_held}
use Rattle.space_memory.specs.Releases.{committed_key}
use Rattle.space_memory_access.specs.Held.{innermost}
use Rattle.space_memory_laws.proofs.Cells.{held_by}
use Rattle.space_memory_laws.proofs.Closed.{held_less}
use Rattle.space_memory_laws.proofs.Owed.{or_true, or_left}
use Rattle.space_memory_laws.proofs.Regions.{some_none}
use Rattle.space_memory_laws.proofs.Returns as landed
use Rattle.space_memory_laws.proofs.Rights.{rights}
use Rattle.replay_runs.specs.Runs.{Start, marks_of, byte}
use Rattle.replay_runs.specs.Threads.{open_calls}
use Rattle.replay_runs.specs.Interface.{Committing}
use Rattle.replay_runs.specs.Pool.{in_use}
use Rattle.replay_runs.specs.Rules.{Closes, Commits, CommitsUsed}
use Rattle.replay_runs.specs.Returns.{ReleasesInUse}
use Rattle.whole_runs.specs.World.{World, begin, interface}
use Rattle.whole_runs.specs.Sides.{seen}
use Rattle.whole_runs.specs.Memory.{filled, value_of, real}
use Rattle.whole_runs.specs.Below.{Target, To, Nowhere, Missing, target_at, target_used, commit_target, targets, pieces_for}
use Rattle.whole_runs_memory.specs.Above.{ReturnsAreWhole, RetsBringWhatIsThere, AnswersLieInRegions}
use Rattle.whole_runs_memory.proofs.Bytes.{bytes_byte}
use Rattle.whole_runs_memory.proofs.Above.{raised, event_left, no_blocks}

-- ---- what a Ret gives back is pending, and of replay memory

written_waits : (t : ℕ) (o : Holder) → serves t true o ≡ true → is_pending o ≡ true
written_waits t (In c) is = is
written_waits t (Out c) is = refl
written_waits t (Key k by) is = refl

served_waits : (rs : List Region) (t x : ℕ) → IsServed rs t true x → IsPending rs x
served_waits [] t x is = is
served_waits (r ∷ rest) t x is = elim (or_cases (serves t true r.holder && covers r.range x) (list_any (λ (q : Region). serves t true q.holder && covers q.range x) rest) is) [
  | inl here ↦ (let p = and_parts (serves t true r.holder) (covers r.range x) here in or_left (is_pending r.holder && covers r.range x)
      (list_any (λ (q : Region). is_pending q.holder && covers q.range x) rest)
      (and_from (is_pending r.holder) (covers r.range x) (written_waits t r.holder p.0) p.1))
  | inr more ↦ or_true (is_pending r.holder && covers r.range x) (list_any (λ (q : Region). is_pending q.holder && covers q.range x) rest) (served_waits rest t x more)
]

module _ (s : Start) (past : List Mark) (memory : SpaceState) (t x : ℕ) (h : StandsFor s past memory) (lt : t < thread_count) (down : IsHandedDown s past t true x) where
  pub handed_waits : IsPending memory.held.regions x
  handed_waits = served_waits memory.held.regions t x ((rights s past memory t true x h lt).1 down)

  pub handed_held : (v : ℕ) × (value_when_held memory.held.regions x ≡ Some v)
  handed_held = held_by memory.held.regions x handed_waits

  pub handed_own : is_system x ≡ false
  handed_own = elim (cases_Bool (is_system x)) [
    | inr not ↦ not
    | inl is ↦ absurd (some_none handed_held.0 (sym handed_held.1 ∙ h.sound.own x is))
  ]

pub any_pieces : (ps : List Piece) (x : ℕ) → any_piece ps x ≡ any_range (piece_ranges ps) x
any_pieces [] x = refl
any_pieces (p ∷ ps) x = ap (λ b. covers p.range x || b) (any_pieces ps x)

any_split : (ps qs : List Piece) (x : ℕ) → any_piece (ps ++ qs) x ≡ true → (any_piece ps x ≡ true) ⊎ (any_piece qs x ≡ true)
any_split [] qs x is = inr is
any_split (p ∷ ps) qs x is = elim (or_cases (covers p.range x) (any_piece (ps ++ qs) x) is) [
  | inl here ↦ inl (or_left (covers p.range x) (any_piece ps x) here)
  | inr more ↦ elim (any_split ps qs x more) [ inl a ↦ inl (or_true (covers p.range x) (any_piece ps x) a) | inr b ↦ inr b ]
]

any_first : (ps qs : List Piece) (x : ℕ) → any_piece ps x ≡ true → any_piece (ps ++ qs) x ≡ true
any_first [] qs x is = absurd (true≢false (sym is))
any_first (p ∷ ps) qs x is = elim (or_cases (covers p.range x) (any_piece ps x) is) [
  | inl here ↦ or_left (covers p.range x) (any_piece (ps ++ qs) x) here
  | inr more ↦ or_true (covers p.range x) (any_piece (ps ++ qs) x) (any_first ps qs x more)
]

any_second : (ps qs : List Piece) (x : ℕ) → any_piece qs x ≡ true → any_piece (ps ++ qs) x ≡ true
any_second [] qs x is = is
any_second (p ∷ ps) qs x is = or_true (covers p.range x) (any_piece (ps ++ qs) x) (any_second ps qs x is)

one_piece : (b : Bool) → (b || false) ≡ true → b ≡ true
one_piece true e = refl
one_piece false e = e

committed_handed : (s : Start) (past : List Mark) (t x : ℕ) (commit : Commit) → ReleasesInUse s past commit → any_piece (released commit) x ≡ true → IsHandedDown s past t true x
committed_handed s past t x NoRegion in' is = absurd (true≢false (sym is))
committed_handed s past t x Withheld in' is = absurd (true≢false (sym is))
committed_handed s past t x (Released k p) in' is = inr (inr (k, (p.range, in', one_piece (covers p.range x) is)))

pub ret_handed : (s : Start) (past : List Mark) (t x : ℕ) (func : ℕ) (args : List ℕ) (pieces : List Piece) (commit : Commit) →
    Closes (open_calls (marks_of s t past)) func args (piece_ranges pieces) → ReleasesInUse s past commit →
    any_piece (pieces ++ released commit) x ≡ true → IsHandedDown s past t true x
ret_handed s past t x func args pieces commit closes in' is = elim (any_split pieces (released commit) x is) [
  | inl own ↦
      let c = landed.closing (open_calls (marks_of s t past)) func args (piece_ranges pieces) closes in
      inl (ap (λ cs. any_out cs x) c.is ∙ or_left (any_range c.top.outs x) (any_out c.below x) (ap (λ rs. any_range rs x) (sym c.outs) ∙ sym (any_pieces pieces x) ∙ own))
  | inr other ↦ committed_handed s past t x commit in' other
]

-- ---- what it leaves of a byte

not_held : (b : Bool) (n : ℕ) (c : Cell) → IsHeld (cond b (Live n) (release c)) → ⊥
not_held true n c h = h
not_held false n Dead h = h
not_held false n (Live v) h = h
not_held false n (Held v) h = h

pub given_free : (ps : List Piece) (x : ℕ) (c : Cell) → any_piece ps x ≡ true → IsHeld (give_any ps x c) → ⊥
given_free [] x c is h = true≢false (sym is)
given_free (p ∷ ps) x c is h = go (covers p.range x) is h (given_free ps x c)
  where
    go : (b : Bool) → (b || any_piece ps x) ≡ true → IsHeld (cond b (give p x c) (give_any ps x c)) → (any_piece ps x ≡ true → IsHeld (give_any ps x c) → ⊥) → ⊥
    go true is h again = not_held (ltb x (p.range.addr + length p.bytes)) (byte_at p.range.addr p.bytes x) c h
    go false is h again = again is h

value_shown : (b v : Option ℕ) (c : Cell) → c ≡ cell_of b v → (IsHeld c → ⊥) → value_of c ≡ b
value_shown None v c e free = ap value_of e
value_shown (Some n) None c e free = ap value_of e
value_shown (Some n) (Some u) c e free = absurd (free (subst IsHeld (sym e) tt))

filled_out : (ps : List Piece) (x : ℕ) (v : Option ℕ) → (any_piece ps x ≡ true → ⊥) → filled ps x v ≡ v
filled_out [] x v out = refl
filled_out (p ∷ ps) x v out = elim (cases_Bool (covers p.range x)) [
  | inl e ↦ absurd (out (or_left (covers p.range x) (any_piece ps x) e))
  | inr e ↦ ap (filled ps x) (cond-false (covers p.range x) _ v e) ∙ filled_out ps x v (λ is. out (or_true (covers p.range x) (any_piece ps x) is))
]

pub returned : (w : World) → ReturnsAreWhole w
returned w past old new m func args pieces commit used committing answer h above lt done of inside =
    raised w past (λ x. filled answer x (real w past x)) old new m h.stands above r.mark.stands
    (ap (λ (q : SpaceState). q.sides.system) done.rest)
    (λ x c. ap (λ rs. is_held rs x) done.regions ∙ held_less (innermost old.held m.thread) (committed_key committing) x old.held.regions (h.stands.constants x c))
    (no_blocks m of.event of.act)
    (λ x. bytes x ∙ sym (event_left w past m of.event (Ret func args of.result of.same pieces commit) x above of.act of.kind))
  where
    r : IsRet (begin w) (seen past) m pieces committing commit new
    r = landed.returns (begin w) (seen past) old new m func args pieces commit used committing h.stands.above lt done of

    cell : (x : ℕ) → is_system x ≡ false → give_any (pieces ++ released commit) x (byte (begin w) x (seen past)).cell ≡ cell_of (areas.byte_at new.bytes x) (value_when_held new.held.regions x)
    cell x own =
        sym (ap (λ a. cell_after a x (byte (begin w) x (seen past)).cell) of.act ∙ ap (λ k. event_leaves k x (byte (begin w) x (seen past)).cell) of.kind)
        ∙ r.mark.stands.bytes x own

    bytes : (x : ℕ) → areas.byte_at new.bytes x ≡ cond (any_piece (pieces ++ released commit) x) (value_of (give_any (pieces ++ released commit) x (byte (begin w) x (seen past)).cell)) (real w past x)
    bytes x = elim (cases_Bool (any_piece (pieces ++ released commit) x)) [
      | inl there ↦
          let own = handed_own (begin w) (seen past) old m.thread x h.stands.above lt (ret_handed (begin w) (seen past) m.thread x func args pieces commit of.closes r.in_use there) in
          sym (cond-true (any_piece (pieces ++ released commit) x) _ (real w past x) there
          ∙ value_shown (areas.byte_at new.bytes x) (value_when_held new.held.regions x) _ (cell x own) (given_free (pieces ++ released commit) x (byte (begin w) x (seen past)).cell there))
      | inr not ↦
          ap (λ (q : SpaceState). areas.byte_at q.bytes x) done.rest
          ∙ h.stands.bytes x
          ∙ filled_out answer x (real w past x) (λ is. true≢false (sym (inside x is) ∙ not))
          ∙ sym (cond-false (any_piece (pieces ++ released commit) x) _ (real w past x) not)
    ]

-- ---- what it brings up

pub brings : (w : World) → RetsBringWhatIsThere w
brings w past memory answer [] [] h shows = tt
brings w past memory answer [] (n ∷ ns) h shows = absurd shows
brings w past memory answer (p ∷ ps) [] h shows = absurd shows
brings w past memory answer (p ∷ ps) (n ∷ ns) h shows =
    ((λ x c. sym (h.stands.bytes x) ∙ bytes_byte memory.bytes p.range.addr p.bytes x shows.1 c), brings w past memory answer ps ns h shows.2)

-- ---- where the pieces of an answer lie

abbrev pub any_target : List Target → ℕ → Bool
any_target [] x = false
any_target (To r ∷ xs) x = covers r x || any_target xs x
any_target (Nowhere ∷ xs) x = any_target xs x
any_target (Missing ∷ xs) x = any_target xs x

targeted : (xs : List Target) (bs : List (List ℕ)) (x : ℕ) → any_piece (pieces_for xs bs) x ≡ true → any_target xs x ≡ true
targeted [] bs x is = absurd (true≢false (sym is))
targeted (y ∷ xs) [] x is = absurd (true≢false (sym is))
targeted (To r ∷ xs) (b ∷ bs) x is = elim (or_cases (covers r x) (any_piece (pieces_for xs bs) x) is) [
  | inl here ↦ or_left (covers r x) (any_target xs x) here
  | inr more ↦ or_true (covers r x) (any_target xs x) (targeted xs bs x more)
]
targeted (Nowhere ∷ xs) (b ∷ bs) x is = targeted xs bs x is
targeted (Missing ∷ xs) (b ∷ bs) x is = targeted xs bs x is

pub target_split : (rs : List Range) (xs : List Target) (x : ℕ) → any_target (map To rs ++ xs) x ≡ true → (any_range rs x ≡ true) ⊎ (any_target xs x ≡ true)
target_split [] xs x is = inr is
target_split (r ∷ rs) xs x is = elim (or_cases (covers r x) (any_target (map To rs ++ xs) x) is) [
  | inl here ↦ inl (or_left (covers r x) (any_range rs x) here)
  | inr more ↦ elim (target_split rs xs x more) [ inl a ↦ inl (or_true (covers r x) (any_range rs x) a) | inr b ↦ inr b ]
]

module _ (w : World) (past : List Mark) (x : ℕ) where
  in_committed : (k : ℕ) (used : Option ℕ) (commit : Commit) → CommitsUsed k used commit → ReleasesInUse (begin w) (seen past) commit →
      any_target (target_used w Replay k past used ∷ []) x ≡ true → any_piece (released commit) x ≡ true
  in_committed k None commit c in' is = absurd (true≢false (sym is))
  in_committed k (Some n) NoRegion c in' is = absurd c
  in_committed k (Some n) Withheld c in' is = absurd c
  in_committed k (Some n) (Released j p) c in' is =
      sym (ap (λ o. any_target (target_at o ∷ []) x) (ap (λ i. in_use (begin w) i (seen past)) (sym c.0) ∙ in')) ∙ is

  in_commit : (o : Option Committing) (commit : Commit) → Commits o commit → ReleasesInUse (begin w) (seen past) commit →
      any_target (commit_target w Replay past o) x ≡ true → any_piece (released commit) x ≡ true
  in_commit None commit c in' is = absurd (true≢false (sym is))
  in_commit (Some q) commit c in' is = in_committed q.key q.used commit c in' is

pub lie : (w : World) → AnswersLieInRegions w
lie w past func args result pieces commit bytes ranges commits in' x is = elim
    (target_split ((interface w).outs func args) (commit_target w Replay past ((interface w).commits func args result)) x
    (targeted (targets w Replay past func args result) bytes x is)) [
      | inl own ↦ any_first pieces (released commit) x (any_pieces pieces x ∙ ap (λ rs. any_range rs x) ranges ∙ own)
      | inr other ↦ any_second pieces (released commit) x (in_commit w past x ((interface w).commits func args result) commit commits in' other)
    ]
