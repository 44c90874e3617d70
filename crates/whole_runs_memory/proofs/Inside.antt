-- No object lies out of all memories: code above the cut makes none there.
use Rattle.std.proofs.Common.{◌≡◌, ℕ, ◌+◌, ◌<◌, ◌≤◌, Bool, true, false, cond, eqb, leb, ltb, List, [], ◌∷◌, ◌++◌, length, map, All, Option, Some, None, inl, inr, refl, ap, sym, ◌∙◌, subst, arith}
use Rattle.std.proofs.lemmas.Bool.{cases_Bool, cond-false, true≢false, and_from, le-leb, lt-ltb}
use Rattle.std.proofs.lemmas.List.Elements.{All-head, All-tail}
use Rattle.run_events.specs.declared.key.Class.TheVariants.{Pool, Async}
use Rattle.marks.specs.declared.side.Side.TheVariants.{Replay}
use Rattle.marks.specs.Places.{thread_count, stack, stack_size, constants, replay_globals, replay_pool, system_globals, system_end, is_replay}
use Rattle.marks.specs.declared.range.Range.{Range}
use Rattle.marks.specs.Ranges.{Piece, range, within, covers, any_piece}
use Rattle.marks.specs.Marks.{Commit, NoRegion, Withheld, Released, released, EventKind, Call, Ret, Up, UpRet, Alloc, Free, Stop, Event, Act, Turn, Load, Store, Enter, Leave, Step, Fault, Made, Mark}
use Rattle.marks.specs.Bytes.{Cell, Dead, Live, IsLive, IsHeld, granted, event_leaves, Asks}
use Rattle.marks.specs.Opens.{frames_after, frames}
use Rattle.memory_map.specs.declared.placed.Place.{Place}
use Rattle.space_memory.specs.Objects.{IsInArea, object_range, byte_of}
use Rattle.space_memory_laws.proofs.Backs.{frames_own}
use Rattle.space_memory_laws.proofs.Cells.{cover_cases, in_replay}
use Rattle.replay_runs.proofs.Keys.{listed_last}
use Rattle.replay_runs.specs.Runs.{OfKey, Allowed, has, is_listed, keys_of, marks_of, new_events, byte}
use Rattle.run_events.specs.declared.key.Key.{Key}
use Rattle.replay_runs.specs.Keys.{key, sorted_keys, keys_for, commit_keys}
use Rattle.replay_runs.specs.Threads.{end_of}
use Rattle.replay_runs.specs.Interface.{Interface, Committing}
use Rattle.replay_runs.specs.Pool.{IsPlace, blocks_from, in_use}
use Rattle.replay_runs.specs.Rules.{HasKeys, Carries, IsReturn, Commits, CommitsUsed, SharedAct, SharedEvent, EventCarries}
use Rattle.replay_runs.specs.Returns.{ReleasesInUse}
use Rattle.replay_runs.specs.Unseen.{IsWhole, Stacked}
use Rattle.whole_runs.specs.World.{World, begin, interface, placed_at}
use Rattle.whole_runs.specs.Sides.{seen}
use Rattle.whole_runs.specs.Memory.{value_of, changes, left_by, real}
use Rattle.whole_runs.specs.Steps.{Picked, rules_above, IsMade}
use Rattle.whole_runs_memory.specs.Real.{IsNoStep, IsOutside}
use Rattle.whole_runs_memory.proofs.Above.{event_left}
use Rattle.whole_runs_memory.proofs.KeptOff.{handed_held_by}
use Rattle.whole_runs_memory.proofs.Rets.{ret_handed}
use Rattle.whole_runs_memory.proofs.Seen.{seen_above}

-- ---- before a run

misses : (o : Place) (x : ℕ) → IsInArea o → IsOutside x → covers (object_range o) x ≡ false
misses o x area out = elim (cover_cases (object_range o) x) [
  | inr apart ↦ apart.is
  | inl in' ↦ absurd (elim area [
    | inl constant ↦ true≢false (sym (and_from (leb constants x) (ltb x replay_globals) (le-leb constants x (omega (arith, in'.from, constant.0))) (lt-ltb x replay_globals (omega (arith, in'.below, constant.1)))) ∙ out.constant)
    | inr global ↦ elim global [
      | inl replay ↦ true≢false (sym (in_replay x (omega (arith, in'.from, replay.0)) (omega (arith, in'.below, replay.1))) ∙ out.replay)
      | inr system ↦ true≢false (sym (and_from (leb system_globals x) (ltb x system_end) (le-leb system_globals x (omega (arith, in'.from, system.0))) (lt-ltb x system_end (omega (arith, in'.below, system.1)))) ∙ out.system)
    ]
  ])
]

none_of : (os : List Place) (x : ℕ) (v : Option ℕ) → All IsInArea os → IsOutside x → byte_of os x v ≡ v
none_of [] x v areas out = refl
none_of (o ∷ rest) x v areas out =
    ap (byte_of rest x) (cond-false (covers (object_range o) x) _ v (misses o x (All-head IsInArea o rest areas) out))
    ∙ none_of rest x v (All-tail IsInArea o rest areas) out

pub none_placed : (w : World) (x : ℕ) → All IsInArea w.laid.placed.globals → All IsInArea w.laid.placed.strings → IsOutside x → placed_at w x ≡ None
none_placed w x globals strings out = none_of w.laid.placed.strings x (byte_of w.laid.placed.globals x None) strings out ∙ none_of w.laid.placed.globals x None globals out

-- ---- a mark above the cut

stacked_low : (base : ℕ) (fs : List Range) → Stacked base fs → base ≤ end_of base fs
stacked_low base [] h = omega arith
stacked_low base (f ∷ fs) h = let k = stacked_low base fs h.1 in omega (arith, h.0, k)

gone_none : (b : Bool) (v : Option ℕ) → v ≡ None → cond b None v ≡ None
gone_none true v e = refl
gone_none false v e = e

freed_none : (b : Bool) (c : Cell) (v : Option ℕ) → v ≡ None → cond b (value_of (cond b Dead c)) v ≡ None
freed_none true c v e = refl
freed_none false c v e = e

module _ (w : World) (past : List Mark) (m : Mark) (s : Picked w past) (made : IsMade w past s m) (above : m.side ≡ Replay)
    (still : IsNoStep m.act) (lt : m.thread < thread_count) (whole : IsWhole (begin w) (seen past))
    (after : IsWhole (begin w) (seen (m ∷ past))) (x : ℕ) (out : IsOutside x) (none : real w past x ≡ None)
    (dead : (byte (begin w) x (seen past)).cell ≡ Dead) where
  abbrev i : Interface
  i = interface w

  abbrev v : Option ℕ
  v = real w past x

  abbrev c : Cell
  c = (byte (begin w) x (seen past)).cell

  abbrev mine : List Mark
  mine = marks_of (begin w) m.thread (seen past)

  allowed : Allowed (rules_above i (begin w) s.want) (begin w) (seen past) m
  allowed = made.mark.above above

  not_replay : {A : Type 0} → is_replay x ≡ true → A
  not_replay is = absurd (true≢false (sym is ∙ out.replay))

  stores : (o : Option ℕ) (at : ℕ) (bytes : List ℕ) → m.act ≡ Store o at bytes → left_by w (m ∷ past) x (Store o at bytes) v ≡ None
  stores o at bytes e = elim (cover_cases (range at (length bytes)) x) [
    | inl in' ↦ absurd (subst IsLive dead (subst (λ a. Asks a (λ y. byte (begin w) y (seen past))) e allowed.bytes x in'.is))
    | inr apart ↦ cond-false (covers (range at (length bytes)) x) _ v apart.is ∙ none
  ]

  frames_now : (g : ℕ) (args : List ℕ) (at : ℕ) (bytes : List ℕ) → m.act ≡ Enter g args at bytes → frames (marks_of (begin w) m.thread (seen (m ∷ past))) ≡ range at (length bytes) ∷ frames mine
  frames_now g args at bytes e =
      ap (λ p. frames (marks_of (begin w) m.thread p)) (seen_above w m past above)
      ∙ frames_own (begin w) m (seen past)
      ∙ ap (λ a. frames_after a (frames mine)) e

  enters : (g : ℕ) (args : List ℕ) (at : ℕ) (bytes : List ℕ) → m.act ≡ Enter g args at bytes → left_by w (m ∷ past) x (Enter g args at bytes) v ≡ None
  enters g args at bytes e =
      let fs = frames_now g args at bytes e in
      let k : Stacked (stack Replay m.thread) (range at (length bytes) ∷ frames mine) = subst (Stacked (stack Replay m.thread)) fs (after.stacked m.thread) in
      let low = stacked_low (stack Replay m.thread) (frames mine) k.1 in
      let high : at + length bytes ≤ stack Replay m.thread + stack_size = subst (λ q. end_of (stack Replay m.thread) q ≤ stack Replay m.thread + stack_size) fs (after.room m.thread) in
      elim (cover_cases (range at (length bytes)) x) [
        | inl in' ↦ not_replay (in_replay x (omega (arith, in'.from, k.0, low)) (omega (arith, in'.below, high, lt)))
        | inr apart ↦ cond-false (covers (range at (length bytes)) x) _ v apart.is ∙ none
      ]

  -- ---- events

  module _ (e : Event) (is : m.act ≡ Made e) where
    keyed : map (λ q. q.key) e.keys ≡ sorted_keys (keys_for i m.thread mine e.kind)
    keyed = subst (HasKeys i m.thread mine) is allowed.own.0

    has_it : (k : EventKind) → (ks : List Key) (j : Key) → e.kind ≡ k → keys_for i m.thread mine k ≡ ks ++ j ∷ [] → has m (OfKey j) ≡ true
    has_it k ks j kind are = ap (λ a. is_listed (keys_of a) j) is ∙ listed_last e.keys ks j (keyed ∙ ap (λ q. sorted_keys (keys_for i m.thread mine q)) kind ∙ ap sorted_keys are)

    shared : (j : Key) → has m (OfKey j) ≡ true → SharedEvent i (begin w) j.class j.value (new_events (OfKey j) (seen past)) e.kind
    shared j h = subst (SharedAct i (begin w) j (new_events (OfKey j) (seen past))) is (allowed.shared (OfKey j) h)

    allocs : (at size : ℕ) → e.kind ≡ Alloc at size → cond (within at (granted at size) x) (value_of (cond (within at (granted at size) x) (Live 0) c)) v ≡ None
    allocs at size kind =
        let place : IsPlace replay_pool (blocks_from (begin w).blocks (new_events (OfKey (key Pool 0)) (seen past))) size at = subst
        (λ k. SharedEvent i (begin w) Pool 0 (new_events (OfKey (key Pool 0)) (seen past)) k) kind
        (shared (key Pool 0) (has_it (Alloc at size) [] (key Pool 0) kind refl)) in
        elim (cover_cases (range at (granted at size)) x) [
          | inr apart ↦ cond-false (covers (range at (granted at size)) x) _ v apart.is ∙ none
          | inl in' ↦ elim place [
            | inl p ↦ (let less = granted_most at size in not_replay (in_replay x (omega (arith, in'.from, p.0.low)) (omega (arith, in'.below, less, p.0.high))))
            | inr p ↦ (let zero = ap (λ a. granted a size) p.0 in absurd (omega (arith, in'.from, in'.below, zero)))
          ]
        ]
      where
        granted_most : (at n : ℕ) → granted at n ≤ n
        granted_most at n = go (eqb at 0)
          where
            go : (b : Bool) → cond b 0 n ≤ n
            go true = omega arith
            go false = omega arith

    -- what a Ret commits is in use
    used_in_use : (f : ℕ) (args : List ℕ) (r : ℕ) (same : Bool) (outs : List Piece) (k : ℕ) (u : Option ℕ) (commit : Commit) →
        e.kind ≡ Ret f args r same outs commit → i.commits f args r ≡ Some (record { key = k; used = u }) → CommitsUsed k u commit →
        ReleasesInUse (begin w) (seen past) commit
    used_in_use f args r same outs k None commit kind o c = subst (ReleasesInUse (begin w) (seen past)) (sym c) tt
    used_in_use f args r same outs k (Some n) NoRegion kind o c = tt
    used_in_use f args r same outs k (Some n) Withheld kind o c = tt
    used_in_use f args r same outs k (Some n) (Released j p) kind o c =
        let there = has_it (Ret f args r same outs (Released j p)) (i.keys_at_return f args) (key Async k) kind (ap (λ q. i.keys_at_return f args ++ commit_keys q) o) in
        let rule = subst (λ q. SharedEvent i (begin w) Async k (new_events (OfKey (key Async k)) (seen past)) q) kind (shared (key Async k) there) in
        ap (λ a. in_use (begin w) a (seen past)) c.0 ∙ rule c.0

    committed_in_use : (f : ℕ) (args : List ℕ) (r : ℕ) (same : Bool) (outs : List Piece) (q : Option Committing) (commit : Commit) →
        e.kind ≡ Ret f args r same outs commit → i.commits f args r ≡ q → Commits q commit → ReleasesInUse (begin w) (seen past) commit
    committed_in_use f args r same outs None commit kind o c = subst (ReleasesInUse (begin w) (seen past)) (sym c) tt
    committed_in_use f args r same outs (Some q) commit kind o c = used_in_use f args r same outs q.key q.used commit kind o c

    rets : (f : ℕ) (args : List ℕ) (r : ℕ) (same : Bool) (outs : List Piece) (commit : Commit) → e.kind ≡ Ret f args r same outs commit → any_piece (outs ++ released commit) x ≡ true → ⊥
    rets f args r same outs commit kind there =
        let carried : IsReturn i (begin w) m.thread mine f args r same outs commit = subst (EventCarries i (begin w) m.thread mine) kind (subst (Carries i (begin w) m.thread mine s.want) is allowed.own.1) in
        let used = committed_in_use f args r same outs (i.commits f args r) commit kind refl carried.committed in
        subst IsHeld dead (handed_held_by w past m.thread x whole (ret_handed (begin w) (seen past) m.thread x f args outs commit carried.closes used there))

    by_kind : (k : EventKind) → e.kind ≡ k → cond (changes k x) (value_of (event_leaves k x c)) v ≡ None
    by_kind (Call f args ins outs prepared) kind = none
    by_kind (Ret f args r same outs commit) kind = elim (cases_Bool (any_piece (outs ++ released commit) x)) [
      | inl there ↦ absurd (rets f args r same outs commit kind there)
      | inr apart ↦ cond-false (any_piece (outs ++ released commit) x) _ v apart ∙ none
    ]
    by_kind (Up f args) kind = none
    by_kind (UpRet f r) kind = none
    by_kind (Alloc at size) kind = allocs at size kind
    by_kind (Free at size) kind = freed_none (within at size x) c v none
    by_kind (Stop fault) kind = none

    events : left_by w (m ∷ past) x (Made e) v ≡ None
    events = sym (ap (λ a. left_by w (m ∷ past) x a v) is) ∙ event_left w past m e e.kind x above is refl ∙ by_kind e.kind refl

  acts : (a : Act) → m.act ≡ a → IsNoStep a → left_by w (m ∷ past) x a v ≡ None
  acts Turn e n = none
  acts (Load o at bytes) e n = none
  acts (Store o at bytes) e n = stores o at bytes e
  acts (Enter g args at bytes) e n = enters g args at bytes e
  acts (Leave at size) e n = gone_none (within at size x) v none
  acts (Step g args r ins pieces freed) e n = absurd n
  acts (Fault k crosses ins outs access) e n = none
  acts (Made ev) e n = events ev e

  pub none_above : real w (m ∷ past) x ≡ None
  none_above = acts m.act refl still
