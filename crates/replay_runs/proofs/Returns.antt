-- The checks of a Ret in a replay pass exactly where it keeps the rules of sizes and of its key.
use Rattle.std.proofs.Common.{◌≡◌, ⊎_elim, ℕ, ◌≤◌, Bool, true, false, cond, eqb, List, [], ◌∷◌, ◌++◌, length, map, Option, Some, None, inl, inr, refl, sym, ap, ◌∙◌, subst, arith, eqb-true}
use Rattle.std.proofs.lemmas.Bool.{cases_lt, true≢false}
use Rattle.run_events.specs.declared.key.Class.TheVariants.{Async}
use Rattle.run_events.specs.declared.key.Key.{Key}
use Rattle.marks.specs.declared.range.Range.{Range}
use Rattle.marks.specs.Ranges.{Piece, are_bytes, piece_ranges}
use Rattle.marks.specs.Marks.{EventKind, Call, Ret, Up, UpRet, Alloc, Free, Stop, Commit, NoRegion, Withheld, Released, Event, Act, Turn, Load, Store, Enter, Leave, Step, Fault, Made, Mark}
use Rattle.replay_runs.specs.Runs.{OfKey, Start, Allowed, is_listed, keys_of, marks_of, new_events}
use Rattle.replay_runs.specs.Interface.{Interface, Program, Committing}
use Rattle.replay_runs.specs.Threads.{OpenCall, open_calls, act_calls, calls_after, tail}
use Rattle.replay_runs.specs.Pool.{in_use}
use Rattle.replay_runs.specs.Keys.{key, sorted_keys, commit_keys, keys_for}
use Rattle.replay_runs.specs.Rules.{AreUsed, CommitsUsed, Commits, Closes, IsReturn, EventCarries, Carries, HasKeys, ReleaseRule, AsyncRule, SharedAct, replay_rules}
use Rattle.replay_runs.specs.Checks.{Checks, Done, Passes, replayed, IsSpoiled, size_check, size_checks, commit_size_check, return_checks}
use Rattle.replay_runs.proofs.Keys.{listed_last}
use Rattle.replay_runs.specs.Returns.{AreAnnotated, OpenCallsAreAnnotated, HaveCounts, ReleasesUsed, IsCommitted, ReleasesInUse, ReturnChecksAreExact, RetsPass}

abbrev none : ℕ → Bool
none x = false

-- a region of a replay is spoiled only by its used size
fits : (r : Range) (n : ℕ) → ((x : ℕ) → (x ≡ r.addr) × IsSpoiled none 0 r n → ⊥) → n ≤ r.len
fits r n h = ⊎_elim (λ lt. absurd (h r.addr (refl, inr (inl lt)))) (λ le. le) (cases_lt r.len n)

unspoiled : (r : Range) (n : ℕ) → n ≤ r.len → (x : ℕ) → (x ≡ r.addr) × IsSpoiled none 0 r n → ⊥
unspoiled r n le x b = ⊎_elim (λ z. omega (arith, z)) (λ c. ⊎_elim (λ z. omega (arith, z, le)) (λ z. true≢false (sym z.3)) c) b.1

first_range : (p : Piece) (ps : List Piece) (r : Range) (rs : List Range) → piece_ranges (p ∷ ps) ≡ r ∷ rs → p.range ≡ r
first_range p ps r rs e = cc

other_ranges : (p : Piece) (ps : List Piece) (r : Range) (rs : List Range) → piece_ranges (p ∷ ps) ≡ r ∷ rs → piece_ranges ps ≡ rs
other_ranges p ps r rs e = cc

-- the checks of the held ranges
sizes_say : (outs : List Piece) (rs : List Range) (ns : List ℕ) (cs : Checks) → piece_ranges outs ≡ rs → HaveCounts ns outs → Passes (size_checks none [] rs ns cs) → AreUsed ns outs × Passes cs
sizes_say [] [] [] cs e c p = (tt, p)
sizes_say [] [] (n ∷ ns) cs e c p = absurd c
sizes_say [] (r ∷ rs) ns cs e c p = absurd cc
sizes_say (q ∷ qs) [] ns cs e c p = absurd cc
sizes_say (q ∷ qs) (r ∷ rs) [] cs e c p = absurd c
sizes_say (q ∷ qs) (r ∷ rs) (n ∷ ns) cs e c p =
    let le : n ≤ q.range.len = subst (λ z. n ≤ z.len) (sym (first_range q qs r rs e)) (fits r n p.0) in
    let w = sizes_say qs rs ns cs (other_ranges q qs r rs e) c.2 p.1 in
    (((c.0, le, c.1), w.0), w.1)

say_sizes : (outs : List Piece) (rs : List Range) (ns : List ℕ) (cs : Checks) → piece_ranges outs ≡ rs → AreUsed ns outs → Passes cs → Passes (size_checks none [] rs ns cs)
say_sizes [] [] ns cs e u p = p
say_sizes [] (r ∷ rs) ns cs e u p = absurd cc
say_sizes (q ∷ qs) [] ns cs e u p = p
say_sizes (q ∷ qs) (r ∷ rs) [] cs e u p = p
say_sizes (q ∷ qs) (r ∷ rs) (n ∷ ns) cs e u p =
    (unspoiled r n (subst (λ z. n ≤ z.len) (first_range q qs r rs e) u.0.1), say_sizes qs rs ns cs (other_ranges q qs r rs e) u.1 p)

some_range : (r q : Range) → Some r ≡ Some q → r ≡ q
some_range r q e = cc

not_none : (r : Range) → Some r ≡ None → ⊥
not_none r e = cc

module _ (i : Interface) (s : Start) (past : List Mark) (f : ℕ) (args : List ℕ) (v : ℕ) (outs : List Piece) (ranges : piece_ranges outs ≡ i.outs f args) where
  abbrev with_commit : Option Committing → Interface
  with_commit o = record i { commits = λ f args v. o }

  abbrev Pass : Option Committing → Type 0
  Pass o = Passes (return_checks (with_commit o) s past replayed f args v)

  abbrev Keeps : Option Committing → Commit → Type 0
  Keeps o commit = AreUsed (i.used f args v) outs × Commits o commit × ReleasesInUse s past commit

  -- no region is released
  none_released : (commit : Commit) → commit ≡ NoRegion → ReleasesInUse s past commit
  none_released commit e = subst (ReleasesInUse s past) (sym e) tt

  none_withheld : (commit : Commit) → commit ≡ Withheld → ReleasesInUse s past commit
  none_withheld commit e = subst (ReleasesInUse s past) (sym e) tt

  -- a region is
  module _ (k n : ℕ) (p : Piece) where
    abbrev commits : Option Committing
    commits = Some (record { key = k; used = Some n })

    abbrev small : Range → ℕ
    small r = cond (eqb r.addr 0) 0 n

    later : (o : Option Range) → in_use s k past ≡ o → HaveCounts (i.used f args v) outs → length p.bytes ≡ small p.range → are_bytes p.bytes ≡ true → ((r : Range) → in_use s k past ≡ Some r → p.range ≡ r) → Pass commits → Keeps commits (Released k p)
    later None e c count bytes its h = absurd (h.0 k (refl, e))
    later (Some r) e c count bytes its h =
        let same : p.range ≡ r = its r e in
        let checks : Passes (size_checks none [] (i.outs f args) (i.used f args v) (size_check none 0 r (small r) Done)) = subst (λ o. Passes (size_checks none [] (i.outs f args) (i.used f args v) (commit_size_check none 0 o n Done))) e h.1 in
        let w = sizes_say outs (i.outs f args) (i.used f args v) (size_check none 0 r (small r) Done) ranges c checks in
        let le : small p.range ≤ p.range.len = subst (λ z. small z ≤ z.len) (sym same) (fits r (small r) w.1.0) in
        (w.0, (refl, (count, le, bytes)), e ∙ ap Some (sym same))

    pub forth : HaveCounts (i.used f args v) outs → ReleasesUsed s past k (Some n) (Released k p) → Pass commits → Keeps commits (Released k p)
    forth c told h = later (in_use s k past) refl c told.1 told.2 told.3 h

    pub back : Keeps commits (Released k p) → Pass commits
    back w = (
      (λ x b. not_none p.range (sym w.2 ∙ b.1)),
      subst (λ o. Passes (size_checks none [] (i.outs f args) (i.used f args v) (commit_size_check none 0 o n Done))) (sym w.2)
          (say_sizes outs (i.outs f args) (i.used f args v) (size_check none 0 p.range (small p.range) Done) ranges w.0 (unspoiled p.range (small p.range) w.1.1.1, tt)),
    )

  exact_used : (k : ℕ) (o : Option ℕ) (commit : Commit) → HaveCounts (i.used f args v) outs → ReleasesUsed s past k o commit → (Pass (Some (record { key = k; used = o })) → Keeps (Some (record { key = k; used = o })) commit) × (Keeps (Some (record { key = k; used = o })) commit → Pass (Some (record { key = k; used = o })))
  exact_used k None commit c told = ((λ h. ((sizes_say outs (i.outs f args) (i.used f args v) Done ranges c h).0, told, none_withheld commit told)), λ w. say_sizes outs (i.outs f args) (i.used f args v) Done ranges w.0 tt)
  exact_used k (Some n) NoRegion c told = absurd told
  exact_used k (Some n) Withheld c told = absurd told
  exact_used k (Some n) (Released j p) c told =
      subst (λ l. (Pass (Some (record { key = k; used = Some n })) → Keeps (Some (record { key = k; used = Some n })) (Released l p)) × (Keeps (Some (record { key = k; used = Some n })) (Released l p) → Pass (Some (record { key = k; used = Some n })))) (sym told.0)
      (forth k n p c (refl, told.1, told.2, told.3), back k n p)

  pub exact_commit : (o : Option Committing) (commit : Commit) → HaveCounts (i.used f args v) outs → IsCommitted s past o commit → (Pass o → Keeps o commit) × (Keeps o commit → Pass o)
  exact_commit None commit c told = ((λ h. ((sizes_say outs (i.outs f args) (i.used f args v) Done ranges c h).0, told, none_released commit told)), λ w. say_sizes outs (i.outs f args) (i.used f args v) Done ranges w.0 tt)
  exact_commit (Some k) commit c told = exact_used k.key k.used commit c told

pub exact : (i : Interface) (s : Start) (past : List Mark) → ReturnChecksAreExact i s past
exact i s past f args v outs commit a =
    let w = exact_commit i s past f args v outs a.ranges (i.commits f args v) commit a.counts a.committed in (
      (λ h. let k = w.0 h in record { used = k.0; committed = k.1; in_use = k.2 }),
      λ k. w.1 (k.used, k.committed, k.in_use),
    )

-- the open calls of a run

tail_annotated : (i : Interface) (cs : List OpenCall) → AreAnnotated i cs → AreAnnotated i (tail cs)
tail_annotated i [] a = tt
tail_annotated i (c ∷ cs) a = a.2

annotated_event : (i : Interface) (s : Start) (t : ℕ) (mine : List Mark) (k : EventKind) → EventCarries i s t mine k → AreAnnotated i (open_calls mine) → AreAnnotated i (calls_after k (open_calls mine))
annotated_event i s t mine (Call f args ins outs prepared) h a = (h.0, h.2, a)
annotated_event i s t mine (Ret f args v same outs commit) h a = tail_annotated i (open_calls mine) a
annotated_event i s t mine (Up f args) h a = a
annotated_event i s t mine (UpRet f v) h a = a
annotated_event i s t mine (Alloc at size) h a = a
annotated_event i s t mine (Free at size) h a = a
annotated_event i s t mine (Stop f) h a = a

annotated_act : (program : Program) (s : Start) (t : ℕ) (mine : List Mark) (act : Act) → Carries program.interface s t mine (program.want t mine) act → AreAnnotated program.interface (open_calls mine) → AreAnnotated program.interface (act_calls act (open_calls mine))
annotated_act program s t mine (Made e) h a = annotated_event program.interface s t mine e.kind h a
annotated_act program s t mine Turn h a = a
annotated_act program s t mine (Load o at bytes) h a = a
annotated_act program s t mine (Store o at bytes) h a = a
annotated_act program s t mine (Enter f args at bytes) h a = a
annotated_act program s t mine (Leave at size) h a = a
annotated_act program s t mine (Step f args v ins pieces freed) h a = a
annotated_act program s t mine (Fault k cr ins outs at) h a = a

annotated_more : (program : Program) (s : Start) (m : Mark) (past : List Mark) → Carries program.interface s m.thread (marks_of s m.thread past) (program.want m.thread (marks_of s m.thread past)) m.act → ((u : ℕ) → AreAnnotated program.interface (open_calls (marks_of s u past))) → (t : ℕ) → AreAnnotated program.interface (open_calls (marks_of s t (m ∷ past)))
annotated_more program s m past carries before t = go (eqb m.thread t) refl
  where
    go : (b : Bool) → eqb m.thread t ≡ b → AreAnnotated program.interface (open_calls (cond b (m ∷ marks_of s t past) (marks_of s t past)))
    go true e = subst (λ u. AreAnnotated program.interface (act_calls m.act (open_calls (marks_of s u past)))) (eqb-true m.thread t e) (annotated_act program s m.thread (marks_of s m.thread past) m.act carries (before m.thread))
    go false e = before t

pub annotated : (program : Program) (s : Start) → OpenCallsAreAnnotated program s
annotated program s begins [] h t = begins t
annotated program s begins (m ∷ past) h t = annotated_more program s m past h.0.own.carries (annotated program s begins past h.1) t

-- a Ret that may come

closed_outs : (i : Interface) (cs : List OpenCall) (f : ℕ) (args : List ℕ) (outs : List Range) → Closes cs f args outs → AreAnnotated i cs → outs ≡ i.outs f args
closed_outs i [] f args outs h a = absurd h
closed_outs i (c ∷ cs) f args outs h a = h.2 ∙ a.1 ∙ (λ j. i.outs (sym h.0 j) (sym h.1 j))

counts : (ns : List ℕ) (ps : List Piece) → AreUsed ns ps → HaveCounts ns ps
counts [] [] u = tt
counts [] (p ∷ ps) u = absurd u
counts (n ∷ ns) [] u = absurd u
counts (n ∷ ns) (p ∷ ps) u = (u.0.0, u.0.2, counts ns ps u.1)

committed_used : (s : Start) (past : List Mark) (k : ℕ) (o : Option ℕ) (commit : Commit) → CommitsUsed k o commit → ReleasesInUse s past commit → ReleasesUsed s past k o commit
committed_used s past k None commit c u = c
committed_used s past k (Some n) NoRegion c u = absurd c
committed_used s past k (Some n) Withheld c u = absurd c
committed_used s past k (Some n) (Released j p) c u = (c.0, c.1.0, c.1.2, λ r e. some_range p.range r (sym u ∙ ap (λ z. in_use s z past) c.0 ∙ e))

is_committed : (s : Start) (past : List Mark) (o : Option Committing) (commit : Commit) → Commits o commit → ReleasesInUse s past commit → IsCommitted s past o commit
is_committed s past None commit c u = c
is_committed s past (Some q) commit c u = committed_used s past q.key q.used commit c u

module _ (program : Program) (s : Start) (past : List Mark) (m : Mark) (e : Event) (f : ℕ) (args : List ℕ) (v : ℕ) (same : Bool) (outs : List Piece) (commit : Commit) (may : Allowed (replay_rules program s) s past m) (is : m.act ≡ Made e) (kind : e.kind ≡ Ret f args v same outs commit) where
  abbrev mine : List Mark
  mine = marks_of s m.thread past

  abbrev i : Interface
  i = program.interface

  carried : IsReturn i s m.thread mine f args v same outs commit
  carried = subst (EventCarries i s m.thread mine) kind (subst (Carries i s m.thread mine (program.want m.thread mine)) is may.own.carries)

  keyed : HasKeys i m.thread mine (Made e)
  keyed = subst (HasKeys i m.thread mine) is may.own.keys

  abbrev keys : List Key
  keys = i.keys_at_return f args

  released_in_use : (o : Option Committing) → i.commits f args v ≡ o → (w : Commit) → commit ≡ w → Commits o w → ReleasesInUse s past w
  released_in_use o eo NoRegion ew c = tt
  released_in_use o eo Withheld ew c = tt
  released_in_use None eo (Released j p) ew c = absurd (released_not j p c)
    where
      released_not : (j : ℕ) (p : Piece) → Released j p ≡ NoRegion → ⊥
      released_not j p e = cc
  released_in_use (Some q) eo (Released j p) ew c =
      let k : j ≡ q.key = key_of q.used c in
      let sorted : map (λ z. z.key) e.keys ≡ sorted_keys (keys ++ (key Async q.key ∷ [])) = subst (λ z. map (λ q. q.key) e.keys ≡ sorted_keys (keys_for i m.thread mine z)) kind keyed ∙ ap (λ z. sorted_keys (keys ++ commit_keys z)) eo in
      let listed : is_listed e.keys (key Async q.key) ≡ true = listed_last e.keys keys (key Async q.key) sorted in
      let shared : SharedAct i s (key Async q.key) (new_events (OfKey (key Async q.key)) past) (Made e) = subst (SharedAct i s (key Async q.key) (new_events (OfKey (key Async q.key)) past)) is (may.shared (OfKey (key Async q.key)) (ap (λ a. is_listed (keys_of a) (key Async q.key)) is ∙ listed)) in
      let rule : ReleaseRule q.key (in_use s q.key past) commit = subst (AsyncRule q.key (in_use s q.key past)) kind shared in
      ap (λ z. in_use s z past) k ∙ subst (ReleaseRule q.key (in_use s q.key past)) ew rule k
    where
      key_of : (o : Option ℕ) → CommitsUsed q.key o (Released j p) → j ≡ q.key
      key_of None c = absurd (withheld_not c)
        where
          withheld_not : Released j p ≡ Withheld → ⊥
          withheld_not e = cc
      key_of (Some n) c = c.0

  pub ret_passes : AreAnnotated i (open_calls mine) → Passes (return_checks i s past replayed f args v)
  ret_passes a =
      let u = released_in_use (i.commits f args v) refl commit refl carried.committed in
      (exact i s past f args v outs commit (record {
        ranges = closed_outs i (open_calls mine) f args (piece_ranges outs) carried.closes a;
        counts = counts (i.used f args v) outs carried.used;
        committed = is_committed s past (i.commits f args v) commit carried.committed u;
      })).1 (record { used = carried.used; committed = carried.committed; in_use = u })

pub rets_pass : (program : Program) (s : Start) → RetsPass program s
rets_pass program s past m e f args v same outs commit a may is kind = ret_passes program s past m e f args v same outs commit may is kind a
