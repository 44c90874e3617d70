-- What a mark may touch: live bytes, but where it enters a frame, has a new block or gives back what is held.
use Rattle.std.proofs.Common.{◌≡◌, inl, inr, ⊎_elim, ℕ, ◌+◌, ◌<◌, ◌≤◌, Bool, true, false, ◌||◌, cond, eqb, List, [], ◌∷◌, ◌++◌, length, Option, Some, None, refl, sym, ap, ◌∙◌, subst, arith, eq-eqb}
use Rattle.std.proofs.lemmas.Bool.{or_cases, true≢false, cases_eq, ne_eqb}
use Rattle.run_events.specs.declared.key.Class.TheVariants.{Pool, Async}
use Rattle.run_events.specs.declared.key.KeyMark.{KeyMark}
use Rattle.marks.specs.declared.side.Side.{Side}
use Rattle.marks.specs.declared.side.Side.TheVariants.{Replay}
use Rattle.marks.specs.Places.{thread_count, stack, stack_size, replay_pool, pool_size}
use Rattle.marks.specs.Ranges.{Piece, range, within, covers, any_range, any_piece, any_prepared, byte_at, piece_ranges}
use Rattle.marks.specs.Marks.{EventKind, Call, Ret, Up, UpRet, Alloc, Free, Stop, Commit, NoRegion, Withheld, Released, Act, Turn, Load, Store, Enter, Leave, Step, Fault, Made, Mark, released}
use Rattle.marks.specs.Bytes.{Dead, Live, IsLive, IsHeld, granted, event_reads, event_writes, touches, place}
use Rattle.marks.specs.Wants.{Want}
use Rattle.marks.proofs.Touched.{or_true_left}
use Rattle.replay_runs.specs.Runs.{Link, OfKey, In, Start, Allowed, has, is_listed, is_fault, marks_of, new_events, byte}
use Rattle.replay_runs.specs.Known.{known_at}
use Rattle.replay_runs.specs.Interface.{Interface, Program, Committing}
use Rattle.replay_runs.specs.Threads.{OpenCall, HasRoom, frame_place, frames, open_calls, tail}
use Rattle.replay_runs.specs.Pool.{IsPlace, blocks_from, blocks, commit_leaves, in_use_from, in_use}
use Rattle.replay_runs.specs.Keys.{key, sorted_keys, commit_keys}
use Rattle.replay_runs.specs.Rules.{Carries, Closes, Commits, CommitsUsed, ReleaseRule, replay_rules}
use Rattle.replay_runs.proofs.Replies.{Plain, turn, load, no_load, store, no_store, no_write, enter, full, leave, no_free, no_call, fail, plain_is}
use Rattle.replay_runs.proofs.Keys.{listed_last}
use Rattle.replay_runs.specs.Unseen.{Holder, Calling, Preparing, link_of, any_held, is_in, holds, is_own, BytesAreKnown, IsWhole, Once}
use Rattle.replay_runs.proofs.Blocks.{bounds, cond_true, cond_false}
use Rattle.replay_runs.proofs.Holding.{held_not_dead, given_held, shown_live, piece_range_of, pieces_cases, holds_cases, act_taken}
use Rattle.replay_runs.proofs.Lies.{ends_above, one_stack, not_both_areas, inside, meets_none_out}
use Rattle.replay_runs.proofs.Telling.{late_knows}

abbrev pub pool : Link
pool = OfKey (key Pool 0)

-- what holds at each point of a run
pub record Inv (s : Start) (past : List Mark) : Type 0 where
  pub whole : IsWhole s past
  pub known : (x : ℕ) → BytesAreKnown s past x

-- the mark makes the byte live, and no one holds it then; all accesses by others were known to it
pub record Over (s : Start) (past : List Mark) (m : Mark) (x : ℕ) : Type 0 where
  pub live_after : IsLive (byte s x (m ∷ past)).cell
  pub none_held : (h : Holder) → holds s (m ∷ past) x h ≡ true → ⊥
  pub not_above : (u : ℕ) → u < thread_count → stack Replay u ≤ x → frame_place u (marks_of s u (m ∷ past)) ≤ x → x < stack Replay u + stack_size → ⊥
  pub not_unused : replay_pool ≤ x → x < replay_pool + pool_size → any_range (blocks s (m ∷ past)) x ≡ false → ⊥
  pub seen : (a : Mark) → In a past → (m.thread ≡ a.thread → ⊥) → touches a.act x ≡ true → place a < known_at past m a.thread

pub data Touch (s : Start) (past : List Mark) (m : Mark) (x : ℕ) : Type 0 where
  live : IsLive (byte s x past).cell → Touch s past m x
  over : Over s past m x → Touch s past m x

abbrev pub EnterFacts : ℕ → List Mark → Act → Type 0
EnterFacts t mine (Enter f vs at b) = (at ≡ frame_place t mine) × HasRoom t mine (length b)
EnterFacts t mine _ = Unit {0}

abbrev IsReleased : Commit → Type 0
IsReleased (Released k p) = Unit {0}
IsReleased _ = ⊥

no_region : (commit : Commit) (k : ℕ) (p : Piece) → commit ≡ Released k p → commit ≡ NoRegion → ⊥
no_region commit k p is z = subst IsReleased (sym is ∙ z) tt

-- a commit releases the region under its key
committed_key : (q : Committing) (commit : Commit) (k : ℕ) (p : Piece) → commit ≡ Released k p → Commits (Some q) commit → k ≡ q.key
committed_key q commit k p is c = go q.used (subst (λ w. CommitsUsed q.key q.used w) is c)
  where
    go : (n : Option ℕ) → CommitsUsed q.key n (Released k p) → k ≡ q.key
    go None e = absurd (subst IsReleased e tt)
    go (Some n) e = e.0

entry : (i : Interface) (s : Start) (t : ℕ) (mine : List Mark) (want : Want) (a : Act) → Plain want a → Carries i s t mine want a → EnterFacts t mine a
entry i s t mine want a turn c = tt
entry i s t mine want a (load {o} {at} {n} bytes e) c = tt
entry i s t mine want a (no_load {o} {at} {n}) c = tt
entry i s t mine want a (store {o} {at} {bytes}) c = tt
entry i s t mine want a (no_store {o} {at} {bytes}) c = tt
entry i s t mine want a (no_write {o} {at} {bytes}) c = tt
entry i s t mine want a (enter {i = b} {f} {args} {bytes} at) c = c
entry i s t mine want a (full {i = b} {f} {args} {bytes}) c = tt
entry i s t mine want a (leave {at} {n}) c = tt
entry i s t mine want a (no_free {at}) c = tt
entry i s t mine want a (no_call {i = b} {f} {args} k ins outs ac) c = tt
entry i s t mine want a (fail {k}) c = tt

module _ (program : Program) (s : Start) (past : List Mark) (inv : Inv s past) (t n : ℕ) (sd : Side) where
  abbrev mk : Act → Mark
  mk a = record { thread = t; side = sd; index = n; act = a }

  abbrev mine : List Mark
  mine = marks_of s t past

  abbrev May : Act → Type 0
  May a = Allowed (replay_rules program s) s past (mk a)

  pub other : (a : Act) (u : ℕ) → (t ≡ u → ⊥) → marks_of s u (mk a ∷ past) ≡ marks_of s u past
  other a u ne = cond_false (eqb t u) (mk a ∷ marks_of s u past) (marks_of s u past) (ne_eqb t u ne)

  pub own : (a : Act) → marks_of s t (mk a ∷ past) ≡ mk a ∷ mine
  own a = cond_true (eqb t t) (mk a ∷ mine) mine (eq-eqb t t refl)

  pub enters : (f : ℕ) (vs : List ℕ) (at : ℕ) (b : List ℕ) → May (Enter f vs at b) → (at ≡ frame_place t mine) × HasRoom t mine (length b)
  enters f vs at b h = entry program.interface s t mine (program.want t mine) (Enter f vs at b) (plain_is program.interface (program.want t mine) (Enter f vs at b) refl (h.own.modes refl) h.own.replies) h.own.carries

  -- a dead byte has no holder, and so has none after a mark that takes nothing
  untaken : (a : Act) (x : ℕ) → ((h : Holder) → act_taken a t x h ≡ false) → ((h : Holder) → holds s past x h ≡ true → ⊥) → (h : Holder) → holds s (mk a ∷ past) x h ≡ true → ⊥
  untaken a x idle none h e = ⊎_elim (λ z. none h z) (λ z. true≢false (sym z.0 ∙ idle h)) (holds_cases s past (mk a) x h e)

  dead_unheld : (x : ℕ) → (byte s x past).cell ≡ Dead → (h : Holder) → holds s past x h ≡ true → ⊥
  dead_unheld x d h e = held_not_dead (byte s x past).cell (inv.whole.held x h e) d

  apart_from : (u : ℕ) → (t ≡ u → ⊥) → (eqb t u ≡ false)
  apart_from u ne = ne_eqb t u ne

  pub entered : (f : ℕ) (vs : List ℕ) (at : ℕ) (b : List ℕ) → May (Enter f vs at b) → (x : ℕ) → within at (length b) x ≡ true → Over s past (mk (Enter f vs at b)) x
  entered f vs at b h x e =
      record {
        live_after = subst IsLive (sym (cond_true (within at (length b) x) (Live (byte_at at b x)) (byte s x past).cell e)) tt;
        none_held = untaken (Enter f vs at b) x (λ h. refl) (dead_unheld x dead);
        not_above = λ u lt lo ab hi. ⊎_elim
            (λ is.
            let p : frame_place t (marks_of s t (mk (Enter f vs at b) ∷ past)) ≤ x = subst (λ v. frame_place v (marks_of s v (mk (Enter f vs at b) ∷ past)) ≤ x) (sym is) ab in
            let q : at + length b ≤ x = subst (λ l. frame_place t l ≤ x) (own (Enter f vs at b)) p in
            absurd (omega (arith, q, w.1)))
            (λ ne. ne (one_stack t u x low high lo hi))
            (cases_eq t u);
        not_unused = λ lo hi z. not_both_areas t x h.own.thread high lo;
        seen = λ a i ne z. (inv.known x).stacks t h.own.thread low high dead a i (apart_from a.thread ne) z;
      }
    where
      fact : (at ≡ frame_place t mine) × HasRoom t mine (length b)
      fact = enters f vs at b h

      w : (at ≤ x) × (x < at + length b)
      w = bounds at (length b) x e

      low : stack Replay t ≤ x
      low = omega (arith, w.0, fact.0, ends_above (stack Replay t) (frames mine) (inv.whole.stacked t))

      high : x < stack Replay t + stack_size
      high = omega (arith, w.1, fact.0, fact.1.0)

      dead : (byte s x past).cell ≡ Dead
      dead = inv.whole.above t x h.own.thread (omega (arith, w.0, fact.0)) high

  -- an event
  module _ (st : ℕ) (ks : List KeyMark) (c : ℕ) where
    abbrev ev : EventKind → Act
    ev k = Made (record { kind = k; steps = st; keys = ks; clock = c })

    -- it changes no frame
    same_frames : (k : EventKind) (u x : ℕ) → frame_place u (marks_of s u (mk (ev k) ∷ past)) ≤ x → frame_place u (marks_of s u past) ≤ x
    same_frames k u x = go (eqb t u)
      where
        go : (b : Bool) → frame_place u (cond b (mk (ev k) ∷ marks_of s u past) (marks_of s u past)) ≤ x → frame_place u (marks_of s u past) ≤ x
        go true h = h
        go false h = h

    pub allocated : (at size : ℕ) → May (ev (Alloc at size)) → (x : ℕ) → within at (granted at size) x ≡ true → Over s past (mk (ev (Alloc at size))) x
    allocated at size h x e = go (h.shared pool listed)
      where
        listed : is_listed ks (key Pool 0) ≡ true
        listed = listed_last ks [] (key Pool 0) h.own.keys

        w : (at ≤ x) × (x < at + granted at size)
        w = bounds at (granted at size) x e

        go : IsPlace replay_pool (blocks s past) size at → Over s past (mk (ev (Alloc at size))) x
        go (inr z) = absurd (omega (arith, w.0, w.1, cond_true (eqb at 0) 0 size (eq-eqb at 0 z.0)))
        go (inl f) =
            record {
              live_after = subst IsLive (sym (cond_true (within at (granted at size) x) (Live 0) (byte s x past).cell e)) tt;
              none_held = untaken (ev (Alloc at size)) x (λ h. refl) (dead_unheld x dead);
              not_above = λ u lt lo ab hi. not_both_areas u x lt hi low;
              not_unused = λ lo hi z. true≢false (sym new ∙ z);
              seen = λ a i ne z. let k = (inv.known x).pool low high dead a i refl z in let l = late_knows past (mk (ev (Alloc at size))) pool a.thread refl refl listed in omega (arith, k, l);
            }
          where
            somewhere : (at ≡ 0 → ⊥)
            somewhere z = absurd (omega (arith, z, f.0.low))

            whole : granted at size ≡ size
            whole = cond_false (eqb at 0) 0 size (ne_eqb at 0 somewhere)

            low : replay_pool ≤ x
            low = omega (arith, w.0, f.0.low)

            high : x < replay_pool + pool_size
            high = omega (arith, w.1, whole, f.0.high)

            dead : (byte s x past).cell ≡ Dead
            dead = inv.whole.unused x low high (meets_none_out (blocks s past) at size x f.0.free w.0 (omega (arith, w.1, whole)))

            some : (granted at size ≡ 0 → ⊥)
            some z = absurd (omega (arith, z, w.0, w.1))

            new : any_range (blocks s (mk (ev (Alloc at size)) ∷ past)) x ≡ true
            new = subst (λ l. any_range (blocks_from s.blocks l) x ≡ true) (sym (cond_true (is_listed ks (key Pool 0)) (mk (ev (Alloc at size)) ∷ new_events pool past) (new_events pool past) listed))
                (subst (λ l. any_range l x ≡ true) (sym (cond_false (eqb (granted at size) 0) (blocks s past) (range at size ∷ blocks s past) (ne_eqb (granted at size) 0 some)))
                (or_true_left (within at size x) (any_range (blocks s past) x) (inside at size x w.0 (omega (arith, w.1, whole)))))

    module _ (f : ℕ) (args : List ℕ) (v : ℕ) (same : Bool) (outs : List Piece) (commit : Commit) where
      abbrev ret : Act
      ret = ev (Ret f args v same outs commit)

      -- who held the byte, and holds it no more
      record Back (x : ℕ) : Type 0 where
        holder : Holder
        held_it : holds s past x holder ≡ true
        no_more : holds s (mk ret ∷ past) x holder ≡ true → ⊥
        link_has : has (mk ret) (link_of holder) ≡ true
        strange : (u : ℕ) → (t ≡ u → ⊥) → is_own (link_of holder) u ≡ false

      of_call : (cs : List OpenCall) → open_calls mine ≡ cs → Closes cs f args (piece_ranges outs) → (x : ℕ) → any_piece outs x ≡ true → Once cs x → Back x
      of_call [] is z x e o = absurd z
      of_call (d ∷ cs) is z x e o =
          record {
            holder = Calling t;
            held_it = ap (λ l. any_held l x) is ∙ or_true_left (any_range d.outs x) (any_held cs x) there;
            no_more = λ y. true≢false (sym y ∙ ap (λ l. any_held (open_calls l) x) (own ret) ∙ ap (λ l. any_held (tail l) x) is ∙ o.0 there);
            link_has = eq-eqb t t refl;
            strange = λ u ne. ne_eqb t u ne;
          }
        where
          there : any_range d.outs x ≡ true
          there = sym (ap (λ l. any_range l x) z.2) ∙ piece_range_of outs x ∙ e

      of_region : (k : ℕ) (p : Piece) → commit ≡ Released k p → May ret → (o : Option Committing) → program.interface.commits f args v ≡ o → (x : ℕ) → covers p.range x ≡ true → Back x
      of_region k p is h None nothing x e = absurd (no_region commit k p is (subst (λ o. Commits o commit) nothing h.own.carries.committed))
      of_region k p is h (Some q) some x e =
          record {
            holder = Preparing q.key;
            held_it = ap (λ r. is_in r x) used ∙ e;
            no_more = λ y. true≢false (sym y ∙ ap (λ l. is_in (in_use_from q.key (s.in_use q.key) l) x) (cond_true (is_listed ks (key Async q.key)) (mk ret ∷ new_events (OfKey (key Async q.key)) past) (new_events (OfKey (key Async q.key)) past) listed) ∙ gone);
            link_has = listed;
            strange = λ u ne. refl;
          }
        where
          listed : is_listed ks (key Async q.key) ≡ true
          listed = listed_last ks (program.interface.keys_at_return f args) (key Async q.key) (h.own.keys ∙ ap (λ o. sorted_keys (program.interface.keys_at_return f args ++ commit_keys o)) some)

          its_key : k ≡ q.key
          its_key = committed_key q commit k p is (subst (λ o. Commits o commit) some h.own.carries.committed)

          released_it : commit ≡ Released q.key p
          released_it = is ∙ ap (λ j. Released j p) its_key

          used : in_use s q.key past ≡ Some p.range
          used = subst (λ w. ReleaseRule q.key (in_use s q.key past) w) released_it (h.shared (OfKey (key Async q.key)) listed) refl

          gone : is_in (commit_leaves q.key commit (in_use s q.key past)) x ≡ false
          gone = ap (λ w. is_in (commit_leaves q.key w (in_use s q.key past)) x) released_it ∙ ap (λ o. is_in o x) (cond_true (eqb q.key q.key) None (in_use s q.key past) (eq-eqb q.key q.key refl))

      back : May ret → (x : ℕ) → any_piece (outs ++ released commit) x ≡ true → Back x
      back h x e = ⊎_elim
          (λ z. of_call (open_calls mine) refl h.own.carries.closes x z (inv.whole.once t x))
          (λ z. region commit refl z)
          (pieces_cases outs (released commit) x e)
        where
          region : (w : Commit) → commit ≡ w → any_piece (released w) x ≡ true → Back x
          region NoRegion is z = absurd (true≢false (sym z))
          region Withheld is z = absurd (true≢false (sym z))
          region (Released k p) is z = of_region k p is h (program.interface.commits f args v) refl x (⊎_elim (λ y. y) (λ y. absurd (true≢false (sym y))) (or_cases (covers p.range x) false z))

      pub returned : May ret → (x : ℕ) → any_piece (outs ++ released commit) x ≡ true → Over s past (mk ret) x
      returned h x e =
          record {
            live_after = given_held (outs ++ released commit) x (byte s x past).cell e held;
            none_held = λ j y. ⊎_elim
                (λ z. b.no_more (subst (λ i. holds s (mk ret ∷ past) x i ≡ true) (inv.whole.one x j b.holder z b.held_it) y))
                (λ z. true≢false (sym z.0))
                (holds_cases s past (mk ret) x j y);
            not_above = λ u lt lo ab hi. held_not_dead (byte s x past).cell held (inv.whole.above u x lt (same_frames (Ret f args v same outs commit) u x ab) hi);
            not_unused = λ lo hi z. held_not_dead (byte s x past).cell held (inv.whole.unused x lo hi (same_blocks (is_listed ks (key Pool 0)) z));
            seen = λ a i ne z. let k = (inv.known x).held b.holder b.held_it a i (b.strange a.thread ne) z in let l = late_knows past (mk ret) (link_of b.holder) a.thread refl refl b.link_has in omega (arith, k, l);
          }
        where
          b : Back x
          b = back h x e

          held : IsHeld (byte s x past).cell
          held = inv.whole.held x b.holder b.held_it

          same_blocks : (d : Bool) → any_range (blocks_from s.blocks (cond d (mk ret ∷ new_events pool past) (new_events pool past))) x ≡ false → any_range (blocks s past) x ≡ false
          same_blocks true z = z
          same_blocks false z = z

    event_touch : (k : EventKind) → May (ev k) → (x : ℕ) → (event_reads k x || event_writes k x) ≡ true → Touch s past (mk (ev k)) x
    event_touch (Call f args ins outs ps) h x e = live (⊎_elim (λ z. shown_live ins x (byte s x past).cell z (h.bytes x).0) (λ z. (h.bytes x).1 z) (or_cases (any_piece ins x) (any_range outs x || any_prepared ps x) e))
    event_touch (Ret f args v same outs commit) h x e = over (returned f args v same outs commit h x e)
    event_touch (Up f args) h x e = absurd (true≢false (sym e))
    event_touch (UpRet f v) h x e = absurd (true≢false (sym e))
    event_touch (Alloc at size) h x e = over (allocated at size h x e)
    event_touch (Free at size) h x e = live (h.bytes x e).0
    event_touch (Stop f) h x e = absurd (true≢false (sym e))

  pub touch : (a : Act) → May a → is_fault a ≡ 0 → (x : ℕ) → touches a x ≡ true → Touch s past (mk a) x
  touch Turn h nf x e = absurd (true≢false (sym e))
  touch (Load o at bytes) h nf x e = ⊎_elim (λ z. live (subst IsLive (sym (h.bytes x z)) tt)) (λ z. absurd (true≢false (sym z))) (or_cases (within at (length bytes) x) false e)
  touch (Store o at bytes) h nf x e = live (h.bytes x e)
  touch (Enter f vs at b) h nf x e = over (entered f vs at b h x e)
  touch (Leave at size) h nf x e = live (h.bytes x e)
  touch (Step f args v ins pieces freed) h nf x e = absurd (true≢false (sym e))
  touch (Fault k cr ins outs at) h nf x e = absurd (omega (arith, nf))
  touch (Made e) h nf x z = event_touch e.steps e.keys e.clock e.kind h x z
