-- Walks over statements, put together from those over their parts.
use Rattle.std.proofs.Common.{◌≡◌, ℕ, Bool, true, false, ◌||◌, List, [], ◌∷◌, ◌++◌, Option, Some, None, if◌then◌else◌, refl, sym, ap, ◌∙◌, subst, append_assoc, append-nil}
use Rattle.lockset_check_rules.specs.declared.finding.LockFinding.{LockFinding}
use Rattle.lockset_check_rules.specs.declared.finding.LockFinding.TheVariants.{LoopLocks}
use Rattle.lockset_check_rules.specs.Mutexes.{Locks, shared}
use Rattle.lockset_check_rules.specs.After.{joined, maybe_after, statement_after}
use Rattle.lockset_check_rules.specs.Values.{maybe_found}
use Rattle.c_types_rules.specs.TypedTree.{MaybeValue, Statement}
use Rattle.lockset_check_rules.specs.Guards.{Guarded}
use Rattle.lockset_check_rules.specs.Statements.{Within, inside, loop_differs_at, loop_differs_in, return_differs, return_differs_at, statement_found}
use Rattle.lockset_check_held.specs.HeldSets.{HeldSets, entering, forgetting, going_back, is_as_at_loop, joining, keeping, leaving, restarting, turning}
use Rattle.lockset_check_values.specs.Sayings.{Sayings}
use Rattle.lockset_check_values.specs.Walks.{IsWalkOf, Walked, finding, maybe_walked, onward, with_sets}
use Rattle.lockset_check_bodies.specs.Places.{PartWalked, Passed, ended, in_part, in_round, loop_checked, start_checked, way_ended, within}

-- ---- one step

-- at the end of a part of a loop
pub loop_differs_here : (from : ℕ) (held start : Locks) (loops kept needs : List Locks) →
    (let h : HeldSets = record { held = held; start = start; loops = loops; kept = kept; needs = needs } in
    loop_differs_in (within h (Some from)) held ≡ (if is_as_at_loop h then [] else LoopLocks from ∷ []))
loop_differs_here from held start [] kept needs = refl
loop_differs_here from held start (s ∷ ss) kept needs = refl

-- a walk is over the same source
pub still : (s : Sayings) (o : Option Locks) (fs : List LockFinding) (goes : Bool) (w v : Walked) → Passed o fs goes w v → IsWalkOf s w → IsWalkOf s v
still s o fs goes w v p h = ap (λ (x : HeldSets). x.needs) p.sets ∙ h

pub still_in_part : (s : Sayings) (from : ℕ) (more : Within → Locks → List LockFinding) (w v : Walked) → PartWalked from more w v → IsWalkOf s w → IsWalkOf s v
still_in_part s from more w v p h = ap (λ (x : HeldSets). x.needs) p.sets ∙ h

-- on to where these are held
pub went : (s : Locks) (fs : List LockFinding) (w v : Walked) → v ≡ onward s fs w → Passed (Some s) fs true w v
went s fs w v e = record {
  held = ap (λ (x : Walked). x.sets.held) e;
  sets =
      let now : v.sets ≡ record w.sets { held = s } = ap (λ (x : Walked). x.sets) e in
      now ∙ ap (λ (x : Locks). record w.sets { held = x }) (sym (ap (λ (h : HeldSets). h.held) now));
  found = ap (λ (x : Walked). x.found) e;
}

-- not on, after findings at the same place
pub stopped : (fs : List LockFinding) (w v : Walked) → v ≡ finding fs w → Passed None fs false w v
stopped fs w v e = record {
  held = tt;
  sets =
      let now : v.sets ≡ w.sets = ap (λ (x : Walked). x.sets) e in
      now ∙ ap (λ (x : Locks). record w.sets { held = x }) (sym (ap (λ (h : HeldSets). h.held) now));
  found = ap (λ (x : Walked). x.found) e;
}

-- not on, after more findings further on
pub gave : (s : Locks) (fs gs : List LockFinding) (w v : Walked) → v ≡ finding gs (onward s fs w) → Passed None (fs ++ gs) false w v
gave s fs gs w v e = record {
  held = tt;
  sets =
      let now : v.sets ≡ record w.sets { held = s } = ap (λ (x : Walked). x.sets) e in
      now ∙ ap (λ (x : Locks). record w.sets { held = x }) (sym (ap (λ (h : HeldSets). h.held) now));
  found = ap (λ (x : Walked). x.found) e ∙ append_assoc w.found fs gs;
}

-- ---- one after another

pub nothing_passed : (w : Walked) → Passed (Some w.sets.held) [] true w w
nothing_passed w = record { held = refl; sets = refl; found = sym (append-nil w.found) }

module _ (after : Locks → Option Locks) (found : Within → Locks → List LockFinding) (from : Option ℕ) where
  pub then_passed : (o : Option Locks) (fs : List LockFinding) (goes : Bool) (w v u : Walked) → Passed o fs true w v
      → Passed (after v.sets.held) (found (within v.sets from) v.sets.held) goes v u
      → Passed (elim o [ Some t ↦ after t | None ↦ None ]) (fs ++ elim o [ Some t ↦ found (within w.sets from) t | None ↦ [] ]) goes w u
  then_passed None fs goes w v u p q = absurd p.held
  then_passed (Some t) fs goes w v u p q =
      let there : v.sets ≡ record w.sets { held = t } = p.sets ∙ ap (λ (x : Locks). record w.sets { held = x }) p.held in
      let rest : Passed (after t) (found (within w.sets from) t) goes v u =
      subst (λ (h : HeldSets). Passed (after h.held) (found (within h from) h.held) goes v u) there q in
      record {
        held = rest.held;
        sets = rest.sets ∙ ap (λ (h : HeldSets). record h { held = u.sets.held }) there;
        found =
            rest.found ∙ (ap (λ (l : List LockFinding). l ++ found (within w.sets from) t) p.found
            ∙ append_assoc w.found fs (found (within w.sets from) t));
      }

  pub stops_there : (o : Option Locks) (fs : List LockFinding) (w v : Walked) → Passed o fs false w v
      → Passed (elim o [ Some t ↦ after t | None ↦ None ]) (fs ++ elim o [ Some t ↦ found (within w.sets from) t | None ↦ [] ]) false w v
  stops_there (Some t) fs w v p = absurd p.held
  stops_there None fs w v p = record {
    held = tt;
    sets = p.sets;
    found = p.found ∙ ap (λ (l : List LockFinding). w.found ++ l) (sym (append-nil fs));
  }

-- the first part of a `for`, and its rounds
pub first_stopped : (found : Locks → List LockFinding) (o : Option Locks) (fs : List LockFinding) (w v : Walked) → Passed o fs false w v
    → Passed o (fs ++ elim o [ Some t ↦ found t | None ↦ [] ]) false w v
first_stopped found (Some t) fs w v p = absurd p.held
first_stopped found None fs w v p = record {
  held = tt;
  sets = p.sets;
  found = p.found ∙ ap (λ (l : List LockFinding). w.found ++ l) (sym (append-nil fs));
}

pub first_went : (found : HeldSets → Locks → List LockFinding) (o : Option Locks) (fs : List LockFinding) (goes : Bool) (w v u : Walked) → Passed o fs true w v
    → Passed (Some v.sets.held) (found v.sets v.sets.held) goes v u
    → Passed o (fs ++ elim o [ Some t ↦ found (record w.sets { held = t }) t | None ↦ [] ]) goes w u
first_went found None fs goes w v u p q = absurd p.held
first_went found (Some t) fs goes w v u p q =
    let there : v.sets ≡ record w.sets { held = t } = p.sets ∙ ap (λ (x : Locks). record w.sets { held = x }) p.held in
    let rest : Passed (Some t) (found (record w.sets { held = t }) t) goes v u =
    subst (λ (h : HeldSets). Passed (Some h.held) (found h h.held) goes v u) there q in
    record {
      held = rest.held;
      sets = rest.sets ∙ ap (λ (h : HeldSets). record h { held = u.sets.held }) there;
      found =
          rest.found ∙ (ap (λ (l : List LockFinding). l ++ found (record w.sets { held = t }) t) p.found
          ∙ append_assoc w.found fs (found (record w.sets { held = t }) t));
    }

-- ---- ways

-- where a value was passed and a way begins
abbrev pub kept_at : (t : Locks) → List LockFinding → Walked → Walked
kept_at t fs w = with_sets (keeping (record w.sets { held = t })) (onward t fs w)

pub one_joined : (t : Locks) (fs gs : List LockFinding) (w v u : Walked) (o : Option Locks) (goes : Bool) → Passed o gs goes (kept_at t fs w) v
    → u ≡ with_sets (way_ended goes v.sets) v → Passed (joined (Some t) o) (fs ++ gs) true w u
one_joined t fs gs w v u (Some s) true p e =
    let now : u.sets ≡ record w.sets { held = shared t v.sets.held } = ap (λ (x : Walked). x.sets) e ∙ ap joining p.sets in
    record {
      held = ap (λ (h : HeldSets). h.held) now ∙ ap (shared t) p.held;
      sets = now ∙ ap (λ (x : Locks). record w.sets { held = x }) (sym (ap (λ (h : HeldSets). h.held) now));
      found = ap (λ (x : Walked). x.found) e ∙ (p.found ∙ append_assoc w.found fs gs);
    }
one_joined t fs gs w v u None false p e =
    let now : u.sets ≡ record w.sets { held = t } = ap (λ (x : Walked). x.sets) e ∙ ap going_back p.sets in
    record {
      held = ap (λ (h : HeldSets). h.held) now;
      sets = now ∙ ap (λ (x : Locks). record w.sets { held = x }) (sym (ap (λ (h : HeldSets). h.held) now));
      found = ap (λ (x : Walked). x.found) e ∙ (p.found ∙ append_assoc w.found fs gs);
    }
one_joined t fs gs w v u (Some s) false p e = absurd p.held
one_joined t fs gs w v u None true p e = absurd p.held

-- the second of two ways begins where the first did
abbrev pub turned_at : (t first : Locks) → Walked → Walked → Walked
turned_at t first w v = record { sets = record w.sets { held = t; kept = first ∷ w.sets.kept }; found = v.found }

pub turned : (t : Locks) (fs gs : List LockFinding) (w v x : Walked) (o : Option Locks) (goes : Bool) → Passed o gs goes (kept_at t fs w) v
    → x ≡ with_sets (turning v.sets) v → x ≡ turned_at t v.sets.held w v
turned t fs gs w v x o goes p e = e ∙ ap (λ (h : HeldSets). with_sets (turning h) v) p.sets

module _ (t : Locks) (fs gs hs : List LockFinding) (w v u z : Walked) where
  found_by_two : v.found ≡ (w.found ++ fs) ++ gs → u.found ≡ v.found ++ hs → z.found ≡ u.found → z.found ≡ w.found ++ (fs ++ (gs ++ hs))
  found_by_two a b c =
      c ∙ (b ∙ (ap (λ (l : List LockFinding). l ++ hs) a ∙ (append_assoc (w.found ++ fs) gs hs ∙ append_assoc w.found fs (gs ++ hs))))

  both_at : (s : Locks) → z.sets ≡ record w.sets { held = s } → z.sets ≡ record w.sets { held = z.sets.held }
  both_at s now = now ∙ ap (λ (x : Locks). record w.sets { held = x }) (sym (ap (λ (h : HeldSets). h.held) now))

  pub two_joined : (o p : Option Locks) (first second : Bool) → Passed o gs first (kept_at t fs w) v → Passed p hs second (turned_at t v.sets.held w v) u
      → z ≡ with_sets (ended first second u.sets) u → Passed (joined o p) (fs ++ (gs ++ hs)) (first || second) w z
  two_joined (Some s) (Some r) true true a b e =
      let now : z.sets ≡ record w.sets { held = shared v.sets.held u.sets.held } = ap (λ (x : Walked). x.sets) e ∙ ap joining b.sets in
      record {
        held = ap (λ (h : HeldSets). h.held) now ∙ (ap (λ (x : Locks). shared x u.sets.held) a.held ∙ ap (shared s) b.held);
        sets = both_at (shared v.sets.held u.sets.held) now;
        found = found_by_two a.found b.found (ap (λ (x : Walked). x.found) e);
      }
  two_joined (Some s) None true false a b e =
      let now : z.sets ≡ record w.sets { held = v.sets.held } = ap (λ (x : Walked). x.sets) e ∙ ap going_back b.sets in
      record {
        held = ap (λ (h : HeldSets). h.held) now ∙ a.held;
        sets = both_at v.sets.held now;
        found = found_by_two a.found b.found (ap (λ (x : Walked). x.found) e);
      }
  two_joined None (Some r) false true a b e =
      let now : z.sets ≡ record w.sets { held = u.sets.held } = ap (λ (x : Walked). x.sets) e ∙ ap forgetting b.sets in
      record {
        held = ap (λ (h : HeldSets). h.held) now ∙ b.held;
        sets = both_at u.sets.held now;
        found = found_by_two a.found b.found (ap (λ (x : Walked). x.found) e);
      }
  two_joined None None false false a b e =
      let now : z.sets ≡ record w.sets { held = u.sets.held } = ap (λ (x : Walked). x.sets) e ∙ ap forgetting b.sets in
      record {
        held = tt;
        sets = both_at u.sets.held now;
        found = found_by_two a.found b.found (ap (λ (x : Walked). x.found) e);
      }
  two_joined (Some s) p false second a b e = absurd a.held
  two_joined None p true second a b e = absurd a.held
  two_joined (Some s) (Some r) true false a b e = absurd b.held
  two_joined (Some s) None true true a b e = absurd b.held
  two_joined None (Some r) false false a b e = absurd b.held
  two_joined None None false true a b e = absurd b.held

-- ---- loops

-- a part that is a value, to its end
pub part_made : (from : ℕ) (r : Guarded) (m : MaybeValue) (w v : Walked) → v ≡ loop_checked (Some from) (maybe_walked r m (with_sets (restarting w.sets) w))
    → PartWalked from (in_part r m) w v
part_made from r m w v e =
    let s = maybe_after m (restarting w.sets).held in
    let now : v.sets ≡ record w.sets { held = s } = ap (λ (x : Walked). x.sets) e in
    record {
      sets = now ∙ ap (λ (x : Locks). record w.sets { held = x }) (sym (ap (λ (h : HeldSets). h.held) now));
      found =
          ap (λ (x : Walked). x.found) e
          ∙ append_assoc w.found (maybe_found r m (restarting w.sets).held) (loop_differs_in (within w.sets (Some from)) s);
    }

-- a part of a loop to its end, after which this is held
pub record Ended (at : Within) (after : Option Locks) (more : List LockFinding) (w v : Walked) : Type 0 where
  pub sets : v.sets ≡ record w.sets { held = v.sets.held }
  pub found : v.found ≡ w.found ++ (more ++ loop_differs_at at after)

pub round_stopped : (from : ℕ) (o : Option Locks) (fs : List LockFinding) (w v : Walked) → Passed o fs false w v
    → Ended (within w.sets (Some from)) o fs w v
round_stopped from (Some s) fs w v p = absurd p.held
round_stopped from None fs w v p = record {
  sets = p.sets;
  found = p.found ∙ ap (λ (l : List LockFinding). w.found ++ l) (sym (append-nil fs));
}

pub round_ended : (from : ℕ) (o : Option Locks) (fs : List LockFinding) (w v u : Walked) → Passed o fs true w v
    → u ≡ loop_checked (Some from) v → Ended (within w.sets (Some from)) o fs w u
round_ended from None fs w v u p e = absurd p.held
round_ended from (Some s) fs w v u p e =
    let there : v.sets ≡ record w.sets { held = s } = p.sets ∙ ap (λ (x : Locks). record w.sets { held = x }) p.held in
    let now : u.sets ≡ record w.sets { held = s } = ap (λ (x : Walked). x.sets) e ∙ there in
    let differs = loop_differs_in (within w.sets (Some from)) s in
    record {
      sets = now ∙ ap (λ (x : Locks). record w.sets { held = x }) (sym (ap (λ (h : HeldSets). h.held) now));
      found =
          ap (λ (x : Walked). x.found) e
          ∙ (ap (λ (h : HeldSets). v.found ++ loop_differs_in (within h (Some from)) h.held) there
          ∙ (ap (λ (l : List LockFinding). l ++ differs) p.found ∙ append_assoc w.found fs differs));
    }

-- the body, from what is held at the loop's start
pub ended_part : (from : ℕ) (r : Guarded) (a : Statement) (w x v : Walked) → x ≡ with_sets (restarting w.sets) w
    → Ended (within x.sets (Some from)) (statement_after a x.sets.held) (statement_found r (within x.sets (Some from)) a x.sets.held) x v
    → PartWalked from (in_round r a) w v
ended_part from r a w x v e q =
    let k : Ended (within w.sets (Some from)) (statement_after a (restarting w.sets).held) (statement_found r (within w.sets (Some from)) a (restarting w.sets).held) (with_sets (restarting w.sets) w) v =
    subst (λ (y : Walked). Ended (within y.sets (Some from)) (statement_after a y.sets.held) (statement_found r (within y.sets (Some from)) a y.sets.held) y v) e q in
    record { sets = k.sets; found = k.found }

module _ (from : ℕ) (w : Walked) where
  -- in the loop that begins at this offset, at its start
  abbrev pub there : Within
  there = inside (within w.sets None) from w.sets.held

  abbrev pub Looping : List LockFinding → Walked → Type 0
  Looping fs v = (v.sets ≡ record (entering w.sets) { held = v.sets.held }) × (v.found ≡ w.found ++ fs)

  pub first_part : (f : Within → Locks → List LockFinding) (e v : Walked) → e ≡ with_sets (entering w.sets) w → PartWalked from f e v → Looping (f there w.sets.held) v
  first_part f e v s p =
      let q : PartWalked from f (with_sets (entering w.sets) w) v = subst (λ (x : Walked). PartWalked from f x v) s p in
      (q.sets, q.found)

  pub next_part : (fs : List LockFinding) (g : Within → Locks → List LockFinding) (v u : Walked) → Looping fs v → PartWalked from g v u → Looping (fs ++ g there w.sets.held) u
  next_part fs g v u l p = (
    p.sets ∙ ap (λ (h : HeldSets). record h { held = u.sets.held }) l.0,
    p.found ∙ (ap (λ (h : HeldSets). v.found ++ g (within h (Some from)) (restarting h).held) l.0
        ∙ (ap (λ (x : List LockFinding). x ++ g there w.sets.held) l.1 ∙ append_assoc w.found fs (g there w.sets.held))),
  )

  pub looped : (fs : List LockFinding) (v u : Walked) → Looping fs v → u ≡ with_sets (leaving v.sets) v → Passed (Some w.sets.held) fs true w u
  looped fs v u l e =
      let now : u.sets ≡ w.sets = ap (λ (x : Walked). x.sets) e ∙ ap leaving l.0 in
      record {
        held = ap (λ (h : HeldSets). h.held) now;
        sets = now ∙ ap (λ (x : Locks). record w.sets { held = x }) (sym (ap (λ (h : HeldSets). h.held) now));
        found = ap (λ (x : Walked). x.found) e ∙ l.1;
      }

-- ---- bodies

pub body_stopped : (at : Within) (from : ℕ) (o : Option Locks) (fs : List LockFinding) (w v : Walked) → Passed o fs false w v
    → v.found ≡ w.found ++ (fs ++ return_differs_at at from o)
body_stopped at from (Some s) fs w v p = absurd p.held
body_stopped at from None fs w v p = p.found ∙ ap (λ (l : List LockFinding). w.found ++ l) (sym (append-nil fs))

pub body_ended : (from : ℕ) (o : Option Locks) (fs : List LockFinding) (w v u : Walked) → Passed o fs true w v → u ≡ start_checked from v
    → u.found ≡ w.found ++ (fs ++ return_differs_at (within w.sets None) from o)
body_ended from None fs w v u p e = absurd p.held
body_ended from (Some s) fs w v u p e =
    let there : v.sets ≡ record w.sets { held = s } = p.sets ∙ ap (λ (x : Locks). record w.sets { held = x }) p.held in
    let differs = return_differs (within w.sets None) from s in
    ap (λ (x : Walked). x.found) e
    ∙ (ap (λ (h : HeldSets). v.found ++ return_differs (within h None) from h.held) there
    ∙ (ap (λ (l : List LockFinding). l ++ differs) p.found ∙ append_assoc w.found fs differs))
