-- Calls, whose functions give back what they were lent.
use Rattle.std.proofs.Common.{◌≡◌, ℕ, zero, suc, ◌<◌, ◌≤◌, ℤ, ◌&&◌, Bool, true, false, cond, eqb, List, [], ◌∷◌, Some, is_some, refl, sym, ap, ◌∙◌, subst, arith}
use Rattle.std.proofs.lemmas.Bool.{ne_eqb}
use Rattle.r2_num.specs.declared.kinds.IntKind.TheVariants.{I32}
use Rattle.r2_num.specs.Kinds.{IsValue}
use Rattle.marks.specs.declared.side.Side.{Side}
use Rattle.marks.specs.declared.side.Side.TheVariants.{Replay, System}
use Rattle.marks.specs.Marks.{Mark}
use Rattle.marks.specs.Wants.{Want, Allocs, Calls, CallsBack, Enters, Frees, Gives, Returns, Steps, UpReturns, Answer, Go, Value, Frame, CalledBack, Stopped}
use Rattle.c_code.specs.declared.shape.Shape.TheVariants.{Pointer}
use Rattle.c_code.specs.Frames.{are_values}
use Rattle.c_code.specs.Values.{written}
use Rattle.c_code.specs.MarkLists.{Split}
use Rattle.c_code.proofs.Sides.{back_is}
use Rattle.c_semantics.specs.Reading.{Marks, wrong, ended, ask, with_value, with_frame}
use Rattle.c_semantics.specs.Context.{Source, body_of, frame_of, is_face, param_shapes, result_shape}
use Rattle.c_semantics.specs.Calls.{Bodies, back_or_plain, begun, called_back, calling, entering, entering_below, first, own_below, pooling, stepping}
use Rattle.cut_graph_reached.specs.Reached.{Reach, reached}
use Rattle.lockset_check_rules.specs.Mutexes.{Locks, are_held, locks_of, with_lock, without_lock}
use Rattle.lockset_check_rules.specs.Guards.{Guarded}
use Rattle.lockset_check_laws.specs.Locks.{Other, Takes, GivesBack, Drops}
use Rattle.lockset_check_laws.specs.Locks as locks
use Rattle.lockset_check_threads.specs.Wants.{KeepsLocks, calls}
use Rattle.lockset_check_threads.specs.Laws.{IsGuarded}
use Rattle.lockset_check_threads.proofs.Asked.{Kept, ask_kept, cond_kept, with_frame_kept, with_value_kept, wrong_kept}
use Rattle.lockset_check_threads.proofs.Deeds.{call_deed, deeds, return_deed, step_deed, wanted_deed}
use Rattle.lockset_check_threads.proofs.Holding.{Holds, Kept_by, Lends, back, lend, locks as holds_more, quiet, still, taken_by, unlocks as holds_less}
use Rattle.lockset_check_threads.proofs.Places.{Goes, Starts, asks_there, later}
use Rattle.lockset_check_threads.proofs.Sets.{In, are_in, in_locks_of}

-- the function neither locks nor unlocks
abbrev pub IsNeither : ℕ → Type 0
IsNeither f = (f ≡ calls.lock → ⊥) × (f ≡ calls.unlock → ⊥)

call_other : (f : ℕ) (args : List ℕ) → IsNeither f → call_deed f args ≡ Other
call_other f [] n = refl
call_other f (k ∷ []) n = ap (λ b. cond b (GivesBack k) Other) (ne_eqb f calls.unlock n.1)
call_other f (j ∷ k ∷ ks) n = refl

return_other : (f : ℕ) (args : List ℕ) → IsNeither f → return_deed f args ≡ Other
return_other f [] n = refl
return_other f (k ∷ []) n = ap (λ b. cond b (Takes Replay k) (cond (eqb f calls.unlock) (locks.Frees k) Other)) (ne_eqb f calls.lock n.0) ∙ ap (λ b. cond b (locks.Frees k) Other) (ne_eqb f calls.unlock n.1)
return_other f (j ∷ k ∷ ks) n = refl

step_other : (f : ℕ) (args : List ℕ) → IsNeither f → step_deed f args ≡ Other
step_other f [] n = refl
step_other f (k ∷ []) n = ap (λ b. cond b (Takes System k) (cond (eqb f calls.unlock) (Drops k) Other)) (ne_eqb f calls.lock n.0) ∙ ap (λ b. cond b (Drops k) Other) (ne_eqb f calls.unlock n.1)
step_other f (j ∷ k ∷ ks) n = refl

some_same : {A : Type 0} (a b : A) → Some a ≡ Some b → a ≡ b
some_same a b e = cc

called_same : (a b : ℕ) (xs ys : List ℕ) → CalledBack a xs ≡ CalledBack b ys → a ≡ b
called_same a b xs ys e = cc

module _ (r : Guarded) (s : Source) (runs : ℕ → Bool) (g : IsGuarded r s) where
  -- what the callers of a function hold
  abbrev pub lent : ℕ → Locks
  lent f = locks_of (r.holds f)

  calls_plain : (side : Side) (mine : List Mark) (i : Bool) (f : ℕ) (args : List ℕ) → IsNeither f → KeepsLocks r side mine (Calls i f args)
  calls_plain side mine i f [] n = record { touches = tt; unlocks = tt }
  calls_plain side mine i f (k ∷ []) n = record { touches = tt; unlocks = λ e. absurd (n.1 e) }
  calls_plain side mine i f (j ∷ k ∷ ks) n = record { touches = tt; unlocks = tt }

  steps_plain : (side : Side) (mine : List Mark) (i : Bool) (f : ℕ) (args : List ℕ) → IsNeither f → KeepsLocks r side mine (Steps i f args)
  steps_plain side mine i f [] n = record { touches = tt; unlocks = tt }
  steps_plain side mine i f (k ∷ []) n = record { touches = λ e d. absurd (n.1 e); unlocks = tt }
  steps_plain side mine i f (j ∷ k ∷ ks) n = record { touches = tt; unlocks = tt }

  -- what a function makes is kept, whatever is held outside, where it begins with what it is lent and gives that back
  abbrev pub BodiesKept : ℕ → Bodies → Type 1
  BodiesKept k b = (side : Side) (f base : ℕ) (go : ℕ → Marks) (outside : ℕ → Side → Type 0) → runs f ≡ true → Goes r runs outside side k (lent f) go → Starts r runs outside side k (lent f) (b side f base go)

  -- after a mark
  abbrev pub After : ℕ → Bodies → Type 1
  After k b = (j : ℕ) → j < k → BodiesKept j b

  pub sooner_after : (j k : ℕ) (b : Bodies) → j ≤ k → After k b → After j b
  sooner_after j k b le d i lt = d i (omega arith)

  -- nothing is lent, on either side
  pub lends_none : (w : Locks) (f : ℕ) (side there : Side) → r.holds f ≡ [] → Lends w (lent f) side there
  lends_none w f side there e k i = absurd (in_nothing (r.holds f) e (in_locks_of k (r.holds f) i))
    where
      in_nothing : (ks : Locks) → ks ≡ [] → In k ks → ⊥
      in_nothing [] e i = i
      in_nothing (j ∷ ks) e i = absurd cc

  -- what is held is lent, on the same side
  pub lends_held : (w : Locks) (f : ℕ) (side : Side) → are_held (r.holds f) w ≡ true → Lends w (lent f) side side
  lends_held w f side e k i = (are_in k (r.holds f) w e (in_locks_of k (r.holds f) i), refl)

  module _ (outside : ℕ → Side → Type 0) (side : Side) where
    abbrev S : ℕ → Locks → Marks → Type 0
    S = Starts r runs outside side

    abbrev G : ℕ → Locks → (ℕ → Marks) → Type 0
    G = Goes r runs outside side

    -- a function that is entered where what it is lent is held, and what follows it
    entered_kept : (k : ℕ) (w : Locks) (b : Bodies) (there : Side) (f at : ℕ) (go : ℕ → Marks) → BodiesKept k b → runs f ≡ true → Lends w (lent f) side there → G k w go → S k w (b there f at go)
    entered_kept k w b there f at go d run l c mine hold =
        d there f at go (Kept_by w (lent f) outside side) run
        (λ j le v later_mine given. c j le v later_mine (back w (lent f) outside side there mine later_mine l hold given))
        mine (lend w (lent f) outside side there mine l hold)

    entering_kept : (k : ℕ) (w : Locks) (b : Bodies) (there : Side) (i : Bool) (f : ℕ) (args : List ℕ) (go : ℕ → Marks) → After k b → ((i ≡ true → r.holds f ≡ []) → Lends w (lent f) side there) → G k w go → S k w (entering s b there there i f args go)
    entering_kept k w b there i f args go d l c mine hold =
        ask_kept r runs k mine there (Enters i f args (frame_of s f args)) (with_frame (λ base. b there f base go)) (record { touches = tt; unlocks = tt })
        (λ m x e heard allowed free j lt. with_frame_kept r runs j (m ∷ mine) (λ base. b there f base go) x
        (λ at is.
        let q : Reach = record { side = there; func = f } in
        let reach_is : reached there (Enters i f args (frame_of s f args)) x ≡ Some q = ap (λ y. reached there (Enters i f args (frame_of s f args)) y) is in
        entered_kept j w b there f at go (d j lt) (allowed.runs_there q reach_is) (l (allowed.holds_none q reach_is)) (later r runs outside side j k w go (omega arith) c)
        (m ∷ mine) (quiet w outside side m mine (deeds there (Enters i f args (frame_of s f args)) m x e heard) hold)))

    called_back_kept : (k : ℕ) (w : Locks) (b : Bodies) (f : ℕ) (args : List ℕ) (go : ℕ → Marks) → After k b → r.holds f ≡ [] → G k w go → S k w (called_back s b f args go)
    called_back_kept k w b f args go d none c mine hold =
        let up : ℕ → Marks = λ v. ask Replay (UpReturns f v) (λ x. go v) in
        cond_kept r runs k mine (is_some (body_of s f) && are_values (param_shapes s f) args) (entering s b Replay Replay false f args up) wrong
        (λ e. entering_kept k w b Replay false f args up d (λ h. lends_none w f side Replay none)
        (λ j le v. asks_there r runs outside side Replay j w (UpReturns f v) (λ x. refl) (λ later_mine held. record { touches = tt; unlocks = tt }) (λ x. go v) (λ i lt x. c i (omega arith) v)) mine hold)
        (λ e. wrong_kept r runs k mine)

    -- a value that a builtin or external gives
    given_kept : (k : ℕ) (w : Locks) (f : ℕ) (go : ℕ → Marks) (x : Answer) → G k w go → S k w (with_value (result_shape s f) go x)
    given_kept k w f go x c mine hold = with_value_kept r runs k mine (result_shape s f) go x (λ v. c k (omega arith) v mine hold)

    stepping_kept : (k : ℕ) (w : Locks) (there : Side) (i : Bool) (f : ℕ) (args : List ℕ) (go : ℕ → Marks) → IsNeither f → G k w go → S k w (stepping s there i f args go)
    stepping_kept k w there i f args go n c =
        asks_there r runs outside side there k w (Steps i f args) (λ x. step_other f args n) (λ mine hold. steps_plain there mine i f args n) (with_value (result_shape s f) go)
        (λ j lt x. given_kept j w f go x (later r runs outside side j k w go (omega arith) c))

    own_below_kept : (has : Bool) (k : ℕ) (w : Locks) (b : Bodies) (f : ℕ) (args : List ℕ) (go : ℕ → Marks) → IsNeither f → After k b → r.holds f ≡ [] → G k w go → S k w (own_below s b has f args go)
    own_below_kept true k w b f args go n d none c =
        entering_kept k w b System false f args (λ v. ask Replay (Returns f args v) (λ x. go v)) d (λ h. lends_none w f side System none)
        (λ j le v. asks_there r runs outside side Replay j w (Returns f args v) (λ x. return_other f args n) (λ mine hold. record { touches = tt; unlocks = tt }) (λ x. go v) (λ i lt x. c i (omega arith) v))
    own_below_kept false k w b f args go n d none c =
        asks_there r runs outside side Replay k w (Gives f args) (λ x. return_other f args n) (λ mine hold. record { touches = tt; unlocks = tt }) (with_value (result_shape s f) go)
        (λ j lt x. given_kept j w f go x (later r runs outside side j k w go (omega arith) c))

    -- an indirect call below the cut calls back, or enters, a function that no caller holds a mutex for
    back_kept : (k : ℕ) (w : Locks) (b : Bodies) (f : ℕ) (args : List ℕ) (go : ℕ → Marks) (x : Answer) → BodiesKept k b → After k b → ((h : ℕ) (bs : List ℕ) → x ≡ CalledBack h bs → r.holds f ≡ []) → ((at : ℕ) → x ≡ Frame at → (r.holds f ≡ []) × (runs f ≡ true)) → G k w go → S k w (back_or_plain s b f args go x)
    back_kept k w b f args go (CalledBack h bs) here d up enters c mine hold = called_back_kept k w b f args go d (up h bs refl) c mine hold
    back_kept k w b f args go (Frame at) here d up enters c mine hold =
        let q = enters at refl in
        with_frame_kept r runs k mine (λ base. b System f base go) (Frame at) (λ base is. entered_kept k w b System f base go here q.1 (lends_none w f side System q.0) c mine hold)
    back_kept k w b f args go (Value v) here d up enters c mine hold = wrong_kept r runs k mine
    back_kept k w b f args go Go here d up enters c mine hold = wrong_kept r runs k mine
    back_kept k w b f args go Stopped here d up enters c mine hold = wrong_kept r runs k mine

    below_kept : (k : ℕ) (w : Locks) (b : Bodies) (i : Bool) (f : ℕ) (args : List ℕ) (go : ℕ → Marks) → After k b → ((i ≡ true → r.holds f ≡ []) → Lends w (lent f) side System) → G k w go → S k w (entering_below s b i f args go)
    below_kept k w b false f args go d l c mine hold = entering_kept k w b System false f args go d l c mine hold
    below_kept k w b true f args go d l c mine hold =
        let want = CallsBack f args (frame_of s f args) in
        ask_kept r runs k mine System want (back_or_plain s b f args go) (record { touches = tt; unlocks = tt })
        (λ m x e heard allowed free j lt.
        back_kept j w b f args go x (d j lt) (sooner_after j k b (omega arith) d)
        (λ h bs is.
        let up = back_is m f args (frame_of s f args) (CalledBack h bs) (e ∙ ap Some is) in
        ap r.holds (called_same f h args bs up.1) ∙ allowed.holds_none (record { side = Replay; func = h }) (ap (λ y. reached System want y) is) refl)
        (λ at is.
        let q : Reach = record { side = System; func = f } in
        let reach_is : reached System want x ≡ Some q = ap (λ y. reached System want y) is in
        (allowed.holds_none q reach_is refl, allowed.runs_there q reach_is))
        (later r runs outside side j k w go (omega arith) c) (m ∷ mine) (quiet w outside side m mine (deeds System want m x e heard) hold))

    -- a call of a function that neither locks nor unlocks
    pub calling_kept : (face has : Bool) (k : ℕ) (w : Locks) (b : Bodies) (i : Bool) (f : ℕ) (args : List ℕ) (go : ℕ → Marks) → is_face s f ≡ face → IsNeither f → After k b → (has ≡ true → (i ≡ true → r.holds f ≡ []) → Lends w (lent f) side side) → G k w go → S k w (calling Split s b side face has i f args go)
    calling_kept face has k w b i f args go e n d l c = by side face has refl e l
      where
        by : (q : Side) (face has : Bool) → side ≡ q → is_face s f ≡ face → (has ≡ true → (i ≡ true → r.holds f ≡ []) → Lends w (lent f) side side) → S k w (calling Split s b q face has i f args go)
        by Replay true has is e l =
            asks_there r runs outside side Replay k w (Calls i f args) (λ x. call_other f args n) (λ mine hold. calls_plain Replay mine i f args n) (λ x. own_below s b (is_some (body_of s f)) f args go)
            (λ j lt x. own_below_kept (is_some (body_of s f)) j w b f args go n (sooner_after j k b (omega arith) d) (g.faces f e) (later r runs outside side j k w go (omega arith) c))
        by Replay false true is e l = entering_kept k w b Replay i f args go d (λ h. subst (λ q. Lends w (lent f) side q) is (l refl h)) c
        by System true true is e l = below_kept k w b i f args go d (λ h. subst (λ q. Lends w (lent f) side q) is (l refl h)) c
        by System false true is e l = below_kept k w b i f args go d (λ h. subst (λ q. Lends w (lent f) side q) is (l refl h)) c
        by Replay false false is e l = stepping_kept k w Replay i f args go n c
        by System true false is e l = stepping_kept k w System i f args go n c
        by System false false is e l = stepping_kept k w System i f args go n c

    -- the first call of a thread
    pub begun_kept : (has : Bool) (k : ℕ) (w : Locks) (b : Bodies) (f : ℕ) (args : List ℕ) → IsNeither f → After k b → G k w ended → S k w (begun s b has f args)
    begun_kept true k w b f args n d c = below_kept k w b true f args ended d (λ h. lends_none w f side System (h refl)) c
    begun_kept false k w b f args n d c = stepping_kept k w System true f args ended n c

    -- the pool above the cut
    pub pooling_kept : (f k : ℕ) (w : Locks) (args : List ℕ) (go : ℕ → Marks) → G k w go → S k w (pooling f args go)
    pooling_kept zero k w args go c =
        asks_there r runs outside side Replay k w (Allocs (first args)) (λ x. refl) (λ mine hold. record { touches = tt; unlocks = tt }) (with_value Pointer go)
        (λ j lt x mine hold. with_value_kept r runs j mine Pointer go x (λ v. c j (omega arith) v mine hold))
    pooling_kept (suc f) k w args go c =
        asks_there r runs outside side Replay k w (Frees (first args)) (λ x. refl) (λ mine hold. record { touches = tt; unlocks = tt }) (λ x. go 0) (λ j lt x. c j (omega arith) 0)

    -- ---- locks

    -- a value that the builtin gives, after which this is held
    answered : (k : ℕ) (w : Locks) (f : ℕ) (go : ℕ → Marks) (m : Mark) (x : Answer) (mine : List Mark) → G k w go → Holds w outside side (m ∷ mine) → Kept r runs k (m ∷ mine) (with_value (result_shape s f) go x)
    answered k w f go m x mine c hold = with_value_kept r runs k (m ∷ mine) (result_shape s f) go x (λ v. c k (omega arith) v (m ∷ mine) hold)

    pub lock_kept : (k : ℕ) (w : Locks) (b : Bodies) (z : ℤ) (go : ℕ → Marks) → IsValue I32 z → G k (with_lock z w) go → S k w (calling Split s b side true false false calls.lock (written z ∷ []) go)
    lock_kept k w b z go int c = by side refl
      where
        gives : (there : Side) → side ≡ there → (want : Want) → ((x : Answer) → wanted_deed want x ≡ Takes there (written z)) → (now : (mine : List Mark) → KeepsLocks r there mine want) → (j : ℕ) → j ≤ k → S j w (ask there want (with_value (result_shape s calls.lock) go))
        gives there same want is now j le mine hold =
            ask_kept r runs j mine there want (with_value (result_shape s calls.lock) go) (now mine)
            (λ m x e heard allowed free i lt. answered i (with_lock z w) calls.lock go m x mine (later r runs outside side i k (with_lock z w) go (omega arith) c)
            (holds_more w outside side m mine z int (deeds there want m x e heard ∙ is x ∙ ap (λ q. Takes q (written z)) (sym same)) free hold))

        by : (q : Side) → side ≡ q → S k w (calling Split s b q true false false calls.lock (written z ∷ []) go)
        by Replay same =
            asks_there r runs outside side Replay k w (Calls false calls.lock (written z ∷ [])) (λ x. refl) (λ mine hold. record { touches = tt; unlocks = λ e. absurd (omega (arith, e)) }) (λ x. own_below s b false calls.lock (written z ∷ []) go)
            (λ j lt x. gives Replay same (Gives calls.lock (written z ∷ [])) (λ y. refl) (λ mine. record { touches = tt; unlocks = tt }) j (omega arith))
        by System same = gives System same (Steps false calls.lock (written z ∷ [])) (λ y. refl) (λ mine. record { touches = λ e d. absurd (d refl); unlocks = tt }) k (omega arith)

    pub unlock_kept : (k : ℕ) (w : Locks) (b : Bodies) (z : ℤ) (go : ℕ → Marks) → In z w → G k (without_lock z w) go → S k w (calling Split s b side true false false calls.unlock (written z ∷ []) go)
    unlock_kept k w b z go here c = by side refl
      where
        by : (q : Side) → side ≡ q → S k w (calling Split s b q true false false calls.unlock (written z ∷ []) go)
        by Replay same mine hold =
            let want = Calls false calls.unlock (written z ∷ []) in
            ask_kept r runs k mine Replay want (λ x. own_below s b false calls.unlock (written z ∷ []) go) (record { touches = tt; unlocks = λ e. hold.held z here ∙ ap Some same })
            (λ m x e heard allowed free j lt.
            let after : Holds (without_lock z w) outside side (m ∷ mine) = holds_less w outside side m mine z here (taken_by m mine (GivesBack (written z)) (deeds Replay want m x e heard)) hold in
            let gives = Gives calls.unlock (written z ∷ []) in
            ask_kept r runs j (m ∷ mine) Replay gives (with_value (result_shape s calls.unlock) go) (record { touches = tt; unlocks = tt })
            (λ n y d told ok nothing i li. answered i (without_lock z w) calls.unlock go n y (m ∷ mine) (later r runs outside side i k (without_lock z w) go (omega arith) c)
            (still (without_lock z w) outside side (m ∷ mine) (n ∷ (m ∷ mine)) (taken_by n (m ∷ mine) (locks.Frees (written z)) (deeds Replay gives n y d told)) after)))
        by System same mine hold =
            let want = Steps false calls.unlock (written z ∷ []) in
            ask_kept r runs k mine System want (with_value (result_shape s calls.unlock) go) (record { touches = λ e d. hold.held z here ∙ ap Some same; unlocks = tt })
            (λ m x e heard allowed free j lt. answered j (without_lock z w) calls.unlock go m x mine (later r runs outside side j k (without_lock z w) go (omega arith) c)
            (holds_less w outside side m mine z here (taken_by m mine (Drops (written z)) (deeds System want m x e heard)) hold))
