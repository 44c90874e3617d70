-- What a thread shows where it rests tells what its code comes to, in terms of the thread.
use Rattle.std.proofs.Common.{◌≡◌, ℕ, Bool, true, false, Option, Some, None, refl, sym, ap, subst, ◌∙◌}
use Rattle.marks.specs.declared.side.Side.{Side}
use Rattle.marks.specs.declared.side.Side.TheVariants.{System}
use Rattle.c_code.specs.Machine.{Laid, Config, Going, Under, Entering, Closing, Starting, Done, Lost, action, func_of}
use Rattle.c_code.specs.MarkLists.{Split, step}
use Rattle.c_code.specs.Valid.{IsValid}
use Rattle.c_machine.specs.declared.wants.Want.{Want as Shown}
use Rattle.c_machine.specs.declared.wants.Want.TheVariants as shows
use Rattle.c_machine.specs.Callers.{crosses_at}
use Rattle.c_machine.specs.Moves.{EntersBody, ThreadState, after_call, is_below}
use Rattle.c_machine.specs.Readers.{args_of, is_indirect, mode_of, side_of}
use Rattle.c_machine.specs.Wants.{shown}
use Rattle.recorder_threads.specs.declared.wants.Next.{Next as ToldNext}
use Rattle.recorder_threads.specs.Wants.{IsNextTold}
use Rattle.recorder_threads.specs.Telling.{RestsAt, body_frame, told_call, told_crossing, told_mark}
use Rattle.recorder_threads.proofs.Told.{CallTold, IsNoCall, call_told, mark_told}

module _ (l : Laid) (valid : IsValid l.code) (t : ThreadState) (c : Config) (rests : RestsAt l c t) where
  at_call : (f : ℕ) → shown l (action l t.config) ≡ Some (shows.Call f) → CallTold l valid t.made t.config (args_of t.config) f (step Split l c)
  at_call f e =
      let there = call_told l valid c f rests.cut (subst (λ d. shown l (action l d) ≡ Some (shows.Call f)) rests.config e) rests.settles in
      subst (λ b. CallTold l valid b t.config (args_of t.config) f (step Split l c)) (sym rests.made)
      (subst (λ d. CallTold l valid (is_below c) d (args_of d) f (step Split l c)) (sym rests.config) there)

  module _ (f : ℕ) (mode side : Side) (i : Bool) (frame : Option ℕ) (n : ToldNext) (e : shown l (action l t.config) ≡ Some (shows.Call f)) (ei : i ≡ is_indirect t.config) (ef : frame ≡ body_frame (func_of l.code f)) where
    pub crossing : crosses_at l t.config ≡ true → mode ≡ mode_of t.made t.config → n ≡ told_crossing mode i f frame → IsNextTold l (args_of t.config) n (step Split l c)
    crossing z em en =
        let same : n ≡ told_crossing (mode_of t.made t.config) (is_indirect t.config) f (body_frame (func_of l.code f)) = en ∙ (λ j. told_crossing (em j) (ei j) f (ef j)) in
        subst (λ x. IsNextTold l (args_of t.config) x (step Split l c)) (sym same) ((at_call f e).crossing z)

    pub plain : crosses_at l t.config ≡ false → side ≡ side_of t.config → n ≡ told_call side i f frame → IsNextTold l (args_of t.config) n (step Split l c)
    plain z es en =
        let same : n ≡ told_call (side_of t.config) (is_indirect t.config) f (body_frame (func_of l.code f)) = en ∙ (λ j. told_call (es j) (ei j) f (ef j)) in
        subst (λ x. IsNextTold l (args_of t.config) x (step Split l c)) (sym same) ((at_call f e).plain z)

  pub mark : (v : Shown) (side : Side) (i : Bool) (n : ToldNext) → IsNoCall v → EntersBody l t.config → shown l (action l t.config) ≡ Some v → side ≡ side_of t.config → i ≡ is_indirect t.config → n ≡ told_mark side i v → IsNextTold l (args_of t.config) n (step Split l c)
  mark v side i n plain_mark h e es ei en =
      let there = mark_told l valid c v plain_mark (subst (EntersBody l) rests.config h) (subst (λ d. shown l (action l d) ≡ Some v) rests.config e) rests.settles in
      let same : n ≡ told_mark (side_of t.config) (is_indirect t.config) v = en ∙ (λ j. told_mark (es j) (ei j) v) in
      subst (λ x. IsNextTold l (args_of t.config) x (step Split l c)) (sym same)
      (subst (λ d. IsNextTold l (args_of d) (told_mark (side_of d) (is_indirect d) v) (step Split l c)) (sym rests.config) there)

-- ---- below a call whose event was made

-- how the call was made doesn't matter then
any_way : (i : Bool) (f : ℕ) (frame : Option ℕ) → told_crossing System false f frame ≡ told_crossing System i f frame
any_way i f (Some size) = refl
any_way i f None = refl

below_cut : (l : Laid) (c : Config) → crosses_at l c ≡ true → System ≡ mode_of true c
below_cut l (Under call vs ws) z = refl
below_cut l (Going a vs ws) z = absurd cc
below_cut l (Entering s i f args vs ws) z = absurd cc
below_cut l (Closing v w vs ws) z = absurd cc
below_cut l (Starting f args) z = absurd cc
below_cut l (Done v) z = absurd cc
below_cut l Lost z = absurd cc

pub across : (l : Laid) → IsValid l.code → (old new : ThreadState) → new ≡ after_call old → (f : ℕ) (frame : Option ℕ) (n : ToldNext) → crosses_at l old.config ≡ true → shown l (action l old.config) ≡ Some (shows.Call f) → frame ≡ body_frame (func_of l.code f)
    → n ≡ told_crossing System false f frame → (c : Config) → RestsAt l c new → IsNextTold l (args_of new.config) n (step Split l c)
across l valid old new crossed f frame n z e ef en c rests =
    let config : old.config ≡ new.config = sym (ap (λ (t : ThreadState). t.config) crossed) in
    let made : true ≡ new.made = sym (ap (λ (t : ThreadState). t.made) crossed) in
    let i = is_indirect new.config in
    crossing l valid new c rests f System System i frame n (subst (λ d. shown l (action l d) ≡ Some (shows.Call f)) config e) refl ef (subst (λ d. crosses_at l d ≡ true) config z)
    (below_cut l old.config z ∙ (λ j. mode_of (made j) (config j))) (en ∙ any_way i f frame)
