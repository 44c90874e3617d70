-- Records that show the returns of a run, and marks that leave the state.
use Rattle.std.proofs.Common.{◌≡◌, ℕ, zero, suc, Bool, true, false, ◌&&◌, cond, eqb, List, [], ◌∷◌, ◌++◌, map, length, Some, refl, sym, ap, ◌∙◌, subst, eqb-true}
use Rattle.std.specs.Prelude.{reverse, slice_get}
use Rattle.std.proofs.lemmas.List.{length-map, length-reverse, reverse-append}
use Rattle.run_events.specs.declared.event.Record.{Record}
use Rattle.marks.specs.Marks.{Act, Turn, Load, Store, Enter, Leave, Step, Fault, Made, Mark, is_event}
use Rattle.marks.specs.Bytes.{Byte}
use Rattle.replay_runs.specs.Interface.{Program}
use Rattle.replay_runs.specs.Rules.{replay_rules}
use Rattle.replay_runs.specs.Runs.{OfThread, Run, events_with, history, marks_of}
use Rattle.replay_runs.specs.Laws.{fresh}
use Rattle.steps_above_interface.specs.Returns.{IsShown, ShowReturns, ShowsAct}

-- ---- one record more

get_before : (xs : List Record) (y : Record) (n : ℕ) (x : Record) → slice_get xs n ≡ Some x → slice_get (xs ++ y ∷ []) n ≡ Some x
get_before [] y n x e = absurd cc
get_before (z ∷ xs) y zero x e = e
get_before (z ∷ xs) y (suc n) x e = get_before xs y n x e

get_last : (xs : List Record) (y : Record) → slice_get (xs ++ y ∷ []) (length xs) ≡ Some y
get_last [] y = refl
get_last (x ∷ xs) y = get_last xs y

module _ (records : List Record) (y : Record) where
  shown_before : (n : ℕ) (a : Act) → IsShown records n a → IsShown (records ++ y ∷ []) n a
  shown_before n Turn h = tt
  shown_before n (Load origin at bytes) h = tt
  shown_before n (Store origin at bytes) h = tt
  shown_before n (Enter func args at bytes) h = tt
  shown_before n (Leave at size) h = tt
  shown_before n (Step func args result ins pieces freed) h = tt
  shown_before n (Fault kind crosses ins outs access) h = tt
  shown_before n (Made e) h = (h.0, get_before records y n h.0 h.1, h.2)

  all_before : (mine : List Mark) → ShowReturns records mine → ShowReturns (records ++ y ∷ []) mine
  all_before [] h = tt
  all_before (m ∷ mine) h = (shown_before m.index m.act h.0, all_before mine h.1)

-- ---- the records of a run

module _ (form : Mark → Record) (shows : (m : Mark) → ShowsAct (form m).event m.act) (memory : ℕ → Byte) (t : ℕ) where
  abbrev kept : List Mark → List Record
  kept es = reverse (map form es)

  -- one mark more of the thread
  one_more : (m : Mark) (es mine : List Mark) → m.index ≡ length es → ShowReturns (kept es) mine → (a : Act) → m.act ≡ a → ShowsAct (form m).event a → ShowReturns (kept (cond (is_event a && true) (m ∷ es) es)) (m ∷ mine)
  one_more m es mine index h Turn is shown = (subst (IsShown (kept es) m.index) (sym is) tt, h)
  one_more m es mine index h (Load origin at bytes) is shown = (subst (IsShown (kept es) m.index) (sym is) tt, h)
  one_more m es mine index h (Store origin at bytes) is shown = (subst (IsShown (kept es) m.index) (sym is) tt, h)
  one_more m es mine index h (Enter func args at bytes) is shown = (subst (IsShown (kept es) m.index) (sym is) tt, h)
  one_more m es mine index h (Leave at size) is shown = (subst (IsShown (kept es) m.index) (sym is) tt, h)
  one_more m es mine index h (Step func args result ins pieces freed) is shown = (subst (IsShown (kept es) m.index) (sym is) tt, h)
  one_more m es mine index h (Fault kind crosses ins outs access) is shown = (subst (IsShown (kept es) m.index) (sym is) tt, h)
  one_more m es mine index h (Made e) is shown =
      let grown : kept es ++ form m ∷ [] ≡ kept (m ∷ es) = sym (reverse-append (form m ∷ []) (map form es)) in
      let count : m.index ≡ length (kept es) = index ∙ sym (length-reverse (map form es) ∙ length-map es form) in
      subst (λ rs. ShowReturns rs (m ∷ mine)) grown (
        subst (IsShown (kept es ++ form m ∷ []) m.index) (sym is) (form m, ap (slice_get (kept es ++ form m ∷ [])) count ∙ get_last (kept es) (form m), shown),
        all_before (kept es) (form m) mine h,
      )

  -- one more mark, be it of the thread or not
  on : (m : Mark) (past : List Mark) → m.index ≡ length (events_with (fresh memory) (OfThread m.thread) past) → ShowReturns (kept (events_with (fresh memory) (OfThread t) past)) (marks_of (fresh memory) t past) → ShowReturns (kept (events_with (fresh memory) (OfThread t) (m ∷ past))) (marks_of (fresh memory) t (m ∷ past))
  on m past index h = go (eqb m.thread t) refl
    where
      none : (b : Bool) → (b && false) ≡ false
      none true = refl
      none false = refl

      go : (b : Bool) → eqb m.thread t ≡ b → ShowReturns (kept (cond (is_event m.act && b) (m ∷ events_with (fresh memory) (OfThread t) past) (events_with (fresh memory) (OfThread t) past))) (cond b (m ∷ marks_of (fresh memory) t past) (marks_of (fresh memory) t past))
      go true e = one_more m (events_with (fresh memory) (OfThread t) past) (marks_of (fresh memory) t past) (index ∙ ap (λ u. length (events_with (fresh memory) (OfThread u) past)) (eqb-true m.thread t e)) h m.act refl (shows m)
      go false e = subst (λ b. ShowReturns (kept (cond b (m ∷ events_with (fresh memory) (OfThread t) past) (events_with (fresh memory) (OfThread t) past))) (marks_of (fresh memory) t past)) (sym (none (is_event m.act))) h

  pub records_show : (program : Program) (past : List Mark) → Run (replay_rules program (fresh memory)) (fresh memory) past → ShowReturns (reverse (history form (fresh memory) t past)) (marks_of (fresh memory) t past)
  records_show program [] h = tt
  records_show program (m ∷ past) h = on m past h.0.index (records_show program past h.1)
