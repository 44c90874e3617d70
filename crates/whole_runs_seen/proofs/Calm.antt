-- What a replay sees of a run's steps is a run of the program, without a race or a fault.
use Rattle.std.proofs.Common.{◌≡◌, ◌⊎◌, inl, inr, ⊎_elim, ℕ, ◌+◌, ◌-◌, ◌<◌, ◌≤◌, Bool, true, false, cond, ◌&&◌, ◌||◌, List, [], ◌∷◌, length, Option, Some, None, refl, sym, ap, ◌∙◌, subst, arith}
use Rattle.std.specs.Prelude.{is_some, slice_index}
use Rattle.std.proofs.lemmas.Bool.{and_parts}
use Rattle.marks.specs.declared.side.Side.TheVariants.{Replay}
use Rattle.marks.specs.Places.{replay_stacks, replay_end}
use Rattle.marks.specs.declared.range.Range.{Range}
use Rattle.marks.specs.Ranges.{range, covers}
use Rattle.marks.specs.Marks.{Leave, Mark}
use Rattle.marks.specs.Bytes.{IsHeld}
use Rattle.marks.specs.Opens.{frames, is_stop}
use Rattle.marks.specs.Wants.{Want, answer_to, is_above, is_below}
use Rattle.memory_map.specs.declared.placed.Place.{Place}
use Rattle.c_code.specs.MarkLists.{same_side, want_above}
use Rattle.c_code.specs.Opens.{AnswerAbove, EndsInnermost, IsFirst, opens_above}
use Rattle.c_code.proofs.Open.{wants_above_end_innermost}
use Rattle.replay_runs.specs.Runs.{Run}
use Rattle.replay_runs.specs.Rules.{is_reply, replay_rules}
use Rattle.replay_runs.specs.Unseen.{LeavesFirst, AreWanted, EndsOwnFrames, HasNoObjects, Calm}
use Rattle.replay_runs.proofs.Blocks.{bounds}
use Rattle.replay_runs.proofs.Race.{race_free_more}
use Rattle.replay_runs.proofs.Unseen.{fresh_whole}
use Rattle.replay_runs.proofs.FramesInOrder.{in_order}
use Rattle.space_memory.specs.Objects.{object_range, byte_of}
use Rattle.space_memory_laws.specs.Shown.{cell_of}
use Rattle.space_memory_laws.specs.Starts.{placed_byte}
use Rattle.whole_runs.specs.World.{World, begin, program_of}
use Rattle.whole_runs.specs.Sides.{seen}
use Rattle.whole_runs.specs.Ends.{Follows}
use Rattle.whole_runs.specs.Fits.{IsFit, LieApart}
use Rattle.whole_runs_laws.proofs.OneStep.{same_side_true}
use Rattle.whole_runs_seen.specs.Laws.{StepsAreSeenAsRuns}
use Rattle.whole_runs_seen.proofs.Threads.{threads_known}
use Rattle.whole_runs_seen.proofs.Step.{allowed, unraced, goes_on}

-- ---- before the run

-- objects in their areas leave the stacks and the pool alone
no_byte : (os : List Place) → LieApart os → (x : ℕ) → replay_stacks ≤ x → x < replay_end → (o : Option ℕ) → o ≡ None → byte_of os x o ≡ None
no_byte [] apart x lo hi o e = e
no_byte (q ∷ os) apart x lo hi o e = no_byte os apart.2 x lo hi _ (go (covers (object_range q) x) refl)
  where
    outside : covers (object_range q) x ≡ true → ⊥
    outside z = ⊎_elim
        (λ a. omega (arith, a.0, a.1, b.0, b.1, lo, hi))
        (λ c. ⊎_elim (λ a. omega (arith, a.0, a.1, b.0, b.1, lo, hi)) (λ a. omega (arith, a.0, a.1, b.0, b.1, lo, hi)) c)
        apart.0
      where
        b : (q.addr ≤ x) × (x < q.addr + length q.init)
        b = bounds q.addr (length q.init) x z

    go : (b : Bool) → covers (object_range q) x ≡ b → cond b (Some (slice_index q.init (x - q.addr))) o ≡ None
    go false z = e
    go true z = absurd (outside z)

unheld_cell : (o : Option ℕ) → IsHeld (cell_of o None) → ⊥
unheld_cell None h = h
unheld_cell (Some v) h = h

module _ (w : World) (fit : IsFit w) where
  none_there : HasNoObjects (placed_byte w.laid.placed)
  none_there = record {
    cells = λ x lo hi. ap (λ o. cell_of o None) (no_byte w.laid.placed.strings fit.placed.objects.string_areas x lo hi _ (no_byte w.laid.placed.globals fit.placed.objects.global_areas x lo hi None refl));
    blocks = λ x. refl;
    unheld = λ x. unheld_cell (byte_of w.laid.placed.strings x (byte_of w.laid.placed.globals x None));
  }

  -- ---- frames

  answered_above : (t : ℕ) (mine : List Mark) → AreWanted (program_of w) t mine → AnswerAbove w.laid mine
  answered_above t [] h = tt
  answered_above t (m ∷ mine) h = (h.0, by (is_stop m.act) refl (want_above w.laid mine) h.1, answered_above t mine h.2)
    where
      by : (b : Bool) → is_stop m.act ≡ b → (want : Want) → is_reply want m.act ≡ true → (is_some (answer_to want m.act) ≡ true) ⊎ (is_stop m.act ≡ true)
      by true z want r = inr z
      by false z want r = inl (and_parts (is_above want || is_below want) (is_some (answer_to want m.act)) (ap (λ q. cond q (is_above want) ((is_above want || is_below want) && is_some (answer_to want m.act))) (sym z) ∙ r)).1

  pub ends_own : EndsOwnFrames (program_of w)
  ends_own t mine at size h e = go (frames mine) (subst (λ want. EndsInnermost Replay want (opens_above mine)) e (wants_above_end_innermost w.laid fit.code.valid mine (answered_above t mine h)))
    where
      go : (fs : List Range) → IsFirst (range at size) fs → LeavesFirst (Leave at size) fs
      go [] z = absurd z
      go (f ∷ fs) z = (ap (λ (r : Range). r.addr) z, ap (λ (r : Range). r.len) z)

  -- ---- the steps

  pub calm_run : (past : List Mark) → Follows w past → Calm (program_of w) (begin w) (seen past)
  calm_run [] f = record { starts = fresh_whole (placed_byte w.laid.placed) none_there; steps = tt; race_free = λ a b i j. absurd i; in_order = tt; no_fault = refl }
  calm_run (m ∷ past) f = go (same_side m.side Replay) refl (calm_run past f.1)
    where
      more : m.side ≡ Replay → Calm (program_of w) (begin w) (seen past) → Calm (program_of w) (begin w) (m ∷ seen past)
      more above before =
          let known = threads_known w fit.code past f.1 in
          let steps : Run (replay_rules (program_of w) (begin w)) (begin w) (m ∷ seen past) = (allowed w fit past f.1 known before f.0.step m f.0.made above, before.steps) in
          record {
            starts = before.starts;
            steps = steps;
            race_free = race_free_more (replay_rules (program_of w) (begin w)) (begin w) (seen past) m steps before.race_free (unraced w fit past f.1 known before f.0.step m f.0.made above);
            in_order = in_order (program_of w) ends_own (begin w) (m ∷ seen past) (λ t. tt) steps;
            no_fault = let z = (goes_on w fit past f.1 known before f.0.step m f.0.made above).1 in let y = before.no_fault in omega (arith, z, y);
          }

      go : (b : Bool) → same_side m.side Replay ≡ b → Calm (program_of w) (begin w) (seen past) → Calm (program_of w) (begin w) (cond b (m ∷ seen past) (seen past))
      go true e before = more (same_side_true m.side Replay e) before
      go false e before = before

pub seen_as_runs : (w : World) → StepsAreSeenAsRuns w
seen_as_runs w fit past f = calm_run w fit past f
