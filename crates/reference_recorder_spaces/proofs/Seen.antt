-- The marks that a run makes above the cut, and the memory before them.
use Rattle.std.proofs.Common.{◌≡◌, ℕ, ◌+◌, ◌-◌, ◌<◌, ◌≤◌, true, false, cond, List, [], ◌∷◌, length, get_or, All, None, refl, ap, sym, ◌∙◌, subst, arith}
use Rattle.std.specs.Prelude.{replicate}
use Rattle.std.proofs.lemmas.List.Elements.{All-cons, All-nil}
use Rattle.marks.specs.declared.side.Side.TheVariants.{Replay}
use Rattle.marks.specs.Marks.{Mark}
use Rattle.memory_map.specs.declared.areas.TheConstants.{THREADS, REPLAY_STACKS, REPLAY_POOL, SYSTEM_STACKS, SYSTEM_POOL}
use Rattle.memory_map.specs.declared.placed.Place.{Place}
use Rattle.c_code.specs.MarkLists.{same_side}
use Rattle.space_memory_access.specs.Held.{HeldState}
use Rattle.space_memory_bytes.specs.Areas.{byte_at}
use Rattle.replay_runs.specs.Unseen.{Calm}
use Rattle.space_memory.specs.Objects.{IsInArea, byte_of}
use Rattle.space_memory.specs.Sides.{fresh_side}
use Rattle.space_memory.specs.Spaces.{SpaceState}
use Rattle.space_memory_laws.specs.Shown.{value_when_held}
use Rattle.space_memory_laws.specs.StandsFor.{StandsFor}
use Rattle.space_memory_laws.proofs.Fresh as fresh
use Rattle.space_memory_laws.proofs.Regions.{some_none}
use Rattle.whole_runs.specs.World.{World, begin, program_of}
use Rattle.whole_runs.specs.Sides.{seen}
use Rattle.whole_runs.specs.Ends.{Follows}
use Rattle.whole_runs.specs.Fits.{IsFit, LieApart}
use Rattle.whole_runs_seen.proofs.Calm.{seen_as_runs}
use Rattle.reference_recorder_marks.specs.declared.mark.Mark.{Mark as Told}
use Rattle.reference_recorder_marks.specs.Marks.{act_of, mark_of}
use Rattle.reference_recorder_threads.specs.Telling.{IsPast}
use Rattle.reference_recorder_threads.proofs.Oldest.{as_many, follows_on, mark_at, mark_is, oldest, oldest_all, oldest_more, oldest_none}
use Rattle.reference_recorder_spaces.specs.Next.{IsDone, IsNext, IsUntouched}
use Rattle.reference_recorder_spaces.specs.Whole.{IsMarkNext, IsMemoryAfter, StandsForMore}

in_areas : (os : List Place) → LieApart os → All IsInArea os
in_areas [] h = All-nil IsInArea
in_areas (o ∷ os) h = All-cons IsInArea o os h.0 (in_areas os h.2)

pub globals_in : (w : World) → IsFit w → All IsInArea w.laid.placed.globals
globals_in w fit = in_areas w.laid.placed.globals fit.placed.objects.global_areas

pub strings_in : (w : World) → IsFit w → All IsInArea w.laid.placed.strings
strings_in w fit = in_areas w.laid.placed.strings fit.placed.objects.string_areas

-- memory before any mark
pub begins : (w : World) → IsFit w → (memory : SpaceState) →
    ((x : ℕ) → byte_at memory.bytes x ≡ byte_of w.laid.placed.strings x (byte_of w.laid.placed.globals x None)) →
    memory.held ≡ record { regions = []; depths = replicate THREADS 0 } →
    memory.sides ≡ record { replay = fresh_side REPLAY_STACKS REPLAY_POOL; system = fresh_side SYSTEM_STACKS SYSTEM_POOL } → StandsFor (begin w) [] memory × IsUntouched memory
begins w fit memory bytes held sides = (
  fresh.stands w.laid.placed _ memory (globals_in w fit) (strings_in w fit) (λ x own. refl) bytes held sides,
  λ x v e. absurd (some_none v (sym e ∙ ap (λ (q : HeldState). value_when_held q.regions x) held)),
)

module _ (w : World) (memory : SpaceState) (told : Told) (n : IsMarkNext w memory told) where
  side_is : n.mark.side ≡ told.side
  side_is = ap (λ (m : Mark). m.side) n.same

  calm : Calm (program_of w) (begin w) (seen (n.mark ∷ n.past))
  calm = seen_as_runs w n.fit (n.mark ∷ n.past) n.follows

  -- it stands above the cut
  module _ (above : same_side told.side Replay ≡ true) where
    seen_so : seen (n.mark ∷ n.past) ≡ n.mark ∷ seen n.past
    seen_so = ap (λ b. cond b (n.mark ∷ seen n.past) (seen n.past)) (ap (λ d. same_side d Replay) side_is ∙ above)

    calm_so : Calm (program_of w) (begin w) (n.mark ∷ seen n.past)
    calm_so = subst (Calm (program_of w) (begin w)) seen_so calm

    pub next_above : IsNext memory told.thread (act_of told.act)
    next_above = record {
      program = program_of w;
      start = begin w;
      past = seen n.past;
      stands = n.stands;
      untouched = n.untouched;
      mark = n.mark;
      of_thread = ap (λ (m : Mark). m.thread) n.same;
      same = ap (λ (m : Mark). m.act) n.same;
      allowed = calm_so.steps.0;
      first = calm_so.in_order.0;
    }

    pub done_above : (new : SpaceState) → IsDone memory told.thread (act_of told.act) new → StandsFor (begin w) (seen (n.mark ∷ n.past)) new × IsUntouched new
    unfolding next_above
    done_above new done = let both = done next_above in (subst (λ ms. StandsFor (begin w) ms new) (sym seen_so) both.0, both.1)

  -- below the cut it changes nothing
  pub done_below : same_side told.side Replay ≡ false → StandsFor (begin w) (seen (n.mark ∷ n.past)) memory × IsUntouched memory
  done_below below =
      let seen_so : seen (n.mark ∷ n.past) ≡ seen n.past = ap (λ b. cond b (n.mark ∷ seen n.past) (seen n.past)) (ap (λ d. same_side d Replay) side_is ∙ below) in
      (subst (λ ms. StandsFor (begin w) ms memory) (sym seen_so) n.stands, n.untouched)

-- ---- the oldest marks of a run

abbrev pub StandsForOldest : World → List Told → ℕ → SpaceState → Type 0
StandsForOldest w marks i memory = (p : IsPast w marks) → StandsFor (begin w) (seen (oldest i p.run)) memory × IsUntouched memory

pub before_all : (w : World) (marks : List Told) (memory : SpaceState) → StandsFor (begin w) [] memory × IsUntouched memory → StandsForOldest w marks 0 memory
before_all w marks memory h = λ p. (subst (λ ms. StandsFor (begin w) (seen ms) memory) (sym (oldest_none p.run)) h.0, h.1)

pub after_all : (w : World) (marks : List Told) (i : ℕ) (memory : SpaceState) → length marks ≤ i → StandsForOldest w marks i memory → IsMemoryAfter w marks memory
after_all w marks i memory le h = λ p.
    let long : length p.run ≤ i = (let n = as_many p.run marks p.same in omega (arith, n, le)) in
    subst (λ ms. StandsFor (begin w) (seen ms) memory) (oldest_all p.run i long) (h p).0

module _ (w : World) (marks : List Told) (p : IsPast w marks) (i : ℕ) (k : Told) (lt : i < length marks) (is : k ≡ get_or marks i k) (memory : SpaceState)
    (h : StandsFor (begin w) (seen (oldest i p.run)) memory × IsUntouched memory) where
  pub next : IsMarkNext w memory k
  next = record {
    fit = p.fit;
    past = oldest i p.run;
    mark = mark_at p.run marks p.same i k lt is (mark_of k);
    same = mark_is p.run marks p.same i k lt is (mark_of k);
    follows = subst (Follows w) (oldest_more p.run marks p.same i k lt is (mark_of k)) (follows_on w (length p.run - (i + 1)) p.run p.follows);
    stands = h.0;
    untouched = h.1;
  }

  pub after_next : (new : SpaceState) → StandsForMore w memory k new → StandsFor (begin w) (seen (oldest (i + 1) p.run)) new × IsUntouched new
  unfolding next
  after_next new more =
      let both = more next in
      (subst (λ ms. StandsFor (begin w) (seen ms) new) (sym (oldest_more p.run marks p.same i k lt is (mark_of k))) both.0, both.1)
