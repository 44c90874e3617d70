-- What the checks of a frame find.
use Rattle.std.proofs.Common.{◌≡◌, ℕ, true, List, Option, MatchOption, Some, None, inl, refl, sym, ap, subst, ◌∙◌, arith}
use Rattle.marks.specs.declared.side.Side.{Side}
use Rattle.marks.specs.declared.side.Side.TheVariants.{Replay, System}
use Rattle.marks.specs.declared.fault.FaultKind.TheVariants.{StackFull}
use Rattle.marks.specs.Places.{stack}
use Rattle.marks.specs.Ranges.{range}
use Rattle.marks.specs.Marks.{Mark}
use Rattle.replay_runs.specs.Runs.{marks_of}
use Rattle.replay_runs.specs.Threads.{HasRoom, end_of, frame_place}
use Rattle.replay_runs.specs.Checks.{Check, Checks, Done, is_fault_found, race_check}
use Rattle.whole_runs.specs.World.{World, begin}
use Rattle.whole_runs.specs.Sides.{HasRoomOn, frames_on, place_on, seen}
use Rattle.whole_runs.specs.Tests.{full_check}
use Rattle.whole_runs_seen.proofs.Wanted.{own_seen}
use Rattle.reference_recorder_marks.specs.Marks.{without_origins}
use Rattle.reference_recorder_origins.proofs.Memory.{frames_on_without}
use Rattle.reference_recorder_regions.specs.Room.{HasRoomIn}
use Rattle.reference_recorder_findings.specs.declared.finding.Finding.{Finding}
use Rattle.reference_recorder_findings.specs.declared.finding.Finding.TheVariants.{Fault}
use Rattle.reference_recorder_findings.specs.Findings.{IsFound}
use Rattle.reference_recorder_findings.proofs.Lists.{found_after}
use Rattle.reference_recorder_uses.specs.Checks.{frame_checks}

-- what is known of the place of a frame of so many bytes
abbrev pub IsRoom : World → List Mark → Side → (thread size : ℕ) → Option ℕ → Type 0
IsRoom w q side t size at = MatchOption at (HasRoomOn w side t q size → ⊥) (λ place. HasRoomOn w side t q size × (place ≡ place_on w side t q))

module _ (w : World) (p q : List Mark) (same : without_origins p ≡ q) (t size : ℕ) where
  frames_at : (side : Side) → frames_on w side t q ≡ frames_on w side t p
  frames_at side = ap (λ ms. frames_on w side t ms) (sym same) ∙ frames_on_without w side t p

  pub room_from : (side : Side) → HasRoomOn w side t q size → HasRoomOn w side t p size
  room_from side h = subst (λ fs. HasRoomIn (stack side t) fs size) (frames_at side) h

  pub room_to : (side : Side) → HasRoomOn w side t p size → HasRoomOn w side t q size
  room_to side h = subst (λ fs. HasRoomIn (stack side t) fs size) (sym (frames_at side)) h

  -- ---- below the cut

  pub fits_below : HasRoomOn w System t q size → IsFound (full_check w p t size) None
  fits_below h = ((λ x bad. bad (room_from System h)), tt)

  pub full_below : (HasRoomOn w System t q size → ⊥) → IsFound (full_check w p t size) (Some (Fault StackFull))
  full_below h = inl (0, ((λ room. h (room_to System room)), λ y bad. omega arith), refl)

  -- ---- above it

  abbrev mine : List Mark
  mine = marks_of (begin w) t (seen p)

  room_above : HasRoomOn w Replay t p size → HasRoom t mine size
  room_above h = subst (λ ms. HasRoom t ms size) (sym (own_seen w p t)) h

  room_own : HasRoom t mine size → HasRoomOn w Replay t p size
  room_own h = subst (λ ms. HasRoom t ms size) (own_seen w p t) h

  place_above : place_on w Replay t q ≡ frame_place t mine
  place_above = ap (end_of (stack Replay t)) (frames_at Replay) ∙ sym (ap (frame_place t) (own_seen w p t))

  abbrev room_check : Checks
  room_check = Check (λ x. HasRoom t mine size → ⊥) (is_fault_found StackFull) Done

  pub full_above : (HasRoomOn w Replay t q size → ⊥) → IsFound (frame_checks (begin w) (seen p) t size) (Some (Fault StackFull))
  full_above h = inl (0, ((λ room. h (room_to Replay (room_own room))), λ y bad. omega arith), refl)

  pub entered_at : (at : ℕ) → HasRoomOn w Replay t q size → at ≡ place_on w Replay t q → (o : Option Finding) →
      IsFound (race_check (seen p) t true (range at size) Done) o → IsFound (frame_checks (begin w) (seen p) t size) o
  entered_at at room is o h =
      found_after room_check (race_check (seen p) t true (range (frame_place t mine) size) Done) o ((λ x bad. bad (room_above (room_from Replay room))), tt)
      (subst (λ addr. IsFound (race_check (seen p) t true (range addr size) Done) o) (is ∙ place_above) h)
