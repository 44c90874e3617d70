-- No object of a run has a byte from 2^31 on.
use Rattle.std.proofs.Common.{All, ◌≡◌, ℕ, ◌^◌, ◌≤◌, Bool, true, false, ◌&&◌, leb, ltb, List, [], ◌∷◌, None, refl, sym, ap, ◌∙◌, subst, arith}
use Rattle.std.specs.Prelude.{is_some}
use Rattle.std.proofs.lemmas.Bool.{le-ltb}
use Rattle.std.proofs.lemmas.List.Elements.{All-nil, All-cons}
use Rattle.marks.specs.declared.side.Side.{Side}
use Rattle.marks.specs.declared.side.Side.TheVariants.{Replay, System}
use Rattle.marks.specs.Places.{constants, replay_globals, replay_end, system_globals, system_end}
use Rattle.marks.specs.Marks.{Act, Turn, Load, Store, Enter, Leave, Step, Fault, Made, Mark, side_of}
use Rattle.marks.specs.Wants.{answer_to}
use Rattle.marks.specs.Bytes.{Cell, Dead, Live, Held}
use Rattle.memory_map.specs.declared.placed.Place.{Place}
use Rattle.space_memory.specs.Objects.{IsInArea}
use Rattle.replay_runs.specs.Runs.{byte}
use Rattle.replay_runs.specs.Checks.{Passes}
use Rattle.whole_runs.specs.World.{World, begin}
use Rattle.whole_runs.specs.Sides.{seen}
use Rattle.whole_runs.specs.Memory.{real}
use Rattle.whole_runs.specs.Tests.{tests}
use Rattle.whole_runs.specs.Steps.{Picked, IsMade}
use Rattle.whole_runs.specs.Ends.{Follows}
use Rattle.whole_runs.specs.Fits.{IsFit, LieApart}
use Rattle.whole_runs_memory.specs.Plain.{IsReally}
use Rattle.whole_runs_memory.specs.Real.{IsNoStep, IsOutside}
use Rattle.whole_runs_memory.proofs.Inside.{none_above, none_placed}
use Rattle.whole_runs_memory.proofs.KeptOff.{no_step_above, replied}
use Rattle.whole_runs_memory.proofs.RealRuns.{real_above, seen_whole}
use Rattle.whole_runs_memory.proofs.Seen.{seen_below}
use Rattle.whole_runs_memory.proofs.Threads.{small_thread}
use Rattle.reference_recorder_marks.specs.Marks.{without_origins}
use Rattle.reference_recorder_origins.proofs.Memory.{byte_seen, real_without}
use Rattle.reference_recorder_scans.specs.Found.{IsLow}

not_below : (a b : Bool) → b ≡ false → (a && b) ≡ false
not_below true b e = e
not_below false b e = refl

-- no memory is there
outside : (x : ℕ) → 2 ^ 31 ≤ x → IsOutside x
outside x high = record {
  constant = not_below (leb constants x) (ltb x replay_globals) (le-ltb x replay_globals (omega (arith, high)));
  replay = not_below (leb replay_globals x) (ltb x replay_end) (le-ltb x replay_end (omega (arith, high)));
  system = not_below (leb system_globals x) (ltb x system_end) (le-ltb x system_end (omega (arith, high)));
}

none_dead : (c : Cell) → IsReally c None → c ≡ Dead
none_dead Dead h = refl
none_dead (Live v) h = absurd cc
none_dead (Held v) h = absurd (h refl)

in_areas : (os : List Place) → LieApart os → All IsInArea os
in_areas [] apart = All-nil IsInArea
in_areas (o ∷ os) apart = All-cons IsInArea o os apart.0 (in_areas os apart.2)

-- above the cut no builtin or external is met in one step
module _ (w : World) (past : List Mark) (m : Mark) (s : Picked w past) (made : IsMade w past s m) (above : m.side ≡ Replay) where
  by_act : (a : Act) → m.act ≡ a → IsNoStep a
  by_act Turn e = tt
  by_act (Load o at bytes) e = tt
  by_act (Store o at bytes) e = tt
  by_act (Enter f args at bytes) e = tt
  by_act (Leave at size) e = tt
  by_act (Step f args v ins pieces freed) e =
      let answers = replied s.side s.want m made.replies in
      let side : s.side ≡ Replay = ap (side_of s.side) (sym e) ∙ answers.0 ∙ above in
      no_step_above w past s.thread s.want f args v ins pieces freed
      (subst (λ a. is_some (answer_to s.want a) ≡ true) e answers.1)
      (subst (λ d. Passes (tests w past s.thread d s.want)) side made.passes)
  by_act (Fault kind crosses ins outs access) e = tt
  by_act (Made event) e = tt

  no_step : IsNoStep m.act
  no_step = by_act m.act refl

module _ (w : World) (fit : IsFit w) (x : ℕ) (out : IsOutside x) where
  dead_where_none : (run : List Mark) → Follows w run → real w run x ≡ None → (byte (begin w) x (seen run)).cell ≡ Dead
  dead_where_none run follows none = none_dead (byte (begin w) x (seen run)).cell (subst (IsReally (byte (begin w) x (seen run)).cell) none (real_above w fit run follows x out.system))

  none_there : (run : List Mark) → Follows w run → real w run x ≡ None
  none_there [] follows =
      let objects = fit.placed.objects in
      none_placed w x (in_areas w.laid.placed.globals objects.global_areas) (in_areas w.laid.placed.strings objects.string_areas) out
  none_there (m ∷ past) follows = go m.side refl (none_there past follows.1)
    where
      go : (d : Side) → m.side ≡ d → real w past x ≡ None → real w (m ∷ past) x ≡ None
      go Replay above none =
          none_above w past m follows.0.step follows.0.made above
          (no_step w past m follows.0.step follows.0.made above)
          (small_thread w fit.code past m follows) (seen_whole w fit past follows.1) (seen_whole w fit (m ∷ past) follows) x out none
          (dead_where_none past follows.1 none)
      go System below none =
          subst (λ c. IsReally c (real w (m ∷ past) x))
          (ap (λ p. (byte (begin w) x p).cell) (seen_below w m past below) ∙ dead_where_none past follows.1 none)
          (real_above w fit (m ∷ past) follows x out.system)

pub low : (w : World) → IsFit w → (run : List Mark) → Follows w run → IsLow w run
low w fit run follows x high =
    let none = none_there w fit x (outside x high) run follows in
    (dead_where_none w fit x (outside x high) run follows none, none)

-- so it is of its marks without the globals that paths begin with
pub low_without : (w : World) (run : List Mark) → IsLow w run → IsLow w (without_origins run)
low_without w run h x high = (ap (λ b. b.cell) (byte_seen w x run) ∙ (h x high).0, real_without w x run ∙ (h x high).1)
