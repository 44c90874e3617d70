-- What code below the cut may touch doesn't depend on origins.
use Rattle.std.proofs.Common.{◌≡◌, ℕ, Bool, List, inl, inr, sym, ap, ◌∙◌}
use Rattle.marks.specs.Marks.{Mark}
use Rattle.marks.specs.Bytes.{Byte}
use Rattle.marks.specs.Opens.{OpenCall}
use Rattle.replay_runs.specs.Runs.{byte}
use Rattle.space_memory_laws.specs.Owed.{any_out}
use Rattle.space_memory_laws.specs.Rights.{IsHandedDown, any_in}
use Rattle.whole_runs.specs.World.{World, begin}
use Rattle.whole_runs.specs.Sides.{seen}
use Rattle.whole_runs.specs.Below.{IsForbidden}
use Rattle.reference_recorder_marks.specs.Marks.{without_origins}
use Rattle.reference_recorder_origins.proofs.Memory.{byte_seen, calls_mine, in_use_seen}

module _ (w : World) (p : List Mark) (t : ℕ) (write : Bool) (x : ℕ) where
  down_from : IsHandedDown (begin w) (seen (without_origins p)) t write x → IsHandedDown (begin w) (seen p) t write x
  down_from h = elim h [
    | inl holds ↦ inl (ap (λ (cs : List OpenCall). any_out cs x) (sym (calls_mine w t p)) ∙ holds)
    | inr more ↦ inr (elim more [
      | inl reads ↦ inl (reads.0, ap (λ (cs : List OpenCall). any_in cs x) (sym (calls_mine w t p)) ∙ reads.1)
      | inr under ↦ inr (under.0, (under.1.0, sym (in_use_seen w under.0 p) ∙ under.1.1, under.1.2))
    ])
  ]

  down_to : IsHandedDown (begin w) (seen p) t write x → IsHandedDown (begin w) (seen (without_origins p)) t write x
  down_to h = elim h [
    | inl holds ↦ inl (ap (λ (cs : List OpenCall). any_out cs x) (calls_mine w t p) ∙ holds)
    | inr more ↦ inr (elim more [
      | inl reads ↦ inl (reads.0, ap (λ (cs : List OpenCall). any_in cs x) (calls_mine w t p) ∙ reads.1)
      | inr under ↦ inr (under.0, (under.1.0, in_use_seen w under.0 p ∙ under.1.1, under.1.2))
    ])
  ]

  cell_same : (byte (begin w) x (seen (without_origins p))).cell ≡ (byte (begin w) x (seen p)).cell
  cell_same = ap (λ (b : Byte). b.cell) (byte_seen w x p)

  pub forbidden_from : IsForbidden w (without_origins p) t write x → IsForbidden w p t write x
  forbidden_from f = (f.0, λ may. f.1 ((λ d. may.0 (sym cell_same ∙ d)), down_to may.1))

  pub forbidden_to : IsForbidden w p t write x → IsForbidden w (without_origins p) t write x
  forbidden_to f = (f.0, λ may. f.1 ((λ d. may.0 (cell_same ∙ d)), down_from may.1))
