-- Bytes that code above the cut writes are a Store.
use Rattle.std.proofs.Common.{◌≡◌, ℕ, ◌+◌, ◌-◌, ◌^◌, ◌<◌, true, false, cond, List, ◌∷◌, length, Option, Some, None, is_some, inl, inr, refl, ap, sym, ◌∙◌, subst, arith}
use Rattle.std.proofs.lemmas.Bool.{cond-true, cond-false}
use Rattle.marks.specs.declared.side.Side.TheVariants.{Replay}
use Rattle.marks.specs.Places.{is_system}
use Rattle.marks.specs.Ranges.{covers}
use Rattle.marks.specs.Ranges as marks
use Rattle.marks.specs.Marks.{Store, Mark}
use Rattle.marks.specs.Bytes.{Cell, Live, cell_after, block_after}
use Rattle.space_memory_bytes.specs.Areas.{AreaState, byte_at}
use Rattle.space_memory_bytes.specs.Numbers.{HasBytes}
use Rattle.replay_runs.specs.Runs.{Start, byte}
use Rattle.space_memory.specs.Spaces.{SpaceState}
use Rattle.space_memory_laws.specs.Shown.{value_when_held, cell_of}
use Rattle.space_memory_laws.specs.StandsFor.{StandsFor}
use Rattle.space_memory_laws.specs.Changes.{IsWritten}
use Rattle.space_memory_laws.proofs.Access.{open_byte, reach, some_live}
use Rattle.space_memory_laws.proofs.Backs.{IsStill, still_leaves}
use Rattle.space_memory_laws.proofs.Cells.{cover_cases, cover_parts}
use Rattle.space_memory_laws.proofs.Moved.{moved}
use Rattle.reference_recorder_spaces.specs.Next.{IsDone}
use Rattle.reference_recorder_spaces.proofs.Same.{store_is}
use Rattle.reference_recorder_spaces.proofs.Untouched.{stays_outside}

-- a byte of those that memory has
pub there : (bytes : List AreaState) (addr : ℕ) (values : List ℕ) (x : ℕ) → HasBytes bytes addr values → covers (reach addr (length values)) x ≡ true →
    byte_at bytes x ≡ Some (marks.byte_at addr values x)
there bytes addr values x has c =
    let p = cover_parts (reach addr (length values)) x c in
    let at : addr + (x - addr) ≡ x = omega (arith, p.0) in
    ap (byte_at bytes) (sym at) ∙ has (x - addr) (omega (arith, p.0, p.1))

module _ (s : Start) (past : List Mark) (old new : SpaceState) (m : Mark) (origin : Option ℕ) (thread addr : ℕ) (bytes : List ℕ) (h : StandsFor s past old) (small : addr < 2 ^ 64)
    (k : IsWritten Replay old new thread addr bytes) (is : m.act ≡ Store origin addr bytes) where
  written : (x : ℕ) → is_system x ≡ false →
      cond (covers (reach addr (length bytes)) x) (Live (marks.byte_at addr bytes x)) (byte s x past).cell ≡ cell_of (byte_at new.bytes x) (value_when_held old.held.regions x)
  written x own = elim (cover_cases (reach addr (length bytes)) x) [
    | inl in' ↦
        let o = open_byte s past old thread addr (length bytes) true h small k.allowed x in'.is in
        cond-true (covers (reach addr (length bytes)) x) _ _ in'.is ∙ sym (ap (cell_of (byte_at new.bytes x)) o.free ∙ ap (λ b. cell_of b None) (there new.bytes addr bytes x k.bytes_are in'.is))
    | inr out ↦ cond-false (covers (reach addr (length bytes)) x) _ _ out.is ∙ h.bytes x own ∙ ap (λ b. cell_of b (value_when_held old.held.regions x)) (sym (k.others.bytes x out.is))
  ]

  stored : StandsFor s (m ∷ past) new
  stored = moved s m past old new h (still_leaves s m past (subst IsStill (sym is) (record { frames = λ fs. refl; calls = λ cs. refl; blocks = λ bs. refl; keys = λ k r. refl })))
      (ap (λ (q : SpaceState). q.held) k.rest) (ap (λ (q : SpaceState). q.sides) k.rest)
      (λ x own. ap (λ a. cell_after a x (byte s x past).cell) is ∙ written x own)
      (λ x. ap (λ a. block_after a x (byte s x past).block) is)
      (λ x. elim (cover_cases (reach addr (length bytes)) x) [
        | inl in' ↦
            ap is_some (there new.bytes addr bytes x k.bytes_are in'.is)
            ∙ sym (some_live (byte_at old.bytes x) (open_byte s past old thread addr (length bytes) true h small k.allowed x in'.is).live)
        | inr out ↦ ap is_some (k.others.bytes x out.is)
      ])

pub stores : (old new : SpaceState) (thread addr : ℕ) (bytes : List ℕ) → addr < 2 ^ 64 → IsWritten Replay old new thread addr bytes →
    (origin : Option ℕ) → IsDone old thread (Store origin addr bytes) new
stores old new thread addr bytes small k origin n =
    let o = store_is n.mark.act origin addr bytes n.same in
    let stands = stored n.start n.past old new n.mark o.0 thread addr bytes n.stands small k o.1 in
    let cell : ℕ → Cell = λ x. Live (marks.byte_at addr bytes x) in
    (stands, stays_outside n.start n.past n.mark old new n.stands n.untouched stands (reach addr (length bytes)) cell (λ x held. held) (λ x. ap (λ a. cell_after a x (byte n.start x n.past).cell) o.1) k.others.bytes)
