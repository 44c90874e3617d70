-- Each byte that is pending is still what it was when it was held, after each mark.
use Rattle.std.proofs.Common.{◌≡◌, ℕ, ◌+◌, Bool, true, false, cond, ltb, ◌||◌, length, List, [], ◌∷◌, Option, Some, None, inl, inr, refl, sym, ◌∙◌, ap, subst}
use Rattle.std.proofs.lemmas.Bool.{cases_Bool}
use Rattle.marks.specs.Places.{is_system}
use Rattle.marks.specs.declared.range.Range.{Range}
use Rattle.marks.specs.Ranges.{Piece, any_piece, covers}
use Rattle.marks.specs.Ranges as marks
use Rattle.marks.specs.Marks.{Mark}
use Rattle.marks.specs.Bytes.{Cell, Dead, Held, IsHeld, Live, cell_after, give, give_any, release}
use Rattle.space_memory_bytes.specs.Areas.{byte_at}
use Rattle.replay_runs.specs.Runs.{Start, byte}
use Rattle.space_memory.specs.Spaces.{SpaceState}
use Rattle.space_memory_laws.specs.Shown.{cell_of, value_when_held}
use Rattle.space_memory_laws.specs.StandsFor.{StandsFor}
use Rattle.space_memory_laws.proofs.Regions.{some_none}
use Rattle.reference_recorder_spaces.specs.Next.{IsUntouched}

held_value : (b held : Option ℕ) (v : ℕ) → cell_of b held ≡ Held v → held ≡ Some v
held_value None held v e = absurd cc
held_value (Some b) None v e = absurd cc
held_value (Some b) (Some w) v e = let p : w ≡ v = cc in ap (λ x. Some x) p

-- the same in the words of the run
module _ (s : Start) (past : List Mark) (memory : SpaceState) (h : StandsFor s past memory) where
  pub held_byte : IsUntouched memory → (x v : ℕ) → is_system x ≡ false → (byte s x past).cell ≡ Held v → byte_at memory.bytes x ≡ Some v
  held_byte untouched x v own e = untouched x v (held_value (byte_at memory.bytes x) (value_when_held memory.held.regions x) v (sym (h.bytes x own) ∙ e))

  pub untouched_if : ((x v : ℕ) → is_system x ≡ false → (byte s x past).cell ≡ Held v → byte_at memory.bytes x ≡ Some v) → IsUntouched memory
  untouched_if each x v e = elim (cases_Bool (is_system x)) [
    | inl is ↦ absurd (some_none v (sym e ∙ h.sound.own x is))
    | inr own ↦ go own (byte_at memory.bytes x) refl
  ]
    where
      go : is_system x ≡ false → (b : Option ℕ) → byte_at memory.bytes x ≡ b → byte_at memory.bytes x ≡ Some v
      go own None dead = absurd (some_none v (sym e ∙ h.sound.unheld x dead))
      go own (Some w) is = each x v own (h.bytes x own ∙ (λ i. cell_of (is i) (e i)))

module _ (s : Start) (past : List Mark) (m : Mark) (old new : SpaceState) (h : StandsFor s past old) (untouched : IsUntouched old) (stands : StandsFor s (m ∷ past) new) where
  -- after a mark that leaves only such bytes pending as were so, and that it doesn't change
  pub stays : ((x v : ℕ) → cell_after m.act x (byte s x past).cell ≡ Held v → ((byte s x past).cell ≡ Held v) × (byte_at new.bytes x ≡ byte_at old.bytes x)) → IsUntouched new
  stays each = untouched_if s (m ∷ past) new stands (λ x v own e. let q = each x v e in q.1 ∙ held_byte s past old h untouched x v own q.0)

  -- after a mark that gives the bytes of a range, none pending, and changes no other
  pub stays_outside : (r : Range) (given : ℕ → Cell) → ((x : ℕ) → IsHeld (given x) → ⊥) → ((x : ℕ) → cell_after m.act x (byte s x past).cell ≡ cond (covers r x) (given x) (byte s x past).cell) →
      ((x : ℕ) → covers r x ≡ false → byte_at new.bytes x ≡ byte_at old.bytes x) → IsUntouched new
  stays_outside r given none after others = stays (λ x v e. go x v (covers r x) refl (sym (after x) ∙ e))
    where
      go : (x v : ℕ) (b : Bool) → covers r x ≡ b → cond b (given x) (byte s x past).cell ≡ Held v → ((byte s x past).cell ≡ Held v) × (byte_at new.bytes x ≡ byte_at old.bytes x)
      go x v true is e = absurd (none x (subst IsHeld (sym e) tt))
      go x v false is e = (e, others x is)

-- a Ret leaves no byte of its pieces pending
pub not_given : (ps : List Piece) (x : ℕ) (c : Cell) (v : ℕ) → give_any ps x c ≡ Held v → (any_piece ps x ≡ false) × (c ≡ Held v)
not_given [] x c v e = (refl, e)
not_given (p ∷ ps) x c v e = go (covers p.range x) refl e (not_given ps x c v)
  where
    never : (b : Bool) (n : ℕ) (c : Cell) → IsHeld (cond b (Live n) (release c)) → ⊥
    never true n c held = held
    never false n Dead held = held
    never false n (Live w) held = held
    never false n (Held w) held = held

    go : (b : Bool) → covers p.range x ≡ b → cond b (give p x c) (give_any ps x c) ≡ Held v → (give_any ps x c ≡ Held v → (any_piece ps x ≡ false) × (c ≡ Held v)) →
        (any_piece (p ∷ ps) x ≡ false) × (c ≡ Held v)
    go true is e again = absurd (never (ltb x (p.range.addr + length p.bytes)) (marks.byte_at p.range.addr p.bytes x) c (subst IsHeld (sym e) tt))
    go false is e again = let q = again e in (ap (λ b. b || any_piece ps x) is ∙ q.0, q.1)
