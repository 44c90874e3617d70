-- Loads and stores.
use Rattle.std.proofs.Common.{◌≡◌, ℕ, ◌+◌, ◌-◌, ◌^◌, ◌<◌, Bool, true, false, cond, List, length, Option, Some, None, is_some, inl, inr, refl, ap, sym, ◌∙◌, subst, arith}
use Rattle.std.proofs.lemmas.Bool.{cond-true, cond-false}
use Rattle.marks.specs.declared.side.Side.TheVariants.{Replay}
use Rattle.marks.specs.Places.{is_system}
use Rattle.marks.specs.declared.range.Range.{Range}
use Rattle.marks.specs.Ranges.{bytes_of_number, within, covers}
use Rattle.marks.specs.Ranges as marks
use Rattle.marks.specs.Marks.{Mark}
use Rattle.marks.specs.Bytes.{Live, IsLive, cell_after, block_after, Asks}
use Rattle.space_memory_bytes.specs.Areas.{AreaState, byte_at, IsDead}
use Rattle.space_memory_bytes.specs.Numbers.{HasNumber}
use Rattle.space_memory_access.specs.declared.access.Access.{Access}
use Rattle.space_memory_access.specs.Accesses.{IsAllowed}
use Rattle.replay_runs.specs.Runs.{Start, byte}
use Rattle.space_memory.specs.Spaces.{SpaceState}
use Rattle.space_memory_laws.specs.Shown.{value_when_held, cell_of}
use Rattle.space_memory_laws.specs.StandsFor.{StandsFor}
use Rattle.space_memory_laws.specs.Marks.{IsQuiet, LoadsAreMarks, StoresAreMarks}
use Rattle.space_memory_laws.proofs.Backs.{still_leaves, IsStill}
use Rattle.space_memory_laws.proofs.Cells.{cover_cases, cover_parts, live_ends, not_system, unheld}
use Rattle.space_memory_laws.proofs.Digits.{count, digit_is}
use Rattle.space_memory_laws.proofs.Moved.{moved}
use Rattle.space_memory_laws.proofs.Quiet.{quiet}

abbrev pub reach : ℕ → ℕ → Range
reach addr len = record { addr = addr; len = len }

abbrev pub code_access : ℕ → ℕ → ℕ → Bool → Access
code_access thread addr len write = record { side = Replay; thread = thread; range = reach addr len; write = write }

pub live_cell : (b : Option ℕ) → (b ≡ None → ⊥) → IsLive (cell_of b None)
live_cell None live = absurd (live refl)
live_cell (Some v) live = tt

pub some_live : (b : Option ℕ) → (b ≡ None → ⊥) → is_some b ≡ true
some_live None live = absurd (live refl)
some_live (Some v) live = refl

-- a byte that code above the cut may touch
pub record IsOpen (s : Start) (past : List Mark) (memory : SpaceState) (x : ℕ) : Type 0 where
  pub own : is_system x ≡ false
  pub live : IsDead memory.bytes x → ⊥
  pub free : value_when_held memory.held.regions x ≡ None
  pub cell : (byte s x past).cell ≡ cell_of (byte_at memory.bytes x) None

module _ (s : Start) (past : List Mark) (old : SpaceState) (thread addr width : ℕ) (write : Bool) (h : StandsFor s past old) (small : addr < 2 ^ 64) (ok : IsAllowed old.bytes old.held.regions (code_access thread addr width write)) where
  pub reach_ends : addr + width < 2 ^ 64
  reach_ends = live_ends old.bytes (reach addr width) h.sound.ends small ok.live

  pub open_byte : (x : ℕ) → covers (reach addr width) x ≡ true → IsOpen s past old x
  open_byte x c =
      let p = cover_parts (reach addr width) x c in
      let own = not_system (reach addr width) x reach_ends ok.own c in
      let free = unheld old.held.regions x (ok.free x (p.0, p.1, omega (arith, p.1, reach_ends))) in
      record {
        own = own;
        live = ok.live x (p.0, p.1, omega (arith, p.1, reach_ends));
        free = free;
        cell = h.bytes x own ∙ ap (cell_of (byte_at old.bytes x)) free;
      }

  -- it has what a load and a store ask
  pub open_live : (x : ℕ) → covers (reach addr width) x ≡ true → IsLive (byte s x past).cell
  open_live x c =
      let o = open_byte x c in
      subst IsLive (sym o.cell) (live_cell (byte_at old.bytes x) o.live)

-- a byte of a number in memory is one of the bytes of a mark
pub number_byte : (bytes : List AreaState) (addr width value x : ℕ) → HasNumber bytes addr width value → covers (reach addr width) x ≡ true →
    byte_at bytes x ≡ Some (marks.byte_at addr (bytes_of_number width value) x)
number_byte bytes addr width value x has c =
    let p = cover_parts (reach addr width) x c in
    let at : addr + (x - addr) ≡ x = omega (arith, p.0) in
    ap (byte_at bytes) (sym at) ∙ has (x - addr) (omega (arith, p.0, p.1)) ∙ ap (λ v. Some v) (sym (digit_is width value (x - addr) (omega (arith, p.0, p.1))))

pub loads : LoadsAreMarks
loads s past memory m origin thread addr width value h small l is = record {
  asks = subst (λ a. Asks a (λ x. byte s x past)) (sym is) shown;
  stands = quiet s past memory m h (subst IsQuiet (sym is) tt);
}
  where
    shown : (x : ℕ) → within addr (length (bytes_of_number width value)) x ≡ true → (byte s x past).cell ≡ Live (marks.byte_at addr (bytes_of_number width value) x)
    shown x w =
        let c : covers (reach addr width) x ≡ true = subst (λ n. within addr n x ≡ true) (count width value) w in
        let o = open_byte s past memory thread addr width false h small l.allowed x c in
        o.cell ∙ ap (λ b. cell_of b None) (number_byte memory.bytes addr width value x l.number c)

pub stores : StoresAreMarks
stores s past old new m origin thread addr width value h small k is = record {
  asks = subst (λ a. Asks a (λ x. byte s x past)) (sym is) (λ x w. open_live s past old thread addr width true h small k.allowed x (subst (λ n. within addr n x ≡ true) (count width value) w));
  stands = moved s m past old new h (still_leaves s m past (subst IsStill (sym is) (record { frames = λ fs. refl; calls = λ cs. refl; blocks = λ bs. refl; keys = λ k r. refl })))
      (ap (λ (q : SpaceState). q.held) k.rest) (ap (λ (q : SpaceState). q.sides) k.rest)
      (λ x own. ap (λ a. cell_after a x (byte s x past).cell) is ∙ ap (λ n. cond (within addr n x) (Live (marks.byte_at addr (bytes_of_number width value) x)) (byte s x past).cell) (count width value) ∙ written x own)
      (λ x. ap (λ a. block_after a x (byte s x past).block) is)
      (λ x. elim (cover_cases (reach addr width) x) [
        | inl in' ↦
            ap is_some (number_byte new.bytes addr width value x k.number in'.is)
            ∙ sym (some_live (byte_at old.bytes x) (open_byte s past old thread addr width true h small k.allowed x in'.is).live)
        | inr out ↦ ap is_some (k.others.bytes x out.is)
      ]);
}
  where
    written : (x : ℕ) → is_system x ≡ false →
        cond (covers (reach addr width) x) (Live (marks.byte_at addr (bytes_of_number width value) x)) (byte s x past).cell ≡ cell_of (byte_at new.bytes x) (value_when_held old.held.regions x)
    written x own = elim (cover_cases (reach addr width) x) [
      | inl in' ↦
          let o = open_byte s past old thread addr width true h small k.allowed x in'.is in
          cond-true (covers (reach addr width) x) _ _ in'.is ∙ sym (ap (cell_of (byte_at new.bytes x)) o.free ∙ ap (λ b. cell_of b None) (number_byte new.bytes addr width value x k.number in'.is))
      | inr out ↦ cond-false (covers (reach addr width) x) _ _ out.is ∙ h.bytes x own ∙ ap (λ b. cell_of b (value_when_held old.held.regions x)) (sym (k.others.bytes x out.is))
    ]
