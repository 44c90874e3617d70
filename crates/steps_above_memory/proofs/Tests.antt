-- Answers of memory: a test of a write by that of a read, and that one answer isn't another.
use Rattle.std.proofs.Common.{◌≡◌, ℕ, true, false, List, Result, Ok, Err, sym, ◌∙◌}
use Rattle.marks.specs.Ranges.{NoneIn, IsLeastIn, IsInRange}
use Rattle.memory_map.specs.declared.areas.TheConstants.{CONSTANTS}
use Rattle.space_memory_bytes.specs.Areas.{AreaState}
use Rattle.space_memory_access.specs.declared.holder.Region.{Region}
use Rattle.space_memory_access.specs.declared.refusal.Refusal.{Refusal}
use Rattle.space_memory_access.specs.declared.refusal.Refusal.TheVariants.{NotLive, Pending, OtherSpace, ReadOnly, StackFull, KeyInUse, NoKey, Size}
use Rattle.space_memory_access.specs.Accesses.{IsAllowed, IsRefused}
use Rattle.space_memory_laws.specs.Refusals.{access}

module _ (bytes : List AreaState) (regions : List Region) (t addr len : ℕ) where
  -- what refuses a read refuses a write
  pub refused_too : (r : Refusal) → IsRefused bytes regions (access t addr len false) r → IsRefused bytes regions (access t addr len true) r
  refused_too (NotLive x) h = h
  refused_too (Pending x) h = h
  refused_too (OtherSpace x) h = h
  refused_too (ReadOnly x) h = absurd h.3.holds
  refused_too (StackFull x) h = h
  refused_too (KeyInUse x) h = h
  refused_too (NoKey x) h = h
  refused_too (Size x) h = h

  -- else only a constant does
  pub constant_refused : (x : ℕ) → IsAllowed bytes regions (access t addr len false) →
      IsLeastIn (access t addr len true).range (IsInRange CONSTANTS) x → IsRefused bytes regions (access t addr len true) (ReadOnly x)
  constant_refused x ok least = (ok.own, ok.live, ok.free, least)

  pub written_allowed : IsAllowed bytes regions (access t addr len false) → NoneIn (access t addr len true).range (IsInRange CONSTANTS) → IsAllowed bytes regions (access t addr len true)
  written_allowed ok none = record { own = ok.own; live = ok.live; free = ok.free; writable = none }

pub not_both : (r : Result ℕ Refusal) (a : ℕ) (e : Refusal) → r ≡ Ok a → r ≡ Err e → ⊥
not_both r a e p q = absurd (other (sym p ∙ q))
  where
    other : ◌≡◌ {A = Result ℕ Refusal} (Ok a) (Err e) → ⊥
    other k = absurd cc
