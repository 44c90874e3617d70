-- What a byte is.
use Rattle.std.proofs.Common.{◌≡◌, ℕ, Bool, true, false, not, Option, Some, None, is_some, refl}
use Rattle.std.specs.Prelude.{◌↔◌}
use Rattle.marks.specs.Bytes.{Cell, Dead, Live, Held, IsHeld}
use Rattle.reference_recorder_scans.specs.Scans.{is_dead, is_held}

pub dead_is : (c : Cell) → (is_dead c ≡ true) ↔ (c ≡ Dead)
dead_is Dead = (λ e. refl, λ e. refl)
dead_is (Live v) = (λ e. absurd cc, λ e. absurd cc)
dead_is (Held v) = (λ e. absurd cc, λ e. absurd cc)

pub held_is : (c : Cell) → (is_held c ≡ true) ↔ IsHeld c
held_is Dead = (λ e. absurd cc, λ h. absurd h)
held_is (Live v) = (λ e. absurd cc, λ h. absurd h)
held_is (Held v) = (λ e. tt, λ h. refl)

pub lost_is : (o : Option ℕ) (b : Bool) → is_some o ≡ not b → (b ≡ true) ↔ (o ≡ None)
lost_is None true e = (λ t. refl, λ t. refl)
lost_is None false e = absurd cc
lost_is (Some v) true e = absurd cc
lost_is (Some v) false e = (λ t. absurd cc, λ t. absurd cc)
