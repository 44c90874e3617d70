-- Memory lets code above the cut touch what a run's marks touch.
use Rattle.std.proofs.Common.{◌≡◌, ℕ, true, false, List, length, sym, ◌∙◌, ap, subst}
use Rattle.std.specs.Prelude.{Option}
use Rattle.std.proofs.lemmas.Bool.{true≢false}
use Rattle.marks.specs.declared.side.Side.TheVariants.{Replay}
use Rattle.marks.specs.Places.{is_constant, is_system}
use Rattle.marks.specs.Ranges.{covers}
use Rattle.marks.specs.Marks.{Mark, Store}
use Rattle.marks.specs.Bytes.{Asks, Cell, Dead, Held, IsHeld, IsLive, Live, touches, writes}
use Rattle.space_memory_bytes.specs.Areas.{IsDead}
use Rattle.space_memory_access.specs.Held.{IsPending}
use Rattle.space_memory_access.specs.Accesses.{IsAllowed}
use Rattle.replay_runs.specs.Runs.{Start, byte}
use Rattle.space_memory.specs.Spaces.{SpaceState}
use Rattle.space_memory_laws.specs.Changes.{access_on}
use Rattle.space_memory_laws.specs.StandsFor.{StandsFor}
use Rattle.space_memory_laws.proofs.Access.{reach}
use Rattle.space_memory_laws.proofs.Cells.{covered}
use Rattle.space_memory_laws.proofs.Refusals.{byte_dead, byte_pending, constant_to, system_in}
use Rattle.reference_recorder_spaces.specs.Next.{IsNext}
use Rattle.reference_recorder_spaces.proofs.Same.{store_is}

live_held : (c : Cell) → IsLive c → IsHeld c → ⊥
live_held Dead live held = live
live_held (Live v) live held = held
live_held (Held v) live held = live

-- a byte that a run's mark writes
pub record IsWritable (s : Start) (past : List Mark) (x : ℕ) : Type 0 where
  pub own : is_system x ≡ false
  pub live : IsLive (byte s x past).cell
  pub writable : is_constant x ≡ false

module _ (s : Start) (past : List Mark) (memory : SpaceState) (h : StandsFor s past memory) where
  pub not_dead : (x : ℕ) → is_system x ≡ false → IsLive (byte s x past).cell → IsDead memory.bytes x → ⊥
  not_dead x own live dead = subst IsLive (byte_dead s past memory h x own dead) live

  pub not_pending : (x : ℕ) → is_system x ≡ false → IsLive (byte s x past).cell → IsPending memory.held.regions x → ⊥
  not_pending x own live waits = live_held (byte s x past).cell live (byte_pending s past memory h x own (not_dead x own live) waits)

  pub allowed : (t addr len : ℕ) → ((x : ℕ) → covers (reach addr len) x ≡ true → IsWritable s past x) → IsAllowed memory.bytes memory.held.regions (access_on Replay t addr len true)
  allowed t addr len each = record {
    own = λ x in' sys. true≢false (sym (system_in x sys) ∙ (each x (covered (reach addr len) x in'.0 in'.1)).own);
    live = λ x in' dead. (let o = each x (covered (reach addr len) x in'.0 in'.1) in not_dead x o.own o.live dead);
    free = λ x in' waits. (let o = each x (covered (reach addr len) x in'.0 in'.1) in not_pending x o.own o.live waits);
    writable = λ x in' is. true≢false (sym (constant_to true x is).1 ∙ (each x (covered (reach addr len) x in'.0 in'.1)).writable);
  }

pub store_allowed : (old : SpaceState) (t : ℕ) (origin : Option ℕ) (at : ℕ) (bytes : List ℕ) → IsNext old t (Store origin at bytes) →
    IsAllowed old.bytes old.held.regions (access_on Replay t at (length bytes) true)
store_allowed old t origin at bytes n =
    let o = store_is n.mark.act origin at bytes n.same in
    allowed n.start n.past old n.stands t at (length bytes) (λ x c. record {
      own = n.allowed.own.other_space x (ap (λ a. touches a x) o.1 ∙ c);
      live = subst (λ a. Asks a (λ x. byte n.start x n.past)) o.1 n.allowed.bytes x c;
      writable = n.allowed.own.read_only x (ap (λ a. writes a x) o.1 ∙ c);
    })
