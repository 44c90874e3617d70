-- What holds of what is found by the rules of types.
use Rattle.c_types_rules.specs.Checked.{Checked, Fine, Noted, Broken}
pub use Rattle.c_semantics.proofs.TypedReturns.{Holds, holds_noting, holds_heard, holds_then, holds_on, holds_after, holds_kept}

pub holds_both : {A : Type 0} (P Q : A → Type 0) (c : Checked A) → Holds P c → Holds Q c → Holds (λ a. P a × Q a) c
holds_both P Q (Fine a) h k = (h, k)
holds_both P Q (Noted n a) h k = (h, k)
holds_both P Q (Broken from rule) h k = tt
