-- Answers by what is stored agree with what it stands for.
use Rattle.std.proofs.Common.{◌≡◌, ℕ, Bool, List, map, Result, sym, ap, ◌∙◌, subst}
use Rattle.c_types_model.specs.declared.extent.Extent.{Extent}
use Rattle.c_scopes.specs.Scopes.{Scope}
use Rattle.c_types_rules.specs.Checked.{Checked}
use Rattle.c_types_rules.specs.Environment.{extents}
use Rattle.c_types_nodes.specs.declared.ids.NodeId.{NodeId}
use Rattle.c_types_nodes.specs.Tables.{Table}
use Rattle.c_types_operators.specs.declared.error.TypeError.{TypeError}
use Rattle.c_types_operators.specs.Answers.{Agrees}
use Rattle.c_types_structs.specs.Members.{Definitions}
use Rattle.c_types_environment.specs.declared.meaning.Meaning.{Meaning}
use Rattle.c_types_environment.specs.States.{State, IsSound, state_by}
use Rattle.c_types_environment.proofs.Capped.{cap_all}

module _ {A B : Type 0} (R : A → B → Type 0) (r : Result B TypeError) (t : Table) (tags : List (List ℕ)) (structs : Definitions) (scopes : List (Scope Meaning)) (large : Bool) (ids : List NodeId) (now : State) where
  -- by the table alone
  pub agreed : (f : Table → Checked A) → state_by t tags structs scopes large ids ≡ now → Agrees R (f t) r → Agrees R (f now.table) r
  agreed f same h =
      let there : State → Type 0 = λ s. Agrees R (f s.table) r in
      subst there same h

  -- by the table and the sizes of structs, which are stored as 64 bits hold them
  pub agreed_by_sizes : (f : List Extent → Table → Checked A) → ((es : List Extent) (u : Table) → f (cap_all es) u ≡ f es u) → (es : List Extent) → es ≡ structs.extents → state_by t tags structs scopes large ids ≡ now → IsSound t.types structs scopes
      → Agrees R (f es t) r → Agrees R (f (extents now.env) now.table) r
  agreed_by_sizes f capped es stored same sound h =
      let there : State → Type 0 = λ s. Agrees R (f (extents s.env) s.table) r in
      let by : Checked A → Type 0 = λ c. Agrees R c r in
      let exact : List Extent = extents (state_by t tags structs scopes large ids).env in
      subst there same (subst by (ap (λ x. f x t) (stored ∙ sound.extents) ∙ capped exact t) h)
