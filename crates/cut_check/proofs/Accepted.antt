-- What an accepted source is.
use Rattle.std.proofs.Common.{◌≡◌, ◌≤◌, ℕ, Bool, true, false, List, Ok, Option, Some, None, refl, sym, ap, ◌∙◌}
use Rattle.std.specs.Prelude.{if◌then◌else◌, nat_lt}
use Rattle.std.proofs.lemmas.Bool.{ltb-false}
use Rattle.source_limits.specs.Limits.{most_nodes}
use Rattle.c_lexer.specs.declared.token.Token.{Token}
use Rattle.c_parser_nodes.specs.Counts.{source_nodes}
use Rattle.c_syntax.specs.Syntax.{Decls}
use Rattle.c_types_rules.specs.Checked.{Checked, Fine, Noted, Broken}
use Rattle.c_types_rules.specs.Limits as typing
use Rattle.c_types_rules.specs.Limits.{Outcome, Typed, outcome}
use Rattle.c_types_rules.specs.Sources.{Program}
use Rattle.annot_reader_rules.specs.Cuts.{annotations, is_named}
use Rattle.annot_reader_rules.specs.Notes.{Annotated}
use Rattle.annot_reader.specs.Interface.{Interface}
use Rattle.annot_reader.specs.Interfaces.{IsInterface, IsRead}
use Rattle.front_end.specs.declared.source.CheckedSource.{CheckedSource}
use Rattle.front_end.specs.declared.error.SourceError.{SourceError}
use Rattle.front_end.specs.declared.error.SourceError.TheVariants.{Limit}
use Rattle.front_end.specs.declared.error.SourceLimit.TheVariants.{Nodes}
use Rattle.front_end.specs.Answers.{IsAccepted, SaysOf}
use Rattle.front_end.specs.Sources.{IsRight, fault_of_annotations, fault_of_types, too_large, unless_named}
use Rattle.front_end_laws.proofs.Whole.{all_said}
use Rattle.cut_check.specs.Sources.{IsOf, Says, found}

-- what it declares and what its annotations say, and that its program, interface and code are those
pub record Known (bytes cut : List ℕ) (c : CheckedSource) : Type 0 where
  pub program : Program
  pub annotated : Annotated
  pub says : Says bytes cut program annotated
  pub is : IsOf cut program annotated c

read : (cut : List ℕ) (n : Checked Annotated) (i : Interface) → IsInterface cut n (Ok i) → (a : Annotated) × (found n ≡ Some a) × IsRead cut a i
read cut (Fine a) i h = (a, refl, h.0)
read cut (Noted m a) i h = (a, refl, h.0)
read cut (Broken from rule) i h = absurd h

by_outcome : (bytes cut : List ℕ) (c : CheckedSource) (right : IsRight bytes cut) (ts : List Token) (o : Outcome) → outcome right.ds ≡ o → SaysOf cut ts right.ds o c → Known bytes cut c
by_outcome bytes cut c right ts (Typed p) e says =
    let (a, here, reads) = read cut (annotations right.ds p) c.interface says.2 in
    record { program = p; annotated = a; says = record { right = right; declares = e; annotated = here }; is = record { program = says.0; interface = reads; said = all_said right.ds p a e here; code = says.3.lowered_is } }
by_outcome bytes cut c right ts (typing.Rule from rule) e says = absurd says
by_outcome bytes cut c right ts (typing.Limit w) e says = absurd says

pub known : (bytes cut : List ℕ) (c : CheckedSource) → IsAccepted bytes cut c → Known bytes cut c
known bytes cut c accepted = by_outcome bytes cut c accepted.right accepted.right.source.tokens (outcome accepted.right.ds) refl accepted.says

-- ---- it isn't too large

few_by : (nodes : ℕ) (b : Bool) (o : Option SourceError) → nat_lt most_nodes nodes ≡ b → (if b then Some (Limit Nodes) else o) ≡ None → nodes ≤ 131072
few_by nodes true o e is = absurd cc
few_by nodes false o e is = ltb-false most_nodes nodes e

named_small : (ds : Decls) (p : Program) (b : Bool) → unless_named ds p b ≡ None → too_large ds p ≡ None
named_small ds p true e = e
named_small ds p false e = absurd cc

annotated_small : (cut : List ℕ) (ds : Decls) (p : Program) (n : Checked Annotated) → fault_of_annotations cut ds p n ≡ None → too_large ds p ≡ None
annotated_small cut ds p (Fine a) e = named_small ds p (is_named cut a) e
annotated_small cut ds p (Noted m a) e = named_small ds p (is_named cut a) e
annotated_small cut ds p (Broken from rule) e = absurd cc

pub few_nodes : (bytes cut : List ℕ) (p : Program) (a : Annotated) (s : Says bytes cut p a) → source_nodes s.right.ds ≤ 131072
few_nodes bytes cut p a s =
    let typed : fault_of_types cut s.right.ds (Typed p) ≡ None = ap (fault_of_types cut s.right.ds) (sym s.declares) ∙ s.right.right in
    few_by (source_nodes s.right.ds) (nat_lt most_nodes (source_nodes s.right.ds)) _ refl (annotated_small cut s.right.ds p (annotations s.right.ds p) typed)
