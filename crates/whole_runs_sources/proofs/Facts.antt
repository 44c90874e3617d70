-- What is known of an accepted source whose objects are placed.
use Rattle.std.proofs.Common.{◌≡◌, ◌≤◌, ℕ, zero, suc, Bool, true, false, List, [], ◌∷◌, map, Option, Some, None, refl, sym, ap, ◌∙◌}
use Rattle.std.specs.Prelude.{if◌then◌else◌, nat_lt, slice_get}
use Rattle.std.specs.Option.{option_map}
use Rattle.std.proofs.lemmas.Bool.{ltb-false}
use Rattle.std.proofs.lemmas.Option.{same_Some}
use Rattle.source_limits.specs.Limits.{most_nodes}
use Rattle.memory_map.specs.declared.placed.Placed.{Placed}
use Rattle.c_lexer.specs.declared.token.Token.{Token}
use Rattle.c_syntax.specs.Syntax.{Decls}
use Rattle.c_lower.specs.Depths.{first_wide}
use Rattle.c_types_rules.specs.Checked.{Checked, Fine, Noted, Broken}
use Rattle.c_types_rules.specs.Limits as typing
use Rattle.c_types_rules.specs.Limits.{Outcome, Typed, outcome}
use Rattle.c_types_rules.specs.Sources.{Program}
use Rattle.annot_reader_rules.specs.Cuts.{annotations, is_named}
use Rattle.annot_reader_rules.specs.Notes.{Annotated}
use Rattle.front_end.specs.declared.source.CheckedSource.{CheckedSource}
use Rattle.front_end.specs.declared.error.SourceError.TheVariants.{Limit}
use Rattle.front_end.specs.declared.error.SourceLimit.TheVariants.{Nodes, Values}
use Rattle.front_end.specs.Answers.{IsCode, SaysOf}
use Rattle.front_end.specs.Sources.{fault_of_annotations, fault_of_types, too_large, unless_named}
use Rattle.cut_check.specs.Sources.{IsOf, Says}
use Rattle.cut_check.proofs.Said.{is_said}
use Rattle.whole_runs_sources.specs.Laws.{IsPlacedAs}

-- its program, its interface and its code are those of what the source says
pub is_of : (bytes cut : List ℕ) (c : CheckedSource) (q : Placed) (h : IsPlacedAs bytes cut c q) → IsOf cut h.program h.annotated c
is_of bytes cut c q h = is_said bytes cut c h.program h.annotated h.accepted h.says

code_of_outcome : (cut : List ℕ) (ts : List Token) (ds : Decls) (c : CheckedSource) (o : Outcome) → SaysOf cut ts ds o c → IsCode c.program c.code
code_of_outcome cut ts ds c (Typed p) says = says.3
code_of_outcome cut ts ds c (typing.Rule from rule) says = absurd says
code_of_outcome cut ts ds c (typing.Limit w) says = absurd says

pub is_code : (bytes cut : List ℕ) (c : CheckedSource) (q : Placed) → IsPlacedAs bytes cut c q → IsCode c.program c.code
is_code bytes cut c q h = code_of_outcome cut h.accepted.right.source.tokens h.accepted.right.ds c (outcome h.accepted.right.ds) h.accepted.says

-- ---- it isn't too large

few_by : (nodes : ℕ) (wide : Option ℕ) (b : Bool) → nat_lt most_nodes nodes ≡ b → (if b then Some (Limit Nodes) else option_map (λ (f : ℕ). Limit Values) wide) ≡ None → (nodes ≤ 131072) × (wide ≡ None)
few_by nodes wide true o e = absurd cc
few_by nodes None false o e = (ltb-false most_nodes nodes o, refl)
few_by nodes (Some f) false o e = absurd cc

named_small : (ds : Decls) (p : Program) (b : Bool) → unless_named ds p b ≡ None → too_large ds p ≡ None
named_small ds p true e = e
named_small ds p false e = absurd cc

annotated_small : (cut : List ℕ) (ds : Decls) (p : Program) (n : Checked Annotated) → fault_of_annotations cut ds p n ≡ None → too_large ds p ≡ None
annotated_small cut ds p (Fine a) e = named_small ds p (is_named cut a) e
annotated_small cut ds p (Noted m a) e = named_small ds p (is_named cut a) e
annotated_small cut ds p (Broken from rule) e = absurd cc

-- no function of it needs too deep an evaluation stack
pub none_wide : (bytes cut : List ℕ) (p : Program) (a : Annotated) → Says bytes cut p a → first_wide 0 p.functions ≡ None
none_wide bytes cut p a s =
    let ds = s.right.ds in
    let typed : fault_of_types cut ds (Typed p) ≡ None = ap (fault_of_types cut ds) (sym s.declares) ∙ s.right.right in
    (few_by _ (first_wide 0 p.functions) (nat_lt most_nodes _) refl (annotated_small cut ds p (annotations ds p) typed)).1

-- ---- lists

-- what stands in a list that was mapped
pub mapped : {A B : Type 0} (f : A → B) (xs : List A) (k : ℕ) (y : B) → slice_get (map f xs) k ≡ Some y → (x : A) × (slice_get xs k ≡ Some x) × (f x ≡ y)
mapped f [] k y e = absurd cc
mapped f (x ∷ xs) zero y e = (x, refl, same_Some (f x) y e)
mapped f (x ∷ xs) (suc k) y e = mapped f xs k y e
