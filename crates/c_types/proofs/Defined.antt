-- One more struct.
use Rattle.std.proofs.Common.{◌≡◌, ℕ, ◌<◌, ◌≤◌, Bool, true, false, List, [], ◌∷◌, ◌++◌, length, map, Ok, Err, refl, sym, ap, ◌∙◌, subst, arith, ◌&&◌}
use Rattle.std.proofs.lemmas.List.{length-map}
use Rattle.std.specs.Prelude.{nat_le}
use borrow.Author.Tests.{leb-true}
use Rattle.std.specs.List.{All}
use Rattle.std.proofs.lemmas.List.Elements.{All-nil, All-cons, All-append}
use Rattle.source_limits.specs.Limits.{greatest_object, most_members}
use Rattle.c_scopes.specs.Scopes.{innermost}
use Rattle.c_types_model.specs.Types.{CType}
use Rattle.c_types_model.specs.Layouts.{greatest_align}
use Rattle.c_types_table.specs.Tables.{at, types_of}
use Rattle.c_types_model.specs.declared.extent.Extent.{Extent}
use Rattle.c_types_rules.specs.Checked.{Checked, Fine, small, ◌>>◌, Notes}
use Rattle.c_types_rules.specs.Environment as environment
use Rattle.c_types_rules.specs.Environment.{Environment, extents}
use Rattle.c_types_rules.specs.Limits.{all_keep, few_members}
use Rattle.c_types_rules.specs.Sources.{Program, extents_of}
use Rattle.c_types_operators.specs.declared.error.TypeError.{TypeError}
use Rattle.c_types_operators.specs.declared.error.TypeError.TheVariants.{Rule, Memory}
use Rattle.c_types_operators.specs.Answers.{IsNothing}
use Rattle.c_types_nodes.specs.Tables.{Keeps}
use Rattle.c_types_program.specs.Declarations.{IsFunction, IsGlobal, function_in, global_in}
use Rattle.c_types_structs.specs.Members.{MemberList}
use Rattle.c_types_environment.specs.Reading.{struct_with}
use Rattle.c_types_environment.specs.States.{State, is_small_struct, with_struct, notes_of}
use Rattle.c_types_expressions.specs.Found.{Found}
use Rattle.c_types_expressions.proofs.Kept.{same_table}
use Rattle.c_types.specs.declared.declarations.Declarations.{Declarations}
use Rattle.c_types.specs.States.{GoesOn, IsAligned, IsSound, Steps, program_of}
use Rattle.c_types_source.specs.Sources.{IsSmall}
use Rattle.c_types.specs.Members.{members_in}

-- the program with one more struct, which is defined here
abbrev pub one_struct : Environment → Program → List (List ℕ × CType) → Checked Program
one_struct env p ms = small (nat_le (struct_with (extents env) ms).extent.size greatest_object) >> Fine (record p { structs = p.structs ++ struct_with (extents env) ms ∷ [] })

greatest_some : (es : List Extent) → 0 < greatest_align es
greatest_some [] = omega arith
greatest_some (e ∷ es) = let h = greatest_some es in omega arith

-- a struct that is small, where nothing is noted
small_struct : (f g : Notes) (n : ℕ) → Found {A = Unit {0}} {B = Unit {0}} f g IsNothing (small (nat_le n greatest_object)) (Ok tt) → g.large ≡ false → (f.large ≡ false) × (n ≤ greatest_object)
small_struct f g n p e = by (nat_le n greatest_object) refl p
  where
    by : (b : Bool) → nat_le n greatest_object ≡ b → Found {A = Unit {0}} {B = Unit {0}} f g IsNothing (small b) (Ok tt) → (f.large ≡ false) × (n ≤ greatest_object)
    by true h q = (sym (ap (λ m. m.large) q.1) ∙ e, leb-true n greatest_object h)
    by false h q = let large : g.large ≡ true = ap (λ m. m.large) q.1 in absurd cc

-- one struct more
one_more : (P : environment.Struct → Bool) (ss : List environment.Struct) (s : environment.Struct) → all_keep P (ss ++ s ∷ []) ≡ (all_keep P ss && P s)
one_more P [] s = by (P s)
  where
    by : (b : Bool) → (b && true) ≡ (true && b)
    by true = refl
    by false = refl
one_more P (x ∷ ss) s = ap (λ b. P x && b) (one_more P ss s) ∙ by (P x) (all_keep P ss) (P s)
  where
    by : (a b c : Bool) → (a && (b && c)) ≡ ((a && b) && c)
    by true b c = refl
    by false b c = refl

module _ (d : Declarations) (s : State) (m : MemberList) (n : Declarations)
    (h : IsSound d) (table : s.table ≡ d.env.table) (env : s.env ≡ with_struct d.env.env (members_in d.env.table m))
    (f : Found {A = Unit {0}} {B = Unit {0}} (notes_of d.env) (notes_of s) IsNothing (small (is_small_struct d.env.env (members_in d.env.table m))) (Ok tt))
    (same : n ≡ record d { env = s; members_are_few = n.members_are_few }) (few : n.members_are_few ≡ (d.members_are_few && nat_le (length m) most_members)) where
  abbrev ms : List (List ℕ × CType)
  ms = members_in d.env.table m

  abbrev one : environment.Struct
  one = struct_with (extents d.env.env) ms

  structs_are : s.env.structs ≡ d.env.env.structs ++ one ∷ []
  structs_are = ap (λ e. e.structs) env

  few_are : n.members_are_few ≡ all_keep few_members s.env.structs
  few_are =
      few
      ∙ (ap (λ b. b && nat_le (length m) most_members) h.members
      ∙ (ap (λ k. all_keep few_members d.env.env.structs && nat_le k most_members) (sym (length-map m (λ x. (x.0, at (types_of d.env.table.types) x.1))))
      ∙ (sym (one_more few_members d.env.env.structs one) ∙ ap (all_keep few_members) (sym structs_are))))

  struct_sound : IsSound (record d { env = s; members_are_few = n.members_are_few })
  struct_sound = record {
    functions = subst (λ t. All (IsFunction t) d.functions.items) (sym table) h.functions;
    globals = subst (λ t. All (IsGlobal t) d.globals.items) (sym table) h.globals;
    members = few_are;
    small = λ e. let p = small_struct (notes_of d.env) (notes_of s) one.extent.size f e in
        subst (All IsSmall) (sym structs_are) (All-append IsSmall d.env.env.structs (one ∷ []) (h.small p.0) (All-cons IsSmall one [] p.1 (All-nil IsSmall)));
    aligned = subst (All IsAligned) (sym structs_are) (All-append IsAligned d.env.env.structs (one ∷ []) h.aligned (All-cons IsAligned one [] (greatest_some (extents_of (extents d.env.env) ms)) (All-nil IsAligned)));
    outermost = ap (λ e. e.scopes) env ∙ (h.outermost ∙ ap (λ e. innermost e.scopes ∷ []) (sym env));
  }

  struct_goes : GoesOn d n
  struct_goes = subst (GoesOn d) (sym same) (record { tags = ap (λ e. e.tags) env; numbers = subst (Keeps d.env.table) (sym table) (same_table d.env.table); sound = struct_sound })

  struct_program : program_of n ≡ record (program_of d) { structs = (program_of d).structs ++ one ∷ [] }
  struct_program =
      ap program_of same
      ∙ (ap (λ e. record { structs = e.structs; functions = map (function_in s.table) d.functions.items; globals = map (global_in s.table) d.globals.items; names = innermost e.scopes }) env
      ∙ ap (λ t. record { structs = d.env.env.structs ++ one ∷ []; functions = map (function_in t) d.functions.items; globals = map (global_in t) d.globals.items; names = innermost d.env.env.scopes }) table)

  pub struct_follows : Steps {B = Unit {0}} d n (λ p _. program_of n ≡ p) (one_struct d.env.env (program_of d) ms) (Ok tt)
  struct_follows = record { agrees = by (is_small_struct d.env.env ms) f; kept = struct_goes }
    where
      large_is : (notes_of n.env) ≡ (notes_of s)
      large_is = ap (λ x. notes_of x.env) same

      by : (b : Bool) → Found {A = Unit {0}} {B = Unit {0}} (notes_of d.env) (notes_of s) IsNothing (small b) (Ok tt)
          → Found {B = Unit {0}} (notes_of d.env) (notes_of n.env) (λ p _. program_of n ≡ p) (small b >> Fine (record (program_of d) { structs = (program_of d).structs ++ one ∷ [] })) (Ok tt)
      by true q = (struct_program, large_is ∙ q.1)
      by false q = (struct_program, large_is ∙ q.1)

-- where no struct is defined the answer is out of memory
pub struct_stops : (d n : Declarations) (m : MemberList) (s : State) (e : TypeError) → Found {A = Unit {0}} {B = Unit {0}} (notes_of d.env) (notes_of s) IsNothing (small (is_small_struct d.env.env (members_in d.env.table m))) (Err e)
    → Steps {B = Unit {0}} d n (λ p _. program_of n ≡ p) (one_struct d.env.env (program_of d) (members_in d.env.table m)) (Err e)
struct_stops d n m s e h = by (is_small_struct d.env.env (members_in d.env.table m)) e h
  where
    by : (b : Bool) (e : TypeError) → Found {A = Unit {0}} {B = Unit {0}} (notes_of d.env) (notes_of s) IsNothing (small b) (Err e)
        → Steps {B = Unit {0}} d n (λ p _. program_of n ≡ p) (small b >> Fine (record (program_of d) { structs = (program_of d).structs ++ struct_with (extents d.env.env) (members_in d.env.table m) ∷ [] })) (Err e)
    by b Memory h = record { agrees = tt; kept = tt }
    by true (Rule from rule) h = absurd h
    by false (Rule from rule) h = absurd h
