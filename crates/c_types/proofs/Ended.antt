-- Whole sources: their functions named main, and what they are in the end.
use Rattle.c_types_environment.specs.States.{notes_of}
use Rattle.std.proofs.Common.{◌≡◌, ℕ, suc, ◌≤◌, Bool, true, false, not, ◌&&◌, ◌||◌, is_some, List, [], ◌∷◌, length, map, drop, Option, Some, None, Result, Ok, Err, refl, sym, ap, ◌∙◌, subst}
use Rattle.std.specs.Option.{option_map}
use Rattle.std.proofs.lemmas.List.{drop_all}
use Rattle.c_scopes.specs.Scopes.{innermost, same_name}
use Rattle.c_syntax.specs.declared.id.DeclId.{DeclId}
use Rattle.c_syntax.specs.Nodes.{Nodes}
use Rattle.c_syntax.specs.Syntax.{Decl, Decls, NoDecls, MoreDecls}
use Rattle.c_syntax.specs.Stands.{Holds, StandsDecl, StandDecls}
use Rattle.c_types_rules.specs.Checked.{Checked, Fine, Noted, Broken, keep, noting, ◌>>=◌, ◌>>◌, Notes}
use Rattle.c_types_rules.specs.Sources as sources
use Rattle.c_types_rules.specs.Sources.{Program, at_file, declaration, declarations, has_main, main, nothing, program, tags_of}
use Rattle.c_types_rules.specs.Limits as limits
use Rattle.c_types_rules.specs.Limits.{Outcome, Which, decided, first_limit, outcome, unless}
use Rattle.c_types_operators.specs.declared.error.TypeError.{TypeError}
use Rattle.c_types_operators.specs.declared.error.TypeError.TheVariants as operators
use Rattle.c_types_nodes.specs.Tables.{Table}
use Rattle.c_types_program.specs.declared.function.Function.{Function}
use Rattle.c_types_program.specs.declared.global.Global.{Global}
use Rattle.c_types_program.specs.declared.text.TextLiteral.{TextLiteral}
use Rattle.c_types_program.specs.Declarations.{body_in, function_in, global_in}
use Rattle.c_types_expressions.specs.Found.{Found}
use Rattle.c_types_expressions.proofs.Sequences.{gone_on, passed, stopped_in}
use Rattle.c_types.specs.declared.declarations.Declarations.{Declarations}
use Rattle.c_types.specs.declared.error.CheckError.{CheckError}
use Rattle.c_types.specs.declared.error.CheckError.TheVariants as checks
use Rattle.c_types_source.specs.declared.parts.Parts.{Parts as TypedSource}
use Rattle.c_types_source.specs.Sources.{IsTypedSource}
use Rattle.c_types.specs.Answers.{IsChecked, IsDeclared, IsFirstError, which_in}
use Rattle.c_types.specs.Quiet.{large_noted, quiet}
use Rattle.c_types.specs.States.{Declares, DeclaresNothing, Ends, GoesOn, IsSound, program_of}
use Rattle.c_types.specs.Errors.{by_type_error}
use Rattle.c_types.specs.Pieces.{finished}
use Rattle.c_types.proofs.Followed.{at_file_is}
use Rattle.c_types.proofs.Quieting.{quiet_error, quiet_then}
use Rattle.c_types.proofs.Limited.{large_is_limited}

-- ---- which function is main

still_there : {A B : Type 0} (f : A → B) (o : Option A) → is_some (option_map f o) ≡ is_some o
still_there f None = refl
still_there f (Some x) = refl

-- none of the functions so far is main with a body
pub main_so_far : (fs : List sources.Function) (i : ℕ) (f : sources.Function) → drop i fs ≡ f ∷ drop (suc i) fs → (same_name f.name main && is_some f.body) ≡ false → has_main fs ≡ has_main (drop i fs) → has_main fs ≡ has_main (drop (suc i) fs)
main_so_far fs i f e h p = p ∙ (ap has_main e ∙ ap (λ b. b || has_main (drop (suc i) fs)) h)

pub main_here : (fs : List sources.Function) (i : ℕ) (f : sources.Function) → drop i fs ≡ f ∷ drop (suc i) fs → (same_name f.name main && is_some f.body) ≡ true → has_main fs ≡ has_main (drop i fs) → has_main fs ≡ true
main_here fs i f e h p = p ∙ (ap has_main e ∙ ap (λ b. b || has_main (drop (suc i) fs)) h)

pub no_main : (fs : List sources.Function) (i : ℕ) → length fs ≤ i → has_main fs ≡ has_main (drop i fs) → has_main fs ≡ false
no_main fs i le p = p ∙ ap has_main (drop_all i fs le)

-- a function and its place
pub main_item : (t : Table) (f : Function) (name text : List ℕ) (r s : Bool) → name ≡ f.name → text ≡ main → r ≡ same_name name text → r ≡ true → s ≡ is_some f.body → (same_name (function_in t f).name main && is_some (function_in t f).body) ≡ s
main_item t f name text r s n m e w h =
    ap (λ b. b && is_some (option_map (body_in t) f.body)) (ap (λ x. same_name x main) (sym n) ∙ (ap (same_name name) (sym m) ∙ (sym e ∙ w))) ∙ (still_there (body_in t) f.body ∙ sym h)

pub other_item : (t : Table) (f : Function) (name text : List ℕ) (r : Bool) → name ≡ f.name → text ≡ main → r ≡ same_name name text → r ≡ false → (same_name (function_in t f).name main && is_some (function_in t f).body) ≡ false
other_item t f name text r n m e w = ap (λ b. b && is_some (option_map (body_in t) f.body)) (ap (λ x. same_name x main) (sym n) ∙ (ap (same_name name) (sym m) ∙ (sym e ∙ w)))

-- ---- all declarations

-- what agrees with the declarations that are left agrees with all
pub record RestOfAll (N : Nodes) (old now : Declarations) (is : List DeclId) (ds : Decls) : Type 0 where
  pub rest : Decls
  pub stand : StandDecls N is rest
  pub go_on : (h : Notes) (r : Result Program TypeError) → Found {B = Program} (large_noted now.env) h (λ x y. y ≡ x) (quiet (declarations old.env.env.tags (program_of now) rest)) r → Found {B = Program} (large_noted old.env) h (λ x y. y ≡ x) (quiet (declarations old.env.env.tags (program_of old) ds)) r

pub all_left : (N : Nodes) (d : Declarations) (is : List DeclId) (ds : Decls) → StandDecls N is ds → RestOfAll N d d is ds
all_left N d is ds s = record { rest = ds; stand = s; go_on = λ h r q. q }

module _ (N : Nodes) (old now new : Declarations) (i : DeclId) (is : List DeclId) (ds : Decls) (r : RestOfAll N old now (i ∷ is) ds) (tags : now.env.env.tags ≡ old.env.env.tags) where
  abbrev step : Decl → Checked Program
  step d = declaration old.env.env.tags (program_of now) d

  abbrev left : Program → Decls → Checked Program
  left p xs = declarations old.env.env.tags p xs

  -- the same of the declarations that are left, by the first of them and the others
  more : (h : Notes) (x : Decl) (xs : Decls) (w : Result Program TypeError) → Found {B = Program} (large_noted now.env) h (λ y z. z ≡ y) (quiet (step x) >>= (λ q. quiet (left q xs))) w → Found {B = Program} (large_noted now.env) h (λ y z. z ≡ y) (quiet (left (program_of now) (MoreDecls x xs))) w
  more h x xs w f = passed (large_noted now.env) h (λ y z. z ≡ y) _ _ w (quiet_then (step x) (λ q. left q xs)) f

  pub one_done : ((d : Decl) → StandsDecl N i d → Declares now new (declaration now.env.env.tags (program_of now) d) (Ok tt)) → RestOfAll N old new is ds
  one_done p = by r.rest r.stand r.go_on
    where
      by : (rest : Decls) → StandDecls N (i ∷ is) rest
          → ((k : Notes) (w : Result Program TypeError) → Found {B = Program} (large_noted now.env) k (λ x y. y ≡ x) (quiet (left (program_of now) rest)) w → Found {B = Program} (large_noted old.env) k (λ x y. y ≡ x) (quiet (left (program_of old) ds)) w)
          → RestOfAll N old new is ds
      by NoDecls s go = absurd cc
      by (MoreDecls x xs) (j, js, e, s, t) go =
          let first : StandsDecl N i x = (let same : j ≡ i = cc in subst (λ z. StandsDecl N z x) same s) in
          let others : StandDecls N is xs = (let same : js ≡ is = cc in subst (λ z. StandDecls N z xs) same t) in
          let here : Found {B = Unit {0}} (large_noted now.env) (large_noted new.env) (λ q _. program_of new ≡ q) (quiet (step x)) (Ok tt) =
          subst (λ g. Found {B = Unit {0}} (large_noted now.env) (large_noted new.env) (λ q _. program_of new ≡ q) (quiet (declaration g (program_of now) x)) (Ok tt)) tags (p x first).agrees in
          record {
            rest = xs;
            stand = others;
            go_on = λ k w u. go k w (more k x xs w (gone_on (large_noted now.env) (large_noted new.env) k (λ q _. program_of new ≡ q) (λ y z. z ≡ y) (quiet (step x)) (λ q. quiet (left q xs)) tt w here (λ z m. subst (λ v. Found (large_noted new.env) k (λ y z. z ≡ y) (quiet (left v xs)) w) m u)));
          }

  pub one_stops : (e : TypeError) → ((d : Decl) → StandsDecl N i d → Declares now new (declaration now.env.env.tags (program_of now) d) (Err e)) → Ends old (declarations old.env.env.tags (program_of old) ds) (Err e)
  one_stops e p = by r.rest r.stand r.go_on
    where
      by : (rest : Decls) → StandDecls N (i ∷ is) rest
          → ((k : Notes) (w : Result Program TypeError) → Found {B = Program} (large_noted now.env) k (λ x y. y ≡ x) (quiet (left (program_of now) rest)) w → Found {B = Program} (large_noted old.env) k (λ x y. y ≡ x) (quiet (left (program_of old) ds)) w)
          → Ends old (declarations old.env.env.tags (program_of old) ds) (Err e)
      by NoDecls s go = absurd cc
      by (MoreDecls x xs) (j, js, q, s, t) go =
          let first : StandsDecl N i x = (let same : j ≡ i = cc in subst (λ z. StandsDecl N z x) same s) in
          let here : Found {B = Unit {0}} (large_noted now.env) (large_noted new.env) (λ q _. program_of new ≡ q) (quiet (step x)) (Err e) =
          subst (λ g. Found {B = Unit {0}} (large_noted now.env) (large_noted new.env) (λ q _. program_of new ≡ q) (quiet (declaration g (program_of now) x)) (Err e)) tags (p x first).agrees in
          quiet_error {B = Program} {C = Unit {0}} (large_noted old.env) (large_noted new.env) (notes_of old.env) (notes_of old.env) (λ x y. y ≡ x) (λ _ _. Unit {0}) (declarations old.env.env.tags (program_of old) ds) e
          (go (large_noted new.env) (Err e) (more (large_noted new.env) x xs (Err e) (stopped_in {B = Unit {0}} (large_noted now.env) (large_noted new.env) (large_noted new.env) (λ q _. program_of new ≡ q) (λ y z. z ≡ y) (quiet (step x)) (λ q. quiet (left q xs)) e here)))

pub none_left : (N : Nodes) (old now : Declarations) (ds : Decls) → GoesOn old now → RestOfAll N old now [] ds → Ends old (declarations old.env.env.tags (program_of old) ds) (Ok now)
none_left N old now ds g r = record { agrees = by r.rest r.stand r.go_on; kept = g }
  where
    seen : (c : Checked Program) → Found {B = Program} (large_noted old.env) (large_noted now.env) (λ x y. y ≡ x) (quiet c) (Ok (program_of now)) → Found {B = Unit {0}} (large_noted old.env) (large_noted now.env) (λ p _. program_of now ≡ p) (quiet c) (Ok tt)
    seen (Fine x) q = q
    seen (Noted n x) q = q
    seen (Broken from rule) q = absurd q

    by : (rest : Decls) → StandDecls N [] rest
        → ((k : Notes) (w : Result Program TypeError) → Found {B = Program} (large_noted now.env) k (λ x y. y ≡ x) (quiet (declarations old.env.env.tags (program_of now) rest)) w → Found {B = Program} (large_noted old.env) k (λ x y. y ≡ x) (quiet (declarations old.env.env.tags (program_of old) ds)) w)
        → Found {B = Unit {0}} (large_noted old.env) (large_noted now.env) (λ p _. program_of now ≡ p) (quiet (declarations old.env.env.tags (program_of old) ds)) (Ok tt)
    by NoDecls s go = seen (declarations old.env.env.tags (program_of old) ds) (go (large_noted now.env) (Ok (program_of now)) (refl, refl))
    by (MoreDecls x xs) (j, js, e, s, t) go = absurd cc

pub ends_failed : (old : Declarations) (c : Checked Program) (r : Result Declarations TypeError) (e : TypeError) → r ≡ Err e → Ends old c (Err e) → Ends old c r
ends_failed old c r e same h = subst (λ x. Ends old c x) (sym same) h

-- ---- the end

whole : (found_large : Bool) → Program → Bool → Outcome
whole l p b = decided (noting (record { large = l; unevaluated = [] }) (keep 0 18 b >> Fine p))

pub without_main : (l : Bool) (p : Program) → has_main p.functions ≡ false → finished l p ≡ limits.Rule 0 18
unfolding whole
without_main l p e = ap (whole l p) e

pub with_limit : (l : Bool) (p : Program) (w : Which) → has_main p.functions ≡ true → first_limit (not l) p ≡ Some w → finished l p ≡ limits.Limit w
unfolding whole
with_limit l p w e h = ap (whole l p) e ∙ ap (unless p) h

pub within_limits : (l : Bool) (p : Program) → has_main p.functions ≡ true → first_limit (not l) p ≡ None → finished l p ≡ limits.Typed p
unfolding whole
within_limits l p e h = ap (whole l p) e ∙ ap (unless p) h

pub small_within : (l : Bool) (p : Program) → first_limit (not l) p ≡ None → l ≡ false
small_within true p h = absurd (large_is_limited p h)
small_within false p h = refl

pub checked_as : (texts : List TextLiteral) (N : Nodes) (ds : Decls) (o p : Outcome) (r : Result TypedSource CheckError) → o ≡ p → IsChecked texts N ds p r → IsChecked texts N ds o r
checked_as texts N ds o p r e h = subst (λ x. IsChecked texts N ds x r) (sym e) h

-- ---- the answer

-- what is declared is the source, where it has no error
pub typed_here : (N : Nodes) (ds : Decls) (d : Declarations) (texts : List TextLiteral) → IsSound d → IsDeclared N ds d → IsFirstError d None
    → IsTypedSource ds (program_of d) (record { tree = N; env = d.env; functions = d.functions.items; globals = d.globals.items; texts = texts })
typed_here N ds d texts sound h e = record {
  holds = h.holds;
  typed = h.outcome_is ∙ e.0;
  is = record {
    env = sym (at_file_is d sound) ∙ ap (λ t. at_file t (program_of d)) h.tags;
    functions = refl;
    globals = refl;
    are_functions = sound.functions;
    are_globals = sound.globals;
    small = sound.small e.1;
  };
}

pub typed_by : (N : Nodes) (ds : Decls) (d : Declarations) (fs : List Function) (gs : List Global) (texts : List TextLiteral) → fs ≡ d.functions.items → gs ≡ d.globals.items → IsSound d → IsDeclared N ds d → IsFirstError d None
    → IsTypedSource ds (program_of d) (record { tree = N; env = d.env; functions = fs; globals = gs; texts = texts })
typed_by N ds d fs gs texts e g sound h none = rw (e, g) (typed_here N ds d texts sound h none)

-- its first error is that of the source
pub error_here : (N : Nodes) (ds : Decls) (d : Declarations) (texts : List TextLiteral) (e : CheckError) → IsDeclared N ds d → IsFirstError d (Some e) → IsChecked texts N ds (outcome ds) (Err e)
error_here N ds d texts (checks.Rule f r) h e = checked_as texts N ds (outcome ds) (limits.Rule f r) (Err (checks.Rule f r)) (h.outcome_is ∙ e) (refl, refl)
error_here N ds d texts (checks.Limit v) h e = checked_as texts N ds (outcome ds) (limits.Limit (which_in v)) (Err (checks.Limit v)) (h.outcome_is ∙ e) refl
error_here N ds d texts checks.Memory h e = absurd e

-- ---- from the beginning

from_nothing : (tags : List (List ℕ)) (d : Declarations) → DeclaresNothing tags d → program_of d ≡ nothing
from_nothing tags d h =
    ap (λ e. record { structs = e.structs; functions = map (function_in d.env.table) d.functions.items; globals = map (global_in d.env.table) d.globals.items; names = innermost e.scopes }) h.env
    ∙ (ap (λ fs. record { structs = []; functions = map (function_in d.env.table) fs; globals = map (global_in d.env.table) d.globals.items; names = [] }) h.functions
    ∙ ap (λ gs. record { structs = []; functions = []; globals = map (global_in d.env.table) gs; names = [] }) h.globals)

last : Program → Checked Program
last p = keep 0 18 (has_main p.functions) >> Fine p

-- of what is noted the outcome shows only whether an object is too large
shown : (m : Notes) (l : Bool) (p : Program) (b : Bool) → m.large ≡ l → decided (noting m (keep 0 18 b >> Fine p)) ≡ whole l p b
unfolding whole
shown m l p true e = ap (λ x. unless p (first_limit (not x) p)) e
shown m l p false e = refl

none_shown : (l : Bool) (p : Program) (b : Bool) → l ≡ false → decided (keep 0 18 b >> Fine p) ≡ whole l p b
unfolding whole
none_shown l p true e = ap (λ x. unless p (first_limit (not x) p)) (sym e)
none_shown l p false e = refl

noted_on : (k l : Bool) (n : Declarations) (c : Checked Program) → k ≡ false → Found {B = Unit {0}} (record { large = k; unevaluated = [] }) (record { large = l; unevaluated = [] }) (λ p _. program_of n ≡ p) (quiet c) (Ok tt) → decided (c >>= last) ≡ finished l (program_of n)
unfolding last whole
noted_on k l n (Fine p) e h = ap (λ q. decided (last q)) (sym h.0) ∙ none_shown l (program_of n) (has_main (program_of n).functions) (ap (λ (m : Notes). m.large) h.1 ∙ e)
noted_on k l n (Noted m p) e h =
    let large : m.large ≡ l = sym (ap (λ (k : Notes). k.large) h.1 ∙ either m.large k e) in
    ap (λ q. decided (noting m (last q))) (sym h.0) ∙ shown m l (program_of n) (has_main (program_of n).functions) large
  where
    either : (a b : Bool) → b ≡ false → (a || b) ≡ a
    either true b w = refl
    either false b w = w
noted_on k l n (Broken from rule) e h = absurd h

-- the outcome of a source is that of what it declares in the end
pub outcome_is : (ds : Decls) (d n : Declarations) (tags : List (List ℕ)) → tags ≡ tags_of ds → DeclaresNothing tags d → Ends d (declarations d.env.env.tags (program_of d) ds) (Ok n) → outcome ds ≡ finished n.env.found_large (program_of n)
unfolding last
outcome_is ds d n tags t h e =
    let file : d.env.env.tags ≡ tags_of ds = ap (λ x. x.tags) h.env ∙ t in
    let begun : declarations (tags_of ds) nothing ds ≡ declarations d.env.env.tags (program_of d) ds = ap (λ g. declarations g nothing ds) (sym file) ∙ ap (λ p. declarations d.env.env.tags p ds) (sym (from_nothing tags d h)) in
    ap (λ c. decided (c >>= last)) begun ∙ noted_on d.env.found_large n.env.found_large n (declarations d.env.env.tags (program_of d) ds) h.small e.agrees

-- all that is declared of a source
pub declared_in : (N : Nodes) (ds : Decls) (d n : Declarations) (tags : List (List ℕ)) → Holds N ds → tags ≡ tags_of ds → DeclaresNothing tags d → Ends d (declarations d.env.env.tags (program_of d) ds) (Ok n) → IsDeclared N ds n
declared_in N ds d n tags holds t h e = record { holds = holds; tags = e.kept.tags ∙ (ap (λ x. x.tags) h.env ∙ t); outcome_is = outcome_is ds d n tags t h e }

pub outcome_stops : (ds : Decls) (d : Declarations) (tags : List (List ℕ)) (texts : List TextLiteral) (N : Nodes) (x : TypeError) → tags ≡ tags_of ds → DeclaresNothing tags d → Ends d (declarations d.env.env.tags (program_of d) ds) (Err x) → IsChecked texts N ds (outcome ds) (Err (by_type_error x))
unfolding last
outcome_stops ds d tags texts N x t h e =
    let file : d.env.env.tags ≡ tags_of ds = ap (λ y. y.tags) h.env ∙ t in
    let begun : declarations (tags_of ds) nothing ds ≡ declarations d.env.env.tags (program_of d) ds = ap (λ g. declarations g nothing ds) (sym file) ∙ ap (λ p. declarations d.env.env.tags p ds) (sym (from_nothing tags d h)) in
    checked_as texts N ds (outcome ds) (decided (declarations d.env.env.tags (program_of d) ds >>= last)) (Err (by_type_error x)) (ap (λ c. decided (c >>= last)) begun) (by (declarations d.env.env.tags (program_of d) ds) x e)
  where
    by : (c : Checked Program) (x : TypeError) → Found {B = Unit {0}} (notes_of d.env) (notes_of d.env) (λ _ _. Unit {0}) c (Err x) → IsChecked texts N ds (decided (c >>= last)) (Err (by_type_error x))
    by c operators.Memory p = tt
    by (Fine q) (operators.Rule a b) p = absurd p
    by (Noted n q) (operators.Rule a b) p = absurd p
    by (Broken from rule) (operators.Rule a b) p = p
