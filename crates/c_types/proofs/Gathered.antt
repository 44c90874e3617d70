-- Members of a struct, gathered one after another.
use Rattle.std.proofs.Common.{◌≡◌, ℕ, ◌<◌, Bool, true, false, cond, not, is_some, List, [], ◌∷◌, ◌++◌, length, Option, Some, None, Result, Ok, Err, refl, sym, ap, ◌∙◌, subst}
use Rattle.std.proofs.lemmas.List.{map-append}
use Rattle.std.specs.List.{All}
use Rattle.std.proofs.lemmas.List.Elements.{All-nil, All-cons, All-append}
use Rattle.c_types_model.specs.Types.{CType}
use Rattle.c_types_table.specs.declared.ids.TypeId.{TypeId}
use Rattle.c_types_table.specs.Tables.{at, type_at, types_of}
use Rattle.c_scopes.specs.Scopes.{meaning_in, same_name}
use Rattle.c_syntax.specs.declared.id.DeclId.{DeclId}
use Rattle.c_syntax.specs.declared.declaration.Decl.{Decl as DeclNode}
use Rattle.c_syntax.specs.Nodes.{Nodes, decl_at}
use Rattle.c_syntax.specs.Syntax.{Decl, Decls, Declare, NoDecls, MoreDecls}
use Rattle.c_syntax.specs.Stands.{StandsDecl, StandDecls}
use Rattle.c_types_rules.specs.Checked.{Checked, Fine, Noted, Broken, keep, ◌>>◌, Notes}
use Rattle.c_types_rules.specs.Environment.{Environment, extents, is_reserved}
use Rattle.c_types_rules.specs.Expressions.{complete, declared_name, declared_type}
use Rattle.c_types_rules.specs.Sources.{member_of, members_from}
use Rattle.c_types_nodes.specs.Tables.{Table, Keeps}
use Rattle.c_types_nodes.proofs.Growing.{same_types}
use Rattle.c_types_structs.specs.Members.{MemberList, read_members}
use Rattle.c_types_environment.specs.Reading.{IsMemberBelow, members_by}
use Rattle.c_types_environment.proofs.Kept.{members_below, members_same}
use Rattle.c_types_operators.specs.declared.error.TypeError.{TypeError}
use Rattle.c_types_operators.specs.Answers.{Agrees, IsNothing}
use Rattle.c_types_environment.specs.States.{State, notes_of}
use Rattle.c_types_expressions.specs.Found.{Finds, Found, IsType, Stays}
use Rattle.c_types_expressions.proofs.Sequences.{gone_on, gone_on_after, noted_nothing, stopped_before, stopped_in}
use Rattle.c_types.specs.Members.{AreBelow, members_in}
use Rattle.c_types.specs.Pieces.{named_member}
use Rattle.c_types.proofs.Parts.{node_is}
use Rattle.c_types.proofs.Stepping.{error_seen}

-- ---- names of members

chosen : {A B : Type 0} (b : Bool) (x : A) (y : B) (o : Option A) (p : Option B) → is_some o ≡ is_some p → is_some (cond b (Some x) o) ≡ is_some (cond b (Some y) p)
chosen true x y o p e = refl
chosen false x y o p e = e

-- a name is among members however their types are read
pub still_named : (f : TypeId → CType) (name : List ℕ) (ms : MemberList) → is_some (meaning_in name (read_members f ms)) ≡ is_some (meaning_in name ms)
still_named f name [] = refl
still_named f name (m ∷ ms) = chosen (same_name name m.0) (f m.1) m.1 (meaning_in name (read_members f ms)) (meaning_in name ms) (still_named f name ms)

pub not_there : {A : Type 0} (o : Option A) → is_some o ≡ false → o ≡ None
not_there None e = refl
not_there (Some x) e = absurd cc

-- ---- the tests of a name

tests : {A : Type 0} → (from : ℕ) → (reserved taken : Bool) → A → Checked A
tests from reserved taken x = keep from 19 (not reserved) >> (keep from 1 (not taken) >> Fine x)

pub reserved_member : (from : ℕ) (before : List (List ℕ × CType)) (name : List ℕ) (t : CType) → is_reserved name ≡ true → named_member from before name t ≡ Broken from 19
unfolding tests
reserved_member from before name t e = ap (λ b. tests from b (is_some (meaning_in name before)) (name, t)) e

pub taken_member : (from : ℕ) (before : List (List ℕ × CType)) (name : List ℕ) (t : CType) → is_reserved name ≡ false → is_some (meaning_in name before) ≡ true → named_member from before name t ≡ Broken from 1
unfolding tests
taken_member from before name t e h = ap (λ b. tests from b (is_some (meaning_in name before)) (name, t)) e ∙ ap (λ b. tests from false b (name, t)) h

pub new_member : (from : ℕ) (before : List (List ℕ × CType)) (name : List ℕ) (t : CType) → is_reserved name ≡ false → is_some (meaning_in name before) ≡ false → named_member from before name t ≡ Fine (name, t)
unfolding tests
new_member from before name t e h = ap (λ b. tests from b (is_some (meaning_in name before)) (name, t)) e ∙ ap (λ b. tests from false b (name, t)) h

pub agrees_as : {A B : Type 0} (is : A → B → Type 0) (c d : Checked A) (r : Result B TypeError) → c ≡ d → Agrees is d r → Agrees is c r
agrees_as is c d r e h = subst (λ x. Agrees is x r) (sym e) h

-- ---- one more member

pub members_added : (t : Table) (ms ns : MemberList) (name : List ℕ) (ty : TypeId) → ns ≡ ms ++ (name, ty) ∷ [] → members_in t ns ≡ members_in t ms ++ (name, type_at t.types ty) ∷ []
members_added t ms ns name ty e = ap (members_by (types_of t.types)) e ∙ map-append (λ p. (p.0, at (types_of t.types) p.1)) ms ((name, ty) ∷ [])

pub below_added : (t : Table) (ms ns : MemberList) (name : List ℕ) (ty : TypeId) → ty.0 < length t.types → ns ≡ ms ++ (name, ty) ∷ [] → AreBelow t ms → AreBelow t ns
below_added t ms ns name ty lt e h =
    let P : List ℕ × TypeId → Type 0 = IsMemberBelow (length t.types) in
    subst (All P) (sym e) (All-append P ms ((name, ty) ∷ []) h (All-cons P (name, ty) [] lt (All-nil P)))

-- ---- while the table grows

pub members_in_kept : (t u : Table) (ms : MemberList) → Keeps t u → AreBelow t ms → members_in u ms ≡ members_in t ms
members_in_kept t u ms k h = members_same (types_of t.types) (types_of u.types) (length t.types) (same_types t.types u.types k.types) ms h

pub below_kept : (t u : Table) (ms : MemberList) → Keeps t u → AreBelow t ms → AreBelow u ms
below_kept t u ms k h = members_below (length t.types) (length u.types) k.types.more ms h

-- ---- a member and its type

abbrev pub MemberIs : List (List ℕ × CType) → (now : List (List ℕ × CType)) → List ℕ × CType → Unit {0} → Type 0
MemberIs before now m x = now ≡ before ++ m ∷ []

module _ (N : Nodes) (i : DeclId) (e : DeclNode) (there : decl_at N i ≡ Some e) (a b : State) (before : List (List ℕ × CType)) (ty : TypeId)
    (t : (d : Decl) → StandsDecl N i d → Finds a b (IsType b.table) (declared_type d a.env) (Ok ty)) (k : Stays a b) where
  abbrev whole : Checked (Unit {0})
  whole = complete (extents b.env) e.from (type_at b.table.types ty)

  -- the type, and what follows it
  typed_then : (is : List ℕ × CType → Unit {0} → Type 0) (r : Result (Unit {0}) TypeError) → ((name : List ℕ) → declared_name e.name ≡ name → Found (notes_of b) (notes_of b) is (whole >> named_member e.from before name (type_at b.table.types ty)) r)
      → (d : Decl) → StandsDecl N i d → Finds a b is (member_of a.env before d) r
  typed_then is r f (Declare from an base ps n q) z =
      let p = node_is N i e from an base ps n q z there in
      gone_on (notes_of a) (notes_of b) (notes_of b) (IsType b.table) is (declared_type (Declare from an base ps n q) a.env)
      (λ c. complete (extents a.env) from c >> named_member from before (declared_name n) c) ty r (t (Declare from an base ps n q) z)
      (λ c w. subst (λ v. Found (notes_of b) (notes_of b) is (complete (extents a.env) from v >> named_member from before (declared_name n) v) r) w.is
      (subst (λ v. Found (notes_of b) (notes_of b) is (complete (extents v) from (type_at b.table.types ty) >> named_member from before (declared_name n) (type_at b.table.types ty)) r) k.env
      (subst (λ v. Found (notes_of b) (notes_of b) is (complete (extents b.env) v (type_at b.table.types ty) >> named_member v before (declared_name n) (type_at b.table.types ty)) r) p.offset (f (declared_name n) (ap declared_name p.name)))))

  pub member_incomplete : (is : List ℕ × CType → Unit {0} → Type 0) (x : TypeError) → Agrees IsNothing whole (Err x) → (d : Decl) → StandsDecl N i d → Finds a b is (member_of a.env before d) (Err x)
  member_incomplete is x f = typed_then is (Err x) (λ name n. stopped_before (notes_of b) (notes_of b) (notes_of b) IsNothing is whole (named_member e.from before name (type_at b.table.types ty)) x
      (noted_nothing (notes_of b) (notes_of b) IsNothing whole (Err x) refl f))

  pub member_named : (is : List ℕ × CType → Unit {0} → Type 0) (r : Result (Unit {0}) TypeError) → Agrees IsNothing whole (Ok tt) → ((name : List ℕ) → declared_name e.name ≡ name → Agrees is (named_member e.from before name (type_at b.table.types ty)) r)
      → (d : Decl) → StandsDecl N i d → Finds a b is (member_of a.env before d) r
  member_named is r f g = typed_then is r (λ name n. gone_on_after (notes_of b) (notes_of b) (notes_of b) IsNothing is whole (named_member e.from before name (type_at b.table.types ty)) tt r
      (noted_nothing (notes_of b) (notes_of b) IsNothing whole (Ok tt) refl f) (noted_nothing (notes_of b) (notes_of b) is (named_member e.from before name (type_at b.table.types ty)) r refl (g name n)))

-- ---- all members

abbrev pub AreMembers : Table → List (List ℕ × CType) → MemberList → Type 0
AreMembers t ms m = (members_in t m ≡ ms) × AreBelow t m

-- what agrees with the members that are left agrees with all, where those before are these
pub record RestOfMembers (N : Nodes) (env : Environment) (f g : Notes) (is : List DeclId) (ds : Decls) (before : List (List ℕ × CType)) : Type 0 where
  pub rest : Decls
  pub stand : StandDecls N is rest
  pub go_on : (h : Notes) (ms : List (List ℕ × CType)) → Found {B = List (List ℕ × CType)} g h (λ x y. y ≡ x) (members_from env before rest) (Ok ms) → Found {B = List (List ℕ × CType)} f h (λ x y. y ≡ x) (members_from env [] ds) (Ok ms)
  pub stop : (h : Notes) (e : TypeError) → Found {B = List (List ℕ × CType)} g h (λ x y. y ≡ x) (members_from env before rest) (Err e) → Found {B = List (List ℕ × CType)} f h (λ x y. y ≡ x) (members_from env [] ds) (Err e)

pub all_members_left : (N : Nodes) (env : Environment) (f : Notes) (is : List DeclId) (ds : Decls) (before : List (List ℕ × CType)) → before ≡ [] → StandDecls N is ds → RestOfMembers N env f f is ds before
all_members_left N env f is ds before e s =
    subst (λ b. RestOfMembers N env f f is ds b) (sym e) (record { rest = ds; stand = s; go_on = λ h ms p. p; stop = λ h x p. p })

module _ (N : Nodes) (env : Environment) (f g h : Notes) (i : DeclId) (is : List DeclId) (ds : Decls) (before : List (List ℕ × CType)) (r : RestOfMembers N env f g (i ∷ is) ds before) where
  pub one_member : (now : List (List ℕ × CType)) → ((d : Decl) → StandsDecl N i d → Found {B = Unit {0}} g h (λ m _. now ≡ before ++ m ∷ []) (member_of env before d) (Ok tt)) → RestOfMembers N env f h is ds now
  one_member now p = by r.rest r.stand r.go_on r.stop
    where
      by : (rest : Decls) → StandDecls N (i ∷ is) rest
          → ((k : Notes) (ms : List (List ℕ × CType)) → Found {B = List (List ℕ × CType)} g k (λ x y. y ≡ x) (members_from env before rest) (Ok ms) → Found {B = List (List ℕ × CType)} f k (λ x y. y ≡ x) (members_from env [] ds) (Ok ms))
          → ((k : Notes) (e : TypeError) → Found {B = List (List ℕ × CType)} g k (λ x y. y ≡ x) (members_from env before rest) (Err e) → Found {B = List (List ℕ × CType)} f k (λ x y. y ≡ x) (members_from env [] ds) (Err e))
          → RestOfMembers N env f h is ds now
      by NoDecls s go stop = absurd cc
      by (MoreDecls x xs) (j, js, e, s, t) go stop =
          let first : StandsDecl N i x = (let same : j ≡ i = cc in subst (λ z. StandsDecl N z x) same s) in
          let others : StandDecls N is xs = (let same : js ≡ is = cc in subst (λ z. StandDecls N z xs) same t) in
          record {
            rest = xs;
            stand = others;
            go_on = λ k ms q. go k ms (gone_on g h k (λ m _. now ≡ before ++ m ∷ []) (λ y z. z ≡ y) (member_of env before x) (λ m. members_from env (before ++ m ∷ []) xs) tt (Ok ms) (p x first) (λ m n. subst (λ b. Found h k (λ y z. z ≡ y) (members_from env b xs) (Ok ms)) n q));
            stop = λ k e q. stop k e (gone_on g h k (λ m _. now ≡ before ++ m ∷ []) (λ y z. z ≡ y) (member_of env before x) (λ m. members_from env (before ++ m ∷ []) xs) tt (Err e) (p x first) (λ m n. subst (λ b. Found h k (λ y z. z ≡ y) (members_from env b xs) (Err e)) n q));
          }

  pub one_member_stops : {B : Type 0} (js : List (List ℕ × CType) → B → Type 0) (e : TypeError) → ((d : Decl) → StandsDecl N i d → Found {B = Unit {0}} g h (λ m _. Unit {0}) (member_of env before d) (Err e)) → Found f h js (members_from env [] ds) (Err e)
  one_member_stops js e p = by r.rest r.stand r.stop
    where
      as_error : (c : Checked (List (List ℕ × CType))) → Found {B = List (List ℕ × CType)} f h (λ x y. y ≡ x) c (Err e) → Found f h js c (Err e)
      as_error c q = error_seen f h h (λ x y. y ≡ x) js c e q

      by : (rest : Decls) → StandDecls N (i ∷ is) rest
          → ((k : Notes) (e : TypeError) → Found {B = List (List ℕ × CType)} g k (λ x y. y ≡ x) (members_from env before rest) (Err e) → Found {B = List (List ℕ × CType)} f k (λ x y. y ≡ x) (members_from env [] ds) (Err e))
          → Found f h js (members_from env [] ds) (Err e)
      by NoDecls s stop = absurd cc
      by (MoreDecls x xs) (j, ks, q, s, t) stop =
          let first : StandsDecl N i x = (let same : j ≡ i = cc in subst (λ z. StandsDecl N z x) same s) in
          as_error (members_from env [] ds) (stop h e (stopped_in {B = Unit {0}} g h h (λ m _. Unit {0}) (λ y z. z ≡ y) (member_of env before x) (λ m. members_from env (before ++ m ∷ []) xs) e (p x first)))

pub no_member_left : {B : Type 0} (N : Nodes) (env : Environment) (f g : Notes) (ds : Decls) (before : List (List ℕ × CType)) (is : List (List ℕ × CType) → B → Type 0) (y : B) → is before y → RestOfMembers N env f g [] ds before → Found f g is (members_from env [] ds) (Ok y)
no_member_left N env f g ds before is y i r = by r.rest r.stand r.go_on
  where
    seen : (c : Checked (List (List ℕ × CType))) → Found {B = List (List ℕ × CType)} f g (λ a b. b ≡ a) c (Ok before) → Found f g is c (Ok y)
    seen (Fine x) q = (subst (λ z. is z y) q.0 i, q.1)
    seen (Noted n x) q = (subst (λ z. is z y) q.0 i, q.1)
    seen (Broken from rule) q = absurd q

    by : (rest : Decls) → StandDecls N [] rest
        → ((k : Notes) (ms : List (List ℕ × CType)) → Found {B = List (List ℕ × CType)} g k (λ a b. b ≡ a) (members_from env before rest) (Ok ms) → Found {B = List (List ℕ × CType)} f k (λ a b. b ≡ a) (members_from env [] ds) (Ok ms))
        → Found f g is (members_from env [] ds) (Ok y)
    by NoDecls s go = seen (members_from env [] ds) (go g before (refl, refl))
    by (MoreDecls x xs) (j, js, e, s, t) go = absurd cc
