-- What is declared stands for what it did where the table grows.
use Rattle.std.proofs.Common.{◌≡◌, ℕ, ◌<◌, ◌≤◌, Bool, List, [], ◌∷◌, ◌++◌, length, map, refl, sym, ap, ◌∙◌, subst, arith}
use Rattle.std.specs.List.{All}
use Rattle.std.proofs.lemmas.List.Elements.{All-head, All-tail, All-weaker}
use Rattle.c_types_model.specs.Types.{CType}
use Rattle.c_types_model.specs.Layouts.{capped_extent}
use Rattle.c_types_model.specs.declared.extent.Extent.{Extent}
use Rattle.c_types_table.specs.declared.ids.TypeId.{TypeId}
use Rattle.c_types_table.specs.declared.ty.Ty.{Ty}
use Rattle.c_types_table.specs.Tables.{IsBelow, at, types_of}
use Rattle.c_scopes.specs.Scopes.{Scope}
use Rattle.c_types_rules.specs.Environment as typing
use Rattle.c_types_rules.specs.Environment.{Environment, Struct}
use Rattle.c_types_nodes.specs.declared.ids.NodeId.{NodeId}
use Rattle.c_types_nodes.specs.Tables.{Table, Keeps, KeepsTypes}
use Rattle.c_types_nodes.specs.Lists.{AreNodes}
use Rattle.c_types_nodes.proofs.Lists.{nodes_kept}
use Rattle.c_types_nodes.proofs.Kept.{SameTypes}
use Rattle.c_types_nodes.proofs.Growing.{itself, same_types, through}
use Rattle.c_types_structs.specs.Members.{Definitions, MemberList}
use Rattle.c_types_environment.specs.declared.meaning.Meaning.{Meaning}
use Rattle.c_types_environment.specs.declared.meaning.Meaning.TheVariants as meanings
use Rattle.c_types_environment.specs.Reading.{meaning_by, scope_by, scopes_by, members_by, struct_with, structs_by, IsMeaningBelow, IsNameBelow, IsMemberBelow}
use Rattle.c_types_environment.specs.States.{State, KeepsAll, IsSound, env_by, state_by, stored_extents}

-- ---- what numbers of types stand for

pub meaning_same : (ts us : List CType) (n : ℕ) → SameTypes n ts us → (m : Meaning) → IsMeaningBelow n m → meaning_by us m ≡ meaning_by ts m
meaning_same ts us n s (meanings.Function number t) h = let e : at us t ≡ at ts t = s.same t h in cc
meaning_same ts us n s (meanings.Global place t) h = let e : at us t ≡ at ts t = s.same t h in cc
meaning_same ts us n s (meanings.Local place t) h = let e : at us t ≡ at ts t = s.same t h in cc

scope_same : (ts us : List CType) (n : ℕ) → SameTypes n ts us → (scope : Scope Meaning) → All (IsNameBelow n) scope → scope_by us scope ≡ scope_by ts scope
scope_same ts us n s [] h = refl
scope_same ts us n s (p ∷ scope) h =
    let first : meaning_by us p.1 ≡ meaning_by ts p.1 = meaning_same ts us n s p.1 (All-head (IsNameBelow n) p scope h) in
    let rest : scope_by us scope ≡ scope_by ts scope = scope_same ts us n s scope (All-tail (IsNameBelow n) p scope h) in
    ap (λ m. (p.0, m) ∷ scope_by us scope) first ∙ ap (λ r. (p.0, meaning_by ts p.1) ∷ r) rest

scopes_same : (ts us : List CType) (n : ℕ) → SameTypes n ts us → (scopes : List (Scope Meaning)) → All (All (IsNameBelow n)) scopes → scopes_by us scopes ≡ scopes_by ts scopes
scopes_same ts us n s [] h = refl
scopes_same ts us n s (scope ∷ scopes) h =
    let first : scope_by us scope ≡ scope_by ts scope = scope_same ts us n s scope (All-head (All (IsNameBelow n)) scope scopes h) in
    let rest : scopes_by us scopes ≡ scopes_by ts scopes = scopes_same ts us n s scopes (All-tail (All (IsNameBelow n)) scope scopes h) in
    ap (λ x. x ∷ scopes_by us scopes) first ∙ ap (λ r. scope_by ts scope ∷ r) rest

pub members_same : (ts us : List CType) (n : ℕ) → SameTypes n ts us → (ms : MemberList) → All (IsMemberBelow n) ms → members_by us ms ≡ members_by ts ms
members_same ts us n s [] h = refl
members_same ts us n s (m ∷ ms) h =
    let first : at us m.1 ≡ at ts m.1 = s.same m.1 (All-head (IsMemberBelow n) m ms h) in
    let rest : members_by us ms ≡ members_by ts ms = members_same ts us n s ms (All-tail (IsMemberBelow n) m ms h) in
    ap (λ t. (m.0, t) ∷ members_by us ms) first ∙ ap (λ r. (m.0, at ts m.1) ∷ r) rest

structs_same : (ts us : List CType) (n : ℕ) → SameTypes n ts us → (before : List Extent) (mss : List MemberList) → All (All (IsMemberBelow n)) mss → structs_by us before mss ≡ structs_by ts before mss
structs_same ts us n s before [] h = refl
structs_same ts us n s before (ms ∷ mss) h =
    let first : members_by us ms ≡ members_by ts ms = members_same ts us n s ms (All-head (All (IsMemberBelow n)) ms mss h) in
    let here : Struct = struct_with before (members_by ts ms) in
    let rest : structs_by us (before ++ here.extent ∷ []) mss ≡ structs_by ts (before ++ here.extent ∷ []) mss = structs_same ts us n s (before ++ here.extent ∷ []) mss (All-tail (All (IsMemberBelow n)) ms mss h) in
    ap (λ x. struct_with before x ∷ structs_by us (before ++ (struct_with before x).extent ∷ []) mss) first ∙ ap (λ r. here ∷ r) rest

-- ---- more types

name_below : (m n : ℕ) → m ≤ n → (p : List ℕ × Meaning) → IsNameBelow m p → IsNameBelow n p
name_below m n le p h = omega arith

member_below : (m n : ℕ) → m ≤ n → (p : List ℕ × TypeId) → IsMemberBelow m p → IsMemberBelow n p
member_below m n le p h = omega arith

pub members_below : (m n : ℕ) → m ≤ n → (ms : MemberList) → All (IsMemberBelow m) ms → All (IsMemberBelow n) ms
members_below m n le ms h = All-weaker (IsMemberBelow m) (IsMemberBelow n) (member_below m n le) ms h

pub sound_kept : (a b : List Ty) (structs : Definitions) (scopes : List (Scope Meaning)) → KeepsTypes a b → IsSound a structs scopes → IsSound b structs scopes
sound_kept a b structs scopes k h =
    let same : structs_by (types_of b) [] structs.members ≡ structs_by (types_of a) [] structs.members = structs_same (types_of a) (types_of b) (length a) (same_types a b k) [] structs.members h.members in
    record {
      members = All-weaker (All (IsMemberBelow (length a))) (All (IsMemberBelow (length b))) (members_below (length a) (length b) k.more) structs.members h.members;
      names = All-weaker (All (IsNameBelow (length a))) (All (IsNameBelow (length b))) (All-weaker (IsNameBelow (length a)) (IsNameBelow (length b)) (name_below (length a) (length b) k.more)) scopes h.names;
      extents = h.extents ∙ ap (λ ss. map capped_extent (map (λ s. s.extent) ss)) (sym same);
      scoped = h.scoped;
    }

pub env_kept : (a b : List Ty) (tags : List (List ℕ)) (structs : Definitions) (scopes : List (Scope Meaning)) → KeepsTypes a b → IsSound a structs scopes → env_by (types_of b) tags structs scopes ≡ env_by (types_of a) tags structs scopes
env_kept a b tags structs scopes k h =
    let ts = types_of a in
    let us = types_of b in
    let first : structs_by us [] structs.members ≡ structs_by ts [] structs.members = structs_same ts us (length a) (same_types a b k) [] structs.members h.members in
    let second : scopes_by us scopes ≡ scopes_by ts scopes = scopes_same ts us (length a) (same_types a b k) scopes h.names in
    ap (λ ss. record { tags = tags; structs = ss; scopes = scopes_by us scopes }) first
    ∙ ap (λ ns. record { tags = tags; structs = structs_by ts [] structs.members; scopes = ns }) second

-- ---- one after another

pub keeps_itself : (s : State) → KeepsAll s s
keeps_itself s = record { numbers = itself s.table; env = refl; notes = refl }

pub keeps_through : (s t u : State) → KeepsAll s t → KeepsAll t u → KeepsAll s u
keeps_through s t u a b = record { numbers = through s.table t.table u.table a.numbers b.numbers; env = b.env ∙ a.env; notes = b.notes ∙ a.notes }

-- ---- a state as its fields

pub table_grown : (t u : Table) (tags : List (List ℕ)) (structs : Definitions) (scopes : List (Scope Meaning)) (large : Bool) (ids : List NodeId) (now : State) → state_by t tags structs scopes large ids ≡ now → IsSound t.types structs scopes → AreNodes t ids → Keeps t u
    → KeepsAll now (state_by u tags structs scopes large ids)
table_grown t u tags structs scopes large ids now same h all k =
    let from : State → Type 0 = λ s. KeepsAll s (state_by u tags structs scopes large ids) in
    subst from same (record { numbers = k; env = env_kept t.types u.types tags structs scopes k.types h; notes = ap (λ xs. record { large = large; unevaluated = xs }) (nodes_kept t u k ids all) })
