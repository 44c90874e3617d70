-- Numbers that stand for several parts of a source, one after another.
use Rattle.std.proofs.Common.{◌≡◌, ℕ, zero, suc, ◌+◌, ◌<◌, ◌≤◌, List, [], ◌∷◌, length, drop, get_or, refl, subst, arith}
use Rattle.std.proofs.lemmas.List.{drop_more}
use Rattle.std.proofs.Math.ListN.{drop_of_length-le}
use Rattle.c_syntax.specs.declared.id.DeclId.{DeclId}
use Rattle.c_syntax.specs.declared.statement.Entry.{Entry as Item}
use Rattle.c_syntax.specs.Nodes.{Nodes}
use Rattle.c_syntax.specs.Syntax.{Decl, Decls, NoDecls, MoreDecls, Entry, Entries, NoEntries, MoreEntries}
use Rattle.c_syntax.specs.Stands.{StandsDecl, StandDecls, StandsEntry, StandEntries}
use Rattle.c_syntax_laws.specs.Numbers.{FitsDecls, FitsEntries}
use Rattle.c_types_expressions.specs.Walks.{IsDecl, AreDecls}
use Rattle.c_types_statements.specs.Walks.{IsEntry, AreEntries}

-- ---- declarations

decl_in : (N : Nodes) (ids : List DeclId) (k : ℕ) (d : DeclId) → k < length ids → (ds : Decls) → StandDecls N ids ds → FitsDecls ds → IsDecl N (get_or ids k d)
decl_in N [] k d l ds h n = absurd (omega arith)
decl_in N (i ∷ ids) k d l NoDecls h n = absurd cc
decl_in N (i ∷ ids) zero d l (MoreDecls x xs) (j, js, e, p, q) n = let same : j ≡ i = cc in subst (IsDecl N) same (x, p, n.0)
decl_in N (i ∷ ids) (suc k) d l (MoreDecls x xs) (j, js, e, p, q) n =
    let same : js ≡ ids = cc in
    let rest : StandDecls N ids xs = (let P : List DeclId → Type 0 = λ z. StandDecls N z xs in subst P same q) in
    decl_in N ids k d (omega arith) xs rest n.1

pub decl_among : (N : Nodes) (ids : List DeclId) (k : ℕ) (d : DeclId) → k < length ids → AreDecls N ids → IsDecl N (get_or ids k d)
decl_among N ids k d l (ds, h, n) = decl_in N ids k d l ds h n

-- the next declaration, and those after it
pub record NextDecl (N : Nodes) (ids : List DeclId) (k : ℕ) (d : DeclId) (rest : Decls) : Type 0 where
  pub decl : Decl
  pub more : Decls
  pub is : rest ≡ MoreDecls decl more
  pub stands : StandsDecl N (get_or ids k d) decl
  pub stand : StandDecls N (drop (k + 1) ids) more

pub next_decl : (N : Nodes) (ids : List DeclId) (k : ℕ) (d : DeclId) (rest : Decls) → k < length ids → StandDecls N (drop k ids) rest → NextDecl N ids k d rest
next_decl N ids k d NoDecls l h = let more : drop k ids ≡ get_or ids k d ∷ drop (k + 1) ids = drop_more ids k d l in absurd cc
next_decl N ids k d (MoreDecls x xs) l (j, js, e, p, q) =
    let more : drop k ids ≡ get_or ids k d ∷ drop (k + 1) ids = drop_more ids k d l in
    let same : j ≡ get_or ids k d = cc in
    let rest : js ≡ drop (k + 1) ids = cc in
    let P : DeclId → Type 0 = λ z. StandsDecl N z x in
    let Q : List DeclId → Type 0 = λ z. StandDecls N z xs in
    record { decl = x; more = xs; is = refl; stands = subst P same p; stand = subst Q rest q }

pub no_decl : (N : Nodes) (ids : List DeclId) (k : ℕ) (rest : Decls) → length ids ≤ k → StandDecls N (drop k ids) rest → rest ≡ NoDecls
no_decl N ids k NoDecls l h = refl
no_decl N ids k (MoreDecls x xs) l (j, js, e, p, q) = let none : drop k ids ≡ [] = drop_of_length-le ids l in absurd cc

-- ---- what is in a block

entry_in : (N : Nodes) (vs : List Item) (k : ℕ) (d : Item) → k < length vs → (es : Entries) → StandEntries N vs es → FitsEntries es → IsEntry N (get_or vs k d)
entry_in N [] k d l es h n = absurd (omega arith)
entry_in N (v ∷ vs) k d l NoEntries h n = absurd cc
entry_in N (v ∷ vs) zero d l (MoreEntries x xs) (j, js, e, p, q) n = let same : j ≡ v = cc in subst (IsEntry N) same (x, p, n.0)
entry_in N (v ∷ vs) (suc k) d l (MoreEntries x xs) (j, js, e, p, q) n =
    let same : js ≡ vs = cc in
    let rest : StandEntries N vs xs = (let P : List Item → Type 0 = λ z. StandEntries N z xs in subst P same q) in
    entry_in N vs k d (omega arith) xs rest n.1

pub entry_among : (N : Nodes) (vs : List Item) (k : ℕ) (d : Item) → k < length vs → AreEntries N vs → IsEntry N (get_or vs k d)
entry_among N vs k d l (es, h, n) = entry_in N vs k d l es h n

-- the next entry, and those after it
pub record NextEntry (N : Nodes) (vs : List Item) (k : ℕ) (d : Item) (rest : Entries) : Type 0 where
  pub entry : Entry
  pub more : Entries
  pub is : rest ≡ MoreEntries entry more
  pub stands : StandsEntry N (get_or vs k d) entry
  pub stand : StandEntries N (drop (k + 1) vs) more

pub next_entry : (N : Nodes) (vs : List Item) (k : ℕ) (d : Item) (rest : Entries) → k < length vs → StandEntries N (drop k vs) rest → NextEntry N vs k d rest
next_entry N vs k d NoEntries l h = let more : drop k vs ≡ get_or vs k d ∷ drop (k + 1) vs = drop_more vs k d l in absurd cc
next_entry N vs k d (MoreEntries x xs) l (j, js, e, p, q) =
    let more : drop k vs ≡ get_or vs k d ∷ drop (k + 1) vs = drop_more vs k d l in
    let same : j ≡ get_or vs k d = cc in
    let rest : js ≡ drop (k + 1) vs = cc in
    let P : Item → Type 0 = λ z. StandsEntry N z x in
    let Q : List Item → Type 0 = λ z. StandEntries N z xs in
    record { entry = x; more = xs; is = refl; stands = subst P same p; stand = subst Q rest q }

pub no_entry : (N : Nodes) (vs : List Item) (k : ℕ) (rest : Entries) → length vs ≤ k → StandEntries N (drop k vs) rest → rest ≡ NoEntries
no_entry N vs k NoEntries l h = refl
no_entry N vs k (MoreEntries x xs) l (j, js, e, p, q) = let none : drop k vs ≡ [] = drop_of_length-le vs l in absurd cc
