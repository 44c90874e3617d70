-- What stands in a block, read one after another.
use Rattle.std.proofs.Common.{◌≡◌, ℕ, ◌+◌, ◌<◌, ◌≤◌, List, [], length, drop, get_or, Result, Ok, Err, refl, sym, subst}
use Rattle.std.specs.Prelude.{Vec}
use Rattle.std.specs.declared.alloc.Global.{Global}
use Rattle.c_syntax.specs.declared.statement.Entry.{Entry as Item}
use Rattle.c_syntax.specs.Nodes.{Nodes}
use Rattle.c_syntax.specs.Syntax.{Entry, Entries}
use Rattle.c_syntax.specs.Stands.{StandsEntry, StandEntries}
use Rattle.c_types_table.specs.declared.ids.TypeId.{TypeId}
use Rattle.c_types_table.specs.Tables.{IsBelow}
use Rattle.c_types_rules.specs.Checked.{◌>>=◌}
use Rattle.c_types_rules.specs.TypedTree.{Statements, NoStatements, joined}
use Rattle.c_types_rules.specs.Statements.{Declared, Surroundings, entry, entries}
use Rattle.c_types_nodes.specs.Tables.{Keeps}
use Rattle.c_types_program.specs.declared.statement.Statement.{Statement}
use Rattle.c_types_operators.specs.declared.error.TypeError.{TypeError}
use Rattle.c_types_environment.specs.States.{notes_of, State}
use Rattle.c_types_expressions.specs.Found.{Finds}
use Rattle.c_types_statements.specs.declared.place.Surroundings.{Surroundings as Where}
use Rattle.c_types_statements.specs.Typed.{AddsDeclared, AreTyped, StatementsStand, declared_in, place_in}
use Rattle.c_types_statements.proofs.Added.{none_stand, stand_joined}
use Rattle.c_types_statements.proofs.Joined.{following, none_read, read_on, read_all, read_off}
use Rattle.c_types_statements.proofs.Kept.{place_kept, statements_stand_kept}
use Rattle.c_types_statements.proofs.Lists.{NextEntry, next_entry, no_entry}
use Rattle.c_types_statements.proofs.Passed.{Passed}

-- the entries up to this number are read
pub record EntriesRead (N : Nodes) (vs : List Item) (k : ℕ) (es : Entries) (p : Surroundings) (d : Declared) (old now : State) (locals : List TypeId) (made : List Statement) : Type 0 where
  pub rest : Entries
  pub stand : StandEntries N (drop k vs) rest
  pub xs : Statements
  pub made_of : StatementsStand now.table xs made
  pub reached : Passed (notes_of old) (notes_of now) (entries es p d) (following xs (entries rest p (declared_in now locals)))

module _ (N : Nodes) (vs : List Item) (es : Entries) (p : Surroundings) (old : State) where
  pub no_entry_read : (locals : List TypeId) → StandEntries N vs es → EntriesRead N vs 0 es p (declared_in old locals) old old locals []
  no_entry_read locals h = record { rest = es; stand = h; xs = NoStatements; made_of = none_stand old.table; reached = none_read (notes_of old) (entries es p (declared_in old locals)) }

  module _ (d : Declared) (k : ℕ) (now : State) (locals : List TypeId) (made : List Statement) (read : EntriesRead N vs k es p d old now locals made) where
    pub reached_next : (v : Item) (n : NextEntry N vs k v read.rest) → Passed (notes_of old) (notes_of now) (entries es p d) (following read.xs (entry n.entry p (declared_in now locals) >>= (λ a. following a.1 (entries n.more p a.0))))
    reached_next v n = let P : Entries → Type 0 = λ z. Passed (notes_of old) (notes_of now) (entries es p d) (following read.xs (entries z p (declared_in now locals))) in subst P n.is read.reached

    pub entry_read : (v : Item) (next : State) (found : List TypeId) (new : List Statement) → k < length vs → Keeps now.table next.table
        → ((x : Entry) → StandsEntry N (get_or vs k v) x → Finds now next (AddsDeclared next found made new) (entry x p (declared_in now locals)) (Ok tt))
        → EntriesRead N vs (k + 1) es p d old next found new
    entry_read v next found new l keeps agrees =
        let n = next_entry N vs k v read.rest l read.stand in
        let r = read_on (notes_of old) (notes_of now) (notes_of next) (entries es p d) read.xs (AddsDeclared next found made new) (entry n.entry p (declared_in now locals)) (entries n.more p) tt (reached_next v n) (agrees n.entry n.stands) in
        let P : Declared → Type 0 = λ z. Passed (notes_of old) (notes_of next) (entries es p d) (following (joined read.xs r.0.1) (entries n.more p z)) in
        let more = r.1.1 in
        let Q : List Statement → Type 0 = λ z. StatementsStand next.table (joined read.xs r.0.1) z in
        let stand : StatementsStand next.table (joined read.xs r.0.1) new = subst Q (sym more.1) (stand_joined next.table read.xs r.0.1 made more.0 (statements_stand_kept now.table next.table read.xs made keeps read.made_of) more.2) in
        record { rest = n.more; stand = n.stand; xs = joined read.xs r.0.1; made_of = stand; reached = subst P (sym r.1.0) r.2 }

    pub entry_broken : (v : Item) (next last : State) (found all : List TypeId) (new : List Statement) (e : TypeError) → k < length vs
        → ((x : Entry) → StandsEntry N (get_or vs k v) x → Finds now next (AddsDeclared next found made new) (entry x p (declared_in now locals)) (Err e))
        → Finds old last (AreTyped last all) (entries es p d) (Err e)
    entry_broken v next last found all new e l agrees =
        let n = next_entry N vs k v read.rest l read.stand in
        read_off (notes_of old) (notes_of now) (notes_of next) (notes_of last) (entries es p d) read.xs (AddsDeclared next found made new) (AreTyped last all) (entry n.entry p (declared_in now locals)) (λ a. following a.1 (entries n.more p a.0)) e (reached_next v n) (agrees n.entry n.stands)

    pub entries_read : (made_vec : Vec Statement Global) → made_vec.items ≡ made → length vs ≤ k → Finds old now (AreTyped now locals) (entries es p d) (Ok made_vec)
    entries_read made_vec e l =
        let P : Entries → Type 0 = λ z. Passed (notes_of old) (notes_of now) (entries es p d) (following read.xs (entries z p (declared_in now locals))) in
        let Q : List Statement → Type 0 = λ z. StatementsStand now.table read.xs z in
        read_all (notes_of old) (notes_of now) (entries es p d) read.xs (AreTyped now locals) (declared_in now locals).locals made_vec (subst P (no_entry N vs k read.rest l read.stand) read.reached) (refl, subst Q (sym e) read.made_of)

-- an entry that was read where its scope has changed
pub entry_here : {B : Type 0} (N : Nodes) (a b c : State) (p : Where) (v w : Item) (x : Entry) (locals : List TypeId) (goes : Declared × Statements → B → Type 0) (r : Result B TypeError) → Keeps a.table b.table → IsBelow (length a.table.types) p.result → v ≡ w
    → ((y : Entry) → StandsEntry N v y → Finds b c goes (entry y (place_in b p) (declared_in b locals)) r) → StandsEntry N w x → Finds b c goes (entry x (place_in a p) (declared_in b locals)) r
entry_here N a b c p v w x locals goes r keeps low same h s =
    let P : Surroundings → Type 0 = λ q. Finds b c goes (entry x q (declared_in b locals)) r in
    let Q : Item → Type 0 = λ u. StandsEntry N u x in
    subst P (place_kept a b p keeps low) (h x (subst Q (sym same) s))
