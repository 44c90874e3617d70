-- How answers agree with what the rules say, where it is noted that something is too large.
use Rattle.std.specs.Prelude.{◌≡◌, Bool, true, false, List, [], ◌∷◌, length, drop, Result, Ok, Err}
use Rattle.c_types_model.specs.Types.{CType, CTypes, NoTypes, MoreTypes}
use Rattle.c_types_table.specs.declared.ids.TypeId.{TypeId}
use Rattle.c_types_rules.specs.Checked.{Checked, Fine, Noted, Broken, Notes, together}
use Rattle.c_types_rules.specs.TypedTree.{Typed, Values, NoValues, MoreValues}
use Rattle.c_types_nodes.specs.declared.ids.NodeId.{NodeId}
use Rattle.c_types_nodes.specs.Tables.{Table, Keeps, Names}
use Rattle.c_types_nodes.specs.Lists.{nodes_at}
use Rattle.c_types_operators.specs.declared.error.TypeError.{TypeError}
use Rattle.c_types_operators.specs.declared.error.TypeError.TheVariants.{Rule, Memory}
use Rattle.c_types_operators.specs.Answers.{IsAt, StandsAt}
use Rattle.c_types_environment.specs.States.{State, notes_of}

-- what is found is there, and what is noted on the way to it is noted after what was noted before; or the
-- rule that is broken is named, with the offset of its node; of memory nothing is said
abbrev pub Found : {A B : Type 0} → (before after : Notes) → (A → B → Type 0) → Checked A →
    Result B TypeError → Type 0
Found before after is c (Err Memory) = Unit {0}
Found before after is (Fine x) (Ok y) = is x y × (after ≡ before)
Found before after is (Noted n x) (Ok y) = is x y × (after ≡ together before n)
Found before after is (Broken from rule) (Err (Rule f r)) = (f ≡ from) × (r ≡ rule)
Found before after is _ _ = ⊥

-- the same, where the notes are those beside what is declared
abbrev pub Finds : {A B : Type 0} → (old new : State) → (A → B → Type 0) → Checked A → Result B TypeError →
    Type 0
Finds old new is c r = Found (notes_of old) (notes_of new) is c r

-- notes after an object, where this one isn't too large or is
abbrev pub size_noted : (small : Bool) → Notes → Notes
size_noted true before = before
size_noted false before = record before { large = true }

-- a part is there, and the nodes beside it are what stands unevaluated in it
abbrev pub IsPart : {A B : Type 0} → State → (A → B → Type 0) → A × List Typed → B × List NodeId → Type 0
IsPart s is x y = is x.0 y.0 × (nodes_at s.table y.1 ≡ x.1)

-- all numbers stand for what they did, and what is declared is as it was
pub record Stays (old new : State) : Type 0 where
  pub numbers : Keeps old.table new.table
  pub env : new.env ≡ old.env

-- the same of all but the names of the innermost scope
pub record StaysAround (old new : State) : Type 0 where
  pub numbers : Keeps old.table new.table
  pub tags : new.env.tags ≡ old.env.tags
  pub structs : new.env.structs ≡ old.env.structs
  pub depth : length new.env.scopes ≡ length old.env.scopes
  pub outer : drop 1 new.env.scopes ≡ drop 1 old.env.scopes

-- the number stands for the type
abbrev pub IsType : Table → CType → TypeId → Type 0
IsType t c id = Names t.types id c

-- the numbers stand for the types, one by one
abbrev pub AreTypes : Table → CTypes → List TypeId → Type 0
AreTypes t NoTypes [] = Unit {0}
AreTypes t (MoreTypes c cs) (id ∷ ids) = IsType t c id × AreTypes t cs ids
AreTypes t _ _ = ⊥

-- the numbers stand for the values, one by one
abbrev pub AreValues : Table → Values → List NodeId → Type 0
AreValues t NoValues [] = Unit {0}
AreValues t (MoreValues v vs) (id ∷ ids) = IsAt t v id × AreValues t vs ids
AreValues t _ _ = ⊥

-- the same of two that are objects, functions or values
abbrev pub AreBoth : Table → Typed × Typed → NodeId × NodeId → Type 0
AreBoth t x id = StandsAt t x.0 id.0 × StandsAt t x.1 id.1
