-- Lists of answers whose pieces lie in one list.
use Rattle.std.specs.Prelude.{ℕ, ◌+◌, ◌<◌, ◌≤◌, List, [], ◌∷◌, get_or, length, take, drop, map}
use Rattle.std.specs.List.{All}
use Rattle.system_side.specs.declared.file.Scripted.{Scripted}
use Rattle.system_side.specs.declared.answer_list.Answer.{Answer}
use Rattle.system_side.specs.declared.answer_list.Entry.{Entry}
use Rattle.system_side.specs.declared.answer_list.Group.{Group}

-- an answer, as a value
abbrev pub as_scripted : Answer → Scripted
as_scripted a = record { func = a.func; result = a.result; pieces = a.pieces.now }

-- the pieces of a group, among those of all
abbrev pub pieces_in : List (List ℕ) → Group → List (List ℕ)
pieces_in pieces g = take g.count (drop g.first pieces)

abbrev pub none : Group
none = record { first = 0; count = 0 }

-- the group of an answer's pieces
abbrev pub group_in : List Group → Entry → Group
group_in groups e = get_or groups e.group none

-- an answer whose pieces are among those of all, as a value
abbrev pub answer_in : List Group → List (List ℕ) → Entry → Scripted
answer_in groups pieces e =
    record { func = e.func; result = e.result; pieces = pieces_in pieces (group_in groups e) }

abbrev pub answers_in : List Group → List (List ℕ) → List Entry → List Scripted
answers_in groups pieces entries = map (answer_in groups pieces) entries

-- the pieces of the last answer
abbrev pub last_pieces : List Scripted → List (List ℕ)
last_pieces [] = []
last_pieces (a ∷ []) = a.pieces
last_pieces (a ∷ b ∷ more) = last_pieces (b ∷ more)

-- a group's pieces are among the first so many
abbrev pub IsWithin : ℕ → Group → Type 0
IsWithin end g = g.first + g.count ≤ end

-- the group of an answer's pieces is one of these
abbrev pub HasGroup : List Group → Entry → Type 0
HasGroup groups e = e.group < length groups

-- what a list of answers that is being made has
pub record SoFar : Type 0 where
  pub ended : List Scripted
  pub begun : List (List ℕ)

-- each answer has a group, and each group has pieces that are among the first so many
pub record AreThere (end : ℕ) (groups : List Group) (entries : List Entry) : Type 0 where
  pub grouped : All (HasGroup groups) entries
  pub inside : All (IsWithin end) groups

-- each answer has pieces that are there, and one more begins after them
pub record AreBegun (first : ℕ) (groups : List Group) (pieces : List (List ℕ))
    (entries : List Entry) : Type 0 where
  pub there : AreThere first groups entries
  pub start : first ≤ length pieces
