-- The order in which findings are given: by offset, and at one offset by the text of the line.
use Rattle.std.specs.Prelude.{◌≡◌, ◌↔◌, ℕ, ◌==◌, nat_lt, Bool, true, false, ◌&&◌, ◌||◌, List, [], ◌∷◌, ◌++◌, codes}
use Rattle.std.specs.List.{All, Contains}
use Rattle.lockset_check_rules.specs.declared.finding.LockFinding.{LockFinding}
use Rattle.lockset_check_rules.specs.declared.finding.LockFinding.TheVariants.{Unheld, Address, NotConstant, UnlockUnheld, LoopLocks, ReturnLocks}

abbrev pub offset_of : LockFinding → ℕ
offset_of (Unheld from name) = from
offset_of (Address from name) = from
offset_of (NotConstant from) = from
offset_of (UnlockUnheld from) = from
offset_of (LoopLocks from) = from
offset_of (ReturnLocks from) = from

-- the line of a finding without the offset, which is the same in lines that are compared
abbrev pub text_of : LockFinding → List ℕ
text_of (Unheld from name) = codes "unheld " ++ name
text_of (Address from name) = codes "address " ++ name
text_of (NotConstant from) = codes "notconstant"
text_of (UnlockUnheld from) = codes "unlockunheld"
text_of (LoopLocks from) = codes "looplocks"
text_of (ReturnLocks from) = codes "returnlocks"

-- of two texts the one that ends first, or has the lower byte where they differ first, comes first
abbrev pub text_before : List ℕ → List ℕ → Bool
text_before [] [] = false
text_before [] (y ∷ ys) = true
text_before (x ∷ xs) [] = false
text_before (x ∷ xs) (y ∷ ys) = nat_lt x y || ((x == y) && text_before xs ys)

abbrev pub comes_before : LockFinding → LockFinding → Bool
comes_before f g =
    nat_lt (offset_of f) (offset_of g) ||
    ((offset_of f == offset_of g) && text_before (text_of f) (text_of g))

-- each comes before all that stand after it, so none stands twice
abbrev pub Ascending : List LockFinding → Type 0
Ascending [] = Unit {0}
Ascending (f ∷ fs) = All (λ g. comes_before f g ≡ true) fs × Ascending fs

-- the same findings, each once and in order
pub record AreSorted (found sorted : List LockFinding) : Type 0 where
  pub order : Ascending sorted
  pub same : (f : LockFinding) → Contains sorted f ↔ Contains found f
