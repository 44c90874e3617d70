-- What a thread at a call may be told.
use Rattle.std.proofs.Common.{◌≡◌, ◌⊎◌, ℕ, Bool, true, false, ◌||◌, not, List, inl, inr, refl}
use Rattle.c_code.specs.Machine.{Laid, Config, Going, Under, Entering, Closing, Starting, Done, Lost}
use Rattle.c_machine.specs.Callers.{side_at}
use Rattle.c_machine.specs.Moves.{MayBegin}
use Rattle.test_marks.specs.Sides.{side_told}

-- a function may begin at its call on the side that the thread tells
pub may_begin_there : (l : Laid) (c : Config) (f : ℕ) (args : List ℕ) → MayBegin l c f args (side_at l c) false → MayBegin l c f args (side_told l c) false
may_begin_there l (Under call vs ws) f args h = h
may_begin_there l (Done v) f args h = h
may_begin_there l (Going a vs ws) f args h = absurd h
may_begin_there l (Entering s i g bs vs ws) f args h = absurd h
may_begin_there l (Closing v w vs ws) f args h = absurd h
may_begin_there l (Starting g bs) f args h = h
may_begin_there l Lost f args h = absurd h

pub one_or_not : (a b : Bool) → (a || not b) ≡ true → (a ≡ true) ⊎ (b ≡ false)
one_or_not true b h = inl refl
one_or_not false false h = inr refl
one_or_not false true h = absurd cc
