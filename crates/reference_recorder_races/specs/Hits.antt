-- At which bytes an access and an earlier one meet, one of the two a write.
use Rattle.std.specs.Prelude.{ℕ, Bool, false, ◌&&◌, ◌||◌, not, ◌==◌, leb, List, [], ◌∷◌}
use Rattle.marks.specs.Places.{is_constant}
use Rattle.marks.specs.Ranges.{covers}
use Rattle.marks.specs.Marks.{Act, Mark}
use Rattle.marks.specs.Bytes.{reads, writes, place}
use Rattle.reference_recorder_races.specs.declared.tested.Tested.{Tested}

-- the byte is one of the tested access, and of what was written
abbrev pub writing : Tested → (x : ℕ) → (was : Bool) → Bool
writing a x was = covers a.range x && was

-- of what was read, where the tested access writes; no constant is ever written
abbrev pub reading : Tested → (x : ℕ) → (was : Bool) → Bool
reading a x was = a.write && (covers a.range x && (was && not (is_constant x)))

-- of what a refused write would have written
abbrev pub refused : Tested → (x : ℕ) → (was : Bool) → Bool
refused a x was = covers a.range x && (was && not (is_constant x))

-- of any of these
abbrev pub meets : Tested → (x : ℕ) → (was_read was_written : Bool) → Bool
meets a x r w = reading a x r || writing a x w

abbrev pub meets_act : Tested → Act → (x : ℕ) → Bool
meets_act a act x = meets a x (reads act x) (writes act x)

-- the same of a mark of this thread, of whose events so many are known
abbrev pub meets_mark : Tested → (thread known : ℕ) → Mark → (x : ℕ) → Bool
meets_mark a u known m x = (m.thread == u && leb known (place m)) && meets_act a m.act x

abbrev pub meets_any : Tested → (thread known : ℕ) → List Mark → (x : ℕ) → Bool
meets_any a u known [] x = false
meets_any a u known (m ∷ past) x = meets_mark a u known m x || meets_any a u known past x
