-- What is handed down of one byte, found from the marks.
use Rattle.std.specs.Prelude.{ℕ, Bool, true, false, ◌||◌, if◌then◌else◌, List, [], ◌∷◌, Option, Some, None}
use Rattle.marks.specs.declared.side.Side.TheVariants.{Replay}
use Rattle.marks.specs.declared.range.Range.{Range}
use Rattle.marks.specs.Ranges.{Prepared, covers, any_range, any_piece}
use Rattle.marks.specs.Marks.{EventKind, Call, Ret, Up, UpRet, Alloc, Free, Stop, Act, Turn, Load, Store, Enter, Leave, Step, Fault, Made, Mark}
use Rattle.marks.specs.Bytes.{Cell, Dead, Live, Held}
use Rattle.marks.specs.Opens.{OpenCall, tail}
use Rattle.reference_recorder_rights.specs.declared.opens.Flags.{Flags}
use Rattle.reference_recorder_regions.specs.Steps.{is_own}

-- whether an open call holds the byte, and whether it reads it
abbrev pub flags_of : (x : ℕ) → OpenCall → Flags
flags_of x c = record { holds = any_range c.outs x; reads = any_range c.ins x }

abbrev pub flags_after : (x : ℕ) → EventKind → List Flags → List Flags
flags_after x (Call f args ins outs prepared) fs =
    record { holds = any_range outs x; reads = any_piece ins x } ∷ fs
flags_after x (Ret f args v same outs commit) fs = tail fs
flags_after x (Up f args) fs = fs
flags_after x (UpRet f v) fs = fs
flags_after x (Alloc at size) fs = fs
flags_after x (Free at size) fs = fs
flags_after x (Stop fault) fs = fs

abbrev pub act_flags : (x : ℕ) → Act → List Flags → List Flags
act_flags x Turn fs = fs
act_flags x (Load origin at bytes) fs = fs
act_flags x (Store origin at bytes) fs = fs
act_flags x (Enter f args at bytes) fs = fs
act_flags x (Leave at size) fs = fs
act_flags x (Step f args v ins pieces freed) fs = fs
act_flags x (Fault kind crosses ins outs access) fs = fs
act_flags x (Made e) fs = flags_after x e.kind fs

abbrev pub flags_step : (x thread : ℕ) → Mark → List Flags → List Flags
flags_step x t m fs = if is_own Replay t m then act_flags x m.act fs else fs

abbrev pub any_holds : List Flags → Bool
any_holds [] = false
any_holds (f ∷ fs) = f.holds || any_holds fs

abbrev pub any_reads : List Flags → Bool
any_reads [] = false
any_reads (f ∷ fs) = f.reads || any_reads fs

-- the byte lies in the region, if there is one
abbrev pub has_byte : Option Range → (x : ℕ) → Bool
has_byte None x = false
has_byte (Some r) x = covers r x

-- it lies in the region that one of these keys has
abbrev pub any_under : (region : ℕ → Option Range) → (x : ℕ) → List Prepared → Bool
any_under region x [] = false
any_under region x (p ∷ ps) = has_byte (region p.key) x || any_under region x ps

abbrev pub kind_under : (region : ℕ → Option Range) → (x : ℕ) → EventKind → Bool
kind_under region x (Call f args ins outs prepared) = any_under region x prepared
kind_under region x (Ret f args v same outs commit) = false
kind_under region x (Up f args) = false
kind_under region x (UpRet f v) = false
kind_under region x (Alloc at size) = false
kind_under region x (Free at size) = false
kind_under region x (Stop fault) = false

abbrev pub act_under : (region : ℕ → Option Range) → (x : ℕ) → Act → Bool
act_under region x Turn = false
act_under region x (Load origin at bytes) = false
act_under region x (Store origin at bytes) = false
act_under region x (Enter f args at bytes) = false
act_under region x (Leave at size) = false
act_under region x (Step f args v ins pieces freed) = false
act_under region x (Fault kind crosses ins outs access) = false
act_under region x (Made e) = kind_under region x e.kind

-- it lies in the region of a key under which one of the marks prepares a region
abbrev pub past_under : (region : ℕ → Option Range) → (x : ℕ) → List Mark → Bool
past_under region x [] = false
past_under region x (m ∷ past) = act_under region x m.act || past_under region x past

-- it is in a live object, pending or not
abbrev pub is_alive : Cell → Bool
is_alive Dead = false
is_alive (Live v) = true
is_alive (Held v) = true
