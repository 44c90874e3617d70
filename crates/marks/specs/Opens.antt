-- What is open in a thread, as looks back over its marks, the newest first.
use Rattle.std.specs.Prelude.{ℕ, Bool, true, false, List, [], ◌∷◌, length}
use Rattle.marks.specs.declared.range.Range.{Range}
use Rattle.marks.specs.Ranges.{range, piece_ranges}
use Rattle.marks.specs.Marks.{EventKind, Call, Ret, Up, UpRet, Alloc, Free, Stop, Act, Turn, Load, Store, Enter, Leave, Step, Fault, Made, Mark}

abbrev pub tail : {A : Type 0} → List A → List A
tail [] = []
tail (x ∷ xs) = xs

abbrev pub frames_after : Act → List Range → List Range
frames_after (Enter func args at bytes) fs = range at (length bytes) ∷ fs
frames_after (Leave at size) fs = tail fs
frames_after Turn fs = fs
frames_after (Load origin at bytes) fs = fs
frames_after (Store origin at bytes) fs = fs
frames_after (Step func args result ins pieces freed) fs = fs
frames_after (Fault kind crosses ins outs access) fs = fs
frames_after (Made e) fs = fs

-- its frames
abbrev pub frames : List Mark → List Range
frames [] = []
frames (m ∷ mine) = frames_after m.act (frames mine)

-- a Call that has not returned, with what it reads and holds
pub record OpenCall : Type 0 where
  pub func : ℕ
  pub args : List ℕ
  pub ins : List Range
  pub outs : List Range

abbrev pub calls_after : EventKind → List OpenCall → List OpenCall
calls_after (Call func args ins outs prepared) cs =
    record { func = func; args = args; ins = piece_ranges ins; outs = outs } ∷ cs
calls_after (Ret func args result same outs commit) cs = tail cs
calls_after (Up func args) cs = cs
calls_after (UpRet func result) cs = cs
calls_after (Alloc at size) cs = cs
calls_after (Free at size) cs = cs
calls_after (Stop fault) cs = cs

abbrev pub act_calls : Act → List OpenCall → List OpenCall
act_calls Turn cs = cs
act_calls (Load origin at bytes) cs = cs
act_calls (Store origin at bytes) cs = cs
act_calls (Enter func args at bytes) cs = cs
act_calls (Leave at size) cs = cs
act_calls (Step func args result ins pieces freed) cs = cs
act_calls (Fault kind crosses ins outs access) cs = cs
act_calls (Made e) cs = calls_after e.kind cs

-- its open Calls
abbrev pub open_calls : List Mark → List OpenCall
open_calls [] = []
open_calls (m ∷ mine) = act_calls m.act (open_calls mine)

abbrev pub ups_after : EventKind → List ℕ → List ℕ
ups_after (Up func args) fs = func ∷ fs
ups_after (UpRet func result) fs = tail fs
ups_after (Call func args ins outs prepared) fs = fs
ups_after (Ret func args result same outs commit) fs = fs
ups_after (Alloc at size) fs = fs
ups_after (Free at size) fs = fs
ups_after (Stop fault) fs = fs

abbrev pub act_ups : Act → List ℕ → List ℕ
act_ups Turn fs = fs
act_ups (Load origin at bytes) fs = fs
act_ups (Store origin at bytes) fs = fs
act_ups (Enter func args at bytes) fs = fs
act_ups (Leave at size) fs = fs
act_ups (Step func args result ins pieces freed) fs = fs
act_ups (Fault kind crosses ins outs access) fs = fs
act_ups (Made e) fs = ups_after e.kind fs

-- the functions of its open Ups
abbrev pub open_ups : List Mark → List ℕ
open_ups [] = []
open_ups (m ∷ mine) = act_ups m.act (open_ups mine)

abbrev pub is_stop_event : EventKind → Bool
is_stop_event (Call func args ins outs prepared) = false
is_stop_event (Ret func args result same outs commit) = false
is_stop_event (Up func args) = false
is_stop_event (UpRet func result) = false
is_stop_event (Alloc at size) = false
is_stop_event (Free at size) = false
is_stop_event (Stop fault) = true

abbrev pub is_stop : Act → Bool
is_stop Turn = false
is_stop (Load origin at bytes) = false
is_stop (Store origin at bytes) = false
is_stop (Enter func args at bytes) = false
is_stop (Leave at size) = false
is_stop (Step func args result ins pieces freed) = false
is_stop (Fault kind crosses ins outs access) = false
is_stop (Made e) = is_stop_event e.kind
