-- What marks that are no event answer.
use Rattle.std.proofs.Common.{◌≡◌, ℕ, ◌^◌, ◌<◌, Bool, true, false, List, Option, Some, is_some, refl, ap, ◌∙◌}
use Rattle.marks.specs.declared.side.Side.{Side}
use Rattle.marks.specs.declared.range.Range.{Range}
use Rattle.marks.specs.Ranges.{Piece, bytes_of_number, number_of_bytes}
use Rattle.marks.specs.Marks.{Act, Turn, Load, Store, Enter, Leave, Step, Fault, Made, Mark, is_event, side_of}
use Rattle.marks.specs.Wants.{Want, Turns, Loads, Stores, Leaves, Steps, Answer, Go, Value, Frame, answer_if, answer_to}
use Rattle.c_code.specs.MarkLists.{reply}
use Rattle.c_code.proofs.Sides.{replies}
use Rattle.space_memory_laws.proofs.Digits.{bytes_of}
use Rattle.recorder_memory.specs.Below.{Calling, Plainly, ThroughPointer, frame_want}
use Rattle.recorder_memory.proofs.Replies.{frame_answers, leave_answers, load_answers, step_answers, store_answers}

yes : (b : Bool) (x : Answer) → is_some (answer_if b x) ≡ true → answer_if b x ≡ Some x
yes true x e = refl
yes false x e = absurd cc

pub turn_gives : answer_to Turns Turn ≡ Some Go
unfolding answer_to
turn_gives = refl

pub load_gives : (o : Option ℕ) (at width value : ℕ) → value < 256 ^ width → answer_to (Loads o at width) (Load o at (bytes_of_number width value)) ≡ Some (Value value)
unfolding answer_to
load_gives o at width value lt = yes _ (Value (number_of_bytes (bytes_of_number width value))) (load_answers o at width value) ∙ ap (λ v. Some (Value v)) ((bytes_of width value).number lt)

pub store_gives : (o : Option ℕ) (at : ℕ) (bytes : List ℕ) → answer_to (Stores o at bytes) (Store o at bytes) ≡ Some Go
unfolding answer_to
store_gives o at bytes = yes _ Go (store_answers o at bytes)

pub frame_gives : (how : Calling) (f at : ℕ) (args bytes : List ℕ) → answer_to (frame_want how f args bytes) (Enter f args at bytes) ≡ Some (Frame at)
unfolding answer_to
frame_gives (Plainly i) f at args bytes = yes _ (Frame at) (frame_answers (Plainly i) f at args bytes)
frame_gives ThroughPointer f at args bytes = yes _ (Frame at) (frame_answers ThroughPointer f at args bytes)

pub leave_gives : (at size : ℕ) → answer_to (Leaves at size) (Leave at size) ≡ Some Go
unfolding answer_to
leave_gives at size = yes _ Go (leave_answers at size)

pub step_gives : (i : Bool) (f : ℕ) (args : List ℕ) (v : ℕ) (ins pieces : List Piece) (freed : List Range) → answer_to (Steps i f args) (Step f args v ins pieces freed) ≡ Some (Value v)
unfolding answer_to
step_gives i f args v ins pieces freed = yes _ (Value v) (step_answers i f args v ins pieces freed)

plain_side : (side : Side) (a : Act) → is_event a ≡ false → side ≡ side_of side a
plain_side side Turn e = refl
plain_side side (Load o at bytes) e = refl
plain_side side (Store o at bytes) e = refl
plain_side side (Enter f args at bytes) e = refl
plain_side side (Leave at size) e = refl
plain_side side (Step f args v ins pieces freed) e = refl
plain_side side (Fault kind crosses ins outs access) e = refl
plain_side side (Made ev) e = absurd cc

-- so does one of the side on which code wants it
pub plain_replies : (side : Side) (want : Want) (m : Mark) (x : Answer) → is_event m.act ≡ false → m.side ≡ side → answer_to want m.act ≡ Some x → reply side want m ≡ Some x
plain_replies side want m x plain is gives = replies side want m x (is ∙ plain_side side m.act plain) gives
