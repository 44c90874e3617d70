-- Marks that answer what code wants.
use Rattle.std.proofs.Common.{◌≡◌, ℕ, Bool, true, false, cond, ◌&&◌, eqb, List, length, Option, Some, None, is_some, refl, ap, ◌∙◌, eq-eqb}
use Rattle.std.proofs.lemmas.Bool.{and_from, true≢false}
use Rattle.marks.specs.declared.side.Side.{Side}
use Rattle.marks.specs.declared.side.Side.TheVariants.{Replay, System}
use Rattle.marks.specs.Ranges.{Piece, are_bytes, bytes_of_number, number_of_bytes}
use Rattle.marks.specs.declared.range.Range.{Range}
use Rattle.marks.specs.Marks.{Act, Turn, Load, Store, Enter, Leave, Step, Fault, Made, Mark, is_event, side_of}
use Rattle.marks.specs.Wants.{Want, Turns, Loads, Stores, Enters, Leaves, CallsBack, Steps, Go, Value, Frame, answer_if, answer_to, same_numbers, same_origin}
use Rattle.c_code.specs.MarkLists.{same_side, reply}
use Rattle.space_memory_laws.proofs.Digits.{bytes_of}
use Rattle.steps_above_memory.proofs.Accesses.{same_numbers_self}
use Rattle.recorder_memory.specs.Below.{Calling, Plainly, ThroughPointer, frame_want}

side_plain : (side : Side) (a : Act) → is_event a ≡ false → side_of side a ≡ side
side_plain side Turn e = refl
side_plain side (Load origin at bytes) e = refl
side_plain side (Store origin at bytes) e = refl
side_plain side (Enter f args at bytes) e = refl
side_plain side (Leave at size) e = refl
side_plain side (Step f args v ins pieces freed) e = refl
side_plain side (Fault kind crosses ins outs access) e = refl
side_plain side (Made event) e = absurd (true≢false e)

same_side_self : (side : Side) → same_side side side ≡ true
same_side_self Replay = refl
same_side_self System = refl

-- a mark that is no event, of the side on which code wants it
pub plain_reply : (side : Side) (want : Want) (m : Mark) → is_event m.act ≡ false → m.side ≡ side → is_some (answer_to want m.act) ≡ true → is_some (reply side want m) ≡ true
unfolding reply
plain_reply side want m plain is answers = ap (λ b. is_some (cond b (answer_to want m.act) None)) same ∙ answers
  where
    same : same_side (side_of side m.act) m.side ≡ true
    same = ap (λ d. same_side d m.side) (side_plain side m.act plain) ∙ ap (λ d. same_side side d) is ∙ same_side_self side

same_origin_self : (o : Option ℕ) → same_origin o o ≡ true
same_origin_self None = refl
same_origin_self (Some x) = eq-eqb x x refl

pub turn_answers : is_some (answer_to Turns Turn) ≡ true
unfolding answer_to
turn_answers = refl

pub load_answers : (o : Option ℕ) (at width value : ℕ) → is_some (answer_to (Loads o at width) (Load o at (bytes_of_number width value))) ≡ true
unfolding answer_to
load_answers o at width value =
    let bytes = bytes_of_number width value in
    ap (λ b. is_some (answer_if b (Value (number_of_bytes bytes))))
    (and_from (same_origin o o && eqb at at) (eqb (length bytes) width && are_bytes bytes)
    (and_from (same_origin o o) (eqb at at) (same_origin_self o) (eq-eqb at at refl))
    (and_from (eqb (length bytes) width) (are_bytes bytes) (eq-eqb (length bytes) width (bytes_of width value).count) (bytes_of width value).small))

pub store_answers : (o : Option ℕ) (at : ℕ) (bytes : List ℕ) → is_some (answer_to (Stores o at bytes) (Store o at bytes)) ≡ true
unfolding answer_to
store_answers o at bytes = ap (λ b. is_some (answer_if b Go))
    (and_from (same_origin o o) (eqb at at && same_numbers bytes bytes) (same_origin_self o)
    (and_from (eqb at at) (same_numbers bytes bytes) (eq-eqb at at refl) (same_numbers_self bytes)))

pub enters_answers : (i : Bool) (f at : ℕ) (args bytes : List ℕ) → is_some (answer_to (Enters i f args bytes) (Enter f args at bytes)) ≡ true
unfolding answer_to
enters_answers i f at args bytes = ap (λ b. is_some (answer_if b (Frame at)))
    (and_from (eqb f f) (same_numbers args args && same_numbers bytes bytes) (eq-eqb f f refl)
    (and_from (same_numbers args args) (same_numbers bytes bytes) (same_numbers_self args) (same_numbers_self bytes)))

calls_answers : (f at : ℕ) (args bytes : List ℕ) → is_some (answer_to (CallsBack f args bytes) (Enter f args at bytes)) ≡ true
unfolding answer_to
calls_answers f at args bytes = ap (λ b. is_some (answer_if b (Frame at)))
    (and_from (eqb f f) (same_numbers args args && same_numbers bytes bytes) (eq-eqb f f refl)
    (and_from (same_numbers args args) (same_numbers bytes bytes) (same_numbers_self args) (same_numbers_self bytes)))

pub frame_answers : (how : Calling) (f at : ℕ) (args bytes : List ℕ) → is_some (answer_to (frame_want how f args bytes) (Enter f args at bytes)) ≡ true
frame_answers (Plainly i) f at args bytes = enters_answers i f at args bytes
frame_answers ThroughPointer f at args bytes = calls_answers f at args bytes

pub leave_answers : (at size : ℕ) → is_some (answer_to (Leaves at size) (Leave at size)) ≡ true
unfolding answer_to
leave_answers at size = ap (λ b. is_some (answer_if b Go)) (and_from (eqb at at) (eqb size size) (eq-eqb at at refl) (eq-eqb size size refl))

pub step_answers : (i : Bool) (f : ℕ) (args : List ℕ) (v : ℕ) (ins pieces : List Piece) (freed : List Range) → is_some (answer_to (Steps i f args) (Step f args v ins pieces freed)) ≡ true
unfolding answer_to
step_answers i f args v ins pieces freed = ap (λ b. is_some (answer_if b (Value v))) (and_from (eqb f f) (same_numbers args args) (eq-eqb f f refl) (same_numbers_self args))
