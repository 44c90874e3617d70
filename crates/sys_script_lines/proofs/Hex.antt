-- Digits that are read two by two.
use Rattle.std.proofs.Common.{◌≡◌, ℕ, ◌+◌, ◌-◌, ◌/◌, ◌≤◌, List, [], ◌∷◌, ◌++◌, length, get_or, take, drop, Some, None, sym, ap, ◌∙◌, arith}
use Rattle.std.specs.Option.{option_and_then}
use Rattle.std.proofs.lemmas.List.{length-drop, take_all, take_rest}
use Rattle.sys_script_lines.specs.Each.{before}
use Rattle.sys_script_lines.specs.Pieces.{hex_byte, hex_bytes}
use Rattle.sys_script_lines.proofs.Joined.{joined, joined_before}

-- two digits more
pub hex_goes_on : (bytes text : List ℕ) (byte : ℕ) → 2 ≤ length text → hex_byte (get_or text 0 0) (get_or text 1 0) ≡ Some byte
    → joined (bytes ++ byte ∷ []) (hex_bytes (take (length text - 2) (drop 2 text))) ≡ joined bytes (hex_bytes text)
hex_goes_on bytes [] byte le is = absurd (omega arith)
hex_goes_on bytes (h ∷ []) byte le is = absurd (omega arith)
hex_goes_on bytes (h ∷ l ∷ digits) byte le is =
    ap (λ ds. joined (bytes ++ byte ∷ []) (hex_bytes ds)) (take_all (length (h ∷ l ∷ digits) - 2) digits (omega arith))
    ∙ sym (ap (λ o. joined bytes (option_and_then (before (hex_bytes digits)) o)) is ∙ joined_before bytes byte (hex_bytes digits))

-- two bytes that aren't digits
pub hex_stops : (bytes text : List ℕ) → 2 ≤ length text → hex_byte (get_or text 0 0) (get_or text 1 0) ≡ None → joined bytes (hex_bytes text) ≡ None
hex_stops bytes [] le is = absurd (omega arith)
hex_stops bytes (h ∷ []) le is = absurd (omega arith)
hex_stops bytes (h ∷ l ∷ digits) le is = ap (λ o. joined bytes (option_and_then (before (hex_bytes digits)) o)) is

pub hex_pushed : (pushed bytes text : List ℕ) (byte : ℕ) → pushed ≡ bytes ++ byte ∷ [] → 2 ≤ length text → hex_byte (get_or text 0 0) (get_or text 1 0) ≡ Some byte
    → joined pushed (hex_bytes (take (length text - 2) (drop 2 text))) ≡ joined bytes (hex_bytes text)
hex_pushed pushed bytes text byte e le is = ap (λ bs. joined bs (hex_bytes (take (length text - 2) (drop 2 text)))) e ∙ hex_goes_on bytes text byte le is

-- the room that is left for the digits that are left
pub room_kept : (text : List ℕ) (len cap more same : ℕ) → 2 ≤ length text → len + length text / 2 ≤ cap → more ≡ len + 1 → same ≡ cap → more + length (take (length text - 2) (drop 2 text)) / 2 ≤ same
room_kept text len cap more same le room one keeps =
    let n : length (take (length text - 2) (drop 2 text)) ≡ length text - 2 = ap length (take_rest text 2) ∙ length-drop 2 text in
    omega (arith, n, le, room, one, keeps)
