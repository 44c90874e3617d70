-- Reading numbers in groups of seven bits, the low group first.
use Rattle.std.specs.Prelude.{◌≡◌, ℕ, zero, suc, ◌+◌, ◌*◌, ◌-◌, ◌^◌, ◌<◌, Bool, true, false, if◌then◌else◌, ltb, ◌==◌, ◌&&◌, ◌||◌, not, List, Option, Some, None}
use Rattle.byte_format.specs.Reading.{Reading, Done, Short, ◌>>=◌, coded_at}

-- a group where so many bits are left: the last, which is 0 only where it is the only one, or one with
-- another after it
abbrev pub last_from : ℕ → Bool → ℕ → Option ℕ
last_from bits only b = if ltb b (2 ^ bits) && (only || not (b == 0)) then Some b else None

abbrev pub inner_from : ℕ → ℕ → Option ℕ
inner_from bits b = if ltb 7 bits && ltb b 256 then Some b else None

abbrev pub group_from : ℕ → Bool → ℕ → Option ℕ
group_from bits only b = if ltb b 128 then last_from bits only b else inner_from bits b

unfoldable pub after : Bool → ℕ → (List ℕ → Reading ℕ) → List ℕ → Reading ℕ
after true b more bytes = Done (b, bytes)
after false b more bytes = more bytes >>= λ high. Done (b - 128 + 128 * high.0, high.1)

unfoldable pub varint_at : ℕ → ℕ → Bool → List ℕ → Reading ℕ
varint_at zero bits only bytes = Short
varint_at (suc groups) bits only bytes = coded_at (group_from bits only) bytes >>= λ b.
    after (ltb b.0 128) b.0 (varint_at groups (bits - 7) false) b.1

abbrev pub IsNumber : ℕ → Bool → ℕ → Type 0
IsNumber bits only n = (n < 2 ^ bits) × (only ≡ false → 0 < n)
