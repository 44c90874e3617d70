-- Tests of one byte, case by case: c that the tested access has it, w that it writes, k that it is a constant.
use Rattle.std.proofs.Common.{◌≡◌, Bool, true, false, ◌&&◌, ◌||◌, not, refl}

-- what was read and what was written meet a write in two parts
pub meets_parts : (c w k r s : Bool) → ((w && (c && (r && not k))) || (c && s)) ≡ (c && (s || (w && (not k && (r || s)))))
meets_parts true true true true true = refl
meets_parts true true true true false = refl
meets_parts true true true false true = refl
meets_parts true true true false false = refl
meets_parts true true false true true = refl
meets_parts true true false true false = refl
meets_parts true true false false true = refl
meets_parts true true false false false = refl
meets_parts true false true true true = refl
meets_parts true false true true false = refl
meets_parts true false true false true = refl
meets_parts true false true false false = refl
meets_parts true false false true true = refl
meets_parts true false false true false = refl
meets_parts true false false false true = refl
meets_parts true false false false false = refl
meets_parts false true true true true = refl
meets_parts false true true true false = refl
meets_parts false true true false true = refl
meets_parts false true true false false = refl
meets_parts false true false true true = refl
meets_parts false true false true false = refl
meets_parts false true false false true = refl
meets_parts false true false false false = refl
meets_parts false false true true true = refl
meets_parts false false true true false = refl
meets_parts false false true false true = refl
meets_parts false false true false false = refl
meets_parts false false false true true = refl
meets_parts false false false true false = refl
meets_parts false false false false true = refl
meets_parts false false false false false = refl

-- nothing was accessed
pub meets_none : (c w k : Bool) → ((w && (c && (false && not k))) || (c && false)) ≡ false
meets_none true true true = refl
meets_none true true false = refl
meets_none true false true = refl
meets_none true false false = refl
meets_none false true true = refl
meets_none false true false = refl
meets_none false false true = refl
meets_none false false false = refl

pub reading_or : (c w k p q : Bool) → (w && (c && ((p || q) && not k))) ≡ ((w && (c && (p && not k))) || (w && (c && (q && not k))))
reading_or true true true true true = refl
reading_or true true true true false = refl
reading_or true true true false true = refl
reading_or true true true false false = refl
reading_or true true false true true = refl
reading_or true true false true false = refl
reading_or true true false false true = refl
reading_or true true false false false = refl
reading_or true false true true true = refl
reading_or true false true true false = refl
reading_or true false true false true = refl
reading_or true false true false false = refl
reading_or true false false true true = refl
reading_or true false false true false = refl
reading_or true false false false true = refl
reading_or true false false false false = refl
reading_or false true true true true = refl
reading_or false true true true false = refl
reading_or false true true false true = refl
reading_or false true true false false = refl
reading_or false true false true true = refl
reading_or false true false true false = refl
reading_or false true false false true = refl
reading_or false true false false false = refl
reading_or false false true true true = refl
reading_or false false true true false = refl
reading_or false false true false true = refl
reading_or false false true false false = refl
reading_or false false false true true = refl
reading_or false false false true false = refl
reading_or false false false false true = refl
reading_or false false false false false = refl

pub writing_or : (c p q : Bool) → (c && (p || q)) ≡ ((c && p) || (c && q))
writing_or true true true = refl
writing_or true true false = refl
writing_or true false true = refl
writing_or true false false = refl
writing_or false true true = refl
writing_or false true false = refl
writing_or false false true = refl
writing_or false false false = refl

pub reading_none : (c w k : Bool) → (w && (c && (false && not k))) ≡ false
reading_none true true true = refl
reading_none true true false = refl
reading_none true false true = refl
reading_none true false false = refl
reading_none false true true = refl
reading_none false true false = refl
reading_none false false true = refl
reading_none false false false = refl

pub writing_none : (c : Bool) → (c && false) ≡ false
writing_none true = refl
writing_none false = refl

-- a write that was refused: it counts as a write but of constants, and as a read of those
pub refused_is : (c w k s : Bool) → (c && (s && not k)) ≡ ((w && (c && ((s && k) && not k))) || (c && (s && not k)))
refused_is true true true true = refl
refused_is true true true false = refl
refused_is true true false true = refl
refused_is true true false false = refl
refused_is true false true true = refl
refused_is true false true false = refl
refused_is true false false true = refl
refused_is true false false false = refl
refused_is false true true true = refl
refused_is false true true false = refl
refused_is false true false true = refl
refused_is false true false false = refl
refused_is false false true true = refl
refused_is false false true false = refl
refused_is false false false true = refl
refused_is false false false false = refl

-- a read alone, and a write alone
pub read_alone : (c w k s : Bool) → (w && (c && (s && not k))) ≡ ((w && (c && (s && not k))) || (c && false))
read_alone true true true true = refl
read_alone true true true false = refl
read_alone true true false true = refl
read_alone true true false false = refl
read_alone true false true true = refl
read_alone true false true false = refl
read_alone true false false true = refl
read_alone true false false false = refl
read_alone false true true true = refl
read_alone false true true false = refl
read_alone false true false true = refl
read_alone false true false false = refl
read_alone false false true true = refl
read_alone false false true false = refl
read_alone false false false true = refl
read_alone false false false false = refl

pub write_alone : (c w k s : Bool) → (c && s) ≡ ((w && (c && (false && not k))) || (c && s))
write_alone true true true true = refl
write_alone true true true false = refl
write_alone true true false true = refl
write_alone true true false false = refl
write_alone true false true true = refl
write_alone true false true false = refl
write_alone true false false true = refl
write_alone true false false false = refl
write_alone false true true true = refl
write_alone false true true false = refl
write_alone false true false true = refl
write_alone false true false false = refl
write_alone false false true true = refl
write_alone false false true false = refl
write_alone false false false true = refl
write_alone false false false false = refl

-- ranges and an access, each in two parts
pub both_parts : (p q r s : Bool) → (p || (q || (r || s))) ≡ ((p || r) || (q || s))
both_parts true true true true = refl
both_parts true true true false = refl
both_parts true true false true = refl
both_parts true true false false = refl
both_parts true false true true = refl
both_parts true false true false = refl
both_parts true false false true = refl
both_parts true false false false = refl
both_parts false true true true = refl
both_parts false true true false = refl
both_parts false true false true = refl
both_parts false true false false = refl
both_parts false false true true = refl
both_parts false false true false = refl
both_parts false false false true = refl
both_parts false false false false = refl

pub or_assoc : (p q r : Bool) → (p || (q || r)) ≡ ((p || q) || r)
or_assoc true true true = refl
or_assoc true true false = refl
or_assoc true false true = refl
or_assoc true false false = refl
or_assoc false true true = refl
or_assoc false true false = refl
or_assoc false false true = refl
or_assoc false false false = refl
