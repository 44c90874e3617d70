-- Prefixes of what a name holds.
use Rattle.std.proofs.Common.{◌≡◌, ◌<◌, ◌+◌, ◌++◌, ℕ, List, min, length, take, drop, sym, ◌∙◌, ap, arith, refl, subst, length-append, Option, Some, None, Ok}
use Rattle.std.proofs.lemmas.List.{take-append-drop, length-take, length-take-le}
use Rattle.std.proofs.Math.Seq.{take-append-add}
use Rattle.r2_base.specs.Names.{IsPiece, Reads}
use Rattle.r2_cli_outcome.specs.Reading.{IsPrefixOf, HoldsMore}

-- what is read after a prefix makes a longer prefix
pub longer_prefix : (bytes text into new : List ℕ) (n : ℕ) → take (length text) bytes ≡ text → IsPiece bytes (length text) into n → new ≡ text ++ take n into → take (length new) bytes ≡ new
longer_prefix bytes text into new n prefix piece is =
    let parts : bytes ≡ text ++ drop (length text) bytes = sym (take-append-drop (length text) bytes) ∙ ap (λ (w : List ℕ). w ++ drop (length text) bytes) prefix in
    let size : length new ≡ length text + n = ap length is ∙ length-append text (take n into) ∙ ap (λ (k : ℕ). length text + k) (length-take-le n into piece.room) in
    ap (λ (k : ℕ). take k bytes) size ∙ ap (take (length text + n)) parts ∙ take-append-add text (drop (length text) bytes) n
    ∙ ap (λ (w : List ℕ). text ++ w) (sym piece.same) ∙ sym is

pub read_prefix : (held : Option (List ℕ)) (from : ℕ) (text into new : List ℕ) (n : ℕ) → Reads held from into (Ok n) → from ≡ length text → new ≡ text ++ take n into → IsPrefixOf text held → IsPrefixOf new held
read_prefix None from text into new n reads at is prefix = absurd reads
read_prefix (Some bytes) from text into new n reads at is prefix = longer_prefix bytes text into new n prefix (subst (λ (k : ℕ). IsPiece bytes k into n) at reads) is

-- a prefix that is longer than a number
pub holds_more : (held : Option (List ℕ)) (text : List ℕ) (most : ℕ) → IsPrefixOf text held → most < length text → HoldsMore most held
holds_more None text most prefix more = absurd (let none : length text ≡ 0 = ap length prefix in omega (arith, none, more))
holds_more (Some bytes) text most prefix more =
    let size : length text ≡ min (length text) (length bytes) = sym (ap length prefix) ∙ length-take (length text) bytes in
    record { bytes = bytes; there = refl; more = omega (arith, size, more) }
