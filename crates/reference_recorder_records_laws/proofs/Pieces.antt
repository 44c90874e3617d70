-- The pieces of a Ret can stand in a record, where their bytes lie low in memory.
use Rattle.std.proofs.Common.{◌≡◌, ℕ, zero, suc, ◌+◌, ◌^◌, ◌<◌, ◌≤◌, Bool, true, false, ◌||◌, cond, eqb, ltb, List, [], ◌∷◌, ◌++◌, length, Option, Some, None, refl, ap, arith}
use Rattle.std.specs.List.{AllByRecursion}
use Rattle.std.proofs.lemmas.Bool.{and_from, and_parts, le-leb, lt-ltb, ltb-true}
use Rattle.marks.specs.declared.range.Range.{Range}
use Rattle.marks.specs.Ranges.{Piece, any_piece, are_bytes, covers, piece_bytes}
use Rattle.marks.specs.Marks.{Commit, NoRegion, Withheld, Released, logged, released}
use Rattle.marks.proofs.Touched.{or_true_left, or_true_right}
use Rattle.log_codec.specs.LogText.{IsPiece}
use Rattle.replay_runs.specs.Interface.{Committing}
use Rattle.replay_runs.specs.Rules.{AreUsed, Commits, CommitsUsed, IsUsed}
use Rattle.recorder_book.proofs.Lists.{all_append}

bytes_are : (bs : List ℕ) → are_bytes bs ≡ true → AllByRecursion (λ (b : ℕ). b < 256) bs
bytes_are [] e = tt
bytes_are (b ∷ bs) e = let parts = and_parts (ltb b 256) (are_bytes bs) e in (ltb-true b 256 parts.0, bytes_are bs parts.1)

-- no longer than memory is
short : (r : Range) (n : ℕ) → n ≤ r.len → ((x : ℕ) → covers r x ≡ true → x < 2 ^ 31) → n < 2 ^ 32
short r zero le low = omega arith
short r (suc k) le low =
    let lt = low (r.addr + k) (and_from _ _ (le-leb r.addr (r.addr + k) (omega arith)) (lt-ltb (r.addr + k) (r.addr + r.len) (omega (arith, le)))) in
    omega (arith, lt)

used_piece : (n : ℕ) (p : Piece) → IsUsed n p → ((x : ℕ) → covers p.range x ≡ true → x < 2 ^ 31) → IsPiece p.bytes
used_piece n p used low = let many = used.0 in let le = used.1 in (short p.range (length p.bytes) (omega (arith, many, le)) low, bytes_are p.bytes used.2)

pub used_pieces : (ns : List ℕ) (ps : List Piece) → AreUsed ns ps → ((x : ℕ) → any_piece ps x ≡ true → x < 2 ^ 31) → AllByRecursion IsPiece (piece_bytes ps)
used_pieces [] [] used low = tt
used_pieces [] (p ∷ ps) used low = absurd used
used_pieces (n ∷ ns) [] used low = absurd used
used_pieces (n ∷ ns) (p ∷ ps) used low = (
  used_piece n p used.0 (λ x here. low x (or_true_left (covers p.range x) (any_piece ps x) here)),
  used_pieces ns ps used.1 (λ x more. low x (or_true_right (covers p.range x) (any_piece ps x) more)),
)

pub as_many : (ns : List ℕ) (ps : List Piece) → AreUsed ns ps → length ps ≡ length ns
as_many [] [] used = refl
as_many [] (p ∷ ps) used = absurd used
as_many (n ∷ ns) [] used = absurd used
as_many (n ∷ ns) (p ∷ ps) used = ap suc (as_many ns ps used.1)

-- ---- the region that is committed

committed_used : (k : ℕ) (u : Option ℕ) (commit : Commit) → CommitsUsed k u commit → ((x : ℕ) → any_piece (released commit) x ≡ true → x < 2 ^ 31) → AllByRecursion IsPiece (logged commit)
committed_used k None NoRegion c low = tt
committed_used k None Withheld c low = ((omega arith, tt), tt)
committed_used k None (Released j p) c low = absurd cc
committed_used k (Some n) NoRegion c low = tt
committed_used k (Some n) Withheld c low = ((omega arith, tt), tt)
committed_used k (Some n) (Released j p) c low = (used_piece (cond (eqb p.range.addr 0) 0 n) p c.1 (λ x here. low x (or_true_left (covers p.range x) false here)), tt)

pub committed : (o : Option Committing) (commit : Commit) → Commits o commit → ((x : ℕ) → any_piece (released commit) x ≡ true → x < 2 ^ 31) → AllByRecursion IsPiece (logged commit)
committed None NoRegion c low = tt
committed None Withheld c low = ((omega arith, tt), tt)
committed None (Released j p) c low = absurd cc
committed (Some o) commit c low = committed_used o.key o.used commit c low

-- ---- of all of them

any_left : (ps qs : List Piece) (x : ℕ) → any_piece ps x ≡ true → any_piece (ps ++ qs) x ≡ true
any_left [] qs x e = absurd cc
any_left (p ∷ ps) qs x e = by (covers p.range x) e (any_left ps qs x)
  where
    by : (b : Bool) → (b || any_piece ps x) ≡ true → (any_piece ps x ≡ true → any_piece (ps ++ qs) x ≡ true) → (b || any_piece (ps ++ qs) x) ≡ true
    by true h more = refl
    by false h more = more h

any_right : (ps qs : List Piece) (x : ℕ) → any_piece qs x ≡ true → any_piece (ps ++ qs) x ≡ true
any_right [] qs x e = e
any_right (p ∷ ps) qs x e = or_true_right (covers p.range x) (any_piece (ps ++ qs) x) (any_right ps qs x e)

pub all_pieces : (ns : List ℕ) (ps : List Piece) (o : Option Committing) (commit : Commit) → AreUsed ns ps → Commits o commit →
    ((x : ℕ) → any_piece (ps ++ released commit) x ≡ true → x < 2 ^ 31) → AllByRecursion IsPiece (piece_bytes ps ++ logged commit)
all_pieces ns ps o commit used commits low =
    all_append IsPiece (piece_bytes ps) (logged commit)
    (used_pieces ns ps used (λ x here. low x (any_left ps (released commit) x here)))
    (committed o commit commits (λ x here. low x (any_right ps (released commit) x here)))
