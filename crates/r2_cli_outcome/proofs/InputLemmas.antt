-- What reading an input file comes to.
use Rattle.std.proofs.Common.{◌≡◌, ◌≤◌, ◌<◌, ◌++◌, ◌∷◌, [], zero, suc, ℕ, List, Bool, true, false, Some, None, length, codes, IsTrue, sym, ◌∙◌, ap, refl, arith}
use Rattle.r2_base.specs.Seen.{Store}
use Rattle.r2_cli_outcome.specs.declared.plan.End.{End}
use Rattle.r2_cli_outcome.specs.declared.status.Status.TheVariants.{ReadFault, Limit}
use Rattle.r2_cli_outcome.specs.Outcome.{refusal, limit_words}
use Rattle.r2_cli_outcome.specs.Stages.{passed}
use Rattle.r2_cli_outcome.specs.Reading.{Sees, HoldsMore}
use Rattle.r2_cli_outcome.specs.Input.{Input, missing, too_long, read}
use Rattle.r2_cli_outcome.specs.Plans.{EndsAs, IsEnd}
use Rattle.r2_cli_outcome.proofs.StageLemmas.{is_refused}

pub given : (files : Store) (name word : List ℕ) (most : ℕ) (bytes : List ℕ) → (IsTrue files.tells → files.holds name ≡ Some bytes) → length bytes ≤ most → Input (Sees files) name word most (passed bytes)
given files name word most bytes e le = read (λ told. sym (e told)) le

zeros : ℕ → List ℕ
zeros zero = []
zeros (suc n) = 0 ∷ zeros n

length_zeros : (n : ℕ) → length (zeros n) ≡ n
unfolding zeros
length_zeros zero = refl
length_zeros (suc n) = ap (λ k. suc k) (length_zeros n)

-- where nothing is told, some bytes are too long
shown_more : (files : Store) (name : List ℕ) (most : ℕ) (b : Bool) → files.tells ≡ b → (IsTrue files.tells → HoldsMore most (files.holds name)) → (bytes : List ℕ) × Sees files name (Some bytes) × (most < length bytes)
shown_more files name most true e h = let m = h e in (m.bytes, λ told. sym m.there, m.more)
shown_more files name most false e h =
    let len = length_zeros (suc most) in
    (zeros (suc most), λ told. absurd (let f : false ≡ true = sym e ∙ told in cc), omega arith)

pub exceeds : (files : Store) (name word : List ℕ) (most x y : ℕ) (end : End) → (IsTrue files.tells → HoldsMore most (files.holds name))
    → IsEnd (refusal Limit (limit_words word most)) end → EndsAs (Input (Sees files) name word most) x y end
exceeds files name word most x y end h is =
    let s = shown_more files name most files.tells refl h in
    is_refused (Input (Sees files) name word most) (refusal Limit (limit_words word most)) x y end (too_long s.1 s.2) is

pub lacks : (files : Store) (name word : List ℕ) (most x y : ℕ) (end : End) → (IsTrue files.tells → files.holds name ≡ None)
    → IsEnd (refusal ReadFault (codes "no file " ++ name)) end → EndsAs (Input (Sees files) name word most) x y end
lacks files name word most x y end h is = is_refused (Input (Sees files) name word most) (refusal ReadFault (codes "no file " ++ name)) x y end (missing (λ told. sym (h told))) is
