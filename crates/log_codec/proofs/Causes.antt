-- What follows from the definitions alone: of bytes that begin a log text, and of the first wrong byte.
use Rattle.std.proofs.Common.{◌≡◌, ℕ, zero, suc, ◌+◌, ◌-◌, ◌<◌, ◌≤◌, Bool, true, false, cond, leb, List, [], ◌∷◌, ◌++◌, length, take, drop, Err, refl, sym, ap, subst, ◌∙◌, append_assoc, arith, inl, inr}
use Rattle.std.specs.List.{AllByRecursion, flat_map}
use Rattle.std.proofs.lemmas.Bool.{cases_lt}
use Rattle.std.proofs.lemmas.List.{append-nil, length-append, take-append-drop}
use Rattle.byte_format.specs.declared.stop.Stop.{Stop}
use Rattle.byte_format.specs.declared.stop.Stop.TheVariants as stop
use Rattle.byte_format.specs.Numbers.{fixed}
use Rattle.run_events.specs.declared.event.Record.{Record}
use Rattle.log_codec.specs.LogText.{Chunk, version_1, record_text, chunk_head, chunk_text, end_text, records_of, log_text, IsRecord, IsChunk, BeginsLog}
use Rattle.log_codec.specs.Kept.{CanBeKept, records_within, chunks_within, log_within, StandInFull, AreAll, IsFirstWrong}
use Rattle.log_codec.specs.Parsing.{AreKept, NamesWrong, HasRead}
use Rattle.log_codec.proofs.Logs.{within_prefix}

-- ---- in a whole log all records stand

pub all_whole : (cs : List Chunk) → log_within version_1 (length (log_text version_1 cs)) cs ≡ records_of cs
all_whole cs =
    let chunks = flat_map (chunk_text fixed.text) cs in
    let end = end_text fixed.text (length (records_of cs)) in
    let left : length (log_text version_1 cs) - 6 ≡ length chunks + length end = omega (arith, length-append chunks end) in
    rw left (ap (chunks_within fixed.text (length chunks + length end)) (sym (append-nil cs)) ∙ within_prefix fixed cs [] (length end) ∙ append-nil (records_of cs))

all_of : (bytes : List ℕ) (rs : List Record) → StandInFull bytes rs → AreAll bytes rs
all_of bytes rs full cs log = full cs [] (log.0, append-nil bytes ∙ log.1) ∙ ap (λ (w : List ℕ). log_within version_1 (length w) cs) log.1 ∙ all_whole cs

-- ---- records that stand in a log can be kept

each_append : (a b : List Record) → AllByRecursion IsRecord a → AllByRecursion IsRecord b → AllByRecursion IsRecord (a ++ b)
each_append [] b h k = k
each_append (r ∷ a) b h k = (h.0, each_append a b h.1 k)

within_can : (n : ℕ) (rs : List Record) → AllByRecursion IsRecord rs → AllByRecursion IsRecord (records_within fixed.text n rs) × (length (records_within fixed.text n rs) ≤ length rs)
within_can n [] each = (tt, omega arith)
within_can n (r ∷ rs) each = by (leb (length (record_text fixed.text r)) n) (records_within fixed.text (n - length (record_text fixed.text r)) rs) (within_can (n - length (record_text fixed.text r)) rs each.1) where
  by : (t : Bool) (others : List Record) → AllByRecursion IsRecord others × (length others ≤ length rs) → AllByRecursion IsRecord (cond t (r ∷ others) []) × (length (cond t (r ∷ others) []) ≤ length (r ∷ rs))
  by true others more = ((each.0, more.0), omega (arith, more.1))
  by false others more = (tt, omega arith)

chunks_can : (n : ℕ) (cs : List Chunk) → AllByRecursion IsChunk cs → AllByRecursion IsRecord (chunks_within fixed.text n cs) × (length (chunks_within fixed.text n cs) ≤ length (records_of cs))
chunks_can n [] each = (tt, omega arith)
chunks_can n (c ∷ cs) each =
    let here = within_can (n - length (chunk_head fixed.text c)) c.records each.0.each in
    let more = chunks_can (n - length (chunk_text fixed.text c)) cs each.1 in
    let these = records_within fixed.text (n - length (chunk_head fixed.text c)) c.records in
    let others = chunks_within fixed.text (n - length (chunk_text fixed.text c)) cs in
    (each_append these others here.0 more.0, omega (arith, here.1, more.1, length-append these others, length-append c.records (records_of cs)))

can_of : (bytes : List ℕ) (rs : List Record) → BeginsLog bytes → StandInFull bytes rs → CanBeKept rs
can_of bytes rs (cs, more, log) full =
    let can = chunks_can (length bytes - 6) cs log.0.0 in
    subst CanBeKept (sym (full cs more log)) (record { few = omega (arith, can.1, log.0.1); each = can.0 })

-- ---- a log text that begins with bytes begins with their prefixes

begins_prefix : (n : ℕ) (bytes : List ℕ) → BeginsLog bytes → BeginsLog (take n bytes)
begins_prefix n bytes (cs, more, log) =
    let parts : take n bytes ++ (drop n bytes ++ more) ≡ bytes ++ more = sym (append_assoc (take n bytes) (drop n bytes) more) ∙ ap (λ (w : List ℕ). w ++ more) (take-append-drop n bytes) in
    (cs, drop n bytes ++ more, (log.0, parts ∙ log.1))

take_less : {A : Type 0} (k n : ℕ) (xs : List A) → k ≤ n → take k (take n xs) ≡ take k xs
take_less zero n xs le = refl
take_less (suc k) zero xs le = absurd (omega arith)
take_less (suc k) (suc n) [] le = refl
take_less (suc k) (suc n) (x ∷ xs) le = ap (λ (w : List _). x ∷ w) (take_less k n xs (omega arith))

no_wrong : (bytes : List ℕ) → BeginsLog bytes → (n : ℕ) → IsFirstWrong bytes n → ⊥
no_wrong bytes begins n wrong = wrong.here (begins_prefix (n + 1) bytes begins)

no_less : (bytes : List ℕ) (m n : ℕ) → IsFirstWrong bytes m → IsFirstWrong bytes n → m < n → ⊥
no_less bytes m n one other lt = one.here (subst BeginsLog (take_less (m + 1) n bytes (omega arith)) (begins_prefix (m + 1) (take n bytes) other.before))

pub are_kept : (bytes : List ℕ) (rs : List Record) → BeginsLog bytes → StandInFull bytes rs → AreKept bytes rs
are_kept bytes rs begins full = record { begins = begins; full = full; all = all_of bytes rs full; can = can_of bytes rs begins full; right = no_wrong bytes begins }

pub names_wrong : (bytes : List ℕ) (n : ℕ) → IsFirstWrong bytes n → NamesWrong bytes n
names_wrong bytes n wrong = record {
  wrong = wrong;
  alone = λ m other. elim (cases_lt m n) [
    | inl lt ↦ absurd (no_less bytes m n other wrong lt)
    | inr le ↦ elim (cases_lt n m) [
      | inl lt ↦ absurd (no_less bytes n m wrong other lt)
      | inr same ↦ omega arith
    ]
  ];
  begins = λ begins. no_wrong bytes begins n wrong;
}

-- ---- what the result of a reading says of the first wrong byte

pub named_alone : (bytes : List ℕ) (e : Stop) (left : ℕ) (rs : List Record) → e ≡ stop.Wrong left → HasRead bytes (Err e) rs → (n : ℕ) → IsFirstWrong bytes n → n ≡ length bytes - left
named_alone bytes stop.Memory left rs is has n wrong = absurd cc
named_alone bytes stop.Short left rs is has n wrong = absurd cc
named_alone bytes (stop.Wrong k) left rs is has n wrong = let same : k ≡ left = cc in has.1.alone n wrong ∙ ap (λ m. length bytes - m) same

pub short_right : (bytes : List ℕ) (e : Stop) (rs : List Record) → e ≡ stop.Short → HasRead bytes (Err e) rs → (n : ℕ) → IsFirstWrong bytes n → ⊥
short_right bytes stop.Memory rs is has n wrong = absurd cc
short_right bytes stop.Short rs is has n wrong = has.1.right n wrong
short_right bytes (stop.Wrong k) rs is has n wrong = absurd cc
