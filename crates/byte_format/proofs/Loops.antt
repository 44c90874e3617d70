-- Reading items one after the other, as a loop does.
use Rattle.std.proofs.Common.{◌≡◌, ℕ, suc, ◌-◌, ◌+◌, ◌≤◌, ◌<◌, List, [], ◌∷◌, ◌++◌, length, get_or, drop, refl, sym, ap, ◌∙◌, append_assoc, add-one, drop-cons, arith}
use Rattle.std.proofs.lemmas.List.{append-nil}
use Rattle.std.proofs.Math.ListN.{drop_of_length-le}
use Rattle.byte_format.specs.declared.stop.Stop.{Stop}
use Rattle.byte_format.specs.declared.stop.Stop.TheVariants as stop
use Rattle.byte_format.specs.Reading.{Reading, Done, Short, Wrong, ◌>>=◌, Stops, StopsAfter, list_at, read_list, with_prefix, coded_at, only, literal_at}
use Rattle.byte_format.proofs.Readers.{done_is}

regroup : {A : Type 0} (prefix : List A) (x : A) (reading : Reading (List A)) → with_prefix prefix (reading >>= λ y. Done (x ∷ y.0, y.1)) ≡ with_prefix (prefix ++ x ∷ []) reading
regroup prefix x (Done y) = ap (λ xs. Done (xs, y.1)) (simp append_assoc)
regroup prefix x Short = refl
regroup prefix x (Wrong n) = refl

pub goes_on : {A : Type 0} (item : List ℕ → Reading A) (prefix : List A) (count i : ℕ) (bytes : List ℕ) (x : A) (rest : List ℕ) (total : Reading (List A)) → i < count → item bytes ≡ Done (x, rest)
    → with_prefix prefix (list_at item (count - i) bytes) ≡ total → with_prefix (prefix ++ x ∷ []) (list_at item (count - (i + 1)) rest) ≡ total
unfolding list_at
goes_on item prefix count i bytes x rest total lt h so_far =
    let k : count - i ≡ suc (count - (i + 1)) = omega arith in
    let one : with_prefix prefix (list_at item (count - i) bytes) ≡ with_prefix (prefix ++ x ∷ []) (list_at item (count - (i + 1)) rest) = rw (k, h) (regroup prefix x (list_at item (count - (i + 1)) rest)) in
    sym one ∙ so_far

pub ends : {A : Type 0} (e : Stop) (item : List ℕ → Reading A) (prefix : List A) (count i : ℕ) (bytes : List ℕ) (total : Reading (List A)) → i < count → Stops e (item bytes)
    → with_prefix prefix (list_at item (count - i) bytes) ≡ total → Stops e total
unfolding list_at
ends stop.Memory item prefix count i bytes total lt h so_far = tt
ends stop.Short item prefix count i bytes total lt h so_far =
    let k : count - i ≡ suc (count - (i + 1)) = omega arith in
    let one : with_prefix prefix (list_at item (count - i) bytes) ≡ Short = rw (k, h) refl in
    sym so_far ∙ one
ends (stop.Wrong n) item prefix count i bytes total lt h so_far =
    let k : count - i ≡ suc (count - (i + 1)) = omega arith in
    let one : with_prefix prefix (list_at item (count - i) bytes) ≡ Wrong n = rw (k, h) refl in
    sym so_far ∙ one

pub is_done : {A : Type 0} (item : List ℕ → Reading A) (prefix : List A) (count i : ℕ) (bytes : List ℕ) (total : Reading (List A)) → count ≤ i → with_prefix prefix (list_at item (count - i) bytes) ≡ total → total ≡ Done (prefix, bytes)
unfolding list_at
is_done item prefix count i bytes total le so_far =
    let k : count - i ≡ 0 = omega arith in
    let one : with_prefix prefix (list_at item (count - i) bytes) ≡ Done (prefix, bytes) = rw k (ap (λ xs. Done (xs, bytes)) (append-nil prefix)) in
    sym so_far ∙ one

-- the same of what was read before a stop
pub reads_more : {A : Type 0} (item : List ℕ → Reading A) (prefix : List A) (count i : ℕ) (bytes : List ℕ) (x : A) (rest : List ℕ) (total : List A) → i < count → item bytes ≡ Done (x, rest)
    → prefix ++ read_list item (count - i) bytes ≡ total → (prefix ++ x ∷ []) ++ read_list item (count - (i + 1)) rest ≡ total
unfolding read_list
reads_more item prefix count i bytes x rest total lt h so_far =
    let k : count - i ≡ suc (count - (i + 1)) = omega arith in
    let one : prefix ++ read_list item (count - i) bytes ≡ (prefix ++ x ∷ []) ++ read_list item (count - (i + 1)) rest = rw (k, h) (simp append_assoc) in
    sym one ∙ so_far

pub reads_last : {A : Type 0} (item : List ℕ → Reading A) (prefix : List A) (count i : ℕ) (bytes : List ℕ) (total : List A) → i < count → item bytes ≡ Short
    → prefix ++ read_list item (count - i) bytes ≡ total → prefix ≡ total
unfolding read_list
reads_last item prefix count i bytes total lt h so_far =
    let k : count - i ≡ suc (count - (i + 1)) = omega arith in
    let one : prefix ++ read_list item (count - i) bytes ≡ prefix = rw (k, h) (append-nil prefix) in
    sym one ∙ so_far

prefix_short : {A : Type 0} (prefix : List A) (reading : Reading (List A)) → with_prefix prefix reading ≡ Short → reading ≡ Short
prefix_short prefix (Done x) e = absurd cc
prefix_short prefix Short e = refl
prefix_short prefix (Wrong n) e = absurd cc

prefix_wrong : {A : Type 0} (prefix : List A) (reading : Reading (List A)) (n : ℕ) → with_prefix prefix reading ≡ Wrong n → reading ≡ Wrong n
prefix_wrong prefix (Done x) n e = absurd cc
prefix_wrong prefix Short n e = absurd cc
prefix_wrong prefix (Wrong m) n e = e

pub ends_after : {A : Type 0} (e : Stop) (item : List ℕ → Reading A) (old prefix : List A) (count i : ℕ) (bytes : List ℕ) (total : Reading (List A)) (read : List A) → i < count → Stops e (item bytes)
    → with_prefix prefix (list_at item (count - i) bytes) ≡ with_prefix old total → prefix ++ read_list item (count - i) bytes ≡ old ++ read → StopsAfter old prefix e total read
ends_after stop.Memory item old prefix count i bytes total read lt h so_far was_read = tt
ends_after stop.Short item old prefix count i bytes total read lt h so_far was_read =
    (prefix_short old total (ends stop.Short item prefix count i bytes (with_prefix old total) lt h so_far), reads_last item prefix count i bytes (old ++ read) lt h was_read)
ends_after (stop.Wrong n) item old prefix count i bytes total read lt h so_far was_read =
    prefix_wrong old total n (ends (stop.Wrong n) item prefix count i bytes (with_prefix old total) lt h so_far)

-- ---- these very bytes

pub literal_goes_on : (expected : List ℕ) (i : ℕ) (bytes : List ℕ) (x : ℕ) (rest : List ℕ) (total : Reading (Unit {0})) → i < length expected → coded_at (only (get_or expected i 0)) bytes ≡ Done (x, rest)
    → literal_at (drop i expected) bytes ≡ total → literal_at (drop (i + 1) expected) rest ≡ total
unfolding literal_at
literal_goes_on expected i bytes x rest total lt h so_far =
    let one : literal_at (drop i expected) bytes ≡ literal_at (drop (i + 1) expected) rest = rw (add-one, drop-cons expected i 0, h) refl in
    sym one ∙ so_far

pub literal_ends : (e : Stop) (expected : List ℕ) (i : ℕ) (bytes : List ℕ) (total : Reading (Unit {0})) → i < length expected → Stops e (coded_at (only (get_or expected i 0)) bytes)
    → literal_at (drop i expected) bytes ≡ total → Stops e total
unfolding literal_at
literal_ends stop.Memory expected i bytes total lt h so_far = tt
literal_ends stop.Short expected i bytes total lt h so_far =
    let one : literal_at (drop i expected) bytes ≡ Short = rw (drop-cons expected i 0, h) refl in
    sym so_far ∙ one
literal_ends (stop.Wrong n) expected i bytes total lt h so_far =
    let one : literal_at (drop i expected) bytes ≡ Wrong n = rw (drop-cons expected i 0, h) refl in
    sym so_far ∙ one

pub literal_done : (expected : List ℕ) (i : ℕ) (bytes : List ℕ) (total : Reading (Unit {0})) → length expected ≤ i → literal_at (drop i expected) bytes ≡ total → total ≡ Done (tt, bytes)
unfolding literal_at
literal_done expected i bytes total le so_far =
    let one : literal_at (drop i expected) bytes ≡ Done (tt, bytes) = rw (drop_of_length-le expected le) refl in
    sym so_far ∙ one

-- ---- items that are added to others

pub prefix_done : {A : Type 0} (prefix : List A) (reading : Reading (List A)) (x : List A × List ℕ) → with_prefix prefix reading ≡ Done x → (y : List A × List ℕ) × (reading ≡ Done y) × (prefix ++ y.0 ≡ x.0) × (y.1 ≡ x.1)
prefix_done prefix (Done y) x e = (y, refl, ap (λ p. p.0) (done_is (prefix ++ y.0, y.1) x e), ap (λ p. p.1) (done_is (prefix ++ y.0, y.1) x e))
prefix_done prefix Short x e = absurd cc
prefix_done prefix (Wrong n) x e = absurd cc
