-- How many regions and releases operations have, whatever a call's arguments.
use Rattle.std.proofs.Common.{◌≡◌, ◌≤◌, ℕ, ◌+◌, Bool, true, false, cond, List, [], ◌∷◌, ◌++◌, length, length-append, map, Option, Some, None, refl, ap, ◌∙◌, arith}
use Rattle.std.specs.Prelude.{count_by, is_some}
use Rattle.std.proofs.lemmas.List.{take_all}
use Rattle.std.proofs.lemmas.List.Recursion.{is_count_by}
use Rattle.run_events.specs.declared.key.Class.{Class}
use Rattle.run_events.specs.declared.key.Class.TheVariants.{User, Async}
use Rattle.c_code.specs.Machine.{Flat}
use Rattle.stub_core.specs.declared.terms.Size.{Size}
use Rattle.annot_reader_words.specs.declared.notes.Annots.{Annots}
use Rattle.annot_reader_words.specs.declared.notes.Param.{Param}
use Rattle.stub_operations.specs.declared.operation.StubOp.{StubOp}
use Rattle.stub_operations.specs.declared.operation.StubOp.TheVariants.{ReadIn, HoldOut, Prepare, Register, Commit, KeyAtCall, KeyAtRet, CacheRet, Pass}
use Rattle.stub_operations.specs.Operations.{CallSays, ParameterSays, by_place, committing, holding, is_among, is_key, is_prepared, keys_at_call, keys_at_return, only_if, operations, operations_below, preparing, reading}
use Rattle.stub_meaning.specs.Calls.{Called, done, done_by}
use Rattle.stub_meaning.specs.Meaning.{first_of}
use Rattle.call_operations.specs.Said.{call_says, parameter_says}
use Rattle.whole_runs.specs.Fits.{committed}
use Rattle.sys_script.specs.Externals.{pieces_of}

-- ---- operations that count

abbrev holds : StubOp → ℕ
holds (ReadIn p size) = 0
holds (HoldOut p cap used) = 1
holds (Prepare p k cap) = 0
holds (Register p) = 0
holds (Commit k used) = 0
holds (KeyAtCall class p) = 0
holds (KeyAtRet class p) = 0
holds CacheRet = 0
holds Pass = 0

abbrev commits : StubOp → ℕ
commits (ReadIn p size) = 0
commits (HoldOut p cap used) = 0
commits (Prepare p k cap) = 0
commits (Register p) = 0
commits (Commit k used) = 1
commits (KeyAtCall class p) = 0
commits (KeyAtRet class p) = 0
commits CacheRet = 0
commits Pass = 0

abbrev weigh : (StubOp → ℕ) → List StubOp → ℕ
weigh w [] = 0
weigh w (op ∷ ops) = w op + weigh w ops

weigh_both : (w : StubOp → ℕ) (xs ys : List StubOp) → weigh w (xs ++ ys) ≡ weigh w xs + weigh w ys
weigh_both w [] ys = omega arith
weigh_both w (x ∷ xs) ys = let n = weigh_both w xs ys in omega (arith, n)

-- what is done has so many regions and releases
module _ (code : Flat) (c : Called) where
  one_out : (op : StubOp) → length (done_by code c op).outs ≡ holds op
  one_out (ReadIn p size) = refl
  one_out (HoldOut p cap used) = refl
  one_out (Prepare p k cap) = refl
  one_out (Register p) = refl
  one_out (Commit k used) = refl
  one_out (KeyAtCall class p) = refl
  one_out (KeyAtRet class p) = refl
  one_out CacheRet = refl
  one_out Pass = refl

  one_commit : (op : StubOp) → length (done_by code c op).commits ≡ commits op
  one_commit (ReadIn p size) = refl
  one_commit (HoldOut p cap used) = refl
  one_commit (Prepare p k cap) = refl
  one_commit (Register p) = refl
  one_commit (Commit k used) = refl
  one_commit (KeyAtCall class p) = refl
  one_commit (KeyAtRet class p) = refl
  one_commit CacheRet = refl
  one_commit Pass = refl

  outs_many : (ops : List StubOp) → length (done code c ops).outs ≡ weigh holds ops
  outs_many [] = refl
  outs_many (op ∷ ops) =
      let both = length-append (done_by code c op).outs (done code c ops).outs in
      let here = one_out op in
      let later = outs_many ops in
      omega (arith, both, here, later)

  commits_many : (ops : List StubOp) → length (done code c ops).commits ≡ weigh commits ops
  commits_many [] = refl
  commits_many (op ∷ ops) =
      let both = length-append (done_by code c op).commits (done code c ops).commits in
      let here = one_commit op in
      let later = commits_many ops in
      omega (arith, both, here, later)

committed_many : {A : Type 0} (xs : List A) → length xs ≤ 1 → committed (is_some (first_of xs)) ≡ length xs
committed_many [] h = refl
committed_many (x ∷ []) h = refl
committed_many (x ∷ y ∷ xs) h = absurd (omega (arith, h))

-- ---- of a function

-- what counts nothing for each parameter counts nothing
none_by_place : (w : StubOp → ℕ) (of : ℕ → ParameterSays → List StubOp) → ((p : ℕ) (x : ParameterSays) → weigh w (of p x) ≡ 0) → (p : ℕ) (xs : List ParameterSays) → weigh w (by_place of p xs) ≡ 0
none_by_place w of h p [] = refl
none_by_place w of h p (x ∷ xs) =
    let both = weigh_both w (of p x) (by_place of (p + 1) xs) in
    let here = h p x in
    let later = none_by_place w of h (p + 1) xs in
    omega (arith, both, here, later)

module _ (w : StubOp → ℕ) (reads : (p : ℕ) (s : Size) → w (ReadIn p s) ≡ 0) (prepares : (p k : ℕ) (s : Size) → w (Prepare p k s) ≡ 0) (registers : (p : ℕ) → w (Register p) ≡ 0)
    (calls : (class : Class) (p : Option ℕ) → w (KeyAtCall class p) ≡ 0) (returns : (class : Class) (p : Option ℕ) → w (KeyAtRet class p) ≡ 0) (caches : w CacheRet ≡ 0) (passes : w Pass ≡ 0) where
  no_read : (p : ℕ) (o : Option Size) → weigh w (reading p o) ≡ 0
  no_read p (Some s) = let n = reads p s in omega (arith, n)
  no_read p None = refl

  no_prepare : (p : ℕ) (o : Option (ℕ × Size)) → weigh w (preparing p o) ≡ 0
  no_prepare p (Some (k, s)) = let n = prepares p k s in omega (arith, n)
  no_prepare p None = refl

  no_only : (b : Bool) (op : StubOp) → w op ≡ 0 → weigh w (only_if b op) ≡ 0
  no_only true op h = omega (arith, h)
  no_only false op h = refl

  no_call : (n : CallSays) (p : ℕ) → weigh w (keys_at_call n p) ≡ 0
  no_call n p =
      let a = no_only (is_among p n.sync) (KeyAtCall User (Some p)) (calls User (Some p)) in
      let b = no_only (is_prepared p n.params) (KeyAtCall Async (Some p)) (calls Async (Some p)) in
      let both = weigh_both w (only_if (is_among p n.sync) (KeyAtCall User (Some p))) (only_if (is_prepared p n.params) (KeyAtCall Async (Some p))) in
      omega (arith, a, b, both)

  no_return : (n : CallSays) (p : ℕ) → weigh w (keys_at_return n p) ≡ 0
  no_return n p =
      let a = no_only (is_among p n.sync) (KeyAtRet User (Some p)) (returns User (Some p)) in
      let b = no_only (is_key p n.commit) (KeyAtRet Async (Some p)) (returns Async (Some p)) in
      let both = weigh_both w (only_if (is_among p n.sync) (KeyAtRet User (Some p))) (only_if (is_key p n.commit) (KeyAtRet Async (Some p))) in
      omega (arith, a, b, both)

  abbrev counts : CallSays → ℕ
  counts n = weigh w (by_place (λ p x. holding p x.writes) 0 n.params) + weigh w (committing n.commit)

  -- what is written and what is committed counts alone
  above_counts : (n : CallSays) → weigh w (operations n ++ Pass ∷ []) ≡ counts n
  above_counts n =
      let r = by_place (λ p x. reading p x.reads) 0 n.params in
      let h = by_place (λ p x. holding p x.writes) 0 n.params in
      let q = by_place (λ p x. preparing p x.prepares) 0 n.params in
      let g = by_place (λ p x. only_if x.callback (Register p)) 0 n.params in
      let k = committing n.commit in
      let a = by_place (λ p x. keys_at_call n p) 0 n.params in
      let b = by_place (λ p x. keys_at_return n p) 0 n.params in
      let z = only_if n.cache CacheRet in
      let e0 : weigh w (operations n ++ Pass ∷ []) ≡ weigh w (operations n) + (w Pass + 0) = weigh_both w (operations n) (Pass ∷ []) in
      let e1 : weigh w (operations n) ≡ weigh w (r ++ h ++ q ++ g ++ k ++ a ++ b) + weigh w z = weigh_both w (r ++ h ++ q ++ g ++ k ++ a ++ b) z in
      let e2 = weigh_both w (r ++ h ++ q ++ g ++ k ++ a) b in
      let e3 = weigh_both w (r ++ h ++ q ++ g ++ k) a in
      let e4 = weigh_both w (r ++ h ++ q ++ g) k in
      let e5 = weigh_both w (r ++ h ++ q) g in
      let e6 = weigh_both w (r ++ h) q in
      let e7 = weigh_both w r h in
      let n1 = none_by_place w (λ p x. reading p x.reads) (λ p x. no_read p x.reads) 0 n.params in
      let n2 = none_by_place w (λ p x. preparing p x.prepares) (λ p x. no_prepare p x.prepares) 0 n.params in
      let n3 = none_by_place w (λ p x. only_if x.callback (Register p)) (λ p x. no_only x.callback (Register p) (registers p)) 0 n.params in
      let n4 = none_by_place w (λ p x. keys_at_call n p) (λ p x. no_call n p) 0 n.params in
      let n5 = none_by_place w (λ p x. keys_at_return n p) (λ p x. no_return n p) 0 n.params in
      let n6 = no_only n.cache CacheRet caches in
      omega (arith, e0, e1, e2, e3, e4, e5, e6, e7, n1, n2, n3, n4, n5, n6, passes)

  below_counts : (n : CallSays) → weigh w (operations_below n) ≡ counts n
  below_counts n =
      let h = by_place (λ p x. holding p x.writes) 0 n.params in
      let q = by_place (λ p x. preparing p x.prepares) 0 n.params in
      let k = committing n.commit in
      let e1 : weigh w (operations_below n) ≡ weigh w (h ++ q) + weigh w k = weigh_both w (h ++ q) k in
      let e2 = weigh_both w h q in
      let n1 = none_by_place w (λ p x. preparing p x.prepares) (λ p x. no_prepare p x.prepares) 0 n.params in
      omega (arith, e1, e2, n1)

-- ---- what annotations say

abbrev is_written : Param → Bool
is_written p = is_some p.writes

abbrev written : List Param → ℕ
written [] = 0
written (x ∷ ps) = cond (is_written x) (1 + written ps) (written ps)

held_by : (ps : List Param) (p : ℕ) → weigh holds (by_place (λ p x. holding p x.writes) p (map parameter_says ps)) ≡ written ps
held_by [] p = refl
held_by (x ∷ ps) p = by x.writes (held_by ps (p + 1))
  where
    rest : List StubOp
    rest = by_place (λ p x. holding p x.writes) (p + 1) (map parameter_says ps)

    by : (o : Option (Size × Size)) → weigh holds rest ≡ written ps → weigh holds (holding p o ++ rest) ≡ cond (is_some o) (1 + written ps) (written ps)
    by (Some (cap, used)) later = omega (arith, later)
    by None later = later

held : (ps : List Param) (p : ℕ) → weigh holds (by_place (λ p x. holding p x.writes) p (map parameter_says ps)) ≡ count_by is_written ps
held ps p = held_by ps p ∙ is_count_by written is_written refl (λ x xs. refl) ps

none_released : (ps : List ParameterSays) (p : ℕ) → weigh commits (by_place (λ p x. holding p x.writes) p ps) ≡ 0
none_released ps p = none_by_place commits (λ p x. holding p x.writes) (λ p x. one p x.writes) p ps
  where
    one : (p : ℕ) (o : Option (Size × Size)) → weigh commits (holding p o) ≡ 0
    one p (Some (cap, used)) = refl
    one p None = refl

none_held : (o : Option (ℕ × Size)) → weigh holds (committing o) ≡ 0
none_held (Some (k, used)) = refl
none_held None = refl

released : (o : Option (ℕ × Size)) → weigh commits (committing o) ≡ cond (is_some o) 1 0
released (Some (k, used)) = refl
released None = refl

few_released : (b : Bool) → cond b 1 0 ≤ 1
few_released true = omega arith
few_released false = omega arith

-- operations of a function that count what its annotations say have as many regions and releases as its answers have pieces
pub pieces_many : (code : Flat) (c e : Called) (a : Annots) (ops : List StubOp) → length a.params ≤ 256 →
    weigh holds ops ≡ weigh holds (by_place (λ p x. holding p x.writes) 0 (call_says a).params) + weigh holds (committing a.commit) →
    weigh commits ops ≡ weigh commits (by_place (λ p x. holding p x.writes) 0 (call_says a).params) + weigh commits (committing a.commit) →
    length (done code c ops).outs + committed (is_some (first_of (done code e ops).commits)) ≡ pieces_of a
pieces_many code c e a ops few outs releases =
    let all : (call_says a).params ≡ map parameter_says a.params = ap (map parameter_says) (take_all 256 a.params few) in
    let h1 = ap (λ (xs : List ParameterSays). weigh holds (by_place (λ p x. holding p x.writes) 0 xs)) all ∙ held a.params 0 in
    let h2 = none_held a.commit in
    let k1 = none_released (call_says a).params 0 in
    let k2 = released a.commit in
    let o = outs_many code c ops in
    let r = commits_many code e ops in
    let some : length (done code e ops).commits ≤ 1 = (let f = few_released (is_some a.commit) in omega (arith, r, releases, k1, k2, f)) in
    let m = committed_many (done code e ops).commits some in
    omega (arith, o, r, outs, releases, h1, h2, k1, k2, m)

pub above_pieces : (code : Flat) (c e : Called) (a : Annots) → length a.params ≤ 256 →
    length (done code c (operations (call_says a) ++ Pass ∷ [])).outs + committed (is_some (first_of (done code e (operations (call_says a) ++ Pass ∷ [])).commits)) ≡ pieces_of a
above_pieces code c e a few =
    pieces_many code c e a (operations (call_says a) ++ Pass ∷ []) few
    (above_counts holds (λ p s. refl) (λ p k s. refl) (λ p. refl) (λ class p. refl) (λ class p. refl) refl refl (call_says a))
    (above_counts commits (λ p s. refl) (λ p k s. refl) (λ p. refl) (λ class p. refl) (λ class p. refl) refl refl (call_says a))

pub below_pieces : (code : Flat) (c e : Called) (a : Annots) → length a.params ≤ 256 →
    length (done code c (operations_below (call_says a))).outs + committed (is_some (first_of (done code e (operations_below (call_says a))).commits)) ≡ pieces_of a
below_pieces code c e a few =
    pieces_many code c e a (operations_below (call_says a)) few
    (below_counts holds (λ p s. refl) (λ p k s. refl) (λ p. refl) (λ class p. refl) (λ class p. refl) refl refl (call_says a))
    (below_counts commits (λ p s. refl) (λ p k s. refl) (λ p. refl) (λ class p. refl) (λ class p. refl) refl refl (call_says a))
