-- The tests of a Ret that pass with the bytes that come up pass without them: used sizes fit, and what is released is in use.
use Rattle.std.proofs.Common.{◌≢◌, inl, inr, ℕ, Bool, false, cond, eqb, List, [], ◌∷◌, Option, Some, None, refl, sym, arith}
use Rattle.std.proofs.lemmas.Bool.{true≢false}
use Rattle.marks.specs.declared.range.Range.{Range}
use Rattle.marks.specs.Ranges.{Piece}
use Rattle.marks.specs.Marks.{Commit, Mark}
use Rattle.marks.specs.Opens.{tail}
use Rattle.replay_runs.specs.Runs.{Start}
use Rattle.replay_runs.specs.Interface.{Committing, Interface}
use Rattle.replay_runs.specs.Pool.{in_use}
use Rattle.replay_runs.specs.Checks.{Answered, Checks, Done, IsSpoiled, Passes, commit_size_check, first_length, replayed, return_checks, size_check, size_checks}
use Rattle.replay_runs.specs.Returns.{IsAnnotated, KeepsSizes}
use Rattle.replay_runs.proofs.Returns.{exact}

-- ---- regions, whatever is found of them

unspoiled : (changed : ℕ → Bool) (piece n : ℕ) (r : Range) → (IsSpoiled changed piece r n → ⊥) → IsSpoiled (λ x. false) 0 r n → ⊥
unspoiled changed piece n r none (inl short) = omega (arith, short)
unspoiled changed piece n r none (inr (inl over)) = none (inr (inl over))
unspoiled changed piece n r none (inr (inr past)) = true≢false (sym past.3)

size_weaker : (changed : ℕ → Bool) (piece n : ℕ) (r : Range) (A B : Checks) → (Passes A → Passes B) →
    Passes (size_check changed piece r n A) → Passes (size_check (λ x. false) 0 r n B)
size_weaker changed piece n r A B go h = ((λ x b. unspoiled changed piece n r (λ z. h.0 x (b.0, z)) b.1), go h.1)

sizes_weaker : (changed : ℕ → Bool) (pieces : List ℕ) (rs : List Range) (ns : List ℕ) (A B : Checks) → (Passes A → Passes B) →
    Passes (size_checks changed pieces rs ns A) → Passes (size_checks (λ x. false) [] rs ns B)
sizes_weaker changed pieces [] ns A B go h = go h
sizes_weaker changed pieces (r ∷ rs) [] A B go h = go h
sizes_weaker changed pieces (r ∷ rs) (n ∷ ns) A B go h =
    size_weaker changed (first_length pieces) n r (size_checks changed (tail pieces) rs ns A) (size_checks (λ x. false) [] rs ns B)
    (sizes_weaker changed (tail pieces) rs ns A B go) h

commit_weaker : (changed : ℕ → Bool) (piece : ℕ) (o : Option Range) (n : ℕ) →
    Passes (commit_size_check changed piece o n Done) → Passes (commit_size_check (λ x. false) 0 o n Done)
commit_weaker changed piece None n h = h
commit_weaker changed piece (Some r) n h = size_weaker changed piece (cond (eqb r.addr 0) 0 n) r Done Done (λ z. z) h

-- ---- all tests

-- the region of a key under which bytes are committed is in use
abbrev pub InUseFor : Start → List Mark → (key : ℕ) → (used : Option ℕ) → Type 0
InUseFor s q k None = Unit {0}
InUseFor s q k (Some n) = in_use s k q ≢ None

abbrev pub InUse : Start → List Mark → Option Committing → Type 0
InUse s q None = Unit {0}
InUse s q (Some c) = InUseFor s q c.key c.used

module _ (i : Interface) (s : Start) (q : List Mark) (a : Answered) (f : ℕ) (args : List ℕ) (v : ℕ) where
  -- of a function that commits this
  abbrev by_commit : Option Committing → Answered → Checks
  by_commit o b = return_checks (record i { commits = λ g bs r. o }) s q b f args v

  weaker_used : (k : ℕ) (o : Option ℕ) → Passes (by_commit (Some (record { key = k; used = o })) a) →
      Passes (by_commit (Some (record { key = k; used = o })) replayed)
  weaker_used k None h = sizes_weaker a.changed a.pieces (i.outs f args) (i.used f args v) Done Done (λ z. z) h
  weaker_used k (Some n) h = (
    h.0,
    sizes_weaker a.changed a.pieces (i.outs f args) (i.used f args v)
        (commit_size_check a.changed a.committed (in_use s k q) n Done) (commit_size_check (λ x. false) 0 (in_use s k q) n Done)
        (commit_weaker a.changed a.committed (in_use s k q) n) h.1,
  )

  weaker_by : (o : Option Committing) → Passes (by_commit o a) → Passes (by_commit o replayed)
  weaker_by None h = sizes_weaker a.changed a.pieces (i.outs f args) (i.used f args v) Done Done (λ z. z) h
  weaker_by (Some c) h = weaker_used c.key c.used h

  pub keeps_sizes : (outs : List Piece) (commit : Commit) → IsAnnotated i s q f args v outs commit →
      Passes (return_checks i s q a f args v) → KeepsSizes i s q f args v outs commit
  keeps_sizes outs commit annotated h = (exact i s q f args v outs commit annotated).0 (weaker_by (i.commits f args v) h)

  in_use_by : (o : Option Committing) → Passes (by_commit o a) → InUse s q o
  in_use_by None h = tt
  in_use_by (Some c) h = used c.used h
    where
      used : (o : Option ℕ) → Passes (by_commit (Some (record { key = c.key; used = o })) a) → InUseFor s q c.key o
      used None z = tt
      used (Some n) z = λ e. z.0 c.key (refl, e)

  pub committed_in_use : Passes (return_checks i s q a f args v) → InUse s q (i.commits f args v)
  committed_in_use h = in_use_by (i.commits f args v) h
