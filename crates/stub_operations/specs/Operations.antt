-- What is done at the calls of a function, by what its annotations say.
use Rattle.std.specs.Prelude.{ℕ, ◌+◌, Bool, true, false, ◌==◌, List, [], ◌∷◌, ◌++◌, codes, Option, Some, None}
use Rattle.std.specs.List.{list_any}
use Rattle.run_events.specs.declared.key.Class.TheVariants.{User, Async}
use Rattle.stub_core.specs.declared.terms.Size.{Size}
use Rattle.stub_operations.specs.declared.purpose.Purpose.{Purpose}
use Rattle.stub_operations.specs.declared.purpose.Purpose.TheVariants.{Record, Replay}
use Rattle.stub_operations.specs.declared.operation.StubOp.{StubOp}
use Rattle.stub_operations.specs.declared.operation.StubOp.TheVariants.{ReadIn, HoldOut, Prepare, Register, Commit, KeyAtCall, KeyAtRet, CacheRet, Pass}

-- what is said of a parameter: how many bytes are read; the capacity and the used size of what is written;
-- the parameter that is the key of what is written later, and its capacity; that it may be called back
pub record ParameterSays : Type 0 where
  pub reads : Option Size
  pub writes : Option (Size × Size)
  pub prepares : Option (ℕ × Size)
  pub callback : Bool

-- what is said of a function's calls: of its parameters; which of them are keys of the Call and the Ret; the
-- key and the used size of what the Ret releases; that equal results are written once
pub record CallSays : Type 0 where
  pub params : List ParameterSays
  pub sync : List ℕ
  pub commit : Option (ℕ × Size)
  pub cache : Bool

abbrev pub only_if : Bool → StubOp → List StubOp
only_if true op = op ∷ []
only_if false op = []

-- ---- of one parameter, by its place

abbrev pub reading : ℕ → Option Size → List StubOp
reading p (Some size) = ReadIn p size ∷ []
reading p None = []

-- the capacity, and then the used size
abbrev pub holding : ℕ → Option (Size × Size) → List StubOp
holding p (Some (cap, used)) = HoldOut p cap used ∷ []
holding p None = []

abbrev pub preparing : ℕ → Option (ℕ × Size) → List StubOp
preparing p (Some (key, cap)) = Prepare p key cap ∷ []
preparing p None = []

abbrev pub is_among : ℕ → List ℕ → Bool
is_among p qs = list_any (λ (q : ℕ). (q == p)) qs

-- a region is prepared, or released, under the value of the parameter
abbrev pub is_key : ℕ → Option (ℕ × Size) → Bool
is_key p (Some (key, size)) = key == p
is_key p None = false

abbrev pub is_prepared : ℕ → List ParameterSays → Bool
is_prepared p xs = list_any (λ (x : ParameterSays). is_key p x.prepares) xs

-- the keys of the parameter's value, by class, each once
abbrev pub keys_at_call : CallSays → ℕ → List StubOp
keys_at_call n p = only_if (is_among p n.sync) (KeyAtCall User (Some p)) ++
    only_if (is_prepared p n.params) (KeyAtCall Async (Some p))

abbrev pub keys_at_return : CallSays → ℕ → List StubOp
keys_at_return n p = only_if (is_among p n.sync) (KeyAtRet User (Some p)) ++
    only_if (is_key p n.commit) (KeyAtRet Async (Some p))

-- ---- of a function

-- of all parameters, from this place on
abbrev pub by_place : (ℕ → ParameterSays → List StubOp) → ℕ → List ParameterSays → List StubOp
by_place of p [] = []
by_place of p (x ∷ xs) = of p x ++ by_place of (p + 1) xs

abbrev pub committing : Option (ℕ × Size) → List StubOp
committing (Some (key, used)) = Commit key used ∷ []
committing None = []

-- what is done, kind by kind, each kind by parameter
abbrev pub operations : CallSays → List StubOp
operations n =
    by_place (λ p x. reading p x.reads) 0 n.params ++
    by_place (λ p x. holding p x.writes) 0 n.params ++
    by_place (λ p x. preparing p x.prepares) 0 n.params ++
    by_place (λ p x. only_if x.callback (Register p)) 0 n.params ++
    committing n.commit ++
    by_place (λ p x. keys_at_call n p) 0 n.params ++
    by_place (λ p x. keys_at_return n p) 0 n.params ++
    only_if n.cache CacheRet

-- what system code that calls an external does in one step
abbrev pub operations_below : CallSays → List StubOp
operations_below n =
    by_place (λ p x. holding p x.writes) 0 n.params ++
    by_place (λ p x. preparing p x.prepares) 0 n.params ++
    committing n.commit

-- ---- the two sets

-- calls of a run that is recorded go on to what is below; a replay has nothing there
abbrev pub passed : Purpose → List StubOp
passed Record = Pass ∷ []
passed Replay = []

abbrev pub word_of : Purpose → List ℕ
word_of Record = codes "record"
word_of Replay = codes "replay"
