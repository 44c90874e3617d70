-- What two calls of a function have in common.
use Rattle.std.proofs.Common.{◌≡◌, ℕ, Option, Some, None, ◌||◌, List, [], ◌∷◌, ◌++◌, refl, ap, ◌∙◌}
use Rattle.c_code.specs.Machine.{Flat}
use Rattle.stub_operations.specs.declared.operation.StubOp.{StubOp}
use Rattle.stub_operations.specs.declared.operation.StubOp.TheVariants.{ReadIn, HoldOut, Prepare, Register, Commit, KeyAtCall, KeyAtRet, CacheRet, Pass}
use Rattle.stub_meaning.specs.Calls.{Called, done, done_by, key_value}
use Rattle.replay_runs.specs.Keys.{key}
use Rattle.stub_calls.specs.Laws.{CachingIsOfTheFunction, HaveSameKeys, KeysAreOfArguments}

joined : {X : Type 0} {a b c d : List X} → a ≡ b → c ≡ d → a ++ c ≡ b ++ d
joined {X} {a} {b} {c} {d} p q = ap (λ xs. xs ++ c) p ∙ ap (λ xs. b ++ xs) q

module _ (code : Flat) (c : Called) (result : ℕ) where
  abbrev other : Called
  other = record c { result = result }

  key_so : (o : Option ℕ) → key_value c o ≡ key_value other o
  key_so (Some p) = refl
  key_so None = refl

  by : (op : StubOp) → HaveSameKeys (done_by code c op) (done_by code other op)
  by (ReadIn p size) = record { at_call = refl; at_return = refl; registers = refl }
  by (HoldOut p cap used) = record { at_call = refl; at_return = refl; registers = refl }
  by (Prepare p k cap) = record { at_call = refl; at_return = refl; registers = refl }
  by (Register p) = record { at_call = refl; at_return = refl; registers = refl }
  by (Commit k used) = record { at_call = refl; at_return = refl; registers = refl }
  by (KeyAtCall class p) = record { at_call = ap (λ v. key class v ∷ []) (key_so p); at_return = refl; registers = refl }
  by (KeyAtRet class p) = record { at_call = refl; at_return = ap (λ v. key class v ∷ []) (key_so p); registers = refl }
  by CacheRet = record { at_call = refl; at_return = refl; registers = refl }
  by Pass = record { at_call = refl; at_return = refl; registers = refl }

  all : (ops : List StubOp) → HaveSameKeys (done code c ops) (done code other ops)
  all [] = record { at_call = refl; at_return = refl; registers = refl }
  all (op ∷ ops) =
      let one = by op in
      let rest = all ops in
      record {
        at_call = joined one.at_call rest.at_call;
        at_return = joined one.at_return rest.at_return;
        registers = joined one.registers rest.registers;
      }

pub keys : KeysAreOfArguments
keys = all

cached_by : (code : Flat) (c d : Called) (op : StubOp) → (done_by code c op).is_cached ≡ (done_by code d op).is_cached
cached_by code c d (ReadIn p size) = refl
cached_by code c d (HoldOut p cap used) = refl
cached_by code c d (Prepare p k cap) = refl
cached_by code c d (Register p) = refl
cached_by code c d (Commit k used) = refl
cached_by code c d (KeyAtCall class p) = refl
cached_by code c d (KeyAtRet class p) = refl
cached_by code c d CacheRet = refl
cached_by code c d Pass = refl

pub cached : CachingIsOfTheFunction
cached code c d [] = refl
cached code c d (op ∷ ops) = ap (λ b. b || (done code c ops).is_cached) (cached_by code c d op) ∙ ap (λ b. (done_by code d op).is_cached || b) (cached code c d ops)
