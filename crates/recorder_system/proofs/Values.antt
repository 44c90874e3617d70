-- Arguments of builtins that take an int.
use Rattle.std.proofs.Common.{◌≡◌, ℕ, zero, suc, true, List, [], ◌∷◌, Some, refl, sym, subst}
use Rattle.std.specs.Prelude.{slice_get}
use Rattle.std.proofs.lemmas.Bool.{and_parts, true≢false}
use Rattle.c_code.specs.declared.code.FuncInfo.{FuncInfo}
use Rattle.c_code.specs.Builtins.{AreBuiltins, int, prototypes}
use Rattle.c_code.specs.Frames.{are_values}
use Rattle.c_code.specs.Values.{is_value}
use Rattle.c_code.specs.Machine.{Laid, first}
use Rattle.c_code.specs.MarkLists.{takes_values}
use Rattle.c_code.specs.Valid.{IsValid}
use Rattle.c_code.specs.Typed.{AreArguments}
use Rattle.recorder_system.specs.Stands.{IsInt}
use Rattle.recorder_system.specs.Calls.{HasInt}

abbrev TakesOne : List FuncInfo → (i : ℕ) → Type 0
TakesOne fs i = (f : FuncInfo) × (slice_get fs i ≡ Some f) × (f.params ≡ int ∷ [])

pub record ThreeTakeOne (fs : List FuncInfo) : Type 0 where
  join : TakesOne fs 3
  lock : TakesOne fs 4
  unlock : TakesOne fs 5

take_one : (fs : List FuncInfo) → AreBuiltins fs prototypes → ThreeTakeOne fs
take_one [] h = absurd h
take_one (a ∷ []) h = absurd h.1
take_one (a ∷ (b ∷ [])) h = absurd h.1.1
take_one (a ∷ (b ∷ (c ∷ []))) h = absurd h.1.1.1
take_one (a ∷ (b ∷ (c ∷ (d ∷ [])))) h = absurd h.1.1.1.1
take_one (a ∷ (b ∷ (c ∷ (d ∷ (e ∷ []))))) h = absurd h.1.1.1.1.1
take_one (a ∷ (b ∷ (c ∷ (d ∷ (e ∷ (f ∷ fs)))))) h = record {
  join = (d, refl, h.1.1.1.0.params);
  lock = (e, refl, h.1.1.1.1.0.params);
  unlock = (f, refl, h.1.1.1.1.1.0.params);
}

first_int : (args : List ℕ) → are_values (int ∷ []) args ≡ true → IsInt (first args)
first_int [] h = absurd (true≢false (sym h))
first_int (v ∷ vs) h = (and_parts (is_value int v) (are_values [] vs) h).0

taken : (fs : List FuncInfo) (i : ℕ) (args : List ℕ) → TakesOne fs i → takes_values (slice_get fs i) args ≡ true → IsInt (first args)
taken fs i args t h = first_int args (subst (λ ps. are_values ps args ≡ true) t.2 (subst (λ o. takes_values o args ≡ true) t.1 h))

pub ints : (l : Laid) (f : ℕ) (args : List ℕ) → IsValid l.code → AreArguments l f args → HasInt f args
ints l zero args valid h = tt
ints l (suc zero) args valid h = tt
ints l (suc (suc zero)) args valid h = tt
ints l (suc (suc (suc zero))) args valid h = taken l.code.builtins 3 args (take_one l.code.builtins valid.builtins).join h
ints l (suc (suc (suc (suc zero)))) args valid h = taken l.code.builtins 4 args (take_one l.code.builtins valid.builtins).lock h
ints l (suc (suc (suc (suc (suc zero))))) args valid h = taken l.code.builtins 5 args (take_one l.code.builtins valid.builtins).unlock h
ints l (suc (suc (suc (suc (suc (suc zero)))))) args valid h = tt
ints l (suc (suc (suc (suc (suc (suc (suc f))))))) args valid h = tt
