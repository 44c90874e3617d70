-- Each thread of a run is one of the code, and stays within the cut.
use Rattle.std.proofs.Common.{◌≡◌, ℕ, ◌-◌, Bool, true, false, cond, ◌&&◌, eqb, leb, List, [], ◌∷◌, Option, Some, None, refl, ap, ◌∙◌, subst, arith, eq-eqb}
use Rattle.std.specs.Prelude.{◌/◌, ◌*◌}
use Rattle.std.proofs.Math.Nat.{mul-div_cancel_left}
use Rattle.marks.specs.Marks.{Mark}
use Rattle.marks.specs.Places.{builtin_count, function_address}
use Rattle.c_code.specs.declared.code.FuncInfo.{FuncInfo}
use Rattle.c_code.specs.Frames.{are_values}
use Rattle.c_code.specs.Machine.{Flat, Laid, Starting, callee, func_of, has_sig}
use Rattle.c_code.specs.MarkLists.{Split, lists, takes_values, thread_lists}
use Rattle.c_code.specs.Typed.{AreArguments, StartsWell}
use Rattle.c_types_model.specs.Types.{CType}
use Rattle.c_types_rules.specs.Sources.{params_of}
use Rattle.c_semantics.specs.Reading.{Marks}
use Rattle.c_semantics.specs.Context.{Source, param_shapes, shapes_of, type_of}
use Rattle.c_lower_placement.specs.Laws.{laid}
use Rattle.c_lower_placement.specs.Placement.{IsSigOf}
use Rattle.cut_graph_rules.specs.Findings.{Cut}
use Rattle.cut_graph_laws.specs.SoundCut.{StaysWithin}
use Rattle.cut_graph_run_laws.specs.Code.{IsCodeThread, of_function}

-- ---- the function at an address

address_number : (f : ℕ) → (function_address f - function_address 0) / 16 ≡ f
address_number f =
    let far : function_address f - function_address 0 ≡ 16 * f = omega arith in
    ap (λ n. n / 16) far ∙ mul-div_cancel_left f (omega arith)

both : (a b : Bool) → a ≡ true → b ≡ true → (a && b) ≡ true
both true true d e = refl
both true false d e = e
both false b d e = d

callee_is : (l : Laid) (f : ℕ) (info : FuncInfo) → func_of l.code f ≡ Some info → leb builtin_count f ≡ true → callee l info.sig (function_address f) ≡ Some f
callee_is l f info e least =
    let sig : has_sig info.sig (func_of l.code f) ≡ true = ap (has_sig info.sig) e ∙ eq-eqb info.sig info.sig refl in
    let found : (eqb (function_address f) (function_address f) && (leb builtin_count f && has_sig info.sig (func_of l.code f))) ≡ true =
    both (eqb (function_address f) (function_address f)) (leb builtin_count f && has_sig info.sig (func_of l.code f)) (eq-eqb (function_address f) (function_address f) refl)
    (both (leb builtin_count f) (has_sig info.sig (func_of l.code f)) least sig) in
    ap (λ n. cond (eqb (function_address f) (function_address n) && (leb builtin_count n && has_sig info.sig (func_of l.code n))) (Some n) None) (address_number f) ∙ ap (λ b. cond b (Some f) None) found

-- what is found at an address is a function of the source
pub callee_least : (l : Laid) (sig address f : ℕ) → callee l sig address ≡ Some f → leb builtin_count f ≡ true
callee_least l sig address f e = by (eqb address (function_address g)) (leb builtin_count g) refl (has_sig sig (func_of l.code g)) e
  where
    g : ℕ
    g = (address - function_address 0) / 16

    by : (a b : Bool) → leb builtin_count g ≡ b → (c : Bool) → cond (a && (b && c)) (Some g) None ≡ Some f → leb builtin_count f ≡ true
    by true true d true h = let same : g ≡ f = cc in subst (λ n. leb builtin_count n ≡ true) same d
    by true true d false h = absurd cc
    by true false d c h = absurd cc
    by false b d c h = absurd cc

-- an address of no function stops the thread at once, whatever it was given
alike : (l : Laid) (args bs : List ℕ) (ms : List Mark) → lists Split ms l (Starting None args) ≡ lists Split ms l (Starting None bs)
alike l args bs [] = refl
alike l args bs (m ∷ ms) = refl

-- the thread is one of the code, and stays within the cut
pub record IsWithin (s : Source) (code : Flat) (c : Cut) (a : Marks) : Type 0 where
  pub thread : IsCodeThread s code a
  pub within : StaysWithin c a

module _ (s : Source) (code : Flat) (c : Cut) (sigs : (f : ℕ) (info : FuncInfo) → func_of code f ≡ Some info → IsSigOf s code (type_of s f) info.sig) (params : (f : ℕ) (info : FuncInfo) → func_of code f ≡ Some info → info.params ≡ param_shapes s f) (stays : (t : CType) (sig address : ℕ) (args : List ℕ) → IsSigOf s code t sig → are_values (shapes_of (params_of t)) args ≡ true → StaysWithin c (thread_lists (laid s code) sig address args)) where
  abbrev l : Laid
  l = laid s code

  abbrev Fine : Option ℕ → List ℕ → Type 0
  Fine o args = IsWithin s code c (λ ms. lists Split ms l (Starting o args))

  -- by the type of any function that the code knows, and by any address
  at_address : (f : ℕ) (info : FuncInfo) → func_of code f ≡ Some info → (address : ℕ) (args : List ℕ) → are_values info.params args ≡ true → Fine (callee l info.sig address) args
  at_address f info e address args ok =
      let sig = sigs f info e in
      record {
        thread = of_function (type_of s f) info.sig address args sig;
        within = stays (type_of s f) info.sig address args sig (subst (λ ps. are_values ps args ≡ true) (params f info e) ok);
      }

  of_known : (f : ℕ) (args : List ℕ) (o : Option FuncInfo) → func_of code f ≡ o → leb builtin_count f ≡ true → AreArguments l f args → Fine (Some f) args
  of_known f args (Some info) e least ok = subst (λ o. Fine o args) (callee_is l f info e least) (at_address f info e (function_address f) args (subst (λ o. takes_values o args ≡ true) e ok))
  of_known f args None e least ok = absurd cc

  module _ (main : ℕ) (info : FuncInfo) (known : func_of code main ≡ Some info) (bare : info.params ≡ []) where
    of_none : (args : List ℕ) → Fine None args
    of_none args =
        let first : Fine None [] = at_address main info known 0 [] (ap (λ ps. are_values ps []) bare) in
        subst (IsWithin s code c) (λ i. λ ms. alike l [] args ms i) first

    pub begun_within : (o : Option ℕ) (args : List ℕ) → ((f : ℕ) → o ≡ Some f → leb builtin_count f ≡ true) → StartsWell l o args → Fine o args
    begun_within None args least ok = of_none args
    begun_within (Some f) args least ok = of_known f args (func_of code f) refl (least f refl) ok
