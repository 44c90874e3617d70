-- Code that holds nothing but the functions of a source keeps what valid code keeps.
use Rattle.std.proofs.Common.{◌≡◌, ℕ, zero, suc, ◌+◌, ◌<◌, ◌≤◌, List, [], ◌∷◌, length, Option, Some, None, refl, sym, ap, ◌∙◌, subst, arith}
use Rattle.std.specs.Prelude.{slice_get}
use Rattle.std.proofs.lemmas.Option.{same_Some}
use Rattle.c_code.specs.declared.code.FuncInfo.{FuncInfo}
use Rattle.c_code.specs.declared.instr.Instr.{Instr}
use Rattle.c_code.specs.Frames.{params_end}
use Rattle.c_code.specs.Machine.{Flat, entry, entry_of, func_of}
use Rattle.c_code.specs.Valid.{HasBody, Keeps, Leads}
use Rattle.c_types_model.specs.Types.{CType}
use Rattle.c_types_rules.specs.TypedTree.{Body}
use Rattle.c_types_rules.specs.Limits.{frame_size}
use Rattle.c_semantics.specs.Context.{Source, body_of, param_shapes}
use Rattle.c_lower_placement.specs.Code.{Lies, body_code, making}
use Rattle.c_lower_placement.specs.Heights.{Kept}
use Rattle.c_lower_placement.specs.Laws.{IsMadeOf, laid}
use Rattle.c_lower_placement.proofs.Steady.{body_kept}

module _ (s : Source) (code : Flat) (sig : CType → ℕ) (height : ℕ → ℕ) (m : IsMadeOf s code sig height) where
  -- an instruction of a list that keeps what valid code keeps
  kept_at : (is : List Instr) (at by : ℕ) (i : Instr) → Lies code.instrs at is → Kept code height at is → by < length is → slice_get code.instrs (at + by) ≡ Some i → Keeps code height (at + by) i
  kept_at [] at by i l k lt e = absurd (omega (arith, lt))
  kept_at (j ∷ is) at zero i l k lt e =
      let here : at + 0 ≡ at = omega arith in
      let same : j ≡ i = same_Some j i (sym l.0 ∙ (sym (ap (λ z. slice_get code.instrs z) here) ∙ e)) in
      subst (λ z. Keeps code height z i) (sym here) (subst (λ z. Keeps code height at z) same k.0)
  kept_at (j ∷ is) at (suc by) i l k lt e =
      let here : at + 1 + by ≡ at + suc by = omega arith in
      subst (λ z. Keeps code height z i) here (kept_at is (at + 1) by i l.1 k.1 (omega (arith, lt)) (ap (λ z. slice_get code.instrs z) here ∙ e))

  pub each : (p : ℕ) (i : Instr) → slice_get code.instrs p ≡ Some i → Keeps code height p i
  each p i e =
      let w = m.within p i e in
      let f = m.emitted.bodies w.func w.body w.defined in
      let u = m.fits w.func w.body w.defined in
      let k = body_kept (making s code sig w.body) height w.body f.entry u.calls f.lies (m.stands w.func w.body w.defined) u.few in
      subst (λ z. Keeps code height z i) w.there (kept_at (body_code w.body (making s code sig w.body)) f.entry w.by i f.lies k.1 w.inside (ap (λ z. slice_get code.instrs z) w.there ∙ e))

  has_body : (f : ℕ) (b : Body) (d : body_of s f ≡ Some b) (info : FuncInfo) (at : ℕ) → func_of code f ≡ Some info → info.entry ≡ Some at → HasBody code height info at
  has_body f b d info at e g =
      let k = m.emitted.bodies f b d in
      let u = m.fits f b d in
      let same : k.info ≡ info = same_Some k.info info (sym k.known ∙ e) in
      let begins : k.entry ≡ at = same_Some k.entry at (sym k.begins ∙ (ap (λ z. z.entry) same ∙ g)) in
      let frame : info.frame ≡ frame_size s.program b.locals = ap (λ z. z.frame) (sym same) ∙ k.frame in
      let params : info.params ≡ param_shapes s f = ap (λ z. z.params) (sym same) ∙ k.params in
      let held : params_end 0 info.params ≤ info.frame = subst (λ z. params_end 0 z ≤ info.frame) (sym params) (subst (λ z. params_end 0 (param_shapes s f) ≤ z) (sym frame) u.holds) in
      let body = body_kept (making s code sig b) height b k.entry u.calls k.lies (m.stands f b d) u.few in
      record {
        begins = subst (λ z. Leads code height z 0) begins body.0;
        aligned = omega (arith, frame);
        least = omega (arith, frame);
        holds = held;
      }

  -- a function that has a place in code has a body
  of_body : (f : ℕ) (o : Option Body) → body_of s f ≡ o → (info : FuncInfo) (at : ℕ) → func_of code f ≡ Some info → info.entry ≡ Some at → HasBody code height info at
  of_body f (Some b) d info at e g = has_body f b d info at e g
  of_body f None d info at e g =
      let none : entry (laid s code) f ≡ None = m.emitted.others f d in
      let some : entry (laid s code) f ≡ Some at = ap entry_of e ∙ g in
      absurd cc

  pub each_body : (f : ℕ) (info : FuncInfo) (at : ℕ) → func_of code f ≡ Some info → info.entry ≡ Some at → HasBody code height info at
  each_body f info at e g = of_body f (body_of s f) refl info at e g
