-- The code of a program names nothing but what its functions do.
use Rattle.std.proofs.Common.{◌≡◌, ℕ, zero, suc, ◌+◌, ◌<◌, List, [], ◌∷◌, length, Option, Some, None, refl, sym, ap, ◌∙◌, arith}
use Rattle.std.specs.Prelude.{slice_get}
use Rattle.std.specs.List.{Contains}
use Rattle.std.proofs.lemmas.List.Elements.{All-contains_itself, recursion_from_All}
use Rattle.memory_map.specs.declared.placed.Placed.{Placed}
use Rattle.c_code.specs.declared.instr.Instr.{Instr}
use Rattle.c_semantics.specs.Context.{local_offsets}
use Rattle.c_lower_placement.specs.Code.{Lies}
use Rattle.c_types_program.specs.declared.function.Body.{Body}
use Rattle.c_types_program.specs.declared.function.Function.{Function}
use Rattle.c_types_program.specs.Declarations.{Declared, body_in}
use Rattle.c_types_program.specs.Programs.{texts_in}
use Rattle.c_lower_layout.specs.Sources.{source_in}
use Rattle.c_lower_bodies.specs.Making.{making, setting}
use Rattle.c_lower.specs.Lowered.{code_of, codes_of, entry_at, info_of, locals_of, lowered}
use Rattle.c_lower.specs.Named.{Among, IsOfFunction, Name, NamesNoMore, instr_names, statement_names}
use Rattle.c_lower.proofs.Emitted.{known}
use Rattle.c_lower.proofs.Laid.{among, lies_at, start}
use Rattle.c_lower.proofs.Naming.{Fine, all_get, body_fine}

abbrev nowhere : Placed
nowhere = record { globals = []; strings = []; replay = []; system = []; faces = [] }

-- an instruction of code that lies there
lies_get : (code is : List Instr) (at by : ℕ) → Lies code at is → by < length is → slice_get is by ≡ slice_get code (at + by)
lies_get code [] at by l lt = absurd (omega arith)
lies_get code (i ∷ is) at zero l lt = let n : at ≡ at + 0 = omega arith in sym l.0 ∙ ap (slice_get code) n
lies_get code (i ∷ is) at (suc by) l lt = let n : at + 1 + by ≡ at + suc by = omega arith in lies_get code is (at + 1) by l.1 (omega arith) ∙ ap (slice_get code) n

-- what a body names
abbrev names_of : Declared → Body → List Name
names_of p b = statement_names (texts_in p.texts) (body_in p.table b).statements

code_fine : (p : Declared) (b : Body) → Fine (names_of p b) (code_of p (Some b))
unfolding source_in
code_fine p b =
    let ns = names_of p b in
    body_fine ns (making (setting p (local_offsets (source_in p) (locals_of p b)))) (body_in p.table b) (recursion_from_All (Contains ns) ns (All-contains_itself ns))

pub named : (p : Declared) → NamesNoMore p (lowered p)
named p q i e = let h = among p p.functions q i e in of_body h.0 h.1 h.2 h.2.body refl h.3 h.4 h.5
  where
    of_body : (k by : ℕ) (g : Function) (o : Option Body) → g.body ≡ o → slice_get p.functions k ≡ Some g → by < length (code_of p g.body) → start p k p.functions + by ≡ q → IsOfFunction p (lowered p) q i
    of_body k by g None h t lt n = let none : length (code_of p g.body) ≡ 0 = ap (λ o. length (code_of p o)) h in absurd (omega arith)
    of_body k by g (Some b) h t lt n =
        let all = codes_of p p.functions in
        let at = start p k p.functions in
        let there : slice_get (code_of p g.body) by ≡ Some i = lies_get all (code_of p g.body) at by (lies_at p p.functions k g t) lt ∙ (ap (slice_get all) n ∙ e) in
        let here : slice_get (code_of p (Some b)) by ≡ Some i = ap (λ o. slice_get (code_of p o) by) (sym h) ∙ there in
        record {
          order = k;
          function = g;
          body = b;
          declared = t;
          defined = h;
          info = info_of p (0 + at) g;
          entry = 0 + at;
          known = known p [] nowhere k g t;
          begins = ap (λ o. entry_at o (0 + at)) h;
          from = omega arith;
          before = omega arith;
          names = all_get (λ j. Among (names_of p b) (instr_names j)) (code_of p (Some b)) by i (code_fine p b) here;
        }
