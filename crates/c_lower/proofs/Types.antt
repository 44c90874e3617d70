-- The code of a program tells types apart.
use Rattle.std.proofs.Common.{◌≡◌, ℕ, ◌++◌, Some, refl, sym, ap, ◌∙◌, subst}
use Rattle.memory_map.specs.declared.placed.Placed.{Placed}
use Rattle.c_code.specs.declared.code.FuncInfo.{FuncInfo}
use Rattle.c_code.specs.Machine.{func_of}
use Rattle.c_code.specs.Valid.{start_sig}
use Rattle.c_scopes.specs.Scopes.{Scope}
use Rattle.c_builtins.specs.Table.{thread_function}
use Rattle.c_types_rules.specs.Environment.{Meaning}
use Rattle.c_semantics.specs.Context.{Source, type_of}
use Rattle.c_types_program.specs.Declarations.{Declared}
use Rattle.c_types_program.specs.Programs.{texts_in}
use Rattle.c_lower_placement.specs.Placement.{IsSigOf}
use Rattle.c_lower_layout.specs.Sources.{fixed_types, sig_in, types_of_functions}
use Rattle.c_lower_layout.proofs.Numbers.{one_place}
use Rattle.c_lower.specs.Lowered.{IsSourceOf, lowered}
use Rattle.c_lower.specs.Types.{TellsTypes}
use Rattle.c_lower.proofs.Emitted.{sigs, source, typed_at}

module _ (p : Declared) (names : Scope Meaning) (placed : Placed) where
  abbrev s : Source
  s = source p names placed

  one_type : (f g : ℕ) (a b : FuncInfo) → func_of (lowered p) f ≡ Some a → func_of (lowered p) g ≡ Some b → a.sig ≡ b.sig → type_of s f ≡ type_of s g
  unfolding sig_in
  one_type f g a b ea eb e =
      let ha = typed_at p names placed f a ea in
      let hb = typed_at p names placed g b eb in
      one_place (fixed_types ++ types_of_functions s.program.functions) (type_of s f) (type_of s g) hb.3 (sym ha.2 ∙ (e ∙ hb.2))

  one_number : (f g : ℕ) (a b : FuncInfo) → func_of (lowered p) f ≡ Some a → func_of (lowered p) g ≡ Some b → type_of s f ≡ type_of s g → a.sig ≡ b.sig
  one_number f g a b ea eb e = (typed_at p names placed f a ea).2 ∙ (ap (sig_in p) e ∙ sym (typed_at p names placed g b eb).2)

  first : sig_in p thread_function ≡ start_sig
  unfolding sig_in
  first = refl

  tells : TellsTypes s (lowered p)
  tells = record {
    same = λ f g a b ea eb. (one_type f g a b ea eb, one_number f g a b ea eb);
    starts = subst (λ n. IsSigOf s (lowered p) thread_function n) first (sigs p names placed thread_function);
  }

-- the same of each source that the program stands for
pub tells_types : (p : Declared) (s : Source) → IsSourceOf p s → TellsTypes s (lowered p)
tells_types p s of =
    let same : source p s.program.names s.placed ≡ s =
    ap (λ q. record { program = q; texts = texts_in p.texts; placed = s.placed }) (sym of.program) ∙ ap (λ ts. record { program = s.program; texts = ts; placed = s.placed }) (sym of.texts) in
    subst (λ (z : Source). TellsTypes z (lowered p)) same (tells p s.program.names s.placed)
