-- The law of threads speaks of each accepted source with guards.
use Rattle.std.proofs.Common.{◌≡◌, ℕ, ◌+◌, ◌-◌, ◌≤◌, ltb, Bool, true, false, List, [], refl, sym, ap, ◌∙◌, subst, arith}
use Rattle.std.proofs.lemmas.Bool.{ltb-false, ltb-true}
use Rattle.c_builtins.specs.declared.builtin.Builtin.TheVariants.{Lock, Unlock}
use Rattle.c_builtins.specs.Table.{first_source_function}
use Rattle.c_types_rules.specs.Sources.{Program}
use Rattle.c_semantics.specs.Context.{Source, is_face}
use Rattle.annot_reader_rules.specs.Notes.{Annotated}
use Rattle.lockset_check_rules.specs.Annotations.{guarded}
use Rattle.lockset_check_threads.specs.Laws.{ConstantsAreOfKinds}
use Rattle.lockset_check_sources.specs.Sources.{AcceptedSourcesAreGuarded, FacesAreOf, HoldsAreFit}
use Rattle.lockset_check_sources.proofs.Annotations.{holds_are_fit}
use Rattle.lockset_check_sources.proofs.Programs.{calls_are_plain}
use Rattle.lockset_check_sources.proofs.Tables.{constants_are_of_kinds}

module _ (p : Program) (a : Annotated) (cut : List ℕ) (s : Source) (fit : HoldsAreFit p a) (of : FacesAreOf cut a s) where
  faces : (f : ℕ) → is_face s f ≡ true → (guarded p a).holds f ≡ []
  faces f e = by (ltb f first_source_function) refl
    where
      by : (low : Bool) → ltb f first_source_function ≡ low → (guarded p a).holds f ≡ []
      by true l = fit.builtins f (ltb-true f first_source_function l)
      by false l =
          let le : first_source_function ≤ f = ltb-false f first_source_function l in
          let q = of.functions f le e in
          let at : first_source_function + (f - first_source_function) ≡ f = omega arith in
          ap (guarded p a).holds (sym at) ∙ fit.faces cut (f - first_source_function) q.0 q.1 q.2

pub accepted_sources_are_guarded : AcceptedSourcesAreGuarded
accepted_sources_are_guarded ds p d a h any cut texts placed of =
    let fit = holds_are_fit ds p a h.annotated in
    let s : Source = record { program = p; texts = texts; placed = placed } in
    record {
      guards = any;
      functions = refl;
      plain = calls_are_plain ds p h.types texts placed;
      constants = subst (λ q. ConstantsAreOfKinds (record { program = q; texts = texts; placed = placed })) h.program (constants_are_of_kinds d h.table h.sound p.names texts placed);
      faces = faces p a cut s fit of;
      lock = of.builtins Lock;
      unlock = of.builtins Unlock;
      mutexes = fit.mutexes;
    }
