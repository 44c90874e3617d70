-- What is known of the functions of a source, as what is declared grows.
use Rattle.std.proofs.Common.{◌≡◌, ℕ, zero, suc, List, [], ◌∷◌, get_or, slice_get, Some, None, refl, sym, ap, ◌∙◌, subst, arith}
use Rattle.std.specs.List.{All}
use Rattle.c_types_model.specs.Types.{FunctionOf}
use Rattle.c_types_table.specs.declared.ids.TypeId.{TypeId}
use Rattle.c_types_table.specs.Tables.{all_at, at}
use Rattle.c_types_rules.specs.Sources.{Function}
use Rattle.annot_reader_rules.specs.Cuts.{function_at, kind_of}
use Rattle.annot_reader_functions.specs.Rules.{Declared, Stays}
use Rattle.annot_reader_functions.specs.declared.kind.FunctionKind.{FunctionKind}
use Rattle.annot_reader_functions.specs.Sayings.{kind_in}
use Rattle.annot_reader_functions.proofs.Around.{all_at_stay, types_stay}
use Rattle.annot_reader.specs.declared.source.Heading.{Heading}
use Rattle.annot_reader.specs.Headings.{AreHeadings, IsHeading, IsHeadingOf}

-- ---- by place

pub no_heading : (d : Declared) (hs : List Heading) (fs : List Function) (k : ℕ) → AreHeadings d hs fs → slice_get hs k ≡ None → function_at fs k ≡ None
no_heading d [] [] k h e = cc
no_heading d [] (f ∷ fs) k h e = absurd h
no_heading d (x ∷ hs) [] k h e = absurd h
no_heading d (x ∷ hs) (f ∷ fs) zero h e = absurd cc
no_heading d (x ∷ hs) (f ∷ fs) (suc k) h e = no_heading d hs fs k h.1 e

pub heading_at : (d : Declared) (hs : List Heading) (fs : List Function) (k : ℕ) (x : Heading) → AreHeadings d hs fs → slice_get hs k ≡ Some x → (f : Function) × (function_at fs k ≡ Some f) × IsHeadingOf d x f
heading_at d [] [] k x h e = absurd cc
heading_at d [] (f ∷ fs) k x h e = absurd h
heading_at d (y ∷ hs) [] k x h e = absurd h
heading_at d (y ∷ hs) (f ∷ fs) zero x h e = let one : y ≡ x = cc in (f, cc, subst (λ (z : Heading). IsHeadingOf d z f) one h.0)
heading_at d (y ∷ hs) (f ∷ fs) (suc k) x h e = heading_at d hs fs k x h.1 e

-- the same numbers are those of this function
pub as_prototype : (d : Declared) (x : Heading) (f : Function) (kind : FunctionKind) (result : TypeId) (params : List TypeId) → kind ≡ x.kind → result ≡ x.result → params ≡ x.params → IsHeadingOf d x f →
    (kind_in kind ≡ kind_of f) × (f.type ≡ FunctionOf (at d.types result) (all_at d.types params))
as_prototype d x f kind result params e g h i =
    (ap kind_in e ∙ i.kind, i.type ∙ sym (ap (λ r. FunctionOf (at d.types r) (all_at d.types params)) g ∙ ap (λ ps. FunctionOf (at d.types x.result) (all_at d.types ps)) h))

-- ---- while numbers stand for what they did

module _ (a b : Declared) (kept : Stays a b) where
  number_stays : (x : Heading) → IsHeading a x → IsHeading b x
  number_stays x i = record {
    result = (kept.types x.result (at a.types x.result) (record { inside = i.result; is = refl })).inside;
    params = types_stay a b x.params kept i.params;
    few = i.few;
  }

  pub numbers_stay : (hs : List Heading) → All (IsHeading a) hs → All (IsHeading b) hs
  numbers_stay hs all = λ k d l. number_stays (get_or hs k d) (all k d l)

  heading_stays : (x : Heading) (f : Function) → IsHeading a x → IsHeadingOf a x f → IsHeadingOf b x f
  heading_stays x f i h =
      let result : at b.types x.result ≡ at a.types x.result = (kept.types x.result (at a.types x.result) (record { inside = i.result; is = refl })).is in
      let params : all_at b.types x.params ≡ all_at a.types x.params = all_at_stay a b x.params kept i.params in
      record { kind = h.kind; type = h.type ∙ sym (ap (λ t. FunctionOf t (all_at b.types x.params)) result ∙ ap (FunctionOf (at a.types x.result)) params) }

  pub headings_stay : (hs : List Heading) (fs : List Function) → All (IsHeading a) hs → AreHeadings a hs fs → AreHeadings b hs fs
  headings_stay [] [] all h = tt
  headings_stay [] (f ∷ fs) all h = absurd h
  headings_stay (x ∷ hs) [] all h = absurd h
  headings_stay (x ∷ hs) (f ∷ fs) all h = (heading_stays x f (all 0 x (omega arith)) h.0, headings_stay hs fs (λ k d l. all (suc k) d (omega arith)) h.1)
