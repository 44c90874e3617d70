-- The cut of a right source is one of the source.
use Rattle.std.proofs.Common.{◌≡◌, ◌≤◌, ℕ, zero, suc, ◌+◌, ◌-◌, Bool, true, false, cond, ltb, List, [], ◌∷◌, length, Option, Some, None, refl, sym, ap, ◌∙◌, arith}
use Rattle.std.specs.Prelude.{◌↔◌, is_some, slice_get}
use Rattle.std.specs.List.{position_or_len}
use Rattle.std.specs.Option.{option_map_or}
use Rattle.std.proofs.lemmas.Bool.{le-ltb}
use Rattle.std.proofs.lemmas.Option.{slice_get_past}
use Rattle.marks.specs.Places.{builtin_count}
use Rattle.memory_map.specs.declared.placed.Placed.{Placed}
use Rattle.c_builtins.specs.declared.builtin.Builtin.{Builtin}
use Rattle.c_builtins.specs.declared.builtin.Builtin.TheVariants.{Malloc, Free, Spawn, Join, Lock, Unlock, Print}
use Rattle.c_builtins.specs.Table.{first_source_function, in_interface, number_of}
use Rattle.c_types_rules.specs.Sources.{Function, Program}
use Rattle.c_semantics.specs.Context.{Source, body_of, body_or}
use Rattle.annot_reader_rules.specs.Cuts.{in_cut}
use Rattle.annot_reader_rules.specs.Notes.{Annotated, Notes}
use Rattle.annot_reader.specs.Builtins.{builtins_by_number}
use Rattle.annot_reader.specs.Interfaces as interfaces
use Rattle.isolation_check_rules.specs.Places.{AreFlags, IsPlaced, Literal, source_of}
use Rattle.cut_graph_laws.specs.SoundCut.{IsCutOf}
use Rattle.front_end_laws.specs.Annotations.{SayOfAll}
use Rattle.front_end_laws.proofs.Whole.{all_said}
use Rattle.cut_check.specs.Sources.{Says, cut_of, is_main}
use Rattle.cut_graph_sources.specs.Sources.{IsLaidOut}
use Rattle.cut_graph_sources.proofs.Names.{main_has_a_body}

-- ---- where a run begins

function_at : (p : Program) (place : ℕ) (f : Function) → slice_get p.functions place ≡ Some f → cond (ltb (first_source_function + place) builtin_count) None (slice_get p.functions (first_source_function + place - builtin_count)) ≡ Some f
function_at p place f e =
    let back : first_source_function + place - builtin_count ≡ place = omega arith in
    ap (λ b. cond b None (slice_get p.functions (first_source_function + place - builtin_count))) (le-ltb (first_source_function + place) builtin_count (omega arith)) ∙
    (ap (slice_get p.functions) back ∙ e)

has_body : (p : Program) (s : Source) (place : ℕ) (f : Function) → s.program ≡ p → slice_get p.functions place ≡ Some f → is_some f.body ≡ true → is_some (body_of s (first_source_function + place)) ≡ true
has_body p s place f same e body =
    let there : slice_get s.program.functions place ≡ Some f = ap (λ (q : Program). slice_get q.functions place) same ∙ e in
    ap (λ (o : Option Function). is_some (body_or o)) (function_at s.program place f there) ∙ body

-- ---- the interface

builtin_faces : (cut : List ℕ) (a : Annotated) (b : Builtin) → interfaces.is_face cut a (number_of b) ≡ in_interface b
builtin_faces cut a Malloc = refl
builtin_faces cut a Free = refl
builtin_faces cut a Spawn = refl
builtin_faces cut a Join = refl
builtin_faces cut a Lock = refl
builtin_faces cut a Unlock = refl
builtin_faces cut a Print = refl

pub is_cut : (bytes cut : List ℕ) (p : Program) (a : Annotated) → Says bytes cut p a → (s : Source) → IsLaidOut cut p a s → IsCutOf s (cut_of cut p a)
is_cut bytes cut p a says s is =
    let (f, at, body) = main_has_a_body says.right.ds p says.declares in
    record {
      program = sym is.program;
      faces = λ g. sym (is.faces g);
      builtins = builtin_faces cut a;
      main = has_body p s (position_or_len is_main p.functions) f is.program at body;
    }

-- ---- flags of the interface

face_past : (cut : List ℕ) (a : Annotated) (f : ℕ) → first_source_function + length a.functions ≤ f → interfaces.is_face cut a f ≡ false
face_past cut a f l =
    let source : ltb f first_source_function ≡ false = le-ltb f first_source_function (omega (arith, l)) in
    let none : slice_get a.functions (f - first_source_function) ≡ None = slice_get_past a.functions (f - first_source_function) (omega (arith, l)) in
    ap (λ (b : Bool). cond b (option_map_or in_interface (slice_get builtins_by_number f) false) (option_map_or (in_cut cut) (slice_get a.functions (f - first_source_function)) false)) source ∙
    ap (λ (o : Option Notes). option_map_or (in_cut cut) o false) none

none_past : {A : Type 0} (xs : List A) (i : ℕ) → slice_get xs i ≡ None → length xs ≤ i
none_past [] i e = omega arith
none_past (x ∷ xs) zero e = absurd cc
none_past (x ∷ xs) (suc i) e = let l = none_past xs i e in omega (arith, l)

same_flag : (x y : Bool) → (x ≡ true) ↔ (y ≡ true) → x ≡ y
same_flag true y h = sym (h.0 refl)
same_flag false false h = refl
same_flag false true h = h.1 refl

abbrev is_true : Option Bool → Bool
is_true (Some b) = b
is_true None = false

module _ (cut : List ℕ) (p : Program) (a : Annotated) (flags : List Bool) (said : SayOfAll p a) (are : AreFlags p (λ f. interfaces.is_face cut a f ≡ true) flags) where
  flag_is : (f : ℕ) (o : Option Bool) → slice_get flags f ≡ o → is_true o ≡ interfaces.is_face cut a f
  flag_is f (Some b) e = same_flag b (interfaces.is_face cut a f) (are.exact f b e)
  flag_is f None e = let l = none_past flags f e in sym (face_past cut a f (omega (arith, l, are.each, said.functions)))

pub laid_out : (bytes cut : List ℕ) (p : Program) (a : Annotated) → Says bytes cut p a → (ls : List Literal) (q : Placed) → IsPlaced (cut_of cut p a) ls q → IsLaidOut cut p a (source_of p ls q)
laid_out bytes cut p a says ls q placed =
    let said = all_said says.right.ds p a says.declares says.annotated in
    record { program = refl; faces = λ f. flag_is cut p a q.faces said placed.faces f (slice_get q.faces f) refl }
