-- What an interface says of functions and globals.
use Rattle.std.proofs.Common.{◌≡◌, ℕ, ℤ, pos, zero, suc, ◌+◌, ◌-◌, nat_lt, Bool, true, false, if◌then◌else◌, is_some, List, [], ◌∷◌, map, slice_get, Option, Some, None, refl, sym, ap, ◌∙◌, subst, arith}
use Rattle.std.proofs.lemmas.Bool.{le-ltb}
use Rattle.std.specs.Option.{option_and_then, option_map, option_map_or}
use Rattle.c_builtins.specs.declared.builtin.Builtin.{Builtin}
use Rattle.c_builtins.specs.declared.builtin.Builtin.TheVariants as builtins
use Rattle.c_builtins.specs.Table.{in_interface, number_of}
use Rattle.annot_reader_rules.specs.Cuts.{in_cut}
use Rattle.annot_reader_rules.specs.Notes.{Annotated, Notes}
use Rattle.annot_reader_words.specs.declared.notes.Annots.{Annots}
use Rattle.annot_reader_functions.specs.declared.notes.FunctionNotes.{FunctionNotes}
use Rattle.annot_reader_functions.specs.Sayings.{IsNoted}
use Rattle.annot_reader.specs.Builtins.{annots_of, builtin_note, builtins_by_number}
use Rattle.annot_reader.specs.Interface.{Interface}
use Rattle.annot_reader.specs.Interfaces.{IsRead, SaysOf, annots_at, declared_at, face_of, guard_at, holds_at, is_face, notes_at}
use Rattle.annot_reader.specs.Reading.{AreMutexes, AreNoted}

-- ---- whether a function is in the interface

some_if : (b : Bool) (v : Annots) → is_some (if b then Some v else None) ≡ b
some_if true v = refl
some_if false v = refl

builtin_faces : (bs : List Builtin) (k : ℕ) → is_some (option_and_then face_of (slice_get (map builtin_note bs) k)) ≡ option_map_or in_interface (slice_get bs k) false
builtin_faces [] k = refl
builtin_faces (b ∷ bs) zero = some_if (in_interface b) (builtin_note b).annots
builtin_faces (b ∷ bs) (suc k) = builtin_faces bs k

source_faces : (cut : List ℕ) (ns : List Notes) (vs : List FunctionNotes) (k : ℕ) → AreNoted cut ns vs → is_some (option_and_then face_of (slice_get vs k)) ≡ option_map_or (in_cut cut) (slice_get ns k) false
source_faces cut [] [] k h = refl
source_faces cut [] (v ∷ vs) k h = absurd h
source_faces cut (n ∷ ns) [] k h = absurd h
source_faces cut (n ∷ ns) (v ∷ vs) zero h = some_if v.in_cut v.annots ∙ h.0.in_cut
source_faces cut (n ∷ ns) (v ∷ vs) (suc k) h = source_faces cut ns vs k h.1

either : (b : Bool) (x y : Option FunctionNotes) (p q : Bool) → is_some (option_and_then face_of x) ≡ p → is_some (option_and_then face_of y) ≡ q → is_some (option_and_then face_of (if b then x else y)) ≡ (if b then p else q)
either true x y p q h k = h
either false x y p q h k = k

pub faces : (cut : List ℕ) (a : Annotated) (i : Interface) (number : ℕ) → IsRead cut a i → is_some (annots_at i number) ≡ is_face cut a number
faces cut a i number h = either (nat_lt number 16) _ _ _ _ (builtin_faces builtins_by_number number) (source_faces cut a.functions i.functions (number - 16) h.functions)

-- ---- what is said of a function of the source

pub source_notes : (i : Interface) (place : ℕ) → notes_at i (place + 16) ≡ slice_get i.functions place
source_notes i place =
    let past : nat_lt (place + 16) 16 ≡ false = le-ltb (place + 16) 16 (omega arith) in
    let less : (place + 16) - 16 ≡ place = omega arith in
    ap (λ (b : Bool). if b then slice_get (map builtin_note builtins_by_number) (place + 16) else slice_get i.functions ((place + 16) - 16)) past ∙ ap (slice_get i.functions) less

noted_at : (cut : List ℕ) (ns : List Notes) (vs : List FunctionNotes) (k : ℕ) (n : Notes) → AreNoted cut ns vs → slice_get ns k ≡ Some n → (v : FunctionNotes) × (slice_get vs k ≡ Some v) × IsNoted cut n v
noted_at cut [] [] k n h e = absurd cc
noted_at cut [] (v ∷ vs) k n h e = absurd h
noted_at cut (m ∷ ns) [] k n h e = absurd h
noted_at cut (m ∷ ns) (v ∷ vs) zero n h e = let one : m ≡ n = cc in (v, refl, subst (λ (z : Notes). IsNoted cut z v) one h.0)
noted_at cut (m ∷ ns) (v ∷ vs) (suc k) n h e = noted_at cut ns vs k n h.1 e

module _ (cut : List ℕ) (a : Annotated) (i : Interface) (place : ℕ) (n : Notes) (h : IsRead cut a i) (e : slice_get a.functions place ≡ Some n) where
  pub says_declared : SaysOf n (declared_at i (place + 16))
  says_declared =
      let (v, at, is) = noted_at cut a.functions i.functions place n h.functions e in
      let here : declared_at i (place + 16) ≡ v.annots = ap (λ (o : Option FunctionNotes). option_map_or (λ w. w.annots) o (annots_of [])) (source_notes i place ∙ at) in
      subst (λ (w : Annots). SaysOf n w) (sym here) (record { params = is.params; sync = is.sync; commit = is.commit; cache = is.cache })

  pub says_held : holds_at i (place + 16) ≡ map pos n.holds
  says_held =
      let (v, at, is) = noted_at cut a.functions i.functions place n h.functions e in
      ap (λ (o : Option FunctionNotes). option_map_or (λ w. w.holds) o []) (source_notes i place ∙ at) ∙ is.holds

-- ---- globals

mutex_at : (ms : List (Option ℕ)) (ns : List (Option ℤ)) (k : ℕ) (m : Option ℕ) → AreMutexes ms ns → slice_get ms k ≡ Some m → slice_get ns k ≡ Some (option_map pos m)
mutex_at [] [] k m h e = absurd cc
mutex_at [] (y ∷ ns) k m h e = absurd h
mutex_at (x ∷ ms) [] k m h e = absurd h
mutex_at (x ∷ ms) (y ∷ ns) zero m h e = let one : x ≡ m = cc in ap Some (h.0 ∙ ap (option_map pos) one)
mutex_at (x ∷ ms) (y ∷ ns) (suc k) m h e = mutex_at ms ns k m h.1 e

pub says_guard : (cut : List ℕ) (a : Annotated) (i : Interface) (place : ℕ) (m : Option ℕ) → IsRead cut a i → slice_get a.guards place ≡ Some m → guard_at i place ≡ option_map pos m
says_guard cut a i place m h e = ap (λ (o : Option (Option ℤ)). option_and_then (λ x. x) o) (mutex_at a.guards i.guards place m h.guards e)

-- ---- builtins

pub says_builtin : (i : Interface) (b : Builtin) → notes_at i (number_of b) ≡ Some (builtin_note b)
says_builtin i builtins.Malloc = refl
says_builtin i builtins.Free = refl
says_builtin i builtins.Spawn = refl
says_builtin i builtins.Join = refl
says_builtin i builtins.Lock = refl
says_builtin i builtins.Unlock = refl
says_builtin i builtins.Print = refl
