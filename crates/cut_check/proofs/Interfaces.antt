-- The interface that was read is that of the annotations.
use Rattle.std.proofs.Common.{◌≡◌, ℕ, ℤ, pos, List, [], ◌∷◌, map, Option, refl, ap, ◌∙◌}
use Rattle.std.specs.Option.{option_map}
use Rattle.annot_reader_rules.specs.Notes.{Annotated, Notes, Parameter}
use Rattle.annot_reader_words.specs.declared.notes.Param.{Param}
use Rattle.annot_reader_words.specs.Readings.{parameters_in}
use Rattle.annot_reader_functions.specs.declared.notes.FunctionNotes.{FunctionNotes}
use Rattle.annot_reader_functions.specs.Sayings.{IsNoted}
use Rattle.annot_reader.specs.Interface.{Interface}
use Rattle.annot_reader.specs.Interfaces.{IsRead}
use Rattle.annot_reader.specs.Reading.{AreMutexes, AreNoted}
use Rattle.cut_check.specs.Interfaces.{annots_by, interface_of, notes_by, param_of}

params_back : (vs : List Param) → vs ≡ map param_of (parameters_in vs)
params_back [] = refl
params_back (v ∷ vs) = ap (λ xs. v ∷ xs) (params_back vs)

params_are : (ns : List Parameter) (vs : List Param) → parameters_in vs ≡ ns → vs ≡ map param_of ns
params_are ns vs e = params_back vs ∙ ap (map param_of) e

annots_are : (cut : List ℕ) (n : Notes) (v : FunctionNotes) → IsNoted cut n v → v.annots ≡ annots_by n
annots_are cut n v h =
    let params : v.annots.params ≡ map param_of n.params = params_are n.params v.annots.params h.params in
    λ j. record { params = params j; sync = h.sync j; commit = h.commit j; cache = h.cache j }

notes_are : (cut : List ℕ) (n : Notes) (v : FunctionNotes) → IsNoted cut n v → v ≡ notes_by cut n
notes_are cut n v h =
    let annots : v.annots ≡ annots_by n = annots_are cut n v h in
    λ j. record { in_cut = h.in_cut j; annots = annots j; holds = h.holds j }

functions_are : (cut : List ℕ) (ns : List Notes) (vs : List FunctionNotes) → AreNoted cut ns vs → vs ≡ map (notes_by cut) ns
functions_are cut [] [] h = refl
functions_are cut [] (v ∷ vs) h = absurd h
functions_are cut (n ∷ ns) [] h = absurd h
functions_are cut (n ∷ ns) (v ∷ vs) h =
    ap (λ (x : FunctionNotes). x ∷ vs) (notes_are cut n v h.0) ∙ ap (λ xs. notes_by cut n ∷ xs) (functions_are cut ns vs h.1)

guards_are : (ms : List (Option ℕ)) (ns : List (Option ℤ)) → AreMutexes ms ns → ns ≡ map (option_map pos) ms
guards_are [] [] h = refl
guards_are [] (n ∷ ns) h = absurd h
guards_are (m ∷ ms) [] h = absurd h
guards_are (m ∷ ms) (n ∷ ns) h = ap (λ (x : Option ℤ). x ∷ ns) h.0 ∙ ap (λ xs. option_map pos m ∷ xs) (guards_are ms ns h.1)

pub interface_is : (cut : List ℕ) (a : Annotated) (i : Interface) → IsRead cut a i → i ≡ interface_of cut a
interface_is cut a i h =
    let functions : i.functions ≡ map (notes_by cut) a.functions = functions_are cut a.functions i.functions h.functions in
    let guards : i.guards ≡ map (option_map pos) a.guards = guards_are a.guards i.guards h.guards in
    λ j. record { functions = functions j; guards = guards j }
