-- What annotations say is read in one way.
use Rattle.std.proofs.Common.{◌≡◌, ℕ, ℤ, List, [], ◌∷◌, map, Option, refl, sym, ap, ◌∙◌}
use Rattle.annot_reader_rules.specs.Notes.{Annotated, Notes}
use Rattle.annot_reader_words.specs.declared.notes.Param.{Param}
use Rattle.annot_reader_words.specs.Readings.{parameters_in}
use Rattle.annot_reader_functions.specs.declared.notes.FunctionNotes.{FunctionNotes}
use Rattle.annot_reader_functions.specs.Sayings.{IsNoted}
use Rattle.annot_reader.specs.Interface.{Interface}
use Rattle.annot_reader.specs.Interfaces.{IsRead}
use Rattle.annot_reader.specs.Reading.{AreMutexes, AreNoted}
use Rattle.cut_check.specs.Interfaces.{param_of}

params_back : (vs : List Param) → vs ≡ map param_of (parameters_in vs)
params_back [] = refl
params_back (v ∷ vs) = ap (λ xs. v ∷ xs) (params_back vs)

params_same : (us vs : List Param) → parameters_in us ≡ parameters_in vs → us ≡ vs
params_same us vs e = params_back us ∙ (ap (map param_of) e ∙ sym (params_back vs))

notes_same : (cut : List ℕ) (n : Notes) (u v : FunctionNotes) → IsNoted cut n u → IsNoted cut n v → u ≡ v
notes_same cut n u v h k =
    let in_cut = h.in_cut ∙ sym k.in_cut in
    let params : u.annots.params ≡ v.annots.params = params_same u.annots.params v.annots.params (h.params ∙ sym k.params) in
    let sync = h.sync ∙ sym k.sync in
    let commit = h.commit ∙ sym k.commit in
    let cache = h.cache ∙ sym k.cache in
    let holds = h.holds ∙ sym k.holds in
    λ j. record { in_cut = in_cut j; annots = record { params = params j; sync = sync j; commit = commit j; cache = cache j }; holds = holds j }

functions_same : (cut : List ℕ) (ns : List Notes) (us vs : List FunctionNotes) → AreNoted cut ns us → AreNoted cut ns vs → us ≡ vs
functions_same cut [] [] [] h k = refl
functions_same cut [] [] (v ∷ vs) h k = absurd k
functions_same cut [] (u ∷ us) vs h k = absurd h
functions_same cut (n ∷ ns) [] vs h k = absurd h
functions_same cut (n ∷ ns) (u ∷ us) [] h k = absurd k
functions_same cut (n ∷ ns) (u ∷ us) (v ∷ vs) h k = λ j. notes_same cut n u v h.0 k.0 j ∷ functions_same cut ns us vs h.1 k.1 j

guards_same : (ms : List (Option ℕ)) (us vs : List (Option ℤ)) → AreMutexes ms us → AreMutexes ms vs → us ≡ vs
guards_same [] [] [] h k = refl
guards_same [] [] (v ∷ vs) h k = absurd k
guards_same [] (u ∷ us) vs h k = absurd h
guards_same (m ∷ ms) [] vs h k = absurd h
guards_same (m ∷ ms) (u ∷ us) [] h k = absurd k
guards_same (m ∷ ms) (u ∷ us) (v ∷ vs) h k = λ j. (h.0 ∙ sym k.0) j ∷ guards_same ms us vs h.1 k.1 j

pub one_interface : (cut : List ℕ) (a : Annotated) (i k : Interface) → IsRead cut a i → IsRead cut a k → i ≡ k
one_interface cut a i k h g =
    let functions : i.functions ≡ k.functions = functions_same cut a.functions i.functions k.functions h.functions g.functions in
    let guards : i.guards ≡ k.guards = guards_same a.guards i.guards k.guards h.guards g.guards in
    λ j. record { functions = functions j; guards = guards j }
