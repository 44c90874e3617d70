-- What is said of the functions that every source may call without declaring them.
use Rattle.std.specs.Prelude.{true, false, List, [], ◌∷◌, map, Some, None}
use Rattle.stub_core.specs.declared.terms.Term.TheVariants as terms
use Rattle.c_builtins.specs.declared.builtin.Builtin.{Builtin}
use Rattle.c_builtins.specs.declared.builtin.Builtin.TheVariants as builtins
use Rattle.c_builtins.specs.Table.{in_interface}
use Rattle.annot_reader_words.specs.declared.notes.Annots.{Annots}
use Rattle.annot_reader_words.specs.declared.notes.Param.{Param}
use Rattle.annot_reader_functions.specs.declared.notes.FunctionNotes.{FunctionNotes}

-- a parameter of which nothing is said
abbrev pub plain : Param
plain = record { reads = None; writes = None; prepares = None; callback = false }

-- a function that may be called back
abbrev pub called_back : Param
called_back = record plain { callback = true }

-- as many bytes are read of what it points to as the second parameter says
abbrev pub read_by_second : Param
read_by_second = record plain { reads = Some (record { a = terms.Param 1; b = None }) }

abbrev pub builtin_params : Builtin → List Param
builtin_params builtins.Spawn = called_back ∷ plain ∷ []
builtin_params builtins.Print = read_by_second ∷ plain ∷ []
builtin_params b = plain ∷ []

-- parameters alone
abbrev pub annots_of : List Param → Annots
annots_of ps = record { params = ps; sync = []; commit = None; cache = false }

abbrev pub builtin_note : Builtin → FunctionNotes
builtin_note b = record { in_cut = in_interface b; annots = annots_of (builtin_params b); holds = [] }

abbrev pub builtins_by_number : List Builtin
builtins_by_number = builtins.Malloc ∷ builtins.Free ∷ builtins.Spawn ∷ builtins.Join ∷ builtins.Lock ∷
    builtins.Unlock ∷ builtins.Print ∷ []

-- what is said of them, by number
abbrev pub builtin_notes : List FunctionNotes
builtin_notes = map builtin_note builtins_by_number
