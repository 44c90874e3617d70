-- The interface of a cut, by what annotations say.
use Rattle.std.specs.Prelude.{ℕ, pos, List, map}
use Rattle.std.specs.Option.{option_map}
use Rattle.annot_reader_rules.specs.Cuts.{in_cut}
use Rattle.annot_reader_rules.specs.Notes.{Annotated, Notes, Parameter}
use Rattle.annot_reader_words.specs.declared.notes.Annots.{Annots}
use Rattle.annot_reader_words.specs.declared.notes.Param.{Param}
use Rattle.annot_reader_functions.specs.declared.notes.FunctionNotes.{FunctionNotes}
use Rattle.annot_reader.specs.Interface.{Interface}

abbrev pub param_of : Parameter → Param
param_of p = record { reads = p.reads; writes = p.writes; prepares = p.prepares; callback = p.callback }

abbrev pub annots_by : Notes → Annots
annots_by n = record {
  params = map param_of n.params;
  sync = n.sync;
  commit = n.commit;
  cache = n.cache;
}

abbrev pub notes_by : (cut : List ℕ) → Notes → FunctionNotes
notes_by cut n = record { in_cut = in_cut cut n; annots = annots_by n; holds = map pos n.holds }

abbrev pub interface_of : (cut : List ℕ) → Annotated → Interface
interface_of cut a = record {
  functions = map (notes_by cut) a.functions;
  guards = map (option_map pos) a.guards;
}
