-- Which names are words of annotations.
use Rattle.std.specs.Prelude.{ℕ, if◌then◌else◌, List, codes, Option, Some, None}
use Rattle.c_scopes.specs.Scopes.{same_name}
use Rattle.annot_reader_words.specs.declared.word.FunctionWord.{FunctionWord}
use Rattle.annot_reader_words.specs.declared.word.FunctionWord.TheVariants as functions
use Rattle.annot_reader_words.specs.declared.word.ParameterWord.{ParameterWord}
use Rattle.annot_reader_words.specs.declared.word.ParameterWord.TheVariants as parameters

-- the word of a function that has this name
abbrev pub function_word : List ℕ → Option FunctionWord
function_word name =
    if same_name name (codes "cut") then Some functions.Cut
    else if same_name name (codes "sync") then Some functions.Sync
    else if same_name name (codes "commit") then Some functions.Commit
    else if same_name name (codes "cache") then Some functions.Cache
    else if same_name name (codes "holds") then Some functions.Holds
    else None

-- the word of a parameter that has this name
abbrev pub parameter_word : List ℕ → Option ParameterWord
parameter_word name =
    if same_name name (codes "in") then Some parameters.In
    else if same_name name (codes "out") then Some parameters.Out
    else if same_name name (codes "callback") then Some parameters.Callback
    else if same_name name (codes "bsize") then Some parameters.Bsize
    else if same_name name (codes "cap") then Some parameters.Cap
    else if same_name name (codes "prepare") then Some parameters.Prepare
    else None
