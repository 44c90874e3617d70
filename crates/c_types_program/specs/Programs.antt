-- The source that a typed program stands for.
use Rattle.std.specs.Prelude.{◌≡◌, ℕ, List, map}
use Rattle.c_scopes.specs.Scopes.{Scope}
use Rattle.c_types_rules.specs.Environment.{Meaning}
use Rattle.c_types_rules.specs.Sources.{Program}
use Rattle.c_types_program.specs.declared.text.TextLiteral.{TextLiteral}
use Rattle.c_types_program.specs.Declarations.{Declared, function_in, global_in, structs_in}

-- what a program declares, where these are the names at file scope
abbrev pub program_in : Declared → Scope Meaning → Program
program_in p names = record {
  structs = structs_in p.table.types p.structs;
  functions = map (function_in p.table) p.functions;
  globals = map (global_in p.table) p.globals;
  names = names;
}

-- the program is what the source declares
abbrev pub IsProgram : Declared → Program → Type 0
IsProgram p source = program_in p source.names ≡ source

-- the offsets of the strings
abbrev pub texts_in : List TextLiteral → List ℕ
texts_in texts = map (λ t. t.from) texts
