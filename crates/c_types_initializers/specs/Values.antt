-- Which values stand for parts of a source, and what the values of globals stand for.
use Rattle.std.specs.Prelude.{◌≡◌, List}
use Rattle.c_syntax.specs.declared.declaration.Value.{Value}
use Rattle.c_syntax.specs.Nodes.{Nodes}
use Rattle.c_syntax.specs.Syntax.{Value as Written, Values as Writtens}
use Rattle.c_syntax.specs.Stands.{StandsValue, StandValues}
use Rattle.c_syntax_laws.specs.Numbers.{FitsValue, FitsValues}
use Rattle.c_types_rules.specs.Initials as initials
use Rattle.c_types_program.specs.declared.global.Known.{Known}
use Rattle.c_types_program.specs.declared.global.Initial.{Initial}
use Rattle.c_types_program.specs.Declarations.{known_in, initial_in, initials_in}

-- the value is part of a source whose numbers are such as tokens are
abbrev pub IsValue : Nodes → Value → Type 0
IsValue N v = (x : Written) × StandsValue N v x × FitsValue x

abbrev pub AreValues : Nodes → List Value → Type 0
AreValues N vs = (xs : Writtens) × StandValues N vs xs × FitsValues xs

-- what a scalar has before a run
abbrev pub IsKnown : initials.Known → Known → Type 0
IsKnown x y = known_in y ≡ x

-- what an object has before a run
abbrev pub IsInitial : initials.Initial → Initial → Type 0
IsInitial x y = initial_in y ≡ x

-- the same of its first elements or members
abbrev pub AreInitials : initials.Initials → List Initial → Type 0
AreInitials xs ys = initials_in ys ≡ xs
