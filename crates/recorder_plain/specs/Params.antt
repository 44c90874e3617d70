-- The parameters of a function.
use Rattle.std.specs.Prelude.{List, [], Option, Some, None}
use Rattle.c_code.specs.declared.shape.Shape.{Shape}
use Rattle.c_code.specs.declared.code.FuncInfo.{FuncInfo}

-- none where there is no function
abbrev pub params_of : Option FuncInfo → List Shape
params_of (Some f) = f.params
params_of None = []
