-- Globals and their parts, in small sources.
use Rattle.std.specs.Prelude.{pos}
use Rattle.r2_num.specs.declared.kinds.IntKind.TheVariants.{I32, I64}
use Rattle.c_types_model.specs.Types.{ArrayOf, PointerTo}
use Rattle.c_types_rules.specs.TypedTree.{Object, Value, AddressOf, Constant, Element, GlobalObject, Pointed, PointerPlus, PlusPointer, ReadOf, int}

abbrev pub one : Value
one = Constant I32 (pos 1)

abbrev first : Value
first = Constant I64 (pos 0)

-- int g;
abbrev pub scalar : Object
scalar = GlobalObject 1 0 int

-- int g[2];
abbrev pub row : Object
row = GlobalObject 1 0 (ArrayOf 2 int)

-- g[0], 0[g] and *g
abbrev pub element : Object
element = Element PointerPlus (AddressOf row (PointerTo int)) first int

abbrev pub element_of : Object
element_of = Element PlusPointer (AddressOf row (PointerTo int)) first int

abbrev pub pointed : Object
pointed = Pointed (AddressOf row (PointerTo int)) int

-- g[0] of int g[2][2];
abbrev pub row_of_grid : Object
row_of_grid = Element PointerPlus
    (AddressOf (GlobalObject 1 0 (ArrayOf 2 (ArrayOf 2 int))) (PointerTo (ArrayOf 2 int))) first
    (ArrayOf 2 int)

-- g[0] of int *g;
abbrev pub through_pointer : Object
through_pointer = Element PointerPlus (ReadOf (GlobalObject 1 0 (PointerTo int))) first int
