-- Small sets of annotations.
use Rattle.std.specs.Prelude.{false, List, [], None}
use Rattle.stub_core.specs.declared.terms.Term.{Term}
use Rattle.stub_core.specs.declared.terms.Size.{Size}
use Rattle.stub_operations.specs.Operations.{CallSays, ParameterSays}

abbrev pub one : Term → Size
one t = record { a = t; b = None }

-- nothing is said of a parameter
abbrev pub plain : ParameterSays
plain = record { reads = None; writes = None; prepares = None; callback = false }

-- of a call, but of its parameters
abbrev pub saying : List ParameterSays → CallSays
saying ps = record { params = ps; sync = []; commit = None; cache = false }
