use Rattle.std.proofs.Common.{◌≡◌, ◌++◌, drop}
use Rattle.cut_advisor.specs.CutNodes.{texts_of}
use Rattle.cut_advisor.proofs.names.texts.Given as goal

-- those that are left still make the whole
abbrev pub invariant-loop-index : goal.invariant-loop-index
invariant-loop-index l = l.texts.items ++ drop l.index (texts_of l.names.keys) ≡ texts_of l.names.keys
