-- What annotations say of calls, as plain data.
use Rattle.std.specs.Prelude.{ℕ, List, map, take}
use Rattle.annot_reader_words.specs.declared.notes.Annots.{Annots}
use Rattle.annot_reader_words.specs.declared.notes.Param.{Param}
use Rattle.stub_operations.specs.declared.operation.StubOp.{StubOp}
use Rattle.stub_operations.specs.Operations.{CallSays, ParameterSays, reading, holding, preparing, only_if, keys_at_call, keys_at_return}
use Rattle.stub_operations.specs.declared.operation.StubOp.TheVariants.{Register}
use Rattle.call_operations.specs.declared.kind.OperationKind.{OperationKind}
use Rattle.call_operations.specs.declared.kind.OperationKind.TheVariants as kinds
use Rattle.call_operations.specs.declared.said.Said.{Said}

abbrev pub parameter_says : Param → ParameterSays
parameter_says p = record {
  reads = p.reads;
  writes = p.writes;
  prepares = p.prepares;
  callback = p.callback;
}

-- a place is a byte: no function that keeps its limits has more parameters
abbrev pub call_says : Annots → CallSays
call_says a = record {
  params = map parameter_says (take 256 a.params);
  sync = a.sync;
  commit = a.commit;
  cache = a.cache;
}

-- the same of what was taken out of annotations
abbrev pub says : Said → CallSays
says s = record {
  params = map parameter_says s.params.now;
  sync = s.sync.now;
  commit = s.commit;
  cache = s.cache;
}

-- the operations of a kind, of the parameter at a place
abbrev pub of_kind : OperationKind → CallSays → ℕ → ParameterSays → List StubOp
of_kind kinds.Read n p x = reading p x.reads
of_kind kinds.Hold n p x = holding p x.writes
of_kind kinds.Prepare n p x = preparing p x.prepares
of_kind kinds.Register n p x = only_if x.callback (Register p)
of_kind kinds.KeyAtCall n p x = keys_at_call n p
of_kind kinds.KeyAtReturn n p x = keys_at_return n p
