use Rattle.std.proofs.Common.{◌≡◌, ◌<◌, ◌++◌, max, map, drop}
use Rattle.c_types_model.specs.Layouts.{capped, offsets_from, end_from, greatest_align}
use Rattle.c_types_model.proofs.layout.lay_out.Given as goal

abbrev pub invariant-loop-member : goal.invariant-loop-member
invariant-loop-member l = record {
  aligned : 0 < l.align;
  offsets : l.offsets.items ++ map capped (offsets_from l.end (drop l.member-index l.members)) ≡ map capped (offsets_from 0 l.members);
  ends : capped (end_from l.end (drop l.member-index l.members)) ≡ capped (end_from 0 l.members);
  aligns : max l.align (greatest_align (drop l.member-index l.members)) ≡ greatest_align l.members;
}
