use Rattle.std.proofs.Common.{ℕ, ◌≤◌, inl, inr, arith}
use Rattle.std.proofs.lemmas.Bool.{cases_lt}
use Rattle.space_memory_access.proofs.regions.Regions.first_unserved.Goals as goal

pub loop-addr-preserved : goal.loop-addr-preserved
loop-addr-preserved c = record {
  from = omega (arith, c.in-Some.ensures.on);
  served = λ x low high. elim (cases_lt x c.loop-addr.addr) [ inl before ↦ c.loop-addr.invariant.served x low before | inr after ↦ c.in-Some.ensures.served x after high ];
}

pub returns-in-None : goal.returns-in-None
returns-in-None c = record {
  in_range = (c.loop-addr.invariant.from, omega arith, omega arith);
  holds = c.in-None.ensures.none;
  least = λ y in' unserved. elim (cases_lt y c.loop-addr.addr) [ inl before ↦ absurd (unserved (c.loop-addr.invariant.served y in'.0 before)) | inr after ↦ after ];
}

pub returns : goal.returns
returns c = λ x in' unserved. unserved (c.loop-addr.invariant.served x in'.0 (omega (arith, in'.1)))
