use Rattle.std.proofs.Common.{Some, refl, ap, ◌∙◌, arith}
use Rattle.recorder_threads.specs.declared.wants.Next.{Next}
use Rattle.recorder_stretches.proofs.stretches.next_access.Goals as goal

pub returns-then-is_access : goal.returns-then-is_access
returns-then-is_access c = record {
  alone = let one = c.if-count-ne1.false in let count = c.count.ensures in omega (arith, one, count);
  thread = c.in_ok-known.known.thread;
  want = c.in-Wants.want;
  known = c.in_ok-known.was ∙ ap (λ (n : Next). Some (record { thread = c.in_ok-known.known.thread; next = n })) c.in-Wants.is;
  access = c.if-is_access.ensures refl;
}
