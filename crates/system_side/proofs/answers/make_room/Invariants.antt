use Rattle.std.proofs.Common.{◌≡◌, ℕ, length}
use Rattle.system_side.specs.Answers.{left_of}
use Rattle.system_side.proofs.answers.make_room.Given as goal

abbrev pub invariant-loop : goal.invariant-loop
invariant-loop l = record { long : length l.queues.items ≡ l.counter; same : (f : ℕ) → left_of l.queues.items f ≡ left_of l.initial.queues.items f }
