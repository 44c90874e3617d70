use Rattle.std.proofs.Common.{◌≡◌, ◌<◌, ℕ, take, get_or, length}
use Rattle.std.specs.Global.{Vec}
use Rattle.log_closure.specs.Places.{thread_places}
use Rattle.log_closure.proofs.closing.by_thread.Given as goal

abbrev pub invariant-loop-place : goal.invariant-loop-place
invariant-loop-place l = record {
  wide : length l.lists.items ≡ 256;
  lists : (t : ℕ) → t < 256 → (d : Vec ℕ) → (get_or l.lists.items t d).items ≡ thread_places t (take l.place-index l.order);
}
