use Rattle.std.proofs.Common.{◌≡◌, ℕ, ◌+◌, List, drop}
use Rattle.sys_script.specs.Externals.{external_in}
use Rattle.sys_script.specs.Listing.{named_or_left}
use Rattle.sys_script.proofs.externals.externals_of.Given as goal

abbrev pub invariant-loop-place : goal.invariant-loop-place
invariant-loop-place l = (name : List ℕ) → named_or_left l.types l.iface (16 + l.place) (drop l.place l.functions) l.externals name ≡ external_in l.program l.iface name
