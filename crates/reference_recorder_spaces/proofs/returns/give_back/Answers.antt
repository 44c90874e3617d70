use Rattle.std.proofs.Common.{length, refl, sym, ap, ◌∙◌, subst, arith}
use Rattle.std.specs.Prelude.{slice_index}
use Rattle.marks.specs.Marks.{released}
use Rattle.space_memory_access.specs.Held.{HeldState, innermost}
use Rattle.space_memory.specs.Releases.{IsReleaseRefused, outs_of}
use Rattle.space_memory_laws.specs.Changes.{IsReleased}
use Rattle.reference_recorder_marks.specs.Marks.{commit_of}
use Rattle.reference_recorder_spaces.specs.Next.{committing}
use Rattle.reference_recorder_spaces.proofs.Giving.{as_many, given, gives, in_call, may_close, still_held}
use Rattle.reference_recorder_spaces.proofs.Pieces.{given_left, given_right, puts_more}
use Rattle.reference_recorder_spaces.proofs.returns.give_back.Goals as goal

pub put_all-requires : goal.put_all-requires
put_all-requires c =
    let n = c.requires.next in
    let commit = commit_of c.args.commit.now in
    given_left c.args.thread c.args.outs.now (released commit) c.args.spaces.now
    (given c.args.spaces.now c.args.thread n.0 n.1 n.2 n.3 c.args.outs.now commit n.4.0 n.4.1 n.4.2 c.requires.in_range)

pub put_released-requires : goal.put_released-requires
put_released-requires c =
    let n = c.requires.next in
    let commit = commit_of c.args.commit.now in
    given_right c.args.thread c.args.outs.now (released commit) c.args.spaces.now c.put_all.new.spaces
    (given c.args.spaces.now c.args.thread n.0 n.1 n.2 n.3 c.args.outs.now commit n.4.0 n.4.1 n.4.2 c.requires.in_range) c.put_all.ensures

pub release-requires-clause-open : goal.release-requires-clause-open
release-requires-clause-open c =
    let n = c.requires.next in
    let commit = commit_of c.args.commit.now in
    let puts = puts_more c.args.thread c.args.outs.now (released commit) c.args.spaces.now c.put_all.new.spaces c.put_released.new.spaces c.put_all.ensures c.put_released.ensures in
    let held = still_held c.args.spaces.now c.args.thread n.0 n.1 n.2 n.3 c.args.outs.now commit n.4.0 n.4.1 n.4.2 c.requires.in_range c.put_released.new.spaces puts in
    let open' = in_call c.args.spaces.now c.args.thread n.0 n.1 n.2 n.3 c.args.outs.now commit n.4.0 n.4.1 n.4.2 c.requires.in_range in
    let same = ap (λ (q : HeldState). slice_index q.depths c.args.thread) held in
    omega (arith, open', same)

pub release-requires-clause-sizes : goal.release-requires-clause-sizes
release-requires-clause-sizes c =
    let n = c.requires.next in
    let commit = commit_of c.args.commit.now in
    let puts = puts_more c.args.thread c.args.outs.now (released commit) c.args.spaces.now c.put_all.new.spaces c.put_released.new.spaces c.put_all.ensures c.put_released.ensures in
    let held = still_held c.args.spaces.now c.args.thread n.0 n.1 n.2 n.3 c.args.outs.now commit n.4.0 n.4.1 n.4.2 c.requires.in_range c.put_released.new.spaces puts in
    ap length (c.deref.ensures.value ∙ c.in_ok-used.ensures)
    ∙ as_many c.args.spaces.now c.args.thread n.0 n.1 n.2 n.3 c.args.outs.now commit n.4.0 n.4.1 n.4.2 c.requires.in_range
    ∙ sym (ap (λ (q : HeldState). length (outs_of (innermost q c.args.thread) q.regions)) held)

pub unreachable-requires : goal.unreachable-requires
unreachable-requires c =
    let n = c.requires.next in
    let t = c.args.thread in
    let commit = commit_of c.args.commit.now in
    let mid = c.put_released.new.spaces in
    let r = c.in-Err.field-0 in
    let puts = puts_more t c.args.outs.now (released commit) c.args.spaces.now c.put_all.new.spaces mid c.put_all.ensures c.put_released.ensures in
    let why = (c.release.ensures.refused r).0 c.in-Err.is in
    may_close c.args.spaces.now t n.0 n.1 n.2 n.3 c.args.outs.now commit n.4.0 n.4.1 n.4.2 c.requires.in_range mid puts r
    (subst (λ sizes. IsReleaseRefused mid.bytes mid.held.regions (innermost mid.held t) sizes (committing commit) r) (c.deref.ensures.value ∙ c.in_ok-used.ensures)
    (subst (λ q. IsReleaseRefused mid.bytes mid.held.regions (innermost mid.held t) c.deref.result.now q r) c.committing.ensures why))

pub returns : goal.returns
returns c = λ func args value same e kind n.
    let t = c.args.thread in
    let commit = commit_of c.args.commit.now in
    let mid = c.put_released.new.spaces in
    let new = c.release.new.self in
    let puts = puts_more t c.args.outs.now (released commit) c.args.spaces.now c.put_all.new.spaces mid c.put_all.ensures c.put_released.ensures in
    let both = c.in-Ok.ensures.released.0 refl in
    let done : IsReleased mid new t c.deref.result.now c.committing.result = record {
      key = both.0;
      returned = both.1;
      regions = c.in-Ok.ensures.regions;
      depths = c.in-Ok.ensures.depths;
      rest = c.release.ensures.rest;
    } in
    gives c.args.spaces.now t func args value same c.args.outs.now commit e kind n c.requires.in_range mid new puts
    (λ h. subst (λ sizes. IsReleased mid new t sizes (committing commit)) (c.deref.ensures.value ∙ c.in_ok-used.ensures)
    (subst (IsReleased mid new t c.deref.result.now) c.committing.ensures done))
