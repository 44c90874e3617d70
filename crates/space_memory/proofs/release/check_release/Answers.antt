use Rattle.std.proofs.Common.{refl, sym}
use Rattle.space_memory_access.specs.declared.refusal.Refusal.TheVariants.{NoKey, Size}
use Rattle.space_memory.specs.Releases.{HasKey, AllReturned, IsReleaseRefused}
use Rattle.space_memory.proofs.Refused.{refused_so, refused_not, allowed_so, allowed}
use Rattle.space_memory.proofs.Returned.{release_once, release_clash, size_none, all_none, no_key, size_out, size_committed, all_committed, prepared_whole}
use Rattle.space_memory.proofs.release.check_release.Goals as goal

-- nothing is committed, and a region of the call isn't filled
pub returns-in-Some-first_unfilled-clause-released : goal.returns-in-Some-first_unfilled-clause-released
returns-in-Some-first_unfilled-clause-released c =
    let bytes = c.args.bytes.now in let regions = c.args.held.now.regions in let used = c.args.used.now in
    refused_not (HasKey regions c.args.commit × AllReturned bytes regions c.args.call used c.args.commit) (λ r. IsReleaseRefused bytes regions c.args.call used c.args.commit r) (release_once bytes regions c.args.call used c.args.commit) (release_clash bytes regions c.args.call used c.args.commit)
    (Size c.in-Some-first_unfilled.addr) (size_none bytes regions c.args.call used c.args.commit _ c.in-Some-first_unfilled.addr c.in_default.is c.as_slice.ensures c.in-Some-first_unfilled.ensures)

pub returns-in-Some-first_unfilled-clause-refused : goal.returns-in-Some-first_unfilled-clause-refused
returns-in-Some-first_unfilled-clause-refused c =
    let bytes = c.args.bytes.now in let regions = c.args.held.now.regions in let used = c.args.used.now in
    refused_so (HasKey regions c.args.commit × AllReturned bytes regions c.args.call used c.args.commit) (λ r. IsReleaseRefused bytes regions c.args.call used c.args.commit r) (release_once bytes regions c.args.call used c.args.commit) (release_clash bytes regions c.args.call used c.args.commit)
    (Size c.in-Some-first_unfilled.addr) (size_none bytes regions c.args.call used c.args.commit _ c.in-Some-first_unfilled.addr c.in_default.is c.as_slice.ensures c.in-Some-first_unfilled.ensures)

-- nothing is committed, and all are
pub returns-in-None-clause-refused : goal.returns-in-None-clause-refused
returns-in-None-clause-refused c =
    let bytes = c.args.bytes.now in let regions = c.args.held.now.regions in let used = c.args.used.now in
    allowed_so (HasKey regions c.args.commit × AllReturned bytes regions c.args.call used c.args.commit) (λ r. IsReleaseRefused bytes regions c.args.call used c.args.commit r) (release_once bytes regions c.args.call used c.args.commit) (release_clash bytes regions c.args.call used c.args.commit)
    (all_none bytes regions c.args.call used c.args.commit _ c.in_default.is c.as_slice.ensures c.in-None.ensures)

pub returns-in-None-clause-released : goal.returns-in-None-clause-released
returns-in-None-clause-released c =
    let bytes = c.args.bytes.now in let regions = c.args.held.now.regions in let used = c.args.used.now in
    allowed (HasKey regions c.args.commit × AllReturned bytes regions c.args.call used c.args.commit) (λ r. IsReleaseRefused bytes regions c.args.call used c.args.commit r) (release_once bytes regions c.args.call used c.args.commit) (release_clash bytes regions c.args.call used c.args.commit)
    (all_none bytes regions c.args.call used c.args.commit _ c.in_default.is c.as_slice.ensures c.in-None.ensures)

-- the committed key isn't in use
pub returns-in_default-prepared-clause-released : goal.returns-in_default-prepared-clause-released
returns-in_default-prepared-clause-released c =
    let bytes = c.args.bytes.now in let regions = c.args.held.now.regions in let used = c.args.used.now in
    refused_not (HasKey regions c.args.commit × AllReturned bytes regions c.args.call used c.args.commit) (λ r. IsReleaseRefused bytes regions c.args.call used c.args.commit r) (release_once bytes regions c.args.call used c.args.commit) (release_clash bytes regions c.args.call used c.args.commit)
    (NoKey c.in-Some.key) (no_key bytes regions c.args.call used c.args.commit c.in-Some.key c.in-Some.size c.in-Some.is c.in_default-prepared.ensures)

pub returns-in_default-prepared-clause-refused : goal.returns-in_default-prepared-clause-refused
returns-in_default-prepared-clause-refused c =
    let bytes = c.args.bytes.now in let regions = c.args.held.now.regions in let used = c.args.used.now in
    refused_so (HasKey regions c.args.commit × AllReturned bytes regions c.args.call used c.args.commit) (λ r. IsReleaseRefused bytes regions c.args.call used c.args.commit r) (release_once bytes regions c.args.call used c.args.commit) (release_clash bytes regions c.args.call used c.args.commit)
    (NoKey c.in-Some.key) (no_key bytes regions c.args.call used c.args.commit c.in-Some.key c.in-Some.size c.in-Some.is c.in_default-prepared.ensures)

-- it is, and a region of the call isn't filled
pub returns-in-Some-first_unfilled-2-clause-released : goal.returns-in-Some-first_unfilled-2-clause-released
returns-in-Some-first_unfilled-2-clause-released c =
    let bytes = c.args.bytes.now in let regions = c.args.held.now.regions in let used = c.args.used.now in
    refused_not (HasKey regions c.args.commit × AllReturned bytes regions c.args.call used c.args.commit) (λ r. IsReleaseRefused bytes regions c.args.call used c.args.commit r) (release_once bytes regions c.args.call used c.args.commit) (release_clash bytes regions c.args.call used c.args.commit)
    (Size c.in-Some-first_unfilled-2.addr) (size_out bytes regions c.args.call used c.args.commit c.in-Some.key c.in-Some.size c.in-Some.is c.in-Some-prepared.region.now c.in-Some-prepared.ensures _ c.in-Some-first_unfilled-2.addr c.as_slice-2.ensures c.in-Some-first_unfilled-2.ensures)

pub returns-in-Some-first_unfilled-2-clause-refused : goal.returns-in-Some-first_unfilled-2-clause-refused
returns-in-Some-first_unfilled-2-clause-refused c =
    let bytes = c.args.bytes.now in let regions = c.args.held.now.regions in let used = c.args.used.now in
    refused_so (HasKey regions c.args.commit × AllReturned bytes regions c.args.call used c.args.commit) (λ r. IsReleaseRefused bytes regions c.args.call used c.args.commit r) (release_once bytes regions c.args.call used c.args.commit) (release_clash bytes regions c.args.call used c.args.commit)
    (Size c.in-Some-first_unfilled-2.addr) (size_out bytes regions c.args.call used c.args.commit c.in-Some.key c.in-Some.size c.in-Some.is c.in-Some-prepared.region.now c.in-Some-prepared.ensures _ c.in-Some-first_unfilled-2.addr c.as_slice-2.ensures c.in-Some-first_unfilled-2.ensures)

-- the committed region has its bytes
pub is_filled-requires-clause-len : goal.is_filled-requires-clause-len
is_filled-requires-clause-len c = (prepared_whole c.args.held.now.regions c.in-Some.key c.in-Some-prepared.region.now c.requires.whole (sym c.in-Some-prepared.ensures)).0

pub is_filled-requires-clause-ends : goal.is_filled-requires-clause-ends
is_filled-requires-clause-ends c = (prepared_whole c.args.held.now.regions c.in-Some.key c.in-Some-prepared.region.now c.requires.whole (sym c.in-Some-prepared.ensures)).1

-- and isn't filled
pub returns-then-not-is_filled-clause-released : goal.returns-then-not-is_filled-clause-released
returns-then-not-is_filled-clause-released c =
    let bytes = c.args.bytes.now in let regions = c.args.held.now.regions in let used = c.args.used.now in
    refused_not (HasKey regions c.args.commit × AllReturned bytes regions c.args.call used c.args.commit) (λ r. IsReleaseRefused bytes regions c.args.call used c.args.commit r) (release_once bytes regions c.args.call used c.args.commit) (release_clash bytes regions c.args.call used c.args.commit)
    (Size c.in-Some-prepared.region.now.range.addr) (size_committed bytes regions c.args.call used c.args.commit c.in-Some.key c.in-Some.size c.in-Some.is c.in-Some-prepared.region.now c.in-Some-prepared.ensures _ c.as_slice-2.ensures c.requires.sizes c.in_default-first_unfilled.ensures (λ filled. (let wrong = c.if-not-is_filled.ensures.1 filled in absurd (cc))))

pub returns-then-not-is_filled-clause-refused : goal.returns-then-not-is_filled-clause-refused
returns-then-not-is_filled-clause-refused c =
    let bytes = c.args.bytes.now in let regions = c.args.held.now.regions in let used = c.args.used.now in
    refused_so (HasKey regions c.args.commit × AllReturned bytes regions c.args.call used c.args.commit) (λ r. IsReleaseRefused bytes regions c.args.call used c.args.commit r) (release_once bytes regions c.args.call used c.args.commit) (release_clash bytes regions c.args.call used c.args.commit)
    (Size c.in-Some-prepared.region.now.range.addr) (size_committed bytes regions c.args.call used c.args.commit c.in-Some.key c.in-Some.size c.in-Some.is c.in-Some-prepared.region.now c.in-Some-prepared.ensures _ c.as_slice-2.ensures c.requires.sizes c.in_default-first_unfilled.ensures (λ filled. (let wrong = c.if-not-is_filled.ensures.1 filled in absurd (cc))))

-- or is
pub returns-clause-released : goal.returns-clause-released
returns-clause-released c =
    let bytes = c.args.bytes.now in let regions = c.args.held.now.regions in let used = c.args.used.now in
    allowed (HasKey regions c.args.commit × AllReturned bytes regions c.args.call used c.args.commit) (λ r. IsReleaseRefused bytes regions c.args.call used c.args.commit r) (release_once bytes regions c.args.call used c.args.commit) (release_clash bytes regions c.args.call used c.args.commit)
    (all_committed bytes regions c.args.call used c.args.commit c.in-Some.key c.in-Some.size c.in-Some.is c.in-Some-prepared.region.now c.in-Some-prepared.ensures _ c.as_slice-2.ensures c.requires.sizes c.in_default-first_unfilled.ensures (c.if-not-is_filled.ensures.0 refl))

pub returns-clause-refused : goal.returns-clause-refused
returns-clause-refused c =
    let bytes = c.args.bytes.now in let regions = c.args.held.now.regions in let used = c.args.used.now in
    allowed_so (HasKey regions c.args.commit × AllReturned bytes regions c.args.call used c.args.commit) (λ r. IsReleaseRefused bytes regions c.args.call used c.args.commit r) (release_once bytes regions c.args.call used c.args.commit) (release_clash bytes regions c.args.call used c.args.commit)
    (all_committed bytes regions c.args.call used c.args.commit c.in-Some.key c.in-Some.size c.in-Some.is c.in-Some-prepared.region.now c.in-Some-prepared.ensures _ c.as_slice-2.ensures c.requires.sizes c.in_default-first_unfilled.ensures (c.if-not-is_filled.ensures.0 refl))
