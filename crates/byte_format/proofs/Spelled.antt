-- The laws of the two ways to spell numbers.
use Rattle.std.proofs.Common.{ℕ, ◌*◌, ◌^◌, ◌<◌, ◌≤◌, true, false, refl, arith}
use Rattle.std.specs.Int.{w16, w32, w64}
use Rattle.byte_format.specs.Spelling.{varint_text}
use Rattle.byte_format.specs.Numbers.{Numbers, fixed, grouped}
use Rattle.byte_format.specs.Varint.{varint_at}
use Rattle.byte_format.proofs.Readers.{Reads, reads_as, reads_number, wide16, wide32, wide64}
use Rattle.byte_format.proofs.Codes.{reads_some}
use Rattle.byte_format.proofs.Varint.{reads_varint}

pub record ReadsNumbers (n : Numbers) : Type 0 where
  pub wide16 : Reads (n.at w16) (n.text w16) (λ v. v < 2 ^ 16)
  pub wide32 : Reads (n.at w32) (n.text w32) (λ v. v < 2 ^ 32)
  pub wide64 : Reads (n.at w64) (n.text w64) (λ v. v < 2 ^ 64)
  pub some : Reads n.some_at (n.text w16) (λ v. (1 ≤ v) × (v < 2 ^ 16))

pub reads_fixed : ReadsNumbers fixed
reads_fixed = record {
  wide16 = reads_number w16 (2 ^ 16) wide16;
  wide32 = reads_number w32 (2 ^ 32) wide32;
  wide64 = reads_number w64 (2 ^ 64) wide64;
  some = reads_some;
}

-- a number that may be 0
any : (groups bits : ℕ) → bits ≤ 7 * groups → 0 < bits → Reads (varint_at groups bits true) (varint_text groups) (λ v. v < 2 ^ bits)
any groups bits le some = reads_as (varint_at groups bits true) (varint_text groups) (varint_text groups) _ (λ v. v < 2 ^ bits) (reads_varint groups bits true le some) (λ v f. refl) (λ v f. f.0) (λ v f. (f, λ e. absurd cc))

pub reads_grouped : ReadsNumbers grouped
reads_grouped = record {
  wide16 = any 3 16 (omega arith) (omega arith);
  wide32 = any 5 32 (omega arith) (omega arith);
  wide64 = any 10 64 (omega arith) (omega arith);
  some = reads_as (varint_at 3 16 false) (varint_text 3) (varint_text 3) _ (λ v. (1 ≤ v) × (v < 2 ^ 16)) (reads_varint 3 16 false (omega arith) (omega arith)) (λ v f. refl) (λ v f. (f.1 refl, f.0)) (λ v f. (f.1, λ e. f.0));
}
