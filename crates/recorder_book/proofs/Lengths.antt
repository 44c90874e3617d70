-- How long the parts of a record are.
use Rattle.std.proofs.Common.{◌≡◌, ℕ, ◌+◌, ◌*◌, ◌%◌, ◌≤◌, Bool, ⊎_elim, List, [], ◌∷◌, length, refl, sym, ap, ◌∙◌, arith}
use Rattle.std.specs.Prelude.{sum_by}
use Rattle.std.specs.Int.{w32, w64, to_be_bytes}
use Rattle.std.specs.List.{flat_map}
use Rattle.std.proofs.lemmas.List.{length-append}
use Rattle.std.proofs.lemmas.List.Sums.{sum_by-cons}
use Rattle.std.proofs.Math.Nat.{mod-eq_of_lt}
use Rattle.std.proofs.lemmas.Bool.{cases_lt}
use Rattle.run_events.specs.declared.key.KeyMark.{KeyMark}
use Rattle.run_events.specs.declared.event.Event.{Event}
use Rattle.run_events.specs.declared.event.Event.TheVariants.{Call, Ret, Up}
use Rattle.log_codec.specs.LogText.{key_text, piece_text, body_text}
use Rattle.whole_runs.specs.Records.{version}
use Rattle.recorder_book.specs.Sizes.{IsSizeOf, in_full}

words_length : (ns : List ℕ) → length (flat_map (to_be_bytes w64) ns) ≡ 8 * length ns
words_length [] = refl
words_length (n ∷ ns) = length-append (to_be_bytes w64 n) (flat_map (to_be_bytes w64) ns) ∙ omega (arith, words_length ns)

keys_length : (qs : List KeyMark) → length (flat_map (key_text to_be_bytes) qs) ≡ 13 * length qs
keys_length [] = refl
keys_length (q ∷ qs) = length-append (key_text to_be_bytes q) (flat_map (key_text to_be_bytes) qs) ∙ omega (arith, keys_length qs)

pieces_length : (ps : List (List ℕ)) → length (flat_map (piece_text to_be_bytes) ps) ≡ sum_by (λ (bytes : List ℕ). 4 + length bytes) ps
pieces_length [] = refl
pieces_length (p ∷ ps) =
    length-append (piece_text to_be_bytes p) (flat_map (piece_text to_be_bytes) ps)
    ∙ omega (arith, length-append (to_be_bytes w32 (length p)) p, pieces_length ps)
    ∙ sym (sum_by-cons (λ (bytes : List ℕ). 4 + length bytes) p ps)

pub call_length : (e : Event) (func : ℕ) (args : List ℕ) (count : ℕ) → e ≡ Call func args → count ≡ length args → 3 + 8 * count ≡ length (body_text version.number (in_full e))
call_length e func args count is same = omega (arith, same, words_length args) ∙ ap (λ e. length (body_text version.number (in_full e))) (sym is)

pub up_length : (e : Event) (func : ℕ) (args : List ℕ) (count : ℕ) → e ≡ Up func args → count ≡ length args → 3 + 8 * count ≡ length (body_text version.number (in_full e))
up_length e func args count is same = omega (arith, same, words_length args) ∙ ap (λ e. length (body_text version.number (in_full e))) (sym is)

pub ret_length : (e : Event) (same : Bool) (result : ℕ) (outs : List (List ℕ)) (size : ℕ) → e ≡ Ret same result outs → size ≡ sum_by (λ (bytes : List ℕ). 4 + length bytes) outs → 10 + size ≡ length (body_text version.number (in_full e))
ret_length e same result outs size is sum = omega (arith, sum, pieces_length outs) ∙ ap (λ e. length (body_text version.number (in_full e))) (sym is)

pub event_length : (e : Event) (keys body : ℕ) → body ≡ length (body_text version.number (in_full e)) → IsSizeOf e keys (10 + 13 * keys + body)
event_length e keys body is r of count =
    let own : length (body_text version.number (in_full r.event)) ≡ body = ap (λ e. length (body_text version.number (in_full e))) of ∙ sym is in
    omega (arith, own, count, keys_length r.keys, length-append (flat_map (key_text version.number) r.keys) (body_text version.number (in_full r.event)))

-- a count of some that is a multiple is not below one chunk
pub one_chunk_at_least : (n c m : ℕ) → n ≡ m + 1 → n % c ≡ 0 → c ≤ n
one_chunk_at_least n c m is none = ⊎_elim (λ lt. absurd (omega (arith, is, sym (mod-eq_of_lt lt) ∙ none))) (λ le. le) (cases_lt n c)
