-- What a reading says of the answer, and the answer of the reading.
use Rattle.std.proofs.Common.{◌≡◌, ◌≢◌, ◌↔◌, ℕ, true, false, List, refl, ap, Result, Ok, Err, IfOk, IfErr, IsOk}
use Rattle.std.specs.Result.{IsErrOf}
use Rattle.c_lexer.specs.declared.token.Token.{Token}
use Rattle.c_lexer.specs.declared.error.LexError.{LexError}
use Rattle.c_lexer.specs.declared.error.LexError.TheVariants as errors
use Rattle.c_lexer.specs.Lexing.{Whole, Stopped, IsTokens, IsLexError, Refuses}
use Rattle.c_lexer.proofs.Readings.{one}

not_both : (bs : List ℕ) (ts : List Token) (e : LexError) → IsTokens bs ts → IsLexError bs e → ⊥
not_both bs ts e x y = absurd (let same : Whole ≡ Stopped e = (one x y.1).1 in cc)

same_error : (bs : List ℕ) (e f : LexError) → IsLexError bs e → IsLexError bs f → e ≡ f
same_error bs e f x y = let same : Stopped e ≡ Stopped f = (one x.1 y.1).1 in cc

-- an error that says so is a refusal
refused : (bs : List ℕ) (e : LexError) → e ≢ errors.Memory → Refuses bs e → IsLexError bs e
refused bs errors.Memory other h = absurd (other refl)
refused bs (errors.BadByte at) other h = h
refused bs (errors.OpenText at) other h = h
refused bs (errors.BigNumber at) other h = h
refused bs (errors.Directive at) other h = h

pub ok_exactly : {V : Type 0} (tokens_of : V → List Token) (bs : List ℕ) (r : Result V LexError) → IfOk r (λ v. IsTokens bs (tokens_of v)) → IfErr r (Refuses bs) → r ≢ Err errors.Memory → (IsOk r ↔ ((ts : List Token) × IsTokens bs ts))
ok_exactly tokens_of bs (Ok v) h g other = (λ _. (tokens_of v, h), λ _. refl)
ok_exactly tokens_of bs (Err e) h g other = (λ k. absurd (let f : false ≡ true = k in cc), λ x. absurd (not_both bs x.0 e x.1 (refused bs e (λ is. other (ap Err is)) g)))

ok_no_error : {V : Type 0} (v : V) (e : LexError) → ◌≡◌ {A = Result V LexError} (Ok v) (Err e) → ⊥
ok_no_error v e k = absurd cc

error_is : {V : Type 0} (f e : LexError) → ◌≡◌ {A = Result V LexError} (Err f) (Err e) → f ≡ e
error_is f e k = cc

pub error_exactly : {V : Type 0} (tokens_of : V → List Token) (bs : List ℕ) (r : Result V LexError) (e : LexError) → e ≢ errors.Memory → IfOk r (λ v. IsTokens bs (tokens_of v)) → IfErr r (Refuses bs) → r ≢ Err errors.Memory → (IsErrOf r e ↔ IsLexError bs e)
error_exactly tokens_of bs (Ok v) e ne h g other = (λ k. absurd (ok_no_error v e k), λ x. absurd (not_both bs (tokens_of v) e h x))
error_exactly tokens_of bs (Err f) e ne h g other =
    let r = refused bs f (λ m. other (ap Err m)) g in
    (λ k. (rw (error_is f e k) at r), λ x. ap Err (same_error bs f e r x))

pub not_bad_byte : (at : ℕ) → errors.BadByte at ≢ errors.Memory
not_bad_byte at e = absurd cc

pub not_open_text : (at : ℕ) → errors.OpenText at ≢ errors.Memory
not_open_text at e = absurd cc

pub not_big_number : (at : ℕ) → errors.BigNumber at ≢ errors.Memory
not_big_number at e = absurd cc

pub not_directive : (at : ℕ) → errors.Directive at ≢ errors.Memory
not_directive at e = absurd cc

pub says : (bs : List ℕ) (e : LexError) → IsLexError bs e → Refuses bs e
says bs errors.Memory h = tt
says bs (errors.BadByte at) h = h
says bs (errors.OpenText at) h = h
says bs (errors.BigNumber at) h = h
says bs (errors.Directive at) h = h
