-- A name that holds what it held has grown by nothing.
use Rattle.std.proofs.Common.{◌≡◌, Bool, true, false, ℕ, List, [], ◌++◌, Option, Some, None, Result, Ok, Err, IsErr, take, length, sym, ◌∙◌, append-nil, arith}
use Rattle.r2_base.specs.declared.fault.Fault.{Fault}
use Rattle.r2_base.specs.Names.{GrowsFile, content}

pub stays : (T : Type 0) (old new : Option (List ℕ)) (fault : Fault) (piece : List ℕ) → new ≡ old → GrowsFile {T = T} old new (Err fault) piece
stays T None None fault piece e = e
stays T None (Some new) fault piece e = absurd cc
stays T (Some old) None fault piece e = absurd cc
stays T (Some old) (Some new) fault piece e = (0, omega arith, (let same : new ≡ old = cc in same ∙ sym (append-nil old)))

pub stays_on_err : {T : Type 0} (old new : Option (List ℕ)) (result : Result T Fault) (piece : List ℕ) → new ≡ old → IsErr result → GrowsFile old new result piece
stays_on_err old new (Ok x) piece e is = absurd (let no : false ≡ true = is in cc)
stays_on_err {T} old new (Err fault) piece e is = stays T old new fault piece e
