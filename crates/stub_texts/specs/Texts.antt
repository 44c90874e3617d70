-- The text of a set of stubs.
use Rattle.std.specs.Prelude.{ℕ, ◌+◌, List, [], ◌∷◌, ◌++◌, codes, decimal, Option, Some, None}
use Rattle.std.specs.List.{flat_map}
use Rattle.run_events.specs.Class.{word_of}
use Rattle.run_events.specs.declared.key.Class.{Class}
use Rattle.stub_core.specs.declared.terms.Term.{Term}
use Rattle.stub_core.specs.declared.terms.Term.TheVariants.{Const, Param, Return}
use Rattle.stub_core.specs.declared.terms.Size.{Size}
use Rattle.stub_operations.specs.declared.operation.StubOp.{StubOp}
use Rattle.stub_operations.specs.declared.operation.StubOp.TheVariants.{ReadIn, HoldOut, Prepare, Register, Commit, KeyAtCall, KeyAtRet, CacheRet, Pass}
use Rattle.stub_operations.specs.Stubs.{Stubs}
use Rattle.c_code.specs.declared.code.FuncInfo.{FuncInfo}
use Rattle.c_code.specs.Machine.{Flat, func_of}

abbrev pub term_text : Term → List ℕ
term_text (Const n) = decimal n
term_text (Param p) = codes "arg" ++ decimal p
term_text Return = codes "return"

abbrev pub factor_text : Option Term → List ℕ
factor_text (Some t) = codes "*" ++ term_text t
factor_text None = []

abbrev pub size_text : Size → List ℕ
size_text s = term_text s.a ++ factor_text s.b

abbrev pub place_text : Option ℕ → List ℕ
place_text (Some p) = codes " " ++ decimal p
place_text None = []

-- words, a space, CLASS, and the place of its parameter
abbrev pub keyed : (words : List ℕ) → Class → Option ℕ → List ℕ
keyed words class p = words ++ codes " " ++ word_of class ++ place_text p

-- words, and then the place of a parameter, or a size
abbrev pub placed : (words : List ℕ) → ℕ → List ℕ
placed words p = words ++ decimal p

abbrev pub sized : (words : List ℕ) → Size → List ℕ
sized words size = words ++ size_text size

-- a line, without its end
abbrev pub operation_text : StubOp → List ℕ
operation_text (ReadIn p size) = placed (codes "read ") p ++ sized (codes " size ") size
operation_text (HoldOut p cap used) = placed (codes "hold ") p ++ sized (codes " cap ") cap ++
    sized (codes " used ") used
operation_text (Prepare p key cap) = placed (codes "prepare ") p ++ placed (codes " key arg") key ++
    sized (codes " cap ") cap
operation_text (Register p) = placed (codes "register ") p
operation_text (Commit key used) = placed (codes "commit key arg") key ++ sized (codes " used ") used
operation_text (KeyAtCall class p) = keyed (codes "keycall") class p
operation_text (KeyAtRet class p) = keyed (codes "keyret") class p
operation_text CacheRet = codes "cache"
operation_text Pass = codes "pass"

abbrev pub line_text : StubOp → List ℕ
line_text op = operation_text op ++ codes "\n"

abbrev pub name_in : Option FuncInfo → List ℕ
name_in (Some f) = f.name
name_in None = []

-- the names of functions by number, as code has them
abbrev pub names_in : Flat → (number : ℕ) → List ℕ
names_in code number = name_in (func_of code number)

-- stub WORD NUMBER NAME, a line for each operation, and `end`
abbrev pub stub_text : (word name : List ℕ) → (number : ℕ) → List StubOp → List ℕ
stub_text word name number ops = codes "stub " ++ word ++ codes " " ++ decimal number ++ codes " " ++ name ++
    codes "\n" ++ flat_map line_text ops ++ codes "end\n"

abbrev pub maybe_text : (word name : List ℕ) → (number : ℕ) → Option (List StubOp) → List ℕ
maybe_text word name number (Some ops) = stub_text word name number ops
maybe_text word name number None = []

-- those of functions by number, from this one on, of which these are the names
abbrev pub texts_from : (word : List ℕ) → (names : ℕ → List ℕ) → (number : ℕ) → List (Option (List StubOp)) →
    List ℕ
texts_from word names number [] = []
texts_from word names number (ops ∷ all) = maybe_text word (names number) number ops ++
    texts_from word names (number + 1) all

-- the text of a set: of the functions that were added, by number
abbrev pub stubs_text : (word : List ℕ) → (names : ℕ → List ℕ) → Stubs → List ℕ
stubs_text word names s = texts_from word names 0 s.added
