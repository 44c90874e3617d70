-- The bytes that globals have before a run (C11 6.7.9).
use Rattle.std.specs.Prelude.{ℕ, ◌+◌, ◌-◌, List, [], ◌∷◌, ◌++◌, length, take, replicate, Option, Some, None}
use Rattle.marks.specs.Places.{function_address}
use Rattle.marks.specs.Ranges.{bytes_of_number}
use Rattle.c_types_model.specs.Types.{CType, Void, Integer, PointerTo, ArrayOf, StructOf, UndefinedStruct, FunctionOf}
use Rattle.c_types_rules.specs.Initials.{Known, Initial, Initials, Number, AddressOfText, AddressOfGlobal, AddressOfFunction, Scalar, Bytes, Listed, NoInitials, MoreInitials, types_in}
use Rattle.c_code.specs.Values.{written}
use Rattle.c_semantics.specs.Context.{Source, global_address, member_offset, size_of, text_address}

-- the value of a scalar, where strings and globals lie as in the source
abbrev pub known_value : Source → Known → ℕ
known_value s (Number n) = written n
known_value s (AddressOfText from) = text_address s from
known_value s (AddressOfGlobal place) = global_address s place
known_value s (AddressOfFunction from number) = function_address number

-- the given bytes, and zeros after them up to so many
abbrev pub padded : ℕ → List ℕ → List ℕ
padded n bytes = bytes ++ replicate (n - length bytes) 0

abbrev mutual
  -- the bytes of an object of a type; what isn't given is zero
  pub image : Source → Initial → CType → List ℕ
  image s (Scalar k) t = bytes_of_number (size_of s t) (known_value s k)
  image s (Bytes bytes) t = padded (size_of s t) bytes
  image s (Listed xs) (ArrayOf n t) = padded (size_of s (ArrayOf n t)) (elements s xs t)
  image s (Listed xs) (StructOf number) = padded (size_of s (StructOf number))
      (members s xs number (types_in s.program.structs number) 0 0)
  image s (Listed xs) Void = padded (size_of s Void) []
  image s (Listed xs) (Integer k) = padded (size_of s (Integer k)) []
  image s (Listed xs) (PointerTo t) = padded (size_of s (PointerTo t)) []
  image s (Listed xs) (UndefinedStruct tag) = padded (size_of s (UndefinedStruct tag)) []
  image s (Listed xs) (FunctionOf r ts) = padded (size_of s (FunctionOf r ts)) []

  pub elements : Source → Initials → CType → List ℕ
  elements s NoInitials t = []
  elements s (MoreInitials x xs) t = image s x t ++ elements s xs t

  -- the members of a struct from a place on, after so many of its bytes: each at its offset, zeros between them
  pub members : Source → Initials → (struct : ℕ) → List CType → (place after : ℕ) → List ℕ
  members s NoInitials struct ts place after = []
  members s (MoreInitials x xs) struct [] place after = []
  members s (MoreInitials x xs) struct (t ∷ ts) place after =
      let offset = member_offset s (StructOf struct) place in
      replicate (offset - after) 0 ++
      (image s x t ++ members s xs struct ts (place + 1) (offset + size_of s t))

-- what isn't given at all is zero
abbrev pub given_image : Source → Option Initial → CType → List ℕ
given_image s (Some x) t = image s x t
given_image s None t = []

-- the bytes of a global of this size
abbrev pub global_image : Source → (size : ℕ) → Option Initial → CType → List ℕ
global_image s size x t = take size (padded size (given_image s x t))
