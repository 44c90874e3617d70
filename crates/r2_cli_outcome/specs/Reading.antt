-- What is read of a name.
use Rattle.std.specs.Prelude.{◌≡◌, ◌<◌, ℕ, List, [], length, take, IsTrue, Option, Some, None}
use Rattle.r2_base.specs.Seen.{Contents, Store}

-- what a reader may find under each name
abbrev pub Reading : Type 1
Reading = List ℕ → Option (List ℕ) → Type 0

-- what these contents say
abbrev pub Of : Contents → Reading
Of contents name found = found ≡ contents name

-- what files hold, where they tell it; of files that don't, anything
abbrev pub Sees : Store → Reading
Sees files name found = IsTrue files.tells → found ≡ files.holds name

-- the contents are those of the files, where they tell them
abbrev pub AreOf : Store → Contents → Type 0
AreOf files contents = IsTrue files.tells → (n : List ℕ) → contents n ≡ files.holds n

-- ---- how far the reading of a name has come, for the code

-- the text so far is a prefix of what the name holds
abbrev pub IsPrefixOf : List ℕ → Option (List ℕ) → Type 0
IsPrefixOf text None = text ≡ []
IsPrefixOf text (Some bytes) = take (length text) bytes ≡ text

-- the name holds more than so many bytes
pub record HoldsMore (most : ℕ) (held : Option (List ℕ)) : Type 0 where
  pub bytes : List ℕ
  pub there : held ≡ Some bytes
  pub more : most < length bytes
