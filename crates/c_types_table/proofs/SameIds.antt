-- What the tests of numbers and tags find equal is the same.
use Rattle.std.proofs.Common.{◌≡◌, ℕ, true, List}
use Rattle.std.specs.Cmp.Lexicographic.{bytes_decides}
use Rattle.c_types_table.specs.declared.ids.TypeId.{TypeId}
use Rattle.c_types_table.specs.contracts.ids.TypeIdsPartialEq.TheImpl as ids
use Rattle.c_types_table.specs.contracts.tag.TagPartialEq.TheImpl as tags
use Rattle.c_types_table.specs.Alike.{ids_decide}

pub same_ids : (a b : List TypeId) → ids.ghosts.eq a b ≡ true → a ≡ b
same_ids a b = (ids_decide a b).0

pub same_tag : (a b : List ℕ) → tags.ghosts.eq a b ≡ true → a ≡ b
same_tag a b = (bytes_decides a b).0
