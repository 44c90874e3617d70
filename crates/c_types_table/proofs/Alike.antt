-- Types that are equal to a test are the same.
use Rattle.std.proofs.Common.{◌≡◌, ℕ, true, List, nat_eq, ap, refl, rules}
use Rattle.std.proofs.lemmas.Bool.{and_from}
use Rattle.std.proofs.lemmas.Bool.Decides.{Decides-eqb}
use Rattle.std.specs.Cmp.{first_so, second_so}
use Rattle.std.specs.Cmp.Lexicographic.{bytes_decides}
use Rattle.c_types_table.specs.Alike.{ids_decide}
use Rattle.c_types_table.specs.declared.ty.Ty.{Ty}
use Rattle.c_types_table.specs.declared.ty.Ty.TheVariants as nodes
use Rattle.c_types_table.specs.contracts.ids.TypeIdsPartialEq.TheImpl as ids
use Rattle.c_types_table.specs.contracts.ty.TyPartialEq.TheImpl.{ghosts}
use Rattle.c_types_table.proofs.SameIds.{same_ids, same_tag}

pub same : (x y : Ty) → ghosts.eq x y ≡ true → x ≡ y
same nodes.Void y e = grind (rules)
same (nodes.Int k) y e = grind (rules)
same (nodes.Pointer t) y e = grind (rules)
same (nodes.Array t l) y e = grind (rules)
same (nodes.Struct s) y e = grind (rules)
same (nodes.UndefinedStruct tag) nodes.Void e = absurd cc
same (nodes.UndefinedStruct tag) (nodes.Int k) e = absurd cc
same (nodes.UndefinedStruct tag) (nodes.Pointer t) e = absurd cc
same (nodes.UndefinedStruct tag) (nodes.Array t l) e = absurd cc
same (nodes.UndefinedStruct tag) (nodes.Struct s) e = absurd cc
same (nodes.UndefinedStruct tag) (nodes.UndefinedStruct other) e = let tags : tag ≡ other = same_tag tag other e in cc
same (nodes.UndefinedStruct tag) (nodes.Function r ps) e = absurd cc
same (nodes.Function r ps) nodes.Void e = absurd cc
same (nodes.Function r ps) (nodes.Int k) e = absurd cc
same (nodes.Function r ps) (nodes.Pointer t) e = absurd cc
same (nodes.Function r ps) (nodes.Array t l) e = absurd cc
same (nodes.Function r ps) (nodes.Struct s) e = absurd cc
same (nodes.Function r ps) (nodes.UndefinedStruct tag) e = absurd cc
same (nodes.Function r ps) (nodes.Function q os) e =
    let numbers : r ≡ q = ap (λ n. record { 0 = n }) ((Decides-eqb r.0 q.0).0 (first_so (nat_eq r.0 q.0) (ids.ghosts.eq ps os) e)) in
    let lists : ps ≡ os = same_ids ps os (second_so (nat_eq r.0 q.0) (ids.ghosts.eq ps os) e) in
    cc

pub itself : (x : Ty) → ghosts.eq x x ≡ true
itself nodes.Void = refl
itself (nodes.Int k) = grind (rules)
itself (nodes.Pointer t) = (Decides-eqb t.0 t.0).1 refl
itself (nodes.Array t l) = and_from (nat_eq t.0 t.0) (nat_eq l l) ((Decides-eqb t.0 t.0).1 refl) ((Decides-eqb l l).1 refl)
itself (nodes.Struct s) = (Decides-eqb s.0 s.0).1 refl
itself (nodes.UndefinedStruct tag) = (bytes_decides tag tag).1 refl
itself (nodes.Function r ps) = and_from (nat_eq r.0 r.0) (ids.ghosts.eq ps ps) ((Decides-eqb r.0 r.0).1 refl) ((ids_decide ps ps).1 refl)
