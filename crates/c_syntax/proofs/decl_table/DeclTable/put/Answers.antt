use Rattle.std.proofs.Common.{◌++◌, ◌∷◌, [], slice_get, Some, sym, subst}
use Rattle.c_syntax.specs.declared.decl_table.Entry.{Entry}
use Rattle.c_syntax.specs.Alike.{AreAlike}
use Rattle.c_syntax.specs.Entries.{AreLikeFirsts, decls_of}
use Rattle.c_syntax.proofs.Entries.{with_one}
use Rattle.c_syntax.proofs.decl_table.DeclTable.put.Goals as goal

pub invariant_of-self-2 : goal.invariant_of-self-2
invariant_of-self-2 c =
    let d = c.args.decl in
    let e : Entry = record { decl = d; first = c.args.first } in
    let like = subst (λ ds. AreAlike (Some d) (slice_get (ds ++ d ∷ []) c.args.first.0)) (sym c.self.view_is) c.requires.like in
    subst (λ ns. AreLikeFirsts (decls_of ns) ns) (sym c.in_ok-push.ensures.items) (with_one c.self.inside.entries.items e c.self.invariant like)
