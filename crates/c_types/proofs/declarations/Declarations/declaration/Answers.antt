use Rattle.std.proofs.Common.{◌≡◌, ℕ, List, sym, ap, ◌∙◌}
use Rattle.c_syntax.specs.declared.id.DeclId.{DeclId}
use Rattle.c_syntax.specs.declared.declaration.Base.TheVariants as bases
use Rattle.c_syntax.specs.declared.declaration.Rest.TheVariants as rests
use Rattle.c_types.specs.States.{program_of}
use Rattle.c_types.proofs.Naming.{IsProgramOf, other_words, struct_words}
use Rattle.c_types.proofs.Parts.{decl_inside, members_of_rest, rest_of}
use Rattle.c_types.proofs.Knowing.{nothing_known}
use Rattle.c_types.proofs.Quieting.{declares, declares_as}
use Rattle.c_types.proofs.Stepping.{steps_as}
use Rattle.c_types.proofs.declarations.Declarations.declaration.Goals as goal
use Rattle.c_types.proofs.declarations.Declarations.declaration.Goals.{in_default-via-in-Struct+in_default, in_default-via-in_default}

pub decl-decl-requires : goal.decl-decl-requires
decl-decl-requires c = record { inside = decl_inside c.args.tree.now c.args.id c.requires.id }

pub struct_defined-requires-clause-base : goal.struct_defined-requires-clause-base
struct_defined-requires-clause-base c = c.in-Struct-Members.is-0 ∙ ap bases.Struct (sym c.as_slice.ensures.bytes)

pub struct_defined-requires-clause-ids : goal.struct_defined-requires-clause-ids
struct_defined-requires-clause-ids c =
    let N = c.args.tree.now in
    let e = c.decl-decl.result.now in
    members_of_rest N e.rest c.as_slice-in-Struct-Members.result.now (rest_of N c.args.id e c.requires.id c.decl-decl.ensures.node)
    (c.in-Struct-Members.is-1 ∙ ap rests.Members (sym c.as_slice-in-Struct-Members.ensures.items))

pub returns-in-Struct-Members-clause-agrees : goal.returns-in-Struct-Members-clause-agrees
returns-in-Struct-Members-clause-agrees c =
    let d = c.args.self.now in
    let N = c.args.tree.now in
    let e = c.decl-decl.result.now in
    let new = c.struct_defined.new.self in
    λ y z.
    let w = struct_words N c.args.id e c.as_slice.result.now c.as_slice-in-Struct-Members.result.now c.decl-decl.ensures.node (c.in-Struct-Members.is-0 ∙ ap bases.Struct (sym c.as_slice.ensures.bytes))
    (c.in-Struct-Members.is-1 ∙ ap rests.Members (sym c.as_slice-in-Struct-Members.ensures.items)) d.env.env.tags (program_of d) y z in
    declares d new _ c.struct_defined.result (steps_as d new (IsProgramOf new) _ _ c.struct_defined.result w.2 (c.struct_defined.ensures w.0 w.1))

pub returns-in-Struct-Members-clause-known : goal.returns-in-Struct-Members-clause-known
returns-in-Struct-Members-clause-known c = nothing_known c.struct_defined.result

pub returns-in_default-clause-agrees : goal.returns-in_default-clause-agrees
returns-in_default-clause-agrees c =
    let d = c.args.self.now in
    let e = c.decl-decl.result.now in
    let other : (tag : List ℕ) (is : List DeclId) → e.base ≡ bases.Struct tag → e.rest ≡ rests.Members is → ⊥ =
    elim c.in_default.branch [
      | in_default-via-in-Struct+in_default w ↦ (λ tag is b r. w.in_default.not-Members-1 is r)
      | in_default-via-in_default w ↦ (λ tag is b r. w.in_default.not-Struct-0 tag b)
    ] in
    λ y z.
    declares_as d c.named.new.self _ _ c.named.result (other_words c.args.tree.now c.args.id e c.decl-decl.ensures.node other d.env.env.tags (program_of d) y z) (c.named.ensures.agrees y z)
