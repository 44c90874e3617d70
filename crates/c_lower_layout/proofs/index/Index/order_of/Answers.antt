use Rattle.std.proofs.Common.{◌≡◌, nat_eq, sym, ap, ◌∙◌, length}
use Rattle.std.specs.Prelude.{unwrap_or}
use Rattle.std.specs.HashMap.{get}
use Rattle.c_semantics.specs.Context.{order_of}
use Rattle.c_types_program.specs.Declarations.{Declared}
use Rattle.c_types_program.specs.Programs.{texts_in}
use Rattle.c_lower_layout.specs.Sources.{source_in}
use Rattle.c_lower_layout.specs.Indexed.{found}
use Rattle.c_lower_layout.proofs.Found.{order_found, texts_length}
use Rattle.c_lower_layout.proofs.index.Index.order_of.Goals as goal

pub returns-in-Some : goal.returns-in-Some
unfolding source_in
returns-in-Some c =
    let texts = texts_in c.self.inside.program.now.texts in
    let there : get nat_eq c.self.inside.orders c.args.from ≡ found c.args.from texts = c.self.invariant.orders_are c.args.from in
    ap (λ o. unwrap_or o (length texts)) (c.in-Some.ensures.value ∙ there)
    ∙ (order_found c.args.from texts ∙ ap (λ (p : Declared). order_of c.args.from (texts_in p.texts)) c.self.view_is)

pub returns-in-None : goal.returns-in-None
unfolding source_in
returns-in-None c =
    let texts = texts_in c.self.inside.program.now.texts in
    let there : get nat_eq c.self.inside.orders c.args.from ≡ found c.args.from texts = c.self.invariant.orders_are c.args.from in
    let all : length c.texts.result.now ≡ length texts =
    ap length c.texts.ensures.texts ∙ (sym (ap (λ (p : Declared). length p.texts) c.self.view_is) ∙ sym (texts_length c.self.inside.program.now.texts)) in
    let last : length texts ≡ order_of c.args.from (texts_in c.args.self.now.texts) =
    ap (λ o. unwrap_or o (length texts)) (c.in-None.ensures.value ∙ there)
    ∙ (order_found c.args.from texts ∙ ap (λ (p : Declared). order_of c.args.from (texts_in p.texts)) c.self.view_is) in
    c.small.ensures ∙ (all ∙ last)
