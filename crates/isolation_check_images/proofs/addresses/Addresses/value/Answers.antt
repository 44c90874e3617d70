use Rattle.std.proofs.Common.{ℕ, List, sym, ap, ◌∙◌}
use Rattle.std.specs.Prelude.{slice_get, unwrap_or}
use Rattle.c_semantics.specs.Context.{address_of}
use Rattle.c_types_program.specs.declared.global.Known.{Known}
use Rattle.c_types_program.specs.Declarations.{known_in}
use Rattle.isolation_check_rules.specs.Images.{known_value}
use Rattle.isolation_check_images.proofs.Structs.{address_there, order_here}
use Rattle.isolation_check_images.proofs.addresses.Addresses.value.Goals as goal

pub returns-in-AddressOfText : goal.returns-in-AddressOfText
returns-in-AddressOfText c = λ s h.
    c.address_at.ensures
    ∙ (ap (λ (xs : List ℕ). unwrap_or (slice_get xs c.order_of.result) 0) (sym h.strings)
    ∙ (address_there s.placed.strings c.order_of.result
    ∙ (ap (λ (k : ℕ). address_of (slice_get s.placed.strings k)) (c.order_of.ensures ∙ order_here c.args.self.index.now c.args.self.strings.now c.args.self.globals.now s c.in-AddressOfText.from h)
    ∙ ap (λ (k : Known). known_value s (known_in k)) (sym c.in-AddressOfText.is))))

pub returns-in-AddressOfGlobal : goal.returns-in-AddressOfGlobal
returns-in-AddressOfGlobal c = λ s h.
    c.address_at-in-AddressOfGlobal.ensures
    ∙ (ap (λ (xs : List ℕ). unwrap_or (slice_get xs c.in-AddressOfGlobal.place) 0) (sym h.globals)
    ∙ (address_there s.placed.globals c.in-AddressOfGlobal.place
    ∙ ap (λ (k : Known). known_value s (known_in k)) (sym c.in-AddressOfGlobal.is)))
