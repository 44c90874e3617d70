use Rattle.std.proofs.Common.{◌≡◌, ℕ, ◌-◌, ◌∷◌, ◌++◌, length, sym, ap, ◌∙◌}
use Rattle.std.proofs.lemmas.Result.{on_ok_weaker}
use Rattle.c_code.specs.declared.instr.Instr.TheVariants.{GoBack}
use Rattle.c_lower_bodies.proofs.Loops.{turned}
use Rattle.c_lower_bodies.proofs.statements.turn.Goals as goal

pub returns : goal.returns
returns c =
    on_ok_weaker c.put.result
    (λ e inner old is h. turned old c.args.end (sym h) inner c.args.code.now c.replace.new.self c.put.new.self is
    (λ before after o there n. c.replace.ensures before after o there n ∙ ap (λ (m : ℕ). before ++ (GoBack (m - c.args.end - 1) ∷ after)) c.len.ensures) e)
    c.put.ensures
