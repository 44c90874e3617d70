use Rattle.std.proofs.Common.{◌≡◌, ℕ, ◌⊎◌, inl, inr, refl, sym, ap, ◌∙◌}
use Rattle.c_builtins.specs.declared.builtin.Builtin.{Builtin}
use Rattle.c_builtins.specs.declared.builtin.Builtin.TheVariants.{Malloc, Free, Spawn, Join, Lock, Unlock, Print}
use Rattle.c_builtins.specs.Table.{prototype_of}
use Rattle.c_types_program.specs.Declarations.{Declared}
use Rattle.c_lower_layout.specs.Sources.{sig_in}
use Rattle.c_lower.proofs.functions.builtin_sig.Goals as goal

same_sig : (p : Declared) (b known : Builtin) (n : ℕ) → n ≡ sig_in p (prototype_of known) → b ≡ known → n ≡ sig_in p (prototype_of b)
same_sig p b known n number is = number ∙ ap (λ (x : Builtin). sig_in p (prototype_of x)) (sym is)

of_join : (p : Declared) (b : Builtin) → (b ≡ Join) ⊎ ((b ≡ Lock) ⊎ (b ≡ Unlock)) → 4 ≡ sig_in p (prototype_of b)
unfolding sig_in
of_join p b (inl h) = same_sig p b Join 4 refl h
of_join p b (inr (inl h)) = same_sig p b Lock 4 refl h
of_join p b (inr (inr h)) = same_sig p b Unlock 4 refl h

pub returns-in-Malloc : goal.returns-in-Malloc
unfolding sig_in
returns-in-Malloc c = λ p. same_sig p c.args.builtin Malloc 1 refl c.in-Malloc.is

pub returns-in-Free : goal.returns-in-Free
unfolding sig_in
returns-in-Free c = λ p. same_sig p c.args.builtin Free 2 refl c.in-Free.is

pub returns-in-Spawn : goal.returns-in-Spawn
unfolding sig_in
returns-in-Spawn c = λ p. same_sig p c.args.builtin Spawn 3 refl c.in-Spawn.is

pub returns-in-Join : goal.returns-in-Join
returns-in-Join c = λ p. of_join p c.args.builtin c.in-Join.is

pub returns-in-Print : goal.returns-in-Print
unfolding sig_in
returns-in-Print c = λ p. same_sig p c.args.builtin Print 7 refl c.in-Print.is
