-- What operations say together.
use Rattle.std.proofs.Common.{◌≡◌, ℕ, ◌+◌, ◌<◌, Bool, true, false, ◌||◌, List, [], ◌∷◌, ◌++◌, length, get_or, take, refl, sym, ap, ◌∙◌, append_assoc}
use Rattle.std.proofs.lemmas.List.{take_more, append-nil}
use Rattle.c_code.specs.Machine.{Flat}
use Rattle.stub_operations.specs.declared.operation.StubOp.{StubOp}
use Rattle.stub_operations.specs.declared.operation.StubOp.TheVariants.{Pass}
use Rattle.stub_meaning.specs.Calls.{Called, Done, both, done, done_by, nothing}

or_assoc : (a b c : Bool) → ((a || b) || c) ≡ (a || (b || c))
or_assoc true b c = refl
or_assoc false b c = refl

or_false : (a : Bool) → (a || false) ≡ a
or_false true = refl
or_false false = refl

both_assoc : (d e f : Done) → both (both d e) f ≡ both d (both e f)
both_assoc d e f = λ i. record {
  ins = append_assoc d.ins e.ins f.ins i;
  outs = append_assoc d.outs e.outs f.outs i;
  prepares = append_assoc d.prepares e.prepares f.prepares i;
  used = append_assoc d.used e.used f.used i;
  commits = append_assoc d.commits e.commits f.commits i;
  registers = append_assoc d.registers e.registers f.registers i;
  keys_at_call = append_assoc d.keys_at_call e.keys_at_call f.keys_at_call i;
  keys_at_return = append_assoc d.keys_at_return e.keys_at_return f.keys_at_return i;
  is_cached = or_assoc d.is_cached e.is_cached f.is_cached i;
}

pub both_nothing : (d : Done) → both d nothing ≡ d
both_nothing d = λ i. record {
  ins = append-nil d.ins i;
  outs = append-nil d.outs i;
  prepares = append-nil d.prepares i;
  used = append-nil d.used i;
  commits = append-nil d.commits i;
  registers = append-nil d.registers i;
  keys_at_call = append-nil d.keys_at_call i;
  keys_at_return = append-nil d.keys_at_return i;
  is_cached = or_false d.is_cached i;
}

module _ (code : Flat) (c : Called) where
  done_more : (xs : List StubOp) (op : StubOp) → done code c (xs ++ op ∷ []) ≡ both (done code c xs) (done_by code c op)
  done_more [] op = both_nothing (done_by code c op)
  done_more (x ∷ xs) op = ap (both (done_by code c x)) (done_more xs op) ∙ sym (both_assoc (done_by code c x) (done code c xs) (done_by code c op))

  pub one_more : (begin now next : Done) (ops : List StubOp) (i : ℕ) (op : StubOp) → i < length ops → op ≡ get_or ops i op → now ≡ both begin (done code c (take i ops)) → next ≡ both now (done_by code c op) → next ≡ both begin (done code c (take (i + 1) ops))
  one_more begin now next ops i op lt at was is =
      is ∙ (ap (λ d. both d (done_by code c op)) was
      ∙ (both_assoc begin (done code c (take i ops)) (done_by code c op)
      ∙ ap (both begin) (sym (done_more (take i ops) op) ∙ ap (done code c) (ap (λ x. take i ops ++ x ∷ []) at ∙ sym (take_more ops i op lt)))))

  -- what passes its parameter adds nothing
  pub none_more : (ops : List StubOp) (i : ℕ) (op : StubOp) → i < length ops → op ≡ get_or ops i op → nothing ≡ done code c (take i ops) → op ≡ Pass → nothing ≡ done code c (take (i + 1) ops)
  none_more ops i op lt at was pass = one_more nothing nothing nothing ops i op lt at was (ap (λ o. both nothing (done_by code c o)) (sym pass))
