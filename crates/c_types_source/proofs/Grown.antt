-- What is declared stands for what it did while the table grows.
use Rattle.c_types_nodes.proofs.Lists.{nodes_kept, are_nodes_kept}
use Rattle.c_types_nodes.specs.Lists.{nodes_at}
use Rattle.std.proofs.Common.{◌≡◌, List, [], ◌∷◌, length, map, Option, None, Some, refl, ap, ◌∙◌}
use Rattle.std.specs.Option.{option_map}
use Rattle.std.specs.List.{All}
use Rattle.std.proofs.lemmas.List.Elements.{All-head, All-tail, All-weaker}
use Rattle.c_types_table.specs.declared.ids.TypeId.{TypeId}
use Rattle.c_types_table.specs.Tables.{IsBelow, type_at}
use Rattle.c_types_nodes.specs.Tables.{Table, Keeps}
use Rattle.c_types_program.specs.declared.function.Body.{Body}
use Rattle.c_types_program.specs.declared.function.Function.{Function}
use Rattle.c_types_program.specs.declared.global.Global.{Global}
use Rattle.c_types_program.specs.Declarations.{IsBody, IsFunction, IsGlobal, body_in, function_in, global_in, initial_in, types_in}
use Rattle.c_types_program.specs.Statements.{statement_in}
use Rattle.c_types_program.proofs.Kept.{is_statement_kept, is_type_kept, statement_kept, type_kept}

module _ (t u : Table) (k : Keeps t u) where
  types_kept : (ids : List TypeId) → All (IsBelow (length t.types)) ids → types_in u.types ids ≡ types_in t.types ids
  types_kept [] h = refl
  types_kept (id ∷ ids) h =
      let first = type_kept t u k id (All-head (IsBelow (length t.types)) id ids h) in
      let rest = types_kept ids (All-tail (IsBelow (length t.types)) id ids h) in
      ap (λ c. c ∷ types_in u.types ids) first ∙ ap (λ cs. type_at t.types id ∷ cs) rest

  pub body_kept : (b : Body) → IsBody t (Some b) → body_in u b ≡ body_in t b
  body_kept b h =
      ap (λ cs. record { from = b.from; locals = cs; statements = statement_in u b.statements; in_params = nodes_at u b.in_params; unevaluated = nodes_at u b.unevaluated }) (types_kept b.locals h.0)
      ∙ (ap (λ s. record { from = b.from; locals = types_in t.types b.locals; statements = s; in_params = nodes_at u b.in_params; unevaluated = nodes_at u b.unevaluated }) (statement_kept t u k b.statements h.1)
      ∙ (ap (λ xs. record { from = b.from; locals = types_in t.types b.locals; statements = statement_in t b.statements; in_params = xs; unevaluated = nodes_at u b.unevaluated }) (nodes_kept t u k b.in_params h.2)
      ∙ ap (λ xs. record { from = b.from; locals = types_in t.types b.locals; statements = statement_in t b.statements; in_params = nodes_at t b.in_params; unevaluated = xs }) (nodes_kept t u k b.unevaluated h.3)))

  pub is_body_kept : (b : Option Body) → IsBody t b → IsBody u b
  is_body_kept None h = tt
  is_body_kept (Some b) h = (All-weaker (IsBelow (length t.types)) (IsBelow (length u.types)) (λ id lt. is_type_kept t u k id lt) b.locals h.0, is_statement_kept t u k b.statements h.1, are_nodes_kept t u k b.in_params h.2, are_nodes_kept t u k b.unevaluated h.3)

  maybe_body_kept : (b : Option Body) → IsBody t b → option_map (body_in u) b ≡ option_map (body_in t) b
  maybe_body_kept None h = refl
  maybe_body_kept (Some b) h = ap Some (body_kept b h)

  function_kept : (f : Function) → IsFunction t f → function_in u f ≡ function_in t f
  function_kept f h =
      ap (λ c. record { name = f.name; type = c; body = option_map (body_in u) f.body }) (type_kept t u k f.ty h.type)
      ∙ ap (λ b. record { name = f.name; type = type_at t.types f.ty; body = b }) (maybe_body_kept f.body h.body)

  is_function_kept : (f : Function) → IsFunction t f → IsFunction u f
  is_function_kept f h = record { type = is_type_kept t u k f.ty h.type; body = is_body_kept f.body h.body }

  pub functions_kept : (fs : List Function) → All (IsFunction t) fs → map (function_in u) fs ≡ map (function_in t) fs
  functions_kept [] h = refl
  functions_kept (f ∷ fs) h =
      let first = function_kept f (All-head (IsFunction t) f fs h) in
      let rest = functions_kept fs (All-tail (IsFunction t) f fs h) in
      ap (λ x. x ∷ map (function_in u) fs) first ∙ ap (λ xs. function_in t f ∷ xs) rest

  pub are_functions_kept : (fs : List Function) → All (IsFunction t) fs → All (IsFunction u) fs
  are_functions_kept fs h = All-weaker (IsFunction t) (IsFunction u) is_function_kept fs h

  global_kept : (g : Global) → IsGlobal t g → global_in u g ≡ global_in t g
  global_kept g h =
      ap (λ c. record { name = g.name; type = c; value = option_map initial_in g.value; unevaluated = nodes_at u g.unevaluated }) (type_kept t u k g.ty h.type)
      ∙ ap (λ xs. record { name = g.name; type = type_at t.types g.ty; value = option_map initial_in g.value; unevaluated = xs }) (nodes_kept t u k g.unevaluated h.unevaluated)

  is_global_kept : (g : Global) → IsGlobal t g → IsGlobal u g
  is_global_kept g h = record { type = is_type_kept t u k g.ty h.type; unevaluated = are_nodes_kept t u k g.unevaluated h.unevaluated }

  pub globals_kept : (gs : List Global) → All (IsGlobal t) gs → map (global_in u) gs ≡ map (global_in t) gs
  globals_kept [] h = refl
  globals_kept (g ∷ gs) h =
      let first = global_kept g (All-head (IsGlobal t) g gs h) in
      let rest = globals_kept gs (All-tail (IsGlobal t) g gs h) in
      ap (λ x. x ∷ map (global_in u) gs) first ∙ ap (λ xs. global_in t g ∷ xs) rest

  pub are_globals_kept : (gs : List Global) → All (IsGlobal t) gs → All (IsGlobal u) gs
  are_globals_kept gs h = All-weaker (IsGlobal t) (IsGlobal u) is_global_kept gs h
