-- What an action does to the pieces on the stack, as far as chains of nodes go.
use Rattle.std.specs.Prelude.{List, ◌∷◌, Some, None}
use Rattle.c_parser_moves.specs.declared.action.Action.{Action}
use Rattle.c_parser_moves.specs.declared.action.Action.TheVariants as acts
use Rattle.c_parser_depth.specs.declared.chain.Chain.{Chain}
use Rattle.c_parser_depth.specs.declared.effect.Effect.{Effect}
use Rattle.c_parser_depth.specs.declared.effect.Effect.TheVariants.{Join, Declare, AddName, EndSpecs, DropSpecs}
use Rattle.c_parser_depth.specs.Chains.{held_by, longer, top, rest, rests, longest_of}

-- how many pieces it takes, and whether it makes a node of its own
abbrev pub effect : Action → Effect
effect (acts.Name f n) = Join 0 (Some f)
effect (acts.Number f v s d) = Join 0 (Some f)
effect (acts.Char f v) = Join 0 (Some f)
effect (acts.Text f n) = Join 0 (Some f)
effect (acts.Named f n) = Join 0 (Some f)
effect (acts.Nameless f) = Join 0 (Some f)
effect (acts.Break f) = Join 0 (Some f)
effect (acts.Continue f) = Join 0 (Some f)
effect (acts.Prefix f s) = Join 1 (Some f)
effect (acts.Postfix f s) = Join 1 (Some f)
effect (acts.SizeofExpr f) = Join 1 (Some f)
effect (acts.SizeofType f) = Join 1 (Some f)
effect (acts.Member f n) = Join 1 (Some f)
effect (acts.Arrow f n) = Join 1 (Some f)
effect (acts.Pointer f) = Join 1 (Some f)
effect (acts.Braces f) = Join 1 (Some f)
effect (acts.Block f) = Join 1 (Some f)
effect (acts.Expression f) = Join 1 (Some f)
effect (acts.Return f) = Join 1 (Some f)
effect (acts.Binary f s) = Join 2 (Some f)
effect (acts.Assign f s) = Join 2 (Some f)
effect (acts.Cast f) = Join 2 (Some f)
effect (acts.Index f) = Join 2 (Some f)
effect (acts.Call f) = Join 2 (Some f)
effect (acts.Array f) = Join 2 (Some f)
effect (acts.Params f) = Join 2 (Some f)
effect (acts.If f) = Join 2 (Some f)
effect (acts.While f) = Join 2 (Some f)
effect (acts.Do f) = Join 2 (Some f)
effect (acts.Cond f) = Join 3 (Some f)
effect (acts.IfElse f) = Join 3 (Some f)
effect (acts.For f) = Join 4 (Some f)
effect acts.NoExprs = Join 0 None
effect acts.NoExpr = Join 0 None
effect acts.NoDecls = Join 0 None
effect acts.NoAnnots = Join 0 None
effect (acts.AnnotName f n) = Join 0 None
effect (acts.NameAtom n) = Join 0 None
effect (acts.NumberAtom v) = Join 0 None
effect acts.ReturnAtom = Join 0 None
effect acts.NoValues = Join 0 None
effect acts.NoEntries = Join 0 None
effect acts.NoFirst = Join 0 None
effect (acts.Tag f n) = Join 0 None
effect acts.OneExpr = Join 1 None
effect (acts.Specs b) = Join 1 None
effect acts.SizeofAtom = Join 1 None
effect (acts.OneFactor f) = Join 1 None
effect acts.Plain = Join 1 None
effect acts.LocalFirst = Join 1 None
effect acts.ExprFirst = Join 1 None
effect acts.AddExpr = Join 2 None
effect acts.AddAnnot = Join 2 None
effect (acts.TwoFactors f) = Join 2 None
effect acts.AddItem = Join 2 None
effect acts.AddValue = Join 2 None
effect acts.AddLocal = Join 2 None
effect acts.AddStmt = Join 2 None
effect acts.Struct = Join 3 None
effect acts.Declare = Declare 1
effect acts.DeclareValue = Declare 2
effect acts.DeclareBody = Declare 2
effect acts.AddName = AddName
effect acts.EndSpecs = EndSpecs
effect acts.DropSpecs = DropSpecs

-- the chains after it
abbrev pub affected : Effect → List Chain → List Chain
affected (Join n f) cs = held_by f (longest_of n cs) ∷ rests n cs
affected (Declare n) cs = longer (longest_of n cs) (top (rests n cs)) ∷ top (rests n cs) ∷ rest (rests n cs)
affected AddName cs = top (rests 1 cs) ∷ longer (top (rests 2 cs)) (top cs) ∷ rests 3 cs
affected EndSpecs cs = rest cs
affected DropSpecs cs = top cs ∷ rests 2 cs
