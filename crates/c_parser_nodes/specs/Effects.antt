-- What an action does to the pieces on the stack, as far as counts of nodes go.
use Rattle.std.specs.Prelude.{◌+◌, List, ◌∷◌, None}
use Rattle.c_parser_moves.specs.declared.action.Action.{Action}
use Rattle.c_parser_moves.specs.declared.action.Action.TheVariants as acts
use Rattle.c_parser_nodes.specs.Counts.{capped}
use Rattle.c_parser_nodes.specs.declared.effect.Effect.{Effect}
use Rattle.c_parser_nodes.specs.declared.effect.Effect.TheVariants.{Join, Keep, Annotation, Extend, Declare, AddName, EndSpecs, DropSpecs, AddStruct}
use Rattle.c_parser_nodes.specs.declared.tally.Tally.{Tally}
use Rattle.c_parser_nodes.specs.Tallies.{declared, extended, leaf, named, rest, rests, sum_of, top, with_struct}

-- how many pieces it takes, and how many nodes of its own it makes
abbrev pub effect : Action → Effect
effect (acts.Name f n) = Join 0 1
effect (acts.Number f v s d) = Join 0 1
effect (acts.Char f v) = Join 0 1
effect (acts.Text f n) = Join 0 1
effect (acts.Named f n) = Join 0 1
effect (acts.Nameless f) = Join 0 1
effect (acts.Break f) = Join 0 1
effect (acts.Continue f) = Join 0 1
effect (acts.Prefix f s) = Join 1 1
effect (acts.Postfix f s) = Join 1 1
effect (acts.SizeofExpr f) = Join 1 1
effect (acts.SizeofType f) = Join 1 1
effect (acts.Member f n) = Join 1 1
effect (acts.Arrow f n) = Join 1 1
effect (acts.Pointer f) = Join 1 1
effect (acts.Braces f) = Join 1 1
effect (acts.Block f) = Join 1 1
effect (acts.Expression f) = Join 1 1
effect (acts.Return f) = Join 1 1
effect (acts.Binary f s) = Join 2 1
effect (acts.Assign f s) = Join 2 1
effect (acts.Cast f) = Join 2 1
effect (acts.Index f) = Join 2 1
effect (acts.Call f) = Join 2 1
effect (acts.Array f) = Join 2 1
effect (acts.Params f) = Join 2 1
effect (acts.If f) = Join 2 1
effect (acts.While f) = Join 2 1
effect (acts.Do f) = Join 2 1
effect (acts.Cond f) = Join 3 1
effect (acts.IfElse f) = Join 3 1
effect (acts.For f) = Join 4 1
effect acts.NoExprs = Join 0 0
effect acts.NoExpr = Join 0 0
effect acts.NoDecls = Join 0 0
effect acts.NoAnnots = Join 0 0
effect (acts.AnnotName f n) = Annotation f
effect (acts.NameAtom n) = Join 0 0
effect (acts.NumberAtom v) = Join 0 0
effect acts.ReturnAtom = Join 0 0
effect acts.NoValues = Join 0 0
effect acts.NoEntries = Join 0 0
effect acts.NoFirst = Join 0 0
effect (acts.Tag f n) = Join 0 0
effect acts.OneExpr = Keep
effect (acts.Specs b) = Keep
effect acts.SizeofAtom = Keep
effect (acts.OneFactor f) = Keep
effect acts.Plain = Keep
effect acts.LocalFirst = Keep
effect acts.ExprFirst = Keep
effect acts.AddExpr = Extend
effect acts.AddAnnot = Extend
effect (acts.TwoFactors f) = Join 2 0
effect acts.AddItem = Extend
effect acts.AddValue = Extend
effect acts.AddLocal = Extend
effect acts.AddStmt = Extend
effect acts.Struct = AddStruct
effect acts.Declare = Declare 1
effect acts.DeclareValue = Declare 2
effect acts.DeclareBody = Declare 2
effect acts.AddName = AddName
effect acts.EndSpecs = EndSpecs
effect acts.DropSpecs = DropSpecs

-- the tallies after it
abbrev pub affected : Effect → List Tally → List Tally
affected (Join n own) cs = record { nodes = capped (sum_of n cs + own); once = 0; list = None } ∷ rests n cs
affected Keep cs = cs
affected (Annotation f) cs = leaf f ∷ cs
affected Extend cs = extended (top (rests 1 cs)) (top cs) ∷ rests 2 cs
affected (Declare n) cs = declared (top (rests n cs)) (sum_of n cs) ∷ top (rests n cs) ∷ rest (rests n cs)
affected AddName cs = top (rests 1 cs) ∷ named (top (rests 2 cs)) (top cs) ∷ rests 3 cs
affected EndSpecs cs = rest cs
affected DropSpecs cs = top cs ∷ rests 2 cs
affected AddStruct cs = with_struct (top (rests 2 cs)) (top cs) ∷ rests 3 cs
