-- An expression has a value at least.
use Rattle.std.proofs.Common.{ℕ, ◌+◌, ◌≤◌, max, Bool, true, false, List, Option, Some, None, arith}
use Rattle.r2_num.specs.declared.operations.Op.{Op}
use Rattle.c_lexer.specs.declared.token.Sign.{Sign}
use Rattle.c_lexer.specs.declared.token.Sign.TheVariants as signs
use Rattle.c_syntax.specs.Syntax.{Expr, Name, Number, Char, Text, Binary, Assign, Cond, Prefix, Postfix, SizeofExpr, SizeofType, Cast, Index, Call, Member, Arrow}
use Rattle.c_types_rules.specs.Operators.{operator_in}
use Rattle.c_lower_depth_laws.specs.Expressions.{expression_depth, arguments_depth, is_direct, binary_depth, assignment_depth, prefix_depth, call_depth}

one : 1 ≤ 1
one = omega arith

either : (a b : ℕ) → 1 ≤ a → 1 ≤ max a b
either a b h = omega (arith, h)

binary_positive : (s : Sign) (a b : ℕ) → 1 ≤ a → 1 ≤ binary_depth s a b
binary_positive signs.Comma a b h = either a b h
binary_positive signs.OrOr a b h = either a b h
binary_positive signs.AndAnd a b h = either a b h
binary_positive s a b h = either a (1 + b) h

assignment_positive : (o : Option Op) (a b : ℕ) → 1 ≤ a → 1 ≤ assignment_depth o a b
assignment_positive None a b h = either a (1 + b) h
assignment_positive (Some op) a b h = either a (2 + b) h

prefix_positive : (s : Sign) (a : ℕ) → 1 ≤ a → 1 ≤ prefix_depth s a
prefix_positive signs.Increment a h = either a 2 h
prefix_positive signs.Decrement a h = either a 2 h
prefix_positive s a h = h

call_positive : (direct : Bool) (a b c : ℕ) → 1 ≤ a → 1 ≤ call_depth direct a b c
call_positive true a b c h = either 1 b one
call_positive false a b c h = either a c h

pub depth_positive : (e : Expr) (objects : List (List ℕ)) → 1 ≤ expression_depth e objects
depth_positive (Name from name) objects = one
depth_positive (Number from n suffix decimal) objects = one
depth_positive (Char from n) objects = one
depth_positive (Text from bytes) objects = one
depth_positive (Binary from s x y) objects = binary_positive s (expression_depth x objects) (expression_depth y objects) (depth_positive x objects)
depth_positive (Assign from s x y) objects = assignment_positive (operator_in s) (expression_depth x objects) (expression_depth y objects) (depth_positive x objects)
depth_positive (Cond from x y z) objects = either (expression_depth x objects) (max (expression_depth y objects) (expression_depth z objects)) (depth_positive x objects)
depth_positive (Prefix from s x) objects = prefix_positive s (expression_depth x objects) (depth_positive x objects)
depth_positive (Postfix from s x) objects = either (expression_depth x objects) 2 (depth_positive x objects)
depth_positive (SizeofExpr from x) objects = one
depth_positive (SizeofType from d) objects = one
depth_positive (Cast from d x) objects = depth_positive x objects
depth_positive (Index from x y) objects = either (expression_depth x objects) (1 + expression_depth y objects) (depth_positive x objects)
depth_positive (Call from x xs) objects = call_positive (is_direct x objects) (expression_depth x objects) (arguments_depth xs objects 0) (arguments_depth xs objects 1) (depth_positive x objects)
depth_positive (Member from x name) objects = depth_positive x objects
depth_positive (Arrow from x name) objects = depth_positive x objects
