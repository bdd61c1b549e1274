-- Operators as the syntax names them.
use Rattle.std.specs.Prelude.{Bool, false, not, Result, Ok}
use Rattle.host_data.specs.Tree.{Tree, boolean}
use Rattle.jessie_grammar.specs.declared.syntax.Operator.{Operator}
use Rattle.jessie_grammar.specs.declared.syntax.Operator.TheVariants.{Or, And, Equal, Unequal, Less, AtMost, Greater, AtLeast, Add, Subtract, Multiply, Divide, Remainder}
use Rattle.jessie_grammar.specs.declared.syntax.Unary.{Unary}
use Rattle.jessie_grammar.specs.declared.syntax.Unary.TheVariants.{Not, Negate}
use Rattle.jessie_values.specs.declared.reasons.Reason.{Reason}
use Rattle.jessie_values.specs.Operators.{at_least, at_most, difference_of, equality, greater, inequality, less, logical_not, opposite, product_of, quotient_of, rest_of, sum_of, truth}
use Rattle.jessie_values.specs.Outcomes.{◌>>=◌}

-- an operator before a value
abbrev pub unary : Unary → Tree → Result Tree Reason
unary Not v = logical_not v
unary Negate v = opposite v

-- whether the left side alone decides, which is then the value
abbrev pub skips : Operator → Tree → Result Bool Reason
skips Or v = truth v
skips And v = truth v >>= λ b. Ok (not b)
skips _ v = Ok false

-- the right side of `||` and `&&`
abbrev pub right_side : Tree → Result Tree Reason
right_side w = truth w >>= λ b. Ok (boolean b)

-- an operator between two values; of `||` and `&&` where the left side doesn't decide
abbrev pub operate : Operator → Tree → Tree → Result Tree Reason
operate Or v w = right_side w
operate And v w = right_side w
operate Equal v w = equality v w
operate Unequal v w = inequality v w
operate Less v w = less v w
operate AtMost v w = at_most v w
operate Greater v w = greater v w
operate AtLeast v w = at_least v w
operate Add v w = sum_of v w
operate Subtract v w = difference_of v w
operate Multiply v w = product_of v w
operate Divide v w = quotient_of v w
operate Remainder v w = rest_of v w
