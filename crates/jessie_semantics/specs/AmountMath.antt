-- AmountMath, by the names of its functions, on its first two arguments.
use Rattle.std.specs.Prelude.{ℕ, List, ◌&&◌, Option, Some, None, Result, Ok, Err, if◌then◌else◌, slice_index_or, codes}
use Rattle.std.specs.Str.{bytes_eq}
use Rattle.host_data.specs.amount_math.Content.{nothing}
use Rattle.host_data.specs.amount_math.ValueView.{ValueView}
use Rattle.host_data.specs.Tree.{Tree, null, boolean}
use Rattle.host_data.specs.Values.{amount_tree, value_tree}
use Rattle.refusals.specs.Codes.{bad_args, no_method}
use Rattle.refusals.specs.Outcomes.{◌>>=◌, wanted}
use Rattle.refusals.specs.declared.codes.Refusal.{Refusal}
use Rattle.jessie_semantics.specs.declared.functions.AmountFunction.{AmountFunction}
use Rattle.jessie_semantics.specs.declared.functions.AmountFunction.TheVariants.{Make, MakeEmpty, MakeEmptyFromAmount, IsEmpty, IsGte, IsEqual, Add, Subtract, Min, Max, Coerce, GetValue}
use Rattle.jessie_semantics.specs.Given.{amount_given, amount_made, amount_of_brand, brand_in, two_amounts}
use Rattle.jessie_semantics.specs.declared.worths.Operation.TheVariants.{Sum, Difference, Least, Greatest}
use Rattle.jessie_semantics.specs.Worths.{has, is_nothing, value_of_two}

abbrev pub shown : ℕ → ValueView → Tree
shown brand w = amount_tree (record { brand = brand; value = w })

abbrev pub made : Tree → Tree → Result Tree Refusal
made brand value = amount_made brand value >>= λ a. Ok (shown a.brand a.value)

abbrev pub made_empty : Tree → Result Tree Refusal
made_empty brand = wanted (brand_in brand) (bad_args 1) >>= λ own. Ok (shown own.number (record { kind = own.kind; content = nothing }))

abbrev pub emptied : Tree → Result Tree Refusal
emptied v = amount_given v >>= λ a. Ok (shown a.brand (record { kind = a.value.kind; content = nothing }))

abbrev pub emptiness : Tree → Result Tree Refusal
emptiness v = amount_given v >>= λ a. Ok (boolean (is_nothing a.value.content))

abbrev pub containment : Tree → Tree → Result Tree Refusal
containment v w = two_amounts v w >>= λ two. Ok (boolean (has two.left two.right))

abbrev pub equality : Tree → Tree → Result Tree Refusal
equality v w = two_amounts v w >>= λ two. Ok (boolean (has two.left two.right && has two.right two.left))

-- an amount of the brand of two, which a function makes of their values
abbrev pub worked : (ValueView → ValueView → Result ValueView Refusal) → Tree → Tree → Result Tree Refusal
worked f v w = two_amounts v w >>= λ two. f two.left two.right >>= λ x. Ok (shown two.brand x)

abbrev pub coerced : Tree → Tree → Result Tree Refusal
coerced brand v = amount_of_brand brand v >>= λ a. Ok (shown a.brand a.value)

abbrev pub value_of : Tree → Tree → Result Tree Refusal
value_of brand v = amount_of_brand brand v >>= λ a. Ok (value_tree a.value)

abbrev pub answer : AmountFunction → Tree → Tree → Result Tree Refusal
answer Make v w = made v w
answer MakeEmpty v w = made_empty v
answer MakeEmptyFromAmount v w = emptied v
answer IsEmpty v w = emptiness v
answer IsGte v w = containment v w
answer IsEqual v w = equality v w
answer Add v w = worked (value_of_two Sum) v w
answer Subtract v w = worked (value_of_two Difference) v w
answer Min v w = worked (value_of_two Least) v w
answer Max v w = worked (value_of_two Greatest) v w
answer Coerce v w = coerced v w
answer GetValue v w = value_of v w

abbrev pub function_named : List ℕ → Option AmountFunction
function_named name =
    if bytes_eq name (codes "make") then Some Make
    else if bytes_eq name (codes "makeEmpty") then Some MakeEmpty
    else if bytes_eq name (codes "makeEmptyFromAmount") then Some MakeEmptyFromAmount
    else if bytes_eq name (codes "isEmpty") then Some IsEmpty
    else if bytes_eq name (codes "isGTE") then Some IsGte
    else if bytes_eq name (codes "isEqual") then Some IsEqual
    else if bytes_eq name (codes "add") then Some Add
    else if bytes_eq name (codes "subtract") then Some Subtract
    else if bytes_eq name (codes "min") then Some Min
    else if bytes_eq name (codes "max") then Some Max
    else if bytes_eq name (codes "coerce") then Some Coerce
    else if bytes_eq name (codes "getValue") then Some GetValue
    else None

-- an argument, null where it is missing
abbrev pub argument : ℕ → List Tree → Tree
argument i vs = slice_index_or vs i null

abbrev pub answer_of : Option AmountFunction → List ℕ → List Tree → Result Tree Refusal
answer_of None name vs = Err (no_method name)
answer_of (Some f) name vs = answer f (argument 0 vs) (argument 1 vs)

-- `AmountMath.name(arguments)`: surplus arguments are dropped, and another name is no function of it
unfoldable pub amount_call : List ℕ → List Tree → Result Tree Refusal
amount_call name vs = answer_of (function_named name) name vs
