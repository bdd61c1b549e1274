-- Worked rows: what operators, steps and built-in functions make of small values.
use Rattle.std.proofs.Common.{◌≡◌, ◌-◌, ◌^◌, List, [], ◌∷◌, true, false, Ok, Err, pos, negsuc, refl}
use Rattle.std.specs.Prelude.{codes}
use Rattle.host_data.specs.Tree.{Tree, null, boolean, number, text, array, fields, Fields, field, no_fields}
use Rattle.host_data.specs.View.{items_of}
use Rattle.jessie_values.specs.declared.reasons.Reason.TheVariants.{WrongKind, OutOfRange, DivisionByZero, NoField}
use Rattle.jessie_values.specs.BuiltIns.{keys, len, push, put}
use Rattle.jessie_values.specs.Operators.{difference_of, equality, less, opposite, product_of, quotient_of, rest_of, sum_of}
use Rattle.jessie_values.specs.Records.{record_of}
use Rattle.jessie_values.specs.Accesses.{field_at, index_at}

abbrev listing : List Tree → Tree
listing vs = array (items_of vs)

abbrev least : Tree
least = number (negsuc (2 ^ 127 - 1))

abbrev minus_one : Tree
minus_one = number (negsuc 0)

-- the record {a: 1, b: 2}
abbrev two_fields : Fields
two_fields = field (codes "a") (number (pos 1)) (field (codes "b") (number (pos 2)) no_fields)

-- 1 + 2, 'a' + 'b', 1 + 'b'
sum_numbers : sum_of (number (pos 1)) (number (pos 2)) ≡ Ok (number (pos 3))
sum_numbers = refl

sum_texts : sum_of (text (codes "a")) (text (codes "b")) ≡ Ok (text (codes "ab"))
sum_texts = refl

sum_mixed : sum_of (number (pos 1)) (text (codes "b")) ≡ Err WrongKind
sum_mixed = refl

-- the bounds of 128 signed bits
sum_passes : sum_of (number (pos (2 ^ 127 - 1))) (number (pos 1)) ≡ Err OutOfRange
sum_passes = refl

difference_least : difference_of (number (negsuc (2 ^ 127 - 2))) (number (pos 1)) ≡ Ok least
difference_least = refl

product_passes : product_of (number (pos (2 ^ 64))) (number (pos (2 ^ 63))) ≡ Err OutOfRange
product_passes = refl

product_least : product_of (number (pos (2 ^ 64))) (number (negsuc (2 ^ 63 - 1))) ≡ Ok least
product_least = refl

opposite_passes : opposite least ≡ Err OutOfRange
opposite_passes = refl

-- -7 / 2 is -3, 7 / -2 is -3, -7 % 2 is -1, 7 % -2 is 1
quotient_cut : quotient_of (number (negsuc 6)) (number (pos 2)) ≡ Ok (number (negsuc 2))
quotient_cut = refl

quotient_cut_too : quotient_of (number (pos 7)) (number (negsuc 1)) ≡ Ok (number (negsuc 2))
quotient_cut_too = refl

rest_of_left : rest_of (number (negsuc 6)) (number (pos 2)) ≡ Ok minus_one
rest_of_left = refl

rest_of_left_too : rest_of (number (pos 7)) (number (negsuc 1)) ≡ Ok (number (pos 1))
rest_of_left_too = refl

quotient_passes : quotient_of least minus_one ≡ Err OutOfRange
quotient_passes = refl

rest_fits : rest_of least minus_one ≡ Ok (number (pos 0))
rest_fits = refl

quotient_of_none : quotient_of (number (pos 1)) (number (pos 0)) ≡ Err DivisionByZero
quotient_of_none = refl

-- 'B' < 'a', 'a' < 'ab', 1 < 'a'
less_by_bytes : less (text (codes "B")) (text (codes "a")) ≡ Ok (boolean true)
less_by_bytes = refl

less_shorter : less (text (codes "a")) (text (codes "ab")) ≡ Ok (boolean true)
less_shorter = refl

less_mixed : less (number (pos 1)) (text (codes "a")) ≡ Err WrongKind
less_mixed = refl

-- 1 === '1', null === null, [] === 1
equality_of_kinds : equality (number (pos 1)) (text (codes "1")) ≡ Ok (boolean false)
equality_of_kinds = refl

equality_of_nulls : equality null null ≡ Ok (boolean true)
equality_of_nulls = refl

equality_of_arrays : equality (listing []) (number (pos 1)) ≡ Err WrongKind
equality_of_arrays = refl

-- {b: 1, a: 1, b: 2}
record_in_order : record_of ((codes "b", number (pos 1)) ∷ (codes "a", number (pos 1)) ∷ (codes "b", number (pos 2)) ∷ []) ≡ two_fields
record_in_order = refl

-- [5][0], [5][1], [5][-1], {..}['b'], {..}.c, {..}[0]
index_there : index_at (listing (null ∷ [])) (number (pos 0)) ≡ Ok null
index_there = refl

index_past : index_at (listing (null ∷ [])) (number (pos 1)) ≡ Err NoField
index_past = refl

index_negative : index_at (listing (null ∷ [])) minus_one ≡ Err NoField
index_negative = refl

index_text : index_at (fields two_fields) (text (codes "b")) ≡ Ok (number (pos 2))
index_text = refl

index_number : index_at (fields two_fields) (number (pos 0)) ≡ Err WrongKind
index_number = refl

no_such_field : field_at (codes "c") (fields two_fields) ≡ Err NoField
no_such_field = refl

-- push([]), len(), keys({..}), put({..}, 'b', null), put({..}, 'c', null), put([null], 1, null)
push_null : push (listing [] ∷ []) ≡ Ok (listing (null ∷ []))
push_null = refl

len_of_none : len [] ≡ Err WrongKind
len_of_none = refl

len_of_bytes : len (text (codes "abc") ∷ []) ≡ Ok (number (pos 3))
len_of_bytes = refl

keys_in_order : keys (fields two_fields ∷ []) ≡ Ok (listing (text (codes "a") ∷ text (codes "b") ∷ []))
keys_in_order = refl

put_there : put (fields two_fields ∷ text (codes "b") ∷ null ∷ []) ≡ Ok (fields (field (codes "a") (number (pos 1)) (field (codes "b") null no_fields)))
put_there = refl

put_adds_none : put (fields two_fields ∷ text (codes "c") ∷ null ∷ []) ≡ Err NoField
put_adds_none = refl

put_past : put (listing (null ∷ []) ∷ number (pos 1) ∷ null ∷ []) ≡ Err NoField
put_past = refl
