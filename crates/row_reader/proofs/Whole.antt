-- JSON whose numbers are plain, whose texts are UTF-8 and whose members stand in order of their names is read back
-- from its text.
use Rattle.std.proofs.Common.{◌≡◌, ◌≤◌, ℕ, suc, max, pos, negsuc, List, [], ◌∷◌, ◌++◌, Bool, true, false, cond, ◌||◌, Option, Some, None, option_map, option_and_then, Ordering, Less, Equal, Greater, IsUtf8, refl, sym, ap, subst, ◌∙◌, append-nil, arith}
use Rattle.std.proofs.lemmas.Cmp.{nat_list_cmp_total}
use Rattle.std.proofs.lemmas.Fmt.{IsAscii-decimal, IsAscii-signed}
use Rattle.std.proofs.lemmas.Str.{IsUtf8-append, IsUtf8-from_ascii}
use Rattle.std.specs.Fmt.{decimal}
use Rattle.std.specs.List.{AllByRecursion}
use Rattle.std.specs.List.Sorted.{IsStrictlySortedBy}
use Rattle.std.specs.Ordering.{ordering_reverse}
use Rattle.json.proofs.Printed.Decimals.{IsNumber-decimal, IsNumber-signed_decimal}
use Rattle.json.proofs.Printed.Tokens.{tokens-print}
use Rattle.json.proofs.Printed.Trees.{value-json_tokens, ArePrintable-json_tokens}
use Rattle.json.proofs.Printed.Utf8.{IsUtf8-are_ascii, IsUtf8-boolean, IsUtf8-quoted}
use Rattle.json.specs.Json as json
use Rattle.json.specs.Lex.{tokens}
use Rattle.json.specs.Print.{quoted}
use Rattle.json.specs.Token.{Token}
use Rattle.json.specs.Tree as tree
use Rattle.serde_json.specs.Data.{Num, unsigned, negative, float, Data, null, boolean, number, string, array, object, Items, no_items, item, Members, no_members, member, put, depth, items_depth, members_depth}
use Rattle.serde_json.specs.Read.{max_depth, number_of, of_items, of_json, of_members, read}
use Rattle.serde_json.specs.Written.{comma_if, compact_text, has_float, items_have_float, items_outline, items_text, members_have_float, members_outline, members_text, number_text, outline}
use Rattle.serde_json.proofs.Numbers.{number_of-decimal, number_of-negative}
use Rattle.serde_json.proofs.Texts.{print-outline}
use Rattle.turn_rows.proofs.Ranges.{IsPlainNumber}
use Rattle.turn_rows.specs.amount_math.Content.{key_cmp}
use Rattle.turn_rows.specs.Form.{names_of}

abbrev mutual
  pub IsWhole : Data → Type 0
  IsWhole null = Unit {0}
  IsWhole (boolean b) = Unit {0}
  IsWhole (number n) = IsPlainNumber n
  IsWhole (string s) = IsUtf8 s
  IsWhole (array ds) = AreWhole ds
  IsWhole (object ms) = AreWholeMembers ms × IsStrictlySortedBy key_cmp (names_of ms)

  pub AreWhole : Items → Type 0
  AreWhole no_items = Unit {0}
  AreWhole (item d ds) = IsWhole d × AreWhole ds

  pub AreWholeMembers : Members → Type 0
  AreWholeMembers no_members = Unit {0}
  AreWholeMembers (member k d ms) = IsUtf8 k × IsWhole d × AreWholeMembers ms

-- ---- it has no float

no_float : (n : Num) → IsPlainNumber n → has_float (number n) ≡ false
no_float (unsigned n) h = refl
no_float (negative z) h = refl
no_float (float x) h = absurd h

neither : (a b : Bool) → a ≡ false → b ≡ false → (a || b) ≡ false
neither false b first second = second
neither true b first second = absurd (cc)

mutual
  pub no_floats : (d : Data) → IsWhole d → has_float d ≡ false
  no_floats null h = refl
  no_floats (boolean b) h = refl
  no_floats (number n) h = no_float n h
  no_floats (string s) h = refl
  no_floats (array ds) h = no_item_floats ds h
  no_floats (object ms) h = no_member_floats ms h.0

  no_item_floats : (ds : Items) → AreWhole ds → items_have_float ds ≡ false
  no_item_floats no_items h = refl
  no_item_floats (item d ds) h = neither (has_float d) (items_have_float ds) (no_floats d h.0) (no_item_floats ds h.1)

  no_member_floats : (ms : Members) → AreWholeMembers ms → members_have_float ms ≡ false
  no_member_floats no_members h = refl
  no_member_floats (member k d ms) h = neither (has_float d) (members_have_float ms) (no_floats d h.1) (no_member_floats ms h.2)

-- ---- its text is UTF-8

number_utf8 : (n : Num) → IsPlainNumber n → IsUtf8 (number_text n)
number_utf8 (unsigned n) h = IsUtf8-from_ascii (decimal n) (IsAscii-decimal n h)
number_utf8 (negative (pos n)) h = absurd h
number_utf8 (negative (negsuc n)) h = IsUtf8-from_ascii _ (IsAscii-signed (negsuc n) (omega (arith, h)))
number_utf8 (float x) h = absurd h

comma_utf8 : (later : Bool) → IsUtf8 (comma_if later)
comma_utf8 true = IsUtf8-are_ascii (44 ∷ []) refl
comma_utf8 false = IsUtf8-are_ascii [] refl

named_utf8 : (k text : List ℕ) → IsUtf8 k → IsUtf8 text → IsUtf8 (quoted k ++ 58 ∷ text)
named_utf8 k text h rest = IsUtf8-append (quoted k) (58 ∷ text) (IsUtf8-quoted k h) (IsUtf8-append (58 ∷ []) text (IsUtf8-are_ascii (58 ∷ []) refl) rest)

mutual
  pub text_utf8 : (d : Data) → IsWhole d → IsUtf8 (compact_text d)
  text_utf8 null h = IsUtf8-are_ascii _ refl
  text_utf8 (boolean b) h = IsUtf8-boolean b
  text_utf8 (number n) h = number_utf8 n h
  text_utf8 (string s) h = IsUtf8-quoted s h
  text_utf8 (array ds) h = IsUtf8-append (91 ∷ []) (items_text false ds) (IsUtf8-are_ascii (91 ∷ []) refl) (items_utf8 false ds h)
  text_utf8 (object ms) h = IsUtf8-append (123 ∷ []) (members_text false ms) (IsUtf8-are_ascii (123 ∷ []) refl) (members_utf8 false ms h.0)

  items_utf8 : (later : Bool) (ds : Items) → AreWhole ds → IsUtf8 (items_text later ds)
  items_utf8 later no_items h = IsUtf8-are_ascii (93 ∷ []) refl
  items_utf8 later (item d ds) h =
      IsUtf8-append (comma_if later) (compact_text d ++ items_text true ds) (comma_utf8 later) (IsUtf8-append (compact_text d) (items_text true ds) (text_utf8 d h.0) (items_utf8 true ds h.1))

  members_utf8 : (later : Bool) (ms : Members) → AreWholeMembers ms → IsUtf8 (members_text later ms)
  members_utf8 later no_members h = IsUtf8-are_ascii (125 ∷ []) refl
  members_utf8 later (member k d ms) h =
      IsUtf8-append (comma_if later) _ (comma_utf8 later)
      (named_utf8 k (compact_text d ++ members_text true ms) h.0 (IsUtf8-append (compact_text d) (members_text true ms) (text_utf8 d h.1) (members_utf8 true ms h.2)))

-- ---- its numbers are written as numbers

number_numbers : (n : Num) → IsPlainNumber n → tree.HasNumbers (json.number (number_text n))
number_numbers (unsigned n) h = IsNumber-decimal n h
number_numbers (negative (pos n)) h = absurd h
number_numbers (negative (negsuc n)) h = IsNumber-signed_decimal (negsuc n) h
number_numbers (float x) h = absurd h

mutual
  numbers : (d : Data) → IsWhole d → tree.HasNumbers (outline d)
  numbers null h = tt
  numbers (boolean b) h = tt
  numbers (number n) h = number_numbers n h
  numbers (string s) h = tt
  numbers (array ds) h = items_numbers ds h
  numbers (object ms) h = members_numbers ms h.0

  items_numbers : (ds : Items) → AreWhole ds → tree.ItemsHaveNumbers (items_outline ds)
  items_numbers no_items h = tt
  items_numbers (item d ds) h = (numbers d h.0, items_numbers ds h.1)

  members_numbers : (ms : Members) → AreWholeMembers ms → tree.MembersHaveNumbers (members_outline ms)
  members_numbers no_members h = tt
  members_numbers (member k d ms) h = (numbers d h.1, members_numbers ms h.2)

-- ---- members that stand in order go in one after another

abbrev append : Members → Members → Members
append no_members ms = ms
append (member k d ns) ms = member k d (append ns ms)

append-assoc : (a b c : Members) → append (append a b) c ≡ append a (append b c)
append-assoc no_members b c = refl
append-assoc (member k d a) b c = ap (member k d) (append-assoc a b c)

append-none : (a : Members) → append a no_members ≡ a
append-none no_members = refl
append-none (member k d a) = ap (member k d) (append-none a)

below_last : (l : List ℕ) (ns : Members) (k : List ℕ) (d : Data) (ms : Members) → AllByRecursion (λ y. key_cmp l y ≡ Less) (names_of (append ns (member k d ms))) → key_cmp l k ≡ Less
below_last l no_members k d ms h = h.0
below_last l (member j e ns) k d ms h = below_last l ns k d ms h.1

put_last : (ns : Members) (k : List ℕ) (d : Data) (ms : Members) → IsStrictlySortedBy key_cmp (names_of (append ns (member k d ms))) → put k d ns ≡ append ns (member k d no_members)
unfolding IsStrictlySortedBy
put_last no_members k d ms h = refl
put_last (member l e ns) k d ms h =
    let above : key_cmp k l ≡ Greater = nat_list_cmp_total.antisymm k l ∙ ap ordering_reverse (below_last l ns k d ms h.0) in
    rw above (ap (member l e) (put_last ns k d ms h.1))

number_back : (n : Num) → IsPlainNumber n → number_of (number_text n) ≡ Some n
number_back (unsigned n) h = number_of-decimal n h
number_back (negative (pos n)) h = absurd h
number_back (negative (negsuc n)) h = number_of-negative n h
number_back (float x) h = absurd h

mutual
  back : (d : Data) → IsWhole d → of_json (outline d) ≡ Some d
  back null h = refl
  back (boolean b) h = refl
  back (number n) h = ap (option_map number) (number_back n h)
  back (string s) h = refl
  back (array ds) h = ap (option_map array) (items_back ds h)
  back (object ms) h = ap (option_map object) (members_back ms no_members h.0 h.1)

  items_back : (ds : Items) → AreWhole ds → of_items (items_outline ds) ≡ Some ds
  items_back no_items h = refl
  items_back (item d ds) h = rw (back d h.0, items_back ds h.1) refl

  members_back : (ms found : Members) → AreWholeMembers ms → IsStrictlySortedBy key_cmp (names_of (append found ms)) → of_members (members_outline ms) found ≡ Some (append found ms)
  members_back no_members found h rising = ap Some (sym (append-none found))
  members_back (member k d ms) found h rising =
      let next = append found (member k d no_members) in
      let one : of_json (outline d) ≡ Some d = back d h.1 in
      let same : append next ms ≡ append found (member k d ms) = append-assoc found (member k d no_members) ms in
      let last : put k d found ≡ next = put_last found k d ms rising in
      rw (one, last) (members_back ms next h.2 (subst (λ all. IsStrictlySortedBy key_cmp (names_of all)) (sym same) rising) ∙ ap Some same)

-- ---- its text tells it

mutual
  outline_depth : (d : Data) → tree.depth (outline d) ≤ depth d
  outline_depth null = omega arith
  outline_depth (boolean b) = omega arith
  outline_depth (number n) = omega arith
  outline_depth (string s) = omega arith
  outline_depth (array ds) = omega (arith, items_outline_depth ds)
  outline_depth (object ms) = omega (arith, members_outline_depth ms)

  items_outline_depth : (ds : Items) → tree.items_depth (items_outline ds) ≤ items_depth ds
  items_outline_depth no_items = omega arith
  items_outline_depth (item d ds) = omega (arith, outline_depth d, items_outline_depth ds)

  members_outline_depth : (ms : Members) → tree.members_depth (members_outline ms) ≤ members_depth ms
  members_outline_depth no_members = omega arith
  members_outline_depth (member k d ms) = omega (arith, outline_depth d, members_outline_depth ms)

found : (d : Data) (n : ℕ) → IsWhole d → tree.depth (outline d) ≤ n → json.value n (tokens (compact_text d)) ≡ Some (outline d, [])
found d n h low =
    let same : tokens (compact_text d) ≡ tree.json_tokens (outline d) ++ [] =
    rw (← print-outline d) (tokens-print _ (ArePrintable-json_tokens (outline d) (numbers d h)) ∙ sym (append-nil _)) in
    ap (json.value n) same ∙ value-json_tokens (outline d) n [] low

pub read_whole : (d : Data) → IsWhole d → depth d ≤ max_depth → read (compact_text d) ≡ Some d
read_whole d h low =
    let tree_found : json.value max_depth (tokens (compact_text d)) ≡ Some (outline d, []) = found d max_depth h (omega (arith, outline_depth d)) in
    ap (λ (o : Option (json.Json × List Token)). option_and_then of_json (option_and_then (λ p. json.if_last p.0 p.1) o)) tree_found ∙ back d h
