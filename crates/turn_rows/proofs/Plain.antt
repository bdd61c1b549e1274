-- No text of one plain value is the text of another, however deep they nest.
use Rattle.std.proofs.Common.{◌≡◌, ◌≤◌, ◌+◌, ℕ, pos, negsuc, List, [], ◌++◌, Option, Some, unwrap_or, refl, sym, ap, ◌∙◌, append-nil, arith}
use Rattle.json.specs.Lex.{tokens}
use Rattle.json.specs.Token.{Token}
use Rattle.json.specs.Json as json
use Rattle.json.specs.Tree as tree
use Rattle.json.proofs.Printed.Tokens.{tokens-print}
use Rattle.json.proofs.Printed.Decimals.{IsNumber-decimal, IsNumber-signed_decimal}
use Rattle.json.proofs.Printed.Trees.{value-json_tokens, ArePrintable-json_tokens}
use Rattle.serde_json.specs.Data.{Num, unsigned, negative, float, Data, null, boolean, number, string, array, object, Items, no_items, item, Members, no_members, member}
use Rattle.serde_json.specs.Read as read
use Rattle.serde_json.specs.Written.{number_text, outline, items_outline, members_outline, compact_text}
use Rattle.serde_json.proofs.Numbers.{number_of-decimal, number_of-negative}
use Rattle.serde_json.proofs.Texts.{print-outline}
use Rattle.turn_rows.proofs.Ranges.{IsPlainNumber, IsPlain, ArePlain, ArePlainMembers}

number_numbers : (n : Num) → IsPlainNumber n → tree.HasNumbers (json.number (number_text n))
number_numbers (unsigned n) h = IsNumber-decimal n h
number_numbers (negative (pos n)) h = absurd h
number_numbers (negative (negsuc n)) h = IsNumber-signed_decimal (negsuc n) h
number_numbers (float x) h = absurd h

mutual
  numbers : (d : Data) → IsPlain d → tree.HasNumbers (outline d)
  numbers null h = tt
  numbers (boolean b) h = tt
  numbers (number n) h = number_numbers n h
  numbers (string s) h = tt
  numbers (array ds) h = items_numbers ds h
  numbers (object ms) h = members_numbers ms h

  items_numbers : (ds : Items) → ArePlain ds → tree.ItemsHaveNumbers (items_outline ds)
  items_numbers no_items h = tt
  items_numbers (item d ds) h = (numbers d h.0, items_numbers ds h.1)

  members_numbers : (ms : Members) → ArePlainMembers ms → tree.MembersHaveNumbers (members_outline ms)
  members_numbers no_members h = tt
  members_numbers (member k d ms) h = (numbers d h.0, members_numbers ms h.1)

-- the data that an outline is of, its members as they stand
abbrev mutual
  data_of : json.Json → Data
  data_of json.null = null
  data_of (json.boolean b) = boolean b
  data_of (json.number s) = number (unwrap_or (read.number_of s) (unsigned 0))
  data_of (json.string s) = string s
  data_of (json.array js) = array (items_of js)
  data_of (json.object ms) = object (members_of ms)

  items_of : json.Items → Items
  items_of json.no_items = no_items
  items_of (json.item j js) = item (data_of j) (items_of js)

  members_of : json.Members → Members
  members_of json.no_members = no_members
  members_of (json.member k j ms) = member k (data_of j) (members_of ms)

number_back : (n : Num) → IsPlainNumber n → data_of (json.number (number_text n)) ≡ number n
number_back (unsigned n) h = rw (number_of-decimal n h) refl
number_back (negative (pos n)) h = absurd h
number_back (negative (negsuc n)) h = rw (number_of-negative n h) refl
number_back (float x) h = absurd h

mutual
  back : (d : Data) → IsPlain d → data_of (outline d) ≡ d
  back null h = refl
  back (boolean b) h = refl
  back (number n) h = number_back n h
  back (string s) h = refl
  back (array ds) h = ap array (items_back ds h)
  back (object ms) h = ap object (members_back ms h)

  items_back : (ds : Items) → ArePlain ds → items_of (items_outline ds) ≡ ds
  items_back no_items h = refl
  items_back (item d ds) h = rw (back d h.0, items_back ds h.1) refl

  members_back : (ms : Members) → ArePlainMembers ms → members_of (members_outline ms) ≡ ms
  members_back no_members h = refl
  members_back (member k d ms) h = rw (back d h.0, members_back ms h.1) refl

found : (d : Data) (n : ℕ) → IsPlain d → tree.depth (outline d) ≤ n → json.value n (tokens (compact_text d)) ≡ Some (outline d, [])
found d n h low =
    let same : tokens (compact_text d) ≡ tree.json_tokens (outline d) ++ [] =
    rw (← print-outline d) (tokens-print _ (ArePrintable-json_tokens (outline d) (numbers d h)) ∙ sym (append-nil _)) in
    ap (json.value n) same ∙ value-json_tokens (outline d) n [] low

pub one_value : (d e : Data) → IsPlain d → IsPlain e → compact_text d ≡ compact_text e → d ≡ e
one_value d e h k same =
    let n : ℕ = tree.depth (outline d) + tree.depth (outline e) in
    let first : json.value n (tokens (compact_text d)) ≡ Some (outline d, []) = found d n h (omega arith) in
    let second : json.value n (tokens (compact_text e)) ≡ Some (outline e, []) = found e n k (omega arith) in
    let outlines : outline d ≡ outline e = ap (λ (o : Option (json.Json × List Token)). (unwrap_or o (json.null, [])).0) (sym first ∙ ap (λ s. json.value n (tokens s)) same ∙ second) in
    sym (back d h) ∙ ap data_of outlines ∙ back e k
