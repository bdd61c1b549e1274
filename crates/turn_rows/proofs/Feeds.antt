-- No value's text has a line feed, so rows can be told apart.
use Rattle.std.proofs.Common.{◌≡◌, ℕ, zero, suc, ◌+◌, ◌^◌, ◌<◌, ◌≤◌, ◌/◌, ◌%◌, pos, negsuc, List, [], ◌∷◌, ◌++◌, map, Bool, true, false, cond, eqb, ltb, refl, arith, decimal}
use Rattle.std.proofs.lemmas.Bool.{ltb-false}
use Rattle.std.proofs.lemmas.Bool.Decides.{nat_tests}
use Rattle.std.proofs.lemmas.Fmt.{decimal-digits_of, decimal_digit}
use Rattle.std.specs.Char.{digit_char}
use Rattle.std.specs.List.{slice_split}
use Rattle.json.specs.Print.{escape_letter, escape_byte, escape, quoted}
use Rattle.serde_json.specs.Data.{Num, unsigned, negative, float, Data, null, boolean, number, string, array, object, Items, no_items, item, Members, no_members, member}
use Rattle.serde_json.specs.Written.{number_text, compact_text, items_text, members_text, comma_if}
use Rattle.turn_rows.proofs.Ranges.{IsPlain, ArePlain, ArePlainMembers, IsPlainNumber}

abbrev pub NoFeed : List ℕ → Type 0
NoFeed [] = Unit {0}
NoFeed (b ∷ bs) = (eqb b 10 ≡ false) × NoFeed bs

no_feed-append : (xs ys : List ℕ) → NoFeed xs → NoFeed ys → NoFeed (xs ++ ys)
no_feed-append [] ys h k = k
no_feed-append (x ∷ xs) ys h k = (h.0, no_feed-append xs ys h.1 k)

no_letter : (x : ℕ) → eqb (escape_letter x) 10 ≡ false
no_letter x = grind (arith, nat_tests)

no_digit : (d : ℕ) → eqb (digit_char d) 10 ≡ false
no_digit d = grind (arith, nat_tests)

no_plain : (x : ℕ) → 32 ≤ x → eqb x 10 ≡ false
no_plain x h = grind (arith, nat_tests)

choice : (b c : Bool) (x : ℕ) → ltb x 32 ≡ c → NoFeed (cond b (92 ∷ escape_letter x ∷ []) (cond c (92 ∷ 117 ∷ 48 ∷ 48 ∷ digit_char (x / 16) ∷ digit_char (x % 16) ∷ []) (x ∷ [])))
choice true c x is = (refl, (no_letter x, tt))
choice false true x is = (refl, (refl, (refl, (refl, (no_digit (x / 16), (no_digit (x % 16), tt))))))
choice false false x is = (no_plain x (ltb-false x 32 is), tt)

no_feed-escape : (s : List ℕ) → NoFeed (escape s)
unfolding escape_byte
no_feed-escape [] = tt
no_feed-escape (x ∷ s) = no_feed-append (escape_byte x) (escape s) (choice (ltb 0 (escape_letter x)) (ltb x 32) x refl) (no_feed-escape s)

no_feed-quoted : (s : List ℕ) → NoFeed (quoted s)
no_feed-quoted s = (refl, no_feed-append (escape s) (34 ∷ []) (no_feed-escape s) (refl, tt))

no_feed-digits : (ds : List ℕ) → NoFeed (map (λ d. 48 + d) ds)
no_feed-digits [] = tt
no_feed-digits (d ∷ ds) = (no_plain (48 + d) (omega arith), no_feed-digits ds)

no_feed-decimal : (n : ℕ) → n < 2 ^ 64 → NoFeed (decimal n)
no_feed-decimal zero h = rw (decimal_digit 0 (omega arith)) (refl, tt)
no_feed-decimal (suc n) h = rw (decimal-digits_of (suc n) (omega arith) h) (no_feed-digits _)

no_feed-number : (n : Num) → IsPlainNumber n → NoFeed (number_text n)
no_feed-number (unsigned n) h = no_feed-decimal n h
no_feed-number (negative (pos n)) h = absurd h
no_feed-number (negative (negsuc n)) h = (refl, no_feed-decimal (suc n) (omega arith))
no_feed-number (float x) h = absurd h

no_feed-comma : (later : Bool) → NoFeed (comma_if later)
no_feed-comma true = (refl, tt)
no_feed-comma false = tt

no_feed-boolean : (b : Bool) → NoFeed (compact_text (boolean b))
no_feed-boolean true = (refl, (refl, (refl, (refl, tt))))
no_feed-boolean false = (refl, (refl, (refl, (refl, (refl, tt)))))

mutual
  pub no_feed : (d : Data) → IsPlain d → NoFeed (compact_text d)
  no_feed null h = (refl, (refl, (refl, (refl, tt))))
  no_feed (boolean b) h = no_feed-boolean b
  no_feed (number n) h = no_feed-number n h
  no_feed (string s) h = no_feed-quoted s
  no_feed (array ds) h = (refl, no_feed-items false ds h)
  no_feed (object ms) h = (refl, no_feed-members false ms h)

  no_feed-items : (later : Bool) (ds : Items) → ArePlain ds → NoFeed (items_text later ds)
  no_feed-items later no_items h = (refl, tt)
  no_feed-items later (item d ds) h =
      no_feed-append (comma_if later) _ (no_feed-comma later) (no_feed-append (compact_text d) _ (no_feed d h.0) (no_feed-items true ds h.1))

  no_feed-members : (later : Bool) (ms : Members) → ArePlainMembers ms → NoFeed (members_text later ms)
  no_feed-members later no_members h = (refl, tt)
  no_feed-members later (member k d ms) h =
      no_feed-append (comma_if later) _ (no_feed-comma later)
      (no_feed-append (quoted k) _ (no_feed-quoted k) (refl, no_feed-append (compact_text d) _ (no_feed d h.0) (no_feed-members true ms h.1)))

-- the first row ends at the first line feed
pub slice_split-row : (row rest : List ℕ) → NoFeed row → slice_split (λ b. eqb b 10) (row ++ 10 ∷ rest) ≡ row ∷ slice_split (λ b. eqb b 10) rest
slice_split-row [] rest h = refl
slice_split-row (b ∷ row) rest h = rw (h.0, slice_split-row row rest h.1)
