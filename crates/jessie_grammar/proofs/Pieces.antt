-- The tokens of a text make it up.
use Rattle.std.proofs.Common.{◌≡◌, ℕ, zero, suc, ◌+◌, ◌-◌, ◌<◌, ◌≤◌, Bool, true, false, not, ◌==◌, ◌||◌, ◌&&◌, if◌then◌else◌, List, [], ◌∷◌, ◌++◌, length, take, drop, take_while, Option, Some, None, refl, sym, ap, subst, ◌∙◌, arith, append_assoc, length-append}
use Rattle.std.proofs.lemmas.List.{append-nil, take-append-drop}
use Rattle.std.proofs.lemmas.List.Sums.{take_while-cons}
use Rattle.std.specs.Str.{is_utf8}
use Rattle.jessie_grammar.specs.declared.jessie_lexer.token.Kind.{Kind}
use Rattle.jessie_grammar.specs.declared.jessie_lexer.token.Token.{Token}
use Rattle.jessie_grammar.specs.Lex.{Piece, is_blank, is_byte, head, skip, is_word_start, is_word_byte, is_digit, mark, quoted, unescaped, escape, simple, keyword, of_quoted, of_digits, of_mark, piece, cut_at, cut_from, cut}
use Rattle.jessie_grammar.specs.Pieces.{is_space, MakeUp, TokensMakeUpTexts}

-- ---- space

-- what is skipped; behind an open comment a byte at least
abbrev Skipped : Bool → List ℕ → Type 0
Skipped c bs = (space : List ℕ) × (bs ≡ space ++ skip c bs) × (is_space c space ≡ true) × (c ≡ true → head space ≡ head bs)

false_by : (b : ℕ) (bs : List ℕ) → Skipped false bs → Skipped true bs → (x y : Bool) → is_blank b ≡ x → (b == 47 && is_byte 47 (head bs)) ≡ y
    → (space : List ℕ) × (b ∷ bs ≡ space ++ (if x then skip false bs else if y then skip true bs else b ∷ bs)) × (is_space false space ≡ true) × (false ≡ true → head space ≡ Some b)
false_by b bs h i true y e f = (b ∷ h.0, ap (λ z. b ∷ z) h.1, rw e h.2, λ n. absurd (cc))
false_by b bs h i false true e f =
    let g : (b == 47 && is_byte 47 (head i.0)) ≡ true = ap (λ z. b == 47 && is_byte 47 z) (i.3 refl) ∙ f in
    (b ∷ i.0, ap (λ z. b ∷ z) i.1, rw (e, g) i.2, λ n. absurd (cc))
false_by b bs h i false false e f = ([], refl, refl, λ n. absurd (cc))

skipped : (c : Bool) (bs : List ℕ) → Skipped c bs
unfolding skip
skipped c [] = ([], refl, refl, λ e. refl)
skipped true (b ∷ bs) = let h = skipped (not (b == 10)) bs in (b ∷ h.0, ap (λ z. b ∷ z) h.1, h.2, λ e. refl)
skipped false (b ∷ bs) = false_by b bs (skipped false bs) (skipped true bs) (is_blank b) (b == 47 && is_byte 47 (head bs)) refl refl

-- ---- a token takes bytes from the front

abbrev Behind : List ℕ → List ℕ → Type 0
Behind bs rest = (lexeme : List ℕ) × (bs ≡ lexeme ++ rest) × (0 < length lexeme)

all_of_it : (b : ℕ) (bs : List ℕ) → Behind (b ∷ bs) []
all_of_it b bs = (b ∷ bs, sym (append-nil (b ∷ bs)), omega arith)

dropped : (n b : ℕ) (bs : List ℕ) → 0 < n → Behind (b ∷ bs) (drop n (b ∷ bs))
dropped zero b bs h = absurd (omega arith)
dropped (suc n) b bs h = (b ∷ take n bs, ap (λ z. b ∷ z) (sym (take-append-drop n bs)), omega arith)

dropped_more : (bs rest : List ℕ) → Behind bs rest → Behind bs (drop 1 rest)
dropped_more bs [] h = h
dropped_more bs (d ∷ rest) h = (h.0 ++ d ∷ [], h.1 ∙ sym (append_assoc h.0 (d ∷ []) rest), omega (arith, h.2, length-append h.0 (d ∷ [])))

digits_by : (at b : ℕ) (bs digits rest : List ℕ) → Behind (b ∷ bs) rest → (x : Bool) → is_byte 110 (head rest) ≡ x → Behind (b ∷ bs) (of_digits at digits rest).1
digits_by at b bs digits rest h true e = rw e (dropped_more (b ∷ bs) rest h)
digits_by at b bs digits rest h false e = rw e (all_of_it b bs)

-- what follows a quoted text is the end of what follows its quote
abbrev Ends : List ℕ → Option (List ℕ × List ℕ) → Type 0
Ends bs None = Unit {0}
Ends bs (Some r) = (l : List ℕ) × (bs ≡ l ++ r.1)

ends_more : (b : ℕ) (bs : List ℕ) (o : Option (List ℕ × List ℕ)) → Ends bs o → Ends (b ∷ bs) o
ends_more b bs None h = tt
ends_more b bs (Some r) h = (b ∷ h.0, ap (λ z. b ∷ z) h.1)

plain_by : (b : ℕ) (bs found : List ℕ) (o p : Option (List ℕ × List ℕ)) → Ends bs o → Ends bs p → (x y z : Bool)
    → Ends (b ∷ bs) (if x then Some (found, bs) else if y then None else if z then o else p)
plain_by b bs found o p h i true y z = (b ∷ [], refl)
plain_by b bs found o p h i false true z = tt
plain_by b bs found o p h i false false true = ends_more b bs o h
plain_by b bs found o p h i false false false = ends_more b bs p i

escaped_by : (b : ℕ) (bs : List ℕ) (go : ℕ → Option (List ℕ × List ℕ)) → ((d : ℕ) → Ends bs (go d)) → (o : Option ℕ) → Ends (b ∷ bs) (unescaped go o)
escaped_by b bs go h None = tt
escaped_by b bs go h (Some d) = ends_more b bs (go d) (h d)

quoted_ends : (q : ℕ) (e : Bool) (found bs : List ℕ) → Ends bs (quoted q e found bs)
unfolding quoted
quoted_ends q e found [] = tt
quoted_ends q false found (b ∷ bs) = plain_by b bs found (quoted q true found bs) (quoted q false (found ++ b ∷ []) bs) (quoted_ends q true found bs) (quoted_ends q false (found ++ b ∷ []) bs) (b == q) (b == 10) (b == 92)
quoted_ends q true found (b ∷ bs) = escaped_by b bs (λ d. quoted q false (found ++ d ∷ []) bs) (λ d. quoted_ends q false (found ++ d ∷ []) bs) (escape b)

utf8_by : (at b : ℕ) (bs : List ℕ) (r : List ℕ × List ℕ) → Ends bs (Some r) → (x : Bool) → is_utf8 r.0 ≡ x → Behind (b ∷ bs) (of_quoted at (Some r)).1
utf8_by at b bs r h true e = rw e (b ∷ h.0, ap (λ z. b ∷ z) h.1, omega arith)
utf8_by at b bs r h false e = rw e (all_of_it b bs)

quoted_by : (at b : ℕ) (bs : List ℕ) (o : Option (List ℕ × List ℕ)) → Ends bs o → Behind (b ∷ bs) (of_quoted at o).1
quoted_by at b bs None h = all_of_it b bs
quoted_by at b bs (Some r) h = utf8_by at b bs r h (is_utf8 r.0) refl

-- the lengths of the marks
long_by : (k : Kind) (n : ℕ) (m : Kind × ℕ) → 0 < n → 0 < m.1 → (x : Bool) → 0 < (if x then (k, n) else m).1
long_by k n m h i true = h
long_by k n m h i false = i

mark_long : (b : ℕ) (n a : Option ℕ) → 0 < (mark b n a).1
mark_long b n a =
    long_by _ 3 _ (omega arith) (long_by _ 3 _ (omega arith) (long_by _ 2 _ (omega arith) (long_by _ 2 _ (omega arith) (long_by _ 2 _ (omega arith) (long_by _ 2 _ (omega arith) (long_by _ 2 _ (omega arith) (omega arith)
    (b == 62 && is_byte 61 n)) (b == 60 && is_byte 61 n)) (b == 38 && is_byte 38 n)) (b == 124 && is_byte 124 n)) (b == 61 && is_byte 62 n)) (b == 33 && (is_byte 61 n && is_byte 61 a))) (b == 61 && (is_byte 61 n && is_byte 61 a))

word_byte : (b : ℕ) → is_word_start b ≡ true → is_word_byte b ≡ true
word_byte b h = rw h refl

some_of : (p : ℕ → Bool) (b : ℕ) (bs : List ℕ) → p b ≡ true → 0 < length (take_while p (b ∷ bs))
some_of p b bs h = let e : take_while p (b ∷ bs) ≡ b ∷ take_while p bs = take_while-cons p b bs ∙ ap (λ z. if z then b ∷ take_while p bs else []) h in omega (arith, ap length e)

-- the token at the front has that place, and takes bytes
abbrev Taken : ℕ → List ℕ → Piece → Type 0
Taken at bs x = Behind bs x.1 × (x.0.at ≡ at)

at_of_digits : (at : ℕ) (digits rest : List ℕ) → (of_digits at digits rest).0.at ≡ at
at_of_digits at digits rest = by (is_byte 110 (head rest)) refl
  where
    by : (x : Bool) → is_byte 110 (head rest) ≡ x → (of_digits at digits rest).0.at ≡ at
    by true e = rw e refl
    by false e = rw e refl

at_of_quoted : (at : ℕ) (o : Option (List ℕ × List ℕ)) → (of_quoted at o).0.at ≡ at
at_of_quoted at None = refl
at_of_quoted at (Some r) = by (is_utf8 r.0) refl
  where
    by : (x : Bool) → is_utf8 r.0 ≡ x → (of_quoted at (Some r)).0.at ≡ at
    by true e = rw e refl
    by false e = rw e refl

word_piece : ℕ → ℕ → List ℕ → Piece
word_piece at b bs = let w = take_while is_word_byte (b ∷ bs) in (simple (keyword w) at w, drop (length w) (b ∷ bs))

digits_piece : ℕ → ℕ → List ℕ → Piece
digits_piece at b bs = let d = take_while is_digit (b ∷ bs) in of_digits at d (drop (length d) (b ∷ bs))

word_taken : (at b : ℕ) (bs : List ℕ) → is_word_start b ≡ true → Taken at (b ∷ bs) (word_piece at b bs)
unfolding word_piece
word_taken at b bs e = (dropped (length (take_while is_word_byte (b ∷ bs))) b bs (some_of is_word_byte b bs (word_byte b e)), refl)

digits_taken : (at b : ℕ) (bs : List ℕ) → is_digit b ≡ true → Taken at (b ∷ bs) (digits_piece at b bs)
unfolding digits_piece
digits_taken at b bs e =
    let d = take_while is_digit (b ∷ bs) in
    let rest = drop (length d) (b ∷ bs) in
    (digits_by at b bs d rest (dropped (length d) b bs (some_of is_digit b bs e)) (is_byte 110 (head rest)) refl, at_of_digits at d rest)

quoted_taken : (at b : ℕ) (bs : List ℕ) → Taken at (b ∷ bs) (of_quoted at (quoted b false [] bs))
quoted_taken at b bs = (quoted_by at b bs (quoted b false [] bs) (quoted_ends b false [] bs), at_of_quoted at (quoted b false [] bs))

mark_taken : (at b : ℕ) (bs : List ℕ) → Taken at (b ∷ bs) (of_mark at (mark b (head bs) (head (drop 1 bs))) (b ∷ bs))
mark_taken at b bs = (dropped (mark b (head bs) (head (drop 1 bs))).1 b bs (mark_long b (head bs) (head (drop 1 bs))), refl)

piece_by : (at b : ℕ) (bs : List ℕ) (x y z : Bool) → is_word_start b ≡ x → is_digit b ≡ y
    → Taken at (b ∷ bs) (if x then word_piece at b bs else if y then digits_piece at b bs else if z then of_quoted at (quoted b false [] bs) else of_mark at (mark b (head bs) (head (drop 1 bs))) (b ∷ bs))
piece_by at b bs true y z e f = word_taken at b bs e
piece_by at b bs false true z e f = digits_taken at b bs f
piece_by at b bs false false true e f = quoted_taken at b bs
piece_by at b bs false false false e f = mark_taken at b bs

piece_taken : (at b : ℕ) (bs : List ℕ) → Taken at (b ∷ bs) (piece at (b ∷ bs))
unfolding piece word_piece digits_piece
piece_taken at b bs = piece_by at b bs (is_word_start b) (is_digit b) (b == 39 || b == 34) refl refl

-- ---- one after the other

made : (total at : ℕ) (bytes here : List ℕ) (next : List ℕ → List Token) → Skipped false bytes → here ≡ skip false bytes → total ≡ at + length bytes
    → ((later : ℕ) (rest : List ℕ) → length rest < length bytes → total ≡ later + length rest → MakeUp later rest (next rest))
    → MakeUp at bytes (cut_at here (λ s. piece (total - length s) s) next)
made total at bytes [] next h e n more = subst (λ z. is_space false z ≡ true) (sym (h.1 ∙ (ap (λ z. h.0 ++ z) (sym e) ∙ append-nil h.0))) h.2
made total at bytes (b ∷ bs) next h e n more =
    let whole : bytes ≡ h.0 ++ (b ∷ bs) = h.1 ∙ ap (λ z. h.0 ++ z) (sym e) in
    let p = piece_taken (total - length (b ∷ bs)) b bs in
    let l = p.0 in
    let x = piece (total - length (b ∷ bs)) (b ∷ bs) in
    let long : length bytes ≡ length h.0 + length (b ∷ bs) = ap length whole ∙ length-append h.0 (b ∷ bs) in
    let parts : length (b ∷ bs) ≡ length l.0 + length x.1 = ap length l.1 ∙ length-append l.0 x.1 in
    let place : x.0.at ≡ at + length h.0 = p.1 ∙ omega (arith, n, long) in (
      h.0,
      l.0,
      x.1,
      whole ∙ ap (λ z. h.0 ++ z) l.1,
      h.2,
      l.2,
      place,
      ap (λ z. piece x.0.at z) (sym l.1) ∙ ap (λ z. piece z (b ∷ bs)) p.1,
      more (at + (length h.0 + length l.0)) x.1 (omega (arith, long, parts, l.2)) (omega (arith, n, long, parts)),
    )

make_up : (n total at : ℕ) (bytes : List ℕ) → length bytes ≤ n → total ≡ at + length bytes → MakeUp at bytes (cut_from n total bytes)
unfolding cut_from
make_up zero total at [] h e = refl
make_up zero total at (b ∷ bs) h e = absurd (omega arith)
make_up (suc n) total at bytes h e = made total at bytes (skip false bytes) (cut_from n total) (skipped false bytes) refl e (λ later rest i j. make_up n total later rest (omega arith) j)

pub tokens_make_up_texts : TokensMakeUpTexts
unfolding cut
tokens_make_up_texts bytes = make_up (length bytes) (length bytes) 0 bytes (omega arith) (omega arith)
