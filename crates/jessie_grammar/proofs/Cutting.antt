-- The loop that cuts a text.
use Rattle.std.proofs.Common.{◌≡◌, ℕ, suc, ◌+◌, ◌-◌, ◌<◌, ◌≤◌, false, List, [], ◌∷◌, ◌++◌, length, sym, ap, ◌∙◌, arith, append_assoc, get_or, take, drop, Option, ◌==◌, ◌||◌}
use Rattle.std.proofs.lemmas.Bool.Decides.{nat_tests}
use Rattle.jessie_grammar.specs.declared.jessie_lexer.token.Kind.{Kind}
use Rattle.std.proofs.lemmas.List.{append-nil, take_all}
use Rattle.jessie_grammar.specs.declared.jessie_lexer.token.Token.{Token}
use Rattle.jessie_grammar.specs.Lex.{cut_from, cut_at, skip, piece, Piece, is_word_start, is_digit, head, mark, of_mark}

pub cut_over : (n at total : ℕ) (all found : List Token) (rest : List ℕ) → n ≤ at → all ≡ found ++ cut_from (n - at) total rest → all ≡ found
unfolding cut_from
cut_over n at total all found rest i e = let none : n - at ≡ 0 = omega arith in e ∙ (ap (λ m. found ++ cut_from m total rest) none ∙ append-nil found)

one_more : (n at total : ℕ) (all found : List Token) (rest here : List ℕ) → at < n → all ≡ found ++ cut_from (n - at) total rest → here ≡ skip false rest
    → all ≡ found ++ cut_at here (λ s. piece (total - length s) s) (cut_from (n - (at + 1)) total)
unfolding cut_from
one_more n at total all found rest here i e h =
    let turn : n - at ≡ suc (n - (at + 1)) = omega arith in
    e ∙ (ap (λ m. found ++ cut_from m total rest) turn ∙ ap (λ s. found ++ cut_at s (λ s. piece (total - length s) s) (cut_from (n - (at + 1)) total)) (sym h))

pub cut_stops : (n at total : ℕ) (all found : List Token) (rest here : List ℕ) → at < n → all ≡ found ++ cut_from (n - at) total rest → here ≡ skip false rest → length here ≡ 0 → all ≡ found
cut_stops n at total all found rest [] i e h z = one_more n at total all found rest [] i e h ∙ append-nil found
cut_stops n at total all found rest (b ∷ s) i e h z = absurd (omega arith)

pub cut_goes : (n at total : ℕ) (all found : List Token) (rest here : List ℕ) (t : Token) (after : List ℕ) → at < n → all ≡ found ++ cut_from (n - at) total rest → here ≡ skip false rest
    → 0 < length here → piece (total - length here) here ≡ (t, after) → all ≡ (found ++ t ∷ []) ++ cut_from (n - (at + 1)) total after
cut_goes n at total all found rest [] t after i e h z r = absurd (omega arith)
cut_goes n at total all found rest (b ∷ s) t after i e h z r =
    one_more n at total all found rest (b ∷ s) i e h
    ∙ (ap (λ (x : Piece). found ++ (x.0 ∷ cut_from (n - (at + 1)) total x.1)) r ∙ sym (append_assoc found (t ∷ []) (cut_from (n - (at + 1)) total after)))

all_of : (bs : List ℕ) → take (suc (length bs) - 1) bs ≡ bs
all_of bs = let e : suc (length bs) - 1 ≡ length bs = omega arith in ap (λ n. take n bs) e ∙ take_all _ bs (omega arith)

neither : (b : ℕ) → (b ≡ 39 → ⊥) → (b ≡ 34 → ⊥) → (b == 39 || b == 34) ≡ false
neither b q r = grind (arith, nat_tests)

pub piece_mark : (at : ℕ) (bytes : List ℕ) (h a : Option ℕ) (m : Kind × ℕ) → 1 ≤ length bytes → is_word_start (get_or bytes 0 0) ≡ false → is_digit (get_or bytes 0 0) ≡ false
    → (get_or bytes 0 0 ≡ 39 → ⊥) → (get_or bytes 0 0 ≡ 34 → ⊥) → h ≡ head (take (length bytes - 1) (drop 1 bytes)) → a ≡ head (drop 1 (take (length bytes - 1) (drop 1 bytes)))
    → m ≡ mark (get_or bytes 0 0) h a → piece at bytes ≡ of_mark at m bytes
unfolding piece
piece_mark at [] h a m l w d q r e f g = absurd (omega arith)
piece_mark at (b ∷ bs) h a m l w d q r e f g =
    let t : take (suc (length bs) - 1) bs ≡ bs = all_of bs in
    let n : (b == 39 || b == 34) ≡ false = neither b q r in
    let i : h ≡ head bs = e ∙ ap head t in
    let j : a ≡ head (drop 1 bs) = f ∙ ap (λ z. head (drop 1 z)) t in
    let k : m ≡ mark b (head bs) (head (drop 1 bs)) = g ∙ (ap (λ z. mark b z a) i ∙ ap (mark b (head bs)) j) in
    rw (w, d, n) (ap (λ z. of_mark at z (b ∷ bs)) (sym k))
