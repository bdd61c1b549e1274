-- What movements move is added, one after another.
use Rattle.std.proofs.Common.{◌≡◌, ℕ, zero, suc, ◌+◌, ◌<◌, ◌≤◌, List, [], ◌∷◌, add-one, drop, drop-cons, get_or, length, refl, sym, ◌∙◌, ap, arith}
use Rattle.draft_reads.specs.amount_math.Content.{sum, sum-assoc, sum-nothing}
use Rattle.draft_reads.specs.amount_math.ValueView.{ValueView, with_content}
use Rattle.draft_reads.specs.rights_model.declared.Movement.{Movement}
use Rattle.draft_effects.specs.Sums.{HaveSum, IsAdding, content_moved, whole_moved}

pub adds_first : (w : ValueView) (m : Movement) (ms : List Movement) → w ≡ m.value → HaveSum (m ∷ ms) → IsAdding w (m ∷ ms) ms
adds_first w m ms is sums = rw is (record { can = sums; kind = refl; content = refl })

pub adds_next : (w v : ValueView) (all : List Movement) (m : Movement) (ms : List Movement) → IsAdding w all (m ∷ ms) → v ≡ with_content w (sum w.content m.value.content) → IsAdding v all ms
adds_next w v all m ms is next = rw next (record {
  can = is.can.1;
  kind = is.kind;
  content = sum-assoc w.content m.value.content (content_moved ms) ∙ is.content;
})

pub adds_all : (w : ValueView) (all : List Movement) → HaveSum all → IsAdding w all [] → w ≡ whole_moved all
adds_all w [] sums is = absurd sums
adds_all w (m ∷ ms) sums is = λ i. record { kind = is.kind i; content = (sym (sum-nothing w.content) ∙ is.content) i }

-- ---- what is left of a list that a loop goes over

pub next_left : (xs : List Movement) (i : ℕ) (x : Movement) → i < length xs → x ≡ get_or xs i x → drop i xs ≡ x ∷ drop (i + 1) xs
next_left xs i x lt is = drop-cons xs i x lt ∙ ap (λ y. y ∷ drop (suc i) xs) (sym is) ∙ ap (λ n. x ∷ drop n xs) (sym (add-one i))

pub none_left : (xs : List Movement) (i : ℕ) → length xs ≤ i → drop i xs ≡ []
none_left [] zero le = refl
none_left [] (suc i) le = refl
none_left (x ∷ xs) zero le = absurd (omega (arith, le))
none_left (x ∷ xs) (suc i) le = none_left xs i (omega (arith, le))
