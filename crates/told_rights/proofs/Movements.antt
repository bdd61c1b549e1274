-- Movements one after another, and what one more makes of what they tell.
use Rattle.std.proofs.Common.{◌≡◌, ◌≤◌, ◌<◌, ◌==◌, ◌+◌, ◌-◌, ◌⊎◌, ◌||◌, ◌&&◌, ℕ, Bool, true, false, cond, List, [], ◌∷◌, ◌++◌, refl, sym, ap, subst, ◌∙◌, inl, inr, arith, append_assoc}
use Rattle.std.specs.List.{flat_map, list_any}
use Rattle.row_records.specs.amount_math.Content.{Content, count, count-sum, count-nothing, count-difference, difference, nothing, same_content, sum, sum-comm, sum-nothing}
use Rattle.row_records.specs.amount_math.Counted.{counted as size, counted-sum, counted-nothing}
use Rattle.row_records.specs.fair_rows.Movements.{is_payment_at, movement_of, movements_at, movements_in, names, takes_from}
use Rattle.row_records.specs.rights_model.Supply.{burned, is_outside, minted, moved_where, supply}
use Rattle.row_records.specs.rights_model.declared.Holder.{Holder}
use Rattle.row_records.specs.rights_model.declared.Movement.{Movement}
use Rattle.row_records.specs.turn_rows.Turns.{Event}

-- ---- the movements of events

pub nothing_behind : {A : Type 0} (xs : List A) → xs ++ [] ≡ xs
nothing_behind [] = refl
nothing_behind (x ∷ xs) = ap (λ ys. x ∷ ys) (nothing_behind xs)

pub movements-push : (es : List Event) (e : Event) → movements_in (es ++ e ∷ []) ≡ movements_in es ++ movements_at e
movements-push [] e = nothing_behind (movements_at e)
movements-push (x ∷ es) e = ap (λ ms. movements_at x ++ ms) (movements-push es e) ∙ sym (append_assoc (movements_at x) (movements_in es) (movements_at e))

-- ---- payments

or_assoc : (a b c : Bool) → (a || (b || c)) ≡ ((a || b) || c)
or_assoc true b c = refl
or_assoc false b c = refl

or_comm : (a b : Bool) → (a || b) ≡ (b || a)
or_comm true true = refl
or_comm true false = refl
or_comm false true = refl
or_comm false false = refl

or_false : (a : Bool) → (a || false) ≡ a
or_false true = refl
or_false false = refl

pub names-append : (p : ℕ) (ms ns : List Movement) → names p (ms ++ ns) ≡ (names p ms || names p ns)
names-append p [] ns = refl
names-append p (m ∷ ms) ns = ap (λ t. (is_payment_at p m.from || is_payment_at p m.to) || t) (names-append p ms ns) ∙ or_assoc _ (names p ms) (names p ns)

pub takes-append : (p : ℕ) (ms ns : List Movement) → takes_from p (ms ++ ns) ≡ (takes_from p ms || takes_from p ns)
takes-append p [] ns = refl
takes-append p (m ∷ ms) ns = ap (λ t. is_payment_at p m.from || t) (takes-append p ms ns) ∙ or_assoc _ (takes_from p ms) (takes_from p ns)

pub takes-both : (p : ℕ) (ms ns : List Movement) → takes_from p (ms ++ ns) ≡ (takes_from p ns || takes_from p ms)
takes-both p ms ns = takes-append p ms ns ∙ or_comm (takes_from p ms) (takes_from p ns)

pub names-push : (p : ℕ) (ms : List Movement) (m : Movement) → names p (ms ++ m ∷ []) ≡ ((is_payment_at p m.from || is_payment_at p m.to) || names p ms)
names-push p ms m = names-append p ms (m ∷ []) ∙ ap (λ t. names p ms || t) (or_false (is_payment_at p m.from || is_payment_at p m.to)) ∙ or_comm (names p ms) _

pub takes-push : (p : ℕ) (ms : List Movement) (m : Movement) → takes_from p (ms ++ m ∷ []) ≡ (takes_from p ms || is_payment_at p m.from)
takes-push p ms m = takes-append p ms (m ∷ []) ∙ ap (λ t. takes_from p ms || t) (or_false (is_payment_at p m.from))

pub any_append : (f : ℕ → Bool) (xs ys : List ℕ) → list_any f (xs ++ ys) ≡ (list_any f xs || list_any f ys)
any_append f [] ys = refl
any_append f (x ∷ xs) ys = ap (λ t. f x || t) (any_append f xs ys) ∙ or_assoc (f x) _ _

pub any_push : (f : ℕ → Bool) (xs : List ℕ) (y : ℕ) → list_any f (xs ++ y ∷ []) ≡ (list_any f xs || f y)
any_push f xs y = any_append f xs (y ∷ []) ∙ ap (λ t. list_any f xs || t) (or_false (f y))

-- ---- what was minted and burned

pub moved_where-append : (end : Movement → Holder) (xs ys : List Movement) (b : ℕ) → moved_where end (xs ++ ys) b ≡ sum (moved_where end xs b) (moved_where end ys b)
moved_where-append end [] ys b = sym (sum-comm nothing (moved_where end ys b) ∙ sum-nothing _)
moved_where-append end (x ∷ xs) ys b = by (is_outside (end x) && (x.brand == b)) (moved_where-append end xs ys b)
  where
    joined : (a c d : Content) → sum a (sum c d) ≡ sum (sum a c) d
    joined a c d = same_content _ _ (λ k. omega (arith, count-sum a (sum c d) k, count-sum c d k, count-sum (sum a c) d k, count-sum a c k))

    by : (c : Bool) → moved_where end (xs ++ ys) b ≡ sum (moved_where end xs b) (moved_where end ys b)
        → cond c (sum x.value.content (moved_where end (xs ++ ys) b)) (moved_where end (xs ++ ys) b) ≡ sum (cond c (sum x.value.content (moved_where end xs b)) (moved_where end xs b)) (moved_where end ys b)
    by true is = ap (sum x.value.content) is ∙ joined _ _ _
    by false is = is

-- what a movement brings to what was minted or burned
abbrev pub part_of : (Movement → Holder) → Movement → ℕ → Content
part_of end m b = cond (is_outside (end m) && (m.brand == b)) m.value.content nothing

pub where_push : (end : Movement → Holder) (ms : List Movement) (m : Movement) (b : ℕ) → moved_where end (ms ++ m ∷ []) b ≡ sum (moved_where end ms b) (part_of end m b)
where_push end ms m b = moved_where-append end ms (m ∷ []) b ∙ ap (sum (moved_where end ms b)) (by (is_outside (end m) && (m.brand == b)))
  where
    by : (c : Bool) → cond c (sum m.value.content nothing) nothing ≡ cond c m.value.content nothing
    by true = sum-nothing _
    by false = refl

size_part : (c : Bool) (x : Content) → size (cond c x nothing) ≡ cond c (size x) 0
size_part true x = refl
size_part false x = counted-nothing

-- how much was minted or burned with one movement more
pub size_push : (end : Movement → Holder) (ms : List Movement) (m : Movement) (b : ℕ) → size (moved_where end (ms ++ m ∷ []) b) ≡ size (moved_where end ms b) + cond (is_outside (end m) && (m.brand == b)) (size m.value.content) 0
size_push end ms m b = ap size (where_push end ms m b) ∙ counted-sum _ _ ∙ ap (λ n. size (moved_where end ms b) + n) (size_part (is_outside (end m) && (m.brand == b)) m.value.content)
