-- What was given up, listed by brand: how it is read, and how it changes.
use Rattle.std.proofs.Common.{◌≡◌, ◌≢◌, ℕ, zero, suc, ◌+◌, ◌<◌, [], ◌∷◌, ◌++◌, length, refl, sym, ◌∙◌, ap, subst, arith}
use Rattle.std.specs.Prelude.{slice_index_or, slice_set}
use Rattle.vault_model.specs.amount_math.Content.{Content, Contains, count-nothing, nothing}
use Rattle.vault.specs.Drafts.{by_number, given_list}
use Rattle.vault.specs.Memory.{store_of}
use Rattle.vault.specs.declared.stores.Stores.{Stores}

-- ---- lists by number

pub length_numbered : (n : ℕ) (f : ℕ → Content) → length (by_number n f) ≡ n
length_numbered zero f = refl
length_numbered (suc n) f = omega (arith, length_numbered n (λ b. f (suc b)))

pub read_numbered : (n : ℕ) (f : ℕ → Content) (b : ℕ) → b < n → slice_index_or (by_number n f) b nothing ≡ f b
read_numbered zero f b lt = absurd (omega (arith, lt))
read_numbered (suc n) f zero lt = refl
read_numbered (suc n) f (suc b) lt = read_numbered n (λ e. f (suc e)) b (omega (arith, lt))

pub read_nothing : (n b : ℕ) → slice_index_or (by_number n (λ e. nothing)) b nothing ≡ nothing
read_nothing zero b = refl
read_nothing (suc n) zero = refl
read_nothing (suc n) (suc b) = read_nothing n b

pub numbered_alike : (n : ℕ) (f g : ℕ → Content) → ((b : ℕ) → b < n → f b ≡ g b) → by_number n f ≡ by_number n g
numbered_alike zero f g same = refl
numbered_alike (suc n) f g same = λ i. same 0 (omega arith) i ∷ numbered_alike n (λ b. f (suc b)) (λ b. g (suc b)) (λ b lt. same (suc b) (omega (arith, lt))) i

pub numbered_push : (m n : ℕ) (f : ℕ → Content) → m ≡ n + 1 → by_number m f ≡ by_number n f ++ f n ∷ []
numbered_push zero n f e = absurd (omega (arith, e))
numbered_push (suc zero) zero f e = refl
numbered_push (suc (suc m)) zero f e = absurd (omega (arith, e))
numbered_push (suc m) (suc n) f e = ap (λ l. f 0 ∷ l) (numbered_push m n (λ b. f (suc b)) (omega (arith, e)))

pub numbered_set : (n : ℕ) (f g : ℕ → Content) (b : ℕ) (x : Content) → b < n → g b ≡ x → ((e : ℕ) → b ≢ e → g e ≡ f e) → slice_set (by_number n f) b x ≡ by_number n g
numbered_set zero f g b x lt there others = absurd (omega (arith, lt))
numbered_set (suc n) f g zero x lt there others = λ i. sym there i ∷ numbered_alike n (λ e. f (suc e)) (λ e. g (suc e)) (λ e lt. sym (others (suc e) (λ same. omega (arith, same)))) i
numbered_set (suc n) f g (suc b) x lt there others = λ i. sym (others 0 (λ same. omega (arith, same))) i ∷ numbered_set n (λ e. f (suc e)) (λ e. g (suc e)) b x (omega (arith, lt)) there (λ e apart. others (suc e) (λ same. apart (omega (arith, same)))) i

-- ---- the list of what was given up

pub given_there : (p : Stores) (b : ℕ) → b < length p.transit.out → slice_index_or (given_list p) b nothing ≡ store_of p b
given_there p b lt = read_numbered (length p.transit.out) (store_of p) b lt

pub none_listed : (p : Stores) → ((b : ℕ) → b < length p.transit.out → store_of p b ≡ nothing) → given_list p ≡ by_number (length p.transit.out) (λ b. nothing)
none_listed p none = numbered_alike (length p.transit.out) (store_of p) (λ b. nothing) none

pub none_given : (p : Stores) → ((b : ℕ) → b < length p.transit.out → store_of p b ≡ nothing) → (b : ℕ) → slice_index_or (given_list p) b nothing ≡ nothing
none_given p none b = ap (λ l. slice_index_or l b nothing) (none_listed p none) ∙ read_nothing (length p.transit.out) b

pub has_none : (x y : Content) → y ≡ nothing → Contains x y
has_none x y is = subst (λ c. Contains x c) (sym is) (record { each = λ k. omega (arith, count-nothing k) })
