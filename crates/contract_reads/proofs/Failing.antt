-- Shares that fail a test, as they are looked for one after another.
use Rattle.std.specs.Prelude.{filter}
use Rattle.std.specs.List.{All}
use Rattle.std.proofs.Common.{◌≡◌, ℕ, ◌+◌, ◌<◌, Bool, true, false, cond, List, [], ◌∷◌, ◌++◌, Option, Some, None, get_or, length, take, refl, sym, ap, subst, ◌∙◌}
use Rattle.std.proofs.lemmas.List.{take_more}
use Rattle.std.proofs.lemmas.List.Elements.{All-append, All-cons, All-nil}
use Rattle.rules.specs.call_arguments.Numbers.{least, least_of}
use Rattle.rules.specs.call_arguments.Records.{ShareData, brands_in, share_data, shares_data}
use Rattle.rules.specs.call_arguments.declared.records.GivenShare.{GivenShare}

-- ---- where no number is the least there are none

not_none : (n : ℕ) (o : Option ℕ) → least_of (Some n) o ≡ None → ⊥
not_none n None is = cc
not_none n (Some m) is = cc

pub none_least : (ns : List ℕ) → least ns ≡ None → ns ≡ []
none_least [] is = refl
none_least (n ∷ ns) is = absurd (not_none n (least ns) is)

pub not_empty : {A : Type 0} (xs : List A) (x : A) → xs ++ x ∷ [] ≡ [] → ⊥
not_empty [] x is = cc
not_empty (y ∷ ys) x is = cc

-- ---- one share more

next_item : {A : Type 0} (xs : List A) (i : ℕ) (x : A) → i < length xs → x ≡ get_or xs i x → take (i + 1) xs ≡ take i xs ++ x ∷ []
next_item xs i x lt is = take_more xs i x lt ∙ ap (λ y. take i xs ++ y ∷ []) (sym is)

pub all_next : {A : Type 0} (P : A → Type 0) (xs : List A) (i : ℕ) (x : A) → i < length xs → x ≡ get_or xs i x → All P (take i xs) → P x → All P (take (i + 1) xs)
all_next P xs i x lt is all here = subst (All P) (sym (next_item xs i x lt is)) (All-append P (take i xs) (x ∷ []) all (All-cons P x [] here (All-nil P)))

module _ (p : ShareData → Bool) where
  abbrev pub failing : List GivenShare → List ℕ
  failing shares = brands_in (filter p (shares_data shares))

  appended : (shares : List GivenShare) (r : GivenShare) → failing (shares ++ r ∷ []) ≡ failing shares ++ cond (p (share_data r)) (r.amount.brand ∷ []) []
  appended [] r = by (p (share_data r))
    where
      by : (b : Bool) → brands_in (cond b (share_data r ∷ []) []) ≡ cond b (r.amount.brand ∷ []) []
      by true = refl
      by false = refl
  appended (x ∷ xs) r = by (p (share_data x)) (appended xs r)
    where
      by : (b : Bool) → failing (xs ++ r ∷ []) ≡ failing xs ++ cond (p (share_data r)) (r.amount.brand ∷ []) [] → brands_in (cond b (share_data x ∷ filter p (shares_data (xs ++ r ∷ []))) (filter p (shares_data (xs ++ r ∷ [])))) ≡ brands_in (cond b (share_data x ∷ filter p (shares_data xs)) (filter p (shares_data xs))) ++ cond (p (share_data r)) (r.amount.brand ∷ []) []
      by true rest = ap (λ l. x.amount.brand ∷ l) rest
      by false rest = rest

  pub next_failing : (shares : List GivenShare) (i : ℕ) (r : GivenShare) (b : Bool) → i < length shares → r ≡ get_or shares i r → b ≡ p (share_data r) → failing (take (i + 1) shares) ≡ failing (take i shares) ++ cond b (r.amount.brand ∷ []) []
  next_failing shares i r b lt is at =
      ap failing (next_item shares i r lt is) ∙ appended (take i shares) r ∙ ap (λ c. failing (take i shares) ++ cond c (r.amount.brand ∷ []) []) (sym at)
