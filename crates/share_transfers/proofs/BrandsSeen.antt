-- The brands that were seen say whether a share is against one before it, and go on saying so.
use Rattle.std.proofs.Common.{◌≡◌, ℕ, ◌==◌, ◌&&◌, ◌||◌, not, List, [], ◌∷◌, ◌++◌, Bool, true, false, cond, Option, Some, None, bytes_eq, nat_cmp, refl, sym, ap, ◌∙◌, arith}
use Rattle.std.specs.Borrow.{Bor}
use Rattle.std.specs.BTreeMap.{BTreeMap, UpdatesBy}
use Rattle.std.specs.Cmp.Lexicographic.{bytes_decides, slice_cmp}
use Rattle.std.specs.List.{list_any}
use Rattle.std.specs.Map.{lookup}
use Rattle.std.specs.Ordering.{is_eq, ordering_then}
use Rattle.std.specs.declared.cmp.Ordering.{Ordering}
use Rattle.std.specs.declared.cmp.Ordering.TheVariants.{Equal, Greater, Less}
use Rattle.std.proofs.lemmas.Bool.{and_parts, eqb-true}
use Rattle.std.proofs.lemmas.Bool.Decides.{nat_tests}
use Rattle.std.proofs.lemmas.List.Folds.{list_any-append}
use Rattle.std.proofs.lemmas.Map.Text.{is_eq-slice_cmp}
use Rattle.rules.specs.Rearranging.{SeatShare, is_against}
use Rattle.share_transfers.specs.BrandsSeen.{HaveSeen, brands_at, has_other, is_of_other, with_brand}
use Rattle.share_transfers.specs.declared.brands_seen.Brands.{Brands}
use Rattle.share_transfers.specs.declared.brands_seen.Brands.TheVariants.{One, Several}

-- ---- keys

abbrev pub Key : Type 0
Key = ℕ × Bor (List ℕ)

abbrev pub key_cmp : Key → Key → Ordering
key_cmp x y = ordering_then (nat_cmp x.0 y.0) (slice_cmp nat_cmp x.1.now y.1.now)

abbrev key_of : ℕ → List ℕ → Key
key_of seat keyword = (seat, record { ref_ptr = (0, 0); now = keyword })

is_eq_then : (o p : Ordering) → is_eq (ordering_then o p) ≡ (is_eq o && is_eq p)
is_eq_then Less p = refl
is_eq_then Equal p = refl
is_eq_then Greater p = refl

is_eq_nat : (m n : ℕ) → is_eq (nat_cmp m n) ≡ (m == n)
is_eq_nat m n = grind (arith, nat_tests)

same_key : (x y : Key) → is_eq (key_cmp x y) ≡ (x.0 == y.0 && bytes_eq x.1.now y.1.now)
same_key x y =
    is_eq_then (nat_cmp x.0 y.0) (slice_cmp nat_cmp x.1.now y.1.now)
    ∙ ap (λ b. b && is_eq (slice_cmp nat_cmp x.1.now y.1.now)) (is_eq_nat x.0 y.0)
    ∙ ap (λ b. (x.0 == y.0) && b) (is_eq-slice_cmp x.1.now y.1.now)

-- ---- one brand more

is_one : (m n : ℕ) → (m == n) ≡ true → m ≡ n
is_one m n is = eqb-true m n is

has_more : (o : Option Brands) (more brand : ℕ) → has_other (Some (with_brand o more)) brand ≡ (has_other o brand || not (more == brand))
has_more None more brand = refl
has_more (Some Several) more brand = refl
has_more (Some (One one)) more brand = by (one == more) refl
  where
    twice : (b : Bool) → not b ≡ (not b || not b)
    twice true = refl
    twice false = refl

    apart : (a b : Bool) → (a ≡ true → b ≡ true → ⊥) → true ≡ (not a || not b)
    apart true true never = absurd (never refl refl)
    apart true false never = refl
    apart false b never = refl

    by : (b : Bool) → (one == more) ≡ b → has_other (Some (cond b (One one) Several)) brand ≡ (not (one == brand) || not (more == brand))
    by true is = twice (one == brand) ∙ ap (λ n. not (one == brand) || not (n == brand)) (is_one one more is)
    by false is = apart (one == brand) (more == brand) (λ a b. grind (arith, nat_tests, is, a, b))

-- ---- one share more

module _ (old new : BTreeMap Key Brands) (key : Key) (s : SeatShare) (seat_is : key.0 ≡ s.seat) (keyword_is : key.1.now ≡ s.share.keyword) (puts : UpdatesBy key_cmp (key_cmp key) old new (Some (with_brand (brands_at old s.seat s.share.keyword) s.share.amount.brand))) where
  at : (seat : ℕ) (keyword : List ℕ) → brands_at new seat keyword ≡ cond (s.seat == seat && bytes_eq s.share.keyword keyword) (Some (with_brand (brands_at old s.seat s.share.keyword) s.share.amount.brand)) (brands_at old seat keyword)
  at seat keyword =
      let q = key_of seat keyword in
      puts.0 q
      ∙ ap (λ b. cond b (Some (with_brand (brands_at old s.seat s.share.keyword) s.share.amount.brand)) (brands_at old seat keyword))
      (same_key key q ∙ ap (λ n. (n == seat) && bytes_eq key.1.now keyword) seat_is ∙ ap (λ k. (s.seat == seat) && bytes_eq k keyword) keyword_is)

  pub seen_more : (before : List SeatShare) → HaveSeen old before → HaveSeen new (before ++ s ∷ [])
  seen_more before seen = record {
    each = λ seat keyword brand.
        ap (λ o. has_other o brand) (at seat keyword)
        ∙ by seat keyword brand (s.seat == seat && bytes_eq s.share.keyword keyword) refl
        ∙ sym (list_any-append (is_of_other seat keyword brand) before (s ∷ []));
  }
    where
      or_false : (b : Bool) → b ≡ (b || false)
      or_false true = refl
      or_false false = refl

      by : (seat : ℕ) (keyword : List ℕ) (brand : ℕ) (b : Bool) → (s.seat == seat && bytes_eq s.share.keyword keyword) ≡ b → has_other (cond b (Some (with_brand (brands_at old s.seat s.share.keyword) s.share.amount.brand)) (brands_at old seat keyword)) brand ≡ (list_any (is_of_other seat keyword brand) before || list_any (is_of_other seat keyword brand) (s ∷ []))
      by seat keyword brand true is =
          let both = and_parts (s.seat == seat) _ is in
          let same_seat : s.seat ≡ seat = is_one s.seat seat both.0 in
          let same_keyword : s.share.keyword ≡ keyword = (bytes_decides s.share.keyword keyword).0 both.1 in
          let had : has_other (brands_at old s.seat s.share.keyword) brand ≡ list_any (is_of_other seat keyword brand) before = ap (λ n. has_other (brands_at old n s.share.keyword) brand) same_seat ∙ ap (λ k. has_other (brands_at old seat k) brand) same_keyword ∙ seen.each seat keyword brand in
          has_more (brands_at old s.seat s.share.keyword) s.share.amount.brand brand
          ∙ ap (λ b. b || not (s.share.amount.brand == brand)) had
          ∙ ap (λ b. list_any (is_of_other seat keyword brand) before || b) (or_false (not (s.share.amount.brand == brand)) ∙ ap (λ b. (b && not (s.share.amount.brand == brand)) || false) (sym is))
      by seat keyword brand false is =
          seen.each seat keyword brand
          ∙ or_false (list_any (is_of_other seat keyword brand) before)
          ∙ ap (λ b. list_any (is_of_other seat keyword brand) before || ((b && not (s.share.amount.brand == brand)) || false)) (sym is)

-- ---- what is against

pub against : (seen : BTreeMap Key Brands) (s : SeatShare) (before : List SeatShare) → HaveSeen seen before → has_other (brands_at seen s.seat s.share.keyword) s.share.amount.brand ≡ list_any (is_against s) before
against seen s before is = is.each s.seat s.share.keyword s.share.amount.brand

pub none_seen : (seen : BTreeMap Key Brands) → seen.entries ≡ [] → HaveSeen seen []
none_seen seen is = record {
  each = λ seat keyword brand.
      ap (λ (es : List (Key × Brands)). has_other (lookup (λ k. is_eq (ordering_then (nat_cmp seat k.0) (slice_cmp nat_cmp keyword k.1.now))) es) brand) is;
}
