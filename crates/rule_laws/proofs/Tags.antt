-- What shares that transfers ask for are told by: the seat, the keyword and the brand. Tests over them say that each fits
-- its slot, and that two of one seat and keyword are of one brand.
use Rattle.std.specs.Prelude.{not, flat_map, map, ◌==◌, ◌&&◌}
use Rattle.std.specs.List.{AllByRecursion, list_any}
use Rattle.std.specs.Str.{bytes_eq}
use Rattle.std.proofs.Common.{◌≡◌, ℕ, Bool, true, false, cond, List, [], ◌∷◌, ◌++◌, Option, Some, None, refl, sym, ap, ◌∙◌}
use Rattle.std.proofs.lemmas.Bool.{eq-eqb, eqb-true, false≢true}
use Rattle.std.proofs.lemmas.Slice.Eq.{bytes_eq-Decides}
use Rattle.rules.specs.call_arguments.Numbers.{least, least_of}
use Rattle.world_laws.specs.host_text.Words.{is_keyword}
use Rattle.rules.specs.proposals.declared.allocations.Share.{Share}
use Rattle.rules.specs.proposals.declared.plans.Transfer.{Transfer}
use Rattle.rules.specs.rearrange.Transfers.{gains_of, losses_of}
use Rattle.rules.specs.Given.{is_misfit, is_other, issuers_of}
use Rattle.rules.specs.Rearranging.{SeatShare, is_against, is_wrong, wrong_brands}
use Rattle.world_laws.specs.world_state.Worlds.{State}
use Rattle.rules.specs.States.{allocation_of}
use Rattle.rule_laws.proofs.GivenShares.{OfBrand, neither, of_slot}

pub record Tag : Type 0 where
  pub seat : ℕ
  pub keyword : List ℕ
  pub brand : ℕ

abbrev pub tag : ℕ → List ℕ → ℕ → Tag
tag seat keyword brand = record { seat = seat; keyword = keyword; brand = brand }

abbrev pub data_tag : SeatShare → Tag
data_tag s = tag s.seat s.share.keyword s.share.amount.brand

abbrev pub share_tag : ℕ → Share → Tag
share_tag seat r = tag seat r.keyword r.amount.brand

abbrev pub tags_at : Option ℕ → List Share → List Tag
tags_at None shares = []
tags_at (Some seat) shares = map (share_tag seat) shares

abbrev pub tags_of : Transfer → List Tag
tags_of t = tags_at t.from (losses_of t) ++ tags_at t.to (gains_of t)

abbrev pub all_tags : List Transfer → List Tag
all_tags list = flat_map tags_of list

-- ---- what they have

-- a keyword, and the brand of the slot
pub record IsRight (w : State) (t : Tag) : Type 0 where
  pub named : is_keyword t.keyword ≡ true
  pub of_slot : OfBrand (allocation_of w t.seat) t.keyword t.brand

abbrev pub Agree : Tag → Tag → Type 0
Agree a b = a.seat ≡ b.seat → a.keyword ≡ b.keyword → a.brand ≡ b.brand

abbrev pub AreAgreed : List Tag → Type 0
AreAgreed [] = Unit {0}
AreAgreed (t ∷ ts) = AllByRecursion (Agree t) ts × AreAgreed ts

-- ---- lists in two parts

module _ {A : Type 0} (P : A → Type 0) where
  pub all_first : (xs ys : List A) → AllByRecursion P (xs ++ ys) → AllByRecursion P xs
  all_first [] ys all = tt
  all_first (x ∷ xs) ys all = (all.0, all_first xs ys all.1)

  pub all_second : (xs ys : List A) → AllByRecursion P (xs ++ ys) → AllByRecursion P ys
  all_second [] ys all = all
  all_second (x ∷ xs) ys all = all_second xs ys all.1

pub all_from : {A B : Type 0} (f : A → B) (P : B → Type 0) (xs : List A) → AllByRecursion P (map f xs) → AllByRecursion (λ x. P (f x)) xs
all_from f P [] all = tt
all_from f P (x ∷ xs) all = (all.0, all_from f P xs all.1)

pub agreed_second : (xs ys : List Tag) → AreAgreed (xs ++ ys) → AreAgreed ys
agreed_second [] ys agreed = agreed
agreed_second (x ∷ xs) ys agreed = agreed_second xs ys agreed.1

-- each of those behind agrees with each of those before
all_unit : (ys : List Tag) → AllByRecursion (λ (y : Tag). Unit {0}) ys
all_unit [] = tt
all_unit (y ∷ ys) = (tt, all_unit ys)

joined : (x : Tag) (xs ys : List Tag) → AllByRecursion (Agree x) ys → AllByRecursion (λ y. AllByRecursion (λ a. Agree a y) xs) ys → AllByRecursion (λ y. AllByRecursion (λ a. Agree a y) (x ∷ xs)) ys
joined x xs [] one rest = tt
joined x xs (y ∷ ys) one rest = ((one.0, rest.0), joined x xs ys one.1 rest.1)

pub agreed_across : (xs ys : List Tag) → AreAgreed (xs ++ ys) → AllByRecursion (λ y. AllByRecursion (λ x. Agree x y) xs) ys
agreed_across [] ys agreed = all_unit ys
agreed_across (x ∷ xs) ys agreed = joined x xs ys (all_second (Agree x) xs ys agreed.0) (agreed_across xs ys agreed.1)

-- ---- tests over shares that are asked for

not_some : (n : ℕ) (o : Option ℕ) → least_of (Some n) o ≡ None → ⊥
not_some n None is = cc
not_some n (Some m) is = cc

none_of_any : (test : SeatShare → Bool) (xs : List SeatShare) → list_any test xs ≡ false → AllByRecursion (λ x. test x ≡ false) xs
none_of_any test [] is = tt
none_of_any test (x ∷ xs) is = let both = neither (test x) (list_any test xs) is in (both.0, none_of_any test xs both.1)

agree_unless : (s later : SeatShare) → is_against later s ≡ false → Agree (data_tag s) (data_tag later)
agree_unless s later is same_seat same_keyword =
    eqb-true s.share.amount.brand later.share.amount.brand (by (s.share.amount.brand == later.share.amount.brand) at)
  where
    at : not (s.share.amount.brand == later.share.amount.brand) ≡ false
    at =
        sym (ap (λ b. (b && bytes_eq s.share.keyword later.share.keyword) && not (s.share.amount.brand == later.share.amount.brand)) (eq-eqb s.seat later.seat same_seat)
        ∙ ap (λ b. b && not (s.share.amount.brand == later.share.amount.brand)) ((bytes_eq-Decides s.share.keyword later.share.keyword).1 same_keyword))
        ∙ is

    by : (b : Bool) → not b ≡ false → b ≡ true
    by true e = refl
    by false e = absurd (false≢true (sym e))

abbrev Fits : State → SeatShare → Type 0
Fits w s = OfBrand (allocation_of w s.seat) s.share.keyword s.share.amount.brand

abbrev AreBeside : List SeatShare → List SeatShare → Type 0
AreBeside before ss = AllByRecursion (λ (s : SeatShare). AllByRecursion (λ (b : SeatShare). is_against s b ≡ false) before) ss

record AreClean (w : State) (before ss : List SeatShare) : Type 0 where
  fits : AllByRecursion (Fits w) ss
  beside : AreBeside before ss
  agreed : AreAgreed (map data_tag ss)

firsts : (before : List SeatShare) (s : SeatShare) (ss : List SeatShare) → AreBeside (before ++ s ∷ []) ss → AreBeside before ss
firsts before s [] all = tt
firsts before s (x ∷ xs) all = (all_first (λ (b : SeatShare). is_against x b ≡ false) before (s ∷ []) all.0, firsts before s xs all.1)

lasts : (before : List SeatShare) (s : SeatShare) (ss : List SeatShare) → AreBeside (before ++ s ∷ []) ss → AllByRecursion (Agree (data_tag s)) (map data_tag ss)
lasts before s [] all = tt
lasts before s (x ∷ xs) all = (agree_unless s x (all_second (λ (b : SeatShare). is_against x b ≡ false) before (s ∷ []) all.0).0, lasts before s xs all.1)

clean_where : (w : State) (i : ℕ) (before ss : List SeatShare) → least (wrong_brands w i before ss) ≡ None → AreClean w before ss
clean_where w i before [] is = record { fits = tt; beside = tt; agreed = tt }
clean_where w i before (s ∷ ss) is = by (is_wrong w i before s) refl (clean_where w i (before ++ s ∷ []) ss) is
  where
    others : List ℕ
    others = wrong_brands w i (before ++ s ∷ []) ss

    by : (b : Bool) → is_wrong w i before s ≡ b → (least others ≡ None → AreClean w (before ++ s ∷ []) ss) → least (cond b (s.share.amount.brand ∷ others) others) ≡ None → AreClean w before (s ∷ ss)
    by true e later at = absurd (not_some s.share.amount.brand (least others) at)
    by false e later at =
        let rest = later at in
        let both = neither (is_misfit (issuers_of w i) (allocation_of w s.seat) s.share) (list_any (is_against s) before) e in
        let fit = neither _ (is_other (allocation_of w s.seat) s.share) both.0 in
        record {
          fits = (of_slot (allocation_of w s.seat) s.share fit.1, rest.fits);
          beside = (none_of_any (is_against s) before both.1, firsts before s ss rest.beside);
          agreed = (lasts before s ss rest.beside, rest.agreed);
        }

abbrev IsNamed : SeatShare → Type 0
IsNamed s = is_keyword s.share.keyword ≡ true

right_each : (w : State) (ss : List SeatShare) → AllByRecursion IsNamed ss → AllByRecursion (Fits w) ss → AllByRecursion (IsRight w) (map data_tag ss)
right_each w [] named fits = tt
right_each w (s ∷ ss) named fits = (record { named = named.0; of_slot = fits.0 }, right_each w ss named.1 fits.1)

pub shares_right : (w : State) (i : ℕ) (ss : List SeatShare) → AllByRecursion (λ (s : SeatShare). is_keyword s.share.keyword ≡ true) ss → least (wrong_brands w i [] ss) ≡ None → AllByRecursion (IsRight w) (map data_tag ss)
shares_right w i ss named none = right_each w ss named (clean_where w i [] ss none).fits

pub shares_agreed : (w : State) (i : ℕ) (ss : List SeatShare) → least (wrong_brands w i [] ss) ≡ None → AreAgreed (map data_tag ss)
shares_agreed w i ss none = (clean_where w i [] ss none).agreed
