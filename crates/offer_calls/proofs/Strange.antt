-- The least brand of shares that an issuer record hasn't, share by share.
use Rattle.std.specs.Prelude.{All, IsNone, filter, not}
use Rattle.std.proofs.Common.{◌≡◌, ℕ, ◌+◌, ◌<◌, ◌^◌, Bool, true, false, cond, List, ◌∷◌, length, drop, take, map, get_or, Option, Some, None, refl, sym, ap, subst, ◌∙◌}
use Rattle.std.proofs.lemmas.List.{drop_more}
use Rattle.std.proofs.lemmas.List.Elements.{All-more}
use Rattle.rules.specs.brands.declared.issuer_record.Issuer.{Issuer}
use Rattle.call_arguments.proofs.ArgumentLists.{least_of_three}
use Rattle.call_arguments.specs.Numbers.{least, least_of}
use Rattle.call_arguments.specs.Records.{ShareData, share_data, shares_data}
use Rattle.call_arguments.specs.declared.records.GivenShare.{GivenShare}
use Rattle.rules.specs.Proposals.{is_known, least_strange}

-- the brand of a share, where it is strange
abbrev strange_in : List Issuer → ShareData → Option ℕ
strange_in issuers r = cond (is_known issuers r.amount.brand) None (Some r.amount.brand)

one_more : (issuers : List Issuer) (r : ShareData) (rs : List ShareData) → least_strange issuers (r ∷ rs) ≡ least_of (strange_in issuers r) (least_strange issuers rs)
unfolding least_strange
one_more issuers r rs = by (is_known issuers r.amount.brand) (filter (λ b. not (is_known issuers b)) (map (λ (x : ShareData). x.amount.brand) rs))
  where
    by : (b : Bool) (fs : List ℕ) → least (cond (not b) (r.amount.brand ∷ fs) fs) ≡ least_of (cond b None (Some r.amount.brand)) (least fs)
    by true fs = refl
    by false fs = refl

module _ (issuers : List Issuer) (shares : List GivenShare) (i : ℕ) (x : GivenShare) (within : i < length shares) (at : x ≡ get_or shares i x) where
  abbrev rest : ℕ → Option ℕ
  rest n = least_strange issuers (shares_data (drop n shares))

  here : rest i ≡ least_of (strange_in issuers (share_data x)) (rest (i + 1))
  here =
      ap (λ (rs : List GivenShare). least_strange issuers (shares_data rs)) (drop_more shares i x within ∙ ap (λ y. y ∷ drop (i + 1) shares) (sym at))
      ∙ one_more issuers (share_data x) (shares_data (drop (i + 1) shares))

  pub strange_more : (so_far : Option ℕ) (all : Option ℕ) → is_known issuers x.amount.brand ≡ false → least_of so_far (rest i) ≡ all → least_of (least_of so_far (Some x.amount.brand)) (rest (i + 1)) ≡ all
  strange_more so_far all strange before =
      sym (least_of_three so_far (Some x.amount.brand) (rest (i + 1)))
      ∙ ap (least_of so_far) (sym (here ∙ ap (λ b. least_of (cond b None (Some x.amount.brand)) (rest (i + 1))) strange))
      ∙ before

  pub known_more : (so_far : Option ℕ) (all : Option ℕ) → is_known issuers x.amount.brand ≡ true → least_of so_far (rest i) ≡ all → least_of so_far (rest (i + 1)) ≡ all
  known_more so_far all known before =
      ap (least_of so_far) (sym (here ∙ ap (λ b. least_of (cond b None (Some x.amount.brand)) (rest (i + 1))) known)) ∙ before

  pub small_more : All (λ r. r.amount.brand < 2 ^ 16) (take i shares) → x.amount.brand < 2 ^ 16 → All (λ r. r.amount.brand < 2 ^ 16) (take (i + 1) shares)
  small_more all small = All-more (λ (r : GivenShare). r.amount.brand < 2 ^ 16) shares i x within all (subst (λ (r : GivenShare). r.amount.brand < 2 ^ 16) at small)

pub none_then : (so_far : Option ℕ) (n : ℕ) → IsNone (least_of so_far (Some n)) → ⊥
none_then None n is = cc
none_then (Some m) n is = cc
