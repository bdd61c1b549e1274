-- Shares of wrong brands, as they are looked for one after another.
use Rattle.std.specs.List.{All}
use Rattle.std.proofs.Common.{◌≡◌, ◌≢◌, ℕ, ◌+◌, ◌<◌, true, false, cond, List, [], ◌∷◌, ◌++◌, Option, Some, None, drop, get_or, length, take, sym, ap, subst, ◌∙◌}
use Rattle.std.proofs.lemmas.List.{drop_more, map-append, take_more}
use Rattle.std.proofs.lemmas.List.Elements.{All-append, All-cons, All-nil}
use Rattle.rules.specs.brands.declared.issuer_record.Issuer.{Issuer}
use Rattle.call_arguments.proofs.ArgumentLists.{least_of_three}
use Rattle.call_arguments.specs.Numbers.{least, least_of}
use Rattle.call_arguments.specs.proposals.declared.allocations.Share.{Share}
use Rattle.share_transfers.specs.Brands.{HasBrand, is_wrong_at, wrong_at}
use Rattle.share_transfers.specs.Views.{seat_share, seat_shares}
use Rattle.share_transfers.specs.declared.shares.GivenSeatShare.{GivenSeatShare}

not_some : (n : ℕ) (o : Option ℕ) → least_of (Some n) o ≢ None
not_some n None is = cc
not_some n (Some m) is = cc

module _ (shares : List GivenSeatShare) (i : ℕ) (r : GivenSeatShare) (lt : i < length shares) (is : r ≡ get_or shares i r) where
  taken : take (i + 1) shares ≡ take i shares ++ r ∷ []
  taken = take_more shares i r lt ∙ ap (λ x. take i shares ++ x ∷ []) (sym is)

  pub seen_next : seat_shares (take i shares) ++ seat_share r ∷ [] ≡ seat_shares (take (i + 1) shares)
  seen_next = sym (ap seat_shares taken ∙ map-append seat_share (take i shares) (r ∷ []))

  pub brands_more : All HasBrand (take i shares) → HasBrand r → All HasBrand (take (i + 1) shares)
  brands_more all here = subst (All HasBrand) (sym taken) (All-append HasBrand (take i shares) (r ∷ []) all (All-cons HasBrand r [] here (All-nil HasBrand)))

  module _ (issuers : List Issuer) (had : ℕ → List Share) where
    abbrev rest : List ℕ
    rest = wrong_at issuers had (seat_shares (take (i + 1) shares)) (seat_shares (drop (i + 1) shares))

    abbrev here : List ℕ
    here = wrong_at issuers had (seat_shares (take i shares)) (seat_shares (drop i shares))

    step : here ≡ cond (is_wrong_at issuers had (seat_shares (take i shares)) (seat_share r)) (r.share.amount.brand ∷ rest) rest
    step =
        let next : drop i shares ≡ r ∷ drop (i + 1) shares = drop_more shares i r lt ∙ ap (λ x. x ∷ drop (i + 1) shares) (sym is) in
        ap (λ xs. wrong_at issuers had (seat_shares (take i shares)) (seat_shares xs)) next
        ∙ ap (λ before. cond (is_wrong_at issuers had (seat_shares (take i shares)) (seat_share r)) (r.share.amount.brand ∷ wrong_at issuers had before (seat_shares (drop (i + 1) shares))) (wrong_at issuers had before (seat_shares (drop (i + 1) shares)))) seen_next

    pub wrong_more : (o now : Option ℕ) → now ≡ least_of o (Some r.share.amount.brand) → true ≡ is_wrong_at issuers had (seat_shares (take i shares)) (seat_share r) → least_of now (least rest) ≡ least_of o (least here)
    wrong_more o now at wrong =
        ap (λ p. least_of p (least rest)) at
        ∙ sym (least_of_three o (Some r.share.amount.brand) (least rest))
        ∙ ap (λ ns. least_of o (least ns)) (sym (step ∙ ap (λ b. cond b (r.share.amount.brand ∷ rest) rest) (sym wrong)))

    pub right_more : (o now : Option ℕ) → now ≡ o → false ≡ is_wrong_at issuers had (seat_shares (take i shares)) (seat_share r) → least_of now (least rest) ≡ least_of o (least here)
    right_more o now at right =
        ap (λ p. least_of p (least rest)) at
        ∙ ap (λ ns. least_of o (least ns)) (sym (step ∙ ap (λ b. cond b (r.share.amount.brand ∷ rest) rest) (sym right)))

pub found : (o : Option ℕ) (n : ℕ) → least_of o (Some n) ≢ None
found None n is = cc
found (Some m) n is = cc
