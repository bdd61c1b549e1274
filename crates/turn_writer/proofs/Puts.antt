-- A map of JSON that is filled from the last share on has the shares in byte order of their keywords.
use Rattle.std.proofs.Common.{◌≡◌, ◌<◌, ◌≤◌, ◌-◌, ◌+◌, ℕ, List, ◌∷◌, drop, length, get_or, sym, ap, ◌∙◌, arith}
use Rattle.std.proofs.lemmas.List.{drop_more}
use Rattle.serde_json.specs.Data as json
use Rattle.turn_records.specs.Values.{printed_value}
use Rattle.turn_records.specs.proposals.declared.allocations.Share.{Share}
use Rattle.turn_rows.proofs.Order.{puts_amount, puts_payout}
use Rattle.turn_rows.specs.Rows.{amount_json, amounts_json, payment_name, payouts_json}
use Rattle.turn_records.specs.Printed.{printed_payouts, printed_share, printed_shares}
use Rattle.turn_records.specs.Views.{payout_view, payout_views}
use Rattle.turn_records.specs.declared.events.Payout.{Payout}

module _ {A : Type 0} where
  last_of : (xs : List A) (left : ℕ) (x : A) → 0 < left → left ≤ length xs → x ≡ get_or xs (left - 1) x → drop (left - 1) xs ≡ x ∷ drop left xs
  last_of xs left x some within is =
      let same : (left - 1) + 1 ≡ left = omega arith in
      drop_more xs (left - 1) x (omega arith) ∙ ap (λ n. get_or xs (left - 1) x ∷ drop n xs) same ∙ ap (λ y. y ∷ drop left xs) (sym is)

pub amounts_more : (shares : List Share) (left : ℕ) (share : Share) → 0 < left → left ≤ length shares → share ≡ get_or shares (left - 1) share
    → amounts_json (printed_shares (drop (left - 1) shares)) ≡ json.put share.keyword (amount_json share.amount.brand (printed_value share.amount.value)) (amounts_json (printed_shares (drop left shares)))
amounts_more shares left share some within is =
    ap (λ rs. amounts_json (printed_shares rs)) (last_of shares left share some within is) ∙ puts_amount (printed_share share) (printed_shares (drop left shares))

pub payouts_more : (ps : List Payout) (left : ℕ) (p : Payout) → 0 < left → left ≤ length ps → p ≡ get_or ps (left - 1) p
    → payouts_json (printed_payouts (payout_views (drop (left - 1) ps))) ≡ json.put p.keyword (json.string (payment_name p.payment)) (payouts_json (printed_payouts (payout_views (drop left ps))))
payouts_more ps left p some within is =
    ap (λ xs. payouts_json (printed_payouts (payout_views xs))) (last_of ps left p some within is) ∙ puts_payout (payout_view p) (printed_payouts (payout_views (drop left ps)))
