-- What is put into rows and payouts is put into their JSON.
use Rattle.std.proofs.Common.{◌≡◌, List, [], ◌∷◌, Ordering, Less, Equal, Greater, refl, ap}
use Rattle.std.specs.Ordering.{match_ordering, nat_cmp}
use Rattle.std.specs.Cmp.Lexicographic.{slice_cmp}
use Rattle.serde_json.specs.Data as json
use Rattle.turn_rows.specs.Order.{PutsPayout, PutsAmount, put_payout, put_amount}
use Rattle.turn_rows.specs.Rows.{amount_json, amounts_json, payment_name, payouts_json}
use Rattle.turn_rows.specs.Turns.{Payout, KeywordAmount}

amount_by : (o : Ordering) (r u : KeywordAmount) (us : List KeywordAmount) → amounts_json (put_amount r us) ≡ json.put r.keyword (amount_json r.brand r.value) (amounts_json us)
    → amounts_json (match_ordering o (r ∷ u ∷ us) (record r { keyword = u.keyword } ∷ us) (u ∷ put_amount r us))
    ≡ match_ordering o (json.member r.keyword (amount_json r.brand r.value) (amounts_json (u ∷ us))) (json.member u.keyword (amount_json r.brand r.value) (amounts_json us)) (json.member u.keyword (amount_json u.brand u.value) (json.put r.keyword (amount_json r.brand r.value) (amounts_json us)))
amount_by Less r u us more = refl
amount_by Equal r u us more = refl
amount_by Greater r u us more = ap (json.member u.keyword (amount_json u.brand u.value)) more

pub puts_amount : PutsAmount
puts_amount r [] = refl
puts_amount r (u ∷ us) = amount_by (slice_cmp nat_cmp r.keyword u.keyword) r u us (puts_amount r us)

payout_by : (o : Ordering) (p u : Payout) (us : List Payout) → payouts_json (put_payout p us) ≡ json.put p.keyword (json.string (payment_name p.payment)) (payouts_json us)
    → payouts_json (match_ordering o (p ∷ u ∷ us) (record p { keyword = u.keyword } ∷ us) (u ∷ put_payout p us))
    ≡ match_ordering o (json.member p.keyword (json.string (payment_name p.payment)) (payouts_json (u ∷ us))) (json.member u.keyword (json.string (payment_name p.payment)) (payouts_json us)) (json.member u.keyword (json.string (payment_name u.payment)) (json.put p.keyword (json.string (payment_name p.payment)) (payouts_json us)))
payout_by Less p u us more = refl
payout_by Equal p u us more = refl
payout_by Greater p u us more = ap (json.member u.keyword (json.string (payment_name u.payment))) more

pub puts_payout : PutsPayout
puts_payout p [] = refl
puts_payout p (u ∷ us) = payout_by (slice_cmp nat_cmp p.keyword u.keyword) p u us (puts_payout p us)
