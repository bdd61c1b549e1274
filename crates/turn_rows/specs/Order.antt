-- Rows and payouts as a map of JSON keeps them: in byte order of their keywords, the later of two in the place of the earlier.
use Rattle.std.specs.Prelude.{◌≡◌, List, [], ◌∷◌}
use Rattle.std.specs.Ordering.{match_ordering, nat_cmp}
use Rattle.std.specs.Cmp.Lexicographic.{slice_cmp}
use Rattle.serde_json.specs.Data as json
use Rattle.turn_rows.specs.Rows.{amount_json, amounts_json, payment_name, payouts_json}
use Rattle.turn_rows.specs.Turns.{Payout, KeywordAmount}

abbrev pub put_amount : KeywordAmount → List KeywordAmount → List KeywordAmount
put_amount r [] = r ∷ []
put_amount r (u ∷ us) = match_ordering (slice_cmp nat_cmp r.keyword u.keyword) (r ∷ u ∷ us) (record r { keyword = u.keyword } ∷ us) (u ∷ put_amount r us)

abbrev pub put_payout : Payout → List Payout → List Payout
put_payout p [] = p ∷ []
put_payout p (u ∷ us) = match_ordering (slice_cmp nat_cmp p.keyword u.keyword) (p ∷ u ∷ us) (record p { keyword = u.keyword } ∷ us) (u ∷ put_payout p us)

-- what is put into the rows is put into their JSON
abbrev pub PutsAmount : Type 0
PutsAmount = (r : KeywordAmount) (rs : List KeywordAmount) → amounts_json (put_amount r rs) ≡ json.put r.keyword (amount_json r.brand r.value) (amounts_json rs)

abbrev pub PutsPayout : Type 0
PutsPayout = (p : Payout) (ps : List Payout) → payouts_json (put_payout p ps) ≡ json.put p.keyword (json.string (payment_name p.payment)) (payouts_json ps)
