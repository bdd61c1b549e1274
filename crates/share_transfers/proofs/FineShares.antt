-- Shares that passed their tests may have their values read; and a seat stands with each record that is asked for.
use Rattle.std.specs.Prelude.{IfSome, IsSome, find, flat_map, map, not, option_and_then, option_map, unwrap_or, ◌^◌}
use Rattle.std.specs.Global.{Vec}
use Rattle.std.specs.List.{All, AllByRecursion}
use Rattle.std.proofs.Common.{◌≡◌, ℕ, ◌<◌, Bool, true, false, List, [], ◌∷◌, ◌++◌, Option, Some, None, refl, ap, subst, ◌∙◌, if◌then◌else◌}
use Rattle.std.proofs.lemmas.List.Elements.{All-from_recursion, recursion_from_All}
use Rattle.call_arguments.specs.Arguments.{object_in}
use Rattle.host_data.specs.Amounts.{read_all}
use Rattle.refusals.specs.host_text.Words.{is_keyword}
use Rattle.host_data.specs.Tree.{Tree, is_null}
use Rattle.host_data.specs.declared.data.ObjKind.TheVariants as kinds
use Rattle.call_arguments.specs.Records.{ShareData, first_ill, keywords, shares_data}
use Rattle.call_arguments.specs.declared.records.GivenShare.{GivenShare}
use Rattle.contract_reads.specs.Brands.{HasSmallBrand}
use Rattle.rules.specs.Rearranging.{Asked, Parts, SeatShare, asked, asked_in, gains_of, losses_of, share_for, shares_asked, shares_for, shares_of, shares_or_none}
use Rattle.share_transfers.specs.Brands.{HasBrand}
use Rattle.share_transfers.specs.Fine.{AreFine, IsFine}
use Rattle.share_transfers.specs.Reading.{HasSeats, IsSeated}
use Rattle.share_transfers.specs.Views.{asked_view, asked_views, keywords_of, shares_view, seat_shares}
use Rattle.share_transfers.specs.declared.shares.GivenSeatShare.{GivenSeatShare}
use Rattle.share_transfers.specs.declared.shares.GivenTransfer.{GivenTransfer}

-- ---- shares that passed

abbrev IsFineShare : SeatShare → Type 0
IsFineShare s = (is_keyword s.share.keyword ≡ true) × (s.share.amount.brand < 2 ^ 16)

passed : (gs : List GivenSeatShare) → first_ill (keywords_of (seat_shares gs)) ≡ None → AllByRecursion HasBrand gs → AllByRecursion IsFineShare (seat_shares gs)
unfolding first_ill
passed [] none all = tt
passed (g ∷ gs) none all = by (is_keyword g.share.keyword.now) refl none (λ rest. passed gs rest all.1)
  where
    by : (b : Bool) → is_keyword g.share.keyword.now ≡ b → (if not b then Some g.share.keyword.now else find (λ k. not (is_keyword k)) (keywords_of (seat_shares gs))) ≡ None → (first_ill (keywords_of (seat_shares gs)) ≡ None → AllByRecursion IsFineShare (seat_shares gs)) → AllByRecursion IsFineShare (seat_shares (g ∷ gs))
    by true is rest later = ((is, all.0), later rest)
    by false is rest later = absurd (cc)

all_first : (P : SeatShare → Type 0) (xs ys : List SeatShare) → AllByRecursion P (xs ++ ys) → AllByRecursion P xs
all_first P [] ys all = tt
all_first P (x ∷ xs) ys all = (all.0, all_first P xs ys all.1)

all_second : (P : SeatShare → Type 0) (xs ys : List SeatShare) → AllByRecursion P (xs ++ ys) → AllByRecursion P ys
all_second P [] ys all = all
all_second P (x ∷ xs) ys all = all_second P xs ys all.1

none_ill : (n : ℕ) (shares : List GivenShare) → AllByRecursion IsFineShare (map (share_for n) (shares_data shares)) → first_ill (keywords (shares_data shares)) ≡ None
unfolding first_ill
none_ill n [] all = refl
none_ill n (r ∷ rs) all = ap (λ b. if not b then Some r.keyword.now else find (λ k. not (is_keyword k)) (keywords (shares_data rs))) all.0.0 ∙ none_ill n rs all.1

each_small : (n : ℕ) (shares : List GivenShare) → AllByRecursion IsFineShare (map (share_for n) (shares_data shares)) → AllByRecursion HasSmallBrand shares
each_small n [] all = tt
each_small n (r ∷ rs) all = (all.0.1, each_small n rs all.1)

shares_fine : (n : ℕ) (shares : List GivenShare) → AllByRecursion IsFineShare (map (share_for n) (shares_data shares)) → AreFine shares
shares_fine n shares all = record { named = none_ill n shares all; small = All-from_recursion HasSmallBrand shares (each_small n shares all) }

fine_at : (seat : Option ℕ) (o : Option (Vec GivenShare)) (d : List ShareData) → IfSome (shares_view o) (λ _. IsSome seat) → AllByRecursion IsFineShare (shares_for seat (unwrap_or (shares_view o) d)) → IfSome o (λ shares. AreFine shares.items)
fine_at seat None d has all = tt
fine_at None (Some v) d has all = absurd (cc)
fine_at (Some n) (Some v) d has all = shares_fine n v.items all

transfer_fine : (t : GivenTransfer) → HasSeats (asked_view t) → AllByRecursion IsFineShare (shares_asked (asked_view t)) → IsFine t
transfer_fine t has all =
    let a = asked_view t in
    let taken = shares_for a.from (losses_of a) in
    let given = shares_for a.to (gains_of a) in
    record {
      losses = fine_at t.from t.losses [] has.from (all_first IsFineShare taken given all);
      gains = fine_at t.to t.gains (losses_of a) has.to (all_second IsFineShare taken given all);
    }

transfers_fine : (read : List GivenTransfer) → AllByRecursion HasSeats (asked_views read) → AllByRecursion IsFineShare (flat_map shares_asked (asked_views read)) → AllByRecursion IsFine read
transfers_fine [] has all = tt
transfers_fine (t ∷ ts) has all =
    let one = shares_asked (asked_view t) in
    let rest = flat_map shares_asked (asked_views ts) in
    (transfer_fine t has.0 (all_first IsFineShare one rest all), transfers_fine ts has.1 (all_second IsFineShare one rest all))

pub all_fine : (read : List GivenTransfer) (gs : List GivenSeatShare) → AllByRecursion HasSeats (asked_views read) → seat_shares gs ≡ flat_map shares_asked (asked_views read) → first_ill (keywords_of (seat_shares gs)) ≡ None → All HasBrand gs → All IsFine read
all_fine read gs has are none small =
    All-from_recursion IsFine read
    (transfers_fine read has (subst (AllByRecursion IsFineShare) are (passed gs none (recursion_from_All HasBrand gs small))))

-- ---- seats that stand with records

seat_with : (t : Tree) (seat : Option ℕ) → (is_null t ≡ false → IsSome seat) → (o : Option (List ShareData)) → shares_or_none t ≡ Some o → IfSome o (λ _. IsSome seat)
seat_with t seat has None is = tt
seat_with t seat has (Some shares) is = by (is_null t) refl is
  where
    by : (b : Bool) → is_null t ≡ b → (if b then Some None else option_map Some (shares_of t)) ≡ Some (Some shares) → IsSome seat
    by true e at = absurd (cc)
    by false e at = has e

asked_seats : (p : Parts) → IsSeated p → (a : Asked) → asked_in p ≡ Some a → HasSeats a
asked_seats p seated a is = by (shares_or_none p.from_amounts) (shares_or_none p.to_amounts) refl refl is
  where
    by : (l g : Option (Option (List ShareData))) → shares_or_none p.from_amounts ≡ l → shares_or_none p.to_amounts ≡ g → option_and_then (λ losses. option_map (asked p losses) g) l ≡ Some a → HasSeats a
    by None g at_l at_g e = absurd (cc)
    by (Some losses) None at_l at_g e = absurd (cc)
    by (Some losses) (Some gains) at_l at_g e =
        let same : asked p losses gains ≡ a = cc in
        subst HasSeats same (record {
          from = seat_with p.from_amounts (object_in kinds.Zseat p.from) seated.from losses at_l;
          to = seat_with p.to_amounts (object_in kinds.Zseat p.to) seated.to gains at_g;
        })

pub seats_asked : (list : List Parts) (read : List Asked) → AllByRecursion IsSeated list → read_all asked_in list ≡ Some read → AllByRecursion HasSeats read
seats_asked [] read seated is = let same : [] ≡ read = cc in subst (AllByRecursion HasSeats) same tt
seats_asked (p ∷ ps) read seated is = by (asked_in p) (read_all asked_in ps) refl (seats_asked ps) refl is
  where
    by : (o : Option Asked) (os : Option (List Asked)) → asked_in p ≡ o → ((rest : List Asked) → AllByRecursion IsSeated ps → read_all asked_in ps ≡ Some rest → AllByRecursion HasSeats rest) → read_all asked_in ps ≡ os → option_and_then (λ y. option_map (λ ys. y ∷ ys) os) o ≡ Some read → AllByRecursion HasSeats read
    by None os at_o later at_os e = absurd (cc)
    by (Some a) None at_o later at_os e = absurd (cc)
    by (Some a) (Some rest) at_o later at_os e =
        let same : a ∷ rest ≡ read = cc in
        subst (AllByRecursion HasSeats) same (asked_seats p seated.0 a at_o, later rest seated.1 at_os)
