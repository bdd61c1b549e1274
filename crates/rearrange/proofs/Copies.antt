-- What seats have on the working copy once shares are put down.
use Rattle.std.proofs.Common.{◌≡◌, ℕ, suc, ◌<◌, ◌==◌, List, [], ◌∷◌, ◌++◌, length, get_or, set, take, drop, All, Bool, true, false, cond, Option, Some, None, refl, sym, ap, ◌∙◌, subst, arith}
use Rattle.std.proofs.Math.Path.{fun_ext}
use Rattle.std.proofs.Math.Seq.{drop-cons}
use Rattle.std.proofs.lemmas.Bool.Decides.{nat_tests}
use Rattle.std.proofs.lemmas.List.{get_or_default, set_split}
use Rattle.std.proofs.lemmas.List.Elements.{All-cons, All-head, All-nil, All-tail}
use Rattle.std.specs.Global.{Vec}
use Rattle.std.specs.Option.{option_map_or}
use Rattle.proposals.specs.Shares.{AreApart}
use Rattle.proposals.specs.declared.allocations.Share.{Share}
use Rattle.proposals.specs.declared.plans.SeatState.{SeatState}
use Rattle.rearrange.specs.Seats.{allocation_of}
use Rattle.rearrange.specs.Transfers.{with_shares}
use Rattle.rearrange.specs.Working.{entry_of, put_shares, shares_now}
use Rattle.rearrange.specs.declared.sums.SeatShares.{SeatShares}

same_number : (m n : ℕ) → (m == n) ≡ true → m ≡ n
same_number m n e = grind (arith, nat_tests)

turned : (m n : ℕ) → (n == m) ≡ (m == n)
turned m n = grind (arith, nat_tests)

-- ---- what is found

module _ (default : List Share) (n : ℕ) (v : Vec Share) (m : ℕ) where
  module _ (s : SeatShares) (ss : List SeatShares) where
    first : (t : Bool) → option_map_or (λ (x : SeatShares). x.shares.items) (cond t (Some (record { seat = s.seat; shares = v })) (entry_of ss m)) default ≡ cond t v.items (option_map_or (λ (x : SeatShares). x.shares.items) (cond t (Some s) (entry_of ss m)) default)
    first true = refl
    first false = refl

    module _ (ih : option_map_or (λ (x : SeatShares). x.shares.items) (entry_of (put_shares n v ss) m) default ≡ cond (m == n) v.items (option_map_or (λ (x : SeatShares). x.shares.items) (entry_of ss m) default)) where
      later : (s.seat == n) ≡ false → (t : Bool) → (s.seat == m) ≡ t → option_map_or (λ (x : SeatShares). x.shares.items) (cond t (Some s) (entry_of (put_shares n v ss) m)) default ≡ cond (m == n) v.items (option_map_or (λ (x : SeatShares). x.shares.items) (cond t (Some s) (entry_of ss m)) default)
      later e true q =
          let other : (m == n) ≡ false = subst (λ (k : ℕ). (k == n) ≡ false) (same_number s.seat m q) e in
          sym (ap (λ u. cond u v.items s.shares.items) other)
      later e false q = ih

      here : (t : Bool) → (s.seat == n) ≡ t → option_map_or (λ (x : SeatShares). x.shares.items) (entry_of (cond t (record { seat = s.seat; shares = v } ∷ ss) (s ∷ put_shares n v ss)) m) default ≡ cond (m == n) v.items (option_map_or (λ (x : SeatShares). x.shares.items) (entry_of (s ∷ ss) m) default)
      here true e =
          let same : (s.seat == m) ≡ (m == n) = ap (λ k. k == m) (same_number s.seat n e) ∙ turned m n in
          first (s.seat == m) ∙ ap (λ u. cond u v.items (option_map_or (λ (x : SeatShares). x.shares.items) (entry_of (s ∷ ss) m) default)) same
      here false e = later e (s.seat == m) refl

  look-put : (list : List SeatShares) → option_map_or (λ (x : SeatShares). x.shares.items) (entry_of (put_shares n v list) m) default ≡ cond (m == n) v.items (option_map_or (λ (x : SeatShares). x.shares.items) (entry_of list m) default)
  look-put [] = ap (λ t. option_map_or (λ (x : SeatShares). x.shares.items) (cond t (Some (record { seat = n; shares = v })) None) default) (turned m n) ∙ by (m == n)
    where
      by : (t : Bool) → option_map_or (λ (x : SeatShares). x.shares.items) (cond t (Some (record { seat = n; shares = v })) None) default ≡ cond t v.items default
      by true = refl
      by false = refl
  look-put (s ∷ ss) = here s ss (look-put ss) (s.seat == n) refl

-- what seats have once shares are put down at one of them
pub put_on : (states : List SeatState) (list new : List SeatShares) (o : Option ℕ) (n : ℕ) (v : Vec Share) (F : ℕ → List Share) → o ≡ Some n → v.items ≡ F n → new ≡ put_shares n v list → shares_now states new ≡ with_shares o F (shares_now states list)
put_on states list new o n v F o_is v_is is =
    let each : (m : ℕ) → shares_now states new m ≡ with_shares (Some n) F (shares_now states list) m =
    λ m. ap (λ l. shares_now states l m) is ∙ look-put (allocation_of states m) n v m list ∙ ap (λ shares. cond (m == n) shares (shares_now states list m)) v_is
    in
    fun_ext each ∙ ap (λ p. with_shares p F (shares_now states list)) (sym o_is)

pub apart_put : (n : ℕ) (v : Vec Share) (list : List SeatShares) → AreApart v.items → All (λ (s : SeatShares). AreApart s.shares.items) list → All (λ (s : SeatShares). AreApart s.shares.items) (put_shares n v list)
apart_put n v [] apart all = All-cons (λ (s : SeatShares). AreApart s.shares.items) (record { seat = n; shares = v }) [] apart (All-nil (λ (s : SeatShares). AreApart s.shares.items))
apart_put n v (s ∷ ss) apart all = elim (s.seat == n) as (λ t. All (λ (x : SeatShares). AreApart x.shares.items) (cond t (record { seat = s.seat; shares = v } ∷ ss) (s ∷ put_shares n v ss))) [
  | true ↦ All-cons (λ (x : SeatShares). AreApart x.shares.items) (record { seat = s.seat; shares = v }) ss apart (All-tail (λ (x : SeatShares). AreApart x.shares.items) s ss all)
  | false ↦ All-cons (λ (x : SeatShares). AreApart x.shares.items) s (put_shares n v ss) (All-head (λ (x : SeatShares). AreApart x.shares.items) s ss all) (apart_put n v ss apart (All-tail (λ (x : SeatShares). AreApart x.shares.items) s ss all))
]

-- ---- where something was put down

pub put_found : (list : List SeatShares) (seat at : ℕ) (o : SeatShares) (v : Vec Share) (d : SeatShares) → at < length list → o ≡ get_or list at o → (o.seat == seat) ≡ true → put_shares seat v list ≡ take at list ++ put_shares seat v (drop at list) → put_shares seat v list ≡ set list at (record { seat = (get_or list at d).seat; shares = v })
put_found list seat at o v d lt is same parted =
    let left : drop at list ≡ o ∷ drop (suc at) list = drop-cons list at o lt ∙ ap (λ x. x ∷ drop (suc at) list) (sym is) in
    let new : SeatShares = record { seat = o.seat; shares = v } in
    let put : put_shares seat v (drop at list) ≡ new ∷ drop (suc at) list = ap (put_shares seat v) left ∙ ap (λ t. cond t (new ∷ drop (suc at) list) (o ∷ put_shares seat v (drop (suc at) list))) same in
    let named : new ≡ record { seat = (get_or list at d).seat; shares = v } = ap (λ (x : SeatShares). record { seat = x.seat; shares = v }) (is ∙ get_or_default list at o d lt) in
    parted ∙ ap (λ ss. take at list ++ ss) put ∙ sym (set_split list at new lt) ∙ ap (set list at) named
