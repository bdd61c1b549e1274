-- Where the slot of a keyword stands, and what a change of what is stored there leaves.
use Rattle.std.proofs.Common.{◌≡◌, ℕ, zero, suc, ◌<◌, ◌≤◌, List, [], ◌∷◌, ◌++◌, length, get_or, set, take, map, Bool, true, false, cond, Some, None, Option, refl, sym, ◌∙◌, ap, subst, arith}
use Rattle.std.specs.Str.{bytes_eq}
use Rattle.std.specs.Option.{option_map_or}
use Rattle.std.proofs.lemmas.List.{length-map, length-set, length-take, map-append}
use Rattle.std.proofs.lemmas.Slice.Eq.{bytes_eq-Decides}
use Rattle.std.proofs.Math.Seq.{get_or-append_seam, set-append_seam}
use Rattle.ertp_mint.specs.amount_math.Content.{nothing}
use Rattle.ertp_mint.specs.amount_math.declared.Amount.{Amount}
use Rattle.proposals.specs.Shares.{AreApart, AreShares, amount_under, content_under, most_shares, keyed_share}
use Rattle.proposals.specs.Slots.{emptied}
use Rattle.proposals.specs.declared.allocations.Share.{Share}
use Rattle.proposals.proofs.SlotLists.{AreApart-emptied}
use Rattle.proposals.proofs.ShareLists.{AreShares-push, none_under-cons, not_first, not_later}
use Rattle.ertp_mint.specs.Balances.{BalanceView}
use Rattle.seats.specs.Slots.{HasSlot, SlotView, empty_slot, no_slot, place_of, share_in, shares_in, slot_at, slot_of, stored_at, stored_under}

-- ---- other things stored at a place: the keywords stay

pub place-set : (keyword : List ℕ) (slots : List SlotView) (n : ℕ) (d : SlotView) (x : BalanceView) → place_of keyword (set slots n (slot_of (get_or slots n d).keyword x)) ≡ place_of keyword slots
place-set keyword [] n d x = refl
place-set keyword (s ∷ ss) zero d x = refl
place-set keyword (s ∷ ss) (suc n) d x = ap (λ m. cond (bytes_eq keyword s.keyword) 0 (suc m)) (place-set keyword ss n d x)

none_under-set : (keyword : List ℕ) (slots : List SlotView) (n : ℕ) (d : SlotView) (x : BalanceView) → amount_under keyword (shares_in slots) ≡ None → amount_under keyword (shares_in (set slots n (slot_of (get_or slots n d).keyword x))) ≡ None
none_under-set keyword [] n d x h = refl
none_under-set keyword (s ∷ ss) zero d x h = none_under-cons keyword (keyed_share s.keyword x.amount) (shares_in ss) (not_first keyword (share_in s) (shares_in ss) h) (not_later keyword (share_in s) (shares_in ss) h)
none_under-set keyword (s ∷ ss) (suc n) d x h =
    none_under-cons keyword (share_in s) (shares_in (set ss n (slot_of (get_or ss n d).keyword x))) (not_first keyword (share_in s) (shares_in ss) h)
    (none_under-set keyword ss n d x (not_later keyword (share_in s) (shares_in ss) h))

AreApart-set : (slots : List SlotView) (n : ℕ) (d : SlotView) (x : BalanceView) → AreApart (shares_in slots) → AreApart (shares_in (set slots n (slot_of (get_or slots n d).keyword x)))
AreApart-set [] n d x apart = tt
AreApart-set (s ∷ ss) zero d x apart = (apart.0, apart.1)
AreApart-set (s ∷ ss) (suc n) d x apart = (none_under-set s.keyword ss n d x apart.0, AreApart-set ss n d x apart.1)

AreShares-set : (slots : List SlotView) (n : ℕ) (d : SlotView) (x : BalanceView) → AreShares (shares_in slots) → AreShares (shares_in (set slots n (slot_of (get_or slots n d).keyword x)))
AreShares-set slots n d x shares =
    let more = set slots n (slot_of (get_or slots n d).keyword x) in
    record { few = omega (arith, length-map more share_in, length-map slots share_in, length-set slots n (slot_of (get_or slots n d).keyword x), shares.few); apart = AreApart-set slots n d x shares.apart }

-- ---- a slot that was found

pub record IsFound (keyword : List ℕ) (slots : List SlotView) (n : ℕ) (s : SlotView) : Type 0 where
  pub there : HasSlot keyword slots
  pub stored : stored_under keyword slots ≡ s.stored
  pub with : (x : BalanceView) → set slots n (slot_of s.keyword x) ≡ stored_at (place_of keyword slots) x slots
  pub keeps : AreShares (shares_in slots) → (x : BalanceView) → AreShares (shares_in (set slots n (slot_of s.keyword x)))

found_at : (keyword : List ℕ) (slots : List SlotView) (s : SlotView) → place_of keyword slots < length slots → slot_at slots (place_of keyword slots) ≡ s → IsFound keyword slots (place_of keyword slots) s
found_at keyword slots s within is = record {
  there = within;
  stored = ap (λ (r : SlotView). r.stored) is;
  with = λ x. ap (λ (r : SlotView). set slots (place_of keyword slots) (slot_of r.keyword x)) (sym is);
  keeps = λ shares x. subst (λ (r : SlotView). AreShares (shares_in (set slots (place_of keyword slots) (slot_of r.keyword x)))) is (AreShares-set slots (place_of keyword slots) no_slot x shares);
}

read_slot : (slots : List SlotView) (n : ℕ) (s r : SlotView) → n < length slots → s ≡ r → r ≡ get_or slots n r → slot_at slots n ≡ s
read_slot slots n s r within same is = get_or-other slots n within ∙ sym is ∙ sym same
  where
    get_or-other : (xs : List SlotView) (i : ℕ) → i < length xs → get_or xs i no_slot ≡ get_or xs i r
    get_or-other [] i h = absurd (omega arith)
    get_or-other (x ∷ xs) zero h = refl
    get_or-other (x ∷ xs) (suc i) h = get_or-other xs i (omega arith)

pub found : (keyword : List ℕ) (slots : List SlotView) (n : ℕ) (s r : SlotView) → n ≡ place_of keyword slots → n < length slots → s ≡ r → r ≡ get_or slots n r → IsFound keyword slots n s
found keyword slots n s r place within same is =
    subst (λ (m : ℕ). IsFound keyword slots m s) (sym place) (found_at keyword slots s (subst (λ (m : ℕ). m < length slots) place within) (subst (λ (m : ℕ). slot_at slots m ≡ s) place (read_slot slots n s r within same is)))

-- ---- none there, and a further slot

pub none_there : (keyword : List ℕ) (slots : List SlotView) → length slots ≤ place_of keyword slots → amount_under keyword (shares_in slots) ≡ None
none_there keyword [] h = refl
none_there keyword (s ∷ ss) h = by (bytes_eq keyword s.keyword) (none_there keyword ss) h
  where
    by : (t : Bool) → (length ss ≤ place_of keyword ss → amount_under keyword (shares_in ss) ≡ None) → length (s ∷ ss) ≤ cond t 0 (suc (place_of keyword ss)) → cond t (Some s.stored.amount) (amount_under keyword (shares_in ss)) ≡ None
    by true later h = absurd (omega arith)
    by false later h = later (omega arith)

pub amount_there : (keyword : List ℕ) (slots : List SlotView) → HasSlot keyword slots → amount_under keyword (shares_in slots) ≡ Some (stored_under keyword slots).amount
amount_there keyword [] h = absurd (omega arith)
amount_there keyword (s ∷ ss) h = by (bytes_eq keyword s.keyword) (amount_there keyword ss) h
  where
    by : (t : Bool) → (HasSlot keyword ss → amount_under keyword (shares_in ss) ≡ Some (stored_under keyword ss).amount) → cond t 0 (suc (place_of keyword ss)) < length (s ∷ ss)
        → cond t (Some s.stored.amount) (amount_under keyword (shares_in ss)) ≡ Some (slot_at (s ∷ ss) (cond t 0 (suc (place_of keyword ss)))).stored.amount
    by true later h = refl
    by false later h = later (omega arith)

pub content_there : (keyword : List ℕ) (slots : List SlotView) → HasSlot keyword slots → content_under keyword (shares_in slots) ≡ (stored_under keyword slots).amount.value.content
content_there keyword slots there = ap (λ (o : Option Amount). option_map_or (λ (a : Amount). a.value.content) o nothing) (amount_there keyword slots there)

pub content_none : (keyword : List ℕ) (slots : List SlotView) → length slots ≤ place_of keyword slots → content_under keyword (shares_in slots) ≡ nothing
content_none keyword slots past = ap (λ (o : Option Amount). option_map_or (λ (a : Amount). a.value.content) o nothing) (none_there keyword slots past)

pub place-further : (keyword : List ℕ) (slots : List SlotView) (x : BalanceView) → length slots ≤ place_of keyword slots → place_of keyword (slots ++ slot_of keyword x ∷ []) ≡ length slots
place-further keyword [] x h = ap (λ t. cond t 0 1) ((bytes_eq-Decides keyword keyword).1 refl)
place-further keyword (s ∷ ss) x h = by (bytes_eq keyword s.keyword) (place-further keyword ss x) h
  where
    by : (t : Bool) → (length ss ≤ place_of keyword ss → place_of keyword (ss ++ slot_of keyword x ∷ []) ≡ length ss) → length (s ∷ ss) ≤ cond t 0 (suc (place_of keyword ss)) → cond t 0 (suc (place_of keyword (ss ++ slot_of keyword x ∷ []))) ≡ length (s ∷ ss)
    by true later h = absurd (omega arith)
    by false later h = ap suc (later (omega arith))

pub slot-further : (keyword : List ℕ) (slots : List SlotView) (x : BalanceView) → length slots ≤ place_of keyword slots → slot_at (slots ++ slot_of keyword x ∷ []) (place_of keyword (slots ++ slot_of keyword x ∷ [])) ≡ slot_of keyword x
slot-further keyword slots x past = ap (slot_at (slots ++ slot_of keyword x ∷ [])) (place-further keyword slots x past) ∙ get_or-append_seam slots (slot_of keyword x) [] no_slot

pub stored-further : (keyword : List ℕ) (slots : List SlotView) (x y : BalanceView) → length slots ≤ place_of keyword slots → stored_at (place_of keyword (slots ++ slot_of keyword x ∷ [])) y (slots ++ slot_of keyword x ∷ []) ≡ slots ++ slot_of keyword y ∷ []
stored-further keyword slots x y past =
    let all = slots ++ slot_of keyword x ∷ [] in
    ap (λ (s : SlotView). set all (place_of keyword all) (slot_of s.keyword y)) (slot-further keyword slots x past)
    ∙ ap (λ (n : ℕ). set all n (slot_of keyword y)) (place-further keyword slots x past)
    ∙ set-append_seam slots (slot_of keyword x) [] (slot_of keyword y)

-- ---- the shares of a new seat, of one slot more, and of one less

shares_in-empty : (rs : List Share) → shares_in (map empty_slot rs) ≡ map emptied rs
shares_in-empty [] = refl
shares_in-empty (r ∷ rs) = ap (λ xs. emptied r ∷ xs) (shares_in-empty rs)

pub AreShares-empty : (rs : List Share) → AreShares rs → AreShares (shares_in (map empty_slot rs))
AreShares-empty rs shares = rw (shares_in-empty rs) (record { few = omega (arith, length-map rs emptied, shares.few); apart = AreApart-emptied rs shares.apart })

pub AreShares-further : (keyword : List ℕ) (slots : List SlotView) (x : BalanceView) → AreShares (shares_in slots) → length slots ≤ place_of keyword slots → length slots < most_shares → AreShares (shares_in (slots ++ slot_of keyword x ∷ []))
AreShares-further keyword slots x shares past few =
    rw (map-append share_in slots (slot_of keyword x ∷ [])) (AreShares-push (shares_in slots) (keyed_share keyword x.amount) shares (none_there keyword slots past) (omega (arith, length-map slots share_in)))

none_under-take : (keyword : List ℕ) (slots : List SlotView) (n : ℕ) → amount_under keyword (shares_in slots) ≡ None → amount_under keyword (shares_in (take n slots)) ≡ None
none_under-take keyword slots zero h = refl
none_under-take keyword [] (suc n) h = refl
none_under-take keyword (s ∷ ss) (suc n) h = none_under-cons keyword (share_in s) (shares_in (take n ss)) (not_first keyword (share_in s) (shares_in ss) h) (none_under-take keyword ss n (not_later keyword (share_in s) (shares_in ss) h))

AreApart-take : (slots : List SlotView) (n : ℕ) → AreApart (shares_in slots) → AreApart (shares_in (take n slots))
AreApart-take slots zero apart = tt
AreApart-take [] (suc n) apart = tt
AreApart-take (s ∷ ss) (suc n) apart = (none_under-take s.keyword ss n apart.0, AreApart-take ss n apart.1)

pub AreShares-take : (slots : List SlotView) (n : ℕ) → AreShares (shares_in slots) → AreShares (shares_in (take n slots))
AreShares-take slots n shares = record { few = omega (arith, length-map (take n slots) share_in, length-map slots share_in, length-take n slots, shares.few); apart = AreApart-take slots n shares.apart }
