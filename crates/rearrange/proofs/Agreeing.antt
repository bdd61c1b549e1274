-- Shares that agree under each keyword, and that slots agree with whatever the shares do that they are settled from.
use Rattle.std.proofs.Common.{◌≡◌, ℕ, List, [], ◌∷◌, ◌++◌, get_or, map, filter, All, Bool, true, false, cond, Option, Some, None, IfSome, unwrap_or, option_and_then, refl, arith}
use Rattle.std.specs.Option.{is_none, option_map_or}
use Rattle.std.specs.List.{find}
use Rattle.std.proofs.lemmas.List.Elements.{All-append, All-cons, All-filter, All-head, All-map, All-nil, All-tail, All-weaker}
use Rattle.refusals.specs.amount_math.Amount.{Meet}
use Rattle.proposals.specs.OfferSafety.{MeetSlots}
use Rattle.proposals.specs.Shares.{AreApart, amount_under}
use Rattle.proposals.specs.Slots.{in_byte_order, is_upto, placed}
use Rattle.proposals.specs.declared.allocations.Share.{Share}
use Rattle.proposals.specs.declared.plans.SeatState.{SeatState}
use Rattle.proposals.proofs.SlotLists.{AreApart-append, AreApart-in_byte_order}
use Rattle.proposals.specs.ChangedShares.{further}
use Rattle.proposals.proofs.Apart.{AreApart-filter, AreApart-map, All-free_turned, Free, free_further, none_under-map, share_under}
use Rattle.rearrange.specs.Safety.{MeetProposal}
use Rattle.rearrange.specs.Seats.{allocation_of, state_of}
use Rattle.rearrange.specs.Settled.{filled, has_some, opened, settled}
use Rattle.rearrange.specs.Staged.{Agree, AgreeWith, IsOfOneBrand, shares_of, shares_staged}

pub meet_slots : (shares others : List Share) → Agree shares others → MeetSlots shares others
meet_slots shares others agree = λ i d lt a there. share_under (λ (x : Share). x.keyword ≡ (get_or others i d).keyword → Meet x.amount (get_or others i d).amount) shares (agree i d lt) (get_or others i d).keyword a there refl

-- ---- parts of a list

module _ (P : Share → Type 0) where
  pub all_left : (xs ys : List Share) → All P (xs ++ ys) → All P xs
  all_left [] ys all = All-nil P
  all_left (x ∷ xs) ys all = All-cons P x xs (All-head P x (xs ++ ys) all) (all_left xs ys (All-tail P x (xs ++ ys) all))

  pub all_right : (xs ys : List Share) → All P (xs ++ ys) → All P ys
  all_right [] ys all = all
  all_right (x ∷ xs) ys all = all_right xs ys (All-tail P x (xs ++ ys) all)

  All-placed : (share : Share) (rs : List Share) → P share → All P rs → All P (placed share rs)
  All-placed share [] p all = All-cons P share [] p all
  All-placed share (r ∷ rs) p all = elim (is_upto share.keyword r.keyword) as (λ t. All P (cond t (share ∷ r ∷ rs) (r ∷ placed share rs))) [
    | true ↦ All-cons P share (r ∷ rs) p all
    | false ↦ All-cons P r (placed share rs) (All-head P r rs all) (All-placed share rs p (All-tail P r rs all))
  ]

  All-in_byte_order : (rs : List Share) → All P rs → All P (in_byte_order rs)
  All-in_byte_order [] all = All-nil P
  All-in_byte_order (r ∷ rs) all = All-placed r (in_byte_order rs) (All-head P r rs all) (All-in_byte_order rs (All-tail P r rs all))

  pub All-further : (slots shares : List Share) → All P shares → All P (further slots shares)
  All-further slots shares all = All-filter (λ (r : Share). is_none (amount_under r.keyword slots)) P (in_byte_order shares) (All-in_byte_order shares all)

  All-opened : (slots shares : List Share) → All P shares → All P (opened slots shares)
  All-opened slots shares all = All-filter has_some P (further slots shares) (All-further slots shares all)

-- what agrees with the slots and with the shares agrees with what is settled from them
pub settled_with : (slots shares : List Share) (r : Share) → AgreeWith slots r → AgreeWith shares r → AgreeWith (settled slots shares) r
settled_with slots shares r a b =
    All-append (λ (x : Share). x.keyword ≡ r.keyword → Meet x.amount r.amount) (map (filled shares) slots) (opened slots shares)
    (All-map (λ (x : Share). x.keyword ≡ r.keyword → Meet x.amount r.amount) (filled shares) slots (λ i d lt same. let m : Meet (get_or slots i d).amount r.amount = a i d lt same in record { brand = m.brand; kind = m.kind }))
    (All-opened (λ (x : Share). x.keyword ≡ r.keyword → Meet x.amount r.amount) slots shares b)

pub settled_agree : (slots shares others : List Share) → Agree slots others → Agree shares others → Agree (settled slots shares) others
settled_agree slots shares others a b = λ i d lt. settled_with slots shares (get_or others i d) (a i d lt) (b i d lt)

-- they stay apart
pub AreApart-settled : (slots shares : List Share) → AreApart slots → AreApart shares → AreApart (settled slots shares)
AreApart-settled slots shares apart others =
    let more : List Share = further slots shares in
    AreApart-append (map (filled shares) slots) (filter has_some more) (AreApart-map (filled shares) (λ r. refl) slots apart)
    (AreApart-filter has_some more (AreApart-filter (λ (r : Share). is_none (amount_under r.keyword slots)) (in_byte_order shares) (AreApart-in_byte_order shares others)))
    (All-free_turned (map (filled shares) slots) (filter has_some more)
    (All-filter has_some (Free (map (filled shares) slots)) more (All-weaker (Free slots) (Free (map (filled shares) slots)) (λ r none. none_under-map (filled shares) (λ r. refl) r.keyword slots none) more (free_further slots shares))))

-- ---- a seat's state

-- the shares that a seat takes over
abbrev pub taken_over : SeatState → List Share
taken_over s = unwrap_or s.staged s.allocation

module _ (P : Share → Type 0) (s : SeatState) (all : All P (shares_of s)) where
  pub all_slots : All P s.allocation
  all_slots = all_left P s.allocation (unwrap_or s.staged []) (all_left P (s.allocation ++ unwrap_or s.staged []) s.proposal.want (all_left P (s.allocation ++ unwrap_or s.staged [] ++ s.proposal.want) s.proposal.give all))

  pub all_want : All P s.proposal.want
  all_want = all_right P (s.allocation ++ unwrap_or s.staged []) s.proposal.want (all_left P (s.allocation ++ unwrap_or s.staged [] ++ s.proposal.want) s.proposal.give all)

  pub all_give : All P s.proposal.give
  all_give = all_right P (s.allocation ++ unwrap_or s.staged [] ++ s.proposal.want) s.proposal.give all

  staged_by : (o : Option (List Share)) → All P (unwrap_or o []) → All P (unwrap_or o s.allocation)
  staged_by None all = all_slots
  staged_by (Some shares) all = all

  pub all_taken_over : All P (unwrap_or s.staged s.allocation)
  all_taken_over = staged_by s.staged (all_right P s.allocation (unwrap_or s.staged []) (all_left P (s.allocation ++ unwrap_or s.staged []) s.proposal.want (all_left P (s.allocation ++ unwrap_or s.staged [] ++ s.proposal.want) s.proposal.give all)))

module _ (s : SeatState) (one : IsOfOneBrand s) where
  with_slots : All (AgreeWith s.allocation) (shares_of s)
  with_slots = λ i d lt. all_slots (λ (x : Share). x.keyword ≡ (get_or (shares_of s) i d).keyword → Meet x.amount (get_or (shares_of s) i d).amount) s (one i d lt)

  with_taken_over : All (AgreeWith (unwrap_or s.staged s.allocation)) (shares_of s)
  with_taken_over = λ i d lt. all_taken_over (λ (x : Share). x.keyword ≡ (get_or (shares_of s) i d).keyword → Meet x.amount (get_or (shares_of s) i d).amount) s (one i d lt)

  pub staging_meets : MeetSlots (unwrap_or s.staged s.allocation) s.allocation
  staging_meets = meet_slots (unwrap_or s.staged s.allocation) s.allocation (all_slots (AgreeWith (unwrap_or s.staged s.allocation)) s with_taken_over)

  pub settled_meets : MeetProposal (settled s.allocation (unwrap_or s.staged s.allocation)) s
  settled_meets = record {
    want = meet_slots _ _ (settled_agree s.allocation (unwrap_or s.staged s.allocation) s.proposal.want (all_want (AgreeWith s.allocation) s with_slots) (all_want (AgreeWith (unwrap_or s.staged s.allocation)) s with_taken_over));
    give = meet_slots _ _ (settled_agree s.allocation (unwrap_or s.staged s.allocation) s.proposal.give (all_give (AgreeWith s.allocation) s with_slots) (all_give (AgreeWith (unwrap_or s.staged s.allocation)) s with_taken_over));
  }

-- ---- a seat of those whose states are given

pub find_holds : {X : Type 0} (P : X → Type 0) (p : X → Bool) (xs : List X) → All P xs → IfSome (find p xs) P
find_holds P p [] all = tt
find_holds P p (x ∷ xs) all = elim (p x) as (λ t. IfSome (cond t (Some x) (find p xs)) P) [
  | true ↦ All-head P x xs all
  | false ↦ find_holds P p xs (All-tail P x xs all)
]

no_shares : (shares : List Share) → MeetSlots shares []
no_shares shares = λ i d lt. absurd (omega arith)

abbrev slots_in : Option SeatState → List Share
slots_in o = option_map_or (λ s. s.allocation) o []

abbrev shares_in : Option SeatState → List Share
shares_in o = unwrap_or (option_and_then (λ s. s.staged) o) (slots_in o)

meets_by : (o : Option SeatState) → IfSome o IsOfOneBrand → MeetSlots (shares_in o) (slots_in o)
meets_by None one = no_shares []
meets_by (Some s) one = staging_meets s one

safe_by : (o : Option SeatState) → IfSome o IsOfOneBrand → IfSome o (MeetProposal (settled (slots_in o) (shares_in o)))
safe_by None one = tt
safe_by (Some s) one = settled_meets s one

module _ (states : List SeatState) (seat : ℕ) (one : All IsOfOneBrand states) where
  pub staged_meets : MeetSlots (shares_staged states seat) (allocation_of states seat)
  staged_meets = meets_by (state_of states seat) (find_holds IsOfOneBrand _ states one)

  pub staged_safe : IfSome (state_of states seat) (MeetProposal (settled (allocation_of states seat) (shares_staged states seat)))
  staged_safe = safe_by (state_of states seat) (find_holds IsOfOneBrand _ states one)
