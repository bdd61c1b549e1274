-- Transfers that are worked one after the other.
use Rattle.std.specs.List.{All}
use Rattle.std.proofs.Common.{◌≡◌, ℕ, ◌+◌, ◌<◌, ◌≤◌, List, [], ◌∷◌, ◌++◌, drop, get_or, length, take, Option, Some, None, Result, Ok, Err, refl, sym, ap, subst, ◌∙◌, arith, length-append}
use Rattle.std.proofs.Math.Seq.{get_or-append_seam}
use Rattle.std.proofs.lemmas.List.{drop_all, drop_more, map-append, take-append-drop, take_all, take_at, take_more}
use Rattle.rearrange.specs.TestedPlans.{can_gain, can_lose, can_work, passes_at}
use Rattle.rearrange.specs.Slots.{can_give, can_take}
use Rattle.call_arguments.specs.proposals.declared.allocations.Share.{Share}
use Rattle.call_arguments.specs.proposals.declared.plans.SeatState.{SeatState}
use Rattle.call_arguments.specs.proposals.declared.plans.Transfer.{Transfer}
use Rattle.rearrange.proofs.Worked.{can_meet, worked-push}
use Rattle.rearrange.specs.Seats.{allocation_of, seats_named}
use Rattle.rearrange.specs.Transfers.{HasOneBrand, losses_of, worked, worked_by}
use Rattle.rearrange.specs.Working.{CanMeet}
use Rattle.refusals.specs.Outcomes.{Fails, bind, ◌>>◌}
use Rattle.refusals.specs.declared.codes.Refusal.{Refusal}
use Rattle.refusals.specs.declared.stops.Stop.{Stop}
use Rattle.refusals.specs.declared.stops.Stop.TheVariants.{NoMemory, Refused}
use Rattle.share_transfers.specs.Tests.{can_move}
use Rattle.share_transfers.specs.Views.{transfer_view, transfer_views}
use Rattle.share_transfers.specs.declared.values.ShareTransfer.{ShareTransfer}

-- ---- one seat

pub loses_as : (had : ℕ → List Share) (t : Transfer) (seat : ℕ) → t.from ≡ Some seat → can_lose had t ≡ can_take (had seat) (losses_of t)
loses_as had t seat is = ap (λ o. passes_at o (λ s. can_take (had s) (losses_of t))) is

pub loses_none : (had : ℕ → List Share) (t : Transfer) → t.from ≡ None → can_lose had t ≡ Ok tt
loses_none had t is = ap (λ o. passes_at o (λ s. can_take (had s) (losses_of t))) is

pub gains_as : (had : ℕ → List Share) (gains : List Share) (o : Option ℕ) (seat : ℕ) → o ≡ Some seat → passes_at o (λ s. can_give (had s) gains) ≡ can_give (had seat) gains
gains_as had gains o seat is = ap (λ p. passes_at p (λ s. can_give (had s) gains)) is

pub gains_none : (had : ℕ → List Share) (gains : List Share) (o : Option ℕ) → o ≡ None → passes_at o (λ s. can_give (had s) gains) ≡ Ok tt
gains_none had gains o is = ap (λ p. passes_at p (λ s. can_give (had s) gains)) is

-- ---- one transfer

pub next_work : (had : ℕ → List Share) (t : Transfer) (ts : List Transfer) → (can_lose had t >> can_gain had t) ≡ Ok tt → can_work had (t ∷ ts) ≡ can_work (worked_by had t) ts
unfolding bind
next_work had t ts is = by (can_lose had t) (can_gain had t) refl is
  where
    by : (l g : Result (Unit {0}) Refusal) → l ≡ l → (l >> g) ≡ Ok tt → (l >> (g >> can_work (worked_by had t) ts)) ≡ can_work (worked_by had t) ts
    by (Ok x) (Ok y) e h = refl
    by (Ok x) (Err r) e h = absurd (cc)
    by (Err r) g e h = absurd (cc)

pub stop_work : (stop : Stop) (had : ℕ → List Share) (t : Transfer) (ts : List Transfer) → Fails stop (can_lose had t >> can_gain had t) → Fails stop (can_work had (t ∷ ts))
unfolding bind
stop_work NoMemory had t ts is = tt
stop_work (Refused r) had t ts is = by (can_lose had t) (can_gain had t) is
  where
    by : (l g : Result (Unit {0}) Refusal) → (l >> g) ≡ Err r → (l >> (g >> can_work (worked_by had t) ts)) ≡ Err r
    by (Ok x) (Ok y) h = absurd (cc)
    by (Ok x) (Err e) h = let same : e ≡ r = cc in ap (λ (q : Refusal). Err q) same
    by (Err e) g h = let same : e ≡ r = cc in ap (λ (q : Refusal). Err q) same

pub past_losses : (had : ℕ → List Share) (t : Transfer) → can_lose had t ≡ Ok tt → can_move had t ≡ can_gain had t
unfolding bind
past_losses had t is = ap (λ (r : Result (Unit {0}) Refusal). r >> can_gain had t) is

-- ---- one after the other

pub can_end : (list : List ShareTransfer) (i : ℕ) (states : List SeatState) → length list ≤ i → can_work (allocation_of states) (transfer_views list) ≡ can_work (worked (allocation_of states) (transfer_views (take i list))) (transfer_views (drop i list)) → can_work (allocation_of states) (transfer_views list) ≡ Ok tt
can_end list i states past can = can ∙ ap (λ l. can_work (worked (allocation_of states) (transfer_views (take i list))) (transfer_views l)) (drop_all i list past)

pub same_end : (list : List ShareTransfer) (i : ℕ) (states : List SeatState) → length list ≤ i → worked (allocation_of states) (transfer_views (take i list)) ≡ worked (allocation_of states) (transfer_views list)
same_end list i states past = ap (λ l. worked (allocation_of states) (transfer_views l)) (take_all i list past)

module _ (list : List ShareTransfer) (i : ℕ) (x : ShareTransfer) (lt : i < length list) (is : x ≡ get_or list i x) where
  pub left : drop i list ≡ x ∷ drop (i + 1) list
  left = drop_more list i x lt ∙ ap (λ y. y ∷ drop (i + 1) list) (sym is)

  pub taken : transfer_views (take (i + 1) list) ≡ transfer_views (take i list) ++ transfer_view x ∷ []
  taken = ap transfer_views (take_more list i x lt ∙ ap (λ y. take i list ++ y ∷ []) (sym is)) ∙ map-append transfer_view (take i list) (x ∷ [])

  pub parted : transfer_views list ≡ transfer_views (take i list) ++ (transfer_view x ∷ transfer_views (drop (i + 1) list))
  parted =
      ap transfer_views (sym (take-append-drop i list) ∙ ap (λ l. take i list ++ l) left)
      ∙ map-append transfer_view (take i list) (x ∷ drop (i + 1) list)

  module _ (states : List SeatState) where
    abbrev start : ℕ → List Share
    start = allocation_of states

    abbrev had : ℕ → List Share
    had = worked start (transfer_views (take i list))

    pub meets : All (HasOneBrand states (transfer_views list)) (seats_named (transfer_views list)) → CanMeet had (transfer_view x)
    meets each =
        let all = transfer_views list in
        let before = transfer_views (take i list) in
        let t = transfer_view x in
        let rest = transfer_views (drop (i + 1) list) in
        let n = length before in
        let within : n < length all = omega (arith, ap (λ (l : List Transfer). length l) parted, length-append before (t ∷ rest)) in
        let first : take n all ≡ before = ap (take n) parted ∙ take_at before (t ∷ rest) n refl in
        let one : get_or all n t ≡ t = ap (λ l. get_or l n t) parted ∙ get_or-append_seam before t rest t in
        subst (λ ts. CanMeet (worked start ts) t) first (subst (CanMeet (worked start (take n all))) one (can_meet states all each n t within))

    pub worked_more : worked start (transfer_views (take (i + 1) list)) ≡ worked_by had (transfer_view x)
    worked_more = ap (worked start) taken ∙ worked-push start (transfer_views (take i list)) (transfer_view x)

    pub can_more : can_work start (transfer_views list) ≡ can_work had (transfer_views (drop i list)) → (can_lose had (transfer_view x) >> can_gain had (transfer_view x)) ≡ Ok tt → can_work start (transfer_views list) ≡ can_work (worked start (transfer_views (take (i + 1) list))) (transfer_views (drop (i + 1) list))
    can_more can passes =
        can
        ∙ ap (λ l. can_work had (transfer_views l)) left
        ∙ next_work had (transfer_view x) (transfer_views (drop (i + 1) list)) passes
        ∙ ap (λ (h : ℕ → List Share). can_work h (transfer_views (drop (i + 1) list))) (sym worked_more)

    pub can_stop : (stop : Stop) → can_work start (transfer_views list) ≡ can_work had (transfer_views (drop i list)) → Fails stop (can_lose had (transfer_view x) >> can_gain had (transfer_view x)) → Fails stop (can_work start (transfer_views list))
    can_stop stop can fails =
        subst (Fails stop) (sym (can ∙ ap (λ l. can_work had (transfer_views l)) left)) (stop_work stop had (transfer_view x) (transfer_views (drop (i + 1) list)) fails)
