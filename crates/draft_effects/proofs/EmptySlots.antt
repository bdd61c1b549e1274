-- A slot of nothing is opened by a put of nothing.
use Rattle.std.specs.Prelude.{Err, IsNone, Ok, OnErr, Result, cond, is_some, slice_set, unwrap_or}
use Rattle.std.specs.Str.{bytes_eq}
use Rattle.std.proofs.Common.{◌≡◌, ℕ, ◌<◌, ◌≤◌, Bool, true, false, List, [], ◌∷◌, None, Option, Some, length, map, refl, sym, ◌∙◌, ap, subst, arith}
use Rattle.draft_reads.specs.amount_math.Amount.{holding}
use Rattle.draft_reads.specs.amount_math.Content.{nothing, sum, sum-nothing}
use Rattle.draft_reads.specs.amount_math.KindLaws.{nothing_is_value}
use Rattle.draft_reads.specs.amount_math.Counted.{counted, counted-nothing}
use Rattle.draft_reads.specs.amount_math.ValueView.{Fits, IsValue, ValueView, minted_bound}
use Rattle.draft_reads.specs.amount_math.declared.Amount.{Amount}
use Rattle.draft_reads.specs.amount_math.declared.Kind.{Kind}
use Rattle.draft_reads.specs.ertp_mint.BrandSupply.{BrandSupply, MayIssue, supply_at}
use Rattle.draft_reads.specs.ertp_mint.Circulating.{CirculationView, circulation_at}
use Rattle.draft_reads.specs.ertp_mint.Stocks.{empty_amount, no_amount}
use Rattle.draft_reads.proofs.lemmas.ListEdits.{length_map, set_same}
use Rattle.draft_reads.specs.proposals.Shares.{amount_under, keyed_share}
use Rattle.draft_reads.specs.proposals.declared.allocations.Share.{Share}
use Rattle.draft_reads.specs.rights_model.declared.Holder.{Holder}
use Rattle.draft_reads.specs.rights_model.declared.Holder.TheVariants.{Outside, Slot}
use Rattle.draft_reads.specs.vault_model.Lists.{Lists, given, slot_of, taken, with_new_slot, with_slot_of}
use Rattle.draft_reads.specs.vault_model.Seats.{KeptSeat, amount_at, kept_seat_at, no_kept_seat, with_amount, with_slots}
use Rattle.draft_reads.specs.world_laws.Views.{put_to, with_slot_for}
use Rattle.draft_reads.proofs.world_laws.Views.{issued_nothing}
use Rattle.draft_reads.specs.seats.Seats.{SeatView}
use Rattle.draft_reads.specs.seats.Slots.{HasSlot}
use Rattle.draft_reads.specs.seats.Store.{seat_at}
use Rattle.draft_reads.specs.vault.Drafts.{DraftState, IsClean}
use Rattle.draft_reads.specs.vault.Asked.{MayOpenSlot}
use Rattle.draft_reads.specs.vault.Memory.{kept_seat, supply_of}
use Rattle.draft_reads.proofs.vault.Halves.{supply_read}
use Rattle.draft_reads.proofs.vault.SeatReads.{slot_told}
use Rattle.draft_effects.specs.Steps.{IsAfter, IsCarrying, MayReach}

-- whether a slot is there
pub slot_is : (s : Lists) (seats : List SeatView) (n : ℕ) (k : List ℕ) (t : Bool) → map kept_seat seats ≡ s.seats → n < length s.seats → (t ≡ true → HasSlot k (seat_at seats n).slots) → (HasSlot k (seat_at seats n).slots → t ≡ true) → is_some (amount_under k (kept_seat_at s.seats n).slots) ≡ t
slot_is s seats n k t listed made there here =
    ap (λ l. is_some (amount_under k (kept_seat_at l n).slots)) (sym listed)
    ∙ sym (slot_told seats n k t (omega (arith, made, ap length listed, length_map kept_seat seats)) there here)

-- ---- a slot that is written with what it has

same_amount : (k : List ℕ) (shares : List Share) → with_amount k (amount_at k shares) shares ≡ shares
same_amount k [] = refl
same_amount k (r ∷ rs) = by (bytes_eq k r.keyword) (same_amount k rs)
  where
    by : (t : Bool) → with_amount k (amount_at k rs) rs ≡ rs → cond t (keyed_share r.keyword (unwrap_or (cond t (Some r.amount) (amount_under k rs)) no_amount) ∷ rs) (r ∷ with_amount k (unwrap_or (cond t (Some r.amount) (amount_under k rs)) no_amount) rs) ≡ r ∷ rs
    by true later = refl
    by false later = ap (λ l. r ∷ l) later

same_slot_of : (s : Lists) (n : ℕ) (k : List ℕ) → with_slot_of s n k (slot_of s n k) ≡ s
same_slot_of s n k = ap (λ (l : List KeptSeat). record s { seats = l }) (
    ap (λ shares. slice_set s.seats n (with_slots (kept_seat_at s.seats n) shares)) (same_amount k (kept_seat_at s.seats n).slots)
    ∙ set_same s.seats n no_kept_seat
    )

module _ (s : Lists) (n : ℕ) (k : List ℕ) (b : ℕ) (kind : Kind) where
  pub opened_lists : IsNone (amount_under k (kept_seat_at s.seats n).slots) → put_to s (Slot n k) (empty_amount b kind) ≡ with_new_slot s n k b kind
  opened_lists none =
      ap (λ t. given (cond t s (with_new_slot s n k b kind)) (Slot n k) b (empty_amount b kind).value) none
      ∙ ap (λ c. with_slot_of (with_new_slot s n k b kind) n k (holding (slot_of (with_new_slot s n k b kind) n k) c)) (sum-nothing (slot_of (with_new_slot s n k b kind) n k).value.content)
      ∙ same_slot_of (with_new_slot s n k b kind) n k

  -- it may be, where a slot may be opened
  pub reach_empty : MayOpenSlot s n k → MayReach s (Slot n k) (empty_amount b kind)
  reach_empty may = record {
    put = record {
      made = may.made;
      is_open = may.is_open;
      meet = λ has. absurd (clash (sym has ∙ may.free));
      few = λ none. may.few;
      left = λ none. may.left;
    };
    value = subst (λ c. IsValue kind c) (sym (ap (λ (o : Option Amount). sum (unwrap_or o no_amount).value.content nothing) (none_is (amount_under k (kept_seat_at s.seats n).slots) may.free) ∙ sum-nothing nothing)) (nothing_is_value kind);
  }
    where
      clash : true ≡ false → ⊥
      clash e = cc

      none_is : (o : Option Amount) → is_some o ≡ false → o ≡ None
      none_is None none = refl
      none_is (Some x) none = absurd cc

-- what is issued of nothing leaves what is out
pub issued_none : (s : Lists) (b : ℕ) (kind : Kind) → taken s Outside b (empty_amount b kind).value ≡ s
issued_none s b kind = ap (λ l. record s { out = l }) (issued_nothing s.out b)

-- the slot is opened in a draft
module _ (old mid new : DraftState) (n : ℕ) (k : List ℕ) (b : ℕ) (kind : Kind) (issued : IsCarrying old mid (taken old.now Outside b (empty_amount b kind).value) (empty_amount b kind)) where
  pub still_may : MayOpenSlot old.now n k → MayOpenSlot mid.now n k
  still_may may = subst (λ (s : Lists). MayOpenSlot s n k) (sym (issued.now ∙ issued_none old.now b kind)) may

  pub opened_after : IsNone (amount_under k (kept_seat_at old.now.seats n).slots) → IsAfter mid new (put_to mid.now (Slot n k) (empty_amount b kind)) → IsAfter old new (with_slot_for old.now (Slot n k) (empty_amount b kind))
  opened_after none put = record {
    now = put.now
        ∙ ap (λ s. put_to s (Slot n k) (empty_amount b kind)) (issued.now ∙ issued_none old.now b kind)
        ∙ opened_lists old.now n k b kind none
        ∙ sym (ap (λ t. cond t old.now (with_new_slot old.now n k b kind)) none);
    kept = put.kept ∙ issued.kept;
    staging = put.staging ∙ issued.staging;
    clean = put.clean;
  }

pub opened_after_so : (old mid new : DraftState) (n : ℕ) (k : List ℕ) (b : ℕ) (kind is : Kind) → is ≡ kind → IsCarrying old mid (taken old.now Outside b (empty_amount b is).value) (empty_amount b is) → IsNone (amount_under k (kept_seat_at old.now.seats n).slots) → IsAfter mid new (put_to mid.now (Slot n k) (empty_amount b is)) → IsAfter old new (cond (is_some (amount_under k (kept_seat_at old.now.seats n).slots)) old.now (with_new_slot old.now n k b kind))
opened_after_so old mid new n k b kind is same issued none put = subst (λ q. IsAfter old new (cond (is_some (amount_under k (kept_seat_at old.now.seats n).slots)) old.now (with_new_slot old.now n k b q))) same (opened_after old mid new n k b is issued none put)

-- both halves
pub both_halves : (old mid new : DraftState) (s : Lists) (a p : Amount) (to : Holder) → IsCarrying old mid s a → p ≡ a → IsAfter mid new (put_to mid.now to p) → IsAfter old new (put_to s to a)
both_halves old mid new s a p to took same put = record {
  now = put.now ∙ (λ i. put_to (took.now i) to (same i));
  kept = put.kept ∙ took.kept;
  staging = put.staging ∙ took.staging;
  clean = put.clean;
}

-- ---- what is asked of an issue of nothing

module _ (out : List BrandSupply) (l : List CirculationView) (b : ℕ) (listed : map supply_of l ≡ out) where
  supply_is : supply_at out b ≡ (circulation_at l b).supply
  supply_is = ap (λ x. supply_at x b) (sym listed) ∙ supply_read l b

  pub fits_none : (w : ValueView) → w.content ≡ nothing → (supply_at out b).outstanding.kind ≡ w.kind → Fits (circulation_at l b).supply.outstanding.kind (circulation_at l b).supply.outstanding.content → Fits w.kind (sum (supply_at out b).outstanding.content w.content)
  fits_none w none kind fits =
      subst (λ c. Fits w.kind c) (sym (ap (λ c. sum (supply_at out b).outstanding.content c) none ∙ sum-nothing (supply_at out b).outstanding.content))
      (subst (λ k. Fits k (supply_at out b).outstanding.content) kind
      (subst (λ (x : BrandSupply). Fits x.outstanding.kind x.outstanding.content) (sym supply_is) fits))

  pub may_none : (w : ValueView) (minted : ℕ) → w.content ≡ nothing → minted ≡ (circulation_at l b).supply.minted → minted ≤ minted_bound → Fits w.kind (sum (supply_at out b).outstanding.content w.content) → MayIssue (supply_at out b) w
  may_none w minted none is few fits = record {
    fits = fits;
    minted = omega (arith, ap (λ (x : BrandSupply). x.minted) supply_is, ap counted none, counted-nothing, is, few);
  }

-- it is as it was where the slot is there
pub same_after : (d : DraftState) (n : ℕ) (k : List ℕ) (a : Amount) → IsClean d → is_some (amount_under k (kept_seat_at d.now.seats n).slots) ≡ true → IsAfter d d (with_slot_for d.now (Slot n k) a)
same_after d n k a clean is = subst (λ t. IsAfter d d (cond t d.now (with_new_slot d.now n k a.brand a.value.kind))) (sym is) (record { now = refl; kept = refl; staging = refl; clean = clean })

-- what holds anyhow holds on an error
pub on_err_anyhow : {T E P : Type 0} (r : Result T E) → P → OnErr r P
on_err_anyhow (Ok x) holds = tt
on_err_anyhow (Err e) holds = holds
