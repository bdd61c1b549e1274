-- The arms of the stores' calls: what each makes, in the words that the calls promise.
use Rattle.std.proofs.Common.{◌≡◌, ◌≢◌, ℕ, ◌<◌, ◌≤◌, ◌==◌, Bool, true, false, cond, List, ◌∷◌, length, map, Result, Ok, Err, refl, sym, ◌∙◌, ap, subst, arith}
use Rattle.std.specs.Prelude.{OnOk, slice_set}
use Rattle.vault_model.specs.amount_math.Held.{Held}
use Rattle.vault_model.specs.amount_math.ValueView.{Fits, ValueView}
use Rattle.vault_model.specs.amount_math.declared.Amount.{Amount}
use Rattle.vault_model.specs.amount_math.declared.Kind.TheVariants.{Nat}
use Rattle.vault_model.specs.ertp_mint.Balances.{BalanceView, ComesOut, GoesIn}
use Rattle.vault_model.specs.ertp_mint.BrandSupply.{BrandSupply, issued, new_supply, retired, supply_at}
use Rattle.vault_model.specs.ertp_mint.Circulating.{CanReturn, CirculationView, circulation_at, new_circulation, unissued, unretired, with_forgotten, with_issued, with_retired, with_unissued, with_unretired}
use Rattle.vault_model.proofs.lemmas.ListEdits.{keeps, length_set, map_set, read_map, set_same}
use Rattle.vault_model.specs.holders.Purses.{put_in_room, room_at, store_at, taken_at}
use Rattle.vault_model.specs.Backwards.{retired_by, to_outside}
use Rattle.vault_model.specs.Tables.{hand_minus, hand_plus}
use Rattle.vault_model.specs.rights_model.declared.Holder.{Holder}
use Rattle.vault_model.specs.rights_model.declared.Movement.{Movement}
use Rattle.vault_model.specs.amount_math.Content.{Content, Contains, count-sum, difference, difference-sum, sum}
use Rattle.std.proofs.lemmas.Bool.{eq-eqb}
use Rattle.vault_model.specs.Lists.{purse_at, ungiven, untaken, with_out, with_outs}
use Rattle.vault_model.specs.rights_model.declared.Holder.TheVariants.{Purse, Payment, Slot, Hand, Outside}
use Rattle.transit.specs.Transit.{TransitView, empty_hand, held_at, supply_in, with_hand}
use Rattle.transit.specs.Transit as transit
use Rattle.vault.specs.Memory.{IsForward, IsGiven, IsHalf, IsRoomed, IsTaken, content_in_store, given_up_in, kept_of, lists_of, staged_of, store_of}
use Rattle.vault.specs.Asked.{IsPurseFor, IsPurseOf}
use Rattle.vault.specs.Forgetting.{AreMade, IsForgetting}
use Rattle.vault.specs.declared.stores.Stores.{Stores}
use Rattle.vault.proofs.Halves.{forward, hand_half, kept_less, kept_more, out_half, purse_given, purse_made, purse_read, purse_taken, supply_read}

-- of two clauses of what succeeded
pub both_ok : {A E P Q S : Type 0} (r : Result A E) → (P → Q → S) → OnOk r P → OnOk r Q → OnOk r S
both_ok (Ok x) f p q = f p q
both_ok (Err e) f p q = tt

module _ (p : Stores) (t : TransitView) (b : ℕ) (w : ValueView) where
  abbrev s : BrandSupply
  s = supply_in p.transit b

  abbrev there : BrandSupply
  there = supply_at (lists_of p).out b

  listed : there ≡ s
  listed = supply_read p.transit.out b

  pub undone_retire : b < length p.transit.out → t ≡ transit.with_out p.transit b (with_unretired (circulation_at p.transit.out b) w.content) → IsHalf p (record p { transit = t }) (ungiven (lists_of p) Outside b w) (store_of p) (hand_minus (kept_of p) b w.content)
  undone_retire lt is = subst (λ (x : BrandSupply). IsHalf p (record p { transit = t }) (with_out (lists_of p) b (unretired x w.content)) (store_of p) (hand_minus (kept_of p) b w.content)) (sym listed)
      (out_half p t b (with_unretired (circulation_at p.transit.out b) w.content) (hand_minus (kept_of p) b w.content) is (λ e. kept_less p.transit.out b w.content e (with_unretired (circulation_at p.transit.out b) w.content) refl lt))

  same_kept : (x : CirculationView) → x.kept ≡ (circulation_at p.transit.out b).kept → (e : ℕ) → (circulation_at (slice_set p.transit.out b x) e).kept ≡ kept_of p e
  same_kept x is e = keeps (λ (y : CirculationView). y.kept) p.transit.out b x (new_circulation Nat) is e

  pub undone_issue : t ≡ transit.with_out p.transit b (with_unissued (circulation_at p.transit.out b) w.content) → IsHalf p (record p { transit = t }) (untaken (lists_of p) Outside b w) (store_of p) (kept_of p)
  undone_issue is = subst (λ (x : BrandSupply). IsHalf p (record p { transit = t }) (with_out (lists_of p) b (unissued x w.content)) (store_of p) (kept_of p)) (sym listed)
      (out_half p t b (with_unissued (circulation_at p.transit.out b) w.content) (kept_of p) is (same_kept (with_unissued (circulation_at p.transit.out b) w.content) refl))

  pub issued_taken : t ≡ transit.with_out p.transit b (with_issued (circulation_at p.transit.out b) w.content) → IsTaken p (record p { transit = t }) Outside b w
  issued_taken is = record {
    half = subst (λ (x : BrandSupply). IsForward p (record p { transit = t }) (with_out (lists_of p) b (issued x w.content)) (staged_of p) (kept_of p)) (sym listed)
        (forward p (record p { transit = t }) _ (store_of p) (kept_of p) (out_half p t b (with_issued (circulation_at p.transit.out b) w.content) (kept_of p) is (same_kept (with_issued (circulation_at p.transit.out b) w.content) refl)) (ap (λ (u : TransitView). map content_in_store u.hand) is) refl);
    back = tt;
  }

  pub retired_given : b < length p.transit.out → t ≡ transit.with_out p.transit b (with_retired (circulation_at p.transit.out b) w.content) → CanReturn (circulation_at t.out b) w → IsGiven p (record p { transit = t }) Outside b w
  retired_given lt is back = record {
    half = subst (λ (x : BrandSupply). IsForward p (record p { transit = t }) (with_out (lists_of p) b (retired x w.content)) (staged_of p) (hand_plus (kept_of p) b w.content)) (sym listed)
        (forward p (record p { transit = t }) _ (store_of p) (hand_plus (kept_of p) b w.content) (out_half p t b (with_retired (circulation_at p.transit.out b) w.content) (hand_plus (kept_of p) b w.content) is (λ e. kept_more p.transit.out b w.content e lt)) (ap (λ (u : TransitView). map content_in_store u.hand) is) refl);
    back = record {
      kind = ap (λ (x : BrandSupply). x.outstanding.kind) (supply_read t.out b) ∙ back.kind;
      fits = subst (λ (x : BrandSupply). Fits x.outstanding.kind (sum x.outstanding.content w.content)) (sym (supply_read t.out b)) back.fits;
    };
  }

-- what a movement retired is forgotten
module _ (start p : Stores) (m : Movement) (ms : List Movement) (is : IsForgetting start p (m ∷ ms)) where
  kept_there : (e : ℕ) → kept_of p e ≡ cond (m.brand == e) (to_outside m.to (retired_by ms e) m.value.content) (retired_by ms e)
  kept_there e = is.kept e

  pub brand_made : m.brand < length p.transit.out
  brand_made = is.made.0

  either_way : (t : Bool) (x : Content) → cond t x x ≡ x
  either_way true x = refl
  either_way false x = refl

  pub nothing_to_forget : m.to ≢ Outside → IsForgetting start p ms
  nothing_to_forget apart = record { lists = is.lists; staging = is.staging; given_up = is.given_up; made = is.made.1; kept = λ e. kept_there e ∙ inside m.to apart e }
    where
      inside : (h : Holder) → h ≢ Outside → (e : ℕ) → cond (m.brand == e) (to_outside h (retired_by ms e) m.value.content) (retired_by ms e) ≡ retired_by ms e
      inside (Purse n) differs e = either_way (m.brand == e) (retired_by ms e)
      inside (Payment n) differs e = either_way (m.brand == e) (retired_by ms e)
      inside (Slot v j) differs e = either_way (m.brand == e) (retired_by ms e)
      inside Hand differs e = either_way (m.brand == e) (retired_by ms e)
      inside Outside differs e = absurd (differs refl)

  module _ (outside : m.to ≡ Outside) where
    outside_there : (e : ℕ) → kept_of p e ≡ cond (m.brand == e) (sum (retired_by ms e) m.value.content) (retired_by ms e)
    outside_there e = kept_there e ∙ ap (λ h. cond (m.brand == e) (to_outside h (retired_by ms e) m.value.content) (retired_by ms e)) outside

    pub is_kept : Contains (circulation_at p.transit.out m.brand).kept m.value.content
    is_kept = subst (λ c. Contains c m.value.content) (sym (outside_there m.brand ∙ ap (λ t. cond t (sum (retired_by ms m.brand) m.value.content) (retired_by ms m.brand)) (eq-eqb m.brand m.brand refl)))
        (record { each = λ k. omega (arith, count-sum (retired_by ms m.brand) m.value.content k) })

    pub forgets : (t : TransitView) → t ≡ transit.with_out p.transit m.brand (with_forgotten (circulation_at p.transit.out m.brand) m.value.content) → IsForgetting start (record p { transit = t }) ms
    forgets t new =
        let x : CirculationView = with_forgotten (circulation_at p.transit.out m.brand) m.value.content in
        let half : IsHalf p (record p { transit = t }) (with_out (lists_of p) m.brand x.supply) (store_of p) (hand_minus (kept_of p) m.brand m.value.content) =
        out_half p t m.brand x (hand_minus (kept_of p) m.brand m.value.content) new (λ e. kept_less p.transit.out m.brand m.value.content e x refl brand_made)
        in
        record {
          lists = half.lists ∙ ap (λ (y : BrandSupply). with_out (lists_of p) m.brand y) (sym (supply_read p.transit.out m.brand)) ∙ ap (with_outs (lists_of p)) (set_same (lists_of p).out m.brand (new_supply Nat)) ∙ is.lists;
          staging = is.staging;
          given_up = ap (λ (u : TransitView). map content_in_store u.hand) new ∙ is.given_up;
          made = subst (λ n. AreMade n ms) (sym (ap (λ (u : TransitView). length u.out) new ∙ length_set p.transit.out m.brand x)) is.made.1;
          kept = λ e. half.kept e ∙ less e;
        }
      where
        less : (e : ℕ) → hand_minus (kept_of p) m.brand m.value.content e ≡ retired_by ms e
        less e = elim (m.brand == e) as (λ t. kept_of p e ≡ cond t (sum (retired_by ms e) m.value.content) (retired_by ms e) → cond t (difference (kept_of p e) m.value.content) (kept_of p e) ≡ retired_by ms e) [
          | true ↦ λ eq. ap (λ c. difference c m.value.content) eq ∙ difference-sum (retired_by ms e) m.value.content
          | false ↦ λ eq. eq
        ] (outside_there e)

-- room in the hand's store
pub transit_roomed : (p : Stores) (t : TransitView) (b : ℕ) → t ≡ with_hand p.transit b (record { value = (held_at p.transit.hand b).value; room = (held_at t.hand b).room }) → (held_at p.transit.hand b).room ≤ (held_at t.hand b).room → IsRoomed p (record p { transit = t })
transit_roomed p t b is le =
    let x : Held = record { value = (held_at p.transit.hand b).value; room = (held_at t.hand b).room } in
    forward p (record p { transit = t }) (lists_of p) (store_of p) (kept_of p)
    (hand_half p t b x (store_of p) is le (λ e. keeps content_in_store p.transit.hand b x (empty_hand Nat) refl e))
    (ap (λ (u : TransitView). map content_in_store u.hand) is ∙ map_set content_in_store p.transit.hand b x
    ∙ ap (slice_set (given_up_in p) b) (sym (read_map content_in_store p.transit.hand b (empty_hand Nat))) ∙ set_same (given_up_in p) b _)
    refl

-- a purse
module _ (p : Stores) (n : ℕ) (l : List BalanceView) where
  pub taken_of_purse : (w : ValueView) (a : Amount) → IsPurseOf (lists_of p) n w → l ≡ taken_at p.purses n w.content → a ≡ record { brand = (store_at p.purses n).amount.brand; value = w } → GoesIn (store_at l n) a → IsTaken p (record p { purses = l }) (Purse n) (purse_at (lists_of p).purses n).brand w
  taken_of_purse w a source is made goes = purse_taken p n l w (purse_made p n source.made) (purse_at (lists_of p).purses n).brand is
      (subst (λ x. GoesIn (store_at l n) x) (made ∙ (λ i. record { brand = (sym (purse_read p.purses n) i).brand; value = w })) goes)

  pub given_to_purse : (a : Amount) (room : ℕ) → IsPurseFor (lists_of p) n a → room_at p.purses n ≤ room → l ≡ put_in_room p.purses n a.value.content room → ComesOut (store_at l n) a.value → IsGiven p (record p { purses = l }) (Purse n) a.brand a.value
  given_to_purse a room target le is out = purse_given p n l a.value (purse_made p n target.made) a.brand room is le (ap (λ (x : Amount). x.brand) (sym (purse_read p.purses n)) ∙ target.meet.brand) out
