-- A take and a put as the draft's calls make them: room first, then the step.
use Rattle.std.proofs.Common.{◌≡◌, ℕ, ◌+◌, false, List, [], ◌∷◌, ◌++◌, length, reverse, refl, sym, ◌∙◌, ap, subst, arith}
use Rattle.vault_model.specs.amount_math.Content.{Contains, Contains-trans, count-sum, sum}
use Rattle.vault_model.specs.amount_math.Held.{HasRoom, keys_in, more_room, room_for_fewer}
use Rattle.vault_model.specs.amount_math.ValueView.{IsValue, ValueView, keys_of}
use Rattle.vault_model.specs.amount_math.declared.Amount.{Amount}
use Rattle.vault_model.specs.ertp_mint.BrandSupply.{supply_at}
use Rattle.vault_model.specs.declared.Undo.{Undo}
use Rattle.vault_model.specs.declared.Undo.TheVariants.{Moves}
use Rattle.vault_model.specs.Backwards.{in_hand}
use Rattle.vault_model.specs.Lists.{CanGive, CanTake, Lists, kind_of, slot_of}
use Rattle.vault_model.proofs.Sound.{hand_is_out}
use Rattle.vault_model.specs.rights_model.declared.Holder.{Holder}
use Rattle.vault_model.specs.rights_model.declared.Holder.TheVariants.{Purse, Payment, Slot, Hand, Outside}
use Rattle.vault_model.specs.rights_model.declared.Movement.{Movement}
use Rattle.vault_model.specs.rights_model.Table.{movement}
use Rattle.vault.specs.Memory.{IsGiven, IsRoomed, IsTaken, lists_of, rooms_of, store_of}
use Rattle.vault.specs.Drafts.{DraftState, HandKeeps, IsDraft, IsOfBrand, after, draft_of, given_at}
use Rattle.vault.specs.Asked.{IsSource, IsTarget, TakesIn, brand_of, held_by}
use Rattle.vault.specs.declared.stores.Stores.{Stores}
use Rattle.vault.proofs.Steps.{brands_there, put_after, put_keeps, room_stays, same_draft, take_after, take_keeps}

-- what is there can be taken
pub can_take : (s : Lists) (h : Holder) (w : ValueView) → IsSource s h w → Contains (held_by s h) w.content → CanTake s h (brand_of s h) w
can_take s (Purse n) w source has = record { made = source.made; brand = refl; kind = source.kind; has = has }
can_take s (Payment n) w source has = record { made = source.made; is = source.is }
can_take s (Slot v j) w source has = record { slot = source.slot; brand = refl; kind = source.kind; has = has }
can_take s Hand w source has = absurd source
can_take s Outside w source has = absurd source

-- and what is taken in can be given
pub can_give : (s : Lists) (h : Holder) (a : Amount) → IsTarget s h a → TakesIn s h a → CanGive s h a.brand a.value
can_give s (Purse n) a target value = record { made = target.made; meet = target.meet; value = value }
can_give s (Payment n) a target value = target.next
can_give s (Slot v j) a target value = record { slot = target.slot; meet = target.meet; value = subst (λ k. IsValue k (sum (slot_of s v j).value.content a.value.content)) (sym target.meet.kind) value }
can_give s Hand a target value = absurd target
can_give s Outside a target value = absurd target

-- what the hand keeps is in it
pub carried : (d : DraftState) (a : Amount) → HandKeeps d a → Contains (in_hand (reverse d.movements) a.brand) a.value.content
carried d a keep = record { each = λ k. omega (arith, keep.has.each k, count-sum (given_at d a.brand) a.value.content k) }

-- so it can be retired
pub can_retire : (p : Stores) (ks : List Undo) (ms : List Movement) (keys : ℕ) (a : Amount) → IsDraft p ks ms keys false → HandKeeps (draft_of p ks ms false) a → CanGive (lists_of p) Outside a.brand a.value
can_retire p ks ms keys a is keep = record {
  made = keep.brand.made;
  kind = keep.brand.kind;
  has = Contains-trans (supply_at (lists_of p).out a.brand).outstanding.content (in_hand (reverse ms) a.brand) a.value.content (hand_is_out (lists_of p) (in_hand (reverse ms)) is.valid.sound a.brand) (carried (draft_of p ks ms false) a keep);
}

module _ (p r q : Stores) (ks : List Undo) (ms : List Movement) (keys more : ℕ) (from : Holder) (b : ℕ) (w : ValueView) (is : IsDraft p ks ms keys false) (roomed : IsRoomed p r) (took : IsTaken r q from b w) (can : CanTake (lists_of p) from b w) where
  roomed_draft : IsDraft r ks ms keys false
  roomed_draft = room_stays p r ks ms keys false is roomed

  can_then : CanTake (lists_of r) from b w
  can_then = subst (λ (s : Lists). CanTake s from b w) (sym roomed.lists) can

  pub draft_taken_after : draft_of q (ks ++ Moves ∷ []) (ms ++ movement b from Hand w ∷ []) false ≡ after (draft_of p ks ms false) (movement b from Hand w)
  draft_taken_after = take_after r q ks ms keys more from b w roomed_draft took can_then ∙ ap (λ (d : DraftState). after d (movement b from Hand w)) (same_draft p r ks ms false roomed)

  pub draft_taken : IsOfBrand (lists_of p) b w → more ≡ keys + keys_in w.kind w.content → HasRoom (kind_of (lists_of p) b) (keys_of (store_of p b) + more) ((rooms_of r).hand b)
      → IsDraft q (ks ++ Moves ∷ []) (ms ++ movement b from Hand w ∷ []) more false
  draft_taken brand counted room = take_keeps r q ks ms keys more from b w roomed_draft took can_then
      (omega (arith, brand.made, brands_there r, ap (λ (s : Lists). length s.out) roomed.lists))
      (ap (λ (s : Lists). kind_of s b) roomed.lists ∙ brand.kind)
      counted
      (subst (λ (s : Lists). HasRoom (kind_of s b) more ((rooms_of q).hand b)) (sym roomed.lists)
      (more_room (kind_of (lists_of p) b) more ((rooms_of r).hand b) ((rooms_of q).hand b) (took.half.rooms.hand b)
      (room_for_fewer (kind_of (lists_of p) b) more (keys_of (store_of p b) + more) ((rooms_of r).hand b) (omega arith) room)))

module _ (p q : Stores) (ks : List Undo) (ms : List Movement) (keys : ℕ) (to : Holder) (a : Amount) (is : IsDraft p ks ms keys false) (gave : IsGiven p q to a.brand a.value) (can : CanGive (lists_of p) to a.brand a.value) where
  pub draft_put_after : draft_of q (ks ++ Moves ∷ []) (ms ++ movement a.brand Hand to a.value ∷ []) false ≡ after (draft_of p ks ms false) (movement a.brand Hand to a.value)
  draft_put_after = put_after p q ks ms keys to a.brand a.value is gave can

  pub draft_put : HandKeeps (draft_of p ks ms false) a → IsDraft q (ks ++ Moves ∷ []) (ms ++ movement a.brand Hand to a.value ∷ []) keys false
  draft_put keep = put_keeps p q ks ms keys to a.brand a.value is gave can
      (omega (arith, keep.brand.made, brands_there p)) keep.brand.kind keep.has
