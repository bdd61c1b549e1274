-- Takes and puts as the code makes them, with what it pushed.
use Rattle.std.proofs.Common.{◌≡◌, ℕ, ◌+◌, Bool, false, List, [], ◌∷◌, ◌++◌, sym, ◌∙◌, ap, subst, arith}
use Rattle.vault_model.specs.amount_math.Content.{nothing}
use Rattle.vault_model.specs.amount_math.Held.{HasRoom, keys_in}
use Rattle.vault_model.specs.amount_math.ValueView.{ValueView, keys_of}
use Rattle.vault_model.specs.amount_math.declared.Amount.{Amount}
use Rattle.vault_model.specs.ertp_mint.BrandSupply.{MayIssue, supply_at}
use Rattle.vault_model.specs.declared.Undo.{Undo}
use Rattle.vault_model.specs.declared.Undo.TheVariants.{Moves}
use Rattle.vault_model.specs.Lists.{CanGive, CanTake, Lists, MayCome, kind_of}
use Rattle.vault_model.specs.rights_model.declared.Holder.{Holder}
use Rattle.vault_model.specs.rights_model.declared.Holder.TheVariants.{Hand, Outside}
use Rattle.vault_model.specs.rights_model.declared.Movement.{Movement}
use Rattle.vault_model.specs.rights_model.Table.{movement}
use Rattle.transit.specs.Transit.{in_store, supply_in}
use Rattle.vault.specs.Memory.{IsGiven, IsRoomed, IsTaken, lists_of, rooms_of, store_of}
use Rattle.vault.specs.Drafts.{HandKeeps, IsDraft, IsOfBrand, after, draft_of, given_at}
use Rattle.vault.specs.declared.stores.Stores.{Stores}
use Rattle.vault.proofs.Halves.{supply_read}
use Rattle.vault.proofs.GivenUp.{given_there}
use Rattle.vault.proofs.Steps.{brands_there, same_store}
use Rattle.vault.proofs.Taking.{can_retire, draft_put, draft_put_after, draft_taken, draft_taken_after}

module _ (p q : Stores) (ks ls : List Undo) (ms ns : List Movement) (keys : ℕ) (spoiled : Bool) (to : Holder) (a : Amount) (m : Movement) (sound : spoiled ≡ false) (is : IsDraft p ks ms keys spoiled) (keep : HandKeeps (draft_of p ks ms spoiled) a) (gave : IsGiven p q to a.brand a.value)
    (steps : ls ≡ ks ++ Moves ∷ []) (moves : ns ≡ ms ++ m ∷ []) (noted : m ≡ movement a.brand Hand to a.value) where
  all_moves : ns ≡ ms ++ movement a.brand Hand to a.value ∷ []
  all_moves = moves ∙ ap (λ x. ms ++ x ∷ []) noted

  is_sound : IsDraft p ks ms keys false
  is_sound = subst (λ t. IsDraft p ks ms keys t) sound is

  keep_sound : HandKeeps (draft_of p ks ms false) a
  keep_sound = subst (λ t. HandKeeps (draft_of p ks ms t) a) sound keep

  pub put_keeps_so : CanGive (lists_of p) to a.brand a.value → IsDraft q ls ns keys spoiled
  put_keeps_so can = subst (λ t. IsDraft q ls ns keys t) (sym sound) (subst (λ l. IsDraft q l ns keys false) (sym steps) (subst (λ l. IsDraft q (ks ++ Moves ∷ []) l keys false) (sym all_moves)
      (draft_put p q ks ms keys to a is_sound gave can keep_sound)))

  pub put_after_so : CanGive (lists_of p) to a.brand a.value → draft_of q ls ns spoiled ≡ after (draft_of p ks ms spoiled) (movement a.brand Hand to a.value)
  put_after_so can =
      (λ i. draft_of q (steps i) (all_moves i) (sound i))
      ∙ draft_put_after p q ks ms keys to a is_sound gave can
      ∙ ap (λ t. after (draft_of p ks ms t) (movement a.brand Hand to a.value)) (sym sound)

  pub can_retire_so : CanGive (lists_of p) Outside a.brand a.value
  can_retire_so = can_retire p ks ms keys a is_sound keep_sound

module _ (p r q : Stores) (ks ls : List Undo) (ms ns : List Movement) (keys more : ℕ) (spoiled : Bool) (from : Holder) (b c : ℕ) (w : ValueView) (m : Movement) (sound : spoiled ≡ false) (is : IsDraft p ks ms keys spoiled) (roomed : IsRoomed p r) (took : IsTaken r q from b w) (can : CanTake (lists_of p) from b w) (at : c ≡ b)
    (steps : ls ≡ ks ++ Moves ∷ []) (moves : ns ≡ ms ++ m ∷ []) (noted : m ≡ movement c from Hand w) where
  moves_so : ns ≡ ms ++ movement b from Hand w ∷ []
  moves_so = moves ∙ ap (λ x. ms ++ x ∷ []) (noted ∙ ap (λ x. movement x from Hand w) at)

  was_sound : IsDraft p ks ms keys false
  was_sound = subst (λ t. IsDraft p ks ms keys t) sound is

  pub taken_after_so : draft_of q ls ns spoiled ≡ after (draft_of p ks ms spoiled) (movement b from Hand w)
  taken_after_so =
      (λ i. draft_of q (steps i) (moves_so i) (sound i))
      ∙ draft_taken_after p r q ks ms keys more from b w was_sound roomed took can
      ∙ ap (λ t. after (draft_of p ks ms t) (movement b from Hand w)) (sym sound)

  pub taken_keeps_so : IsOfBrand (lists_of p) b w → more ≡ keys + keys_in w.kind w.content → HasRoom (kind_of (lists_of p) c) (keys_of (store_of p c) + more) ((rooms_of r).hand c) → IsDraft q ls ns more spoiled
  taken_keeps_so brand counted room = subst (λ t. IsDraft q ls ns more t) (sym sound) (subst (λ l. IsDraft q l ns more false) (sym steps) (subst (λ l. IsDraft q (ks ++ Moves ∷ []) l more false) (sym moves_so)
      (draft_taken p r q ks ms keys more from b w was_sound roomed took can brand counted (subst (λ x. HasRoom (kind_of (lists_of p) x) (keys_of (store_of p x) + more) ((rooms_of r).hand x)) at room))))

-- what may come out, and that the hand's store has nothing then, where it had nothing
module _ (p r : Stores) (ks : List Undo) (ms : List Movement) (keys : ℕ) (spoiled : Bool) (b : ℕ) (w : ValueView) (roomed : IsRoomed p r) (brand : IsOfBrand (lists_of p) b w) where
  pub none_in_store : given_at (draft_of p ks ms spoiled) b ≡ nothing → in_store r.transit b ≡ nothing
  none_in_store none = same_store p r roomed.given_up b ∙ sym (given_there p b (omega (arith, brand.made, brands_there p))) ∙ none

  same_supply : supply_in r.transit b ≡ supply_at (lists_of p).out b
  same_supply = sym (supply_read r.transit.out b) ∙ ap (λ (s : Lists). supply_at s.out b) roomed.lists

  pub may_there : MayIssue (supply_in r.transit b) w → MayIssue (supply_at (lists_of p).out b) w
  may_there may = subst (λ s. MayIssue s w) same_supply may

  pub may_come : MayIssue (supply_in r.transit b) w → MayCome (lists_of p) b w
  may_come may = record {
    made = brand.made;
    kind = brand.kind;
    fits = (may_there may).fits;
    minted = (may_there may).minted;
  }
