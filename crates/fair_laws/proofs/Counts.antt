-- Good effects keep the numbers of seats, instances, facets and purses within 32 bits.
use Rattle.std.specs.Prelude.{◌≡◌, ℕ, List, [], ◌∷◌, length, refl}
use Rattle.std.proofs.Common.{◌∙◌, arith}
use Rattle.fair_rows.specs.amount_math.ValueView.{ValueView}
use Rattle.delivery_laws.specs.actors.Tables.{module_at, new_instance}
use Rattle.delivery_laws.proofs.lemmas.ListEdits.{length_push, length_set}
use Rattle.fair_rows.specs.rights_model.declared.Holder.{Holder}
use Rattle.fair_rows.specs.rights_model.declared.Holder.TheVariants.{Purse, Payment, Slot, Hand, Outside}
use Rattle.fair_rows.specs.rights_model.declared.Movement.{Movement}
use Rattle.delivery_laws.specs.vault_model.Lists.{less, more, purse_at}
use Rattle.delivery_laws.specs.world_state.Good.{AreGood, IsGoodEffect, rights_for}
use Rattle.delivery_laws.specs.world_state.Rights.{Rights, all_moved, given, moved, slots_at, taken}
use Rattle.delivery_laws.specs.world_state.Worlds.{Effect, State, after, after_all, burn_and_escrows, empty_seat, exit, invitation_move, invite, left_seat, make_facet, moves, new_purse, nothing_of, new_seat, of_own, offer, offered_by, seat_at, start}
use Rattle.delivery_laws.specs.world_state.Worlds.{add_issuer, halt, keep_state, publish, stop}
use Rattle.fair_laws.specs.Views.{IsCounted}

-- ---- movements make no purse

purses_taken : (r : Rights) (h : Holder) (b : ℕ) (w : ValueView) → length (taken r h b w).purses ≡ length r.purses
purses_taken r (Purse n) b w = length_set r.purses n (less (purse_at r.purses n) w.content)
purses_taken r (Payment n) b w = refl
purses_taken r (Slot s k) b w = refl
purses_taken r Hand b w = refl
purses_taken r Outside b w = refl

purses_given : (r : Rights) (h : Holder) (b : ℕ) (w : ValueView) → length (given r h b w).purses ≡ length r.purses
purses_given r (Purse n) b w = length_set r.purses n (more (purse_at r.purses n) w.content)
purses_given r (Payment n) b w = refl
purses_given r (Slot s k) b w = refl
purses_given r Hand b w = refl
purses_given r Outside b w = refl

purses_moved : (r : Rights) (ms : List Movement) → length (all_moved r ms).purses ≡ length r.purses
purses_moved r [] = refl
purses_moved r (m ∷ ms) = purses_moved (moved r m) ms ∙ purses_given (taken r m.from m.brand m.value) m.to m.brand m.value ∙ purses_taken r m.from m.brand m.value

-- ---- each effect

-- as many as before
alike : (w next : State) → length next.seats ≡ length w.seats → length next.tables.instances ≡ length w.tables.instances → length next.facets ≡ length w.facets → length next.rights.purses ≡ length w.rights.purses → IsCounted w → IsCounted next
alike w next seats instances facets purses is = record {
  seats = omega (arith, seats, is.seats);
  instances = omega (arith, instances, is.instances);
  facets = omega (arith, facets, is.facets);
  purses = omega (arith, purses, is.purses);
}

pub counted_after : (w : State) (e : Effect) → IsGoodEffect w e → IsCounted w → IsCounted (after w e)
counted_after w (new_purse b) good is = record {
  seats = is.seats;
  instances = is.instances;
  facets = is.facets;
  purses = omega (arith, good.few, length_push w.rights.purses (nothing_of w b));
}
counted_after w (moves ms) good is = alike w (after w (moves ms)) refl refl refl (purses_moved w.rights ms) is
counted_after w (offer o) good is = record {
  seats = omega (arith, good.seats, length_push w.seats (new_seat (offered_by w o).instance o.proposal));
  instances = is.instances;
  facets = is.facets;
  purses = omega (arith, is.purses, purses_moved (rights_for w o) (burn_and_escrows o));
}
counted_after w (empty_seat i rule) good is = record {
  seats = omega (arith, good.seats, length_push w.seats (new_seat i (of_own rule)));
  instances = is.instances;
  facets = is.facets;
  purses = is.purses;
}
counted_after w (exit s cause) good is = alike w (after w (exit s cause)) (length_set w.seats s (left_seat (seat_at w.seats s) (slots_at w.rights.slots s))) refl refl refl is
counted_after w (invite d) good is = alike w (after w (invite d)) refl refl refl (purses_moved w.rights (invitation_move w ∷ [])) is
counted_after w (start s) good is = record {
  seats = is.seats;
  instances = omega (arith, good.instances, length_push w.tables.instances (new_instance s.installation s.issuers s.terms (module_at w.tables.installations s.installation)));
  facets = is.facets;
  purses = is.purses;
}
counted_after w (add_issuer i issuer) good is = alike w (after w (add_issuer i issuer)) refl (length_set w.tables.instances i _) refl refl is
counted_after w (publish i facet) good is = alike w (after w (publish i facet)) refl (length_set w.tables.instances i _) refl refl is
counted_after w (keep_state i values) good is = alike w (after w (keep_state i values)) refl (length_set w.tables.instances i _) refl refl is
counted_after w (stop i) good is = alike w (after w (stop i)) refl (length_set w.tables.instances i _) refl refl is
counted_after w (halt i) good is = alike w (after w (halt i)) refl (length_set w.tables.instances i _) refl refl is
counted_after w (make_facet f) good is = record {
  seats = is.seats;
  instances = is.instances;
  facets = omega (arith, good.room, length_push w.facets f);
  purses = is.purses;
}
counted_after w e good is = alike w (after w e) refl refl refl refl is

pub counted_after_all : (w : State) (es : List Effect) → AreGood w es → IsCounted w → IsCounted (after_all w es)
counted_after_all w [] good is = is
counted_after_all w (e ∷ es) good is = counted_after_all (after w e) es good.1 (counted_after w e good.0 is)
