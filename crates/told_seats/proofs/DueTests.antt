-- What tests of due movements say.
use Rattle.std.proofs.Common.{◌≡◌, ℕ, Bool, true, List, Option, sym}
use Rattle.std.specs.Prelude.{◌↔◌}
use Rattle.row_records.specs.amount_math.Content.{Content, one_of}
use Rattle.row_records.specs.fair_rows.Rows.{IsBurn, IsPayout}
use Rattle.row_records.specs.fair_rows.Seats.{SlotName}
use Rattle.row_records.specs.fair_rows.Values.{content_of}
use Rattle.row_records.specs.rights_model.declared.Holder.TheVariants.{Outside, Payment, Slot}
use Rattle.row_records.specs.rights_model.declared.Movement.{Movement}
use Rattle.row_records.specs.turn_rows.Turns.{Move}
use Rattle.told_seats.specs.DueViews.{PaysNew}

pub burn_is : (m : Move) (b : Bool) → m.brand ≡ 0 → ((p : ℕ) × (m.from ≡ Payment p)) → m.to ≡ Outside → (b ≡ true ↔ ((k : List ℕ) × (content_of m.value ≡ one_of k))) → b ≡ true ↔ IsBurn m
burn_is m b brand (p, from) to once = (
  λ h. record { payment = p; invitation = (once.0 h).0; brand = brand; from = from; to = to; one = (once.0 h).1 },
  λ burn. once.1 (burn.invitation, burn.one),
)

pub payout_is : (moves : List Movement) (seat : ℕ) (slot : SlotName) (c : Content) (found : Option ℕ) (m : Move) (b : Bool) → m.brand ≡ slot.brand → m.from ≡ Slot seat slot.keyword → PaysNew moves found m.to
    → (b ≡ true ↔ (c ≡ content_of m.value)) → b ≡ true ↔ IsPayout moves seat slot c found m
payout_is moves seat slot c found m b brand from pays whole = (
  λ h. record { payment = pays.payment; named = pays.named; brand = brand; from = from; to = pays.is; whole = sym (whole.0 h); new = pays.new },
  λ payout. whole.1 (sym payout.whole),
)
