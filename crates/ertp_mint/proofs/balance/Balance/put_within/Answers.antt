use Rattle.std.proofs.Common.{◌≡◌, ℕ, ◌∙◌, ap}
use Rattle.amount_math.specs.Held.{Held, with_more}
use Rattle.amount_math.specs.ValueView.{ValueView, fits_from_value}
use Rattle.ertp_mint.specs.Balances.{BalanceView, put_taken, with_taken}
use Rattle.ertp_mint.proofs.balance.Balance.put_within.Goals as goal

pub put_back-requires : goal.put_back-requires
put_back-requires c =
    let goes = rw (← c.self.view_is) at c.requires in
    rw c.into_parts-value.ensures (record { kind = goes.meet.kind; fits = fits_from_value _ _ goes.value; room = goes.room })

pub returns-clause-undone : goal.returns-clause-undone
returns-clause-undone c =
    let brand = c.self.inside.brand in
    let part = c.args.parcel.value.content in
    let more : c.put_back.new.self ≡ with_more c.self.inside.held part = c.put_back.ensures.more ∙ ap (λ (p : ℕ × ValueView). with_more c.self.inside.held p.1.content) c.into_parts-value.ensures in
    let old : BalanceView = record { amount = record { brand = brand; value = c.self.inside.held.value }; room = c.self.inside.held.room } in
    ap (λ (h : Held). with_taken (record { amount = record { brand = brand; value = h.value }; room = h.room }) part) more ∙ put_taken old part ∙ c.self.view_is
