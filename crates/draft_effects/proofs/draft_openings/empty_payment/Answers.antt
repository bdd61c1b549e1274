use Rattle.std.proofs.Common.{◌≡◌, ap, length, refl, sym, ◌∙◌}
use Rattle.draft_reads.specs.amount_math.ValueView.{ValueView}
use Rattle.draft_reads.specs.ertp_mint.Stocks.{empty_amount}
use Rattle.draft_reads.specs.vault_model.Lists.{amount_of}
use Rattle.draft_reads.specs.vault.Drafts.{DraftState}
use Rattle.draft_reads.specs.world_state.Rights.{kind_at}
use Rattle.draft_reads.proofs.Undoing.{clean_back}
use Rattle.draft_effects.proofs.EmptySlots.{fits_none, may_none}
use Rattle.draft_effects.proofs.Openings.{payment_now, reach_next}
use Rattle.draft_effects.proofs.draft_openings.empty_payment.Goals as goal

pub issue-requires-clause-may : goal.issue-requires-clause-may
issue-requires-clause-may c = may_none c.count_anew.new.self.now.out c.supply.result.now.out c.args.brand c.supply.ensures.supply c.empty.result c.minted-minted.result (ap (λ (w : ValueView). w.content) c.empty.ensures) c.minted-minted.ensures.minted c.minted-minted.ensures.bounded
    (fits_none c.count_anew.new.self.now.out c.supply-2.result.now.out c.args.brand c.supply-2.ensures.supply c.empty.result (ap (λ (w : ValueView). w.content) c.empty.ensures) (ap (λ (d : DraftState). kind_at d.now.out c.args.brand) c.count_anew.ensures ∙ c.requires.kind ∙ sym (ap (λ (w : ValueView). w.kind) c.empty.ensures)) c.kind-fits.ensures.fits)

pub returns-in_err-parcel-clause-back : goal.returns-in_err-parcel-clause-back
returns-in_err-parcel-clause-back c = rw (c.in_err-parcel.ensures.err, c.count_anew.ensures) (clean_back c.args.draft.now c.args.draft.now refl c.valid.ensures c.requires.clean)

pub put-requires-clause-arrives : goal.put-requires-clause-arrives
put-requires-clause-arrives c =
    let d = c.args.draft.now in
    let parcel : c.in_ok-parcel.parcel ≡ empty_amount c.args.brand c.args.kind = c.in_ok-parcel.ensures.parcel ∙ ap (amount_of c.args.brand) c.empty.ensures in
    let next : c.made-payment.result ≡ length d.now.payments = c.made-payment.ensures.made ∙ ap length c.payments.ensures.views ∙ ap (λ (x : DraftState). length x.now.payments) c.count_anew.ensures in
    rw (parcel) (reach_next d c.requires.clean c.valid.ensures c.issue.new.draft c.args.brand c.made-payment.result c.args.kind (rw (c.count_anew.ensures, c.empty.ensures) at c.in_ok-parcel.ensures.ok) next c.requires.room)

pub returns-clause-ok : goal.returns-clause-ok
returns-clause-ok c =
    let d = c.args.draft.now in
    let parcel : c.in_ok-parcel.parcel ≡ empty_amount c.args.brand c.args.kind = c.in_ok-parcel.ensures.parcel ∙ ap (amount_of c.args.brand) c.empty.ensures in
    let next : c.made-payment.result ≡ length d.now.payments = c.made-payment.ensures.made ∙ ap length c.payments.ensures.views ∙ ap (λ (x : DraftState). length x.now.payments) c.count_anew.ensures in
    payment_now d c.requires.clean c.issue.new.draft c.put.new.draft c.args.brand c.made-payment.result c.args.kind (rw (c.count_anew.ensures, c.empty.ensures) at c.in_ok-parcel.ensures.ok) next (rw (parcel) at c.in_ok-put.ensures.ok)
