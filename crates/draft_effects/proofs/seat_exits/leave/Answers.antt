use Rattle.std.proofs.Common.{◌≡◌, ap, arith, length, refl, subst, sym, ◌∙◌}
use Rattle.std.proofs.lemmas.Result.{on_ok_weaker}
use Rattle.draft_reads.specs.proposals.Shares.{AreShares}
use Rattle.draft_reads.specs.seats.Store.{AreOpen}
use Rattle.draft_reads.specs.vault.Drafts.{DraftState}
use Rattle.draft_reads.specs.world_state.Rights.{slots_at}
use Rattle.draft_effects.proofs.TransferSequences.{open_here}
use Rattle.draft_reads.specs.Views.{rights_in}
use Rattle.draft_reads.proofs.Undoing.{clean_back}
use Rattle.draft_effects.proofs.Exits.{closed_can, closed_clean, left_now, made_here, shares_are, slots_few}
use Rattle.draft_effects.proofs.seat_exits.leave.Goals as goal

pub close-requires-clause-made : goal.close-requires-clause-made
close-requires-clause-made c = made_here c.args.draft.now c.args.seat c.requires.is_open

pub close-requires-clause-is_open : goal.close-requires-clause-is_open
close-requires-clause-is_open c = open_here c.args.draft.now.now c.args.seat (made_here c.args.draft.now c.args.seat c.requires.is_open) c.requires.is_open

pub returns-in_err-last-clause-back : goal.returns-in_err-last-clause-back
returns-in_err-last-clause-back c = rw (c.in_err-last.ensures.err) (clean_back c.args.draft.now c.args.draft.now refl c.valid.ensures c.requires.clean)

pub pay_out-requires-clause-clean : goal.pay_out-requires-clause-clean
pay_out-requires-clause-clean c = rw (c.in_ok-last.ensures.ok) (closed_clean c.args.draft.now c.args.seat (made_here c.args.draft.now c.args.seat c.requires.is_open) c.requires.clean)

pub pay_out-requires-clause-few : goal.pay_out-requires-clause-few
pay_out-requires-clause-few c =
    let d = c.args.draft.now in
    let n = c.args.seat in
    let made = made_here d n c.requires.is_open in
    let shares : c.shares.result.now ≡ slots_at (rights_in d).slots n = c.shares.ensures.value ∙ c.in_ok-last.ensures.last ∙ sym (shares_are d n made) in
    let first : c.made-first.result ≡ length d.now.payments = c.made-first.ensures.made ∙ ap length c.payments.ensures.views in
    rw (first, shares) (slots_few d n made c.requires.is_open c.valid.ensures (omega (arith, c.made-first.ensures.few, ap length c.payments.ensures.views, c.payments.ensures.owed)))

pub pay_out-requires-clause-can : goal.pay_out-requires-clause-can
pay_out-requires-clause-can c =
    let d = c.args.draft.now in
    let n = c.args.seat in
    let made = made_here d n c.requires.is_open in
    let shares : c.shares.result.now ≡ slots_at (rights_in d).slots n = c.shares.ensures.value ∙ c.in_ok-last.ensures.last ∙ sym (shares_are d n made) in
    let first : c.made-first.result ≡ length d.now.payments = c.made-first.ensures.made ∙ ap length c.payments.ensures.views in
    let apart : AreShares (slots_at (rights_in d).slots n) = subst AreShares (c.in_ok-last.ensures.last ∙ sym (shares_are d n made)) c.shares.ensures.shares in
    rw (c.in_ok-last.ensures.ok, first, shares) (closed_can d n made c.requires.is_open c.valid.ensures apart.apart c.requires.kinds (omega (arith, c.made-first.ensures.few, ap length c.payments.ensures.views, c.payments.ensures.owed)))

pub returns-clause-ok : goal.returns-clause-ok
returns-clause-ok c =
    let d = c.args.draft.now in
    let n = c.args.seat in
    let made = made_here d n c.requires.is_open in
    let shares : c.shares.result.now ≡ slots_at (rights_in d).slots n = c.shares.ensures.value ∙ c.in_ok-last.ensures.last ∙ sym (shares_are d n made) in
    let first : c.made-first.result ≡ length d.now.payments = c.made-first.ensures.made ∙ ap length c.payments.ensures.views in
    let apart : AreShares (slots_at (rights_in d).slots n) = subst AreShares (c.in_ok-last.ensures.last ∙ sym (shares_are d n made)) c.shares.ensures.shares in
    on_ok_weaker c.pay_out.result (λ paid. left_now d n made c.seats.result.now.seats
    (c.seats.ensures.seats ∙ ap (λ (x : DraftState). x.now.seats) c.in_ok-last.ensures.ok)
    (subst (AreOpen c.seats.result.now.seats) (c.seats.ensures.staging ∙ ap (λ (x : DraftState). x.staging) c.in_ok-last.ensures.ok) c.staged_are_open.ensures)
    c.pay_out.new.draft apart.apart (rw (c.in_ok-last.ensures.ok, first, shares) at paid)) c.pay_out.ensures.ok

pub returns-clause-payouts : goal.returns-clause-payouts
returns-clause-payouts c =
    let d = c.args.draft.now in
    let n = c.args.seat in
    let shares : c.shares.result.now ≡ slots_at (rights_in d).slots n = c.shares.ensures.value ∙ c.in_ok-last.ensures.last ∙ sym (shares_are d n (made_here d n c.requires.is_open)) in
    let first : c.made-first.result ≡ length d.now.payments = c.made-first.ensures.made ∙ ap length c.payments.ensures.views in
    rw (first, shares) at c.pay_out.ensures.payouts

pub returns-clause-moves : goal.returns-clause-moves
returns-clause-moves c =
    let d = c.args.draft.now in
    let n = c.args.seat in
    let shares : c.shares.result.now ≡ slots_at (rights_in d).slots n = c.shares.ensures.value ∙ c.in_ok-last.ensures.last ∙ sym (shares_are d n (made_here d n c.requires.is_open)) in
    let first : c.made-first.result ≡ length d.now.payments = c.made-first.ensures.made ∙ ap length c.payments.ensures.views in
    rw (first, shares) at c.pay_out.ensures.moves

pub returns-clause-back : goal.returns-clause-back
returns-clause-back c = record {
  kept = c.pay_out.ensures.back.kept ∙ ap (λ (x : DraftState). x.kept) c.in_ok-last.ensures.ok;
  goes = c.pay_out.ensures.back.goes;
}
