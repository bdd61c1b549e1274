use Rattle.std.proofs.Common.{◌≡◌, true, false, ap, arith, length, refl, subst, sym, ◌∙◌}
use Rattle.std.specs.Prelude.{IsErr, is_none}
use Rattle.draft_reads.proofs.lemmas.ListEdits.{length_map}
use Rattle.draft_reads.specs.vault_model.Seats.{kept_seat_at}
use Rattle.draft_reads.specs.seats.Staging.{without_staged}
use Rattle.draft_reads.specs.seats.Store.{AreOpen}
use Rattle.draft_reads.specs.vault.Memory.{kept_seat}
use Rattle.draft_reads.specs.Views.{CanGoBack}
use Rattle.draft_reads.proofs.Undoing.{clean_back}
use Rattle.draft_effects.proofs.Stagings.{last_read, let_go_so, none_now, none_staged, not_both, ok_of, staged_back}
use Rattle.draft_effects.proofs.draft_staging.unstage.Goals as goal

pub returns-then-seat-made-clause-now : goal.returns-then-seat-made-clause-now
returns-then-seat-made-clause-now c =
    let d = c.args.draft.now in
    let seats = c.seats.result.now.seats in
    let n = c.args.seat in
    none_now d c.requires.clean n (none_staged d c.requires.clean seats c.seats.ensures.seats n (subst (AreOpen seats) c.seats.ensures.staging c.staged_are_open.ensures)
    (λ lt. absurd (omega (arith, lt, c.if-seat-made.true, c.made.ensures.made, ap length c.seats-2.ensures.seats, length_map kept_seat c.seats-2.result.now.seats))))

pub returns-then-seat-made-clause-back : goal.returns-then-seat-made-clause-back
returns-then-seat-made-clause-back c = clean_back c.args.draft.now c.args.draft.now refl c.valid.ensures c.requires.clean

pub returns-then-is_open-clause-now : goal.returns-then-is_open-clause-now
returns-then-is_open-clause-now c =
    let d = c.args.draft.now in
    let n = c.args.seat in
    let is : is_none (kept_seat_at d.now.seats n).last ≡ true = ap is_none (last_read d c.requires.clean c.seats-3.result.now.seats c.seats-3.ensures.seats n) ∙ sym c.is_open.ensures ∙ c.if-is_open.true in
    let never = λ (e : IsErr c.unstage.result). not_both (kept_seat_at d.now.seats n).last is (c.unstage.ensures.exited.0 e) in
    let_go_so d c.unstage.new.self n c.requires.clean (ok_of c.unstage.result never c.unstage.ensures.ok) (ok_of c.unstage.result never c.unstage.ensures.looks)

pub returns-then-is_open-clause-back : goal.returns-then-is_open-clause-back
returns-then-is_open-clause-back c =
    let d = c.args.draft.now in
    let n = c.args.seat in
    let is : is_none (kept_seat_at d.now.seats n).last ≡ true = ap is_none (last_read d c.requires.clean c.seats-3.result.now.seats c.seats-3.ensures.seats n) ∙ sym c.is_open.ensures ∙ c.if-is_open.true in
    let never = λ (e : IsErr c.unstage.result). not_both (kept_seat_at d.now.seats n).last is (c.unstage.ensures.exited.0 e) in
    subst (CanGoBack d) (sym (ok_of c.unstage.result never c.unstage.ensures.ok)) (staged_back d c.requires.clean c.valid.ensures (without_staged n d.staging))

pub returns-else-is_open-clause-now : goal.returns-else-is_open-clause-now
returns-else-is_open-clause-now c =
    let d = c.args.draft.now in
    let n = c.args.seat in
    let seats = c.seats.result.now.seats in
    none_now d c.requires.clean n (none_staged d c.requires.clean seats c.seats.ensures.seats n (subst (AreOpen seats) c.seats.ensures.staging c.staged_are_open.ensures)
    (λ lt. ap is_none (last_read d c.requires.clean c.seats-3.result.now.seats c.seats-3.ensures.seats n) ∙ sym c.is_open.ensures ∙ c.if-is_open.false))

pub returns-else-is_open-clause-back : goal.returns-else-is_open-clause-back
returns-else-is_open-clause-back c = clean_back c.args.draft.now c.args.draft.now refl c.valid.ensures c.requires.clean
