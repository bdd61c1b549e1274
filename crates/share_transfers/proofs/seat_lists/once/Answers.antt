use Rattle.std.proofs.Common.{[], refl, ◌≡◌, ℕ, ◌==◌, Bool, List, get_or, not, true, false, nat_cmp, sym, ap, subst, ◌∙◌}
use Rattle.std.specs.Bool.{OnFalse}
use Rattle.std.specs.BTreeSet.{contains}
use Rattle.std.specs.List.{list_any}
use Rattle.std.specs.BTreeMap.{is_at}
use Rattle.std.proofs.lemmas.List.Sums.{fold_more}
use Rattle.rearrange.specs.Transfers.{with_seat}
use Rattle.rearrange.proofs.Counts.{puts_new, puts_none, seen_more}
use Rattle.share_transfers.proofs.seat_lists.once.Goals.{then-branch+in_ok-push, else-branch}
use Rattle.share_transfers.proofs.seat_lists.once.Goals as goal

absent : (old added : Bool) → added ≡ not old → added ≡ true → old ≡ false
absent true added e is = sym is ∙ e
absent false added e is = refl

present : (old added : Bool) → added ≡ not old → added ≡ false → old ≡ true
present true added e is = refl
present false added e is = sym is ∙ e

pub loop-seat-preserved : goal.loop-seat-preserved
loop-seat-preserved c =
    let seats = c.args.seats.now in
    let at = c.loop-seat.seat-index in
    let all = c.loop-seat.all.items in
    let inv = c.loop-seat.invariant in
    let seat = get_or seats at 0 in
    let more = fold_more with_seat [] seats at 0 c.loop-seat-test.true in
    let same = more ∙ ap (λ (ss : List ℕ). with_seat ss seat) (sym inv.same) in
    elim c.if-branch.branch [
      | then-branch+in_ok-push w ↦
          let new : list_any (λ other. other == seat) all ≡ false = sym (inv.seen seat) ∙ absent (contains nat_cmp c.loop-seat.seen seat) c.in_ok-insert.field-0 c.in_ok-insert.ensures.added w.if-branch.true in
          let is = ap (λ v. v.items) w.all-is ∙ w.in_ok-push.ensures.items in
          record {
            same = is ∙ sym (puts_new all seat new) ∙ sym same;
            seen = λ n. seen_more all seat n (contains nat_cmp c.loop-seat.seen n) (contains nat_cmp c.insert.new.self n) (inv.seen n) (c.in_ok-insert.ensures.updates.0 n) ∙ ap (λ ss. list_any (λ other. other == n) ss) (sym is);
          }
      | else-branch w ↦
          let old : list_any (λ other. other == seat) all ≡ true = sym (inv.seen seat) ∙ present (contains nat_cmp c.loop-seat.seen seat) c.in_ok-insert.field-0 c.in_ok-insert.ensures.added w.if-branch.false in
          let is = ap (λ v. v.items) w.all-is in
          let same_keys = subst (λ (b : Bool). OnFalse b (c.insert.new.self.keys ≡ c.loop-seat.seen.keys)) w.if-branch.false c.in_ok-insert.ensures.unchanged in
          record {
            same = is ∙ sym (puts_none all seat old) ∙ sym same;
            seen = λ n. ap (λ (ks : List ℕ). list_any (is_at (nat_cmp n)) ks) same_keys ∙ inv.seen n ∙ ap (λ ss. list_any (λ other. other == n) ss) (sym is);
          }
    ]
