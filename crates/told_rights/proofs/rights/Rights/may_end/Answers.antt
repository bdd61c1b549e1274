use Rattle.std.proofs.Common.{◌≡◌, true, false, sym, ◌∙◌}
use Rattle.std.proofs.lemmas.Bool.{true≢false}
use Rattle.told_rights.proofs.Ends.{balanced, bounded, bounded_by, emptied, emptied_of, hand_of, kept_kind, within_of}
use Rattle.told_rights.proofs.rights.Rights.may_end.Goals as goal
use Rattle.told_rights.proofs.rights.Rights.may_end.Goals.{else-is_hand_empty, then-is_hand_empty}

pub returns-then-are_within : goal.returns-then-are_within
returns-then-are_within c = λ i t. elim c.if-is_hand_empty.branch [
  | then-is_hand_empty w ↦
      let k = c.args.self.now in
      let hand = c.is_hand_empty.ensures.0 w.if-is_hand_empty.true in
      let within = (w.are_within.ensures (kept_kind k) (bounded k i t)).0 (sym w.value-is ∙ c.if-are_within.true) in
      (λ e. (balanced k i t hand within, emptied k i t (c.are_emptied.ensures.0 e)), λ h. c.are_emptied.ensures.1 (emptied_of k i t h.1))
  | else-is_hand_empty w ↦ absurd (true≢false (sym c.if-are_within.true ∙ w.value-is ∙ w.if-is_hand_empty.false))
]

pub returns-else-are_within : goal.returns-else-are_within
returns-else-are_within c = λ i t. (
  λ f. absurd (true≢false (sym f ∙ c.if-are_within.false)),
  λ h. elim c.if-is_hand_empty.branch [
    | then-is_hand_empty w ↦ w.value-is ∙ (w.are_within.ensures h.0.kind_of (bounded_by c.args.self.now i t h.0)).1 (within_of c.args.self.now i t h.0)
    | else-is_hand_empty w ↦ absurd (true≢false (sym (c.is_hand_empty.ensures.1 (hand_of c.args.self.now i t h.0)) ∙ w.if-is_hand_empty.false))
  ],
)
