use Rattle.std.proofs.Common.{◌≡◌, true, false, sym, ◌∙◌}
use Rattle.std.proofs.lemmas.Bool.{true≢false}
use Rattle.told_rights.proofs.rights.Rights.passes.Goals as goal
use Rattle.told_rights.proofs.rights.Rights.passes.Goals.{else-is_live, else-live, then-is_live, then-live}

pub returns-then-fits : goal.returns-then-fits
returns-then-fits c = elim c.if-live.branch [
  | then-live w ↦ elim c.if-is_live.branch [
    | then-is_live v ↦
        let suits = (w.fits.ensures c.requires.form.0 c.requires.form.1.3).0 (sym w.value-is ∙ c.if-fits.true) in
        let from = c.is_live.ensures.0 v.if-is_live.true in
        let to = v.is_live-live.ensures.0 (sym v.live-is ∙ w.if-live.true) in
        (λ m. record { suits = suits; live_from = from; live_to = to; mintable = c.may_mint.ensures.0 m }, λ p. c.may_mint.ensures.1 p.mintable)
    | else-is_live v ↦ absurd (true≢false (sym w.if-live.true ∙ v.live-is ∙ v.if-is_live.false))
  ]
  | else-live w ↦ absurd (true≢false (sym c.if-fits.true ∙ w.value-is ∙ w.if-live.false))
]

pub returns-else-fits : goal.returns-else-fits
returns-else-fits c = (
  λ t. absurd (true≢false (sym t ∙ c.if-fits.false)),
  λ p. elim c.if-live.branch [
    | then-live w ↦ w.value-is ∙ (w.fits.ensures c.requires.form.0 c.requires.form.1.3).1 p.suits
    | else-live w ↦ elim c.if-is_live.branch [
      | then-is_live v ↦ absurd (true≢false (sym (v.live-is ∙ v.is_live-live.ensures.1 p.live_to) ∙ w.if-live.false))
      | else-is_live v ↦ absurd (true≢false (sym (c.is_live.ensures.1 p.live_from) ∙ v.if-is_live.false))
    ]
  ],
)
