-- Slots from which shares were taken one after another have what they have once the whole record is taken.
use Rattle.std.specs.Option.{option_map_or}
use Rattle.std.specs.Str.{bytes_eq}
use Rattle.std.proofs.Common.{◌≡◌, ℕ, ◌-◌, Bool, true, false, cond, List, [], ◌∷◌, Option, Some, None, refl, sym, ap, subst, ◌∙◌, arith}
use Rattle.std.proofs.lemmas.Slice.Eq.{bytes_eq-Decides}
use Rattle.rules.specs.proposals.Losses.{with_losses, without}
use Rattle.rules.proofs.proposals.Apart.{none_under-map}
use Rattle.rules.proofs.proposals.Under.{content_under-with_losses, under_map}
use Rattle.world_laws.specs.amount_math.Amount.{holding}
use Rattle.world_laws.specs.amount_math.Content.{Content, count, count-difference, count-nothing, difference, nothing}
use Rattle.world_laws.specs.amount_math.declared.Amount.{Amount}
use Rattle.rules.specs.rearrange.Slots.{is_safe}
use Rattle.rules.proofs.rearrange.Slots.{safe_if}
use Rattle.rules.specs.proposals.OfferSafety.{AreCovered, IsOfferSafe}
use Rattle.rules.specs.proposals.Shares.{AreApart, amount_under, content_under, keyed_share}
use Rattle.rules.specs.proposals.declared.allocations.Share.{Share}
use Rattle.rules.specs.proposals.declared.offers.Proposal.{Proposal}
use Rattle.world_laws.specs.vault_model.Lists.{less}
use Rattle.world_laws.specs.world_state.Rights.{shares_less}
use Rattle.rule_laws.proofs.SlotLists.{changed_to, moved_amount, still_safe, under_other, under_same, with_less}

abbrev content_in : Option Amount → Content
content_in o = option_map_or (λ (a : Amount). a.value.content) o nothing

abbrev pub lower : Share → Amount → Amount
lower r had = less had r.amount.value.content

abbrev pub opened_by_loss : Share → Amount
opened_by_loss r = holding (moved_amount r) nothing

abbrev pub next_of : List Share → Share → List Share
next_of cur r = shares_less r.keyword (moved_amount r) cur

own_less : (r : Share) (o : Option Amount) (e : List ℕ) → count (changed_to (lower r) (opened_by_loss r) o).value.content e ≡ count (content_in o) e - count r.amount.value.content e
own_less r None e = omega (arith, count-nothing e)
own_less r (Some a) e = count-difference a.value.content r.amount.value.content e

pub count_less : (cur rs : List Share) (q e : List ℕ) → AreApart rs → count (content_under q (with_less cur rs)) e ≡ count (content_under q cur) e - count (content_under q rs) e
count_less cur [] q e apart = omega (arith, count-nothing e)
count_less cur (r ∷ rs) q e apart = by (bytes_eq q r.keyword) refl (count_less (next_of cur r) rs q e apart.1)
  where
    by : (b : Bool) → bytes_eq q r.keyword ≡ b → count (content_under q (with_less (next_of cur r) rs)) e ≡ count (content_under q (next_of cur r)) e - count (content_under q rs) e → count (content_under q (with_less (next_of cur r) rs)) e ≡ count (content_under q cur) e - count (content_in (cond b (Some r.amount) (amount_under q rs))) e
    by false is rest = omega (arith, rest, ap (λ o. count (content_in o) e) (under_other r.keyword (lower r) (opened_by_loss r) q is cur))
    by true is rest =
        let same : q ≡ r.keyword = (bytes_eq-Decides q r.keyword).0 is in
        let none : amount_under q rs ≡ None = subst (λ k. amount_under k rs ≡ None) (sym same) apart.0 in
        let at : amount_under q (next_of cur r) ≡ Some (changed_to (lower r) (opened_by_loss r) (amount_under q cur)) = subst (λ k. amount_under k (next_of cur r) ≡ Some (changed_to (lower r) (opened_by_loss r) (amount_under k cur))) (sym same) (under_same r.keyword (lower r) (opened_by_loss r) cur) in
        omega (arith, rest, ap (λ o. count (content_in o) e) none, count-nothing e, ap (λ o. count (content_in o) e) at, own_less r (amount_under q cur) e)

-- ---- once the whole record is taken

abbrev without_it : List Share → Share → Content
without_it losses r = difference r.amount.value.content (content_under r.keyword losses)

count_without : (slots losses : List Share) (q e : List ℕ) → count (content_under q (without slots losses)) e ≡ count (content_under q slots) e - count (content_under q losses) e
count_without slots losses q e = by (amount_under q slots) refl
  where
    by : (o : Option Amount) → amount_under q slots ≡ o → count (content_under q (without slots losses)) e ≡ count (content_in o) e - count (content_under q losses) e
    by None is = omega (arith, count-nothing e, ap (λ o. count (content_in o) e) (none_under-map (λ (r : Share). keyed_share r.keyword (holding r.amount (without_it losses r))) (λ r. refl) q slots is))
    by (Some a) is = ap (λ o. count (content_in o) e) (under_map (without_it losses) q slots a is) ∙ count-difference a.value.content (content_under q losses) e

pub safe_less : (p : Proposal) (slots losses : List Share) → AreApart losses → AreCovered slots losses → is_safe p (with_losses slots losses) ≡ true → IsOfferSafe p (with_less slots losses)
safe_less p slots losses apart covered safe =
    still_safe p (with_losses slots losses) (with_less slots losses)
    (λ q. record { each = λ e. omega (arith, count_less slots losses q e apart, count_without slots losses q e, ap (λ c. count c e) (content_under-with_losses slots losses covered q)) })
    (safe_if p (with_losses slots losses) safe)
