-- Shares of keywords of their own are no more than slots and those that open one.
use Rattle.std.specs.Prelude.{filter, is_none, not}
use Rattle.std.specs.Str.{bytes_eq}
use Rattle.std.proofs.Common.{◌≡◌, ℕ, suc, ◌+◌, ◌≤◌, ◌<◌, Bool, true, false, cond, List, [], ◌∷◌, length, Some, None, refl, sym, ap, ◌∙◌, arith, if◌then◌else◌}
use Rattle.std.proofs.lemmas.Slice.Eq.{bytes_eq-Decides}
use Rattle.rules.specs.proposals.Gains.{with_gains}
use Rattle.contract_reads.proofs.rule_laws.SlotLists.{fresh_in, other_first}
use Rattle.contract_reads.proofs.rule_laws.GivenShares.{gains_many}
use Rattle.rules.specs.proposals.Shares.{AreApart, AreShares, amount_under, most_shares}
use Rattle.rules.specs.proposals.declared.allocations.Share.{Share}
use Rattle.contract_reads.specs.Calls.{FitSlots}
use Rattle.contract_reads.proofs.world_laws.SlotShares.{other_way}

-- slots but those of a keyword
abbrev others : List ℕ → List Share → List Share
others k slots = filter (λ r. not (bytes_eq k r.keyword)) slots

fewer : (k : List ℕ) (slots : List Share) → length (others k slots) ≤ length slots
fewer k [] = omega arith
fewer k (s ∷ ss) = by (bytes_eq k s.keyword) (fewer k ss)
  where
    by : (b : Bool) → length (others k ss) ≤ length ss → length (cond (not b) (s ∷ others k ss) (others k ss)) ≤ suc (length ss)
    by true rest = omega (arith, rest)
    by false rest = omega (arith, rest)

one_fewer : (k : List ℕ) (slots : List Share) → is_none (amount_under k slots) ≡ false → length (others k slots) < length slots
one_fewer k [] there = absurd (cc)
one_fewer k (s ∷ ss) there = by (bytes_eq k s.keyword) (one_fewer k ss) there
  where
    by : (b : Bool) → (is_none (amount_under k ss) ≡ false → length (others k ss) < length ss) → is_none (cond b (Some s.amount) (amount_under k ss)) ≡ false → length (cond (not b) (s ∷ others k ss) (others k ss)) < suc (length ss)
    by true rest at = omega (arith, fewer k ss)
    by false rest at = omega (arith, rest at)

-- under another keyword they have the same
same_under : (k q : List ℕ) (slots : List Share) → bytes_eq q k ≡ false → amount_under q (others k slots) ≡ amount_under q slots
same_under k q [] other = refl
same_under k q (s ∷ ss) other = by (bytes_eq k s.keyword) refl (same_under k q ss other)
  where
    skip : bytes_eq k s.keyword ≡ true → amount_under q (s ∷ ss) ≡ amount_under q ss
    skip e = ap (λ b. cond b (Some s.amount) (amount_under q ss)) (ap (bytes_eq q) (sym ((bytes_eq-Decides k s.keyword).0 e)) ∙ other)

    by : (b : Bool) → bytes_eq k s.keyword ≡ b → amount_under q (others k ss) ≡ amount_under q ss → amount_under q (cond (not b) (s ∷ others k ss) (others k ss)) ≡ amount_under q (s ∷ ss)
    by true e rest = rest ∙ sym (skip e)
    by false e rest = ap (λ o. cond (bytes_eq q s.keyword) (Some s.amount) o) rest

same_fresh : (k : List ℕ) (slots shares : List Share) → amount_under k shares ≡ None → fresh_in (others k slots) shares ≡ fresh_in slots shares
same_fresh k slots [] none = refl
same_fresh k slots (r ∷ rs) none =
    let both = other_first k r rs none in
    ap (λ o. if is_none o then suc (fresh_in (others k slots) rs) else fresh_in (others k slots) rs) (same_under k r.keyword slots (other_way k r.keyword both.0))
    ∙ ap (λ n. if is_none (amount_under r.keyword slots) then suc n else n) (same_fresh k slots rs both.1)

all_counted : (slots shares : List Share) → AreApart shares → length shares ≤ length slots + fresh_in slots shares
all_counted slots [] apart = omega arith
all_counted slots (r ∷ rs) apart = by (is_none (amount_under r.keyword slots)) refl (all_counted slots rs apart.1) (all_counted (others r.keyword slots) rs apart.1)
  where
    by : (b : Bool) → is_none (amount_under r.keyword slots) ≡ b → length rs ≤ length slots + fresh_in slots rs → length rs ≤ length (others r.keyword slots) + fresh_in (others r.keyword slots) rs → suc (length rs) ≤ length slots + (if b then suc (fresh_in slots rs) else fresh_in slots rs)
    by true e all rest = omega (arith, all)
    by false e all rest = omega (arith, rest, same_fresh r.keyword slots rs apart.0, one_fewer r.keyword slots e)

pub shares_few : (slots shares : List Share) → FitSlots slots shares → length (with_gains slots shares) ≤ most_shares → AreShares shares
shares_few slots shares fit few = record { few = omega (arith, few, gains_many slots shares, all_counted slots shares fit.apart); apart = fit.apart }
