-- What seats have once they take over shares is of the brands and kinds of their slots.
use Rattle.std.specs.Prelude.{filter, is_none, map}
use Rattle.std.specs.List.{AllByRecursion}
use Rattle.std.specs.Option.{ForSome}
use Rattle.std.proofs.Common.{◌≡◌, Bool, true, false, cond, List, [], ◌∷◌, Option, Some, None, refl, sym, ap, subst}
use Rattle.std.proofs.lemmas.Bool.{false≢true}
use Rattle.std.proofs.lemmas.Option.{same_Some}
use Rattle.std.proofs.lemmas.List.Elements.{All-from_recursion}
use Rattle.rules.specs.proposals.ChangedShares.{further}
use Rattle.refusals.specs.amount_math.Amount.{Meet}
use Rattle.refusals.specs.amount_math.declared.Amount.{Amount}
use Rattle.rules.specs.proposals.OfferSafety.{MeetSlots, MeetsSlot}
use Rattle.rules.specs.proposals.Shares.{AreApart, amount_under}
use Rattle.rules.specs.proposals.Slots.{in_byte_order}
use Rattle.rules.specs.proposals.declared.allocations.Share.{Share}
use Rattle.rearrange.specs.Settled.{filled, has_some, opened, settled}
use Rattle.share_transfers.proofs.world_laws.Lists.{all_append, all_filter}
use Rattle.share_transfers.proofs.world_laws.Proposed.{under_own}

some_same : (a x : Amount) → ◌≡◌ {A = Option Amount} (Some a) (Some x) → a ≡ x
some_same a x e = same_Some a x e

none_some : (x : Amount) → ◌≡◌ {A = Option Amount} None (Some x) → ⊥
none_some x e = cc

module _ (slots : List Share) where
  filled_meet : (shares ss : List Share) → AllByRecursion (λ (s : Share). amount_under s.keyword slots ≡ Some s.amount) ss → AllByRecursion (MeetsSlot slots) (map (filled shares) ss)
  filled_meet shares [] own = tt
  filled_meet shares (s ∷ ss) own = (one, filled_meet shares ss own.1)
    where
      same : (o : Option Amount) → o ≡ Some s.amount → ForSome o (λ x. Meet x (filled shares s).amount)
      same o is = subst (λ (p : Option Amount). ForSome p (λ x. Meet x (filled shares s).amount)) (sym is) (λ x e. let e' : s.amount ≡ x = some_same s.amount x e in record { brand = ap (λ (a : Amount). a.brand) (sym e'); kind = ap (λ (a : Amount). a.value.kind) (sym e') })

      one : MeetsSlot slots (filled shares s)
      one = same (amount_under s.keyword slots) own.0

  none_meet : (r : Share) → is_none (amount_under r.keyword slots) ≡ true → MeetsSlot slots r
  none_meet r is = by (amount_under r.keyword slots) is
    where
      by : (o : Option Amount) → is_none o ≡ true → ForSome o (λ x. Meet x r.amount)
      by None e = λ x f. absurd (none_some x f)
      by (Some a) e = absurd (false≢true e)

  further_meet : (rs : List Share) → AllByRecursion (MeetsSlot slots) (filter (λ (r : Share). is_none (amount_under r.keyword slots)) rs)
  further_meet [] = tt
  further_meet (r ∷ rs) = by (is_none (amount_under r.keyword slots)) refl (further_meet rs)
    where
      rest : List Share
      rest = filter (λ (x : Share). is_none (amount_under x.keyword slots)) rs

      by : (b : Bool) → is_none (amount_under r.keyword slots) ≡ b → AllByRecursion (MeetsSlot slots) rest → AllByRecursion (MeetsSlot slots) (cond b (r ∷ rest) rest)
      by true is later = (none_meet r is, later)
      by false is later = later

  pub settled_meet : (shares : List Share) → AreApart slots → MeetSlots slots (settled slots shares)
  settled_meet shares apart =
      All-from_recursion (MeetsSlot slots) (settled slots shares)
      (all_append (MeetsSlot slots) (map (filled shares) slots) (opened slots shares)
      (filled_meet shares slots (under_own slots apart))
      (all_filter (MeetsSlot slots) has_some (further slots shares) (further_meet (in_byte_order shares))))
