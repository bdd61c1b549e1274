-- The invitation that an offer is made with, and the payments that it escrows.
use Rattle.std.specs.Prelude.{find, option_and_then, unwrap_or}
use Rattle.std.specs.FinMap as fin
use Rattle.std.specs.Cmp.{tied_itself}
use Rattle.std.specs.Cmp.Lexicographic.{nat_list_cmp_total}
use Rattle.std.specs.Ordering.{eq_by_cmp, is_eq}
use Rattle.std.specs.Str.{bytes_eq}
use Rattle.std.proofs.Common.{◌≡◌, ◌==◌, ℕ, zero, suc, ◌<◌, Bool, true, false, cond, List, [], ◌∷◌, length, Some, None, Ok, IfOk, if◌then◌else◌, refl, sym, ap, subst, ◌∙◌, arith}
use Rattle.std.proofs.lemmas.Bool.{eqb-true, false≢true}
use Rattle.std.proofs.lemmas.Option.{same_Some}
use Rattle.std.proofs.lemmas.Slice.Eq.{bytes_eq-Decides}
use lib.Dec.{T}
use Rattle.world_laws.specs.amount_math.Content.{Content, count, count-of_entries, count_listed, entries, is_zero, nothing, key_cmp, listed, of_entries, of_entries-one, one_of, same_content}
use Rattle.world_laws.specs.amount_math.Sparse.{is_something}
use Rattle.world_laws.specs.amount_math.ValueView.{Fits, IsValue, ValueView}
use Rattle.world_laws.specs.amount_math.declared.Kind.TheVariants.{Nat, Set}
use Rattle.world_laws.specs.brands.Brands.{brand_at}
use Rattle.rules.specs.call_arguments.Arguments.{arg}
use Rattle.world_laws.specs.actors.declared.instance_store.instance.Standing.{Standing}
use Rattle.world_laws.specs.actors.declared.instance_store.instance.Standing.TheVariants.{Accepting, Halted, Stopped}
use Rattle.world_laws.specs.turn_stores.Elements.{element}
use Rattle.world_laws.specs.host_data.Tree.{Tree}
use Rattle.world_laws.proofs.refusals.Steps.{after_known, after_step, after_wanted, need_holds}
use Rattle.world_laws.specs.refusals.Codes.{closed}
use Rattle.world_laws.specs.world_state.Good.{IsAtWork, IsGoodWorld}
use Rattle.world_laws.specs.world_state.Known.{IsFormed}
use Rattle.world_laws.specs.world_state.Worlds.{State, invitation_value}
use Rattle.rules.specs.Licence.{NamesPayment}
use Rattle.rules.specs.Words.{is_offered_to, standing_of, takes_offers}
use Rattle.rule_laws.proofs.GivenData.{payment_made, payment_named}
use Rattle.rule_laws.proofs.Moving.{Holds, held_kind}
use Rattle.rules.specs.Zoe.{Invited, invitation_in, invited, inviting, named_by, only_key}
use Rattle.rules.specs.GivenPayments.{held_by, payment_view_of}
use Rattle.rule_laws.proofs.GivenPayments.{held_value}

-- ---- a value of one key

key_is_itself : (k : List ℕ) → eq_by_cmp key_cmp k k ≡ true
key_is_itself k = ap is_eq (tied_itself nat_list_cmp_total k)

positive : (n : ℕ) → T (is_something is_zero (Some n)) → 0 < n
positive zero h = absurd h
positive (suc n) h = omega arith

module _ (c : Content) (k : List ℕ) (n : ℕ) (one : entries c ≡ (k, n) ∷ []) where
  found : fin.get c.held k ≡ Some n
  found = fin.get-entries c.held k ∙ ap (λ es. fin.find key_cmp k es) one ∙ ap (λ b. cond b (Some n) None) (key_is_itself k)

  some_there : 0 < n
  some_there = positive n (subst (λ o. T (is_something is_zero o)) found (c.listed k))

  counts_it : count c k ≡ n
  counts_it = ap (λ o. unwrap_or o 0) found

  once : Fits Set c → n ≡ 1
  once fits = omega (arith, some_there, counts_it, fits.each k)

  pub one_element : Fits Set c → c ≡ one_of k
  one_element fits =
      same_content c (of_entries (entries c)) (λ q. count_listed c q ∙ sym (count-of_entries (entries c) q))
      ∙ ap of_entries one ∙ ap (λ m. of_entries ((k, m) ∷ [])) (once fits) ∙ of_entries-one k

-- ---- the invitation

named_element : (n : ℕ) (key : List ℕ) (i : ℕ) → named_by n key ≡ Some i → (i < n) × (key ≡ element i)
named_element zero key i is = absurd (cc)
named_element (suc n) key i is = by (bytes_eq key (element n)) refl (named_element n key i) is
  where
    by : (b : Bool) → bytes_eq key (element n) ≡ b → (named_by n key ≡ Some i → (i < n) × (key ≡ element i)) → (if b then Some n else named_by n key) ≡ Some i → (i < suc n) × (key ≡ element i)
    by true same later at =
        let e : n ≡ i = same_Some n i at in
        (omega (arith, e), (bytes_eq-Decides key (element n)).0 same ∙ ap element e)
    by false same later at = let both = later at in (omega (arith, both.0), both.1)

-- a content of one element of an invitation that was made
pub record IsOne (made : ℕ) (c : Content) (i : ℕ) : Type 0 where
  pub made_is : i < made
  pub count_is : ℕ
  pub entries_are : entries c ≡ (element i, count_is) ∷ []

one_named : (made : ℕ) (c : Content) (es : List (List ℕ × ℕ)) (i : ℕ) → entries c ≡ es → option_and_then (named_by made) (only_key es) ≡ Some i → IsOne made c i
one_named made c (e ∷ []) i es is =
    let both = named_element made e.0 i is in
    record { made_is = both.0; count_is = e.1; entries_are = es ∙ ap (λ (k : List ℕ). (k, e.1) ∷ []) both.1 }
one_named made c [] i es is = absurd (cc)
one_named made c (e ∷ f ∷ fs) i es is = absurd (cc)

pub record IsOneOf (w : State) (brand : ℕ) (v : ValueView) (i : ℕ) : Type 0 where
  pub brand_is : brand ≡ 0
  pub one : IsOne (length w.invitations) v.content i

one_of_brand : (w : State) (brand : ℕ) (v : ValueView) (i : ℕ) → invitation_in w brand v ≡ Some i → IsOneOf w brand v i
unfolding invitation_in
one_of_brand w brand v i is = by (brand == 0) refl is
  where
    by : (b : Bool) → (brand == 0) ≡ b → (if b then option_and_then (named_by (length w.invitations)) (only_key (entries v.content)) else None) ≡ Some i → IsOneOf w brand v i
    by true e at = record { brand_is = eqb-true brand 0 e; one = one_named (length w.invitations) v.content (entries v.content) i refl at }
    by false e at = absurd (cc)

works : (s : Standing) → takes_offers s ≡ true → s ≡ Halted → ⊥
works Accepting is e = cc
works Halted is e = false≢true is
works Stopped is e = cc

offered_at_work : (w : State) (i : ℕ) → is_offered_to w i ≡ Ok tt → IsAtWork w i
unfolding is_offered_to
offered_at_work w i is = works (standing_of w i) (need_holds (takes_offers (standing_of w i)) (closed i) tt is)

-- the payment of an invitation, whose instance takes offers
pub record IsInvited (w : State) (args : List Tree) (by : Invited) : Type 0 where
  pub made : by.invitation < length w.invitations
  pub at_work : IsAtWork w (inviting w by.invitation)
  pub named : NamesPayment args by.payment
  pub holds : Holds w.rights.payments by.payment 0 (invitation_value by.invitation)
  pub held : held_by w by.payment ≡ invitation_value by.invitation

module _ (w : State) (good : IsGoodWorld w) (args : List Tree) (formed : IsFormed w None (arg 1 args)) where
  invitation_is : (p : ℕ) (v : ValueView) (i : ℕ) → Holds w.rights.payments p (payment_view_of w p).brand v → invitation_in w (payment_view_of w p).brand v ≡ Some i → ((payment_view_of w p).brand ≡ 0) × ((v ≡ invitation_value i) × (i < length w.invitations))
  invitation_is p v i holds is =
      let one = one_of_brand w (payment_view_of w p).brand v i is in
      let kind : v.kind ≡ Set = sym (held_kind w good p (payment_view_of w p).brand v holds) ∙ good.brands.kinds (payment_view_of w p).brand ∙ ap (λ b. (brand_at w.brands b).kind) one.brand_is ∙ good.brands.first in
      let value : IsValue Set v.content = subst (λ k. IsValue k v.content) kind (held_value w (payment_view_of w p).brand p v good.valued holds) in
      let content : v.content ≡ one_of (element i) = one_element v.content (element i) one.one.count_is one.one.entries_are value.fits in
      (one.brand_is, (same_worth kind content, one.one.made_is))
    where
      same_worth : v.kind ≡ Set → v.content ≡ one_of (element i) → v ≡ invitation_value i
      same_worth k c =
          subst (λ d. ◌≡◌ {A = ValueView} v (record { kind = Set; content = d })) c
          (subst (λ q. ◌≡◌ {A = ValueView} v (record { kind = q; content = v.content })) k refl)

  pub invited_is : IfOk (invited w args) (IsInvited w args)
  unfolding invited
  invited_is = after_step _ _ _ (λ p is. after_wanted _ _ _ _ (λ v held. after_wanted _ _ _ _ (λ i named. after_known _ _ _ (λ offers.
      let made = payment_made w None 1 args p formed is in
      let both = invitation_is p v i (record { made = made; brand = refl; held = held }) named in
      record {
        made = both.1.1;
        at_work = offered_at_work w (inviting w i) offers;
        named = payment_named 1 args p is;
        holds = record { made = made; brand = both.0; held = held ∙ ap Some both.1.0 };
        held = ap (λ o. unwrap_or o (record { kind = Nat; content = nothing })) held ∙ both.1.0;
      }))))
