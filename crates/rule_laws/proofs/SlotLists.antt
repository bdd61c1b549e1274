-- Shares of which one after another is changed under its keyword, or opened: what they have then, and how many they are.
use Rattle.std.specs.Prelude.{filter, is_none}
use Rattle.std.specs.List.{All, AllByRecursion}
use Rattle.std.specs.Option.{option_map_or}
use Rattle.std.specs.Str.{bytes_eq}
use Rattle.std.proofs.Common.{◌≡◌, ℕ, suc, ◌+◌, ◌<◌, ◌≤◌, Bool, true, false, cond, List, [], ◌∷◌, Some, None, Option, length, inl, inr, refl, sym, ◌∙◌, ap, subst, arith, if◌then◌else◌}
use Rattle.std.proofs.lemmas.List.Elements.{All-cons, All-head, All-nil, All-tail}
use Rattle.std.proofs.lemmas.Slice.Eq.{bytes_eq-Decides}
use Rattle.rules.specs.proposals.ChangedShares.{further}
use Rattle.world_laws.specs.amount_math.Amount.{holding}
use Rattle.world_laws.specs.amount_math.Content.{Content, Contains, count-nothing, count-sum, nothing}
use Rattle.world_laws.specs.amount_math.ValueView.{IsValue}
use Rattle.world_laws.specs.amount_math.declared.Amount.{Amount}
use Rattle.rules.specs.proposals.OfferSafety.{IsCovered, IsOfferSafe}
use Rattle.rules.specs.proposals.Shares.{AreApart, amount_under, content_under, most_shares}
use Rattle.rules.specs.proposals.Slots.{in_byte_order, is_upto, placed}
use Rattle.rules.specs.proposals.declared.allocations.Share.{Share}
use Rattle.rules.specs.proposals.declared.offers.Proposal.{Proposal}
use Rattle.world_laws.specs.vault_model.Lists.{amount_of, less, more}
use Rattle.world_laws.proofs.SlotShares.{other_way}
use Rattle.world_laws.specs.world_state.Rights.{Has, HasOrOpens, IsNothing, Takes, TakesOrOpens, changed_share, shares_less, shares_more, shares_with}

-- the amount of a share, as a movement of it writes it
abbrev pub moved_amount : Share → Amount
moved_amount r = amount_of r.amount.brand r.amount.value

-- ---- one share

abbrev pub changed_to : (Amount → Amount) → Amount → Option Amount → Amount
changed_to change new None = new
changed_to change new (Some a) = change a

module _ (k : List ℕ) (change : Amount → Amount) (new : Amount) where
  pub under_other : (q : List ℕ) → bytes_eq q k ≡ false → (rs : List Share) → amount_under q (shares_with k change new rs) ≡ amount_under q rs
  under_other q e [] = ap (λ b. cond b (Some new) None) e
  under_other q e (r ∷ rs) = by (bytes_eq k r.keyword) refl (under_other q e rs)
    where
      by : (b : Bool) → bytes_eq k r.keyword ≡ b → amount_under q (shares_with k change new rs) ≡ amount_under q rs → amount_under q (if b then changed_share change r ∷ rs else r ∷ shares_with k change new rs) ≡ amount_under q (r ∷ rs)
      by true is rest =
          let no : bytes_eq q r.keyword ≡ false = ap (bytes_eq q) (sym ((bytes_eq-Decides k r.keyword).0 is)) ∙ e in
          ap (λ b. cond b (Some (change r.amount)) (amount_under q rs)) no ∙ sym (ap (λ b. cond b (Some r.amount) (amount_under q rs)) no)
      by false is rest = ap (λ o. cond (bytes_eq q r.keyword) (Some r.amount) o) rest

  pub under_same : (rs : List Share) → amount_under k (shares_with k change new rs) ≡ Some (changed_to change new (amount_under k rs))
  under_same [] = ap (λ b. cond b (Some new) None) ((bytes_eq-Decides k k).1 refl)
  under_same (r ∷ rs) = by (bytes_eq k r.keyword) refl (under_same rs)
    where
      by : (b : Bool) → bytes_eq k r.keyword ≡ b → amount_under k (shares_with k change new rs) ≡ Some (changed_to change new (amount_under k rs)) → amount_under k (if b then changed_share change r ∷ rs else r ∷ shares_with k change new rs) ≡ Some (changed_to change new (cond b (Some r.amount) (amount_under k rs)))
      by true e rest = ap (λ b. cond b (Some (change r.amount)) (amount_under k rs)) e
      by false e rest = ap (λ b. cond b (Some r.amount) (amount_under k (shares_with k change new rs))) e ∙ rest

  length_there : (x : Amount) (rs : List Share) → amount_under k rs ≡ Some x → length (shares_with k change new rs) ≡ length rs
  length_there x [] is = absurd (cc)
  length_there x (r ∷ rs) is = by (bytes_eq k r.keyword) (length_there x rs) is
    where
      by : (b : Bool) → (amount_under k rs ≡ Some x → length (shares_with k change new rs) ≡ length rs) → cond b (Some r.amount) (amount_under k rs) ≡ Some x → length (if b then changed_share change r ∷ rs else r ∷ shares_with k change new rs) ≡ suc (length rs)
      by true to e = refl
      by false to e = ap suc (to e)

  length_new : (rs : List Share) → amount_under k rs ≡ None → length (shares_with k change new rs) ≡ length rs + 1
  length_new [] is = refl
  length_new (r ∷ rs) is = by (bytes_eq k r.keyword) (length_new rs) is
    where
      by : (b : Bool) → (amount_under k rs ≡ None → length (shares_with k change new rs) ≡ length rs + 1) → cond b (Some r.amount) (amount_under k rs) ≡ None → length (if b then changed_share change r ∷ rs else r ∷ shares_with k change new rs) ≡ suc (length rs) + 1
      by true to e = absurd (cc)
      by false to e = omega (arith, to e)

-- ---- shares of keywords that none has yet

abbrev pub fresh_in : List Share → List Share → ℕ
fresh_in cur [] = 0
fresh_in cur (r ∷ rs) = if is_none (amount_under r.keyword cur) then suc (fresh_in cur rs) else fresh_in cur rs

abbrev is_new : List Share → Share → Bool
is_new cur r = is_none (amount_under r.keyword cur)

placed_filtered : (p : Share → Bool) (r : Share) (rs : List Share) → length (filter p (placed r rs)) ≡ length (filter p (r ∷ rs))
placed_filtered p r [] = refl
placed_filtered p r (x ∷ xs) = by (is_upto r.keyword x.keyword) (placed_filtered p r xs)
  where
    turned : (a b : Bool) (l : List Share) → length (cond b (x ∷ cond a (r ∷ l) l) (cond a (r ∷ l) l)) ≡ length (cond a (r ∷ cond b (x ∷ l) l) (cond b (x ∷ l) l))
    turned true true l = refl
    turned true false l = refl
    turned false true l = refl
    turned false false l = refl

    longer : (b : Bool) (l m : List Share) → length l ≡ length m → length (cond b (x ∷ l) l) ≡ length (cond b (x ∷ m) m)
    longer true l m e = ap suc e
    longer false l m e = e

    by : (t : Bool) → length (filter p (placed r xs)) ≡ length (filter p (r ∷ xs)) → length (filter p (if t then r ∷ x ∷ xs else x ∷ placed r xs)) ≡ length (filter p (r ∷ x ∷ xs))
    by true rest = refl
    by false rest = longer (p x) (filter p (placed r xs)) (filter p (r ∷ xs)) rest ∙ turned (p r) (p x) (filter p xs)

fresh_filtered : (cur rs : List Share) → length (filter (is_new cur) rs) ≡ fresh_in cur rs
fresh_filtered cur [] = refl
fresh_filtered cur (r ∷ rs) = by (is_new cur r) (fresh_filtered cur rs)
  where
    by : (b : Bool) → length (filter (is_new cur) rs) ≡ fresh_in cur rs → length (cond b (r ∷ filter (is_new cur) rs) (filter (is_new cur) rs)) ≡ (if b then suc (fresh_in cur rs) else fresh_in cur rs)
    by true rest = ap suc rest
    by false rest = rest

filtered_more : (p : Share → Bool) (r : Share) (l m : List Share) → length (filter p l) ≡ length (filter p m) → length (filter p (r ∷ l)) ≡ length (filter p (r ∷ m))
filtered_more p r l m e = by (p r)
  where
    by : (b : Bool) → length (cond b (r ∷ filter p l) (filter p l)) ≡ length (cond b (r ∷ filter p m) (filter p m))
    by true = ap suc e
    by false = e

ordered_filtered : (p : Share → Bool) (rs : List Share) → length (filter p (in_byte_order rs)) ≡ length (filter p rs)
ordered_filtered p [] = refl
ordered_filtered p (r ∷ rs) = placed_filtered p r (in_byte_order rs) ∙ filtered_more p r (in_byte_order rs) rs (ordered_filtered p rs)

-- the shares of keywords without slot are as many
pub further_many : (slots shares : List Share) → length (further slots shares) ≡ fresh_in slots shares
further_many slots shares = ordered_filtered (is_new slots) shares ∙ fresh_filtered slots shares

-- a keyword that stands nowhere is not that of the first share, nor of a later one
pub other_first : (k : List ℕ) (r : Share) (rs : List Share) → amount_under k (r ∷ rs) ≡ None → (bytes_eq k r.keyword ≡ false) × (amount_under k rs ≡ None)
other_first k r rs is = by (bytes_eq k r.keyword) is
  where
    by : (b : Bool) → cond b (Some r.amount) (amount_under k rs) ≡ None → (b ≡ false) × (amount_under k rs ≡ None)
    by true e = absurd (cc)
    by false e = (refl, e)

fresh_other : (k : List ℕ) (change : Amount → Amount) (new : Amount) (cur rs : List Share) → amount_under k rs ≡ None → fresh_in (shares_with k change new cur) rs ≡ fresh_in cur rs
fresh_other k change new cur [] none = refl
fresh_other k change new cur (r ∷ rs) none =
    let both = other_first k r rs none in
    let rest = fresh_other k change new cur rs both.1 in
    let same = under_other k change new r.keyword (other_way k r.keyword both.0) cur in
    ap (λ o. if is_none o then suc (fresh_in (shares_with k change new cur) rs) else fresh_in (shares_with k change new cur) rs) same
    ∙ ap (λ n. if is_none (amount_under r.keyword cur) then suc n else n) rest

fresh_step : (k : List ℕ) (change : Amount → Amount) (new : Amount) (cur : List Share) (n : ℕ) → length (shares_with k change new cur) + n ≡ length cur + (if is_none (amount_under k cur) then suc n else n)
fresh_step k change new cur n = by (amount_under k cur) refl
  where
    by : (o : Option Amount) → amount_under k cur ≡ o → length (shares_with k change new cur) + n ≡ length cur + (if is_none o then suc n else n)
    by None e = omega (arith, length_new k change new cur e)
    by (Some x) e = omega (arith, length_there k change new x cur e)

-- ---- what is told of a share and of what stands under its keyword stays so while others change

module _ (P : Option Amount → Share → Type 0) where
  abbrev pub AllUnder : List Share → List Share → Type 0
  AllUnder cur rs = AllByRecursion (λ (r : Share). P (amount_under r.keyword cur) r) rs

  pub under_stays : (k : List ℕ) (change : Amount → Amount) (new : Amount) (cur rs : List Share) → amount_under k rs ≡ None → AllUnder cur rs → AllUnder (shares_with k change new cur) rs
  under_stays k change new cur [] none all = tt
  under_stays k change new cur (r ∷ rs) none all =
      let both = other_first k r rs none in
      (subst (λ o. P o r) (sym (under_other k change new r.keyword (other_way k r.keyword both.0) cur)) all.0, under_stays k change new cur rs both.1 all.1)

-- ---- shares that are added

abbrev pub with_more : List Share → List Share → List Share
with_more cur [] = cur
with_more cur (r ∷ rs) = with_more (shares_more r.keyword (moved_amount r) cur) rs

abbrev pub CanAddAll : List Share → List Share → Type 0
CanAddAll cur [] = Unit {0}
CanAddAll cur (r ∷ rs) = TakesOrOpens (amount_under r.keyword cur) cur r.amount.brand r.amount.value × CanAddAll (shares_more r.keyword (moved_amount r) cur) rs

-- a share can be added to what stands under its keyword
abbrev pub CanAddTo : Option Amount → Share → Type 0
CanAddTo (Some a) r = Takes a r.amount.brand r.amount.value
CanAddTo None r = IsValue r.amount.value.kind r.amount.value.content

-- what a share does to the amount under its keyword, as it is added or taken
abbrev raise : Share → Amount → Amount
raise r had = more had r.amount.value.content

abbrev lower : Share → Amount → Amount
lower r had = less had r.amount.value.content

-- what a slot that is opened by a loss has
abbrev opened_by_loss : Share → Amount
opened_by_loss r = holding (moved_amount r) nothing

pub with_more_many : (cur rs : List Share) → AreApart rs → length (with_more cur rs) ≡ length cur + fresh_in cur rs
with_more_many cur [] apart = omega arith
with_more_many cur (r ∷ rs) apart =
    omega (
      arith,
      with_more_many (shares_more r.keyword (moved_amount r) cur) rs apart.1,
      fresh_other r.keyword (raise r) (moved_amount r) cur rs apart.0,
      fresh_step r.keyword (raise r) (moved_amount r) cur (fresh_in cur rs),
    )

room_now : (o : Option Amount) (len n : ℕ) → len + (if is_none o then suc n else n) ≤ most_shares → o ≡ None → len < most_shares
room_now None len n le e = omega (arith, le)
room_now (Some x) len n le e = absurd (cc)

pub can_add_all : (cur rs : List Share) → AreApart rs → AllUnder CanAddTo cur rs → length cur + fresh_in cur rs ≤ most_shares → CanAddAll cur rs
can_add_all cur [] apart all le = tt
can_add_all cur (r ∷ rs) apart all le =
    let next = shares_more r.keyword (moved_amount r) cur in (
      by (amount_under r.keyword cur) all.0 (room_now (amount_under r.keyword cur) (length cur) (fresh_in cur rs) le),
      can_add_all next rs apart.1 (under_stays CanAddTo r.keyword (raise r) (moved_amount r) cur rs apart.0 all.1)
          (omega (arith, le, fresh_other r.keyword (raise r) (moved_amount r) cur rs apart.0, fresh_step r.keyword (raise r) (moved_amount r) cur (fresh_in cur rs))),
    )
  where
    by : (o : Option Amount) → CanAddTo o r → (o ≡ None → length cur < most_shares) → TakesOrOpens o cur r.amount.brand r.amount.value
    by (Some a) takes room = takes
    by None value room = (value, room refl)

-- ---- what they have then

abbrev content_in : Option Amount → Content
content_in o = option_map_or (λ (a : Amount). a.value.content) o nothing

contains_more : (a b c : Content) → Contains b c → Contains a b → Contains a c
contains_more a b c f g = record { each = λ k. omega (arith, f.each k, g.each k) }

more_there : (r : Share) (o : Option Amount) → Contains (changed_to (raise r) (moved_amount r) o).value.content (content_in o)
more_there r None = record { each = λ k. omega (arith, count-nothing k) }
more_there r (Some a) = record { each = λ k. omega (arith, count-sum a.value.content r.amount.value.content k) }

own_there : (r : Share) (o : Option Amount) → Contains (changed_to (raise r) (moved_amount r) o).value.content r.amount.value.content
own_there r None = record { each = λ k. omega arith }
own_there r (Some a) = record { each = λ k. omega (arith, count-sum a.value.content r.amount.value.content k) }

-- a share that is added leaves no slot with less
more_under : (r : Share) (cur : List Share) (q : List ℕ) → Contains (content_under q (shares_more r.keyword (moved_amount r) cur)) (content_under q cur)
more_under r cur q = by (bytes_eq q r.keyword) refl
  where
    by : (b : Bool) → bytes_eq q r.keyword ≡ b → Contains (content_under q (shares_more r.keyword (moved_amount r) cur)) (content_under q cur)
    by false e = subst (λ o. Contains (content_in o) (content_under q cur)) (sym (under_other r.keyword (raise r) (moved_amount r) q e cur)) (record { each = λ k. omega arith })
    by true e =
        subst (λ p. Contains (content_under p (shares_more r.keyword (moved_amount r) cur)) (content_under p cur)) (sym ((bytes_eq-Decides q r.keyword).0 e))
        (subst (λ o. Contains (content_in o) (content_under r.keyword cur)) (sym (under_same r.keyword (raise r) (moved_amount r) cur)) (more_there r (amount_under r.keyword cur)))

pub with_more_grows : (cur rs : List Share) (q : List ℕ) → Contains (content_under q (with_more cur rs)) (content_under q cur)
with_more_grows cur [] q = record { each = λ k. omega arith }
with_more_grows cur (r ∷ rs) q =
    contains_more (content_under q (with_more cur (r ∷ rs))) (content_under q (shares_more r.keyword (moved_amount r) cur)) (content_under q cur)
    (more_under r cur q) (with_more_grows (shares_more r.keyword (moved_amount r) cur) rs q)

-- and has what is added
pub added_covered : (cur rs : List Share) → AllByRecursion (IsCovered (with_more cur rs)) rs
added_covered cur [] = tt
added_covered cur (r ∷ rs) =
    let next = shares_more r.keyword (moved_amount r) cur in (
      contains_more (content_under r.keyword (with_more next rs)) (content_under r.keyword next) r.amount.value.content
          (subst (λ o. Contains (content_in o) r.amount.value.content) (sym (under_same r.keyword (raise r) (moved_amount r) cur)) (own_there r (amount_under r.keyword cur)))
          (with_more_grows next rs r.keyword),
      added_covered next rs,
    )

pub all_of_each : {A : Type 0} (P : A → Type 0) (xs : List A) → AllByRecursion P xs → All P xs
all_of_each P [] all = All-nil P
all_of_each P (x ∷ xs) all = All-cons P x xs all.0 (all_of_each P xs all.1)

pub each_of_all : {A : Type 0} (P : A → Type 0) (xs : List A) → All P xs → AllByRecursion P xs
each_of_all P [] all = tt
each_of_all P (x ∷ xs) all = (All-head P x xs all, each_of_all P xs (All-tail P x xs all))

-- what covered shares is covered by more
pub still_covered : (cur new shares : List Share) → ((q : List ℕ) → Contains (content_under q new) (content_under q cur)) → AllByRecursion (IsCovered cur) shares → AllByRecursion (IsCovered new) shares
still_covered cur new [] more all = tt
still_covered cur new (r ∷ rs) more all = (contains_more (content_under r.keyword new) (content_under r.keyword cur) r.amount.value.content all.0 (more r.keyword), still_covered cur new rs more all.1)

pub still_safe : (p : Proposal) (cur new : List Share) → ((q : List ℕ) → Contains (content_under q new) (content_under q cur)) → IsOfferSafe p cur → IsOfferSafe p new
still_safe p cur new more (inl want) = inl (all_of_each (IsCovered new) p.want (still_covered cur new p.want more (each_of_all (IsCovered cur) p.want want)))
still_safe p cur new more (inr give) = inr (all_of_each (IsCovered new) p.give (still_covered cur new p.give more (each_of_all (IsCovered cur) p.give give)))

-- ---- shares that are taken

abbrev pub with_less : List Share → List Share → List Share
with_less cur [] = cur
with_less cur (r ∷ rs) = with_less (shares_less r.keyword (moved_amount r) cur) rs

abbrev pub CanTakeAll : List Share → List Share → Type 0
CanTakeAll cur [] = Unit {0}
CanTakeAll cur (r ∷ rs) = HasOrOpens (amount_under r.keyword cur) cur r.amount.brand r.amount.value × CanTakeAll (shares_less r.keyword (moved_amount r) cur) rs

abbrev pub CanTakeFrom : Option Amount → Share → Type 0
CanTakeFrom (Some a) r = Has a r.amount.brand r.amount.value
CanTakeFrom None r = IsNothing r.amount.value.content

pub with_less_many : (cur rs : List Share) → AreApart rs → length (with_less cur rs) ≡ length cur + fresh_in cur rs
with_less_many cur [] apart = omega arith
with_less_many cur (r ∷ rs) apart =
    omega (
      arith,
      with_less_many (shares_less r.keyword (moved_amount r) cur) rs apart.1,
      fresh_other r.keyword (lower r) (opened_by_loss r) cur rs apart.0,
      fresh_step r.keyword (lower r) (opened_by_loss r) cur (fresh_in cur rs),
    )

pub can_take_all : (cur rs : List Share) → AreApart rs → AllUnder CanTakeFrom cur rs → length cur + fresh_in cur rs ≤ most_shares → CanTakeAll cur rs
can_take_all cur [] apart all le = tt
can_take_all cur (r ∷ rs) apart all le =
    let next = shares_less r.keyword (moved_amount r) cur in (
      by (amount_under r.keyword cur) all.0 (room_now (amount_under r.keyword cur) (length cur) (fresh_in cur rs) le),
      can_take_all next rs apart.1 (under_stays CanTakeFrom r.keyword (lower r) (opened_by_loss r) cur rs apart.0 all.1)
          (omega (arith, le, fresh_other r.keyword (lower r) (opened_by_loss r) cur rs apart.0, fresh_step r.keyword (lower r) (opened_by_loss r) cur (fresh_in cur rs))),
    )
  where
    by : (o : Option Amount) → CanTakeFrom o r → (o ≡ None → length cur < most_shares) → HasOrOpens o cur r.amount.brand r.amount.value
    by (Some a) has room = has
    by None nothing_is room = (nothing_is, room refl)
