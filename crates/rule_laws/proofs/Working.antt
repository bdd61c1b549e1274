-- While transfers are worked, each seat has shares that its slots may be settled with.
use Rattle.std.specs.Prelude.{IfSome, map, ◌==◌}
use Rattle.std.specs.List.{AllByRecursion}
use Rattle.std.specs.Str.{bytes_eq}
use Rattle.std.proofs.Common.{◌≡◌, ℕ, Bool, true, false, cond, List, [], ◌∷◌, ◌++◌, append_assoc, Option, Some, None, Ok, refl, sym, subst, if◌then◌else◌}
use Rattle.std.proofs.lemmas.Bool.{eqb-true}
use Rattle.std.proofs.lemmas.Slice.Eq.{bytes_eq-Decides}
use Rattle.rules.specs.proposals.Gains.{raised, with_gains}
use Rattle.rules.specs.proposals.Losses.{without}
use Rattle.rules.specs.proposals.ChangedShares.{further}
use Rattle.world_laws.specs.amount_math.Content.{Content, difference, sum}
use Rattle.rules.specs.rearrange.TestedPlans.{can_gain, can_lose, can_work, passes_at}
use Rattle.rules.specs.rearrange.Slots.{can_give, each_passes, fits_slot}
use Rattle.rules.specs.proposals.Shares.{amount_under, content_under}
use Rattle.rules.specs.proposals.declared.allocations.Share.{Share}
use Rattle.rules.specs.proposals.declared.plans.Transfer.{Transfer}
use Rattle.rules.specs.rearrange.Transfers.{gains_of, losses_of, lowered_by, with_shares, worked, worked_by}
use Rattle.world_laws.specs.refusals.Outcomes.{◌>>◌}
use Rattle.world_laws.proofs.Lists.{all_map}
use Rattle.world_laws.specs.world_state.Good.{IsGoodWorld}
use Rattle.world_laws.specs.world_state.Worlds.{State}
use Rattle.rules.specs.States.{allocation_of}
use Rattle.rule_laws.proofs.Changed.{AreFitting, MaySettle, further_all, gains_may, other, without_may}
use Rattle.rule_laws.proofs.GivenShares.{OfBrand, passed}
use Rattle.rule_laws.proofs.Tags.{Agree, AreAgreed, Tag, agreed_across, agreed_second, all_first, all_from, all_second, all_tags, share_tag, tags_at, tags_of}

-- ---- brands under keywords

kept_brand : (content : Share → Content) (k : List ℕ) (b : ℕ) (shares : List Share) → OfBrand shares k b → OfBrand (map (other content) shares) k b
kept_brand content k b [] of = tt
kept_brand content k b (r ∷ rs) of = by (bytes_eq k r.keyword) of (kept_brand content k b rs)
  where
    by : (t : Bool) → IfSome (cond t (Some r.amount) (amount_under k rs)) (λ a. a.brand ≡ b) → (OfBrand rs k b → OfBrand (map (other content) rs) k b) → IfSome (cond t (Some (other content r).amount) (amount_under k (map (other content) rs))) (λ a. a.brand ≡ b)
    by true is later = is
    by false is later = later is

append_brand : (k : List ℕ) (b : ℕ) (xs ys : List Share) → OfBrand xs k b → OfBrand ys k b → OfBrand (xs ++ ys) k b
append_brand k b [] ys one two = two
append_brand k b (x ∷ xs) ys one two = by (bytes_eq k x.keyword) one (λ rest. append_brand k b xs ys rest two)
  where
    by : (t : Bool) → IfSome (cond t (Some x.amount) (amount_under k xs)) (λ a. a.brand ≡ b) → (OfBrand xs k b → OfBrand (xs ++ ys) k b) → IfSome (cond t (Some x.amount) (amount_under k (xs ++ ys))) (λ a. a.brand ≡ b)
    by true is later = is
    by false is later = later is

brand_of_all : (k : List ℕ) (b : ℕ) (shares : List Share) → AllByRecursion (λ (r : Share). r.keyword ≡ k → r.amount.brand ≡ b) shares → OfBrand shares k b
brand_of_all k b [] all = tt
brand_of_all k b (r ∷ rs) all = by (bytes_eq k r.keyword) refl (brand_of_all k b rs all.1)
  where
    by : (t : Bool) → bytes_eq k r.keyword ≡ t → OfBrand rs k b → IfSome (cond t (Some r.amount) (amount_under k rs)) (λ a. a.brand ≡ b)
    by true e later = all.0 (sym ((bytes_eq-Decides k r.keyword).0 e))
    by false e later = later

-- ---- what a seat has meanwhile

-- its slots may be settled with it; and it has the brands of what is still asked for
pub record IsGoing (w : State) (n : ℕ) (rest : List Tag) (shares : List Share) : Type 0 where
  pub may : MaySettle w (allocation_of w n) shares
  pub agrees : AllByRecursion (λ (t : Tag). t.seat ≡ n → OfBrand shares t.keyword t.brand) rest

-- what the records of a transfer are, beside the slots of the seats that they are for
pub record IsReadTransfer (w : State) (t : Transfer) : Type 0 where
  pub losses : IfSome t.from (λ seat. AreFitting w (allocation_of w seat) (losses_of t))
  pub gains : IfSome t.to (λ seat. AreFitting w (allocation_of w seat) (gains_of t))

-- shares of one seat among those of all
at_seat : (n : ℕ) (P : List Share → Type 0) (o : Option ℕ) (shares has : ℕ → List Share) → IfSome o (λ m. m ≡ n → P (shares n)) → P (has n) → P (with_shares o shares has n)
at_seat n P None shares has there here = here
at_seat n P (Some m) shares has there here = by (n == m) refl
  where
    by : (b : Bool) → (n == m) ≡ b → P (if b then shares m else has n)
    by true e = let same : m ≡ n = sym (eqb-true n m e) in subst (λ k. P (shares k)) (sym same) (there same)
    by false e = here

module _ (w : State) (good : IsGoodWorld w) (n : ℕ) where
  lowered_going : (rest : List Tag) (shares losses : List Share) → IsGoing w n rest shares → IsGoing w n rest (without shares losses)
  lowered_going rest shares losses is = record {
    may = without_may w (allocation_of w n) shares is.may losses;
    agrees = all_map (λ (t : Tag). t.seat ≡ n → OfBrand shares t.keyword t.brand) (λ (t : Tag). t.seat ≡ n → OfBrand (without shares losses) t.keyword t.brand)
        (λ t of same. kept_brand (λ (r : Share). difference r.amount.value.content (content_under r.keyword losses)) t.keyword t.brand shares (of same)) rest is.agrees;
  }

  abbrev Fitting : List Share → Share → Type 0
  Fitting shares r = OfBrand shares r.keyword r.amount.brand

  gains_fit : (shares gains : List Share) → AllByRecursion (λ (t : Tag). t.seat ≡ n → OfBrand shares t.keyword t.brand) (map (share_tag n) gains) → AllByRecursion (Fitting shares) gains
  gains_fit shares gains all = all_map (λ (r : Share). n ≡ n → Fitting shares r) (Fitting shares) (λ r of. of refl) gains (all_from (share_tag n) (λ (t : Tag). t.seat ≡ n → OfBrand shares t.keyword t.brand) gains all)

  later_fit : (shares gains : List Share) (t : Tag) → OfBrand shares t.keyword t.brand → t.seat ≡ n → AllByRecursion (λ x. Agree x t) (map (share_tag n) gains) → OfBrand (with_gains shares gains) t.keyword t.brand
  later_fit shares gains t of same agree =
      append_brand t.keyword t.brand (map (raised gains) shares) (further shares gains)
      (kept_brand (λ (r : Share). sum r.amount.value.content (content_under r.keyword gains)) t.keyword t.brand shares of)
      (brand_of_all t.keyword t.brand (further shares gains)
      (further_all (λ (r : Share). r.keyword ≡ t.keyword → r.amount.brand ≡ t.brand) shares gains
      (all_map (λ (r : Share). Agree (share_tag n r) t) (λ (r : Share). r.keyword ≡ t.keyword → r.amount.brand ≡ t.brand) (λ r of_one. of_one (sym same)) gains
      (all_from (share_tag n) (λ x. Agree x t) gains agree))))

  all_later : (shares gains : List Share) (rest : List Tag) → AllByRecursion (λ (t : Tag). t.seat ≡ n → OfBrand shares t.keyword t.brand) rest → AllByRecursion (λ t. AllByRecursion (λ x. Agree x t) (map (share_tag n) gains)) rest → AllByRecursion (λ (t : Tag). t.seat ≡ n → OfBrand (with_gains shares gains) t.keyword t.brand) rest
  all_later shares gains [] of agree = tt
  all_later shares gains (t ∷ ts) of agree = (λ same. later_fit shares gains t (of.0 same) same agree.0, all_later shares gains ts of.1 agree.1)

  fits_each : (shares gains : List Share) → can_give shares gains ≡ Ok tt → each_passes (fits_slot shares) gains ≡ Ok tt
  unfolding can_give
  fits_each shares gains is = (passed _ (each_passes (fits_slot shares) gains) is).1

  raised_going : (rest : List Tag) (shares gains : List Share) → IsGoing w n (map (share_tag n) gains ++ rest) shares → AreAgreed (map (share_tag n) gains ++ rest) → AreFitting w (allocation_of w n) gains → can_give shares gains ≡ Ok tt → IsGoing w n rest (with_gains shares gains)
  raised_going rest shares gains is agreed fit gives =
      let tags = map (share_tag n) gains in
      let own = all_first (λ (t : Tag). t.seat ≡ n → OfBrand shares t.keyword t.brand) tags rest is.agrees in
      let others = all_second (λ (t : Tag). t.seat ≡ n → OfBrand shares t.keyword t.brand) tags rest is.agrees in
      record {
        may = gains_may w (allocation_of w n) shares is.may good gains fit (gains_fit shares gains own) (fits_each shares gains gives);
        agrees = all_later shares gains rest others (agreed_across tags rest agreed);
      }

  -- the same of another list before
  fewer : (before rest : List Tag) (shares : List Share) → IsGoing w n (before ++ rest) shares → IsGoing w n rest shares
  fewer before rest shares is = record {
    may = is.may;
    agrees = all_second (λ (t : Tag). t.seat ≡ n → OfBrand shares t.keyword t.brand) before rest is.agrees;
  }

  -- ---- one transfer

  after_loss : (had : ℕ → List Share) (t : Transfer) (rest : List Tag) → IsGoing w n rest (had n) → IsGoing w n rest (lowered_by had t n)
  after_loss had t rest is = at_seat n (IsGoing w n rest) t.from (λ seat. without (had seat) (losses_of t)) had (each t.from) is
    where
      each : (o : Option ℕ) → IfSome o (λ m. m ≡ n → IsGoing w n rest (without (had n) (losses_of t)))
      each None = tt
      each (Some m) = λ same. lowered_going rest (had n) (losses_of t) is

  after_gain : (had : ℕ → List Share) (o : Option ℕ) (gains : List Share) (rest : List Tag) → IsGoing w n (tags_at o gains ++ rest) (had n) → AreAgreed (tags_at o gains ++ rest) → IfSome o (λ seat. AreFitting w (allocation_of w seat) gains) → passes_at o (λ seat. can_give (had seat) gains) ≡ Ok tt → IsGoing w n rest (with_shares o (λ seat. with_gains (had seat) gains) had n)
  after_gain had None gains rest is agreed fit gives = is
  after_gain had (Some m) gains rest is agreed fit gives =
      at_seat n (IsGoing w n rest) (Some m) (λ seat. with_gains (had seat) gains) had
      (λ same. raised_going rest (had n) gains (subst (λ k. IsGoing w n (map (share_tag k) gains ++ rest) (had n)) same is) (subst (λ k. AreAgreed (map (share_tag k) gains ++ rest)) same agreed) (subst (λ k. AreFitting w (allocation_of w k) gains) same fit) (subst (λ k. can_give (had k) gains ≡ Ok tt) same gives))
      (fewer (map (share_tag m) gains) rest (had n) is)

  -- ---- all

  pub works : (list : List Transfer) (had : ℕ → List Share) → AllByRecursion (IsReadTransfer w) list → AreAgreed (all_tags list) → can_work had list ≡ Ok tt → IsGoing w n (all_tags list) (had n) → MaySettle w (allocation_of w n) (worked had list n)
  works [] had read agreed can is = is.may
  works (t ∷ ts) had read agreed can is =
      let losing = tags_at t.from (losses_of t) in
      let gaining = tags_at t.to (gains_of t) in
      let rest = all_tags ts in
      let whole : tags_of t ++ rest ≡ losing ++ (gaining ++ rest) = append_assoc losing gaining rest in
      let lost = passed (can_lose had t) (can_gain had t >> can_work (worked_by had t) ts) can in
      let gained = passed (can_gain had t) (can_work (worked_by had t) ts) lost.1 in
      let going = after_loss had t (gaining ++ rest) (fewer losing (gaining ++ rest) (had n) (subst (λ l. IsGoing w n l (had n)) whole is)) in
      let agree = agreed_second losing (gaining ++ rest) (subst AreAgreed whole agreed) in
      works ts (worked_by had t) read.1 (agreed_second gaining rest agree) gained.1
      (after_gain (lowered_by had t) t.to (gains_of t) rest going agree read.0.gains gained.0)
