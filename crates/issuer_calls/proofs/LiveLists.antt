-- Lists of live payments: of what kinds they are, and what their movements together are like.
use Rattle.std.specs.Prelude.{All}
use Rattle.std.specs.Borrow.{Bor}
use Rattle.std.proofs.Common.{◌≡◌, ℕ, ◌+◌, ◌<◌, ◌==◌, true, List, [], ◌∷◌, ◌++◌, get_or, length, map, take, Result, Ok, Err, OnOk, refl, sym, ap, subst, ◌∙◌, arith}
use Rattle.std.proofs.lemmas.Bool.{eqb-true}
use Rattle.std.proofs.lemmas.List.{map-append, take_more}
use Rattle.std.proofs.lemmas.List.Elements.{All-append, All-cons, All-head, All-nil, All-tail}
use Rattle.refusals.specs.amount_math.ValueView.{ValueView}
use Rattle.refusals.specs.amount_math.declared.Kind.{Kind}
use Rattle.rules.specs.call_arguments.Numbers.{AreApart, IsNoneOf}
use Rattle.rules.specs.Lists.{combined, moves_to, values_of, with_value}
use Rattle.rules.specs.world_state.Shapes.{AreOnce, IsCombination, IsNotAmong, payment_part}
use Rattle.rules.specs.holders.PaymentViews.{payment_view_at}
use Rattle.rules.specs.vault_model.Flows.{gathered}
use Rattle.rules.specs.rights_model.Table.{movement}
use Rattle.rules.specs.rights_model.declared.Holder.TheVariants.{Payment}
use Rattle.rules.specs.rights_model.declared.Movement.{Movement}
use Rattle.ertp_calls.specs.Views.{live_view}
use Rattle.ertp_calls.specs.declared.live_payments.LivePayment.{LivePayment}
use Rattle.rules.specs.GivenPayments as given_payments
use Rattle.rules.specs.world_state.Worlds.{State, empty_payment, moves}

-- ---- brands and kinds

-- where all the brands are one, each payment is of it
pub brands_same : (w : State) (brand : ℕ) (ps : List ℕ) → All (λ b. (b == brand) ≡ true) (map (λ p. (payment_view_at w.rights.payments p).brand) ps) → All (λ p. (payment_view_at w.rights.payments p).brand ≡ brand) ps
brands_same w brand [] all = All-nil (λ p. (payment_view_at w.rights.payments p).brand ≡ brand)
brands_same w brand (p ∷ ps) all =
    let P : ℕ → Type 0 = λ b. (b == brand) ≡ true in
    let bs : List ℕ = map (λ p. (payment_view_at w.rights.payments p).brand) ps in
    All-cons (λ p. (payment_view_at w.rights.payments p).brand ≡ brand) p ps
    (eqb-true (payment_view_at w.rights.payments p).brand brand (All-head P (payment_view_at w.rights.payments p).brand bs all))
    (brands_same w brand ps (All-tail P (payment_view_at w.rights.payments p).brand bs all))

-- and so does what a test of them all ended with say
pub on_ok : {A E : Type 0} {P Q : Type 0} (r : Result A E) → (P → Q) → OnOk r P → OnOk r Q
on_ok (Ok x) f h = f h
on_ok (Err e) f h = tt

pub kinds_of_lent : (kind : Kind) (parts : List ValueView) (values : List (Bor ValueView)) → All (λ p. p.kind ≡ kind) parts → map (λ v. v.now) values ≡ parts → All (λ v. v.now.kind ≡ kind) values
kinds_of_lent kind parts [] all same = All-nil (λ (v : Bor ValueView). v.now.kind ≡ kind)
kinds_of_lent kind [] (v ∷ vs) all same = absurd (cc)
kinds_of_lent kind (p ∷ ps) (v ∷ vs) all same =
    let P : ValueView → Type 0 = λ x. x.kind ≡ kind in
    All-cons (λ (x : Bor ValueView). x.now.kind ≡ kind) v vs
    (ap (λ (w : ValueView). w.kind) (first v.now p (map (λ v. v.now) vs) ps same) ∙ All-head P p ps all)
    (kinds_of_lent kind ps vs (All-tail P p ps all) (rest v.now p (map (λ v. v.now) vs) ps same))
  where
    first : (a b : ValueView) (xs ys : List ValueView) → a ∷ xs ≡ b ∷ ys → a ≡ b
    first a b xs ys e = cc

    rest : (a b : ValueView) (xs ys : List ValueView) → a ∷ xs ≡ b ∷ ys → xs ≡ ys
    rest a b xs ys e = cc

kinds_seen : (kind : Kind) (given : List LivePayment) → All (λ p. p.value.kind ≡ kind) given → All (λ v. v.kind ≡ kind) (values_of (map live_view given))
kinds_seen kind [] all = All-nil (λ (v : ValueView). v.kind ≡ kind)
kinds_seen kind (p ∷ ps) all =
    let P : LivePayment → Type 0 = λ x. x.value.kind ≡ kind in
    All-cons (λ (v : ValueView). v.kind ≡ kind) p.value (values_of (map live_view ps)) (All-head P p ps all) (kinds_seen kind ps (All-tail P p ps all))

pub kinds_of_values : (kind : Kind) (given : List LivePayment) (values : List (Bor ValueView)) → All (λ p. p.value.kind ≡ kind) given → map (λ v. v.now) values ≡ values_of (map live_view given) → All (λ v. v.now.kind ≡ kind) values
kinds_of_values kind given values all same = kinds_of_lent kind (values_of (map live_view given)) values (kinds_seen kind given all) same

-- one payment more is read
pub values_more : (w : State) (given : List LivePayment) (p : LivePayment) (ps : List ℕ) (i : ℕ) → i < length ps → map live_view given ≡ map (with_value w) (take i ps) → live_view p ≡ with_value w (get_or ps i 0) → map live_view (given ++ p ∷ []) ≡ map (with_value w) (take (i + 1) ps)
values_more w given p ps i low before is =
    let more : take (i + 1) ps ≡ take i ps ++ get_or ps i 0 ∷ [] = take_more ps i 0 low in
    map-append live_view given (p ∷ [])
    ∙ ap (λ (l : List given_payments.LivePayment). l ++ live_view p ∷ []) before
    ∙ ap (λ (x : given_payments.LivePayment). map (with_value w) (take i ps) ++ x ∷ []) is
    ∙ sym (map-append (with_value w) (take i ps) (get_or ps i 0 ∷ []))
    ∙ sym (ap (map (with_value w)) more)

pub one_more : {X : Type 0} (P : X → Type 0) (xs : List X) (x : X) → All P xs → P x → All P (xs ++ x ∷ [])
one_more P xs x all this = All-append P xs (x ∷ []) all (All-cons P x [] this (All-nil P))

-- ---- a combination

abbrev pair_of : LivePayment → ℕ × ValueView
pair_of p = (p.number, p.value)

gathered_is : (brand to : ℕ) (ps : List LivePayment) → moves_to brand to (map live_view ps) ≡ gathered brand (Payment to) (map payment_part (map pair_of ps))
gathered_is brand to [] = refl
gathered_is brand to (p ∷ ps) = ap (λ (ms : List Movement). record { brand = brand; from = Payment p.number; to = Payment to; value = p.value } ∷ ms) (gathered_is brand to ps)

not_among : (n : ℕ) (ps : List LivePayment) → IsNoneOf (map (λ p. p.number) ps) n → IsNotAmong n (map pair_of ps)
not_among n [] none = tt
not_among n (p ∷ ps) none = (none.0, not_among n ps none.1)

are_once : (ps : List LivePayment) → AreApart (map (λ p. p.number) ps) → AreOnce (map pair_of ps)
are_once [] apart = tt
are_once (p ∷ ps) apart = (not_among p.number ps apart.0, are_once ps apart.1)

pub combination_shaped : (brand to : ℕ) (ps : List LivePayment) → 0 < length ps → AreApart (map (λ p. p.number) ps) → IsNoneOf (map (λ p. p.number) ps) to → IsCombination (moves_to brand to (map live_view ps))
combination_shaped brand to [] some apart new = absurd (omega arith)
combination_shaped brand to (p ∷ ps) some apart new = record {
  brand = brand;
  to = to;
  first = pair_of p;
  others = map pair_of ps;
  once = are_once (p ∷ ps) apart;
  apart = not_among to (p ∷ ps) new;
  is = gathered_is brand to (p ∷ ps);
}

-- one payment more
pub moves_more : (brand to : ℕ) (ps : List LivePayment) (p : LivePayment) → moves_to brand to (map live_view (ps ++ p ∷ [])) ≡ moves_to brand to (map live_view ps) ++ movement brand (Payment p.number) (Payment to) p.value ∷ []
moves_more brand to [] p = refl
moves_more brand to (q ∷ qs) p = ap (λ (ms : List Movement). movement brand (Payment q.number) (Payment to) q.value ∷ ms) (moves_more brand to qs p)

pub combined_some : (brand to : ℕ) (ps : List LivePayment) → 0 < length ps → combined brand to (map live_view ps) ≡ moves (moves_to brand to (map live_view ps)) ∷ []
combined_some brand to [] some = absurd (omega arith)
combined_some brand to (p ∷ ps) some = refl

pub combined_none : (brand to : ℕ) (ps : List LivePayment) → length ps ≡ 0 → combined brand to (map live_view ps) ≡ empty_payment brand ∷ []
combined_none brand to [] none = refl
combined_none brand to (p ∷ ps) none = absurd (omega (arith, none))

-- ---- numbers

pub numbers_kept : (w : State) (given : List LivePayment) (ps : List ℕ) → map live_view given ≡ map (with_value w) ps → AreApart ps → AreApart (map (λ p. p.number) given)
numbers_kept w given ps same apart = subst AreApart (numbers_of w ps ∙ ap (map (λ (p : given_payments.LivePayment). p.number)) (sym same) ∙ numbers_seen given) apart
  where
    numbers_of : (w : State) (ps : List ℕ) → ps ≡ map (λ (p : given_payments.LivePayment). p.number) (map (with_value w) ps)
    numbers_of w [] = refl
    numbers_of w (p ∷ ps) = ap (λ (l : List ℕ). p ∷ l) (numbers_of w ps)

    numbers_seen : (given : List LivePayment) → map (λ (p : given_payments.LivePayment). p.number) (map live_view given) ≡ map (λ p. p.number) given
    numbers_seen [] = refl
    numbers_seen (p ∷ ps) = ap (λ (l : List ℕ). p.number ∷ l) (numbers_seen ps)

-- the number of what is made next is none of theirs
pub none_next : (n : ℕ) (given : List LivePayment) → All (λ p. p.number < n) given → IsNoneOf (map (λ p. p.number) given) n
none_next n [] all = tt
none_next n (p ∷ ps) all =
    let P : LivePayment → Type 0 = λ x. x.number < n in
    let low : p.number < n = All-head P p ps all in
    (omega (arith, low), none_next n ps (All-tail P p ps all))
