-- What printed movements leave with each holder, by counting: tests that compute, and what follows where they pass.
-- Movements stand in lists with the newest first.
use Rattle.std.proofs.Common.{◌≡◌, ◌≤◌, ◌⊎◌, ◌+◌, ◌-◌, ℕ, Bool, true, false, cond, not, ◌&&◌, ◌||◌, ◌==◌, nat_le, List, [], ◌∷◌, ◌++◌, map, unwrap_or, Some, refl, sym, ap, subst, ◌∙◌, inl, inr, ⊎_elim, arith, leb-true, eqb-true}
use Rattle.std.proofs.lemmas.Bool.{and_parts, cases_Bool, or_parts, true≢false}
use Rattle.std.proofs.lemmas.List.Folds.{list_any-append}
use Rattle.std.specs.FinMap.{find}
use Rattle.std.specs.List.{list_all, list_any}
use Rattle.std.specs.Ordering.{eq_by_cmp}
use Rattle.fair_rows.specs.amount_math.Content.{Contains, Content, count, count-difference, count-nothing, count-of_entries, count-of_nat, count-sum, difference, key_cmp, listed, same_content, sum, unit}
use Rattle.fair_rows.specs.amount_math.Sparse.{at, at-empty, at-put, put, same_key, tied}
use Rattle.fair_rows.proofs.amount_math.Listed.{same_key as same_bytes}
use Rattle.fair_rows.specs.rights_model.Place.{Place, place, place_cmp}
use Rattle.fair_rows.specs.rights_model.Supply.{is_outside}
use Rattle.fair_rows.specs.rights_model.Table.{CanMove, CanMoveAll, Table, given, holdings, holds, moved as table_moved, no_holdings, table_after, taken}
use Rattle.fair_rows.specs.rights_model.declared.Holder.{Holder}
use Rattle.fair_rows.specs.rights_model.declared.Holder.TheVariants.{Hand, Outside, Payment, Purse, Slot}
use Rattle.fair_rows.specs.rights_model.declared.Movement.{Movement}
use Rattle.fair_rows.proofs.rights_model.TableLaws.{CanMoveAll-push, table_after-push}
use Rattle.fair_rows.specs.turn_rows.Form.{key_of}
use Rattle.fair_rows.specs.turn_rows.Turns.{counted, Element, elements, key, Move, number, Value}
use Rattle.fair_rows.specs.Movements.{movement_of}
use Rattle.fair_rows.specs.Values.{content_of, entry_of}

-- ---- the table

abbrev pub table_of : List Move → Table
table_of [] = no_holdings
table_of (m ∷ ms) = table_moved (table_of ms) (movement_of m)

-- the same, the oldest first
abbrev pub moves_of : List Move → List Movement
moves_of [] = []
moves_of (m ∷ ms) = moves_of ms ++ movement_of m ∷ []

pub table_is : (ms : List Move) → table_of ms ≡ table_after no_holdings (moves_of ms)
table_is [] = refl
table_is (m ∷ ms) = ap (λ t. table_moved t (movement_of m)) (table_is ms) ∙ sym (table_after-push no_holdings (moves_of ms) (movement_of m))

-- ---- values

abbrev pub counts_in : Value → List ℕ → ℕ
counts_in (number n) k = cond (eq_by_cmp key_cmp k unit) n 0
counts_in (elements es) k = listed (map entry_of es) k

pub count-value : (v : Value) (k : List ℕ) → count (content_of v) k ≡ counts_in v k
count-value (number n) k = count-of_nat n k
count-value (elements es) k = count-of_entries (map entry_of es) k

abbrev pub keys_in : Value → List (List ℕ)
keys_in (number n) = unit ∷ []
keys_in (elements es) = map key_of es

abbrev pub is_key_in : List ℕ → List (List ℕ) → Bool
is_key_in k ks = list_any (λ q. eq_by_cmp key_cmp k q) ks

listed_none : (es : List Element) (k : List ℕ) → is_key_in k (map key_of es) ≡ false → listed (map entry_of es) k ≡ 0
listed_none [] k e = refl
listed_none (key s ∷ es) k e = ap (λ b. unwrap_or (cond b (Some 1) (find key_cmp k (map entry_of es))) 0) (or_parts _ _ e).0 ∙ listed_none es k (or_parts _ _ e).1
listed_none (counted s n ∷ es) k e = ap (λ b. unwrap_or (cond b (Some n) (find key_cmp k (map entry_of es))) 0) (or_parts _ _ e).0 ∙ listed_none es k (or_parts _ _ e).1

pub counts_none : (v : Value) (k : List ℕ) → is_key_in k (keys_in v) ≡ false → counts_in v k ≡ 0
counts_none (number n) k e = ap (λ b. cond b n 0) (or_parts _ _ e).0
counts_none (elements es) k e = listed_none es k e

pub key_found : (test : List ℕ → Bool) (ks : List (List ℕ)) (k : List ℕ) → list_all test ks ≡ true → is_key_in k ks ≡ true → test k ≡ true
key_found test [] k all found = absurd (true≢false (sym found))
key_found test (q ∷ ks) k all found = by (eq_by_cmp key_cmp k q) refl found (key_found test ks k (and_parts (test q) (list_all test ks) all).1)
  where
    by : (b : Bool) → eq_by_cmp key_cmp k q ≡ b → (b || is_key_in k ks) ≡ true → (is_key_in k ks ≡ true → test k ≡ true) → test k ≡ true
    by true same f rest = subst (λ z. test z ≡ true) (sym (same_bytes k q same)) (and_parts (test q) (list_all test ks) all).0
    by false same f rest = rest f

-- ---- what a holder has

abbrev pub is_at : Holder → ℕ → Holder → ℕ → Bool
is_at h b Outside e = false
is_at h b g e = eq_by_cmp place_cmp (place h b) (place g e)

abbrev pub changed : Bool → Bool → ℕ → ℕ → ℕ
changed from to n v = let left = cond from (n - v) n in cond to (left + v) left

-- how many of an element of a brand a holder has
abbrev pub held : List Move → Holder → ℕ → List ℕ → ℕ
held [] h b k = 0
held (m ∷ ms) h b k = changed (is_at h b m.from m.brand) (is_at h b m.to m.brand) (held ms h b k) (counts_in m.value k)

choose : (q : Bool) (x y z : ℕ) → (q ≡ true → x ≡ y) → cond q x z ≡ cond q y z
choose true x y z same = same refl
choose false x y z same = refl

count_choose : (q : Bool) (x y : Content) (k : List ℕ) → count (cond q x y) k ≡ cond q (count x k) (count y k)
count_choose true x y k = refl
count_choose false x y k = refl

count-put : (t : Table) (g : Holder) (e : ℕ) (x : Content) (h : Holder) (b : ℕ) (k : List ℕ) → count (at holdings (put holdings t (place g e) x) (place h b)) k ≡ cond (eq_by_cmp place_cmp (place h b) (place g e)) (count x k) (count (holds t h b) k)
count-put t g e x h b k = ap (λ c. count c k) (at-put holdings t (place g e) x (place h b)) ∙ count_choose (eq_by_cmp place_cmp (place h b) (place g e)) x (holds t h b) k

put-given : (t : Table) (g : Holder) (e : ℕ) (c : Content) (h : Holder) (b : ℕ) (k : List ℕ) → count (at holdings (put holdings t (place g e) (sum (holds t g e) c)) (place h b)) k ≡ cond (eq_by_cmp place_cmp (place h b) (place g e)) (count (holds t h b) k + count c k) (count (holds t h b) k)
put-given t g e c h b k = count-put t g e (sum (holds t g e) c) h b k ∙ choose (eq_by_cmp place_cmp (place h b) (place g e)) _ _ _ (λ same. count-sum (holds t g e) c k ∙ ap (λ (p : Place). count (at holdings t p) k + count c k) (sym (same_key holdings (place h b) (place g e) same)))

put-taken : (t : Table) (g : Holder) (e : ℕ) (c : Content) (h : Holder) (b : ℕ) (k : List ℕ) → count (at holdings (put holdings t (place g e) (difference (holds t g e) c)) (place h b)) k ≡ cond (eq_by_cmp place_cmp (place h b) (place g e)) (count (holds t h b) k - count c k) (count (holds t h b) k)
put-taken t g e c h b k = count-put t g e (difference (holds t g e) c) h b k ∙ choose (eq_by_cmp place_cmp (place h b) (place g e)) _ _ _ (λ same. count-difference (holds t g e) c k ∙ ap (λ (p : Place). count (at holdings t p) k - count c k) (sym (same_key holdings (place h b) (place g e) same)))

count-given : (t : Table) (g : Holder) (e : ℕ) (c : Content) (h : Holder) (b : ℕ) (k : List ℕ) → count (holds (given t g e c) h b) k ≡ cond (is_at h b g e) (count (holds t h b) k + count c k) (count (holds t h b) k)
unfolding given
count-given t Outside e c h b k = refl
count-given t (Purse n) e c h b k = put-given t (Purse n) e c h b k
count-given t (Payment n) e c h b k = put-given t (Payment n) e c h b k
count-given t (Slot n w) e c h b k = put-given t (Slot n w) e c h b k
count-given t Hand e c h b k = put-given t Hand e c h b k

count-taken : (t : Table) (g : Holder) (e : ℕ) (c : Content) (h : Holder) (b : ℕ) (k : List ℕ) → count (holds (taken t g e c) h b) k ≡ cond (is_at h b g e) (count (holds t h b) k - count c k) (count (holds t h b) k)
unfolding taken
count-taken t Outside e c h b k = refl
count-taken t (Purse n) e c h b k = put-taken t (Purse n) e c h b k
count-taken t (Payment n) e c h b k = put-taken t (Payment n) e c h b k
count-taken t (Slot n w) e c h b k = put-taken t (Slot n w) e c h b k
count-taken t Hand e c h b k = put-taken t Hand e c h b k

pub held_is : (ms : List Move) (h : Holder) (b : ℕ) (k : List ℕ) → count (holds (table_of ms) h b) k ≡ held ms h b k
held_is [] h b k = ap (λ c. count c k) (at-empty holdings (place h b)) ∙ count-nothing k
held_is (m ∷ ms) h b k =
    let c = content_of m.value in
    let p = is_at h b m.from m.brand in
    let q = is_at h b m.to m.brand in
    count-given (taken (table_of ms) m.from m.brand c) m.to m.brand c h b k
    ∙ ap (λ (x : ℕ). cond q (x + count c k) x) (count-taken (table_of ms) m.from m.brand c h b k)
    ∙ ap (λ (n : ℕ). changed p q n (count c k)) (held_is ms h b k)
    ∙ ap (λ (v : ℕ). changed p q (held ms h b k) v) (count-value m.value k)

-- ---- where there is something

abbrev pub Spot : Type 0
Spot = Holder × ℕ × List ℕ

abbrev spots_at : Holder → ℕ → List (List ℕ) → List Spot
spots_at h b [] = []
spots_at h b (k ∷ ks) = (h, b, k) ∷ spots_at h b ks

-- the places that were given something
abbrev pub reach : List Move → List Spot
reach [] = []
reach (m ∷ ms) = spots_at m.to m.brand (keys_in m.value) ++ reach ms

abbrev is_spot : Holder → ℕ → List ℕ → Spot → Bool
is_spot h b k p = is_at h b p.0 p.1 && eq_by_cmp key_cmp k p.2

spot_keys : (h : Holder) (b : ℕ) (k : List ℕ) (g : Holder) (e : ℕ) (ks : List (List ℕ)) → is_at h b g e ≡ true → list_any (is_spot h b k) (spots_at g e ks) ≡ false → is_key_in k ks ≡ false
spot_keys h b k g e [] same none = refl
spot_keys h b k g e (q ∷ ks) same none =
    let here : eq_by_cmp key_cmp k q ≡ false = ap (λ a. a && eq_by_cmp key_cmp k q) (sym same) ∙ (or_parts _ _ none).0 in
    ap (λ b. b || is_key_in k ks) here ∙ spot_keys h b k g e ks same (or_parts _ _ none).1

still_none : (p q : Bool) (n v : ℕ) → n ≡ 0 → (q ≡ true → v ≡ 0) → changed p q n v ≡ 0
still_none true true n v e z = omega (arith, e, z refl)
still_none true false n v e z = omega (arith, e)
still_none false true n v e z = omega (arith, e, z refl)
still_none false false n v e z = e

unreached : (ms : List Move) (h : Holder) (b : ℕ) (k : List ℕ) → list_any (is_spot h b k) (reach ms) ≡ false → held ms h b k ≡ 0
unreached [] h b k none = refl
unreached (m ∷ ms) h b k none =
    let parts = or_parts _ _ (sym (list_any-append (is_spot h b k) (spots_at m.to m.brand (keys_in m.value)) (reach ms)) ∙ none) in
    still_none (is_at h b m.from m.brand) (is_at h b m.to m.brand) (held ms h b k) (counts_in m.value k) (unreached ms h b k parts.1) (λ same. counts_none m.value k (spot_keys h b k m.to m.brand (keys_in m.value) same parts.0))

pub at_same : (h : Holder) (b : ℕ) (g : Holder) (e : ℕ) → is_at h b g e ≡ true → place h b ≡ place g e
at_same h b Outside e is = absurd (true≢false (sym is))
at_same h b (Purse n) e is = same_key holdings (place h b) (place (Purse n) e) is
at_same h b (Payment n) e is = same_key holdings (place h b) (place (Payment n) e) is
at_same h b (Slot n w) e is = same_key holdings (place h b) (place (Slot n w) e) is
at_same h b Hand e is = same_key holdings (place h b) (place Hand e) is

pub at_itself : (h : Holder) (b : ℕ) → is_outside h ≡ false → is_at h b h b ≡ true
at_itself Outside b is = absurd (true≢false is)
at_itself (Purse n) b is = tied holdings (place (Purse n) b)
at_itself (Payment n) b is = tied holdings (place (Payment n) b)
at_itself (Slot n w) b is = tied holdings (place (Slot n w) b)
at_itself Hand b is = tied holdings (place Hand b)

abbrev pub SpotTest : Type 0
SpotTest = Holder → ℕ → List ℕ → ℕ → Bool

spot_found : (test : Spot → Bool) (ps : List Spot) (h : Holder) (b : ℕ) (k : List ℕ) → list_all test ps ≡ true → list_any (is_spot h b k) ps ≡ true → test (h, b, k) ≡ true
spot_found test [] h b k all found = absurd (true≢false (sym found))
spot_found test (p ∷ ps) h b k all found = by (is_spot h b k p) refl found (spot_found test ps h b k (and_parts (test p) (list_all test ps) all).1)
  where
    by : (x : Bool) → is_spot h b k p ≡ x → (x || list_any (is_spot h b k) ps) ≡ true → (list_any (is_spot h b k) ps ≡ true → test (h, b, k) ≡ true) → test (h, b, k) ≡ true
    by false is f rest = rest f
    by true is f rest =
        let parts = and_parts (is_at h b p.0 p.1) (eq_by_cmp key_cmp k p.2) is in
        let there = at_same h b p.0 p.1 parts.0 in
        let element = same_bytes k p.2 parts.1 in
        let first : test (p.0, p.1, k) ≡ true = subst (λ (q : List ℕ). test (p.0, p.1, q) ≡ true) (sym element) (and_parts (test p) (list_all test ps) all).0 in
        subst (λ (z : Place). test (z.0, z.1, k) ≡ true) (sym there) first

-- a test of each place that was given something, with what it has
abbrev pub all_held : SpotTest → List Move → Bool
all_held test ms = list_all (λ (p : Spot). test p.0 p.1 p.2 (held ms p.0 p.1 p.2)) (reach ms)

-- each place passes, or has nothing
pub everywhere : (test : SpotTest) (ms : List Move) → all_held test ms ≡ true → (h : Holder) (b : ℕ) (k : List ℕ) → (test h b k (held ms h b k) ≡ true) ⊎ (held ms h b k ≡ 0)
everywhere test ms all h b k = ⊎_elim
    (λ found. inl (spot_found (λ (p : Spot). test p.0 p.1 p.2 (held ms p.0 p.1 p.2)) (reach ms) h b k all found))
    (λ none. inr (unreached ms h b k none))
    (cases_Bool (list_any (is_spot h b k) (reach ms)))

-- ---- a holder has a value

abbrev pub has : List Move → Holder → ℕ → Value → Bool
has ms h b v = list_all (λ k. nat_le (counts_in v k) (held ms h b k)) (keys_in v)

pub contains : (ms : List Move) (h : Holder) (b : ℕ) (v : Value) → has ms h b v ≡ true → Contains (holds (table_of ms) h b) (content_of v)
contains ms h b v all = record { each = λ k. omega (arith, count-value v k, held_is ms h b k, enough k) }
  where
    enough : (k : List ℕ) → counts_in v k ≤ held ms h b k
    enough k = ⊎_elim
        (λ found. leb-true _ _ (key_found (λ q. nat_le (counts_in v q) (held ms h b q)) (keys_in v) k all found))
        (λ none. omega (arith, counts_none v k none))
        (cases_Bool (is_key_in k (keys_in v)))

-- and no more
abbrev pub has_just : List Move → Holder → ℕ → Value → Bool
has_just ms h b v = list_all (λ k. counts_in v k == held ms h b k) (keys_in v) && all_held (λ g e k n. not (is_at h b g e) || n == counts_in v k) ms

right_side : (a b : Bool) → a ≡ true → (not a || b) ≡ true → b ≡ true
right_side true b is h = h
right_side false b is h = absurd (true≢false (sym is))

pub just : (ms : List Move) (h : Holder) (b : ℕ) (v : Value) → is_outside h ≡ false → has_just ms h b v ≡ true → content_of v ≡ holds (table_of ms) h b
just ms h b v inside all = same_content _ _ (λ k. count-value v k ∙ same k ∙ sym (held_is ms h b k))
  where
    parts : (list_all (λ k. counts_in v k == held ms h b k) (keys_in v) ≡ true) × (all_held (λ g e k n. not (is_at h b g e) || n == counts_in v k) ms ≡ true)
    parts = and_parts (list_all (λ k. counts_in v k == held ms h b k) (keys_in v)) (all_held (λ g e k n. not (is_at h b g e) || n == counts_in v k) ms) all

    zero_in : (k : List ℕ) → held ms h b k ≡ 0 → counts_in v k ≡ held ms h b k
    zero_in k none = ⊎_elim
        (λ found. eqb-true _ _ (key_found (λ q. counts_in v q == held ms h b q) (keys_in v) k parts.0 found))
        (λ gone. counts_none v k gone ∙ sym none)
        (cases_Bool (is_key_in k (keys_in v)))

    same : (k : List ℕ) → counts_in v k ≡ held ms h b k
    same k = ⊎_elim
        (λ passes. sym (eqb-true (held ms h b k) (counts_in v k) (right_side (is_at h b h b) (held ms h b k == counts_in v k) (at_itself h b inside) passes)))
        (zero_in k)
        (everywhere (λ g e q n. not (is_at h b g e) || n == counts_in v q) ms parts.1 h b k)

-- ---- movements that are defined

abbrev pub can_move : List Move → Move → Bool
can_move ms m = is_outside m.from || has ms m.from m.brand m.value

pub moves : (ms : List Move) (m : Move) → can_move ms m ≡ true → CanMove (table_of ms) (movement_of m)
moves ms m test = record { has = λ inside. contains ms m.from m.brand m.value (by m.from inside test) }
  where
    by : (h : Holder) → (h ≡ Outside → ⊥) → (is_outside h || has ms m.from m.brand m.value) ≡ true → has ms m.from m.brand m.value ≡ true
    by Outside inside t = absurd (inside refl)
    by (Purse n) inside t = t
    by (Payment n) inside t = t
    by (Slot n w) inside t = t
    by Hand inside t = t

abbrev pub can_move_all : List Move → Bool
can_move_all [] = true
can_move_all (m ∷ ms) = can_move ms m && can_move_all ms

pub all_moves : (ms : List Move) → can_move_all ms ≡ true → CanMoveAll no_holdings (moves_of ms)
all_moves [] test = tt
all_moves (m ∷ ms) test = CanMoveAll-push no_holdings (moves_of ms) (movement_of m) (all_moves ms (and_parts _ _ test).1) (subst (λ t. CanMove t (movement_of m)) (table_is ms) (moves ms m (and_parts _ _ test).0))
