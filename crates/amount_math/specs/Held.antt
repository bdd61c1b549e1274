-- What is held in a place of its own, with room for so many keys.
use Rattle.std.specs.Prelude.{◌≡◌, ℕ, ◌+◌, ◌-◌, ◌≤◌, Bool, true, false, cond, List, [], ◌∷◌, length, refl}
use Rattle.std.proofs.Common.{sym, ap, subst, arith}
use Rattle.std.specs.Coded.{Coded, code_by, coded×, coded_ℕ}
use Rattle.std.specs.FinMap as fin
use Rattle.amount_math.specs.declared.Kind.{Kind}
use Rattle.amount_math.specs.declared.Kind.TheVariants.{Nat, Set, Bag}
use Rattle.amount_math.specs.Sparse.{put, put_by}
use Rattle.amount_math.specs.Content.{Content, coded_content, Contains, combined, count, counts, count-sum, is_zero, sum, difference, difference-sum, sum-difference, entries}
use Rattle.amount_math.specs.KindLaws.{outstanding_fits}
use Rattle.amount_math.specs.ValueView.{ValueView, coded_value_view, Fits, IsOutstanding, keys_of, with_content}

-- keys with their counts, and how many keys there is room for
pub record Roomed : Type 0 where
  pub content : Content
  pub room : ℕ

-- a kind's content, and how many keys there is room for
pub record Held : Type 0 where
  pub value : ValueView
  pub room : ℕ

-- the numbers that stand for them, which a model needs
abbrev pub coded_roomed : Coded Roomed
coded_roomed = code_by (Content × ℕ) (coded× coded_content coded_ℕ) (λ r. (r.content, r.room)) (λ p. record { content = p.0; room = p.1 }) (λ _. refl)

abbrev pub coded_held : Coded Held
coded_held = code_by (ValueView × ℕ) (coded× coded_value_view coded_ℕ) (λ h. (h.value, h.room)) (λ p. record { value = p.0; room = p.1 }) (λ _. refl)

-- there is room for so many keys, of which units want none
abbrev pub HasRoom : Kind → ℕ → ℕ → Type 0
HasRoom Nat keys room = Unit {0}
HasRoom Set keys room = keys ≤ room
HasRoom Bag keys room = keys ≤ room

-- how many keys a content of the kind has; units are none
abbrev pub keys_in : Kind → Content → ℕ
keys_in Nat c = 0
keys_in Set c = keys_of c
keys_in Bag c = keys_of c

-- the same place with a content more, and with a content less
abbrev pub with_more : Held → Content → Held
with_more h c = record { value = with_content h.value (sum h.value.content c); room = h.room }

abbrev pub with_less : Held → Content → Held
with_less h c = record { value = with_content h.value (difference h.value.content c); room = h.room }

-- a value of the kind goes in: no count passes the kind's bound then, and there is room for its keys
pub record GoesIn (h : Held) (w : ValueView) : Type 0 where
  pub kind : h.value.kind ≡ w.kind
  pub fits : Fits h.value.kind (sum h.value.content w.content)
  pub room : HasRoom h.value.kind (keys_of (sum h.value.content w.content)) h.room

-- a value of the kind comes out: it is there
pub record ComesOut (h : Held) (w : ValueView) : Type 0 where
  pub kind : h.value.kind ≡ w.kind
  pub has : Contains h.value.content w.content

-- no count passes the kind's bound, and there is room for the keys that are there
pub record IsHeld (h : Held) : Type 0 where
  pub out : IsOutstanding h.value.kind h.value.content
  pub room : HasRoom h.value.kind (keys_of h.value.content) h.room

-- ---- what goes in comes out, and what comes out goes in

pub more_less : (h : Held) (c : Content) → with_less (with_more h c) c ≡ h
more_less h c = ap (λ d. record { value = with_content h.value d; room = h.room }) (difference-sum h.value.content c)

pub less_more : (h : Held) (c : Content) → Contains h.value.content c → with_more (with_less h c) c ≡ h
less_more h c has = ap (λ d. record { value = with_content h.value d; room = h.room }) (sum-difference h.value.content c has)

-- what went in can come out, and what came out can go in
pub comes_back : (h : Held) (w : ValueView) → GoesIn h w → ComesOut (with_more h w.content) w
comes_back h w goes = record { kind = goes.kind; has = record { each = λ k. omega (arith, count-sum h.value.content w.content k) } }

pub goes_back : (h : Held) (w : ValueView) → IsHeld h → ComesOut h w → GoesIn (with_less h w.content) w
goes_back h w held out =
    let whole : sum (difference h.value.content w.content) w.content ≡ h.value.content = sum-difference h.value.content w.content out.has in
    record {
      kind = out.kind;
      fits = subst (λ c. Fits h.value.kind c) (sym whole) (outstanding_fits h.value.kind h.value.content held.out);
      room = subst (λ c. HasRoom h.value.kind (keys_of c) h.room) (sym whole) held.room;
    }

-- ---- room

pub room_for_fewer : (kind : Kind) (few many room : ℕ) → few ≤ many → HasRoom kind many room → HasRoom kind few room
room_for_fewer Nat few many room le h = tt
room_for_fewer Set few many room le h = omega (arith, le, h)
room_for_fewer Bag few many room le h = omega (arith, le, h)

pub more_room : (kind : Kind) (keys room larger : ℕ) → room ≤ larger → HasRoom kind keys room → HasRoom kind keys larger
more_room Nat keys room larger le h = tt
more_room Set keys room larger le h = omega (arith, le, h)
more_room Bag keys room larger le h = omega (arith, le, h)

at_most_one : (b : Bool) (n : ℕ) → cond b n (n + 1) ≤ n + 1
at_most_one true n = omega arith
at_most_one false n = omega arith

at_most_same : (b : Bool) (n : ℕ) → cond b (n - 1) n ≤ n
at_most_same true n = omega arith
at_most_same false n = omega arith

keys_of-put_by : (m : Content) (k : List ℕ) (x : ℕ) (b : Bool) (e : is_zero x ≡ b) → keys_of (put_by counts m k x b e) ≤ keys_of m + 1
unfolding put_by
keys_of-put_by m k x true e = omega (arith, fin.len-remove counts.total m.held k, at_most_same (fin.contains_key m.held k) (keys_of m))
keys_of-put_by m k x false e = omega (arith, fin.len-insert counts.total m.held k x, at_most_one (fin.contains_key m.held k) (keys_of m))

keys_of-put : (m : Content) (k : List ℕ) (x : ℕ) → keys_of (put counts m k x) ≤ keys_of m + 1
unfolding put
keys_of-put m k x = keys_of-put_by m k x _ refl

keys_of-combined : (f : ℕ → ℕ → ℕ) (c : Content) (es : List (List ℕ × ℕ)) → keys_of (combined f c es) ≤ keys_of c + length es
keys_of-combined f c [] = omega arith
keys_of-combined f c (e ∷ es) = omega (arith, keys_of-put (combined f c es) e.0 (f (count c e.0) e.1), keys_of-combined f c es)

-- two together have at most the keys of both
pub keys_of-sum : (a b : Content) → keys_of (sum a b) ≤ keys_of a + keys_of b
unfolding sum
keys_of-sum a b = omega (arith, keys_of-combined (λ m n. m + n) a (entries b), fin.len-entries b.held)

-- so where there is room for the keys of both, there is for those of the sum
pub room_for_sum : (kind : Kind) (a b : Content) (room : ℕ) → HasRoom kind (keys_of a + keys_of b) room → HasRoom kind (keys_of (sum a b)) room
room_for_sum kind a b room h = room_for_fewer kind _ _ room (keys_of-sum a b) h
