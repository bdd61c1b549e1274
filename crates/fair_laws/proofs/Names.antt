-- A name's word and number are those of one object alone, whatever number is asked for.
use Rattle.std.specs.Prelude.{◌&&◌, ◌≡◌, ◌+◌, ◌*◌, ◌/◌, ◌%◌, ◌^◌, ◌<◌, ◌≤◌, ℕ, zero, suc, Bool, true, false, List, [], ◌∷◌, codes, decimal, cond, length, nat_lt, refl}
use Rattle.std.specs.Fmt.{digit_glyph, digits, digits_onto}
use Rattle.std.specs.Str.{bytes_eq}
use Rattle.std.specs.Str.Parse.{digits_value}
use Rattle.std.proofs.Common.{sym, ◌∙◌, ap, subst, arith}
use Rattle.std.proofs.Math.Nat.{one-le-pow, pow-suc}
use Rattle.std.proofs.lemmas.Bool.{ltb-false, ltb-true, ne_eqb}
use Rattle.std.proofs.lemmas.Fmt.{decimal_is_IsNumeral_wide, length-decimal-le_wide}
use Rattle.std.proofs.lemmas.Nat.{le-div}
use Rattle.std.proofs.lemmas.Slice.Eq.{bytes_eq-Decides}
use Rattle.delivery_laws.specs.turn_records.Names.{object_name}
use Rattle.fair_rows.specs.ExitCauses.{name}
use Rattle.delivery_laws.specs.host_data.declared.data.Obj.{Obj}
use Rattle.delivery_laws.specs.host_data.declared.data.ObjKind.{ObjKind}
use Rattle.delivery_laws.specs.host_data.declared.data.ObjKind.TheVariants as kinds
use Rattle.delivery_laws.specs.turn_records.Printed.{object}

-- ---- numbers

-- of a number past that many digits just so many are written
long : (k n : ℕ) (acc : List ℕ) → 10 ^ k ≤ n → length (digits_onto k 10 false n acc) ≡ k + length acc
long zero n acc le = omega arith
long (suc k) n acc le =
    let scaled : 10 ^ k * 10 ≤ n = subst (λ (p : ℕ). p ≤ n) (pow-suc 10 k) le in
    let low : 10 ^ k ≤ n / 10 = le-div (10 ^ k) n 10 (omega arith) scaled in
    let some : 1 ≤ 10 ^ k = one-le-pow k 10 (omega arith) in
    let digit = digit_glyph false (n % 10) in
    ap (λ b. length (cond b (digit ∷ acc) (digits_onto k 10 false (n / 10) (digit ∷ acc)))) (ne_eqb (n / 10) 0 (λ e. omega (arith, low, some, e)))
    ∙ long k (n / 10) (digit ∷ acc) low
    ∙ omega arith

decimal_long : (n : ℕ) → 10 ^ 64 ≤ n → length (decimal n) ≡ 64
unfolding digits
decimal_long n le = long 64 n [] le

pub decimals_same : (k n : ℕ) → k < 2 ^ 128 → decimal k ≡ decimal n → k ≡ n
decimals_same k n wide e = by (nat_lt n (10 ^ 64)) refl
  where
    by : (b : Bool) → nat_lt n (10 ^ 64) ≡ b → k ≡ n
    by true low = sym (decimal_is_IsNumeral_wide k (omega (arith, wide))).1 ∙ ap (digits_value 10) e ∙ (decimal_is_IsNumeral_wide n (ltb-true n (10 ^ 64) low)).1
    by false high =
        let many = decimal_long n (ltb-false n (10 ^ 64) high) in
        let few = length-decimal-le_wide 39 k (omega arith) (omega (arith, wide)) (omega (arith, wide)) in
        absurd (omega (arith, many, few, ap length e))

pub numbers_same : (k n : ℕ) → k < 2 ^ 128 → bytes_eq (decimal k) (decimal n) ≡ true → k ≡ n
numbers_same k n wide is = decimals_same k n wide ((bytes_eq-Decides (decimal k) (decimal n)).0 is)

-- ---- names

module _ (n : ℕ) where
  zseat_at : (kind : ObjKind) (k : ℕ) → (kind ≡ kinds.Zseat → k < 2 ^ 128) → bytes_eq (object_name (object kind k)) (name (codes "zseat") n) ≡ true → object kind k ≡ object kinds.Zseat n
  unfolding object_name
  zseat_at kinds.Zseat k wide is = ap (object kinds.Zseat) (numbers_same k n (wide refl) is)
  zseat_at kind k wide is = cc

  seat_at : (kind : ObjKind) (k : ℕ) → (kind ≡ kinds.Seat → k < 2 ^ 128) → bytes_eq (object_name (object kind k)) (name (codes "seat") n) ≡ true → object kind k ≡ object kinds.Seat n
  unfolding object_name
  seat_at kinds.Seat k wide is = ap (object kinds.Seat) (numbers_same k n (wide refl) is)
  seat_at kind k wide is = cc

  purse_at : (kind : ObjKind) (k : ℕ) → (kind ≡ kinds.Purse → k < 2 ^ 128) → bytes_eq (object_name (object kind k)) (name (codes "purse") n) ≡ true → object kind k ≡ object kinds.Purse n
  unfolding object_name
  purse_at kinds.Purse k wide is = ap (object kinds.Purse) (numbers_same k n (wide refl) is)
  purse_at kind k wide is = cc

  issuer_at : (kind : ObjKind) (k : ℕ) → (kind ≡ kinds.Issuer → k < 2 ^ 128) → bytes_eq (object_name (object kind k)) (name (codes "issuer") n) ≡ true → object kind k ≡ object kinds.Issuer n
  unfolding object_name
  issuer_at kinds.Issuer k wide is = ap (object kinds.Issuer) (numbers_same k n (wide refl) is)
  issuer_at kind k wide is = cc

  pub zseat_is : (o : Obj) → (o.kind ≡ kinds.Zseat → o.number < 2 ^ 128) → bytes_eq (object_name o) (name (codes "zseat") n) ≡ true → o ≡ object kinds.Zseat n
  zseat_is o wide is = zseat_at o.kind o.number wide is

  pub seat_is : (o : Obj) → (o.kind ≡ kinds.Seat → o.number < 2 ^ 128) → bytes_eq (object_name o) (name (codes "seat") n) ≡ true → o ≡ object kinds.Seat n
  seat_is o wide is = seat_at o.kind o.number wide is

  pub purse_is : (o : Obj) → (o.kind ≡ kinds.Purse → o.number < 2 ^ 128) → bytes_eq (object_name o) (name (codes "purse") n) ≡ true → o ≡ object kinds.Purse n
  purse_is o wide is = purse_at o.kind o.number wide is

  pub issuer_is : (o : Obj) → (o.kind ≡ kinds.Issuer → o.number < 2 ^ 128) → bytes_eq (object_name o) (name (codes "issuer") n) ≡ true → o ≡ object kinds.Issuer n
  issuer_is o wide is = issuer_at o.kind o.number wide is

-- a name is its own
pub same_bytes : (s : List ℕ) → bytes_eq s s ≡ true
same_bytes s = (bytes_eq-Decides s s).1 refl

-- ---- tests

pub and_first : (a b : Bool) → (a && b) ≡ true → a ≡ true
and_first true b e = refl
and_first false b e = cc

pub and_second : (a b : Bool) → (a && b) ≡ true → b ≡ true
and_second true b e = e
and_second false b e = cc
