-- The payments after one is made, is spent, or goes back.
use Rattle.std.proofs.Common.{◌≡◌, ℕ, ◌+◌, ◌-◌, ◌<◌, ◌≤◌, zero, suc, List, [], ◌∷◌, ◌++◌, length, map, refl, sym, ap, subst, ◌∙◌, arith, add-zero, length-append, Bool, true, false, cond, eqb, ◌⊎◌, inl, inr}
use Rattle.std.specs.Prelude.{Option, None, Some, count_by, is_some, slice_get, slice_index_or, slice_set}
use Rattle.std.specs.List.{sum_by}
use Rattle.std.proofs.lemmas.Bool.Decides.{eqb_tells}
use Rattle.std.proofs.lemmas.List.{set-get_or}
use Rattle.std.proofs.lemmas.List.Sums.{sum_by-append, sum_by-set}
use Rattle.std.proofs.lemmas.Option.{slice_get_within}
use Rattle.ertp_mint.specs.amount_math.ValueView.{ValueView}
use Rattle.ertp_mint.specs.amount_math.declared.Amount.{Amount}
use Rattle.slab.specs.Slab.{Slab, Updates, get, slab_len}
use Rattle.holders.specs.PaymentViews.{IsMade, IsRoomier, PaymentView, is_live, live_payment, payment_view_at, spent_payment}
use Rattle.holders.specs.Kept.{AreKept, book_of, held_by, keys_of, payment_view_of, payment_views_from}
use Rattle.holders.specs.declared.payments.Entry.{Entry}
use Rattle.holders.specs.declared.payments.Listed.{Listed}
use Rattle.holders.proofs.Lists.{get_before, get_in, get_last, get_more, get_set_other, get_set_same, set_same}

-- ---- how many, and which

pub payment_views_long : (m : ℕ) (live : Slab Entry) (ls : List Listed) → length (payment_views_from m live ls) ≡ length ls
payment_views_long m live [] = refl
payment_views_long m live (l ∷ ls) = ap suc (payment_views_long (m + 1) live ls)

pub keys_long : (ls : List Listed) → length (keys_of ls) ≡ length ls
keys_long [] = refl
keys_long (l ∷ ls) = ap suc (keys_long ls)

payment_there : (m n j : ℕ) (live : Slab Entry) (ls : List Listed) (l : Listed) → j ≡ m + n → slice_get ls n ≡ Some l → payment_view_at (payment_views_from m live ls) n ≡ payment_view_of live j l
payment_there m n j live [] l is h = cc
payment_there m zero j live (x ∷ xs) l is h =
    let same : x ≡ l = cc in
    let at : m ≡ j = omega arith in
    ap (λ y. payment_view_of live m y) same ∙ ap (λ k. payment_view_of live k l) at
payment_there m (suc n) j live (x ∷ xs) l is h = payment_there (m + 1) n j live xs l (omega arith) h

-- what a payment is, by what is listed for it
pub payment_listed : (n : ℕ) (live : Slab Entry) (ls : List Listed) (l : Listed) → slice_get ls n ≡ Some l → payment_view_at (payment_views_from 0 live ls) n ≡ payment_view_of live n l
payment_listed n live ls l h = payment_there 0 n n live ls l (omega arith) h

-- what a payment holds, by the key that is kept for it
pub held_kept : (n key : ℕ) (live : Slab Entry) (ls : List Listed) → slice_get (keys_of ls) n ≡ Some key → (payment_view_at (payment_views_from 0 live ls) n).held ≡ held_by n (get live key)
held_kept n key live ls h =
    let l = get_in (λ (l : Listed). l.key) ls n key h in
    ap (λ (p : PaymentView). p.held) (payment_listed n live ls l.0 l.1) ∙ ap (λ k. held_by n (get live k)) l.2

-- ---- which payment an entry is of

held_if : (e : Entry) (n : ℕ) (b : Bool) → eqb e.number n ≡ b → held_by n (Some e) ≡ cond b (Some e.balance.amount.value) None
held_if e n b is = rw is refl

pub held_own : (e : Entry) (n : ℕ) → e.number ≡ n → held_by n (Some e) ≡ Some e.balance.amount.value
held_own e n is = own (eqb_tells e.number n)
  where
    own : ((eqb e.number n ≡ true) × (e.number ≡ n)) ⊎ ((eqb e.number n ≡ false) × (e.number ≡ n → ⊥)) → held_by n (Some e) ≡ Some e.balance.amount.value
    own (inl h) = held_if e n true h.0
    own (inr h) = absurd (h.1 is)

pub held_other : (e : Entry) (n : ℕ) → (e.number ≡ n → ⊥) → held_by n (Some e) ≡ None
held_other e n apart = other (eqb_tells e.number n)
  where
    other : ((eqb e.number n ≡ true) × (e.number ≡ n)) ⊎ ((eqb e.number n ≡ false) × (e.number ≡ n → ⊥)) → held_by n (Some e) ≡ None
    other (inl h) = absurd (apart h.1)
    other (inr h) = held_if e n false h.0

-- a payment that holds something is that of the entry under its key
pub entry_held : (n : ℕ) (o : Option Entry) → is_some (held_by n o) ≡ true → (e : Entry) × (o ≡ Some e) × (e.number ≡ n)
entry_held n None h = cc
entry_held n (Some e) h = of (eqb_tells e.number n)
  where
    of : ((eqb e.number n ≡ true) × (e.number ≡ n)) ⊎ ((eqb e.number n ≡ false) × (e.number ≡ n → ⊥)) → (f : Entry) × (Some e ≡ Some f) × (f.number ≡ n)
    of (inl t) = (e, refl, t.1)
    of (inr t) =
        let none : held_by n (Some e) ≡ None = held_other e n t.1 in
        let never : true ≡ false = sym h ∙ ap is_some none in
        cc

-- where one key's entry changes and neither was this payment's, the payment is as it was
pub moved : (live after : Slab Entry) (key : ℕ) (slot : Option Entry) (n k : ℕ) → Updates live after key slot → held_by n (get live key) ≡ None → held_by n slot ≡ None → held_by n (get after k) ≡ held_by n (get live k)
moved live after key slot n k u before then = at (eqb_tells k key)
  where
    at : ((eqb k key ≡ true) × (k ≡ key)) ⊎ ((eqb k key ≡ false) × (k ≡ key → ⊥)) → held_by n (get after k) ≡ held_by n (get live k)
    at (inl h) = ap (λ j. held_by n (get after j)) h.1 ∙ (ap (held_by n) u.changed ∙ then) ∙ sym (ap (λ j. held_by n (get live j)) h.1 ∙ before)
    at (inr h) = ap (held_by n) (u.others k h.1)

-- ---- the list of payments

abbrev AreSame : ℕ → Slab Entry → Slab Entry → List Listed → Type 0
AreSame m live after ls = (i j : ℕ) (l : Listed) → j ≡ m + i → slice_get ls i ≡ Some l → held_by j (get after l.key) ≡ held_by j (get live l.key)

abbrev AreApart : ℕ → ℕ → Slab Entry → Slab Entry → List Listed → Type 0
AreApart m n live after ls = (i j : ℕ) (l : Listed) → j ≡ m + i → (i ≡ n → ⊥) → slice_get ls i ≡ Some l → held_by j (get after l.key) ≡ held_by j (get live l.key)

abbrev payment_view : ℕ → Option ValueView → PaymentView
payment_view brand held = record { brand = brand; held = held }

abbrev listed : ℕ → ℕ → Listed
listed brand key = record { brand = brand; key = key }

abbrev pub listed_of : Entry → ℕ → Listed
listed_of e key = record { brand = e.balance.amount.brand; key = key }

payment_views_same : (m : ℕ) (live after : Slab Entry) (ls : List Listed) → AreSame m live after ls → payment_views_from m after ls ≡ payment_views_from m live ls
payment_views_same m live after [] same = refl
payment_views_same m live after (l ∷ ls) same =
    let head : payment_view_of after m l ≡ payment_view_of live m l = ap (payment_view l.brand) (same zero m l (omega arith) refl) in
    let rest : payment_views_from (m + 1) after ls ≡ payment_views_from (m + 1) live ls = payment_views_same (m + 1) live after ls (λ i j k is h. same (suc i) j k (omega arith) h) in
    ap (λ p. p ∷ payment_views_from (m + 1) after ls) head ∙ ap (λ ps. payment_view_of live m l ∷ ps) rest

payment_views_push : (m j : ℕ) (live : Slab Entry) (ls : List Listed) (l : Listed) → j ≡ m + length ls → payment_views_from m live (ls ++ l ∷ []) ≡ payment_views_from m live ls ++ payment_view_of live j l ∷ []
payment_views_push m j live [] l is = let at : m ≡ j = omega arith in ap (λ k. payment_view_of live k l ∷ []) at
payment_views_push m j live (x ∷ xs) l is = ap (λ ps. payment_view_of live m x ∷ ps) (payment_views_push (m + 1) j live xs l (omega arith))

not_zero : (i : ℕ) → suc i ≡ 0 → ⊥
not_zero i e = omega arith

payment_views_set : (m n j : ℕ) (live after : Slab Entry) (ls : List Listed) (l : Listed) → j ≡ m + n → n < length ls → AreApart m n live after ls → payment_views_from m after (slice_set ls n l) ≡ slice_set (payment_views_from m live ls) n (payment_view_of after j l)
payment_views_set m n j live after [] l is lt apart = absurd (omega arith)
payment_views_set m zero j live after (x ∷ xs) l is lt apart =
    let at : m ≡ j = omega arith in
    let rest : payment_views_from (m + 1) after xs ≡ payment_views_from (m + 1) live xs = payment_views_same (m + 1) live after xs (λ i k y is h. apart (suc i) k y (omega arith) (not_zero i) h) in
    ap (λ k. payment_view_of after k l ∷ payment_views_from (m + 1) after xs) at ∙ ap (λ ps. payment_view_of after j l ∷ ps) rest
payment_views_set m (suc n) j live after (x ∷ xs) l is lt apart =
    let head : payment_view_of after m x ≡ payment_view_of live m x = ap (payment_view x.brand) (apart zero m x (omega arith) (λ e. not_zero n (sym e)) refl) in
    let rest = payment_views_set (m + 1) n j live after xs l (omega arith) (omega arith) (λ i k y is ne h. apart (suc i) k y (omega arith) (λ e. ne (omega arith)) h) in
    ap (λ p. p ∷ payment_views_from (m + 1) after (slice_set xs n l)) head ∙ ap (λ ps. payment_view_of live m x ∷ ps) rest

-- ---- how many are live

count_push : (ps : List PaymentView) (a : Amount) → count_by is_live (ps ++ live_payment a ∷ []) ≡ count_by is_live ps + 1
count_push ps a = sum_by-append (λ q. cond (is_live q) 1 0) ps (live_payment a ∷ [])

count_spent : (ps : List PaymentView) (n : ℕ) (a : Amount) → n < length ps → payment_view_at ps n ≡ live_payment a → count_by is_live (slice_set ps n (spent_payment a.brand)) + 1 ≡ count_by is_live ps
count_spent ps n a lt is =
    let now = count_by is_live (slice_set ps n (spent_payment a.brand)) in
    let was : cond (is_live (payment_view_at ps n)) 1 0 ≡ 1 = ap (λ p. cond (is_live p) 1 0) is in
    let sums : now + cond (is_live (payment_view_at ps n)) 1 0 ≡ count_by is_live ps + 0 = sum_by-set (λ q. cond (is_live q) 1 0) ps n (spent_payment a.brand) (spent_payment 0) lt in
    subst (λ (k : ℕ). now + k ≡ count_by is_live ps + 0) was sums ∙ add-zero (count_by is_live ps)

count_unspent : (ps : List PaymentView) (n : ℕ) (a : Amount) → n < length ps → (payment_view_at ps n).held ≡ None → count_by is_live (slice_set ps n (live_payment a)) ≡ count_by is_live ps + 1
count_unspent ps n a lt is =
    let now = count_by is_live (slice_set ps n (live_payment a)) in
    let was : cond (is_live (payment_view_at ps n)) 1 0 ≡ 0 = ap (λ h. cond (is_some h) 1 0) is in
    let sums : now + cond (is_live (payment_view_at ps n)) 1 0 ≡ count_by is_live ps + 1 = sum_by-set (λ q. cond (is_live q) 1 0) ps n (live_payment a) (spent_payment 0) lt in
    sym (add-zero now) ∙ subst (λ (k : ℕ). now + k ≡ count_by is_live ps + 1) was sums

-- ---- no other payment's entry is touched

vacant : (live : Slab Entry) (key : ℕ) → get live key ≡ None → (i : ℕ) → held_by i (get live key) ≡ None
vacant live key h i = ap (held_by i) h

not_others : (o : Option Entry) (e : Entry) (n i : ℕ) → o ≡ Some e → e.number ≡ n → (i ≡ n → ⊥) → held_by i o ≡ None
not_others o e n i is number ne = ap (held_by i) is ∙ held_other e i (λ same. ne (sym same ∙ number))

-- ---- a payment is made

module _ (live after : Slab Entry) (ls : List Listed) (key : ℕ) (e : Entry) where
  made_same : get live key ≡ None → Updates live after key (Some e) → e.number ≡ length ls → payment_views_from 0 after ls ≡ payment_views_from 0 live ls
  made_same free u number = payment_views_same 0 live after ls (λ i j l is h. let lt : i < length ls = slice_get_within ls i l h in moved live after key (Some e) j l.key u (vacant live key free j) (held_other e j (λ same. omega arith)))

  pub made_payments : get live key ≡ None → Updates live after key (Some e) → e.number ≡ length ls → payment_views_from 0 after (ls ++ listed_of e key ∷ []) ≡ payment_views_from 0 live ls ++ live_payment e.balance.amount ∷ []
  made_payments free u number =
      let own : payment_view_of after (length ls) (listed_of e key) ≡ live_payment e.balance.amount = ap (payment_view e.balance.amount.brand) (ap (held_by (length ls)) u.changed ∙ held_own e (length ls) number) in
      payment_views_push 0 (length ls) after ls (listed_of e key) (omega arith)
      ∙ (ap (λ ps. ps ++ payment_view_of after (length ls) (listed_of e key) ∷ []) (made_same free u number)
      ∙ ap (λ p. payment_views_from 0 live ls ++ p ∷ []) own)

  made_entry : AreKept live ls → Updates live after key (Some e) → e.number ≡ length ls → (k : ℕ) (f : Entry) → get after k ≡ Some f → ((eqb k key ≡ true) × (k ≡ key)) ⊎ ((eqb k key ≡ false) × (k ≡ key → ⊥)) → slice_get (ls ++ listed_of e key ∷ []) f.number ≡ Some (listed_of f k)
  made_entry kept u number k f is (inl h) =
      let there : get after key ≡ Some f = sym (ap (λ j. get after j) h.1) ∙ is in
      let some : Some e ≡ Some f = sym u.changed ∙ there in
      let same : e ≡ f = cc in
      let at : slice_get (ls ++ listed_of e key ∷ []) e.number ≡ Some (listed_of e key) = get_last ls e.number (listed_of e key) number in
      subst (λ (j : ℕ). slice_get (ls ++ listed_of e key ∷ []) f.number ≡ Some (listed_of f j)) (sym h.1) (subst (λ (x : Entry). slice_get (ls ++ listed_of e key ∷ []) x.number ≡ Some (listed_of x key)) same at)
  made_entry kept u number k f is (inr h) = get_more ls f.number (listed_of f k) (listed_of e key) (kept.entries k f (sym (u.others k h.1) ∙ is))

  pub made_kept : AreKept live ls → get live key ≡ None → Updates live after key (Some e) → slab_len after ≡ slab_len live + 1 → e.number ≡ length ls → AreKept after (ls ++ listed_of e key ∷ [])
  made_kept kept free u long number = record {
    entries = λ k f is. made_entry kept u number k f is (eqb_tells k key);
    counted = long ∙ (ap (λ n. n + 1) kept.counted ∙ sym (ap (count_by is_live) (made_payments free u number) ∙ count_push (payment_views_from 0 live ls) e.balance.amount));
  }

-- ---- a payment is spent

module _ (live after : Slab Entry) (ls : List Listed) (n key : ℕ) (e : Entry) where
  pub payment_live : slice_get ls n ≡ Some (listed_of e key) → get live key ≡ Some e → e.number ≡ n → payment_view_at (payment_views_from 0 live ls) n ≡ live_payment e.balance.amount
  payment_live h is number = payment_listed n live ls (listed_of e key) h ∙ ap (payment_view e.balance.amount.brand) (ap (held_by n) is ∙ held_own e n number)

  pub spent_payments : slice_get ls n ≡ Some (listed_of e key) → get live key ≡ Some e → e.number ≡ n → Updates live after key None → payment_views_from 0 after ls ≡ slice_set (payment_views_from 0 live ls) n (spent_payment e.balance.amount.brand)
  spent_payments h is number u =
      let l = listed_of e key in
      let lt : n < length ls = slice_get_within ls n l h in
      let apart : AreApart 0 n live after ls = λ i j x at ne there. moved live after key None j x.key u (not_others (get live key) e n j is number (λ same. ne (omega arith))) refl in
      sym (ap (λ xs. payment_views_from 0 after xs) (set_same ls n l h))
      ∙ (payment_views_set 0 n n live after ls l (omega arith) lt apart
      ∙ ap (λ p. slice_set (payment_views_from 0 live ls) n p) (ap (payment_view e.balance.amount.brand) (ap (held_by n) u.changed)))

  spent_entry : AreKept live ls → Updates live after key None → (k : ℕ) (f : Entry) → get after k ≡ Some f → ((eqb k key ≡ true) × (k ≡ key)) ⊎ ((eqb k key ≡ false) × (k ≡ key → ⊥)) → slice_get ls f.number ≡ Some (listed_of f k)
  spent_entry kept u k f is (inl h) = let none : get after k ≡ None = ap (λ j. get after j) h.1 ∙ u.changed in cc
  spent_entry kept u k f is (inr h) = kept.entries k f (sym (u.others k h.1) ∙ is)

  pub spent_kept : AreKept live ls → slice_get ls n ≡ Some (listed_of e key) → get live key ≡ Some e → e.number ≡ n → Updates live after key None → slab_len after + 1 ≡ slab_len live → AreKept after ls
  spent_kept kept h is number u long =
      let within : n < length ls = slice_get_within ls n (listed_of e key) h in
      let lt : n < length (payment_views_from 0 live ls) = omega (arith, payment_views_long 0 live ls) in
      let count : count_by is_live (slice_set (payment_views_from 0 live ls) n (spent_payment e.balance.amount.brand)) + 1 ≡ count_by is_live (payment_views_from 0 live ls) = count_spent (payment_views_from 0 live ls) n e.balance.amount lt (payment_live h is number) in
      let same : count_by is_live (payment_views_from 0 after ls) ≡ count_by is_live (slice_set (payment_views_from 0 live ls) n (spent_payment e.balance.amount.brand)) = ap (count_by is_live) (spent_payments h is number u) in
      let was = kept.counted in
      record {
        entries = λ k f there. spent_entry kept u k f there (eqb_tells k key);
        counted = omega arith;
      }

-- ---- a spent payment holds a parcel again

module _ (live after : Slab Entry) (ls : List Listed) (n key brand : ℕ) (e : Entry) where
  abbrev again : Listed
  again = record { brand = brand; key = key }

  pub unspent_payments : n < length ls → brand ≡ e.balance.amount.brand → get live key ≡ None → e.number ≡ n → Updates live after key (Some e) → payment_views_from 0 after (slice_set ls n again) ≡ slice_set (payment_views_from 0 live ls) n (live_payment e.balance.amount)
  unspent_payments lt is free number u =
      let apart : AreApart 0 n live after ls = λ i j x at ne there. moved live after key (Some e) j x.key u (vacant live key free j) (held_other e j (λ same. ne (omega arith))) in
      payment_views_set 0 n n live after ls again (omega arith) lt apart
      ∙ ap (λ p. slice_set (payment_views_from 0 live ls) n p) (ap (λ b. payment_view b (held_by n (get after key))) is ∙ ap (payment_view e.balance.amount.brand) (ap (held_by n) u.changed ∙ held_own e n number))

  not_spent : AreKept live ls → (payment_view_at (payment_views_from 0 live ls) n).held ≡ None → (k : ℕ) (f : Entry) → get live k ≡ Some f → f.number ≡ n → ⊥
  not_spent kept spent k f is number =
      let there : slice_get ls n ≡ Some (listed_of f k) = subst (λ i. slice_get ls i ≡ Some (listed_of f k)) number (kept.entries k f is) in
      let held : (payment_view_at (payment_views_from 0 live ls) n).held ≡ Some f.balance.amount.value = ap (λ (p : PaymentView). p.held) (payment_live live after ls n k f there is number) in
      none_some (sym spent ∙ held)
    where
      none_some : {v : ValueView} → None ≡ Some v → ⊥
      none_some h = cc

  unspent_entry : AreKept live ls → n < length ls → brand ≡ e.balance.amount.brand → (payment_view_at (payment_views_from 0 live ls) n).held ≡ None → e.number ≡ n → Updates live after key (Some e) → (k : ℕ) (f : Entry) → get after k ≡ Some f → ((eqb k key ≡ true) × (k ≡ key)) ⊎ ((eqb k key ≡ false) × (k ≡ key → ⊥)) → slice_get (slice_set ls n again) f.number ≡ Some (listed_of f k)
  unspent_entry kept lt is spent number u k f there (inl h) =
      let at : get after key ≡ Some f = sym (ap (λ j. get after j) h.1) ∙ there in
      let some : Some e ≡ Some f = sym u.changed ∙ at in
      let same : e ≡ f = cc in
      let own : slice_get (slice_set ls n again) e.number ≡ Some (listed_of e key) = ap (λ i. slice_get (slice_set ls n again) i) number ∙ (get_set_same ls n again lt ∙ ap (λ b. Some (listed b key)) is) in
      subst (λ (j : ℕ). slice_get (slice_set ls n again) f.number ≡ Some (listed_of f j)) (sym h.1) (subst (λ (x : Entry). slice_get (slice_set ls n again) x.number ≡ Some (listed_of x key)) same own)
  unspent_entry kept lt is spent number u k f there (inr h) =
      let before : get live k ≡ Some f = sym (u.others k h.1) ∙ there in
      get_set_other ls n f.number again (not_spent kept spent k f before) ∙ kept.entries k f before

  pub unspent_kept : AreKept live ls → n < length ls → brand ≡ e.balance.amount.brand → (payment_view_at (payment_views_from 0 live ls) n).held ≡ None → get live key ≡ None → e.number ≡ n → Updates live after key (Some e) → slab_len after ≡ slab_len live + 1 → AreKept after (slice_set ls n again)
  unspent_kept kept lt is spent free number u long =
      let within : n < length (payment_views_from 0 live ls) = omega (arith, payment_views_long 0 live ls) in
      record {
        entries = λ k f there. unspent_entry kept lt is spent number u k f there (eqb_tells k key);
        counted = long ∙ (ap (λ n. n + 1) kept.counted ∙ sym (ap (count_by is_live) (unspent_payments lt is free number u) ∙ count_unspent (payment_views_from 0 live ls) n e.balance.amount within spent));
      }

-- ---- the payment that was made last goes

module _ (live after : Slab Entry) (ls : List Listed) (l : Listed) (e : Entry) where
  last_listed : AreKept live (ls ++ l ∷ []) → get live l.key ≡ Some e → e.number ≡ length ls → l ≡ listed_of e l.key
  last_listed kept is number =
      let there : slice_get (ls ++ l ∷ []) e.number ≡ Some (listed_of e l.key) = kept.entries l.key e is in
      let some : Some l ≡ Some (listed_of e l.key) = sym (get_last ls e.number l number) ∙ there in
      cc

  pub unmade_payments : AreKept live (ls ++ l ∷ []) → get live l.key ≡ Some e → e.number ≡ length ls → Updates live after l.key None → payment_views_from 0 live (ls ++ l ∷ []) ≡ payment_views_from 0 after ls ++ live_payment e.balance.amount ∷ []
  unmade_payments kept is number u =
      let same : payment_views_from 0 after ls ≡ payment_views_from 0 live ls = payment_views_same 0 live after ls (λ i j x at h. let lt : i < length ls = slice_get_within ls i x h in moved live after l.key None j x.key u (not_others (get live l.key) e (length ls) j is number (λ eq. omega arith)) refl) in
      let brand : l.brand ≡ e.balance.amount.brand = ap (λ (x : Listed). x.brand) (last_listed kept is number) in
      let own : payment_view_of live (length ls) l ≡ live_payment e.balance.amount = ap (λ b. payment_view b (held_by (length ls) (get live l.key))) brand ∙ ap (payment_view e.balance.amount.brand) (ap (held_by (length ls)) is ∙ held_own e (length ls) number) in
      payment_views_push 0 (length ls) live ls l (omega arith)
      ∙ (ap (λ ps. ps ++ payment_view_of live (length ls) l ∷ []) (sym same)
      ∙ ap (λ p. payment_views_from 0 after ls ++ p ∷ []) own)

  unmade_entry : AreKept live (ls ++ l ∷ []) → Updates live after l.key None → (k : ℕ) (f : Entry) → get after k ≡ Some f → ((eqb k l.key ≡ true) × (k ≡ l.key)) ⊎ ((eqb k l.key ≡ false) × (k ≡ l.key → ⊥)) → slice_get ls f.number ≡ Some (listed_of f k)
  unmade_entry kept u k f is (inl h) = let none : get after k ≡ None = ap (λ j. get after j) h.1 ∙ u.changed in cc
  unmade_entry kept u k f is (inr h) =
      let there : slice_get (ls ++ l ∷ []) f.number ≡ Some (listed_of f k) = kept.entries k f (sym (u.others k h.1) ∙ is) in
      get_before ls f.number (listed_of f k) l there (λ last. h.1 (not_last last there))
    where
      not_last : f.number ≡ length ls → slice_get (ls ++ l ∷ []) f.number ≡ Some (listed_of f k) → k ≡ l.key
      not_last last there =
          let some : Some (listed_of f k) ≡ Some l = sym there ∙ get_last ls f.number l last in
          let same : listed_of f k ≡ l = cc in
          ap (λ (x : Listed). x.key) same

  pub unmade_kept : AreKept live (ls ++ l ∷ []) → get live l.key ≡ Some e → e.number ≡ length ls → Updates live after l.key None → slab_len after + 1 ≡ slab_len live → AreKept after ls
  unmade_kept kept is number u long =
      let count : count_by is_live (payment_views_from 0 live (ls ++ l ∷ [])) ≡ count_by is_live (payment_views_from 0 after ls) + 1 = ap (count_by is_live) (unmade_payments kept is number u) ∙ count_push (payment_views_from 0 after ls) e.balance.amount in
      let was = kept.counted in
      record {
        entries = λ k f there. unmade_entry kept u k f there (eqb_tells k l.key);
        counted = omega arith;
      }

-- the entry of a payment has its number
pub number_is : (n : ℕ) (o : Option Entry) (e : Entry) → o ≡ Some e → is_some (held_by n o) ≡ true → e.number ≡ n
number_is n o e is h =
    let there = entry_held n o h in
    let some : Some there.0 ≡ Some e = sym there.1 ∙ is in
    let same : there.0 ≡ e = cc in
    sym (ap (λ (x : Entry). x.number) same) ∙ there.2

pub contains_held : (n : ℕ) (o : Option Entry) → is_some (held_by n o) ≡ true → is_some o ≡ true
contains_held n None h = h
contains_held n (Some e) h = refl

pub keys_push : (ls : List Listed) (l : Listed) → keys_of (ls ++ l ∷ []) ≡ keys_of ls ++ l.key ∷ []
keys_push [] l = refl
keys_push (x ∷ xs) l = ap (λ ks. x.key ∷ ks) (keys_push xs l)

pub keys_set : (ls : List Listed) (n : ℕ) (l : Listed) → keys_of (slice_set ls n l) ≡ slice_set (keys_of ls) n l.key
keys_set [] n l = refl
keys_set (x ∷ xs) zero l = refl
keys_set (x ∷ xs) (suc n) l = ap (λ ks. x.key ∷ ks) (keys_set xs n l)

pub last_held : (live : Slab Entry) (old ls : List Listed) (l : Listed) → old ≡ ls ++ l ∷ [] → is_live (payment_view_at (payment_views_from 0 live old) (length old - 1)) ≡ true → is_some (held_by (length ls) (get live l.key)) ≡ true
last_held live old ls l is h =
    let one_more : length old ≡ length ls + 1 = ap length is ∙ length-append ls (l ∷ []) in
    let long : length old - 1 ≡ length ls = omega arith in
    let whole : is_live (payment_view_at (payment_views_from 0 live (ls ++ l ∷ [])) (length old - 1)) ≡ true = subst (λ xs. is_live (payment_view_at (payment_views_from 0 live xs) (length old - 1)) ≡ true) is h in
    let there : is_live (payment_view_at (payment_views_from 0 live (ls ++ l ∷ [])) (length ls)) ≡ true = subst (λ n. is_live (payment_view_at (payment_views_from 0 live (ls ++ l ∷ [])) n) ≡ true) long whole in
    sym (ap is_live (payment_listed (length ls) live (ls ++ l ∷ []) l (get_last ls (length ls) l refl))) ∙ there

-- a payment whose number is made has a listed key
pub index_kept : (ls : List Listed) (n key : ℕ) → slice_get (keys_of ls) n ≡ Some key → n < length ls
index_kept ls n key h = let l = get_in (λ (l : Listed). l.key) ls n key h in slice_get_within ls n l.0 l.1

-- more room alone keeps the payments
roomier_payments : (live after : Slab Entry) (ls : List Listed) → after.slots ≡ live.slots → payment_views_from 0 after ls ≡ payment_views_from 0 live ls
roomier_payments live after ls same = payment_views_same 0 live after ls (λ i j l is h. ap (λ xs. held_by j (slice_index_or xs l.key None)) same)

pub roomier_kept : (live after : Slab Entry) (ls : List Listed) → AreKept live ls → after.slots ≡ live.slots → AreKept after ls
roomier_kept live after ls kept same = record {
  entries = λ k e is. kept.entries k e (sym (ap (λ xs. slice_index_or xs k None) same) ∙ is);
  counted = ap (λ (xs : List (Option Entry)). count_by is_some xs) same ∙ (kept.counted ∙ sym (ap (λ ps. count_by is_live ps) (roomier_payments live after ls same)));
}

pub roomier_book : (live after : Slab Entry) (ls ms : List Listed) → ms ≡ ls → after.slots ≡ live.slots → after.vacant_key ≡ live.vacant_key → live.capacity ≤ after.capacity → IsRoomier (book_of live ls 0) (book_of after ms 0)
roomier_book live after ls ms is same key room = record {
  views = ap (λ xs. payment_views_from 0 after xs) is ∙ roomier_payments live after ls same;
  keys = ap keys_of is;
  next_key = key;
  room = room;
}

pub made_book : (live more after : Slab Entry) (ls ms : List Listed) (key : ℕ) (e : Entry) → more.slots ≡ live.slots → more.vacant_key ≡ live.vacant_key → live.capacity ≤ more.capacity → get more key ≡ None → Updates more after key (Some e) → e.number ≡ length ls → key ≡ more.vacant_key → after.capacity ≡ more.capacity → ms ≡ ls ++ listed_of e key ∷ [] → IsMade (book_of live ls 0) (book_of after ms 0) e.balance.amount
made_book live more after ls ms key e same vacant_is room free u number key_is capacity is = record {
  views = ap (λ xs. payment_views_from 0 after xs) is ∙ (made_payments more after ls key e free u number ∙ ap (λ ps. ps ++ live_payment e.balance.amount ∷ []) (roomier_payments live more ls same));
  keys = ap keys_of is ∙ (keys_push ls (listed_of e key) ∙ ap (λ k. keys_of ls ++ k ∷ []) (key_is ∙ vacant_is));
  room = (let same_capacity : after.capacity ≡ more.capacity = capacity in omega arith);
}

pub spent_brand : (n b : ℕ) (live : Slab Entry) (ls : List Listed) (x : Listed) → slice_get ls n ≡ Some x → payment_view_at (payment_views_from 0 live ls) n ≡ spent_payment b → x.brand ≡ b
spent_brand n b live ls x h is = sym (ap (λ (p : PaymentView). p.brand) (payment_listed n live ls x h)) ∙ ap (λ (p : PaymentView). p.brand) is

pub none_held : (o : Option ValueView) → is_some o ≡ false → o ≡ None
none_held None h = refl
none_held (Some v) h = cc
