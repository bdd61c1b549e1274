-- Counts that are lowered in place, and what is left once those of 0 are out.
use Rattle.std.proofs.Common.{◌≡◌, ℕ, zero, suc, ◌+◌, ◌-◌, ◌<◌, ◌≤◌, ◌++◌, Bool, true, false, cond, List, [], ◌∷◌, length, set, take, drop, refl, ap, ◌∙◌, arith, nat_lt}
use lib.Dec.{T}
use Rattle.std.specs.List.{All, filter}
use Rattle.std.proofs.lemmas.Bool.Decides.{nat_tests}
use Rattle.std.proofs.lemmas.List.{take-append-drop, take_all, drop_all, append-nil}
use Rattle.std.proofs.lemmas.List.Elements.{All-head, All-tail, All-cons, All-nil, All-set, All-weaker}
use Rattle.std.specs.Ordering.{is_lt, eq_by_cmp}
use Rattle.std.specs.FinMap.Entries.{below_all}
use Rattle.amount_math.specs.Totals.{first, second}
use Rattle.amount_math.specs.Content.{key_cmp, of_entries, count-difference, difference, Contains, same_content}
use Rattle.amount_math.specs.Entries.{Entries, IsEntry, IsLowered, IsRising, AreEntries, entry_at, at_key, tally}
use Rattle.amount_math.proofs.Listed.{both, tally-append, below_rest, rising_rest, count-tally, tied}
use Rattle.amount_math.proofs.Searched.{tally_at}
use Rattle.amount_math.proofs.Together.{weighed_more}

-- ---- one count is written

below_set : (k : List ℕ) (es : Entries) (i m : ℕ) → T (below_all key_cmp k es) → T (below_all key_cmp k (set es i ((entry_at es i).0, m)))
below_set k [] i m h = h
below_set k (e ∷ es) zero m h = h
below_set k (e ∷ es) (suc i) m h = both (is_lt (key_cmp k e.0)) _ (first _ (below_all key_cmp k es) h) (below_set k es i m (second (is_lt (key_cmp k e.0)) _ h))

pub rising_set : (es : Entries) (i m : ℕ) → IsRising es → IsRising (set es i ((entry_at es i).0, m))
rising_set [] i m h = h
rising_set (e ∷ es) zero m h = h
rising_set (e ∷ es) (suc i) m h = both (below_all key_cmp e.0 (set es i ((entry_at es i).0, m))) _ (below_set e.0 es i m (below_rest e es h)) (rising_set es i m (rising_rest e es h))

pub tally_set : (es : Entries) (i m : ℕ) (k : List ℕ) → i < length es → tally (set es i ((entry_at es i).0, m)) k + at_key k (entry_at es i).0 (entry_at es i).1 ≡ tally es k + at_key k (entry_at es i).0 m
tally_set [] i m k lt = absurd (omega (arith, lt))
tally_set (e ∷ es) zero m k lt = omega arith
tally_set (e ∷ es) (suc i) m k lt = omega (arith, tally_set es i m k (omega (arith, lt)))

at_key-minus : (k q : List ℕ) (m n : ℕ) → n ≤ m → at_key k q (m - n) + at_key k q n ≡ at_key k q m
at_key-minus k q m n le = split (eq_by_cmp key_cmp k q)
  where
    split : (b : Bool) → cond b (m - n) 0 + cond b n 0 ≡ cond b m 0
    split true = omega (arith, le)
    split false = refl

-- ---- the part's entries, one after another

module _ (old part : Entries) (are : AreEntries old) (part_are : AreEntries part) (has : Contains (of_entries old) (of_entries part)) where
  has_tally : (k : List ℕ) → tally part k ≤ tally old k
  has_tally k = omega (arith, has.each k, count-tally old are k, count-tally part part_are k)

  tally_next : (i : ℕ) (k : List ℕ) → i < length part → tally (take i part) k + at_key k (entry_at part i).0 (entry_at part i).1 ≤ tally part k
  tally_next i k lt = omega (
    arith,
    weighed_more (at_key k) part i ([], 0) lt,
    ap (λ es. tally es k) (take-append-drop (i + 1) part),
    tally-append (take (i + 1) part) (drop (i + 1) part) k,
  )

  module _ (cur : Entries) (i : ℕ) (same : (k : List ℕ) → tally cur k + tally (take i part) k ≡ tally old k) (lt : i < length part) where
    abbrev key : List ℕ
    key = (entry_at part i).0

    abbrev n : ℕ
    n = (entry_at part i).1

    -- what is left of the key is enough
    pub enough_left : n ≤ tally cur key
    enough_left = omega (arith, same key, has_tally key, tally_next i key lt, ap (λ b. cond b n 0) (tied key))

    -- where none was left the part has none
    pub none_left : tally cur key ≡ 0 → (k : List ℕ) → tally cur k + tally (take (i + 1) part) k ≡ tally old k
    none_left none k = omega (arith, same k, weighed_more (at_key k) part i ([], 0) lt, nothing (eq_by_cmp key_cmp k key))
      where
        nothing : (b : Bool) → cond b n 0 ≡ 0
        nothing true = omega (arith, enough_left, none)
        nothing false = refl

    module _ (at : ℕ) (rising : IsRising cur) (within : at < length cur) (is : (entry_at cur at).0 ≡ key) where
      pub enough_there : n ≤ (entry_at cur at).1
      enough_there = omega (arith, enough_left, tally_at cur at rising within, ap (tally cur) is)

      pub lowered_same : (k : List ℕ) → tally (set cur at ((entry_at cur at).0, (entry_at cur at).1 - n)) k + tally (take (i + 1) part) k ≡ tally old k
      lowered_same k = omega (
        arith,
        same k,
        weighed_more (at_key k) part i ([], 0) lt,
        tally_set cur at ((entry_at cur at).1 - n) k within,
        at_key-minus k (entry_at cur at).0 (entry_at cur at).1 n enough_there,
        ap (λ q. at_key k q n) is,
      )

pub each_lowered : (es : Entries) → AreEntries es → All IsLowered es
each_lowered es are = All-weaker IsEntry IsLowered (λ e h. record { key = h.key; bounded = h.bounded }) es are.each

pub lowered_set : (es : Entries) (i n : ℕ) → All IsLowered es → i < length es → All IsLowered (set es i ((entry_at es i).0, (entry_at es i).1 - n))
lowered_set es i n all lt = let there = all i ([], 0) lt in All-set IsLowered es i _ (record { key = there.key; bounded = omega (arith, there.bounded) }) all

-- a list of one length with another stands in its place whole
pub in_place : (xs ys : Entries) (n : ℕ) → n ≡ length ys → length xs ≡ length ys → take n (xs ++ drop (length xs) ys) ≡ xs
in_place xs ys n whole same =
    ap (λ zs. take n (xs ++ zs)) (drop_all (length xs) ys (omega (arith, same)))
    ∙ ap (take n) (append-nil xs)
    ∙ take_all n xs (omega (arith, whole, same))

-- ---- counts of 0 are out

-- whether there is some of it
abbrev pub has_some : List ℕ × ℕ → Bool
has_some e = nat_lt 0 e.1

below_kept : (k : List ℕ) (es : Entries) → T (below_all key_cmp k es) → T (below_all key_cmp k (filter has_some es))
below_kept k [] h = tt
below_kept k (e ∷ es) h =
    let rest = below_kept k es (second (is_lt (key_cmp k e.0)) _ h) in
    elim (has_some e) as (λ b. T (below_all key_cmp k (cond b (e ∷ filter has_some es) (filter has_some es)))) [
      | true ↦ both (is_lt (key_cmp k e.0)) _ (first _ (below_all key_cmp k es) h) rest
      | false ↦ rest
    ]

pub rising_kept : (es : Entries) → IsRising es → IsRising (filter has_some es)
rising_kept [] h = tt
rising_kept (e ∷ es) h =
    let rest = rising_kept es (rising_rest e es h) in
    elim (has_some e) as (λ b. IsRising (cond b (e ∷ filter has_some es) (filter has_some es))) [
      | true ↦ both (below_all key_cmp e.0 (filter has_some es)) _ (below_kept e.0 es (below_rest e es h)) rest
      | false ↦ rest
    ]

-- what is out had nothing
pub tally_kept : (es : Entries) (k : List ℕ) → tally (filter has_some es) k ≡ tally es k
tally_kept [] k = refl
tally_kept (e ∷ es) k =
    elim (has_some e) as (λ b. has_some e ≡ b → tally (cond b (e ∷ filter has_some es) (filter has_some es)) k ≡ at_key k e.0 e.1 + tally es k) [
      | true ↦ λ t. omega (arith, tally_kept es k)
      | false ↦ λ t. omega (arith, tally_kept es k, nothing (eq_by_cmp key_cmp k e.0) e.1 t)
    ] refl
  where
    nothing : (b : Bool) (n : ℕ) → nat_lt 0 n ≡ false → cond b n 0 ≡ 0
    nothing true n t = grind (arith, nat_tests)
    nothing false n t = refl

pub each_kept : (es : Entries) → All IsLowered es → All IsEntry (filter has_some es)
each_kept [] all = All-nil IsEntry
each_kept (e ∷ es) all =
    let rest = each_kept es (All-tail IsLowered e es all) in
    elim (has_some e) as (λ b. has_some e ≡ b → All IsEntry (cond b (e ∷ filter has_some es) (filter has_some es))) [
      | true ↦ λ t. let lowered = All-head IsLowered e es all in All-cons IsEntry e (filter has_some es) (record { key = lowered.key; some = grind (arith, nat_tests); bounded = lowered.bounded }) rest
      | false ↦ λ t. rest
    ] refl

module _ (old part lowered : Entries) (are : AreEntries old) (part_are : AreEntries part) (rising : IsRising lowered) (each : All IsLowered lowered) (same : (k : List ℕ) → tally lowered k + tally part k ≡ tally old k) where
  pub kept_are : AreEntries (filter has_some lowered)
  kept_are = record { rising = rising_kept lowered rising; each = each_kept lowered each }

  pub kept_difference : of_entries (filter has_some lowered) ≡ difference (of_entries old) (of_entries part)
  kept_difference = same_content _ _ (λ k. omega (
    arith,
    count-tally (filter has_some lowered) kept_are k,
    tally_kept lowered k,
    same k,
    count-tally old are k,
    count-tally part part_are k,
    count-difference (of_entries old) (of_entries part) k,
  ))
