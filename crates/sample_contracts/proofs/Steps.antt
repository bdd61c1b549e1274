-- The text of lines, step by step.
use Rattle.std.proofs.Common.{Result, Ok, Err, OnOk, ◌≡◌, ◌∙◌, sym, ap, subst, ℕ, zero, suc, ◌+◌, ◌-◌, ◌<◌, ◌≤◌, List, [], ◌∷◌, ◌++◌, refl, append_assoc, append-nil, arith}
use Rattle.std.proofs.lemmas.Grind.{flat_map-append}
use Rattle.turn_rows.specs.Texts.{row_text}
use Rattle.sample_contracts.specs.Demo.{answering_lines, demo_text, drawn, lines_text, next_number, opening_lines, setup, step_lines, steps_from}

-- a step's lines stand before those of the steps behind it
one_step : (x i n : ℕ) → lines_text (steps_from x i (suc n)) ≡ lines_text (opening_lines i (drawn (next_number x)))
    ++ (lines_text (answering_lines i (drawn (next_number x))) ++ lines_text (steps_from (next_number x) (i + 1) n))
one_step x i n =
    let d = drawn (next_number x) in
    let more = lines_text (steps_from (next_number x) (i + 1) n) in
    flat_map-append row_text (step_lines i d) (steps_from (next_number x) (i + 1) n)
    ∙ (ap (λ (t : List ℕ). t ++ more) (flat_map-append row_text (opening_lines i d) (answering_lines i d))
    ∙ append_assoc (lines_text (opening_lines i d)) (lines_text (answering_lines i d)) more)

-- what was written, with what is left, is the whole text
pub begun : (text : List ℕ) (seed size : ℕ) → text ≡ [] ++ lines_text setup → text ++ lines_text (steps_from seed 0 (size - 0)) ≡ demo_text seed size
begun text seed size is =
    let count : size - 0 ≡ size = omega arith in
    ap (λ (m : ℕ). text ++ lines_text (steps_from seed 0 m)) count
    ∙ (ap (λ (t : List ℕ). t ++ lines_text (steps_from seed 0 size)) is ∙ sym (flat_map-append row_text setup (steps_from seed 0 size)))

pub stepped : (text opened answered whole : List ℕ) (x i size : ℕ) → i < size → text ++ lines_text (steps_from x i (size - i)) ≡ whole
    → opened ≡ text ++ lines_text (opening_lines i (drawn (next_number x))) → answered ≡ opened ++ lines_text (answering_lines i (drawn (next_number x)))
    → answered ++ lines_text (steps_from (next_number x) (i + 1) (size - (i + 1))) ≡ whole
stepped text opened answered whole x i size more so_far opens answers =
    let d = drawn (next_number x) in
    let n = size - (i + 1) in
    let left = lines_text (steps_from (next_number x) (i + 1) n) in
    let first = lines_text (opening_lines i d) in
    let second = lines_text (answering_lines i d) in
    let count : size - i ≡ suc n = omega (arith, more) in
    let all : text ++ (first ++ (second ++ left)) ≡ whole = ap (λ (t : List ℕ). text ++ t) (sym (one_step x i n)) ∙ (ap (λ (m : ℕ). text ++ lines_text (steps_from x i m)) (sym count) ∙ so_far) in
    ap (λ (t : List ℕ). t ++ left) (answers ∙ ap (λ (t : List ℕ). t ++ second) opens)
    ∙ (append_assoc (text ++ first) second left ∙ (append_assoc text first (second ++ left) ∙ all))

pub ended : (text whole : List ℕ) (x i size : ℕ) → size ≤ i → text ++ lines_text (steps_from x i (size - i)) ≡ whole → text ≡ whole
ended text whole x i size none so_far =
    let count : size - i ≡ 0 = omega (arith, none) in
    sym (append-nil text) ∙ (ap (λ (m : ℕ). text ++ lines_text (steps_from x i m)) (sym count) ∙ so_far)

-- ---- line by line

-- behind what was there stands a line, and then the rest
pub next : (n o m rest a : List ℕ) → m ≡ o ++ a → n ≡ m ++ rest → n ≡ o ++ (a ++ rest)
next n o m rest a first more = more ∙ (ap (λ (t : List ℕ). t ++ rest) first ∙ append_assoc o a rest)

pub last : (n o a : List ℕ) → n ≡ o ++ a → n ≡ o ++ (a ++ [])
last n o a is = is ∙ ap (λ (t : List ℕ). o ++ t) (sym (append-nil a))

pub on_ok : {A E : Type 0} (r : Result A E) (P Q : Type 0) → (P → Q) → OnOk r P → OnOk r Q
on_ok (Ok x) P Q f p = f p
on_ok (Err e) P Q f p = p
