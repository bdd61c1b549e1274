-- Instances have a value for each state variable of their modules, after each change.
use Rattle.std.proofs.Common.{◌≡◌, ℕ, zero, suc, ◌<◌, List, [], ◌∷◌, ◌++◌, length, set, refl, arith, true, nat_lt, ◌==◌, ◌∙◌}
use Rattle.std.proofs.lemmas.List.{length-append, get_or_append_left}
use Rattle.std.proofs.lemmas.List.Folds.{list_all-append}
use Rattle.std.specs.List.{list_all}
use Rattle.jessie_index.specs.jessie_grammar.declared.syntax.Module.{Module}
use Rattle.actors.specs.Tables.{InstanceView, changed_at, instance_at, is_whole, module_at, no_module}

abbrev pub AreWhole : List Module → List InstanceView → Type 0
AreWhole ms xs = list_all (λ i. is_whole ms i) xs ≡ true

pub whole_at : (ms : List Module) (xs : List InstanceView) (n : ℕ) → AreWhole ms xs → n < length xs → is_whole ms (instance_at xs n) ≡ true
whole_at ms [] n h l = absurd (omega arith)
whole_at ms (x ∷ xs) zero h l = grind arith
whole_at ms (x ∷ xs) (suc n) h l =
    let others : AreWhole ms xs = grind arith in
    whole_at ms xs n others (omega arith)

pub installation_made : (ms : List Module) (x : InstanceView) → is_whole ms x ≡ true → x.installation < length ms
installation_made ms x h = grind arith

pub state_whole : (ms : List Module) (x : InstanceView) → is_whole ms x ≡ true → length x.state ≡ length (module_at ms x.installation).variables
state_whole ms x h = grind arith

-- one more is installed
whole_more : (ms : List Module) (m : Module) (x : InstanceView) → is_whole ms x ≡ true → is_whole (ms ++ m ∷ []) x ≡ true
whole_more ms m x h =
    let made : x.installation < length ms = installation_made ms x h in
    let many : (length x.state == length (module_at ms x.installation).variables) ≡ true = grind arith in
    let more : nat_lt x.installation (length (ms ++ m ∷ [])) ≡ true = rw length-append (grind arith) in
    rw (more, get_or_append_left ms (m ∷ []) no_module x.installation made, many) refl

pub wholes_more : (ms : List Module) (m : Module) (xs : List InstanceView) → AreWhole ms xs → AreWhole (ms ++ m ∷ []) xs
wholes_more ms m [] h = refl
wholes_more ms m (x ∷ xs) h =
    let first : is_whole ms x ≡ true = grind arith in
    let others : AreWhole ms xs = grind arith in
    rw (whole_more ms m x first, wholes_more ms m xs others) refl

-- one more is started
pub wholes_last : (ms : List Module) (xs : List InstanceView) (x : InstanceView) → AreWhole ms xs → is_whole ms x ≡ true → AreWhole ms (xs ++ x ∷ [])
wholes_last ms xs x h whole = list_all-append (λ i. is_whole ms i) xs (x ∷ []) ∙ rw (h, whole) refl

-- one is changed
whole_set : (ms : List Module) (xs : List InstanceView) (n : ℕ) (x : InstanceView) → AreWhole ms xs → is_whole ms x ≡ true → AreWhole ms (set xs n x)
whole_set ms [] n x h e = refl
whole_set ms (y ∷ ys) zero x h e = let others : AreWhole ms ys = grind arith in rw (e, others) refl
whole_set ms (y ∷ ys) (suc n) x h e =
    let first : is_whole ms y ≡ true = grind arith in
    let others : AreWhole ms ys = grind arith in
    rw (first, whole_set ms ys n x others e) refl

-- a change that keeps the installation, and as many state values
pub wholes_changed : (ms : List Module) (xs : List InstanceView) (n : ℕ) (change : InstanceView → InstanceView) → AreWhole ms xs → n < length xs
    → (change (instance_at xs n)).installation ≡ (instance_at xs n).installation → length (change (instance_at xs n)).state ≡ length (instance_at xs n).state → AreWhole ms (changed_at n change xs)
wholes_changed ms xs n change h l installation many =
    whole_set ms xs n (change (instance_at xs n)) h (rw (installation, many) (whole_at ms xs n h l))
