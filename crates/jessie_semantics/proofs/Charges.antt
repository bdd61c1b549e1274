-- Along every dialogue that a play can take, what was taken of the meter is within it.
use Rattle.std.proofs.Common.{◌≡◌, ◌≤◌, ℕ, ◌+◌, List, [], ◌∷◌, ◌++◌, refl, ap, subst, length, arith}
use Rattle.host_data.specs.Tree.{Tree}
use Rattle.jessie_values.specs.jessie_grammar.Syntax.{Routine}
use Rattle.jessie_semantics.specs.Play.{Call, Reply, Exchange, Play, Ends, Spends, Asks}
use Rattle.jessie_semantics.specs.Rules.{play}
use Rattle.jessie_semantics.specs.Runs.{Path, Leads}
use Rattle.jessie_semantics.specs.Keeping.{Known, Within}
use Rattle.jessie_semantics.specs.Charges.{cost, reply_size, charges, Fits, FitsMeter}
use Rattle.jessie_semantics.proofs.Safe.{Safe, play_safe}
use Rattle.jessie_semantics.proofs.Within.{closed_within}
use Rattle.jessie_semantics.proofs.Writes.{AnyName, any_names}
use Rattle.jessie_semantics.proofs.Licence.{held, held_all, reply_all, all_functions}

module _ (W : Tree → Type 0) (N meter : ℕ) (all : (t : Tree) → W t) where
  fits_here : (n : ℕ) (p : Play) → Safe W N meter n p → Fits meter (n + 0) p
  fits_here n (Ends e vs) h = let i : n ≤ meter = h.0 in omega (arith, i)
  fits_here n Spends h = tt
  fits_here n (Asks c go) h = let i : n + cost c ≤ meter = h.1.0 in omega (arith, i)

  together : (n a b r s : ℕ) → a ≡ b → n + a + r + s ≡ n + (b + r + s)
  together n a b r s e = omega arith

  path_fits : (n : ℕ) (p : Play) (xs : List Exchange) (q : Play) → Safe W N meter n p → Path p xs q → Fits meter (n + charges xs) q
  path_fits n p [] q h i = subst (λ q. Fits meter (n + 0) q) i (fits_here n p h)
  path_fits n (Ends e vs) (x ∷ xs) q h i = absurd i
  path_fits n Spends (x ∷ xs) q h i = absurd i
  path_fits n (Asks c go) (x ∷ xs) q h i =
      subst (λ k. Fits meter k q) (together n (cost c) (cost x.call) (reply_size x.reply) (charges xs) (ap (λ c. cost c) i.0))
      (path_fits (n + cost c + reply_size x.reply) (go x.reply) xs q (h.1.1 x.reply (reply_all W all x.reply)) i.1)

from_nothing : (n : ℕ) → 0 + n ≡ n
from_nothing n = omega arith

-- whatever the host answers
pub meter_fits : (rs : List Routine) (variables : List (List ℕ)) (f : List ℕ) (vs values : List Tree) (meter : ℕ) (xs : List Exchange) (q : Play)
    → Path (play rs variables f vs values meter) xs q → Fits meter (charges xs) q
meter_fits rs variables f vs values meter xs q path =
    let K : Known = λ r. Unit {0} in
    let all : (t : Tree) → Within K t = λ t. held K t (λ o i. tt) (λ f. tt) in
    let safe = play_safe (Within K) (length variables) meter AnyName rs (closed_within K rs (all_functions K (λ f. tt) rs)) (any_names rs) variables f vs values (held_all K vs (λ o i. tt) (λ f. tt)) (held_all K values (λ o i. tt) (λ f. tt)) refl in
    subst (λ k. Fits meter k q) (from_nothing (charges xs)) (path_fits (Within K) (length variables) meter all 0 (play rs variables f vs values meter) xs q safe path)

path_before : (p : Play) (before : List Exchange) (x : Exchange) (rest : List Exchange) (q : Play) → Path p (before ++ x ∷ rest) q → (go : Reply → Play) × Path p before (Asks x.call go)
path_before (Ends e vs) [] x rest q h = absurd h
path_before Spends [] x rest q h = absurd h
path_before (Asks c go) [] x rest q h = (go, ap (λ c. Asks c go) h.0)
path_before (Ends e vs) (y ∷ ys) x rest q h = absurd h
path_before Spends (y ∷ ys) x rest q h = absurd h
path_before (Asks c go) (y ∷ ys) x rest q h = let r = path_before (go y.reply) ys x rest q h.1 in (r.0, (h.0, r.1))

pub fits : {W : Type 0} {step : W → Exchange → W → Type 0} {old new : W} {r : Play} (rs : List Routine) (variables : List (List ℕ)) (f : List ℕ) (vs values : List Tree) (meter : ℕ)
    → Leads step old new (play rs variables f vs values meter) r → FitsMeter step old new meter r
fits {r = r} rs variables f vs values meter l =
    let p = play rs variables f vs values meter in
    record {
      since = l.since;
      answered = l.answered;
      asks = λ before x rest e.
          let to = path_before p before x rest r (subst (λ xs. Path p xs r) e l.path) in
          meter_fits rs variables f vs values meter before (Asks x.call to.0) to.1;
      ends = meter_fits rs variables f vs values meter l.since r l.path;
    }
