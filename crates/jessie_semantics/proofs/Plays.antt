-- Plays along a dialogue.
use Rattle.std.proofs.Common.{◌≡◌, List, [], ◌∷◌, ◌++◌, refl, sym, ap, subst}
use Rattle.jessie_semantics.specs.Play.{Reply, Exchange, Play, Ends, Spends, Asks, Answered, Follows, after, replies}
use Rattle.jessie_semantics.specs.Runs.{Path, Leads}

path_both : (p : Play) (xs ys : List Exchange) (q r : Play) → Path p xs q → Path q ys r → Path p (xs ++ ys) r
path_both p [] ys q r h i = subst (λ p. Path p ys r) (sym h) i
path_both (Ends e s) (x ∷ xs) ys q r h i = absurd h
path_both Spends (x ∷ xs) ys q r h i = absurd h
path_both (Asks c go) (x ∷ xs) ys q r h i = (h.0, path_both (go x.reply) xs ys q r h.1 i)

answered_both : {W : Type 0} (step : W → Exchange → W → Type 0) (u v w : W) (xs ys : List Exchange) → Answered step u xs v → Answered step v ys w → Answered step u (xs ++ ys) w
answered_both step u v w [] ys h i = subst (λ u. Answered step u ys w) (sym h) i
answered_both step u v w (x ∷ xs) ys h i = (h.0, (h.1.0, answered_both step h.0 v w xs ys h.1.1 i))

pub leads_self : {W : Type 0} {step : W → Exchange → W → Type 0} (w : W) (p : Play) → Leads step w w p p
leads_self w p = record { since = []; answered = refl; path = refl }

pub leads_both : {W : Type 0} {step : W → Exchange → W → Type 0} {u v w : W} {p q r : Play} → Leads step u v p q → Leads step v w q r → Leads step u w p r
leads_both {W} {step} {u} {v} {w} {p} {q} {r} h i = record {
  since = h.since ++ i.since;
  answered = answered_both step u v w h.since i.since h.answered i.answered;
  path = path_both p h.since i.since q r h.path i.path;
}

pub leads_from : {W : Type 0} {step : W → Exchange → W → Type 0} {u v : W} {p q r : Play} → p ≡ q → Leads step u v q r → Leads step u v p r
leads_from {W} {step} {u} {v} {p} {q} {r} e h = subst (λ p. Leads step u v p r) (sym e) h

pub leads_to : {W : Type 0} {step : W → Exchange → W → Type 0} {u v : W} {p q r : Play} → Leads step u v p q → q ≡ r → Leads step u v p r
leads_to {W} {step} {u} {v} {p} {q} {r} h e = subst (λ r. Leads step u v p r) e h

pub leads_ask : {W : Type 0} {step : W → Exchange → W → Type 0} {u v : W} (x : Exchange) (go : Reply → Play) → step u x v → Leads step u v (Asks x.call go) (go x.reply)
leads_ask {v = v} x go h = record { since = x ∷ []; answered = (v, (h, refl)); path = (refl, refl) }

-- along a path the answers so far lead to each next call, and all of them to its end
path_asks : (p : Play) (before : List Exchange) (x : Exchange) (rest : List Exchange) (q : Play) → Path p (before ++ x ∷ rest) q → (go : Reply → Play) × (after p (replies before) ≡ Asks x.call go)
path_asks (Ends r s) [] x rest q h = absurd h
path_asks Spends [] x rest q h = absurd h
path_asks (Asks c go) [] x rest q h = (go, ap (λ c. Asks c go) h.0)
path_asks (Ends r s) (y ∷ ys) x rest q h = absurd h
path_asks Spends (y ∷ ys) x rest q h = absurd h
path_asks (Asks c go) (y ∷ ys) x rest q h = path_asks (go y.reply) ys x rest q h.1

path_ends : (p : Play) (d : List Exchange) (q : Play) → Path p d q → after p (replies d) ≡ q
path_ends p [] q h = h
path_ends (Ends r s) (y ∷ ys) q h = absurd h
path_ends Spends (y ∷ ys) q h = absurd h
path_ends (Asks c go) (y ∷ ys) q h = path_ends (go y.reply) ys q h.1

pub follows : {W : Type 0} {step : W → Exchange → W → Type 0} {u v : W} {p q : Play} → Leads step u v p q → Follows step p u v q
follows {W} {step} {u} {v} {p} {q} h = record {
  since = h.since;
  answered = h.answered;
  asks = λ before x rest e. path_asks p before x rest q (subst (λ d. Path p d q) e h.path);
  ends = path_ends p h.since q h.path;
}
