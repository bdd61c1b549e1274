-- What movements leave in the hands of each holder.
use Rattle.std.specs.Prelude.{◌⊎◌, ◌++◌, ◌≡◌, ◌≢◌, ℕ, List, [], ◌∷◌, refl}
use Rattle.std.proofs.Common.{inl, inr, sym, ◌∙◌, ap, subst}
use Rattle.amount_math.specs.Sparse.{at-put_same, at-put_other, same_sparse, same_or_other}
use Rattle.amount_math.specs.Content.{Content, sum, difference, Contains, difference-sum, sum-difference}
use Rattle.amount_math.specs.ValueView.{ValueView}
use Rattle.rights_model.specs.declared.Holder.{Holder}
use Rattle.rights_model.specs.declared.Holder.TheVariants.{Purse, Payment, Slot, Hand, Outside}
use Rattle.rights_model.specs.declared.Movement.{Movement}
use Rattle.rights_model.specs.Place.{Place, place}
use Rattle.rights_model.specs.Table.{Table, holdings, holds, taken, given, moved, CanMove, table_after, CanMoveAll, movement}

module _ (t : Table) (b : ℕ) (c : Content) where
  pub holds-given : (h : Holder) → h ≢ Outside → holds (given t h b c) h b ≡ sum (holds t h b) c
  unfolding given
  holds-given Outside held = absurd (held refl)
  holds-given h held = at-put_same holdings t (h, b) _

  pub holds-given_other : (h g : Holder) (e : ℕ) → place g e ≢ place h b → holds (given t h b c) g e ≡ holds t g e
  unfolding given
  holds-given_other Outside g e apart = refl
  holds-given_other h g e apart = at-put_other holdings t (h, b) _ (g, e) apart

  pub holds-taken : (h : Holder) → h ≢ Outside → holds (taken t h b c) h b ≡ difference (holds t h b) c
  unfolding taken
  holds-taken Outside held = absurd (held refl)
  holds-taken h held = at-put_same holdings t (h, b) _

  pub holds-taken_other : (h g : Holder) (e : ℕ) → place g e ≢ place h b → holds (taken t h b c) g e ≡ holds t g e
  unfolding taken
  holds-taken_other Outside g e apart = refl
  holds-taken_other h g e apart = at-put_other holdings t (h, b) _ (g, e) apart

pub same_table : (t u : Table) → ((h : Holder) (e : ℕ) → holds t h e ≡ holds u h e) → t ≡ u
same_table t u is = same_sparse holdings t u (λ p. is p.0 p.1)

pub same_place : (g h : Holder) (e b : ℕ) → (place g e ≡ place h b) ⊎ (place g e ≢ place h b)
same_place g h e b = same_or_other holdings (g, e) (h, b)

-- what is given can be taken back
pub taken-given : (t : Table) (h : Holder) (b : ℕ) (c : Content) → h ≢ Outside → taken (given t h b c) h b c ≡ t
taken-given t h b c held = same_table _ _ (λ g e. elim (same_place g h e b) [
  | inl is ↦ subst (λ (p : Place). holds (taken (given t h b c) h b c) p.0 p.1 ≡ holds t p.0 p.1) (sym is) (holds-taken _ b c h held ∙ ap (λ x. difference x c) (holds-given t b c h held) ∙ difference-sum _ c)
  | inr apart ↦ holds-taken_other _ b c h g e apart ∙ holds-given_other t b c h g e apart
])

-- what is taken can be given back
given-taken_held : (t : Table) (h : Holder) (b : ℕ) (c : Content) → h ≢ Outside → Contains (holds t h b) c → given (taken t h b c) h b c ≡ t
given-taken_held t h b c held has = same_table _ _ (λ g e. elim (same_place g h e b) [
  | inl is ↦ subst (λ (p : Place). holds (given (taken t h b c) h b c) p.0 p.1 ≡ holds t p.0 p.1) (sym is) (holds-given _ b c h held ∙ ap (λ x. sum x c) (holds-taken t b c h held) ∙ sum-difference _ c has)
  | inr apart ↦ holds-given_other _ b c h g e apart ∙ holds-taken_other t b c h g e apart
])

pub given-taken : (t : Table) (h : Holder) (b : ℕ) (c : Content) → (h ≢ Outside → Contains (holds t h b) c) → given (taken t h b c) h b c ≡ t
unfolding given taken
given-taken t Outside b c has = refl
given-taken t (Purse n) b c has = let held : Purse n ≢ Outside = λ is. cc in given-taken_held t (Purse n) b c held (has held)
given-taken t (Payment n) b c has = let held : Payment n ≢ Outside = λ is. cc in given-taken_held t (Payment n) b c held (has held)
given-taken t (Slot n k) b c has = let held : Slot n k ≢ Outside = λ is. cc in given-taken_held t (Slot n k) b c held (has held)
given-taken t Hand b c has = let held : Hand ≢ Outside = λ is. cc in given-taken_held t Hand b c held (has held)

-- by way of the hand, and at once
pub through_hand : (t : Table) (from to : Holder) (b : ℕ) (w : ValueView) → moved (moved t (movement b from Hand w)) (movement b Hand to w) ≡ moved t (movement b from to w)
through_hand t from to b w = ap (λ u. given u to b w.content) (taken-given (taken t from b w.content) Hand b w.content (λ is. cc))

-- a movement worked backwards
pub moved_back : (t : Table) (m : Movement) → CanMove t m → m.to ≢ Outside → moved (moved t m) (movement m.brand m.to m.from m.value) ≡ t
moved_back t m can inside = ap (λ u. given u m.from m.brand m.value.content) (taken-given (taken t m.from m.brand m.value.content) m.to m.brand m.value.content inside) ∙ given-taken t m.from m.brand m.value.content can.has

pub table_after-append : (t : Table) (ms ns : List Movement) → table_after t (ms ++ ns) ≡ table_after (table_after t ms) ns
table_after-append t [] ns = refl
table_after-append t (m ∷ ms) ns = table_after-append (moved t m) ms ns

pub table_after-push : (t : Table) (ms : List Movement) (m : Movement) → table_after t (ms ++ m ∷ []) ≡ moved (table_after t ms) m
table_after-push t ms m = table_after-append t ms (m ∷ [])

pub CanMoveAll-push : (t : Table) (ms : List Movement) (m : Movement) → CanMoveAll t ms → CanMove (table_after t ms) m → CanMoveAll t (ms ++ m ∷ [])
CanMoveAll-push t [] m can last = (last, tt)
CanMoveAll-push t (n ∷ ms) m can last = (can.0, CanMoveAll-push (moved t n) ms m can.1 last)

outside_given : (t : Table) (h : Holder) (b : ℕ) (c : Content) (e : ℕ) → holds (given t h b c) Outside e ≡ holds t Outside e
unfolding given
outside_given t Outside b c e = refl
outside_given t (Purse n) b c e = at-put_other holdings t (Purse n, b) _ (Outside, e) (λ (is : place Outside e ≡ place (Purse n) b). cc (ap (λ (p : Place). p.0) is))
outside_given t (Payment n) b c e = at-put_other holdings t (Payment n, b) _ (Outside, e) (λ (is : place Outside e ≡ place (Payment n) b). cc (ap (λ (p : Place). p.0) is))
outside_given t (Slot n w) b c e = at-put_other holdings t (Slot n w, b) _ (Outside, e) (λ (is : place Outside e ≡ place (Slot n w) b). cc (ap (λ (p : Place). p.0) is))
outside_given t Hand b c e = at-put_other holdings t (Hand, b) _ (Outside, e) (λ (is : place Outside e ≡ place Hand b). cc (ap (λ (p : Place). p.0) is))

outside_taken : (t : Table) (h : Holder) (b : ℕ) (c : Content) (e : ℕ) → holds (taken t h b c) Outside e ≡ holds t Outside e
unfolding taken
outside_taken t Outside b c e = refl
outside_taken t (Purse n) b c e = at-put_other holdings t (Purse n, b) _ (Outside, e) (λ (is : place Outside e ≡ place (Purse n) b). cc (ap (λ (p : Place). p.0) is))
outside_taken t (Payment n) b c e = at-put_other holdings t (Payment n, b) _ (Outside, e) (λ (is : place Outside e ≡ place (Payment n) b). cc (ap (λ (p : Place). p.0) is))
outside_taken t (Slot n w) b c e = at-put_other holdings t (Slot n w, b) _ (Outside, e) (λ (is : place Outside e ≡ place (Slot n w) b). cc (ap (λ (p : Place). p.0) is))
outside_taken t Hand b c e = at-put_other holdings t (Hand, b) _ (Outside, e) (λ (is : place Outside e ≡ place Hand b). cc (ap (λ (p : Place). p.0) is))

-- the table lists nothing at Outside that it did not list
pub outside_after : (t : Table) (ms : List Movement) (e : ℕ) → holds (table_after t ms) Outside e ≡ holds t Outside e
outside_after t [] e = refl
outside_after t (m ∷ ms) e = outside_after (moved t m) ms e ∙ outside_given _ m.to m.brand m.value.content e ∙ outside_taken t m.from m.brand m.value.content e

pub taken_outside : (t : Table) (b : ℕ) (c : Content) → taken t Outside b c ≡ t
unfolding taken
taken_outside t b c = refl

pub given_outside : (t : Table) (b : ℕ) (c : Content) → given t Outside b c ≡ t
unfolding given
given_outside t b c = refl
