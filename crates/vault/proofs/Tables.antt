-- The table of a draft after movements made together, as they are written and as they are done.
use Rattle.std.proofs.Common.{◌≡◌, ◌≢◌, ℕ, List, [], ◌∷◌, ◌++◌, refl, sym, ◌∙◌, ap, subst, arith, append_assoc}
use Rattle.vault_model.specs.amount_math.Content.{Contains, count, count-difference, count-sum}
use Rattle.vault_model.specs.amount_math.declared.Kind.{Kind}
use Rattle.vault_model.specs.rights_model.declared.Holder.{Holder}
use Rattle.vault_model.specs.rights_model.declared.Holder.TheVariants.{Hand, Outside}
use Rattle.vault_model.specs.rights_model.declared.Movement.{Movement}
use Rattle.vault_model.specs.rights_model.Place.{Place, place}
use Rattle.vault_model.specs.rights_model.Table.{Table, CanMoveAll, holds, moved, movement, table_after, taken}
use Rattle.vault_model.proofs.rights_model.TableLaws.{holds-given_other, holds-taken, table_after-push}
use Rattle.vault_model.specs.Flows.{AreInside, IsApart, Part, combined, content_of, gathered, split_up, spread, whole_of}
use Rattle.vault_model.specs.Lists.{Lists}
use Rattle.vault_model.specs.Tables.{table_of}
use Rattle.vault_model.proofs.FlowLaws.{can_elsewhere, combine_law, split_law}
use Rattle.vault.specs.Drafts.{DraftState, IsValid, after, table_now}
use Rattle.vault.specs.Together.{after_all}

pub after_append : (d : DraftState) (ms ns : List Movement) → after_all d (ms ++ ns) ≡ after_all (after_all d ms) ns
after_append d [] ns = refl
after_append d (m ∷ ms) ns = after_append (after d m) ms ns

pub table_follows : (d : DraftState) (ms : List Movement) → table_now (after_all d ms) ≡ table_after (table_now d) ms
table_follows d [] = refl
table_follows d (m ∷ ms) = table_follows (after d m) ms ∙ ap (λ (t : Table). table_after t ms) (table_after-push (table_of d.kept) d.movements m)

kept_all : (d : DraftState) (ms : List Movement) → (after_all d ms).kept ≡ d.kept
kept_all d [] = refl
kept_all d (m ∷ ms) = kept_all (after d m) ms

none_more : (ms : List Movement) → ms ≡ ms ++ []
none_more [] = refl
none_more (m ∷ ms) = ap (λ (l : List Movement). m ∷ l) (none_more ms)

movements_all : (d : DraftState) (ms : List Movement) → (after_all d ms).movements ≡ d.movements ++ ms
movements_all d [] = none_more d.movements
movements_all d (m ∷ ms) = movements_all (after d m) ms ∙ append_assoc d.movements (m ∷ []) ms

first_can : (t : Table) (ms ns : List Movement) → CanMoveAll t (ms ++ ns) → CanMoveAll t ms
first_can t [] ns can = tt
first_can t (m ∷ ms) ns can = (can.0, first_can (moved t m) ms ns can.1)

rest_can : (t : Table) (ms ns : List Movement) → CanMoveAll t (ms ++ ns) → CanMoveAll (table_after t ms) ns
rest_can t [] ns can = can
rest_can t (m ∷ ms) ns can = rest_can (moved t m) ms ns can.1

-- movements that were made could be
pub can_follow : (d : DraftState) (ms : List Movement) → IsValid (after_all d ms) → CanMoveAll (table_now d) ms
can_follow d ms valid =
    rest_can (table_of d.kept) d.movements ms
    (subst (λ (l : List Movement). CanMoveAll (table_of d.kept) l) (movements_all d ms)
    (subst (λ (s : Lists). CanMoveAll (table_of s) (after_all d ms).movements) (kept_all d ms) valid.moves))

module _ (d : DraftState) (b : ℕ) (kind : Kind) (to : Holder) (ps : List Part) (inside : AreInside ps) (apart : IsApart to ps) (hands : IsApart Hand ps) (valid : IsValid (after_all d (combined b kind to ps))) where
  written_can : CanMoveAll (table_now d) (gathered b to ps)
  written_can = can_elsewhere b Hand to (table_now d) (table_now d) ps (record { each = λ q qh qt. refl }) inside hands apart
      (first_can (table_now d) (gathered b Hand ps) (movement b Hand to (whole_of kind ps) ∷ []) (can_follow d (combined b kind to ps) valid))

  -- a combination that was done makes the table of what is written of it
  pub combined_table : table_now (after_all d (combined b kind to ps)) ≡ table_after (table_now d) (gathered b to ps)
  combined_table = table_follows d (combined b kind to ps) ∙ sym (combine_law (table_now d) b kind to ps inside apart hands written_can)

-- what a holder has can be spread from it
spread_from : (t : Table) (b : ℕ) (from : Holder) (ps : List Part) → from ≢ Outside → IsApart from ps → Contains (holds t from b) (content_of ps) → CanMoveAll t (spread b from ps)
spread_from t b from [] inside apart has = tt
spread_from t b from (p ∷ ps) inside apart has = (
  record { has = λ out. record { each = λ k. omega (arith, has.each k, count-sum p.1.content (content_of ps) k) } },
  spread_from (moved t (movement b from p.0 p.1)) b from ps inside apart.1 (record {
    each = λ k. omega (
      arith,
      has.each k,
      count-sum p.1.content (content_of ps) k,
      ap (λ x. count x k) (holds-given_other (taken t from b p.1.content) b p.1.content p.0 from b elsewhere ∙ holds-taken t b p.1.content from inside),
      count-difference (holds t from b) p.1.content k,
    );
  }),
)
  where
    elsewhere : place from b ≢ place p.0 b
    elsewhere is = apart.0 (sym (ap (λ (q : Place). q.0) is))

module _ (d : DraftState) (b : ℕ) (kind : Kind) (from : Holder) (ps : List Part) (inside : from ≢ Outside) (apart : IsApart from ps) (hands : IsApart Hand ps) (valid : IsValid (after_all d (split_up b kind from ps))) where
  holder_has : Contains (holds (table_now d) from b) (content_of ps)
  holder_has = (can_follow d (split_up b kind from ps) valid).0.has inside

  -- a split that was done makes the table of what is written of it
  pub split_table : table_now (after_all d (split_up b kind from ps)) ≡ table_after (table_now d) (spread b from ps)
  split_table = table_follows d (split_up b kind from ps) ∙ sym (split_law (table_now d) b kind from ps hands holder_has (spread_from (table_now d) b from ps inside apart holder_has))
