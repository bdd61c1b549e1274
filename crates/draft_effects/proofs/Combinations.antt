-- A combination of payments that can be made in the world can be made in a draft, and makes of the rights what its movements make together.
use Rattle.std.specs.List.{slice_get}
use Rattle.std.specs.Prelude.{cond, unwrap_or}
use Rattle.std.proofs.Common.{◌≡◌, inl, inr, ℕ, ◌+◌, ◌<◌, ◌==◌, List, [], ◌∷◌, Option, Some, length, map, refl, sym, ◌∙◌, ap, subst, arith}
use Rattle.std.proofs.lemmas.Bool.{cases_eq, eq-eqb, ne_eqb}
use Rattle.draft_reads.specs.amount_math.Content.{Content, Contains, Contains-refl, count-difference, count-nothing, difference, nothing, nothing-sum, same_content, sum}
use Rattle.draft_reads.specs.amount_math.ValueView.{ValueView}
use Rattle.draft_reads.specs.amount_math.declared.Kind.{Kind}
use Rattle.draft_effects.specs.Steps.{MayReach}
use Rattle.draft_effects.proofs.TransferSequences.{all_spent_long, counted_so}
use Rattle.draft_effects.proofs.Measures.{all_grow}
use Rattle.draft_reads.specs.Views.{HasNow, rights_in, seats_in, staged_from, staging_in}
use Rattle.draft_reads.proofs.Undoing.{clean_goes}
use Rattle.draft_reads.specs.ertp_mint.BrandSupply.{BrandSupply}
use Rattle.draft_reads.specs.ertp_mint.Stocks.{most_made}
use Rattle.draft_reads.specs.world_state.Shapes.{IsCombination, payment_part}
use Rattle.draft_effects.specs.Sums.{HaveSum, content_moved, whole_moved}
use Rattle.draft_effects.proofs.Parts.{is_next}
use Rattle.draft_reads.specs.holders.PaymentViews.{live_payment, payment_view_at}
use Rattle.draft_reads.specs.proposals.declared.allocations.Share.{Share}
use Rattle.draft_reads.specs.rights_model.declared.Holder.TheVariants.{Hand, Payment}
use Rattle.draft_reads.specs.rights_model.declared.Movement.{Movement}
use Rattle.draft_reads.specs.rights_model.Table.{movement}
use Rattle.draft_reads.specs.vault_model.Flows.{content_of}
use Rattle.draft_reads.specs.vault_model.Lists.{Lists, amount_of}
use Rattle.draft_reads.specs.vault_model.Tables.{hand_minus}
use Rattle.draft_reads.specs.world_laws.Combinations.{all_taken}
use Rattle.draft_reads.specs.world_laws.Views.{put_to, rights_of, seat_of}
use Rattle.draft_reads.proofs.world_laws.Combined.{combined_together}
use Rattle.draft_effects.specs.HandStore.{CanCarryAll, IsStoring, StoresAll, all_carried, hand_after_all, into_hand}
use Rattle.draft_reads.specs.vault.Drafts.{DraftState, IsClean, IsOfBrand, IsValid, hand_now}
use Rattle.draft_reads.specs.world_state.Good.{CanMoveTogether}
use Rattle.draft_reads.specs.world_state.Rights.{Rights, all_moved, kind_at, moved, moved_together}
use Rattle.draft_effects.proofs.CombinationsApart.{written}
use Rattle.draft_effects.proofs.TakenPayments.{AreTaken, KeepsAll, add_up, carried_taken, done, hand_here, hand_there, made_there, payments_taken, same_at_start, taken_keeps}

in_each : (b to : ℕ) (ps : List (ℕ × ValueView)) → map into_hand (written b to ps) ≡ done b ps
in_each b to [] = refl
in_each b to (p ∷ ps) = ap (λ (l : List Movement). movement b (Payment p.0) Hand p.1 ∷ l) (in_each b to ps)

moved_content : (b to : ℕ) (ps : List (ℕ × ValueView)) → content_moved (written b to ps) ≡ content_of (map payment_part ps)
moved_content b to [] = refl
moved_content b to (p ∷ ps) = ap (sum p.1.content) (moved_content b to ps)

module _ (d : DraftState) (staging : List (Option (List Share))) (ms : List Movement) (valid : IsValid d) (clean : IsClean d) (shape : IsCombination ms) (together : CanMoveTogether (rights_in d) (seats_in d) staging ms) where
  abbrev b : ℕ
  b = shape.brand

  abbrev to : ℕ
  to = shape.to

  abbrev ps : List (ℕ × ValueView)
  ps = shape.first ∷ shape.others

  abbrev s : Lists
  s = d.now

  abbrev r : Rights
  r = rights_of d.now

  abbrev whole : ValueView
  whole = whole_moved (written b to ps)

  abbrev one : Movement
  one = movement b (Payment shape.first.0) (Payment to) shape.first.1

  can : CanMoveTogether r (seats_in d) staging (written b to ps)
  can = subst (λ l. CanMoveTogether r (seats_in d) staging l) shape.is together

  next : to ≡ length s.payments
  next = is_next r shape.first.0 b to shape.first.1 can.can.0.to can.fresh.0

  pub stores_all : StoresAll d
  stores_all = record { sound = clean.sound; stored = clean_goes d valid clean }

  are_taken : AreTaken s (hand_now d) b ps
  are_taken = payments_taken s (hand_now d) r b to ps refl next (omega (arith, next)) (same_at_start s r ps refl) shape.once shape.apart can.can can.emptied

  ins : map into_hand ms ≡ done b ps
  ins = ap (map into_hand) shape.is ∙ in_each b to ps

  pub can_store : CanCarryAll d.now (hand_now d) (map into_hand ms)
  can_store = subst (λ l. CanCarryAll d.now (hand_now d) l) (sym ins) are_taken.can

  whole_is : whole_moved ms ≡ whole
  whole_is = ap whole_moved shape.is

  made : (length (moved r one).payments ≡ to + 1) × (payment_view_at (moved r one).payments to ≡ live_payment (amount_of b shape.first.1))
  made = made_there b to r shape.first.0 shape.first.1 next

  pub have_sum : HaveSum ms
  have_sum = subst HaveSum (sym shape.is) (add_up b to (moved r one) shape.first.1 shape.others made.0 shape.apart.1 made.1 can.can.1)

  content_is : whole.content ≡ content_of (map payment_part ps)
  content_is = moved_content b to ps

  pub first_is : (m : Movement) → Some m ≡ slice_get ms 0 → m ≡ one
  first_is m first = ap (λ (o : Option Movement). unwrap_or o m) (subst (λ (l : List Movement). Some m ≡ slice_get l 0) shape.is first)

  -- once all are taken
  module _ (then : DraftState) (took : IsStoring d then (all_carried d.now (map into_hand ms)) (hand_after_all (hand_now d) (map into_hand ms))) (m : Movement) (first : Some m ≡ slice_get ms 0) where
    abbrev out : Lists
    out = all_taken s b (map payment_part ps)

    now_out : then.now ≡ out
    now_out = took.now ∙ ap (all_carried s) ins ∙ carried_taken s b ps

    keeps : KeepsAll s out
    keeps = taken_keeps s b ps

    hand_full : hand_now then ≡ hand_after_all (hand_now d) (done b ps)
    hand_full = took.hand ∙ ap (hand_after_all (hand_now d)) ins

    full_here : hand_now then b ≡ whole.content
    full_here = ap (λ (h : ℕ → Content). h b) hand_full ∙ hand_here (hand_now d) b ps ∙ ap (λ x. sum x (content_of (map payment_part ps))) (clean.hand b) ∙ nothing-sum (content_of (map payment_part ps)) ∙ sym content_is

    pub has_whole : Contains (hand_now then m.brand) (whole_moved ms).content
    has_whole = subst (λ (x : Movement). Contains (hand_now then x.brand) (whole_moved ms).content) (sym (first_is m first))
        (subst (λ (w : ValueView). Contains (hand_now then b) w.content) (sym whole_is) (subst (λ c. Contains c whole.content) (sym full_here) (Contains-refl whole.content)))

    outs_same : then.now.out ≡ s.out
    outs_same = ap (λ (l : Lists). l.out) now_out ∙ keeps.out

    pub of_brand : IsOfBrand then.now m.brand (whole_moved ms)
    of_brand = subst (λ (x : Movement). IsOfBrand then.now x.brand (whole_moved ms)) (sym (first_is m first)) (subst (λ w. IsOfBrand then.now b w) (sym whole_is) (record {
      made = subst (λ (l : List BrandSupply). b < length l) (sym outs_same) can.can.0.brand;
      kind = subst (λ (l : List BrandSupply). (kind_in l) ≡ shape.first.1.kind) (sym outs_same) can.can.0.kind;
    }))
      where
        kind_in : List BrandSupply → Kind
        kind_in l = kind_at l b

    room : length then.now.payments + then.now.owed < most_made
    room = omega (
      arith,
      ap (λ (l : Lists). length l.payments) now_out,
      ap (λ (l : Lists). l.owed) now_out,
      keeps.long,
      keeps.owed,
      counted_so r s (record { rest = refl; long = refl }) (seats_in d) (hand_now d) refl valid.sound,
      made.0,
      next,
      all_grow (seats_in d) (moved r one) (written b to shape.others),
      can.room.left,
      all_spent_long (written b to ps) (all_moved r (written b to ps)).payments,
    )

    pub reach : MayReach then.now m.to (amount_of m.brand (whole_moved ms))
    reach = subst (λ (x : Movement). MayReach then.now x.to (amount_of x.brand (whole_moved ms))) (sym (first_is m first)) (record {
      put = record { next = next ∙ sym (ap (λ (l : Lists). length l.payments) now_out ∙ keeps.long); left = room };
      value = tt;
    })

    module _ (new : DraftState) (put : IsStoring then new (put_to then.now m.to (amount_of m.brand (whole_moved ms))) (hand_minus (hand_now then) m.brand (whole_moved ms).content)) where
      abbrev lists_then : Lists
      lists_then = put_to out (Payment to) (amount_of b whole)

      now_then : new.now ≡ lists_then
      now_then =
          put.now
          ∙ ap (λ (x : Movement). put_to then.now x.to (amount_of x.brand (whole_moved ms))) (first_is m first)
          ∙ (λ i. put_to (now_out i) (Payment to) (amount_of b (whole_is i)))

      hand_then : hand_now new ≡ hand_minus (hand_now then) b whole.content
      hand_then =
          put.hand
          ∙ ap (λ (x : Movement). hand_minus (hand_now then) x.brand (whole_moved ms).content) (first_is m first)
          ∙ ap (λ (w : ValueView). hand_minus (hand_now then) b w.content) whole_is

      rights_then : rights_of lists_then ≡ moved_together r (written b to ps)
      rights_then =
          (λ i. rights_of (put_to out (Payment (next i)) (amount_of b (record { kind = shape.first.1.kind; content = content_is i }))))
          ∙ combined_together s b (payment_part shape.first) (map payment_part shape.others) are_taken.taken
          ∙ ap (λ n. moved_together r (written b n ps)) (sym next)

      empty : (e : ℕ) → hand_now new e ≡ nothing
      empty e = ap (λ (h : ℕ → Content). h e) hand_then ∙ elim (cases_eq b e) [
        | inl same ↦ subst (λ q. cond (b == q) (difference (hand_now then q) whole.content) (hand_now then q) ≡ nothing) same
            (ap (λ t. cond t (difference (hand_now then b) whole.content) (hand_now then b)) (eq-eqb b b refl) ∙ ap (λ x. difference x whole.content) full_here ∙ none_left whole.content)
        | inr apart ↦ ap (λ t. cond t (difference (hand_now then e) whole.content) (hand_now then e)) (ne_eqb b e apart) ∙ ap (λ (h : ℕ → Content). h e) hand_full ∙ hand_there (hand_now d) b e ps apart ∙ clean.hand e
      ]
        where
          none_left : (c : Content) → difference c c ≡ nothing
          none_left c = same_content (difference c c) nothing (λ k. omega (arith, count-difference c c k, count-nothing k))

      seats_then : new.now.seats ≡ s.seats
      seats_then = ap (λ (l : Lists). l.seats) now_then ∙ keeps.seats

      pub combined_now : HasNow new (moved_together (rights_in d) ms) (seats_in d) (staging_in d)
      combined_now = record {
        rights = ap rights_of now_then ∙ rights_then ∙ ap (moved_together r) (sym shape.is);
        seated = ap (map seat_of) seats_then;
        staged = λ i. staged_from 0 (seats_then i) ((put.staging ∙ took.staging) i);
        clean = record { sound = put.stores.sound; hand = empty };
      }
