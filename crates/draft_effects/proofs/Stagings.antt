-- A draft of which shares are staged, or let go, in the world's words.
use Rattle.std.specs.Prelude.{◌↔◌, Err, IsErr, IsNone, IsSome, Ok, OnOk, Result, is_none, is_some, slice_set}
use Rattle.std.proofs.Common.{◌≡◌, ℕ, zero, suc, ◌<◌, ◌==◌, true, false, cond, List, [], ◌∷◌, None, Option, Some, length, map, refl, sym, ◌∙◌, ap, subst, arith}
use Rattle.std.proofs.lemmas.Bool.{eq-eqb}
use Rattle.draft_reads.proofs.lemmas.ListEdits.{length_map}
use Rattle.draft_reads.specs.proposals.declared.allocations.Share.{Share}
use Rattle.draft_reads.specs.vault_model.Seats.{IsOpenSeat, KeptSeat, kept_seat_at}
use Rattle.draft_reads.specs.world_laws.Views.{seat_of}
use Rattle.draft_reads.specs.seats.Seats.{SeatView}
use Rattle.draft_reads.specs.seats.Staging.{staged_at, with_staged, without_staged}
use Rattle.draft_reads.specs.seats.Store.{AreOpen, seat_at as view_at}
use Rattle.draft_reads.specs.seats.declared.seats.StageFault.{StageFault}
use Rattle.draft_reads.specs.seats.declared.seats.StageFault.TheVariants.{NoMemory, SeatExited}
use Rattle.draft_reads.specs.vault.Drafts.{DraftState, IsClean, IsValid, with_staging}
use Rattle.draft_reads.specs.vault.Memory.{kept_seat}
use Rattle.draft_reads.proofs.vault.SeatReads.{seat_read}
use Rattle.draft_reads.specs.world_state.Worlds.{IsOpen, Seat, no_shares, seat_at}
use Rattle.draft_reads.specs.Views.{CanGoBack, HasNow, rights_in, seats_in, staging_in}
use Rattle.draft_reads.proofs.Staged.{let_go_apart, staged_ended, staged_set, staged_with}
use Rattle.draft_reads.proofs.Undoing.{none_given}

-- a seat that is open was made
open_made : (seats : List Seat) (n : ℕ) → IsOpen (seat_at seats n) → n < length seats
open_made [] n is = absurd cc
open_made (s ∷ ss) zero is = omega arith
open_made (s ∷ ss) (suc n) is = omega (arith, open_made ss n is)

pub made_here : (d : DraftState) (n : ℕ) → IsOpen (seat_at (seats_in d) n) → n < length d.now.seats
made_here d n is = omega (arith, open_made (seats_in d) n is, length_map seat_of d.now.seats)

pub open_here : (d : DraftState) (n : ℕ) → IsOpen (seat_at (seats_in d) n) → IsOpenSeat (kept_seat_at d.now.seats n)
open_here d n is = there d.now.seats n (made_here d n is) is
  where
    there : (seats : List KeptSeat) (n : ℕ) → n < length seats → IsOpen (seat_at (map seat_of seats) n) → IsOpenSeat (kept_seat_at seats n)
    there [] n lt is = absurd (omega (arith, lt))
    there (x ∷ xs) zero lt is = ap is_some is
    there (x ∷ xs) (suc n) lt is = there xs n (omega (arith, lt)) is

module _ (d : DraftState) (clean : IsClean d) where
  pub staged_back : IsValid d → (staging : List (ℕ × List Share)) → CanGoBack d (with_staging d staging)
  staged_back valid staging = record { kept = refl; goes = record { each = λ b lt. none_given d valid clean b ∙ sym (clean.hand b) } }

  -- this is staged
  shown : (staging : List (ℕ × List Share)) (shares : List (Option (List Share))) → staging_in (with_staging d staging) ≡ shares → HasNow (with_staging d staging) (rights_in d) (seats_in d) shares
  shown staging shares is = record { rights = refl; seated = refl; staged = is; clean = record { sound = clean.sound; hand = clean.hand } }

  pub staged_now : (n : ℕ) (shares : List Share) → HasNow (with_staging d (with_staged n shares d.staging)) (rights_in d) (seats_in d) (slice_set (staging_in d) n (Some shares))
  staged_now n shares = shown (with_staged n shares d.staging) _ (staged_with d.now.seats n shares d.staging)

  pub ended_now : HasNow (with_staging d []) (rights_in d) (seats_in d) (map no_shares (staging_in d))
  ended_now = shown [] _ (staged_ended d.now.seats d.staging)

  -- what is staged of a seat is let go
  pub let_go_now : (n : ℕ) → ((q : ℕ) → staged_at q (without_staged n d.staging) ≡ cond (n == q) None (staged_at q d.staging)) → HasNow (with_staging d (without_staged n d.staging)) (rights_in d) (seats_in d) (slice_set (staging_in d) n None)
  let_go_now n looks = shown (without_staged n d.staging) _ (staged_set n d.now.seats None d.staging (without_staged n d.staging) (looks n ∙ ap (λ t. cond t None (staged_at n d.staging)) (eq-eqb n n refl)) (λ p apart. let_go_apart n p apart d.staging))

  -- of a seat of which nothing is staged there is nothing to let go
  pub none_now : (n : ℕ) → staged_at n d.staging ≡ None → HasNow d (rights_in d) (seats_in d) (slice_set (staging_in d) n None)
  none_now n none = record { rights = refl; seated = refl; staged = staged_set n d.now.seats None d.staging d.staging none (λ p apart. refl); clean = clean }

  -- and so it is where it was left, or wasn't made
  module _ (seats : List SeatView) (listed : map kept_seat seats ≡ d.now.seats) where
    pub last_read : (n : ℕ) → (kept_seat_at d.now.seats n).last ≡ (view_at seats n).last
    last_read n = ap (λ (k : KeptSeat). k.last) (ap (λ l. kept_seat_at l n) (sym listed) ∙ seat_read seats n)

    pub none_staged : (n : ℕ) → AreOpen seats d.staging → (n < length d.now.seats → is_none (kept_seat_at d.now.seats n).last ≡ false) → staged_at n d.staging ≡ None
    none_staged n are left = by (staged_at n d.staging) refl
      where
        clash : true ≡ false → ⊥
        clash e = cc

        closed : (o : Option (List Share)) → is_some o ≡ false → is_none o ≡ true
        closed None none = refl
        closed (Some x) none = absurd cc

        made : IsSome (staged_at n d.staging) → n < length d.now.seats
        made is = omega (arith, are.made n is, ap length listed, length_map kept_seat seats)

        by : (o : Option (List Share)) → staged_at n d.staging ≡ o → o ≡ None
        by None is = refl
        by (Some x) is = absurd (clash (sym (closed (kept_seat_at d.now.seats n).last (ap is_some (last_read n) ∙ are.is_open n (ap is_some is))) ∙ left (made (ap is_some is))))

-- an answer that is no error
pub ok_of : {T E P : Type 0} (r : Result T E) → (IsErr r → ⊥) → OnOk r P → P
ok_of (Ok x) never ok = ok
ok_of (Err e) never ok = absurd (never refl)

-- an open seat is staged, but for want of memory
pub stage_memory : (fault : StageFault) (last : Option (List Share)) → (fault ≡ SeatExited ↔ IsSome last) → IsNone last → fault ≡ NoMemory
stage_memory SeatExited last exited is = absurd (clash (sym (exited.0 refl) ∙ is))
  where
    clash : true ≡ false → ⊥
    clash e = cc
stage_memory NoMemory last exited is = refl

-- what is let go of an open seat
pub let_go_so : (d new : DraftState) (n : ℕ) → IsClean d → new ≡ with_staging d (without_staged n d.staging) → ((q : ℕ) → staged_at q new.staging ≡ cond (n == q) None (staged_at q d.staging)) → HasNow new (rights_in d) (seats_in d) (slice_set (staging_in d) n None)
let_go_so d new n clean is looks = subst (λ (x : DraftState). HasNow x (rights_in d) (seats_in d) (slice_set (staging_in d) n None)) (sym is) (let_go_now d clean n (λ q. ap (λ (x : DraftState). staged_at q x.staging) (sym is) ∙ looks q))

-- a last allocation isn't there and missing
pub not_both : (o : Option (List Share)) → is_none o ≡ true → IsSome o → ⊥
not_both None none some = absurd cc
not_both (Some x) none some = absurd cc
