-- A draft after a purse was opened, and after a brand was taken in.
use Rattle.std.proofs.Common.{◌≡◌, ◌≢◌, inl, inr, ℕ, zero, suc, ◌+◌, ◌-◌, ◌≤◌, Bool, false, List, [], ◌∷◌, ◌++◌, length, map, reverse, refl, sym, ◌∙◌, ap, subst, arith}
use Rattle.std.specs.Prelude.{slice_index_or}
use Rattle.std.proofs.lemmas.Bool.{cases_eq}
use Rattle.vault_model.specs.amount_math.Content.{Contains, Content, nothing}
use Rattle.vault_model.specs.amount_math.Held.{Held, HasRoom, keys_in, more_room}
use Rattle.vault_model.specs.amount_math.ValueView.{keys_of}
use Rattle.vault_model.specs.amount_math.declared.Amount.{Amount}
use Rattle.vault_model.specs.amount_math.declared.Kind.{Kind}
use Rattle.vault_model.specs.amount_math.declared.Kind.TheVariants.{Nat}
use Rattle.vault_model.specs.ertp_mint.Balances.{BalanceView, empty_store}
use Rattle.vault_model.specs.ertp_mint.BrandSupply.{BrandSupply, new_supply, supply_at}
use Rattle.vault_model.specs.ertp_mint.Circulating.{CirculationView, circulation_at, new_circulation}
use Rattle.vault_model.specs.ertp_mint.Stocks.{empty_amount, no_amount}
use Rattle.vault_model.proofs.lemmas.ListEdits.{length_map, length_push, map_push, read_before, read_past, read_pushed}
use Rattle.vault_model.specs.holders.Purses.{room_at}
use Rattle.vault_model.specs.declared.Undo.{Undo}
use Rattle.vault_model.specs.declared.Undo.TheVariants.{OpensPurse, AddsBrand}
use Rattle.vault_model.specs.Backwards.{CanAllBack, HasGrown, all_back, in_hand}
use Rattle.vault_model.specs.Lists.{Lists, kind_of, purse_at, with_new_brand, with_new_purse, with_outs, with_purses, without_last_brand, without_last_purse}
use Rattle.vault_model.specs.Tables.{Agrees, IsSound, no_hand, table_of}
use Rattle.vault_model.proofs.Agreeing.{agrees_new_brand, agrees_new_purse}
use Rattle.vault_model.proofs.Sound.{none_past, sound_new_brand, sound_new_purse}
use Rattle.vault_model.proofs.Undone.{all_grows, unadded, unopened}
use Rattle.vault_model.specs.rights_model.declared.Movement.{Movement}
use Rattle.vault_model.specs.rights_model.Table.{CanMoveAll, table_after}
use Rattle.transit.specs.Transit.{TransitView, empty_hand, held_at}
use Rattle.vault.specs.Memory.{amount_in, kept_of, lists_of, rooms_of, staged_of, store_of, supply_of}
use Rattle.vault.specs.Drafts.{IsDraft, by_number, draft_of, given_list, opened, table_now, with_brand}
use Rattle.vault.specs.declared.stores.Stores.{Stores}
use Rattle.vault.proofs.GivenUp.{numbered_push}
use Rattle.vault.proofs.Steps.{brands_there, given_long, keys_none, last_first, room_for_none}

-- ---- a purse

module _ (p : Stores) (ks : List Undo) (ms : List Movement) (keys : ℕ) (spoiled : Bool) (b : ℕ) (kind : Kind) (is : IsDraft p ks ms keys spoiled) (l : List BalanceView) (new : l ≡ p.purses ++ empty_store b kind ∷ []) where
  abbrev q : Stores
  q = record p { purses = l }

  lists : lists_of q ≡ with_new_purse (lists_of p) b kind
  lists = ap (with_purses (lists_of p)) (ap (map amount_in) new ∙ map_push amount_in p.purses (empty_store b kind))

  back_there : without_last_purse (lists_of q) ≡ lists_of p
  back_there = ap without_last_purse lists ∙ unopened (lists_of p) b kind

  kept_after : all_back (lists_of q) (reverse (ks ++ OpensPurse ∷ [])) (reverse ms) ≡ all_back (lists_of p) (reverse ks) (reverse ms)
  kept_after = ap (λ (r : List Undo). all_back (lists_of q) r (reverse ms)) (last_first ks OpensPurse) ∙ ap (λ (s : Lists). all_back s (reverse ks) (reverse ms)) back_there

  room_before : (n : ℕ) → room_at p.purses n ≤ room_at l n
  room_before n = subst (λ m. room_at p.purses n ≤ room_at m n) (sym new) (along p.purses n)
    where
      along : (xs : List BalanceView) (n : ℕ) → room_at xs n ≤ room_at (xs ++ empty_store b kind ∷ []) n
      along [] n = omega arith
      along (x ∷ xs) zero = omega arith
      along (x ∷ xs) (suc n) = along xs n

  grown : HasGrown (rooms_of p) (rooms_of q)
  grown = record { purses = room_before; slots = λ n k. omega arith; capacity = omega arith; hand = λ e. omega arith }

  last_is_empty : (purse_at (lists_of q).purses (length (lists_of q).purses - 1)).value.content ≡ nothing
  last_is_empty =
      ap (λ (s : Lists). (purse_at s.purses (length s.purses - 1)).value.content) lists
      ∙ ap (λ (a : Amount). a.value.content) (read_pushed (lists_of p).purses (empty_amount b kind) no_amount _ (omega (arith, length_push (lists_of p).purses (empty_amount b kind))))

  pub opened_after : draft_of q (ks ++ OpensPurse ∷ []) ms spoiled ≡ opened (draft_of p ks ms spoiled) (with_new_purse (lists_of p) b kind)
  opened_after = λ i. record { kept = kept_after i; now = lists i; staging = staged_of p; movements = ms; given_up = given_list p; is_spoiled = spoiled }

  pub opened_keeps : IsDraft q (ks ++ OpensPurse ∷ []) ms keys spoiled
  opened_keeps = record {
    can = subst (λ (r : List Undo). CanAllBack (rooms_of q) (lists_of q) r (reverse ms)) (sym (last_first ks OpensPurse)) (
      record {
        some = omega (arith, length_map amount_in l, ap length new, length_push p.purses (empty_store b kind));
        empty = last_is_empty;
      },
      subst (λ (s : Lists). CanAllBack (rooms_of q) s (reverse ks) (reverse ms)) (sym back_there) (all_grows (rooms_of p) (rooms_of q) grown (lists_of p) (reverse ks) (reverse ms) is.can),
    );
    bounded = is.bounded;
    room = is.room;
    retired = is.retired;
    valid = record {
      sound = subst (λ (s : Lists). IsSound s (in_hand (reverse ms))) (sym lists) (sound_new_purse (lists_of p) (in_hand (reverse ms)) b kind is.valid.sound);
      agrees = subst (λ (s : Lists). Agrees (lists_of q) (in_hand (reverse ms)) (table_after (table_of s) ms)) (sym kept_after)
          (subst (λ (s : Lists). Agrees s (in_hand (reverse ms)) (table_now (draft_of p ks ms spoiled))) (sym lists) (agrees_new_purse (lists_of p) (in_hand (reverse ms)) (table_now (draft_of p ks ms spoiled)) b kind is.valid.agrees));
      moves = subst (λ (s : Lists). CanMoveAll (table_of s) ms) (sym kept_after) is.valid.moves;
      was_sound = subst (λ (s : Lists). IsSound s no_hand) (sym kept_after) is.valid.was_sound;
      brands = given_long q;
      given = is.valid.given;
    };
  }

-- ---- a brand

module _ (p : Stores) (ks : List Undo) (ms : List Movement) (keys : ℕ) (kind : Kind) (is : IsDraft p ks ms keys false) (t : TransitView) (new : t ≡ record { out = p.transit.out ++ new_circulation kind ∷ []; hand = p.transit.hand ++ empty_hand kind ∷ [] }) (alike : length p.transit.hand ≡ length p.transit.out) where
  abbrev r : Stores
  r = record p { transit = t }

  lists_too : lists_of r ≡ with_new_brand (lists_of p) kind
  lists_too = ap (λ (u : TransitView). with_outs (lists_of p) (map supply_of u.out)) new ∙ ap (with_outs (lists_of p)) (map_push supply_of p.transit.out (new_circulation kind))

  back_too : without_last_brand (lists_of r) ≡ lists_of p
  back_too = ap without_last_brand lists_too ∙ unadded (lists_of p) kind

  kept_too : all_back (lists_of r) (reverse (ks ++ AddsBrand ∷ [])) (reverse ms) ≡ all_back (lists_of p) (reverse ks) (reverse ms)
  kept_too = ap (λ (x : List Undo). all_back (lists_of r) x (reverse ms)) (last_first ks AddsBrand) ∙ ap (λ (s : Lists). all_back s (reverse ks) (reverse ms)) back_too

  kept_same : (e : ℕ) → kept_of r e ≡ kept_of p e
  kept_same e = ap (λ (u : TransitView). (circulation_at u.out e).kept) new ∙ along p.transit.out e
    where
      along : (xs : List CirculationView) (n : ℕ) → (circulation_at (xs ++ new_circulation kind ∷ []) n).kept ≡ (circulation_at xs n).kept
      along [] zero = refl
      along [] (suc n) = refl
      along (x ∷ xs) zero = refl
      along (x ∷ xs) (suc n) = along xs n

  hand_room : (e : ℕ) → (held_at p.transit.hand e).room ≤ (held_at t.hand e).room
  hand_room e = subst (λ (u : TransitView). (held_at p.transit.hand e).room ≤ (held_at u.hand e).room) (sym new) (along p.transit.hand e)
    where
      along : (xs : List Held) (n : ℕ) → (held_at xs n).room ≤ (held_at (xs ++ empty_hand kind ∷ []) n).room
      along [] n = omega arith
      along (x ∷ xs) zero = omega arith
      along (x ∷ xs) (suc n) = along xs n

  grown_too : HasGrown (rooms_of p) (rooms_of r)
  grown_too = record { purses = λ n. omega arith; slots = λ n k. omega arith; capacity = omega arith; hand = hand_room }

  -- what the hand's store has at each brand, and the kinds
  store_same : (e : ℕ) → store_of r e ≡ store_of p e
  store_same e = ap (λ (u : TransitView). (held_at u.hand e).value.content) new ∙ along p.transit.hand e
    where
      along : (xs : List Held) (n : ℕ) → (held_at (xs ++ empty_hand kind ∷ []) n).value.content ≡ (held_at xs n).value.content
      along [] zero = refl
      along [] (suc n) = refl
      along (x ∷ xs) zero = refl
      along (x ∷ xs) (suc n) = along xs n

  long : length t.out ≡ length p.transit.out + 1
  long = ap (λ (u : TransitView). length u.out) new ∙ length_push p.transit.out (new_circulation kind)

  -- of the new brand the hand has nothing
  none_new : in_hand (reverse ms) (length (lists_of p).out) ≡ nothing
  none_new = none_past (lists_of p) (in_hand (reverse ms)) is.valid.sound (length (lists_of p).out) (omega arith)

  same_kind : (e : ℕ) → length (lists_of p).out ≢ e → kind_of (lists_of r) e ≡ kind_of (lists_of p) e
  same_kind e apart = ap (λ (s : Lists). kind_of s e) lists_too ∙ ap (λ (x : BrandSupply). x.outstanding.kind) (read_before (lists_of p).out (new_supply kind) (new_supply Nat) e apart)

  last_is_fresh : (supply_at (lists_of r).out (length (lists_of r).out - 1)).minted ≡ 0
  last_is_fresh =
      ap (λ (s : Lists). (supply_at s.out (length s.out - 1)).minted) lists_too
      ∙ ap (λ (x : BrandSupply). x.minted) (read_pushed (lists_of p).out (new_supply kind) (new_supply Nat) _ (omega (arith, length_push (lists_of p).out (new_supply kind))))

  -- of the new one it has nothing
  store_none : store_of r (length p.transit.out) ≡ nothing
  store_none = store_same (length p.transit.out) ∙ ap (λ (h : Held). h.value.content) (read_past p.transit.hand (empty_hand Nat) (length p.transit.out) (omega (arith, alike)))

  none_more : (l : List Content) (n : ℕ) → slice_index_or l n nothing ≡ slice_index_or (l ++ nothing ∷ []) n nothing
  none_more [] zero = refl
  none_more [] (suc n) = refl
  none_more (x ∷ xs) zero = refl
  none_more (x ∷ xs) (suc n) = none_more xs n

  listed_too : given_list r ≡ given_list p ++ nothing ∷ []
  listed_too =
      numbered_push (length t.out) (length p.transit.out) (store_of r) long
      ∙ (λ i. by_number (length p.transit.out) (λ e. store_same e i) ++ store_none i ∷ [])

  pub added_after : draft_of r (ks ++ AddsBrand ∷ []) ms false ≡ with_brand (draft_of p ks ms false) kind
  added_after = λ i. record { kept = kept_too i; now = lists_too i; staging = staged_of p; movements = ms; given_up = listed_too i; is_spoiled = false }

  pub added_keeps : IsDraft r (ks ++ AddsBrand ∷ []) ms keys false
  added_keeps = record {
    can = subst (λ (x : List Undo). CanAllBack (rooms_of r) (lists_of r) x (reverse ms)) (sym (last_first ks AddsBrand)) (
      record {
        some = omega (arith, brands_there r, long);
        fresh = last_is_fresh;
      },
      subst (λ (s : Lists). CanAllBack (rooms_of r) s (reverse ks) (reverse ms)) (sym back_too) (all_grows (rooms_of p) (rooms_of r) grown_too (lists_of p) (reverse ks) (reverse ms) is.can),
    );
    bounded = λ e. elim (cases_eq (length (lists_of p).out) e) [
      | inl at ↦ subst (λ n. keys_in (kind_of (lists_of r) n) (in_hand (reverse ms) n) ≤ keys) at (subst (λ x. keys_in (kind_of (lists_of r) (length (lists_of p).out)) x ≤ keys) (sym none_new) (keys_none (kind_of (lists_of r) (length (lists_of p).out)) keys))
      | inr apart ↦ subst (λ k. keys_in k (in_hand (reverse ms) e) ≤ keys) (sym (same_kind e apart)) (is.bounded e)
    ];
    room = λ e lt. elim (cases_eq (length (lists_of p).out) e) [
      | inl at ↦ subst (λ n. HasRoom (kind_of (lists_of r) n) (keys_of (in_hand (reverse ms) n)) ((rooms_of r).hand n)) at
          (subst (λ x. HasRoom (kind_of (lists_of r) (length (lists_of p).out)) (keys_of x) ((rooms_of r).hand (length (lists_of p).out))) (sym none_new) (room_for_none (kind_of (lists_of r) (length (lists_of p).out)) ((rooms_of r).hand (length (lists_of p).out))))
      | inr apart ↦ subst (λ k. HasRoom k (keys_of (in_hand (reverse ms) e)) ((rooms_of r).hand e)) (sym (same_kind e apart))
          (more_room (kind_of (lists_of p) e) (keys_of (in_hand (reverse ms) e)) ((rooms_of p).hand e) ((rooms_of r).hand e) (hand_room e) (is.room e (omega (arith, lt, long, apart, brands_there p))))
    ];
    retired = λ e. kept_same e ∙ is.retired e;
    valid = record {
      sound = subst (λ (s : Lists). IsSound s (in_hand (reverse ms))) (sym lists_too) (sound_new_brand (lists_of p) (in_hand (reverse ms)) kind is.valid.sound);
      agrees = subst (λ (s : Lists). Agrees (lists_of r) (in_hand (reverse ms)) (table_after (table_of s) ms)) (sym kept_too)
          (subst (λ (s : Lists). Agrees s (in_hand (reverse ms)) (table_now (draft_of p ks ms false))) (sym lists_too) (agrees_new_brand (lists_of p) (in_hand (reverse ms)) (table_now (draft_of p ks ms false)) kind is.valid.agrees));
      moves = subst (λ (s : Lists). CanMoveAll (table_of s) ms) (sym kept_too) is.valid.moves;
      was_sound = subst (λ (s : Lists). IsSound s no_hand) (sym kept_too) is.valid.was_sound;
      brands = given_long r;
      given = λ e. subst (λ x. Contains (in_hand (reverse ms) e) x) (none_more (given_list p) e ∙ sym (ap (λ l. slice_index_or l e nothing) listed_too)) (is.valid.given e);
    };
  }
