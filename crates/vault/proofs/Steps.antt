-- How a draft begins and ends, and what each step keeps.
use Rattle.std.proofs.Common.{◌≡◌, ◌≢◌, inl, inr, ℕ, zero, suc, ◌+◌, ◌-◌, ◌<◌, ◌≤◌, ◌==◌, Bool, true, false, cond, List, [], ◌∷◌, ◌++◌, length, reverse, take, refl, sym, ◌∙◌, ap, subst, arith}
use Rattle.std.specs.Prelude.{slice_index_or, slice_set}
use Rattle.std.proofs.lemmas.Bool.{cases_eq, eq-eqb}
use Rattle.std.proofs.lemmas.List.{length-reverse, reverse-append}
use Rattle.vault_model.specs.amount_math.Content.{Content, Contains, Contains-trans, count, count-difference, count-nothing, count-sum, difference, nothing, same_content, sum, sum-difference}
use Rattle.vault_model.specs.amount_math.Held.{Held, HasRoom, keys_in, keys_of-sum, more_room, room_for_fewer, with_less, with_more}
use Rattle.vault_model.specs.amount_math.KindLaws.{keys_within}
use Rattle.vault_model.specs.amount_math.ValueView.{ValueView, keys_of}
use Rattle.vault_model.specs.amount_math.declared.Amount.{Amount}
use Rattle.vault_model.specs.amount_math.declared.Kind.{Kind}
use Rattle.vault_model.specs.amount_math.declared.Kind.TheVariants.{Nat, Set, Bag}
use Rattle.vault_model.proofs.amount_math.Places.{keys_of-nothing}
use Rattle.vault_model.specs.ertp_mint.BrandSupply.{BrandSupply, issued, new_supply, retired, supply_at}
use Rattle.vault_model.specs.ertp_mint.Circulating.{CirculationView, circulation_at}
use Rattle.vault_model.proofs.lemmas.ListEdits.{keeps, length_map, length_set, read_map, read_other, read_set}
use Rattle.vault_model.specs.declared.Undo.{Undo}
use Rattle.vault_model.specs.declared.Undo.TheVariants.{Moves, OpensPurse, AddsBrand, OpensSeat, OpensSlot, ClosesSeat}
use Rattle.vault_model.specs.Backwards.{CanAllBack, CanBack, HandHas, Rooms, all_back, from_hand, in_hand, retired_by, to_outside}
use Rattle.vault_model.specs.Lists.{CanGive, CanTake, Lists, back, given, kind_of, moved, no_lists, taken, ungiven, untaken, with_reopened_seat, without_last_brand, without_last_purse, without_last_seat, without_last_slot_of}
use Rattle.vault_model.specs.Tables.{Agrees, IsSound, hand_minus, hand_plus, no_hand, table_of}
use Rattle.vault_model.proofs.Agreeing.{agrees_alike, agrees_from_hand, agrees_given, agrees_in_hand, agrees_taken, can_move_in, can_move_out, one_table, table_agrees}
use Rattle.vault_model.proofs.Sound.{at_or_else, hand_is_out, sound_alike, sound_given, sound_taken}
use Rattle.vault_model.proofs.Undone.{all_grows, ungiven-given, untaken-taken}
use Rattle.vault_model.specs.rights_model.declared.Holder.{Holder}
use Rattle.vault_model.specs.rights_model.declared.Holder.TheVariants.{Purse, Payment, Slot, Hand, Outside}
use Rattle.vault_model.specs.rights_model.declared.Movement.{Movement}
use Rattle.vault_model.specs.rights_model.Table as table
use Rattle.vault_model.specs.rights_model.Table.{Table, CanMove, CanMoveAll, movement, table_after}
use Rattle.vault_model.proofs.rights_model.TableLaws.{CanMoveAll-push, table_after-push}
use Rattle.transit.specs.Transit.{CanHold, IsInStore, TransitView, empty_hand, held_at, in_store, with_hand}
use Rattle.vault.specs.Memory.{IsForward, IsGiven, IsRoomed, IsTaken, content_in_store, given_up_in, kept_given, kept_of, lists_of, rooms_of, staged_of, store_of, supply_of}
use Rattle.vault.specs.Forgetting.{AreMade, IsForgetting, IsForgotten}
use Rattle.vault.specs.Drafts.{DraftState, HandGoes, HandKeeps, IsClean, IsDraft, IsStored, IsValid, IsVault, after, begun, by_number, draft_of, given_at, given_list, given_up_too, held_too, let_out, table_now}
use Rattle.vault.specs.Working.{IsWorking}
use Rattle.vault.specs.declared.stores.Stores.{Stores}
use Rattle.vault.proofs.Halves.{supply_read}
use Rattle.vault.proofs.GivenUp.{given_there, has_none, length_numbered, none_given, none_listed, numbered_set}

-- ---- rooms by keys

room_of_keys : (kind : Kind) (c : Content) (n room : ℕ) → keys_in kind c ≤ n → HasRoom kind n room → HasRoom kind (keys_of c) room
room_of_keys Nat c n room le has = tt
room_of_keys Set c n room le has = omega (arith, le, has)
room_of_keys Bag c n room le has = omega (arith, le, has)

keys_together : (kind : Kind) (c d : Content) → keys_in kind (sum c d) ≤ keys_in kind c + keys_in kind d
keys_together Nat c d = omega arith
keys_together Set c d = keys_of-sum c d
keys_together Bag c d = keys_of-sum c d

fewer_keys : (kind : Kind) (c d : Content) → Contains c d → keys_in kind d ≤ keys_in kind c
fewer_keys Nat c d has = omega arith
fewer_keys Set c d has = keys_within c d has
fewer_keys Bag c d has = keys_within c d has

no_keys : (kind : Kind) → keys_in kind nothing ≤ 0
no_keys Nat = omega arith
no_keys Set = omega (arith, keys_of-nothing)
no_keys Bag = omega (arith, keys_of-nothing)

pub keys_none : (kind : Kind) (n : ℕ) → keys_in kind nothing ≤ n
keys_none kind n = omega (arith, no_keys kind)

pub room_for_none : (kind : Kind) (room : ℕ) → HasRoom kind (keys_of nothing) room
room_for_none Nat room = tt
room_for_none Set room = omega (arith, keys_of-nothing)
room_for_none Bag room = omega (arith, keys_of-nothing)

less_has : (c d : Content) → Contains c (difference c d)
less_has c d = record { each = λ k. omega (arith, count-difference c d k) }

-- ---- what was given up, read

pub given_read : (p : Stores) (b : ℕ) → slice_index_or (given_up_in p) b nothing ≡ store_of p b
given_read p b = read_map content_in_store p.transit.hand b (empty_hand Nat)

pub same_store : (p q : Stores) → given_up_in q ≡ given_up_in p → (b : ℕ) → store_of q b ≡ store_of p b
same_store p q same b = sym (given_read q b) ∙ ap (λ (l : List Content). slice_index_or l b nothing) same ∙ given_read p b

pub brands_there : (p : Stores) → length (lists_of p).out ≡ length p.transit.out
brands_there p = length_map supply_of p.transit.out

-- ---- brands stay

long_taken : (s : Lists) (h : Holder) (b : ℕ) (w : ValueView) → length (taken s h b w).out ≡ length s.out
long_taken s (Purse n) b w = refl
long_taken s (Payment n) b w = refl
long_taken s (Slot v j) b w = refl
long_taken s Hand b w = refl
long_taken s Outside b w = length_set s.out b _

long_given : (s : Lists) (h : Holder) (b : ℕ) (w : ValueView) → length (given s h b w).out ≡ length s.out
long_given s (Purse n) b w = refl
long_given s (Payment n) b w = refl
long_given s (Slot v j) b w = refl
long_given s Hand b w = refl
long_given s Outside b w = length_set s.out b _

long_moved : (s : Lists) (m : Movement) → length (moved s m).out ≡ length s.out
long_moved s m = long_given (taken s m.from m.brand m.value) m.to m.brand m.value ∙ long_taken s m.from m.brand m.value

pub brands_alike : (p q : Stores) → length (lists_of q).out ≡ length (lists_of p).out → length q.transit.out ≡ length p.transit.out
brands_alike p q same = omega (arith, same, brands_there p, brands_there q)

pub same_given : (p q : Stores) → given_up_in q ≡ given_up_in p → length (lists_of q).out ≡ length (lists_of p).out → given_list q ≡ given_list p
same_given p q same long = λ i. by_number (brands_alike p q long i) (λ b. same_store p q same b i)

pub given_long : (p : Stores) → length (given_list p) ≡ length (lists_of p).out
given_long p = length_numbered (length p.transit.out) (store_of p) ∙ sym (brands_there p)

-- ---- beginning and end

-- where nothing is kept of the brands that were made, nothing is of any
none_kept : (l : List CirculationView) → ((b : ℕ) → b < length l → (circulation_at l b).kept ≡ nothing) → (b : ℕ) → (circulation_at l b).kept ≡ nothing
none_kept [] none b = refl
none_kept (x ∷ l) none zero = none 0 (omega arith)
none_kept (x ∷ l) none (suc b) = none_kept l (λ e lt. none (suc e) (omega (arith, lt))) b

pub begins : (p : Stores) (ks : List Undo) (ms : List Movement) → IsVault p ks ms → IsDraft p ks ms 0 false
begins p ks ms is = subst (λ (l : List Undo). IsDraft p l ms 0 false) (sym is.no_steps) (subst (λ (l : List Movement). IsDraft p [] l 0 false) (sym is.no_movements) (record {
  can = refl;
  bounded = λ b. no_keys (kind_of (lists_of p) b);
  room = λ b lt. room_for_none (kind_of (lists_of p) b) ((rooms_of p).hand b);
  retired = none_kept p.transit.out is.kept;
  valid = record {
    sound = is.sound;
    agrees = table_agrees (lists_of p);
    moves = tt;
    was_sound = is.sound;
    brands = given_long p;
    given = λ b. has_none nothing _ (none_given p is.empty b);
  };
}))

pub kept_start : (p : Stores) (ks : List Undo) (ms : List Movement) → IsVault p ks ms → all_back (lists_of p) (reverse ks) (reverse ms) ≡ lists_of p
kept_start p ks ms is = ap (λ (l : List Undo). all_back (lists_of p) (reverse l) (reverse ms)) is.no_steps

-- the draft with which a turn begins
pub begins_so : (p : Stores) (ks : List Undo) (ms : List Movement) → IsVault p ks ms → draft_of p ks ms false ≡ begun (lists_of p)
begins_so p ks ms is = λ i. record {
  kept = kept_start p ks ms is i;
  now = lists_of p;
  staging = is.no_staging i;
  movements = is.no_movements i;
  given_up = (none_listed p is.empty ∙ ap (λ n. by_number n (λ b. nothing)) (sym (brands_there p))) i;
  is_spoiled = false;
}

pub starts : (p : Stores) (ks : List Undo) (ms : List Movement) (keys : ℕ) (spoiled : Bool) → IsDraft p ks ms keys spoiled → HandGoes (draft_of p ks ms spoiled)
    → IsWorking (rooms_of p) (all_back (lists_of p) (reverse ks) (reverse ms)) p (reverse ks) (reverse ms)
starts p ks ms keys spoiled is goes = record {
  kept_is = refl;
  can = is.can;
  rooms = record { purses = λ n lt. omega arith; slots = λ n k has. omega arith; capacity = omega arith; hand = λ b lt. omega arith };
  retired = λ b lt. is.retired b;
  hand = λ b lt. sym (given_there p b lt) ∙ goes.each b (omega (arith, lt, brands_there p));
}

pub no_items : {X : Type 0} (xs : List X) → length xs ≡ 0 → xs ≡ []
no_items [] e = refl
no_items (x ∷ xs) e = absurd (omega arith)

pub none_reversed : {X : Type 0} (xs : List X) → reverse xs ≡ [] → xs ≡ []
none_reversed xs is = no_items xs (omega (arith, length-reverse xs, ap length is))

pub ended : (R : Rooms) (kept : Lists) (p q : Stores) (ks : List Undo) (ms : List Movement) → IsSound kept no_hand → ks ≡ [] → IsWorking R kept p (reverse ks) (reverse ms) → lists_of q ≡ lists_of p → staged_of q ≡ [] → q.transit ≡ p.transit → (lists_of q ≡ kept) × IsVault q ks ms
ended R kept p q ks ms sound none is lists staging transit =
    let at_end : IsWorking R kept p [] (reverse ms) = subst (λ (l : List Undo). IsWorking R kept p (reverse l) (reverse ms)) none is in
    let no_more : ms ≡ [] = none_reversed ms at_end.can in
    let there : (b : ℕ) → b < length q.transit.out → b < length p.transit.out = λ b lt. omega (arith, lt, ap (λ (t : TransitView). length t.out) transit) in (
      lists ∙ at_end.kept_is,
      record {
        no_steps = none;
        no_movements = no_more;
        no_staging = staging;
        empty = λ b lt. ap (λ (t : TransitView). in_store t b) transit ∙ at_end.hand b (there b lt) ∙ ap (λ (l : List Movement). in_hand l b) at_end.can;
        kept = λ b lt. ap (λ (t : TransitView). (circulation_at t.out b).kept) transit ∙ at_end.retired b (there b lt) ∙ ap (λ (l : List Movement). retired_by l b) at_end.can;
        sound = subst (λ (s : Lists). IsSound s no_hand) (sym (lists ∙ at_end.kept_is)) sound;
      },
    )

-- what is done to forget starts and ends
brands_made : (R : Rooms) (s : Lists) (ks : List Undo) (ms : List Movement) (n : ℕ) → length s.out ≤ n → CanAllBack R s ks ms → AreMade n ms
brands_made R s [] ms n le can = subst (AreMade n) (sym can) tt
brands_made R s (Moves ∷ ks) [] n le can = absurd can
brands_made R s (Moves ∷ ks) (m ∷ ms) n le can = (omega (arith, le, can.0.made), brands_made R (back s m) ks ms n (omega (arith, le, back_long s m)) can.1)
  where
    ungiven_long : (x : Lists) (h : Holder) (b : ℕ) (w : ValueView) → length (ungiven x h b w).out ≡ length x.out
    ungiven_long x (Purse n) b w = refl
    ungiven_long x (Payment n) b w = refl
    ungiven_long x (Slot v j) b w = refl
    ungiven_long x Hand b w = refl
    ungiven_long x Outside b w = length_set x.out b _

    untaken_long : (x : Lists) (h : Holder) (b : ℕ) (w : ValueView) → length (untaken x h b w).out ≡ length x.out
    untaken_long x (Purse n) b w = refl
    untaken_long x (Payment n) b w = refl
    untaken_long x (Slot v j) b w = refl
    untaken_long x Hand b w = refl
    untaken_long x Outside b w = length_set x.out b _

    back_long : (x : Lists) (m : Movement) → length (back x m).out ≡ length x.out
    back_long x m = untaken_long (ungiven x m.to m.brand m.value) m.from m.brand m.value ∙ ungiven_long x m.to m.brand m.value
brands_made R s (OpensPurse ∷ ks) ms n le can = brands_made R (without_last_purse s) ks ms n le can.1
brands_made R s (OpensSeat ∷ ks) ms n le can = brands_made R (without_last_seat s) ks ms n le can.1
brands_made R s (OpensSlot v ∷ ks) ms n le can = brands_made R (without_last_slot_of v s) ks ms n le can.1
brands_made R s (ClosesSeat v ∷ ks) ms n le can = brands_made R (with_reopened_seat v s) ks ms n le can.1
brands_made R s (AddsBrand ∷ ks) ms n le can = brands_made R (without_last_brand s) ks ms n (omega (arith, le, taken_short s.out (length s.out - 1))) can.1
  where
    taken_short : {X : Type 0} (xs : List X) (n : ℕ) → length (take n xs) ≤ length xs
    taken_short [] zero = omega arith
    taken_short [] (suc n) = omega arith
    taken_short (x ∷ xs) zero = omega arith
    taken_short (x ∷ xs) (suc n) = omega (arith, taken_short xs n)

pub forget_starts : (p : Stores) (ks : List Undo) (ms : List Movement) (keys : ℕ) (spoiled : Bool) → IsDraft p ks ms keys spoiled → IsForgetting p p (reverse ms)
forget_starts p ks ms keys spoiled is = record {
  lists = refl;
  staging = refl;
  given_up = refl;
  made = brands_made (rooms_of p) (lists_of p) (reverse ks) (reverse ms) (length p.transit.out) (omega (arith, brands_there p)) is.can;
  kept = is.retired;
}

pub forget_ends : (p q : Stores) (ms : List Movement) → ms ≡ [] → IsForgetting p q (reverse ms) → IsForgotten p q
forget_ends p q ms none is = record { lists = is.lists; staging = is.staging; given_up = is.given_up; kept = λ b. is.kept b ∙ ap (λ (l : List Movement). retired_by (reverse l) b) none }

-- what is within nothing is nothing
pub none_within : (x y : Content) → x ≡ nothing → Contains x y → y ≡ nothing
none_within x y none has = same_content y nothing (λ k. omega (arith, has.each k, ap (λ c. count c k) none, count-nothing k))

pub committed : (p q r : Stores) (ks ls : List Undo) (ms ns : List Movement) (keys : ℕ) (spoiled : Bool) → IsDraft p ks ms keys spoiled → IsForgotten p q → lists_of r ≡ lists_of q → staged_of r ≡ [] → r.transit ≡ q.transit → ls ≡ [] → ns ≡ [] → IsClean (draft_of p ks ms spoiled) → IsVault r ls ns
committed p q r ks ls ms ns keys spoiled is gone lists staging transit no_steps no_movements clean =
    let there : (b : ℕ) → b < length r.transit.out → b < length p.transit.out = λ b lt. omega (arith, lt, ap (λ (t : TransitView). length t.out) transit, brands_there p, brands_there q, ap (λ (s : Lists). length s.out) gone.lists) in
    record {
      no_steps = no_steps;
      no_movements = no_movements;
      no_staging = staging;
      empty = λ b lt. ap (λ (t : TransitView). in_store t b) transit ∙ same_store p q gone.given_up b ∙ sym (given_there p b (there b lt)) ∙ none_within (in_hand (reverse ms) b) _ (clean.hand b) (is.valid.given b);
      kept = λ b lt. ap (λ (t : TransitView). (circulation_at t.out b).kept) transit ∙ gone.kept b;
      sound = subst (λ (s : Lists). IsSound s no_hand) (sym (lists ∙ gone.lists)) (sound_alike (lists_of p) (in_hand (reverse ms)) no_hand clean.hand is.valid.sound);
    }

pub committed_table : (p q r : Stores) (ks : List Undo) (ms : List Movement) (keys : ℕ) (spoiled : Bool) → IsDraft p ks ms keys spoiled → IsForgotten p q → lists_of r ≡ lists_of q → IsClean (draft_of p ks ms spoiled) → table_of (lists_of r) ≡ table_now (draft_of p ks ms spoiled)
committed_table p q r ks ms keys spoiled is gone lists clean =
    ap table_of (lists ∙ gone.lists) ∙ one_table (lists_of p) no_hand _ _ (table_agrees (lists_of p)) (agrees_alike (lists_of p) (in_hand (reverse ms)) no_hand _ clean.hand is.valid.agrees)

-- ---- room alone is made

pub same_draft : (p q : Stores) (ks : List Undo) (ms : List Movement) (spoiled : Bool) → IsRoomed p q → draft_of q ks ms spoiled ≡ draft_of p ks ms spoiled
same_draft p q ks ms spoiled roomed = λ i. record { kept = all_back (roomed.lists i) (reverse ks) (reverse ms); now = roomed.lists i; staging = roomed.staging i; movements = ms; given_up = same_given p q roomed.given_up (ap (λ (s : Lists). length s.out) roomed.lists) i; is_spoiled = spoiled }

pub room_stays : (p q : Stores) (ks : List Undo) (ms : List Movement) (keys : ℕ) (spoiled : Bool) → IsDraft p ks ms keys spoiled → IsRoomed p q → IsDraft q ks ms keys spoiled
room_stays p q ks ms keys spoiled is roomed = record {
  can = subst (λ (s : Lists). CanAllBack (rooms_of q) s (reverse ks) (reverse ms)) (sym roomed.lists) (all_grows (rooms_of p) (rooms_of q) roomed.rooms (lists_of p) (reverse ks) (reverse ms) is.can);
  bounded = λ b. subst (λ (s : Lists). keys_in (kind_of s b) (in_hand (reverse ms) b) ≤ keys) (sym roomed.lists) (is.bounded b);
  room = λ b lt. subst (λ (s : Lists). HasRoom (kind_of s b) (keys_of (in_hand (reverse ms) b)) ((rooms_of q).hand b)) (sym roomed.lists)
      (more_room (kind_of (lists_of p) b) (keys_of (in_hand (reverse ms) b)) ((rooms_of p).hand b) ((rooms_of q).hand b) (roomed.rooms.hand b) (is.room b (before b lt)));
  retired = λ b. roomed.kept b ∙ is.retired b;
  valid = subst IsValid (sym (same_draft p q ks ms spoiled roomed)) is.valid;
}
  where
    before : (b : ℕ) → b < length q.transit.out → b < length p.transit.out
    before b lt = omega (arith, lt, brands_there p, brands_there q, ap (λ (s : Lists). length s.out) roomed.lists)

-- ---- any movement that can be worked backwards

pub last_first : {X : Type 0} (xs : List X) (x : X) → reverse (xs ++ x ∷ []) ≡ x ∷ reverse xs
last_first xs x = reverse-append xs (x ∷ [])

module _ (p q : Stores) (ks : List Undo) (ms : List Movement) (m : Movement) (keys more : ℕ) (k : ℕ → Content) (is : IsDraft p ks ms keys false)
    (step : IsForward p q (moved (lists_of p) m) (staged_of p) k) (undone : back (moved (lists_of p) m) m ≡ lists_of p) where
  back_there : back (lists_of q) m ≡ lists_of p
  back_there = ap (λ (s : Lists). back s m) step.lists ∙ undone

  kept_after : all_back (lists_of q) (reverse (ks ++ Moves ∷ [])) (reverse (ms ++ m ∷ [])) ≡ all_back (lists_of p) (reverse ks) (reverse ms)
  kept_after =
      (λ i. all_back (lists_of q) (last_first ks Moves i) (last_first ms m i))
      ∙ ap (λ (s : Lists). all_back s (reverse ks) (reverse ms)) back_there

  table_then : table_now (draft_of q (ks ++ Moves ∷ []) (ms ++ m ∷ []) false) ≡ table.moved (table_now (draft_of p ks ms false)) m
  table_then = ap (λ (s : Lists). table_after (table_of s) (ms ++ m ∷ [])) kept_after ∙ table_after-push (table_of (all_back (lists_of p) (reverse ks) (reverse ms))) ms m

  pub draft_after : draft_of q (ks ++ Moves ∷ []) (ms ++ m ∷ []) false ≡ after (draft_of p ks ms false) m
  draft_after = λ i. record { kept = kept_after i; now = step.lists i; staging = step.staging i; movements = ms ++ m ∷ []; given_up = same_given p q step.given_up (ap (λ (s : Lists). length s.out) step.lists ∙ long_moved (lists_of p) m) i; is_spoiled = false }

  pub pushed : CanBack (rooms_of q) (lists_of q) m (reverse ms)
      → ((b : ℕ) → keys_in (kind_of (lists_of q) b) (in_hand (m ∷ reverse ms) b) ≤ more)
      → ((b : ℕ) → b < length q.transit.out → HasRoom (kind_of (lists_of q) b) (keys_of (in_hand (m ∷ reverse ms) b)) ((rooms_of q).hand b))
      → length q.transit.out ≡ length p.transit.out
      → ((b : ℕ) → k b ≡ retired_by (m ∷ reverse ms) b)
      → IsSound (lists_of q) (in_hand (m ∷ reverse ms))
      → Agrees (lists_of q) (in_hand (m ∷ reverse ms)) (table.moved (table_now (draft_of p ks ms false)) m)
      → CanMove (table_now (draft_of p ks ms false)) m
      → ((b : ℕ) → Contains (in_hand (m ∷ reverse ms) b) (given_at (draft_of p ks ms false) b))
      → IsDraft q (ks ++ Moves ∷ []) (ms ++ m ∷ []) more false
  pushed can bounded room brands retires sound agrees moves inside = record {
    can = subst (λ (l : List Movement). CanAllBack (rooms_of q) (lists_of q) (reverse (ks ++ Moves ∷ [])) l) (sym (last_first ms m))
        (subst (λ (l : List Undo). CanAllBack (rooms_of q) (lists_of q) l (m ∷ reverse ms)) (sym (last_first ks Moves))
        (can, subst (λ (s : Lists). CanAllBack (rooms_of q) s (reverse ks) (reverse ms)) (sym back_there) (all_grows (rooms_of p) (rooms_of q) step.rooms (lists_of p) (reverse ks) (reverse ms) is.can)));
    bounded = λ b. subst (λ (l : List Movement). keys_in (kind_of (lists_of q) b) (in_hand l b) ≤ more) (sym (last_first ms m)) (bounded b);
    room = λ b lt. subst (λ (l : List Movement). HasRoom (kind_of (lists_of q) b) (keys_of (in_hand l b)) ((rooms_of q).hand b)) (sym (last_first ms m)) (room b lt);
    retired = λ b. step.kept b ∙ retires b ∙ ap (λ (l : List Movement). retired_by l b) (sym (last_first ms m));
    valid = record {
      sound = subst (λ (l : List Movement). IsSound (lists_of q) (in_hand l)) (sym (last_first ms m)) sound;
      agrees = subst (λ (l : List Movement). Agrees (lists_of q) (in_hand l) (table_now (draft_of q (ks ++ Moves ∷ []) (ms ++ m ∷ []) false))) (sym (last_first ms m))
          (subst (λ (t : Table). Agrees (lists_of q) (in_hand (m ∷ reverse ms)) t) (sym table_then) agrees);
      moves = subst (λ (s : Lists). CanMoveAll (table_of s) (ms ++ m ∷ [])) (sym kept_after) (CanMoveAll-push (table_of (all_back (lists_of p) (reverse ks) (reverse ms))) ms m is.valid.moves moves);
      was_sound = subst (λ (s : Lists). IsSound s no_hand) (sym kept_after) is.valid.was_sound;
      brands = given_long q;
      given = λ b. subst (λ (l : List Movement). Contains (in_hand l b) (slice_index_or (given_list q) b nothing)) (sym (last_first ms m))
          (subst (λ l. Contains (in_hand (m ∷ reverse ms) b) (slice_index_or l b nothing)) (sym same_list) (inside b));
    };
  }
    where
      same_list : given_list q ≡ given_list p
      same_list = same_given p q step.given_up (ap (λ (s : Lists). length s.out) step.lists ∙ long_moved (lists_of p) m)

-- ---- kinds stay

kind_taken : (s : Lists) (h : Holder) (b : ℕ) (w : ValueView) (e : ℕ) → kind_of (taken s h b w) e ≡ kind_of s e
kind_taken s (Purse n) b w e = refl
kind_taken s (Payment n) b w e = refl
kind_taken s (Slot v j) b w e = refl
kind_taken s Hand b w e = refl
kind_taken s Outside b w e = keeps (λ (x : BrandSupply). x.outstanding.kind) s.out b (issued (supply_at s.out b) w.content) (new_supply Nat) refl e

kind_given : (s : Lists) (h : Holder) (b : ℕ) (w : ValueView) (e : ℕ) → kind_of (given s h b w) e ≡ kind_of s e
kind_given s (Purse n) b w e = refl
kind_given s (Payment n) b w e = refl
kind_given s (Slot v j) b w e = refl
kind_given s Hand b w e = refl
kind_given s Outside b w e = keeps (λ (x : BrandSupply). x.outstanding.kind) s.out b (retired (supply_at s.out b) w.content) (new_supply Nat) refl e

-- ---- what is kept

either_way : (t : Bool) (x : Content) → cond t x x ≡ x
either_way true x = refl
either_way false x = refl

kept_after_give : (b : ℕ) (c : Content) (h : Holder) (S X : ℕ → Content) (e : ℕ) → S e ≡ X e → kept_given S h b c e ≡ cond (b == e) (to_outside h (X e) c) (X e)
kept_after_give b c Outside S X e is = ap (λ x. cond (b == e) (sum x c) x) is
kept_after_give b c (Purse n) S X e is = is ∙ sym (either_way (b == e) (X e))
kept_after_give b c (Payment n) S X e is = is ∙ sym (either_way (b == e) (X e))
kept_after_give b c (Slot v j) S X e is = is ∙ sym (either_way (b == e) (X e))
kept_after_give b c Hand S X e is = is ∙ sym (either_way (b == e) (X e))

-- ---- a take into the hand

-- what was there is there beside what came
still_has : (t : Bool) (x c y : Content) → Contains x y → Contains (cond t (sum x c) x) y
still_has true x c y has = record { each = λ k. omega (arith, has.each k, count-sum x c k) }
still_has false x c y has = has

in_hand_plus : (s : Lists) (h : Holder) (b : ℕ) (w : ValueView) (ms : List Movement) → CanTake s h b w → in_hand (movement b h Hand w ∷ ms) ≡ hand_plus (in_hand ms) b w.content
in_hand_plus s (Purse n) b w ms can = refl
in_hand_plus s (Payment n) b w ms can = refl
in_hand_plus s (Slot v j) b w ms can = refl
in_hand_plus s Hand b w ms can = absurd can
in_hand_plus s Outside b w ms can = refl

no_hand_needed : (s : Lists) (h : Holder) (b : ℕ) (w : ValueView) (x : Content) → CanTake s h b w → HandHas h x w.content
no_hand_needed s (Purse n) b w x can = tt
no_hand_needed s (Payment n) b w x can = tt
no_hand_needed s (Slot v j) b w x can = tt
no_hand_needed s Hand b w x can = absurd can
no_hand_needed s Outside b w x can = tt

not_from_hand : (s : Lists) (h : Holder) (b : ℕ) (w : ValueView) (x : Content) → CanTake s h b w → from_hand h x w.content ≡ x
not_from_hand s (Purse n) b w x can = refl
not_from_hand s (Payment n) b w x can = refl
not_from_hand s (Slot v j) b w x can = refl
not_from_hand s Hand b w x can = absurd can
not_from_hand s Outside b w x can = refl

module _ (p q : Stores) (ks : List Undo) (ms : List Movement) (keys more : ℕ) (from : Holder) (b : ℕ) (w : ValueView) (is : IsDraft p ks ms keys false) (took : IsTaken p q from b w) (can : CanTake (lists_of p) from b w) where
  abbrev h : ℕ → Content
  h = in_hand (reverse ms)

  abbrev m : Movement
  m = movement b from Hand w

  plus : in_hand (m ∷ reverse ms) ≡ hand_plus h b w.content
  plus = in_hand_plus (lists_of p) from b w (reverse ms) can

  pub take_after : draft_of q (ks ++ Moves ∷ []) (ms ++ m ∷ []) false ≡ after (draft_of p ks ms false) m
  take_after = draft_after p q ks ms m keys more (kept_of p) is took.half (untaken-taken (lists_of p) from b w can)

  kind_here : (e : ℕ) → kind_of (lists_of q) e ≡ kind_of (lists_of p) e
  kind_here e = ap (λ (s : Lists). kind_of s e) took.half.lists ∙ kind_taken (lists_of p) from b w e

  brands : length q.transit.out ≡ length p.transit.out
  brands = omega (arith, brands_there p, brands_there q, ap (λ (s : Lists). length s.out) took.half.lists, long_taken (lists_of p) from b w)

  sound_then : IsSound (lists_of q) (hand_plus h b w.content)
  sound_then = subst (λ (s : Lists). IsSound s (hand_plus h b w.content)) (sym took.half.lists) (sound_taken (lists_of p) h b w is.valid.sound from can)

  plus_here : hand_plus h b w.content b ≡ sum (h b) w.content
  plus_here = ap (λ t. cond t (sum (h b) w.content) (h b)) (eq-eqb b b refl)

  module _ (brand : b < length p.transit.out) (kind : kind_of (lists_of p) b ≡ w.kind) (counted : more ≡ keys + keys_in w.kind w.content) (room : HasRoom (kind_of (lists_of p) b) more ((rooms_of q).hand b)) where
    few : (e : ℕ) → keys_in (kind_of (lists_of p) e) (hand_plus h b w.content e) ≤ more
    few e = at_or_else (λ x t. keys_in (kind_of (lists_of p) x) (cond t (sum (h x) w.content) (h x)) ≤ more) b e
        (omega (arith, keys_together (kind_of (lists_of p) b) (h b) w.content, is.bounded b, counted, ap (λ k. keys_in k w.content) kind))
        (λ differs. omega (arith, is.bounded e, counted))

    roomy : (e : ℕ) → e < length q.transit.out → HasRoom (kind_of (lists_of p) e) (keys_of (hand_plus h b w.content e)) ((rooms_of q).hand e)
    roomy e lt = at_or_else (λ x t. x < length p.transit.out → HasRoom (kind_of (lists_of p) x) (keys_of (cond t (sum (h x) w.content) (h x))) ((rooms_of q).hand x)) b e
        (λ made. subst (λ y. HasRoom (kind_of (lists_of p) b) (keys_of y) ((rooms_of q).hand b)) plus_here (room_of_keys (kind_of (lists_of p) b) (hand_plus h b w.content b) more ((rooms_of q).hand b) (few b) room))
        (λ differs made. more_room (kind_of (lists_of p) e) (keys_of (h e)) ((rooms_of p).hand e) ((rooms_of q).hand e) (took.half.rooms.hand e) (is.room e made))
        (omega (arith, lt, brands))

    pub take_keeps : IsDraft q (ks ++ Moves ∷ []) (ms ++ m ∷ []) more false
    take_keeps = pushed p q ks ms m keys more (kept_of p) is took.half (untaken-taken (lists_of p) from b w can)
        (record {
          ungive = tt;
          untake = took.back;
          made = omega (arith, brand, brands, brands_there q);
          kind = kind_here b ∙ kind;
          has = no_hand_needed (lists_of p) from b w (h b) can;
          out = subst (λ x. Contains (supply_at (lists_of q).out b).outstanding.content (sum x w.content)) (sym (not_from_hand (lists_of p) from b w (h b) can))
              (subst (λ x. Contains (supply_at (lists_of q).out b).outstanding.content x) plus_here (hand_is_out (lists_of q) (hand_plus h b w.content) sound_then b));
          room = subst (λ k. HasRoom k (keys_of (h b)) ((rooms_of q).hand b)) kind
              (more_room (kind_of (lists_of p) b) (keys_of (h b)) ((rooms_of p).hand b) ((rooms_of q).hand b) (took.half.rooms.hand b) (is.room b brand));
        })
        (λ e. subst (λ (g : ℕ → Content). keys_in (kind_of (lists_of q) e) (g e) ≤ more) (sym plus) (subst (λ k. keys_in k (hand_plus h b w.content e) ≤ more) (sym (kind_here e)) (few e)))
        (λ e lt. subst (λ (g : ℕ → Content). HasRoom (kind_of (lists_of q) e) (keys_of (g e)) ((rooms_of q).hand e)) (sym plus) (subst (λ k. HasRoom k (keys_of (hand_plus h b w.content e)) ((rooms_of q).hand e)) (sym (kind_here e)) (roomy e lt)))
        brands
        (λ e. is.retired e ∙ sym (either_way (b == e) (retired_by (reverse ms) e)))
        (subst (λ (g : ℕ → Content). IsSound (lists_of q) g) (sym plus) sound_then)
        (subst (λ (g : ℕ → Content). Agrees (lists_of q) g (table.moved (table_now (draft_of p ks ms false)) m)) (sym plus)
        (subst (λ (s : Lists). Agrees s (hand_plus h b w.content) (table.moved (table_now (draft_of p ks ms false)) m)) (sym took.half.lists)
        (agrees_in_hand (taken (lists_of p) from b w) h (table.taken (table_now (draft_of p ks ms false)) from b w.content) b w
        (agrees_taken (lists_of p) h (table_now (draft_of p ks ms false)) b w is.valid.agrees from can))))
        (can_move_in (lists_of p) h (table_now (draft_of p ks ms false)) b w is.valid.agrees from can Hand)
        (λ e. subst (λ (g : ℕ → Content). Contains (g e) (given_at (draft_of p ks ms false) e)) (sym plus) (still_has (b == e) (h e) w.content (given_at (draft_of p ks ms false) e) (is.valid.given e)))

-- ---- a put from the hand

in_hand_minus : (s : Lists) (h : Holder) (b : ℕ) (w : ValueView) (ms : List Movement) → CanGive s h b w → in_hand (movement b Hand h w ∷ ms) ≡ hand_minus (in_hand ms) b w.content
in_hand_minus s (Purse n) b w ms can = refl
in_hand_minus s (Payment n) b w ms can = refl
in_hand_minus s (Slot v j) b w ms can = refl
in_hand_minus s Hand b w ms can = absurd can
in_hand_minus s Outside b w ms can = refl

module _ (p q : Stores) (ks : List Undo) (ms : List Movement) (keys : ℕ) (to : Holder) (b : ℕ) (w : ValueView) (is : IsDraft p ks ms keys false) (gave : IsGiven p q to b w) (can : CanGive (lists_of p) to b w) where
  abbrev g : ℕ → Content
  g = in_hand (reverse ms)

  abbrev n : Movement
  n = movement b Hand to w

  minus : in_hand (n ∷ reverse ms) ≡ hand_minus g b w.content
  minus = in_hand_minus (lists_of p) to b w (reverse ms) can

  undone_put : back (moved (lists_of p) n) n ≡ lists_of p
  undone_put = ungiven-given (lists_of p) to b w can

  pub put_after : draft_of q (ks ++ Moves ∷ []) (ms ++ n ∷ []) false ≡ after (draft_of p ks ms false) n
  put_after = draft_after p q ks ms n keys keys (kept_given (kept_of p) to b w.content) is gave.half undone_put

  kind_there : (e : ℕ) → kind_of (lists_of q) e ≡ kind_of (lists_of p) e
  kind_there e = ap (λ (s : Lists). kind_of s e) gave.half.lists ∙ kind_given (lists_of p) to b w e

  brands_same : length q.transit.out ≡ length p.transit.out
  brands_same = omega (arith, brands_there p, brands_there q, ap (λ (s : Lists). length s.out) gave.half.lists, long_given (lists_of p) to b w)

  less_at : (e : ℕ) → Contains (g e) (hand_minus g b w.content e)
  less_at e = elim (b == e) as (λ t. Contains (g e) (cond t (difference (g e) w.content) (g e))) [
    | true ↦ less_has (g e) w.content
    | false ↦ record { each = λ k. omega arith }
  ]

  module _ (brand : b < length p.transit.out) (kind : kind_of (lists_of p) b ≡ w.kind) (keep : Contains (g b) (sum (given_at (draft_of p ks ms false) b) w.content)) where
    has : Contains (g b) w.content
    has = record { each = λ k. omega (arith, keep.each k, count-sum (given_at (draft_of p ks ms false) b) w.content k) }

    inside : (e : ℕ) → Contains (hand_minus g b w.content e) (given_at (draft_of p ks ms false) e)
    inside e = at_or_else (λ x t. Contains (cond t (difference (g x) w.content) (g x)) (given_at (draft_of p ks ms false) x)) b e
        (record { each = λ k. omega (arith, keep.each k, count-sum (given_at (draft_of p ks ms false) b) w.content k, count-difference (g b) w.content k) })
        (λ differs. is.valid.given e)

    pub put_keeps : IsDraft q (ks ++ Moves ∷ []) (ms ++ n ∷ []) keys false
    put_keeps = pushed p q ks ms n keys keys (kept_given (kept_of p) to b w.content) is gave.half undone_put
        (record {
          ungive = gave.back;
          untake = tt;
          made = omega (arith, brand, brands_same, brands_there q);
          kind = kind_there b ∙ kind;
          has = has;
          out = subst (λ (s : Lists). Contains (supply_at s.out b).outstanding.content (sum (difference (g b) w.content) w.content)) (sym (ap (λ (s : Lists). ungiven s to b w) gave.half.lists ∙ ungiven-given (lists_of p) to b w can))
              (subst (λ x. Contains (supply_at (lists_of p).out b).outstanding.content x) (sym (sum-difference (g b) w.content has)) (hand_is_out (lists_of p) g is.valid.sound b));
          room = subst (λ k. HasRoom k (keys_of (g b)) ((rooms_of q).hand b)) kind
              (more_room (kind_of (lists_of p) b) (keys_of (g b)) ((rooms_of p).hand b) ((rooms_of q).hand b) (gave.half.rooms.hand b) (is.room b brand));
        })
        (λ e. subst (λ (x : ℕ → Content). keys_in (kind_of (lists_of q) e) (x e) ≤ keys) (sym minus) (subst (λ k. keys_in k (hand_minus g b w.content e) ≤ keys) (sym (kind_there e))
        (omega (arith, fewer_keys (kind_of (lists_of p) e) (g e) (hand_minus g b w.content e) (less_at e), is.bounded e))))
        (λ e lt. subst (λ (x : ℕ → Content). HasRoom (kind_of (lists_of q) e) (keys_of (x e)) ((rooms_of q).hand e)) (sym minus) (subst (λ k. HasRoom k (keys_of (hand_minus g b w.content e)) ((rooms_of q).hand e)) (sym (kind_there e))
        (room_for_fewer (kind_of (lists_of p) e) (keys_of (hand_minus g b w.content e)) (keys_of (g e)) ((rooms_of q).hand e) (keys_within (g e) (hand_minus g b w.content e) (less_at e))
        (more_room (kind_of (lists_of p) e) (keys_of (g e)) ((rooms_of p).hand e) ((rooms_of q).hand e) (gave.half.rooms.hand e) (is.room e (omega (arith, lt, brands_same)))))))
        brands_same
        (λ e. kept_after_give b w.content to (kept_of p) (retired_by (reverse ms)) e (is.retired e))
        (subst (λ (x : ℕ → Content). IsSound (lists_of q) x) (sym minus) (subst (λ (s : Lists). IsSound s (hand_minus g b w.content)) (sym gave.half.lists) (sound_given (lists_of p) g b w is.valid.sound to can has)))
        (subst (λ (x : ℕ → Content). Agrees (lists_of q) x (table.moved (table_now (draft_of p ks ms false)) n)) (sym minus)
        (subst (λ (s : Lists). Agrees s (hand_minus g b w.content) (table.moved (table_now (draft_of p ks ms false)) n)) (sym gave.half.lists)
        (agrees_given (lists_of p) (hand_minus g b w.content) (table.taken (table_now (draft_of p ks ms false)) Hand b w.content) b w
        (agrees_from_hand (lists_of p) g (table_now (draft_of p ks ms false)) b w is.valid.agrees) to can)))
        (can_move_out (lists_of p) g (table_now (draft_of p ks ms false)) b w is.valid.agrees has to)
        (λ e. subst (λ (x : ℕ → Content). Contains (x e) (given_at (draft_of p ks ms false) e)) (sym minus) (inside e))

-- ---- the hand's own store, which takes a parcel in and lets a value go

module _ (p : Stores) (ks : List Undo) (ms : List Movement) (keys : ℕ) (spoiled now_spoiled : Bool) (is : IsDraft p ks ms keys spoiled) (b : ℕ) (there : b < length p.transit.out) (x : Held) (roomy : x.room ≡ (held_at p.transit.hand b).room)
    (within : Contains (in_hand (reverse ms) b) x.value.content) (t : TransitView) (new : t ≡ with_hand p.transit b x) (inside : b < length p.transit.hand) where
  abbrev q : Stores
  q = record p { transit = t }

  lists_same : lists_of q ≡ lists_of p
  lists_same = ap (λ (u : TransitView). lists_of (record p { transit = u })) new

  hand_rooms : (e : ℕ) → (held_at t.hand e).room ≡ (held_at p.transit.hand e).room
  hand_rooms e = ap (λ (u : TransitView). (held_at u.hand e).room) new ∙ keeps (λ (h : Held). h.room) p.transit.hand b x (empty_hand Nat) roomy e

  out_same : t.out ≡ p.transit.out
  out_same = ap (λ (u : TransitView). u.out) new

  store_here : store_of q b ≡ x.value.content
  store_here =
      ap (λ (u : TransitView). in_store u b) new
      ∙ ap (λ (h : Held). h.value.content) (read_set p.transit.hand b x (empty_hand Nat) inside)

  store_other : (e : ℕ) → b ≢ e → store_of q e ≡ store_of p e
  store_other e apart =
      ap (λ (u : TransitView). in_store u e) new
      ∙ ap (λ (h : Held). h.value.content) (read_other p.transit.hand b e x (empty_hand Nat) apart)

  listed : given_list q ≡ slice_set (given_list p) b x.value.content
  listed =
      ap (λ n. by_number n (store_of q)) (ap length out_same)
      ∙ sym (numbered_set (length p.transit.out) (store_of p) (store_of q) b x.value.content there store_here store_other)

  pub restored_after : draft_of q ks ms now_spoiled ≡ record (draft_of p ks ms spoiled) { given_up = slice_set (given_list p) b x.value.content; is_spoiled = now_spoiled }
  restored_after = λ i. record { kept = all_back (lists_same i) (reverse ks) (reverse ms); now = lists_same i; staging = staged_of p; movements = ms; given_up = listed i; is_spoiled = now_spoiled }

  given_inside : (e : ℕ) → Contains (in_hand (reverse ms) e) (slice_index_or (given_list q) e nothing)
  given_inside e = subst (λ l. Contains (in_hand (reverse ms) e) (slice_index_or l e nothing)) (sym listed) (elim (cases_eq b e) [
    | inl at ↦ subst (λ n. Contains (in_hand (reverse ms) n) (slice_index_or (slice_set (given_list p) b x.value.content) n nothing)) at
        (subst (λ c. Contains (in_hand (reverse ms) b) c) (sym (read_set (given_list p) b x.value.content nothing (omega (arith, there, length_numbered (length p.transit.out) (store_of p))))) within)
    | inr apart ↦ subst (λ c. Contains (in_hand (reverse ms) e) c) (sym (read_other (given_list p) b e x.value.content nothing apart)) (is.valid.given e)
  ])

  pub restored_keeps : IsDraft q ks ms keys now_spoiled
  restored_keeps = record {
    can = subst (λ (s : Lists). CanAllBack (rooms_of q) s (reverse ks) (reverse ms)) (sym lists_same) (all_grows (rooms_of p) (rooms_of q) (record {
      purses = λ n. omega arith;
      slots = λ n k. omega arith;
      capacity = omega arith;
      hand = λ e. omega (arith, hand_rooms e);
    }) (lists_of p) (reverse ks) (reverse ms) is.can);
    bounded = λ e. subst (λ (s : Lists). keys_in (kind_of s e) (in_hand (reverse ms) e) ≤ keys) (sym lists_same) (is.bounded e);
    room = λ e lt. subst (λ (s : Lists). HasRoom (kind_of s e) (keys_of (in_hand (reverse ms) e)) ((rooms_of q).hand e)) (sym lists_same)
        (subst (λ r. HasRoom (kind_of (lists_of p) e) (keys_of (in_hand (reverse ms) e)) r) (sym (hand_rooms e)) (is.room e (omega (arith, lt, ap length out_same))));
    retired = λ e. ap (λ l. (circulation_at l e).kept) out_same ∙ is.retired e;
    valid = subst (λ (s : Lists). IsValid (record { kept = all_back s (reverse ks) (reverse ms); now = s; staging = staged_of p; movements = ms; given_up = given_list q; is_spoiled = now_spoiled })) (sym lists_same)
        (record {
          sound = is.valid.sound;
          agrees = is.valid.agrees;
          moves = is.valid.moves;
          was_sound = is.valid.was_sound;
          brands = given_long q ∙ ap (λ (s : Lists). length s.out) lists_same;
          given = given_inside;
        });
  }

-- ---- a parcel that is held there

module _ (p : Stores) (ks : List Undo) (ms : List Movement) (keys : ℕ) (spoiled : Bool) (a : Amount) (is : IsDraft p ks ms keys spoiled) (keep : HandKeeps (draft_of p ks ms spoiled) a) where
  there : a.brand < length p.transit.out
  there = omega (arith, keep.brand.made, brands_there p)

  -- with what is there it is in the hand
  among : Contains (in_hand (reverse ms) a.brand) (sum (store_of p a.brand) a.value.content)
  among = subst (λ x. Contains (in_hand (reverse ms) a.brand) (sum x a.value.content)) (given_there p a.brand there) keep.has

  pub can_hold : CanHold p.transit a
  can_hold = record {
    way = record {
      made = there;
      kind = ap (λ (x : BrandSupply). x.outstanding.kind) (sym (supply_read p.transit.out a.brand)) ∙ keep.brand.kind;
      has = subst (λ (x : BrandSupply). Contains x.outstanding.content (sum (store_of p a.brand) a.value.content)) (supply_read p.transit.out a.brand)
          (Contains-trans (supply_at (lists_of p).out a.brand).outstanding.content (in_hand (reverse ms) a.brand) (sum (store_of p a.brand) a.value.content) (hand_is_out (lists_of p) (in_hand (reverse ms)) is.valid.sound a.brand) among);
    };
    room = subst (λ k. HasRoom k (keys_of (sum (store_of p a.brand) a.value.content)) ((rooms_of p).hand a.brand)) keep.brand.kind
        (room_for_fewer (kind_of (lists_of p) a.brand) (keys_of (sum (store_of p a.brand) a.value.content)) (keys_of (in_hand (reverse ms) a.brand)) ((rooms_of p).hand a.brand) (keys_within (in_hand (reverse ms) a.brand) (sum (store_of p a.brand) a.value.content) among) (is.room a.brand there));
  }

  abbrev fuller : Held
  fuller = with_more (held_at p.transit.hand a.brand) a.value.content

  module _ (t : TransitView) (held : t ≡ with_hand p.transit a.brand fuller) (inside : a.brand < length p.transit.hand) where
    more_is : fuller.value.content ≡ sum (slice_index_or (given_list p) a.brand nothing) a.value.content
    more_is = ap (λ x. sum x a.value.content) (sym (given_there p a.brand there))

    abbrev with_this : Bool → Content → DraftState
    with_this now x = record (draft_of p ks ms spoiled) { given_up = slice_set (given_list p) a.brand x; is_spoiled = now }

    pub up_after : draft_of (record p { transit = t }) ks ms true ≡ given_up_too (draft_of p ks ms spoiled) a
    up_after = restored_after p ks ms keys spoiled true is a.brand there fuller refl among t held inside ∙ ap (with_this true) more_is

    pub up_keeps : IsDraft (record p { transit = t }) ks ms keys true
    up_keeps = restored_keeps p ks ms keys spoiled true is a.brand there fuller refl among t held inside

    pub held_after : draft_of (record p { transit = t }) ks ms spoiled ≡ held_too (draft_of p ks ms spoiled) a
    held_after = restored_after p ks ms keys spoiled spoiled is a.brand there fuller refl among t held inside ∙ ap (with_this spoiled) more_is

    pub held_keeps : IsDraft (record p { transit = t }) ks ms keys spoiled
    held_keeps = restored_keeps p ks ms keys spoiled spoiled is a.brand there fuller refl among t held inside

-- ---- a value that is let go from there

module _ (p : Stores) (ks : List Undo) (ms : List Movement) (keys : ℕ) (spoiled : Bool) (b : ℕ) (w : ValueView) (is : IsDraft p ks ms keys spoiled) (stored : IsStored (draft_of p ks ms spoiled) b w) where
  here : b < length p.transit.out
  here = omega (arith, stored.brand.made, brands_there p)

  pub can_let_go : IsInStore p.transit b w
  can_let_go = record {
    made = here;
    kind = ap (λ (x : BrandSupply). x.outstanding.kind) (sym (supply_read p.transit.out b)) ∙ stored.brand.kind;
    has = subst (λ x. Contains x w.content) (given_there p b here) stored.has;
  }

  abbrev emptier : Held
  emptier = with_less (held_at p.transit.hand b) w.content

  module _ (t : TransitView) (less : t ≡ with_hand p.transit b emptier) (inside : b < length p.transit.hand) where
    within : Contains (in_hand (reverse ms) b) emptier.value.content
    within = Contains-trans (in_hand (reverse ms) b) (store_of p b) emptier.value.content
        (subst (λ x. Contains (in_hand (reverse ms) b) x) (given_there p b here) (is.valid.given b))
        (less_has (store_of p b) w.content)

    pub let_after : draft_of (record p { transit = t }) ks ms spoiled ≡ let_out (draft_of p ks ms spoiled) b w
    let_after = restored_after p ks ms keys spoiled spoiled is b here emptier refl within t less inside
        ∙ ap (λ x. record (draft_of p ks ms spoiled) { given_up = slice_set (given_list p) b (difference x w.content) }) (sym (given_there p b here))

    pub let_keeps : IsDraft (record p { transit = t }) ks ms keys spoiled
    let_keeps = restored_keeps p ks ms keys spoiled spoiled is b here emptier refl within t less inside

-- ---- a vault in which nothing was made

pub nothing_made : (p : Stores) (ks : List Undo) (ms : List Movement) → lists_of p ≡ no_lists → staged_of p ≡ [] → p.transit.out ≡ [] → ks ≡ [] → ms ≡ [] → IsVault p ks ms
nothing_made p ks ms lists staging out steps movements = record {
  no_steps = steps;
  no_movements = movements;
  no_staging = staging;
  empty = λ b lt. absurd (none b lt);
  kept = λ b lt. absurd (none b lt);
  sound = subst (λ (s : Lists). IsSound s no_hand) (sym lists) (record { balanced = λ b k. omega arith; owed = refl });
}
  where
    none : (b : ℕ) → b < length p.transit.out → ⊥
    none b lt = omega (arith, lt, ap length out)

-- ---- keys counted anew, where the hand has nothing

pub counted_anew : (p : Stores) (ks : List Undo) (ms : List Movement) (keys : ℕ) (spoiled : Bool) → IsDraft p ks ms keys spoiled → IsClean (draft_of p ks ms spoiled) → IsDraft p ks ms 0 spoiled
counted_anew p ks ms keys spoiled is clean = record {
  can = is.can;
  bounded = λ b. subst (λ (x : Content). keys_in (kind_of (lists_of p) b) x ≤ 0) (sym (clean.hand b)) (no_keys (kind_of (lists_of p) b));
  room = is.room;
  retired = is.retired;
  valid = is.valid;
}
