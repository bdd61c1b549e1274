-- How the payments are kept: a live one in the slab, with its number, under the key that is listed for it.
use Rattle.std.specs.Prelude.{◌≡◌, ℕ, ◌+◌, ◌≤◌, ◌==◌, List, [], ◌∷◌, Option, None, Some, cond, count_by, length, map, slice_get}
use Rattle.ertp_mint.specs.amount_math.ValueView.{ValueView}
use Rattle.ertp_mint.specs.Stocks.{most_made}
use Rattle.slab.specs.Slab.{Slab, get, slab_len}
use Rattle.holders.specs.PaymentViews.{PaymentView, PaymentBook, is_live}
use Rattle.holders.specs.declared.payments.Entry.{Entry}
use Rattle.holders.specs.declared.payments.Listed.{Listed}

-- what payment n holds, where that is the entry under its key
abbrev pub held_by : ℕ → Option Entry → Option ValueView
held_by n None = None
held_by n (Some e) = cond (e.number == n) (Some e.balance.amount.value) None

abbrev pub payment_view_of : Slab Entry → ℕ → Listed → PaymentView
payment_view_of live n l = record { brand = l.brand; held = held_by n (get live l.key) }

-- the payments from n on
abbrev pub payment_views_from : ℕ → Slab Entry → List Listed → List PaymentView
payment_views_from n live [] = []
payment_views_from n live (l ∷ ls) = payment_view_of live n l ∷ payment_views_from (n + 1) live ls

abbrev pub keys_of : List Listed → List ℕ
keys_of ls = map (λ l. l.key) ls

abbrev pub book_of : Slab Entry → List Listed → ℕ → PaymentBook
book_of live ls slots = record {
  views = payment_views_from 0 live ls;
  slots = slots;
  keys = keys_of ls;
  next_key = live.vacant_key;
  capacity = live.capacity;
}

-- Each entry is that of the payment with its number, of that brand and listed under that key; and they are
-- as many as live payments.
pub record AreKept (live : Slab Entry) (listed : List Listed) : Type 0 where
  pub entries : (key : ℕ) (e : Entry) → get live key ≡ Some e → slice_get listed e.number ≡ Some (record { brand = e.balance.amount.brand; key = key })
  pub counted : slab_len live ≡ count_by is_live (payment_views_from 0 live listed)

-- The payments are kept, and with the open slots they are not too many.
pub record IsBook (live : Slab Entry) (listed : List Listed) (slots : ℕ) : Type 0 where
  pub kept : AreKept live listed
  pub few : length listed + slots ≤ most_made
