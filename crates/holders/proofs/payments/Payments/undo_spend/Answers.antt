use Rattle.std.proofs.Common.{◌≡◌, ◌+◌, ◌<◌, ℕ, arith, ap, length, refl, sym, ◌∙◌, subst, Some, None}
use Rattle.std.specs.Prelude.{slice_get, slice_set}
use Rattle.std.proofs.lemmas.List.{length-set}
use Rattle.std.proofs.lemmas.Option.{slice_get-get_or}
use Rattle.ertp_mint.specs.amount_math.declared.Amount.{Amount}
use Rattle.holders.specs.PaymentViews.{PaymentView, live_payment, payment_view_at}
use Rattle.holders.specs.Kept.{keys_of, payment_views_from}
use Rattle.holders.specs.declared.payments.Entry.{Entry}
use Rattle.holders.specs.declared.payments.Listed.{Listed}
use Rattle.holders.proofs.Books.{keys_set, payment_views_long, spent_brand, unspent_kept, unspent_payments}
use Rattle.holders.proofs.payments.Payments.undo_spend.Goals as goal

pub index_mut-requires : goal.index_mut-requires
index_mut-requires c =
    let made = rw (← c.self.view_is) at c.requires.made in
    omega (arith, made, payment_views_long 0 c.self.inside.live c.self.inside.listed.items)

pub invariant_of-self : goal.invariant_of-self
invariant_of-self c =
    let n = c.args.payment in
    let live = c.self.inside.live in
    let after = c.insert_reserved-key.new.self in
    let ls = c.self.inside.listed.items in
    let key = c.insert_reserved-key.result in
    let x = c.index_mut.result.now in
    let e : Entry = record { number = n; balance = c.of-balance.result } in
    let made = rw (← c.self.view_is) at c.requires.made in
    let spent = rw (← c.self.view_is) at c.requires.spent in
    let within : n < length ls = omega (arith, made, payment_views_long 0 live ls) in
    let there : slice_get ls n ≡ Some x = slice_get-get_or ls n x within ∙ ap (λ l. Some l) (sym c.index_mut.ensures.value) in
    let brand : x.brand ≡ e.balance.amount.brand = spent_brand n c.args.parcel.brand live ls x there spent ∙ sym (ap (λ (a : Amount). a.brand) c.of-balance.ensures) in
    let none : (payment_view_at (payment_views_from 0 live ls) n).held ≡ None = ap (λ (p : PaymentView). p.held) spent in
    let again : Listed = record { brand = x.brand; key = key } in
    record {
      kept = unspent_kept live after ls n key x.brand e c.self.invariant.kept within brand none c.insert_reserved-key.ensures.was_vacant refl c.insert_reserved-key.ensures.updates c.insert_reserved-key.ensures.len;
      few = (let long = length-set ls n again in let few = c.self.invariant.few in omega (arith, long, few));
    }

pub returns-clause-unspent : goal.returns-clause-unspent
returns-clause-unspent c =
    let n = c.args.payment in
    let live = c.self.inside.live in
    let after = c.insert_reserved-key.new.self in
    let ls = c.self.inside.listed.items in
    let key = c.insert_reserved-key.result in
    let x = c.index_mut.result.now in
    let e : Entry = record { number = n; balance = c.of-balance.result } in
    let made = rw (← c.self.view_is) at c.requires.made in
    let spent = rw (← c.self.view_is) at c.requires.spent in
    let within : n < length ls = omega (arith, made, payment_views_long 0 live ls) in
    let there : slice_get ls n ≡ Some x = slice_get-get_or ls n x within ∙ ap (λ l. Some l) (sym c.index_mut.ensures.value) in
    let brand : x.brand ≡ e.balance.amount.brand = spent_brand n c.args.parcel.brand live ls x there spent ∙ sym (ap (λ (a : Amount). a.brand) c.of-balance.ensures) in
    let none : (payment_view_at (payment_views_from 0 live ls) n).held ≡ None = ap (λ (p : PaymentView). p.held) spent in
    let again : Listed = record { brand = x.brand; key = key } in
    rw (← c.self.view_is) (record {
      views = unspent_payments live after ls n key x.brand e within brand c.insert_reserved-key.ensures.was_vacant refl c.insert_reserved-key.ensures.updates ∙ ap (λ (a : Amount). slice_set (payment_views_from 0 live ls) n (live_payment a)) c.of-balance.ensures;
      keys = keys_set ls n again ∙ ap (λ (k : ℕ). slice_set (keys_of ls) n k) c.insert_reserved-key.ensures.key;
      room = c.insert_reserved-key.ensures.capacity;
    })
