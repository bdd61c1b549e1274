use Rattle.std.proofs.Common.{◌≡◌, ◌++◌, ◌∷◌, [], ap, arith, length, sym, ◌∙◌, subst, Some, None}
use Rattle.ertp_mint.specs.amount_math.declared.Amount.{Amount}
use Rattle.slab.specs.Slab.{Slab, get}
use Rattle.holders.specs.PaymentViews.{IsMade}
use Rattle.holders.specs.Kept.{AreKept, book_of}
use Rattle.holders.proofs.Books.{listed_of, made_book, made_kept, roomier_book, roomier_kept}
use Rattle.holders.specs.declared.payments.Entry.{Entry}
use Rattle.holders.specs.declared.payments.Listed.{Listed}
use Rattle.holders.proofs.payments.add.Goals as goal

pub returns-in_default-reserve-clause-kept : goal.returns-in_default-reserve-clause-kept
returns-in_default-reserve-clause-kept c =
    rw c.reserve.ensures.items (roomier_kept c.args.live.now c.reserve-2.new.self c.args.listed.now.items c.requires.kept (ap (λ (s : Slab Entry). s.slots) c.reserve-2.ensures.rest_kept))

pub returns-in_default-reserve-clause-err : goal.returns-in_default-reserve-clause-err
returns-in_default-reserve-clause-err c =
    roomier_book c.args.live.now c.reserve-2.new.self c.args.listed.now.items c.reserve.new.self.items c.reserve.ensures.items
    (ap (λ (s : Slab Entry). s.slots) c.reserve-2.ensures.rest_kept) (ap (λ (s : Slab Entry). s.vacant_key) c.reserve-2.ensures.rest_kept) c.reserve-2.ensures.capacity

pub returns-clause-kept : goal.returns-clause-kept
returns-clause-kept c =
    let e : Entry = record { number = c.len-number.result; balance = c.of-balance.result } in
    let ls = c.args.listed.now.items in
    let key = c.insert_reserved-key.result in
    let kept = roomier_kept c.args.live.now c.reserve-2.new.self ls c.requires.kept (ap (λ (s : Slab Entry). s.slots) c.reserve-2.ensures.rest_kept) in
    let number : e.number ≡ length ls = omega (arith, c.len-number.ensures, c.reserve.ensures.len) in
    let brand : c.brand-brand.result ≡ e.balance.amount.brand = c.brand-brand.ensures ∙ sym (ap (λ (a : Amount). a.brand) c.of-balance.ensures) in
    let listed : Listed = record { brand = c.brand-brand.result; key = key } in
    let is : listed ≡ listed_of e key = ap (λ b. let l : Listed = record { brand = b; key = key } in l) brand in
    let items : c.push_reserved.new.self.items ≡ ls ++ listed_of e key ∷ [] = c.push_reserved.ensures.items ∙ (ap (λ xs. xs ++ listed ∷ []) c.reserve.ensures.items ∙ ap (λ l. ls ++ l ∷ []) is) in
    let made : AreKept c.insert_reserved-key.new.self (ls ++ listed_of e key ∷ []) = made_kept c.reserve-2.new.self c.insert_reserved-key.new.self ls key e kept c.insert_reserved-key.ensures.was_vacant c.insert_reserved-key.ensures.updates c.insert_reserved-key.ensures.len number in
    subst (AreKept c.insert_reserved-key.new.self) (sym items) made

pub returns-clause-ok : goal.returns-clause-ok
returns-clause-ok c =
    let e : Entry = record { number = c.len-number.result; balance = c.of-balance.result } in
    let ls = c.args.listed.now.items in
    let key = c.insert_reserved-key.result in
    let number : e.number ≡ length ls = omega (arith, c.len-number.ensures, c.reserve.ensures.len) in
    let brand : c.brand-brand.result ≡ e.balance.amount.brand = c.brand-brand.ensures ∙ sym (ap (λ (a : Amount). a.brand) c.of-balance.ensures) in
    let listed : Listed = record { brand = c.brand-brand.result; key = key } in
    let is : listed ≡ listed_of e key = ap (λ b. let l : Listed = record { brand = b; key = key } in l) brand in
    let items : c.push_reserved.new.self.items ≡ ls ++ listed_of e key ∷ [] = c.push_reserved.ensures.items ∙ (ap (λ xs. xs ++ listed ∷ []) c.reserve.ensures.items ∙ ap (λ l. ls ++ l ∷ []) is) in
    let made = made_book c.args.live.now c.reserve-2.new.self c.insert_reserved-key.new.self ls c.push_reserved.new.self.items key e
    (ap (λ (s : Slab Entry). s.slots) c.reserve-2.ensures.rest_kept) (ap (λ (s : Slab Entry). s.vacant_key) c.reserve-2.ensures.rest_kept) c.reserve-2.ensures.capacity
    c.insert_reserved-key.ensures.was_vacant c.insert_reserved-key.ensures.updates number c.insert_reserved-key.ensures.key c.insert_reserved-key.ensures.capacity items in
    subst (IsMade (book_of c.args.live.now ls 0) (book_of c.insert_reserved-key.new.self c.push_reserved.new.self.items 0)) c.of-balance.ensures made
