use Rattle.std.proofs.Common.{◌≡◌, ℕ, length, Result, Ok, Err, IfOk, IfErr, ◌↔◌, arith, sym, ◌∙◌}
use Rattle.world_state.specs.promise_store.Linked.{most_made}
use Rattle.world_state.specs.promise_store.declared.store.MakeFault.{MakeFault}
use Rattle.world_state.specs.promise_store.declared.store.MakeFault.TheVariants as make_faults
use Rattle.registers.specs.PromiseTables.{book_of}
use Rattle.world_state.specs.promise_store.Views.{now_of, promises_of}
use Rattle.registers.specs.Books.{settled_with}
use Rattle.registers.proofs.Lists.{length_listed}
use Rattle.registers.proofs.Steps.{made_is, made_more}
use Rattle.registers.proofs.promise_table.table.PromiseTable.make.Goals as goal

pub returns-clause-ok : goal.returns-clause-ok
returns-clause-ok c = made_more c.make.result (promises_of c.args.self.now.promises) (promises_of c.make.new.self) c.args.self.now.booked (c.make.ensures).ok

same_number : {E : Type 0} (r : Result ℕ E) (m n : ℕ) → n ≡ m → IfOk r (λ k. k ≡ m) → IfOk r (λ k. k ≡ n)
same_number (Ok k) m n e is = is ∙ sym e
same_number (Err x) m n e is = tt

pub returns-clause-number : goal.returns-clause-number
returns-clause-number c =
    let s = now_of c.args.self.now.promises in
    same_number c.make.result s.links.made _ (length_listed (settled_with s.links.outcomes s.settlements) s.links.made) (c.make.ensures).number

pub returns-clause-room : goal.returns-clause-room
returns-clause-room c =
    let s = now_of c.args.self.now.promises in
    λ fine. let lt = (c.make.ensures).room fine in omega (arith, lt, made_is s)

faults_same : {V : Type 0} (r : Result V MakeFault) (m n k : ℕ) → n ≡ m → IfErr r (λ f. (f ≡ make_faults.Limit) ↔ (m ≡ k)) → IfErr r (λ f. (f ≡ make_faults.Limit) ↔ (n ≡ k))
faults_same (Ok v) m n k e is = tt
faults_same (Err f) m n k e is = (λ l. e ∙ is.0 l, λ h. is.1 (sym e ∙ h))

pub returns-clause-limit : goal.returns-clause-limit
returns-clause-limit c =
    let s = now_of c.args.self.now.promises in
    faults_same c.make.result s.links.made (length (book_of s).settled) most_made (made_is s) (c.make.ensures).limit
