use Rattle.std.proofs.Common.{◌≡◌, ◌<◌, ◌^◌, ℕ, [], ◌∷◌, ◌++◌, Vec, ap, sym, subst, ◌∙◌, arith}
use Rattle.std.specs.declared.alloc.Global.{Global}
use Rattle.told_causes.specs.StandingSteps.{IsListed}
use Rattle.told_causes.proofs.Opened.{opened_told}
use Rattle.told_causes.proofs.standings.Standings.opened.Goals as goal

pub returns : goal.returns
returns c = λ i o seat instance next told.
    let seat_low : o.seat < 2 ^ 32 = omega (arith, c.ranges.seat.fits, seat) in
    let instance_low : o.instance < 2 ^ 32 = omega (arith, c.ranges.instance.fits, instance) in
    let items : c.push.new.self.items ≡ c.args.self.now.instances.items ++ o.instance ∷ [] =
    c.in_ok-push.ensures.items ∙ ap (λ (v : Vec ℕ Global). v.items ++ c.args.instance ∷ []) c.in_ok-list.ensures.instances ∙ ap (λ (n : ℕ). c.args.self.now.instances.items ++ n ∷ []) (sym instance) in
    let listed : IsListed c.args.self.now c.list.new.self o.instance o.seat =
    subst (λ (m : ℕ). IsListed c.args.self.now c.list.new.self m o.seat) (sym instance) (subst (λ (n : ℕ). IsListed c.args.self.now c.list.new.self c.args.instance n) (sym seat) c.in_ok-list.ensures.listed) in
    opened_told c.args.self.now _ i o seat_low instance_low (seat ∙ next) told items (record { standings = listed.standings; at = listed.at; other = listed.other })
