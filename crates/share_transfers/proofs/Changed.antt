-- What a look-up of the working copy finds, and what it has once shares are put down.
use Rattle.std.proofs.Common.{◌≡◌, ℕ, ◌==◌, List, [], ◌∷◌, All, Bool, true, false, cond, Option, Some, None, IfSome, map, nat_eq, refl, sym, ap, ◌∙◌, arith}
use Rattle.std.specs.Global.{Vec}
use Rattle.std.specs.Map.{lookup}
use Rattle.std.specs.Option.{option_map_or}
use Rattle.std.proofs.lemmas.Bool.Decides.{nat_tests}
use Rattle.indexmap.specs.IndexMap.{insert_entry}
use Rattle.call_arguments.specs.proposals.Shares.{AreApart}
use Rattle.call_arguments.specs.proposals.declared.allocations.Share.{Share}
use Rattle.rearrange.proofs.Agreeing.{find_holds}
use Rattle.rearrange.specs.Working.{entry_of, put_shares}
use Rattle.rearrange.specs.declared.sums.SeatShares.{SeatShares}
use Rattle.share_transfers.specs.Changed.{changed_seat}

turned : (m n : ℕ) → (n == m) ≡ (m == n)
turned m n = grind (arith, nat_tests)

abbrev Entry : Type 0
Entry = ℕ × Vec Share

abbrev changed_list : List Entry → List SeatShares
changed_list es = map changed_seat es

abbrev pub shares_in : Option SeatShares → List Share → List Share
shares_in o default = option_map_or (λ (s : SeatShares). s.shares.items) o default

module _ (seat : ℕ) where
  looked_up : (es : List Entry) (default : List Share) → option_map_or (λ (v : Vec Share). v.items) (lookup (nat_eq seat) es) default ≡ shares_in (entry_of (changed_list es) seat) default
  looked_up [] default = refl
  looked_up (e ∷ es) default =
      by (seat == e.0) (looked_up es default)
      ∙ ap (λ b. shares_in (cond b (Some (changed_seat e)) (entry_of (changed_list es) seat)) default) (turned e.0 seat)
    where
      by : (b : Bool) → option_map_or (λ (v : Vec Share). v.items) (lookup (nat_eq seat) es) default ≡ shares_in (entry_of (changed_list es) seat) default → option_map_or (λ (v : Vec Share). v.items) (cond b (Some e.1) (lookup (nat_eq seat) es)) default ≡ shares_in (cond b (Some (changed_seat e)) (entry_of (changed_list es) seat)) default
      by true later = refl
      by false later = later

  -- shares that a look-up finds, and what there is where it finds none
  pub there : (es : List Entry) (v : Vec Share) (default : List Share) → Some v ≡ lookup (nat_eq seat) es → v.items ≡ shares_in (entry_of (changed_list es) seat) default
  there es v default is = ap (λ (o : Option (Vec Share)). option_map_or (λ (w : Vec Share). w.items) o default) is ∙ looked_up es default

  pub absent : (es : List Entry) (default : List Share) → None ≡ lookup (nat_eq seat) es → default ≡ shares_in (entry_of (changed_list es) seat) default
  absent es default is = ap (λ (o : Option (Vec Share)). option_map_or (λ (w : Vec Share). w.items) o default) is ∙ looked_up es default

  pub apart_at : (list : List SeatShares) (default : List Share) → All (λ (s : SeatShares). AreApart s.shares.items) list → AreApart default → AreApart (shares_in (entry_of list seat) default)
  apart_at list default all apart = by (entry_of list seat) (find_holds (λ (s : SeatShares). AreApart s.shares.items) (λ (s : SeatShares). s.seat == seat) list all)
    where
      by : (o : Option SeatShares) → IfSome o (λ (s : SeatShares). AreApart s.shares.items) → AreApart (shares_in o default)
      by None has = apart
      by (Some s) has = has

  -- shares that are put down, on the map and on its list
  pub put_down : (v : Vec Share) (es : List Entry) → changed_list (insert_entry nat_eq es seat v) ≡ put_shares seat v (changed_list es)
  put_down v [] = refl
  put_down v (e ∷ es) =
      by (seat == e.0) (put_down v es)
      ∙ ap (λ b. cond b (changed_seat (e.0, v) ∷ changed_list es) (changed_seat e ∷ put_shares seat v (changed_list es))) (turned e.0 seat)
    where
      by : (b : Bool) → changed_list (insert_entry nat_eq es seat v) ≡ put_shares seat v (changed_list es) → changed_list (cond b ((e.0, v) ∷ es) (e ∷ insert_entry nat_eq es seat v)) ≡ cond b (changed_seat (e.0, v) ∷ changed_list es) (changed_seat e ∷ put_shares seat v (changed_list es))
      by true later = refl
      by false later = ap (λ ss. changed_seat e ∷ ss) later
