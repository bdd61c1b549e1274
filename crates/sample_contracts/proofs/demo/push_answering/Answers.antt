use Rattle.std.proofs.Common.{◌≡◌, ◌++◌, [], List, ℕ, refl, string_bytes}
use Rattle.serde_json.specs.Data as json
use Rattle.turn_rows.specs.Texts.{row_text}
use Rattle.sample_contracts.specs.Made.{draw_view}
use Rattle.sample_contracts.specs.Demo.{exit, invitation_gift, run, second_mint, second_offer}
use Rattle.sample_contracts.proofs.Steps.{last, next, on_ok}
use Rattle.sample_contracts.proofs.demo.push_answering.Goals as goal

pub returns : goal.returns
returns c =
    let i = c.args.step in
    let d = draw_view c.args.draw in
    let l1 = row_text (invitation_gift i) in
    let m1 = string_bytes c.push.new.text in
    let l2 = row_text (second_mint i d) in
    let m2 = string_bytes c.push-2.new.text in
    let l3 = row_text (second_offer i d) in
    let m3 = string_bytes c.push-3.new.text in
    let l4 = row_text (run) in
    let m4 = string_bytes c.push-4.new.text in
    let l5 = row_text (exit i) in
    let m5 = string_bytes c.push-5.new.text in
    let l6 = row_text (run) in
    let m6 = string_bytes c.push-6.new.text in
    let m0 = string_bytes c.args.text.now in
    let e1 : m1 ≡ m0 ++ l1 = c.in_ok-push.ensures (invitation_gift i) c.invitation_gift.ensures refl in
    let e2 : m2 ≡ m1 ++ l2 = c.in_ok-push-2.ensures (second_mint i d) c.second_mint.ensures refl in
    let e3 : m3 ≡ m2 ++ l3 = c.in_ok-push-3.ensures (second_offer i d) c.second_offer.ensures refl in
    let e4 : m4 ≡ m3 ++ l4 = c.in_ok-push-4.ensures (run) c.run.ensures refl in
    let e5 : m5 ≡ m4 ++ l5 = c.in_ok-push-5.ensures (exit i) c.exit.ensures refl in
    let ends : m6 ≡ m5 ++ l6 → m6 ≡ m0 ++ (l1 ++ (l2 ++ (l3 ++ (l4 ++ (l5 ++ (l6 ++ [])))))) = λ e6.
    next m6 m0 m1 (l2 ++ (l3 ++ (l4 ++ (l5 ++ (l6 ++ []))))) l1 e1 (next m6 m1 m2 (l3 ++ (l4 ++ (l5 ++ (l6 ++ [])))) l2 e2 (next m6 m2 m3 (l4 ++ (l5 ++ (l6 ++ []))) l3 e3 (next m6 m3 m4 (l5 ++ (l6 ++ [])) l4 e4 (next m6 m4 m5 (l6 ++ []) l5 e5 (last m6 m5 l6 e6))))) in
    on_ok c.push-6.result (m6 ≡ m5 ++ l6) (m6 ≡ m0 ++ (l1 ++ (l2 ++ (l3 ++ (l4 ++ (l5 ++ (l6 ++ []))))))) ends (c.push-6.ensures (run) c.run-2.ensures refl)
