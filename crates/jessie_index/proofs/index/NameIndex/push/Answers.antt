use Rattle.std.proofs.Common.{◌≡◌, ◌++◌, ◌∷◌, ◌∙◌, [], ℕ, List, Some, None, ap, cond, arith}
use Rattle.std.specs.Prelude.{length}
use Rattle.std.specs.Str.{bytes_eq}
use Rattle.std.specs.BTreeMap.{get_by_text}
use Rattle.std.proofs.lemmas.Grind.{common_steps}
use Rattle.std.proofs.lemmas.Map.Text.{text_keys}
use Rattle.jessie_index.specs.Places.{place, names_of}
use Rattle.jessie_index.proofs.Indexed.{hidden_put, index_more, names_push}
use Rattle.jessie_index.proofs.index.NameIndex.push.Goals as goal

pub invariant_of-self-2 : goal.invariant_of-self-2
invariant_of-self-2 c =
    let es = c.self.inside.entries.items in
    let m = c.self.inside.places in
    let x = c.in_ok-copy.copy in
    let h = c.in-Ok.hidden in
    let many : c.len-place.result ≡ length es = grind (arith, common_steps, c.len-place.ensures) in
    let put : c.hide.new.entries.items ≡ es ++ (x, h) ∷ [] = hidden_put es c.push.new.self.items c.hide.new.entries.items (x, None) h c.len-place.result c.in_ok-push.ensures.items many c.hide.ensures in
    let here : h ≡ place x (names_of es) = grind (arith, common_steps, text_keys, c.self.invariant.finds x) in
    let found : (q : List ℕ) → get_by_text c.insert.new.self q ≡ cond (bytes_eq x q) (Some (length es)) (get_by_text m q) = λ q. grind (arith, text_keys) in
    index_more es c.hide.new.entries.items m c.insert.new.self x h c.self.invariant put here found

pub returns-clause-ok : goal.returns-clause-ok
returns-clause-ok c =
    let es = c.self.inside.entries.items in
    let x = c.in_ok-copy.copy in
    let h = c.in-Ok.hidden in
    let many : c.len-place.result ≡ length es = grind (arith, common_steps, c.len-place.ensures) in
    let put : c.hide.new.entries.items ≡ es ++ (x, h) ∷ [] = hidden_put es c.push.new.self.items c.hide.new.entries.items (x, None) h c.len-place.result c.in_ok-push.ensures.items many c.hide.ensures in
    let named : names_of c.hide.new.entries.items ≡ names_of es ++ x ∷ [] = ap names_of put ∙ names_push es (x, h) in
    grind (arith, common_steps, named)
