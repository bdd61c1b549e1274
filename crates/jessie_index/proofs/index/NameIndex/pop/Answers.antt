use Rattle.std.proofs.Common.{◌≡◌, ◌++◌, ◌∷◌, [], rules, sym, ap, ◌∙◌, ℕ, List, Some, None, cond, arith}
use Rattle.std.specs.Str.{bytes_eq}
use Rattle.std.specs.Prelude.{length}
use Rattle.std.specs.Option.{option_copied_mut}
use Rattle.std.specs.BTreeMap.{get_by_text}
use Rattle.std.proofs.lemmas.Grind.{common_steps}
use Rattle.std.proofs.lemmas.Map.Text.{btree_map_updates_text, text_keys}
use Rattle.jessie_index.specs.Places.{names_of}
use Rattle.jessie_index.proofs.Indexed.{index_less, index_last}
use Rattle.jessie_index.proofs.index.NameIndex.pop.Goals as goal

pub invariant_of-self-in-Some-get_mut : goal.invariant_of-self-in-Some-get_mut
invariant_of-self-in-Some-get_mut c =
    let es = c.pop.new.self.items in
    let old = c.self.inside.entries.items in
    let m = c.self.inside.places in
    let x = c.in-Some.name in
    let h = c.in-Some.hidden in
    let n = c.get_mut.follows.lender c.in-Some-hidden.place in
    let ends : old ≡ es ++ (x, h) ∷ [] = grind (arith, common_steps) in
    let found : (q : List ℕ) → get_by_text n q ≡ cond (bytes_eq x q) h (get_by_text m q) = λ q.
    grind (arith, text_keys, btree_map_updates_text c.as_str.result.now m n _ ((c.get_mut.follows.holds c.in-Some-hidden.place).3 (search rules)) q) in
    index_less es old m n x h c.self.invariant ends found

pub invariant_of-self-in-Some-hidden : goal.invariant_of-self-in-Some-hidden
invariant_of-self-in-Some-hidden c =
    let es = c.pop.new.self.items in
    let old = c.self.inside.entries.items in
    let x = c.in-Some.name in
    let h = c.in-Some.hidden in
    let ends : old ≡ es ++ (x, h) ∷ [] = grind (arith, common_steps) in
    let there : get_by_text c.self.inside.places x ≡ Some (length (names_of es)) = index_last es old c.self.inside.places x h c.self.invariant ends in
    let gone : get_by_text c.self.inside.places x ≡ None = ap (get_by_text c.self.inside.places) (sym c.as_str.ensures) ∙ (sym c.get_mut.ensures.value ∙ ap option_copied_mut c.in_default-get_mut.is) in
    let no : None ≡ Some (length (names_of es)) = sym gone ∙ there in
    absurd (cc)

pub invariant_of-self-in-None : goal.invariant_of-self-in-None
invariant_of-self-in-None c =
    let es = c.pop.new.self.items in
    let old = c.self.inside.entries.items in
    let m = c.self.inside.places in
    let x = c.in-Some.name in
    let h = c.in-Some.hidden in
    let n = c.remove.new.self in
    let ends : old ≡ es ++ (x, h) ∷ [] = grind (arith, common_steps) in
    let found : (q : List ℕ) → get_by_text n q ≡ cond (bytes_eq x q) h (get_by_text m q) = λ q.
    grind (arith, text_keys) in
    index_less es old m n x h c.self.invariant ends found
