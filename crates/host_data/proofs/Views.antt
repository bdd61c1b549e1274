-- What each kind of data stands for, and lists of data beside the lists in a tree.
use Rattle.std.proofs.Common.{◌≡◌, ℕ, ℤ, ◌+◌, List, [], ◌∷◌, Bool, length, refl, ap, ◌∙◌, add-one, Vec, Global, rules}
use Rattle.host_data.specs.Tree.{Tree, null, boolean, number, text, array, fields, object, function, listed, paired, count}
use Rattle.host_data.specs.View.{tree, items_of, fields_of, trees, named_trees}
use Rattle.host_data.specs.declared.data.Data.{Data}
use Rattle.host_data.specs.declared.data.Obj.{Obj}
use Rattle.host_data.specs.declared.data.Data as D

pub tree-Number : (z : ℤ) → tree (D.Number z) ≡ number z
tree-Number z = search (rules, D.the_lemmas)

pub tree-Text : (s : List ℕ) → tree (D.Text s) ≡ text s
tree-Text s = search (rules, D.the_lemmas)

pub tree-Bool : (b : Bool) → tree (D.Bool b) ≡ boolean b
tree-Bool b = search (rules, D.the_lemmas)

pub tree-Null : tree D.Null ≡ null
tree-Null = search (rules, D.the_lemmas)

pub tree-Array : (v : Vec Data Global) → tree (D.Array v) ≡ array (items_of (trees v.items))
tree-Array v = search (rules, D.the_lemmas)

pub tree-Record : (v : Vec (List ℕ × Data) Global) → tree (D.Record v) ≡ fields (fields_of (named_trees v.items))
tree-Record v = search (rules, D.the_lemmas)

pub tree-Object : (o : Obj) → tree (D.Object o) ≡ object o
tree-Object o = search (rules, D.the_lemmas)

pub tree-Function : (s : List ℕ) → tree (D.Function s) ≡ function s
tree-Function s = search (rules, D.the_lemmas)

pub listed_back : (ts : List Tree) → listed (items_of ts) ≡ ts
listed_back [] = refl
listed_back (t ∷ ts) = ap (λ (us : List Tree). t ∷ us) (listed_back ts)

pub paired_back : (ms : List (List ℕ × Tree)) → paired (fields_of ms) ≡ ms
paired_back [] = refl
paired_back (m ∷ ms) = ap (λ (ns : List (List ℕ × Tree)). m ∷ ns) (paired_back ms)

pub count_back : (fs : List (List ℕ × Data)) → count (fields_of (named_trees fs)) ≡ length fs
count_back [] = refl
count_back (f ∷ fs) = ap (λ n. n + 1) (count_back fs) ∙ add-one (length fs)
