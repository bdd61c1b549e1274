-- Each list meets all sentences but its own, by computing; that of movements that aren't defined, by hand.
use Rattle.std.proofs.Common.{◌≡◌, Bool, true, ◌||◌, List, refl}
use Rattle.std.specs.Fmt.{digits}
use Rattle.std.specs.List.{list_all}
use Rattle.fair_rows.specs.rights_model.Totals.{brands_of}
use Rattle.fair_rows.specs.turn_rows.Editions.{written}
use Rattle.fair_rows.specs.turn_rows.Turns.{Turn}
use Rattle.fair_samples.specs.Further.{further}
use Rattle.fair_samples.specs.Samples.{sample}
use Rattle.fair_samples.specs.Sentences.{Sentence, movements_are_defined}
use Rattle.fair_samples.proofs.All.{all_but, is_sentence, sentences}

abbrev pub meets_others : Sentence → List Turn → Bool
meets_others x ts = all_but written (is_sentence x) ts

pub samples_meet_others : list_all (λ x. is_sentence movements_are_defined x || meets_others x (sample x)) sentences ≡ true
unfolding digits brands_of
samples_meet_others = refl

pub further_meet_others : list_all (λ (p : Sentence × List Turn). meets_others p.0 p.1) further ≡ true
unfolding digits brands_of
further_meet_others = refl
