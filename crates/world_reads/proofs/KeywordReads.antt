-- A keyword at a place, as both definitions read it.
use Rattle.std.proofs.Common.{◌≡◌, ℕ, [], List, Option, Some, None, unwrap_or, refl, ap}
use Rattle.rules.specs.call_arguments.Arguments as arguments
use Rattle.rules.specs.call_arguments.Arguments.{arg, text_or_empty}
use Rattle.rules.specs.Words.{keyword_at}
use Rattle.refusals.specs.host_text.Words.{is_keyword}
use Rattle.refusals.specs.host_data.Tree.{Tree, text_of}
use Rattle.refusals.specs.Codes.{bad_keyword}
use Rattle.refusals.specs.Outcomes.{◌>>◌, need}
use Rattle.std.specs.Prelude.{Ok}

text_same : (o : Option (List ℕ)) → text_or_empty o ≡ unwrap_or o []
text_same None = refl
text_same (Some t) = refl

pub keyword_same : (place : ℕ) (args : List Tree) → arguments.keyword_at place args ≡ keyword_at place args
unfolding arguments.keyword_at keyword_at
keyword_same place args = ap (λ (name : List ℕ). need (is_keyword name) (bad_keyword name) >> Ok name) (text_same (text_of (arg place args)))
