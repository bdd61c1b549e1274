-- The details of invitations, by number.
use Rattle.std.specs.Prelude.{ℕ, List, [], slice_index_or}
use Rattle.host_data.specs.Tree.{Tree, null}
use Rattle.host_data.specs.View.{tree}
use Rattle.turn_stores.specs.declared.invitations.Details.{Details}

pub record DetailsView : Type 0 where
  pub instance : ℕ
  pub installation : ℕ
  pub description : List ℕ
  pub handler : List ℕ
  pub held : Tree

abbrev pub details_view : Details → DetailsView
details_view d = record { instance = d.instance; installation = d.installation; description = d.description; handler = d.handler; held = tree d.held }

abbrev pub most_made : ℕ
most_made = 4294967295

-- what is read where no invitation was made
abbrev pub no_details : DetailsView
no_details = record { instance = 0; installation = 0; description = []; handler = []; held = null }

abbrev pub details_at : List DetailsView → ℕ → DetailsView
details_at details n = slice_index_or details n no_details
