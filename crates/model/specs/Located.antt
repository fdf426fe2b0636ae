-- Where a fault of a model message can lie: where the fields start whose numbers are not free. A weight is, and an action: any number of its width.
use Rattle.std.specs.Prelude.{ℕ, ◌+◌, ◌<◌, List, ◌≡◌}
use Rattle.wire.specs.Start.{version_at, kind_at}
use Rattle.wire.specs.Located.{told}
use Rattle.wire.specs.declared.Width.{Width}
use Rattle.wire.specs.declared.Width.TheVariants.{One, Two, Four}
use Rattle.model.specs.Format.{states_count, propositions_count, transitions_count, label_at, transition_at, to_at}

-- a field of the message s, of this width, starts here: of its header, the label of a state, or a state that a transition names
pub data FieldStart (s : List ℕ) (at : ℕ) : Width → Type 0 where
  version : at ≡ version_at → FieldStart s at One
  kind : at ≡ kind_at → FieldStart s at One
  state_count : at ≡ states_count.at → FieldStart s at states_count.width
  proposition_count : at ≡ propositions_count.at → FieldStart s at propositions_count.width
  transition_count : at ≡ transitions_count.at → FieldStart s at transitions_count.width
  label : (i : ℕ) → i < told s states_count → at ≡ label_at i → FieldStart s at Four
  from : (j : ℕ) → j < told s transitions_count → at ≡ transition_at (told s states_count) j → FieldStart s at Two
  to : (j : ℕ) → j < told s transitions_count → at ≡ transition_at (told s states_count) j + to_at → FieldStart s at Two
