-- How a model message is laid out. Every width and position is said here, once; a message that changes is changed here.
use Rattle.std.specs.Prelude.{ℕ, ◌+◌, ◌*◌}
use Rattle.wire.specs.declared.Head.{Head}
use Rattle.wire.specs.declared.Count.{Count}
use Rattle.wire.specs.declared.Width.TheVariants.{One, Two, Four}

-- the header, 13 bytes, version 2, kind 2
abbrev pub model_header : ℕ
model_header = 13

abbrev pub model_head : Head
model_head = record { length = model_header; version = 2; kind = 2 }

-- its counts: states (2), propositions (1), transitions (4)
abbrev pub states_count : Count
states_count = record { at = 6; width = Two; least = 1; most = 256 }

abbrev pub propositions_count : Count
propositions_count = record { at = 8; width = One; least = 0; most = 32 }

abbrev pub transitions_count : Count
transitions_count = record { at = 9; width = Four; least = 0; most = 65535 }

-- a label: 4 bytes
abbrev pub label_width : ℕ
label_width = 4

-- a transition: from (2), weight (4), action (2), to (2), so 10 bytes
abbrev pub weight_at : ℕ
weight_at = 2

abbrev pub action_at : ℕ
action_at = weight_at + 4

abbrev pub to_at : ℕ
to_at = action_at + 2

abbrev pub transition_width : ℕ
transition_width = to_at + 2

-- where a label and a transition of a model with n states stand: behind the header the labels, and behind them the transitions
abbrev pub label_at : ℕ → ℕ
label_at a = model_header + a * label_width

abbrev pub transition_at : (n i : ℕ) → ℕ
transition_at n i = label_at n + i * transition_width

-- how long the message of so many states and transitions is: it ends behind its last transition
abbrev pub model_length : (n t : ℕ) → ℕ
model_length n t = transition_at n t
