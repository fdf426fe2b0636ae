-- Transitions in order are read without a fault. Assumes nothing.
use Prim.Native.Nat.{ℕ, ◌+◌, ◌*◌, ◌≤◌}
use mathlib.Core.List.{List}
use mathlib.Core.Bool.{true}
use mathlib.Core.Path.{◌≡◌}
use lib.ListN.{length}
use native.Mathlib.Omega.{arith}
use Rattle.wire.specs.Read.{misnamed}
use Rattle.wire.specs.Begin.{start}
use Rattle.wire.proofs.Reading.{reading, good_below, good_source}
use Rattle.ordered.specs.Ordered.{in_order}
use Rattle.ordered.proofs.Ordered.{ReadsInOrder, Ended, in_order_runs}
use Rattle.model.specs.Format.{weight_at, action_at, to_at, transition_width}
use Rattle.model.specs.Message.{read_transition, transitions}
use Rattle.wire.proofs.Fields.{field_value}

module _ (s : List ℕ) (n : ℕ) where
  -- one
  transition_read : ReadsInOrder s n to_at (transitions s n)
  unfolding read_transition
  transition_read st inside rises less to-less =
      let from = good_source s st.at n st.prev st.at (field_value 2 s st.at (omega arith)) less rises in
      let weight = field_value 4 s (st.at + weight_at) (omega arith) in
      let action = field_value 2 s (st.at + action_at) (omega arith) in
      let to_here : ℕ = st.at + to_at in
      let to = good_below 2 s to_here n (misnamed to_here) (field_value 2 s to_here (omega arith)) to-less in
      simp (from, weight, action, to, reading)

  -- and so many
  pub in_order_read : (t first : ℕ) → first + t * transition_width ≤ length s → in_order s n to_at t 0 first ≡ true
      → Ended s n to_at (transitions s n) t (start first)
  in_order_read t first = in_order_runs s n to_at (transitions s n) transition_read t (start first)
