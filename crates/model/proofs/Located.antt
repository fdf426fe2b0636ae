-- A fault of a model message lies where a field starts, nothing before it is to blame, and that field can be mended. Assumes nothing.
use Prim.Native.Nat.{ℕ, ◌+◌, ◌^◌, ◌≤◌, ◌<◌}
use mathlib.Core.List.{List, []}
use mathlib.Core.Path.{◌≡◌, refl, ap, ◌∙◌}
use native.Mathlib.Nat.{one-le-pow}
use native.Mathlib.Omega.{arith}
use lib.Dec.{eqb}
use Rattle.refusal.specs.declared.Fault.{Fault}
use Rattle.refusal.specs.Number.{nowhere}
use Rattle.wire.specs.declared.State.{State}
use Rattle.wire.specs.declared.Width.TheVariants.{Two, Four}
use Rattle.wire.specs.Read.{Ok, Err}
use Rattle.wire.specs.Reader.{read_all, past}
use Rattle.wire.specs.Begin.{start}
use Rattle.wire.specs.Located.{told, Located, From, SameBefore, Mendable}
use Rattle.wire.proofs.Fields.{value_is}
use Rattle.wire.proofs.Readers.{all_length, past_wide}
use Rattle.wire.proofs.Onward.{Onward, Reached, onward_sooner, onward_on, onward_good, onward_demand, onward_free, onward_below, onward_named, onward_source, onward_count, onward_bind, onward_then, onward_and, onward_start, onward_all, placed, none_before, mendable}
use Rattle.model.specs.Format.{model_header, model_head, states_count, propositions_count, transitions_count, label_width, weight_at, action_at, to_at, transition_width, label_at, transition_at, model_length}
use Rattle.model.specs.Message.{read_label, read_transition, read_header, read_model, labels, transitions}
use Rattle.model.specs.declared.Counts.{Counts}
use Rattle.model.specs.Located.{FieldStart, version, kind, state_count, proposition_count, transition_count, label, from, to}
use Rattle.model.proofs.Good.{transition_good, header_good}

-- ---- the reading goes onward

header_onward : Onward FieldStart (λ s. Unit) 0 read_header (λ k. model_header)
unfolding read_header
header_onward =
    onward_and (onward_start model_head (omega arith) (omega arith) (λ s on. version refl) (λ s on. kind refl))
    (onward_then (onward_count states_count (omega arith) (omega arith) (omega arith) (λ s on. state_count refl)) _ (λ n h₀.
    onward_then (onward_count propositions_count (omega arith) (omega arith) (omega arith) (λ s on. proposition_count refl)) _ (λ p h₁.
    onward_then (onward_count transitions_count (omega arith) (omega arith) (omega arith) (λ s on. transition_count refl)) _ (λ t h₂.
    onward_and (onward_demand _ (λ long. eqb long (model_length n t)) _) (onward_good _ _ (omega arith))))))

module _ {On : List ℕ → Type 0} (st : State) where
  label_onward : (p : ℕ) → ((s : List ℕ) → On s → FieldStart s st.at Four) → Onward FieldStart On st.at (λ s. read_label s p st) (λ l. st.at + label_width)
  unfolding read_label
  label_onward p starts = onward_below Four st.at (2 ^ p) _ (omega arith) refl (one-le-pow p 2 (omega arith)) starts

  -- the `from` before is a state
  transition_onward : (n : ℕ) → n ≤ 65536 → st.prev < n → ((s : List ℕ) → On s → FieldStart s st.at Two) → ((s : List ℕ) → On s → FieldStart s (st.at + to_at) Two)
      → Onward FieldStart On st.at (λ s. read_transition s n st) (λ t. st.at + transition_width)
  unfolding read_transition
  transition_onward n few named from-starts to-starts =
      onward_then (onward_source st.at n st.prev (omega arith) named few from-starts) _ (λ v h₀.
      onward_then (onward_free Four (st.at + weight_at) (omega arith)) _ (λ w h₁.
      onward_then (onward_free Two (st.at + action_at) (omega arith)) _ (λ k h₂.
      onward_then (onward_named (st.at + to_at) n (omega arith) (omega arith) to-starts) _ (λ t h₃. onward_good _ _ (omega arith)))))

-- in a message with this header
module _ (k : Counts) (reached : Reached read_header k) where
  abbrev Headed : List ℕ → Type 0
  Headed s = read_header s ≡ Ok k

  states_told : (s : List ℕ) → Headed s → told s states_count ≡ k.states
  states_told s e = value_is _ s _ (header_good s k e).states_counted.there

  transitions_told : (s : List ℕ) → Headed s → told s transitions_count ≡ k.transitions
  transitions_told s e = value_is _ s _ (header_good s k e).transitions_counted.there

  labels_onward : Onward FieldStart Headed model_header (λ s. read_all (labels s k.propositions) k.states (start model_header)) (λ ls. (past (labels [] k.propositions) (start model_header) ls).at)
  labels_onward =
      let L = labels [] k.propositions in
      onward_on (λ s on. (on, omega arith))
      (onward_all FieldStart L.position (λ s. (labels s k.propositions).read) L.next (λ st. Unit) (λ i st s. Headed s × (st.at ≡ label_at i)) k.states
      (λ i st less v. label_onward st k.propositions (λ s on. label i (omega (arith, states_told s on.0)) on.1))
      (λ st l v r. tt)
      (λ i st l s on e. (on.0, omega (arith, on.1)))
      0 k.states (start model_header) (omega arith) tt)

  transitions_onward : Onward FieldStart Headed (label_at k.states) (λ s. read_all (transitions s k.states) k.transitions (start (label_at k.states))) (λ ts. (past (transitions [] k.states) (start (label_at k.states)) ts).at)
  transitions_onward =
      let T = transitions [] k.states in
      let counted = (header_good reached.message k reached.given).states_counted in
      onward_on (λ s on. (on, omega (arith, states_told s on)))
      (onward_all FieldStart T.position (λ s. (transitions s k.states).read) T.next (λ st. st.prev < k.states) (λ j st s. Headed s × (st.at ≡ transition_at (told s states_count) j)) k.transitions
      (λ j st less named.
      transition_onward st k.states (omega (arith, counted.no_more)) named
      (λ s on. from j (omega (arith, transitions_told s on.0)) on.1)
      (λ s on. to j (omega (arith, transitions_told s on.0)) (ap (λ (x : ℕ). x + to_at) on.1)))
      (λ st t named r. (transition_good r.message k.states st t r.given).from_named)
      (λ j st t s on e. (on.0, omega (arith, on.1)))
      0 k.transitions (start (label_at k.states)) (omega arith) (omega (arith, counted.no_less)))

model_onward : Onward FieldStart (λ s. Unit) 0 read_model (λ M. (past (transitions [] M.states) (start (label_at M.states)) M.transitions).at)
unfolding read_model
model_onward =
    onward_bind header_onward _ (λ k reached.
    onward_on (λ s on. on.1)
    (onward_then (labels_onward k reached) _ (λ ls read.
    let L = labels [] k.propositions in
    let behind : (past L (start model_header) ls).at ≡ label_at k.states = past_wide L label_width (λ st a. refl) (start model_header) ls ∙ ap label_at (all_length _ _ _ ls read.given) in
    onward_then (onward_sooner (omega arith) (transitions_onward k reached)) _ (λ ts h₂. onward_good _ _ (omega arith)))))

-- ---- the laws

-- the field at the offset of a fault is one of these, and lies inside the message
pub fault_located : (s : List ℕ) {f : Fault} → read_model s ≡ Err f → Located (FieldStart s) s f
fault_located s e = placed model_onward s e

-- nothing before the offset is to blame: whatever one writes from there on, no field before it is found at fault
pub nothing_before : (s s' : List ℕ) {f f' : Fault} → read_model s ≡ Err f → SameBefore f.offset s s' → read_model s' ≡ Err f' → From f.offset f'
nothing_before s s' e alike e' = none_before model_onward s e s' alike e'

-- one number put into the field at the offset makes the message read past it
pub mended : (s : List ℕ) {f : Fault} → read_model s ≡ Err f → nowhere < f.offset → Mendable (FieldStart s) read_model s f.offset
mended s e some = mendable model_onward s e some
