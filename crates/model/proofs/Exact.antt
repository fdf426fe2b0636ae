-- A message is accepted as a model exactly when it is the writing of the model, and the model is well-formed. Assumes nothing.
use Prim.Native.Nat.{ℕ, ◌+◌, ◌^◌, ◌≤◌, ◌<◌}
use mathlib.Core.List.{List, ◌++◌}
use mathlib.Core.Logic.{◌↔◌}
use mathlib.Core.Path.{◌≡◌, refl, sym, ap, ◌∙◌}
use native.Mathlib.Nat.{pow-le-pow_right}
use native.Mathlib.Omega.{arith}
use lib.ListN.{length, drop, length-append}
use borrow.Author.Tests.{eq-eqb}
use Rattle.lists.specs.Lists.{◌∈◌}
use Rattle.wire.specs.declared.State.{State}
use Rattle.wire.specs.Bytes.{bytes, Bytes}
use Rattle.wire.specs.Read.{Ok, field}
use Rattle.wire.specs.Start.{start_width}
use Rattle.wire.specs.Write.{write_all, message}
use Rattle.wire.proofs.Bytes.{length_bytes}
use Rattle.wire.proofs.Reading.{good_same, good_below, good_source}
use Rattle.wire.proofs.Stands.{Stands, stands_first, stands_second, stands_both, stands_last, value_stands, stands_field}
use Rattle.wire.proofs.Counts.{good_count}
use Rattle.wire.proofs.Exact.{good_bind, good_after, good_demand, length_write_all, Exact, FitsAll, all_reads, all_written, fits_map, fits_both, fits_each, each_fits, fits_rising, rising_fits, message_length, message_rest, start_reads, start_written}
use Rattle.model.specs.Model.{Model, Transition}
use Rattle.wire.specs.Begin.{start}
use Rattle.model.specs.Format.{model_header, model_head, states_count, propositions_count, transitions_count, label_width, weight_at, action_at, to_at, transition_width, label_at, model_length}
use Rattle.model.specs.Answers.{counts_of}
use Rattle.model.specs.Message.{read_label, read_transition, read_header, read_model, labels, transitions}
use Rattle.model.specs.Write.{write_transition, write_body, write_model}
use Rattle.model.specs.WellFormed.{WellFormed}
use Rattle.model.proofs.Good.{label_good, transition_good, HeaderAt, header_good, ModelAt, model_good}

-- ---- records

pub record TransitionFits (n : ℕ) (t : Transition) : Type 0 where
  pub from_named : t.from < n
  pub to_named : t.to < n
  pub weight_fits : t.weight < 2 ^ 32
  pub action_fits : t.action < 2 ^ 16

-- what a state demands of a transition
abbrev pub TransitionNext : ℕ → State → Transition → Type 0
TransitionNext n st t = (st.prev ≤ t.from) × TransitionFits n t

-- how long a transition is
transition_length : (t : Transition) → length (write_transition t) ≡ transition_width
unfolding write_transition
transition_length t = simp (length-append, length_bytes)

module _ (s : List ℕ) where
  pub labels_exact : (p : ℕ) → p ≤ 32 → Exact s (labels s p) (bytes 4) (λ st l. l < 2 ^ p)
  unfolding read_label
  labels_exact p small = record {
    reads = λ b st l e.
        let g = label_good s p st l e in
        ((value_stands 4 b g.label_there).0, g.label_fits);
    written = λ st l h fits.
        let most = pow-le-pow_right {n = 2} (omega arith) {i = p} {j = 32} small in
        let label_there : field 4 s st.at ≡ Ok l = stands_field 4 (omega arith) h (omega arith) in
        good_below 4 s st.at (2 ^ p) _ label_there fits;
    moves = λ st l. rw length_bytes;
  }

  pub transitions_exact : (n : ℕ) → n ≤ 65536 → Exact s (transitions s n) write_transition (TransitionNext n)
  unfolding read_transition write_transition
  transitions_exact n small = record {
    reads = λ b st t e.
        let g = transition_good s n st t e in
        let from = value_stands 2 b g.from_there in
        let weight = value_stands 4 b g.weight_there in
        let action = value_stands 2 b g.action_there in
        let to = value_stands 2 b g.to_there in (
          stands_both (simp (length-append, length_bytes) (omega arith)) (stands_both (simp (length-append, length_bytes) (omega arith)) (stands_both (simp length_bytes) from.0 weight.0) action.0) to.0,
          (
            g.ordered,
            record { from_named = g.from_named; to_named = g.to_named; weight_fits = weight.1; action_fits = action.1 },
          ),
        );
    written = λ st t stands f.
        let three : Stands s st.at (bytes 2 t.from ++ bytes 4 t.weight ++ bytes 2 t.action) = stands_first _ _ stands in
        let front : Stands s st.at (bytes 2 t.from ++ bytes 4 t.weight) = stands_first _ _ three in
        let from_there : field 2 s st.at ≡ Ok t.from = stands_field 2 (omega arith) (stands_first _ _ front) (omega arith) in
        let weight_there : field 4 s (st.at + weight_at) ≡ Ok t.weight =
        stands_field 4 (omega arith) (stands_second (bytes 2 t.from) _ (simp length_bytes) front) f.1.weight_fits in
        let action_there : field 2 s (st.at + action_at) ≡ Ok t.action =
        stands_field 2 (omega arith) (stands_second (bytes 2 t.from ++ bytes 4 t.weight) _ (simp (length-append, length_bytes) (omega arith)) three) f.1.action_fits in
        let to_there : field 2 s (st.at + to_at) ≡ Ok t.to =
        stands_field 2 (omega arith) (stands_second (bytes 2 t.from ++ bytes 4 t.weight ++ bytes 2 t.action) _ (simp (length-append, length_bytes) (omega arith)) stands) (omega arith) in
        good_bind _ (good_source s st.at n st.prev st.at from_there f.1.from_named f.0)
        (good_bind _ weight_there (good_bind _ action_there (good_bind _ (good_below 2 s (st.at + to_at) n _ to_there f.1.to_named) refl)));
    moves = λ st t. rw transition_length;
  }

-- ---- whole messages

-- the bytes of the counts
abbrev write_counts : Model → List ℕ
write_counts M = bytes 2 M.states ++ bytes 1 M.propositions ++ bytes 4 (length M.transitions)

body_length : (M : Model) → start_width + length (write_body M) ≡ model_length (length M.labels) (length M.transitions)
unfolding write_body
body_length M = simp (length-append, length_bytes, length_write_all (bytes 4) label_width (length_bytes 4), length_write_all write_transition transition_width transition_length) (omega arith)

-- the body of a message, part by part
record Laid (s : List ℕ) (M : Model) : Type 0 where
  states_there : Stands s states_count.at (bytes 2 M.states)
  propositions_there : Stands s propositions_count.at (bytes 1 M.propositions)
  count_there : Stands s transitions_count.at (bytes 4 (length M.transitions))
  labels_there : Stands s model_header (write_all (bytes 4) M.labels)
  transitions_there : Stands s (label_at (length M.labels)) (write_all write_transition M.transitions)

laid_body : {s : List ℕ} (M : Model) → Laid s M → Stands s start_width (write_body M)
unfolding write_body
laid_body {s} M l =
    let two : Stands s start_width (bytes 2 M.states ++ bytes 1 M.propositions) = stands_both (simp length_bytes) l.states_there l.propositions_there in
    let counts_there : Stands s start_width (write_counts M) = stands_both (simp (length-append, length_bytes)) two l.count_there in
    let front : Stands s start_width (write_counts M ++ write_all (bytes 4) M.labels) = stands_both (simp (length-append, length_bytes)) counts_there l.labels_there in
    stands_both (simp (length-append, length_bytes, length_write_all (bytes 4) label_width (length_bytes 4)) (omega arith)) front l.transitions_there

body_laid : {s : List ℕ} (M : Model) → Stands s start_width (write_body M) → Laid s M
unfolding write_body
body_laid {s} M h =
    let front : Stands s start_width (write_counts M ++ write_all (bytes 4) M.labels) = stands_first _ _ h in
    let counts_there : Stands s start_width (write_counts M) = stands_first _ _ front in
    let two : Stands s start_width (bytes 2 M.states ++ bytes 1 M.propositions) = stands_first _ _ counts_there in
    record {
      states_there = stands_first _ _ two;
      propositions_there = stands_second (bytes 2 M.states) _ (simp length_bytes) two;
      count_there = stands_second (bytes 2 M.states ++ bytes 1 M.propositions) _ (simp (length-append, length_bytes)) counts_there;
      labels_there = stands_second (write_counts M) _ (simp (length-append, length_bytes)) front;
      transitions_there = stands_second (write_counts M ++ write_all (bytes 4) M.labels) _ (simp (length-append, length_bytes, length_write_all (bytes 4) label_width (length_bytes 4)) (omega arith)) h;
    }

-- parts that a good message has make it good
good_model : {s : List ℕ} (M : Model) → ModelAt s M → read_model s ≡ Ok M
unfolding read_model
good_model M p =
    good_bind _ p.header (good_bind _ p.labels_there (good_bind _ p.transitions_there refl))

-- a model is well-formed when its counts are within their limits and its records are those that the states demand
fits_well : {s : List ℕ} {M : Model} {middle : ℕ} → HeaderAt s (counts_of M) → length M.labels ≡ M.states
    → FitsAll (labels s M.propositions) (λ st l. l < 2 ^ M.propositions) (start model_header) M.labels
    → FitsAll (transitions s M.states) (TransitionNext M.states) (start middle) M.transitions
    → WellFormed M
fits_well {s} {M} header labelled ls ts =
    let T = transitions s M.states in
    let each : (t : Transition) → t ∈ M.transitions → TransitionFits M.states t = λ t m. fits_each T (fits_map T (λ st t p. p.1) ts) m in
    record {
      some_state = header.states_counted.no_less;
      states_fit = header.states_counted.no_more;
      propositions_fit = header.propositions_counted.no_more;
      transitions_fit = header.transitions_counted.no_more;
      labelled = labelled;
      labels_fit = λ m. fits_each (labels s M.propositions) {P = λ (l : ℕ). l < 2 ^ M.propositions} ls m;
      ordered = fits_rising T (λ st. st.prev) (λ t. t.from) (λ st t. refl) (fits_map T (λ st t p. p.0) ts);
      from_named = λ m. (each _ m).from_named;
      to_named = λ m. (each _ m).to_named;
      weights_fit = λ m. (each _ m).weight_fits;
      actions_fit = λ m. (each _ m).action_fits;
    }

-- and the other way round
module _ (s : List ℕ) (M : Model) (w : WellFormed M) where
  labels_well : FitsAll (labels s M.propositions) (λ st l. l < 2 ^ M.propositions) (start model_header) M.labels
  labels_well = each_fits (labels s M.propositions) _ _ (λ l m. w.labels_fit m)

  transitions_well : (middle : ℕ) → FitsAll (transitions s M.states) (TransitionNext M.states) (start middle) M.transitions
  transitions_well middle =
      let T = transitions s M.states in
      fits_both T (rising_fits T (λ st. st.prev) (λ t. t.from) (λ st t. refl) (start middle) _ w.ordered)
      (each_fits T _ _ (λ t m. record {
        from_named = w.from_named m;
        to_named = w.to_named m;
        weight_fits = w.weights_fit m;
        action_fits = w.actions_fit m;
      }))

pub accepted_written : (s : List ℕ) (M : Model) → Bytes s → read_model s ≡ Ok M → (s ≡ write_model M) × WellFormed M
unfolding write_model
accepted_written s M b e =
    let p = model_good {s = s} {M = M} e in
    let header = header_good s _ p.header in
    let started = start_reads model_head b header.opened in
    let ls = all_reads (labels_exact s M.propositions header.propositions_counted.no_more) b _ _ _ p.labels_there in
    let ts = all_reads (transitions_exact s M.states (omega arith)) b _ _ _ p.transitions_there in
    let body = laid_body M (record {
      states_there = (value_stands 2 b header.states_counted.there).0;
      propositions_there = (value_stands 1 b header.propositions_counted.there).0;
      count_there = (value_stands 4 b header.transitions_counted.there).0;
      labels_there = ls.0;
      transitions_there = rw p.labelled ts.0;
    }) in
    let rest : drop start_width s ≡ write_body M = stands_last body (omega (arith, body_length M, p.labelled, header.long)) in
    (started.whole ∙ ap (message model_head) rest, fits_well header p.labelled ls.1 ts.1)

pub written_accepted : (M : Model) → WellFormed M → read_model (write_model M) ≡ Ok M
unfolding read_header write_model
written_accepted M w =
    let s : List ℕ = message model_head (write_body M) in
    let laid = body_laid M (message_rest model_head (write_body M)) in
    let long : start_width + length (write_body M) ≡ model_length M.states (length M.transitions) = rw w.labelled at (body_length M) in
    let total : length s ≡ model_length M.states (length M.transitions) = omega (arith, message_length model_head (write_body M)) in
    let opened = start_written (write_body M) model_head (omega arith) (omega arith) (omega arith) (omega arith) in
    let middle : ℕ = label_at M.states in
    let labels_read = all_written (labels_exact s M.propositions w.propositions_fit) (start model_header) M.labels laid.labels_there (labels_well s M w) in
    good_model M (record {
      header =
          good_after opened
          (good_bind _ (good_count s states_count (stands_field 2 (omega arith) laid.states_there (omega arith)) w.some_state w.states_fit)
          (good_bind _ (good_count s propositions_count (stands_field 1 (omega arith) laid.propositions_there (omega arith)) (omega arith) w.propositions_fit)
          (good_bind _ (good_count s transitions_count (stands_field 4 (omega arith) laid.count_there (omega arith)) (omega arith) w.transitions_fit)
          (good_demand _ (eq-eqb _ _ total) refl))));
      labelled = w.labelled;
      labels_there = rw w.labelled at labels_read;
      transitions_there =
          all_written (transitions_exact s M.states (omega arith)) (start middle) M.transitions (rw w.labelled at laid.transitions_there) (transitions_well s M w middle);
    })

pub accepted_exactly : (s : List ℕ) (M : Model) → Bytes s → (read_model s ≡ Ok M) ↔ ((s ≡ write_model M) × WellFormed M)
accepted_exactly s M b = (accepted_written s M b, λ p. ap read_model p.0 ∙ written_accepted M p.1)

-- two well-formed models are never written alike
pub writing_tells : {M N : Model} → WellFormed M → WellFormed N → write_model M ≡ write_model N → M ≡ N
writing_tells {M} {N} v w e = good_same (sym (written_accepted M v) ∙ ap read_model e ∙ written_accepted N w)
