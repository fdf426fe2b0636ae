-- What is shown of a call, from what was found: a fault, too little room, or the rounds that were run. Assumes nothing.
use Prim.Native.Nat.{ℕ, ◌+◌, ◌≤◌, ◌<◌}
use mathlib.Core.List.{List}
use mathlib.Core.Path.{◌≡◌, refl, ap, ◌∙◌}
use lib.ListN.{length}
use borrow.Author.Tests.{lt-leb, le-leb}
use Rattle.refusal.specs.Number.{unplaced}
use Rattle.refusal.specs.declared.Fault.{Fault}
use Rattle.refusal.specs.declared.Refusal.TheVariants.{Room}
use Rattle.wire.specs.Bytes.{Bytes}
use Rattle.wire.specs.Read.{Read, Ok, Err}
use Rattle.wire.proofs.Reading.{bad_then, reading}
use Rattle.wire.proofs.Exact.{good_bind, good_demand}
use Rattle.graph.specs.Message.{read_graph}
use Rattle.graph.specs.Answers.{checked}
use Rattle.graph.specs.Layouts.{decoded}
use Rattle.graph.proofs.Answered.{checked_refused}
use Rattle.graph.proofs.Ready.{Begin}
use Rattle.turns.specs.declared.Outcome.{Outcome}
use Rattle.turns.specs.Outcome.{outcome_count, filled, read_rounds, ended, outcome_of, rounds_room}
use Rattle.rounds.specs.Promise.{Promise}
use Rattle.rounds.proofs.Promised.{kept}
use Rattle.rounds.proofs.Laws.{count_reported}

-- what is shown of a call: its answer, its room, and so the promise
abbrev pub Shown : (s : List ℕ) (budget : ℕ) (before after : List ℕ) → Read Outcome → Type 0
Shown s budget before after r =
    (r ≡ outcome_of (read_rounds s before) budget) × ((after ≡ rounds_room (read_rounds s before) budget before) × Promise s budget before after r)

module _ (s : List ℕ) (budget : ℕ) (b₀ : List ℕ) (bytes : Bytes s) where
  shown : (b : List ℕ) (r : Read Outcome) → r ≡ outcome_of (read_rounds s b₀) budget → b ≡ rounds_room (read_rounds s b₀) budget b₀ → Shown s budget b₀ b r
  shown b r p q = (p, (q, rw (p, q) (kept s budget b₀ bytes)))

  -- a fault of the graph or of the room
  stopped : {e : Fault} → read_rounds s b₀ ≡ Err e → Shown s budget b₀ b₀ (Err e)
  unfolding outcome_of rounds_room
  stopped h = shown b₀ _ (rw h) (rw h)

  -- a refused message
  pub shown_refused : {e : Fault} → checked (read_graph s) ≡ Err e → Shown s budget b₀ b₀ (Err e)
  unfolding read_rounds
  shown_refused h = stopped (rw (checked_refused (read_graph s) h) (bad_then _ _))

  module _ {n h c : ℕ} (begun : Begin s n h c) where
    -- too little room
    pub shown_room : length b₀ < n + n → Shown s budget b₀ b₀ (Err (unplaced Room))
    unfolding read_rounds decoded
    shown_room l = stopped (rw begun.reads (simp reading (rw (lt-leb (n + n) (length b₀) l) (simp reading))))

    roomy : n + n ≤ length b₀ → read_rounds s b₀ ≡ Ok (decoded s n h c)
    unfolding read_rounds decoded
    roomy l = good_bind _ begun.reads (good_demand _ (le-leb (n + n) (length b₀) l) refl)

    -- the rounds were run
    pub shown_ran : (b : List ℕ) (r : Outcome) → n + n ≤ length b₀ → r ≡ ended (decoded s n h c) budget → b ≡ filled (decoded s n h c) (outcome_count r) b₀ → Shown s budget b₀ b (Ok r)
    unfolding outcome_of rounds_room
    shown_ran b r l p q =
        let is = roomy l in
        let count_is = ap outcome_count p ∙ count_reported (decoded s n h c) budget in
        shown b (Ok r) (rw (is, p) refl) (rw is (q ∙ ap (λ (m : ℕ). filled (decoded s n h c) m b₀) count_is))
