-- The graph of a question alone: what the builder answers and leaves where values enough are lent, and what the customer is promised of it.
-- Assumes nothing.
use Prim.Native.Nat.{ℕ, ◌+◌}
use mathlib.Core.List.{List, ◌++◌}
use mathlib.Core.Bool.{Bool, true, false, cond, and-true}
use mathlib.Core.Path.{◌≡◌, refl, ◌∙◌}
use lib.ListN.{length, drop}
use lib.Dec.{leb}
use borrow.Author.Tests.{le-leb}
use native.Mathlib.Omega.{arith}
use Rattle.lists.proofs.Tests.{by_test}
use Rattle.refusal.specs.Number.{nowhere, unplaced}
use Rattle.refusal.specs.declared.Fault.{Fault}
use Rattle.refusal.specs.declared.Refusal.TheVariants.{Room, Size}
use Rattle.refusal.proofs.Numbers.{number_above}
use Rattle.wire.specs.Bytes.{Bytes}
use Rattle.wire.specs.Read.{Read, Ok, Err, ◌>>=◌, ◌>>◌, unless, demand}
use Rattle.wire.proofs.Reading.{good_then, bad_then}
use Rattle.rules.specs.Graph.{Graph}
use Rattle.graph.specs.Write.{write_graph}
use Rattle.build.specs.Built.{fits, roomy, built_of, built_room}
use Rattle.build.proofs.Writing.{fits_each}
use Rattle.questions.specs.Question.{Question, read_question, graph_for}
use Rattle.settling.specs.Answer.{sized, read_built, built_alone, bytes_of}
use Rattle.states.specs.Promise.{Asks, PromiseGraph}
use Rattle.states.proofs.Fitting.{stands}
use Rattle.states.proofs.Promised.{asks}

-- a graph that passes no limit has room for two rounds in 8,192 values, so only its message has to fit
enough_values : (g : Graph) (b : List ℕ) → fits g ≡ true → roomy g b 8192 ≡ leb (length (write_graph g)) (length b)
unfolding roomy
enough_values g b e = rw (le-leb (g.nodes + g.nodes) 8192 (omega (arith, (fits_each g e).nodes_fit))) (and-true _)

-- a refusal's number is not OK's
refused : (m f b : List ℕ) (e : Fault) → PromiseGraph m f b b (Err e)
refused m f b e = let above = number_above e.refusal in record { builds = λ z. absurd (omega arith); refuses = λ z. (refl, refl) }

module _ (q : Question) (b : List ℕ) where
  abbrev g : Graph
  g = graph_for q

  abbrev w : List ℕ
  w = write_graph g

  built_is : (built_of g b 8192 ≡ built_alone (sized q b)) × (built_room g b 8192 ≡ bytes_of (sized q b) b)
  unfolding built_of built_room built_alone bytes_of sized ◌>>◌ unless
  built_is = by_test (fits g) (λ e. rw (e, enough_values g b e) (fitting (leb (length w) (length b)))) (λ e. rw e (refl, refl))
    where
      fitting : (u : Bool) → (◌≡◌ {A = Read ℕ} (cond u (Ok (length w)) (Err (unplaced Room))) (built_alone (demand u Room nowhere >> Ok q)))
          × (cond u (w ++ drop (length w) b) b ≡ bytes_of (demand u Room nowhere >> Ok q) b)
      fitting true = (refl, refl)
      fitting false = (refl, refl)

  -- what is promised of it
  kept_sized : (m f : List ℕ) → Asks m f q → PromiseGraph m f b (bytes_of (sized q b) b) (built_alone (sized q b))
  unfolding built_alone bytes_of sized ◌>>◌ unless
  kept_sized m f asked = go (fits g) (leb (length w) (length b)) refl
    where
      go : (t u : Bool) → fits g ≡ t → let x = demand t Size nowhere >> (demand u Room nowhere >> Ok q) in PromiseGraph m f b (bytes_of x b) (built_alone x)
      go true true e = record {
        builds = λ z. record { question = q; asked = asked; graph = stands q asked.model_fits asked.formula_fits e b refl refl };
        refuses = λ z. absurd (omega arith);
      }
      go true false e = refused m f b (unplaced Room)
      go false u e = refused m f b (unplaced Size)

-- whatever is read
module _ (m f : List ℕ) (mb : Bytes m) (fb : Bytes f) (b : List ℕ) where
  kept_graph : let x = read_built m f b in PromiseGraph m f b (bytes_of x b) (built_alone x)
  unfolding built_alone bytes_of read_built
  kept_graph = read (read_question m f) refl
    where
      read : (x : Read Question) → read_question m f ≡ x → let y = x >>= λ q. sized q b in PromiseGraph m f b (bytes_of y b) (built_alone y)
      read (Ok q) e = rw (good_then q (λ q. sized q b)) (kept_sized q b m f (asks m f q mb fb e))
      read (Err r) e = rw (bad_then r (λ q. sized q b)) (refused m f b r)

  -- what is shown of a call
  abbrev pub ShownGraph : Read ℕ → List ℕ → Type 0
  ShownGraph r b' = let x = read_built m f b in (r ≡ built_alone x) × ((b' ≡ bytes_of x b) × PromiseGraph m f b b' r)

  shown : (r : Read ℕ) (b' : List ℕ) → r ≡ built_alone (read_built m f b) → b' ≡ bytes_of (read_built m f b) b → ShownGraph r b'
  shown r b' p s = (p, (s, rw (p, s) kept_graph))

  -- the model or the formula is refused
  pub graph_refused : {e : Fault} → read_question m f ≡ Err e → ShownGraph (Err e) b
  unfolding built_alone bytes_of read_built
  graph_refused {e} h = let is : read_built m f b ≡ Err e = rw h (bad_then _ _) in shown _ _ (rw is) (rw is)

  -- both are accepted
  pub graph_built : {q : Question} {r : Read ℕ} {b' : List ℕ} → read_question m f ≡ Ok q
      → (r ≡ built_of (graph_for q) b 8192) × (b' ≡ built_room (graph_for q) b 8192) → ShownGraph r b'
  unfolding read_built
  graph_built {q} reads s =
      let is : read_built m f b ≡ sized q b = rw reads (good_then _ _) in
      shown _ _ (rw is (s.0 ∙ (built_is q b).0)) (rw is (s.1 ∙ (built_is q b).1))
