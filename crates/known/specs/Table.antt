-- The known graphs T1 to T15, those of T13 to T15 built of model M: with a budget, the paper's number, the reported count, the values of
-- that round, and for a question the verdict on each state.
use Rattle.std.specs.Prelude.{ℕ, suc, zero, Option, Some, List, [], ◌∷◌, ◌++◌, map}
use Rattle.value.specs.Value.{Value, fin, inf}
use Rattle.value.specs.declared.Bound.{Bound}
use Rattle.value.specs.declared.Bound.TheVariants.{Within, Unbounded}
use Rattle.wire.specs.Read.{Ok}
use Rattle.rules.specs.Graph.{Hyper, Cover}
use Rattle.rules.specs.Rounds.{rounds}
use Rattle.graph.specs.Stored.{StoredGraph, ruled}
use Rattle.turns.specs.Outcome.{outcome_number, outcome_count, ended}
use Rattle.reduction.specs.Built.{to, hyper}
use Rattle.settling.specs.declared.Verdict.{Verdict}
use Rattle.settling.specs.declared.Verdict.TheVariants.{Yes, No}
use Rattle.questions.specs.Question.{Question, graph_for}
use Rattle.settling.specs.Answer.{answer_verdict, answer_of}
use Rattle.known.specs.Questions.{T13, T14, T15}

-- a cover edge, and a graph
abbrev pub cover : ℕ → Bound → ℕ → Cover
cover v b u = record { source = v; bound = b; target = u }

abbrev pub graph : ℕ → List Hyper → List Cover → StoredGraph
graph n hs cs = record { nodes = n; hypers = hs; covers = cs }

-- f of so many numbers, from v on
abbrev pub each_from : {A : Type 0} → ℕ → ℕ → (ℕ → A) → List A
each_from v zero f = []
each_from v (suc left) f = f v ∷ each_from (suc v) left f

-- what is worked on: a graph, or a question
pub data Subject : Type 0 where
  alone : StoredGraph → Subject
  asked : Question → Subject

abbrev pub graph_in : Subject → StoredGraph
graph_in (alone g) = g
graph_in (asked question) = graph_for question

-- the verdict on each state of a question
abbrev pub verdicts_in : Subject → (budget : ℕ) → List (Option Verdict)
verdicts_in (alone g) budget = []
verdicts_in (asked question) budget = each_from 0 question.model.states (λ state. answer_verdict (answer_of (Ok question) state budget))

-- what a budget of rounds gives
pub record Given : Type 0 where
  pub number : ℕ
  pub count : ℕ
  pub values : List Value
  pub verdicts : List (Option Verdict)

-- a row of the table: a graph or a question, a budget, and what the paper says they give
pub record Row : Type 0 where
  pub subject : Subject
  pub budget : ℕ
  pub gives : Given

-- as the definitions have it
abbrev pub worked : Row → Given
worked r =
    let g = ruled (graph_in r.subject) in
    let e = ended g r.budget in
    record {
      number = outcome_number e;
      count = outcome_count e;
      values = each_from 0 g.nodes (rounds g (outcome_count e));
      verdicts = verdicts_in r.subject r.budget;
    }

-- a row by its parts: of a graph, and of a question
abbrev pub row : StoredGraph → (budget number count : ℕ) → List Value → Row
row g b k m vs = record { subject = alone g; budget = b; gives = record { number = k; count = m; values = vs; verdicts = [] } }

abbrev pub ask : Question → (budget number count : ℕ) → List Value → List Verdict → Row
ask q b k m vs ys = record { subject = asked q; budget = b; gives = record { number = k; count = m; values = vs; verdicts = map Some ys } }

-- the graph G of the paper, and T10 with the bound and the further hyperedges of node 1
abbrev pub G : StoredGraph
G =
    graph 4 (hyper 1 (to 3 2 ∷ to 1 3 ∷ []) ∷ hyper 1 (to 7 3 ∷ []) ∷ hyper 2 (to 1 3 ∷ []) ∷ hyper 3 [] ∷ [])
    (cover 0 (Within 5) 1 ∷ [])

abbrev T10 : ℕ → List Hyper → StoredGraph
T10 k more = graph 3 (hyper 1 (to 5 2 ∷ []) ∷ more ++ (hyper 2 [] ∷ [])) (cover 0 (Within k) 1 ∷ [])

-- T12: T10 where 1 has also {(0,0)}
abbrev pub T12 : StoredGraph
T12 = T10 5 (hyper 1 (to 0 0 ∷ []) ∷ [])

-- a budget of 1, 2 and 3 is BUDGET on G; of 4 it is OK
abbrev pub known : List Row
known =
    row G 1 1 1 (inf ∷ inf ∷ inf ∷ fin 0 ∷ [])
    ∷ row G 2 1 2 (inf ∷ fin 7 ∷ fin 1 ∷ fin 0 ∷ [])
    ∷ row G 3 1 3 (inf ∷ fin 4 ∷ fin 1 ∷ fin 0 ∷ [])
    ∷ row G 4 0 4 (fin 0 ∷ fin 4 ∷ fin 1 ∷ fin 0 ∷ [])
    ∷ row (graph 1 [] []) 9 0 0 (inf ∷ [])
    ∷ row (graph 1 (hyper 0 [] ∷ []) []) 9 0 1 (fin 0 ∷ [])
    ∷ row (graph 1 (hyper 0 (to 0 0 ∷ []) ∷ []) []) 9 0 0 (inf ∷ [])
    ∷ row (graph 2 [] (cover 0 Unbounded 1 ∷ [])) 9 0 0 (inf ∷ inf ∷ [])
    ∷ row (graph 2 (hyper 1 [] ∷ []) (cover 0 Unbounded 1 ∷ [])) 9 0 2 (fin 0 ∷ fin 0 ∷ [])
    ∷ row (T10 5 []) 9 0 3 (fin 0 ∷ fin 5 ∷ fin 0 ∷ [])
    ∷ row (T10 4 []) 9 0 2 (inf ∷ fin 5 ∷ fin 0 ∷ [])
    ∷ row T12 9 0 4 (fin 0 ∷ fin 0 ∷ fin 0 ∷ [])
    ∷ ask T13 9 0 4 (fin 0 ∷ inf ∷ inf ∷ fin 0 ∷ fin 0 ∷ fin 0 ∷ fin 2 ∷ fin 0 ∷ []) (Yes ∷ Yes ∷ [])
    ∷ ask T14 9 0 3 (fin 0 ∷ inf ∷ inf ∷ fin 0 ∷ inf ∷ fin 0 ∷ fin 2 ∷ fin 0 ∷ []) (No ∷ Yes ∷ [])
    ∷ ask T15 9 0 3 (fin 0 ∷ inf ∷ inf ∷ fin 0 ∷ inf ∷ fin 0 ∷ inf ∷ fin 0 ∷ []) (No ∷ Yes ∷ [])
    ∷ []
