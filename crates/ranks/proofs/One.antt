-- One answer: two calls with the same arguments that satisfy the contract of a public function agree. The writer's choice of ranks is free, and
-- that alone: the answer, the words, the claimed values and the bytes behind the claims are said exactly.
-- Here a are the arguments, r is the result, and s is what stands in each argument at the end, in the order of the parameters. Assumes nothing.
use Prim.Native.Nat.{ℕ, ◌*◌, ◌<◌}
use mathlib.Core.List.{List}
use mathlib.Core.Path.{◌≡◌, refl, sym, ◌∙◌}
use lib.ListN.{length, drop}
use Rattle.value.specs.Stored.{meaning}
use Rattle.value.proofs.Stored.{by_meaning}
use Rattle.wire.specs.Bytes.{number}
use Rattle.wire.specs.Field.{long_width}
use Rattle.wire.specs.Read.{Read, Ok, Err}
use Rattle.rules.specs.Graph.{Graph}
use Rattle.rules.proofs.Order.{largest_unique}
use Rattle.graph.specs.Stored.{StoredGraph, ruled}
use Rattle.graph.specs.Message.{read_graph}
use Rattle.support.specs.Claims.{claim_width, claimed_value}
use Rattle.claims.specs.Answers.{claims_length}
use Rattle.ranks.specs.Answers.{WritesOf, cyclic, narrow, filled, Writes}
use Rattle.ranks.proofs.write.Reads as write

-- a stored number is known by what it means
meaning_one : (a b : ℕ) → meaning a ≡ meaning b → a ≡ b
meaning_one a b e = by_meaning a (λ p i. by_meaning b (λ q j. p ∙ sym q) (λ q j. cc)) (λ p i. by_meaning b (λ q j. cc) (λ q j. cc))

-- the same claims but for the ranks of the nodes
pub record ButRanks (g : Graph) (claims claims' : List ℕ) : Type 0 where
  pub same_length : length claims ≡ length claims'
  pub values : (v : ℕ) → v < g.nodes → number long_width claims (v * claim_width) ≡ number long_width claims' (v * claim_width)
  pub rest : drop (claims_length g) claims ≡ drop (claims_length g) claims'

-- where claims are written they are the same but for the ranks, and a refusal leaves them as they came
abbrev pub SameClaims : Read StoredGraph → Read Unit → (claims claims' : List ℕ) → Type 0
SameClaims (Ok g) (Ok u) claims claims' = ButRanks (ruled g) claims claims'
SameClaims (Ok g) (Err e) claims claims' = claims ≡ claims'
SameClaims (Err f) r claims claims' = claims ≡ claims'

abbrev pub Same : Read StoredGraph → (c d w x : List ℕ) → (r r' : Read Unit) → Type 0
Same a c d w x r r' = (◌≡◌ {A = Read Unit} r r') × SameClaims a r c d × (w ≡ x)

module _ (g : Graph) (claims words : List ℕ) where
  writes_of_one : {r r' : Read Unit} {c w d x : List ℕ} → WritesOf g claims words c w r → WritesOf g claims words d x r' → Same (Ok g) c d w x r r'
  writes_of_one (cyclic z u) (cyclic z' u') = (refl, u.claims_stay ∙ sym u'.claims_stay, u.words_stay ∙ sym u'.words_stay)
  writes_of_one (cyclic z u) (narrow f n u') = absurd (f z)
  writes_of_one (cyclic z u) (filled f n u') = absurd (f z)
  writes_of_one (narrow f n u) (cyclic z u') = absurd (f z)
  writes_of_one (narrow f n u) (narrow f' n' u') = (refl, u.claims_stay ∙ sym u'.claims_stay, u.words_stay ∙ sym u'.words_stay)
  writes_of_one (narrow f n u) (filled f' n' u') = absurd (n' n)
  writes_of_one (filled f n u) (cyclic z u') = absurd (f z)
  writes_of_one (filled f n u) (narrow f' n' u') = absurd (n n')
  writes_of_one {c = c} {d = d} (filled f n u) (filled f' n' u') = (
    refl,
    record {
      same_length = u.same_length ∙ sym u'.same_length;
      values = λ v l. meaning_one _ _ (largest_unique g (claimed_value c) (claimed_value d) u.largest u'.largest v l);
      rest = u.rest_stays ∙ sym u'.rest_stays;
    },
    u.words_are ∙ sym u'.words_are,
  )

-- the writer's answer and rooms
pub writes_one : (a : Read StoredGraph) (claims words : List ℕ) (r r' : Read Unit) (c w d x : List ℕ) → Writes a claims words c w r → Writes a claims words d x r' → Same a c d w x r r'
writes_one (Ok g) claims words r r' c w d x p q = writes_of_one (ruled g) claims words p q
writes_one (Err e) claims words r r' c w d x p q = (p.0 ∙ sym q.0, p.1.claims_stay ∙ sym q.1.claims_stay, p.1.words_stay ∙ sym q.1.words_stay)

-- `ranks::write`: the answer, the claims but for their ranks, the words
pub one_write : (κs : _) (a : _) (r r' : _) (s s' : _) → write.Post κs a r s → write.Post κs a r' s'
    → (r ≡ r') × SameClaims (read_graph a.0.now) r s.1.0.now s'.1.0.now × (s.1.1.0.now ≡ s'.1.1.0.now)
one_write κs a r r' s s' p q =
    writes_one (read_graph a.0.now) a.1.0.now a.1.1.0.now r r' s.1.0.now s.1.1.0.now s'.1.0.now s'.1.1.0.now p.0 q.0
