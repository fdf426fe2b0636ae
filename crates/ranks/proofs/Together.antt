-- The two contracts together: of what the writer writes the checker says yes. Assumes nothing.
use Prim.Native.Nat.{ℕ, ◌+◌, ◌*◌, ◌≤◌, ◌<◌}
use mathlib.Core.List.Memᴰ
use mathlib.Core.List.{List, [], ◌∷◌}
use mathlib.Core.Logic.{inl}
use mathlib.Core.Path.{◌≡◌, refl, sym, ap, ap₂, subst, ◌∙◌}
use lib.ListN.{length, take}
use lib.Seq.{length-take-le, get_or-take}
use native.Mathlib.Decide.{dec_lt}
use native.Mathlib.Omega.{arith}
use borrow.Author.Tests.{eq-eqb}
use Rattle.lists.specs.Lists.{◌∈◌}
use Rattle.value.specs.Value.{Value, plus, greatest, finite, meets}
use Rattle.value.specs.Stored.{meaning}
use Rattle.wire.specs.Bytes.{Bytes, number}
use Rattle.wire.specs.Field.{long_width}
use mathlib.Core.Bool.{Bool, true, false}
use Rattle.wire.specs.Read.{Read, Ok, Err}
use Rattle.wire.proofs.Exact.{good_bind, good_demand}
use Rattle.rules.specs.Graph.{Graph, Target, Closed}
use Rattle.rules.specs.Rounds.{Assignment, worst, Agree}
use Rattle.rules.proofs.Order.{round_agree}
use Rattle.graph.specs.Stored.{StoredGraph, ruled}
use Rattle.graph.specs.Message.{read_graph}
use Rattle.graph.proofs.Exact.{accepted_written}
use Rattle.support.specs.Claims.{rank_at, claim_width, Support, by_hyper, by_cover, Accepts, AcceptsClaims}
use Rattle.claims.specs.Answers.{claims_length, read_claims, Judges}
use Rattle.ranks.specs.Answers.{Narrow, Filled, WritesOf, filled, Writes}
use Rattle.ranking.proofs.Puts.{number_same}

-- ---- claims are accepted by what they say of the nodes

worst_agree : (x y : Assignment) (ts : List Target) → ((t : Target) → t ∈ ts → y t.node ≡ x t.node) → worst y ts ≡ worst x ts
unfolding worst
worst_agree x y [] f = refl
worst_agree x y (t ∷ ts) f =
    ap₂ (λ (a b : Value). greatest (plus t.weight a) b) (f t (Memᴰ.head refl)) (worst_agree x y ts (λ u m. f u (Memᴰ.tail m)))

module _ (g : Graph) (closed : Closed g) {x y : Assignment} {rank rank' : ℕ → ℕ} (values : Agree g y x) (ranks : (v : ℕ) → v < g.nodes → rank' v ≡ rank v) where
  support_agree : (v : ℕ) → v < g.nodes → Support g x rank v → Support g y rank' v
  support_agree v l (by_hyper h m s e q) = by_hyper h m s
      (worst_agree x y h.targets (λ t n. values t.node (closed.hyper m n)) ∙ e ∙ sym (values v l))
      (λ t n. omega (arith, ranks t.node (closed.hyper m n), ranks v l, q t n))
  support_agree v l (by_cover c m s e q) = by_cover c m s (ap (meets c.bound) (values c.target (closed.cover m)) ∙ e)
      (omega (arith, ranks c.target (closed.cover m), ranks v l))

  accepts_agree : Accepts g x rank → Accepts g y rank'
  accepts_agree ok = record {
    obeys = λ v l. round_agree g closed values v l ∙ ok.obeys v l ∙ sym (values v l);
    supported = λ v l f. support_agree v l (ok.supported v l (ap finite (sym (values v l)) ∙ f));
  }

-- so the first bytes of a room that holds claims are accepted where the room is
module _ (g : Graph) (closed : Closed g) (b : List ℕ) where
  first_number : (v k : ℕ) → v < g.nodes → k + long_width ≤ claim_width → number long_width (take (claims_length g) b) (v * claim_width + k) ≡ number long_width b (v * claim_width + k)
  first_number v k l h = number_same long_width b (take (claims_length g) b) (v * claim_width + k) λ i o. get_or-take (claims_length g) b (v * claim_width + k + i) 0 (omega arith)

  pub first_accepts : AcceptsClaims g b → AcceptsClaims g (take (claims_length g) b)
  first_accepts ok = accepts_agree g closed (λ v l. ap meaning (at_value v l)) (λ v l. first_number v rank_at l (omega arith)) ok
    where
      at_value : (v : ℕ) → v < g.nodes → number long_width (take (claims_length g) b) (v * claim_width) ≡ number long_width b (v * claim_width)
      at_value v l =
          number_same long_width b (take (claims_length g) b) (v * claim_width) λ i o. get_or-take (claims_length g) b (v * claim_width + i) 0 (omega arith)

-- ---- the law

-- there is room for the claims
wide_enough : (g : Graph) (claims words : List ℕ) → ¬ Narrow g claims words → claims_length g ≤ length claims
wide_enough g claims words wide = go (dec_lt (length claims) (claims_length g))
  where
    go : Dec (length claims < claims_length g) → claims_length g ≤ length claims
    go (yes l) = absurd (wide (inl l))
    go (no l) = omega arith

-- claims that were written of a message are accepted: whatever satisfies the checker's contract of the message and them is yes
pub written_accepted : (s : List ℕ) → Bytes s → {g : StoredGraph} → read_graph s ≡ Ok g → (claims words claims' words' : List ℕ)
    → Writes (read_graph s) claims words claims' words' (Ok tt) → (r : Read Bool)
    → Judges (read_claims s (take (claims_length (ruled g)) claims')) (take (claims_length (ruled g)) claims') r → ◌≡◌ {A = Read Bool} r (Ok true)
unfolding read_claims
written_accepted s bytes {g} reads claims words claims' words' w r j =
    go r (subst (λ (x : Read StoredGraph). Writes x claims words claims' words' (Ok tt)) reads w)
    (λ long. subst (λ (x : Read StoredGraph). Judges x (take (claims_length (ruled g)) claims') r)
    (good_bind _ reads (good_demand _ (eq-eqb (length (take (claims_length (ruled g)) claims')) (claims_length (ruled g)) long) refl)) j)
  where
    closed : Closed (ruled g)
    closed = (accepted_written s g bytes reads).1.closed

    long : Filled (ruled g) claims words claims' words' → ¬ Narrow (ruled g) claims words → length (take (claims_length (ruled g)) claims') ≡ claims_length (ruled g)
    long f wide = length-take-le (claims_length (ruled g)) claims' (omega (arith, f.same_length, wide_enough (ruled g) claims words wide))

    go : (r : Read Bool) → WritesOf (ruled g) claims words claims' words' (Ok tt)
        → (length (take (claims_length (ruled g)) claims') ≡ claims_length (ruled g) → Judges (Ok g) (take (claims_length (ruled g)) claims') r) → ◌≡◌ {A = Read Bool} r (Ok true)
    go (Ok true) (filled free wide f) j = refl
    go (Ok false) (filled free wide f) j = absurd (j (long f wide) (first_accepts (ruled g) closed claims' f.accepted))
    go (Err e) (filled free wide f) j = absurd (j (long f wide))
