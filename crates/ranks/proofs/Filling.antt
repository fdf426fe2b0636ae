-- The rooms of the writer: words cleared, claims begun, and what the filled rooms hold. Assumes nothing.
use Prim.Native.Nat.{ℕ, suc, ◌+◌, ◌-◌, ◌*◌, ◌<◌, ◌≤◌}
use mathlib.Core.List.{List, ◌++◌}
use mathlib.Core.Logic.{inl}
use mathlib.Core.Path.{◌≡◌, refl, sym, ap, ◌∙◌}
use lib.ListN.{length, drop, get_or, replicate, length-append}
use lib.Seq.{drop-drop, drop-append-add}
use native.Mathlib.Decide.{ℕ_discrete}
use native.Mathlib.Omega.{arith}
use Rattle.value.specs.Stored.{infinite, stored, meaning}
use Rattle.value.proofs.Stored.{meaning_stored}
use Rattle.wire.specs.Bytes.{number, put}
use Rattle.wire.specs.Field.{long_width}
use Rattle.rules.specs.Graph.{Graph, Closed}
use Rattle.rules.specs.Rounds.{rounds, Agree}
use Rattle.rules.specs.Count.{count}
use Rattle.rules.specs.Walks.{CoverCycle}
use Rattle.rules.proofs.Cycles.{free_count}
use Rattle.turns.specs.declared.Outcome.{Outcome}
use Rattle.turns.specs.Outcome.{outcome_count, stored_values, filled, ended}
use Rattle.graph.specs.Ready.{Storable}
use Rattle.rounds.proofs.Promised.{stored_length, filled_at}
use Rattle.rounds.proofs.Laws.{settled_within}
use Rattle.support.specs.Claims.{rank_at, claim_width, claimed_value, claimed_rank, AcceptsClaims}
use Rattle.ranks.specs.Answers.{Filled}
use Rattle.ranking.specs.Ranking.{unranked, Kept}
use Rattle.ranks.specs.Begun.{Begun}
use Rattle.support.proofs.Accepted.{accepted_largest}
use Rattle.ranking.proofs.Puts.{put_length, put_other, put_same, put_past}

-- ---- claims that are begun one after another

pub begun_none : (words b : List ℕ) → Begun 0 words b b
begun_none words b = record { same_length = refl; values = λ v l. absurd (omega arith); ranks = λ v l. absurd (omega arith); past = refl }

module _ {v : ℕ} {words b₀ b : List ℕ} (d : Begun v words b₀ b) (fits : (v + 1) * claim_width ≤ length b₀) {value : ℕ} (is : value ≡ get_or words v 0) (small : value ≤ infinite) where
  at : ℕ
  at = v * claim_width

  b₁ : List ℕ
  b₁ = put b (v * claim_width) long_width value

  b₂ : List ℕ
  b₂ = put b₁ (v * claim_width + rank_at) long_width unranked

  inside : v * claim_width + long_width ≤ length b
  inside = omega (arith, d.same_length)

  inside_rank : v * claim_width + rank_at + long_width ≤ length b₁
  unfolding b₁
  inside_rank = omega (arith, d.same_length, put_length b (v * claim_width) long_width value inside)

  pub begun_more : Begun (v + 1) words b₀ (put (put b (v * claim_width) long_width value) (v * claim_width + rank_at) long_width unranked)
  unfolding b₁
  begun_more = record {
    same_length = put_length b₁ (v * claim_width + rank_at) long_width unranked inside_rank ∙ put_length b (v * claim_width) long_width value inside ∙ d.same_length;
    values = λ u l. value_at u l (ℕ_discrete u v);
    ranks = λ u l. rank_here u l (ℕ_discrete u v);
    past =
        put_past b₁ (v * claim_width + rank_at) long_width unranked inside_rank ((v + 1) * claim_width) (omega arith)
        ∙ put_past b (v * claim_width) long_width value inside ((v + 1) * claim_width) (omega arith) ∙ behind;
  }
    where
      step : v * claim_width + 16 ≡ (v + 1) * claim_width
      step = omega arith

      behind : drop ((v + 1) * claim_width) b ≡ drop ((v + 1) * claim_width) b₀
      behind =
          ap (λ (n : ℕ). drop n b) (sym step) ∙ sym (drop-drop 16 (v * claim_width) b) ∙ ap (drop 16) d.past ∙ drop-drop 16 (v * claim_width) b₀
          ∙ ap (λ (n : ℕ). drop n b₀) step

      value_at : (u : ℕ) → u < v + 1 → Dec (u ≡ v) → number long_width (put b₁ (v * claim_width + rank_at) long_width unranked) (u * claim_width) ≡ get_or words u 0
      value_at u l (yes e) =
          rw e (put_other b₁ (v * claim_width + rank_at) long_width unranked inside_rank long_width (v * claim_width) (inl (omega arith))
          ∙ put_same b (v * claim_width) long_width value inside (omega arith) ∙ is)
      value_at u l (no e) =
          put_other b₁ (v * claim_width + rank_at) long_width unranked inside_rank long_width (u * claim_width) (inl (omega arith))
          ∙ put_other b (v * claim_width) long_width value inside long_width (u * claim_width) (inl (omega arith)) ∙ d.values u (omega arith)

      rank_here : (u : ℕ) → u < v + 1 → Dec (u ≡ v) → claimed_rank (put b₁ (v * claim_width + rank_at) long_width unranked) u ≡ unranked
      rank_here u l (yes e) = rw e (put_same b₁ (v * claim_width + rank_at) long_width unranked inside_rank (omega arith))
      rank_here u l (no e) =
          put_other b₁ (v * claim_width + rank_at) long_width unranked inside_rank long_width (u * claim_width + rank_at) (inl (omega arith))
          ∙ put_other b (v * claim_width) long_width value inside long_width (u * claim_width + rank_at) (inl (omega arith)) ∙ d.ranks u (omega arith)

-- ---- the rounds settle, and the claims are begun from their room

-- what is behind the two rounds stays
pub filled_past : (g : Graph) (m k : ℕ) (b : List ℕ) → g.nodes + g.nodes ≤ k → drop k (filled g m b) ≡ drop k b
unfolding filled
filled_past g m k b l =
    let n = g.nodes in
    let front = stored_values n (rounds g m) ++ stored_values n (rounds g (suc m)) in
    let long : length front ≡ n + n = simp length-append (omega (arith, stored_length n (rounds g m), stored_length n (rounds g (suc m)))) in
    let r = k - (n + n) in
    let here : k ≡ length front + r = omega arith in
    let there : n + n + r ≡ k = omega arith in
    ap (λ (j : ℕ). drop j (front ++ drop (n + n) b)) here ∙ drop-append-add front (drop (n + n) b) r ∙ drop-drop r (n + n) b ∙ ap (λ (j : ℕ). drop j b) there

module _ (g : Graph) (closed : Closed g) (storable : Storable g) (free : ¬ CoverCycle g) where
  -- within n rounds
  settles : {r : Outcome} → r ≡ ended g g.nodes → outcome_count r ≡ count g
  settles e = ap outcome_count (e ∙ settled_within g g.nodes (free_count g closed free))

  -- so the claims hold the settled values
  pub begun_agree : {r : Outcome} (words₀ : List ℕ) {words b₀ b : List ℕ} → r ≡ ended g g.nodes → words ≡ filled g (outcome_count r) words₀ → Begun g.nodes words b₀ b
      → Agree g (claimed_value b) (rounds g (count g))
  begun_agree words₀ e is d v l =
      let held = d.values v l ∙ ap (λ (x : List ℕ). get_or x v 0) is ∙ filled_at g _ words₀ v l ∙ ap (λ (m : ℕ). stored (rounds g m v)) (settles e) in
      ap meaning held ∙ meaning_stored (rounds g (count g) v) (λ k q. storable (count g) v k l q)

  -- and once they are ranked and the words are cleared, both rooms are as they should be
  pub filled_rooms : (r : Outcome) (words : List ℕ) {claims words₁ words₂ b b' : List ℕ} → words₁ ≡ filled g (outcome_count r) words → Begun g.nodes words₁ claims b
      → words₂ ≡ replicate (g.nodes * 8) 0 ++ drop (g.nodes * 8) words₁ → Kept g.nodes b b' → AcceptsClaims g b' → Filled g claims words b' words₂
  filled_rooms r words is d cleared k ok = record {
    largest = accepted_largest g closed ok;
    accepted = ok;
    same_length = k.same_length ∙ d.same_length;
    rest_stays = k.past ∙ d.past;
    words_are = cleared ∙ ap (λ (x : List ℕ). replicate (g.nodes * 8) 0 ++ x)
        (ap (drop (g.nodes * 8)) is ∙ filled_past g _ (g.nodes * 8) words (omega arith));
  }
