-- What the scans of a message's hyperedges and of its cover edges find. Assumes nothing.
use Rattle.std.proofs.Common.{◌≡◌, ℕ, ◌≤◌, List, Option, length, get_or, ap, arith}
use Rattle.wire.specs.Reader.{one}
use Rattle.wire.specs.Begin.{start}
use Rattle.wire.specs.declared.State.{State}
use Rattle.rules.specs.Graph.{Hyper, Cover}
use Rattle.graph.specs.Format.{graph_header}
use Rattle.graph.specs.Layouts.{hyper_layout, cover_layout}
use Rattle.graph.specs.Message.{hypers, covers}
use Rattle.graph.proofs.Fused.{hyper_fits, cover_fits}
use Rattle.graph.proofs.Turns.{hyper_next, cover_next}
use Rattle.support.specs.Claims.{claimed_value, claimed_rank}
use Rattle.support.specs.Backing.{HyperFair, HyperBacks, CoverFair, CoverBacks}
use Rattle.edges.specs.Found.{EdgeFound}
use Rattle.edges.specs.declared.Edge.{Edge}
use Rattle.claims.specs.Chain.{Chain}
use Rattle.claims.specs.Scans.{Scanned}
use Rattle.claims.proofs.Marking.{chain_scanned}

module _ (s : List ℕ) (n : ℕ) (few : n ≤ 4096) (claims : List ℕ) where
  -- what is found of a hyperedge, and of a cover edge
  abbrev pub HyperFound : List ℕ → State → Option Edge → Type 0
  HyperFound b st r = let x = claimed_value claims in let e = (hyper_layout s n).item st.at in
      EdgeFound (one (hypers s n) st) (HyperFair x e) (HyperBacks x (claimed_rank claims) e) (get_or b e.source 0 ≡ 1) r

  abbrev pub CoverFound : List ℕ → State → Option Edge → Type 0
  CoverFound b st r = let x = claimed_value claims in let e = (cover_layout s n).item st.at in
      EdgeFound (one (covers s n) st) (CoverFair x e) (CoverBacks x (claimed_rank claims) e) ⊥ r

  -- and of all of them
  abbrev pub HypersScanned : (h : ℕ) → (b₀ b : List ℕ) → Option ℕ → Type 0
  HypersScanned h b₀ b r = let x = claimed_value claims in
      Scanned (hypers s n) (hyper_layout s n) h graph_header (λ (e : Hyper). e.source) (HyperFair x) (HyperBacks x (claimed_rank claims)) b₀ b r

  abbrev pub CoversScanned : (c at : ℕ) → (b₀ b : List ℕ) → Option ℕ → Type 0
  CoversScanned c at b₀ b r = let x = claimed_value claims in
      Scanned (covers s n) (cover_layout s n) c at (λ (e : Cover). e.source) (CoverFair x) (CoverBacks x (claimed_rank claims)) b₀ b r

  pub hypers_scanned : (h : ℕ) (b₀ b : List ℕ) (r : Option ℕ) → length b₀ ≡ 4096 → Chain HyperFound h (start graph_header) b₀ r b → HypersScanned h b₀ b r
  hypers_scanned h b₀ b r long c = let x = claimed_value claims in
      chain_scanned (hypers s n) (hyper_layout s n) (λ e. e.source) (HyperFair x) (HyperBacks x (claimed_rank claims)) (λ b e. get_or b e.source 0 ≡ 1) (λ b e q. q)
      (λ st next e. ap (λ (st : State). st.at) (hyper_next s n st e))
      (λ st next e. let is = ap (λ (st : State). st.prev) (hyper_next s n st e) in (is, omega (arith, is, (hyper_fits s n st e).ok.named)))
      h graph_header b₀ b r long c

  pub covers_scanned : (c at : ℕ) (b₀ b : List ℕ) (r : Option ℕ) → length b₀ ≡ 4096 → Chain CoverFound c (start at) b₀ r b → CoversScanned c at b₀ b r
  covers_scanned c at b₀ b r long chain = let x = claimed_value claims in
      chain_scanned (covers s n) (cover_layout s n) (λ e. e.source) (CoverFair x) (CoverBacks x (claimed_rank claims)) (λ b e. ⊥) (λ b e q. absurd q)
      (λ st next e. ap (λ (st : State). st.at) (cover_next s n st e))
      (λ st next e. let is = ap (λ (st : State). st.prev) (cover_next s n st e) in (is, omega (arith, is, (cover_fits s n st e).ok.named)))
      c at b₀ b r long chain
