-- What the checker answers, from what was found. Assumes nothing.
use Prim.Native.Nat.{ℕ, ◌*◌, ◌≤◌}
use mathlib.Core.Bool.{Bool, true, false}
use Rattle.std.specs.Result.{result_and}
use mathlib.Core.List.{List}
use mathlib.Core.Path.{◌≡◌, refl, sym, ap, subst, ◌∙◌}
use lib.ListN.{length}
use borrow.Author.Tests.{eq-eqb, ne_eqb}
use native.Mathlib.Omega.{arith}
use Rattle.refusal.specs.Number.{unplaced}
use Rattle.refusal.specs.declared.Fault.{Fault}
use Rattle.refusal.specs.declared.Refusal.TheVariants.{Length}
use Rattle.wire.specs.Bytes.{Bytes}
use Rattle.wire.specs.Read.{Read, Ok, Err, ◌>>=◌}
use Rattle.wire.specs.Layout.{end}
use Rattle.wire.proofs.Layouts.{items_length}
use Rattle.wire.proofs.Reading.{bad_then, bind_good, good_same, reading}
use Rattle.wire.proofs.Exact.{good_bind, good_demand}
use Rattle.graph.specs.declared.Counts.{Counts}
use Rattle.graph.specs.Stored.{StoredGraph}
use Rattle.graph.specs.Message.{read_header, read_graph}
use Rattle.graph.specs.Answers.{checked, counts_of}
use Rattle.graph.proofs.Answered.{checked_refused}
use Rattle.graph.specs.Format.{graph_header}
use Rattle.graph.specs.Layouts.{hyper_layout, cover_layout, decoded}
use Rattle.graph.proofs.Exact.{accepted_written}
use Rattle.graph.specs.WellFormed.{Accepted}
use Rattle.graph.proofs.Good.{counts, header_good, graph_good}
use Rattle.graph.proofs.Ready.{Begin, begin}
use Rattle.support.specs.Claims.{claim_width, AcceptsClaims}
use Rattle.claims.specs.Answers.{read_claims, Judges}
use Rattle.claims.specs.Promise.{JudgedPromise}
use Rattle.support.proofs.Accepted.{accepted_largest}

-- a message that was checked is the writing of a well-formed graph, within the limits of the table
module _ {s : List ℕ} {n h c : ℕ} (bytes : Bytes s) (begun : Begin s n h c) where
  pub begun_accepted : Accepted s (decoded s n h c)
  begun_accepted = let w = accepted_written s (decoded s n h c) bytes begun.reads in record { writing = w.0; well_formed = w.1 }

  pub begun_nodes : (1 ≤ n) × (n ≤ 4096)
  unfolding decoded
  begun_nodes = let w = begun_accepted.well_formed in (w.some_node, w.nodes_fit)

  pub begun_covers : c ≤ 4096
  unfolding decoded
  begun_covers = omega (arith, begun_accepted.well_formed.covers_fit, items_length (cover_layout s n) c (end (hyper_layout s n) h graph_header))

module _ (s claims : List ℕ) (bytes : Bytes s) where
  -- what is shown of a call: its answer, and so the promise
  abbrev pub Shown : Read Bool → Type 0
  Shown r = Judges (read_claims s claims) claims r × JudgedPromise s claims r

  -- a fault of the graph or of the length
  stopped : {e : Fault} → read_claims s claims ≡ Err e → Shown (Err e)
  stopped {e} h = (subst (λ (x : Read StoredGraph). Judges x claims (Err e)) (sym h) refl, tt)

  shown_bad : {e : Fault} → read_graph s ≡ Err e → Shown (Err e)
  unfolding read_claims
  shown_bad h = stopped (rw h (bad_then _ _))

  -- a fault of the header
  pub shown_header : {e : Fault} → read_header s ≡ Err e → Shown (Err e)
  unfolding read_graph
  shown_header h = shown_bad (rw h (bad_then _ _))

  module _ {n h c : ℕ} (begun : Begin s n h c) where
    shown_length : ¬ (length claims ≡ n * claim_width) → Shown (Err (unplaced Length))
    unfolding read_claims decoded
    shown_length l = stopped (rw begun.reads (simp reading (rw (ne_eqb (length claims) (n * claim_width) l) (simp reading))))

    long : length claims ≡ n * claim_width → read_claims s claims ≡ Ok (decoded s n h c)
    unfolding read_claims decoded
    long l = good_bind _ begun.reads (good_demand _ (eq-eqb (length claims) (n * claim_width) l) refl)

    pub shown_yes : length claims ≡ n * claim_width → AcceptsClaims (decoded s n h c) claims → Shown (Ok true)
    unfolding decoded
    shown_yes l ok = (
      subst (λ (x : Read StoredGraph). Judges x claims (Ok true)) (sym (long l)) ok,
      record {
        graph = decoded s n h c;
        accepted = begun_accepted bytes begun;
        long = l;
        holds = (ok, accepted_largest (decoded s n h c) begun.ready.closed ok);
      },
    )

    shown_no : length claims ≡ n * claim_width → ¬ AcceptsClaims (decoded s n h c) claims → Shown (Ok false)
    unfolding decoded
    shown_no l rejected = (
      subst (λ (x : Read StoredGraph). Judges x claims (Ok false)) (sym (long l)) rejected,
      record { graph = decoded s n h c; accepted = begun_accepted bytes begun; long = l; holds = rejected },
    )

  -- the header was read
  module _ {k : Counts} (head : read_header s ≡ Ok k) where
    begun : {g : StoredGraph} → read_graph s ≡ Ok g → Begin s k.nodes k.hypers k.covers
    unfolding checked ◌>>=◌
    begun {g} r =
        let same : counts g ≡ k = good_same (sym (graph_good {s = s} {g = g} r).header ∙ head) in
        subst (λ (k : Counts). Begin s k.nodes k.hypers k.covers) same (begin s {k = counts_of g} bytes (ap checked r))

    -- a fault of the graph, or else claims of the wrong length, or claims that are accepted, or are not
    shown_other : (other : Read Bool) → ((g : StoredGraph) → read_graph s ≡ Ok g → Shown other) → (x : Read Counts) → x ≡ checked (read_graph s) → Shown (result_and x other)
    unfolding checked
    shown_other other f (Ok t) e = let g = bind_good _ _ (sym e) in f g.value g.first
    shown_other other f (Err e) q = shown_bad (checked_refused (read_graph s) (sym q))

    pub shown_wrong : ¬ (length claims ≡ k.nodes * claim_width) → {x : Read Counts} → x ≡ checked (read_graph s) → Shown (result_and x (Err (unplaced Length)))
    shown_wrong l {x} e = shown_other (Err (unplaced Length)) (λ g q. shown_length (begun q) l) x e

    pub shown_accepted : length claims ≡ k.nodes * claim_width → read_graph s ≡ Ok (decoded s k.nodes k.hypers k.covers)
        → AcceptsClaims (decoded s k.nodes k.hypers k.covers) claims → Shown (Ok true)
    shown_accepted l read ok = shown_yes (begun read) l ok

    pub shown_rejected : length claims ≡ k.nodes * claim_width
        → (read_graph s ≡ Ok (decoded s k.nodes k.hypers k.covers) → ¬ AcceptsClaims (decoded s k.nodes k.hypers k.covers) claims)
        → {x : Read Counts} → x ≡ checked (read_graph s) → Shown (result_and x (Ok false))
    shown_rejected l rejected {x} e = shown_other (Ok false) (λ g q. let b = begun q in shown_no b l (rejected b.reads)) x e

-- a header tells no target
pub header_targets : (s : List ℕ) {k : Counts} → read_header s ≡ Ok k → read_header s ≡ Ok (record { nodes = k.nodes; hypers = k.hypers; covers = k.covers; targets = 0 })
header_targets s {k} e =
    let none = (header_good s k e).no_targets in e ∙ (λ i. Ok (record { nodes = k.nodes; hypers = k.hypers; covers = k.covers; targets = none i }))
