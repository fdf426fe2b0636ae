-- Where an edge that is read leads: its source is a node, and the next one may be read too. Assumes nothing.
use Rattle.std.proofs.Common.{◌≡◌, ℕ, ◌+◌, ◌-◌, ◌*◌, ◌<◌, ◌≤◌, List, length, ap, arith}
use Rattle.wire.specs.Read.{Ok}
use Rattle.wire.specs.Reader.{one}
use Rattle.wire.specs.declared.State.{State}
use Rattle.graph.specs.Format.{most_targets, cover_width}
use Rattle.graph.specs.Message.{hypers, covers}
use Rattle.graph.proofs.Fused.{hyper_fits, cover_fits}
use Rattle.graph.proofs.Turns.{hyper_next, cover_next}

pub hyper_leads : (s : List ℕ) (n : ℕ) (st next : State) → n ≤ 4096 → one (hypers s n) st ≡ Ok next
    → (next.prev < 4096) × ((n ≤ 4096) × (next.at ≤ length s) × (next.prev ≤ n) × (next.seen ≤ most_targets))
hyper_leads s n st next few e =
    let f = hyper_fits s n st e in
    let is = hyper_next s n st e in
    let at = ap (λ (st : State). st.at) is in
    let prev = ap (λ (st : State). st.prev) is in
    let seen = ap (λ (st : State). st.seen) is in
    (omega (arith, prev, f.ok.named), (few, omega (arith, at, f.inside), omega (arith, prev, f.ok.named), omega (arith, seen, f.few)))

pub cover_leads : (s : List ℕ) (n left : ℕ) (st next : State) → 0 < left → n ≤ 4096 → st.at + left * cover_width ≤ length s → one (covers s n) st ≡ Ok next
    → (next.prev < 4096) × ((n ≤ 4096) × (next.at + (left - 1) * cover_width ≤ length s) × (next.prev ≤ n))
cover_leads s n left st next some few inside e =
    let f = cover_fits s n st e in
    let is = cover_next s n st e in
    let at = ap (λ (st : State). st.at) is in
    let prev = ap (λ (st : State). st.prev) is in
    (omega (arith, prev, f.ok.named), (few, omega (arith, at, inside), omega (arith, prev, f.ok.named)))
