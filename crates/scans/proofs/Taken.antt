-- A hyperedge taken in, from what its targets give. Assumes nothing.
use Prim.Native.Nat.{ℕ, ◌+◌, ◌≤◌}
use mathlib.Core.List.{List}
use mathlib.Core.Path.{◌≡◌, ap, ◌∙◌}
use native.Mathlib.Omega.{arith}
use lib.ListN.{length, take}
use lib.Seq.{length-take-le}
use Rattle.value.specs.Stored.{stored}
use Rattle.wire.specs.Bytes.{number}
use Rattle.wire.specs.Layout.{items, Sound}
use Rattle.rules.specs.Rounds.{worst}
use Rattle.graph.specs.Format.{target_count_at, hyper_width}
use Rattle.graph.specs.Layouts.{target_layout, HyperOk}
use Rattle.halves.specs.Held.{held}
use Rattle.scans.specs.Scan.{lowered, hyper_in}

-- its targets can be read, and this round's numbers are there
pub targets_sound : {s : List ℕ} {n k at : ℕ} → HyperOk s n at → k ≡ number 2 s (at + target_count_at) → Sound (target_layout s n) k (at + hyper_width)
targets_sound ok count = rw count ok.sound

pub half_long : {n : ℕ} (b : List ℕ) → n + n ≤ length b → n ≤ length (take n b)
half_long {n} b room = rw (length-take-le n b (omega arith)) (omega arith)

-- its source lowered to what they give is the hyperedge taken in
pub hyper_taken : (s : List ℕ) (n k at : ℕ) (b : List ℕ) {v : ℕ} → k ≡ number 2 s (at + target_count_at)
    → v ≡ stored (worst (held (take n b)) (items (target_layout s n) k (at + hyper_width))) → lowered s n at v b ≡ hyper_in s n 0 n at b
hyper_taken s n k at b count e = ap (λ (v : ℕ). lowered s n at v b) (e ∙ ap (λ (j : ℕ). stored (worst (held (take n b)) (items (target_layout s n) j (at + hyper_width)))) count)
