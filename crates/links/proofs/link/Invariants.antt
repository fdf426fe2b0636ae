-- `links::link` meets its contract: after i targets the others are left to link.
use Prim.Native.Nat.{ℕ, ◌+◌, ◌-◌, ◌*◌}
use mathlib.Core.List.{List}
use mathlib.Core.Path.{◌≡◌}
use lib.ListN.{length}
use Rattle.wire.specs.Layout.{items, Sound}
use Rattle.wire.specs.Layout as Layout
use Rattle.graph.specs.Format.{graph_header, hyper_width, target_width}
use Rattle.graph.specs.Layouts.{target_layout, hyper_layout}
use Rattle.links.specs.declared.Place.{Place}
use Rattle.links.specs.Links.{Long, Linked}
use Rattle.links.proofs.link.Given as goal

-- so many of the k targets are linked, and those from there on are left
pub record Left (s : List ℕ) (n middle p k place : ℕ) (heads₀ : List ℕ) (places₀ : List Place) (heads : List ℕ) (places : List Place) (i at : ℕ) : Type 0 where
  pub all : at ≡ place + i
  pub sound : Sound (target_layout s n) (k - i) (p + hyper_width + i * target_width)
  pub heads_long : length heads ≡ length heads₀
  pub long : Long n (length places₀) heads places
  pub linked : (most j : ℕ) → p ≡ Layout.end (hyper_layout s n) j graph_header
      → Linked s n middle most (j + 1) (items (target_layout s n) k (p + hyper_width)) 0 place heads₀ places₀
      → Linked s n middle most (j + 1) (items (target_layout s n) (k - i) (p + hyper_width + i * target_width)) 0 at heads places

abbrev pub invariant-loop-i : goal.invariant-loop-i
invariant-loop-i l =
    Left l.g.bytes.now l.g.nodes l.g.middle l.p l.k l.place l.initial.heads l.initial.places l.heads l.places l.i l.at
