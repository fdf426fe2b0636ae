-- The parts of records: views of the same bytes and counts are the same, and sources of cover edges never fall. Assumes nothing.
use mathlib.Core.Path.{◌≡◌, sym, subst}
use Rattle.std.proofs.Math.Nat.{ℕ_set}
use Rattle.wire.specs.Layout.{Sound, end}
use Rattle.graph.specs.Format.{graph_header}
use Rattle.graph.specs.Layouts.{hyper_layout, cover_layout, Scannable}
use Rattle.graph.specs.Ready.{Climbs}
use Rattle.graph.specs.Single.{hypers_single, covers_single, scannable_single}
use Rattle.graph.specs.declared.view.Hypers.{Hypers}
use Rattle.graph.specs.declared.view.Covers.{Covers}
use Rattle.graph.specs.declared.view.Scanned.{Scanned}
use Rattle.graph.specs.declared.view.Records.{Records}

pub covers_climb : (g : Records) → Climbs g.bytes.now (cover_layout g.bytes.now g.nodes) g.covers g.middle
covers_climb g = subst (Climbs g.bytes.now (cover_layout g.bytes.now g.nodes) g.covers) (sym g.behind) g.ready.covers_climb

-- what they hold has one proof at most
pub same_hypers : (g : Hypers) (x : Sound (hyper_layout g.bytes.now g.nodes) g.count graph_header) → ◌≡◌ {A = Hypers} (record { bytes = g.bytes; nodes = g.nodes; count = g.count; sound = x }) g
same_hypers g x = λ i. record { bytes = g.bytes; nodes = g.nodes; count = g.count; sound = hypers_single g.bytes.now g.nodes g.count x g.sound i }

pub same_covers : (g : Covers) (x : Sound (cover_layout g.bytes.now g.nodes) g.count g.at) → ◌≡◌ {A = Covers} (record { bytes = g.bytes; nodes = g.nodes; count = g.count; at = g.at; sound = x }) g
same_covers g x = λ i. record { bytes = g.bytes; nodes = g.nodes; count = g.count; at = g.at; sound = covers_single g.bytes.now g.nodes g.count g.at x g.sound i }

pub same_scanned : (g : Scanned) (x : Scannable g.bytes.now g.nodes g.hypers g.covers) (e : g.middle ≡ end (hyper_layout g.bytes.now g.nodes) g.hypers graph_header)
    → ◌≡◌ {A = Scanned} (record { bytes = g.bytes; nodes = g.nodes; hypers = g.hypers; covers = g.covers; middle = g.middle; sound = x; behind = e }) g
same_scanned g x e = λ i. record {
  bytes = g.bytes;
  nodes = g.nodes;
  hypers = g.hypers;
  covers = g.covers;
  middle = g.middle;
  sound = scannable_single g.bytes.now g.nodes g.hypers g.covers x g.sound i;
  behind = ℕ_set g.middle (end (hyper_layout g.bytes.now g.nodes) g.hypers graph_header) e g.behind i;
}
