-- The graph that the values of `view` hold, and what part of it they show.
use mathlib.Core.Path.{sym, subst}
use Rattle.wire.specs.Layout.{Sound}
use Rattle.rules.specs.Graph as rules
use Rattle.graph.specs.Layouts.{cover_layout, decoded}
use Rattle.graph.specs.declared.view.Graph.{Graph}
use Rattle.graph.specs.declared.view.Records.{Records}
use Rattle.graph.specs.declared.view.Hypers.{Hypers}
use Rattle.graph.specs.declared.view.Covers.{Covers}
use Rattle.graph.specs.declared.view.Scanned.{Scanned}

-- the graph that an accepted message holds
abbrev pub graph_of : Graph → rules.Graph
graph_of g = decoded g.bytes.now g.nodes g.hypers g.covers

-- the graph of these records
abbrev pub decoded_of : Records → rules.Graph
decoded_of g = decoded g.bytes.now g.nodes g.hypers g.covers

-- the hyperedges of these records
abbrev pub hypers_of : Records → Hypers
hypers_of g = record { bytes = g.bytes; nodes = g.nodes; count = g.hypers; sound = g.ready.sound.hypers }

-- their cover edges, from where they stand
pub covers_sound : (g : Records) → Sound (cover_layout g.bytes.now g.nodes) g.covers g.middle
covers_sound g = subst (Sound (cover_layout g.bytes.now g.nodes) g.covers) (sym g.behind) g.ready.sound.covers

abbrev pub covers_of : Records → Covers
covers_of g = record { bytes = g.bytes; nodes = g.nodes; count = g.covers; at = g.middle; sound = covers_sound g }

-- both
abbrev pub scanned_of : Records → Scanned
scanned_of g = record { bytes = g.bytes; nodes = g.nodes; hypers = g.hypers; covers = g.covers; middle = g.middle; sound = g.ready.sound; behind = g.behind }
