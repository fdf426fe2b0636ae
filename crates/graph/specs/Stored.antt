-- What a graph message holds, and the graph of the rules that is taken from it: today the two are the same. Reading, writing and being
-- well-formed speak of the first; rounds, values, counts and all that is promised of them speak of the second.
use Rattle.rules.specs.Graph.{Graph}

-- what a graph message holds
abbrev pub StoredGraph : Type 0
StoredGraph = Graph

-- the graph that the rules speak of
abbrev pub ruled : StoredGraph → Graph
ruled g = g
