-- What `simplify` answers, reads and writes.
use Rattle.std.specs.Prelude.{◌≡◌, ℕ, ◌++◌, true, List, length, map, Option, IsUtf8}
use Rattle.byte_ends.specs.Ends.{Fed, Drained, Takes, saturated}
use Rattle.byte_ends.specs.Writes.{WritesPrefix}
use Rattle.effective_area.specs.Calls.{Call}
use Rattle.geojson_types.specs.declared.counts.Counts.{Counts}
use Rattle.inputs.specs.declared.file_fault.FileFault.{FileFault}
use Rattle.inputs.specs.declared.file_fault.FileFault.TheVariants.{Write}
use Rattle.json_value.specs.Text.{json_text}
use Rattle.build_meaning.specs.InTurn.{left_in_turn, without_small}
use Rattle.build_meaning.specs.Left.{Left}
use Rattle.build_meaning.specs.Thresholds.{placed_cells}
use Rattle.build_meaning.specs.declared.guards.Guards.{Guards}
use Rattle.layer_topology.specs.Levels.{calls_over, chosen_for, threshold_of, KeepsShareOf}
use Rattle.layer_topology.specs.Promises.{CrossesNoMore, KeepsShapes}
use Rattle.layer_topology.specs.declared.level.Level.{Level}
use Rattle.reports.specs.declared.report.Report.{Report}
use Rattle.reports.specs.Summaries.{report_with}
use Rattle.topojson_types.specs.Topologies.{Contents}
use Rattle.topojson_types.specs.Values.{topology_value}
use Rattle.mapchain_engine.specs.Files.{IsTopologyRead, FailsToGive}

-- ---- what is left of a topology

-- It, where its arcs are reduced at a threshold under the guards that are asked for: at the one that is given, or the greatest that keeps the share
-- that is asked for. The share is of the positions between the ends of all its arcs as they stand, also of those that no line uses, by the positions
-- that the cells stand for; where small rings go first, without them.
abbrev pub threshold_for : Guards → Level → ℕ → Contents → ℕ
threshold_for guards level limit y = threshold_of guards level (without_small guards limit y)

abbrev pub left_at : Guards → Level → ℕ → Contents → Left
left_at guards level limit y = left_in_turn guards (threshold_for guards level limit y) limit y

-- the text (TopoJSON 1.0) of what is left
abbrev pub simplified_contents_text : Guards → Level → ℕ → Contents → List ℕ
simplified_contents_text guards level limit y = json_text (topology_value (left_at guards level limit y).contents)

-- these counts, of what is left the lines and rings that are dropped, the features that are lost, the arcs, their positions, those that were
-- removed from these arcs, and the threshold, where one was chosen
abbrev pub report_of_left : Counts → Left → Option ℕ → Report
report_of_left counts left chosen = report_with counts left.dropped left.contents.objects left.contents.arcs (saturated left.removed_count) chosen

-- what was counted in reading the topology, and what is left of it
abbrev pub report_of : Guards → Level → ℕ → Contents → Counts → Report
report_of guards level limit y counts = report_of_left counts (left_at guards level limit y) (chosen_for level (threshold_for guards level limit y))

-- ---- reading and writing

-- the source was read to its end, its bytes spell a topology, and this is left of it, with this report
pub record IsReadAndSimplified (guards : Guards) (level : Level) (limit : ℕ) (old new : Fed) (less : Contents) (report : Report) : Type 0 where
  pub contents : Contents
  pub counts : Counts
  pub read : IsTopologyRead old new contents counts
  pub left : less ≡ (left_at guards level limit contents).contents
  pub reported : report ≡ report_of guards level limit contents counts

-- the source was read to its end, its bytes spell a topology, and a reducer that was asked for so much before was asked to reduce each of its
-- arcs at this level since, by the positions that it stands for, unless all are reduced at once, and for nothing else
pub record CallsForTopology (guards : Guards) (level : Level) (old new : Fed) (before after : List Call) : Type 0 where
  pub contents : Contents
  pub counts : Counts
  pub read : IsTopologyRead old new contents counts
  pub called : after ≡ before ++ calls_over guards level (map (placed_cells contents.transform) contents.arcs)

-- the source was read to its end, its bytes spell a topology, the text of what is left of it is UTF-8, the sink took the whole of
-- it and passed it on, and this is its report; where crossings may not be made, what is left crosses no more than the topology, and only where that
-- did; where shapes stay, each feature with an outer ring of four positions or more keeps the one that encloses most; and where either is asked
-- for, at least the share that is asked for stays of the positions between the ends of its arcs, before lines are dropped
pub record IsSimplified (guards : Guards) (level : Level) (limit : ℕ) (old new : Fed) (sink_old sink_new : Drained) (report : Report) : Type 0 where
  pub contents : Contents
  pub counts : Counts
  pub read : IsTopologyRead old new contents counts
  pub utf8 : IsUtf8 (simplified_contents_text guards level limit contents)
  pub written : Takes sink_old sink_new (simplified_contents_text guards level limit contents) (length (simplified_contents_text guards level limit contents))
  pub sound : sink_new.failures ≡ 0
  pub flushed : sink_new.flushed ≡ true
  pub reported : report ≡ report_of guards level limit contents counts
  pub crosses : guards.no_crossings ≡ true → CrossesNoMore contents (without_small guards limit contents) (left_at guards level limit contents).contents
  pub stays : guards.keep_shapes ≡ true → KeepsShapes guards (threshold_for guards level limit contents) limit contents (left_at guards level limit contents).contents
  pub share : KeepsShareOf guards level (without_small guards limit contents)

-- the device failed when it had taken a prefix of that text
pub record IsSimplifiedInPart (guards : Guards) (level : Level) (limit : ℕ) (old new : Fed) (sink_old sink_new : Drained) (sent : ℕ) : Type 0 where
  pub contents : Contents
  pub counts : Counts
  pub read : IsTopologyRead old new contents counts
  pub written : WritesPrefix sink_old sink_new 0 (simplified_contents_text guards level limit contents) sent

-- why nothing is written whole: nothing is written unless the device failed
abbrev pub IsSimplifyFault : Guards → Level → ℕ → Fed → Fed → Drained → Drained → FileFault → Type 0
IsSimplifyFault guards level limit old new sink_old sink_new (Write sent) = IsSimplifiedInPart guards level limit old new sink_old sink_new sent
IsSimplifyFault guards level limit old new sink_old sink_new e = (sink_new ≡ sink_old) × FailsToGive old new e
