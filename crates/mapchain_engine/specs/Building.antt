-- What `build` answers, reads and writes.
use Rattle.std.specs.Prelude.{◌≡◌, ℕ, ◌++◌, true, false, List, length, map, Some, Result, Ok, Err, IsUtf8}
use Rattle.std.specs.List.{AllByRecursion}
use Rattle.byte_ends.specs.Ends.{Drained, Takes}
use Rattle.byte_ends.specs.Writes.{WritesAll, WritesPrefix}
use Rattle.json_value.specs.declared.json.Json.{Json}
use Rattle.json_value.specs.Grammar.{Reads}
use Rattle.json_value.specs.Limits.{topology_depth}
use Rattle.geojson_types.specs.declared.counts.Counts.{Counts}
use Rattle.geojson_types.specs.declared.layer.FeatureSet.TheVariants as set
use Rattle.geojson_types.specs.Counting.{no_counts}
use Rattle.json_value.specs.Text.{json_text}
use Rattle.topojson_types.specs.Decoding.{decoded}
use Rattle.topojson_types.specs.Topologies.{Contents}
use Rattle.topojson_types.specs.Validity.{IsTopology}
use Rattle.topojson_types.specs.Values.{topology_value}
use Rattle.arc_table.specs.Laws.{AreOnceIn}
use Rattle.build_meaning.specs.Assembled.{arcs_of_layers}
use Rattle.build_meaning.specs.Built.{all_arcs}
use Rattle.build_meaning.specs.Expected.{expected}
use Rattle.build_meaning.specs.Layers.{layers_of, names_of}
use Rattle.cutter.specs.Segments.{line_segments}
use Rattle.effective_area.specs.Calls.{Call}
use Rattle.linework.specs.Linework.{linework}
use Rattle.layer_topology.specs.GuardLaws.{ShareStays, UnguardedIsWritten, WrittenLeftLaw}
use Rattle.layer_topology.specs.Laws.{WrittenLaws}
use Rattle.layer_topology.specs.Levels.{calls_over, chosen_for, KeepsShareOf}
use Rattle.layer_topology.specs.Promises.{CrossesNoMore, KeepsShapes}
use Rattle.layer_topology.specs.Written.{snapped_to, written_left, written_threshold, written as written_on}
use Rattle.build_meaning.specs.InTurn.{left_in_turn, without_small}
use Rattle.build_meaning.specs.Left.{Left, is_at_once}
use Rattle.build_meaning.specs.SimplifiedLaws.{labels}
use Rattle.topojson_meaning.specs.Laws.{ReadsBack, TextIsRead}
use Rattle.topojson_meaning.specs.Texts.{TextIsUtf8}
use Rattle.topojson_meaning.specs.Topologies.{topology}
use Rattle.inputs.specs.declared.fault.BuildFault.{BuildFault}
use Rattle.inputs.specs.declared.fault.BuildFault.TheVariants.{Write, Memory}
use Rattle.mapchain_engine.specs.BuildLaws.{LayerLaws}
use Rattle.mapchain_engine.specs.Simplified.{report_of_left}
use Rattle.mapchain_engine.specs.declared.options.Options.{Options}
use Rattle.reports.specs.declared.report.Report.{Report}
use Rattle.inputs.specs.Sources.{Sources, Named, AllRead, FailsAt, AreUntroubled, added}

-- ---- what is asked for

-- the layers snapped to the grid that is asked for, if one is
abbrev pub snapped_for : Options → Named → Named
snapped_for o layers = snapped_to o.grid layers

-- the threshold at which their arcs are reduced: the one that is given, or the greatest that keeps the share that is asked for, under the guards
abbrev pub threshold_for : Options → Named → ℕ
threshold_for o layers = written_threshold o.guards o.grid o.level o.ring_limit layers

-- what a reducer is asked for: to reduce each of their arcs at the threshold that is given, in order, and nothing for a share, nor where no
-- crossing may be made or shapes stay
abbrev pub calls_for : Options → Named → List Call
calls_for o layers = calls_over o.guards o.level (arcs_of_layers (snapped_for o layers))

-- what is left of layers
abbrev pub left_for : Options → Named → Left
left_for o layers = written_left o.guards o.grid (threshold_for o layers) o.ring_limit layers

-- the topology that is written of them
abbrev pub written_for : Options → Named → Contents
written_for o layers = (left_for o layers).contents

-- the one that is written of them on the same grid at a threshold and a limit of zero
abbrev pub whole_for : Options → Named → Contents
whole_for o layers = written_on o.grid 0 0 layers

-- and without what is small as it stands, where that goes first
abbrev pub full_for : Options → Named → Contents
full_for o layers = without_small o.guards o.ring_limit (whole_for o layers)

-- the features that are expected of what is written where crossings may be made and shapes needn't stay, by layers
abbrev pub expected_for : Options → Named → Named
expected_for o layers = expected (threshold_for o layers) o.ring_limit (snapped_for o layers)

-- ---- what building rests on

-- what is written of layers is valid, decodes back and has each segment once; what is written is read again
pub record BuildingLaws : Type 0 where
  pub written : WrittenLaws
  pub left : WrittenLeftLaw
  pub unguarded : UnguardedIsWritten
  pub share : ShareStays
  pub read : ReadsBack
  pub spelled : TextIsRead
  pub utf8 : TextIsUtf8
  pub layers : LayerLaws

-- ---- what is written

-- Where no crossing may be made or shapes stay, the topology is valid, and it is what is left of the one that is written of the layers at zero where
-- this is simplified under the same guards. Decoding that one gives each layer's features whole; the topology has the same names, identifiers and
-- properties. Where no crossing may be made, no more of its segments cross, lie on one another, or touch but at an end of both, none where none of
-- that one's do, and each two that do come of two of that one's that do, without what is small as it stands. Where shapes stay, each feature keeps the
-- outer ring that encloses most in that one, of those with four positions or more. Of the positions between the ends of that one's arcs, without what
-- is small as it stands, at least the share that is asked for stays, before more lines are dropped.
pub record IsGuarded (o : Options) (layers : Named) (contents : Contents) : Type 0 where
  pub valid : IsTopology contents
  pub whole : AllByRecursion (λ l. decoded (whole_for o layers) l.0 ≡ Some (set.Many l.1.features)) (expected 0 0 (snapped_for o layers))
  pub labels_stay : labels contents ≡ labels (whole_for o layers)
  pub crosses : o.guards.no_crossings ≡ true → CrossesNoMore (whole_for o layers) (full_for o layers) contents
  pub stays : o.guards.keep_shapes ≡ true → KeepsShapes o.guards (threshold_for o layers) o.ring_limit (whole_for o layers) contents
  pub left : contents ≡ (left_in_turn o.guards (threshold_for o layers) o.ring_limit (whole_for o layers)).contents
  pub share : KeepsShareOf o.guards o.level (full_for o layers)

-- The text is UTF-8, and JSON (RFC 8259) of a topology (TopoJSON 1.0) whose objects have the names of the layers, in order. Decoding each gives
-- the features that are expected of its layer, snapped to the grid that is asked for, at the threshold and the least ring area, unless no
-- crossing may be made or shapes stay; then it is what is left of the whole topology. The topology is the one that is written of the layers, the text is
-- its text, and before reduction each segment of the layers' lines lies once, in exactly one arc.
pub record SaysTopology (o : Options) (layers : Named) (text : List ℕ) : Type 0 where
  pub utf8 : IsUtf8 text
  pub value : Json
  pub spelled : Reads topology_depth text value
  pub contents : Contents
  pub stands : topology value ≡ Ok (contents, no_counts)
  pub names : map (λ b. b.0) contents.objects ≡ names_of layers
  pub features : is_at_once o.guards ≡ false → AllByRecursion (λ l. decoded contents l.0 ≡ Some (set.Many l.1.features)) (expected_for o layers)
  pub guarded : is_at_once o.guards ≡ true → IsGuarded o layers contents
  pub shared : contents ≡ written_for o layers
  pub written : text ≡ json_text (topology_value contents)
  pub once : AreOnceIn (all_arcs (linework (layers_of (snapped_for o layers)))) (line_segments (linework (layers_of (snapped_for o layers))))

-- the counts of all layers, the lines and rings that are dropped, the features that are lost, the arcs, their positions, those that were
-- removed from them, and the threshold, where it was chosen
abbrev pub report_of : Options → Named → List Counts → Report
report_of o layers counts = report_of_left (added counts) (left_for o layers) (chosen_for o.level (threshold_for o layers))

-- all sources spell layers, and the text is their topology
pub record Builds (o : Options) (olds news : Sources) (layers : Named) (counts : List Counts) (text : List ℕ) : Type 0 where
  pub read : AllRead o.exact olds news layers counts
  pub topology : SaysTopology o layers text

-- all sources spell layers, and a reducer that was asked for so much before was asked to reduce their arcs since, unless all
-- are reduced at once, and for nothing else
pub record CallsForLayers (o : Options) (olds news : Sources) (before after : List Call) : Type 0 where
  pub layers : Named
  pub counts : List Counts
  pub read : AllRead o.exact olds news layers counts
  pub called : after ≡ before ++ calls_for o layers

-- the sink took the whole text of the topology and passed it on, and the report is that of the layers
pub record IsBuilt (o : Options) (olds news : Sources) (sink_old sink_new : Drained) (report : Report) : Type 0 where
  pub layers : Named
  pub counts : List Counts
  pub text : List ℕ
  pub builds : Builds o olds news layers counts text
  pub written : Takes sink_old sink_new text (length text)
  pub sound : sink_new.failures ≡ 0
  pub flushed : sink_new.flushed ≡ true
  pub reported : report ≡ report_of o layers counts

-- the device had taken a prefix of the text of the topology when it failed; a sink that was broken before stays as it was
pub record IsCutShort (o : Options) (olds news : Sources) (sink_old sink_new : Drained) (sent : ℕ) : Type 0 where
  pub layers : Named
  pub counts : List Counts
  pub text : List ℕ
  pub builds : Builds o olds news layers counts text
  pub written : WritesPrefix sink_old sink_new 0 text sent

-- why nothing is built once the names are taken: nothing is written unless the device failed
abbrev pub IsLateFault : Options → Sources → Sources → Drained → Drained → BuildFault → Type 0
IsLateFault o olds news sink_old sink_new (Write sent) = IsCutShort o olds news sink_old sink_new sent
IsLateFault o olds news sink_old sink_new Memory = (sink_new ≡ sink_old) × AreUntroubled olds news
IsLateFault o olds news sink_old sink_new e = (sink_new ≡ sink_old) × FailsAt o.exact 0 olds news e

-- all of the text was taken and flushed, or a prefix of it, and the device failed
abbrev pub Sends : Drained → Drained → List ℕ → Result (Unit {0}) BuildFault → Type 0
Sends old new text (Ok done) = (sent : ℕ) × WritesAll old new 0 text sent × (new.flushed ≡ true)
Sends old new text (Err (Write sent)) = WritesPrefix old new 0 text sent
Sends old new text (Err e) = ⊥
