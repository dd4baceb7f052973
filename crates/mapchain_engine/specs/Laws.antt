-- What is true of a topology that was built and is read again.
use Rattle.std.specs.Prelude.{◌≡◌, ℕ, false, List, ◌++◌, Some, length}
use Rattle.std.specs.List.{AllByRecursion}
use Rattle.byte_ends.specs.Ends.{Fed, Drained, Takes}
use Rattle.byte_ends.specs.Writes.{WritesAll}
use Rattle.geojson_types.specs.declared.layer.FeatureSet.TheVariants.{Many}
use Rattle.build_meaning.specs.Expected.{kept_line}
use Rattle.build_meaning.specs.BuiltLaws.{whole_line}
use Rattle.build_meaning.specs.Layers.{layers_of, named_lines_and_rings}
use Rattle.layer_topology.specs.declared.level.Level.TheVariants.{Fixed}
use Rattle.build_meaning.specs.Left.{is_at_once}
use Rattle.linework.specs.Linework.{linework}
use Rattle.reports.specs.declared.report.Report.{Report}
use Rattle.reports.specs.declared.summary.Summary.{Summary}
use Rattle.mapchain_engine.specs.Building.{expected_for, snapped_for, threshold_for, written_for, IsBuilt}
use Rattle.mapchain_engine.specs.declared.options.Options.{Options}
use Rattle.mapchain_engine.specs.Geo.{features_text, IsDecoded}
use Rattle.inputs.specs.Outcomes.{Texts, HaveBytes}
use Rattle.inputs.specs.Sources.{Sources, Named}
use Rattle.reports.specs.Summaries.{summary_of}
use Rattle.build_meaning.specs.Assembled.{arcs_of_layers}
use Rattle.build_meaning.specs.ArcPositions.{arc_positions}
use Rattle.mapchain_engine.specs.Files.{IsSummarised}
use Rattle.mapchain_engine.specs.Simplified.{IsSimplified}

-- A source has left what a build wrote to its sink after what had been there.
pub record IsWrittenTo (sink_old sink_new : Drained) (source : Fed) : Type 0 where
  pub before : List ℕ
  pub bytes : List ℕ
  pub had : sink_old.taken ≡ Some before
  pub took : sink_new.taken ≡ Some (before ++ bytes)
  pub left : source.left ≡ Some bytes

-- where `to_geo` answers with one of these layers' names, it wrote the text of the layer's features
abbrev pub WritesEach : Named → Fed → Type 0
WritesEach layers source =
    AllByRecursion (λ l. (after : Fed) (out_old out_new : Drained) (sent : ℕ) → IsDecoded l.0 source after out_old out_new sent
    → WritesAll out_old out_new 0 (features_text (Many l.1.features)) sent) layers

-- what a build wrote without guards is decoded to the features that are expected of each layer
abbrev pub DecodesBack : Type 0
DecodesBack = (o : Options) (olds news : Sources) (sink_old sink_new : Drained) (report : Report) (is : IsBuilt o olds news sink_old sink_new report)
    (source : Fed) → is_at_once o.guards ≡ false → IsWrittenTo sink_old sink_new source → WritesEach (expected_for o is.layers) source

-- at a threshold and a ring limit of zero each line of the layers, snapped to the grid that is asked for, is expected as it is, with
-- equal neighbours as one position, a ring from its start, unless it has too few positions
abbrev pub LosesNothing : Type 0
LosesNothing = (o : Options) (olds news : Sources) (sink_old sink_new : Drained) (report : Report) (is : IsBuilt o olds news sink_old sink_new report)
    → threshold_for o is.layers ≡ 0 → o.ring_limit ≡ 0
    → AllByRecursion (λ b. kept_line (linework (layers_of (snapped_for o is.layers))) (threshold_for o is.layers) o.ring_limit b.0 b.1 ≡ whole_line (snapped_for o is.layers) b.0 b.1)
    (named_lines_and_rings (snapped_for o is.layers))

-- the summary of what a build wrote is that of the topology that is built of the layers
abbrev pub SummarisesBack : Type 0
SummarisesBack = (o : Options) (olds news : Sources) (sink_old sink_new : Drained) (report : Report) (is : IsBuilt o olds news sink_old sink_new report)
    (source after : Fed) (summary : Summary) → IsWrittenTo sink_old sink_new source → IsSummarised source after summary → summary ≡ summary_of (written_for o is.layers)

-- The topology that a build at a threshold and a ring limit of zero wrote, simplified by the ring limit of another build of the same layers
-- on the same grid, by its threshold, given or chosen, and under its guards, is byte for byte what that one writes.
abbrev pub SimplifiesToBuilt : Type 0
SimplifiesToBuilt = (o p : Options) (olds news : Sources) (sink_old sink_new : Drained) (report : Report) (full : IsBuilt o olds news sink_old sink_new report)
    (more_olds more_news : Sources) (more_old more_new : Drained) (more_report : Report) (small : IsBuilt p more_olds more_news more_old more_new more_report)
    → threshold_for o full.layers ≡ 0 → o.ring_limit ≡ 0 → p.grid ≡ o.grid → small.layers ≡ full.layers
    → (source after : Fed) (out_old out_new : Drained) (simplified : Report) → IsWrittenTo sink_old sink_new source
    → IsSimplified p.guards (Fixed (threshold_for p small.layers)) p.ring_limit source after out_old out_new simplified
    → Takes out_old out_new small.text (length small.text)

-- each arc of the layers is in the topology that is written of them
abbrev pub HasEachArc : Options → Named → Type 0
HasEachArc o layers = arc_positions (written_for o layers) ≡ arcs_of_layers (snapped_for o layers)

-- The topology that a build at a threshold and a ring limit of zero wrote, simplified by the level and the ring limit of another build of the same
-- layers on the same grid, and under its guards, is byte for byte what that one writes, and both choose the same threshold, where each arc of the
-- layers is in it, or no crossing may be made, or shapes stay.
abbrev pub SimplifiesByLevel : Type 0
SimplifiesByLevel = (o p : Options) (olds news : Sources) (sink_old sink_new : Drained) (report : Report) (full : IsBuilt o olds news sink_old sink_new report)
    (more_olds more_news : Sources) (more_old more_new : Drained) (more_report : Report) (small : IsBuilt p more_olds more_news more_old more_new more_report)
    → threshold_for o full.layers ≡ 0 → o.ring_limit ≡ 0 → p.grid ≡ o.grid → small.layers ≡ full.layers → (is_at_once p.guards ≡ false → HasEachArc o full.layers)
    → (source after : Fed) (out_old out_new : Drained) (simplified : Report) → IsWrittenTo sink_old sink_new source
    → IsSimplified p.guards p.level p.ring_limit source after out_old out_new simplified
    → Takes out_old out_new small.text (length small.text) × (simplified.chosen ≡ more_report.chosen)

-- ---- the same bytes

-- both sources have the same names, and the same bytes left
pub record HaveSameBytes (some others : Sources) : Type 0 where
  pub bytes : Texts
  pub have : HaveBytes some bytes
  pub too : HaveBytes others bytes

-- Two builds of the same bytes under the same names, with the same options, wrote the same text, and their reports are the same,
-- whatever the devices did.
abbrev pub BuildsOneText : Type 0
BuildsOneText = (o : Options) (olds news : Sources) (sink_old sink_new : Drained) (report : Report) (one : IsBuilt o olds news sink_old sink_new report)
    (more_olds more_news : Sources) (more_old more_new : Drained) (more_report : Report) (other : IsBuilt o more_olds more_news more_old more_new more_report)
    → HaveSameBytes olds more_olds → (one.text ≡ other.text) × (report ≡ more_report)

-- What is simplified of a build is what another build of its bytes on its grid, as exact, writes.
abbrev pub SimplifiesToBuiltOfSame : Type 0
SimplifiesToBuiltOfSame = (o p : Options) (olds news : Sources) (sink_old sink_new : Drained) (report : Report) (full : IsBuilt o olds news sink_old sink_new report)
    (more_olds more_news : Sources) (more_old more_new : Drained) (more_report : Report) (small : IsBuilt p more_olds more_news more_old more_new more_report)
    → threshold_for o full.layers ≡ 0 → o.ring_limit ≡ 0 → p.grid ≡ o.grid → p.exact ≡ o.exact → HaveSameBytes olds more_olds
    → (source after : Fed) (out_old out_new : Drained) (simplified : Report) → IsWrittenTo sink_old sink_new source
    → IsSimplified p.guards (Fixed (threshold_for p small.layers)) p.ring_limit source after out_old out_new simplified
    → Takes out_old out_new small.text (length small.text)
