-- What was built comes back.
use Rattle.std.proofs.Common.{◌≡◌, ◌≤◌, false, [], ◌∷◌, ap, inr, length, subst, sym, None, Some, Result, Ok}
use Rattle.std.specs.Prelude.{IsUtf8}
use Rattle.std.specs.List.{AllByRecursion}
use Rattle.byte_ends.specs.Ends.{Fed, Drained}
use Rattle.geojson_types.specs.declared.counts.Counts.{Counts}
use Rattle.geojson_types.specs.declared.layer.FeatureSet.TheVariants.{Many}
use Rattle.geojson_types.specs.Counting.{no_counts}
use Rattle.inputs.specs.declared.file_fault.FileFault.{FileFault}
use Rattle.inputs.specs.Texts.{max_input}
use Rattle.json_value.specs.Grammar.{Reads}
use Rattle.inputs.specs.Sources.{Sources, Named}
use Rattle.build_meaning.specs.Left.{is_at_once}
use Rattle.mapchain_engine.specs.Back.{ComesBack}
use Rattle.mapchain_engine.specs.Laws.{IsWrittenTo}
use Rattle.mapchain_engine.proofs.BuiltAgain.{same_text}
use Rattle.reports.specs.declared.report.Report.{Report}
use Rattle.topojson_types.specs.Decoding.{decoded}
use Rattle.topojson_types.specs.Topologies.{Contents}
use Rattle.mapchain_engine.specs.Building.{expected_for, written_for, IsBuilt}
use Rattle.mapchain_engine.specs.declared.options.Options.{Options}
use Rattle.mapchain_engine.specs.FileOutcomes.{FileHasOutcome, object_text, text_within, of_topology, summarised}
use Rattle.json_value.specs.Limits.{topology_depth}
use Rattle.mapchain_engine.specs.Geo.{features_text}
use Rattle.mapchain_engine.specs.SimplifyOutcomes.{simplified}

module _ (o : Options) (olds news : Sources) (sink_old sink_new : Drained) (report : Report) (is : IsBuilt o olds news sink_old sink_new report)
    (source : Fed) (from : IsWrittenTo sink_old sink_new source) (short : length from.bytes ≤ max_input) where
  same : from.bytes ≡ is.text
  same = same_text o olds news sink_old sink_new report is source from

  -- what is asked of the topology that was built
  comes : {A : Type 0} (asked : Contents → Counts → Result A FileFault) → FileHasOutcome asked from.bytes (asked is.builds.topology.contents no_counts)
  comes asked =
      let says = is.builds.topology in
      let utf8 : IsUtf8 from.bytes = subst (λ b. IsUtf8 b) (sym same) says.utf8 in
      let spelled : Reads topology_depth from.bytes says.value = subst (λ b. Reads topology_depth b says.value) (sym same) says.spelled in
      inr (short, Ok says.value, (utf8, spelled), sym (ap (of_topology asked) says.stands))

  each : (ls : Named) → AllByRecursion (λ l. decoded is.builds.topology.contents l.0 ≡ Some (Many l.1.features)) ls
      → AllByRecursion (λ l. FileHasOutcome (object_text l.0) from.bytes (Ok (features_text (Many l.1.features)))) ls
  each [] h = tt
  each (l ∷ ls) h = (subst (FileHasOutcome (object_text l.0) from.bytes) (ap (text_within None) h.0) (comes (object_text l.0)), each ls h.1)

  all_come : is_at_once o.guards ≡ false → AllByRecursion (λ l. FileHasOutcome (object_text l.0) from.bytes (Ok (features_text (Many l.1.features)))) (expected_for o is.layers)
  all_come plain = each (expected_for o is.layers) (is.builds.topology.features plain)

  of_written : {A : Type 0} (asked : Contents → Counts → Result A FileFault) → FileHasOutcome asked from.bytes (asked (written_for o is.layers) no_counts)
  of_written asked = subst (λ c. FileHasOutcome asked from.bytes (asked c no_counts)) is.builds.topology.shared (comes asked)

pub comes_back : ComesBack
comes_back o olds news sink_old sink_new report is source from short = (
  all_come o olds news sink_old sink_new report is source from short,
  λ name. of_written o olds news sink_old sink_new report is source from short (object_text name),
  of_written o olds news sink_old sink_new report is source from short summarised,
  λ guards level limit. of_written o olds news sink_old sink_new report is source from short (simplified guards level limit),
)
