-- What was built is read again as what was built.
use Rattle.std.proofs.Common.{◌≡◌, ℕ, Bool, true, false, cond, List, [], ◌∷◌, ◌++◌, ◌∙◌, ap, refl, subst, sym, length, Option, Some, Result, Ok}
use Rattle.std.proofs.Math.Seq.{take-length}
use Rattle.std.proofs.lemmas.List.{append_cancel_left}
use Rattle.std.specs.Io.KnownBytes.{Appends}
use Rattle.std.specs.Prelude.{◌&&◌, nat_lt, IfSome}
use Rattle.std.specs.List.{AllByRecursion}
use Rattle.byte_ends.specs.Ends.{Fed, Drained, Takes}
use Rattle.byte_ends.specs.Writes.{WritesAll}
use Rattle.geojson_types.specs.declared.counts.Counts.{Counts}
use Rattle.geojson_types.specs.declared.layer.FeatureSet.{FeatureSet}
use Rattle.geojson_types.specs.declared.layer.FeatureSet.TheVariants.{Many}
use Rattle.geojson_types.specs.Counting.{no_counts}
use Rattle.topojson_types.specs.Decoding.{decoded}
use Rattle.topojson_types.specs.Topologies.{Contents}
use Rattle.topojson_meaning.specs.declared.fault.TopoFault.{TopoFault}
use Rattle.topojson_meaning.specs.Topologies.{topology}
use Rattle.reports.specs.declared.report.Report.{Report}
use Rattle.reports.specs.declared.summary.Summary.{Summary}
use Rattle.build_meaning.specs.declared.guards.Guards.{Guards}
use Rattle.layer_topology.specs.declared.level.Level.{Level}
use Rattle.layer_topology.specs.declared.level.Level.TheVariants.{Fixed}
use Rattle.build_meaning.specs.InTurn.{first_whole, left_in_turn, without_small}
use Rattle.build_meaning.specs.Left.{guard_of, is_at_once}
use Rattle.build_meaning.specs.Trimming.{trimmed}
use Rattle.layer_topology.specs.GuardLaws.{GuardedAtZero, WrittenLeftLaw}
use Rattle.layer_topology.specs.Levels.{chosen_for, threshold_at, threshold_by, threshold_over}
use Rattle.mapchain_engine.specs.Building.{expected_for, snapped_for, threshold_for, whole_for, written_for, IsBuilt}
use Rattle.mapchain_engine.specs.BuildLaws.{ReadAreTaken}
use Rattle.mapchain_engine.specs.declared.options.Options.{Options}
use Rattle.json_value.specs.Limits.{topology_depth}
use Rattle.mapchain_engine.specs.Files.{IsTopologyRead, IsSummarised}
use Rattle.mapchain_engine.specs.Simplified.{simplified_contents_text, IsSimplified, threshold_for as simplified_threshold}
use Rattle.layer_topology.specs.Written.{snapped_to, written_left, written as written_on, AreTaken}
use Rattle.build_meaning.specs.Assembled.{arcs_of_layers}
use Rattle.build_meaning.specs.ArcPositions.{arc_positions}
use Rattle.build_meaning.specs.Layers.{names_of}
use Rattle.geometry.specs.Points.{Point}
use Rattle.json_value.specs.declared.json.Json.{Json}
use Rattle.json_value.specs.Grammar.{Reads}
use Rattle.json_value.specs.Text.{json_text}
use Rattle.topojson_types.specs.Validity.{AreDistinct}
use Rattle.topojson_types.specs.Values.{topology_value}
use Rattle.topojson_meaning.specs.Laws.{ReadsValid}
use Rattle.mapchain_engine.specs.Geo.{features_text, IsDecoded}
use Rattle.mapchain_engine.specs.Laws.{HasEachArc, IsWrittenTo, WritesEach, DecodesBack, SimplifiesByLevel, SimplifiesToBuilt, SummarisesBack}
use Rattle.inputs.specs.Sources.{Sources, Named}
use Rattle.reports.specs.Summaries.{summary_of}

-- what a sink took after what it had
took_after : (old new : Option (List ℕ)) (before bytes text : List ℕ) → old ≡ Some before → new ≡ Some (before ++ bytes) → Appends old new text → bytes ≡ text
took_after old new before bytes text had took grew =
    let e : before ++ bytes ≡ before ++ text = subst (λ o. Appends o (Some (before ++ bytes)) text) had (subst (λ n. Appends old n text) took grew) in
    append_cancel_left before bytes text e

same_topology : (r : Result (Contents × Counts) TopoFault) (s t : Contents) (c d : Counts) → r ≡ Ok (s, c) → r ≡ Ok (t, d) → s ≡ t
same_topology r s t c d h k =
    let x : Contents × Counts = (s, c) in
    let y : Contents × Counts = (t, d) in
    let e : x ≡ y = cc in
    ap (λ (z : Contents × Counts). z.0) e

-- bytes spell one value at most
abbrev pub OneValue : Type 0
OneValue = (d e : ℕ) (b : List ℕ) (v w : Json) → Reads d b v → Reads e b w → v ≡ w

some_same : (x y : FeatureSet) (o : Option FeatureSet) → o ≡ Some x → o ≡ Some y → x ≡ y
some_same x y o h k = cc

-- a topology can be made of the layers that were built
pub taken : ReadsValid → ReadAreTaken → (o : Options) (olds news : Sources) (sink_old sink_new : Drained) (report : Report) (is : IsBuilt o olds news sink_old sink_new report) → AreTaken o.grid is.layers
taken valid may o olds news sink_old sink_new report is =
    let says = is.builds.topology in
    let names : AreDistinct (names_of is.layers) = subst AreDistinct says.names (valid says.value says.contents no_counts says.stands).names in
    may o olds news is.layers is.counts is.builds.read names

module _ (o : Options) (olds news : Sources) (sink_old sink_new : Drained) (report : Report) (is : IsBuilt o olds news sink_old sink_new report)
    (source : Fed) (from : IsWrittenTo sink_old sink_new source) where
  -- the bytes that the source has left are the text that was built
  pub same_text : from.bytes ≡ is.text
  same_text = took_after sink_old.taken sink_new.taken from.before from.bytes is.text from.had from.took (rw take-length at is.written.taken)

module _ (one_value : OneValue) (o : Options) (olds news : Sources) (sink_old sink_new : Drained) (report : Report) (is : IsBuilt o olds news sink_old sink_new report)
    (source : Fed) (from : IsWrittenTo sink_old sink_new source) where
  -- the topology that they spell is the one that was built
  same_contents : (after : Fed) (contents : Contents) (counts : Counts) → IsTopologyRead source after contents counts → contents ≡ is.builds.topology.contents
  same_contents after contents counts read =
      let says = is.builds.topology in
      let left : read.bytes ≡ from.bytes = subst (λ z. IfSome z (λ l. read.bytes ≡ l)) from.left read.read.all in
      let bytes = left ∙ same_text o olds news sink_old sink_new report is source from in
      let value = one_value topology_depth topology_depth read.bytes read.spells.value says.value read.spells.spelled (rw bytes says.spelled) in
      same_topology (topology read.spells.value) contents says.contents counts no_counts read.spells.stands (rw value says.stands)

  writes_each : (ls : Named) → AllByRecursion (λ l. decoded is.builds.topology.contents l.0 ≡ Some (Many l.1.features)) ls → WritesEach ls source
  writes_each [] h = tt
  writes_each (l ∷ ls) h = (one, writes_each ls h.1)
    where
      one : (after : Fed) (out_old out_new : Drained) (sent : ℕ) → IsDecoded l.0 source after out_old out_new sent → WritesAll out_old out_new 0 (features_text (Many l.1.features)) sent
      one after out_old out_new sent d =
          let contents = same_contents after d.given.contents d.given.counts d.given.read in
          let e = some_same d.features (Many l.1.features) (decoded d.given.contents l.0) d.given.found (rw contents h.0) in
          subst (λ fs. WritesAll out_old out_new 0 (features_text fs) sent) e d.written

  writes_expected : is_at_once o.guards ≡ false → WritesEach (expected_for o is.layers) source
  writes_expected e = writes_each (expected_for o is.layers) (is.builds.topology.features e)

  summary_same : (after : Fed) (summary : Summary) → IsSummarised source after summary → summary ≡ summary_of (written_for o is.layers)
  summary_same after summary s = s.reported ∙ ap summary_of (same_contents after s.contents s.counts s.read ∙ is.builds.topology.shared)

  -- where it was built at zero it is what is written at zero, whatever guards were asked for
  zero_is : GuardedAtZero → AreTaken o.grid is.layers → threshold_for o is.layers ≡ 0 → o.ring_limit ≡ 0 → is.builds.topology.contents ≡ written_on o.grid 0 0 is.layers
  zero_is at_zero are zero none =
      is.builds.topology.shared ∙ ap (λ t. (written_left o.guards o.grid t o.ring_limit is.layers).contents) zero ∙ ap (λ n. (written_left o.guards o.grid 0 n is.layers).contents) none
      ∙ at_zero o.guards o.grid is.layers are

  -- at a level by which its arcs are reduced at this threshold, what is left of it under guards is what is then written of the layers under them
  simplified_text : GuardedAtZero → WrittenLeftLaw → AreTaken o.grid is.layers → (guards : Guards) (level : Level) (t limit : ℕ)
      → simplified_threshold guards level limit is.builds.topology.contents ≡ t → threshold_for o is.layers ≡ 0 → o.ring_limit ≡ 0
      → (after : Fed) (contents : Contents) (counts : Counts) → IsTopologyRead source after contents counts
      → simplified_contents_text guards level limit contents ≡ json_text (topology_value (written_left guards o.grid t limit is.layers).contents)
  simplified_text at_zero law are guards level t limit at zero none after contents counts read =
      ap (simplified_contents_text guards level limit) (same_contents after contents counts read)
      ∙ ap (λ n. json_text (topology_value (left_in_turn guards n limit is.builds.topology.contents).contents)) at
      ∙ ap (λ y. json_text (topology_value (left_in_turn guards t limit y).contents)) (zero_is at_zero are zero none)
      ∙ ap (λ y. json_text (topology_value y)) (law guards o.grid t limit is.layers are).simplified

-- the arcs matter to a threshold only where nothing is asked for
same_over : (guards : Guards) (level : Level) (y : Contents) (xs ys : List (List Point)) → (is_at_once guards ≡ false → xs ≡ ys)
    → threshold_over guards level y xs ≡ threshold_over guards level y ys
same_over guards level y xs ys same = by (is_at_once guards) same
  where
    by : (b : Bool) → (b ≡ false → xs ≡ ys)
        → cond b (threshold_by (guard_of guards y) level (arc_positions y)) (threshold_at level xs) ≡ cond b (threshold_by (guard_of guards y) level (arc_positions y)) (threshold_at level ys)
    by true same = refl
    by false same = ap (threshold_at level) (same refl)

-- where nothing is asked for nothing goes first
none_first : (guards : Guards) (limit : ℕ) (y : Contents) → is_at_once guards ≡ false → without_small guards limit y ≡ y
none_first guards limit y e = ap (λ b. cond (b && nat_lt 0 limit) (trimmed (first_whole guards limit y)) y) e

module _ (one_value : OneValue) (valid : ReadsValid) (may : ReadAreTaken) (o p : Options) (olds news : Sources) (sink_old sink_new : Drained) (report : Report)
    (full : IsBuilt o olds news sink_old sink_new report)
    (more_olds more_news : Sources) (more_old more_new : Drained) (more_report : Report) (small : IsBuilt p more_olds more_news more_old more_new more_report)
    (zero : threshold_for o full.layers ≡ 0) (none : o.ring_limit ≡ 0) (grid : p.grid ≡ o.grid) (same : small.layers ≡ full.layers)
    (source after : Fed) (out_old out_new : Drained) (simplified : Report) (from : IsWrittenTo sink_old sink_new source) where
  -- at a level by which the arcs of the first are reduced at the threshold of the second
  built_at : GuardedAtZero → WrittenLeftLaw → (level : Level) → simplified_threshold p.guards level p.ring_limit full.builds.topology.contents ≡ threshold_for p small.layers
      → IsSimplified p.guards level p.ring_limit source after out_old out_new simplified → Takes out_old out_new small.text (length small.text)
  built_at at_zero law level at s =
      let says = small.builds.topology in
      let t = threshold_for p small.layers in
      let are = taken valid may o olds news sink_old sink_new report full in
      let e : simplified_contents_text p.guards level p.ring_limit s.contents ≡ small.text =
      simplified_text one_value o olds news sink_old sink_new report full source from at_zero law are p.guards level t p.ring_limit at zero none after s.contents s.counts s.read
      ∙ ap (λ g. json_text (topology_value (written_left p.guards g t p.ring_limit full.layers).contents)) (sym grid)
      ∙ ap (λ ls. json_text (topology_value (written_left p.guards p.grid t p.ring_limit ls).contents)) (sym same)
      ∙ ap (λ y. json_text (topology_value y)) (sym says.shared) ∙ sym says.written in
      subst (λ text. Takes out_old out_new text (length text)) e s.written

  -- where each arc of the layers is in the first, its arcs are those of the second before any is reduced
  same_arcs : HasEachArc o full.layers → arc_positions full.builds.topology.contents ≡ arcs_of_layers (snapped_for p small.layers)
  same_arcs has =
      ap arc_positions full.builds.topology.shared ∙ has ∙ ap (λ g. arcs_of_layers (snapped_to g full.layers)) (sym grid)
      ∙ ap (λ ls. arcs_of_layers (snapped_to p.grid ls)) (sym same)

  -- the first is what is written of the second's layers at zero
  whole_at_zero : GuardedAtZero → full.builds.topology.contents ≡ whole_for p small.layers
  whole_at_zero at_zero =
      zero_is one_value o olds news sink_old sink_new report full source from at_zero (taken valid may o olds news sink_old sink_new report full) zero none
      ∙ ap (λ g. written_on g 0 0 full.layers) (sym grid) ∙ ap (λ ls. written_on p.grid 0 0 ls) (sym same)

  -- so at one level both have the same threshold, with guards by what is written at zero, and without by the arcs of the layers
  same_thresholds : GuardedAtZero → (is_at_once p.guards ≡ false → HasEachArc o full.layers) → simplified_threshold p.guards p.level p.ring_limit full.builds.topology.contents ≡ threshold_for p small.layers
  same_thresholds at_zero has =
      let y = full.builds.topology.contents in
      let few = without_small p.guards p.ring_limit y in
      same_over p.guards p.level few (arc_positions few) (arcs_of_layers (snapped_for p small.layers)) (λ plain. ap arc_positions (none_first p.guards p.ring_limit y plain) ∙ same_arcs (has plain))
      ∙ ap (λ z. threshold_over p.guards p.level (without_small p.guards p.ring_limit z) (arcs_of_layers (snapped_for p small.layers))) (whole_at_zero at_zero)

  same_chosen : GuardedAtZero → (is_at_once p.guards ≡ false → HasEachArc o full.layers) → IsSimplified p.guards p.level p.ring_limit source after out_old out_new simplified
      → simplified.chosen ≡ more_report.chosen
  same_chosen at_zero has s =
      ap (λ (r : Report). r.chosen) s.reported
      ∙ ap (λ y. chosen_for p.level (simplified_threshold p.guards p.level p.ring_limit y)) (same_contents one_value o olds news sink_old sink_new report full source from after s.contents s.counts s.read)
      ∙ ap (chosen_for p.level) (same_thresholds at_zero has) ∙ sym (ap (λ (r : Report). r.chosen) small.reported)

-- a threshold that is given is the same with guards and without
given : (b : Bool) (t : ℕ) → cond b t t ≡ t
given true t = refl
given false t = refl

pub simplifies_to_built : OneValue → GuardedAtZero → WrittenLeftLaw → ReadsValid → ReadAreTaken → SimplifiesToBuilt
simplifies_to_built one_value at_zero law valid may o p olds news sink_old sink_new report full more_olds more_news more_old more_new more_report small zero none grid same source after out_old out_new simplified from =
    built_at one_value valid may o p olds news sink_old sink_new report full more_olds more_news more_old more_new more_report small zero none grid same source after out_old out_new simplified from at_zero law
    (Fixed (threshold_for p small.layers)) (given (is_at_once p.guards) (threshold_for p small.layers))

pub simplifies_by_level : OneValue → GuardedAtZero → WrittenLeftLaw → ReadsValid → ReadAreTaken → SimplifiesByLevel
simplifies_by_level one_value at_zero law valid may o p olds news sink_old sink_new report full more_olds more_news more_old more_new more_report small zero none grid same has source after out_old out_new simplified from s = (
  built_at one_value valid may o p olds news sink_old sink_new report full more_olds more_news more_old more_new more_report small zero none grid same source after out_old out_new simplified from at_zero law p.level
      (same_thresholds one_value valid may o p olds news sink_old sink_new report full more_olds more_news more_old more_new more_report small zero none grid same source after out_old out_new simplified from at_zero has) s,
  same_chosen one_value valid may o p olds news sink_old sink_new report full more_olds more_news more_old more_new more_report small zero none grid same source after out_old out_new simplified from at_zero has s,
)

pub decodes_back : OneValue → DecodesBack
decodes_back one_value o olds news sink_old sink_new report is source plain from = writes_expected one_value o olds news sink_old sink_new report is source from plain

pub summarises_back : OneValue → SummarisesBack
summarises_back one_value o olds news sink_old sink_new report is source after summary from s =
    summary_same one_value o olds news sink_old sink_new report is source from after summary s
