-- From what is read and what is sent to what is answered.
use Rattle.std.proofs.Common.{◌≡◌, ℕ, true, subst, refl, Ok, Err}
use Rattle.byte_ends.specs.Ends.{Fed, Drained}
use Rattle.byte_ends.specs.Writes.{WritesAll}
use Rattle.inputs.specs.declared.file_fault.FileFault.{FileFault}
use Rattle.inputs.specs.declared.file_fault.FileFault.TheVariants.{Write}
use Rattle.json_value.specs.Text.{json_text}
use Rattle.reports.specs.declared.report.Report.{Report}
use Rattle.topojson_meaning.specs.Laws.{ReadsValid}
use Rattle.topojson_types.specs.Topologies.{Contents}
use Rattle.topojson_types.specs.Values.{topology_value}
use Rattle.layer_topology.specs.GuardLaws.{LeftLaw, ShareStays}
use Rattle.layer_topology.specs.Levels.{is_simplifying_level}
use Rattle.build_meaning.specs.InTurn.{without_small}
use Rattle.build_meaning.specs.declared.guards.Guards.{Guards}
use Rattle.layer_topology.specs.declared.level.Level.{Level}
use Rattle.mapchain_engine.specs.Files.{FailsToGive}
use Rattle.mapchain_engine.specs.Geo.{SendsText}
use Rattle.mapchain_engine.specs.SimplifyLaws.{SimplifiedIsUtf8}
use Rattle.mapchain_engine.specs.Simplified.{threshold_for, IsReadAndSimplified, IsSimplified, IsSimplifyFault}

-- ---- nothing is written

pub not_given : (guards : Guards) (level : Level) (limit : ℕ) (old new : Fed) (sink : Drained) (e : FileFault) → FailsToGive old new e → IsSimplifyFault guards level limit old new sink sink e
not_given guards level limit old new sink (Write sent) f = absurd f.2
not_given guards level limit old new sink e f = (refl, f)

-- ---- the text of what is left is sent

module _ (guards : Guards) (level : Level) (limit : ℕ) (old new : Fed) (sink_old sink_new : Drained) (less : Contents) (report : Report) (is : IsReadAndSimplified guards level limit old new less report) where
  pub sent_whole : SimplifiedIsUtf8 → LeftLaw → ShareStays → ReadsValid → is_simplifying_level level ≡ true → (sent : ℕ) → SendsText sink_old sink_new (json_text (topology_value less)) (Ok sent) → IsSimplified guards level limit old new sink_old sink_new report
  sent_whole utf8 law stays valid may sent w =
      let all = subst (λ z. WritesAll sink_old sink_new 0 (json_text (topology_value z)) sent) is.left w.0 in
      let read = is.read in
      let left = law guards (threshold_for guards level limit is.contents) limit is.contents in
      record {
        contents = is.contents;
        counts = is.counts;
        read = is.read;
        utf8 = utf8 guards level limit read.bytes is.contents is.counts read.spells;
        written = all.took;
        sound = all.sound;
        flushed = w.1;
        reported = is.reported;
        crosses = left.crosses;
        stays = λ k. left.stays k (valid read.spells.value is.contents is.counts read.spells.stands);
        share = stays guards level (without_small guards limit is.contents) may;
      }

  pub cut_short : (e : FileFault) → SendsText sink_old sink_new (json_text (topology_value less)) (Err e) → IsSimplifyFault guards level limit old new sink_old sink_new e
  cut_short (Write sent) w =
      record { contents = is.contents; counts = is.counts; read = is.read; written = rw is.left at w }
  cut_short e w = absurd w
