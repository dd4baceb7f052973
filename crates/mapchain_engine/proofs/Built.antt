-- The outcome of building layers.
use Rattle.std.proofs.Common.{◌≡◌, ◌∙◌, inl, inr, ℕ, suc, ◌<◌, ◌^◌, Bool, true, false, List, ◌∷◌, length, map, Option, Some, None, Ok, Err, ap, arith, refl, sym}
use Rattle.std.specs.List.{AllByRecursion}
use Rattle.std.specs.Prelude.{◌||◌, IsUtf8}
use Rattle.byte_ends.specs.Ends.{Fed, Drained}
use Rattle.byte_ends.specs.Writes.{WritesAll, Sends as SendsText}
use Rattle.byte_ends.specs.declared.sink.WriteFault.{WriteFault}
use Rattle.byte_ends.specs.declared.sink.WriteFault.TheVariants as write
use Rattle.json_value.specs.Limits.{layer_depth, topology_depth}
use Rattle.json_value.specs.Text.{json_text}
use Rattle.geojson_types.specs.declared.counts.Counts.{Counts}
use Rattle.topojson_types.specs.Topologies.{Contents}
use Rattle.topojson_types.specs.Validity.{AreDistinct}
use Rattle.topojson_types.specs.Values.{topology_value}
use Rattle.build_meaning.specs.Layers.{names_of}
use Rattle.build_meaning.specs.Left.{Left, is_at_once, no_guards}
use Rattle.geometry.specs.declared.address.Dropped.{Dropped}
use Rattle.layer_topology.specs.Topologies.{IsLeft}
use Rattle.layer_topology.specs.Written.{AreTaken, written_left, written as written_on}
use Rattle.topojson_meaning.specs.Laws.{IsStored}
use Rattle.inputs.specs.declared.fault.BuildFault.{BuildFault}
use Rattle.inputs.specs.declared.fault.BuildFault.TheVariants.{Write, Memory}
use Rattle.reports.specs.declared.report.Report.{Report}
use Rattle.reports.specs.Summaries.{report_with}
use Rattle.mapchain_engine.specs.Building.{threshold_for, whole_for, full_for, written_for, BuildingLaws, IsGuarded, SaysTopology, Builds, IsBuilt, IsLateFault, Sends, report_of}
use Rattle.mapchain_engine.specs.Simplified.{report_of_left}
use Rattle.mapchain_engine.specs.BuildLaws.{LayerLaws}
use Rattle.mapchain_engine.specs.declared.options.Options.{Options}
use Rattle.inputs.specs.Sent.{build_fault_of}
use Rattle.inputs.specs.Names.{name_fault, IsRefusedFor}
use Rattle.inputs.specs.Reading.{FailsToRead}
use Rattle.inputs.specs.Sources.{Sources, Named, AllRead, FailsAt, FailsToReadAll}
use Rattle.mapchain_engine.proofs.SoundLayers.{AllTaken, all_taken, are_taken, layers_nest, layers_number, layers_texts, names_read, simplifying_level_of}
use Rattle.mapchain_engine.proofs.NamesDistinct.{distinct_names}
use Rattle.mapchain_engine.proofs.SimplifiedTexts.{numbers_kept, texts_kept}
use Rattle.inputs.proofs.SourcesRead.{untroubled_all}

-- the report of what an answer has is that of what is left
pub report_is : (counts : Counts) (left : Left) (topology : Contents) (dropped : List Dropped) (removed_count : ℕ) (chosen : Option ℕ) → IsLeft left topology dropped removed_count
    → report_with counts dropped topology.objects topology.arcs removed_count chosen ≡ report_of_left counts left chosen
report_is counts left topology dropped removed_count chosen is = rw (is.topology_is, is.dropped_are, is.count_is) refl

-- the text of the topology of layers
abbrev pub text_for : Options → Named → List ℕ
text_for o ls = json_text (topology_value (written_for o ls))

-- ---- what is written

-- guards that ask for nothing are none
nothing_asked : (b s : Bool) → b || s ≡ false → record { no_crossings = b; keep_shapes = s } ≡ no_guards
nothing_asked false false e = refl
nothing_asked b s e = absurd cc

module _ (laws : BuildingLaws) (o : Options) where
  -- without guards it is what is written without one
  plainly : (ls : Named) → AreTaken o.grid ls → is_at_once o.guards ≡ false → written_for o ls ≡ written_on o.grid (threshold_for o ls) o.ring_limit ls
  plainly ls are e =
      ap (λ guards. (written_left guards o.grid (threshold_for o ls) o.ring_limit ls).contents) (nothing_asked o.guards.no_crossings o.guards.keep_shapes e)
      ∙ laws.unguarded o.grid (threshold_for o ls) o.ring_limit ls are

  guarded : (ls : Named) → AreTaken o.grid ls → is_at_once o.guards ≡ true → IsGuarded o ls (written_for o ls)
  guarded ls are e =
      let left = laws.left o.guards o.grid (threshold_for o ls) o.ring_limit ls are in
      record {
        valid = left.valid;
        whole = laws.written.back o.grid 0 0 ls are;
        labels_stay = left.is_left.labels_stay;
        crosses = left.is_left.crosses;
        stays = λ k. left.is_left.stays k (laws.written.valid o.grid 0 0 ls are);
        left = sym left.simplified;
        share = laws.share o.guards o.level (full_for o ls) (simplifying_level_of o);
      }

  says : (ls : Named) → AllTaken ls → AreDistinct (names_of ls) → AllByRecursion (λ n. IsUtf8 n) (names_of ls) → length (written_for o ls).arcs < 2 ^ 63 → SaysTopology o ls (text_for o ls)
  says ls taken distinct texts few =
      let are = are_taken o ls taken distinct in
      let t = written_for o ls in
      let left = laws.left o.guards o.grid (threshold_for o ls) o.ring_limit ls are in
      let valid = left.valid in
      let same = left.is_left.labels_stay in
      let stored : IsStored t = (valid, few) in
      let numbers = numbers_kept (whole_for o ls) t same (laws.written.numbers o.grid 0 0 ls (layers_number ls taken)) in
      record {
        utf8 = laws.utf8 t valid.transform numbers (texts_kept (whole_for o ls) t same (laws.written.texts o.grid 0 0 ls are texts (layers_texts ls taken)));
        value = topology_value t;
        spelled = laws.spelled t layer_depth topology_depth stored numbers (left.nests layer_depth (layers_nest ls taken))
            (omega arith);
        contents = t;
        stands = laws.read t stored;
        names = left.names;
        features = λ e. rw (plainly ls are e) (laws.written.back o.grid (threshold_for o ls) o.ring_limit ls are);
        guarded = guarded ls are;
        shared = refl;
        written = refl;
        once = laws.written.once o.grid ls are;
      }

  module _ (olds news : Sources) (ls : Named) (cs : List Counts) (all : AllRead o.exact olds news ls cs)
      (distinct : AreDistinct (names_of ls)) (texts : AllByRecursion (λ n. IsUtf8 n) (names_of ls)) (few : length (written_for o ls).arcs < 2 ^ 63) where
    builds : Builds o olds news ls cs (text_for o ls)
    builds = record { read = all; topology = says ls (all_taken laws.layers o.exact olds news ls cs all) distinct texts few }

    module _ (sink_old sink_new : Drained) where
      pub cut_short : (e : BuildFault) → Sends sink_old sink_new (text_for o ls) (Err e) → IsLateFault o olds news sink_old sink_new e
      cut_short (Write sent) s = record { layers = ls; counts = cs; text = text_for o ls; builds = builds; written = s }
      cut_short e s = absurd s

      pub is_built : (report : Report) → (sent : ℕ) × WritesAll sink_old sink_new 0 (text_for o ls) sent × (sink_new.flushed ≡ true) → report ≡ report_of o ls cs
          → IsBuilt o olds news sink_old sink_new report
      is_built report s reported = record { layers = ls; counts = cs; text = text_for o ls; builds = builds; written = s.1.took; sound = s.1.sound; flushed = s.2; reported = reported }

-- ---- the text is sent

module _ (old new : Drained) (text : List ℕ) where
  pub sent_whole : (sent : ℕ) → SendsText old new 0 text (Ok sent) → (n : ℕ) × WritesAll old new 0 text n × (new.flushed ≡ true)
  sent_whole sent w = (sent, w.0, w.1)

  pub sent_in_part : (e : WriteFault) → SendsText old new 0 text (Err e) → Sends old new text (Err (build_fault_of e))
  sent_in_part (write.Write sent) w = w

-- ---- nothing is written

never : (exact : Bool) (e : BuildFault) → ((n : ℕ) (old new : Fed) → FailsToRead n exact old new e → ⊥) → (n : ℕ) (olds news : Sources) → FailsAt exact n olds news e → ⊥
never exact e ruled_out n (s ∷ ss) (t ∷ ts) (inl f) = ruled_out n s.1 t.1 f.1
never exact e ruled_out n (s ∷ ss) (t ∷ ts) (inr f) = never exact e ruled_out (suc n) ss ts f.3
never exact e ruled_out n olds news f = f

pub not_read : (o : Options) (olds news : Sources) (sink : Drained) (e : BuildFault) → FailsToReadAll o.exact olds news e → IsLateFault o olds news sink sink e
not_read o olds news sink (Write sent) f = absurd (never o.exact (Write sent) (λ n old new h. absurd h.2) 0 olds news f)
not_read o olds news sink e f = (refl, f)

pub no_memory : (o : Options) (olds news : Sources) (sink : Drained) (ls : Named) (cs : List Counts) → AllRead o.exact olds news ls cs → IsLateFault o olds news sink sink Memory
no_memory o olds news sink ls cs all = (refl, untroubled_all o.exact olds news ls cs all)

-- ---- names

pub distinct : (exact : Bool) (olds news : Sources) (ls : Named) (cs : List Counts) → AllRead exact olds news ls cs → name_fault (map (λ s. s.0) olds) ≡ None → AreDistinct (names_of ls)
distinct exact olds news ls cs all e = rw (names_read exact olds news ls cs all) (distinct_names (map (λ s. s.0) olds) e)

pub names_texts : (exact : Bool) (olds news : Sources) (ls : Named) (cs : List Counts) → AllRead exact olds news ls cs → AllByRecursion (λ n. IsUtf8 n) (map (λ s. s.0) olds)
    → AllByRecursion (λ n. IsUtf8 n) (names_of ls)
names_texts exact olds news ls cs all h = rw (names_read exact olds news ls cs all) h

-- what the engine makes of layers that were read may be made of them
pub may_be_made : LayerLaws → (o : Options) (olds news : Sources) (ls : Named) (cs : List Counts) → AllRead o.exact olds news ls cs
    → name_fault (map (λ s. s.0) olds) ≡ None → AreTaken o.grid ls
may_be_made laws o olds news ls cs all e = are_taken o ls (all_taken laws o.exact olds news ls cs all) (distinct o.exact olds news ls cs all e)

-- the fault of the names is the first of all
pub early_names : (names : List (List ℕ)) (found e : BuildFault) → IsRefusedFor (name_fault names) (Err found) → name_fault names ≡ Some e → found ≡ e
early_names names found e refused early = let r = rw early at refused in cc
