-- The bytes of a file have one outcome, and what `stat` and `to_geo` say of their answers makes these follow that outcome.
use Rattle.std.proofs.Common.{◌≡◌, ◌⊎◌, ℕ, ◌<◌, List, length, ◌∙◌, ap, subst, refl, inl, inr, Option, None, Some, Result, Ok, Err}
use Rattle.std.specs.Prelude.{IfSome}
use Rattle.byte_ends.specs.Ends.{Fed, Drained}
use Rattle.byte_ends.specs.Writes.{WritesAll}
use Rattle.byte_ends.specs.declared.source.ReadFault.TheVariants as read
use Rattle.json_reading.specs.declared.fault.JsonFault.{JsonFault}
use Rattle.json_reading.specs.declared.fault.JsonFault.TheVariants as text
use Rattle.json_value.specs.declared.json.Json.{Json as Value}
use Rattle.geojson_types.specs.declared.counts.Counts.{Counts}
use Rattle.geojson_types.specs.declared.layer.FeatureSet.{FeatureSet}
use Rattle.topojson_types.specs.Topologies.{Contents}
use Rattle.inputs.specs.declared.file_fault.FileFault.{FileFault}
use Rattle.inputs.specs.declared.file_fault.FileFault.TheVariants.{Read, Json, Topo, NoObject, ManyPositions, Write, Memory}
use Rattle.reports.specs.declared.summary.Summary.{Summary}
use Rattle.mapchain_engine.specs.FileOutcomes.{text_within, object_text_within, unless_many, of_topology, of_file, FileHasOutcome, plain_file_outcome, IsOutsideGiven, IsOutsideFile, FollowsSummary, FollowsText}
use Rattle.json_value.specs.Limits.{topology_depth}
use Rattle.mapchain_engine.specs.Files.{IsTopologyRead, FailsToGive}
use Rattle.mapchain_engine.specs.Geo.{excess_of, features_text, FailsToDecode, GivesFeatures, SendsWithin}
use Rattle.inputs.specs.Texts.{max_input}
use Rattle.inputs.proofs.BytesDecided.{plain_text, one_outcome, text_comes}

-- ---- one outcome

plain-of_file : {A : Type 0} (asked : Contents → Counts → Result A FileFault) (t : Result Value JsonFault) → plain_file_outcome (of_file asked t) ≡ plain_file_outcome (of_file asked (plain_text t))
plain-of_file asked (Ok v) = refl
plain-of_file asked (Err (text.Malformed at why)) = refl
plain-of_file asked (Err e) = refl

pub one_file : {A : Type 0} (asked : Contents → Counts → Result A FileFault) (b : List ℕ) (x y : Result A FileFault) → FileHasOutcome asked b x → FileHasOutcome asked b y → plain_file_outcome x ≡ plain_file_outcome y
one_file asked b x y h k = one_outcome topology_depth (Read read.TooLong) (of_file asked) plain_file_outcome (plain-of_file asked) b x y h k

-- ---- what an answer says of the bytes

pub topology_comes : {A : Type 0} (asked : Contents → Counts → Result A FileFault) (old new : Fed) (b : List ℕ) (t : Contents) (counts : Counts) → old.left ≡ Some b → IsTopologyRead old new t counts
    → FileHasOutcome asked b (asked t counts)
topology_comes asked old new b t counts e is =
    subst (FileHasOutcome asked b) (ap (of_topology asked) is.spells.stands)
    (text_comes topology_depth (Read read.TooLong) (of_file asked) old new b is.bytes (Ok is.spells.value) e is.read (is.spells.utf8, is.spells.spelled))

pub fails_come : {A : Type 0} (asked : Contents → Counts → Result A FileFault) (old new : Fed) (b : List ℕ) (e : FileFault) → old.left ≡ Some b → FailsToGive old new e → IsOutsideGiven e ⊎ FileHasOutcome asked b (Err e)
fails_come asked old new b (Read read.Read) e f = inl tt
fails_come asked old new b (Read read.TooLong) e f = inr (inl (subst (λ z. IfSome z (λ left. max_input < length left)) e f.1, refl))
fails_come asked old new b (Read read.Memory) e f = absurd f
fails_come asked old new b Memory e f = inl tt
fails_come asked old new b (Json fault) e f = inr (text_comes topology_depth (Read read.TooLong) (of_file asked) old new b f.0 (Err fault) e f.1 f.2)
fails_come asked old new b (Topo fault) e f =
    inr (subst (FileHasOutcome asked b) (ap (of_topology asked) f.2.4) (text_comes topology_depth (Read read.TooLong) (of_file asked) old new b f.0 (Ok f.2.2) e f.1 (f.2.1, f.2.3)))
fails_come asked old new b NoObject e f = absurd f.2
fails_come asked old new b (ManyPositions count) e f = absurd f.2
fails_come asked old new b (Write sent) e f = absurd f.2

-- ---- the summary follows

summary_fault : (outcome : Result Summary FileFault) (e : FileFault) → plain_file_outcome (Err e) ≡ plain_file_outcome outcome → FollowsSummary outcome (Err e)
summary_fault (Ok s) e h = absurd cc
summary_fault (Err f) e h = inl cc

pub summary_outside : (outcome : Result Summary FileFault) (e : FileFault) → IsOutsideGiven e → FollowsSummary outcome (Err e)
summary_outside (Ok s) e h = h
summary_outside (Err f) e h = inr h

summary_reported : (outcome : Result Summary FileFault) (s summary : Summary) → plain_file_outcome (Ok s) ≡ plain_file_outcome outcome → summary ≡ s → FollowsSummary outcome (Ok summary)
summary_reported (Ok r) s summary h reported = let e : s ≡ r = cc in reported ∙ e
summary_reported (Err f) s summary h reported = absurd cc

-- what is counted of a topology
abbrev pub counting : (Contents → Summary) → Contents → Counts → Result Summary FileFault
counting of t counts = Ok (of t)

module _ (of : Contents → Summary) (old new : Fed) (b : List ℕ) (left : old.left ≡ Some b) (outcome : Result Summary FileFault) (comes : FileHasOutcome (counting of) b outcome) where
  -- the summary of the topology that was read
  pub summary_decides : (t : Contents) (counts : Counts) (summary : Summary) → IsTopologyRead old new t counts → summary ≡ of t → FollowsSummary outcome (Ok summary)
  summary_decides t counts summary is reported = summary_reported outcome (of t) summary (one_file (counting of) b (Ok (of t)) outcome (topology_comes (counting of) old new b t counts left is) comes) reported

  -- why there is none
  pub summary_fails : (e : FileFault) → FailsToGive old new e → FollowsSummary outcome (Err e)
  summary_fails e fails = on (fails_come (counting of) old new b e left fails)
    where
      on : IsOutsideGiven e ⊎ FileHasOutcome (counting of) b (Err e) → FollowsSummary outcome (Err e)
      on (inl out) = summary_outside outcome e out
      on (inr all) = summary_fault outcome e (one_file (counting of) b (Err e) outcome all comes)

-- ---- the text follows

pub is_outside : (e : FileFault) → IsOutsideGiven e → IsOutsideFile e
is_outside (Read r) h = h
is_outside Memory h = h
is_outside (Write sent) h = tt
is_outside e h = absurd h

module _ (sink_old sink_new : Drained) where
  text_fault : (outcome : Result (List ℕ) FileFault) (e : FileFault) → plain_file_outcome (Err e) ≡ plain_file_outcome outcome → FollowsText sink_old sink_new outcome (Err e)
  text_fault (Ok s) e h = absurd cc
  text_fault (Err f) e h = inl cc

  text_outside : (outcome : Result (List ℕ) FileFault) (e : FileFault) → IsOutsideGiven e → FollowsText sink_old sink_new outcome (Err e)
  text_outside (Ok s) e h = is_outside e h
  text_outside (Err f) e h = inr h

  text_written : (outcome : Result (List ℕ) FileFault) (t : List ℕ) (sent : ℕ) → plain_file_outcome (Ok t) ≡ plain_file_outcome outcome → WritesAll sink_old sink_new 0 t sent → FollowsText sink_old sink_new outcome (Ok sent)
  text_written (Ok r) t sent h w = let e : t ≡ r = cc in subst (λ z. WritesAll sink_old sink_new 0 z sent) e w
  text_written (Err f) t sent h w = absurd cc

  text_cut : (outcome : Result (List ℕ) FileFault) (t : List ℕ) (sent : ℕ) → plain_file_outcome (Ok t) ≡ plain_file_outcome outcome → FollowsText sink_old sink_new outcome (Err (Write sent))
  text_cut (Ok r) t sent h = tt
  text_cut (Err f) t sent h = absurd cc

  module _ (most : Option ℕ) (name : List ℕ) (old new : Fed) (b : List ℕ) (left : old.left ≡ Some b) (outcome : Result (List ℕ) FileFault)
      (comes : FileHasOutcome (object_text_within most name) b outcome) where
    failed : (e : FileFault) → FailsToGive old new e → FollowsText sink_old sink_new outcome (Err e)
    failed e fails = on (fails_come (object_text_within most name) old new b e left fails)
      where
        on : IsOutsideGiven e ⊎ FileHasOutcome (object_text_within most name) b (Err e) → FollowsText sink_old sink_new outcome (Err e)
        on (inl out) = text_outside outcome e out
        on (inr all) = text_fault outcome e (one_file (object_text_within most name) b (Err e) outcome all comes)

    -- the topology that was read decides
    read_decides : (t : Contents) (counts : Counts) (r : Result (List ℕ) FileFault) → IsTopologyRead old new t counts → object_text_within most name t counts ≡ r → plain_file_outcome r ≡ plain_file_outcome outcome
    read_decides t counts r is e =
        one_file (object_text_within most name) b r outcome (subst (FileHasOutcome (object_text_within most name) b) e (topology_comes (object_text_within most name) old new b t counts left is)) comes

    read_text : (features : FeatureSet) (is : GivesFeatures name old new features) (over : Option ℕ) → excess_of most features ≡ over
        → object_text_within most name is.contents is.counts ≡ unless_many over (features_text features)
    read_text features is over e = ap (text_within most) is.found ∙ ap (λ (o : Option ℕ). unless_many o (features_text features)) e

    -- where no features are had, or they have too many positions, nothing is written
    pub found_fails : (e : FileFault) → FailsToDecode most name old new e → FollowsText sink_old sink_new outcome (Err e)
    found_fails NoObject is = text_fault outcome NoObject (read_decides is.contents is.counts (Err NoObject) is.read (ap (text_within most) is.absent))
    found_fails (ManyPositions count) is =
        text_fault outcome (ManyPositions count) (read_decides is.given.contents is.given.counts (Err (ManyPositions count)) is.given.read (read_text is.features is.given (Some count) is.over))
    found_fails (Write sent) is = failed (Write sent) is
    found_fails Memory is = failed Memory is
    found_fails (Read r) is = failed (Read r) is
    found_fails (Json r) is = failed (Json r) is
    found_fails (Topo r) is = failed (Topo r) is

    -- the text of the features that are had is written, or a prefix of it, or they have too many positions
    pub sent_decides : (features : FeatureSet) → GivesFeatures name old new features → (r : Result ℕ FileFault) → SendsWithin most sink_old sink_new features r
        → FollowsText sink_old sink_new outcome r
    sent_decides features is (Ok sent) w = text_written outcome (features_text features) sent (read_decides is.contents is.counts (Ok (features_text features)) is.read (read_text features is None w.1)) w.0.0
    sent_decides features is (Err (Write sent)) w = text_cut outcome (features_text features) sent (read_decides is.contents is.counts (Ok (features_text features)) is.read (read_text features is None w.1))
    sent_decides features is (Err (ManyPositions count)) w =
        text_fault outcome (ManyPositions count) (read_decides is.contents is.counts (Err (ManyPositions count)) is.read (read_text features is (Some count) w.1))
    sent_decides features is (Err e) w = absurd w.0
