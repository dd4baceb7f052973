-- A text that was written whole, and one that wasn't.
use Rattle.std.proofs.Common.{◌≡◌, ℕ, List, Option, None, Result, Ok, Err, IfOk, IfErr}
use Rattle.byte_ends.specs.Ends.{Fed, Drained}
use Rattle.byte_ends.specs.Writes.{Sends}
use Rattle.byte_ends.specs.declared.sink.WriteFault.{WriteFault}
use Rattle.byte_ends.specs.declared.sink.WriteFault.TheVariants.{Write}
use Rattle.geojson_types.specs.declared.layer.FeatureSet.{FeatureSet}
use Rattle.inputs.specs.declared.file_fault.FileFault.{FileFault}
use Rattle.inputs.specs.declared.file_fault.FileFault.TheVariants as fault
use Rattle.inputs.specs.Sent.{file_fault_of}
use Rattle.mapchain_engine.specs.Geo.{excess_of, features_text, GivesFeatures, IsDecodedWithin, IsGeoFaultWithin, SendsText, SendsWithin}
use Rattle.mapchain_engine.specs.FileLaws.{DecodedIsUtf8}

pub cut : (old new : Drained) (text : List ℕ) (e : WriteFault) → Sends old new 0 text (Err e) → SendsText old new text (Err (file_fault_of e))
cut old new text (Write sent) w = w

-- what is sent of features that have no more positions than may be written
pub within : (most : Option ℕ) (old new : Drained) (features : FeatureSet) (r : Result ℕ FileFault) → SendsText old new (features_text features) r → excess_of most features ≡ None
    → SendsWithin most old new features r
within most old new features (Ok sent) w few = (w, few)
within most old new features (Err (fault.Write sent)) w few = (w, few)
within most old new features (Err e) w few = absurd w

module _ (most : Option ℕ) (name : List ℕ) (old new : Fed) (sink_old sink_new : Drained) (features : FeatureSet) (is : GivesFeatures name old new features) where
  pub written : DecodedIsUtf8 → (r : Result ℕ FileFault) → SendsWithin most sink_old sink_new features r → IfOk r (λ sent. IsDecodedWithin most name old new sink_old sink_new sent)
  written utf8 (Ok sent) w =
      let read = is.read in
      record { features = features; given = is; within = w.1; utf8 = utf8 read.bytes name is.contents is.counts features read.spells is.found; written = w.0.0; flushed = w.0.1 }
  written utf8 (Err e) w = tt

  pub prefix : (r : Result ℕ FileFault) → SendsWithin most sink_old sink_new features r → IfErr r (λ e. IsGeoFaultWithin most name old new sink_old sink_new e)
  prefix (Ok sent) w = tt
  prefix (Err (fault.Write sent)) w = record { features = features; given = is; within = w.1; written = w.0 }
  prefix (Err (fault.ManyPositions count)) w = (w.0, record { features = features; given = is; over = w.1 })
  prefix (Err e) w = absurd w.0
