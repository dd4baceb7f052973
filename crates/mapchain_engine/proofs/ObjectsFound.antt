-- The features of the object of a name of the topology that was read, or that there is none.
use Rattle.std.proofs.Common.{◌≡◌, ℕ, List, Option, Some, None, refl, sym, ap}
use Rattle.byte_ends.specs.Ends.{Fed, Drained}
use Rattle.geojson_types.specs.declared.counts.Counts.{Counts}
use Rattle.geometry.specs.Lists.{map_some}
use Rattle.topojson_types.specs.declared.object.TopoObject.{TopoObject}
use Rattle.topojson_types.specs.declared.object.TopoObject.TheVariants.{One, Many}
use Rattle.topojson_types.specs.Decoding.{decoded, of_name}
use Rattle.topojson_types.specs.Topologies.{Contents}
use Rattle.topojson_writer.specs.Decoded.{object_in}
use Rattle.reports.specs.Positions.{decoded_positions}
use Rattle.inputs.specs.declared.file_fault.FileFault.{FileFault}
use Rattle.inputs.specs.declared.file_fault.FileFault.TheVariants.{ManyPositions, NoObject, Write}
use Rattle.mapchain_engine.specs.Files.{IsTopologyRead, FailsToGive}
use Rattle.mapchain_engine.specs.Geo.{excess, excess_of, FailsToDecode, GivesFeatures, IsGeoFaultWithin, LacksObject}

-- the positions of an object's features, as they are counted
pub counted : (most : Option ℕ) (t : Contents) (o : TopoObject) → excess most (decoded_positions t o) ≡ excess_of most (object_in t o)
counted most t (One f) = refl
counted most t (Many fs) = refl

module _ (name : List ℕ) (old new : Fed) where
  -- ---- the topology is there

  module _ (t : Contents) (counts : Counts) (read : IsTopologyRead old new t counts) where
    pub gives : (o : TopoObject) → Some o ≡ of_name name t.objects → GivesFeatures name old new (object_in t o)
    unfolding decoded
    gives o is = record { contents = t; counts = counts; read = read; found = ap (map_some (object_in t)) (sym is) }

    pub lacks : None ≡ of_name name t.objects → LacksObject name old new
    unfolding decoded
    lacks none = record { contents = t; counts = counts; read = read; absent = ap (map_some (object_in t)) (sym none) }

  -- ---- it isn't

  pub fails_decoding : (most : Option ℕ) (e : FileFault) → FailsToGive old new e → FailsToDecode most name old new e
  fails_decoding most NoObject f = absurd f.2
  fails_decoding most (ManyPositions count) f = absurd f.2
  fails_decoding most e f = f

  pub fails : (most : Option ℕ) (sink : Drained) (e : FileFault) → FailsToGive old new e → IsGeoFaultWithin most name old new sink sink e
  fails most sink NoObject f = absurd f.2
  fails most sink (ManyPositions count) f = absurd f.2
  fails most sink (Write sent) f = absurd f.2
  fails most sink e f = (refl, f)
