-- The topology that was simplified is the one that the bytes stand for.
use Rattle.std.proofs.Common.{◌≡◌, length, subst, Result, Ok}
use Rattle.byte_ends.specs.Ends.{Takes}
use Rattle.json_reading.proofs.TextsFound.{one_value}
use Rattle.geojson_types.specs.declared.counts.Counts.{Counts}
use Rattle.inputs.proofs.BytesDecided.{same_bytes}
use Rattle.topojson_meaning.specs.declared.fault.TopoFault.{TopoFault}
use Rattle.topojson_meaning.specs.Topologies.{topology}
use Rattle.topojson_types.specs.Topologies.{Contents}
use Rattle.json_value.specs.Limits.{topology_depth}
use Rattle.mapchain_engine.specs.SimplifyLaws.{WrittenIsSimplified}
use Rattle.mapchain_engine.specs.Simplified.{simplified_contents_text, report_of}

same_read : (r : Result (Contents × Counts) TopoFault) (x y : Contents × Counts) → r ≡ Ok x → r ≡ Ok y → x ≡ y
same_read r x y h k = cc

pub written_is_simplified : WrittenIsSimplified
written_is_simplified guards level limit bytes contents counts source after sink_old sink_new report is left done =
    let b = same_bytes source.left bytes done.read.bytes left done.read.read.all in
    let v = one_value topology_depth topology_depth done.read.bytes done.read.spells.value is.value done.read.spells.spelled (rw b is.spelled) in
    let e = same_read (topology done.read.spells.value) (done.contents, done.counts) (contents, counts) done.read.spells.stands (rw v is.stands) in (
      subst (λ (z : Contents × Counts). Takes sink_old sink_new (simplified_contents_text guards level limit z.0) (length (simplified_contents_text guards level limit z.0))) e done.written,
      subst (λ (z : Contents × Counts). report ≡ report_of guards level limit z.0 z.1) e done.reported,
    )
