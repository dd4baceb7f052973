-- Layers that are read of the same bytes are the same.
use Rattle.std.proofs.Common.{◌≡◌, Bool, List, ap, subst, sym, ◌∙◌, Ok}
use Rattle.geojson_types.specs.declared.counts.Counts.{Counts}
use Rattle.json_value.specs.Text.{json_text}
use Rattle.inputs.specs.LayerLaws.{HaveOneOutcome, ReadIsOutcome}
use Rattle.inputs.specs.Outcomes.{plain_outcome}
use Rattle.inputs.specs.Sources.{Sources, Named, AllRead}
use Rattle.mapchain_engine.specs.Laws.{HaveSameBytes, BuildsOneText, SimplifiesToBuilt, SimplifiesToBuiltOfSame}
use Rattle.mapchain_engine.specs.Building.{written_for, report_of}
use Rattle.topojson_types.specs.Values.{topology_value}

-- layers with their counts
abbrev Read : Type 0
Read = Named × List Counts

same_made : (x y : Read) → plain_outcome (Ok x) ≡ plain_outcome (Ok y) → x ≡ y
same_made x y h = cc

module _ (one : HaveOneOutcome) (read : ReadIsOutcome) where
  same_read : (exact : Bool) (olds news more_olds more_news : Sources) (x y : Read) → HaveSameBytes olds more_olds → AllRead exact olds news x.0 x.1
      → AllRead exact more_olds more_news y.0 y.1 → x ≡ y
  same_read exact olds news more_olds more_news x y same h k =
      same_made x y (one exact same.bytes (Ok x) (Ok y) (read exact olds news x.0 x.1 same.bytes same.have h) (read exact more_olds more_news y.0 y.1 same.bytes same.too k))

  pub builds_one_text : BuildsOneText
  builds_one_text o olds news sink_old sink_new report a more_olds more_news more_old more_new more_report b same =
      let x : Read = (a.layers, a.counts) in
      let y : Read = (b.layers, b.counts) in
      let e : x ≡ y = same_read o.exact olds news more_olds more_news x y same a.builds.read b.builds.read in
      let f : json_text (topology_value (written_for o a.layers)) ≡ json_text (topology_value (written_for o b.layers)) =
      ap (λ (z : Read). json_text (topology_value (written_for o z.0))) e in (
        a.builds.topology.written ∙ ap (λ c. json_text (topology_value c)) a.builds.topology.shared ∙ f ∙ sym (ap (λ c. json_text (topology_value c)) b.builds.topology.shared)
            ∙ sym b.builds.topology.written,
        a.reported ∙ ap (λ (z : Read). report_of o z.0 z.1) e ∙ sym b.reported,
      )

  pub simplifies_of_same : SimplifiesToBuilt → SimplifiesToBuiltOfSame
  simplifies_of_same law o p olds news sink_old sink_new report a more_olds more_news more_old more_new more_report b zero none grid exact same source after out_old out_new simplified from s =
      let x : Read = (a.layers, a.counts) in
      let y : Read = (b.layers, b.counts) in
      let e : x ≡ y = same_read o.exact olds news more_olds more_news x y same a.builds.read (subst (λ z. AllRead z more_olds more_news b.layers b.counts) exact b.builds.read) in
      law o p olds news sink_old sink_new report a more_olds more_news more_old more_new more_report b zero none grid (sym (ap (λ (z : Read). z.0) e)) source after out_old out_new simplified from s
