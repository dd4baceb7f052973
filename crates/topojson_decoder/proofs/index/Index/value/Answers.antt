use Rattle.std.proofs.Common.{Ok, inl, inr, subst, sym}
use Rattle.topojson_decoder.specs.Index.{GoesOnOrLoses}
use Rattle.topojson_decoder.specs.declared.index.Index.{Index}
use Rattle.topojson_decoder.proofs.IndexParts as part
use Rattle.topojson_decoder.proofs.LostParts as lost
use Rattle.topojson_decoder.proofs.index.Index.value.Goals as goal
use Rattle.topojson_decoder.proofs.index.Index.value.Goals.{then-is_name-4, else-is_name-4}

pub returns-then-is_name : goal.returns-then-is_name
returns-then-is_name c =
    let found = c.in_ok-transform.ensures in (
      inl (record {
        value = found.0;
        prefix = found.1;
        holds = λ ms h. part.sees_transform c.args.start c.args.depth_left ms c.args.self.now c.args.name.now found.0 h c.in_ok-transform.transform _ _ c.see.ensures c.forget_read.ensures (sym c.if-is_name.ensures) found.2;
      }),
      lost.stays_unread c.args.depth_left c.args.self.now.arcs c.args.self.now.objects _ c.forget_read.ensures,
    )

pub returns-then-is_name-2 : goal.returns-then-is_name-2
returns-then-is_name-2 c = (
  elim c.in_ok-arcs.ensures [
    | inl found ↦ inl (record {
      value = found.0;
      prefix = found.1;
      holds = λ ms h. part.sees_arcs c.args.start c.args.depth_left ms c.args.self.now c.args.name.now found.0 h c.in_ok-arcs.arcs _ c.see-then-is_name-2.ensures (sym c.if-is_name-2.ensures) found.2;
    })
    | inr none ↦ inr (none.0, lost.arcs_lost c.args.depth_left c.args.self.now.arcs c.args.self.now.objects _ c.in_ok-arcs.arcs c.see-then-is_name-2.ensures none.1)
  ],
  lost.stays_arcs c.args.depth_left c.args.self.now.arcs c.args.self.now.objects _ c.in_ok-arcs.arcs c.see-then-is_name-2.ensures,
)

pub returns-then-is_name-3 : goal.returns-then-is_name-3
returns-then-is_name-3 c = (
  elim (lost.here c.args.depth_left c.args.bytes.now c.in_ok-rest.rest c.in_ok-rest.ensures) [
    | inl none ↦ inr (none, lost.objects_lost c.args.depth_left c.args.self.now.arcs c.args.self.now.objects _ c.args.bytes c.see-then-is_name-3.ensures none)
    | inr found ↦ inl (record {
      value = found.0;
      prefix = found.1;
      holds = λ ms h. part.sees_objects c.args.start c.args.depth_left ms c.args.self.now c.args.name.now found.0 h c.args.bytes _ c.see-then-is_name-3.ensures (sym c.if-is_name-3.ensures) (_, found.1);
    })
  ],
  lost.stays_objects c.args.depth_left c.args.self.now.arcs c.args.self.now.objects _ c.args.bytes c.see-then-is_name-3.ensures,
)

pub returns : goal.returns
returns c =
    let d = c.args.depth_left in
    let name = c.args.name.now in
    let found = c.in_ok-rest-2.ensures in
    elim c.if-is_name-4.branch [
      | then-is_name-4 w ↦ subst (λ (s : Index). GoesOnOrLoses c.args.start d name c.args.self.now s c.args.bytes.now (Ok c.in_ok-rest-2.rest)) (sym w.self-is) (
        inl (record {
          value = found.0;
          prefix = found.1;
          holds = λ ms h. part.sees_type c.args.start d ms c.args.self.now name found.0 h c.args.bytes _ w.see-then-is_name-4.ensures (sym w.if-is_name-4.ensures) (_, found.1);
        }),
        λ h. h,
      )
      | else-is_name-4 w ↦ subst (λ (s : Index). GoesOnOrLoses c.args.start d name c.args.self.now s c.args.bytes.now (Ok c.in_ok-rest-2.rest)) (sym w.self-is) (
        inl (record {
          value = found.0;
          prefix = found.1;
          holds = λ ms h. part.sees_other c.args.start d ms c.args.self.now name found.0 h (sym w.if-is_name-4.ensures) (sym c.if-is_name.ensures) (sym c.if-is_name-2.ensures) (sym c.if-is_name-3.ensures);
        }),
        λ h. h,
      )
    ]
