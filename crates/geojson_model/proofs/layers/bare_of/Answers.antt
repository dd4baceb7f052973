use Rattle.std.proofs.Common.{◌∙◌, ap, sym, Ok, [], ◌∷◌}
use Rattle.geojson_model.proofs.LayerParts as part
use Rattle.geojson_model.proofs.layers.bare_of.Goals as goal

pub of-requires : goal.of-requires
of-requires g c = part.bare_proper c.args.start.exact c.requires.0 c.args.start.counts _ _ (c.in-Ok.ensures c.requires.0 c.requires.1)

pub returns-in-Err : goal.returns-in-Err
returns-in-Err g c = λ kind ms is type. rw c.within.ensures (part.judged_bare c.args.start.exact ms c.args.start.counts kind type c.shape_of.new.counts c.in-Err.stop (c.in-Err.ensures ms is))

pub returns-in_ok-one-in-Ok : goal.returns-in_ok-one-in-Ok
returns-in_ok-one-in-Ok g c = λ kind ms is type.
    part.a_bare c.args.start.exact ms c.args.start.counts kind type _ _ (c.in-Ok.ensures ms is) ∙ ap (λ fs. Ok (fs, c.shape_of.new.counts)) (sym (c.in_ok-one-in-Ok.ensures ∙ ap (λ f. f ∷ []) c.of.ensures))
