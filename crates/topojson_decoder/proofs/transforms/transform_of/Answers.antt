use Rattle.std.specs.Prelude.{Err, Ok, codes}
use Rattle.topojson_decoder.proofs.TransformParts as by
use Rattle.topojson_decoder.proofs.transforms.transform_of.Goals as goal

pub returns-in-Err : goal.returns-in-Err
returns-in-Err c = λ ms counts h. by.scale_fails ms counts c.in-Err.fault (by.needed_by (codes "scale") ms c.args.parts.scale counts (Err c.in-Err.fault) h.scale c.in-Err.ensures)

pub returns-in-Err-needed_texts : goal.returns-in-Err-needed_texts
returns-in-Err-needed_texts c = λ ms counts h.
    let scale = by.needed_by (codes "scale") ms c.args.parts.scale counts (Ok c.in-Ok.texts) h.scale c.in-Ok.ensures in
    by.translate_fails ms counts c.in-Ok.texts scale c.in-Err-needed_texts.fault (by.needed_by (codes "translate") ms c.args.parts.translate counts (Err c.in-Err-needed_texts.fault) h.translate c.in-Err-needed_texts.ensures)

pub returns-in-Err-numbers_of : goal.returns-in-Err-numbers_of
returns-in-Err-numbers_of c = λ ms counts h.
    let scale = by.needed_by (codes "scale") ms c.args.parts.scale counts (Ok c.in-Ok.texts) h.scale c.in-Ok.ensures in
    let translate = by.needed_by (codes "translate") ms c.args.parts.translate counts (Ok c.in-Ok-needed_texts.texts) h.translate c.in-Ok-needed_texts.ensures in
    by.scale_range ms counts c.in-Ok.texts scale c.in-Ok-needed_texts.texts translate c.in-Err-numbers_of.fault (c.in-Err-numbers_of.ensures counts)

pub returns-in-Err-numbers_of-2 : goal.returns-in-Err-numbers_of-2
returns-in-Err-numbers_of-2 c = λ ms counts h.
    let scale = by.needed_by (codes "scale") ms c.args.parts.scale counts (Ok c.in-Ok.texts) h.scale c.in-Ok.ensures in
    let translate = by.needed_by (codes "translate") ms c.args.parts.translate counts (Ok c.in-Ok-needed_texts.texts) h.translate c.in-Ok-needed_texts.ensures in
    by.translate_range ms counts c.in-Ok.texts scale c.in-Ok-needed_texts.texts translate c.in-Ok-numbers_of.numbers (c.in-Ok-numbers_of.ensures counts) c.in-Err-numbers_of-2.fault (c.in-Err-numbers_of-2.ensures counts)

pub returns-in-Ok-numbers_of-2 : goal.returns-in-Ok-numbers_of-2
returns-in-Ok-numbers_of-2 c = λ ms counts h.
    let scale = by.needed_by (codes "scale") ms c.args.parts.scale counts (Ok c.in-Ok.texts) h.scale c.in-Ok.ensures in
    let translate = by.needed_by (codes "translate") ms c.args.parts.translate counts (Ok c.in-Ok-needed_texts.texts) h.translate c.in-Ok-needed_texts.ensures in
    by.transform_is ms counts c.in-Ok.texts scale c.in-Ok-needed_texts.texts translate c.in-Ok-numbers_of.numbers (c.in-Ok-numbers_of.ensures counts) c.in-Ok-numbers_of-2.translate (c.in-Ok-numbers_of-2.ensures counts)
