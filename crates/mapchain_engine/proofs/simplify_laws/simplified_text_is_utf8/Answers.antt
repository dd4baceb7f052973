use Rattle.std.proofs.Common.{subst, sym}
use Rattle.json_value.specs.Limits.{topology_depth}
use Rattle.mapchain_engine.specs.Simplified.{left_at, threshold_for}
use Rattle.topojson_types.specs.Validity.{IsTransformed}
use Rattle.mapchain_engine.proofs.SimplifiedTexts.{numbers_kept, texts_kept}
use Rattle.mapchain_engine.proofs.simplify_laws.simplified_text_is_utf8.Goals as goal

pub returns : goal.returns
returns c = λ guards level limit bytes contents counts spells.
    let v = spells.value in
    let formed = c.read_values_are_well_formed.ensures topology_depth bytes v spells.utf8 spells.spelled in
    let valid = c.topology_is_valid.ensures v contents counts spells.stands in
    let less = (left_at guards level limit contents).contents in
    let left = c.left_law.ensures guards (threshold_for guards level limit contents) limit contents in
    let numbers = c.numbers_stay.ensures v contents counts formed.numbers spells.stands in
    let texts = c.texts_stay.ensures v contents counts formed.texts spells.stands in
    c.topology_text_is_utf8.ensures less (subst IsTransformed (sym left.transform) valid.transform)
    (numbers_kept contents less left.labels_stay numbers) (texts_kept contents less left.labels_stay texts)
