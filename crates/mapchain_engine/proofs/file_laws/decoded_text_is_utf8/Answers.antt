use Rattle.geojson_types.specs.Numbers.{IdHasNumbers, PropertiesHaveNumbers}
use Rattle.geojson_types.specs.Texts.{IdHasTexts, PropertiesHaveTexts}
use Rattle.json_value.specs.Limits.{topology_depth}
use Rattle.mapchain_engine.proofs.DecodedTexts.{decoded_keeps}
use Rattle.mapchain_engine.proofs.file_laws.decoded_text_is_utf8.Goals as goal

pub returns : goal.returns
returns c = λ bytes name contents counts features spells found.
    let v = spells.value in
    let formed = c.read_values_are_well_formed.ensures topology_depth bytes v spells.utf8 spells.spelled in
    let texts = c.texts_stay.ensures v contents counts formed.texts spells.stands in
    c.features_text_is_utf8.ensures features
    (decoded_keeps IdHasNumbers PropertiesHaveNumbers contents name features found (c.numbers_stay.ensures v contents counts formed.numbers spells.stands))
    (decoded_keeps IdHasTexts PropertiesHaveTexts contents name features found texts.features)
