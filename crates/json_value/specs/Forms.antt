-- What is seen of properties.
use Rattle.std.specs.Prelude.{◌≡◌}
use Rattle.json_value.specs.Text.{json_text}
use Rattle.json_value.specs.declared.json.Json.TheVariants as j
use Rattle.json_value.specs.declared.properties.PropertiesForm.{PropertiesForm}
use Rattle.json_value.specs.declared.properties.PropertiesForm.TheVariants.{Values, Text}
use Rattle.json_value.specs.PropertyMembers.{Members, members_in}

-- It is these members, or the text that is written for them and that is read as them.
abbrev pub Shows : Members → PropertiesForm → Type 0
Shows ms (Values vs) = ms ≡ vs.now
Shows ms (Text t) = (ms ≡ members_in t.now) × (json_text (j.Object ms) ≡ t.now)
