-- What is kept of properties.
use Rattle.std.specs.Prelude.{ℕ, List}
use Rattle.json_value.specs.Text.{json_text}
use Rattle.json_value.specs.declared.json.Json.TheVariants as j
use Rattle.json_value.specs.declared.properties.Form.{Form}
use Rattle.json_value.specs.declared.properties.Form.TheVariants.{Values, Text, Lent}
use Rattle.json_value.specs.PropertyMembers.{Members, members_in}

-- the members
abbrev pub kept_members : Form → Members
kept_members (Values ms) = ms
kept_members (Text t) = members_in t
kept_members (Lent t) = members_in t.now

-- the text of the object
abbrev pub kept_text : Form → List ℕ
kept_text (Values ms) = json_text (j.Object ms)
kept_text (Text t) = t
kept_text (Lent t) = t.now
