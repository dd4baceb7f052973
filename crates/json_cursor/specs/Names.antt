-- The names of members.
use Rattle.std.specs.Prelude.{ℕ, List}
use Rattle.json_cursor.specs.declared.names.Name.{Name}
use Rattle.json_cursor.specs.declared.names.Name.TheVariants.{Plain, Made}

-- its characters
abbrev pub name_of : Name → List ℕ
name_of (Plain name) = name.now
name_of (Made name) = name
