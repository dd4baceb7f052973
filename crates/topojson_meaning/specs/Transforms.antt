-- The transform of a topology (TopoJSON 1.0, section 2.1.2), or the first fault.
use Rattle.std.specs.Prelude.{ℕ, ℤ, List, [], ◌∷◌, Option, Some, None, Result, Ok, Err, codes}
use Rattle.json_value.specs.declared.json.Json.{Json}
use Rattle.json_value.specs.declared.json.Json.TheViews.{out-Json}
use Rattle.json_value.specs.declared.json.Json.TheOpen.{Json-F}
use Rattle.topojson_types.specs.declared.transform.Transform.{Transform}
use Rattle.topojson_types.specs.TransformNumbers.{transform_value}
use Rattle.topojson_meaning.specs.declared.fault.TopoFault.{TopoFault}
use Rattle.topojson_meaning.specs.declared.fault.TopoFault.TheVariants.{WrongKind, Range}
use Rattle.topojson_meaning.specs.Arcs.{number_text}
use Rattle.topojson_meaning.specs.Members.{Members, need_as, elements}
use Rattle.topojson_meaning.specs.Reader.{Reader, ◌>>=◌, give, fail, pure}

-- two number texts, x first; elements after them are not looked at
abbrev pub texts_in : List Json → Reader (List ℕ × List ℕ)
texts_in [] = fail WrongKind
texts_in (v ∷ []) = fail WrongKind
texts_in (v ∷ w ∷ more) = do
  s ← pure (number_text v)
  t ← pure (number_text w)
  give (s, t)

-- the two number texts of an array
unfoldable pub texts : Json → Reader (List ℕ × List ℕ)
texts v = do
  vs ← pure (elements v)
  texts_in vs

-- the number text, if its value is within the limit
abbrev pub limited : List ℕ → Option ℤ → Result (List ℕ) TopoFault
limited t None = Err Range
limited t (Some n) = Ok t

unfoldable pub transform_number : List ℕ → Result (List ℕ) TopoFault
transform_number t = limited t (transform_value t)

-- two numbers of a transform
unfoldable pub transform_pair : List ℕ × List ℕ → Reader (List ℕ × List ℕ)
transform_pair ts = do
  s ← pure (transform_number ts.0)
  t ← pure (transform_number ts.1)
  give (s, t)

-- the transform with these members: the texts of both, and then their ranges
unfoldable pub transform_members : Members → Reader Transform
transform_members ms = do
  s ← need_as (codes "scale") texts ms
  t ← need_as (codes "translate") texts ms
  scale ← transform_pair s
  translate ← transform_pair t
  give (record { scale = scale; translate = translate })

-- null is no transform, and an object is one
abbrev pub transform_in : Json-F Json → Reader (Option Transform)
transform_in Json-F.Null = give None
transform_in (Json-F.Object ms) = do
  t ← transform_members ms
  give (Some t)
transform_in _ = fail WrongKind

-- the transform that the member `transform` gives, if it is there
unfoldable pub transform_if : Option Json → Reader (Option Transform)
transform_if None = give None
transform_if (Some v) = transform_in (out-Json v)
