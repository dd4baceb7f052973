-- A shape that is read may be that of a feature.
use Rattle.std.proofs.Common.{◌≡◌, ℕ, Bool, true, List, Option, None, Some, Ok, refl, subst, arith}
use Rattle.geojson_meaning.proofs.Names.{object_of-object, IfThere, first_is, depth, Json, Shape, is_proper_option, Counts, geometry, if_some}
use Rattle.json_value.specs.declared.json.Json.TheVariants as j
use Rattle.geojson_meaning.proofs.Inside.{object_shallower}
use Rattle.geojson_meaning.proofs.SoundParts.{SoundIn}
use Rattle.geojson_meaning.proofs.SoundShapes.{ShallowMembers, geometry_yields}

option_proper : (n : ℕ) (o : Option Shape) → IfThere (SoundIn n) o → is_proper_option o ≡ true
option_proper n o h = grind arith

-- members are less deep than their object
pub shallow : (ms : List (List ℕ × Json)) → ShallowMembers (depth (j.Object ms)) ms
shallow ms = object_shallower (j.Object ms) ms (object_of-object ms)

pub object_proper : (exact : Bool) (o : Option (List (List ℕ × Json))) (c d : Counts) (x : Option Shape) → if_some (geometry exact) o c ≡ Ok (x, d) → is_proper_option x ≡ true
object_proper exact None c d x e = subst (λ z. is_proper_option z ≡ true) (first_is e) refl
object_proper exact (Some ms) c d x e = option_proper (depth (j.Object ms)) x (geometry_yields exact (depth (j.Object ms)) ms (shallow ms) c d x e)
