-- The members of a geometry, seen one after another.
use Rattle.std.proofs.Common.{◌≡◌, ℕ, true, false, List, [], ◌∷◌, ◌++◌, Option, Some, None, Ok, Err, Result, refl, ap, sym, subst, ◌∙◌}
use Rattle.std.specs.Prelude.{bytes_eq, codes}
use Rattle.std.specs.Option.{IfSome}
use Rattle.std.specs.Borrow.{Bor}
use Rattle.json_value.specs.declared.json.Json.{Json}
use Rattle.json_value.specs.Members.{Members, named}
use Rattle.topojson_meaning.specs.declared.fault.TopoFault.{TopoFault}
use Rattle.topojson_meaning.specs.declared.geometry_type.GeometryType.{GeometryType}
use Rattle.topojson_meaning.specs.GeometryTypes.{part_name}
use Rattle.geojson_types.specs.declared.counts.Counts.{Counts}
use Rattle.json_cursor.specs.declared.occurrence.Occurrence.{Occurrence}
use Rattle.json_cursor.specs.declared.occurrence.Occurrence.TheVariants.{Never}
use Rattle.topojson_decoder.specs.declared.geometry_parts.GeometryParts.{GeometryParts}
use Rattle.topojson_decoder.specs.declared.geometry_parts.Group.{Group}
use Rattle.topojson_decoder.specs.declared.geometry_parts.PartType.{PartType}
use Rattle.topojson_decoder.specs.declared.geometry_parts.Read.{Read}
use Rattle.topojson_decoder.specs.declared.geometry_parts.Start.{Start}
use Rattle.topojson_decoder.specs.Geometries.{IsGroup, IsNext, IsParts, IsRead, IsReadBy, IsReadOf, IsTaken, IsType, of_part}
use Rattle.json_reading.specs.declared.fault.Fault.{Fault}
use Rattle.json_reading.specs.Passes.{Passes}
use Rattle.json_cursor.specs.Arrays.{prefix_value}
use Rattle.topojson_decoder.specs.Members.{BeginsAt, GoesOnWith, IsOccurrence, IsOnly, see}
use Rattle.topojson_decoder.proofs.MemberOccurrences.{no_other, only_sees, only_stays, passes, sees}

-- nothing was seen of no members
pub no_parts : (start : Start) (d : ℕ) (counts : Counts) → IsParts start d [] (record { kind = Never; coordinates = Never; arcs = Never; geometries = Never; read = record { by = None; shape = Ok None; counts = counts } })
unfolding named
no_parts start d counts = record { kind = refl; coordinates = refl; arcs = refl; geometries = refl; read = tt }

-- what was read of the value that counts
pub taken : (start : Start) (ms : Members) (read : Read) (kind : PartType) (v : Json) → named (part_name (of_part kind)) ms ≡ v ∷ [] → IsRead start ms read → IsTaken start kind v read
taken start ms read kind v one h is = subst (IsOnly (λ w. IsReadBy start kind w read)) one (subst (IsReadOf start ms read) is h)

module _ (start : Start) (d : ℕ) (ms : Members) (parts : GeometryParts) (name : List ℕ) (v : Json) (h : IsParts start d ms parts) where
  abbrev more : Members
  more = ms ++ (name, v) ∷ []

  passes_type : bytes_eq name (codes "type") ≡ false → IsOccurrence IsType (named (codes "type") more) parts.kind
  passes_type other = passes IsType (codes "type") ms name v parts.kind h.kind other

  passes_coordinates : bytes_eq name (codes "coordinates") ≡ false → IsOccurrence (BeginsAt d) (named (codes "coordinates") more) parts.coordinates
  passes_coordinates other = passes (BeginsAt d) (codes "coordinates") ms name v parts.coordinates h.coordinates other

  passes_arcs : bytes_eq name (codes "arcs") ≡ false → IsOccurrence (BeginsAt d) (named (codes "arcs") more) parts.arcs
  passes_arcs other = passes (BeginsAt d) (codes "arcs") ms name v parts.arcs h.arcs other

  passes_geometries : bytes_eq name (codes "geometries") ≡ false → IsOccurrence (IsGroup start) (named (codes "geometries") more) parts.geometries
  passes_geometries other = passes (IsGroup start) (codes "geometries") ms name v parts.geometries h.geometries other

  -- what was read stays where nothing is read
  stays_by : (by : Option PartType) → IsReadOf start ms parts.read by → IsReadOf start more parts.read by
  stays_by None k = tt
  stays_by (Some kind) k = only_stays (λ w. IsReadBy start kind w parts.read) (part_name (of_part kind)) ms name v k

  stays : IsRead start more parts.read
  stays = stays_by parts.read.by h.read

  -- the value is read, if its type is known
  reads : (word : List ℕ) → bytes_eq name word ≡ true → (kind : Option PartType) → IfSome kind (λ k. part_name (of_part k) ≡ word) → (after : Read) → IsNext start kind v parts.read after → IsRead start more after
  reads word same None of_word after next = subst (IsRead start more) (sym next) stays
  reads word same (Some kind) of_word after next =
      subst (IsReadOf start more after) (sym next.0) (only_sees (λ w. IsReadBy start kind w after) (part_name (of_part kind)) ms name v (ap (bytes_eq name) of_word ∙ same) next.1)

  pub sees_type : (x : Result (Option GeometryType) TopoFault) (s : Occurrence (Result (Option GeometryType) TopoFault)) → s ≡ see parts.kind x → bytes_eq name (codes "type") ≡ true → IsType v x
      → IsParts start d more (record { kind = s; coordinates = parts.coordinates; arcs = parts.arcs; geometries = parts.geometries; read = parts.read })
  sees_type x s is same k = record {
    kind = subst (IsOccurrence IsType (named (codes "type") more)) (sym is) (sees IsType (codes "type") ms name v parts.kind h.kind x same k);
    coordinates = passes_coordinates (no_other name (codes "type") (codes "coordinates") same refl);
    arcs = passes_arcs (no_other name (codes "type") (codes "arcs") same refl);
    geometries = passes_geometries (no_other name (codes "type") (codes "geometries") same refl);
    read = stays;
  }

  pub sees_coordinates : (x : Bor (List ℕ)) (s : Occurrence (Bor (List ℕ))) → s ≡ see parts.coordinates x → bytes_eq name (codes "coordinates") ≡ true → BeginsAt d v x
      → (kind : Option PartType) → IfSome kind (λ t. part_name (of_part t) ≡ codes "coordinates") → (after : Read) → IsNext start kind v parts.read after
      → IsParts start d more (record { kind = parts.kind; coordinates = s; arcs = parts.arcs; geometries = parts.geometries; read = after })
  sees_coordinates x s is same k kind of_word after next = record {
    kind = passes_type (no_other name (codes "coordinates") (codes "type") same refl);
    coordinates = subst (IsOccurrence (BeginsAt d) (named (codes "coordinates") more)) (sym is) (sees (BeginsAt d) (codes "coordinates") ms name v parts.coordinates h.coordinates x same k);
    arcs = passes_arcs (no_other name (codes "coordinates") (codes "arcs") same refl);
    geometries = passes_geometries (no_other name (codes "coordinates") (codes "geometries") same refl);
    read = reads (codes "coordinates") same kind of_word after next;
  }

  pub sees_arcs : (x : Bor (List ℕ)) (s : Occurrence (Bor (List ℕ))) → s ≡ see parts.arcs x → bytes_eq name (codes "arcs") ≡ true → BeginsAt d v x
      → (kind : Option PartType) → IfSome kind (λ t. part_name (of_part t) ≡ codes "arcs") → (after : Read) → IsNext start kind v parts.read after
      → IsParts start d more (record { kind = parts.kind; coordinates = parts.coordinates; arcs = s; geometries = parts.geometries; read = after })
  sees_arcs x s is same k kind of_word after next = record {
    kind = passes_type (no_other name (codes "arcs") (codes "type") same refl);
    coordinates = passes_coordinates (no_other name (codes "arcs") (codes "coordinates") same refl);
    arcs = subst (IsOccurrence (BeginsAt d) (named (codes "arcs") more)) (sym is) (sees (BeginsAt d) (codes "arcs") ms name v parts.arcs h.arcs x same k);
    geometries = passes_geometries (no_other name (codes "arcs") (codes "geometries") same refl);
    read = reads (codes "arcs") same kind of_word after next;
  }

  pub sees_geometries : (x : Group) (s : Occurrence Group) → s ≡ see parts.geometries x → bytes_eq name (codes "geometries") ≡ true → IsGroup start v x
      → IsParts start d more (record { kind = parts.kind; coordinates = parts.coordinates; arcs = parts.arcs; geometries = s; read = parts.read })
  sees_geometries x s is same k = record {
    kind = passes_type (no_other name (codes "geometries") (codes "type") same refl);
    coordinates = passes_coordinates (no_other name (codes "geometries") (codes "coordinates") same refl);
    arcs = passes_arcs (no_other name (codes "geometries") (codes "arcs") same refl);
    geometries = subst (IsOccurrence (IsGroup start) (named (codes "geometries") more)) (sym is) (sees (IsGroup start) (codes "geometries") ms name v parts.geometries h.geometries x same k);
    read = stays;
  }

  pub sees_other : bytes_eq name (codes "type") ≡ false → bytes_eq name (codes "coordinates") ≡ false → bytes_eq name (codes "arcs") ≡ false → bytes_eq name (codes "geometries") ≡ false → IsParts start d more parts
  sees_other a b c e = record { kind = passes_type a; coordinates = passes_coordinates b; arcs = passes_arcs c; geometries = passes_geometries e; read = stays }

  -- a name of none of them
  pub sees_word : (word : List ℕ) → bytes_eq name word ≡ true → bytes_eq word (codes "type") ≡ false → bytes_eq word (codes "coordinates") ≡ false → bytes_eq word (codes "arcs") ≡ false → bytes_eq word (codes "geometries") ≡ false → IsParts start d more parts
  sees_word word same a b c e =
      sees_other (no_other name word (codes "type") same a) (no_other name word (codes "coordinates") same b) (no_other name word (codes "arcs") same c) (no_other name word (codes "geometries") same e)

-- a member of another name is passed over
pub other_goes_on : (start : Start) (d : ℕ) (parts : GeometryParts) (name bytes : List ℕ) → bytes_eq name (codes "type") ≡ false → bytes_eq name (codes "coordinates") ≡ false → bytes_eq name (codes "arcs") ≡ false → bytes_eq name (codes "geometries") ≡ false
    → (answer : Result (Bor (List ℕ)) Fault) → Passes answer (prefix_value d bytes) → GoesOnWith (IsParts start d) d name parts parts bytes answer
other_goes_on start d parts name bytes a b c e (Ok rest) h = record { value = h.0; prefix = h.1; holds = λ ms k. sees_other start d ms parts name h.0 k a b c e }
other_goes_on start d parts name bytes a b c e (Err fault) h = h
