-- Topologies without the arcs that no line uses, where the others are renumbered.
use Rattle.std.specs.Prelude.{ℕ, zero, suc, ◌==◌, ℤ, pos, negsuc, Bool, List, [], ◌∷◌, Option, Some, map, if◌then◌else◌}
use Rattle.std.specs.List.{list_any}
use Rattle.geometry.specs.Lists.{then_some}
use Rattle.geometry.specs.Pruning.{prune}
use Rattle.topojson_types.specs.declared.feature.TopoFeature.{TopoFeature}
use Rattle.topojson_types.specs.declared.object.TopoObject.{TopoObject}
use Rattle.topojson_types.specs.declared.object.TopoObject.TheVariants.{One, Many}
use Rattle.geometry.specs.Joins.{number_of}
use Rattle.topojson_types.specs.Topologies.{Contents, objects_lines_and_rings}

-- an index of a line or ring names the arc of this number
abbrev pub is_used : List (List ℕ × TopoObject) → ℕ → Bool
is_used os i = list_any (λ b. list_any (λ r. number_of r == i) b.1) (objects_lines_and_rings os)

-- the elements whose numbers pass, where the first has this number
abbrev pub keep_from : {X : Type 0} → (ℕ → Bool) → ℕ → List X → List X
keep_from used i [] = []
keep_from used i (x ∷ xs) = if used i then x ∷ keep_from used (suc i) xs else keep_from used (suc i) xs

-- how many of so many numbers pass, from this one on
abbrev pub new_index_from : (ℕ → Bool) → ℕ → ℕ → ℕ
new_index_from used n zero = zero
new_index_from used n (suc count) = if used n then suc (new_index_from used (suc n) count) else new_index_from used (suc n) count

-- the index of the same arc in the same direction, where only the arcs that pass are left
abbrev pub renumbered : (ℕ → Bool) → ℤ → ℤ
renumbered used (pos i) = pos (new_index_from used 0 i)
renumbered used (negsuc i) = negsuc (new_index_from used 0 i)

-- the indexes of an open line or a ring
abbrev pub line_renumbered : (ℕ → Bool) → Bool → List ℤ → Option (List ℤ)
line_renumbered used closed refs = Some (map (renumbered used) refs)

abbrev pub feature_renumbered : (ℕ → Bool) → TopoFeature → TopoFeature
feature_renumbered used f = record { id = f.id; properties = f.properties; shape = then_some (prune (λ p. p) (line_renumbered used)) f.shape }

abbrev pub object_renumbered : (ℕ → Bool) → TopoObject → TopoObject
object_renumbered used (One f) = One (feature_renumbered used f)
object_renumbered used (Many fs) = Many (map (feature_renumbered used) fs)

-- only the arcs that a line or ring uses, in the same order, and each index renumbered
unfoldable pub trimmed : Contents → Contents
trimmed t = record { objects = map (λ o. (o.0, object_renumbered (is_used t.objects) o.1)) t.objects; arcs = keep_from (is_used t.objects) 0 t.arcs; transform = t.transform }
