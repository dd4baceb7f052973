-- Lines and rings that are taken out of features one after another.
use Rattle.std.proofs.Common.{◌≡◌, Bool, List, [], ◌∷◌, ◌++◌, map, sym, ap, ◌∙◌, append_assoc, append-nil}
use Rattle.std.proofs.lemmas.List.{map-append}
use Rattle.geojson_types.specs.Features.{Shape}
use Rattle.geometry.specs.Lists.{joined}
use Rattle.geometry.specs.Points.{Point}
use Rattle.geometry.specs.Pruning.{lines_and_rings, lines_and_rings_step}
use Rattle.geometry.proofs.ByKind.{AtKinds}
use Rattle.geometry.proofs.Cases.{lines_and_rings_at}
use Rattle.owned_values.proofs.Lists.{joined_append}
use Rattle.topojson_types.specs.Topologies.{TopoShape}
use Rattle.extraction.specs.Extracts.{TakesApart, no_refs, relined, relined_step}
use Rattle.extraction.proofs.Relined.{relined_at}

-- ---- parts, each with lines of its own

pub joined_more : {A B : Type 0} (f : A → List B) (xs : List A) (x : A) → joined (map f (xs ++ x ∷ [])) ≡ joined (map f xs) ++ f x
joined_more f xs x = ap joined (map-append f xs (x ∷ [])) ∙ joined_append (map f xs) (f x ∷ []) ∙ ap (λ zs. joined (map f xs) ++ zs) (append-nil (f x))

pub lines_more : (closed : Bool) (ls : List (List Point)) (l : List Point) → map {B = Bool × List Point} (λ p. (closed, p)) (ls ++ l ∷ []) ≡ map (λ p. (closed, p)) ls ++ (closed, l) ∷ []
lines_more closed ls l = map-append (λ p. (closed, p)) ls (l ∷ [])

pub begun : {Y : Type 0} (before : List (Bool × List Point)) (made : List Y) → made ≡ [] → TakesApart [] [] before made before
begun before made e = (e, sym (append-nil before))

pub one_more : {X Y : Type 0} (lines : List X → List (Bool × List Point)) (left : X → Y) (xs : List X) (x : X) (own before now after : List (Bool × List Point)) (made new : List Y) (o : Y)
    → lines (xs ++ x ∷ []) ≡ lines xs ++ own → TakesApart (lines xs) (map left xs) before made now → TakesApart own (left x) now o after → new ≡ made ++ o ∷ []
    → TakesApart (lines (xs ++ x ∷ [])) (map left (xs ++ x ∷ [])) before new after
one_more lines left xs x own before now after made new o more so here e = (
  e ∙ ap (λ zs. zs ++ o ∷ []) so.0 ∙ ap (λ z. map left xs ++ z ∷ []) here.0 ∙ sym (map-append left xs (x ∷ [])),
  here.1 ∙ ap (λ zs. zs ++ own) so.1 ∙ append_assoc before (lines xs) own ∙ ap (λ zs. before ++ zs) (sym more),
)

-- ---- shapes

pub lines_at : AtKinds (lines_and_rings {P = Point} {L = List Point}) lines_and_rings_step
lines_at = lines_and_rings_at Point (List Point)

pub left_at : AtKinds (relined no_refs) (relined_step no_refs)
left_at = relined_at no_refs

-- one without lines
pub alone : (s : Shape) (before : List (Bool × List Point)) (t : TopoShape) → lines_and_rings s ≡ [] → relined no_refs s ≡ t → TakesApart (lines_and_rings s) (relined no_refs s) before t before
alone s before t e same = (sym same, sym (append-nil before) ∙ ap (λ zs. before ++ zs) (sym e))
