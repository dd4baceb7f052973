-- Lines gathered part by part, feature by feature and layer by layer.
use Rattle.owned_values.proofs.Lists.{take_here}
use Rattle.std.proofs.Common.{◌≡◌, ℕ, suc, ◌+◌, ◌<◌, ◌≤◌, Bool, true, List, [], ◌∷◌, ◌++◌, map, take, length, get_or, append_assoc, append-nil, refl, ap, sym, ◌∙◌, arith}
use Rattle.std.proofs.lemmas.List.{take_all, length-map, length-take-le, map-append}
use Rattle.std.proofs.lemmas.List.Elements.{filter-append}
use Rattle.std.proofs.lemmas.Simd.{map-map}
use Rattle.geometry.specs.Points.{Point}
use Rattle.geojson_types.specs.Features.{Featured}
use Rattle.geometry.specs.Paths.{Placed, alone, inside_part, of_parts}
use Rattle.geometry.specs.declared.address.Address.{Address}
use Rattle.geojson_types.specs.declared.layer.Layer.{Layer}
use Rattle.junctions.specs.declared.stroke.Stroke.{Stroke}
use Rattle.junctions.specs.Cleaning.{clean}
use Rattle.linework.specs.Linework.{line_or_ring_at, feature_lines_and_rings, lines_and_rings_of_layer, lines_and_rings_of_layers, linework, collapsed}
use Rattle.linework.specs.Outlines.{Outline, cleaned, features_lines_and_rings}
use Rattle.linework.proofs.Outlined.{long_cleaned}
use Rattle.linework.proofs.Placing.{reported}
use Rattle.geometry.specs.Addresses.{part_address}
use Rattle.geometry.specs.Lists.{joined}
use Rattle.junctions.specs.Gathering.{Gathered, Standing, nothing_gathered, with_lines_and_rings}

pub with_append : (g : Gathered) (ss ts : List Standing) → with_lines_and_rings (with_lines_and_rings g ss) ts ≡ with_lines_and_rings g (ss ++ ts)
with_append g ss ts = unfold with_lines_and_rings in grind (arith, append_assoc, filter-append, map-append)

pub with_none : (g : Gathered) → with_lines_and_rings g [] ≡ g
with_none g = unfold with_lines_and_rings in grind (arith, append-nil)

abbrev pub Lines : Type 0
Lines = List (Placed (Bool × List Point))

-- a line or a ring with no way
abbrev pub single : Bool → List Point → Lines
single closed ps = alone (closed, ps)

-- the rings of a polygon
abbrev pub rings : List (List Point) → Lines
rings rs = of_parts 0 (map (single true) rs)

-- one line alone
pub with_alone : (g : Gathered) (a : Address) (closed : Bool) (ps qs : List Point) → qs ≡ clean ps →
    with_lines_and_rings g (record { address = a; line_or_ring = record { closed = closed; positions = qs } } ∷ []) ≡ with_lines_and_rings g (map (line_or_ring_at a) (single closed ps))
with_alone g a closed ps qs e = grind (arith, append-nil)

inside_at : (a : Address) (i : ℕ) (xs : Lines) → map (line_or_ring_at a) (inside_part i xs) ≡ map (line_or_ring_at (part_address a i)) xs
inside_at a i [] = refl
inside_at a i (x ∷ xs) = grind (arith, append_assoc, inside_at a i xs)

parts_more : (i : ℕ) (xss : List Lines) (xs : Lines) → of_parts i (xss ++ (xs ∷ [])) ≡ of_parts i xss ++ inside_part (i + length xss) xs
parts_more i [] xs = let n : i ≡ i + 0 = omega arith in append-nil (inside_part i xs) ∙ ap (λ k. inside_part k xs) n
parts_more i (ys ∷ xss) xs = grind (arith, append_assoc, parts_more (suc i) xss xs)

-- one part more
pub parts_turn : {A : Type 0} (f : A → Lines) (a : Address) (g now new : Gathered) (xs : List A) (i : ℕ) (x : A) (part : Address) (ys : Lines) → i < length xs → x ≡ get_or xs i x →
    now ≡ with_lines_and_rings g (map (line_or_ring_at a) (of_parts 0 (map f (take i xs)))) → part ≡ part_address a i → ys ≡ f x →
    new ≡ with_lines_and_rings now (map (line_or_ring_at part) ys) → new ≡ with_lines_and_rings g (map (line_or_ring_at a) (of_parts 0 (map f (take (i + 1) xs))))
parts_turn f a g now new xs i x part ys l e h pe ye k =
    let n : 0 + length (map f (take i xs)) ≡ i = ap (λ m. 0 + m) (length-map (take i xs) f ∙ length-take-le i xs (omega arith)) ∙ (let z : 0 + i ≡ i = omega arith in z) in
    let m : of_parts 0 (map f (take (i + 1) xs)) ≡ of_parts 0 (map f (take i xs)) ++ inside_part i (f x) =
    ap (λ l. of_parts 0 (map f l)) (take_here xs i x l e) ∙ ap (of_parts 0) (map-append f (take i xs) (x ∷ []))
    ∙ parts_more 0 (map f (take i xs)) (f x) ∙ ap (λ j. of_parts 0 (map f (take i xs)) ++ inside_part j (f x)) n in
    k ∙ ap (λ z. with_lines_and_rings now (map (line_or_ring_at z) ys)) pe ∙ ap (λ z. with_lines_and_rings now (map (line_or_ring_at (part_address a i)) z)) ye
    ∙ ap (λ z. with_lines_and_rings z (map (line_or_ring_at (part_address a i)) (f x))) h
    ∙ with_append g (map (line_or_ring_at a) (of_parts 0 (map f (take i xs)))) (map (line_or_ring_at (part_address a i)) (f x))
    ∙ ap (with_lines_and_rings g) (ap (λ l. map (line_or_ring_at a) (of_parts 0 (map f (take i xs))) ++ l) (sym (inside_at a i (f x)))
    ∙ sym (map-append (line_or_ring_at a) (of_parts 0 (map f (take i xs))) (inside_part i (f x))) ∙ ap (map (line_or_ring_at a)) (sym m))

-- one element more of a list that is numbered from zero, be it of features or of layers
module _ {X : Type 0} (of : ℕ → X → List Standing) (all : ℕ → List X → List Standing) (none : (i : ℕ) → all i [] ≡ [])
    (some : (i : ℕ) (x : X) (xs : List X) → all i (x ∷ xs) ≡ of i x ++ all (suc i) xs) where
  all_more : (i : ℕ) (xs : List X) (x : X) → all i (xs ++ (x ∷ [])) ≡ all i xs ++ of (i + length xs) x
  all_more i [] x = grind (arith, append-nil)
  all_more i (y ∷ ys) x = grind (arith, append_assoc, all_more (suc i) ys x)

  all_turn : (g now new : Gathered) (xs : List X) (i : ℕ) (x : X) → i < length xs → x ≡ get_or xs i x →
      now ≡ with_lines_and_rings g (all 0 (take i xs)) → new ≡ with_lines_and_rings now (of i x) → new ≡ with_lines_and_rings g (all 0 (take (i + 1) xs))
  all_turn g now new xs i x l e h k =
      grind (arith, length-take-le i xs (omega arith), with_append g (all 0 (take i xs)) (of i x), take_here xs i x l e, all_more 0 (take i xs) x)

pub features_turn : (layer : ℕ) (g now new : Gathered) (fs : List Featured) (i : ℕ) (f : Featured) → i < length fs → f ≡ get_or fs i f →
    now ≡ with_lines_and_rings g (lines_and_rings_of_layer layer 0 (take i fs)) → new ≡ with_lines_and_rings now (feature_lines_and_rings layer i f) → new ≡ with_lines_and_rings g (lines_and_rings_of_layer layer 0 (take (i + 1) fs))
features_turn layer = all_turn (feature_lines_and_rings layer) (lines_and_rings_of_layer layer) (λ i. refl) (λ i x xs. refl)

pub layers_turn : (g now new : Gathered) (ls : List Layer) (i : ℕ) (l : Layer) → i < length ls → l ≡ get_or ls i l →
    now ≡ with_lines_and_rings g (lines_and_rings_of_layers 0 (take i ls)) → new ≡ with_lines_and_rings now (lines_and_rings_of_layer i 0 l.features) → new ≡ with_lines_and_rings g (lines_and_rings_of_layers 0 (take (i + 1) ls))
layers_turn = all_turn (λ i l. lines_and_rings_of_layer i 0 l.features) lines_and_rings_of_layers (λ i. refl) (λ i x xs. refl)

-- without their addresses, they are the lines and rings by themselves
abbrev clean_each : List Outline → List Stroke
clean_each bs = map (λ b. cleaned b.0 b.1) bs

abbrev strokes_of : List Standing → List Stroke
strokes_of xs = map (λ x. x.line_or_ring) xs

placed_strokes : (a : Address) (xs : Lines) → strokes_of (map (line_or_ring_at a) xs) ≡ clean_each (map (λ x. x.part) xs)
placed_strokes a xs = map-map (λ x. x.line_or_ring) (line_or_ring_at a) xs ∙ sym (map-map (λ (b : Outline). cleaned b.0 b.1) (λ x. x.part) xs)

features_strokes : (i j : ℕ) (fs : List Featured) → strokes_of (lines_and_rings_of_layer i j fs) ≡ clean_each (features_lines_and_rings fs)
features_strokes i j [] = refl
features_strokes i j (f ∷ fs) = grind (arith, map-append, placed_strokes, reported, features_strokes i (suc j) fs)

layers_strokes : (i : ℕ) (ls : List Layer) → strokes_of (lines_and_rings_of_layers i ls) ≡ clean_each (joined (map (λ l. features_lines_and_rings l.features) ls))
layers_strokes i [] = refl
layers_strokes i (l ∷ ls) = grind (arith, map-append, features_strokes, layers_strokes (suc i) ls)

-- gathered from nothing, they are the two lists of the definition
pub linework_is : (g : Gathered) (ls : List Layer) (i : ℕ) → length ls ≤ i → g ≡ with_lines_and_rings nothing_gathered (lines_and_rings_of_layers 0 (take i ls)) → g.lines_and_rings ≡ linework ls
linework_is g ls i l h = unfold linework with_lines_and_rings in grind (arith, layers_strokes 0 ls, long_cleaned, take_all)

pub collapsed_is : (g : Gathered) (ls : List Layer) (i : ℕ) → length ls ≤ i → g ≡ with_lines_and_rings nothing_gathered (lines_and_rings_of_layers 0 (take i ls)) → g.dropped ≡ collapsed ls
collapsed_is g ls i l h = unfold collapsed with_lines_and_rings in grind (arith, take_all)
