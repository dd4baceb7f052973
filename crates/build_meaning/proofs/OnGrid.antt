-- Topologies whose positions lie on a grid, put on that grid: they are valid, decode to the same, and keep names, identifiers and properties.
use Rattle.std.proofs.Common.{◌≡◌, ℕ, ◌+◌, ◌≤◌, max, List, [], ◌∷◌, map, length, None, Some, refl, ap, ◌∙◌, arith, Option, ◌*◌, sym, ℤ, pos, unsigned_abs, subst, rules}
use Rattle.build_meaning.proofs.Names.{map-map, all_features, TopoShape, length-map, Point, option_pruned_nests, option_nesting, properties_nesting, IdHasNumbers, PropertiesHaveNumbers, IdHasTexts, PropertiesHaveTexts, cell, Contents, TopoFeature, Transform, feature_celled, celled, Keeps, QuantizedKeeps, transform_of, IsPosition, settled, covered_within, covered_parts, number_within, Axes, IsAxis, IsGrid, number, snapped, Settles, Axis, place_on, AllByRecursion, all_weaker, NoneIsNew, DecodesBack, IsValid, LiesBack, IsOnGrid, EachCell, QuantizedIsValid, QuantizedDecodes, BuiltCellsAreOn, BuiltIsValidQuantized, BuiltDecodesQuantized, BuiltIsValidOnGrid, DecodesBackOnGrid, IsOn, named_points, objects_places}
use Rattle.std.proofs.Math.Nat.{mul-le-mul_left}
use Rattle.geometry.specs.Units.{position_limit}
use Rattle.topojson_types.proofs.ExactTexts.{units_are_numbers, stands_exactly}
use Rattle.build_meaning.proofs.BuiltCells.{built_cells}
use Rattle.build_meaning.proofs.CelledDecoding.{celled_decodes}
use Rattle.build_meaning.proofs.Reshaped.{pruned_shape, feature_with, names_stay, features_with, features_hold}
use Rattle.build_meaning.proofs.ValidCelled.{celled_is_valid}
use Rattle.build_meaning.specs.TransformLaws.{HasTransform, CellsLieThere, CellsAreOnGrid}

-- ---- where cells lie, by the transform of the grid

at_most_all : (step last : ℕ) → 1 ≤ last → step ≤ last * step
at_most_all step last h = let e : step * 1 ≤ step * last = mul-le-mul_left step h in omega (arith, e)

step_small : (a : Axis) → IsAxis a → a.step ≤ position_limit
step_small a h = let e : a.step ≤ a.last * a.step = at_most_all a.step a.last h.some in omega (arith, e, h.length)

first_small : (a : Axis) → IsAxis a → unsigned_abs a.first ≤ position_limit
first_small a h = omega (arith, h.first)

pub has_transform : HasTransform
unfolding transform_of
has_transform g grid = (
  (units_are_numbers (pos g.x.step) (step_small g.x grid.x), units_are_numbers (pos g.y.step) (step_small g.y grid.y)),
  (units_are_numbers g.x.first (first_small g.x grid.x), units_are_numbers g.y.first (first_small g.y grid.y)),
)

abbrev point_of : ℤ → ℤ → Point
point_of x y = record { x = x; y = y }

two : {a b c d : ℤ} → a ≡ c → b ≡ d → point_of a b ≡ point_of c d
two {b = b} {c = c} p q = ap (λ x. point_of x b) p ∙ ap (point_of c) q

pub placed_on : (g : Axes) (p : Point) → IsGrid g → place_on (transform_of g) (cell g p) ≡ snapped g p
unfolding transform_of place_on
placed_on g p grid =
    two (stands_exactly g.x.step (number g.x p.x) g.x.first (step_small g.x grid.x) (first_small g.x grid.x))
    (stands_exactly g.y.step (number g.y p.y) g.y.first (step_small g.y grid.y) (first_small g.y grid.y))

pub lie_there : CellsLieThere
lie_there g p grid h = record { snaps = placed_on g p grid; stays = λ e. placed_on g p grid ∙ e }

pub on_grid : CellsAreOnGrid
on_grid g p grid h =
    let on = covered_parts g p h in
    let nx : number g.x p.x ≤ g.x.last = number_within g.x p.x grid.x on.0 in
    let ny : number g.y p.y ≤ g.y.last = number_within g.y p.y grid.y on.1 in
    let s : Settles g p = settled g p grid h in
    let w = covered_within g (snapped g p) grid s.covered in (
      (omega (arith, grid.x.few), omega (arith, grid.y.few)),
      subst IsPosition (sym (placed_on g p grid)) (omega (arith, w.0), omega (arith, w.1)),
    )

-- ---- cells of positions on the grid

module _ (g : Axes) (grid : IsGrid g) where
  abbrev On : Point → Type 0
  On = IsOn (Some g)

  abbrev Lies : Point → Type 0
  Lies = LiesBack (transform_of g) (cell g)

  abbrev Placed : Point → Type 0
  Placed = IsOnGrid (transform_of g) (cell g)

  lies : (p : Point) → On p → Lies p
  lies p on = (lie_there g p grid on.0).stays on.1

  is_placed : (p : Point) → On p → Placed p
  is_placed p on = ((on_grid g p grid on.0).0, lies p on)

  pub all_lie : (ps : List Point) → AllByRecursion On ps → AllByRecursion Lies ps
  all_lie ps h = all_weaker On Lies lies ps h

  all_placed : (ps : List Point) → AllByRecursion On ps → AllByRecursion Placed ps
  all_placed ps h = all_weaker On Placed is_placed ps h

-- ---- topologies

each_cell : (X Y : Point → Type 0) → ((ps : List Point) → AllByRecursion X ps → AllByRecursion Y ps) → (y : Contents) → EachCell X y → EachCell Y y
each_cell X Y f y h = (all_weaker (λ a. AllByRecursion X a) (λ a. AllByRecursion Y a) f y.arcs h.0, f (objects_places y.objects) h.1)

pub quantized_valid : QuantizedIsValid
quantized_valid None y grid plain on h = h
quantized_valid (Some g) y grid plain on h = search (rules, celled_is_valid, has_transform, each_cell, all_placed)

pub quantized_decodes : QuantizedDecodes
quantized_decodes None y name grid plain on = refl
quantized_decodes (Some g) y name grid plain on = search (rules, celled_decodes, each_cell, all_lie)

-- ---- what is built

pub built_on : NoneIsNew → BuiltCellsAreOn
built_on none g t limit ls on = built_cells none (IsOn g) t limit ls on.1

pub built_valid : IsValid → BuiltIsValidOnGrid → BuiltIsValidQuantized
built_valid valid celled None t limit ls on sound distinct = valid t limit ls sound distinct
built_valid valid celled (Some g) t limit ls on sound distinct = grind (arith, has_transform, all_placed)

pub built_decodes : DecodesBack → DecodesBackOnGrid → BuiltDecodesQuantized
built_decodes back celled None t limit ls on sound distinct = back t limit ls sound distinct
built_decodes back celled (Some g) t limit ls on sound distinct = celled (transform_of g) (cell g) t limit ls sound distinct (all_lie g on.0 (named_points ls) on.1)

-- ---- what stays: names, identifiers, properties, and the lengths of arcs

module _ (f : Point → Point) where
  abbrev turned : Option TopoShape → Option TopoShape
  turned = pruned_shape f (λ closed refs. Some refs)

  nests : (n : ℕ) (x : TopoFeature) → max (option_nesting x.shape) (1 + properties_nesting x.properties) ≤ n
      → max (option_nesting (feature_celled f x).shape) (1 + properties_nesting x.properties) ≤ n
  nests n x h = omega (arith, h, option_pruned_nests f (λ closed refs. Some refs) x.shape)

  pub lengths_stay : (arcs : List (List Point)) → map length (map (map f) arcs) ≡ map length arcs
  lengths_stay [] = refl
  lengths_stay (a ∷ arcs) = ap (λ n. n ∷ map length (map (map f) arcs)) (length-map a f) ∙ ap (λ ns. length a ∷ ns) (lengths_stay arcs)

  celled_keeps : (t : Transform) (y : Contents) → Keeps y (celled t f y)
  unfolding celled
  celled_keeps t y = record {
    names = names_stay turned y.objects;
    ids = ap (map (λ (x : TopoFeature). x.id)) (features_with turned y.objects) ∙ map-map (λ (x : TopoFeature). x.id) (feature_with turned) (all_features y);
    properties = ap (map (λ (x : TopoFeature). x.properties)) (features_with turned y.objects) ∙ map-map (λ (x : TopoFeature). x.properties) (feature_with turned) (all_features y);
    nests = λ n h. features_hold (λ x. max (option_nesting x.shape) (1 + properties_nesting x.properties) ≤ n) turned (nests n) y.objects h;
    numbers = λ h. features_hold (λ x. IdHasNumbers x.id × PropertiesHaveNumbers x.properties) turned (λ x k. k) y.objects h;
    texts = λ h. features_hold (λ x. IdHasTexts x.id × PropertiesHaveTexts x.properties) turned (λ x k. k) y.objects h;
    arcs = length-map y.arcs (map f);
    lengths = lengths_stay y.arcs;
  }

pub keeps : QuantizedKeeps
keeps None y = record { names = refl; ids = refl; properties = refl; nests = λ n h. h; numbers = λ h. h; texts = λ h. h; arcs = refl; lengths = refl }
keeps (Some g) y = celled_keeps (cell g) (transform_of g) y
