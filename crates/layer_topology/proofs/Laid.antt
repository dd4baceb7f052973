-- What is written of layers: the laws of what is built of them, on the grid that is asked for.
use Rattle.std.proofs.Common.{◌∙◌, ℕ, List, map, Option, subst, sym}
use Rattle.std.specs.Prelude.{IsUtf8}
use Rattle.std.specs.List.{AllByRecursion}
use Rattle.build_meaning.specs.BuiltLaws as build
use Rattle.build_meaning.specs.Built.{built}
use Rattle.build_meaning.specs.Layers.{Named, names_of}
use Rattle.build_meaning.specs.Quantized.{named_grid}
use Rattle.build_meaning.specs.GridLaws as grid
use Rattle.layer_topology.specs.Laws.{IsValid, HasNames, DecodesBack, EachSegmentOnce, NestsNoDeeper, NumbersStay, TextsStay}
use Rattle.layer_topology.specs.Written.{snapped_to, written, AreTaken}
use Rattle.layer_topology.proofs.Kept.{built_names, built_nests, built_numbers, built_texts}
use Rattle.owned_values.proofs.Elements.{all_of_map}
use Rattle.topojson_types.specs.declared.object.TopoObject.{TopoObject}
use Rattle.topojson_types.specs.Validity.{AreDistinct}

-- the snapped layers are sound and lie on the grid
pub snapped : grid.SnappedAreOn → (count : Option ℕ) (ls : Named) → AreTaken count ls → grid.IsSnapped (named_grid count ls) ls (snapped_to count ls)
snapped on count ls h = on count ls h.count h.sound h.inputs

pub names_distinct : (on : grid.SnappedAreOn) (count : Option ℕ) (ls : Named) → AreTaken count ls → AreDistinct (names_of (snapped_to count ls))
names_distinct on count ls h = subst AreDistinct (sym (snapped on count ls h).names) h.names

pub valid : grid.SnappedAreOn → grid.BuiltIsValidQuantized → IsValid
unfolding written
valid on is count t limit ls h = let s = snapped on count ls h in is (named_grid count ls) t limit (snapped_to count ls) s.on s.sound (names_distinct on count ls h)

pub names : grid.SnappedAreOn → grid.QuantizedKeeps → HasNames
unfolding written
names on keeps count t limit ls h =
    let g = named_grid count ls in
    (keeps g (built t limit (snapped_to count ls))).names ∙ (built_names t limit (snapped_to count ls) ∙ (snapped on count ls h).names)

pub back : grid.SnappedAreOn → grid.BuiltDecodesQuantized → DecodesBack
unfolding written
back on decodes count t limit ls h = let s = snapped on count ls h in decodes (named_grid count ls) t limit (snapped_to count ls) s.on s.sound (names_distinct on count ls h)

pub once : grid.SnappedAreOn → build.EachSegmentOnce → EachSegmentOnce
once on segments count ls h = segments (snapped_to count ls) (snapped on count ls h).sound

pub nests : grid.SnappedKeep → grid.QuantizedKeeps → NestsNoDeeper
unfolding written
nests layers keeps count t limit n ls h =
    let g = named_grid count ls in
    (keeps g (built t limit (snapped_to count ls))).nests n (built_nests t limit n (snapped_to count ls) ((layers g ls).nests n h))

pub numbers : grid.SnappedKeep → grid.QuantizedKeeps → NumbersStay
unfolding written
numbers layers keeps count t limit ls h =
    let g = named_grid count ls in
    (keeps g (built t limit (snapped_to count ls))).numbers (built_numbers t limit (snapped_to count ls) ((layers g ls).numbers h))

pub texts : grid.SnappedAreOn → grid.SnappedKeep → grid.QuantizedKeeps → TextsStay
unfolding written
texts on layers keeps count t limit ls taken utf8 h =
    let g = named_grid count ls in
    let named : AllByRecursion (λ n. IsUtf8 n) (map (λ (o : List ℕ × TopoObject). o.0) (written count t limit ls).objects) =
    subst (AllByRecursion (λ n. IsUtf8 n)) (sym (names on keeps count t limit ls taken)) utf8 in
    record {
      names = all_of_map (λ n. IsUtf8 n) (λ (o : List ℕ × TopoObject). o.0) (written count t limit ls).objects named;
      features = (keeps g (built t limit (snapped_to count ls))).texts (built_texts t limit (snapped_to count ls) ((layers g ls).texts h));
    }
