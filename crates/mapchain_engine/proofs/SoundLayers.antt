-- What holds of all layers that were read.
use Rattle.std.proofs.Common.{◌≡◌, ℕ, ◌≤◌, Bool, true, List, [], ◌∷◌, map, Option, Some, None, refl, arith}
use Rattle.std.proofs.lemmas.Bool.Decides.{nat_tests}
use Rattle.std.proofs.lemmas.List.Elements.{recursion_from_All}
use Rattle.std.specs.List.{AllByRecursion}
use Rattle.json_value.specs.Depth.{depth}
use Rattle.byte_ends.specs.Ends.{Fed}
use Rattle.geojson_types.specs.declared.counts.Counts.{Counts}
use Rattle.geojson_types.specs.declared.layer.Layer.{Layer}
use Rattle.geojson_types.specs.Features.{Featured, is_proper_option}
use Rattle.geojson_types.specs.Nesting.{feature_nesting}
use Rattle.geojson_types.specs.Numbers.{FeatureHasNumbers}
use Rattle.geojson_types.specs.Texts.{FeatureHasTexts}
use Rattle.geojson_types.specs.Places.{option_points, features_points}
use Rattle.geometry.specs.Points.{Point, IsInput, IsPosition}
use Rattle.geometry.specs.Pruning.{option_lines_and_rings}
use Rattle.geometry.specs.Units.{threshold_limit}
use Rattle.geojson_meaning.specs.Laws.{RingCloses}
use Rattle.owned_values.proofs.Elements.{all_append, all_left, all_right, all_weaker}
use Rattle.build_meaning.specs.BuiltLaws.{IsSound, AreSound}
use Rattle.build_meaning.specs.Layers.{names_of}
use Rattle.build_meaning.specs.Quantized.{IsCount, AreInputs, named_points}
use Rattle.build_meaning.specs.GridLaws.{EachFeature}
use Rattle.layer_topology.specs.Levels.{is_simplifying_level}
use Rattle.layer_topology.specs.Levels.{is_level}
use Rattle.layer_topology.specs.Written.{AreTaken}
use Rattle.layer_topology.specs.declared.level.Level.{Level}
use Rattle.layer_topology.specs.declared.level.Level.TheVariants.{Fixed, Share}
use Rattle.topojson_types.specs.Validity.{AreDistinct}
use Rattle.mapchain_engine.specs.declared.options.Options.{Options}
use Rattle.mapchain_engine.specs.BuildLaws.{LayerLaws}
use Rattle.mapchain_engine.specs.Ranges.{is_in_range}
use Rattle.json_value.specs.Limits.{layer_depth}
use Rattle.inputs.specs.Sources.{Sources, Named, IsLayerRead, AllRead}

-- ---- features

positions : (ps : List Point) → AllByRecursion IsInput ps → AllByRecursion IsPosition ps
positions [] h = tt
positions (p ∷ ps) h = ((omega (arith, h.0.0), omega (arith, h.0.1)), positions ps h.1)

-- sound, no deeper than a layer may be, its numbers are numbers, and its texts UTF-8
pub record IsTaken (f : Featured) : Type 0 where
  pub sound : IsSound f
  pub inputs : AllByRecursion IsInput (option_points f.shape)
  pub nests : feature_nesting f ≤ layer_depth
  pub numbers : FeatureHasNumbers f
  pub texts : FeatureHasTexts f

taken : (n : ℕ) → n ≤ layer_depth → (fs : List Featured) → AllByRecursion (λ f. is_proper_option f.shape ≡ true) fs → AllByRecursion IsInput (features_points fs)
    → AllByRecursion (λ f. AllByRecursion RingCloses (option_lines_and_rings f.shape)) fs → AllByRecursion (λ f. feature_nesting f ≤ n) fs → AllByRecursion FeatureHasNumbers fs
    → AllByRecursion FeatureHasTexts fs → AllByRecursion IsTaken fs
taken n le [] p i r d h t = tt
taken n le (f ∷ fs) p i r d h t =
    let here = all_left IsInput (option_points f.shape) (features_points fs) i in (
      record { sound = record { proper = p.0; rings = r.0; places = positions (option_points f.shape) here }; inputs = here; nests = omega (arith, le, d.0); numbers = h.0; texts = t.0 },
      taken n le fs p.1 (all_right IsInput (option_points f.shape) (features_points fs) i) r.1 d.1 h.1 t.1,
    )

-- ---- layers

layer_taken : LayerLaws → (exact : Bool) (old new : List ℕ × Fed) (l : List ℕ × Layer) (c : Counts) → IsLayerRead exact old new l c → AllByRecursion IsTaken l.1.features
layer_taken laws exact old new l c is =
    let v = is.spells.value in
    let fs = l.1.features in
    let e = is.spells.stands in
    let formed = laws.formed layer_depth is.bytes v is.spells.utf8 is.spells.spelled in
    taken (depth v) (laws.shallow layer_depth is.bytes v is.spells.spelled) fs (laws.proper exact v fs c e) (recursion_from_All IsInput (features_points fs) (laws.inputs exact v fs c e))
    (laws.rings exact v fs c e) (laws.nests exact v fs c e) (laws.numbers exact v fs c formed.numbers e) (laws.texts exact v fs c formed.texts e)

abbrev pub AllTaken : Named → Type 0
AllTaken ls = AllByRecursion (λ l. AllByRecursion IsTaken l.1.features) ls

pub all_taken : LayerLaws → (exact : Bool) (olds news : Sources) (ls : Named) (cs : List Counts) → AllRead exact olds news ls cs → AllTaken ls
all_taken laws exact [] [] [] [] h = tt
all_taken laws exact (s ∷ ss) (t ∷ ts) (l ∷ ls) (c ∷ cs) h = (layer_taken laws exact s t l c h.0, all_taken laws exact ss ts ls cs h.1)
all_taken laws exact olds news ls cs h = absurd h

pub names_read : (exact : Bool) (olds news : Sources) (ls : Named) (cs : List Counts) → AllRead exact olds news ls cs → names_of ls ≡ map (λ s. s.0) olds
names_read exact [] [] [] [] h = refl
names_read exact (s ∷ ss) (t ∷ ts) (l ∷ ls) (c ∷ cs) h = rw (h.0.name, names_read exact ss ts ls cs h.1) refl
names_read exact olds news ls cs h = absurd h

-- ---- what is known of them

each_of : (Y : Featured → Type 0) → ((f : Featured) → IsTaken f → Y f) → (ls : Named) → AllTaken ls → EachFeature Y ls
each_of Y weaker ls h =
    all_weaker (λ (l : List ℕ × Layer). AllByRecursion IsTaken l.1.features) (λ l. AllByRecursion Y l.1.features) (λ l k. all_weaker IsTaken Y weaker l.1.features k) ls h

pub layers_sound : (ls : Named) → AllTaken ls → AreSound ls
layers_sound ls h = each_of IsSound (λ f k. k.sound) ls h

pub layers_number : (ls : Named) → AllTaken ls → EachFeature FeatureHasNumbers ls
layers_number ls h = each_of FeatureHasNumbers (λ f k. k.numbers) ls h

pub layers_texts : (ls : Named) → AllTaken ls → EachFeature FeatureHasTexts ls
layers_texts ls h = each_of FeatureHasTexts (λ f k. k.texts) ls h

pub layers_nest : (ls : Named) → AllTaken ls → EachFeature (λ f. feature_nesting f ≤ layer_depth) ls
layers_nest ls h = each_of (λ f. feature_nesting f ≤ layer_depth) (λ f k. k.nests) ls h

inputs_joined : (fs : List Featured) → AllByRecursion IsTaken fs → AllByRecursion IsInput (features_points fs)
inputs_joined [] h = tt
inputs_joined (f ∷ fs) h = all_append IsInput (option_points f.shape) (features_points fs) h.0.inputs (inputs_joined fs h.1)

pub layers_inputs : (ls : Named) → AllTaken ls → AreInputs ls
layers_inputs [] h = tt
layers_inputs (l ∷ ls) h = all_append IsInput (features_points l.1.features) (named_points ls) (inputs_joined l.1.features h.0) (layers_inputs ls h.1)

counted : (grid : Option ℕ) (level : Level) (limit : ℕ) → is_in_range grid level limit ≡ true → IsCount grid
counted None level limit h = tt
counted (Some n) level limit h = (grind (arith, nat_tests, h), grind (arith, nat_tests, h))

-- a grid that is asked for is one that may be
pub count_of : (o : Options) → IsCount o.grid
count_of o = counted o.grid o.level o.ring_limit o.in_range

limited : (grid : Option ℕ) (level : Level) (limit : ℕ) → is_in_range grid level limit ≡ true → limit ≤ threshold_limit
limited None level limit h = grind (arith, nat_tests, h)
limited (Some n) level limit h = grind (arith, nat_tests, h)

-- a ring limit of options is one that may be
pub limit_of : (o : Options) → o.ring_limit ≤ threshold_limit
limit_of o = limited o.grid o.level o.ring_limit o.in_range

levelled : (grid : Option ℕ) (level : Level) (limit : ℕ) → is_in_range grid level limit ≡ true → is_level level ≡ true
levelled None level limit h = grind (arith, h)
levelled (Some n) level limit h = grind (arith, h)

-- a level of options is one that may be
pub level_of : (o : Options) → is_level o.level ≡ true
level_of o = levelled o.grid o.level o.ring_limit o.in_range

simplifying : (level : Level) → is_level level ≡ true → is_simplifying_level level ≡ true
simplifying (Fixed t) h = refl
simplifying (Share p q) h = h

pub simplifying_level_of : (o : Options) → is_simplifying_level o.level ≡ true
simplifying_level_of o = simplifying o.level (level_of o)

pub are_taken : (o : Options) (ls : Named) → AllTaken ls → AreDistinct (names_of ls) → AreTaken o.grid ls
are_taken o ls h distinct = record { count = count_of o; sound = layers_sound ls h; inputs = layers_inputs ls h; names = distinct }
