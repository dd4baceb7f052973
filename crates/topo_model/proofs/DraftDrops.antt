-- What is dropped of a draft of layers is dropped of the layers, in the words of their lines: as they are rebuilt of first arcs, if there are any, and of
-- later ones.
use Rattle.std.proofs.Common.{◌≡◌, ◌∙◌, ℕ, suc, ℤ, Bool, true, false, List, [], ◌∷◌, map, Option, None, Some, if◌then◌else◌, refl, sym, ap, inr}
use Rattle.std.proofs.Math.Path.{fun_ext}
use Rattle.std.proofs.lemmas.Simd.{map-map}
use Rattle.std.specs.List.{AllByRecursion}
use Rattle.build_meaning.proofs.Marks.{causes_plain, without_mark}
use Rattle.build_meaning.proofs.RingsAlike.{all_marked}
use Rattle.build_meaning.proofs.Simplified.{IsWholeAtZero}
use Rattle.build_meaning.proofs.Whole.{loses_nothing}
use Rattle.build_meaning.specs.Assembled.{arcs_of_layers, assembled_cause, assembled_dropped, layers_caused, option_caused, own_refs}
use Rattle.build_meaning.specs.BuiltLaws.{AreSound}
use Rattle.build_meaning.specs.InTurn.{Paired, drops_in_turn, judged, paired, rings_paired, unpaired}
use Rattle.build_meaning.specs.Layers.{Named, layers_of, features_lines_and_rings, named_lines_and_rings}
use Rattle.build_meaning.specs.LayersMarked.{layer_protection, layer_shape_marked, unprotected_cause}
use Rattle.build_meaning.specs.OuterRings.{along, ends_here, into_part, marked, rings_marked, unmarked}
use Rattle.build_meaning.specs.Protected.{cause_sparing, protection}
use Rattle.build_meaning.specs.Simplified.{retained_arcs}
use Rattle.elimination_meaning.specs.Laws.{ZeroLaw}
use Rattle.geojson_types.specs.Features.{Featured, Shape}
use Rattle.geojson_types.specs.declared.layer.Layer.{Layer}
use Rattle.geometry.proofs.Induction.{by_kinds}
use Rattle.geometry.specs.DropCauses.{here, inner_cause, area_drop_causes, drop_causes, dropped_of_layers}
use Rattle.geometry.specs.Lists.{map_some}
use Rattle.geometry.specs.Paths.{Placed, of_parts}
use Rattle.geometry.specs.Points.{Point}
use Rattle.geometry.specs.Pruning.{lines_and_rings, option_lines_and_rings}
use Rattle.geometry.specs.declared.address.Cause.{Cause}
use Rattle.junctions.specs.declared.stroke.Stroke.{Stroke}
use Rattle.linework.specs.Linework.{linework}
use Rattle.owned_values.proofs.Elements.{all_weaker}
use Rattle.owned_values.proofs.Lists.{map_agree}
use Rattle.topo_model.proofs.Along.{each_part}
use Rattle.topo_model.proofs.Assembled.{cause_is, way_is}
use Rattle.topo_model.proofs.Drops.{judged_agree, judged_once, of_point, of_points, of_line, of_lines, of_area, of_areas, of_group, gone, protected_drops, objects_are as drops_along}
use Rattle.topo_model.proofs.RelinedMarks.{relined_at}
use Rattle.topo_model.specs.Along.{Ways, AreWays}
use Rattle.topo_model.specs.Drafts.{RefsOf, draft_refs, feature_drafted, objects_drafted, relined}
use Rattle.topo_model.specs.Drops.{cause_at_first, draft_cause, judging_cause, objects_drops}
use Rattle.topo_model.specs.Rebuilding.{Judging, Rebuilding}
use Rattle.topo_model.specs.Retaining.{IsDraftOf}
use Rattle.topojson_types.specs.Topologies.{object_features}
use Rattle.topojson_types.specs.declared.feature.TopoFeature.{TopoFeature}
use Rattle.topojson_types.specs.declared.object.TopoObject.{TopoObject}
use Rattle.topojson_types.specs.declared.object.TopoObject.TheVariants.{Many}

abbrev Way : Type 0
Way = Option (List ℕ)

-- ---- where other lines and rings stand for those of a shape

module _ (f : RefsOf) (first later : Bool → Bool × List ℤ → Option Cause) where
  abbrev why : Bool → Paired (Bool × List ℤ) → Option Cause
  why = judged first later

  abbrev cause : Bool → Paired (Bool × List Point) → Option Cause
  cause = judged (λ closed l. first closed (l.0, f closed l.1)) (λ closed l. later closed (l.0, f closed l.1))

  holes_relined : (c : Option Cause) (o : Bool × List Point) (hs : List (List Point))
      → map (λ h. here (inner_cause c (why true h))) (map (λ h. (Some (o.0, f true o.1), h)) (map unmarked (map (f true) hs))) ≡ map (λ h. here (inner_cause c (cause true h))) (map (λ h. (Some o, h)) (map unmarked hs))
  holes_relined c o [] = refl
  holes_relined c o (h ∷ hs) = ap (λ os. here (inner_cause c (why true (Some (o.0, f true o.1), unmarked (f true h)))) ∷ os) (holes_relined c o hs)

  abbrev of_polygon : {L : Type 0} → (Bool → Paired (Bool × L) → Option Cause) → List (Bool × L) → List (Placed Cause)
  of_polygon cs rs = area_drop_causes (cs true) (rings_paired rs)

  area_relined : (rs : List (List Point)) (way : Way) → of_polygon why (rings_marked (map (f true) rs) way) ≡ of_polygon cause (rings_marked rs way)
  area_relined [] way = refl
  area_relined (o ∷ hs) way =
      ap (λ os. of_parts 0 (here (why true (unpaired (ends_here way, f true o))) ∷ os)) (holes_relined (why true (unpaired (ends_here way, f true o))) (ends_here way, o) hs)

  areas_relined : (i : ℕ) (areas : List (List (List Point))) (way : Way) → map (of_polygon why) (along rings_marked i (map (map (f true)) areas) way) ≡ map (of_polygon cause) (along rings_marked i areas way)
  areas_relined i [] way = refl
  areas_relined i (rs ∷ areas) way =
      ap (λ os. os ∷ map (of_polygon why) (along rings_marked (suc i) (map (map (f true)) areas) way)) (area_relined rs (into_part i way))
      ∙ ap (λ oss. of_polygon cause (rings_marked rs (into_part i way)) ∷ oss) (areas_relined (suc i) areas way)

  abbrev Relined : Shape → Type 0
  Relined s = (way : Way) → gone why way (relined f s) ≡ gone cause way s

  members_relined : (i : ℕ) (ss : List Shape) (way : Way) → AllByRecursion Relined ss → map (λ s. drop_causes why (paired s)) (along marked i (map (relined f) ss) way) ≡ map (λ s. drop_causes cause (paired s)) (along marked i ss way)
  members_relined i [] way h = refl
  members_relined i (s ∷ ss) way h =
      ap (λ os. os ∷ map (λ s. drop_causes why (paired s)) (along marked (suc i) (map (relined f) ss) way)) (h.0 (into_part i way))
      ∙ ap (λ oss. gone cause (into_part i way) s ∷ oss) (members_relined (suc i) ss way h.1)

  drops_relined : (s : Shape) (way : Way) → drops_in_turn first later (marked (relined f s) way) ≡ drops_in_turn (λ closed l. first closed (l.0, f closed l.1)) (λ closed l. later closed (l.0, f closed l.1)) (marked s way)
  drops_relined = by_kinds Relined (record {
    point = λ p way. ap (gone why way) ((relined_at f).point p) ∙ of_point why way p ∙ sym (of_point cause way p);
    points = λ ps way. ap (gone why way) ((relined_at f).points ps) ∙ of_points why way ps ∙ sym (of_points cause way ps);
    line = λ l way. ap (gone why way) ((relined_at f).line l) ∙ of_line why way (f false l) ∙ sym (of_line cause way l);
    lines = λ ls way. ap (gone why way) ((relined_at f).lines ls) ∙ of_lines why way (map (f false) ls) ∙ ap (of_parts 0) (map-map (λ l. here (why false (unpaired (unmarked l)))) (f false) ls) ∙ sym (of_lines cause way ls);
    area = λ rs way. ap (gone why way) ((relined_at f).area rs) ∙ of_area why way (map (f true) rs) ∙ area_relined rs way ∙ sym (of_area cause way rs);
    areas = λ areas way. ap (gone why way) ((relined_at f).areas areas) ∙ of_areas why way (map (map (f true)) areas) ∙ ap (of_parts 0) (areas_relined 0 areas way) ∙ sym (of_areas cause way areas);
    group = λ ss all way. ap (gone why way) ((relined_at f).group ss) ∙ of_group why way (map (relined f) ss) ∙ ap (of_parts 0) (members_relined 0 ss way all) ∙ sym (of_group cause way ss);
  })

-- ---- layers

-- why a line or ring of layers is dropped at first, if it is judged then
abbrev pub line_at_first : List Stroke → Option Rebuilding → Bool → Bool × List Point → Option Cause
line_at_first lines None closed l = None
line_at_first lines (Some arcs) closed l = unprotected_cause lines arcs.arcs arcs.limit closed l

module _ (ls : Named) (keep_shapes : Bool) (judging : Judging) where
  abbrev strokes : List Stroke
  strokes = linework (layers_of ls)

  abbrev refs : RefsOf
  refs = draft_refs (own_refs (linework (layers_of ls)))

  abbrev Whole : Bool × List Point → Type 0
  Whole = IsWholeAtZero strokes

  abbrev first_of : Bool → Bool × List Point → Option Cause
  first_of = line_at_first strokes judging.first

  abbrev later_of : Bool → Bool × List Point → Option Cause
  later_of = unprotected_cause strokes judging.later.arcs judging.later.limit

  -- what is dropped of a shape of layers that may be null
  abbrev pub option_judged : Option Shape → List (Placed Cause)
  option_judged None = []
  option_judged (Some s) =
      drops_in_turn (line_at_first (linework (layers_of ls)) judging.first) (unprotected_cause (linework (layers_of ls)) judging.later.arcs judging.later.limit) (layer_shape_marked keep_shapes ls s)

  abbrev of_draft : TopoFeature → List (Placed Cause)
  of_draft f = protected_drops judging (protection keep_shapes (arcs_of_layers ls)) f.shape

  later_is : (arcs : Rebuilding) (b : Bool × (Bool × List Point)) → Whole (without_mark b) → cause_sparing (draft_cause arcs) b.0 (b.1.0, refs b.0 b.1.1) ≡ unprotected_cause strokes arcs.arcs arcs.limit b.0 b.1
  later_is arcs b whole = ap (λ (c : Option Cause). if b.1.0 then None else c) (cause_is strokes arcs.arcs arcs.limit (without_mark b) whole)

  first_is : (b : Bool × (Bool × List Point)) → Whole (without_mark b) → cause_sparing (cause_at_first judging.first) b.0 (b.1.0, refs b.0 b.1.1) ≡ first_of b.0 b.1
  first_is b whole = on judging.first b.1.0
    where
      on : (first : Option Rebuilding) (mark : Bool) → cause_sparing (cause_at_first first) b.0 (mark, refs b.0 b.1.1) ≡ line_at_first strokes first b.0 (mark, b.1.1)
      on None true = refl
      on None false = refl
      on (Some arcs) mark = later_is arcs (b.0, (mark, b.1.1)) whole

  shape_judged : (s : Option Shape) → AllByRecursion Whole (option_lines_and_rings s)
      → protected_drops judging (protection keep_shapes (arcs_of_layers ls)) (map_some (relined refs) s) ≡ option_judged s
  shape_judged None h = refl
  shape_judged (Some s) h =
      let way : Way = map_some (λ x. x.path) (layer_protection keep_shapes ls s) in
      ap (λ w. drop_causes (judging_cause judging) (paired (marked (relined refs s) w))) (way_is ls keep_shapes s)
      ∙ drops_relined refs (cause_sparing (cause_at_first judging.first)) (cause_sparing (draft_cause judging.later)) s way
      ∙ judged_agree (λ closed l. cause_sparing (cause_at_first judging.first) closed (l.0, refs closed l.1)) (λ closed l. cause_sparing (draft_cause judging.later) closed (l.0, refs closed l.1)) first_of later_of (marked s way)
      (all_weaker (λ b. Whole (without_mark b))
      (λ b. (cause_sparing (cause_at_first judging.first) b.0 (b.1.0, refs b.0 b.1.1) ≡ first_of b.0 b.1) × (cause_sparing (draft_cause judging.later) b.0 (b.1.0, refs b.0 b.1.1) ≡ later_of b.0 b.1))
      (λ b whole. (first_is b whole, later_is judging.later b whole)) (lines_and_rings (marked s way)) (all_marked Whole s way h))

  abbrev of_object : List ℕ × TopoObject → List (List (Placed Cause))
  of_object o = map of_draft (object_features o.1)

  abbrev of_layer : List ℕ × Layer → List (List (Placed Cause))
  of_layer l = map (λ f. option_judged f.shape) l.1.features

  layer_judged : (fs : List Featured) → AllByRecursion Whole (features_lines_and_rings fs) → map of_draft (map (feature_drafted (own_refs strokes)) fs) ≡ map (λ f. option_judged f.shape) fs
  layer_judged fs h =
      map-map of_draft (feature_drafted (own_refs strokes)) fs
      ∙ map_agree (λ f. of_draft (feature_drafted (own_refs strokes) f)) (λ f. option_judged f.shape) fs
      (all_weaker (λ f. AllByRecursion Whole (option_lines_and_rings f.shape)) (λ f. of_draft (feature_drafted (own_refs strokes) f) ≡ option_judged f.shape) (λ f. shape_judged f.shape) fs
      (each_part Whole (λ f. option_lines_and_rings f.shape) fs h))

  layers_judged : (ms : Named) → AllByRecursion Whole (named_lines_and_rings ms) → map of_object (objects_drafted (own_refs strokes) ms) ≡ map of_layer ms
  layers_judged ms h =
      let drafted : List ℕ × Layer → List ℕ × TopoObject = λ l. (l.0, Many (map (feature_drafted (own_refs strokes)) l.1.features)) in
      map-map of_object drafted ms
      ∙ map_agree (λ l. of_object (drafted l)) of_layer ms
      (all_weaker (λ l. AllByRecursion Whole (features_lines_and_rings l.1.features)) (λ l. of_object (drafted l) ≡ of_layer l) (λ l. layer_judged l.1.features) ms
      (each_part Whole (λ l. features_lines_and_rings l.1.features) ms h))

  pub drops_judged : ZeroLaw → AreSound ls → (os : List (List ℕ × TopoObject)) (ways : Ways) → os ≡ objects_drafted (own_refs (linework (layers_of ls))) ls → AreWays (protection keep_shapes (arcs_of_layers ls)) ways os
      → objects_drops judging 0 ways os ≡ dropped_of_layers 0 (map (λ l. map (λ f. option_judged f.shape) l.1.features) ls)
  drops_judged zero sound os ways drafted lead =
      drops_along judging (protection keep_shapes (arcs_of_layers ls)) ways os lead
      ∙ ap (λ (os : List (List ℕ × TopoObject)). dropped_of_layers 0 (map of_object os)) drafted ∙ ap (dropped_of_layers 0) (layers_judged ls (loses_nothing zero ls sound))

-- where all are judged once, and no ring is protected
module _ (ls : Named) (later : Rebuilding) where
  option_once : (s : Option Shape) → option_judged ls false (record { first = None; later = later }) s ≡ option_caused (assembled_cause (linework (layers_of ls)) later.arcs later.limit) s
  option_once None = refl
  option_once (Some s) =
      judged_once (line_at_first (linework (layers_of ls)) None) (unprotected_cause (linework (layers_of ls)) later.arcs later.limit) (λ closed l. refl) (marked s None)
      ∙ causes_plain (unprotected_cause (linework (layers_of ls)) later.arcs later.limit) s

  pub caused_once : dropped_of_layers 0 (map (λ l. map (λ f. option_judged ls false (record { first = None; later = later }) f.shape) l.1.features) ls) ≡ layers_caused (assembled_cause (linework (layers_of ls)) later.arcs later.limit) ls
  caused_once = ap (λ (caused : Option Shape → List (Placed Cause)). dropped_of_layers 0 (map (λ l. map (λ f. caused f.shape) l.1.features) ls)) (fun_ext option_once)

-- what is dropped of the draft of layers over arcs of which only some positions are retained
pub assembled_drops : ZeroLaw → (kept : List (List ℕ)) (limit : ℕ) (ls : Named) (draft : List (List ℕ × TopoObject)) → IsDraftOf ls draft → (retained : List (List Point)) → retained ≡ retained_arcs kept (arcs_of_layers ls)
    → (ways : Ways) → ways ≡ [] → objects_drops (record { first = None; later = record { arcs = retained; limit = limit } }) 0 ways draft ≡ assembled_dropped kept limit ls
unfolding assembled_dropped
assembled_drops zero kept limit ls draft of retained picks ways lead =
    drops_judged ls false (record { first = None; later = record { arcs = retained; limit = limit } }) zero of.sound draft ways of.drafted (inr (refl, lead))
    ∙ caused_once ls (record { arcs = retained; limit = limit }) ∙ ap (λ arcs. layers_caused (assembled_cause (linework (layers_of ls)) arcs limit) ls) picks
