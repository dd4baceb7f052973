-- What is made of layers, of the indexes of their arcs and of the positions of each arc that are retained is what is assembled of them.
use Rattle.std.proofs.Common.{arith, ◌≡◌, ℕ, ℤ, Bool, true, false, List, [], ◌∷◌, map, length, Option, None, Some, refl, sym, ap, ◌∙◌, subst, cond, inr}
use Rattle.std.specs.Prelude.{if◌then◌else◌}
use Rattle.std.proofs.lemmas.Option.{none-some}
use Rattle.arc_table.specs.Arcs.{ArcsAndIndexes, arcs_of, index_in, table_of}
use Rattle.build_meaning.specs.Built.{all_arcs, kept_refs, untrimmed}
use Rattle.build_meaning.specs.Expected.{own_pieces, is_small, unless}
use Rattle.build_meaning.specs.BuiltLaws.{AreSound}
use Rattle.build_meaning.specs.Layers.{Named, layers_of, named_lines_and_rings, names_of}
use Rattle.build_meaning.specs.Objects.{Kept, objects_by, feature_by}
use Rattle.build_meaning.proofs.DroppableLines.{map_map}
use Rattle.build_meaning.proofs.Linework.{long_of, long_lines_and_rings, split_lists}
use Rattle.build_meaning.proofs.Once.{same_pieces}
use Rattle.build_meaning.proofs.Whole.{each_stays, loses_nothing}
use Rattle.cutter.specs.Slices.{split_of, piece_lists}
use Rattle.elimination_meaning.specs.Elimination.{reduced}
use Rattle.elimination_meaning.specs.Laws.{EndsStay, NoneIsNew, ZeroLaw}
use Rattle.geojson_types.specs.Features.{Shape, Featured}
use Rattle.geometry.specs.declared.address.Cause.{Cause}
use Rattle.geometry.specs.declared.address.Cause.TheVariants.{Small}
use Rattle.geometry.specs.Joins.{stitched}
use Rattle.geometry.specs.Lists.{map_some, then_some}
use Rattle.geometry.specs.Points.{Point}
use Rattle.geometry.specs.Pruning.{prune}
use Rattle.junctions.specs.Cleaning.{clean, is_short}
use Rattle.junctions.specs.declared.stroke.Stroke.{Stroke}
use Rattle.build_meaning.specs.Assembled.{arcs_of_layers, own_refs, assembled_cause}
use Rattle.build_meaning.specs.Simplified.{Refs, small_cause, large_refs, feature_pruned, objects_pruned, retained_arcs, EachFromFirstToLast, object_pruned}
use Rattle.build_meaning.specs.Protected.{no_protection, protection, objects_spared, sparing}
use Rattle.build_meaning.proofs.Spared.{by_refs}
use Rattle.build_meaning.proofs.Simplified.{IsWholeAtZero, no_small}
use Rattle.build_meaning.proofs.ValidUntrimmed.{untrimmed_is_valid}
use Rattle.linework.specs.Linework.{linework}
use Rattle.linework.specs.Outlines.{Outline, is_short_outline}
use Rattle.owned_values.proofs.Elements.{all_weaker}
use Rattle.topojson_types.specs.declared.object.TopoObject.{TopoObject}
use Rattle.topojson_types.specs.Topologies.{TopoShape}
use Rattle.topojson_types.specs.Validity.{AreDistinct, IsTopology}
use Rattle.topo_model.specs.Along.{Ways}
use Rattle.topo_model.specs.DraftUses.{draft_contents, with_refs}
use Rattle.topo_model.specs.Drops.{draft_cause}
use Rattle.topo_model.proofs.Along.{objects_are, fused}
use Rattle.topo_model.proofs.Drafted.{left_drafted}
use Rattle.topo_model.proofs.Full.{objects_stay}
use Rattle.topo_model.proofs.Result.{of_arcs}
use Rattle.topo_model.specs.Drafts.{RefsOf, long_refs, draft_refs, relined, feature_drafted, no_refs, objects_drafted, objects_relined}
use Rattle.topo_model.specs.Retaining.{IsDraftOf, StandsFor, StandsForTopology}
use Rattle.geometry.specs.Paths.{Placed}
use Rattle.build_meaning.specs.OuterRings.{outer_rings}
use Rattle.build_meaning.specs.LayersMarked.{greatest_of_layers, layer_protection}
use Rattle.build_meaning.proofs.GreatestLeft.{put, ring_among, ring_made}
use Rattle.build_meaning.proofs.Made.{objects_made}
use Rattle.build_meaning.proofs.Marks.{left_plain}
use Rattle.topojson_types.specs.declared.feature.TopoFeature.{TopoFeature}
use Rattle.topojson_types.specs.declared.object.TopoObject.TheVariants.{Many}
use Rattle.topo_model.proofs.RelinedMarks.{pruned_once, rings_relined}
use Rattle.topo_model.specs.Parts.{contents}
use Rattle.geojson_types.specs.declared.layer.Layer.{Layer}

-- ---- the table

-- the lines and rings of the linework
abbrev pub lines_of : Named → List Stroke
lines_of ls = linework (layers_of ls)

-- the table of their arcs
abbrev pub table_of_lines : Named → ArcsAndIndexes
table_of_lines ls = table_of (map (split_of (linework (layers_of ls))) (linework (layers_of ls)))

pub table_arcs : (ls : Named) → (table_of_lines ls).arcs ≡ arcs_of_layers ls
table_arcs ls = ap arcs_of (same_pieces (lines_of ls) (lines_of ls))

-- the indexes of lines and rings that have enough positions
long_are : (of : RefsOf) (bs : List (Bool × List Point)) → map (λ (b : Bool × List Point). of b.0 b.1) (long_of bs) ≡ long_refs of bs
long_are of [] = refl
long_are of (b ∷ bs) = grind (arith, long_are of bs)

pub table_refs : (ls : Named) → (table_of_lines ls).refs ≡ long_refs (own_refs (lines_of ls)) (named_lines_and_rings ls)
table_refs ls =
    let lines = lines_of ls in
    ap (λ ps. map (map (index_in (arcs_of ps))) (piece_lists (map (split_of lines) lines))) (same_pieces lines lines)
    ∙ ap (map (map (index_in (all_arcs lines)))) (split_lists ls)
    ∙ map_map (map (index_in (all_arcs lines))) (λ (b : Bool × List Point). own_pieces lines b.0 b.1) (long_lines_and_rings ls)
    ∙ long_are (own_refs lines) (named_lines_and_rings ls)

-- what is filled with the arc indexes of the layers' table is the layers' draft
pub draft_of : (ls : Named) (refs : List (List ℤ)) (outlines : List Outline) (short : List Bool) (hollow objects : List (List ℕ × TopoObject)) → refs ≡ (table_of_lines ls).refs → AreSound ls
    → AreDistinct (names_of ls) → hollow ≡ objects_relined no_refs ls → outlines ≡ named_lines_and_rings ls → short ≡ map is_short_outline outlines
    → ((ms : Named) (of : RefsOf) → hollow ≡ objects_relined no_refs ms → short ≡ map is_short_outline (named_lines_and_rings ms) → refs ≡ long_refs of (named_lines_and_rings ms) → objects ≡ objects_drafted of ms)
    → IsDraftOf ls objects
draft_of ls refs outlines short hollow objects e sound names h o s f =
    record { drafted = f ls (own_refs (lines_of ls)) h (s ∙ ap (map is_short_outline) o) (e ∙ table_refs ls); sound = sound; names = names }

-- ---- a draft that is pruned

abbrev Objects : Type 0
Objects = List (List ℕ × TopoObject)

abbrev with_shape : Featured → Option TopoShape → TopoFeature
with_shape f s = record { id = f.id; properties = f.properties; shape = s }

-- what is made of the objects of layers
pub layers_made : (of : RefsOf) (make : List ℕ × TopoObject → List ℕ × TopoObject) (each : TopoFeature → TopoFeature) (made : Featured → TopoFeature) → ((name : List ℕ) (fs : List TopoFeature) → make (name, Many fs) ≡ (name, Many (map each fs)))
    → ((f : Featured) → each (feature_drafted of f) ≡ made f) → (ls : Named) → map make (objects_drafted of ls) ≡ map (λ l. (l.0, Many (map made l.1.features))) ls
layers_made of make each made many same =
    fused {A = List ℕ × Layer} make (λ l. (l.0, Many (map (feature_drafted of) l.1.features))) (λ l. (l.0, Many (map made l.1.features)))
    (λ l. many l.0 (map (feature_drafted of) l.1.features) ∙ ap (λ fs. (l.0, Many fs)) (fused each (feature_drafted of) made same l.1.features))

module _ (of : RefsOf) (k : Refs) where
  abbrev both : Kept
  both closed ps = k closed (draft_refs of closed ps)

  shape_pruned : (s : Option Shape) → then_some (prune (λ (p : Point). p) k) (map_some (relined (draft_refs of)) s) ≡ then_some (prune (λ (p : Point). p) both) s
  shape_pruned None = refl
  shape_pruned (Some s) =
      let with_mark : Bool → Bool × List Point → Option (List ℤ) = λ closed l. k closed (draft_refs of closed l.1) in
      sym (left_plain (λ (p : Point). p) (by_refs k) (relined (draft_refs of) s)) ∙ pruned_once (draft_refs of) (by_refs k) s None ∙ left_plain (λ (p : Point). p) with_mark s

  pub draft_pruned : (ls : Named) → objects_pruned k (objects_drafted of ls) ≡ objects_by both ls
  draft_pruned = layers_made of (λ o. (o.0, object_pruned k o.1)) (feature_pruned k) (feature_by both) (λ name fs. refl) (λ f. ap (with_shape f) (shape_pruned f.shape))

-- ---- what is dropped of a draft

-- a line or ring that has enough positions has an index
module _ (lines : List Stroke) (arcs : List (List Point)) (limit : ℕ) (b : Bool × List Point) (whole : IsWholeAtZero lines b) where
  -- why it is dropped at zero, by its pieces
  abbrev at_zero : List (List Point) → Option Cause
  at_zero ps = if is_small 0 b.0 (stitched (map (reduced 0) ps)) then Some Small else None

  small_none : at_zero [] ≡ Some Small
  small_none = grind arith

  pub some_pieces : is_short b.0 (clean b.1) ≡ false → own_pieces lines b.0 b.1 ≡ [] → ⊥
  some_pieces long none = none-some Small (sym (no_small lines b whole long) ∙ rw long refl ∙ ap at_zero none ∙ small_none)

  by_pieces : is_short b.0 (clean b.1) ≡ false → (ps : List (List Point)) → own_pieces lines b.0 b.1 ≡ ps → draft_cause (of_arcs limit arcs) b.0 (own_refs lines b.0 b.1) ≡ small_cause limit arcs b.0 (own_refs lines b.0 b.1)
  by_pieces long [] is = absurd (some_pieces long is)
  by_pieces long (p ∷ ps) is =
      ap (λ zs. draft_cause (of_arcs limit arcs) b.0 (map (index_in (all_arcs lines)) zs)) is ∙ sym (ap (λ zs. small_cause limit arcs b.0 (map (index_in (all_arcs lines)) zs)) is)

  by_length : (short : Bool) → is_short b.0 (clean b.1) ≡ short → draft_cause (of_arcs limit arcs) b.0 (draft_refs (own_refs lines) b.0 b.1) ≡ assembled_cause lines arcs limit b.0 b.1
  by_length true e = rw e refl
  by_length false e = rw e (by_pieces e (own_pieces lines b.0 b.1) refl)

  pub cause_is : draft_cause (of_arcs limit arcs) b.0 (draft_refs (own_refs lines) b.0 b.1) ≡ assembled_cause lines arcs limit b.0 b.1
  cause_is = by_length (is_short b.0 (clean b.1)) refl

-- ---- the protected rings of a draft

-- the way to what is made of a ring
same_way : {L M : Type 0} (make : L → M) (o : Option (Placed L)) → map_some (λ x. x.path) (map_some (put make) o) ≡ map_some (λ x. x.path) o
same_way make None = refl
same_way make (Some x) = refl

module _ (ls : Named) where
  abbrev refs : RefsOf
  refs = draft_refs (own_refs (lines_of ls))

  -- in each feature of the draft the protected ring is that of the feature of the layers
  pub way_is : (keep_shapes : Bool) (s : Shape)
      → map_some (λ x. x.path) (protection keep_shapes (arcs_of_layers ls) (relined (draft_refs (own_refs (linework (layers_of ls)))) s)) ≡ map_some (λ x. x.path) (layer_protection keep_shapes ls s)
  unfolding greatest_of_layers
  way_is true s =
      ap (map_some (λ x. x.path)) (ring_among (arcs_of_layers ls) (relined refs s) (map (put (refs true)) (outer_rings s)) (rings_relined refs s) ∙ ring_made (arcs_of_layers ls) (refs true) (outer_rings s))
      ∙ same_way (refs true) _
  way_is false s = refl

-- ---- a draft stands for the layers over all their arcs

-- a line or ring has its indexes, if it has any
line_is : (lines : List Stroke) (b : Bool × List Point) → IsWholeAtZero lines b → (short : Bool) → is_short b.0 (clean b.1) ≡ short
    → then_some (with_refs b.0) (kept_refs lines 0 0 b.0 b.1) ≡ with_refs b.0 (draft_refs (own_refs lines) b.0 b.1)
line_is lines b whole true e = rw e refl
line_is lines b whole false e =
    ap (λ c. then_some (with_refs b.0) (unless c (own_refs lines b.0 b.1))) (no_small lines b whole e) ∙ sym (ap (λ s. with_refs b.0 (cond s [] (own_refs lines b.0 b.1))) e)

module _ (zero : ZeroLaw) (ends : EndsStay) (new : NoneIsNew) (ls : Named) (draft : Objects) (of : IsDraftOf ls draft) where
  whole_valid : IsTopology (untrimmed 0 0 ls)
  whole_valid = untrimmed_is_valid ends new 0 0 ls of.sound of.names

  pub indexed_are : objects_pruned with_refs draft ≡ (untrimmed 0 0 ls).objects
  indexed_are =
      let lines = lines_of ls in
      ap (objects_pruned with_refs) of.drafted ∙ draft_pruned (own_refs lines) with_refs ls
      ∙ sym (objects_made (kept_refs lines 0 0) with_refs (λ closed ps. with_refs closed (draft_refs (own_refs lines) closed ps)) ls
      (all_weaker (IsWholeAtZero lines) (λ b. then_some (with_refs b.0) (kept_refs lines 0 0 b.0 b.1) ≡ with_refs b.0 (draft_refs (own_refs lines) b.0 b.1))
      (λ b whole. line_is lines b whole (is_short b.0 (clean b.1)) refl) (named_lines_and_rings ls) (loses_nothing zero ls of.sound)))
      ∙ objects_stay None (untrimmed 0 0 ls).objects whole_valid.objects

  pub stands_for_layers : draft_contents draft (arcs_of_layers ls) None ≡ untrimmed 0 0 ls
  stands_for_layers = ap (λ os. contents os (arcs_of_layers ls) None) indexed_are ∙ ap (λ arcs. contents (untrimmed 0 0 ls).objects arcs None) (sym (each_stays zero (arcs_of_layers ls)))

  pub draft_valid : (arcs : List (List Point)) → arcs ≡ arcs_of_layers ls → IsTopology (draft_contents draft arcs None)
  draft_valid arcs are = subst IsTopology (sym (ap (λ xs. draft_contents draft xs None) are ∙ stands_for_layers)) whole_valid

  -- ---- where no ring is protected

  module _ (kept : List (List ℕ)) (limit : ℕ) (retained : List (List Point)) (picks : retained ≡ retained_arcs kept (arcs_of_layers ls)) (ways : Ways) (lead : ways ≡ []) where
    same_arcs : arcs_of_layers ls ≡ (untrimmed 0 0 ls).arcs
    same_arcs = sym (each_stays zero (arcs_of_layers ls))

    pub counts_of : (counts : List ℕ) → counts ≡ map length (arcs_of_layers ls) → counts ≡ map length (untrimmed 0 0 ls).arcs
    counts_of counts counted = counted ∙ ap (map length) same_arcs

    none_large : (closed : Bool) → large_refs limit retained closed [] ≡ None
    none_large true = refl
    none_large false = refl

    -- what is left of it is what is left of these
    pub stands : StandsFor no_protection kept (untrimmed 0 0 ls).objects draft (untrimmed 0 0 ls).arcs retained None None limit ways
    stands = record {
      picks = picks ∙ ap (retained_arcs kept) same_arcs;
      large = objects_are no_protection (sparing (large_refs limit retained)) ways draft (inr (refl, lead)) ∙ sym (left_drafted false retained (large_refs limit retained) none_large draft)
          ∙ ap (objects_spared no_protection (sparing (large_refs limit retained))) indexed_are;
    }

    -- which are a valid topology
    pub stands_for_topology : (counts : List ℕ) → EachFromFirstToLast kept (arcs_of_layers ls) → counts ≡ map length (arcs_of_layers ls) → StandsForTopology draft retained counts None None limit ways
    stands_for_topology counts through counted = record {
      protects = no_protection;
      kept = kept;
      of = (untrimmed 0 0 ls).objects;
      arcs = (untrimmed 0 0 ls).arcs;
      stands = stands;
      through = subst (EachFromFirstToLast kept) same_arcs through;
      counts_are = counts_of counts counted;
      valid = whole_valid;
    }
