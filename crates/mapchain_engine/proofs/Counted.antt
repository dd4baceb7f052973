-- What is counted in a topology is counted in what is kept of it.
use Rattle.std.proofs.Common.{◌≡◌, ℕ, None, List, [], ◌∷◌, ◌++◌, drop, length, suc, take, refl, sym, ap, ◌∙◌}
use Rattle.std.specs.Prelude.{is_some, map}
use Rattle.std.specs.Option.{unwrap_or}
use Rattle.std.proofs.lemmas.List.{length-map}
use Rattle.std.proofs.Math.Seq.{take-append_seam}
use Rattle.geometry.specs.Lists.{tail}
use Rattle.topojson_types.specs.Topologies.{Contents, object_features}
use Rattle.topojson_types.specs.declared.feature.TopoFeature.{TopoFeature}
use Rattle.topojson_types.specs.declared.object.TopoObject.{TopoObject}
use Rattle.topojson_types.specs.declared.object.TopoObject.TheVariants.{One, Many}
use Rattle.topojson_decoder.specs.ArcEnds.{ends}
use Rattle.topojson_decoder.specs.Kept.{features_in, listed, of_contents, of_feature, of_named, of_object}
use Rattle.topojson_decoder.specs.declared.keeping.Keeping.{Keeping}
use Rattle.topojson_decoder.specs.declared.keeping.Keeping.TheVariants.{Whole, Shapes, Counted}
use Rattle.topojson_decoder.specs.declared.topologies.Parts.{Parts}
use Rattle.topo_model.proofs.Stepped as stepped
use Rattle.reports.specs.declared.summary.Summary.{Summary}
use Rattle.reports.specs.Summaries.{counted, positions_in, summary_of, summary_with}
use Rattle.mapchain_engine.specs.Numbered.{first_or, numbered, numbered_by}

-- where all features are kept, as many are counted
module _ (k : Keeping) (all : (fs : List TopoFeature) → listed k fs ≡ fs) where
  as_many : (o : TopoObject) → length (object_features (of_object k o)) ≡ length (object_features o)
  as_many (One f) = refl
  as_many (Many fs) = ap length (all (map (of_feature k) fs)) ∙ length-map fs (of_feature k)

  counted_same : (o : List ℕ × TopoObject) → counted (of_named k o) ≡ counted o
  counted_same o = ap (λ n. (o.0, n)) (as_many o.1)

  all_counted : (os : List (List ℕ × TopoObject)) → map counted (map (of_named k) os) ≡ map counted os
  all_counted [] = refl
  all_counted (o ∷ os) = rw (counted_same o, all_counted os) refl

-- where none are, they are counted elsewhere
all_numbered : (os : List (List ℕ × TopoObject)) → numbered (map (λ o. features_in o.1) os) (map counted (map (of_named Counted) os)) ≡ map counted os
all_numbered [] = refl
all_numbered (o ∷ os) = ap (λ ns. counted o ∷ ns) (all_numbered os)

-- the summary of what is kept of a topology
abbrev summary_of_parts : Parts → Summary
summary_of_parts p = record { objects = numbered_by p.features (map counted p.objects); arcs = length p.arcs; positions = unwrap_or p.positions (positions_in p.arcs); grid = is_some p.transform; crossings = None }

same_summary : (k : Keeping) (t : Contents) → summary_of_parts (of_contents k t) ≡ summary_of t
same_summary (Whole text) t = rw (all_counted (Whole text) (λ fs. refl) t.objects) refl
same_summary Shapes t = rw (all_counted Shapes (λ fs. refl) t.objects) refl
same_summary Counted t = rw (all_numbered t.objects, length-map t.arcs ends) refl

-- is the topology's
pub summary_kept : (parts : Parts) (k : Keeping) (t : Contents) → parts ≡ of_contents k t → (s : Summary) → s ≡ summary_with parts.objects parts.arcs (is_some parts.transform)
    → (os : List (List ℕ × ℕ)) → os ≡ numbered_by parts.features s.objects → (n : ℕ) → n ≡ unwrap_or parts.positions s.positions
    → ◌≡◌ {A = Summary} (record { objects = os; arcs = s.arcs; positions = n; grid = s.grid; crossings = s.crossings }) (summary_of t)
summary_kept parts k t kept s is os each n in_all = rw (each, in_all, is) (ap summary_of_parts kept ∙ same_summary k t)

-- ---- numbers that are put in the place of those that were counted

abbrev pub put_one : List ℕ → List ℕ × ℕ → List ℕ × ℕ
put_one ns o = (o.0, first_or o.1 ns)

abbrev pub put_next : List ℕ → List ℕ × ℕ → List ℕ
put_next ns o = tail ns

pub all_put : (ns : List ℕ) (os : List (List ℕ × ℕ)) → stepped.all put_one put_next ns os ≡ numbered ns os
all_put ns [] = refl
all_put ns (o ∷ os) = ap (λ ps. put_one ns o ∷ ps) (all_put (tail ns) os)

as_long : (ns : List ℕ) (os : List (List ℕ × ℕ)) → length (numbered ns os) ≡ length os
as_long ns [] = refl
as_long ns (o ∷ os) = ap suc (as_long (tail ns) os)

-- and that are written back whole
pub written_back : (ns : List ℕ) (os ps : List (List ℕ × ℕ)) → ps ≡ numbered ns os → take (length os) (ps ++ drop (length ps) os) ≡ numbered ns os
written_back ns os ps is =
    let many : length os ≡ length ps = sym (ap length is ∙ as_long ns os) in
    ap (λ m. take m (ps ++ drop (length ps) os)) many ∙ take-append_seam ps (drop (length ps) os) ∙ is
