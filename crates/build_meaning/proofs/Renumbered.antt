-- Objects made of layers and then renumbered are made of the layers at once, and the topology that is built has no transform.
use Rattle.std.proofs.Common.{◌≡◌, ℕ, Bool, List, [], ◌∷◌, map, None, refl, arith}
use Rattle.build_meaning.proofs.Names.{composed, then_some, Featured, linework, untrimmed, built, kept_refs, Named, layers_of, Kept, features_by, objects_by, is_used, line_renumbered, feature_renumbered, object_renumbered, trimmed}

module _ (used : ℕ → Bool) (kept : Kept) where
  -- the indexes of each kept line, renumbered
  abbrev pub kept_renumbered : Kept
  kept_renumbered closed ps = then_some (line_renumbered used closed) (kept closed ps)

  features_once : (fs : List Featured) → map (feature_renumbered used) (features_by kept fs) ≡ features_by kept_renumbered fs
  features_once [] = refl
  features_once (f ∷ fs) = grind (arith, composed, features_once fs)

  pub objects_once : (ls : Named) → map (λ o. (o.0, object_renumbered used o.1)) (objects_by kept ls) ≡ objects_by kept_renumbered ls
  objects_once [] = refl
  objects_once (l ∷ ls) = rw (features_once l.1.features, objects_once ls) refl

-- those of the topology that is built
abbrev pub kept_in : ℕ → ℕ → Named → Kept
kept_in t limit ls = kept_renumbered (is_used (untrimmed t limit ls).objects) (kept_refs (linework (layers_of ls)) t limit)

pub built_objects : (t limit : ℕ) (ls : Named) → (built t limit ls).objects ≡ objects_by (kept_in t limit ls) ls
unfolding built trimmed
built_objects t limit ls = objects_once (is_used (untrimmed t limit ls).objects) (kept_refs (linework (layers_of ls)) t limit) ls

pub built_has_no_transform : (t limit : ℕ) (ls : Named) → (built t limit ls).transform ≡ None
unfolding built trimmed
built_has_no_transform t limit ls = refl
