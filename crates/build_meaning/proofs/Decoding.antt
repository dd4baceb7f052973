-- What is decoded of the topology that is built of layers is what is expected of it: of a line's indexes the line rebuilt of its own pieces.
use Rattle.std.proofs.Common.{◌≡◌, ℕ, zero, suc, ◌<◌, ◌≤◌, ℤ, pos, negsuc, Bool, false, List, [], ◌∷◌, map, length, append-nil, reverse, Option, None, Some, refl, sym, ap, ◌∙◌, arith, inl, inr, rules, ◌≢◌, true, if◌then◌else◌}
use Rattle.build_meaning.proofs.Names.{nat_tests, number_of, at, or_empty, arc_at, stitched, then_some, Point, Cause, clean_from, clean, is_short, Stroke, In, AreDistinct as Apart, interior, filled, completed, decoded_line, arcs_unlike, arc_is_piece, piece_has_alike, named_is, index_is, same_stitched, arcs_of, index_in, reduced, DirectionLaw, all_arcs, kept_refs, own_pieces, own_cause, rebuilt, unless, kept_line, pieces, AllByRecursion, all_weaker, all_two, all_map, all_left, all_right, all_of_map, agreed, composed, map_some, prune, option_lines_and_rings, Shape, Featured, linework, decoded_shape, decoded_feature, decoded_object, of_name, decoded, AreDistinct, untrimmed, built, expected_feature, expected, AreSound, DecodesBack, Named, names_of, layers_of, named_lines_and_rings, features_by, objects_by, Many, Layer, features_lines_and_rings}
use Rattle.std.proofs.lemmas.Slice.Eq.{bytes_eq-Decides}
use Rattle.build_meaning.proofs.Linework.{Line, StandsIn, own_in, each_stands, own_apart}
use Rattle.build_meaning.proofs.Trimmed.{trimmed_decodes}
use Rattle.geojson_types.specs.declared.layer.FeatureSet.TheVariants as set

-- ---- an arc that is found again when all are replaced

module _ (f : List Point → List Point) where
  -- the arc of this number, and what stands for it
  record Found (arcs : List (List Point)) (i : ℕ) : Type 0 where
    arc : List Point
    one : In arc arcs
    before : at arcs i ≡ Some arc
    after : at (map f arcs) i ≡ Some (f arc)

  found : (arcs : List (List Point)) (i : ℕ) → i < length arcs → Found arcs i
  found [] i h = absurd (omega arith)
  found (a ∷ arcs) zero h = record { arc = a; one = inl refl; before = refl; after = refl }
  found (a ∷ arcs) (suc i) h = let r = found arcs i (omega arith) in record { arc = r.arc; one = inr r.one; before = r.before; after = r.after }

  -- in both directions, where each arc turns
  arc_found : (arcs : List (List Point)) (z : ℤ) → number_of z < length arcs → ((a : List Point) → In a arcs → f (reverse a) ≡ reverse (f a)) → arc_at (map f arcs) z ≡ f (arc_at arcs z)
  unfolding number_of
  arc_found arcs (pos i) h turns = let r = found arcs i h in ap or_empty r.after ∙ sym (ap (λ o. f (or_empty o)) r.before)
  arc_found arcs (negsuc i) h turns = grind (arith, found arcs i h)

-- the index of a piece names it, reduced
piece_back : DirectionLaw → (t : ℕ) (ps : List (List Point)) → ((p : List Point) → In p ps → Apart (interior p)) → (x : List Point) → In x ps →
    arc_at (map (reduced t) (arcs_of ps)) (index_in (arcs_of ps) x) ≡ reduced t x
piece_back law t ps apart x k = grind (arith, piece_has_alike, named_is, index_is, arcs_unlike, arc_found, arc_is_piece)

pub pieces_back : DirectionLaw → (t : ℕ) (ps : List (List Point)) → ((p : List Point) → In p ps → Apart (interior p)) → (xs : List (List Point)) → ((x : List Point) → In x xs → In x ps) →
    map (arc_at (map (reduced t) (arcs_of ps))) (map (index_in (arcs_of ps)) xs) ≡ map (reduced t) xs
pieces_back law t ps apart [] f = refl
pieces_back law t ps apart (x ∷ xs) f = grind (arith, piece_back, pieces_back law t ps apart xs)

-- ---- a ring that is kept has enough positions

clean_shorter : (p : Point) (ps : List Point) → length (clean_from p ps) ≤ suc (length ps)
clean_shorter p [] = omega arith
clean_shorter p (q ∷ qs) = grind (arith, clean_shorter q qs)

full : (ps : List Point) → 4 ≤ length ps → filled ps ≡ ps
full ps h = grind (arith, append-nil)

complete : (closed : Bool) (ps : List Point) → is_short closed (clean ps) ≡ false → completed closed ps ≡ ps
complete closed ps h = grind (arith, full, nat_tests, clean_shorter)

-- ---- lines and rings

-- there is no cause to drop it
pub no_cause : (lines : List Stroke) (t limit : ℕ) (b : Line) → own_cause lines t limit b.0 b.1 ≡ None → (is_short b.0 (clean b.1) ≡ false) × (is_short b.0 (clean (rebuilt lines t b.0 b.1)) ≡ false)
no_cause lines t limit b h = grind arith

-- what is decoded of a line's indexes
abbrev pub back : List Stroke → ℕ → Bool → List ℤ → Option (List Point)
back lines t closed refs = Some (decoded_line (map (reduced t) (all_arcs lines)) closed refs)

-- a line that stays is left as it is, and one with a cause isn't left, whatever it would be
unless_same : {A B : Type 0} (f : A → B) (w : Option Cause) (a : A) (b : B) → (w ≡ None → f a ≡ b) → then_some (λ x. Some (f x)) (unless w a) ≡ unless w b
unless_same f None a b h = ap Some (h refl)
unless_same f (Some c) a b h = refl

module _ (law : DirectionLaw) (lines : List Stroke) (t limit : ℕ) (apart : (p : List Point) → In p (pieces lines) → Apart (interior p)) where
  refs_back : (b : Line) → StandsIn lines b → own_cause lines t limit b.0 b.1 ≡ None
      → decoded_line (map (reduced t) (all_arcs lines)) b.0 (map (index_in (all_arcs lines)) (own_pieces lines b.0 b.1)) ≡ rebuilt lines t b.0 b.1
  refs_back b stands e =
      let cause = no_cause lines t limit b e in
      ap (λ ps. completed b.0 (stitched ps)) (pieces_back law t (pieces lines) apart (own_pieces lines b.0 b.1) (own_in lines b stands cause.0))
      ∙ ap (completed b.0) (same_stitched (map (reduced t) (own_pieces lines b.0 b.1))) ∙ complete b.0 (rebuilt lines t b.0 b.1) cause.1

  pub line_back : (b : Line) → StandsIn lines b → then_some (back lines t b.0) (kept_refs lines t limit b.0 b.1) ≡ kept_line lines t limit b.0 b.1
  line_back b stands =
      unless_same (decoded_line (map (reduced t) (all_arcs lines)) b.0) (own_cause lines t limit b.0 b.1) (map (index_in (all_arcs lines)) (own_pieces lines b.0 b.1)) (rebuilt lines t b.0 b.1) (refs_back b stands)

-- ---- names

differ : (b : Bool) (P : Type 0) → (b ≡ true → P) → (P → ⊥) → b ≡ false
differ b P h k = grind arith

module _ {A V : Type 0} (value : A → V) where
  abbrev entries : List (List ℕ × A) → List (List ℕ × V)
  entries ms = map (λ m. (m.0, value m.1)) ms

  abbrev IsFirst : List (List ℕ × A) → List ℕ × A → Type 0
  IsFirst ms m = of_name m.0 (entries ms) ≡ Some (value m.1)

  past : (m : List ℕ × A) (ms : List (List ℕ × A)) (n : List ℕ × A) → m.0 ≢ n.0 → IsFirst ms n → IsFirst (m ∷ ms) n
  past m ms n apart h = grind (arith, differ, bytes_eq-Decides)

  -- where no name stands twice, each names its own value
  pub by_name : (ms : List (List ℕ × A)) → AreDistinct (map (λ m. m.0) ms) → AllByRecursion (λ m. of_name m.0 (map (λ m. (m.0, value m.1)) ms) ≡ Some (value m.1)) ms
  by_name [] h = tt
  by_name (m ∷ ms) h = (
    ap (λ b. if b then Some (value m.1) else of_name m.0 (entries ms)) ((bytes_eq-Decides m.0 m.0).1 refl),
    all_two (λ n. m.0 ≢ n.0) (IsFirst ms) (IsFirst (m ∷ ms)) (past m ms) ms (all_of_map (λ n. m.0 ≢ n) (λ n. n.0) ms h.0) (by_name ms h.1),
  )

-- ---- features

module _ (lines : List Stroke) (t limit : ℕ) where
  abbrev arcs : List (List Point)
  arcs = map (reduced t) (all_arcs lines)

  -- what is decoded of its indexes is what is expected of it
  abbrev Returns : Line → Type 0
  Returns b = then_some (back lines t b.0) (kept_refs lines t limit b.0 b.1) ≡ kept_line lines t limit b.0 b.1

  shape_back : (s : Option Shape) → AllByRecursion Returns (option_lines_and_rings s) →
      then_some (decoded_shape (λ p. p) arcs) (then_some (prune (λ p. p) (kept_refs lines t limit)) s) ≡ then_some (prune (λ p. p) (kept_line lines t limit)) s
  shape_back None h = refl
  shape_back (Some s) h = search (rules, composed, agreed)

  features_back : (fs : List Featured) → AllByRecursion Returns (features_lines_and_rings fs) → map (decoded_feature (λ p. p) arcs) (features_by (kept_refs lines t limit) fs) ≡ map (expected_feature lines t limit) fs
  features_back [] h = refl
  features_back (f ∷ fs) h = search (shape_back, all_left, all_right, features_back fs (all_right Returns (option_lines_and_rings f.shape) (features_lines_and_rings fs) h))

  abbrev LayerReturns : List ℕ × Layer → Type 0
  LayerReturns l = map (decoded_feature (λ p. p) arcs) (features_by (kept_refs lines t limit) l.1.features) ≡ map (expected_feature lines t limit) l.1.features

  layers_back : (ls : Named) → AllByRecursion Returns (named_lines_and_rings ls) → AllByRecursion LayerReturns ls
  layers_back [] h = tt
  layers_back (l ∷ ls) h = search (features_back, all_left, all_right, layers_back ls (all_right Returns (features_lines_and_rings l.1.features) (named_lines_and_rings ls) h))

-- ---- layers

abbrev lines_of : Named → List Stroke
lines_of ls = linework (layers_of ls)

-- the features that are expected of a layer
abbrev expected_of : Named → ℕ → ℕ → Layer → List Featured
expected_of ls t limit l = map (expected_feature (lines_of ls) t limit) l.features

untrimmed_decodes : DirectionLaw → (t limit : ℕ) (ls : Named) → AreSound ls → AreDistinct (names_of ls) →
    AllByRecursion (λ l. decoded (untrimmed t limit ls) l.0 ≡ Some (set.Many (expected_of ls t limit l.1))) ls
unfolding decoded
untrimmed_decodes law t limit ls sound distinct =
    let lines = lines_of ls in
    let returns = all_weaker (StandsIn lines) (Returns lines t limit) (line_back law lines t limit (own_apart ls sound)) (named_lines_and_rings ls) (each_stands ls) in
    all_two (LayerReturns lines t limit) (λ l. of_name l.0 (objects_by (kept_refs lines t limit) ls) ≡ Some (Many (features_by (kept_refs lines t limit) l.1.features)))
    (λ l. decoded (untrimmed t limit ls) l.0 ≡ Some (set.Many (expected_of ls t limit l.1)))
    (λ l e n. ap (map_some (decoded_object (λ p. p) (arcs lines t limit))) n ∙ ap (λ fs. Some (set.Many fs)) e)
    ls (layers_back lines t limit ls returns) (by_name (λ y. Many (features_by (kept_refs lines t limit) y.features)) ls distinct)

-- decoding gives each layer what is expected of it
pub decodes_back : DirectionLaw → DecodesBack
unfolding built expected
decodes_back law t limit ls sound distinct =
    all_map (λ l. decoded (built t limit ls) l.0 ≡ Some (set.Many l.1.features)) (λ l. (l.0, record { features = expected_of ls t limit l.1 })) ls
    (all_weaker (λ l. decoded (untrimmed t limit ls) l.0 ≡ Some (set.Many (expected_of ls t limit l.1))) (λ l. decoded (built t limit ls) l.0 ≡ Some (set.Many (expected_of ls t limit l.1)))
    (λ l e. trimmed_decodes (untrimmed t limit ls) l.0 ∙ e) ls (untrimmed_decodes law t limit ls sound distinct))
