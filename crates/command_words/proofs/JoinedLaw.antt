-- Words that are written for a request ask for it once they are joined.
use Rattle.std.proofs.Common.{◌≡◌, ◌∙◌, ℕ, List, [], ◌∷◌, Bool, true, false, Option, Some, None, codes, decimal, map, option_map, refl, ap}
use Rattle.clap.specs.Walk.{Text}
use Rattle.command_words.specs.Asked.{Ordered, build, geo, order_of, simplify, stat}
use Rattle.command_words.specs.Joined.{alone, following, joined, joined_from}
use Rattle.command_words.specs.Written.{IsWritable, and_flag, and_value, layer_word, level_apart, level_word, ring_area_apart, ring_area_word, value_word, written, written_apart}
use Rattle.command_words.proofs.WrittenLaw.{asked_as_written}

same_after : (words : List Text) → joined_from following words ≡ words
same_after [] = refl
same_after (word ∷ words) = ap (λ ws. word ∷ ws) (same_after words)

same_rest : (words : List Text) → joined_from alone (codes "--" ∷ words) ≡ codes "--" ∷ words
same_rest words = ap (λ ws. codes "--" ∷ ws) (same_after words)

same_exact : (exact : Bool) (words : List Text) → joined_from alone (and_flag (codes "exact") exact (codes "--" ∷ words)) ≡ and_flag (codes "exact") exact (codes "--" ∷ words)
same_exact true words = ap (λ ws. codes "--exact" ∷ ws) (same_rest words)
same_exact false words = same_rest words

same_keep_shapes : (keep_shapes : Bool) (words : List Text) → joined_from alone words ≡ words
    → joined_from alone (and_flag (codes "keep-shapes") keep_shapes words) ≡ and_flag (codes "keep-shapes") keep_shapes words
same_keep_shapes true words h = ap (λ ws. codes "--keep-shapes" ∷ ws) h
same_keep_shapes false words h = h

same_no_crossings : (no_crossings : Bool) (words : List Text) → joined_from alone words ≡ words
    → joined_from alone (and_flag (codes "no-crossings") no_crossings words) ≡ and_flag (codes "no-crossings") no_crossings words
same_no_crossings true words h = ap (λ ws. codes "--no-crossings" ∷ ws) h
same_no_crossings false words h = h

same_grid : (grid : Option ℕ) (words joined_words : List Text) → joined_from alone words ≡ joined_words
    → joined_from alone (and_value (codes "grid") (option_map decimal grid) words) ≡ and_value (codes "grid") (option_map decimal grid) joined_words
same_grid None words joined_words h = h
same_grid (Some n) words joined_words h = ap (λ ws. value_word (codes "grid") (decimal n) ∷ ws) h

module _ (words joined_words : List Text) (h : joined_from alone words ≡ joined_words) where
  same_ring_area : (ring_area : Text) → joined_from alone (ring_area_word ring_area ∷ words) ≡ ring_area_word ring_area ∷ joined_words
  same_ring_area ring_area = ap (λ ws. ring_area_word ring_area ∷ ws) h

  joined_ring_area : (ring_area : Text) → joined_from alone (ring_area_apart ring_area words) ≡ ring_area_word ring_area ∷ joined_words
  joined_ring_area ring_area = ap (λ ws. ring_area_word ring_area ∷ ws) h

  same_level : (area : Text) (keep : Option Text) → joined_from alone (level_word area keep ∷ words) ≡ level_word area keep ∷ joined_words
  same_level area None = ap (λ ws. level_word area None ∷ ws) h
  same_level area (Some share) = ap (λ ws. level_word area (Some share) ∷ ws) h

  joined_level : (area : Text) (keep : Option Text) → joined_from alone (level_apart area keep words) ≡ level_word area keep ∷ joined_words
  joined_level area None = ap (λ ws. level_word area None ∷ ws) h
  joined_level area (Some share) = ap (λ ws. level_word area (Some share) ∷ ws) h

same_output : (output : Option Text) (words joined_words : List Text) → joined_from alone words ≡ joined_words
    → joined_from alone (and_value (codes "output") output words) ≡ and_value (codes "output") output joined_words
same_output None words joined_words h = h
same_output (Some file) words joined_words h = ap (λ ws. value_word (codes "output") file ∷ ws) h

joined_same : (o : Ordered) → joined (written o) ≡ written o
joined_same (build layers exact grid area keep ring_area no_crossings keep_shapes, output) =
    let last = and_flag (codes "exact") exact (codes "--" ∷ map layer_word layers) in
    let shapes = and_flag (codes "keep-shapes") keep_shapes last in
    let rest = and_flag (codes "no-crossings") no_crossings shapes in
    let same = same_no_crossings no_crossings shapes (same_keep_shapes keep_shapes last (same_exact exact (map layer_word layers))) in
    let rings = ring_area_word ring_area ∷ rest in
    let levels = level_word area keep ∷ rings in
    let below = same_level rings rings (same_ring_area rest rest same ring_area) area keep in
    ap (λ ws. codes "build" ∷ ws) (same_output output (and_value (codes "grid") (option_map decimal grid) levels) (and_value (codes "grid") (option_map decimal grid) levels) (same_grid grid levels levels below))
joined_same (simplify area keep ring_area no_crossings keep_shapes path, output) =
    let last = and_flag (codes "keep-shapes") keep_shapes (codes "--" ∷ path ∷ []) in
    let rest = and_flag (codes "no-crossings") no_crossings last in
    let same = same_no_crossings no_crossings last (same_keep_shapes keep_shapes (codes "--" ∷ path ∷ []) (same_rest (path ∷ []))) in
    let rings = ring_area_word ring_area ∷ rest in
    let levels = level_word area keep ∷ rings in
    ap (λ ws. codes "simplify" ∷ ws)
    (same_output output levels levels (same_level rings rings (same_ring_area rest rest same ring_area) area keep))
joined_same (geo name most path, output) =
    let rest = and_value (codes "max-positions") (option_map decimal most) (codes "--" ∷ path ∷ []) in
    ap (λ ws. codes "geo" ∷ ws) (same_after (and_value (codes "output") output (value_word (codes "object") name ∷ rest)))
joined_same (stat crossings path, output) = ap (λ ws. codes "stat" ∷ ws) (same_after (and_value (codes "output") output (and_flag (codes "crossings") crossings (codes "--" ∷ path ∷ []))))

joined_apart : (o : Ordered) → joined (written_apart o) ≡ written o
joined_apart (build layers exact grid area keep ring_area no_crossings keep_shapes, output) =
    let last = and_flag (codes "exact") exact (codes "--" ∷ map layer_word layers) in
    let shapes = and_flag (codes "keep-shapes") keep_shapes last in
    let rest = and_flag (codes "no-crossings") no_crossings shapes in
    let same = same_no_crossings no_crossings shapes (same_keep_shapes keep_shapes last (same_exact exact (map layer_word layers))) in
    let rings = ring_area_word ring_area ∷ rest in
    let apart = level_apart area keep (ring_area_apart ring_area rest) in
    let levels = level_word area keep ∷ rings in
    let below = joined_level (ring_area_apart ring_area rest) rings (joined_ring_area rest rest same ring_area) area keep in
    ap (λ ws. codes "build" ∷ ws) (same_output output (and_value (codes "grid") (option_map decimal grid) apart) (and_value (codes "grid") (option_map decimal grid) levels) (same_grid grid apart levels below))
joined_apart (simplify area keep ring_area no_crossings keep_shapes path, output) =
    let last = and_flag (codes "keep-shapes") keep_shapes (codes "--" ∷ path ∷ []) in
    let rest = and_flag (codes "no-crossings") no_crossings last in
    let same = same_no_crossings no_crossings last (same_keep_shapes keep_shapes (codes "--" ∷ path ∷ []) (same_rest (path ∷ []))) in
    let rings = ring_area_word ring_area ∷ rest in
    let apart = ring_area_apart ring_area rest in
    ap (λ ws. codes "simplify" ∷ ws)
    (same_output output (level_apart area keep apart) (level_word area keep ∷ rings)
    (joined_level apart rings (joined_ring_area rest rest same ring_area) area keep))
joined_apart (geo name most path, output) = joined_same (geo name most path, output)
joined_apart (stat crossings path, output) = joined_same (stat crossings path, output)

-- the words that are written for a request, in each of the two spellings, ask for it once they are joined
pub written_are_asked : (o : Ordered) → IsWritable o.0 → (order_of (joined (written o)) ≡ Some o) × (order_of (joined (written_apart o)) ≡ Some o)
written_are_asked o can =
    (ap order_of (joined_same o) ∙ asked_as_written o can, ap order_of (joined_apart o) ∙ asked_as_written o can)
