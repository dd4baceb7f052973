-- Objects by name, seen one after another.
use Rattle.std.proofs.Common.{◌≡◌, ◌≢◌, ℕ, true, false, List, [], ◌∷◌, ◌++◌, length, Option, Some, None, Result, Ok, Err, refl, sym, ap, ◌∙◌, append_assoc}
use Rattle.std.specs.Prelude.{is_some, map}
use Rattle.std.proofs.lemmas.List.{length-map, map-append}
use Rattle.std.specs.Option.{option_copied}
use Rattle.json_value.specs.declared.json.Json.{Json}
use Rattle.json_value.specs.Members.{Members}
use Rattle.geojson_types.specs.declared.counts.Counts.{Counts}
use Rattle.topojson_types.specs.declared.object.TopoObject.{TopoObject}
use Rattle.topojson_meaning.specs.declared.fault.TopoFault.{TopoFault}
use Rattle.topojson_meaning.specs.Reader.{each, gather}
use Rattle.topojson_decoder.specs.declared.geometry_parts.Start.{Start}
use Rattle.topojson_decoder.specs.declared.keeping.Keeping.{Keeping}
use Rattle.topojson_decoder.specs.Kept.{of_named}
use Rattle.topojson_decoder.specs.NamedObjects.{AreRead, FailsAfter, named_object, object}
use Rattle.topojson_meaning.specs.declared.fault.TopoFault.TheVariants.{Duplicate}
use Rattle.topojson_meaning.specs.Objects.{is_met, objects_after}
use Rattle.topojson_decoder.specs.Names.{names_before_repeat}
use Rattle.topojson_decoder.proofs.KeptParts.{names_kept}
use Rattle.topojson_decoder.proofs.Repeating.{names_of}
use Rattle.topojson_decoder.proofs.NamedLaws.{read_more}
use Rattle.topojson_decoder.proofs.NamedLaws as law

module _ (start : Start) where
  -- of no members
  pub nothing : (c : Counts) → c ≡ start.counts → each (named_object start) [] start.counts ≡ Ok ([], c)
  unfolding gather
  nothing c h = ap (λ d. Ok ([], d)) (sym h)

  module _ (ms : Members) (os : List (List ℕ × TopoObject)) (c : Counts) where
    -- after a fault
    pub passes : (failed : Option (List ℕ × TopoFault)) (m : List ℕ × Json) → is_some failed ≡ true → AreRead start ms os c failed → AreRead start (ms ++ m ∷ []) os c failed
    passes None m some h = absurd cc
    passes (Some failed) m some h = record {
      before = h.before;
      value = h.value;
      after = h.after ++ m ∷ [];
      mid = h.mid;
      are = ap (λ z. z ++ m ∷ []) h.are ∙ append_assoc h.before ((failed.0, h.value) ∷ h.after) (m ∷ []);
      read = h.read;
      fails = h.fails;
    }

    -- one member more, where none had a fault so far
    module _ (name : List ℕ) (v : Json) where
      pub reads : (failed : Option (List ℕ × TopoFault)) → is_some failed ≡ false → AreRead start ms os c failed → (o : TopoObject) (d : Counts) → object start v c ≡ Ok (o, d) → AreRead start (ms ++ (name, v) ∷ []) (os ++ (name, o) ∷ []) d failed
      reads None none h o d k = read_more (named_object start) (name, v) ms start.counts c d os (name, o) h (rw k refl)
      reads (Some failed) none h o d k = absurd cc

      pub fails : (failed : Option (List ℕ × TopoFault)) → is_some failed ≡ false → AreRead start ms os c failed → (e : TopoFault) → object start v c ≡ Err e → FailsAfter start (ms ++ (name, v) ∷ []) os (name, e)
      fails None none h e k = record { before = ms; value = v; after = []; mid = c; are = refl; read = h; fails = k }
      fails (Some failed) none h e k = absurd cc

-- ---- what is kept of them

module _ (k : Keeping) (kept whole : List (List ℕ × TopoObject)) (h : kept ≡ map (of_named k) whole) where
  -- of one more
  pub kept_more : (one all : List ℕ × TopoObject) → one ≡ of_named k all → kept ++ one ∷ [] ≡ map (of_named k) (whole ++ all ∷ [])
  kept_more one all is = rw (h, is) (sym (map-append (of_named k) whole (all ∷ [])))

  -- it is as many, of the same names
  pub same_names : names_of kept ≡ names_of whole
  same_names = ap names_of h ∙ names_kept k whole

  pub same_length : length kept ≡ length whole
  same_length = ap length h ∙ length-map whole (of_named k)

-- ---- all of them, in order

module _ (start : Start) (ms : Members) (os : List (List ℕ × TopoObject)) (c : Counts) where
  abbrev whole : Result (List (List ℕ × TopoObject) × Counts) TopoFault
  whole = objects_after (option_copied start.transform) start.arcs.now [] ms start.counts

  pub repeated : (failed : Option (List ℕ × TopoFault)) → AreRead start ms os c failed → names_before_repeat [] (names_of os) ≢ length os → whole ≡ Err Duplicate
  repeated None h k = law.one_repeats (option_copied start.transform) start.arcs.now ms start.counts c os h k
  repeated (Some failed) h k =
      ap (λ z. objects_after (option_copied start.transform) start.arcs.now [] z start.counts) h.are
      ∙ law.repeats_before (option_copied start.transform) start.arcs.now h.before failed.0 h.value h.after start.counts h.mid os h.read k

  module _ (differ : names_before_repeat [] (names_of os) ≡ length os) where
    pub all_read : (failed : Option (List ℕ × TopoFault)) → failed ≡ None → AreRead start ms os c failed → whole ≡ Ok (os, c)
    all_read None is h = law.all_differ (option_copied start.transform) start.arcs.now ms start.counts c os h differ
    all_read (Some failed) is h = absurd cc

    module _ (name : List ℕ) (e : TopoFault) (h : FailsAfter start ms os (name, e)) where
      are : whole ≡ objects_after (option_copied start.transform) start.arcs.now [] (h.before ++ (name, h.value) ∷ h.after) start.counts
      are = ap (λ z. objects_after (option_copied start.transform) start.arcs.now [] z start.counts) h.are

      pub repeats_there : is_met name (names_of os) ≡ true → whole ≡ Err Duplicate
      repeats_there again = are ∙ law.repeats_there (option_copied start.transform) start.arcs.now h.before name h.value h.after start.counts h.mid os h.read differ again

      pub fails_there : is_met name (names_of os) ≡ false → whole ≡ Err e
      fails_there new = are ∙ law.fails_there (option_copied start.transform) start.arcs.now h.before name h.value h.after start.counts h.mid os h.read differ e h.fails new
