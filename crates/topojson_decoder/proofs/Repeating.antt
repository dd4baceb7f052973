-- Names that repeat, and a set of those that were met.
use Rattle.std.proofs.Common.{◌≡◌, ℕ, ◌+◌, ◌<◌, true, false, ◌||◌, cond, List, [], ◌∷◌, ◌++◌, length, take, drop, map, get_or, refl, sym, ap, ◌∙◌, Bor, arith}
use Rattle.std.specs.BTreeSet.{BTreeSet, Updates, contains}
use Rattle.std.specs.Cmp.Lexicographic.{slice_cmp}
use Rattle.std.specs.Ordering.{is_eq, nat_cmp}
use Rattle.std.specs.declared.cmp.Ordering.{Ordering}
use Rattle.std.proofs.lemmas.List.{map-append}
use Rattle.std.proofs.lemmas.Map.Text.{is_eq-slice_cmp}
use Rattle.owned_values.proofs.Lists.{drop_here, take_here}
use Rattle.topojson_meaning.specs.Objects.{is_met}
use Rattle.topojson_decoder.specs.Names.{names_before_repeat}

abbrev pub names_of : {V : Type 0} → List (List ℕ × V) → List (List ℕ)
names_of ms = map (λ m. m.0) ms

-- ---- names that were met

-- names that were met, and then these
abbrev pub met_with : List (List ℕ) → List (List ℕ) → List (List ℕ)
met_with met [] = met
met_with met (n ∷ ns) = met_with (n ∷ met) ns

met_there : (name : List ℕ) (met ns : List (List ℕ)) → is_met name (met_with met ns) ≡ (is_met name ns || is_met name met)
met_there name met [] = refl
met_there name met (n ∷ ns) = met_there name (n ∷ met) ns ∙ grind arith

pub met_among : (name : List ℕ) (ns : List (List ℕ)) → is_met name (met_with [] ns) ≡ is_met name ns
met_among name ns = met_there name [] ns ∙ grind arith

met_last : (met ns : List (List ℕ)) (name : List ℕ) → met_with met (ns ++ name ∷ []) ≡ name ∷ met_with met ns
met_last met [] name = refl
met_last met (n ∷ ns) name = met_last (n ∷ met) ns name

-- ---- a set of them

-- the order by which a set of texts finds one
abbrev order : Bor (List ℕ) → Bor (List ℕ) → Ordering
order a b = slice_cmp nat_cmp a.now b.now

module _ {V : Type 0} (ms : List (List ℕ × V)) where
  abbrev met_before : ℕ → List (List ℕ)
  met_before i = met_with [] (names_of (take i ms))

  -- none of the first repeats, and the set has their names
  abbrev pub AreNew : ℕ → BTreeSet (Bor (List ℕ)) → Type 0
  AreNew i set = (names_before_repeat [] (names_of ms) ≡ names_before_repeat (met_before i) (names_of (drop i ms)) + i) × ((q : Bor (List ℕ)) → contains order set q ≡ is_met q.now (met_before i))

  pub one_more : (i : ℕ) (m : List ℕ × V) → i < length ms → m ≡ get_or ms i m → (set after : BTreeSet (Bor (List ℕ))) → AreNew i set → (name : Bor (List ℕ)) → name.now ≡ m.0
      → contains order set name ≡ false → Updates order set after name true → AreNew (i + 1) after
  one_more i m lt is set after new name same absent updates =
      let more : met_before (i + 1) ≡ m.0 ∷ met_before i = rw (take_here ms i m lt is, map-append (λ z. z.0) (take i ms) (m ∷ [])) (met_last [] (names_of (take i ms)) m.0) in
      let here : is_met m.0 (met_before i) ≡ false = sym (ap (λ z. is_met z (met_before i)) same) ∙ sym (new.1 name) ∙ absent in
      rw more (
        rw (drop_here ms i m lt is, here) at new.0 ∙ omega arith,
        (λ q. updates.0 q ∙ ap (cond (is_eq (order name q)) true) (new.1 q) ∙ rw (is_eq-slice_cmp name.now q.now, same) (grind arith)),
      )
