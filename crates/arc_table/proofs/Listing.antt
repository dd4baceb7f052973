-- What is found among the listed arcs is what is found among all of them, where no other arc is alike the piece.
use Rattle.std.proofs.Common.{◌≡◌, ℕ, ◌+◌, ◌<◌, Bool, true, false, not, cond, ◌||◌, List, [], ◌∷◌, ◌++◌, get_or, length, refl, ap, ap₂, sym, ◌∙◌, subst, arith, Option, None, Some}
use Rattle.std.proofs.lemmas.Bool.Decides.{nat_tests}
use Rattle.std.proofs.lemmas.List.{length_push}
use Rattle.std.proofs.lemmas.List.Folds.{list_any-append}
use Rattle.std.specs.Prelude.{ℤ, pos, negsuc}
use Rattle.arc_table.specs.Arcs.{same_line, alike}
use Rattle.arc_table.specs.Ends.{EndIdentifies, EndsAndWays, AreEnds}
use Rattle.arc_table.specs.Growth.{directed, next, has_alike, first_alike, found, grown}
use Rattle.arc_table.specs.Lookup.{is_first, listed, unlisted, AreApart, AreListed}
use Rattle.geometry.specs.Joins.{number_of, is_reversed}
use Rattle.geometry.specs.Lists.{tail, In}
use Rattle.geometry.specs.Points.{Point}
use Rattle.arc_table.proofs.Finding.{found_is, shifted, shifted_directed, shifted_next, shifted_none}
use Rattle.arc_table.proofs.Indexes.{named_is}

first_is : (i : ℕ) (numbers : List ℕ) → is_first i numbers ≡ true → get_or numbers 0 0 ≡ i
first_is i [] h = cc
first_is i (n ∷ numbers) h = grind (arith, nat_tests)

-- ---- one arc more

-- .. that is listed
list_more : (i k : ℕ) (numbers : List ℕ) (arcs : List (List Point)) (x : List Point) → k ≡ i + length arcs → length (listed i numbers arcs) ≡ length numbers →
    (listed i (numbers ++ (k ∷ [])) (arcs ++ (x ∷ [])) ≡ listed i numbers arcs ++ (x ∷ [])) × (unlisted i (numbers ++ (k ∷ [])) (arcs ++ (x ∷ [])) ≡ unlisted i numbers arcs)
list_more i k [] [] x e h = grind (arith, nat_tests)
list_more i k (n ∷ numbers) [] x e h = absurd (omega (arith, h))
list_more i k [] (arc ∷ arcs) x e h = grind (arith, nat_tests, list_more (i + 1) k [] arcs x)
list_more i k (n ∷ numbers) (arc ∷ arcs) x e h = grind (arith, nat_tests, list_more (i + 1) k numbers arcs x, list_more (i + 1) k (n ∷ numbers) arcs x)

-- .. that isn't
skip_more : (i : ℕ) (numbers : List ℕ) (arcs : List (List Point)) (x : List Point) → length (listed i numbers arcs) ≡ length numbers →
    (listed i numbers (arcs ++ (x ∷ [])) ≡ listed i numbers arcs) × (unlisted i numbers (arcs ++ (x ∷ [])) ≡ unlisted i numbers arcs ++ (x ∷ []))
skip_more i [] [] x h = (refl, refl)
skip_more i (n ∷ numbers) [] x h = absurd (omega (arith, h))
skip_more i [] (arc ∷ arcs) x h = grind (arith, skip_more (i + 1) [] arcs x)
skip_more i (n ∷ numbers) (arc ∷ arcs) x h = grind (arith, skip_more (i + 1) numbers arcs x, skip_more (i + 1) (n ∷ numbers) arcs x)

-- a piece that is alike no arc becomes an arc that isn't listed
pub record IsSkipped (numbers : List ℕ) (arcs more : List (List Point)) (x : List Point) : Type 0 where
  pub known : (ends : EndsAndWays) → AreListed arcs numbers ends → AreListed more numbers ends
  pub apart : (rest : List (List Point)) → AreApart (unlisted 0 numbers arcs) rest → AreApart (x ∷ []) rest → AreApart (unlisted 0 numbers more) rest

pub skipped : (numbers : List ℕ) (arcs more : List (List Point)) (x : List Point) → length (listed 0 numbers arcs) ≡ length numbers → has_alike arcs x ≡ false → more ≡ grown arcs x → IsSkipped numbers arcs more x
skipped numbers arcs more x many new e =
    let longer : more ≡ arcs ++ (x ∷ []) = e ∙ ap (λ b. cond b arcs (arcs ++ (x ∷ []))) new in
    let m = skip_more 0 numbers arcs x many in
    record {
      known = λ ends h. subst (λ l. AreListed l numbers ends) (sym longer) (ap length m.0 ∙ many, subst (λ l. AreEnds l ends) (sym m.0) h.1);
      apart = λ rest h k y i. ap (λ l. has_alike (unlisted 0 numbers l) y) longer ∙ ap (λ l. has_alike l y) m.1
          ∙ list_any-append (λ arc. alike arc y) (unlisted 0 numbers arcs) (x ∷ []) ∙ ap₂ ◌||◌ (h y i) (k y i);
    }

-- ---- what is found

-- the index of the arc that has this index among the listed ones
abbrev pub translated : List ℕ → ℤ → ℤ
translated numbers (pos k) = pos (get_or numbers k 0)
translated numbers (negsuc k) = negsuc (get_or numbers k 0)

translated_next : (numbers : List ℕ) (z : ℤ) → translated numbers (next z) ≡ translated (tail numbers) z
translated_next [] z = grind arith
translated_next (n ∷ numbers) z = grind arith

translated_here : (i : ℕ) (numbers : List ℕ) (b : Bool) → is_first i numbers ≡ true → translated numbers (directed b 0) ≡ directed b i
translated_here i numbers b h = grind (arith, first_is)

pub translated_directed : (numbers : List ℕ) (z : ℤ) → directed (not (is_reversed z)) (get_or numbers (number_of z) 0) ≡ translated numbers z
unfolding is_reversed number_of
translated_directed numbers (pos k) = refl
translated_directed numbers (negsuc k) = refl

number_translated : (numbers : List ℕ) (z : ℤ) → number_of (translated numbers z) ≡ get_or numbers (number_of z) 0
number_translated numbers z = unfold number_of in grind arith

has_listed : (i : ℕ) (numbers : List ℕ) (arcs : List (List Point)) (x : List Point) → has_alike (unlisted i numbers arcs) x ≡ false → has_alike arcs x ≡ has_alike (listed i numbers arcs) x
has_listed i numbers [] x h = refl
has_listed i numbers (arc ∷ arcs) x h = grind (arith, has_listed (i + 1) (tail numbers) arcs x, has_listed (i + 1) numbers arcs x)

first_listed : (i : ℕ) (numbers : List ℕ) (arcs : List (List Point)) (x : List Point) → has_alike (unlisted i numbers arcs) x ≡ false → has_alike arcs x ≡ true →
    shifted i (first_alike arcs x) ≡ translated numbers (first_alike (listed i numbers arcs) x)
first_listed i numbers [] x h k = cc
first_listed i numbers (arc ∷ arcs) x h k =
    grind (
      arith,
      shifted_directed i (same_line arc x),
      shifted_next i (first_alike arcs x),
      translated_next numbers (first_alike (listed (i + 1) (tail numbers) arcs) x),
      translated_here i numbers (same_line arc x),
      first_listed (i + 1) (tail numbers) arcs x,
      first_listed (i + 1) numbers arcs x,
    )

in_listed : (i : ℕ) (numbers : List ℕ) (arcs : List (List Point)) (x : List Point) → In x (listed i numbers arcs) → In x arcs
in_listed i numbers [] x k = k
in_listed i numbers (arc ∷ arcs) x k = grind (arith, in_listed (i + 1) (tail numbers) arcs x, in_listed (i + 1) numbers arcs x)

pub listed_identify : (numbers : List ℕ) (arcs : List (List Point)) (x : List Point) → EndIdentifies arcs x → EndIdentifies (listed 0 numbers arcs) x
listed_identify numbers arcs x h = λ y k. h y (in_listed 0 numbers arcs y k)

module _ (numbers : List ℕ) (arcs : List (List Point)) (x : List Point) where
  -- a listed arc is alike the piece
  pub record IsOld (r : ℤ) : Type 0 where
    pub index : Some (translated numbers r) ≡ found 0 arcs x
    pub within : number_of r < length numbers
    pub number : get_or numbers (number_of r) 0 < length arcs
    pub known : (ends : EndsAndWays) → AreEnds (grown (listed 0 numbers arcs) x) ends → AreListed (grown arcs x) numbers ends
    pub others : unlisted 0 numbers (grown arcs x) ≡ unlisted 0 numbers arcs

  -- none is
  pub record IsNew (more : List ℕ) : Type 0 where
    pub index : None ≡ found 0 arcs x
    pub known : (ends : EndsAndWays) → AreEnds (grown (listed 0 numbers arcs) x) ends → AreListed (grown arcs x) more ends
    pub others : unlisted 0 more (grown arcs x) ≡ unlisted 0 numbers arcs

  module _ (many : length (listed 0 numbers arcs) ≡ length numbers) (apart : has_alike (unlisted 0 numbers arcs) x ≡ false) (o : Option ℤ) (is : o ≡ found 0 (listed 0 numbers arcs) x) where
    has : has_alike arcs x ≡ has_alike (listed 0 numbers arcs) x
    has = has_listed 0 numbers arcs x apart

    listed_has : (r : ℤ) → o ≡ Some r → (has_alike (listed 0 numbers arcs) x ≡ true) × (first_alike (listed 0 numbers arcs) x ≡ r)
    listed_has r e = grind (arith, found_is (listed 0 numbers arcs) x)

    pub old : (r : ℤ) → o ≡ Some r → IsOld r
    old r e =
        let h = listed_has r e in
        let same : first_alike arcs x ≡ translated numbers r = sym (shifted_none (first_alike arcs x)) ∙ first_listed 0 numbers arcs x apart (has ∙ h.0) ∙ ap (translated numbers) h.1 in
        let all : grown arcs x ≡ arcs = ap (λ b. cond b arcs (arcs ++ (x ∷ []))) (has ∙ h.0) in
        let some : grown (listed 0 numbers arcs) x ≡ listed 0 numbers arcs = ap (λ b. cond b (listed 0 numbers arcs) (listed 0 numbers arcs ++ (x ∷ []))) h.0 in
        record {
          index = sym (found_is arcs x ∙ ap (λ b. cond b (Some (first_alike arcs x)) None) (has ∙ h.0) ∙ ap (λ z. Some z) same);
          within = subst (λ n. number_of r < n) many (subst (λ z. number_of z < length (listed 0 numbers arcs)) h.1 (named_is (listed 0 numbers arcs) x h.0).1);
          number = subst (λ n. n < length arcs) (ap number_of same ∙ number_translated numbers r) (named_is arcs x (has ∙ h.0)).1;
          known = λ ends k. subst (λ l. AreListed l numbers ends) (sym all) (many, subst (λ l. AreEnds l ends) some k);
          others = ap (unlisted 0 numbers) all;
        }

    pub new : (more : List ℕ) → o ≡ None → more ≡ numbers ++ (length arcs ∷ []) → IsNew more
    new more f e =
        let none : has_alike (listed 0 numbers arcs) x ≡ false = grind (arith, found_is (listed 0 numbers arcs) x) in
        let all : grown arcs x ≡ arcs ++ (x ∷ []) = ap (λ b. cond b arcs (arcs ++ (x ∷ []))) (has ∙ none) in
        let some : grown (listed 0 numbers arcs) x ≡ listed 0 numbers arcs ++ (x ∷ []) = ap (λ b. cond b (listed 0 numbers arcs) (listed 0 numbers arcs ++ (x ∷ []))) none in
        let m = list_more 0 (length arcs) numbers arcs x (omega arith) many in
        let lists : listed 0 more (grown arcs x) ≡ grown (listed 0 numbers arcs) x = cc in
        record {
          index = sym (found_is arcs x ∙ ap (λ b. cond b (Some (first_alike arcs x)) None) (has ∙ none));
          known = λ ends k. (ap length (lists ∙ some) ∙ length_push (listed 0 numbers arcs) x ∙ ap (λ n. n + 1) many ∙ sym (ap length e ∙ length_push numbers (length arcs)), subst (λ l. AreEnds l ends) (sym lists) k);
          others = cc;
        }
