-- Positions and links of one arc after another.
use Rattle.std.proofs.Common.{◌≡◌, ℕ, ◌+◌, ◌<◌, ◌≤◌, Bool, cond, List, [], ◌∷◌, ◌++◌, append_assoc, length, map, take, drop, get_or, length-append, refl, ap, sym, ◌∙◌, arith}
use Rattle.std.specs.List.{filter, range_with_len}
use Rattle.std.proofs.lemmas.List.{append-nil, drop_all, length-map, map-append}
use Rattle.std.proofs.lemmas.Grind.{common_steps}
use Rattle.std.proofs.lemmas.List.Elements.{filter-append}
use Rattle.std.proofs.lemmas.List.FromFn.{length-map-range_with_len, map-range_with_len_more}
use Rattle.owned_values.proofs.Lists.{drop_here, take_here, joined_append}
use Rattle.geometry.specs.Lists.{joined}
use Rattle.geometry.specs.Points.{Point}
use Rattle.guarded_reduction.specs.First.{Neighbour, arc_links, links_of}
use Rattle.guarded_reduction.specs.declared.places.neighbours.Neighbours.{Neighbours}
use Rattle.guarded_reduction.specs.Numbers.{kept_indexes, all_kept_indexes}

pub positions_more : (arcs : List (List Point)) (arc : List Point) (i : ℕ) (all new : List Point) → i < length arcs → arc ≡ get_or arcs i arc → all ≡ joined (take i arcs) → new ≡ all ++ arc → new ≡ joined (take (i + 1) arcs)
positions_more arcs arc i all new h q e f =
    f ∙ ap (λ l. l ++ arc) e ∙ ap (λ l. joined (take i arcs) ++ l) (sym (append-nil arc)) ∙ sym (joined_append (take i arcs) (arc ∷ [])) ∙ sym (ap joined (take_here arcs i arc h q))

take_whole : {X : Type 0} (i : ℕ) (xs : List X) → length xs ≤ i → take i xs ≡ xs
take_whole i xs h = grind (arith, common_steps)

pub positions_all : (arcs : List (List Point)) (i : ℕ) (all : List Point) → length arcs ≤ i → all ≡ joined (take i arcs) → all ≡ joined arcs
positions_all arcs i all h e = e ∙ ap joined (take_whole i arcs h)

-- ---- links

module _ (field : Neighbours → ℕ) where
  pub so_many : (f : ℕ → ℕ) (old now : List Neighbours) (i : ℕ) → map field now ≡ map field old ++ map f (range_with_len 0 i) → length now ≡ length old + i
  so_many f old now i e =
      let many = ap length e ∙ length-append (map field old) (map f (range_with_len 0 i)) in
      omega (arith, many, length-map now field, length-map old field, length-map-range_with_len f 0 i)

  pub one_more_link : (f : ℕ → ℕ) (old now new : List Neighbours) (i : ℕ) (n : Neighbours) → map field now ≡ map field old ++ map f (range_with_len 0 i) → new ≡ now ++ (n ∷ []) → field n ≡ f i →
      map field new ≡ map field old ++ map f (range_with_len 0 (i + 1))
  one_more_link f old now new i n e g q =
      ap (map field) g ∙ map-append field now (n ∷ []) ∙ ap (λ l. l ++ (field n ∷ [])) e ∙ append_assoc (map field old) (map f (range_with_len 0 i)) (field n ∷ [])
      ∙ ap (λ m. map field old ++ (map f (range_with_len 0 i) ++ (m ∷ []))) q ∙ ap (λ l. map field old ++ l) (sym (map-range_with_len_more f 0 i i (omega arith)))

  pub links_more : (neighbour : Neighbour) (arcs : List (List Point)) (arc : List Point) (i : ℕ) (all new : List Neighbours) (n : ℕ) → i < length arcs → arc ≡ get_or arcs i arc →
      map field all ++ links_of neighbour (length all) (drop i arcs) ≡ links_of neighbour 0 arcs → map field new ≡ map field all ++ arc_links neighbour (length all) n → n ≡ length arc →
      map field new ++ links_of neighbour (length new) (drop (i + 1) arcs) ≡ links_of neighbour 0 arcs
  links_more neighbour arcs arc i all new n h q e f z =
      let g : map field new ≡ map field all ++ arc_links neighbour (length all) (length arc) = f ∙ ap (λ m. map field all ++ arc_links neighbour (length all) m) z in
      let many : length new ≡ length all + length arc = so_many (λ j. length all + neighbour (length arc) j) all new (length arc) g in
      ap (λ m. map field new ++ links_of neighbour m (drop (i + 1) arcs)) many ∙ ap (λ l. l ++ links_of neighbour (length all + length arc) (drop (i + 1) arcs)) g
      ∙ append_assoc (map field all) (arc_links neighbour (length all) (length arc)) (links_of neighbour (length all + length arc) (drop (i + 1) arcs))
      ∙ ap (λ l. map field all ++ links_of neighbour (length all) l) (sym (drop_here arcs i arc h q)) ∙ e

  pub all_linked : (neighbour : Neighbour) (arcs : List (List Point)) (i : ℕ) (all : List Neighbours) → length arcs ≤ i → map field all ++ links_of neighbour (length all) (drop i arcs) ≡ links_of neighbour 0 arcs →
      map field all ≡ links_of neighbour 0 arcs
  all_linked neighbour arcs i all h e = sym (append-nil (map field all)) ∙ ap (λ l. map field all ++ links_of neighbour (length all) l) (sym (drop_all i arcs h)) ∙ e

-- ---- what is left

range_next : (i : ℕ) → range_with_len 0 (i + 1) ≡ range_with_len 0 i ++ (i ∷ [])
range_next i = sym (map_same (range_with_len 0 (i + 1))) ∙ map-range_with_len_more (λ j. j) 0 i i (omega arith) ∙ ap (λ l. l ++ (i ∷ [])) (map_same (range_with_len 0 i))
  where
    map_same : (xs : List ℕ) → map (λ j. j) xs ≡ xs
    map_same [] = refl
    map_same (x ∷ xs) = ap (λ l. x ∷ l) (map_same xs)

pub kept_more : (p : ℕ → Bool) (i : ℕ) (b : Bool) (now new : List ℕ) → b ≡ p i → now ≡ filter p (range_with_len 0 i) → new ≡ now ++ cond b (i ∷ []) [] → new ≡ filter p (range_with_len 0 (i + 1))
kept_more p i b now new q e f =
    f ∙ ap (λ l. l ++ cond b (i ∷ []) []) e ∙ ap (λ c. filter p (range_with_len 0 i) ++ cond c (i ∷ []) []) q ∙ sym (filter-append p (range_with_len 0 i) (i ∷ [])) ∙ ap (filter p) (sym (range_next i))

pub all_kept_more : {X : Type 0} (f : X → List ℕ) (bs : List Bool) (arcs : List (List Point)) (arc : List Point) (i first n : ℕ) (all new : List X) (kept : X) → i < length arcs → arc ≡ get_or arcs i arc →
    map f all ++ all_kept_indexes bs first (drop i arcs) ≡ all_kept_indexes bs 0 arcs → new ≡ all ++ (kept ∷ []) → f kept ≡ kept_indexes bs first n → n ≡ length arc →
    map f new ++ all_kept_indexes bs (first + n) (drop (i + 1) arcs) ≡ all_kept_indexes bs 0 arcs
all_kept_more {X = X} f bs arcs arc i first n all new kept h q e g k z =
    ap (λ l. map f l ++ all_kept_indexes bs (first + n) (drop (i + 1) arcs)) g ∙ ap (λ l. l ++ all_kept_indexes bs (first + n) (drop (i + 1) arcs)) (map_end all)
    ∙ append_assoc (map f all) (f kept ∷ []) (all_kept_indexes bs (first + n) (drop (i + 1) arcs))
    ∙ ap (λ l. map f all ++ (l ∷ all_kept_indexes bs (first + n) (drop (i + 1) arcs))) k
    ∙ ap (λ m. map f all ++ (kept_indexes bs first m ∷ all_kept_indexes bs (first + m) (drop (i + 1) arcs))) z
    ∙ ap (λ l. map f all ++ all_kept_indexes bs first l) (sym (drop_here arcs i arc h q)) ∙ e
  where
    map_end : (xs : List X) → map f (xs ++ (kept ∷ [])) ≡ map f xs ++ (f kept ∷ [])
    map_end [] = refl
    map_end (x ∷ xs) = ap (λ l. f x ∷ l) (map_end xs)

pub all_kept_all : {X : Type 0} (f : X → List ℕ) (bs : List Bool) (arcs : List (List Point)) (i first : ℕ) (all : List X) → length arcs ≤ i →
    map f all ++ all_kept_indexes bs first (drop i arcs) ≡ all_kept_indexes bs 0 arcs → map f all ≡ all_kept_indexes bs 0 arcs
all_kept_all f bs arcs i first all h e = sym (append-nil (map f all)) ∙ ap (λ l. map f all ++ all_kept_indexes bs first l) (sym (drop_all i arcs h)) ∙ e

-- how many places are ahead
pub ahead : (arcs : List (List Point)) (arc : List Point) (i first : ℕ) → i < length arcs → arc ≡ get_or arcs i arc → first + length (joined (drop i arcs)) ≡ length (joined arcs) →
    (first + length arc) + length (joined (drop (i + 1) arcs)) ≡ length (joined arcs)
ahead arcs arc i first h q e =
    let d : length (joined (drop i arcs)) ≡ length arc + length (joined (drop (i + 1) arcs)) = ap (λ l. length (joined l)) (drop_here arcs i arc h q) ∙ length-append arc (joined (drop (i + 1) arcs)) in
    omega (arith, d, e)
