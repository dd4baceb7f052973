-- Arcs that a walk opens.
use Rattle.std.proofs.Common.{◌≡◌, ℕ, zero, suc, ◌<◌, ◌≤◌, ℤ, pos, negsuc, Bool, List, [], ◌∷◌, ◌++◌, map, length, get_or, reverse, Option, refl, ap, sym, ◌∙◌, arith, append_assoc, append-nil, if◌then◌else◌}
use Rattle.std.proofs.lemmas.List.{length-reverse, map-append}
use Rattle.std.specs.Iterator.{YieldsFirst, YieldsLast}
use Rattle.std.specs.List.{AllByRecursion}
use Rattle.owned_values.proofs.Elements.{all_at}
use Rattle.geometry.specs.Lists.{tail}
use Rattle.geometry.specs.Points.{Point}
use Rattle.geometry.proofs.Agreement.{all_right}
use Rattle.geometry.specs.Joins.{number_of, is_reversed, at, or_empty, arc_at, joined_after_first}
use Rattle.topojson_types.specs.Validity.{AreInRange}

-- ---- the arc of an index

at_there : (arcs : List (List Point)) (i : ℕ) (d : List Point) → i < length arcs → or_empty (at arcs i) ≡ get_or arcs i d
at_there [] i d h = absurd (omega (arith, h))
at_there (a ∷ arcs) zero d h = refl
at_there (a ∷ arcs) (suc i) d h = at_there arcs i d (omega (arith, h))

arc_of_number : (arcs : List (List Point)) (r : ℤ) (d : List Point) → number_of r < length arcs
    → (if is_reversed r then reverse (get_or arcs (number_of r) d) else get_or arcs (number_of r) d) ≡ arc_at arcs r
unfolding number_of is_reversed
arc_of_number arcs r d h = grind (arith, at_there)

pub arc_is : (arcs : List (List Point)) (r : ℤ) (i : ℕ) (backwards : Bool) (cells : List Point) → number_of r < length arcs
    → i ≡ number_of r → backwards ≡ is_reversed r → cells ≡ get_or arcs i cells → (if backwards then reverse cells else cells) ≡ arc_at arcs r
arc_is arcs r i backwards cells h e b is = grind (arith, arc_of_number)

pub arc_lasts : (X : List Point → Type 0) → ((cs : List Point) → X cs → X (reverse cs)) → (arcs : List (List Point)) (r : ℤ) → AllByRecursion X arcs → number_of r < length arcs → X (arc_at arcs r)
unfolding number_of
arc_lasts X turned arcs (pos i) all h = all_at X arcs i (or_empty (at arcs i)) h (at_there arcs i (or_empty (at arcs i)) h) all
arc_lasts X turned arcs (negsuc i) all h = turned (or_empty (at arcs i)) (all_at X arcs i (or_empty (at arcs i)) h (at_there arcs i (or_empty (at arcs i)) h) all)

abbrev pub AreLong : List (List Point) → Type 0
AreLong arcs = AllByRecursion (λ cs. 2 ≤ length cs) arcs

pub arc_long : (arcs : List (List Point)) (r : ℤ) → AreLong arcs → number_of r < length arcs → 2 ≤ length (arc_at arcs r)
arc_long = arc_lasts (λ cs. 2 ≤ length cs) (λ cs h. omega (arith, h, length-reverse cs))

-- ---- the arcs between the ends of a walk

-- what is left of a walk
abbrev pub left : List (List Point) → List Point → List ℤ → List Point → List Point
left arcs prefix refs back = prefix ++ (joined_after_first (map (arc_at arcs) refs) ++ back)

abbrev pub First : List Point → Option Point → List Point → Type 0
First = YieldsFirst {S = List Point} {A = Point} (λ w. w)

abbrev Last : List Point → Option Point → List Point → Type 0
Last = YieldsLast {S = List Point} {A = Point} (λ w. w)

-- the first of an arc is left out
opened : (run more : List Point) (joint : Option Point) → 2 ≤ length run → First run joint more → (tail run ≡ more) × (1 ≤ length more)
opened run more joint h k = grind arith

pub first_of_opened : (arcs : List (List Point)) (prefix back now : List Point) (refs rest : List ℤ) (r : ℤ) (run one two : List Point) (joint cell : Option Point)
    → AreLong arcs → AreInRange (length arcs) refs → left arcs prefix refs back ≡ now → prefix ≡ [] → refs ≡ r ∷ rest → run ≡ arc_at arcs r
    → First run joint one → First one cell two → First now cell (left arcs two rest back)
first_of_opened arcs prefix back now refs rest r run one two joint cell long ranged is none split arc before after =
    grind (arith, opened, arc_long, append_assoc)

joined_append : (ps qs : List (List Point)) → joined_after_first (ps ++ qs) ≡ joined_after_first ps ++ joined_after_first qs
joined_append [] qs = refl
joined_append (p ∷ ps) qs = ap (λ zs. tail p ++ zs) (joined_append ps qs) ∙ sym (append_assoc (tail p) (joined_after_first ps) (joined_after_first qs))

pub last_of_opened : (arcs : List (List Point)) (prefix back now : List Point) (refs rest : List ℤ) (r : ℤ) (run one two : List Point) (joint cell : Option Point)
    → AreLong arcs → AreInRange (length arcs) refs → left arcs prefix refs back ≡ now → back ≡ [] → refs ≡ rest ++ (r ∷ []) → run ≡ arc_at arcs r
    → First run joint one → Last one cell two → Last now cell (left arcs prefix rest two)
last_of_opened arcs prefix back now refs rest r run one two joint cell long ranged is none split arc before after =
    grind (arith, all_right, opened, arc_long, append-nil, map-append, joined_append, append_assoc)
