-- What is left of the rings of a polygon, and of lists that may be empty.
use Rattle.std.proofs.Common.{arith, ◌≡◌, ℕ, ◌==◌, ◌<◌, ℤ, Bool, true, false, List, [], ◌∷◌, ◌++◌, take, drop, length, get_or, set, Option, None, Some, refl, sym, ap, ◌∙◌}
use Rattle.std.specs.Option.{is_some}
use Rattle.std.specs.Prelude.{IfSome, if◌then◌else◌, not}
use Rattle.std.proofs.Math.Seq.{take-append_seam}
use Rattle.geometry.specs.declared.address.Cause.{Cause}
use Rattle.geometry.specs.Lists.{map_some, some_of, unless_empty}
use Rattle.geometry.specs.Pruning.{area_by}
use Rattle.build_meaning.specs.Expected.{unless}
use Rattle.build_meaning.specs.OuterRings.{ends_here, unmarked, rings_marked}
use Rattle.build_meaning.specs.Protected.{sparing}
use Rattle.build_meaning.specs.Simplified.{Refs}
use Rattle.build_meaning.proofs.Marks.{some_made}
use Rattle.topo_model.proofs.Prefix.{if_none}

pub if_made : {A B : Type 0} (f : A → B) (b : Bool) (x : A) → map_some f (if b then Some x else None) ≡ (if b then Some (f x) else None)
if_made f true x = refl
if_made f false x = refl

-- a polygon is left with its outer ring; its holes have no mark
pub rings_left : (k : Refs) (way : Option (List ℕ)) (o p : List ℤ) (holes rs left : List (List ℤ)) (cause : Option Cause) (stays : Bool) → rs ≡ o ∷ holes → sparing k true (ends_here way, o) ≡ unless cause p → is_some cause ≡ not stays
    → left ≡ p ∷ some_of (k true) holes → area_by (sparing k true) (rings_marked rs way) ≡ (if stays then Some left else None)
rings_left k way o p holes rs left cause stays are outer none is =
    ap (λ rs. area_by (sparing k true) (rings_marked rs way)) are ∙ ap (λ hs. map_some (λ m. m ∷ hs) (sparing k true (ends_here way, o))) (some_made unmarked (sparing k true) holes)
    ∙ ap (map_some (λ m. m ∷ some_of (k true) holes)) (outer ∙ if_none cause p stays none) ∙ if_made (λ m. m ∷ some_of (k true) holes) stays p ∙ ap (λ l. if stays then Some l else None) (sym is)

-- a polygon after its outer ring was replaced in place
pub outer_replaced : {A : Type 0} (lent whole : List A) (d p : A) → lent ≡ whole → 0 < length whole
    → (whole ≡ get_or lent 0 d ∷ drop 1 lent) × (take (length whole) (set lent 0 p ++ drop (length (set lent 0 p)) whole) ≡ p ∷ drop 1 lent)
outer_replaced [] whole d p same h = absurd (omega (arith, ap length same))
outer_replaced (o ∷ holes) whole d p same h =
    (sym same, ap (λ zs. take (length zs) ((p ∷ holes) ++ drop (length (p ∷ holes)) zs)) (sym same) ∙ take-append_seam (p ∷ holes) (drop (length (p ∷ holes)) (o ∷ holes)))

-- ---- lists that may be empty

empty_left : {A B : Type 0} (make : List A → B) (got : List A) (n : ℕ) (empty : Bool) → empty ≡ (n == 0) → n ≡ length got → empty ≡ true → None ≡ unless_empty make got
empty_left make got n empty e k t = grind arith

some_left : {A B : Type 0} (make : List A → B) (got : List A) (n : ℕ) (empty : Bool) → empty ≡ (n == 0) → n ≡ length got → empty ≡ false → Some (make got) ≡ unless_empty make got
some_left make got n empty e k f = grind arith

pub left_if_some : {A B : Type 0} (make : List A → B) (xs : List A) (empty : Bool) → empty ≡ (length xs == 0) → unless_empty make xs ≡ (if not empty then Some (make xs) else None)
left_if_some make xs true e = sym (empty_left make xs (length xs) true e refl refl)
left_if_some make xs false e = sym (some_left make xs (length xs) false e refl refl)

pub none_is : {A : Type 0} (o : Option A) (none : Bool) → is_some o ≡ not none → none ≡ true → o ≡ None
none_is None none e t = refl
none_is (Some x) none e t = absurd cc

pub where_some : {A P : Type 0} (o : Option A) → IfSome o (λ x. P) → is_some o ≡ true → P
where_some None h e = absurd cc
where_some (Some x) h e = h

pub some_there : (n : ℕ) (empty : Bool) → empty ≡ (n == 0) → empty ≡ false → 0 < n
some_there n empty e f = grind arith
