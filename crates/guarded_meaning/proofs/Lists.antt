-- Lists of which some elements pass a test, or are left out.
use Rattle.std.proofs.Common.{◌≡◌, Bool, true, false, List, [], ◌∷◌, ◌++◌, length, map, suc, refl, ap, ◌∙◌, if◌then◌else◌, arith}
use Rattle.guarded_meaning.proofs.Names.{EachTo, AllByRecursion, filter, chosen_of, all_of, each_of, In, sub_same, Sublist, none, keep, skip, from_filter}

-- ---- those that pass

pub passed_says : {X : Type 0} (p : X → Bool) (x : X) (xs : List X) → In x (filter p xs) → In x xs × (p x ≡ true)
passed_says p x xs k = from_filter p x xs k

pub none_passes : {X : Type 0} (p : X → Bool) (xs : List X) → AllByRecursion (λ x. p x ≡ false) xs → filter p xs ≡ []
none_passes p [] h = refl
none_passes p (x ∷ xs) h = ap (λ b. if b then x ∷ filter p xs else filter p xs) h.0 ∙ none_passes p xs h.1

-- what holds of those that pass
pub passed_all : {X : Type 0} (P : X → Type 0) (p : X → Bool) (xs : List X) → AllByRecursion (λ x. p x ≡ true → P x) xs → AllByRecursion P (filter p xs)
passed_all P p xs h = all_of P (filter p xs) (λ x m. let w = from_filter p x xs m in each_of (λ y. p y ≡ true → P y) xs x h w.0 w.1)

pub filter_map : {X Y : Type 0} (p : Y → Bool) (f : X → Y) (xs : List X) → filter p (map f xs) ≡ map f (filter (λ x. p (f x)) xs)
filter_map p f [] = refl
filter_map p f (x ∷ xs) = ap (λ ys. if p (f x) then f x ∷ ys else ys) (filter_map p f xs) ∙ chosen_of (map f) (p (f x)) (x ∷ filter (λ y. p (f y)) xs) (filter (λ y. p (f y)) xs)

-- ---- without some of them

pub sub_right : {X : Type 0} (xs ys : List X) → Sublist ys (xs ++ ys)
sub_right [] ys = sub_same ys
sub_right (x ∷ xs) ys = skip (sub_right xs ys)

pub sub_both : {X : Type 0} {xs ys zs ws : List X} → Sublist xs ys → Sublist zs ws → Sublist (xs ++ zs) (ys ++ ws)
sub_both none r = r
sub_both (keep s) r = keep (sub_both s r)
sub_both (skip s) r = skip (sub_both s r)

pub sub_passed : {X : Type 0} (p : X → Bool) {xs ys : List X} → Sublist xs ys → Sublist (filter p xs) (filter p ys)
sub_passed p none = none
sub_passed p (keep {x} {xs} {ys} s) = grind (arith, sub_passed p s, keep, skip)
sub_passed p (skip {y} {xs} {ys} s) = grind (arith, sub_passed p s, skip)

-- ---- lists of which each element stands so to the one in its place

pub as_many : {X Y : Type 0} (R : X → Y → Type 0) (xs : List X) (ys : List Y) → EachTo R xs ys → length xs ≡ length ys
as_many R [] [] h = refl
as_many R [] (y ∷ ys) h = absurd h
as_many R (x ∷ xs) [] h = absurd h
as_many R (x ∷ xs) (y ∷ ys) h = ap suc (as_many R xs ys h.1)
