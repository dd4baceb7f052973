-- Sublists: of parts of lists, of what is made of their elements, and what they take over.
use Rattle.std.proofs.Common.{◌≢◌, Bool, List, [], ◌∷◌, map, arith}
use Rattle.std.specs.List.{filter, AllByRecursion}
use Rattle.owned_values.proofs.Tests.{holds_of_chosen}
use Rattle.geometry.specs.Lists.{tail, all_but_last, all_but_last_of, interior, AreDistinct}
use Rattle.elimination_meaning.specs.Sublists.{Sublist, none, keep, skip}

sub_nil : {X : Type 0} (ys : List X) → Sublist [] ys
sub_nil [] = none
sub_nil (y ∷ ys) = skip (sub_nil ys)

pub sub_same : {X : Type 0} (ys : List X) → Sublist ys ys
sub_same [] = none
sub_same (y ∷ ys) = keep (sub_same ys)

pub sub_chain : {X : Type 0} {xs ys zs : List X} → Sublist xs ys → Sublist ys zs → Sublist xs zs
sub_chain s none = s
sub_chain (keep s) (keep r) = keep (sub_chain s r)
sub_chain (skip s) (keep r) = skip (sub_chain s r)
sub_chain s (skip r) = skip (sub_chain s r)

-- without ends
sub_less : {X : Type 0} {xs ys : List X} → Sublist xs ys → Sublist (tail xs) ys
sub_less none = none
sub_less (keep s) = skip s
sub_less (skip s) = skip (sub_less s)

pub sub_tail : {X : Type 0} {xs ys : List X} → Sublist xs ys → Sublist (tail xs) (tail ys)
sub_tail h = grind (arith, sub_less)

skip_all_but_last : {X : Type 0} (y : X) (xs ys : List X) → Sublist xs ys → Sublist (all_but_last xs) (all_but_last ys) → Sublist (all_but_last xs) (all_but_last_of y ys)
skip_all_but_last y [] ys s h = sub_nil (all_but_last_of y ys)
skip_all_but_last y (x ∷ xs) [] s h = elim s [ ]
skip_all_but_last y (x ∷ xs) (z ∷ zs) s h = skip h

keep_all_but_last : {X : Type 0} (x : X) (xs ys : List X) → Sublist xs ys → Sublist (all_but_last xs) (all_but_last ys) → Sublist (all_but_last_of x xs) (all_but_last_of x ys)
keep_all_but_last x [] ys s h = sub_nil (all_but_last_of x ys)
keep_all_but_last x (w ∷ ws) [] s h = elim s [ ]
keep_all_but_last x (w ∷ ws) (z ∷ zs) s h = keep h

pub sub_all_but_last : {X : Type 0} {xs ys : List X} → Sublist xs ys → Sublist (all_but_last xs) (all_but_last ys)
sub_all_but_last none = none
sub_all_but_last (keep {x} {xs} {ys} s) = keep_all_but_last x xs ys s (sub_all_but_last s)
sub_all_but_last (skip {y} {xs} {ys} s) = skip_all_but_last y xs ys s (sub_all_but_last s)

sub_all_but_last_of : {X : Type 0} (x : X) (xs : List X) → Sublist (all_but_last_of x xs) (x ∷ xs)
sub_all_but_last_of x [] = skip none
sub_all_but_last_of x (y ∷ ys) = keep (sub_all_but_last_of y ys)

pub sub_interior : {X : Type 0} (xs : List X) → Sublist (interior xs) xs
sub_interior [] = none
sub_interior (x ∷ []) = skip none
sub_interior (x ∷ (y ∷ ys)) = skip (sub_all_but_last_of y ys)

pub sub_map : {X Y : Type 0} (f : X → Y) {xs ys : List X} → Sublist xs ys → Sublist (map f xs) (map f ys)
sub_map f none = none
sub_map f (keep s) = keep (sub_map f s)
sub_map f (skip s) = skip (sub_map f s)

pub sub_filter : {X : Type 0} (p : X → Bool) (xs : List X) → Sublist (filter p xs) xs
sub_filter p [] = none
sub_filter p (x ∷ xs) = holds_of_chosen (λ l. Sublist l (x ∷ xs)) (p x) (x ∷ filter p xs) (filter p xs) (keep (sub_filter p xs)) (skip (sub_filter p xs))

-- what holds of all elements of a list holds of all of a sublist
pub sub_all : {X : Type 0} (P : X → Type 0) {xs ys : List X} → Sublist xs ys → AllByRecursion P ys → AllByRecursion P xs
sub_all P none h = h
sub_all P (keep s) h = (h.0, sub_all P s h.1)
sub_all P (skip s) h = sub_all P s h.1

pub sub_apart : {X : Type 0} {xs ys : List X} → Sublist xs ys → AreDistinct ys → AreDistinct xs
sub_apart none h = h
sub_apart (keep {x} s) h = (sub_all (λ y. x ≢ y) s h.0, sub_apart s h.1)
sub_apart (skip s) h = sub_apart s h.1
