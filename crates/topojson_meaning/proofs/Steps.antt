-- Readers that read back what was written: what each gives, and counts nothing.
use Rattle.std.proofs.Common.{◌≡◌, List, [], ◌∷◌, map, Option, Some, Result, Ok, refl}
use Rattle.topojson_meaning.proofs.Names.{AllByRecursion, Counts, Reader, ◌>>=◌, pure, gather, each, kept, TopoFault}

-- it gives this and counts nothing
abbrev pub Gives : {A : Type 0} → Reader A → A → Type 0
Gives read x = (c : Counts) → read c ≡ Ok (x, c)

-- one reader after another
pub then_gives : {A B : Type 0} (m : Reader A) (f : A → Reader B) (x : A) (y : B) → Gives m x → Gives (f x) y → Gives (m >>= f) y
then_gives m f x y p q c = rw (p c) (q c)

-- after what counts nothing
pub pure_gives : {A B : Type 0} (m : Result A TopoFault) (f : A → Reader B) (x : A) (y : B) → m ≡ Ok x → Gives (f x) y → Gives (pure m >>= f) y
pure_gives m f x y p q c = rw p (q c)

module _ {A B : Type 0} (X : A → Type 0) (value : A → B) where
  pub each_gives : (read : B → Reader A) → ((x : A) → X x → Gives (read (value x)) x) → (xs : List A) → AllByRecursion X xs → Gives (each read (map value xs)) xs
  unfolding gather
  each_gives read e [] h c = refl
  each_gives read e (x ∷ xs) h c = rw (e x h.0 c, each_gives read e xs h.1 c) refl

  pub kept_gives : (read : B → Reader (Option A)) → ((x : A) → X x → Gives (read (value x)) (Some x)) → (xs : List A) → AllByRecursion X xs → Gives (kept read (map value xs)) xs
  unfolding gather
  kept_gives read e [] h c = refl
  kept_gives read e (x ∷ xs) h c = rw (e x h.0 c, kept_gives read e xs h.1 c) refl
