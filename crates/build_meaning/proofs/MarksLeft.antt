-- What is left of a marked shape is what is left of the shape, marked: its outer rings are those that are kept, in the same order, and each
-- has a way of its own.
use Rattle.std.proofs.Common.{arith, ◌≡◌, ◌==◌, ◌≤◌, ℕ, suc, List, [], ◌∷◌, ◌++◌, map, Option, None, Some, cond, refl, sym, ap, ◌∙◌, true}
use Rattle.std.proofs.lemmas.Bool.{ne_eqb}
use Rattle.build_meaning.proofs.Names.{nat_tests, AllByRecursion, map_some, with_some, some_of, Placed, inside_part, of_parts, into_part, along}

-- ---- which rings are kept

-- The second list's rings are what is made of those of the first that are kept, in the same order; and to the way of each the way of what
-- is made of it stands so.
pub data Follows {L M : Type 0} (kept : L → Option M) (T : List ℕ → List ℕ → Type 0) : List (Placed L) → List (Placed M) → Type 0 where
  nothing : Follows kept T [] []
  made : {x : Placed L} {y : Placed M} {xs : List (Placed L)} {ys : List (Placed M)} → kept x.part ≡ Some y.part → T x.path y.path → Follows kept T xs ys → Follows kept T (x ∷ xs) (y ∷ ys)
  left_out : {x : Placed L} {xs : List (Placed L)} {ys : List (Placed M)} → kept x.part ≡ None → Follows kept T xs ys → Follows kept T (x ∷ xs) ys

module _ {L M : Type 0} (kept : L → Option M) where
  pub weaker : (T U : List ℕ → List ℕ → Type 0) → ((p q : List ℕ) → T p q → U p q) → {xs : List (Placed L)} {ys : List (Placed M)} → Follows kept T xs ys → Follows kept U xs ys
  weaker T U f nothing = nothing
  weaker T U f (made {x} {y} {xs} {ys} e t h) = made e (f x.path y.path t) (weaker T U f h)
  weaker T U f (left_out e h) = left_out e (weaker T U f h)

  appended : (T : List ℕ → List ℕ → Type 0) {xs us : List (Placed L)} {ys vs : List (Placed M)} → Follows kept T xs ys → Follows kept T us vs → Follows kept T (xs ++ us) (ys ++ vs)
  appended T nothing k = k
  appended T (made e t h) k = made e t (appended T h k)
  appended T (left_out e h) k = left_out e (appended T h k)

  inside : (T U : List ℕ → List ℕ → Type 0) (i j : ℕ) → ((p q : List ℕ) → T p q → U (i ∷ p) (j ∷ q)) → {xs : List (Placed L)} {ys : List (Placed M)} → Follows kept T xs ys
      → Follows kept U (inside_part i xs) (inside_part j ys)
  inside T U i j f nothing = nothing
  inside T U i j f (made {x} {y} {xs} {ys} e t h) = made e (f x.path y.path t) (inside T U i j f h)
  inside T U i j f (left_out e h) = left_out e (inside T U i j f h)

  none_inside : (T U : List ℕ → List ℕ → Type 0) (i : ℕ) {xs : List (Placed L)} → Follows kept T xs [] → Follows kept U (inside_part i xs) []
  none_inside T U i nothing = nothing
  none_inside T U i (left_out e h) = left_out e (none_inside T U i h)

-- ---- ways

-- it begins with this number or a later one
abbrev pub From : ℕ → List ℕ → Type 0
From i [] = ⊥
From i (k ∷ way) = i ≤ k

-- the way leads into the part of this number
pub into_here : (i : ℕ) (way : List ℕ) → into_part i (Some (i ∷ way)) ≡ Some way
into_here i way = ap (λ b. cond b (Some way) None) (let e : (i == i) ≡ true = grind (arith, nat_tests) in e)

pub past : (i : ℕ) (way : List ℕ) → From (suc i) way → into_part i (Some way) ≡ None
past i [] h = absurd h
past i (k ∷ way) h = ap (λ b. cond b (Some way) None) (ne_eqb i k (λ e. omega (arith, h, e)))

from_before : (i : ℕ) (way : List ℕ) → From (suc i) way → From i way
from_before i [] h = h
from_before i (k ∷ way) h = omega (arith, h)

-- a way that leads into an earlier part leads into none of these
pub behind : {A B : Type 0} (f : A → Option (List ℕ) → B) (i k : ℕ) (way : List ℕ) (xs : List A) → suc k ≤ i → along f i xs (Some (k ∷ way)) ≡ along f i xs None
behind f i k way [] h = refl
behind f i k way (x ∷ xs) h =
    ap (λ b. f x (cond b (Some way) None) ∷ along f (suc i) xs (Some (k ∷ way))) (ne_eqb i k (λ e. omega (arith, h, e)))
    ∙ ap (λ bs. f x None ∷ bs) (behind f (suc i) k way xs (omega (arith, h)))

-- ---- parts of a shape

module _ {A B C D L M : Type 0} (left : A → Option B) (rings : A → List (Placed L)) (rings_after : B → List (Placed M))
    (mark : A → Option (List ℕ) → C) (mark_after : B → Option (List ℕ) → D) (left_marked : C → Option D) (kept : L → Option M) where
  -- what is left of it with a mark by the one way is what is left of it, with a mark by the other
  abbrev pub Turns : A → Option (List ℕ) → Option (List ℕ) → Type 0
  Turns a way after = left_marked (mark a way) ≡ map_some (λ b. mark_after b after) (left a)

  abbrev pub rings_left : Option B → List (Placed M)
  rings_left None = []
  rings_left (Some b) = rings_after b

  pub record Stays (a : A) : Type 0 where
    pub plainly : Turns a None None
    pub follow : Follows kept (λ p q. Turns a (Some p) (Some q)) (rings a) (rings_left (left a))

  abbrev all_left : ℕ → List A → Option (List ℕ) → List D
  all_left i xs way = some_of left_marked (along mark i xs way)

  abbrev all_after : ℕ → List A → Option (List ℕ) → List D
  all_after j xs way = along mark_after j (some_of left xs) way

  pub all_plainly : (i j : ℕ) (xs : List A) → AllByRecursion Stays xs → all_left i xs None ≡ all_after j xs None
  all_plainly i j [] all = refl
  all_plainly i j (a ∷ xs) all =
      ap (λ o. with_some o (all_left (suc i) xs None)) all.0.plainly ∙ on (left a) (all_plainly (suc i) j xs all.1) (all_plainly (suc i) (suc j) xs all.1)
    where
      on : (o : Option B) → all_left (suc i) xs None ≡ all_after j xs None → all_left (suc i) xs None ≡ all_after (suc j) xs None
          → with_some (map_some (λ b. mark_after b None) o) (all_left (suc i) xs None) ≡ along mark_after j (with_some o (some_of left xs)) None
      on None e f = e
      on (Some b) e f = ap (λ ds. mark_after b None ∷ ds) f

  abbrev pub AllTurn : ℕ → ℕ → List A → List ℕ → List ℕ → Type 0
  AllTurn i j xs p q = From i p × From j q × (all_left i xs (Some p) ≡ all_after j xs (Some q))

  abbrev TurnsBy : ℕ → ℕ → A → List A → Option B → List ℕ → List ℕ → Type 0
  TurnsBy i j a xs o p q = From i p × From j q × (all_left i (a ∷ xs) (Some p) ≡ along mark_after j (with_some o (some_of left xs)) (Some q))

  module _ (i j : ℕ) (a : A) (xs : List A) where
    abbrev AtOnce : Option B → Type 0
    AtOnce o = left_marked (mark a None) ≡ map_some (λ b. mark_after b None) o

    -- those of the parts after it, where nothing is left of it
    after_none : AtOnce None → (p q : List ℕ) → AllTurn (suc i) j xs p q → TurnsBy i j a xs None p q
    after_none plain p q t = (
      from_before i p t.0,
      t.1,
      ap (λ way. with_some (left_marked (mark a way)) (all_left (suc i) xs (Some p))) (past i p t.0)
          ∙ ap (λ o. with_some o (all_left (suc i) xs (Some p))) plain ∙ t.2,
    )

    -- and where something is left of it
    after_some : (b : B) → AtOnce (Some b) → (p q : List ℕ) → AllTurn (suc i) (suc j) xs p q → TurnsBy i j a xs (Some b) p q
    after_some b plain p q t = (
      from_before i p t.0,
      from_before j q t.1,
      ap (λ way. with_some (left_marked (mark a way)) (all_left (suc i) xs (Some p))) (past i p t.0)
          ∙ ap (λ o. with_some o (all_left (suc i) xs (Some p))) plain
          ∙ ap (λ ds. mark_after b None ∷ ds) t.2
          ∙ ap (λ way. mark_after b way ∷ along mark_after (suc j) (some_of left xs) (Some q)) (sym (past j q t.1)),
    )

    -- its own
    own : (b : B) → all_left (suc i) xs None ≡ all_after (suc j) xs None → (p q : List ℕ) → left_marked (mark a (Some p)) ≡ Some (mark_after b (Some q))
        → TurnsBy i j a xs (Some b) (i ∷ p) (j ∷ q)
    own b others p q t = (
      omega arith,
      omega arith,
      ap (λ way. with_some (left_marked (mark a way)) (all_left (suc i) xs (Some (i ∷ p)))) (into_here i p)
          ∙ ap (λ o. with_some o (all_left (suc i) xs (Some (i ∷ p)))) t
          ∙ ap (λ cs. mark_after b (Some q) ∷ some_of left_marked cs) (behind mark (suc i) i p xs (omega arith))
          ∙ ap (λ ds. mark_after b (Some q) ∷ ds) (others ∙ sym (behind mark_after (suc j) j q (some_of left xs) (omega arith)))
          ∙ ap (λ way. mark_after b way ∷ along mark_after (suc j) (some_of left xs) (Some (j ∷ q))) (sym (into_here j q)),
    )

    abbrev Later : ℕ → Type 0
    Later k = Follows kept (AllTurn (suc i) k xs) (of_parts (suc i) (map rings xs)) (of_parts k (map rings_after (some_of left xs)))

    with_later : (o : Option B) → AtOnce o → Follows kept (λ p q. left_marked (mark a (Some p)) ≡ map_some (λ b. mark_after b (Some q)) o) (rings a) (rings_left o)
        → all_left (suc i) xs None ≡ all_after (suc j) xs None → Later j → Later (suc j)
        → Follows kept (TurnsBy i j a xs o) (inside_part i (rings a) ++ of_parts (suc i) (map rings xs)) (of_parts j (map rings_after (with_some o (some_of left xs))))
    with_later None plain own_ones others k m =
        appended kept (TurnsBy i j a xs None) (none_inside kept (λ p q. left_marked (mark a (Some p)) ≡ None) (TurnsBy i j a xs None) i own_ones)
        (weaker kept (AllTurn (suc i) j xs) (TurnsBy i j a xs None) (after_none plain) k)
    with_later (Some b) plain own_ones others k m =
        appended kept (TurnsBy i j a xs (Some b))
        (inside kept (λ p q. left_marked (mark a (Some p)) ≡ Some (mark_after b (Some q))) (TurnsBy i j a xs (Some b)) i j (own b others) own_ones)
        (weaker kept (AllTurn (suc i) (suc j) xs) (TurnsBy i j a xs (Some b)) (after_some b plain) m)

  pub all_follow : (i j : ℕ) (xs : List A) → AllByRecursion Stays xs → Follows kept (AllTurn i j xs) (of_parts i (map rings xs)) (of_parts j (map rings_after (some_of left xs)))
  all_follow i j [] all = nothing
  all_follow i j (a ∷ xs) all =
      with_later i j a xs (left a) all.0.plainly all.0.follow (all_plainly (suc i) (suc j) xs all.1) (all_follow (suc i) j xs all.1) (all_follow (suc i) (suc j) xs all.1)
