-- The protected ring of a shape is the greatest.
use Rattle.std.proofs.Common.{arith, rules, ◌≡◌, ℕ, ◌<◌, ◌≤◌, nat_lt, Bool, true, false, cond, List, [], ◌∷◌, ◌++◌, Option, None, Some, refl, sym, ap, ◌∙◌, subst}
use Rattle.std.proofs.lemmas.Bool.{false_from_ne_true}
use Rattle.build_meaning.proofs.Names.{nat_tests, AllByRecursion, filter, all_append, all_right, all_weaker, is_long, outer_rings, greater, greatest, enclosed, greatest_ring, GreatestRingIsGreatest, NoneIsGreatest}

pub same_some : {X : Type 0} (a b : X) → Some a ≡ Some b → a ≡ b
same_some a b e = cc

module _ {X : Type 0} (size : X → ℕ) (p : X → Bool) where
  abbrev Less : ℕ → X → Type 0
  Less n z = p z ≡ true → size z < n

  abbrev NoMore : ℕ → X → Type 0
  NoMore n z = p z ≡ true → size z ≤ n

  pub record Split (xs : List X) (x : X) : Type 0 where
    pub before : List X
    pub after : List X
    pub is : xs ≡ before ++ (x ∷ after)
    pub passes : p x ≡ true
    pub less : AllByRecursion (Less (size x)) before
    pub no_more : AllByRecursion (NoMore (size x)) after

  abbrev best : List X → Option X
  best xs = greatest size (filter p xs)

  pub none_passes : (xs : List X) → best xs ≡ None → AllByRecursion (λ z. p z ≡ false) xs
  none_passes [] h = tt
  none_passes (y ∷ ys) h = on (p y) refl h (none_passes ys)
    where
      on : (b : Bool) → p y ≡ b → greatest size (cond b (y ∷ filter p ys) (filter p ys)) ≡ None → (best ys ≡ None → AllByRecursion (λ z. p z ≡ false) ys) → AllByRecursion (λ z. p z ≡ false) (y ∷ ys)
      on true e k f = cc
      on false e k f = (e, f k)

  not_passing : {Y : Type 0} (y : X) → p y ≡ false → p y ≡ true → Y
  not_passing y e k = let z : false ≡ true = sym e ∙ k in cc

  -- those of a list of which one is the greatest are no more
  all_no_more : (ys : List X) (w : X) → Split ys w → (n : ℕ) → size w ≤ n → AllByRecursion (NoMore n) ys
  all_no_more ys w s n h =
      subst (AllByRecursion (NoMore n)) (sym s.is)
      (all_append (NoMore n) s.before (w ∷ s.after) (all_weaker (Less (size w)) (NoMore n) (λ z f k. omega (arith, f k, h)) s.before s.less)
      ((λ k. h), all_weaker (NoMore (size w)) (NoMore n) (λ z f k. omega (arith, f k, h)) s.after s.no_more))

  first_is : (y : X) (ys : List X) → p y ≡ true → AllByRecursion (NoMore (size y)) ys → Split (y ∷ ys) y
  first_is y ys e h = record { before = []; after = ys; is = refl; passes = e; less = tt; no_more = h }

  later_is : (y : X) (ys : List X) (x : X) → Less (size x) y → Split ys x → Split (y ∷ ys) x
  later_is y ys x h s = record { before = y ∷ s.before; after = s.after; is = ap (λ zs. y ∷ zs) s.is; passes = s.passes; less = (h, s.less); no_more = s.no_more }

  pub split : (xs : List X) (x : X) → best xs ≡ Some x → Split xs x
  split [] x h = cc
  split (y ∷ ys) x h = on (p y) refl h (split ys)
    where
      against : (w : X) → p y ≡ true → Split ys w → (b : Bool) → nat_lt (size y) (size w) ≡ b → Split (y ∷ ys) (cond b w y)
      against w e s true lt = later_is y ys w (λ k. search (rules, arith, nat_tests, lt)) s
      against w e s false lt = first_is y ys e (all_no_more ys w s (size y) (search (rules, arith, nat_tests, lt)))

      of_rest : p y ≡ true → (o : Option X) → best ys ≡ o → ((w : X) → best ys ≡ Some w → Split ys w) → Split (y ∷ ys) (greater size y o)
      of_rest e None k f = first_is y ys e (all_weaker (λ z. p z ≡ false) (NoMore (size y)) (λ z no g. not_passing z no g) ys (none_passes ys k))
      of_rest e (Some w) k f = against w e (f w k) (nat_lt (size y) (size w)) refl

      on : (b : Bool) → p y ≡ b → greatest size (cond b (y ∷ filter p ys) (filter p ys)) ≡ Some x → ((w : X) → best ys ≡ Some w → Split ys w) → Split (y ∷ ys) x
      on true e k f = subst (Split (y ∷ ys)) (same_some (greater size y (best ys)) x k) (of_rest e (best ys) refl f)
      on false e k f = later_is y ys x (λ g. not_passing y e g) (f x k)

  -- ---- the other way round

  none_best : (xs : List X) → AllByRecursion (λ z. p z ≡ false) xs → best xs ≡ None
  none_best [] h = refl
  none_best (x ∷ xs) h = ap (λ b. greatest size (cond b (x ∷ filter p xs) (filter p xs))) h.0 ∙ none_best xs h.1

  not_less : (x w : X) → size w ≤ size x → cond (nat_lt (size x) (size w)) w x ≡ x
  not_less x w h = grind (arith, nat_tests)

  before_no_more : (x : X) (xs : List X) → AllByRecursion (NoMore (size x)) xs → greater size x (best xs) ≡ x
  before_no_more x xs h = on (best xs) refl
    where
      on : (o : Option X) → best xs ≡ o → greater size x o ≡ x
      on None e = refl
      on (Some w) e =
          let s = split xs w e in
          not_less x w ((all_right (NoMore (size x)) s.before (w ∷ s.after) (subst (AllByRecursion (NoMore (size x))) s.is h)).0 s.passes)

  -- the one at which a list is split so is the greatest
  split_best : (before after : List X) (x : X) → p x ≡ true → AllByRecursion (Less (size x)) before → AllByRecursion (NoMore (size x)) after → best (before ++ (x ∷ after)) ≡ Some x
  split_best [] after x e less no_more = ap (λ b. greatest size (cond b (x ∷ filter p after) (filter p after))) e ∙ ap Some (before_no_more x after no_more)
  split_best (y ∷ before) after x e less no_more = on (p y) refl (split_best before after x e less.1 no_more)
    where
      greater_later : size y < size x → cond (nat_lt (size y) (size x)) x y ≡ x
      greater_later h = grind (arith, nat_tests)

      on : (b : Bool) → p y ≡ b → best (before ++ (x ∷ after)) ≡ Some x → best (y ∷ (before ++ (x ∷ after))) ≡ Some x
      on true k f = ap (λ b. greatest size (cond b (y ∷ filter p (before ++ (x ∷ after))) (filter p (before ++ (x ∷ after))))) k ∙ ap (λ o. Some (greater size y o)) f ∙ ap Some (greater_later (less.0 k))
      on false k f = ap (λ b. greatest size (cond b (y ∷ filter p (before ++ (x ∷ after))) (filter p (before ++ (x ∷ after))))) k ∙ f

-- where fewer pass, but the greatest does, it is the greatest
pub same_greatest : {X : Type 0} (size : X → ℕ) (p q : X → Bool) → ((z : X) → q z ≡ true → p z ≡ true) → (xs : List X) → ((x : X) → greatest size (filter p xs) ≡ Some x → q x ≡ true)
    → greatest size (filter q xs) ≡ greatest size (filter p xs)
same_greatest {X} size p q fewer xs h = on (greatest size (filter p xs)) refl
  where
    none_more : (z : X) → p z ≡ false → q z ≡ false
    none_more z e = false_from_ne_true (q z) (λ k. let c : false ≡ true = sym e ∙ fewer z k in cc)

    on : (o : Option X) → greatest size (filter p xs) ≡ o → greatest size (filter q xs) ≡ o
    on None e = none_best size q xs (all_weaker (λ z. p z ≡ false) (λ z. q z ≡ false) none_more xs (none_passes size p xs e))
    on (Some x) e =
        let s = split size p xs x e in
        ap (λ zs. greatest size (filter q zs)) s.is
        ∙ split_best size q s.before s.after x (h x e) (all_weaker (Less size p (size x)) (Less size q (size x)) (λ z f k. f (fewer z k)) s.before s.less)
        (all_weaker (NoMore size p (size x)) (NoMore size q (size x)) (λ z f k. f (fewer z k)) s.after s.no_more)

pub greatest_is : GreatestRingIsGreatest
unfolding greatest_ring
greatest_is arcs s x h =
    let k : Split (λ z. enclosed arcs z.part) (λ z. is_long arcs z.part) (outer_rings s) x = split (λ z. enclosed arcs z.part) (λ z. is_long arcs z.part) (outer_rings s) x h in
    record { before = k.before; after = k.after; outer = k.is; long = k.passes; less = k.less; no_more = k.no_more }

pub none_is : NoneIsGreatest
unfolding greatest_ring
none_is arcs s h = none_passes (λ z. enclosed arcs z.part) (λ z. is_long arcs z.part) (outer_rings s) h
