-- Loops that leave out what is small in each element of a list in place, and list what they leave out. Elements have ways, which go on from
-- element to element.
use Rattle.std.proofs.Common.{◌≡◌, ℕ, suc, ◌+◌, ◌<◌, ◌≤◌, List, [], ◌∷◌, ◌++◌, length, get_or, set, append_assoc, append-nil, refl, sym, ap, ◌∙◌, arith}
use Rattle.geometry.specs.declared.address.Dropped.{Dropped}
use Rattle.topo_model.specs.Along.{Ways}
use Rattle.topo_model.proofs.Stepped as stepped

-- the ways that are still to come, what is dropped so far, and the number of the next element
pub record Walk : Type 0 where
  pub ways : Ways
  pub dropped : List Dropped
  pub number : ℕ

abbrev pub walk : Ways → List Dropped → ℕ → Walk
walk ways dropped number = record { ways = ways; dropped = dropped; number = number }

module _ {X : Type 0} (of : Ways → X → X) (next : Ways → X → Ways) (gone : Ways → ℕ → X → List Dropped) where
  abbrev pub left : Walk → X → X
  left w x = of w.ways x

  abbrev pub on : Walk → X → Walk
  on w x = record { ways = next w.ways x; dropped = w.dropped ++ gone w.ways w.number x; number = suc w.number }

  -- before this index the elements are walked
  abbrev pub Walked : Ways → List Dropped → List X → Ways → List Dropped → ℕ → List X → Type 0
  Walked first before xs ways dropped i ys = stepped.Stepped left on (walk first before 0) xs (walk ways dropped i) i ys

  pub starts : (first ways : Ways) (before dropped : List Dropped) (xs : List X) → ways ≡ first → dropped ≡ before → Walked first before xs ways dropped 0 xs
  starts first ways before dropped xs w d = rw (w, d) (stepped.starts left on (walk first before 0) xs)

  pub turns : (first ways after : Ways) (before dropped new : List Dropped) (xs ys : List X) (i : ℕ) (x y : X) → i < length xs → Walked first before xs ways dropped i ys
      → y ≡ of ways (get_or ys i x) → after ≡ next ways (get_or ys i x) → new ≡ dropped ++ gone ways i (get_or ys i x) → Walked first before xs after new (i + 1) (set ys i y)
  turns first ways after before dropped new xs ys i x y lt so is w d =
      let number : i + 1 ≡ suc i = omega arith in
      stepped.turns left on (walk first before 0) xs (walk ways dropped i) (walk after new (i + 1)) i ys x y lt so is
      (ap (λ v. walk v new (i + 1)) w ∙ ap (λ v. walk (next ways (get_or ys i x)) v (i + 1)) d ∙ ap (walk (next ways (get_or ys i x)) (dropped ++ gone ways i (get_or ys i x))) number)

  all_left : (w : Walk) (xs : List X) → stepped.all left on w xs ≡ stepped.all of next w.ways xs
  all_left w [] = refl
  all_left w (x ∷ xs) = ap (λ ys. of w.ways x ∷ ys) (all_left (on w x) xs)

  ways_left : (w : Walk) (xs : List X) → (stepped.after left on w xs).ways ≡ stepped.after of next w.ways xs
  ways_left w [] = refl
  ways_left w (x ∷ xs) = ways_left (on w x) xs

  module _ (total : Ways → ℕ → List X → List Dropped) (none : (ways : Ways) (i : ℕ) → total ways i [] ≡ []) (some : (ways : Ways) (i : ℕ) (x : X) (xs : List X) → total ways i (x ∷ xs) ≡ gone ways i x ++ total (next ways x) (suc i) xs) where
    dropped_left : (w : Walk) (xs : List X) → (stepped.after left on w xs).dropped ≡ w.dropped ++ total w.ways w.number xs
    dropped_left w [] = sym (ap (λ ds. w.dropped ++ ds) (none w.ways w.number) ∙ append-nil w.dropped)
    dropped_left w (x ∷ xs) =
        dropped_left (on w x) xs ∙ append_assoc w.dropped (gone w.ways w.number x) (total (next w.ways x) (suc w.number) xs)
        ∙ ap (λ ds. w.dropped ++ ds) (sym (some w.ways w.number x xs))

    -- at the end all are
    pub ends : (first ways : Ways) (before dropped : List Dropped) (xs ys : List X) (i : ℕ) → length xs ≤ i → Walked first before xs ways dropped i ys
        → (ys ≡ stepped.all of next first xs) × (ways ≡ stepped.after of next first xs) × (dropped ≡ before ++ total first 0 xs)
    ends first ways before dropped xs ys i le so =
        let k = stepped.ends left on (walk first before 0) xs (walk ways dropped i) i ys le so in (
          k.0 ∙ all_left (walk first before 0) xs,
          ap (λ (w : Walk). w.ways) k.1 ∙ ways_left (walk first before 0) xs,
          ap (λ (w : Walk). w.dropped) k.1 ∙ dropped_left (walk first before 0) xs,
        )
