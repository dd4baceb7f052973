-- Two tests that agree on the positions of a line give the same start and the same pieces of it.
use Rattle.cutter.proofs.Names.{filter, all_drop, all_of, all_take, each_of, in_append, is_least, Point, last, Stroke, joined, pieces_from, split_at, first_at, start_in, turned, from_start, In, SplitLine, split_by, EndsPass}
use Rattle.std.proofs.Common.{◌≡◌, ℕ, ◌+◌, Bool, cond, List, [], ◌∷◌, take, drop, refl, ap, sym, ◌∙◌, subst, inl, inr, arith}
use Rattle.cutter.proofs.Starts.{line}

in_drop : (k : ℕ) (x : Point) (ps : List Point) → In x (drop k ps) → In x ps
in_drop k x ps h = each_of (λ y. In y ps) (drop k ps) x (all_drop (λ y. In y ps) k ps (all_of (λ y. In y ps) ps (λ y m. m))) h

in_take : (k : ℕ) (x : Point) (ps : List Point) → In x (take k ps) → In x ps
in_take k x ps h = each_of (λ y. In y ps) (take k ps) x (all_take (λ y. In y ps) k ps (all_of (λ y. In y ps) ps (λ y m. m))) h

in_turned : (k : ℕ) (x : Point) (ps : List Point) → In x (turned k ps) → In x ps
in_turned k x ps h = elim (in_append x (drop k ps) (drop 1 (take (k + 1) ps)) h) [ inl i ↦ in_drop k x ps i | inr i ↦ in_take (k + 1) x ps (in_drop 1 x (take (k + 1) ps) i) ]

-- a line from its start has the positions of the line
pub in_start : (f : Point → Bool) (c : Bool) (ps : List Point) (x : Point) → In x (from_start f (line c ps)) → In x ps
in_start f c ps x h = grind (arith, in_turned)

pub last_in : (p : Point) (ps : List Point) → In (last p ps) (p ∷ ps)
last_in p [] = inl refl
last_in p (q ∷ ps) = inr (last_in q ps)

-- a split line of its parts
abbrev pub split : Bool → List Point → List (List Point) → SplitLine
split c ps xs = record { stroke = line c ps; pieces = xs }

module _ (f g : Point → Bool) where
  filter_agree : (ps : List Point) → ((x : Point) → In x ps → f x ≡ g x) → filter f ps ≡ filter g ps
  filter_agree [] h = refl
  filter_agree (p ∷ ps) h = ap (λ b. cond b (p ∷ filter f ps) (filter f ps)) (h p (inl refl)) ∙ ap (λ l. cond (g p) (p ∷ l) l) (filter_agree ps (λ x k. h x (inr k)))

  pieces_agree : (p : Point) (ps : List Point) → ((x : Point) → In x ps → f x ≡ g x) → pieces_from f p ps ≡ pieces_from g p ps
  pieces_agree p [] h = refl
  pieces_agree p (q ∷ ps) h = ap (λ b. joined b p q (pieces_from f q ps)) (h q (inl refl)) ∙ ap (λ l. joined (g q) p q l) (pieces_agree q ps (λ x k. h x (inr k)))

  split_agree : (ps : List Point) → ((x : Point) → In x ps → f x ≡ g x) → split_at f ps ≡ split_at g ps
  split_agree ps h = grind (arith, pieces_agree)

  -- a ring starts at one index by both tests
  pub start_agree : (ps : List Point) → ((x : Point) → In x ps → f x ≡ g x) → start_in f ps ≡ start_in g ps
  start_agree ps h = ap (λ fs. first_at (λ p. is_least p fs) ps) (filter_agree ps h)

  from_agree : (c : Bool) (ps : List Point) → ((x : Point) → In x ps → f x ≡ g x) → from_start f (line c ps) ≡ from_start g (line c ps)
  from_agree c ps h = grind (arith, start_agree)

  -- a line is split into one list of pieces by both tests
  pub by_agree : (s : Stroke) → ((x : Point) → In x s.positions → f x ≡ g x) → split_by f s ≡ split_by g s
  by_agree s h =
      let e = from_agree s.closed s.positions h in
      ap (λ l. split s.closed l (split_at f l)) e
      ∙ ap (λ l. split s.closed (from_start g s) l) (split_agree (from_start g s) (λ x k. h x (in_start g s.closed s.positions x k)))

  ends_agree_of : (ps : List Point) → ((x : Point) → In x ps → f x ≡ g x) → EndsPass g ps → EndsPass f ps
  ends_agree_of [] h k = tt
  ends_agree_of (p ∷ ps) h k = (h p (inl refl) ∙ k.0, h (last p ps) (last_in p ps) ∙ k.1)

  -- the ends pass both
  pub ends_agree : (s : Stroke) → ((x : Point) → In x s.positions → f x ≡ g x) → EndsPass g (from_start g s) → EndsPass f (from_start f s)
  ends_agree s h k = ends_agree_of (from_start f s) (λ x m. h x (in_start f s.closed s.positions x m)) (subst (λ l. EndsPass g l) (sym (from_agree s.closed s.positions h)) k)
