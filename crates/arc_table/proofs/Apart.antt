-- The pieces of a line that is alone are apart from the arcs and from all pieces to come.
use Rattle.std.proofs.Common.{◌≡◌, ℕ, zero, suc, ◌+◌, Bool, true, false, List, [], ◌∷◌, ◌++◌, take, drop, length, reverse, refl, ap, sym, ◌∙◌, subst, add-one, ◌⊎◌, inl, inr, Some}
use Rattle.std.proofs.lemmas.Grind.{flat_map-append}
use Rattle.std.proofs.lemmas.List.{reverse-reverse}
use Rattle.std.specs.Prelude.{slice_get}
use Rattle.arc_table.specs.Arcs.{alike}
use Rattle.arc_table.specs.Growth.{has_alike, grow_all}
use Rattle.arc_table.specs.Lookup.{AreApart}
use Rattle.cutter.specs.Alone.{IsUnlike, AreAlone}
use Rattle.cutter.specs.Places.{In}
use Rattle.cutter.specs.Slices.{SplitLine, all_pieces, piece_lists}
use Rattle.geometry.specs.Points.{Point}
use Rattle.arc_table.proofs.Alike.{alike_is}
use Rattle.arc_table.proofs.Growth.{every}
use Rattle.arc_table.proofs.Identifying.{all_from}
use Rattle.owned_values.proofs.Members.{in_left, in_right, in_from_any}

apart_by : (xs ys : List (List Point)) → ((x y : List Point) → In x xs → In y ys → alike x y ≡ true → ⊥) → AreApart xs ys
apart_by xs ys h = λ y k. on y k (has_alike xs y) refl
  where
    on : (y : List Point) → In y ys → (b : Bool) → has_alike xs y ≡ b → has_alike xs y ≡ false
    on y k true e = let p = in_from_any (λ x. alike x y) xs e in absurd (h p.0 y p.1 k p.2)
    on y k false e = e

-- the line whose pieces stand at a place, between those before and those after it
record Stands (ss : List SplitLine) (n : ℕ) (xs : List (List Point)) : Type 0 where
  pub line : SplitLine
  pub pieces : line.pieces ≡ xs
  pub lines : ss ≡ take n ss ++ (line ∷ drop (suc n) ss)
  pub count : length (take n ss) ≡ n
  pub before : every (take n (piece_lists ss)) ≡ all_pieces (take n ss)
  pub later : all_pieces (drop n ss) ≡ xs ++ all_pieces (drop (suc n) ss)

stands : (ss : List SplitLine) (n : ℕ) (xs : List (List Point)) → slice_get (piece_lists ss) n ≡ Some xs → Stands ss n xs
stands [] n xs e = cc
stands (s ∷ ss) zero xs e =
    let same : s.pieces ≡ xs = cc in
    record { line = s; pieces = same; lines = refl; count = refl; before = refl; later = ap (λ l. l ++ all_pieces ss) same }
stands (s ∷ ss) (suc n) xs e =
    let r = stands ss n xs e in
    record { line = r.line; pieces = r.pieces; lines = ap (λ l. s ∷ l) r.lines; count = ap suc r.count; before = ap (λ l. s.pieces ++ l) r.before; later = r.later }

module _ (ss : List SplitLine) (n : ℕ) (xs : List (List Point)) (got : slice_get (piece_lists ss) n ≡ Some xs) where
  -- what is apart from the pieces to come is apart from those of this line, and from those after it
  pub line_apart : (arcs : List (List Point)) → AreApart arcs (all_pieces (drop n ss)) → AreApart arcs xs × AreApart arcs (all_pieces (drop (n + 1) ss))
  line_apart arcs h =
      let later = (stands ss n xs got).later in (
        λ x k. h x (subst (In x) (sym later) (in_left x xs (all_pieces (drop (suc n) ss)) k)),
        λ x k. h x (subst (In x) (sym later) (in_right x xs (all_pieces (drop (suc n) ss)) (subst (λ m. In x (all_pieces (drop m ss))) (add-one n) k))),
      )

  module _ (flags : List Bool) (alone : AreAlone flags ss) (set : slice_get flags n ≡ Some true) where
    unlike : (x : List Point) → In x xs → IsUnlike x (all_pieces (take n ss ++ drop (suc n) ss))
    unlike x k =
        let s = stands ss n xs got in
        alone (take n ss) (drop (suc n) ss) s.line s.lines (ap (slice_get flags) s.count ∙ set) x (subst (In x) (sym s.pieces) k)

    others : all_pieces (take n ss ++ drop (suc n) ss) ≡ all_pieces (take n ss) ++ all_pieces (drop (suc n) ss)
    others = flat_map-append (λ s. s.pieces) (take n ss) (drop (suc n) ss)

    -- the pieces of a line that is alone are apart from the arcs ..
    pub apart_from_arcs : (arcs : List (List Point)) → arcs ≡ grow_all [] (every (take n (piece_lists ss))) → AreApart arcs xs
    apart_from_arcs arcs are = apart_by arcs xs (λ y x k m a. on x y (unlike x m y (subst (In y) (sym others) (in_left y (all_pieces (take n ss)) (all_pieces (drop (suc n) ss)) (there y k)))) (alike_is y x a))
      where
        there : (y : List Point) → In y arcs → In y (all_pieces (take n ss))
        there y k = elim (all_from [] (every (take n (piece_lists ss))) y (subst (In y) are k)) [ inl h ↦ elim h [ ] | inr h ↦ subst (In y) (stands ss n xs got).before h ]

        on : (x y : List Point) → (x ≡ y → ⊥) × (x ≡ reverse y → ⊥) → (y ≡ x) ⊎ (y ≡ reverse x) → ⊥
        on x y h (inl e) = h.0 (sym e)
        on x y h (inr e) = h.1 (sym (ap reverse e ∙ reverse-reverse x))

    -- .. and from the pieces of the lines after it
    pub apart_from_later : AreApart xs (all_pieces (drop (n + 1) ss))
    apart_from_later = apart_by xs (all_pieces (drop (n + 1) ss)) (λ x y m k a. on x y (unlike x m y (there y k)) (alike_is x y a))
      where
        there : (y : List Point) → In y (all_pieces (drop (n + 1) ss)) → In y (all_pieces (take n ss ++ drop (suc n) ss))
        there y k = subst (In y) (sym others) (in_right y (all_pieces (take n ss)) (all_pieces (drop (suc n) ss)) (subst (λ m. In y (all_pieces (drop m ss))) (add-one n) k))

        on : (x y : List Point) → (x ≡ y → ⊥) × (x ≡ reverse y → ⊥) → (x ≡ y) ⊎ (x ≡ reverse y) → ⊥
        on x y h (inl e) = h.0 e
        on x y h (inr e) = h.1 e
