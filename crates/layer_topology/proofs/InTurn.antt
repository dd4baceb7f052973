-- What stays of arcs where numbers are given for those that are used, one list after another.
use Rattle.std.proofs.Common.{◌≡◌, ℕ, zero, suc, ◌+◌, ◌<◌, ◌≤◌, Bool, true, false, List, [], ◌∷◌, ◌++◌, drop, length, get_or, cond, refl, sym, ap, ◌∙◌, arith, append_assoc, append-nil}
use Rattle.build_meaning.proofs.Spread.{all_retained}
use Rattle.build_meaning.specs.InTurn.{all_indexes, spread}
use Rattle.build_meaning.specs.Simplified.{retained_arcs}
use Rattle.geometry.specs.Joins.{first_of, or_empty}
use Rattle.geometry.specs.Lists.{tail}
use Rattle.geometry.specs.Points.{Point}
use Rattle.layer_topology.specs.Used.{cells_left, numbers_left}
use Rattle.owned_values.proofs.Lists.{drop_here}
use Rattle.topo_model.proofs.Renumbered.{answers_at}
use Rattle.topo_model.specs.Uses.{answers}

-- with what stays of the others it is what stays of all
abbrev pub Fills : List Bool → List (List Point) → List (List ℕ) → ℕ → List (List ℕ) → List (List Point) → Type 0
Fills used arcs numbers i rest left = (passes : ℕ → Bool) → used ≡ answers passes 0 (length arcs)
    → left ++ retained_arcs (spread passes i rest (drop i arcs)) (drop i arcs) ≡ retained_arcs (spread passes 0 numbers arcs) arcs

pub fills_first : (used : List Bool) (arcs : List (List Point)) (numbers rest : List (List ℕ)) (left : List (List Point)) → left ≡ [] → rest ≡ numbers → Fills used arcs numbers 0 rest left
fills_first used arcs numbers rest left none same passes are =
    ap (λ xs. xs ++ retained_arcs (spread passes 0 rest arcs) arcs) none ∙ ap (λ ns. retained_arcs (spread passes 0 ns arcs) arcs) same

module _ (passes : ℕ → Bool) (i : ℕ) (arc : List Point) (arcs : List (List Point)) (kept : List (List ℕ)) where
  here : (b : Bool) → passes i ≡ b → retained_arcs (spread passes i kept (arc ∷ arcs)) (arc ∷ arcs) ≡ cells_left b kept arc ∷ retained_arcs (spread passes (suc i) (numbers_left b kept) arcs) arcs
  here true e = ap (λ b. retained_arcs (cond b (or_empty (first_of kept) ∷ spread passes (suc i) (tail kept) arcs) (all_indexes arc ∷ spread passes (suc i) kept arcs)) (arc ∷ arcs)) e
  here false e =
      ap (λ b. retained_arcs (cond b (or_empty (first_of kept) ∷ spread passes (suc i) (tail kept) arcs) (all_indexes arc ∷ spread passes (suc i) kept arcs)) (arc ∷ arcs)) e
      ∙ ap (λ ps. ps ∷ retained_arcs (spread passes (suc i) kept arcs) arcs) (all_retained arc)

pub fills_more : (used : List Bool) (arcs : List (List Point)) (numbers rest more : List (List ℕ)) (i : ℕ) (d : Bool) (left new : List (List Point)) (arc cells : List Point) → i < length arcs
    → arc ≡ get_or arcs i arc → cells ≡ cells_left (get_or used i d) rest arc → more ≡ numbers_left (get_or used i d) rest → new ≡ left ++ cells ∷ []
    → Fills used arcs numbers i rest left → Fills used arcs numbers (i + 1) more new
fills_more used arcs numbers rest more i d left new arc cells lt at is are put so passes flags =
    let flag : get_or used i d ≡ passes i = sym (answers_at passes used (length arcs) i d (get_or used i d) flags lt refl) in
    let next : suc i ≡ i + 1 = omega arith in
    let after : List (List Point) = drop (i + 1) arcs in
    let all = λ (b : Bool). cells_left b rest arc ∷ retained_arcs (spread passes (suc i) (numbers_left b rest) after) after in
    ap (λ xs. xs ++ retained_arcs (spread passes (i + 1) more after) after) put
    ∙ append_assoc left (cells ∷ []) (retained_arcs (spread passes (i + 1) more after) after)
    ∙ ap (λ ps. left ++ ps ∷ retained_arcs (spread passes (i + 1) more after) after) is
    ∙ ap (λ ns. left ++ cells_left (get_or used i d) rest arc ∷ retained_arcs (spread passes (i + 1) ns after) after) are
    ∙ ap (λ n. left ++ cells_left (get_or used i d) rest arc ∷ retained_arcs (spread passes n (numbers_left (get_or used i d) rest) after) after) (sym next)
    ∙ ap (λ b. left ++ all b) flag
    ∙ ap (λ xs. left ++ xs) (sym (here passes i arc after rest (passes i) refl))
    ∙ ap (λ xs. left ++ retained_arcs (spread passes i rest xs) xs) (sym (drop_here arcs i arc lt at))
    ∙ so passes flags

drop_past : {X : Type 0} (i : ℕ) (xs : List X) → length xs ≤ i → drop i xs ≡ []
drop_past zero [] h = refl
drop_past zero (x ∷ xs) h = absurd (omega (arith, h))
drop_past (suc i) [] h = refl
drop_past (suc i) (x ∷ xs) h = drop_past i xs (omega (arith, h))

pub fills_all : (used : List Bool) (arcs : List (List Point)) (numbers rest : List (List ℕ)) (i : ℕ) (left : List (List Point)) → length arcs ≤ i → Fills used arcs numbers i rest left
    → (passes : ℕ → Bool) → used ≡ answers passes 0 (length arcs) → left ≡ retained_arcs (spread passes 0 numbers arcs) arcs
fills_all used arcs numbers rest i left le so passes are =
    sym (append-nil left) ∙ ap (λ xs. left ++ retained_arcs (spread passes i rest xs) xs) (sym (drop_past i arcs le)) ∙ so passes are
