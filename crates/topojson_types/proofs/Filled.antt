-- Walks that are filled up by a position.
use Rattle.std.proofs.Common.{◌≡◌, ℕ, suc, ◌-◌, ◌∷◌, [], ◌++◌, List, length, Option, None, Some, refl, ap, arith}
use Rattle.geometry.specs.Points.{Point}
use Rattle.topojson_types.specs.Decoding.{repeated}
use Rattle.topojson_types.specs.Filling.{filling}
use Rattle.topojson_types.proofs.Opening.{First}

-- what is left of a walk that is filled up
abbrev pub left : List Point → Option Point → ℕ → List Point
left ps filler missing = ps ++ filling filler (missing - length ps)

one_more : (ps rest : List Point) (p : Point) (n m less : ℕ) → ps ≡ [] → rest ≡ [] → n ≡ suc less → m ≡ less → ps ++ repeated n p ≡ p ∷ (rest ++ repeated m p)
one_more ps rest p n m less e f g h = rw (e, f, g, h) refl

pub filled_up : (ps rest : List Point) (filler : Option Point) (missing less : ℕ) → First ps None rest → missing ≡ suc less → First (left ps filler missing) filler (left rest filler less)
filled_up ps rest None missing less h e = grind arith
filled_up ps rest (Some p) missing less h e =
    one_more ps rest p (missing - length ps) (less - length rest) less h.0 h.1 (omega (arith, e, ap length h.0)) (omega (arith, ap length h.1))
