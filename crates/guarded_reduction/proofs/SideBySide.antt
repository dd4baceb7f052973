-- The neighbours of places, side by side.
use Rattle.std.proofs.Common.{◌≡◌, ℕ, ◌<◌, ◌≤◌, List, length, map, get_or, ap, sym, ◌∙◌, arith}
use Rattle.std.proofs.Math.ListN.{get_or-eq_default}
use Rattle.std.proofs.lemmas.List.{get_or-map, length-map}
use Rattle.guarded_reduction.specs.declared.places.neighbours.Neighbours.{Neighbours}

pub read_field : (f : Neighbours → ℕ) (ns : List Neighbours) (z d : ℕ) (n : Neighbours) → z < length ns → n ≡ get_or ns z n → f n ≡ get_or (map f ns) z d
read_field f ns z d n h e = ap f e ∙ sym (get_or-map f ns z n d h)

pub read_beyond : (f : Neighbours → ℕ) (ns : List Neighbours) (z d : ℕ) → length ns ≤ z → d ≡ get_or (map f ns) z d
read_beyond f ns z d h = sym (get_or-eq_default (map f ns) d (omega (arith, h, length-map ns f)))
