use Rattle.std.proofs.Common.{◌≡◌, ◌<◌, ◌≤◌, ℕ, vec_len, vec_capacity}
use Rattle.effective_area.specs.Links.{IsFirst, area_in}
use Rattle.effective_area.proofs.links.first_links.Given as goal

-- those so far, and room for the others
abbrev pub invariant-loop-i : goal.invariant-loop-i
invariant-loop-i l = record {
  many : vec_len l.links ≡ l.i;
  room : l.n ≤ vec_capacity l.links;
  first : IsFirst l.links.items l.i;
  areas : (v : ℕ) → v < l.i → area_in l.links.items v ≡ l.area;
}
