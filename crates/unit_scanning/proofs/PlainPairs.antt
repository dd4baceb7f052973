-- Pairs of numbers by the bytes after each.
use Rattle.std.proofs.Common.{◌≡◌, ℕ, Bool, true, false, cond, List, [], ◌∷◌, refl, ap, ◌∙◌}
use Rattle.std.specs.Prelude.{ℤ, if◌then◌else◌}
use Rattle.json_value.specs.Grammar.{is_space}
use Rattle.json_value.specs.Reading.{skip}
use Rattle.unit_scanning.specs.Numbers.{ends}
use Rattle.unit_scanning.specs.Pairs.{ArePlainPair}

no_space : (b : ℕ) (bs : List ℕ) → is_space b ≡ false → skip (b ∷ bs) ≡ b ∷ bs
unfolding skip
no_space b bs h = rw h refl

ends_by : (m b : ℕ) (bs rest : List ℕ) → ((ms : List ℕ) → ends (m ∷ ms) ≡ true) → (space : Bool) → is_space b ≡ space → cond space (skip bs) (b ∷ bs) ≡ m ∷ rest → ends (b ∷ bs) ≡ true
ends_by m b bs rest end true is h = rw is refl
ends_by m b bs rest end false is h = let same : b ≡ m = cc in ap (λ z. ends (z ∷ bs)) same ∙ end bs

ends_before : (m : ℕ) (bs rest : List ℕ) → ((ms : List ℕ) → ends (m ∷ ms) ≡ true) → skip bs ≡ m ∷ rest → ends bs ≡ true
unfolding skip
ends_before m [] rest end h = refl
ends_before m (b ∷ bs) rest end h = ends_by m b bs rest end (is_space b) refl h

ends_at : (more : Bool) (bs rest : List ℕ) → skip bs ≡ (if more then 44 else 93) ∷ rest → ends bs ≡ true
ends_at true bs rest h = ends_before 44 bs rest (λ ms. refl) h
ends_at false bs rest h = ends_before 93 bs rest (λ ms. refl) h

pub pair_is : (number : List ℕ → ℤ → List ℕ → Type 0) (bytes after further following rest : List ℕ) (x y : ℤ) (more : Bool)
    → (ends after ≡ true → number (skip bytes) x after) → after ≡ 44 ∷ further → (ends following ≡ true → number (skip further) y following) → skip following ≡ (if more then 44 else 93) ∷ rest
    → ArePlainPair number bytes x y more rest
pair_is number bytes after further following rest x y more first comma second mark = record {
  after = after;
  first = first (ap ends comma);
  further = further;
  comma = ap skip comma ∙ no_space 44 further refl;
  following = following;
  second = second (ends_at more following rest mark);
  mark = mark;
}
