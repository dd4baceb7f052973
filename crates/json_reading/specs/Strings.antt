-- Strings that stand in the text as they are (RFC 8259, section 7).
use Rattle.std.specs.Prelude.{◌≡◌, ℕ, nat_le, ◌&&◌, Bool, true, List, [], ◌∷◌, ◌++◌}
use Rattle.json_value.specs.Grammar.{is_plain}

-- an ASCII byte that stands for itself
abbrev pub is_simple : ℕ → Bool
is_simple b = nat_le b 127 && is_plain b

-- only such bytes
abbrev pub simple : List ℕ → Bool
simple [] = true
simple (b ∷ bs) = is_simple b && simple bs

-- after only such bytes stands a quotation mark (34), and then the rest
abbrev pub EndsPlain : List ℕ → List ℕ → List ℕ → Type 0
EndsPlain inside text rest = (inside ≡ text ++ 34 ∷ rest) × (simple text ≡ true)

-- these follow only such bytes
abbrev pub PassesSimple : List ℕ → List ℕ → Type 0
PassesSimple bytes rest = (text : List ℕ) × (bytes ≡ text ++ rest) × (simple text ≡ true)
