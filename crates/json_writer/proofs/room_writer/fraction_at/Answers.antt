use Rattle.std.proofs.Common.{◌≡◌, ℕ, List, [], ◌∷◌, ◌++◌, ◌+◌, ◌/◌, arith, ap, sym, ◌∙◌, take}
use Rattle.std.proofs.lemmas.List.{append_assoc}
use Rattle.decimal_text.specs.Units.{fixed, trimmed}
use Rattle.json_writer.proofs.Fixed.{fraction_of_nine}
use Rattle.json_writer.proofs.room_writer.fraction_at.Goals as goal

-- two bytes and a part, one behind the other
made : (a b : ℕ) (part old : List ℕ) {t1 t2 t3 : List ℕ} → t1 ≡ old ++ a ∷ [] → t2 ≡ t1 ++ b ∷ [] → t3 ≡ t2 ++ part → t3 ≡ old ++ (a ∷ b ∷ part)
made a b part old e1 e2 e3 = e3 ∙ ap (λ t. t ++ part) (e2 ∙ ap (λ t. t ++ b ∷ []) e1) ∙ simp append_assoc

pub returns-clause-written : goal.returns-clause-written
returns-clause-written c =
    let n = c.args.rest in
    let old = take c.args.at c.args.room.now in
    made 46 (48 + n / 10000 / 10000) (trimmed (fixed 8 n)) old c.byte_at-first.ensures.written c.byte_at-others.ensures.written c.eight_at.ensures.written
    ∙ ap (λ t. old ++ t) (sym (fraction_of_nine n (omega arith) c.requires.rest))
