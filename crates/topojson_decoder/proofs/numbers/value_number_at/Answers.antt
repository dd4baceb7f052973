use Rattle.std.proofs.Common.{◌≡◌, Ok, arith, sym, ap, ◌∙◌}
use Rattle.std.specs.Prelude.{unsigned_abs}
use Rattle.std.proofs.lemmas.Int.{ints}
use mir.Syntax.{w64, w128}
use mir.Val.{to_z, of_z}
use Rattle.topojson_decoder.specs.Numbers.{in_range}
use Rattle.topojson_decoder.proofs.NumberParts.{is_number}
use Rattle.topojson_decoder.proofs.numbers.value_number_at.Goals as goal

pub returns-in-Err-clause-answers : goal.returns-in-Err-clause-answers
returns-in-Err-clause-answers c = λ counts.
    let bound : unsigned_abs (to_z w128 (of_z w128 c.from.result)) ≡ c.args.limit = omega (arith, ints, c.from.ensures, c.requires.limit) in
    record {
      value = c.in_ok-value.value;
      prefix_is = c.in_ok-value.ensures;
      means = is_number c.args.places c.args.limit _ counts _ c.in-Some.ensures ∙ ap (λ r. Ok (in_range r, counts)) (sym (rw bound at c.scaled.ensures.value) ∙ c.in-Err.is);
    }

pub returns-clause-answers : goal.returns-clause-answers
returns-clause-answers c = λ counts.
    let bound : unsigned_abs (to_z w128 (of_z w128 c.from.result)) ≡ c.args.limit = omega (arith, ints, c.from.ensures, c.requires.limit) in
    let x : to_z w64 (of_z w64 (to_z w128 (of_z w128 c.in-Ok.scaled.value))) ≡ c.in-Ok.scaled.value = omega (arith, ints, c.in-Ok.ensures.within, c.requires.limit) in
    rw x record {
      value = c.in_ok-value.value;
      prefix_is = c.in_ok-value.ensures;
      means = is_number c.args.places c.args.limit _ counts _ c.in-Some.ensures ∙ ap (λ r. Ok (in_range r, counts)) (sym (rw bound at c.scaled.ensures.value) ∙ c.in-Ok.is);
    }
