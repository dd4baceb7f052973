use Rattle.std.proofs.Common.{◌∙◌, sym}
use Rattle.decimal_text.proofs.SpellsParts.{number-from_parts, no_number-from_parts}
use Rattle.decimal_text.proofs.num_text.NumText.read.Goals as goal

pub of-requires : goal.of-requires
of-requires c =
    number-from_parts c.as_bytes.result.now _ _ (c.as_bytes.ensures.value ∙ sym c.as_bytes-in-Some.ensures.value) c.in-Some.ensures.some

pub returns-in-None-clause-none : goal.returns-in-None-clause-none
returns-in-None-clause-none c = no_number-from_parts c.as_bytes.result.now c.args.text.now c.as_bytes.ensures.value c.in-None.ensures.none
