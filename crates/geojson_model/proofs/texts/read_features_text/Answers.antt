use Rattle.std.proofs.Common.{◌∙◌, ap, sym, refl, Ok, arith}
use Rattle.json_value.specs.Limits.{layer_depth}
use Rattle.json_cursor.proofs.WholeTexts as text
use Rattle.geojson_model.proofs.texts.read_features_text.Goals as goal

pub malformed-requires-in-Err-Malformed : goal.malformed-requires-in-Err-Malformed
malformed-requires-in-Err-Malformed g c = (omega arith, λ utf8. text.no_value layer_depth c.args.bytes.now _ c.text_of.ensures (rw (c.in-Err-Malformed.field-0-is, c.skip.ensures) at c.in-Err-Malformed.ensures))

pub malformed-requires-then-not-is_empty : goal.malformed-requires-then-not-is_empty
malformed-requires-then-not-is_empty g c = (
  omega arith,
  λ utf8.
      let found = rw c.skip.ensures at c.in-Ok.ensures in
      text.trailing layer_depth c.args.bytes.now _ c.text_of.ensures found.0 _ _ found.1 c.skip-following.ensures c.if-not-is_empty.ensures,
)

pub returns-in-Err : goal.returns-in-Err
returns-in-Err g c =
    let found = rw (c.skip.ensures, c.none-counts.ensures, c.in-Err.is) at c.in-Ok.ensures in
    (c.if-not-are_utf8.ensures.yes refl, found.0, text.whole layer_depth c.args.bytes.now _ c.text_of.ensures found.0 _ _ found.1 c.skip-following.ensures c.if-not-is_empty.ensures, found.2)

pub returns-in-Ok-read : goal.returns-in-Ok-read
returns-in-Ok-read g c =
    let found = rw (c.skip.ensures, c.none-counts.ensures, c.in-Ok-read.is) at c.in-Ok.ensures in (
      c.if-not-are_utf8.ensures.yes refl,
      found.0,
      text.whole layer_depth c.args.bytes.now _ c.text_of.ensures found.0 _ _ found.1 c.skip-following.ensures c.if-not-is_empty.ensures,
      found.2 ∙ ap (λ fs. Ok (fs, c.layer_at.new.counts)) (sym c.into_made.ensures),
    )
