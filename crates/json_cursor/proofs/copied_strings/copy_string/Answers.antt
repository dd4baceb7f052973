use Rattle.std.proofs.Common.{rules, refl, ap, ◌∙◌, ◌∷◌}
use Rattle.std.proofs.lemmas.List.Sums.{prefix_len-le-length}
use Rattle.json_value.specs.Text.{quoted}
use Rattle.json_value.specs.Reading.{after_word, name_at, string_at}
use Rattle.json_cursor.proofs.Openings.{first_byte}
use Rattle.json_reading.proofs.Steps.{none_fails, not_equal}
use Rattle.json_cursor.specs.Copying.{any, is_simple}
use Rattle.json_cursor.proofs.Quoted.{inside_copied, string_copied}
use Rattle.json_cursor.proofs.Failed.{copies_on, inside_fails}
use Rattle.json_cursor.proofs.copied_strings.copy_string.Goals as goal

pub split_at-requires : goal.split_at-requires
split_at-requires c = rw c.simple_len-length.ensures (prefix_len-le-length is_simple c.in-Some.inside.now)

pub returns-in_default-after_byte : goal.returns-in_default-after_byte
returns-in_default-after_byte c =
    copies_on (string_at any) quoted (name_at any) quoted c.in-Some.inside.now c.args.bytes.now c.args.text.now.items c.args.text.now.items _
    (λ rest k. inside_copied c.args.bytes.now c.in-Some.inside.now rest.now c.args.text.now.items _ (c.in-Some.ensures ∙ ap (λ z. z ∷ c.in-Some.inside.now) c.if-quote-ne34.false) k) (inside_fails c.args.bytes.now c.in-Some.inside.now (c.in-Some.ensures ∙ ap (λ z. z ∷ c.in-Some.inside.now) c.if-quote-ne34.false)) c.copy_characters.result c.copy_characters.ensures

pub returns : goal.returns
returns c =
    string_copied c.args.bytes.now c.in-Some.inside.now _ c.in-Some-after_byte.rest.now _ (c.in-Some.ensures ∙ ap (λ z. z ∷ c.in-Some.inside.now) c.if-quote-ne34.false) c.simple_len-length.ensures c.split_at.ensures.back (first_byte 34 _ _ c.in-Some-after_byte.ensures)
    (rw c.simple_len-length.ensures (prefix_len-le-length is_simple c.in-Some.inside.now)) _ c.args.text.now.items _ c.split_at-2.ensures.front c.in_ok-extend_from_slice.ensures.items

pub returns-in_default : goal.returns-in_default
unfolding name_at after_word
returns-in_default c = rw c.in_default.ensures (none_fails _ _ refl)

pub returns-then-quote-ne34 : goal.returns-then-quote-ne34
unfolding name_at after_word
returns-then-quote-ne34 c = rw (c.in-Some.ensures, not_equal _ 34 c.if-quote-ne34.true) (none_fails _ _ refl)

pub split_at-requires-2 : goal.split_at-requires-2
split_at-requires-2 c = let quote = first_byte 34 _ _ c.in-Some-after_byte.ensures in search rules
