use Rattle.std.proofs.Common.{◌≡◌, Bool, true, false, not, cond, refl, ap, ◌∙◌, bit_xor}
use Rattle.std.specs.Simd.Lanes.{mask_l}
use mir.Val.{bool_byte}
use Rattle.topojson_decoder.proofs.LeapTurns.{turned_all}
use Rattle.topojson_decoder.proofs.leaping.outside_strings.Goals as goal

one_or_none : (t : Bool) → bool_byte t ≡ cond t 1 0
one_or_none true = refl
one_or_none false = refl

pub returns : goal.returns
returns c = λ ms long is. turned_all ms (not c.args.quoted) long _ _ _ _ _ _ _ (ap (λ z. bit_xor z c.from.result) is ∙ ap (bit_xor (mask_l ms)) (c.from.ensures ∙ one_or_none (not c.args.quoted))) refl refl refl refl refl refl
