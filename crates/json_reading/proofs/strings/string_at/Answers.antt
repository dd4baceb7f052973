use Rattle.std.proofs.Common.{◌≡◌, ℕ, Vec, Global, ap, subst, ◌∙◌}
use Rattle.std.specs.Prelude.{IsUtf8}
use Rattle.std.proofs.lemmas.Str.{IsUtf8-had}
use Rattle.std.proofs.lemmas.Bool.{false≢true}
use Rattle.json_value.specs.Reading.{string_at}
use Rattle.json_reading.proofs.Steps.{none_fails}
use Rattle.json_reading.proofs.StringLoop.{is_text, no_text}
use Rattle.json_reading.proofs.strings.string_at.Goals as goal

pub returns-in-Ok : goal.returns-in-Ok
returns-in-Ok c = unfold string_at in
    let same : c.of.result ≡ c.in_ok-text.text.items = c.of.ensures ∙ ap (λ (v : Vec ℕ Global). v.items) c.in-Ok.ensures.ok in
    let utf8 : IsUtf8 c.in_ok-text.text.items = subst (λ (v : Vec ℕ Global). IsUtf8 v.items) c.in-Ok.ensures.ok (IsUtf8-had _ c.in-Ok.text.ok) in
    rw (same, c.in_ok-text.ensures) (is_text c.in_ok-text.text.items c.in_ok-text.rest.now utf8)

pub returns : goal.returns
unfolding string_at
returns c = none_fails _ _ (rw c.in_ok-text.ensures (no_text c.in_ok-text.text.items c.in_ok-text.rest.now (λ u. false≢true (c.in-Err.ensures.succeeds u))))
