-- How deep a value nests, one equation a variant.
use Rattle.std.proofs.Common.{◌≡◌, ℕ, suc, Bool, List, map, refl, sym, ap, ◌∙◌}
use Rattle.json_value.specs.declared.json.Json.{Json, fold-Json, fold-roll-Json}
use Rattle.json_value.specs.declared.json.Json.TheOpen.{Json-F}
use Rattle.json_value.specs.declared.json.Json.TheVariants as j
use Rattle.json_value.specs.Depth.{depth, depth_step, greatest}
use Rattle.json_value.proofs.Texts.{fused}

pub depth-null : depth j.Null ≡ 0
depth-null = unfold depth in ap (fold-Json ℕ depth_step) (sym j.rolls-Null) ∙ fold-roll-Json ℕ depth_step Json-F.Null

pub depth-bool : (b : Bool) → depth (j.Bool b) ≡ 0
depth-bool b = unfold depth in ap (fold-Json ℕ depth_step) (sym (j.rolls-Bool b)) ∙ fold-roll-Json ℕ depth_step (Json-F.Bool b)

pub depth-number : (t : List ℕ) → depth (j.Number t) ≡ 0
depth-number t = unfold depth in ap (fold-Json ℕ depth_step) (sym (j.rolls-Number t)) ∙ fold-roll-Json ℕ depth_step (Json-F.Number t)

pub depth-text : (t : List ℕ) → depth (j.Text t) ≡ 0
depth-text t = unfold depth in ap (fold-Json ℕ depth_step) (sym (j.rolls-Text t)) ∙ fold-roll-Json ℕ depth_step (Json-F.Text t)

pub depth-array : (vs : List Json) → depth (j.Array vs) ≡ suc (greatest (map depth vs))
depth-array vs = unfold depth in ap (fold-Json ℕ depth_step) (sym (j.rolls-Array vs)) ∙ fold-roll-Json ℕ depth_step (Json-F.Array vs)

pub depth-object : (ms : List (List ℕ × Json)) → depth (j.Object ms) ≡ suc (greatest (map (λ m. depth m.1) ms))
depth-object ms = unfold depth in ap (fold-Json ℕ depth_step) (sym (j.rolls-Object ms)) ∙ fold-roll-Json ℕ depth_step (Json-F.Object ms)
    ∙ ap (λ ns. suc (greatest ns)) (fused _ _ (λ m. depth m.1) (λ m. refl) ms)

pub ruleset depths = (depth-null, depth-bool, depth-number, depth-text, depth-array, depth-object)
